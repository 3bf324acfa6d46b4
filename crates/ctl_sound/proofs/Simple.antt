-- Statements that hold no statements are well typed in their checked form.
use Rattle.std.proofs.Common.{◌≡◌, ◌<◌, refl, sym, ◌∙◌, subst, ℕ, Bool, true, false, if◌then◌else◌, List, [], ◌∷◌, map, slice_get, Option, Some, None}
use Rattle.ctl_tree.specs.declared.span.Span.{Span}
use Rattle.ctl_tree.specs.declared.fault.FaultCode.TheVariants as fault
use Rattle.ctl_program.specs.declared.types.Ty.{Ty}
use Rattle.ctl_program.specs.declared.types.Ty.TheVariants as ty
use Rattle.ctl_program.specs.declared.types.Root.{Root}
use Rattle.ctl_program.specs.declared.types.Root.TheVariants as root
use Rattle.ctl_program.specs.declared.expression.Expr.{Expr}
use Rattle.ctl_program.specs.declared.expression.Actual.{Actual}
use Rattle.ctl_program.specs.declared.expression.Name.{Name as Checked_name}
use Rattle.ctl_program.specs.declared.statement.Piece.{Piece}
use Rattle.ctl_program.specs.declared.statement.Stmt.{Stmt}
use Rattle.ctl_program.specs.declared.statement.Stmt.TheVariants as stmt
use Rattle.ctl_syntax.specs.declared.denoted.Denoted.{Denoted}
use Rattle.ctl_syntax.specs.declared.denoted.Denoted.TheVariants as denoted
use Rattle.ctl_syntax.specs.declared.denoted.LibraryName.{LibraryName}
use Rattle.ctl_syntax.specs.declared.denoted.LibraryName.TheVariants as library
use Rattle.ctl_syntax.specs.declared.denoted.OperationName.{OperationName}
use Rattle.ctl_syntax.specs.declared.denoted.OperationName.TheVariants.{Initialize, Adjust, Finalize, Allocate, Deallocate}
use Rattle.ctl_syntax.specs.declared.denoted.Use.{Use}
use Rattle.ctl_syntax.specs.declared.name.Identifier.{Identifier}
use Rattle.ctl_syntax.specs.declared.name.Mark.{Mark}
use Rattle.ctl_syntax.specs.declared.name.Suffix.{Suffix}
use Rattle.ctl_syntax.specs.declared.name.Suffix.TheVariants as suffix
use Rattle.ctl_typing.specs.declared.table.Tables.{Tables}
use Rattle.ctl_typing.specs.declared.table.Entry.{Entry}
use Rattle.ctl_typing.specs.declared.table.Entry.TheVariants as entry
use Rattle.ctl_typing.specs.declared.table.Profile.{Profile}
use Rattle.ctl_typing.specs.declared.table.RecordEntry.{RecordEntry}
use Rattle.ctl_typing.specs.declared.found.Asked.TheVariants as asking
use Rattle.ctl_typing.specs.declared.found.Found.{Found}
use Rattle.ctl_typing.specs.declared.found.Found.TheVariants as is
use Rattle.ctl_typing.specs.Judgement.{Judgement, known, but, wrong, noting, ◌>>=◌, both, following}
use Rattle.ctl_typing.specs.Lookup.{same, root_of, is_limited}
use Rattle.ctl_typing.specs.Typing as expr
use Rattle.ctl_typing.specs.Typing.{Sense}
use Rattle.ctl_statements.specs.Statements as spec
use Rattle.ctl_draft.specs.Operations as operations
use Rattle.ctl_statements.specs.declared.assignments.Source.{Source}
use Rattle.ctl_statements.specs.declared.assignments.Source.TheVariants as as_source
use Rattle.ctl_statements.specs.declared.assignments.Target.{Target}
use Rattle.ctl_well_typed.specs.Setting.{In, InOut, Formal, Frames, Setting, InView}
use Rattle.ctl_well_typed.specs.Types.{is_scalar, Descends, itself, from_parent, Covers, same_type, ancestor, HasRoot}
use Rattle.ctl_well_typed.specs.Expressions as rule
use Rattle.ctl_well_typed.specs.Expressions.{Typed, Denotes, Fits, FitEach, Views}
use Rattle.ctl_well_typed.specs.Statements as does
use Rattle.ctl_well_typed.specs.Statements.{Around, Puts, Done}
use Rattle.ctl_sound.specs.Known.{IfSome, Gives, All}
use Rattle.ctl_sound.specs.Sound.{formal_of, EntryFine, ProfileFine, OperationFine, Sound, FoundFine, ScalarUnlessNamed, Fine, Good}
use Rattle.ctl_sound.proofs.Known.{next, tested, both_give, following_give, followed_gives}
use Rattle.ctl_sound.proofs.Tests.{same_is, covers_scalar}
use Rattle.ctl_sound.proofs.Names.{RightSuffix, VariableFine, variable_of_good, name_good, handed_on_good, as_variable_good, settled_good, settled_found, actuals_good}
use Rattle.ctl_sound.proofs.Operators.{value_as_good}

descends_on : {k : Setting} {u t s : ℕ} → Descends k u t → Descends k t s → Descends k u s
descends_on d itself = d
descends_on d (from_parent f p e) = from_parent f p (descends_on d e)

covers_on : (k : Setting) (u t : ℕ) (s : Ty) → Descends k u t → Covers k (ty.Record t) s → Covers k (ty.Record u) s
covers_on k u t s d same_type = ancestor d
covers_on k u t s d (ancestor e) = ancestor (descends_on d e)

abbrev handed : ℕ → Formal
handed t = record { passing = InOut; ty = ty.Record t }

fits_ancestor : (k : Setting) (env : Frames) (u t : ℕ) (a : Actual) → Descends k u t → Fits k env (handed t) a → Fits k env (handed u) a
fits_ancestor k env u t a d (rule.by_reference c v x) = rule.by_reference (covers_on k u t _ d c) v x
fits_ancestor k env u t a d (rule.by_copy w h x) = absurd (cc)

fit_each_ancestor : (k : Setting) (env : Frames) (u t : ℕ) (rest : List Formal) (as' : List Actual) → Descends k u t → FitEach k env (handed t ∷ rest) as' → FitEach k env (handed u ∷ rest) as'
fit_each_ancestor k env u t rest (a ∷ more) d (rule.one_more_formal h i) = rule.one_more_formal (fits_ancestor k env u t a d h) i
fit_each_ancestor k env u t rest [] d x = elim x [ ]

module _ (k : Setting) (env : Frames) (tables : Tables) (sound : Sound k env tables) where
  abbrev Right : Sense → Type 0
  Right x = Good k env tables x

  abbrev RightSuffixes : List (Suffix Sense) → Type 0
  RightSuffixes xs = All (RightSuffix k env tables sound) xs

  abbrev Named : Option (Tables → Judgement Found) → Type 0
  Named o = IfSome (λ (f : Tables → Judgement Found). Gives (FoundFine k env) (f tables)) o

  -- Variables that are written to --------------------------------------------------------

  abbrev Viewed : Ty → Checked_name → Type 0
  Viewed t x = Views k env x t

  writing_good : (t : Ty) (x : Sense) → Right x → Gives (Viewed t) (spec.writing tables t x)
  writing_good t x g = next (VariableFine k env tables sound t) (Viewed t) (expr.variable_of tables t x) (λ p. known (expr.name_of p)) (variable_of_good k env tables sound t x g)
      (λ p h s. rule.view (subst (λ u. Covers k u h.own) (sym h.typed) h.covers) (name_good k env tables sound p.head p.steps h.own h.part))

  scalar_viewed : (t : Ty) (x : Checked_name) → is_scalar t ≡ true → Views k env x t → Denotes k env x t
  scalar_viewed t x h (rule.view c d) = subst (λ u. Denotes k env x u) (covers_scalar k t _ h c) d

  -- Assignments (5.2) ------------------------------------------------------------------------

  pub record TargetFine (t : Target) : Type 0 where
    pub denotes : Denotes k env t.name t.ty
    pub in_view : InView k env t.ty

  limited_kept_good : (place : Span) (t : Target) → TargetFine t → Gives TargetFine (spec.limited_kept tables place t)
  limited_kept_good place t h = by_test (is_limited tables t.ty)
    where
      by_test : (b : Bool) → Gives TargetFine (if b then but fault.Limited place t else known t)
      by_test true s = h
      by_test false s = h

  target_found_good : (place : Span) (f : Found) → FoundFine k env f → Gives TargetFine (spec.target_found tables place f)
  target_found_good place (is.Part p) h = next TargetFine TargetFine (expr.as_variable place p.mutability (record { name = expr.name_of p; ty = p.ty })) (spec.limited_kept tables place)
      (as_variable_good k env tables sound TargetFine place p.mutability (record { name = expr.name_of p; ty = p.ty }) (record { denotes = name_good k env tables sound p.head p.steps p.ty h.part; in_view = h.part.in_view })) (limited_kept_good place)
  target_found_good place _ h = λ s. tt

  target_good : (u : Use) (xs : List (Suffix Sense)) → RightSuffixes xs → Gives TargetFine (spec.target tables u xs)
  target_good u xs g = next (FoundFine k env) TargetFine (expr.found u xs tables >>= expr.settled tables u.span) (spec.target_found tables u.span) (settled_found k env tables sound u xs u.span g) (target_found_good u.span)

  -- a value that is no record, or a record of the target's type
  abbrev SourceFine : Ty → Source → Type 0
  SourceFine t (as_source.Value x) = (is_scalar t ≡ true) × Typed k env x t
  SourceFine t (as_source.Record u a) = (t ≡ ty.Record u) × Fits k env (record { passing = In; ty = ty.Record u }) a

  record_source_good : (place : Span) (t : ℕ) (f : Found) → FoundFine k env f → Gives (SourceFine (ty.Record t)) (spec.record_source place t f)
  record_source_good place t (is.Part p) h = tested (SourceFine (ty.Record t)) (same (ty.Record t) p.ty) (noting p.ty (as_source.Record t (expr.handed_on p.head p.steps p.ty))) (wrong fault.Type place)
      (λ e s. (refl, subst (λ v. Fits k env (record { passing = In; ty = ty.Record t }) (expr.handed_on p.head p.steps v)) (same_is (ty.Record t) p.ty e) (handed_on_good k env tables sound p.head p.steps t p.ty h.part (subst (λ u. Covers k (ty.Record t) u) (same_is (ty.Record t) p.ty e) same_type)))) (λ s. tt)
  record_source_good place t _ h = λ s. tt

  record_from_good : (place : Span) (t : ℕ) (name : Tables → Judgement Found) → Gives (FoundFine k env) (name tables) → Gives (SourceFine (ty.Record t)) (spec.record_from tables place t name)
  record_from_good place t name h = next (FoundFine k env) (SourceFine (ty.Record t)) (name tables >>= expr.settled tables place) (spec.record_source place t) (next (FoundFine k env) (FoundFine k env) (name tables) (expr.settled tables place) h (settled_good k env tables sound place)) (record_source_good place t)

  value_source_good : (t : Ty) (x : Sense) → is_scalar t ≡ true → InView k env t → Right x → Gives (SourceFine t) (spec.value_source tables x (asking.Exactly t))
  value_source_good t x c v g = next (Fine k env (asking.Exactly t) x.named) (SourceFine t) (x.judged tables (asking.Exactly t)) (λ r. known (as_source.Value r.value)) (g.judged (asking.Exactly t) v) (λ r h s. (c, subst (λ u. Typed k env r.value u) (sym (same_is t r.ty h.met)) h.typed))

  -- what no name denotes is no record
  unnamed_source : (t : ℕ) (x : Sense) → x.named ≡ None → InView k env (ty.Record t) → Right x → Gives (SourceFine (ty.Record t)) (spec.value_source tables x (asking.Exactly (ty.Record t)))
  unnamed_source t x e v g = next (Fine k env (asking.Exactly (ty.Record t)) x.named) (SourceFine (ty.Record t)) (x.judged tables (asking.Exactly (ty.Record t))) (λ r. known (as_source.Value r.value)) (g.judged (asking.Exactly (ty.Record t)) v)
      (λ r h s. absurd (no_record r.ty (subst (λ (o : Option (Tables → Judgement Found)). ScalarUnlessNamed o r.ty) e h.scalar) (same_is (ty.Record t) r.ty h.met)))
    where
      no_record : (u : Ty) → is_scalar u ≡ true → ty.Record t ≡ u → ⊥
      no_record u h q = let c : is_scalar (ty.Record t) ≡ true = subst (λ z. is_scalar z ≡ true) (sym q) h in absurd (cc)

  source_of_record_good : (place : Span) (t : ℕ) (x : Sense) (o : Option (Tables → Judgement Found)) → x.named ≡ o → InView k env (ty.Record t) → Right x → Named o → Gives (SourceFine (ty.Record t)) (spec.source_of_record tables place t x o)
  source_of_record_good place t x None e v g h = unnamed_source t x e v g
  source_of_record_good place t x (Some name) e v g h = record_from_good place t name h

  source_good : (t : Ty) (x : Sense) → InView k env t → Right x → Gives (SourceFine t) (spec.source tables (Some t) x)
  source_good (ty.Record t) x v g = source_of_record_good x.within t x x.named refl v g g.named
  source_good ty.Integer x v g = value_source_good ty.Integer x refl v g
  source_good ty.Count x v g = value_source_good ty.Count x refl v g
  source_good ty.Boolean x v g = value_source_good ty.Boolean x refl v g
  source_good ty.Address x v g = value_source_good ty.Address x refl v g
  source_good ty.Handle x v g = value_source_good ty.Handle x refl v g
  source_good (ty.Access a) x v g = value_source_good (ty.Access a) x refl v g

  abbrev Does : Around → Stmt → Type 0
  Does a s = Done k env a s

  assigning_good : (a : Around) (to : Target) (s : Source) → TargetFine to → SourceFine to.ty s → Does a (spec.assigning to.name s)
  assigning_good a to (as_source.Value x) h i = does.assign i.0 h.denotes i.1
  assigning_good a to (as_source.Record u x) h i = does.assign_record (subst (λ t. Denotes k env to.name t) i.0 h.denotes) (subst (InView k env) i.0 h.in_view) i.1

  pub assignment_good : (a : Around) (u : Use) (xs : List (Suffix Sense)) (x : Sense) → RightSuffixes xs → Right x → Gives (Does a) (spec.assignment u xs x tables)
  assignment_good a u xs x g h = next (λ r. TargetFine r.0 × SourceFine r.0.ty r.1) (Does a) (following (spec.target tables u xs) (λ t. spec.source tables (spec.type_of_target t) x)) (λ r. known (spec.assigning r.0.name r.1))
      (following_give TargetFine (λ t s. SourceFine t.ty s) (spec.target tables u xs) (λ t. spec.source tables (spec.type_of_target t) x) (target_good u xs g) (λ t i. source_good t.ty x i.in_view h))
      (λ r i s. assigning_good a r.0 r.1 i.0 i.1)

  -- Explicit calls of operations (7.6, 13.11) ------------------------------------------------------

  operand_found_good : (place : Span) (f : Found) → FoundFine k env f → Gives (InView k env) (spec.operand_found place f)
  operand_found_good place (is.Part p) h = λ s. h.part.in_view
  operand_found_good place (is.View p) h = λ s. h.in_view
  operand_found_good place (is.Computed t) h = λ s. h.0.in_view
  operand_found_good place (is.Discriminant p i) h = λ s. tt
  operand_found_good place _ h = λ s. tt

  operand_by_good : (x : Sense) (o : Option (Tables → Judgement Found)) → Right x → Named o → Gives (InView k env) (spec.operand_by tables x o)
  operand_by_good x None g h = next (Fine k env asking.Anything x.named) (InView k env) (x.judged tables asking.Anything) (λ t. known t.ty) (g.judged asking.Anything tt) (λ t i s. i.in_view)
  operand_by_good x (Some name) g h = next (FoundFine k env) (InView k env) (name tables >>= expr.settled tables x.place) (spec.operand_found x.place) (next (FoundFine k env) (FoundFine k env) (name tables) (expr.settled tables x.place) h (settled_good k env tables sound x.place)) (operand_found_good x.place)

  formals_in_view : (o : OperationName) (t : ℕ) → InView k env (ty.Record t) → All (λ f. InView k env f.ty) (operations.operation_formals o (ty.Record t))
  formals_in_view Initialize t v = (v, tt)
  formals_in_view Adjust t v = (v, tt)
  formals_in_view Finalize t v = (v, tt)
  formals_in_view Allocate t v = (v, (tt, (tt, (tt, tt))))
  formals_in_view Deallocate t v = (v, (tt, (tt, (tt, tt))))

  operation_ancestor : (o : OperationName) (u t : ℕ) (as' : List Actual) → Descends k u t → FitEach k env (map formal_of (operations.operation_formals o (ty.Record t))) as' → FitEach k env (map formal_of (operations.operation_formals o (ty.Record u))) as'
  operation_ancestor Initialize u t as' d h = fit_each_ancestor k env u t [] as' d h
  operation_ancestor Adjust u t as' d h = fit_each_ancestor k env u t [] as' d h
  operation_ancestor Finalize u t as' d h = fit_each_ancestor k env u t [] as' d h
  operation_ancestor Allocate u t as' d h = fit_each_ancestor k env u t _ as' d h
  operation_ancestor Deallocate u t as' d h = fit_each_ancestor k env u t _ as' d h

  user_called_good : (a : Around) (place : Span) (o : OperationName) (t s : ℕ) (xs : List Sense) → OperationFine k env o t s → InView k env (ty.Record t) → All Right xs → Gives (Does a) (spec.user_called tables place o (ty.Record t) s xs)
  user_called_good a place o t s xs h v g =
      let fs = operations.operation_formals o (ty.Record t) in
      next (FitEach k env (map formal_of fs)) (Does a) (expr.actuals_of tables place fs xs) (λ as'. known (stmt.Call s as')) (actuals_good k env tables sound place fs xs (formals_in_view o t v) g)
      (λ as' i n. does.call h.callable h.result (subst (λ gs. FitEach k env gs as') (sym h.formals) (operation_ancestor o h.root t as' h.descends i)))

  counted_good : (x : Sense) → Right x → Gives (λ v. Typed k env v ty.Count) (spec.value_as tables ty.Count x)
  counted_good x g = value_as_good k env tables sound ty.Count x tt g

  addressed_good : (x : Sense) → Right x → Gives (λ v. Typed k env v ty.Address) (spec.value_as tables ty.Address x)
  addressed_good x g = value_as_good k env tables sound ty.Address x tt g

  abbrev Counts : Expr × Expr → Type 0
  Counts r = Typed k env r.0 ty.Count × Typed k env r.1 ty.Count

  counts_good : (s l : Sense) → Right s → Right l → Gives Counts (both (spec.value_as tables ty.Count s) (spec.value_as tables ty.Count l))
  counts_good s l g h = both_give (λ v. Typed k env v ty.Count) (λ v. Typed k env v ty.Count) (spec.value_as tables ty.Count s) (spec.value_as tables ty.Count l) (counted_good s g) (counted_good l h)

  library_allocate_good : (a : Around) (t : ℕ) (p x s l : Sense) → HasRoot k t root.BlockPool → Right p → Right x → Right s → Right l → Gives (Does a) (spec.library_allocate tables (ty.Record t) p x s l)
  library_allocate_good a t p x s l r g h i j =
      let m = both (spec.writing tables (ty.Record t) p) (spec.writing tables ty.Address x) in
      let n = both (spec.value_as tables ty.Count s) (spec.value_as tables ty.Count l) in
      next (λ (q : (Checked_name × Checked_name) × (Expr × Expr)). (Viewed (ty.Record t) q.0.0 × Viewed ty.Address q.0.1) × Counts q.1) (Does a) (both m n) (λ r. known (stmt.LibraryAllocate r.0.0 r.0.1 r.1.0 r.1.1))
      (both_give (λ (q : Checked_name × Checked_name). Viewed (ty.Record t) q.0 × Viewed ty.Address q.1) Counts m n (both_give (Viewed (ty.Record t)) (Viewed ty.Address) (spec.writing tables (ty.Record t) p) (spec.writing tables ty.Address x) (writing_good (ty.Record t) p g) (writing_good ty.Address x h)) (counts_good s l i j))
      (λ q w z. does.library_allocate w.0.0 r (scalar_viewed ty.Address q.0.1 refl w.0.1) w.1.0 w.1.1)

  library_deallocate_good : (a : Around) (t : ℕ) (p x s l : Sense) → HasRoot k t root.BlockPool → Right p → Right x → Right s → Right l → Gives (Does a) (spec.library_deallocate tables (ty.Record t) p x s l)
  library_deallocate_good a t p x s l r g h i j =
      let m = both (spec.writing tables (ty.Record t) p) (spec.value_as tables ty.Address x) in
      let n = both (spec.value_as tables ty.Count s) (spec.value_as tables ty.Count l) in
      next (λ (q : (Checked_name × Expr) × (Expr × Expr)). (Viewed (ty.Record t) q.0.0 × Typed k env q.0.1 ty.Address) × Counts q.1) (Does a) (both m n) (λ r. known (stmt.LibraryDeallocate r.0.0 r.0.1 r.1.0 r.1.1))
      (both_give (λ (q : Checked_name × Expr). Viewed (ty.Record t) q.0 × Typed k env q.1 ty.Address) Counts m n (both_give (Viewed (ty.Record t)) (λ v. Typed k env v ty.Address) (spec.writing tables (ty.Record t) p) (spec.value_as tables ty.Address x) (writing_good (ty.Record t) p g) (addressed_good x h)) (counts_good s l i j))
      (λ q w z. does.library_deallocate w.0.0 r w.0.1 w.1.0 w.1.1)

  nothing_good : (a : Around) (t : ℕ) (x : Sense) → Right x → Gives (Does a) (spec.writing tables (ty.Record t) x >>= (λ n. known (stmt.Nothing n)))
  nothing_good a t x g = next (Viewed (ty.Record t)) (Does a) (spec.writing tables (ty.Record t) x) (λ n. known (stmt.Nothing n)) (writing_good (ty.Record t) x g) (λ n h s. does.nothing_done h)

  -- Allocate and Deallocate are of block pools
  abbrev OfBlockPool : OperationName → ℕ → Type 0
  OfBlockPool Allocate t = HasRoot k t root.BlockPool
  OfBlockPool Deallocate t = HasRoot k t root.BlockPool
  OfBlockPool o t = Unit {0}

  library_operation_good : (a : Around) (place : Span) (o : OperationName) (t : ℕ) (xs : List Sense) → OfBlockPool o t → All Right xs → Gives (Does a) (spec.library_operation tables place o (ty.Record t) xs)
  library_operation_good a place Allocate t (p ∷ x ∷ s ∷ l ∷ []) r g = library_allocate_good a t p x s l r g.0 g.1.0 g.1.1.0 g.1.1.1.0
  library_operation_good a place Deallocate t (p ∷ x ∷ s ∷ l ∷ []) r g = library_deallocate_good a t p x s l r g.0 g.1.0 g.1.1.0 g.1.1.1.0
  library_operation_good a place Initialize t (x ∷ []) r g = nothing_good a t x g.0
  library_operation_good a place Adjust t (x ∷ []) r g = nothing_good a t x g.0
  library_operation_good a place Finalize t (x ∷ []) r g = nothing_good a t x g.0
  library_operation_good a place o t xs r g = λ s. tt

  operation_by_good : (a : Around) (place : Span) (o : OperationName) (t : ℕ) (q : Option ℕ) (xs : List Sense) → operations.user_operation o (operations.operations_of (slice_get tables.states.records t)) ≡ q → InView k env (ty.Record t) → OfBlockPool o t → All Right xs → Gives (Does a) (spec.operation_by tables place o (ty.Record t) q xs)
  operation_by_good a place o t None xs e v r g = library_operation_good a place o t xs r g
  operation_by_good a place o t (Some s) xs e v r g = user_called_good a place o t s xs (sound.operations o t s v e) v g

  provided : (o : OperationName) (t : ℕ) (limited : Bool) (q : Option RecordEntry) → slice_get tables.records t ≡ q → operations.provides (root_of q) limited o ≡ true → OfBlockPool o t
  provided Initialize t limited q e h = tt
  provided Adjust t limited q e h = tt
  provided Finalize t limited q e h = tt
  provided Allocate t limited None e h = absurd (cc)
  provided Deallocate t limited None e h = absurd (cc)
  provided Allocate t limited (Some r) e h = by_root r.root (sound.types.rooted t r e) h
    where
      by_root : (x : Root) → HasRoot k t x → operations.provides x limited Allocate ≡ true → HasRoot k t root.BlockPool
      by_root root.BlockPool i h = i
      by_root root.Untagged i h = absurd (cc)
      by_root root.Controlled i h = absurd (cc)
      by_root root.MarkPool i h = absurd (cc)
  provided Deallocate t limited (Some r) e h = by_root r.root (sound.types.rooted t r e) h
    where
      by_root : (x : Root) → HasRoot k t x → operations.provides x limited Deallocate ≡ true → HasRoot k t root.BlockPool
      by_root root.BlockPool i h = i
      by_root root.Untagged i h = absurd (cc)
      by_root root.Controlled i h = absurd (cc)
      by_root root.MarkPool i h = absurd (cc)

  operation_of_good : (a : Around) (place : Span) (o : OperationName) (xs : List Sense) (t : Ty) → InView k env t → All Right xs → Gives (Does a) (spec.operation_of tables place o xs t)
  operation_of_good a place o xs (ty.Record t) v g =
      let limited = is_limited tables (ty.Record t) in
      let q = operations.user_operation o (operations.operations_of (slice_get tables.states.records t)) in
      tested (Does a) (operations.provides (root_of (slice_get tables.records t)) limited o) (spec.operation_by tables place o (ty.Record t) q xs) (wrong fault.Type place)
      (λ h. operation_by_good a place o t q xs refl v (provided o t limited (slice_get tables.records t) refl h) g) (λ s. tt)
  operation_of_good a place o xs ty.Integer v g = λ s. tt
  operation_of_good a place o xs ty.Count v g = λ s. tt
  operation_of_good a place o xs ty.Boolean v g = λ s. tt
  operation_of_good a place o xs ty.Address v g = λ s. tt
  operation_of_good a place o xs ty.Handle v g = λ s. tt
  operation_of_good a place o xs (ty.Access t) v g = λ s. tt

  operation_with_good : (a : Around) (place : Span) (o : OperationName) (xs : Option (List Sense)) → IfSome (All Right) xs → Gives (Does a) (spec.operation_with tables place o xs)
  operation_with_good a place o (Some (x ∷ more)) g = followed_gives (InView k env) (Does a) (spec.operand_type tables x) (spec.operation_for tables place o (x ∷ more)) (operand_by_good x x.bare g.0 g.0.bare) (λ t v. operation_of_good a place o (x ∷ more) t v g) (λ s. tt)
  operation_with_good a place o (Some []) g = λ s. tt
  operation_with_good a place o None g = λ s. tt

  -- Calls (6.4) --------------------------------------------------------------------------------------------

  arguments_good : (xs : List (Suffix Sense)) → RightSuffixes xs → IfSome (All Right) (spec.arguments_of xs)
  arguments_good [] g = tt
  arguments_good (suffix.Arguments s x more ∷ []) g = g.0
  arguments_good (suffix.Arguments s x more ∷ (y ∷ ys)) g = tt
  arguments_good (suffix.Selector i ∷ xs) g = tt
  arguments_good (suffix.All i ∷ xs) g = tt
  arguments_good (suffix.Attribute i j ∷ xs) g = tt

  putting_good : (a : Around) (l : LibraryName) (x : Sense) → ((ps : List Piece) → Puts k env ps → Does a (spec.putting_by l ps)) → Right x → Gives (Does a) (spec.putting tables l x)
  putting_good a l x h g = next (Puts k env) (Does a) (x.texts tables) (λ ps. known (spec.putting_by l ps)) g.texts (λ ps i s. h ps i)

  releasing_good : (a : Around) (x : Sense) → Right x → Gives (Does a) (spec.releasing tables x)
  releasing_good a x g = next (Viewed ty.Handle) (Does a) (spec.writing tables ty.Handle x) (λ n. known (stmt.Release n)) (writing_good ty.Handle x g) (λ n h s. does.release (scalar_viewed ty.Handle n refl h))

  library_with_good : (a : Around) (place : Span) (l : LibraryName) (xs : Option (List Sense)) → IfSome (All Right) xs → Gives (Does a) (spec.library_with tables place l xs)
  library_with_good a place library.NewLine (Some []) g = λ s. does.new_line
  library_with_good a place library.Put (Some (x ∷ [])) g = putting_good a library.Put x (λ ps h. does.put h) g.0
  library_with_good a place library.PutLine (Some (x ∷ [])) g = putting_good a library.PutLine x (λ ps h. does.put_line h) g.0
  library_with_good a place library.UncheckedDeallocateSubpool (Some (x ∷ [])) g = releasing_good a x g.0
  library_with_good a place l xs g = λ s. tt

  procedure_by_good : (a : Around) (place : Span) (r : Option Ty) (p : Profile) (xs : List Sense) → p.result ≡ r → ProfileFine k env p → All Right xs → Gives (Does a) (spec.procedure_by tables place r p xs)
  procedure_by_good a place None p xs e h g = next (FitEach k env (map formal_of p.formals)) (Does a) (expr.actuals_of tables place p.formals xs) (λ as'. known (stmt.Call p.subprogram as')) (actuals_good k env tables sound place p.formals xs h.formals_in_view g)
      (λ as' i s. does.call h.callable (h.result ∙ e) (subst (λ fs. FitEach k env fs as') (sym h.formals) i))
  procedure_by_good a place (Some t) p xs e h g = λ s. tt

  deallocating_good : (a : Around) (t : ℕ) (x : Sense) → InView k env (ty.Access t) → Right x → Gives (Does a) (spec.deallocating tables t x)
  deallocating_good a t x v g = next (Viewed (ty.Access t)) (Does a) (spec.writing tables (ty.Access t) x) (λ n. known (stmt.Free t n)) (writing_good (ty.Access t) x g) (λ n h s. does.free v (scalar_viewed (ty.Access t) n refl h))

  declared_with_good : (a : Around) (place : Span) (e : Option Entry) (xs : Option (List Sense)) → IfSome (EntryFine k env) e → IfSome (All Right) xs → Gives (Does a) (spec.declared_with tables place e xs)
  declared_with_good a place (Some (entry.Subprogram p)) (Some xs) h g = procedure_by_good a place p.result p xs refl h g
  declared_with_good a place (Some (entry.Deallocation t)) (Some (x ∷ [])) h g = deallocating_good a t x h g.0
  declared_with_good a place (Some entry.Unknown) xs h g = λ s. tt
  declared_with_good a place e xs h g = λ s. tt

  called_by_good : (a : Around) (place : Span) (d : Denoted) (xs : Option (List Sense)) → IfSome (All Right) xs → Gives (Does a) (spec.called_by tables place d xs)
  called_by_good a place (denoted.Declared n level) xs g = declared_with_good a place (slice_get tables.entries n) xs (sound.entries n) g
  called_by_good a place (denoted.Library l) xs g = library_with_good a place l xs g
  called_by_good a place (denoted.Operation o) xs g = operation_with_good a place o xs g
  called_by_good a place denoted.Unknown xs g = λ s. tt

  pub call_good : (a : Around) (place : Span) (u : Use) (xs : List (Suffix Sense)) → RightSuffixes xs → Gives (Does a) (spec.call place u xs tables)
  call_good a place u xs g = called_by_good a place u.denoted (spec.arguments_of xs) (arguments_good xs g)

  -- Exceptions (11.2, 11.3) ------------------------------------------------------------------------------------

  abbrev pub IsException : ℕ → Type 0
  IsException n = n < k.exceptions

  exception_entry_good : (place : Span) (e : Option Entry) → IfSome (EntryFine k env) e → Gives IsException (spec.exception_entry place e)
  exception_entry_good place (Some (entry.Exception n)) h = λ s. h
  exception_entry_good place (Some entry.Unknown) h = λ s. tt
  exception_entry_good place e h = λ s. tt

  exception_denoted_good : (place : Span) (d : Denoted) → Gives IsException (spec.exception_denoted tables place d)
  exception_denoted_good place (denoted.Declared n level) = exception_entry_good place (slice_get tables.entries n) (sound.entries n)
  exception_denoted_good place (denoted.Library library.ConstraintError) = λ s. sound.exceptions 0 refl
  exception_denoted_good place (denoted.Library library.ProgramError) = λ s. sound.exceptions 1 refl
  exception_denoted_good place (denoted.Library library.StorageError) = λ s. sound.exceptions 2 refl
  exception_denoted_good place d = λ s. tt

  pub exception_named_good : (place : Span) (u : Use) (rest : List Identifier) → Gives IsException (spec.exception_named tables place u rest)
  exception_named_good place u [] = exception_denoted_good place u.denoted
  exception_named_good place u (i ∷ rest) = λ s. tt

  pub raising_good : (a : Around) (place : Span) (m : Mark Use) → Gives (Does a) (spec.raising place m tables)
  raising_good a place m = next IsException (Does a) (spec.exception_named tables place m.first m.rest) (λ n. known (stmt.Raise n)) (exception_named_good place m.first m.rest) (λ n h s. does.raise h)

  -- The value of a return (6.5) -----------------------------------------------------------------------------------

  pub return_value_good : (a : Around) (t : Ty) (x : Sense) → a.gives ≡ Some t → InView k env t → Right x → Gives (Does a) (spec.return_value (asking.Exactly t) x tables)
  return_value_good a t x e v g = next (Fine k env (asking.Exactly t) x.named) (Does a) (x.judged tables (asking.Exactly t)) (λ r. known (stmt.Return (Some r.value))) (g.judged (asking.Exactly t) v)
      (λ r h s. does.return (subst (λ o. does.Returns k env o (Some r.value)) (sym e) (does.result (subst (λ u. Typed k env r.value u) (sym (same_is t r.ty h.met)) h.typed))))
