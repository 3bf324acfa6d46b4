-- What a name is found to be is right, where the tables are.
use Rattle.std.proofs.Common.{arith, ◌≡◌, refl, sym, ap, ◌∙◌, subst, ℕ, nat_eq, nat_lt, Bool, true, false, ◌&&◌, ◌||◌, if◌then◌else◌, List, [], ◌∷◌, ◌++◌, map, length, slice_get, Option, Some, None, codes, inl, inr}
use Rattle.std.proofs.lemmas.Bool.Decides.{nat_tests}
use Rattle.ctl_grammar.specs.Spelling.{same_name}
use Rattle.ctl_tree.specs.declared.span.Span.{Span}
use Rattle.ctl_tree.specs.declared.fault.FaultCode.TheVariants as fault
use Rattle.ctl_program.specs.Library.{mark_release_pool}
use Rattle.ctl_program.specs.declared.types.Ty.{Ty}
use Rattle.ctl_program.specs.declared.types.Ty.TheVariants as ty
use Rattle.ctl_program.specs.declared.types.Var.{Var}
use Rattle.ctl_program.specs.declared.types.Root.{Root}
use Rattle.ctl_program.specs.declared.types.Root.TheVariants as root
use Rattle.ctl_program.specs.declared.expression.Expr.{Expr}
use Rattle.ctl_program.specs.declared.expression.Expr.TheVariants as e
use Rattle.ctl_program.specs.declared.expression.Name.{Name as Checked_name}
use Rattle.ctl_program.specs.declared.expression.Actual.{Actual}
use Rattle.ctl_program.specs.declared.expression.Actual.TheVariants as actual
use Rattle.ctl_program.specs.declared.expression.Step.{Step}
use Rattle.ctl_program.specs.declared.expression.Step.TheVariants as step
use Rattle.ctl_program.specs.declared.operators.SubpoolFunction.{SubpoolFunction}
use Rattle.ctl_syntax.specs.declared.denoted.Denoted.TheVariants as denoted
use Rattle.ctl_syntax.specs.declared.denoted.LibraryName.{LibraryName}
use Rattle.ctl_syntax.specs.declared.denoted.LibraryName.TheVariants as library
use Rattle.ctl_syntax.specs.declared.denoted.Use.{Use}
use Rattle.ctl_syntax.specs.declared.item.Mode.{Mode}
use Rattle.ctl_syntax.specs.declared.item.Mode.TheVariants as mode
use Rattle.ctl_syntax.specs.declared.item.Aliasing.{Aliasing}
use Rattle.ctl_syntax.specs.declared.item.Aliasing.TheVariants as aliasing
use Rattle.ctl_syntax.specs.declared.name.Attribute.{Attribute}
use Rattle.ctl_syntax.specs.declared.name.Attribute.TheVariants as attribute
use Rattle.ctl_syntax.specs.declared.name.Suffix.{Suffix}
use Rattle.ctl_syntax.specs.declared.name.Suffix.TheVariants as suffix
use Rattle.ctl_typing.specs.declared.table.Tables.{Tables}
use Rattle.ctl_typing.specs.declared.table.Entry.{Entry}
use Rattle.ctl_typing.specs.declared.table.Entry.TheVariants as entry
use Rattle.ctl_typing.specs.declared.table.FormalEntry.{FormalEntry}
use Rattle.ctl_typing.specs.declared.table.Profile.{Profile}
use Rattle.ctl_typing.specs.declared.table.Mutability.{Mutability}
use Rattle.ctl_typing.specs.declared.table.Mutability.TheVariants as mutability
use Rattle.ctl_typing.specs.declared.table.RecordEntry.{RecordEntry}
use Rattle.ctl_typing.specs.declared.found.Asked.{Asked}
use Rattle.ctl_typing.specs.declared.found.Asked.TheVariants as asking
use Rattle.ctl_typing.specs.declared.found.Typed.{Typed as Typed_value}
use Rattle.ctl_typing.specs.declared.found.Head.{Head}
use Rattle.ctl_typing.specs.declared.found.Head.TheVariants as head
use Rattle.ctl_typing.specs.declared.found.Place.{Place}
use Rattle.ctl_typing.specs.declared.found.Found.{Found}
use Rattle.ctl_typing.specs.declared.found.Found.TheVariants as is
use Rattle.ctl_typing.specs.Judgement.{Judgement, known, but, wrong, noting, ◌>>=◌, each}
use Rattle.ctl_typing.specs.Lookup.{same, is_record, component_of, descends, root_of, designated_by, designate_same, is_general, is_convertible, level_of, level_of_access}
use Rattle.ctl_typing.specs.Typing as spec
use Rattle.ctl_typing.specs.Typing.{Sense}
use Rattle.ctl_well_typed.specs.Setting.{In, Frames, Setting, InView}
use Rattle.ctl_program.specs.Limits.{integer_last, integer_first_cell}
use Rattle.ctl_well_typed.specs.Types as types
use Rattle.ctl_well_typed.specs.Types.{is_scalar, IsCell, is_written, Covers, same_type, ancestor, Walks, arrived, further, Leads, HasRoot, HasDiscriminant}
use Rattle.ctl_well_typed.specs.Expressions as rule
use Rattle.ctl_well_typed.specs.Expressions.{Typed, Denotes, Fits, FitEach, IsValue}
use Rattle.ctl_sound.specs.Known.{IfSome, Gives, All}
use Rattle.ctl_sound.specs.Sound.{AliasFine, AccessedFine, ScalarUnlessNamed, is_imaged, passing_of, formal_of, EntryFine, ProfileFine, Sound, PartOf, PlaceFine, FoundFine, AskedFine, Fine, Good}
use Rattle.ctl_sound.proofs.Known.{next, tested, any_gives, each_gives}
use Rattle.ctl_sound.proofs.Layers.{SuffixOf}
use Rattle.ctl_sound.proofs.Tests.{same_is, same_self, number_is, copy_is, covers_scalar}

arrived_is : {k : Setting} {s t : Ty} → Walks k s [] t → s ≡ t
arrived_is arrived = refl

walk_on : {k : Setting} {s t u : Ty} {x : Step} (steps : List Step) → Walks k s steps t → Leads k t x u → Walks k s (steps ++ x ∷ []) u
walk_on [] arrived l = further l arrived
walk_on (y ∷ steps) (further m w) l = further m (walk_on steps w l)

module _ (k : Setting) (env : Frames) (tables : Tables) (sound : Sound k env tables) where
  abbrev FoundRight : Judgement Found → Type 0
  FoundRight j = Gives (FoundFine k env) j

  -- Beginnings ---------------------------------------------------------------------------

  entry_good : (place : Span) (n : ℕ) (e : Option Entry) → IfSome (EntryFine k env) e → FoundRight (spec.entry_found place n e)
  entry_good place n None h s = tt
  entry_good place n (Some (entry.Object o)) h s = record { part = record { start = o.ty; heads = (h.holding, (h.names, h.stands)); walks = arrived; in_view = h.in_view }; alias = h.alias }
  entry_good place n (Some (entry.«Type» t)) h s = h
  entry_good place n (Some (entry.Subprogram p)) h s = tt
  entry_good place n (Some (entry.Incomplete t)) h s = tt
  entry_good place n (Some (entry.Deallocation t)) h s = tt
  entry_good place n (Some (entry.Exception t)) h s = tt
  entry_good place n (Some entry.Unknown) h s = tt

  library_good : (place : Span) (l : LibraryName) → FoundRight (spec.library_found place l)
  library_good place library.Integer s = tt
  library_good place library.Boolean s = tt
  library_good place library.StorageCount s = tt
  library_good place library.Address s = tt
  library_good place library.SubpoolHandle s = tt
  library_good place library.Controlled s = sound.types.library 0 refl
  library_good place library.LimitedControlled s = sound.types.library 1 refl
  library_good place library.BlockPool s = sound.types.library 2 refl
  library_good place library.MarkReleasePool s = sound.types.library 3 refl
  library_good place library.True s = (record { typed = rule.constant refl (omega arith) tt; in_view = tt }, refl)
  library_good place library.False s = (record { typed = rule.constant refl (omega arith) tt; in_view = tt }, refl)
  library_good place library.NullAddress s = (record { typed = rule.constant refl refl tt; in_view = tt }, refl)
  library_good place library.Mark s = tt
  library_good place library.DefaultSubpool s = tt
  library_good place _ s = tt

  pub first_good : (u : Use) → FoundRight (spec.first_found tables u)
  first_good u = by_denoted u.denoted
    where
      by_denoted : (d : _) → FoundRight (spec.first_found tables (record { span = u.span; denoted = d }))
      by_denoted (denoted.Declared n level) = entry_good u.span n (slice_get tables.entries n) (sound.entries n)
      by_denoted (denoted.Library l) = library_good u.span l
      by_denoted (denoted.Operation o) = λ s. tt
      by_denoted denoted.Unknown = λ s. tt

  -- Parts --------------------------------------------------------------------------------------

  pub name_good : (h : Head) (steps : List Step) (t : Ty) → PartOf k env h steps t → Denotes k env (spec.name_at h steps) t
  name_good (head.At v) steps t w = rule.variable w.heads.1.0 w.heads.1.1 w.walks
  name_good (head.Given x) steps t w = rule.value w.heads.0 w.walks

  alone_good : (x : Expr) (t : Ty) → PartOf k env (head.Given x) [] t → Typed k env x t
  alone_good x t w = subst (λ u. Typed k env x u) (arrived_is w.walks) w.heads.0

  alone_value : (x : Expr) (t : Ty) → PartOf k env (head.Given x) [] t → IsValue x t
  alone_value x t w = subst (λ u. IsValue x u) (arrived_is w.walks) w.heads.1

  pub value_good : (h : Head) (steps : List Step) (t : Ty) → PartOf k env h steps t → Typed k env (spec.value_at h steps t) t
  value_good (head.Given x) [] t w = alone_good x t w
  value_good (head.Given x) (y ∷ steps) t w = rule.read (name_good (head.Given x) (y ∷ steps) t w)
  value_good (head.At v) [] t w = rule.read (name_good (head.At v) [] t w)
  value_good (head.At v) (y ∷ steps) t w = rule.read (name_good (head.At v) (y ∷ steps) t w)

  pub handed_on_good : (h : Head) (steps : List Step) (u : ℕ) (t : Ty) → PartOf k env h steps t → Covers k (ty.Record u) t → Fits k env (record { passing = In; ty = ty.Record u }) (spec.handed_on h steps (ty.Record u))
  handed_on_good (head.Given x) [] u t w c = rule.by_value c (alone_value x t w) (alone_good x t w)
  handed_on_good (head.Given x) (y ∷ steps) u t w c = rule.by_reference c c (name_good (head.Given x) (y ∷ steps) t w)
  handed_on_good (head.At v) [] u t w c = rule.by_reference c c (name_good (head.At v) [] t w)
  handed_on_good (head.At v) (y ∷ steps) u t w c = rule.by_reference c c (name_good (head.At v) (y ∷ steps) t w)

  -- Actuals that are written ------------------------------------------------------------------------

  abbrev Fitting : Mode → Ty → Actual → Type 0
  Fitting m t a = Fits k env (record { passing = passing_of m; ty = t }) a

  scalar_copied : (m : Mode) (x : Checked_name) (t s : Ty) → is_written (passing_of m) ≡ true → is_scalar t ≡ true → Covers k t s → Denotes k env x s → Fitting m t (actual.Copied x t (spec.start_of m t))
  scalar_copied m x t s w h c d = subst (λ z. Fitting m t (actual.Copied x t z)) (copy_is m t) (rule.by_copy w h (subst (λ u. Denotes k env x u) (covers_scalar k t s h c) d))

  named_good : (m : Mode) (x : Checked_name) (t s : Ty) → is_written (passing_of m) ≡ true → Covers k t s → Denotes k env x s → Fitting m t (if is_record t then actual.Part x t else actual.Copied x t (spec.start_of m t))
  named_good m x (ty.Record u) s w c d = rule.by_reference c c d
  named_good m x ty.Integer s w c d = scalar_copied m x ty.Integer s w refl c d
  named_good m x ty.Count s w c d = scalar_copied m x ty.Count s w refl c d
  named_good m x ty.Boolean s w c d = scalar_copied m x ty.Boolean s w refl c d
  named_good m x ty.Address s w c d = scalar_copied m x ty.Address s w refl c d
  named_good m x ty.Handle s w c d = scalar_copied m x ty.Handle s w refl c d
  named_good m x (ty.Access a) s w c d = scalar_copied m x (ty.Access a) s w refl c d

  pub as_variable_good : {A : Type 0} (Q : A → Type 0) (place : Span) (m : Mutability) (a : A) → Q a → Gives Q (spec.as_variable place m a)
  as_variable_good Q place mutability.Variable a h s = h
  as_variable_good Q place mutability.Constant a h s = h

  abbrev Named : Option (Tables → Judgement Found) → Type 0
  Named o = IfSome (λ (f : Tables → Judgement Found). FoundRight (f tables)) o

  -- Functions without actuals ---------------------------------------------------------------------------

  profile_entry : (e : Option Entry) → IfSome (EntryFine k env) e → IfSome (ProfileFine k env) (spec.profile_in e)
  profile_entry None h = tt
  profile_entry (Some (entry.Subprogram p)) h = h
  profile_entry (Some (entry.Object o)) h = tt
  profile_entry (Some (entry.«Type» t)) h = tt
  profile_entry (Some (entry.Incomplete t)) h = tt
  profile_entry (Some (entry.Deallocation t)) h = tt
  profile_entry (Some (entry.Exception t)) h = tt
  profile_entry (Some entry.Unknown) h = tt

  profile_good : (n : ℕ) → IfSome (ProfileFine k env) (spec.profile_of tables n)
  profile_good n = profile_entry (slice_get tables.entries n) (sound.entries n)

  result_of : (place : Span) (p : Profile) (actuals : List Actual) (r : Option Ty) → p.result ≡ r → ProfileFine k env p → FitEach k env (map formal_of p.formals) actuals → FoundRight (spec.result_found place p actuals)
  result_of place p actuals None e h i s = rw e tt
  result_of place p actuals (Some t) e h i s =
      let v : IfSome (InView k env) (Some t) = subst (λ r. IfSome (InView k env) r) e h.result_in_view in
      let f : FitEach k env h.is.formals actuals = subst (λ fs. FitEach k env fs actuals) (sym h.formals) i in
      rw e (record { part = record { start = t; heads = (rule.call h.callable (h.result ∙ e) f, rule.of_call p.subprogram actuals t); walks = arrived; in_view = v }; alias = tt })

  pub result_good : (place : Span) (p : Profile) (actuals : List Actual) → ProfileFine k env p → FitEach k env (map formal_of p.formals) actuals → FoundRight (spec.result_found place p actuals)
  result_good place p actuals = result_of place p actuals p.result refl

  parameterless_good : (place : Span) (p : Profile) (fs : List FormalEntry) → p.formals ≡ fs → ProfileFine k env p → FoundRight (spec.parameterless place p fs)
  parameterless_good place p [] e h = result_good place p [] h (rw e rule.no_more_formals)
  parameterless_good place p (f ∷ fs) e h = λ s. tt

  called_alone_good : (place : Span) (o : Option Profile) → IfSome (ProfileFine k env) o → FoundRight (spec.called_alone place o)
  called_alone_good place None h = λ s. tt
  called_alone_good place (Some p) h = parameterless_good place p p.formals refl h

  pub settled_good : (place : Span) (f : Found) → FoundFine k env f → FoundRight (spec.settled tables place f)
  settled_good place (is.Callable n) h = called_alone_good place (spec.profile_of tables n) (profile_good n)
  settled_good place (is.Part p) h = λ s. h
  settled_good place (is.TypeName p) h = λ s. h
  settled_good place (is.Computed p) h = λ s. h
  settled_good place (is.Subpools p) h = λ s. h
  settled_good place (is.Image p) h = λ s. h
  settled_good place (is.Imaged p) h = λ s. h
  settled_good place (is.Discriminant p i) h = λ s. h
  settled_good place (is.View p) h = λ s. h
  settled_good place (is.Accessed v t) h = λ s. h

  -- Actuals --------------------------------------------------------------------------------------------

  abbrev Right : Sense → Type 0
  Right x = Good k env tables x

  noting_good : {A : Type 0} (Q : A → Type 0) (t : Ty) (a : A) → Q a → Gives Q (noting t a)
  noting_good Q t a h s = h

  abbrev Reading : Ty → Actual → Type 0
  Reading t a = Fits k env (record { passing = In; ty = t }) a

  -- a part that is a variable of a type: of that type, or a view of one that the type covers
  pub record VariableFine (t : Ty) (p : Place) : Type 0 where
    pub typed : t ≡ p.ty
    pub own : Ty
    pub part : PartOf k env p.head p.steps own
    pub covers : Covers k p.ty own

  variable_part_good : (place : Span) (t s : Ty) (p : Place) → PartOf k env p.head p.steps s → Covers k p.ty s → Gives (VariableFine t) (spec.variable_part place t p)
  variable_part_good place t s p part c = tested (VariableFine t) (same t p.ty) (spec.as_variable place p.mutability p) (wrong fault.Type place)
      (λ e. as_variable_good (VariableFine t) place p.mutability p (record { typed = same_is t p.ty e; own = s; part = part; covers = c }))
      (λ s. tt)

  value_is_no_variable : (place : Span) (t : Ty) (f : Found) → Gives (VariableFine t) (spec.value_found tables place (asking.Exactly t) f >>= spec.no_variable place)
  value_is_no_variable place t f = next (λ r. Unit {0}) (VariableFine t) (spec.value_found tables place (asking.Exactly t) f) (spec.no_variable place) (any_gives (spec.value_found tables place (asking.Exactly t) f)) (λ r h s. tt)

  variable_found_good : (place : Span) (t : Ty) (f : Found) → FoundFine k env f → Gives (VariableFine t) (spec.variable_found tables place t f)
  variable_found_good place t (is.Part p) h = variable_part_good place t p.ty p h.part same_type
  variable_found_good place t (is.View p) h = variable_part_good place t h.own p h.part h.covers
  variable_found_good place t (is.TypeName u) h = value_is_no_variable place t (is.TypeName u)
  variable_found_good place t (is.Callable n) h = value_is_no_variable place t (is.Callable n)
  variable_found_good place t (is.Computed r) h = value_is_no_variable place t (is.Computed r)
  variable_found_good place t (is.Subpools f) h = value_is_no_variable place t (is.Subpools f)
  variable_found_good place t (is.Image u) h = value_is_no_variable place t (is.Image u)
  variable_found_good place t (is.Imaged r) h = value_is_no_variable place t (is.Imaged r)
  variable_found_good place t (is.Discriminant p i) h = value_is_no_variable place t (is.Discriminant p i)
  variable_found_good place t (is.Accessed v u) h = value_is_no_variable place t (is.Accessed v u)

  variable_by_good : (t : Ty) (x : Sense) (o : Option (Tables → Judgement Found)) → Named o → Gives (VariableFine t) (spec.variable_by tables t x o)
  variable_by_good t x None h = next (λ r. Unit {0}) (VariableFine t) (x.judged tables (asking.Exactly t)) (spec.no_variable x.place) (any_gives (x.judged tables (asking.Exactly t))) (λ r i s. tt)
  variable_by_good t x (Some name) h =
      next (FoundFine k env) (VariableFine t) (name tables >>= spec.settled tables x.place) (spec.variable_found tables x.place t)
      (next (FoundFine k env) (FoundFine k env) (name tables) (spec.settled tables x.place) h (settled_good x.place))
      (variable_found_good x.place t)

  pub variable_of_good : (t : Ty) (x : Sense) → Right x → Gives (VariableFine t) (spec.variable_of tables t x)
  variable_of_good t x g = variable_by_good t x x.bare g.bare

  by_name_good : (m : Mode) (t : Ty) (p : Place) → is_written (passing_of m) ≡ true → VariableFine t p → Fitting m t (spec.by_name m p)
  by_name_good m t p w h = subst (λ u. Fitting m u (spec.by_name m p)) (sym h.typed) (named_good m (spec.name_of p) p.ty h.own w h.covers (name_good p.head p.steps h.own h.part))

  written_by_good : (m : Mode) (t : Ty) (x : Sense) → is_written (passing_of m) ≡ true → Right x → Gives (Fitting m t) (spec.variable_of tables t x >>= (λ p. known (spec.by_name m p)))
  written_by_good m t x w g = next (VariableFine t) (Fitting m t) (spec.variable_of tables t x) (λ p. known (spec.by_name m p)) (variable_of_good t x g) (λ p h s. by_name_good m t p w h)

  record_part : (place : Span) (u : ℕ) (s : Ty) (p : Place) → PartOf k env p.head p.steps s → Covers k p.ty s → Gives (Reading (ty.Record u)) (spec.record_part place (ty.Record u) p)
  record_part place u s p part c = tested (Reading (ty.Record u)) (same (ty.Record u) p.ty) (noting (ty.Record u) (spec.handed_on p.head p.steps p.ty)) (wrong fault.Type place)
      (λ e. noting_good (Reading (ty.Record u)) (ty.Record u) (spec.handed_on p.head p.steps p.ty) (subst (λ v. Reading (ty.Record u) (spec.handed_on p.head p.steps v)) (same_is (ty.Record u) p.ty e) (handed_on_good p.head p.steps u s part (subst (λ t. Covers k t s) (sym (same_is (ty.Record u) p.ty e)) c))))
      (λ s. tt)

  record_found_good : (place : Span) (u : ℕ) (f : Found) → FoundFine k env f → Gives (Reading (ty.Record u)) (spec.record_found place (ty.Record u) f)
  record_found_good place u (is.Part p) h = record_part place u p.ty p h.part same_type
  record_found_good place u (is.View p) h = record_part place u h.own p h.part h.covers
  record_found_good place u _ h = λ s. tt

  record_enclosed_good : (place : Span) (u : ℕ) (f : Found) → FoundFine k env f → Gives (Reading (ty.Record u)) (spec.record_enclosed place (ty.Record u) f)
  record_enclosed_good place u (is.Part p) h = record_part place u p.ty p h.part same_type
  record_enclosed_good place u _ h = λ s. tt

  -- a value that has one cell
  value_read : (t : Ty) (x : Sense) → InView k env t → Right x → ((r : Typed_value) → Fine k env (asking.Exactly t) x.named r → is_scalar t ≡ true) → Gives (Reading t) (x.judged tables (asking.Exactly t) >>= spec.by_value)
  value_read t x v g scalar = next (Fine k env (asking.Exactly t) x.named) (Reading t) (x.judged tables (asking.Exactly t)) spec.by_value (g.judged (asking.Exactly t) v)
      (λ r h s. subst (λ u. Reading t (actual.ByValue r.value u)) (same_is t r.ty h.met) (rule.by_value same_type (rule.of_one_cell (scalar r h)) (subst (λ u. Typed k env r.value u) (sym (same_is t r.ty h.met)) h.typed)))

  record_by_good : (u : ℕ) (x : Sense) (alone named : Option (Tables → Judgement Found)) → InView k env (ty.Record u) → Right x → Named alone → Named named → x.named ≡ named → Gives (Reading (ty.Record u)) (spec.record_by tables (ty.Record u) x alone named)
  record_by_good u x (Some alone) named v g h i e =
      next (FoundFine k env) (Reading (ty.Record u)) (alone tables >>= spec.settled tables x.within) (spec.record_found x.within (ty.Record u))
      (next (FoundFine k env) (FoundFine k env) (alone tables) (spec.settled tables x.within) h (settled_good x.within))
      (record_found_good x.within u)
  record_by_good u x None (Some name) v g h i e =
      next (FoundFine k env) (Reading (ty.Record u)) (name tables >>= spec.settled tables x.within) (spec.record_enclosed x.within (ty.Record u))
      (next (FoundFine k env) (FoundFine k env) (name tables) (spec.settled tables x.within) i (settled_good x.within))
      (record_enclosed_good x.within u)
  record_by_good u x None None v g h i e =
      value_read (ty.Record u) x v g (λ r f. subst (λ t. is_scalar t ≡ true) (sym (same_is (ty.Record u) r.ty f.met)) (subst (λ (o : Option (Tables → Judgement Found)). ScalarUnlessNamed o r.ty) e f.scalar))

  read_by_good : (t : Ty) (x : Sense) → InView k env t → Right x → Gives (Reading t) (spec.read_by tables t x)
  read_by_good (ty.Record u) x v g = record_by_good u x x.bare x.named v g g.bare g.named refl
  read_by_good ty.Integer x v g = value_read ty.Integer x v g (λ r f. refl)
  read_by_good ty.Count x v g = value_read ty.Count x v g (λ r f. refl)
  read_by_good ty.Boolean x v g = value_read ty.Boolean x v g (λ r f. refl)
  read_by_good ty.Address x v g = value_read ty.Address x v g (λ r f. refl)
  read_by_good ty.Handle x v g = value_read ty.Handle x v g (λ r f. refl)
  read_by_good (ty.Access a) x v g = value_read (ty.Access a) x v g (λ r f. refl)

  actual_by_good : (m : Mode) (t : Ty) (x : Sense) → InView k env t → Right x → Gives (Fitting m t) (spec.actual_by tables m t x)
  actual_by_good mode.In t x v g = read_by_good t x v g
  actual_by_good mode.Out t x v g = written_by_good mode.Out t x refl g
  actual_by_good mode.InOut t x v g = written_by_good mode.InOut t x refl g

  abbrev Fitted : FormalEntry × Sense → Actual → Type 0
  Fitted p a = Fits k env (formal_of p.0) a

  abbrev FittedEach : List (FormalEntry × Sense) → List Actual → Type 0
  FittedEach ps as' = FitEach k env (map (λ p. formal_of p.0) ps) as'

  fitted_more : (ps : List (FormalEntry × Sense)) (as' : List Actual) (p : FormalEntry × Sense) (a : Actual) → FittedEach ps as' → Fitted p a → FittedEach (ps ++ p ∷ []) (as' ++ a ∷ [])
  fitted_more [] [] p a rule.no_more_formals h = rule.one_more_formal h rule.no_more_formals
  fitted_more [] (b ∷ as') p a x h = elim x [ ]
  fitted_more (q ∷ ps) [] p a x h = elim x [ ]
  fitted_more (q ∷ ps) (b ∷ as') p a (rule.one_more_formal g more) h = rule.one_more_formal g (fitted_more ps as' p a more h)

  matched_good : (fs : List FormalEntry) (xs : List Sense) → All (λ f. InView k env f.ty) fs → All Right xs → All (λ p. Gives (Fitted p) (spec.actual_of tables p)) (spec.matched fs xs)
  matched_good [] xs v g = tt
  matched_good (f ∷ fs) [] v g = tt
  matched_good (f ∷ fs) (x ∷ xs) v g = (actual_by_good f.mode f.ty x v.0 g.0, matched_good fs xs v.1 g.1)

  matched_formals : (fs : List FormalEntry) (xs : List Sense) → nat_eq (length fs) (length xs) ≡ true → map (λ p. formal_of p.0) (spec.matched fs xs) ≡ map formal_of fs
  matched_formals [] xs e = refl
  matched_formals (f ∷ fs) [] e = absurd (grind (arith, nat_tests))
  matched_formals (f ∷ fs) (x ∷ xs) e = ap (λ gs. formal_of f ∷ gs) (matched_formals fs xs (grind (arith, nat_tests)))

  pub actuals_good : (place : Span) (fs : List FormalEntry) (xs : List Sense) → All (λ f. InView k env f.ty) fs → All Right xs → Gives (FitEach k env (map formal_of fs)) (spec.actuals_of tables place fs xs)
  actuals_good place fs xs v g = tested (FitEach k env (map formal_of fs)) (nat_eq (length fs) (length xs)) (λ s. each (spec.actual_of tables) (Some []) (spec.matched fs xs) s) (wrong fault.Type place)
      (λ e s. subst (λ gs. IfSome (FitEach k env gs) (each (spec.actual_of tables) (Some []) (spec.matched fs xs) s).0) (matched_formals fs xs e)
      (each_gives FittedEach Fitted (spec.actual_of tables) fitted_more [] (Some []) (spec.matched fs xs) s rule.no_more_formals (matched_good fs xs v g)))
      (λ s. tt)

  called_good : (place : Span) (o : Option Profile) (xs : List Sense) → IfSome (ProfileFine k env) o → All Right xs → FoundRight (spec.called tables place o xs)
  called_good place None xs h g = λ s. tt
  called_good place (Some p) xs h g = next (FitEach k env (map formal_of p.formals)) (FoundFine k env) (spec.actuals_of tables place p.formals xs) (spec.result_found place p) (actuals_good place p.formals xs h.formals_in_view g) (λ as' i. result_good place p as' h i)

  -- Conversions (4.6) ----------------------------------------------------------------------------------------

  number_converted : (t : Ty) (x : Sense) → types.is_number t ≡ true → is_scalar t ≡ true → InView k env t → Right x → FoundRight (x.judged tables asking.Number >>= spec.converted_number t)
  number_converted t x n c v g = next (Fine k env asking.Number x.named) (FoundFine k env) (x.judged tables asking.Number) (spec.converted_number t) (g.judged asking.Number tt)
      (λ r h s. (record { typed = rule.convert n (number_is r.ty h.met) h.typed; in_view = v }, c))

  same_designated : (a b : ℕ) (s t : Option Ty) → designated_by tables a ≡ s → designated_by tables b ≡ t → designate_same s t ≡ true → InView k env (ty.Access a) → InView k env (ty.Access b) → (x : Expr) → Typed k env x (ty.Access b) → Typed k env x (ty.Access a)
  same_designated a b (Some s) (Some t) e f h u v x typed =
      rule.as_access v.found u.found (sound.types.designated b t v.is f v.found ∙ sym (same_is s t h) ∙ sym (sound.types.designated a s u.is e u.found)) typed
  same_designated a b None t e f h u v x typed = absurd (cc)
  same_designated a b (Some s) None e f h u v x typed = absurd (cc)

  convertible_good : (a : ℕ) (t : Ty) → is_convertible tables a t ≡ true → InView k env (ty.Access a) → InView k env t → (x : Expr) → Typed k env x t → Typed k env x (ty.Access a)
  convertible_good a (ty.Access b) h u v x typed = by_test (nat_eq a b) refl h
    where
      by_general : (g : Bool) → (g && designate_same (designated_by tables a) (designated_by tables b)) ≡ true → Typed k env x (ty.Access a)
      by_general true h = same_designated a b (designated_by tables a) (designated_by tables b) refl refl h u v x typed
      by_general false h = absurd (cc)

      by_test : (q : Bool) → nat_eq a b ≡ q → (q || (is_general (slice_get tables.states.accesses a) && designate_same (designated_by tables a) (designated_by tables b))) ≡ true → Typed k env x (ty.Access a)
      by_test true e h = let same : b ≡ a = grind (arith, nat_tests) in subst (λ c. Typed k env x (ty.Access c)) same typed
      by_test false e h = by_general (is_general (slice_get tables.states.accesses a)) h
  convertible_good a ty.Integer h u v x typed = absurd (cc)
  convertible_good a ty.Count h u v x typed = absurd (cc)
  convertible_good a ty.Boolean h u v x typed = absurd (cc)
  convertible_good a ty.Address h u v x typed = absurd (cc)
  convertible_good a ty.Handle h u v x typed = absurd (cc)
  convertible_good a (ty.Record t) h u v x typed = absurd (cc)

  at_level_good : {A : Type 0} (Q : A → Type 0) (place : Span) (m n : ℕ) (a : A) → Q a → Gives Q (spec.at_level place m n a)
  at_level_good Q place m n a h = by_test (nat_lt n m)
    where
      by_test : (b : Bool) → Gives Q (if b then but fault.Level place a else known a)
      by_test true s = h
      by_test false s = h

  access_converted : (place inner : Span) (a : ℕ) (r : Typed_value) → InView k env (ty.Access a) → Typed k env r.value r.ty → InView k env r.ty → FoundRight (spec.converted_access tables place inner a r)
  access_converted place inner a r v typed w =
      let made : Found = is.Part (spec.given_place (record { ty = ty.Access a; value = r.value })) in
      tested (FoundFine k env) (is_convertible tables a r.ty) (spec.at_level place (level_of tables r.ty) (level_of_access (slice_get tables.states.accesses a)) made) (wrong fault.Type inner)
      (λ e. at_level_good (FoundFine k env) place (level_of tables r.ty) (level_of_access (slice_get tables.states.accesses a)) made
      (record { part = record { start = ty.Access a; heads = (convertible_good a r.ty e v w r.value typed, rule.of_one_cell refl); walks = arrived; in_view = v }; alias = tt }))
      (λ s. tt)

  viewed_as_good : (place : Span) (t : ℕ) (p : Place) (s : Ty) → InView k env (ty.Record t) → PartOf k env p.head p.steps s → FoundRight (spec.viewed_as tables place t p s)
  viewed_as_good place t p (ty.Record s) v part = tested (FoundFine k env) (descends tables t s) (noting (ty.Record s) (is.View (spec.as_type (ty.Record t) p))) (wrong fault.Type place)
      (λ e n. record { own = ty.Record s; part = part; covers = ancestor (sound.types.ancestor t s e); in_view = v })
      (λ n. tt)
  viewed_as_good place t p ty.Integer v part = λ n. tt
  viewed_as_good place t p ty.Count v part = λ n. tt
  viewed_as_good place t p ty.Boolean v part = λ n. tt
  viewed_as_good place t p ty.Address v part = λ n. tt
  viewed_as_good place t p ty.Handle v part = λ n. tt
  viewed_as_good place t p (ty.Access a) v part = λ n. tt

  viewed_good : (place inner : Span) (t : ℕ) (f : Found) → InView k env (ty.Record t) → FoundFine k env f → FoundRight (spec.viewed tables place inner t f)
  viewed_good place inner t (is.Part p) v h = viewed_as_good place t p p.ty v h.part
  viewed_good place inner t _ v h = λ s. tt

  viewed_by_good : (place inner : Span) (t : ℕ) (o : Option (Tables → Judgement Found)) → InView k env (ty.Record t) → Named o → FoundRight (spec.viewed_by tables place inner t o)
  viewed_by_good place inner t None v h = λ s. tt
  viewed_by_good place inner t (Some name) v h = next (FoundFine k env) (FoundFine k env) (name tables) (spec.viewed tables place inner t) h (λ f i. viewed_good place inner t f v i)

  converted_good : (place : Span) (t : Ty) (x : Sense) → InView k env t → Right x → FoundRight (spec.converted tables place t x)
  converted_good place ty.Integer x v g = number_converted ty.Integer x refl refl tt g
  converted_good place ty.Count x v g = number_converted ty.Count x refl refl tt g
  converted_good place (ty.Access a) x v g = next (Fine k env asking.Anything x.named) (FoundFine k env) (x.judged tables asking.Anything) (spec.converted_access tables place x.within a) (g.judged asking.Anything tt) (λ r h. access_converted place x.within a r v h.typed h.in_view)
  converted_good place (ty.Record t) x v g = viewed_by_good place x.place t x.bare v g.bare
  converted_good place ty.Boolean x v g = λ s. tt
  converted_good place ty.Address x v g = λ s. tt
  converted_good place ty.Handle x v g = λ s. tt

  -- Functions on mark pools (13.11.4) -----------------------------------------------------------------------------

  subpool_made : (which : SubpoolFunction) (p : Place) (s : Ty) → ty.Record mark_release_pool ≡ p.ty → PartOf k env p.head p.steps s → Covers k p.ty s → FoundFine k env (is.Computed (record { ty = ty.Handle; value = e.Subpool which (spec.name_of p) }))
  subpool_made which p s q part c = (record { typed = rule.subpool (subst (λ u. Covers k u s) (sym q) c) (name_good p.head p.steps s part) sound.types.mark_pool; in_view = tt }, refl)

  subpool_by_good : (which : SubpoolFunction) (x : Sense) → Right x → FoundRight (spec.subpool_by tables which x)
  subpool_by_good which x g =
      next (VariableFine (ty.Record mark_release_pool)) (FoundFine k env) (spec.variable_of tables (ty.Record mark_release_pool) x) (λ p. known (is.Computed (record { ty = ty.Handle; value = e.Subpool which (spec.name_of p) }))) (variable_of_good (ty.Record mark_release_pool) x g)
      (λ p h s. subpool_made which p h.own h.typed h.part h.covers)

  -- Selectors and dereferences (4.1) ---------------------------------------------------------------------------------

  designates_good : (place : Span) (p : Place) (a : ℕ) (o : Option Ty) → designated_by tables a ≡ o → PartOf k env p.head p.steps (ty.Access a) → Gives (PlaceFine k env) (spec.designates place p o)
  designates_good place p a None e w s = tt
  designates_good place p a (Some t) e w s =
      record {
        part = record {
          start = w.start;
          heads = w.heads;
          walks = subst (λ u. Walks k w.start (p.steps ++ step.Dereference ∷ []) u) (sound.types.designated a t w.in_view.is e w.in_view.found) (walk_on p.steps w.walks (types.dereference w.in_view.found));
          in_view = sound.types.designated_in_view a t e w.in_view;
        };
        alias = tt;
      }

  pub dereferenced_good : (place : Span) (t : Ty) (p : Place) → PartOf k env p.head p.steps t → Gives (PlaceFine k env) (spec.dereferenced tables place t p)
  dereferenced_good place (ty.Access a) p w = designates_good place p a (designated_by tables a) refl w
  dereferenced_good place ty.Integer p w = λ s. tt
  dereferenced_good place ty.Count p w = λ s. tt
  dereferenced_good place ty.Boolean p w = λ s. tt
  dereferenced_good place ty.Address p w = λ s. tt
  dereferenced_good place ty.Handle p w = λ s. tt
  dereferenced_good place (ty.Record t) p w = λ s. tt

  some_if : (Q : ℕ → Type 0) (b : Bool) (n : ℕ) (o : Option ℕ) → Q n → IfSome Q o → IfSome Q (if b then Some n else o)
  some_if Q true n o h k = h
  some_if Q false n o h k = k

  pub discriminant_is : (r : Root) (name : List ℕ) → IfSome (HasDiscriminant r) (spec.discriminant_named r name)
  discriminant_is root.BlockPool name =
      some_if (HasDiscriminant root.BlockPool) (same_name name (codes "block_size")) 0 (if same_name name (codes "block_count") then Some 1 else None) types.block_size
      (some_if (HasDiscriminant root.BlockPool) (same_name name (codes "block_count")) 1 None types.block_count tt)
  discriminant_is root.MarkPool name = some_if (HasDiscriminant root.MarkPool) (same_name name (codes "pool_size")) 0 None types.pool_size tt
  discriminant_is root.Untagged name = tt
  discriminant_is root.Controlled name = tt

  discriminant_at_good : (place : Span) (p : Place) (t : ℕ) (r : Root) (o : Option ℕ) → HasRoot k t r → IfSome (HasDiscriminant r) o → PartOf k env p.head p.steps (ty.Record t) → FoundRight (spec.discriminant_at place p o)
  discriminant_at_good place p t r None h i w = λ s. tt
  discriminant_at_good place p t r (Some n) h i w = λ s. record { number = t; is = r; part = w; rooted = h; has = i }

  discriminant_good : (place : Span) (name : List ℕ) (t : ℕ) (p : Place) (o : Option RecordEntry) → slice_get tables.records t ≡ o → PartOf k env p.head p.steps (ty.Record t) → FoundRight (spec.discriminant_at place p (spec.discriminant_named (root_of o) name))
  discriminant_good place name t p None e w = λ s. tt
  discriminant_good place name t p (Some r) e w = discriminant_at_good place p t r.root (spec.discriminant_named r.root name) (sound.types.rooted t r e) (discriminant_is r.root name) w

  selected_in_good : (place : Span) (name : List ℕ) (t : ℕ) (p : Place) (o : Option (ℕ × Ty)) → component_of tables name t ≡ o → PartOf k env p.head p.steps (ty.Record t) → FoundRight (spec.selected_in tables place name t p o)
  selected_in_good place name t p None e w s = discriminant_good place name t p (slice_get tables.records t) refl w s
  selected_in_good place name t p (Some c) e w s =
      let h = sound.types.component name t c.0 c.1 e w.in_view in
      record { part = record { start = w.start; heads = w.heads; walks = walk_on p.steps w.walks h.0; in_view = h.1 }; alias = tt }

  selected_of_good : (place : Span) (name : List ℕ) (t : Ty) (p : Place) → PartOf k env p.head p.steps t → FoundRight (spec.selected_of tables place name t p)
  selected_of_good place name (ty.Record t) p w = selected_in_good place name t p (component_of tables name t) refl w
  selected_of_good place name ty.Integer p w = λ s. tt
  selected_of_good place name ty.Count p w = λ s. tt
  selected_of_good place name ty.Boolean p w = λ s. tt
  selected_of_good place name ty.Address p w = λ s. tt
  selected_of_good place name ty.Handle p w = λ s. tt
  selected_of_good place name (ty.Access a) p w = λ s. tt

  selected_through_good : (place : Span) (name : List ℕ) (t : Ty) (p : Place) → PartOf k env p.head p.steps t → FoundRight (spec.selected_through tables place name t p)
  selected_through_good place name (ty.Access a) p w =
      next (PlaceFine k env) (FoundFine k env) (spec.dereferenced tables place (ty.Access a) p) (λ q. spec.selected_of tables place name q.ty q) (dereferenced_good place (ty.Access a) p w) (λ q h. selected_of_good place name q.ty q h.part)
  selected_through_good place name (ty.Record t) p w = selected_of_good place name (ty.Record t) p w
  selected_through_good place name ty.Integer p w = λ s. tt
  selected_through_good place name ty.Count p w = λ s. tt
  selected_through_good place name ty.Boolean p w = λ s. tt
  selected_through_good place name ty.Address p w = λ s. tt
  selected_through_good place name ty.Handle p w = λ s. tt

  selected_good : (place : Span) (name : List ℕ) (f : Found) → FoundFine k env f → FoundRight (spec.selected tables place name f)
  selected_good place name (is.Part p) h = selected_through_good place name p.ty p h.part
  selected_good place name _ h = λ s. tt

  all_of_good : (place : Span) (f : Found) → FoundFine k env f → FoundRight (spec.all_of tables place f)
  all_of_good place (is.Part p) h = next (PlaceFine k env) (FoundFine k env) (spec.dereferenced tables place p.ty p) (λ q. known (is.Part q)) (dereferenced_good place p.ty p h.part) (λ q i s. i)
  all_of_good place _ h = λ s. tt

  -- Attributes (3.5, 3.10.2) ----------------------------------------------------------------------------------------------

  accessed_good : (place : Span) (h : Head) (steps : List Step) (t : Ty) (m : Mutability) (a : Aliasing) → AliasFine env a h t → FoundRight (spec.accessed place h steps t m a)
  accessed_good place (head.At v) [] (ty.Record t) mutability.Variable aliasing.Aliased f = λ s. record { number = t; is = refl; names = f }
  accessed_good place h steps t m a f = λ s. tt

  image_of_good : (place : Span) (t : Ty) → FoundRight (spec.image_of place t)
  image_of_good place ty.Integer = λ s. refl
  image_of_good place ty.Boolean = λ s. refl
  image_of_good place _ = λ s. tt

  bound_of_good : (place : Span) (t : Ty) (cell : ℕ) → IsCell ty.Integer cell → FoundRight (spec.bound_of place t cell)
  bound_of_good place ty.Integer cell h = λ s. (record { typed = rule.constant refl h tt; in_view = tt }, refl)
  bound_of_good place _ cell h = λ s. tt

  attributed_good : (place : Span) (a : Attribute) (f : Found) → FoundFine k env f → FoundRight (spec.attributed place a f)
  attributed_good place attribute.Access (is.Part p) h = accessed_good place p.head p.steps p.ty p.mutability p.aliasing h.alias
  attributed_good place attribute.Image (is.TypeName t) h = image_of_good place t
  attributed_good place attribute.First (is.TypeName t) h = bound_of_good place t integer_first_cell (inr (omega arith, omega arith))
  attributed_good place attribute.Last (is.TypeName t) h = bound_of_good place t integer_last (inl (omega arith))
  attributed_good place a f h = λ s. tt

  -- Suffixes ------------------------------------------------------------------------------------------------------------------

  imaged_good : (place : Span) (t : Ty) (x : Sense) → is_imaged t ≡ true → Right x → FoundRight (x.judged tables (asking.Exactly t) >>= spec.imaged)
  imaged_good place t x h g = next (Fine k env (asking.Exactly t) x.named) (FoundFine k env) (x.judged tables (asking.Exactly t)) spec.imaged (g.judged (asking.Exactly t) (imaged_in_view t h))
      (λ r i s. (record { typed = i.typed; in_view = i.in_view }, subst (λ u. is_imaged u ≡ true) (same_is t r.ty i.met) h))
    where
      imaged_in_view : (t : Ty) → is_imaged t ≡ true → InView k env t
      imaged_in_view ty.Integer h = tt
      imaged_in_view ty.Boolean h = tt
      imaged_in_view ty.Count h = tt
      imaged_in_view ty.Address h = tt
      imaged_in_view ty.Handle h = tt
      imaged_in_view (ty.Access a) h = absurd (cc)
      imaged_in_view (ty.Record t) h = absurd (cc)

  with_one_good : (place : Span) (f : Found) (x : Sense) → FoundFine k env f → Right x → FoundRight (spec.with_one tables place f x)
  with_one_good place (is.TypeName t) x h g = converted_good place t x h g
  with_one_good place (is.Subpools which) x h g = subpool_by_good which x g
  with_one_good place (is.Image t) x h g = imaged_good place t x h g
  with_one_good place _ x h g = λ s. tt

  with_arguments_good : (place : Span) (f : Found) (x : Sense) (more : List Sense) → FoundFine k env f → Right x → All Right more → FoundRight (spec.with_arguments tables place f x more)
  with_arguments_good place (is.Callable n) x more h g i = called_good place (spec.profile_of tables n) (x ∷ more) (profile_good n) (g, i)
  with_arguments_good place (is.Part p) x [] h g i = with_one_good place (is.Part p) x h g
  with_arguments_good place (is.TypeName p) x [] h g i = with_one_good place (is.TypeName p) x h g
  with_arguments_good place (is.Computed p) x [] h g i = with_one_good place (is.Computed p) x h g
  with_arguments_good place (is.Subpools p) x [] h g i = with_one_good place (is.Subpools p) x h g
  with_arguments_good place (is.Image p) x [] h g i = with_one_good place (is.Image p) x h g
  with_arguments_good place (is.Imaged p) x [] h g i = with_one_good place (is.Imaged p) x h g
  with_arguments_good place (is.Discriminant p n) x [] h g i = with_one_good place (is.Discriminant p n) x h g
  with_arguments_good place (is.View p) x [] h g i = with_one_good place (is.View p) x h g
  with_arguments_good place (is.Accessed v t) x [] h g i = with_one_good place (is.Accessed v t) x h g
  with_arguments_good place _ x (y ∷ more) h g i = λ s. tt

  abbrev pub RightSuffix : Suffix Sense → Type 0
  RightSuffix = SuffixOf Right

  suffixed_good : (place : Span) (f : Found) (x : Suffix Sense) → FoundFine k env f → RightSuffix x → FoundRight (spec.suffixed tables place f x)
  suffixed_good place f (suffix.Selector i) h g = next (FoundFine k env) (FoundFine k env) (spec.settled tables place f) (spec.selected tables place i.text) (settled_good place f h) (selected_good place i.text)
  suffixed_good place f (suffix.All t) h g = next (FoundFine k env) (FoundFine k env) (spec.settled tables place f) (spec.all_of tables place) (settled_good place f h) (all_of_good place)
  suffixed_good place f (suffix.Arguments t x more) h g = with_arguments_good place f x more h g.0 g.1
  suffixed_good place f (suffix.Attribute t a) h g = attributed_good place a f h

  suffixes_good : (place : Span) (xs : List (Suffix Sense)) (f : Found) → FoundFine k env f → All RightSuffix xs → FoundRight (spec.suffixes tables place xs f)
  suffixes_good place [] f h g = λ s. h
  suffixes_good place (x ∷ xs) f h g = next (FoundFine k env) (FoundFine k env) (spec.suffixed tables place f x) (spec.suffixes tables place xs) (suffixed_good place f x h g.0) (λ f i. suffixes_good place xs f i g.1)

  pub found_good : (u : Use) (xs : List (Suffix Sense)) → All RightSuffix xs → FoundRight (spec.found u xs tables)
  found_good u xs g = next (FoundFine k env) (FoundFine k env) (spec.first_found tables u) (spec.suffixes tables u.span xs) (first_good u) (λ f h. suffixes_good u.span xs f h g)

  pub settled_found : (u : Use) (xs : List (Suffix Sense)) (place : Span) → All RightSuffix xs → FoundRight (spec.found u xs tables >>= spec.settled tables place)
  settled_found u xs place g = next (FoundFine k env) (FoundFine k env) (spec.found u xs tables) (spec.settled tables place) (found_good u xs g) (settled_good place)

  -- Values ---------------------------------------------------------------------------------------------------------------------

  pub fits_good : {A : Type 0} (place : Span) (asked : Asked) (named : Option A) (t : Typed_value) → Typed k env t.value t.ty → InView k env t.ty → ScalarUnlessNamed named t.ty → Gives (Fine k env asked named) (spec.fits place asked t)
  fits_good place asked named t typed v c = tested (Fine k env asked named) (spec.meets asked t.ty) (noting t.ty t) (wrong fault.Type place) (λ e s. record { typed = typed; in_view = v; met = e; scalar = c }) (λ s. tt)

  access_value_good : {A : Type 0} (place : Span) (v : Var) (t : Ty) (asked : Asked) (name : A) → AskedFine k env asked → AccessedFine k env v t → Gives (Fine k env asked (Some name)) (spec.access_value tables place v t asked)
  access_value_good {A = A} place v t (asking.Exactly (ty.Access a)) name w h =
      let made : Typed_value = record { ty = ty.Access a; value = e.Access v } in
      let Q : Typed_value → Type 0 = Fine k env (asking.Exactly (ty.Access a)) (Some name) in
      tested Q (is_general (slice_get tables.states.accesses a) && spec.designates_this t (designated_by tables a)) (spec.at_level place v.level (level_of_access (slice_get tables.states.accesses a)) made) (wrong fault.Type place)
      (λ q. at_level_good Q place v.level (level_of_access (slice_get tables.states.accesses a)) made
      (record { typed = rule.access h.names w.found (by_general (is_general (slice_get tables.states.accesses a)) q ∙ h.is); in_view = w; met = same_self (ty.Access a); scalar = tt }))
      (λ s. tt)
    where
      by_designated : (o : Option Ty) → designated_by tables a ≡ o → spec.designates_this t o ≡ true → w.is.designated ≡ t
      by_designated (Some u) e q = sound.types.designated a u w.is e w.found ∙ same_is u t q
      by_designated None e q = absurd (cc)

      by_general : (g : Bool) → (g && spec.designates_this t (designated_by tables a)) ≡ true → w.is.designated ≡ t
      by_general true q = by_designated (designated_by tables a) refl q
      by_general false q = absurd (cc)
  access_value_good place v t _ name w h = λ s. tt

  value_found_good : {A : Type 0} (place : Span) (asked : Asked) (f : Found) (name : A) → AskedFine k env asked → FoundFine k env f → Gives (Fine k env asked (Some name)) (spec.value_found tables place asked f)
  value_found_good place asked (is.Part p) name a h = fits_good place asked (Some name) (record { ty = p.ty; value = spec.value_at p.head p.steps p.ty }) (value_good p.head p.steps p.ty h.part) h.part.in_view tt
  value_found_good place asked (is.Computed t) name a h = fits_good place asked (Some name) t h.0.typed h.0.in_view tt
  value_found_good place asked (is.Discriminant p i) name a h = fits_good place asked (Some name) (record { ty = ty.Count; value = e.Discriminant (spec.name_of p) i }) (rule.discriminant (name_good p.head p.steps (ty.Record h.number) h.part) h.rooted h.has) tt tt
  value_found_good place asked (is.Accessed v t) name a h = access_value_good place v t asked name a h
  value_found_good place asked _ name a h = λ s. tt

  pub name_judged_good : {A : Type 0} (u : Use) (xs : List (Suffix Sense)) (asked : Asked) (name : A) → All RightSuffix xs → AskedFine k env asked → Gives (Fine k env asked (Some name)) (spec.name_judged u xs tables asked)
  name_judged_good u xs asked name g a = next (FoundFine k env) (Fine k env asked (Some name)) (spec.found u xs tables >>= spec.settled tables u.span) (spec.value_found tables u.span asked) (settled_found u xs u.span g) (λ f h. value_found_good u.span asked f name a h)
