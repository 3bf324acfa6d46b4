-- What declarations name and hold is well typed: types, objects with their values and discriminants, pools, headings, components.
use Rattle.std.proofs.Common.{◌≡◌, refl, sym, ap, ◌∙◌, subst, ℕ, suc, Bool, true, false, ◌&&◌, ◌||◌, if◌then◌else◌, List, [], ◌∷◌, ◌++◌, map, length, slice_get, Option, Some, None}
use Rattle.ctl_tree.specs.declared.span.Span.{Span}
use Rattle.ctl_tree.specs.declared.fault.FaultCode.TheVariants as fault
use Rattle.ctl_program.specs.declared.types.Ty.{Ty}
use Rattle.ctl_program.specs.declared.types.Ty.TheVariants as ty
use Rattle.ctl_program.specs.declared.types.Var.{Var}
use Rattle.ctl_program.specs.declared.types.Root.{Root}
use Rattle.ctl_program.specs.declared.types.Root.TheVariants as root
use Rattle.ctl_program.specs.declared.expression.Expr.{Expr}
use Rattle.ctl_program.specs.declared.statement.Association.{Association as Checked_association}
use Rattle.ctl_syntax.specs.declared.denoted.Definition.{Definition}
use Rattle.ctl_syntax.specs.declared.denoted.Denoted.{Denoted}
use Rattle.ctl_syntax.specs.declared.denoted.Denoted.TheVariants as denoted
use Rattle.ctl_syntax.specs.declared.denoted.Use.{Use}
use Rattle.ctl_syntax.specs.declared.item.Aliasing.{Aliasing}
use Rattle.ctl_syntax.specs.declared.item.Aliasing.TheVariants as aliasing
use Rattle.ctl_syntax.specs.declared.item.Association.{Association}
use Rattle.ctl_syntax.specs.declared.item.Coverage.{Coverage}
use Rattle.ctl_syntax.specs.declared.item.Coverage.TheVariants as coverage
use Rattle.ctl_syntax.specs.declared.item.Formal.{Formal}
use Rattle.ctl_syntax.specs.declared.item.Objects.{Objects}
use Rattle.ctl_syntax.specs.declared.item.Specification.{Specification}
use Rattle.ctl_syntax.specs.declared.name.Identifier.{Identifier}
use Rattle.ctl_syntax.specs.declared.name.Mark.{Mark}
use Rattle.ctl_typing.specs.declared.table.Tables.{Tables}
use Rattle.ctl_typing.specs.declared.table.Entry.{Entry}
use Rattle.ctl_typing.specs.declared.table.Entry.TheVariants as entry
use Rattle.ctl_typing.specs.declared.table.Designated.{Designated}
use Rattle.ctl_typing.specs.declared.table.Designated.TheVariants as designated
use Rattle.ctl_draft.specs.declared.draft.Enclosing.{Enclosing}
use Rattle.ctl_sound.specs.Law.{DeclarationsWellTyped}
use Rattle.ctl_typing.specs.declared.table.FormalEntry.{FormalEntry}
use Rattle.ctl_typing.specs.declared.table.ObjectEntry.{ObjectEntry}
use Rattle.ctl_typing.specs.declared.table.RecordEntry.{RecordEntry}
use Rattle.ctl_typing.specs.declared.table.Standing.{Standing}
use Rattle.ctl_typing.specs.declared.table.Standing.TheVariants as standing
use Rattle.ctl_typing.specs.declared.notes.Notes.{Notes}
use Rattle.ctl_typing.specs.declared.found.Asked.TheVariants as asking
use Rattle.ctl_typing.specs.Judgement.{Judgement, known, but, wrong, ◌>>=◌, each}
use Rattle.ctl_typing.specs.Lookup.{root_of, is_limited}
use Rattle.ctl_typing.specs.Typing as expr
use Rattle.ctl_typing.specs.Typing.{Sense, sense}
use Rattle.ctl_draft.specs.Operations.{formal}
use Rattle.ctl_draft.specs.Marks as marks
use Rattle.ctl_declarations.specs.Declarations as decl
use Rattle.ctl_access_types.specs.AccessTypes as accessing
use Rattle.ctl_declarations.specs.Types as defined
use Rattle.ctl_well_typed.specs.Setting.{Declared, Frames, Names, Setting, HasRecord, InView}
use Rattle.ctl_well_typed.specs.Types.{HasDiscriminant}
use Rattle.ctl_well_typed.specs.Expressions as rule
use Rattle.ctl_well_typed.specs.Expressions.{Typed, Perhaps}
use Rattle.ctl_well_typed.specs.Statements as does
use Rattle.ctl_well_typed.specs.Statements.{Fills, Given, Elaborated}
use Rattle.ctl_sound.specs.Known.{IfSome, Gives, All}
use Rattle.ctl_sound.specs.Sound.{EntryFine, DeclaredFine, Sound, Fine, Good}
use Rattle.ctl_sound.proofs.Known.{next, tested, both_give, each_gives}
use Rattle.ctl_sound.proofs.Tests.{same_is}
use Rattle.ctl_sound.proofs.Values.{mark_good, expression_right}

module _ (k : Setting) (env : Frames) (tables : Tables) (sound : Sound k env tables) where
  abbrev Right : Sense → Type 0
  Right x = Good k env tables x

  abbrev Usable : Ty → Type 0
  Usable t = InView k env t

  -- Types (3.2.2) ---------------------------------------------------------------------------

  pub named_type_good : (place : Span) (m : Mark Use) → Gives Usable (marks.named_type tables place m)
  named_type_good place m = tested Usable (marks.is_root_pool m) (wrong fault.Pool m.first.span) (expr.mark_judged tables (expr.told_at place m.first) m.rest) (λ e s. tt) (mark_good k env tables sound (expr.told_at place m.first) m.rest)

  pub concrete_type_good : (place : Span) (m : Mark Use) → Gives Usable (marks.concrete_type tables place m)
  concrete_type_good place m = next Usable Usable (marks.named_type tables place m) (λ t. if expr.has_objects tables t then known t else wrong fault.Type place) (named_type_good place m)
      (λ t v. tested Usable (expr.has_objects tables t) (known t) (wrong fault.Type place) (λ e s. v) (λ s. tt))

  -- told, and known all the same
  told_good : {A : Type 0} (Q : A → Type 0) (b : Bool) (p : Judgement A) (a : A) → Gives Q p → Q a → Gives Q (if b then p else known a)
  told_good Q true p a h i = h
  told_good Q false p a h i = λ s. i

  pub no_pool_good : (place : Span) (t : Ty) → Usable t → Gives Usable (marks.no_pool tables place t)
  no_pool_good place t v = told_good Usable (marks.is_pool tables t) (but fault.Pool place t) t (λ s. v) v

  pub object_type_good : (place : Span) (o : Objects Definition Use) → Gives Usable (decl.object_type place o tables)
  object_type_good place o = next Usable Usable (marks.concrete_type tables place o.mark) (decl.no_aliased_pool tables o.mark.first.span o.aliasing) (concrete_type_good place o.mark) (λ t v. by_aliasing t v o.aliasing)
    where
      by_aliasing : (t : Ty) → Usable t → (a : Aliasing) → Gives Usable (decl.no_aliased_pool tables o.mark.first.span a t)
      by_aliasing t v aliasing.Aliased = no_pool_good o.mark.first.span t v
      by_aliasing t v aliasing.Unaliased = λ s. v

  -- Objects with their values (3.3.1) ------------------------------------------------------------

  abbrev Maybe : Ty → Option Expr → Type 0
  Maybe t o = Perhaps k env o t

  pub value_of_good : (t : Ty) (o : Option Sense) → Usable t → IfSome Right o → Gives (Maybe t) (decl.value_of (Some t) o tables)
  value_of_good t None v g = λ s. rule.left_out
  value_of_good t (Some x) v g = next (Fine k env (asking.Exactly t) x.named) (Maybe t) (x.judged tables (asking.Exactly t)) (λ r. known (Some r.value)) (g.judged (asking.Exactly t) v) (λ r h s. rule.given (subst (λ u. Typed k env r.value u) (sym (same_is t r.ty h.met)) h.typed))

  pub default_good : (t : Ty) (o : Option Sense) → Usable t → IfSome Right o → Gives (Maybe t) (defined.default_of tables (Some t) o)
  default_good t None v g = λ s. rule.left_out
  default_good t (Some x) v g = next (Fine k env (asking.Exactly t) x.named) (Maybe t) (x.judged tables (asking.Exactly t)) (λ r. known (Some r.value)) (g.judged (asking.Exactly t) v) (λ r h s. rule.given (subst (λ u. Typed k env r.value u) (sym (same_is t r.ty h.met)) h.typed))

  -- a discriminant has type Storage_Count, whatever its position
  abbrev Counted : ℕ × Association Use → Checked_association → Type 0
  Counted p a = (a.position ≡ p.0) × Typed k env a.value ty.Count

  discriminant_good : (p : ℕ × Association Use) → Gives (Counted p) (decl.discriminant tables p)
  discriminant_good p = next (Fine k env (asking.Exactly ty.Count) (sense p.1.value).named) (Counted p) ((sense p.1.value).judged tables (asking.Exactly ty.Count)) (λ r. known (record { position = p.0; value = r.value })) ((expression_right k env tables sound p.1.value).judged (asking.Exactly ty.Count) tt)
      (λ r h s. (refl, subst (λ u. Typed k env r.value u) (sym (same_is ty.Count r.ty h.met)) h.typed))

  abbrev Positioned : Root → List (ℕ × Association Use) → List Checked_association → Type 0
  Positioned r ps as' = (map (λ (a : Checked_association). a.position) as' ≡ map (λ (p : ℕ × Association Use). p.0) ps) × (All (λ (p : ℕ × Association Use). HasDiscriminant r p.0) ps → Given k env r as' × (length as' ≡ length ps))

  given_more : (r : Root) (as' : List Checked_association) (a : Checked_association) → Given k env r as' → HasDiscriminant r a.position → Typed k env a.value ty.Count → Given k env r (as' ++ a ∷ [])
  given_more r [] a does.no_more_values h i = does.one_more_value h i does.no_more_values
  given_more r (b ∷ as') a (does.one_more_value j l more) h i = does.one_more_value j l (given_more r as' a more h i)

  length_more : {A : Type 0} (xs : List A) (x : A) → length (xs ++ x ∷ []) ≡ suc (length xs)
  length_more [] x = refl
  length_more (y ∷ xs) x = ap suc (length_more xs x)

  mapped_more : {A B : Type 0} (f : A → B) (xs : List A) (x : A) → map f (xs ++ x ∷ []) ≡ map f xs ++ f x ∷ []
  mapped_more f [] x = refl
  mapped_more f (y ∷ xs) x = ap (λ ys. f y ∷ ys) (mapped_more f xs x)

  all_before : {A : Type 0} (P : A → Type 0) (xs : List A) (x : A) → All P (xs ++ x ∷ []) → All P xs × P x
  all_before P [] x h = (tt, h.0)
  all_before P (y ∷ xs) x h = let i = all_before P xs x h.1 in ((h.0, i.0), i.1)

  positioned_more : (r : Root) (ps : List (ℕ × Association Use)) (as' : List Checked_association) (p : ℕ × Association Use) (a : Checked_association) → Positioned r ps as' → Counted p a → Positioned r (ps ++ p ∷ []) (as' ++ a ∷ [])
  positioned_more r ps as' p a h i = (
    mapped_more (λ (b : Checked_association). b.position) as' a ∙ ap (λ ns. ns ++ a.position ∷ []) h.0 ∙ ap (λ n. map (λ (q : ℕ × Association Use). q.0) ps ++ n ∷ []) i.0 ∙ sym (mapped_more (λ (q : ℕ × Association Use). q.0) ps p),
    λ g.
        let before = all_before (λ (q : ℕ × Association Use). HasDiscriminant r q.0) ps p g in
        let so_far = h.1 before.0 in
        (given_more r as' a so_far.0 (subst (λ n. HasDiscriminant r n) (sym i.0) before.1) i.1, length_more as' a ∙ ap suc so_far.1 ∙ sym (length_more ps p)),
  )

  all_counted : (ps : List (ℕ × Association Use)) → All (λ p. Gives (Counted p) (decl.discriminant tables p)) ps
  all_counted [] = tt
  all_counted (p ∷ ps) = (discriminant_good p, all_counted ps)

  positioned : (r : Root) (ps : List (ℕ × Association Use)) (s : Notes) → IfSome (Positioned r ps) (each (decl.discriminant tables) (Some []) ps s).0
  positioned r ps s = each_gives (Positioned r) Counted (decl.discriminant tables) (positioned_more r) [] (Some []) ps s (refl, λ q. (does.no_more_values, refl)) (all_counted ps)

  -- the discriminants at these positions
  pub discriminants_good : (r : Root) (ps : List (ℕ × Association Use)) → All (λ (p : ℕ × Association Use). HasDiscriminant r p.0) ps → Gives (λ as'. Given k env r as' × (length as' ≡ length ps)) (λ n. each (decl.discriminant tables) (Some []) ps n)
  discriminants_good r ps g s = onward (each (decl.discriminant tables) (Some []) ps s).0 (positioned r ps s)
    where
      onward : (o : Option (List Checked_association)) → IfSome (Positioned r ps) o → IfSome (λ as'. Given k env r as' × (length as' ≡ length ps)) o
      onward None h = tt
      onward (Some as') h = h.1 g

  -- and they stand at these
  pub discriminants_stand : (ps : List (ℕ × Association Use)) → Gives (λ as'. map (λ (a : Checked_association). a.position) as' ≡ map (λ (p : ℕ × Association Use). p.0) ps) (λ n. each (decl.discriminant tables) (Some []) ps n)
  discriminants_stand ps s = onward (each (decl.discriminant tables) (Some []) ps s).0 (positioned root.Untagged ps s)
    where
      onward : (o : Option (List Checked_association)) → IfSome (Positioned root.Untagged ps) o → IfSome (λ as'. map (λ (a : Checked_association). a.position) as' ≡ map (λ (p : ℕ × Association Use). p.0) ps) o
      onward None h = tt
      onward (Some as') h = h.0

  -- Pools (13.11) -----------------------------------------------------------------------------------

  pub record PoolFine (p : Var × ℕ) : Type 0 where
    pub names : Names env p.0 (Declared (ty.Record p.1))
    pub is : RecordEntry
    pub found : slice_get tables.records p.1 ≡ Some is
    pub is_pool : marks.is_pool_root is.root ≡ true

  pool_found : (v : Var) (t : ℕ) (o : Option RecordEntry) → slice_get tables.records t ≡ o → marks.is_pool_root (root_of o) ≡ true → Names env v (Declared (ty.Record t)) → PoolFine (v, t)
  pool_found v t (Some r) e h n = record { names = n; is = r; found = e; is_pool = h }
  pool_found v t None e h n = absurd (cc)

  pool_of_type_good : (place : Span) (v : Var) (t : Ty) → Names env v (Declared t) → Gives PoolFine (marks.pool_of_type tables place v t)
  pool_of_type_good place v (ty.Record t) n = tested PoolFine (marks.is_pool tables (ty.Record t)) (known (v, t)) (wrong fault.Pool place) (λ h s. pool_found v t (slice_get tables.records t) refl h n) (λ s. tt)
  pool_of_type_good place v ty.Integer n = λ s. tt
  pool_of_type_good place v ty.Count n = λ s. tt
  pool_of_type_good place v ty.Boolean n = λ s. tt
  pool_of_type_good place v ty.Address n = λ s. tt
  pool_of_type_good place v ty.Handle n = λ s. tt
  pool_of_type_good place v (ty.Access a) n = λ s. tt

  pool_standing_good : (place : Span) (o : ObjectEntry) (q : Standing) → DeclaredFine env q o.var o.ty → Gives PoolFine (marks.pool_standing tables place q o)
  pool_standing_good place o standing.Declared h = pool_of_type_good place o.var o.ty h
  pool_standing_good place o standing.Formal h = λ s. tt
  pool_standing_good place o standing.LoopParameter h = λ s. tt

  pool_entry_good : (place : Span) (e : Option Entry) → IfSome (EntryFine k env) e → Gives PoolFine (marks.pool_entry tables place e)
  pool_entry_good place (Some (entry.Object o)) h = pool_standing_good place o o.standing h.declared
  pool_entry_good place (Some entry.Unknown) h = λ s. tt
  pool_entry_good place e h = λ s. tt

  pool_denoted_good : (place : Span) (d : Denoted) → Gives PoolFine (marks.pool_denoted tables place d)
  pool_denoted_good place (denoted.Declared n level) = pool_entry_good place (slice_get tables.entries n) (sound.entries n)
  pool_denoted_good place (denoted.Library l) = λ s. tt
  pool_denoted_good place (denoted.Operation o) = λ s. tt
  pool_denoted_good place denoted.Unknown = λ s. tt

  pub pool_named_good : (m : Mark Use) → Gives PoolFine (marks.pool_named tables m)
  pool_named_good m = by_rest m.rest
    where
      by_rest : (is' : List Identifier) → Gives PoolFine (marks.pool_by tables m.first is')
      by_rest [] = pool_denoted_good m.first.span m.first.denoted
      by_rest (i ∷ is') = λ s. tt

  -- Headings (6.1) ---------------------------------------------------------------------------------------

  abbrev FormalsUsable : List FormalEntry → Type 0
  FormalsUsable fs = All (λ f. Usable f.ty) fs

  all_joined : {A : Type 0} (P : A → Type 0) (xs ys : List A) → All P xs → All P ys → All P (xs ++ ys)
  all_joined P [] ys h i = i
  all_joined P (x ∷ xs) ys h i = (h.0, all_joined P xs ys h.1 i)

  formal_type_good : (place : Span) (f : Formal Definition Use) → Gives FormalsUsable (decl.formal_type tables place f)
  formal_type_good place f = next Usable FormalsUsable (marks.named_type tables place f.mark) (λ t. known (map (λ n. formal f.mode t) f.names)) (named_type_good place f.mark) (λ t v s. each_name t v f.names)
    where
      each_name : (t : Ty) → Usable t → (ns : List Definition) → FormalsUsable (map (λ n. formal f.mode t) ns)
      each_name t v [] = tt
      each_name t v (n ∷ ns) = (v, each_name t v ns)

  formals_turn : (place : Span) (before : Option (List FormalEntry)) (r : Option (List FormalEntry) × Notes) (fs : List (Formal Definition Use)) → decl.formals_next tables place before r fs ≡ decl.formals_on tables place (decl.more_formals before r.0) fs r.1
  formals_turn place before (more, n) [] = refl
  formals_turn place before (more, n) (f ∷ fs) = refl

  more_usable : (before more : Option (List FormalEntry)) → IfSome FormalsUsable before → IfSome FormalsUsable more → IfSome FormalsUsable (decl.more_formals before more)
  more_usable None more h i = tt
  more_usable (Some a) None h i = tt
  more_usable (Some a) (Some b) h i = all_joined (λ f. Usable f.ty) a b h i

  formals_on_good : (place : Span) (fs : List (Formal Definition Use)) (before : Option (List FormalEntry)) → IfSome FormalsUsable before → (n : Notes) → IfSome FormalsUsable (decl.formals_on tables place before fs n).0
  formals_on_good place [] before h n = h
  formals_on_good place (f ∷ fs) before h n =
      subst (λ r. IfSome FormalsUsable r.0) (sym (formals_turn place before (decl.formal_type tables place f n) fs))
      (formals_on_good place fs (decl.more_formals before (decl.formal_type tables place f n).0) (more_usable before (decl.formal_type tables place f n).0 h (formal_type_good place f n)) (decl.formal_type tables place f n).1)

  result_type_good : (place : Span) (m : Option (Mark Use)) → Gives (IfSome Usable) (decl.result_type place m tables)
  result_type_good place None = λ s. tt
  result_type_good place (Some m) = next Usable (IfSome Usable) (decl.returned_type tables place m) (λ t. known (Some t))
      (tested Usable (marks.is_root_pool m) (wrong fault.Limited m.first.span) (marks.named_type tables place m >>= decl.returned tables m.first.span) (λ e s. tt)
      (next Usable Usable (marks.named_type tables place m) (decl.returned tables m.first.span) (named_type_good place m) (λ t v. told_good Usable (is_limited tables t || marks.has_controlled tables t) (but fault.Limited m.first.span t) t (λ s. v) v)))
      (λ t v s. v)

  pub heading_types_good : (place : Span) (s : Specification Definition Use) → Gives (λ h. FormalsUsable h.0 × IfSome Usable h.1) (decl.heading_types place s tables)
  heading_types_good place s = both_give FormalsUsable (IfSome Usable) (decl.formal_types place s.formals tables) (decl.result_type place s.result tables) (formals_on_good place s.formals (Some []) tt) (result_type_good place s.result)

  -- Components, parents, designated types (3.8, 3.9.1, 3.10) ------------------------------------------------

  component_type_good : (within : Enclosing) (place : Span) (m : Mark Use) → Gives Usable (defined.component_type tables within place m)
  component_type_good within place m = by_test (defined.is_name_of within.number m.first.denoted && marks.is_alone m)
    where
      by_test : (b : Bool) → Gives Usable (if b then wrong fault.SelfContained place else (marks.concrete_type tables within.place m >>= marks.no_pool tables m.first.span))
      by_test true = λ s. tt
      by_test false = next Usable Usable (marks.concrete_type tables within.place m) (marks.no_pool tables m.first.span) (concrete_type_good within.place m) (no_pool_good m.first.span)

  pub component_judged_good : (within : Enclosing) (m : Mark Use) (value : Option Sense) (i : Identifier) → Gives Usable (defined.component_judged within m value i tables)
  component_judged_good within m value i = tested Usable (marks.is_root_pool m && defined.excludes_limited within (defined.is_given value)) (wrong fault.Limited i.span)
      (defined.component_type tables within i.span m >>= defined.may_be_limited tables within i.span (defined.is_given value)) (λ e s. tt)
      (next Usable Usable (defined.component_type tables within i.span m) (defined.may_be_limited tables within i.span (defined.is_given value)) (component_type_good within i.span m)
      (λ t v. told_good Usable (is_limited tables t && defined.excludes_limited within (defined.is_given value)) (but fault.Limited i.span t) t (λ s. v) v))

  -- a record type of the tables that can be extended here
  pub record Extends (t : ℕ) : Type 0 where
    pub has : HasRecord k env t
    pub is : RecordEntry
    pub found : slice_get tables.records t ≡ Some is

  parent_with_good : (place mark : Span) (t : ℕ) (r : Root) → Extends t → Gives Extends (defined.parent_with place mark t r)
  parent_with_good place mark t root.Controlled h = λ s. h
  parent_with_good place mark t root.BlockPool h = λ s. h
  parent_with_good place mark t root.MarkPool h = λ s. tt
  parent_with_good place mark t root.Untagged h = λ s. tt

  parent_of_good : (place mark : Span) (t : ℕ) (o : Option RecordEntry) → slice_get tables.records t ≡ o → HasRecord k env t → Gives Extends (defined.parent_with place mark t (root_of o))
  parent_of_good place mark t None e h = λ s. tt
  parent_of_good place mark t (Some r) e h = parent_with_good place mark t r.root (record { has = h; is = r; found = e })

  parent_of_type_good : (place mark : Span) (t : Ty) → Usable t → Gives Extends (defined.parent_of_type tables place mark t)
  parent_of_type_good place mark (ty.Record t) v = parent_of_good place mark t (slice_get tables.records t) refl v
  parent_of_type_good place mark ty.Integer v = λ s. tt
  parent_of_type_good place mark ty.Count v = λ s. tt
  parent_of_type_good place mark ty.Boolean v = λ s. tt
  parent_of_type_good place mark ty.Address v = λ s. tt
  parent_of_type_good place mark ty.Handle v = λ s. tt
  parent_of_type_good place mark (ty.Access a) v = λ s. tt

  pub parent_named_good : (place : Span) (m : Mark Use) → Gives Extends (defined.parent_named place m tables)
  parent_named_good place m = next Usable Extends (marks.named_type tables place m) (defined.parent_of_type tables place m.first.span) (named_type_good place m) (parent_of_type_good place m.first.span)

  -- a designated type that is known can be used
  abbrev pub DesignatedFine : Designated → Type 0
  DesignatedFine (designated.Known t) = Usable t
  DesignatedFine designated.Unclear = Unit {0}
  DesignatedFine (designated.Awaited n place) = Unit {0}

  designated_type_good : (place : Span) (m : Mark Use) → Gives DesignatedFine (accessing.designated_type tables place m)
  designated_type_good place m = next Usable DesignatedFine (marks.named_type tables place m >>= marks.no_pool tables m.first.span) (λ t. known (designated.Known t)) (next Usable Usable (marks.named_type tables place m) (marks.no_pool tables m.first.span) (named_type_good place m) (no_pool_good m.first.span)) (λ t v s. v)

  designated_entry_good : (place : Span) (m : Mark Use) (n : ℕ) (e : Option Entry) → Gives DesignatedFine (accessing.designated_entry tables place m n e)
  designated_entry_good place m n (Some (entry.Incomplete t)) = λ s. tt
  designated_entry_good place m n _ = designated_type_good place m

  designated_denoted_good : (place : Span) (m : Mark Use) (d : Denoted) → Gives DesignatedFine (accessing.designated_denoted tables place m d)
  designated_denoted_good place m (denoted.Declared n level) = designated_entry_good place m n (slice_get tables.entries n)
  designated_denoted_good place m (denoted.Library l) = designated_type_good place m
  designated_denoted_good place m (denoted.Operation o) = designated_type_good place m
  designated_denoted_good place m denoted.Unknown = designated_type_good place m

  pub designated_good : (place : Span) (m : Mark Use) (c : Coverage) → Gives DesignatedFine (accessing.designated_named place m c tables)
  designated_good place m coverage.Specific = designated_denoted_good place m m.first.denoted
  designated_good place m coverage.ClassWide = λ s. tt

pub declarations_well_typed : (o : Objects Definition Use) (s : Specification Definition Use) → DeclarationsWellTyped o s
declarations_well_typed o s = record {
  object_type = λ k env tables sound place. object_type_good k env tables sound place o;
  value = λ k env tables sound t x v. value_of_good k env tables sound t (Some (sense x)) v (expression_right k env tables sound x);
  discriminants = λ k env tables sound r ps h. discriminants_good k env tables sound r ps h;
  heading = λ k env tables sound place. heading_types_good k env tables sound place s;
}
