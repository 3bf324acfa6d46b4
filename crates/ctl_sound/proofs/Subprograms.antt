-- Subprograms as they are declared: what is known of the tables with one more, the operations that they override, and what their bodies
-- complete (6.1, 6.3.1, 7.6, 8.3.1).
use Rattle.std.proofs.Common.{arith, ◌≡◌, refl, sym, ap, ◌∙◌, subst, ℕ, zero, suc, ◌+◌, Bool, true, false, ◌&&◌, not, if◌then◌else◌, List, [], ◌∷◌, map, length, slice_get, Option, Some, None}
use Rattle.std.proofs.lemmas.Bool.Decides.{nat_tests}
use Rattle.std.proofs.lemmas.List.{length-append}
use Rattle.ctl_tree.specs.declared.span.Span.{Span}
use Rattle.ctl_tree.specs.declared.fault.FaultCode.TheVariants as fault
use Rattle.ctl_program.specs.declared.types.Operations.{Operations}
use Rattle.ctl_program.specs.declared.types.RecordType.{RecordType}
use Rattle.ctl_program.specs.declared.types.Root.{Root}
use Rattle.ctl_program.specs.declared.types.Root.TheVariants as root
use Rattle.ctl_program.specs.declared.types.Ty.{Ty}
use Rattle.ctl_program.specs.declared.types.Ty.TheVariants as ty
use Rattle.ctl_draft.specs.declared.draft.Routine.{Routine}
use Rattle.ctl_syntax.specs.declared.denoted.Definition.{Definition}
use Rattle.ctl_syntax.specs.declared.denoted.OperationName.{OperationName}
use Rattle.ctl_syntax.specs.declared.denoted.OperationName.TheVariants.{Initialize, Adjust, Finalize, Allocate, Deallocate}
use Rattle.ctl_syntax.specs.declared.denoted.Use.{Use}
use Rattle.ctl_syntax.specs.declared.item.Indicator.{Indicator}
use Rattle.ctl_syntax.specs.declared.item.Indicator.TheVariants as indicator
use Rattle.ctl_syntax.specs.declared.item.Mode.{Mode}
use Rattle.ctl_syntax.specs.declared.item.Mode.TheVariants as mode
use Rattle.ctl_syntax.specs.declared.item.Specification.{Specification}
use Rattle.ctl_syntax.specs.declared.name.Mark.{Mark}
use Rattle.ctl_typing.specs.declared.notes.Notes.{Notes}
use Rattle.ctl_typing.specs.declared.table.Entry.{Entry}
use Rattle.ctl_typing.specs.declared.table.Entry.TheVariants as entry
use Rattle.ctl_typing.specs.declared.table.FormalEntry.{FormalEntry}
use Rattle.ctl_typing.specs.declared.table.Profile.{Profile}
use Rattle.ctl_typing.specs.declared.table.RecordEntry.{RecordEntry}
use Rattle.ctl_typing.specs.declared.table.RecordState.{RecordState}
use Rattle.ctl_typing.specs.declared.table.Tables.{Tables}
use Rattle.ctl_typing.specs.Lookup as lookup
use Rattle.ctl_typing.specs.Judgement.{with_early}
use Rattle.ctl_draft.specs.declared.draft.Around.{Around}
use Rattle.ctl_draft.specs.declared.draft.Draft.{Draft}
use Rattle.ctl_draft.specs.declared.draft.Role.{Role}
use Rattle.ctl_draft.specs.declared.draft.Role.TheVariants as role
use Rattle.ctl_resolve.specs.Library.{operation_named}
use Rattle.ctl_declarations.specs.Declarations as decl
use Rattle.ctl_types.specs.Subprograms as routines
use Rattle.ctl_draft.specs.Draft.{declare, fault_when, is_declared_in}
use Rattle.ctl_draft.specs.Freezing.{changed, changed_from, with_records, is_free_type}
use Rattle.ctl_draft.specs.Operations.{provides, user_operation, operation_formals}
use Rattle.ctl_well_typed.specs.Setting.{Frames, Encloses, Signature, Setting, InView}
use Rattle.ctl_well_typed.specs.Types.{itself}
use Rattle.ctl_well_typed.specs.Programs as program
use Rattle.ctl_well_typed.specs.Programs.{FormalsInView, Results, SubprogramFine}
use Rattle.ctl_sound.specs.Known.{IfSome, All}
use Rattle.ctl_sound.specs.Sound.{EntryFine, ProfileFine, formal_of}
use Rattle.ctl_sound.proofs.Tests.{same_is}
use Rattle.ctl_sound.proofs.Growing.{operations_in, all_same, behind_same, still_self, still_further, Made}
use Rattle.ctl_sound.proofs.Sites.{Site, around_site, here, IsHere, OperationKnown, SubprogramKnown, operations_at, Known, Front}
use Rattle.ctl_sound.proofs.Fronts.{encloses_self, encloses_all, one_home}
use Rattle.ctl_sound.proofs.Declared.{front_declared}
use Rattle.ctl_sound.proofs.Objects.{told_still}
use Rattle.ctl_sound.proofs.Records.{each_at}
use Rattle.ctl_sound.proofs.Headings.{ResultOf}
use Rattle.ctl_sound.proofs.Steps.{Leads, still_given}

abbrev pub Heading : Type 0
Heading = Option (List FormalEntry × Option Ty)

-- Overriding (7.6, 8.3.1) ---------------------------------------------------------------------------

same_mode_is : (m n : Mode) → decl.same_mode m n ≡ true → m ≡ n
same_mode_is mode.In mode.In h = refl
same_mode_is mode.Out mode.Out h = refl
same_mode_is mode.InOut mode.InOut h = refl
same_mode_is m n h = absurd (cc)

three_hold : (a b c : Bool) → (a && b && c) ≡ true → (a ≡ true) × ((b ≡ true) × (c ≡ true))
three_hold true true true h = (refl, (refl, refl))
three_hold true true false h = absurd (cc)
three_hold true false c h = absurd (cc)
three_hold false b c h = absurd (cc)

pub same_formals_are : (fs gs : List FormalEntry) → decl.same_formals fs gs ≡ true → fs ≡ gs
same_formals_are [] [] h = refl
same_formals_are [] (g ∷ gs) h = absurd (cc)
same_formals_are (f ∷ fs) [] h = absurd (cc)
same_formals_are (f ∷ fs) (g ∷ gs) h =
    let parts = three_hold (decl.same_mode f.mode g.mode) (lookup.same f.ty g.ty) (decl.same_formals fs gs) h in
    let own : f ≡ g = ap (λ m. record f { mode = m }) (same_mode_is f.mode g.mode parts.0) ∙ ap (λ t. record g { ty = t }) (same_is f.ty g.ty parts.1.0) in
    ap (λ x. x ∷ fs) own ∙ ap (λ xs. g ∷ xs) (same_formals_are fs gs parts.1.1)

-- a role that overrides is that of an operation of a type of the part
pub record Overriding (tables : Tables) (level : ℕ) (fs : List FormalEntry) (r : Option Ty) (o : OperationName) (t : ℕ) : Type 0 where
  pub type : RecordEntry
  pub found : slice_get tables.records t ≡ Some type
  pub same_level : type.level ≡ level
  pub formals : fs ≡ operation_formals o (ty.Record t)
  pub result : r ≡ None
  pub provided : provides type.root false o ≡ true

abbrev pub RoleFine : Tables → ℕ → List FormalEntry → Option Ty → Role → Type 0
RoleFine tables level fs r (role.Overrides o t) = Overriding tables level fs r o t
RoleFine tables level fs r role.Plain = Unit {0}
RoleFine tables level fs r role.Misplaced = Unit {0}

-- what a limited type has, others of its root have
provided_by : (r : Root) (limited : Bool) (o : OperationName) → provides r limited o ≡ true → provides r false o ≡ true
provided_by root.Untagged limited o h = h
provided_by root.Controlled limited Initialize h = h
provided_by root.Controlled limited Finalize h = h
provided_by root.Controlled limited Adjust h = refl
provided_by root.Controlled limited Allocate h = h
provided_by root.Controlled limited Deallocate h = h
provided_by root.BlockPool limited Initialize h = h
provided_by root.BlockPool limited Finalize h = h
provided_by root.BlockPool limited Adjust h = h
provided_by root.BlockPool limited Allocate h = h
provided_by root.BlockPool limited Deallocate h = h
provided_by root.MarkPool limited Initialize h = h
provided_by root.MarkPool limited Finalize h = h
provided_by root.MarkPool limited Adjust h = h
provided_by root.MarkPool limited Allocate h = h
provided_by root.MarkPool limited Deallocate h = h

module _ (tables : Tables) (level : ℕ) where
  at_level : (t : ℕ) (o : Option RecordEntry) → slice_get tables.records t ≡ o → decl.is_at_level level o ≡ true → (x : RecordEntry) × ((slice_get tables.records t ≡ Some x) × (x.level ≡ level))
  at_level t None e h = absurd (cc)
  at_level t (Some x) e h = let same_level : x.level ≡ level = grind (arith, nat_tests) in (x, (e, same_level))

  operation_role : (o : OperationName) (t : ℕ) (fs : List FormalEntry) → RoleFine tables level fs None (if decl.is_operation tables level o t fs then role.Overrides o t else role.Misplaced)
  operation_role o t fs = by_test (decl.is_operation tables level o t fs) refl
    where
      by_test : (b : Bool) → decl.is_operation tables level o t fs ≡ b → RoleFine tables level fs None (if b then role.Overrides o t else role.Misplaced)
      by_test true e =
          let parts = three_hold (decl.is_at_level level (slice_get tables.records t)) _ (decl.same_formals fs (operation_formals o (ty.Record t))) e in
          let found = at_level t (slice_get tables.records t) refl parts.0 in
          record { type = found.0; found = found.1.0; same_level = found.1.1; formals = same_formals_are fs (operation_formals o (ty.Record t)) parts.1.1; result = refl; provided = provided_by found.0.root (lookup.is_limited tables (ty.Record t)) o (subst (λ x. provides (lookup.root_of x) (lookup.is_limited tables (ty.Record t)) o ≡ true) found.1.0 parts.1.0) }
      by_test false e = tt

  first_role : (o : OperationName) (fs : List FormalEntry) (t : Ty) → RoleFine tables level fs None (decl.overriding_first tables level o fs t)
  first_role o fs (ty.Record t) = operation_role o t fs
  first_role o fs ty.Integer = tt
  first_role o fs ty.Count = tt
  first_role o fs ty.Boolean = tt
  first_role o fs ty.Address = tt
  first_role o fs ty.Handle = tt
  first_role o fs (ty.Access a) = tt

  overriding_role : (o : OperationName) (fs : List FormalEntry) (r : Option Ty) → RoleFine tables level fs r (decl.overriding_by tables level o fs r)
  overriding_role o (f ∷ fs) None = first_role o (f ∷ fs) f.ty
  overriding_role o (f ∷ fs) (Some t) = tt
  overriding_role o [] None = tt
  overriding_role o [] (Some t) = tt

  role_by_fine : (i : Indicator) (o : Option OperationName) (fs : List FormalEntry) (r : Option Ty) → RoleFine tables level fs r (decl.role_by tables level i o fs r)
  role_by_fine i (Some o) fs r = overriding_role o fs r
  role_by_fine indicator.Overriding None fs r = tt
  role_by_fine indicator.Absent None fs r = tt

-- with a heading that is known
abbrev pub HeadingRole : Tables → ℕ → Heading → Role → Type 0
HeadingRole tables level None (role.Overrides o t) = ⊥
HeadingRole tables level None role.Plain = Unit {0}
HeadingRole tables level None role.Misplaced = Unit {0}
HeadingRole tables level (Some h) x = RoleFine tables level h.0 h.1 x

pub role_fine : (a : Around) (s : Specification Definition Use) (h : Heading) (tables : Tables) → HeadingRole tables a.level h (decl.role_of a s h tables)
role_fine a s None tables = tt
role_fine a s (Some h) tables = role_by_fine tables a.level s.indicator (operation_named s.name.identifier.text) h.0 h.1

-- One operation more -----------------------------------------------------------------------------------

abbrev AllKnown : Setting → ℕ → Operations → Type 0
AllKnown k u os = (p : OperationName) (m : ℕ) → user_operation p os ≡ Some m → OperationKnown k p u m

module _ (k : Setting) (t n : ℕ) where
  renamed : (p : OperationName) (m : ℕ) → OperationKnown k p t n → Some n ≡ Some m → OperationKnown k p t m
  renamed p m h e = let same : n ≡ m = cc in subst (λ x. OperationKnown k p t x) same h

  one_overridden : (o : OperationName) → OperationKnown k o t n → (os : Operations) → AllKnown k t os → AllKnown k t (decl.with_operation o n os)
  one_overridden Initialize g os h Initialize m e = renamed Initialize m g e
  one_overridden Adjust g os h Adjust m e = renamed Adjust m g e
  one_overridden Finalize g os h Finalize m e = renamed Finalize m g e
  one_overridden Allocate g os h Allocate m e = renamed Allocate m g e
  one_overridden Deallocate g os h Deallocate m e = renamed Deallocate m g e
  one_overridden o g os h p m e = h p m e

changed_at : (P : ℕ → Operations → Type 0) (f : RecordState → RecordState) (t : ℕ) (ss : List RecordState) → ((s : RecordState) → P t s.operations → P t (f s).operations) → ((u : ℕ) → P u (operations_at (map operations_in ss) u)) → (u : ℕ) → P u (operations_at (map operations_in (changed f t ss)) u)
changed_at P f t [] g h u = h u
changed_at P f zero (s ∷ ss) g h zero = g s (h zero)
changed_at P f zero (s ∷ ss) g h (suc u) = h (suc u)
changed_at P f (suc t) (s ∷ ss) g h u = by_rest (slice_get ss t) (changed_at (λ m. P (suc m)) f t ss g (λ m. h (suc m))) u
  where
    by_rest : (o : Option RecordState) → ((v : ℕ) → P (suc v) (operations_at (map operations_in (changed_from f o t ss)) v)) → (v : ℕ) → P v (operations_at (map operations_in (changed_from f o (suc t) (s ∷ ss))) v)
    by_rest None i zero = h zero
    by_rest None i (suc v) = h (suc v)
    by_rest (Some x) i zero = h zero
    by_rest (Some x) i (suc v) = i v

changed_count : (f : RecordState → RecordState) (t : ℕ) (ss : List RecordState) → length (changed f t ss) ≡ length ss
changed_count f t [] = refl
changed_count f zero (s ∷ ss) = refl
changed_count f (suc t) (s ∷ ss) = by_rest (slice_get ss t) (changed_count f t ss)
  where
    by_rest : (o : Option RecordState) → length (changed_from f o t ss) ≡ length ss → length (changed_from f o (suc t) (s ∷ ss)) ≡ suc (length ss)
    by_rest None e = refl
    by_rest (Some x) e = ap suc e

-- The part that a subprogram plays: some states change, and nothing else that matters
pub record Played (a : Around) (n : ℕ) (h : Heading) (d e : Draft) : Type 0 where
  pub states : List RecordState
  pub notes : Notes
  pub is : e ≡ record (with_records states d) { notes = notes }
  pub count : length states ≡ length d.tables.states.records
  pub known : (k : Setting) → ((o : OperationName) (t m : ℕ) → user_operation o (operations_at (map operations_in d.tables.states.records) t) ≡ Some m → OperationKnown k o t m) →
      ((o : OperationName) (t : ℕ) (fs : List FormalEntry) (r : Option Ty) → h ≡ Some (fs, r) → Overriding d.tables a.level fs r o t → OperationKnown k o t n) →
      (o : OperationName) (t m : ℕ) → user_operation o (operations_at (map operations_in states) t) ≡ Some m → OperationKnown k o t m

module _ (a : Around) (n : ℕ) (h : Heading) (d : Draft) where
  played_still : (m : Notes) → Played a n h d (record d { notes = m })
  played_still m = record { states = d.tables.states.records; notes = m; is = refl; count = refl; known = λ k g i o t x e. g o t x e }

  abbrev early_notes_by : Bool → Span → Notes
  early_notes_by true place = with_early fault.LatePrimitive place d.notes
  early_notes_by false place = d.notes

  overridden_played : (place : Span) (o : OperationName) (t : ℕ) (fs : List FormalEntry) (r : Option Ty) → h ≡ Some (fs, r) → Overriding d.tables a.level fs r o t → Played a n h d (decl.override place o t n d)
  overridden_played place o t fs r same g = record {
    states = changed (decl.overridden o n) t d.tables.states.records;
    notes = early_notes_by late place;
    is = by_late late;
    count = changed_count (decl.overridden o n) t d.tables.states.records;
    known = λ k all own p u m e. changed_at (AllKnown k) (decl.overridden o n) t d.tables.states.records (λ s f. one_overridden k t n o (own o t fs r same g) s.operations f) (λ u p m. all p u m) u p m e;
  }
    where
      late : Bool
      late = not (is_free_type d.tables.states (ty.Record t))

      by_late : (b : Bool) → (if b then record (with_records (changed (decl.overridden o n) t d.tables.states.records) d) { notes = with_early fault.LatePrimitive place d.notes } else with_records (changed (decl.overridden o n) t d.tables.states.records) d) ≡ record (with_records (changed (decl.overridden o n) t d.tables.states.records) d) { notes = early_notes_by b place }
      by_late true = refl
      by_late false = refl

  pub play_played : (place : Span) (x : Role) → HeadingRole d.tables a.level h x → Played a n h d (decl.play place n x d)
  play_played place role.Plain g = played_still d.notes
  play_played place role.Misplaced g = played_still _
  play_played place (role.Overrides o t) g = by_heading h refl g
    where
      by_heading : (x : Heading) → h ≡ x → HeadingRole d.tables a.level x (role.Overrides o t) → Played a n h d (decl.override place o t n d)
      by_heading None e g = absurd g
      by_heading (Some x) e g = overridden_played place o t x.0 x.1 e g

-- A subprogram that is declared here (6.1) ----------------------------------------------------------------

abbrev pub formals_in : Heading → List FormalEntry
formals_in None = []
formals_in (Some h) = h.0

-- a function of which the heading is wrong gives some value
abbrev pub result_in : Option (Mark Use) → Heading → Option Ty
result_in m (Some h) = h.1
result_in None None = None
result_in (Some m) None = Some ty.Integer

abbrev pub signature_of : Option (Mark Use) → Heading → Frames → Signature
signature_of m h env = record { home = env; formals = map formal_of (formals_in h); result = result_in m h }

abbrev signature_made : Option (Mark Use) → Heading → Made
signature_made m h = record { holdings = []; homes = λ env. record { records = []; accesses = []; subprograms = signature_of m h env ∷ [] } }

-- the types of a heading can be used
abbrev pub HeadingUsable : Site → Heading → Type 0
HeadingUsable s h = IfSome (λ (x : List FormalEntry × Option Ty). All (λ f. InView s.k (around_site s) f.ty) x.0 × IfSome (InView s.k (around_site s)) x.1) h

abbrev pub HeadingKind : Option (Mark Use) → Heading → Type 0
HeadingKind m h = IfSome (λ (x : List FormalEntry × Option Ty). ResultOf m x.1) h

-- the subprogram of this number takes a body with this heading here
pub record Numbered (h : Heading) (s : Site) (n : ℕ) : Type 0 where
  pub formals : List FormalEntry
  pub result : Option Ty
  pub known : h ≡ Some (formals, result)
  pub found : slice_get s.k.subprograms n ≡ Some (record { home = around_site s; formals = map formal_of formals; result = result })

formals_usable : (k : Setting) (env : Frames) (fs : List FormalEntry) → All (λ f. InView k env f.ty) fs → FormalsInView k env (map formal_of fs)
formals_usable k env [] h = program.no_more_formals
formals_usable k env (f ∷ fs) h = program.one_more_formal h.0 (formals_usable k env fs h.1)

first_usable : (k : Setting) (env : Frames) (o : OperationName) (t : Ty) → All (λ f. InView k env f.ty) (operation_formals o t) → InView k env t
first_usable k env Initialize t h = h.0
first_usable k env Adjust t h = h.0
first_usable k env Finalize t h = h.0
first_usable k env Allocate t h = h.0
first_usable k env Deallocate t h = h.0

module _ (a : Around) (m : Option (Mark Use)) (h : Heading) (kind : HeadingKind m h) (s : Site) (i : IsHere s (here a)) (usable : HeadingUsable s h) (n : ℕ) (found : slice_get s.k.subprograms n ≡ Some (signature_of m h (around_site s))) where
  abbrev env : Frames
  env = around_site s

  results_of : (m : Option (Mark Use)) (h : Heading) → HeadingKind m h → HeadingUsable s h → Results s.k env (result_in m h) (routines.kind_of m)
  results_of None None g u = program.procedure
  results_of (Some x) None g u = program.function tt
  results_of None (Some y) g u = subst (λ r. Results s.k env r (routines.kind_of None)) (sym g) program.procedure
  results_of (Some x) (Some y) g u = subst (λ r. Results s.k env r (routines.kind_of (Some x))) (sym g.1) (program.function (subst (λ r. IfSome (InView s.k env) r) g.1 u.1))

  usable_formals : (h : Heading) → HeadingUsable s h → FormalsInView s.k env (map formal_of (formals_in h))
  usable_formals None u = program.no_more_formals
  usable_formals (Some y) u = formals_usable s.k env y.0 u.0

  without_body : SubprogramKnown s.k n (record { level = a.level; kind = routines.kind_of m; body = None })
  without_body = record { is = signature_of m h env; found = found; level = i.level; result = results_of m h kind usable; formals = usable_formals h usable; body = tt }

  -- it overrides an operation of a type that is declared here
  overriding_known : (d : Draft) → Front s d → (o : OperationName) (t : ℕ) (fs : List FormalEntry) (r : Option Ty) → h ≡ Some (fs, r) → Overriding d.tables a.level fs r o t → OperationKnown s.k o t n
  overriding_known d f o t fs r known g =
      let u = subst (λ x. HeadingUsable s x) known usable in
      let v = first_usable s.k env o (ty.Record t) (subst (λ xs. All (λ x. InView s.k env x.ty) xs) g.formals u.0) in
      let q = f.known.records t g.type g.found in
      let same = one_home q.home v.home (slice_get s.k.record_homes t) q.at_home v.at_home in
      let counted = ap length same in
      let l1 = q.level in
      let l2 = q.same_level in
      let l3 = g.same_level in
      let l4 = i.level in
      let here' : v.home ≡ env = encloses_all v.home env v.encloses (omega (arith, counted, l1, l2, l3, l4)) in
      record {
        is = signature_of m h env;
        root = t;
        home = v.home;
        at_home = v.at_home;
        found = found;
        encloses = subst (λ x. Encloses env x) (sym here') (encloses_self env);
        descends = itself;
        formals = ap (λ x. map formal_of (formals_in x)) known ∙ ap (map formal_of) g.formals;
        result = ap (λ x. result_in m x) known ∙ g.result;
        provided = λ u h. subst (λ x. provides x false o ≡ true) (sym q.rooted ∙ ap (λ y. y.root) (one_type q.is h.is (slice_get s.k.records t) q.found h.found) ∙ h.rooted) g.provided;
      }
    where
      one_type : (x y : RecordType) (p : Option RecordType) → p ≡ Some x → p ≡ Some y → x ≡ y
      one_type x y p h i = cc

  entry_right : (names : List (List ℕ)) → EntryFine s.k env (routines.entry_of n names h)
  entry_right names = by_heading h found usable
    where
      by_heading : (h : Heading) → slice_get s.k.subprograms n ≡ Some (signature_of m h env) → HeadingUsable s h → EntryFine s.k env (routines.entry_of n names h)
      by_heading None e u = tt
      by_heading (Some y) e u = record { is = signature_of m (Some y) env; callable = record { found = e; encloses = encloses_self env }; formals = refl; result = refl; formals_in_view = u.0; result_in_view = u.1 }

  numbered_right : IfSome (Numbered h s) (routines.numbered n h)
  numbered_right = by_heading h found
    where
      by_heading : (h : Heading) → slice_get s.k.subprograms n ≡ Some (signature_of m h env) → IfSome (Numbered h s) (routines.numbered n h)
      by_heading None e = tt
      by_heading (Some y) e = record { formals = y.0; result = y.1; known = refl; found = e }

module _ (a : Around) (x : Specification Definition Use) (h : Heading) (kind : HeadingKind x.result h) (d : Draft) where
  abbrev next : ℕ
  next = length d.subprograms

  abbrev added : Draft → Draft
  added e = routines.add_subprogram a (routines.kind_of x.result) e

  abbrev own_entry : Entry
  own_entry = routines.entry_of next (routines.formal_names x.formals) h

  abbrev canonical : List RecordState → Notes → Draft
  canonical ss n = added (record (with_records ss d) { notes = n })

  played_leads : (e : Draft) → Played a next h d e → ((s : Site) → IsHere s (here a) → Front s d → HeadingUsable s h) → Leads (here a) (Numbered h) d (routines.numbered next h, declare own_entry (added e))
  played_leads e p usable = subst (λ z. Leads (here a) (Numbered h) d (routines.numbered next h, declare own_entry (added z))) (sym p.is) (record {
    made = signature_made x.result h;
    grows = record {
      records = behind_same d.tables.records d.tables.records refl;
      components = behind_same d.components d.components refl;
      exceptions = behind_same d.exceptions d.exceptions refl;
      accesses = all_same d.tables.states.accesses d.tables.states.accesses refl;
      slots = omega arith;
      record_homes = λ env. omega arith;
      access_homes = λ env. omega arith;
      signatures = λ env. length-append d.subprograms (_ ∷ []);
    };
    right = λ s i f b g.
        let u = usable s i f in
        let same : next + 0 ≡ next = omega arith in
        let found = subst (λ n. slice_get s.k.subprograms n ≡ Some (signature_of x.result h (around_site s))) same (g.subprograms 0 _ refl) in
        let known : Known s.k (canonical p.states p.notes) = record {
          records = f.known.records;
          operations = p.known s.k f.known.operations (overriding_known a x.result h kind s i u next found d f);
          subprograms = each_at (SubprogramKnown s.k) d.subprograms _ f.known.subprograms (without_body a x.result h kind s i u next found);
          accesses = f.known.accesses;
          states = p.count ∙ f.known.states;
          components = f.known.components;
        } in
        let front : Front s (canonical p.states p.notes) = record { entries = f.entries; base = f.base; known = known; own = f.own; inner = f.inner } in
        (front_declared s (canonical p.states p.notes) own_entry (entry_right a x.result h kind s i u next found (routines.formal_names x.formals)) front, numbered_right a x.result h kind s i u next found);
  })

  pub introduce_leads : ((s : Site) → IsHere s (here a) → Front s d → HeadingUsable s h) → Leads (here a) (Numbered h) d (routines.introduce a x (h, d))
  introduce_leads usable = played_leads (decl.play x.name.identifier.span next (decl.role_of a x h d.tables) d) (play_played a next h d x.name.identifier.span (decl.role_of a x h d.tables) (role_fine a x h d.tables)) usable

-- What a body completes (6.3.1) -------------------------------------------------------------------------------

same_results_are : (a b : Option Ty) → routines.same_results a b ≡ true → a ≡ b
same_results_are None None h = refl
same_results_are (Some s) (Some t) h = ap (λ x. Some x) (same_is s t h)
same_results_are None (Some t) h = absurd (cc)
same_results_are (Some s) None h = absurd (cc)

both_hold : (a b : Bool) → (a && b) ≡ true → (a ≡ true) × (b ≡ true)
both_hold true true h = (refl, refl)
both_hold true false h = absurd (cc)
both_hold false b h = absurd (cc)

of_level : (level : ℕ) (o : Option Routine) → routines.is_of_level level o ≡ true → (q : Routine) × ((o ≡ Some q) × (q.level ≡ level))
of_level level None h = absurd (cc)
of_level level (Some q) h = let same_level : q.level ≡ level = grind (arith, nat_tests) in (q, (refl, same_level))

pub one_signature : (x y : Signature) (o : Option Signature) → o ≡ Some x → o ≡ Some y → x ≡ y
one_signature x y o h i = cc

module _ (a : Around) (s : Site) (i : IsHere s (here a)) (d : Draft) (f : Front s d) (p : Profile) (fine : ProfileFine s.k (around_site s) p) where
  -- a subprogram of this level is declared in the master around
  home_here : routines.is_of_level a.level (slice_get d.subprograms p.subprogram) ≡ true → fine.is.home ≡ around_site s
  home_here h =
      let q = of_level a.level (slice_get d.subprograms p.subprogram) h in
      let known = f.known.subprograms p.subprogram q.0 q.1.0 in
      let same = one_signature known.is fine.is (slice_get s.k.subprograms p.subprogram) known.found fine.callable.found in
      let counted = ap (λ x. length x.home) same in
      let l1 = known.level in
      let l2 = q.1.1 in
      let l3 = i.level in
      encloses_all fine.is.home (around_site s) fine.callable.encloses (omega (arith, counted, l1, l2, l3))

  conforming : (names : List (List ℕ)) (x : List FormalEntry × Option Ty) → routines.conforms p names x ≡ true → routines.is_of_level a.level (slice_get d.subprograms p.subprogram) ≡ true → Numbered (Some x) s p.subprogram
  conforming names x h g =
      let parts = three_hold (decl.same_formals p.formals x.0) (routines.same_names p.names names) (routines.same_results p.result x.1) h in
      let formals : fine.is.formals ≡ map formal_of x.0 = fine.formals ∙ ap (map formal_of) (same_formals_are p.formals x.0 parts.0) in
      let result : fine.is.result ≡ x.1 = fine.result ∙ same_results_are p.result x.1 parts.1.1 in
      let home = home_here g in
      let own : fine.is ≡ record { home = around_site s; formals = map formal_of x.0; result = x.1 } =
      ap (λ y. record fine.is { home = y }) home ∙ ap (λ y. record { home = around_site s; formals = y; result = fine.is.result }) formals ∙ ap (λ y. record { home = around_site s; formals = map formal_of x.0; result = y }) result in
      record { formals = x.0; result = x.1; known = refl; found = fine.callable.found ∙ ap (λ y. Some y) own }

  completes_right : (names : List (List ℕ)) (h : Heading) → IfSome (Numbered h s) (routines.completes a d.subprograms p names h)
  completes_right names None = tt
  completes_right names (Some x) = by_test (routines.conforms p names x && routines.is_of_level a.level (slice_get d.subprograms p.subprogram)) refl
    where
      by_test : (b : Bool) → (routines.conforms p names x && routines.is_of_level a.level (slice_get d.subprograms p.subprogram)) ≡ b → IfSome (Numbered (Some x) s) (if b then Some p.subprogram else None)
      by_test true e = let both = both_hold (routines.conforms p names x) (routines.is_of_level a.level (slice_get d.subprograms p.subprogram)) e in conforming names x both.0 both.1
      by_test false e = tt

module _ (a : Around) (place : Span) (x : Specification Definition Use) (h : Heading) (kind : HeadingKind x.result h) (d : Draft) where
  nothing_completed : Leads (here a) (Numbered h) d (None, d)
  nothing_completed = still_given (here a) (Numbered h) d (None, d) (still_self d) (λ s i f. tt)

  completed_leads : (o : Option Entry) → ((s : Site) → Front s d → IfSome (EntryFine s.k (around_site s)) o) → Leads (here a) (Numbered h) d (routines.completed a place x o (h, d))
  completed_leads (Some (entry.Subprogram p)) fine =
      let told = fault_when (not (routines.conformed p (routines.formal_names x.formals) h)) fault.Type place d in
      still_given (here a) (Numbered h) d (routines.completed a place x (Some (entry.Subprogram p)) (h, d))
      (still_further d told (decl.indicator_kept x told) (told_still (not (routines.conformed p (routines.formal_names x.formals) h)) fault.Type place d) (told_still (decl.is_unfounded x.indicator (operation_named x.name.identifier.text)) fault.Override x.name.identifier.span told))
      (λ s i f. completes_right a s i d f p (fine s f) (routines.formal_names x.formals) h)
  completed_leads None fine = nothing_completed
  completed_leads (Some (entry.«Type» t)) fine = nothing_completed
  completed_leads (Some (entry.Incomplete t)) fine = nothing_completed
  completed_leads (Some (entry.Object o)) fine = nothing_completed
  completed_leads (Some (entry.Deallocation t)) fine = nothing_completed
  completed_leads (Some (entry.Exception n)) fine = nothing_completed
  completed_leads (Some entry.Unknown) fine = nothing_completed

  pub subprogram_leads : ((s : Site) → IsHere s (here a) → Front s d → HeadingUsable s h) → Leads (here a) (Numbered h) d (routines.subprogram_of a place x (h, d))
  subprogram_leads usable = by_test (is_declared_in a x.name.number d)
    where
      by_test : (b : Bool) → Leads (here a) (Numbered h) d (if b then routines.completed a place x (slice_get d.tables.entries x.name.number) (h, d) else routines.introduce a x (h, d))
      by_test true = completed_leads (slice_get d.tables.entries x.name.number) (λ s f. f.entries x.name.number)
      by_test false = introduce_leads a x h kind d usable
