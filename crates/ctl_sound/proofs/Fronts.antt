-- What is in view in a master is in view in those inside it; tables of which all is known are sound.
use Rattle.std.proofs.Common.{arith, ◌≡◌, ◌<◌, refl, sym, ap, ◌∙◌, subst, ℕ, zero, suc, nat_eq, Bool, true, false, ◌||◌, List, [], ◌∷◌, ◌++◌, map, length, take, slice_get, Option, Some, None}
use Rattle.std.proofs.lemmas.Bool.Decides.{nat_tests}
use Rattle.ctl_program.specs.declared.types.RecordType.{RecordType}
use Rattle.ctl_program.specs.declared.types.Root.{Root}
use Rattle.ctl_program.specs.declared.types.Root.TheVariants as root
use Rattle.ctl_program.specs.declared.types.Ty.{Ty}
use Rattle.ctl_program.specs.declared.types.Ty.TheVariants as ty
use Rattle.ctl_program.specs.declared.types.Var.{Var}
use Rattle.ctl_program.specs.declared.expression.Step.TheVariants as step
use Rattle.ctl_syntax.specs.declared.item.Aliasing.{Aliasing}
use Rattle.ctl_syntax.specs.declared.item.Aliasing.TheVariants as aliasing
use Rattle.ctl_typing.specs.declared.found.Head.TheVariants as head
use Rattle.ctl_typing.specs.declared.notes.Notes.{Notes}
use Rattle.ctl_program.specs.declared.types.AccessType.{AccessType}
use Rattle.ctl_typing.specs.declared.table.AccessEntry.{AccessEntry}
use Rattle.ctl_typing.specs.declared.table.Designated.{Designated}
use Rattle.ctl_typing.specs.declared.table.Designated.TheVariants as designated
use Rattle.ctl_typing.specs.declared.table.Entry.{Entry}
use Rattle.ctl_typing.specs.declared.table.Entry.TheVariants as entry
use Rattle.ctl_typing.specs.declared.table.FormalEntry.{FormalEntry}
use Rattle.ctl_typing.specs.declared.table.ObjectEntry.{ObjectEntry}
use Rattle.ctl_typing.specs.declared.table.Profile.{Profile}
use Rattle.ctl_typing.specs.declared.table.RecordEntry.{RecordEntry}
use Rattle.ctl_typing.specs.declared.table.RecordState.{RecordState}
use Rattle.ctl_typing.specs.declared.table.Standing.{Standing}
use Rattle.ctl_typing.specs.declared.table.Standing.TheVariants as standing
use Rattle.ctl_typing.specs.declared.table.Tables.{Tables}
use Rattle.ctl_typing.specs.Lookup.{component_among, component_in, component_within, descends_within, designated_by, designated_in, has_subpools, is_mark_pool, is_mark_root, is_parent, on, or_else, root_of}
use Rattle.ctl_draft.specs.declared.draft.Draft.{Draft}
use Rattle.ctl_draft.specs.Operations.{user_operation, operations_of}
use Rattle.ctl_well_typed.specs.Setting.{Holding, Declared, Frame, Frames, Names, slot, Encloses, HasRecord, HasAccess, Setting, InView}
use Rattle.ctl_well_typed.specs.Types.{derived, HasSubpools, of_mark_pool, Descends, itself, from_parent, Leads, component}
use Rattle.ctl_well_typed.specs.Programs as program
use Rattle.ctl_well_typed.specs.Programs.{Parent}
use Rattle.ctl_sound.specs.Known.{IfSome, All}
use Rattle.ctl_sound.specs.Library.{HasLibrary}
use Rattle.ctl_sound.specs.Sound.{EntryFine, ObjectFine, ProfileFine, AliasFine, DeclaredFine, TypesFine, Sound}
use Rattle.ctl_sound.proofs.Beginning.{types_sound}
use Rattle.ctl_sound.proofs.Growing.{operations_in, unfrozen, mapped_length, mapped_at, behind_same, behind_further, behind_length, behind_read, From, from_first, from_rest, front_read, Still, still_noted, still_grows, Made, nothing, and_then, Grows}
use Rattle.ctl_sound.proofs.Sites.{Site, around_site, AccessKnown, RecordKnown, operations_at, Known, Front, Back, Agrees}

-- Deeper masters ------------------------------------------------------------------------------

abbrev rest_of : {A : Type 0} → List A → List A
rest_of [] = []
rest_of (x ∷ xs) = xs

first_is : {A : Type 0} (x y : A) (xs ys : List A) → x ∷ xs ≡ y ∷ ys → x ≡ y
first_is x y xs ys h = cc

encloses_deeper : (home env : Frames) (f : Frame) → Encloses home env → Encloses home (env ++ f ∷ [])
encloses_deeper [] env f h = refl
encloses_deeper (g ∷ gs) [] f h = absurd (cc)
encloses_deeper (g ∷ gs) (e ∷ env) f h =
    let same = first_is e g (take (length gs) env) gs h in
    let inner = encloses_deeper gs env f (ap rest_of h) in
    ap (λ x. x ∷ take (length gs) (env ++ f ∷ [])) same ∙ ap (λ xs. g ∷ xs) inner

names_deeper : (env : Frames) (f : Frame) (v : Var) (h : Holding) → Names env v h → Names (env ++ f ∷ []) v h
names_deeper env f v h (slot a b) = slot (front_read env (f ∷ []) _ _ a) b

module _ (k : Setting) (env : Frames) (f : Frame) where
  pub in_view_deeper : (t : Ty) → InView k env t → InView k (env ++ f ∷ []) t
  in_view_deeper (ty.Record t) h = record { is = h.is; home = h.home; found = h.found; at_home = h.at_home; encloses = encloses_deeper h.home env f h.encloses }
  in_view_deeper (ty.Access a) h = record { is = h.is; home = h.home; found = h.found; at_home = h.at_home; encloses = encloses_deeper h.home env f h.encloses }
  in_view_deeper ty.Integer h = tt
  in_view_deeper ty.Count h = tt
  in_view_deeper ty.Boolean h = tt
  in_view_deeper ty.Address h = tt
  in_view_deeper ty.Handle h = tt

  alias_deeper : (a : Aliasing) (v : Var) (t : Ty) → AliasFine env a (head.At v) t → AliasFine (env ++ f ∷ []) a (head.At v) t
  alias_deeper aliasing.Aliased v t h = names_deeper env f v (Declared t) h
  alias_deeper aliasing.Unaliased v t h = tt

  declared_deeper : (s : Standing) (v : Var) (t : Ty) → DeclaredFine env s v t → DeclaredFine (env ++ f ∷ []) s v t
  declared_deeper standing.Declared v t h = names_deeper env f v (Declared t) h
  declared_deeper standing.Formal v t h = tt
  declared_deeper standing.LoopParameter v t h = tt

  object_deeper : (o : ObjectEntry) → ObjectFine k env o → ObjectFine k (env ++ f ∷ []) o
  object_deeper o h = record {
    holding = h.holding;
    names = names_deeper env f o.var h.holding h.names;
    stands = h.stands;
    in_view = in_view_deeper o.ty h.in_view;
    alias = alias_deeper o.aliasing o.var o.ty h.alias;
    declared = declared_deeper o.standing o.var o.ty h.declared;
  }

  formals_deeper : (fs : List FormalEntry) → All (λ g. InView k env g.ty) fs → All (λ g. InView k (env ++ f ∷ []) g.ty) fs
  formals_deeper [] h = tt
  formals_deeper (g ∷ fs) h = (in_view_deeper g.ty h.0, formals_deeper fs h.1)

  result_deeper : (t : Option Ty) → IfSome (InView k env) t → IfSome (InView k (env ++ f ∷ [])) t
  result_deeper None h = tt
  result_deeper (Some t) h = in_view_deeper t h

  profile_deeper : (p : Profile) → ProfileFine k env p → ProfileFine k (env ++ f ∷ []) p
  profile_deeper p h = record {
    is = h.is;
    callable = record { found = h.callable.found; encloses = encloses_deeper h.is.home env f h.callable.encloses };
    formals = h.formals;
    result = h.result;
    formals_in_view = formals_deeper p.formals h.formals_in_view;
    result_in_view = result_deeper p.result h.result_in_view;
  }

  entry_deeper : (e : Entry) → EntryFine k env e → EntryFine k (env ++ f ∷ []) e
  entry_deeper (entry.«Type» t) h = in_view_deeper t h
  entry_deeper (entry.Incomplete t) h = tt
  entry_deeper (entry.Object o) h = object_deeper o h
  entry_deeper (entry.Subprogram p) h = profile_deeper p h
  entry_deeper (entry.Deallocation a) h = in_view_deeper (ty.Access a) h
  entry_deeper (entry.Exception n) h = h
  entry_deeper entry.Unknown h = tt

  pub entries_deeper : (o : Option Entry) → IfSome (EntryFine k env) o → IfSome (EntryFine k (env ++ f ∷ [])) o
  entries_deeper None h = tt
  entries_deeper (Some e) h = entry_deeper e h

-- masters around masters around a place stand around it
pub encloses_further : (a b c : Frames) → Encloses a b → Encloses b c → Encloses a c
encloses_further [] b c h i = refl
encloses_further (x ∷ xs) [] c h i = absurd (cc)
encloses_further (x ∷ xs) (y ∷ ys) [] h i = absurd (cc)
encloses_further (x ∷ xs) (y ∷ ys) (z ∷ zs) h i =
    let same = first_is y x (take (length xs) ys) xs h in
    let again = first_is z y (take (length ys) zs) ys i in
    let inner = encloses_further xs ys zs (ap rest_of h) (ap rest_of i) in
    ap (λ e. e ∷ take (length xs) zs) (again ∙ same) ∙ ap (λ es. x ∷ es) inner

pub encloses_self : (a : Frames) → Encloses a a
encloses_self [] = refl
encloses_self (x ∷ xs) = ap (λ es. x ∷ es) (encloses_self xs)

pub encloses_front : (a : Frames) (f : Frame) → Encloses a (a ++ f ∷ [])
encloses_front a f = encloses_deeper a a f (encloses_self a)

-- of as many masters, the ones that stand around a place are those of the place
pub encloses_all : (a b : Frames) → Encloses a b → length a ≡ length b → a ≡ b
encloses_all [] [] h e = refl
encloses_all [] (y ∷ ys) h e = absurd (cc)
encloses_all (x ∷ xs) [] h e = absurd (cc)
encloses_all (x ∷ xs) (y ∷ ys) h e =
    let same = first_is y x (take (length xs) ys) xs h in
    let shorter : length xs ≡ length ys = omega (arith, e) in
    let inner = encloses_all xs ys (ap rest_of h) shorter in
    ap (λ z. z ∷ xs) (sym same) ∙ ap (λ zs. y ∷ zs) inner

pub encloses_both : (a b : Frames) → Encloses a b → Encloses b a → a ≡ b
encloses_both [] [] h i = refl
encloses_both [] (y ∷ ys) h i = absurd (cc)
encloses_both (x ∷ xs) [] h i = absurd (cc)
encloses_both (x ∷ xs) (y ∷ ys) h i =
    let same = first_is y x (take (length xs) ys) xs h in
    let inner = encloses_both xs ys (ap rest_of h) (ap rest_of i) in
    ap (λ z. z ∷ xs) (sym same) ∙ ap (λ zs. y ∷ zs) inner

pub in_view_further : (k : Setting) (home env : Frames) (t : Ty) → Encloses home env → InView k home t → InView k env t
in_view_further k home env (ty.Record t) e h = record { is = h.is; home = h.home; found = h.found; at_home = h.at_home; encloses = encloses_further h.home home env h.encloses e }
in_view_further k home env (ty.Access a) e h = record { is = h.is; home = h.home; found = h.found; at_home = h.at_home; encloses = encloses_further h.home home env h.encloses e }
in_view_further k home env ty.Integer e h = tt
in_view_further k home env ty.Count e h = tt
in_view_further k home env ty.Boolean e h = tt
in_view_further k home env ty.Address e h = tt
in_view_further k home env ty.Handle e h = tt

-- Drafts in which nothing is declared -----------------------------------------------------------------

pub access_below : (xs : List AccessEntry) (n : ℕ) (x : AccessEntry) → slice_get xs n ≡ Some x → n < length xs
access_below [] n x e = absurd (cc)
access_below (y ∷ xs) zero x e = omega arith
access_below (y ∷ xs) (suc n) x e = let inner = access_below xs n x e in omega (arith, inner)

-- what is known of an access type does not name whether it is frozen
pub access_same : (k : Setting) (a : ℕ) (x y : AccessEntry) → unfrozen y ≡ unfrozen x → AccessKnown k a x → AccessKnown k a y
access_same k a x y same h = thawed (subst (AccessKnown k a) (sym same) frozen)
  where
    frozen : AccessKnown k a (unfrozen x)
    frozen = record { is = h.is; home = h.home; found = h.found; at_home = h.at_home; collection = h.collection; own_level = h.own_level; level = h.level; names = h.names; designated = h.designated; pool = h.pool; pooled = h.pooled; subpools = h.subpools }

    thawed : AccessKnown k a (unfrozen y) → AccessKnown k a y
    thawed g = record { is = g.is; home = g.home; found = g.found; at_home = g.at_home; collection = g.collection; own_level = g.own_level; level = g.level; names = g.names; designated = g.designated; pool = g.pool; pooled = g.pooled; subpools = g.subpools }

pub known_still : (k : Setting) (d e : Draft) → Still d e → Known k d → Known k e
known_still k d e s h = record {
  records = λ t r q. h.records t r (subst (λ rs. slice_get rs t ≡ Some r) s.records q);
  operations = λ o t n q. h.operations o t n (subst (λ os. user_operation o (operations_at os t) ≡ Some n) s.operations q);
  subprograms = λ n p q. h.subprograms n p (subst (λ ps. slice_get ps n ≡ Some p) s.subprograms q);
  accesses = λ a y q. let x = mapped_at unfrozen e.tables.states.accesses d.tables.states.accesses (sym s.accesses) a y q in access_same k a x.is y (sym x.same) (h.accesses a x.is x.found);
  states = by_states;
  components = ap length s.components ∙ h.components ∙ ap length (sym s.records);
}
  where
    mapped : (ss : List RecordState) → length (map operations_in ss) ≡ length ss
    mapped [] = refl
    mapped (x ∷ xs) = ap suc (mapped xs)

    by_states : length e.tables.states.records ≡ length e.tables.records
    by_states = sym (mapped e.tables.states.records) ∙ ap length s.operations ∙ mapped d.tables.states.records ∙ h.states ∙ ap length (sym s.records)

pub front_still : (s : Site) (d e : Draft) → Still d e → Front s d → Front s e
front_still s d e q f = record {
  entries = λ n. subst (λ es. IfSome (EntryFine s.k (around_site s)) (slice_get es n)) (sym q.entries) (f.entries n);
  base = behind_further s.base d.tables.entries e.tables.entries f.base (behind_same d.tables.entries e.tables.entries q.entries);
  known = known_still s.k d e q f.known;
  own = q.own ∙ f.own;
  inner = λ n home first less at. f.inner n home first (let same = mapped_length unfrozen d.tables.states.accesses e.tables.states.accesses q.accesses in omega (arith, same, less)) at;
}

pub front_noted : (s : Site) (d : Draft) (n : Notes) → Front s d → Front s (record d { notes = n })
front_noted s d n f = front_still s d (record d { notes = n }) (still_noted d d.returning d.waiting n) f

pub backwards : (k : Setting) (m : Made) (d e : Draft) → Grows m d e → Back k e → Back k d
backwards k m d e g b = record {
  exceptions = let fewer = behind_length d.exceptions e.exceptions g.exceptions in let within = b.exceptions in omega (arith, fewer, within);
  records = λ t r cs h i. b.records t r cs (behind_read d.tables.records e.tables.records t r g.records h) (behind_read d.components e.components t cs g.components i);
  accesses = λ a x h.
      let y = g.accesses a x h in
      let q = b.accesses a y.is y.found in
      record { is = q.is; found = q.found; collection = q.collection ∙ y.later.collection; designated = λ t i. q.designated t (y.later.designated t i); pool = λ p i. q.pool p (y.later.pool p i) };
}

pub back_still : (k : Setting) (d e : Draft) → Still d e → Back k e → Back k d
back_still k d e s b = backwards k nothing d e (still_grows d e s) b

pub agrees_first : (s : Site) (d : Draft) (m n : Made) → Agrees s d (and_then m n) → Agrees s d m
agrees_first s d m n h = record {
  holdings = from_first (length d.slots) m.holdings n.holdings s.frame h.holdings;
  records = from_first (length d.tables.records) (m.homes (around_site s)).records (n.homes (around_site s)).records s.k.record_homes h.records;
  accesses = from_first (length d.tables.states.accesses) (m.homes (around_site s)).accesses (n.homes (around_site s)).accesses s.k.access_homes h.accesses;
  subprograms = from_first (length d.subprograms) (m.homes (around_site s)).subprograms (n.homes (around_site s)).subprograms s.k.subprograms h.subprograms;
}

pub agrees_rest : (s : Site) (d e : Draft) (m n : Made) → Grows m d e → Agrees s d (and_then m n) → Agrees s e n
agrees_rest s d e m n g h = let env = around_site s in record {
  holdings = from_rest (length d.slots) (length e.slots) m.holdings n.holdings s.frame g.slots h.holdings;
  records = from_rest (length d.tables.records) (length e.tables.records) (m.homes env).records (n.homes env).records s.k.record_homes (g.record_homes env) h.records;
  accesses = from_rest (length d.tables.states.accesses) (length e.tables.states.accesses) (m.homes env).accesses (n.homes env).accesses s.k.access_homes (g.access_homes env) h.accesses;
  subprograms = from_rest (length d.subprograms) (length e.subprograms) (m.homes env).subprograms (n.homes env).subprograms s.k.subprograms (g.signatures env) h.subprograms;
}

pub agrees_still : (s : Site) (d e : Draft) (m : Made) → Still d e → Agrees s d m → Agrees s e m
agrees_still s d e m q h = record {
  holdings = subst (λ n. From n m.holdings s.frame) (sym (ap length q.slots)) h.holdings;
  records = subst (λ n. From n (m.homes (around_site s)).records s.k.record_homes) (sym (ap length q.records)) h.records;
  accesses = subst (λ n. From n (m.homes (around_site s)).accesses s.k.access_homes) (sym (mapped_length unfrozen d.tables.states.accesses e.tables.states.accesses q.accesses)) h.accesses;
  subprograms = subst (λ n. From n (m.homes (around_site s)).subprograms s.k.subprograms) (sym (ap length q.subprograms)) h.subprograms;
}

-- Tables of which all is known -------------------------------------------------------------------------

-- a component of the parent is one of the type
inherited : (k : Setting) (t p q i : ℕ) (is' : RecordType) (c : Ty) → slice_get k.records t ≡ Some is' → is'.parent ≡ Some p → Leads k (ty.Record p) (step.Component q i) c → Leads k (ty.Record t) (step.Component t i) c
inherited k t p q _ is' _ found parent (component {i = n} {cs = cs} {c = x} all at) = component (derived found parent all) (front_read cs is'.own n x at)

-- its home is that of the one parent that it has
parent_at : (k : Setting) (home : Frames) (t p : ℕ) (r : Root) (o : Option ℕ) → o ≡ Some p → Parent k home t r o → HasRecord k home p
parent_at k home t p r _ e program.none = absurd (cc)
parent_at k home t p r _ e (program.extends {p = q} below has rooted) = let same : q ≡ p = cc in subst (λ n. HasRecord k home n) same has

pub one_home : (a b : Frames) (o : Option Frames) → o ≡ Some a → o ≡ Some b → a ≡ b
one_home a b o h i = cc

module _ (k : Setting) (rs : List RecordEntry) (known : (t : ℕ) (r : RecordEntry) → slice_get rs t ≡ Some r → RecordKnown k t r) where
  record ComponentKnown (t i : ℕ) (c : Ty) : Type 0 where
    leads : Leads k (ty.Record t) (step.Component t i) c
    in_view : (home : Frames) → slice_get k.record_homes t ≡ Some home → InView k home c

  own_known : (t : ℕ) (r : RecordEntry) → slice_get rs t ≡ Some r → (name : List ℕ) (i : ℕ) (c : Ty) → component_among name r.own ≡ Some (i, c) → ComponentKnown t i c
  own_known t r e name i c h =
      let q = known t r e in
      let found = q.own name i c h in
      record { leads = found.0; in_view = λ home at. subst (λ f. InView k f c) (one_home q.home home (slice_get k.record_homes t) q.at_home at) found.1 }

  parent_known : (t : ℕ) (r : RecordEntry) → slice_get rs t ≡ Some r → (p i : ℕ) (c : Ty) → r.parent ≡ Some p → ComponentKnown p i c → ComponentKnown t i c
  parent_known t r e p i c is' h =
      let q = known t r e in
      let above = parent_at k q.home t p q.is.root q.is.parent (q.same_parent ∙ is') q.parent in
      record {
        leads = inherited k t p p i q.is c q.found (q.same_parent ∙ is') h.leads;
        in_view = λ home at. subst (λ f. InView k f c) (one_home q.home home (slice_get k.record_homes t) q.at_home at) (in_view_further k above.home q.home c above.encloses (h.in_view above.home above.at_home));
      }

  component_known : (n : ℕ) (name : List ℕ) (t i : ℕ) (c : Ty) → component_within n rs name t ≡ Some (i, c) → ComponentKnown t i c
  component_known zero name t i c h = absurd (cc)
  component_known (suc n) name t i c h = by_record (λ p. component_known n name p i c) (slice_get rs t) refl h
    where
      by_parent : ((p : ℕ) → component_within n rs name p ≡ Some (i, c) → ComponentKnown p i c) → (r : RecordEntry) → slice_get rs t ≡ Some r → (o : Option ℕ) → r.parent ≡ o → on (component_within n rs name) o ≡ Some (i, c) → ComponentKnown t i c
      by_parent above r e None q h = absurd (cc)
      by_parent above r e (Some p) q h = parent_known t r e p i c q (above p h)

      by_own : ((p : ℕ) → component_within n rs name p ≡ Some (i, c) → ComponentKnown p i c) → (r : RecordEntry) → slice_get rs t ≡ Some r → (o : Option (ℕ × Ty)) → component_among name r.own ≡ o → or_else o (on (component_within n rs name) r.parent) ≡ Some (i, c) → ComponentKnown t i c
      by_own above r e None q h = by_parent above r e r.parent refl h
      by_own above r e (Some x) q h = own_known t r e name i c (q ∙ h)

      by_record : ((p : ℕ) → component_within n rs name p ≡ Some (i, c) → ComponentKnown p i c) → (o : Option RecordEntry) → slice_get rs t ≡ o → on (component_in (component_within n rs name) name) o ≡ Some (i, c) → ComponentKnown t i c
      by_record above None e h = absurd (cc)
      by_record above (Some r) e h = by_own above r e (component_among name r.own) refl h

  ancestor_known : (n u t : ℕ) → descends_within n rs u t ≡ true → Descends k u t
  ancestor_known zero u t h = let same : u ≡ t = grind (arith, nat_tests) in subst (λ m. Descends k u m) same itself
  ancestor_known (suc n) u t h = by_same (λ p. ancestor_known n u p) (nat_eq t u) refl h
    where
      by_parent : ((p : ℕ) → descends_within n rs u p ≡ true → Descends k u p) → (r : RecordEntry) → slice_get rs t ≡ Some r → (o : Option ℕ) → r.parent ≡ o → is_parent (descends_within n rs u) (Some (record r { parent = o })) ≡ true → Descends k u t
      by_parent above r e None q h = absurd (cc)
      by_parent above r e (Some p) q h = let x = known t r e in from_parent x.found (x.same_parent ∙ q) (above p h)

      by_record : ((p : ℕ) → descends_within n rs u p ≡ true → Descends k u p) → (o : Option RecordEntry) → slice_get rs t ≡ o → is_parent (descends_within n rs u) o ≡ true → Descends k u t
      by_record above None e h = absurd (cc)
      by_record above (Some r) e h = by_parent above r e r.parent refl h

      by_same : ((p : ℕ) → descends_within n rs u p ≡ true → Descends k u p) → (b : Bool) → nat_eq t u ≡ b → (b || is_parent (descends_within n rs u) (slice_get rs t)) ≡ true → Descends k u t
      by_same above true e h = let same : u ≡ t = grind (arith, nat_tests) in subst (λ m. Descends k u m) same itself
      by_same above false e h = by_record above (slice_get rs t) refl h

pub read_at : (ss : List RecordState) (n : ℕ) → operations_of (slice_get ss n) ≡ operations_at (map operations_in ss) n
read_at [] n = refl
read_at (s ∷ ss) zero = refl
read_at (s ∷ ss) (suc n) = read_at ss n

-- what an access type designates, where that is known
record DesignatesKnown (tables : Tables) (a : ℕ) (t : Ty) : Type 0 where
  is : AccessEntry
  found : slice_get tables.states.accesses a ≡ Some is
  designated : is.designated ≡ designated.Known t

designates_known : (tables : Tables) (a : ℕ) (t : Ty) → designated_by tables a ≡ Some t → DesignatesKnown tables a t
designates_known tables a t h = by_entry (slice_get tables.states.accesses a) refl h
  where
    by_designated : (x : AccessEntry) → slice_get tables.states.accesses a ≡ Some x → (w : Designated) → x.designated ≡ w → designated_in (record x { designated = w }) ≡ Some t → DesignatesKnown tables a t
    by_designated x e (designated.Known u) q h = let same : u ≡ t = cc in record { is = x; found = e; designated = q ∙ ap designated.Known same }
    by_designated x e designated.Unclear q h = absurd (cc)
    by_designated x e (designated.Awaited n place) q h = absurd (cc)

    by_entry : (o : Option AccessEntry) → slice_get tables.states.accesses a ≡ o → on designated_in o ≡ Some t → DesignatesKnown tables a t
    by_entry None e h = absurd (cc)
    by_entry (Some x) e h = by_designated x e x.designated refl h

pub one_access : (x y : AccessType) (o : Option AccessType) → o ≡ Some x → o ≡ Some y → x ≡ y
one_access x y o h i = cc

mark_root_is : (r : Root) → is_mark_root r ≡ true → r ≡ root.MarkPool
mark_root_is root.MarkPool h = refl
mark_root_is root.BlockPool h = absurd (cc)
mark_root_is root.Untagged h = absurd (cc)
mark_root_is root.Controlled h = absurd (cc)

-- the entry of an access type whose objects stand in subpools
record InSubpools (tables : Tables) (a : ℕ) : Type 0 where
  is : AccessEntry
  found : slice_get tables.states.accesses a ≡ Some is
  pool : Var × ℕ
  pooled : is.pool ≡ Some pool
  type : RecordEntry
  type_found : slice_get tables.records pool.1 ≡ Some type
  rooted : type.root ≡ root.MarkPool

in_subpools : (tables : Tables) (a : ℕ) → has_subpools tables (slice_get tables.states.accesses a) ≡ true → InSubpools tables a
in_subpools tables a h = by_entry (slice_get tables.states.accesses a) refl h
  where
    by_type : (x : AccessEntry) → slice_get tables.states.accesses a ≡ Some x → (p : Var × ℕ) → x.pool ≡ Some p → (o : Option RecordEntry) → slice_get tables.records p.1 ≡ o → is_mark_root (root_of o) ≡ true → InSubpools tables a
    by_type x e p f None g h = absurd (cc)
    by_type x e p f (Some r) g h = record { is = x; found = e; pool = p; pooled = f; type = r; type_found = g; rooted = mark_root_is r.root h }

    by_pool : (x : AccessEntry) → slice_get tables.states.accesses a ≡ Some x → (o : Option (Var × ℕ)) → x.pool ≡ o → is_mark_pool tables o ≡ true → InSubpools tables a
    by_pool x e None f h = absurd (cc)
    by_pool x e (Some p) f h = by_type x e p f (slice_get tables.records p.1) refl h

    by_entry : (o : Option AccessEntry) → slice_get tables.states.accesses a ≡ o → has_subpools tables o ≡ true → InSubpools tables a
    by_entry None e h = absurd (cc)
    by_entry (Some x) e h = by_pool x e x.pool refl h

module _ (k : Setting) (has : HasLibrary k) (env : Frames) (d : Draft) (known : Known k d) where
  at_home : (a : ℕ) (t : Ty) → designated_by d.tables a ≡ Some t → (to : HasAccess k env a) → InView k to.home t
  at_home a t e to =
      let g = designates_known d.tables a t e in
      let q = known.accesses a g.is g.found in
      subst (λ h. InView k h t) (one_home q.home to.home (slice_get k.access_homes a) q.at_home to.at_home) (q.designated t g.designated).1

  subpools_known : (a : ℕ) → has_subpools d.tables (slice_get d.tables.states.accesses a) ≡ true → (to : HasAccess k env a) → HasSubpools k to.home to.is.pool
  subpools_known a e to =
      let g = in_subpools d.tables a e in
      let q = known.accesses a g.is g.found in
      let r = known.records g.pool.1 g.type g.type_found in
      let here' = one_home q.home to.home (slice_get k.access_homes a) q.at_home to.at_home in
      let pool = ap (λ y. y.pool) (one_access to.is q.is (slice_get k.accesses a) to.found q.found) ∙ q.pooled g.pool g.pooled in
      let names = subst (λ h. Names h g.pool.0 (Declared (ty.Record g.pool.1))) here' (q.pool g.pool g.pooled).names in
      subst (HasSubpools k to.home) (sym pool) (of_mark_pool names (record { is = r.is; found = r.found; rooted = r.rooted ∙ g.rooted }))

  pub types_known : TypesFine k env d.tables
  types_known = record {
    component = λ name t i c e v. let h = component_known k d.tables.records known.records (length d.tables.records) name t i c e in (h.leads, in_view_further k v.home env c v.encloses (h.in_view v.home v.at_home));
    ancestor = λ u t h. ancestor_known k d.tables.records known.records (length d.tables.records) u t h;
    rooted = λ t r e. let h = known.records t r e in record { is = h.is; found = h.found; rooted = h.rooted };
    library = (types_sound k env has).library;
    mark_pool = (types_sound k env has).mark_pool;
    designated = λ a t x e f.
        let g = designates_known d.tables a t e in
        let q = known.accesses a g.is g.found in
        ap (λ y. y.designated) (one_access x q.is (slice_get k.accesses a) f q.found) ∙ (q.designated t g.designated).0;
    designated_in_view = λ a t e v. in_view_further k v.home env t v.encloses (at_home a t e v);
    designated_at_home = at_home;
    subpools = subpools_known;
  }

pub front_sound : (s : Site) (d : Draft) → Front s d → Sound s.k (around_site s) d.tables
front_sound s d f = record {
  entries = f.entries;
  types = types_known s.k s.has (around_site s) d f.known;
  operations = λ o t n v e.
      let h = f.known.operations o t n (ap (user_operation o) (sym (read_at d.tables.states.records t)) ∙ e) in
      let same = one_home h.home v.home (slice_get s.k.record_homes t) h.at_home v.at_home in
      record {
        is = h.is;
        root = h.root;
        callable = record { found = h.found; encloses = encloses_further h.is.home v.home (around_site s) (subst (λ x. Encloses h.is.home x) same h.encloses) v.encloses };
        descends = h.descends;
        formals = h.formals;
        result = h.result;
      };
  exceptions = λ n l. let below : n < 3 = grind (arith, nat_tests) in let three = s.has.exceptions in omega (arith, three, below);
}
