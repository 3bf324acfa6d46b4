-- The layouts of the record types of a well-typed program are well formed: the type of a component is declared where the record type is, or
-- around, and each cell has its storage units.
use Rattle.std.proofs.Common.{◌≡◌, ℕ, zero, suc, ◌+◌, ◌<◌, ◌≤◌, List, [], ◌∷◌, ◌++◌, length, map, Bool, true, false, Option, Some, None, refl, sym, ap, ◌∙◌, subst, arith, take}
use Rattle.std.specs.Prelude.{option_map, slice_get, if◌then◌else◌}
use Rattle.std.proofs.lemmas.List.{length-take}
use Rattle.std.proofs.lemmas.Option.{slice_get-map}
use Rattle.ctl_program.specs.declared.types.Ty.{Ty}
use Rattle.ctl_program.specs.declared.types.Ty.TheVariants.{Integer, Count, Boolean, Address, Handle, Access, Record}
use Rattle.ctl_program.specs.declared.types.Root.{Root}
use Rattle.ctl_program.specs.declared.types.Component.{Component}
use Rattle.ctl_program.specs.declared.types.RecordType.{RecordType}
use Rattle.ctl_program.specs.declared.program.Checked.{Checked}
use Rattle.ctl_well_typed.specs.Setting as W
use Rattle.ctl_well_typed.specs.Programs as P
use Rattle.ctl_well_typed.specs.Programs.{Added, WellTyped}
use Rattle.ctl_meaning.specs.Lists.{keep}
use Rattle.ctl_code.specs.declared.code.Begun.{Begun}
use Rattle.ctl_code.specs.declared.code.Initial.{Initial}
use Rattle.ctl_code.specs.declared.code.Initial.TheVariants.{Constant, ByType, Computed}
use Rattle.ctl_code.specs.declared.code.Layout.{Layout}
use Rattle.ctl_code.specs.declared.code.Code.{Code}
use Rattle.ctl_code.specs.declared.homes.Declaration.{Declaration}
use Rattle.ctl_code.specs.declared.homes.Declaration.TheVariants.{Subprogram}
use Rattle.ctl_code.specs.declared.homes.Declaration.TheVariants as DeclarationOf
use Rattle.ctl_code.specs.Windows.{Counts, IsWithin, count_of, row_in, said}
use Rattle.ctl_code.specs.declared.kinds.Kind.TheVariants.{Default}
use Rattle.ctl_code.specs.Table as Table
use Rattle.ctl_code.specs.Table.{default_of}
use Rattle.ctl_code.proofs.Raising.{one_default}
use Rattle.ctl_program.specs.declared.expression.Expr.{Expr}
use Rattle.ctl_code.specs.Valid.{AreBegunBy, AreEvaluated, AreInScope, AreInitialsWithin, AreOperationsWithin, IsBegunBy, IsDeclarable, IsDeclaredIn, IsEvaluatedAt, IsInitialWithin, IsLaid, IsStorageInScope, Leads, is_finalized, kinds_at}
use Rattle.ctl_layout.specs.Layout.{IsLaidOut, cells_by, next_position, parent_layout}
use Rattle.ctl_layout.specs.Defaults.{begun_before, begun_from, by_type, constant_at, finalized_by, initial_by, initial_in, initial_of, is_begun, is_finalized_by, type_if}
use Rattle.ctl_gen.proofs.FormedAround.{Granted, size_around, size_at}
use Rattle.ctl_gen.proofs.Layouts.{IsAt, Perhaps, at, controlled_are, rise_to, roomy, told, type_of}
use Rattle.ctl_layout.specs.Records.{run_default}

-- Tables -------------------------------------------------------------------------------------------

-- a place in a list is one in each list of the same length
pub alike : (A B : Type 0) → (xs : List A) (ys : List B) → length xs ≡ length ys → (n : ℕ) (x : A) → slice_get xs n ≡ Some x → (y : B) × (slice_get ys n ≡ Some y)
alike A B [] ys e n x h = absurd (cc)
alike A B (z ∷ xs) [] e n x h = absurd (omega (arith, e))
alike A B (z ∷ xs) (y ∷ ys) e zero x h = (y, refl)
alike A B (z ∷ xs) (y ∷ ys) e (suc n) x h = alike A B xs ys (omega (arith, e)) n x h

-- masters that stand around others are not more
pub not_more : (home env : W.Frames) → W.Encloses home env → length home ≤ length env
not_more home env e =
    let size : length (take (length home) env) ≡ length home = ap length e in
    let least = length-take (length home) env in
    omega (arith, size, least)

-- Components that begin with something -------------------------------------------------------------

module _ (code : Code) where
  declared_later : (few many : ℕ) (o : Option Layout) → few ≤ many → IsDeclaredIn few o → IsDeclaredIn many o
  declared_later few many None le h = h
  declared_later few many (Some x) le h = omega (arith, le, h)

  begun_later : (few many : ℕ) (xs : List Begun) → few ≤ many → AreBegunBy code few xs → AreBegunBy code many xs
  begun_later few many [] le h = tt
  begun_later few many (x ∷ xs) le h = (by x.initial h.0, begun_later few many xs le h.1)
    where
      by : (i : Initial) → IsBegunBy code few i → IsBegunBy code many i
      by (Constant n) g = tt
      by Computed g = tt
      by (ByType u) g = declared_later few many (slice_get code.layouts.items u) le g

  begun_both : (masters : ℕ) (xs ys : List Begun) → AreBegunBy code masters xs → AreBegunBy code masters ys → AreBegunBy code masters (xs ++ ys)
  begun_both masters [] ys h g = g
  begun_both masters (x ∷ xs) ys h g = (h.0, begun_both masters xs ys h.1 g)

  begun_first : (masters p n : ℕ) (o : Option Initial) (xs : List Begun) → Perhaps (IsBegunBy code masters) o → AreBegunBy code masters xs → AreBegunBy code masters (begun_before p n o xs)
  begun_first masters p n None xs h g = g
  begun_first masters p n (Some i) xs h g = (h, g)

  type_begun : (masters u : ℕ) (b : Bool) → IsDeclarable code masters u → Perhaps (IsBegunBy code masters) (type_if u b)
  type_begun masters u true h = h
  type_begun masters u false h = tt

  finalized_same : (xs : List Begun) → finalized_by code.layouts.items xs ≡ keep (λ (x : Begun). is_finalized code x.initial) xs
  unfolding keep
  finalized_same [] = refl
  finalized_same (x ∷ xs) =
      ap (λ b. if b then x ∷ finalized_by code.layouts.items xs else finalized_by code.layouts.items xs) (by x.initial)
      ∙ ap (λ zs. if is_finalized code x.initial then x ∷ zs else zs) (finalized_same xs)
    where
      by : (i : Initial) → is_finalized_by code.layouts.items i ≡ is_finalized code i
      by (Constant n) = refl
      by (ByType u) = refl
      by Computed = refl

-- Masters around declarations ----------------------------------------------------------------------

-- those around each declaration of a program
abbrev pub around : W.Setting → Counts
around k = record { subprograms = map (λ (is : W.Signature). map length is.home) k.subprograms; records = map (λ (home : W.Frames). map length home) k.record_homes }

-- what code says of them is so
pub record SaysAround (code : Code) (k : W.Setting) : Type 0 where
  pub subprograms : code.homes.subprograms ≡ (around k).subprograms
  pub records : code.homes.records ≡ (around k).records

counted : (home : W.Frames) (level : ℕ) → count_of (slice_get (map length home) level) ≡ size_at home level
counted [] level = refl
counted (f ∷ home) zero = refl
counted (f ∷ home) (suc level) = counted home level

module _ (code : Code) (k : W.Setting) (says : SaysAround code k) where
  pub said_of_subprogram : (f : ℕ) (is : W.Signature) → slice_get k.subprograms f ≡ Some is → (level : ℕ) → said code.homes (Subprogram f) level ≡ size_at is.home level
  said_of_subprogram f is found level =
      let g = λ (x : W.Signature). map length x.home in
      let row : slice_get code.homes.subprograms f ≡ Some (map length is.home) = ap (λ rows. slice_get rows f) says.subprograms ∙ slice_get-map g k.subprograms f ∙ ap (option_map g) found in
      ap (λ (o : Option (List ℕ)). count_of (slice_get (row_in o) level)) row ∙ counted is.home level

  pub said_of_record : (t : ℕ) (home : W.Frames) → slice_get k.record_homes t ≡ Some home → (level : ℕ) → said code.homes (DeclarationOf.Record t) level ≡ size_at home level
  said_of_record t home found level =
      let g = λ (x : W.Frames). map length x in
      let row : slice_get code.homes.records t ≡ Some (map length home) = ap (λ rows. slice_get rows t) says.records ∙ slice_get-map g k.record_homes t ∙ ap (option_map g) found in
      ap (λ (o : Option (List ℕ)). count_of (slice_get (row_in o) level)) row ∙ counted home level

  pub subprogram_granted : (env : W.Frames) (f : ℕ) (is : W.Signature) → W.Callable k env f is → Granted code env (Subprogram f)
  subprogram_granted env f is c level = let told = said_of_subprogram f is c.found level in let least = size_around is.home env level c.encloses in omega (arith, told, least)

  pub record_granted : (env : W.Frames) (t : ℕ) → W.HasRecord k env t → Granted code env (DeclarationOf.Record t)
  record_granted env t h level = let told = said_of_record t h.home h.at_home level in let least = size_around h.home env level h.encloses in omega (arith, told, least)

  -- what is granted where a record type is declared stands around that
  pub granted_within : (t : ℕ) (home : W.Frames) (of : Declaration) → slice_get k.record_homes t ≡ Some home → Granted code home of → IsWithin code.homes (DeclarationOf.Record t) of
  granted_within t home of found granted level = let told = said_of_record t home found level in let least = granted level in omega (arith, told, least)

-- the masters around the type of a component, if that begins by its type, stand around a record type
abbrev IsTypeWithin : Counts → ℕ → Initial → Type 0
IsTypeWithin counts t (Constant v) = Unit {0}
IsTypeWithin counts t (ByType u) = IsWithin counts (DeclarationOf.Record t) (DeclarationOf.Record u)
IsTypeWithin counts t Computed = Unit {0}

abbrev AreTypesWithin : Counts → ℕ → List Begun → Type 0
AreTypesWithin counts t [] = Unit {0}
AreTypesWithin counts t (x ∷ xs) = IsTypeWithin counts t x.initial × AreTypesWithin counts t xs

-- Defaults -----------------------------------------------------------------------------------------

-- a default is evaluated at a place where no more masters stand around than around a record type, which are those around the type that declares
-- the component
abbrev pub StandsAt : Code → ℕ → ℕ → ℕ → Initial → Type 0
StandsAt code masters t place Computed = (level : ℕ) × (number : ℕ) × (level ≤ masters) × Leads code place (Default level number ∷ []) × IsWithin code.homes (DeclarationOf.Record t) (DeclarationOf.Record number)
StandsAt code masters t place _ = Unit {0}

abbrev pub AllStand : Code → ℕ → ℕ → List Begun → Type 0
AllStand code masters t [] = Unit {0}
AllStand code masters t (x ∷ xs) = StandsAt code masters t (default_of code t x.position) x.initial × AllStand code masters t xs

evaluated : (code : Code) (masters t : ℕ) (xs : List Begun) → AllStand code masters t xs → AreEvaluated code masters t xs
evaluated code masters t [] h = tt
evaluated code masters t (x ∷ xs) h = (by x.initial h.0, evaluated code masters t xs h.1)
  where
    by : (i : Initial) → StandsAt code masters t (default_of code t x.position) i → IsEvaluatedAt code masters (default_of code t x.position) i
    by (Constant v) g = tt
    by (ByType u) g = tt
    by Computed g = (g.0, g.1, g.2, g.3)

initials_within : (code : Code) (masters t : ℕ) (xs : List Begun) → AreTypesWithin code.homes t xs → AllStand code masters t xs → AreInitialsWithin code t xs
initials_within code masters t [] h g = tt
initials_within code masters t (x ∷ xs) h g = (by x.initial h.0 g.0, initials_within code masters t xs h.1 g.1)
  where
    by : (i : Initial) → IsTypeWithin code.homes t i → StandsAt code masters t (default_of code t x.position) i → IsInitialWithin code t (default_of code t x.position) i
    by (Constant v) a b = tt
    by (ByType u) a b = a
    by Computed a b = λ level number there. subst (λ n. IsWithin code.homes (DeclarationOf.Record t) (DeclarationOf.Record n)) (one_default (kinds_at code (default_of code t x.position)) b.0 b.1 level number b.3 there) b.4

module _ (counts : Counts) where
  within_later : (p t : ℕ) (xs : List Begun) → IsWithin counts (DeclarationOf.Record t) (DeclarationOf.Record p) → AreTypesWithin counts p xs → AreTypesWithin counts t xs
  within_later p t [] inner h = tt
  within_later p t (x ∷ xs) inner h = (by x.initial h.0, within_later p t xs inner h.1)
    where
      by : (i : Initial) → IsTypeWithin counts p i → IsTypeWithin counts t i
      by (Constant n) g = tt
      by Computed g = tt
      by (ByType u) g = λ level. let first = g level in let second = inner level in omega (arith, first, second)

  within_both : (t : ℕ) (xs ys : List Begun) → AreTypesWithin counts t xs → AreTypesWithin counts t ys → AreTypesWithin counts t (xs ++ ys)
  within_both t [] ys h g = g
  within_both t (x ∷ xs) ys h g = (h.0, within_both t xs ys h.1 g)

  within_first : (t p n : ℕ) (o : Option Initial) (xs : List Begun) → Perhaps (IsTypeWithin counts t) o → AreTypesWithin counts t xs → AreTypesWithin counts t (begun_before p n o xs)
  within_first t p n None xs h g = g
  within_first t p n (Some i) xs h g = (h, g)

  type_within : (t u : ℕ) (b : Bool) → IsWithin counts (DeclarationOf.Record t) (DeclarationOf.Record u) → Perhaps (IsTypeWithin counts t) (type_if u b)
  type_within t u true h = h
  type_within t u false h = tt

-- Layouts ------------------------------------------------------------------------------------------

pub home_of : (program : Checked) (typed : WellTyped program) (t : ℕ) (r : RecordType) → slice_get program.records t ≡ Some r → (home : W.Frames) × (slice_get typed.k.record_homes t ≡ Some home)
home_of program typed t r e = alike RecordType W.Frames program.records typed.k.record_homes (sym typed.fits.record_homes) t r e

module _ (program : Checked) (typed : WellTyped program) (code : Code) (laid : IsLaidOut program code) (says : SaysAround code typed.k) where
  layout_at : (t : ℕ) (r : RecordType) → slice_get program.records t ≡ Some r → IsAt code.layouts.items t r
  layout_at t r e = at program.records code.layouts.items laid.layouts t r e

  -- the level of a type says how many masters are around it
  level_of : (t : ℕ) (r : RecordType) (home : W.Frames) (e : slice_get program.records t ≡ Some r) → slice_get typed.k.record_homes t ≡ Some home → (layout_at t r e).layout.level ≡ length home
  level_of t r home e at_home = (layout_at t r e).is.level ∙ (typed.each_record t r home e at_home).level

  pub declarable_in : (masters t : ℕ) (r : RecordType) (home : W.Frames) → length home ≤ masters → slice_get program.records t ≡ Some r → slice_get typed.k.record_homes t ≡ Some home → IsDeclarable code masters t
  declarable_in masters t r home least e at_home =
      let level = level_of t r home e at_home in
      subst (IsDeclaredIn masters) (sym (layout_at t r e).there) (omega (arith, least, level))

  pub declarable : (env : W.Frames) (t : ℕ) → W.HasRecord typed.k env t → IsDeclarable code (length env) t
  declarable env t h = declarable_in (length env) t h.is h.home (not_more h.home env h.encloses) (sym (ap (λ rs. slice_get rs t) typed.fits.records) ∙ h.found) h.at_home

  -- where a type is in view, objects of it can be declared
  pub creatable : (env : W.Frames) (t : ℕ) → W.HasRecord typed.k env t → IsDeclarable code (length env) t × Granted code env (DeclarationOf.Record t)
  creatable env t h = (declarable env t h, record_granted code typed.k says env t h)

  -- the types of the components that a type adds are in view where it is
  by_type_begun : (home : W.Frames) (layouts : List Layout) (ty : Ty) → W.InView typed.k home ty → Perhaps (IsBegunBy code (length home)) (by_type layouts ty)
  by_type_begun home layouts (Record u) view = type_begun code (length home) u (is_begun (slice_get layouts u)) (declarable home u view)
  by_type_begun home layouts Integer view = tt
  by_type_begun home layouts Count view = tt
  by_type_begun home layouts Boolean view = tt
  by_type_begun home layouts Address view = tt
  by_type_begun home layouts Handle view = tt
  by_type_begun home layouts (Access a) view = tt

  initial_begun : (home : W.Frames) (layouts : List Layout) (c : Component) → W.InView typed.k home c.ty → Perhaps (IsBegunBy code (length home)) (initial_of layouts c)
  initial_begun home layouts c view = by (run_default c)
    where
      given : (o : Option ℕ) → IsBegunBy code (length home) (initial_in o)
      given None = tt
      given (Some n) = tt

      by : (o : Option Expr) → Perhaps (IsBegunBy code (length home)) (initial_by o (by_type layouts c.ty))
      by None = by_type_begun home layouts c.ty view
      by (Some e) = given (constant_at e)

  own_begun : {home : W.Frames} {t : ℕ} {cs : List Component} (layouts : List Layout) (size : Ty → ℕ) (p n : ℕ) → Added typed.k home t cs → AreBegunBy code (length home) (begun_from layouts size p n cs)
  own_begun layouts size p n P.no_more_components = tt
  own_begun {home} layouts size p n (P.one_more_component {c = c} view before perhaps rest) = begun_first code (length home) p n (initial_of layouts c) _ (initial_begun home layouts c view) (own_begun layouts size (p + 1) (n + size c.ty) rest)

  -- and so are those of the components that it inherits
  abbrev BegunAt : ℕ → Type 0
  BegunAt t = (r : RecordType) (home : W.Frames) → slice_get program.records t ≡ Some r → slice_get typed.k.record_homes t ≡ Some home → AreBegunBy code (length home) (Table.begun_in (slice_get code.layouts.items t))

  parent_begun : {home : W.Frames} {t : ℕ} {root : Root} {o : Option ℕ} (z : List Layout) → ((p : ℕ) → p < t → slice_get code.layouts.items p ≡ slice_get z p) → ((u : ℕ) → u < t → BegunAt u) → P.Parent typed.k home t root o → AreBegunBy code (length home) (Table.begun_in (parent_layout z o))
  parent_begun z same before P.none = tt
  parent_begun {home} z same before (P.extends {p = p} less has root) =
      let there : slice_get program.records p ≡ Some has.is = sym (ap (λ rs. slice_get rs p) typed.fits.records) ∙ has.found in
      begun_later code (length has.home) (length home) (Table.begun_in (slice_get z p)) (not_more has.home home has.encloses)
      (subst (λ o. AreBegunBy code (length has.home) (Table.begun_in o)) (same p less) (before p less has.is has.home there has.at_home))

  begun_by : (t : ℕ) → ((u : ℕ) → u < t → BegunAt u) → BegunAt t
  begun_by t before r home e at_home =
      let fine = typed.each_record t r home e at_home in
      let z = layout_at t r e in
      let o = parent_layout z.before r.parent in
      let size = cells_by z.before in
      subst (λ y. AreBegunBy code (length home) (Table.begun_in y)) (sym z.there)
      (subst (AreBegunBy code (length home)) (sym z.is.begun)
      (begun_both code (length home) (Table.begun_in o) (begun_from z.before size (next_position o) (Table.size_in o) r.own)
      (parent_begun z.before z.same before fine.parent)
      (own_begun z.before size (next_position o) (Table.size_in o) fine.own)))

  begun_within : (n t : ℕ) → t < n → BegunAt t
  begun_within zero t lt = absurd (omega (arith, lt))
  begun_within (suc n) t lt = begun_by t (λ u less. begun_within n u (omega (arith, less, lt)))

  -- the masters around the types of its components stand around a type
  by_type_within : (t : ℕ) (home : W.Frames) (layouts : List Layout) (ty : Ty) → slice_get typed.k.record_homes t ≡ Some home → W.InView typed.k home ty → Perhaps (IsTypeWithin code.homes t) (by_type layouts ty)
  by_type_within t home layouts (Record u) at_home view = type_within code.homes t u (is_begun (slice_get layouts u)) (granted_within code typed.k says t home (DeclarationOf.Record u) at_home (record_granted code typed.k says home u view))
  by_type_within t home layouts Integer at_home view = tt
  by_type_within t home layouts Count at_home view = tt
  by_type_within t home layouts Boolean at_home view = tt
  by_type_within t home layouts Address at_home view = tt
  by_type_within t home layouts Handle at_home view = tt
  by_type_within t home layouts (Access a) at_home view = tt

  initial_within : (t : ℕ) (home : W.Frames) (layouts : List Layout) (c : Component) → slice_get typed.k.record_homes t ≡ Some home → W.InView typed.k home c.ty → Perhaps (IsTypeWithin code.homes t) (initial_of layouts c)
  initial_within t home layouts c at_home view = by (run_default c)
    where
      given : (o : Option ℕ) → IsTypeWithin code.homes t (initial_in o)
      given None = tt
      given (Some n) = tt

      by : (o : Option Expr) → Perhaps (IsTypeWithin code.homes t) (initial_by o (by_type layouts c.ty))
      by None = by_type_within t home layouts c.ty at_home view
      by (Some e) = given (constant_at e)

  own_within : {home : W.Frames} {t : ℕ} {cs : List Component} (layouts : List Layout) (size : Ty → ℕ) (p n : ℕ) → slice_get typed.k.record_homes t ≡ Some home → Added typed.k home t cs → AreTypesWithin code.homes t (begun_from layouts size p n cs)
  own_within layouts size p n at_home P.no_more_components = tt
  own_within {home} {t} layouts size p n at_home (P.one_more_component {c = c} view before perhaps rest) = within_first code.homes t p n (initial_of layouts c) _ (initial_within t home layouts c at_home view) (own_within layouts size (p + 1) (n + size c.ty) at_home rest)

  -- and so do those around the components that it inherits
  abbrev WithinAt : ℕ → Type 0
  WithinAt t = (r : RecordType) (home : W.Frames) → slice_get program.records t ≡ Some r → slice_get typed.k.record_homes t ≡ Some home → AreTypesWithin code.homes t (Table.begun_in (slice_get code.layouts.items t))

  parent_within : {home : W.Frames} {t : ℕ} {root : Root} {o : Option ℕ} (z : List Layout) → slice_get typed.k.record_homes t ≡ Some home → ((p : ℕ) → p < t → slice_get code.layouts.items p ≡ slice_get z p) → ((u : ℕ) → u < t → WithinAt u) → P.Parent typed.k home t root o → AreTypesWithin code.homes t (Table.begun_in (parent_layout z o))
  parent_within z at_home same before P.none = tt
  parent_within {home} {t} z at_home same before (P.extends {p = p} less has root) =
      let there : slice_get program.records p ≡ Some has.is = sym (ap (λ rs. slice_get rs p) typed.fits.records) ∙ has.found in
      within_later code.homes p t (Table.begun_in (slice_get z p)) (granted_within code typed.k says t home (DeclarationOf.Record p) at_home (record_granted code typed.k says home p has))
      (subst (λ o. AreTypesWithin code.homes p (Table.begun_in o)) (same p less) (before p less has.is has.home there has.at_home))

  within_by : (t : ℕ) → ((u : ℕ) → u < t → WithinAt u) → WithinAt t
  within_by t before r home e at_home =
      let fine = typed.each_record t r home e at_home in
      let z = layout_at t r e in
      let o = parent_layout z.before r.parent in
      let size = cells_by z.before in
      subst (λ y. AreTypesWithin code.homes t (Table.begun_in y)) (sym z.there)
      (subst (AreTypesWithin code.homes t) (sym z.is.begun)
      (within_both code.homes t (Table.begun_in o) (begun_from z.before size (next_position o) (Table.size_in o) r.own)
      (parent_within z.before at_home z.same before fine.parent)
      (own_within z.before size (next_position o) (Table.size_in o) at_home fine.own)))

  all_within : (n t : ℕ) → t < n → WithinAt t
  all_within zero t lt = absurd (omega (arith, lt))
  all_within (suc n) t lt = within_by t (λ u less. all_within n u (omega (arith, less, lt)))

  -- what holds of each type inside as many masters as are around it
  abbrev pub EachAtHome : (ℕ → ℕ → Type 0) → Type 0
  EachAtHome P = (t : ℕ) (r : RecordType) (home : W.Frames) → slice_get program.records t ≡ Some r → slice_get typed.k.record_homes t ≡ Some home → P (length home) t

  pub layouts_laid : EachAtHome (AreInScope code) → EachAtHome (IsStorageInScope code) → EachAtHome (λ n t. AreOperationsWithin code t) → ((t : ℕ) (x : Layout) → slice_get code.layouts.items t ≡ Some x → AllStand code x.level t x.begun.items) → (t : ℕ) (x : Layout) → slice_get code.layouts.items t ≡ Some x → IsLaid code t x
  layouts_laid in_scope storage within stand t x there =
      let r = type_of program.records code.layouts.items laid.layouts t x there in
      let home = home_of program typed t r.0 r.1 in
      let z = layout_at t r.0 r.1 in
      let same : z.layout ≡ x = (let e : Some z.layout ≡ Some x = sym z.there ∙ there in cc e) in
      let level : length home.0 ≡ x.level = sym (level_of t r.0 home.0 r.1 home.1) ∙ ap (λ (y : Layout). y.level) same in
      record {
        operations = subst (λ n. AreInScope code n t) level (in_scope t r.0 home.0 r.1 home.1);
        storage = subst (λ n. IsStorageInScope code n t) level (storage t r.0 home.0 r.1 home.1);
        types = subst (λ n. AreBegunBy code n x.begun.items) level (subst (λ o. AreBegunBy code (length home.0) (Table.begun_in o)) there (begun_within (suc t) t (omega arith) r.0 home.0 r.1 home.1));
        operations_within = within t r.0 home.0 r.1 home.1;
        types_within = initials_within code x.level t x.begun.items (subst (λ o. AreTypesWithin code.homes t (Table.begun_in o)) there (all_within (suc t) t (omega arith) r.0 home.0 r.1 home.1)) (stand t x there);
        defaults = evaluated code x.level t x.begun.items (stand t x there);
        units = (roomy program.records code.layouts.items laid.layouts t x there).units;
        rise = rise_to (length x.offsets.items) 0 x.begun.items (told program.records code.layouts.items laid.layouts t x there).rise;
        controlled = controlled_are program.records code.layouts.items laid.layouts t x there ∙ finalized_same code x.begun.items;
      }
