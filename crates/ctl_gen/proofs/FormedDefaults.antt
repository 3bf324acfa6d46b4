-- Defaults that are no constants are well formed, and stand where the table says (3.8).
use Rattle.std.proofs.Common.{◌≡◌, ℕ, zero, suc, ◌+◌, ◌-◌, ◌<◌, ◌≤◌, List, [], ◌∷◌, ◌++◌, length, length-append, Bool, true, false, Option, Some, None, refl, sym, ap, ◌∙◌, subst, arith}
use Rattle.std.specs.Prelude.{slice_get}
use Rattle.ctl_program.specs.declared.expression.Expr.{Expr}
use Rattle.ctl_program.specs.declared.program.Checked.{Checked}
use Rattle.ctl_program.specs.declared.types.Component.{Component}
use Rattle.ctl_program.specs.declared.types.RecordType.{RecordType}
use Rattle.ctl_program.specs.declared.types.Root.{Root}
use Rattle.ctl_program.specs.declared.types.Ty.{Ty}
use Rattle.ctl_program.specs.declared.types.Ty.TheVariants as TyOf
use Rattle.ctl_meaning.specs.Lists.{item_or, opened_lists}
use Rattle.ctl_code.specs.declared.code.Begun.{Begun}
use Rattle.ctl_code.specs.declared.code.Code.{Code}
use Rattle.ctl_code.specs.declared.code.Initial.{Initial}
use Rattle.ctl_code.specs.declared.code.Initial.TheVariants.{Constant, ByType, Computed}
use Rattle.ctl_code.specs.declared.code.Layout.{Layout}
use Rattle.ctl_code.specs.declared.homes.Declaration.TheVariants.{Record}
use Rattle.ctl_code.specs.declared.kinds.Kind.TheVariants.{Default}
use Rattle.ctl_code.specs.Table as Table
use Rattle.ctl_code.specs.Table.{default_of}
use Rattle.ctl_code.specs.Valid.{Leads}
use Rattle.ctl_code.specs.Windows.{IsWithin}
use Rattle.ctl_layout.specs.Around.{Line}
use Rattle.ctl_layout.specs.Defaults as DefaultsOf
use Rattle.ctl_layout.specs.Defaults.{begun_before, begun_from, by_type, constant_at, initial_by, initial_of, is_begun, type_if}
use Rattle.ctl_layout.specs.Layout.{IsLaidOut, all_defaults, behind_bodies, cells_by, computed, computed_in, computed_unless, default_code, defaults_code, evaluation_of, inherited_places, next_position, offsets_from, offsets_in, parent_layout, places_from, rows_from}
use Rattle.ctl_layout.specs.Records.{run_default}
use Rattle.ctl_layout.specs.Run.{are_defaults_run, are_own_run, is_default_run, is_evaluation_run}
use Rattle.ctl_layout.specs.Values.{value_code}
use Rattle.ctl_layout.proofs.Extensions.{get_front}
use Rattle.ctl_well_typed.specs.Setting as W
use Rattle.ctl_well_typed.specs.Expressions.{Perhaps, Typed}
use Rattle.ctl_well_typed.specs.Expressions as T
use Rattle.ctl_well_typed.specs.Programs.{Added, WellTyped}
use Rattle.ctl_well_typed.specs.Programs as P
use Rattle.ctl_gen.proofs.DefaultRows.{RowAt, default_is, places_length, row_from, table_says}
use Rattle.ctl_gen.proofs.Formed.{AreFine, Has, fine_both, has_back, has_front}
use Rattle.ctl_gen.proofs.FormedAround.{Surrounds}
use Rattle.ctl_gen.proofs.FormedCalls.{MayCall, MayNew}
use Rattle.ctl_gen.proofs.FormedExpressions.{typed_fine}
use Rattle.ctl_gen.proofs.FormedLayouts.{AllStand, SaysAround, StandsAt, granted_within, home_of, not_more, record_granted}
use Rattle.ctl_gen.proofs.FormedStatements.{returned_as}
use Rattle.ctl_gen.proofs.FormedTypes.{run_scalar}
use Rattle.ctl_gen.proofs.FormedValues.{Usable, usable_as}
use Rattle.ctl_gen.proofs.Known.{both_true}
use Rattle.ctl_gen.proofs.Layouts as Layouts
use Rattle.ctl_gen.proofs.Layouts.{IsAt, RiseTo, offsets_length, told}

-- The values ---------------------------------------------------------------------------------------

module _ (code : Code) (env : W.Frames) where
  -- the default of a component, if it is evaluated, is a value that can be used in the masters around its type
  abbrev pub IsUsable : Component → Type 0
  IsUsable c = (x : Expr) → computed c ≡ Some x → Usable code env (value_code x) c.ty

  abbrev pub AreUsable : List Component → Type 0
  AreUsable [] = Unit {0}
  AreUsable (c ∷ cs) = IsUsable c × AreUsable cs

-- a default that stands there is well typed
pub typed_in : {k : W.Setting} {env : W.Frames} {x : Expr} {t : Ty} → Perhaps k env (Some x) t → Typed k env x t
typed_in (T.given h) = h

module _ (code : Code) (records : List RecordType) (k : W.Setting) (may_call : MayCall code k) (may_new : MayNew code k) where
  usable : (env : W.Frames) (c : Component) → Perhaps k env c.default c.ty → is_default_run records c ≡ true → IsUsable code env c
  usable env c h run x is =
      let of = default_is c x is in
      let given = typed_in (subst (λ o. Perhaps k env o c.ty) of.1 h) in
      let e = subst (λ o. is_evaluation_run records o ≡ true) is run in
      usable_as code env (value_code x) c.ty (run_scalar c.ty of.0) (typed_fine code records k may_call may_new given e)

  pub all_usable : {env : W.Frames} {n : ℕ} {cs : List Component} → Added k env n cs → are_own_run records cs ≡ true → AreUsable code env cs
  all_usable P.no_more_components run = tt
  all_usable {env} (P.one_more_component {c = c} {more = cs} view before perhaps rest) run =
      let e = both_true (is_default_run records c) (are_own_run records cs) run in
      (usable env c perhaps e.0, all_usable rest e.1)

-- those of each type are run
pub own_run : (records rs : List RecordType) → are_defaults_run records rs ≡ true → (i : ℕ) (r : RecordType) → slice_get rs i ≡ Some r → are_own_run records r.own ≡ true
own_run records [] run i r at = absurd (cc at)
own_run records (s ∷ rs) run zero r at =
    let same : s ≡ r = cc at in
    subst (λ (z : RecordType). are_own_run records z.own ≡ true) same (both_true (are_own_run records s.own) (are_defaults_run records rs) run).0
own_run records (s ∷ rs) run (suc i) r at = own_run records rs (both_true (are_own_run records s.own) (are_defaults_run records rs) run).1 i r at

-- Their lines --------------------------------------------------------------------------------------

module _ (code : Code) (env : W.Frames) (level number : ℕ) (around : Surrounds code env (Default level number ∷ [])) where
  default_fine : (c : Component) → IsUsable code env c → (p : ℕ) → Has code p (default_code level number c) None → AreFine code p (default_code level number c)
  default_fine c good p h = by (computed c) refl h
    where
      by : (o : Option Expr) → computed c ≡ o → Has code p (evaluation_of level number o c.ty) None → AreFine code p (evaluation_of level number o c.ty)
      by None is h = tt
      by (Some x) is h = (returned_as code env (value_code x) c.ty (Default level number ∷ []) None around (good x is) p h).1

  default_there : (c : Component) (x : Expr) → IsUsable code env c → computed c ≡ Some x → (p : ℕ) → Has code p (default_code level number c) None → Leads code p (Default level number ∷ [])
  default_there c x good is p h =
      let lines = subst (λ (o : Option Expr). Has code p (evaluation_of level number o c.ty) None) is h in
      (returned_as code env (value_code x) c.ty (Default level number ∷ []) None around (good x is) p lines).0

  -- those of the components that a type adds, one after another
  pub own_fine : (cs : List Component) → AreUsable code env cs → (p : ℕ) → Has code p (defaults_code level number cs) None → AreFine code p (defaults_code level number cs)
  own_fine [] good p h = tt
  own_fine (c ∷ cs) good p h =
      let lines = default_code level number c in
      let rest = defaults_code level number cs in
      fine_both code p lines rest (default_fine c good.0 p (has_front code p lines rest None None h tt)) (own_fine cs good.1 (p + length lines) (has_back code p lines rest None h))

  -- each where the table says
  pub own_there : (cs : List Component) → AreUsable code env cs → (p : ℕ) → Has code p (defaults_code level number cs) None → (i : ℕ) (c : Component) (x : Expr) → slice_get cs i ≡ Some c → computed c ≡ Some x → Leads code (item_or 0 (slice_get (places_from level number p cs) i)) (Default level number ∷ [])
  unfolding opened_lists
  own_there [] good p h i c x at is = absurd (cc at)
  own_there (b ∷ cs) good p h zero c x at is =
      let same : b ≡ c = cc at in
      default_there b x good.0 (ap (λ (y : Component). computed y) same ∙ is) p (has_front code p (default_code level number b) (defaults_code level number cs) None None h tt)
  own_there (b ∷ cs) good p h (suc i) c x at is =
      let lines = default_code level number b in
      own_there cs good.1 (p + length lines) (has_back code p lines (defaults_code level number cs) None h) i c x at is

-- The table of the types ---------------------------------------------------------------------------

-- what the lines of the defaults of a type need
abbrev pub Settled : Code → ℕ → RecordType → Type 0
Settled code t r = (env : W.Frames) × Surrounds code env (Default r.level t ∷ []) × AreUsable code env r.own

abbrev pub AllSettled : Code → ℕ → List RecordType → Type 0
AllSettled code number rs = (i t : ℕ) (r : RecordType) → slice_get rs i ≡ Some r → t ≡ number + i → Settled code t r

module _ (code : Code) where
  settled_later : (number : ℕ) (r : RecordType) (rs : List RecordType) → AllSettled code number (r ∷ rs) → AllSettled code (number + 1) rs
  settled_later number r rs each i t s at e = each (suc i) t s at (omega (arith, e))

  pub all_defaults_fine : (number place : ℕ) (rs : List RecordType) → AllSettled code number rs → Has code place (all_defaults number rs) None → AreFine code place (all_defaults number rs)
  all_defaults_fine number place [] each h = tt
  all_defaults_fine number place (r ∷ rs) each h =
      let lines = defaults_code r.level number r.own in
      let rest = all_defaults (number + 1) rs in
      let z = each 0 number r refl (omega arith) in
      fine_both code place lines rest
      (own_fine code z.0 r.level number z.1 r.own z.2 place (has_front code place lines rest None None h tt))
      (all_defaults_fine (number + 1) (place + length lines) rs (settled_later number r rs each) (has_back code place lines rest None h))

-- positions that rise to one are none beyond it
rise_within : (top last : ℕ) (xs : List Begun) → RiseTo top last xs → last ≤ top
rise_within top last [] h = h
rise_within top last (x ∷ xs) h = let lt = h.0 in let le = rise_within top x.position xs h.1 in omega (arith, lt, le)

-- Where they are evaluated -------------------------------------------------------------------------

module _ (code : Code) where
  -- an heir evaluates what it inherits where its parent does
  stands_later : (masters many p t place : ℕ) (i : Initial) → masters ≤ many → IsWithin code.homes (Record t) (Record p) → StandsAt code masters p place i → StandsAt code many t place i
  stands_later masters many p t place (Constant v) le inner g = tt
  stands_later masters many p t place (ByType u) le inner g = tt
  stands_later masters many p t place Computed le inner g =
      let least = g.2 in
      let wide = g.4 in
      (g.0, g.1, omega (arith, le, least), g.3, λ level. let first = wide level in let second = inner level in omega (arith, first, second))

  all_later : (masters many p t top last : ℕ) (xs : List Begun) → RiseTo top last xs → masters ≤ many → IsWithin code.homes (Record t) (Record p) → ((q : ℕ) → 0 < q → q ≤ top → default_of code p q ≡ default_of code t q) → AllStand code masters p xs → AllStand code many t xs
  all_later masters many p t top last [] rise le inner same h = tt
  all_later masters many p t top last (x ∷ xs) rise le inner same h =
      let lt = rise.0 in
      let up = rise_within top x.position xs rise.1 in
      let place = same x.position (omega (arith, lt)) up in (
        subst (λ n. StandsAt code many t n x.initial) place (stands_later masters many p t (default_of code p x.position) x.initial le inner h.0),
        all_later masters many p t top x.position xs rise.1 le inner same h.1,
      )

  stand_both : (masters t : ℕ) (xs ys : List Begun) → AllStand code masters t xs → AllStand code masters t ys → AllStand code masters t (xs ++ ys)
  stand_both masters t [] ys h g = g
  stand_both masters t (x ∷ xs) ys h g = (h.0, stand_both masters t xs ys h.1 g)

  -- its own stand where the table says
  module _ (level t : ℕ) (layouts : List Layout) (size : Ty → ℕ) where
    type_stands : (place u : ℕ) (b : Bool) → Layouts.Perhaps (StandsAt code level t place) (type_if u b)
    type_stands place u true = tt
    type_stands place u false = tt

    by_type_stands : (place : ℕ) (ty : Ty) → Layouts.Perhaps (StandsAt code level t place) (by_type layouts ty)
    by_type_stands place (TyOf.Record u) = type_stands place u (is_begun (slice_get layouts u))
    by_type_stands place TyOf.Integer = tt
    by_type_stands place TyOf.Count = tt
    by_type_stands place TyOf.Boolean = tt
    by_type_stands place TyOf.Address = tt
    by_type_stands place TyOf.Handle = tt
    by_type_stands place (TyOf.Access a) = tt

    -- where the default of this component is evaluated, if it is
    abbrev IsThere : ℕ → Component → Type 0
    IsThere place c = (x : Expr) → computed c ≡ Some x → Leads code place (Default level t ∷ [])

    initial_stands : (place : ℕ) (c : Component) → IsThere place c → Layouts.Perhaps (StandsAt code level t place) (initial_of layouts c)
    initial_stands place c there = by (run_default c) refl
      where
        given : (e : Expr) (n : Option ℕ) → run_default c ≡ Some e → constant_at e ≡ n → StandsAt code level t place (DefaultsOf.initial_in n)
        given e (Some n) is const = tt
        given e None is const = (level, t, omega arith, there e (ap computed_in is ∙ ap (computed_unless e) const), λ l. omega arith)

        by : (o : Option Expr) → run_default c ≡ o → Layouts.Perhaps (StandsAt code level t place) (initial_by o (by_type layouts c.ty))
        by None is = by_type_stands place c.ty
        by (Some e) is = given e (constant_at e) is refl

    first_stands : (q n : ℕ) (o : Option Initial) (xs : List Begun) → Layouts.Perhaps (StandsAt code level t (default_of code t q)) o → AllStand code level t xs → AllStand code level t (begun_before q n o xs)
    first_stands q n None xs h g = g
    first_stands q n (Some i) xs h g = (h, g)

    own_stand : (q n : ℕ) (cs : List Component) → ((i : ℕ) (c : Component) → slice_get cs i ≡ Some c → IsThere (default_of code t (q + i)) c) → AllStand code level t (begun_from layouts size q n cs)
    own_stand q n [] there = tt
    own_stand q n (c ∷ cs) there =
        let here : q + 0 ≡ q = omega arith in
        first_stands q n (initial_of layouts c) (begun_from layouts size (q + 1) (n + size c.ty) cs)
        (initial_stands (default_of code t q) c (subst (λ m. IsThere (default_of code t m) c) here (there 0 c refl)))
        (own_stand (q + 1) (n + size c.ty) cs (λ i d at. let next : q + suc i ≡ q + 1 + i = omega arith in subst (λ m. IsThere (default_of code t m) d) next (there (suc i) d at)))

-- Record types of a program ------------------------------------------------------------------------

module _ (program : Checked) (typed : WellTyped program) (code : Code) (laid : IsLaidOut program code) (says : SaysAround code typed.k) (settled : AllSettled code 0 program.records) (has : Has code (behind_bodies program) (all_defaults 0 program.records) None) where
  abbrev Rows : List (List ℕ)
  Rows = rows_from 0 (behind_bodies program) [] program.records

  abbrev StandFrom : ℕ → List Line → Type 0
  StandFrom place lines = Has code place lines None

  row_at : (t : ℕ) (r : RecordType) → slice_get program.records t ≡ Some r → RowAt StandFrom Rows t r
  row_at t r e = row_from StandFrom (λ place xs ys h. has_front code place xs ys None None h tt) (λ place xs ys h. has_back code place xs ys None h) 0 (behind_bodies program) [] program.records refl has t t r e (omega arith)

  -- each component has a place in the row, and those that begin with something stand
  record IsTold (t masters : ℕ) (x : Layout) : Type 0 where
    row : List ℕ
    there : slice_get Rows t ≡ Some row
    long : length row ≡ length x.offsets.items
    stand : AllStand code masters t x.begun.items

  abbrev ToldAt : ℕ → Type 0
  ToldAt t = (r : RecordType) (home : W.Frames) (x : Layout) → slice_get program.records t ≡ Some r → slice_get typed.k.record_homes t ≡ Some home → slice_get code.layouts.items t ≡ Some x → IsTold t (length home) x

  -- what is inherited
  record Inherits (t masters : ℕ) (row : List ℕ) (o : Option Layout) : Type 0 where
    long : length row ≡ length (offsets_in o)
    stand : ((rest : List ℕ) → slice_get Rows t ≡ Some (row ++ rest) → AllStand code masters t (Table.begun_in o))

  inherits : (t : ℕ) (home : W.Frames) (root : Root) (o : Option ℕ) (z : List Layout) (ys : List (List ℕ)) → slice_get typed.k.record_homes t ≡ Some home
      → ((p : ℕ) → p < t → slice_get code.layouts.items p ≡ slice_get z p) → ((p : ℕ) → p < t → slice_get Rows p ≡ slice_get ys p) → ((u : ℕ) → u < t → ToldAt u) → P.Parent typed.k home t root o → Inherits t (length home) (inherited_places ys o) (parent_layout z o)
  unfolding opened_lists
  inherits t home root None z ys at_home same alike before P.none = record { long = refl; stand = λ rest e. tt }
  inherits t home root (Some p) z ys at_home same alike before (P.extends less is root_is) =
      let there : slice_get program.records p ≡ Some is.is = sym (ap (λ rs. slice_get rs p) typed.fits.records) ∙ is.found in
      let y = Layouts.at program.records code.layouts.items laid.layouts p is.is there in
      let h = before p less is.is is.home y.layout there is.at_home y.there in
      let row : item_or [] (slice_get ys p) ≡ h.row = ap (λ (o : Option (List ℕ)). item_or [] o) (sym (alike p less) ∙ h.there) in
      let layout : slice_get z p ≡ Some y.layout = sym (same p less) ∙ y.there in
      let rise = (told program.records code.layouts.items laid.layouts p y.layout y.there).rise in
      let inner = granted_within code typed.k says t home (Record p) at_home (record_granted code typed.k says home p is) in
      subst (λ ns. Inherits t (length home) ns (slice_get z p)) (sym row) (subst (λ (o : Option Layout). Inherits t (length home) h.row o) (sym layout) (record {
        long = h.long;
        stand = λ rest e. all_later code (length is.home) (length home) p t (length y.layout.offsets.items) 0 y.layout.begun.items rise (not_more is.home home is.encloses) inner
            (λ q least most.
            let long = h.long in
            table_says program code laid p h.row h.there q ∙ ap (λ o. item_or 0 o) (sym (get_front h.row rest (q - 1) (omega (arith, least, most, long)))) ∙ sym (table_says program code laid t (h.row ++ rest) e q))
            h.stand;
      }))

  -- an item behind others
  get_after : (xs ys : List ℕ) (i j : ℕ) → j ≡ length xs + i → slice_get (xs ++ ys) j ≡ slice_get ys i
  get_after [] ys i j e = let same : j ≡ i = omega (arith, e) in ap (λ n. slice_get ys n) same
  get_after (x ∷ xs) ys i zero e = absurd (omega (arith, e))
  get_after (x ∷ xs) ys i (suc j) e = get_after xs ys i j (omega (arith, e))

  told_by : (t : ℕ) → ((u : ℕ) → u < t → ToldAt u) → ToldAt t
  told_by t before r home x e at_home is_there =
      let fine = typed.each_record t r home e at_home in
      let z = Layouts.at program.records code.layouts.items laid.layouts t r e in
      let o = parent_layout z.before r.parent in
      let size = cells_by z.before in
      let here = row_at t r e in
      let inherited = inherited_places here.before r.parent in
      let own = places_from r.level t here.place r.own in
      let from = inherits t home r.root r.parent z.before here.before at_home z.same here.same before fine.parent in
      let s = settled t t r e (omega arith) in
      let level : r.level ≡ length home = fine.level in
      let same : z.layout ≡ x = (let both : Some z.layout ≡ Some x = sym z.there ∙ is_there in cc both) in
      let there : (i : ℕ) (c : Component) → slice_get r.own i ≡ Some c → IsThere code r.level t z.before size (default_of code t (next_position o + i)) c =
      (λ i c at v is.
      let long = from.long in
      let place : default_of code t (next_position o + i) ≡ item_or 0 (slice_get own i) =
      table_says program code laid t (inherited ++ own) here.there (next_position o + i) ∙ ap (λ (n : Option ℕ). item_or 0 n) (get_after inherited own i (next_position o + i - 1) (omega (arith, long))) in
      subst (λ n. Leads code n (Default r.level t ∷ [])) (sym place) (own_there code s.0 r.level t s.1 r.own s.2 here.place here.has i c v at is)) in
      let ours : AllStand code (length home) t (begun_from z.before size (next_position o) (Table.size_in o) r.own) =
      subst (λ n. AllStand code n t (begun_from z.before size (next_position o) (Table.size_in o) r.own)) level (own_stand code r.level t z.before size (next_position o) (Table.size_in o) r.own there) in
      subst (IsTold t (length home)) same (record {
        row = inherited ++ own;
        there = here.there;
        long =
            let first = from.long in
            let all = length-append inherited own in
            let places = places_length r.level t here.place r.own in
            let offsets = ap length z.is.offsets in
            let both = length-append (offsets_in o) (offsets_from size (Table.size_in o) r.own) in
            let each = offsets_length size (Table.size_in o) r.own in
            omega (arith, first, all, places, offsets, both, each);
        stand = subst (AllStand code (length home) t) (sym z.is.begun) (stand_both code (length home) t (Table.begun_in o) (begun_from z.before size (next_position o) (Table.size_in o) r.own) (from.stand own here.there) ours);
      })

  told_within : (n t : ℕ) → t < n → ToldAt t
  told_within zero t lt = absurd (omega (arith, lt))
  told_within (suc n) t lt = told_by t (λ u less. told_within n u (omega (arith, less, lt)))

  pub all_stand : (t : ℕ) (x : Layout) → slice_get code.layouts.items t ≡ Some x → AllStand code x.level t x.begun.items
  all_stand t x there =
      let r = Layouts.type_of program.records code.layouts.items laid.layouts t x there in
      let home = home_of program typed t r.0 r.1 in
      let z = Layouts.at program.records code.layouts.items laid.layouts t r.0 r.1 in
      let same : z.layout ≡ x = (let both : Some z.layout ≡ Some x = sym z.there ∙ there in cc both) in
      let level : length home.0 ≡ x.level = sym (typed.each_record t r.0 home.0 r.1 home.1).level ∙ sym z.is.level ∙ ap (λ (y : Layout). y.level) same in
      subst (λ n. AllStand code n t x.begun.items) level (told_within (suc t) t (omega arith) r.0 home.0 x r.1 home.1 there).stand
