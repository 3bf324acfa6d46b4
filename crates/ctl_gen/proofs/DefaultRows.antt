-- The table of defaults: the row of a type has the places of the defaults that it inherits, and of its own, whose lines stand one after
-- another (3.4, 3.8).
use Rattle.std.proofs.Common.{◌≡◌, ℕ, zero, suc, ◌+◌, ◌-◌, ◌<◌, List, [], ◌∷◌, ◌++◌, length, length-append, append_assoc, Option, Some, None, true, refl, sym, ap, ◌∙◌, subst, arith}
use Rattle.std.specs.Prelude.{option_map, slice_get}
use Rattle.std.proofs.lemmas.Option.{slice_get-map}
use Rattle.ctl_program.specs.declared.expression.Expr.{Expr}
use Rattle.ctl_program.specs.declared.program.Checked.{Checked}
use Rattle.ctl_program.specs.declared.types.Component.{Component}
use Rattle.ctl_program.specs.declared.types.RecordType.{RecordType}
use Rattle.ctl_meaning.specs.Lists.{item_or}
use Rattle.ctl_code.specs.declared.code.Code.{Code}
use Rattle.ctl_code.specs.declared.code.Defaults.{Defaults}
use Rattle.ctl_code.specs.Table.{default_in, default_of}
use Rattle.ctl_layout.specs.Around.{Line}
use Rattle.ctl_layout.specs.Defaults.{constant_at}
use Rattle.ctl_layout.specs.Layout.{IsLaidOut, all_defaults, behind_bodies, computed, computed_in, computed_unless, default_code, defaults_code, inherited_places, places_from, rows_from}
use Rattle.ctl_layout.proofs.Extensions.{get_behind, get_front}
use Rattle.ctl_layout.specs.Records.{is_run_type, run_default}
use Rattle.ctl_gen.proofs.Known.{run_default_is}

-- a default that is evaluated is the one that stands there
unless_is : (e x : Expr) (n : Option ℕ) → computed_unless e n ≡ Some x → e ≡ x
unless_is e x (Some n) h = absurd (cc h)
unless_is e x None h = cc h

computed_is : (o : Option Expr) (x : Expr) → computed_in o ≡ Some x → o ≡ Some x
computed_is None x h = absurd (cc h)
computed_is (Some e) x h = ap (λ (y : Expr). Some y) (unless_is e x (constant_at e) h)

pub default_is : (c : Component) (x : Expr) → computed c ≡ Some x → (is_run_type c.ty ≡ true) × (c.default ≡ Some x)
default_is c x h = run_default_is c x (computed_is (run_default c) x h)

-- lines stand from a place on
module _ (Stands : ℕ → List Line → Type 0) where
  -- the row of a type: what it inherits, and the places of its own defaults, which stand there
  pub record RowAt (rows : List (List ℕ)) (t : ℕ) (r : RecordType) : Type 0 where
    pub before : List (List ℕ)
    pub place : ℕ
    pub there : slice_get rows t ≡ Some (inherited_places before r.parent ++ places_from r.level t place r.own)
    pub same : (p : ℕ) → p < t → slice_get rows p ≡ slice_get before p
    pub has : Stands place (defaults_code r.level t r.own)

  -- and so do the first of them, and those behind
  module _ (front : (place : ℕ) (xs ys : List Line) → Stands place (xs ++ ys) → Stands place xs) (back : (place : ℕ) (xs ys : List Line) → Stands place (xs ++ ys) → Stands (place + length xs) ys) where
    pub row_from : (number place : ℕ) (ys : List (List ℕ)) (rs : List RecordType) → length ys ≡ number → Stands place (all_defaults number rs) → (i t : ℕ) (r : RecordType) → slice_get rs i ≡ Some r → t ≡ number + i → RowAt (ys ++ rows_from number place ys rs) t r
    row_from number place ys [] many h i t r at e = absurd (cc at)
    row_from number place ys (s ∷ rs) many h zero t r at e =
        let lines = defaults_code s.level number s.own in
        let row = inherited_places ys s.parent ++ places_from s.level number place s.own in
        let more = rows_from (number + 1) (place + length lines) (ys ++ row ∷ []) rs in
        let here : number ≡ t = omega (arith, e) in
        let one : s ≡ r = cc at in
        let found : RowAt (ys ++ row ∷ more) number s = record {
          before = ys;
          place = place;
          there = get_behind ys row more number (omega (arith, many));
          same = λ p lt. get_front ys (row ∷ more) p (omega (arith, lt, many));
          has = front place lines (all_defaults (number + 1) rs) h;
        } in
        subst (λ n. RowAt (ys ++ row ∷ more) n r) here (subst (λ (z : RecordType). RowAt (ys ++ row ∷ more) number z) one found)
    row_from number place ys (s ∷ rs) many h (suc i) t r at e =
        let lines = defaults_code s.level number s.own in
        let row = inherited_places ys s.parent ++ places_from s.level number place s.own in
        let more = rows_from (number + 1) (place + length lines) (ys ++ row ∷ []) rs in
        let long = length-append ys (row ∷ []) in
        subst (λ zs. RowAt zs t r) (append_assoc ys (row ∷ []) more)
        (row_from (number + 1) (place + length lines) (ys ++ row ∷ []) rs (omega (arith, many, long)) (back place lines (all_defaults (number + 1) rs) h) i t r at (omega (arith, e)))

-- as many places as components
pub places_length : (level number place : ℕ) (cs : List Component) → length (places_from level number place cs) ≡ length cs
places_length level number place [] = refl
places_length level number place (c ∷ cs) = ap suc (places_length level number (place + length (default_code level number c)) cs)

-- the place of the default of a component is in the row of its type
row_says : (o : Option Defaults) (row : List ℕ) → option_map (λ (x : Defaults). x.places.items) o ≡ Some row → (position : ℕ) → default_in o position ≡ item_or 0 (slice_get row (position - 1))
row_says None row e position = absurd (cc e)
row_says (Some x) row e position = let same : x.places.items ≡ row = cc e in ap (λ ns. item_or 0 (slice_get ns (position - 1))) same

module _ (program : Checked) (code : Code) (laid : IsLaidOut program code) where
  pub table_says : (t : ℕ) (row : List ℕ) → slice_get (rows_from 0 (behind_bodies program) [] program.records) t ≡ Some row → (position : ℕ) → default_of code t position ≡ item_or 0 (slice_get row (position - 1))
  table_says t row e position =
      let places = λ (x : Defaults). x.places.items in
      row_says (slice_get code.defaults.items t) row (sym (slice_get-map places code.defaults.items t) ∙ ap (λ rows. slice_get rows t) laid.defaults ∙ e) position
