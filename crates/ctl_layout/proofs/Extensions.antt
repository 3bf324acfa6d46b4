-- The components of types that extend others: what the meaning finds is the row of the table, the inherited ones first (3.9.1).
use Rattle.std.proofs.Common.{◌≡◌, ℕ, zero, suc, ◌+◌, ◌<◌, List, [], ◌∷◌, ◌++◌, length, Some, None, Bool, true, false, refl, sym, ap, ◌∙◌, arith, length-append}
use Rattle.std.specs.Prelude.{slice_get, ◌&&◌}
use Rattle.std.proofs.lemmas.Option.{slice_get_within}
use Rattle.ctl_program.specs.declared.types.Component.{Component}
use Rattle.ctl_program.specs.declared.types.RecordType.{RecordType}
use Rattle.ctl_meaning.specs.Types.{components, with_own, of_parent}
use Rattle.ctl_layout.specs.Records.{all_components, component_rows, inherited, none_if_absent, rows_by}

-- both hold where their conjunction does
pub both_true : (a b : Bool) → (a && b) ≡ true → (a ≡ true) × (b ≡ true)
both_true true true e = (refl, refl)
both_true true false e = absurd (cc)
both_true false b e = absurd (cc)

-- Rows ------------------------------------------------------------------------------------------

pub get_front : {A : Type 0} (xs ys : List A) (i : ℕ) → i < length xs → slice_get (xs ++ ys) i ≡ slice_get xs i
get_front [] ys i lt = absurd (omega (arith, lt))
get_front (x ∷ xs) ys zero lt = refl
get_front (x ∷ xs) ys (suc i) lt = get_front xs ys i (omega (arith, lt))

pub get_behind : {A : Type 0} (xs : List A) (y : A) (ys : List A) (i : ℕ) → i ≡ length xs → slice_get (xs ++ y ∷ ys) i ≡ Some y
get_behind [] y ys zero e = refl
get_behind [] y ys (suc i) e = absurd (omega (arith, e))
get_behind (x ∷ xs) y ys zero e = absurd (omega (arith, e))
get_behind (x ∷ xs) y ys (suc i) e = get_behind xs y ys i (omega (arith, e))

-- a row that stands there already
row_kept : {A : Type 0} (row : List A → RecordType → A) (rows : List A) (rs : List RecordType) (i : ℕ) → i < length rows → slice_get (rows_by row rows rs) i ≡ slice_get rows i
row_kept row rows [] i lt = refl
row_kept row rows (r ∷ rs) i lt =
    let y = row rows r in
    row_kept row (rows ++ y ∷ []) rs i (omega (arith, lt, length-append rows (y ∷ []))) ∙ get_front rows (y ∷ []) i lt

-- the row of a type is made of those that stand before it
pub record IsRow {A : Type 0} (row : List A → RecordType → A) (rows : List A) (t : ℕ) (r : RecordType) : Type 0 where
  pub before : List A
  pub many : length before ≡ t
  pub is : slice_get rows t ≡ Some (row before r)
  pub same : (p : ℕ) → p < t → slice_get rows p ≡ slice_get before p

row_from : {A : Type 0} (row : List A → RecordType → A) (rows : List A) (rs : List RecordType) (i t : ℕ) (r : RecordType) → slice_get rs i ≡ Some r → t ≡ length rows + i → IsRow row (rows_by row rows rs) t r
row_from row rows [] i t r at e = absurd (cc)
row_from row rows (s ∷ rs) zero t r at e =
    let same : s ≡ r = cc at in
    let y = row rows s in
    let longer = length-append rows (y ∷ []) in
    record {
      before = rows;
      many = omega (arith, e);
      is = row_kept row (rows ++ y ∷ []) rs t (omega (arith, e, longer)) ∙ (get_behind rows y [] t (omega (arith, e)) ∙ ap (λ z. Some (row rows z)) same);
      same = λ p lt. row_kept row (rows ++ y ∷ []) rs p (omega (arith, e, lt, longer)) ∙ get_front rows (y ∷ []) p (omega (arith, e, lt));
    }
row_from row rows (s ∷ rs) (suc i) t r at e =
    let y = row rows s in
    row_from row (rows ++ y ∷ []) rs i t r at (omega (arith, e, length-append rows (y ∷ [])))

pub row_at : {A : Type 0} (row : List A → RecordType → A) (records : List RecordType) (t : ℕ) (r : RecordType) → slice_get records t ≡ Some r → IsRow row (rows_by row [] records) t r
row_at row records t r at = row_from row [] records t t r at (omega arith)

-- there is a row for each type, and no more
pub rows_length : {A : Type 0} (row : List A → RecordType → A) (rows : List A) (rs : List RecordType) → length (rows_by row rows rs) ≡ length rows + length rs
rows_length row rows [] = omega arith
rows_length row rows (r ∷ rs) =
    let y = row rows r in
    let rest = rows_length row (rows ++ y ∷ []) rs in
    let longer = length-append rows (y ∷ []) in
    omega (arith, rest, longer)

-- Components --------------------------------------------------------------------------------------

-- the components of a type of the table, as the meaning finds them, and as its row has them
pub record HasComponents (records : List RecordType) (t : ℕ) (cs : List Component) : Type 0 where
  pub within : t < length records
  pub found : (n : ℕ) → t < n → components n records t ≡ cs
  pub row : slice_get (component_rows records) t ≡ Some cs

-- of a type that extends none, or one whose components these are
inherits : (records : List RecordType) (t : ℕ) (r : RecordType) (cs : List Component) → slice_get records t ≡ Some r → ((n : ℕ) → t < suc n → of_parent [] (components n records) r.parent ≡ cs)
    → ((before : List (List Component)) → ((p : ℕ) → p < t → slice_get (component_rows records) p ≡ slice_get before p) → inherited before r.parent ≡ cs) → HasComponents records t (cs ++ r.own)
unfolding components with_own of_parent
inherits records t r cs at found row = record {
  within = slice_get_within records t r at;
  found = each;
  row = let x = row_at all_components records t r at in x.is ∙ ap (λ ys. Some (ys ++ r.own)) (row x.before x.same);
}
  where
    each : (n : ℕ) → t < n → components n records t ≡ cs ++ r.own
    each zero lt = absurd (omega (arith, lt))
    each (suc n) lt = ap (with_own (components n records)) at ∙ ap (λ ys. ys ++ r.own) (found n lt)

pub extends_none : (records : List RecordType) (t : ℕ) (r : RecordType) → slice_get records t ≡ Some r → r.parent ≡ None → HasComponents records t r.own
unfolding of_parent
extends_none records t r at is = inherits records t r [] at (λ m lt. ap (of_parent [] (components m records)) is) (λ rows same. ap (inherited rows) is)

pub extends_one : (records : List RecordType) (t : ℕ) (r : RecordType) (q : ℕ) (cs : List Component) → slice_get records t ≡ Some r → r.parent ≡ Some q → q < t → HasComponents records q cs → HasComponents records t (cs ++ r.own)
unfolding of_parent
extends_one records t r q cs at is less has =
    inherits records t r cs at (λ m lt. ap (of_parent [] (components m records)) is ∙ has.found m (omega (arith, lt, less))) (λ rows same. ap (inherited rows) is ∙ ap none_if_absent (sym (same q less) ∙ has.row))

-- a type has its components alone
pub same_components : (records : List RecordType) (t : ℕ) (xs ys : List Component) → HasComponents records t xs → HasComponents records t ys → xs ≡ ys
same_components records t xs ys h g = let e : Some xs ≡ Some ys = sym h.row ∙ g.row in cc e
