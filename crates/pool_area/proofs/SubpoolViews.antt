-- What a contract sees of the subpools of a pool.
use Rattle.std.proofs.Common.{◌≡◌, ℕ, zero, suc, ◌+◌, ◌-◌, ◌*◌, ◌/◌, ◌<◌, ◌≤◌, Bool, true, false, cond, List, [], ◌∷◌, ◌++◌, length, map, take, replicate, Option, Some, None, refl, sym, ap, ◌∙◌, arith, length-append}
use Rattle.std.specs.Prelude.{nat_eq, nat_lt, not, ◌&&◌, slice_get, slice_set, option_and_then, MatchOption}
use Rattle.std.specs.Option.{option_map, option_map_or}
use Rattle.std.proofs.lemmas.Option.{slice_get-map}
use Rattle.std.proofs.lemmas.List.{map-set, map-append, length-map, take_at}
use Rattle.std.proofs.lemmas.Bool.Decides.{nat_tests}
use borrow.Author.Tests.{eqb-true, eq-eqb, ne_eqb}
use Rattle.pool_area.specs.declared.lot.Lot.{Lot}
use Rattle.pool_area.specs.declared.subpool.Subpool.{Subpool}
use Rattle.pool_area.specs.Lots.{Held, held_in, words_of}
use Rattle.pool_area.specs.Rows.{NoneHas, IsFirst, first_of, change_first, lot_of, lot_words, with_lot, IsChanged, IsEdited}
use Rattle.pool_area.specs.Subpools.{Seen, Subpools, seen_in, subpool_of, change_subpool, change_block, is_last, last_of, front_of, with_block, with_new_block, without_last, or_renewed, given_if_renewed, count_of}
use Rattle.pool_area.proofs.RowLemmas.{first_tail, first_is, none_is, none_head, none_tail}

module _ {A : Type 0} where
  abbrev pub seen_all : List (Subpool A) → List Seen
  seen_all rows = map seen_in rows

  pub first_seen : (n : ℕ) (rows : List (Subpool A)) → subpool_of n (seen_all rows) ≡ option_map seen_in (first_of n rows)
  first_seen n [] = refl
  first_seen n (r ∷ rs) = by (nat_eq r.number n) (first_seen n rs)
    where
      by : (b : Bool) → subpool_of n (seen_all rs) ≡ option_map seen_in (first_of n rs) → cond b (Some (seen_in r)) (subpool_of n (seen_all rs)) ≡ option_map seen_in (cond b (Some r) (first_of n rs))
      by true more = refl
      by false more = more

  pub block_seen : (n index : ℕ) (rows : List (Subpool A)) → option_and_then (λ (x : Seen). slice_get x.blocks index) (subpool_of n (seen_all rows)) ≡ option_map held_in (lot_of n index rows)
  block_seen n index rows = ap (option_and_then (λ (x : Seen). slice_get x.blocks index)) (first_seen n rows) ∙ by (first_of n rows)
    where
      by : (o : Option (Subpool A)) → option_and_then (λ (x : Seen). slice_get x.blocks index) (option_map seen_in o) ≡ option_map held_in (option_and_then (λ r. slice_get r.lots.items index) o)
      by None = refl
      by (Some r) = slice_get-map held_in r.lots.items index

  pub change_seen : (n : ℕ) (g : Subpool A → Subpool A) (f : Seen → Seen) (rows : List (Subpool A)) → ((r : Subpool A) → first_of n rows ≡ Some r → seen_in (g r) ≡ f (seen_in r))
      → seen_all (change_first n g rows) ≡ change_subpool n f (seen_all rows)
  change_seen n g f [] same = refl
  change_seen n g f (r ∷ rs) same = by (nat_eq r.number n) same (λ keep. change_seen n g f rs keep)
    where
      by : (b : Bool) → ((x : Subpool A) → cond b (Some r) (first_of n rs) ≡ Some x → seen_in (g x) ≡ f (seen_in x))
          → (((x : Subpool A) → first_of n rs ≡ Some x → seen_in (g x) ≡ f (seen_in x)) → seen_all (change_first n g rs) ≡ change_subpool n f (seen_all rs))
          → seen_all (cond b (g r ∷ rs) (r ∷ change_first n g rs)) ≡ cond b (f (seen_in r) ∷ seen_all rs) (seen_in r ∷ change_subpool n f (seen_all rs))
      by true keep more = ap (λ x. x ∷ seen_all rs) (keep r refl)
      by false keep more = ap (λ l. seen_in r ∷ l) (more keep)

  -- nothing is seen to change
  pub unchanged_seen : (n : ℕ) (f : Seen → Seen) (rows : List (Subpool A)) → ((r : Subpool A) → first_of n rows ≡ Some r → seen_in r ≡ f (seen_in r)) → seen_all rows ≡ change_subpool n f (seen_all rows)
  unchanged_seen n f [] same = refl
  unchanged_seen n f (r ∷ rs) same = by (nat_eq r.number n) same (λ keep. unchanged_seen n f rs keep)
    where
      by : (b : Bool) → ((x : Subpool A) → cond b (Some r) (first_of n rs) ≡ Some x → seen_in x ≡ f (seen_in x))
          → (((x : Subpool A) → first_of n rs ≡ Some x → seen_in x ≡ f (seen_in x)) → seen_all rs ≡ change_subpool n f (seen_all rs))
          → seen_all (r ∷ rs) ≡ cond b (f (seen_in r) ∷ seen_all rs) (seen_in r ∷ change_subpool n f (seen_all rs))
      by true keep more = ap (λ x. x ∷ seen_all rs) (keep r refl)
      by false keep more = ap (λ l. seen_in r ∷ l) (more keep)

  -- a block that was edited
  pub lot_changed : (n index : ℕ) (f : Option Held → Option Held) (r : Subpool A) (lot next : Lot) → slice_get r.lots.items index ≡ Some lot → held_in next ≡ f (held_in lot)
      → seen_in (with_lot index next r) ≡ change_block index f (seen_in r)
  lot_changed n index f r lot next at holds =
      let there : slice_get (map held_in r.lots.items) index ≡ Some (held_in lot) = slice_get-map held_in r.lots.items index ∙ ap (option_map held_in) at in
      let blocks = map-set held_in r.lots.items index next ∙ ap (slice_set (map held_in r.lots.items) index) holds
      ∙ sym (ap (λ o. option_map_or (λ h. slice_set (map held_in r.lots.items) index (f h)) o (map held_in r.lots.items)) there) in
      λ i. record { number = r.number; standing = r.standing; start = r.start; blocks = blocks i }

  pub lot_missing : (index : ℕ) (f : Option Held → Option Held) (r : Subpool A) → slice_get r.lots.items index ≡ None → seen_in r ≡ change_block index f (seen_in r)
  lot_missing index f r none =
      let there : slice_get (map held_in r.lots.items) index ≡ None = slice_get-map held_in r.lots.items index ∙ ap (option_map held_in) none in
      let blocks = sym (ap (λ o. option_map_or (λ h. slice_set (map held_in r.lots.items) index (f h)) o (map held_in r.lots.items)) there) in
      λ i. record { number = r.number; standing = r.standing; start = r.start; blocks = blocks i }

  pub lot_in_first : (n index : ℕ) (rows : List (Subpool A)) (r : Subpool A) → first_of n rows ≡ Some r → lot_of n index rows ≡ slice_get r.lots.items index
  lot_in_first n index rows r there = ap (option_and_then (λ x. slice_get x.lots.items index)) there

  pub edit_seen : (n index : ℕ) (f : Option Held → Option Held) (old new : List (Subpool A)) → IsEdited n index f old new → seen_all new ≡ change_subpool n (change_block index f) (seen_all old)
  edit_seen n index f old new edited = by (lot_of n index old) refl edited
    where
      by : (o : Option Lot) → lot_of n index old ≡ o → MatchOption o (new ≡ old) (λ lot. IsChanged n index f lot old new) → seen_all new ≡ change_subpool n (change_block index f) (seen_all old)
      by None none same =
          ap seen_all same
          ∙ unchanged_seen n (change_block index f) old (λ r there. lot_missing index f r (sym (lot_in_first n index old r there) ∙ none))
      by (Some lot) at changed =
          ap seen_all changed.rows
          ∙ change_seen n (with_lot index changed.next) (change_block index f) old
          (λ r there. lot_changed n index f r lot changed.next (sym (lot_in_first n index old r there) ∙ at) changed.holds)

  -- the last subpool
  pub last_yes : (n i : ℕ) (rows : List (Subpool A)) → IsFirst n i rows → i + 1 ≡ length rows → is_last n (seen_all rows) ≡ true
  last_yes n i [] f e = let none : i < 0 = f.0 in absurd (omega arith)
  last_yes n zero (r ∷ []) f e = eq-eqb r.number n f.1
  last_yes n (suc i) (r ∷ []) f e = let none : suc i < 1 = f.0 in absurd (omega arith)
  last_yes n zero (r ∷ q ∷ rs) f e = let no : 0 + 1 ≡ suc (suc (length rs)) = e in absurd (omega arith)
  last_yes n (suc i) (r ∷ q ∷ rs) f e =
      let long : suc i + 1 ≡ suc (suc (length rs)) = e in
      ap (λ b. not b && is_last n (seen_all (q ∷ rs))) (ne_eqb r.number n (f.2 0 (omega arith)))
      ∙ last_yes n i (q ∷ rs) (first_tail n i r (q ∷ rs) f) (let less : i + 1 ≡ suc (length rs) = omega arith in less)

  pub last_no : (n i : ℕ) (rows : List (Subpool A)) → IsFirst n i rows → i + 1 < length rows → is_last n (seen_all rows) ≡ false
  last_no n i [] f e = let none : i < 0 = f.0 in absurd (omega arith)
  last_no n i (r ∷ []) f e = let none : i + 1 < 1 = e in absurd (omega arith)
  last_no n zero (r ∷ q ∷ rs) f e = ap (λ b. not b && is_last n (seen_all (q ∷ rs))) (eq-eqb r.number n f.1)
  last_no n (suc i) (r ∷ q ∷ rs) f e =
      let long : suc i + 1 < suc (suc (length rs)) = e in
      ap (λ b. not b && is_last n (seen_all (q ∷ rs))) (ne_eqb r.number n (f.2 0 (omega arith)))
      ∙ last_no n i (q ∷ rs) (first_tail n i r (q ∷ rs) f) (let less : i + 1 < suc (length rs) = omega arith in less)

  pub last_none : (n : ℕ) (rows : List (Subpool A)) → NoneHas n rows → is_last n (seen_all rows) ≡ false
  last_none n [] f = refl
  last_none n (r ∷ []) f = none_head n r [] f
  last_none n (r ∷ q ∷ rs) f =
      ap (λ b. not b && is_last n (seen_all (q ∷ rs))) (none_head n r (q ∷ rs) f) ∙ last_none n (q ∷ rs) (none_tail n r (q ∷ rs) f)

-- what a block holds
pub object_seen : (o : Option Lot) → option_map_or (λ (h : Option Held). option_map (λ x. x.object) h) (option_map held_in o) None ≡ option_map_or (λ l. option_map (λ x. x.object) (held_in l)) o None
object_seen None = refl
object_seen (Some l) = refl

pub words_seen : (o : Option Lot) → option_map_or words_of (option_map held_in o) [] ≡ lot_words o
words_seen None = refl
words_seen (Some l) = refl

-- the last of several -------------------------------------------------------

both : (b t : Bool) → (not b && t) ≡ true → (b ≡ false) × (t ≡ true)
both true t e = absurd (cc)
both false t e = (refl, e)

last_tail : (n : ℕ) (y : Seen) (ys : List Seen) (x : Seen) → is_last n (y ∷ (ys ++ x ∷ [])) ≡ (not (nat_eq y.number n) && is_last n (ys ++ x ∷ []))
last_tail n y [] x = refl
last_tail n y (z ∷ zs) x = refl

-- the last one is the one that has the number
pub last_change : (n : ℕ) (f : Seen → Seen) (xs : List Seen) (x : Seen) → is_last n (xs ++ x ∷ []) ≡ true → change_subpool n f (xs ++ x ∷ []) ≡ xs ++ f x ∷ []
last_change n f [] x e = ap (λ b. cond b (f x ∷ []) (x ∷ [])) e
last_change n f (y ∷ ys) x e =
    let t = both (nat_eq y.number n) (is_last n (ys ++ x ∷ [])) (sym (last_tail n y ys x) ∙ e) in
    ap (λ b. cond b (f y ∷ (ys ++ x ∷ [])) (y ∷ change_subpool n f (ys ++ x ∷ []))) t.0 ∙ ap (λ l. y ∷ l) (last_change n f ys x t.1)

pub last_found : (n : ℕ) (xs : List Seen) (x : Seen) → is_last n (xs ++ x ∷ []) ≡ true → subpool_of n (xs ++ x ∷ []) ≡ Some x
last_found n [] x e = ap (λ b. cond b (Some x) None) e
last_found n (y ∷ ys) x e =
    let t = both (nat_eq y.number n) (is_last n (ys ++ x ∷ [])) (sym (last_tail n y ys x) ∙ e) in
    ap (λ b. cond b (Some y) (subpool_of n (ys ++ x ∷ []))) t.0 ∙ last_found n ys x t.1

module _ {X : Type 0} where
  get_last : (xs : List X) (x : X) → slice_get (xs ++ x ∷ []) (length xs) ≡ Some x
  get_last [] x = refl
  get_last (y ∷ ys) x = get_last ys x

  pub last_pushed : (xs : List X) (x : X) → slice_get (xs ++ x ∷ []) (length (xs ++ x ∷ []) - 1) ≡ Some x
  last_pushed xs x =
      let long = length-append xs (x ∷ []) in
      let less : length (xs ++ x ∷ []) - 1 ≡ length xs = omega arith in
      ap (slice_get (xs ++ x ∷ [])) less ∙ get_last xs x

  pub front_pushed : (xs : List X) (x : X) → front_of (xs ++ x ∷ []) ≡ xs
  front_pushed xs x =
      let long = length-append xs (x ∷ []) in
      let less : length (xs ++ x ∷ []) - 1 ≡ length xs = omega arith in
      ap (λ n. take n (xs ++ x ∷ [])) less ∙ take_at xs (x ∷ []) (length xs) refl

-- the words of the object in a block
pub words_here : {A : Type 0} (n index : ℕ) (rows : List (Subpool A)) → option_map_or words_of (option_and_then (λ (x : Seen). slice_get x.blocks index) (subpool_of n (map seen_in rows))) [] ≡ lot_words (lot_of n index rows)
words_here n index rows = ap (λ o. option_map_or words_of o []) (block_seen n index rows) ∙ words_seen (lot_of n index rows)

pub object_here : {A : Type 0} (n index : ℕ) (rows : List (Subpool A))
    → option_map_or (λ (h : Option Held). option_map (λ x. x.object) h) (option_and_then (λ (x : Seen). slice_get x.blocks index) (subpool_of n (map seen_in rows))) None
    ≡ option_map_or (λ l. option_map (λ x. x.object) (held_in l)) (lot_of n index rows) None
object_here n index rows = ap (λ o. option_map_or (λ (h : Option Held). option_map (λ x. x.object) h) o None) (block_seen n index rows) ∙ object_seen (lot_of n index rows)

-- the subpool at a place
pub seen_at : {A : Type 0} (n i : ℕ) (rows : List (Subpool A)) (r : Subpool A) → IsFirst n i rows → slice_get rows i ≡ Some r → subpool_of n (map seen_in rows) ≡ Some (seen_in r)
seen_at n i rows r f e = first_seen n rows ∙ ap (option_map seen_in) (first_is n i rows f ∙ e)

pub none_seen : {A : Type 0} (n : ℕ) (rows : List (Subpool A)) → NoneHas n rows → subpool_of n (map seen_in rows) ≡ None
none_seen n rows f = first_seen n rows ∙ ap (option_map seen_in) (none_is n rows f)

pub last_at : {A : Type 0} (n i : ℕ) (rows : List (Subpool A)) → IsFirst n i rows → nat_eq (i + 1) (length rows) ≡ is_last n (map seen_in rows)
last_at n i rows f = by (nat_eq (i + 1) (length rows)) refl
  where
    by : (b : Bool) → nat_eq (i + 1) (length rows) ≡ b → b ≡ is_last n (map seen_in rows)
    by true e = sym (last_yes n i rows f (eqb-true (i + 1) (length rows) e))
    by false e =
        let within : i < length rows = f.0 in
        let apart : i + 1 ≡ length rows → ⊥ = (λ same. let no : true ≡ false = sym (eq-eqb (i + 1) (length rows) same) ∙ e in cc) in
        sym (last_no n i rows f (omega arith))

-- what is seen of a pool with these subpools
abbrev pub area_of : {A : Type 0} → ℕ → ℕ → ℕ → List (Subpool A) → Subpools
area_of size used given rows = record { size = size; used = used; subpools = map seen_in rows; given = given }

pub edited_view : {A : Type 0} (size used given n index : ℕ) (f : Option Held → Option Held) (old new : List (Subpool A)) → IsEdited n index f old new
    → area_of size used given new ≡ with_block n index f (area_of size used given old)
edited_view size used given n index f old new edited = let e = edit_seen n index f old new edited in λ i. record { size = size; used = used; subpools = e i; given = given }

-- The calls -----------------------------------------------------------------

-- what is not overfull fits into the pool's words
not_below : (m n : ℕ) → nat_lt m n ≡ false → n ≤ m
not_below m n e = grind (arith, nat_tests)

pub room_left : (size used words : ℕ) → nat_lt size (used * 8 + words * 8) ≡ false → used + words ≤ size / 8
room_left size used words e = let fits = not_below size (used * 8 + words * 8) e in omega arith

pub pushed_seen : {A : Type 0} (front : List (Subpool A)) (r : Subpool A) → map seen_in (front ++ r ∷ []) ≡ map seen_in front ++ seen_in r ∷ []
pushed_seen front r = map-append seen_in front (r ∷ [])

pub count_seen : {A : Type 0} (size used given n : ℕ) (front : List (Subpool A)) (r : Subpool A) → is_last n (map seen_in (front ++ r ∷ [])) ≡ true → length r.lots.items ≡ count_of n (area_of size used given (front ++ r ∷ []))
count_seen size used given n front r last =
    let there = ap (subpool_of n) (pushed_seen front r) ∙ last_found n (map seen_in front) (seen_in r) (ap (is_last n) (sym (pushed_seen front r)) ∙ last) in
    sym (ap (λ o. option_map_or (λ (x : Seen). length x.blocks) o 0) there ∙ length-map r.lots.items held_in)

pub taken_view : {A : Type 0} (size used given n object words : ℕ) (front : List (Subpool A)) (r s : Subpool A) (lot : Lot) → is_last n (map seen_in (front ++ r ∷ [])) ≡ true
    → s.number ≡ r.number → s.standing ≡ r.standing → s.start ≡ r.start → s.lots.items ≡ r.lots.items ++ lot ∷ [] → held_in lot ≡ Some (record { object = object; words = replicate words 0 })
    → area_of size (used + words) given (front ++ s ∷ []) ≡ with_new_block n object words (area_of size used given (front ++ r ∷ []))
taken_view size used given n object words front r s lot last number standing start lots holds =
    let h : Held = record { object = object; words = replicate words 0 } in
    let f : Seen → Seen = λ x. record x { blocks = x.blocks ++ Some h ∷ [] } in
    let blocks : map held_in s.lots.items ≡ map held_in r.lots.items ++ Some h ∷ [] =
    ap (map held_in) lots ∙ map-append held_in r.lots.items (lot ∷ []) ∙ ap (λ x. map held_in r.lots.items ++ x ∷ []) holds in
    let one : seen_in s ≡ f (seen_in r) = λ i. record { number = number i; standing = standing i; start = start i; blocks = blocks i } in
    let subpools = pushed_seen front s ∙ ap (λ x. map seen_in front ++ x ∷ []) one
    ∙ sym (ap (change_subpool n f) (pushed_seen front r) ∙ last_change n f (map seen_in front) (seen_in r) (ap (is_last n) (sym (pushed_seen front r)) ∙ last)) in
    λ i. record { size = size; used = used + words; subpools = subpools i; given = given }

pub dropped_view : {A : Type 0} (size used was given n : ℕ) (front : List (Subpool A)) (r : Subpool A) → 0 < length front → used ≡ r.start
    → area_of size used given front ≡ without_last n (area_of size was given (front ++ r ∷ []))
dropped_view size used was given n [] r some start = absurd (omega arith)
dropped_view size used was given n (y ∷ ys) r some start =
    let all : List Seen = map seen_in (y ∷ ys) in
    let pushed = pushed_seen (y ∷ ys) r in
    let last = ap (λ l. option_map_or (λ (x : Seen). x.start) (last_of l) 0) pushed ∙ ap (λ o. option_map_or (λ (x : Seen). x.start) o 0) (last_pushed all (seen_in r)) in
    let front = ap front_of pushed ∙ front_pushed all (seen_in r) in
    let words = start ∙ sym last in
    let subpools = sym (ap (or_renewed n) front) in
    let number = sym (ap (given_if_renewed n given) front) in
    λ i. record { size = size; used = words i; subpools = subpools i; given = number i }
