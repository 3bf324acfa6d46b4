-- Lists of numbers: one is put behind the others, and one is taken out.
use Rattle.std.proofs.Common.{◌≡◌, ◌∙◌, ℕ, zero, suc, ◌-◌, ◌<◌, List, [], ◌∷◌, ◌++◌, Option, Some, None, Bool, true, false, cond, length, refl, sym, ap, arith}
use Rattle.std.specs.Prelude.{nat_eq, ◌&&◌, slice_get, slice_set, option_and_then}
use Rattle.std.specs.Cmp.{nat_eq_equiv}
use Rattle.std.specs.Ordering.{nat_cmp}
use Rattle.std.specs.FinMap.{empty, get, get-empty, insert, remove}
use Rattle.std.specs.Global.{Vec}
use Rattle.std.proofs.lemmas.Option.{slice_get-get_or, slice_get_past}
use borrow.Author.Tests.{eqb-true, eq-eqb, ne_eqb}
use Rattle.number_map.proofs.Changes.{get_dropped, get_put}
use Rattle.owned_numbers.specs.Lists.{ComesTo, IsAppended, IsSwapped, IsTakenOut, Lists, item_at}

turned : (a b : ℕ) → nat_eq a b ≡ nat_eq b a
turned a b = nat_eq_equiv.symm a b

self_eq : (n : ℕ) → nat_eq n n ≡ true
self_eq n = eq-eqb n n refl

-- One list -----------------------------------------------------------------------------------------------------

first_eq : (j : ℕ) → nat_eq 0 (suc j) ≡ false
first_eq j = ne_eqb 0 (suc j) (λ e. omega (arith, e))

later_eq : (i : ℕ) → nat_eq (suc i) 0 ≡ false
later_eq i = ne_eqb (suc i) 0 (λ e. omega (arith, e))

both_eq : (i j : ℕ) → nat_eq (suc i) (suc j) ≡ nat_eq i j
both_eq i j = by (nat_eq i j) refl
  where
    by : (b : Bool) → nat_eq i j ≡ b → nat_eq (suc i) (suc j) ≡ b
    by true is = eq-eqb (suc i) (suc j) (ap (λ n. suc n) (eqb-true i j is))
    by false is = ne_eqb (suc i) (suc j) (λ e. let same : i ≡ j = omega (arith, e) in let no = eq-eqb i j same in absurd (cc))

-- what stands where in a list with one more item
pub pushed_at : (xs : List ℕ) (x j : ℕ) → slice_get (xs ++ x ∷ []) j ≡ cond (nat_eq (length xs) j) (Some x) (slice_get xs j)
pushed_at [] x zero = refl
pushed_at [] x (suc j) = sym (ap (λ b. cond b (Some x) None) (first_eq j))
pushed_at (y ∷ ys) x zero = sym (ap (λ b. cond b (Some x) (Some y)) (later_eq (length ys)))
pushed_at (y ∷ ys) x (suc j) = pushed_at ys x j ∙ sym (ap (λ b. cond b (Some x) (slice_get ys j)) (both_eq (length ys) j))

pub set_at : (xs : List ℕ) (i x j : ℕ) → i < length xs → slice_get (slice_set xs i x) j ≡ cond (nat_eq i j) (Some x) (slice_get xs j)
set_at [] i x j within = absurd (omega (arith, within))
set_at (y ∷ ys) zero x zero within = refl
set_at (y ∷ ys) zero x (suc j) within = sym (ap (λ b. cond b (Some x) (slice_get ys j)) (first_eq j))
set_at (y ∷ ys) (suc i) x zero within = sym (ap (λ b. cond b (Some x) (Some y)) (later_eq i))
set_at (y ∷ ys) (suc i) x (suc j) within = set_at ys i x j (omega (arith, within)) ∙ sym (ap (λ b. cond b (Some x) (slice_get ys j)) (both_eq i j))

past : (xs : List ℕ) → slice_get xs (length xs) ≡ None
past xs = slice_get_past xs (length xs) (omega arith)

-- the last item comes to an index before it
pub swapped : (old ys new : List ℕ) (x i : ℕ) → old ≡ ys ++ x ∷ [] → i < length ys → new ≡ slice_set ys i x → ComesTo x i old new
swapped old ys new x i is within set = record {
  last = length ys;
  there = ap (λ (l : List ℕ). slice_get l (length ys)) is ∙ pushed_at ys x (length ys) ∙ ap (λ b. cond b (Some x) (slice_get ys (length ys))) (self_eq (length ys));
  apart = differs;
  items = λ j.
      ap (λ (l : List ℕ). slice_get l j) set ∙ set_at ys i x j within ∙ by j (nat_eq (length ys) j) refl (nat_eq i j) refl
      ∙ ap (λ r. cond (nat_eq (length ys) j) None (cond (nat_eq i j) (Some x) r)) (sym (ap (λ (l : List ℕ). slice_get l j) is ∙ pushed_at ys x j));
}
  where
    differs : nat_eq (length ys) i ≡ false
    differs = ne_eqb (length ys) i (λ same. omega (arith, same, within))

    by : (j : ℕ) (b : Bool) → nat_eq (length ys) j ≡ b → (c : Bool) → nat_eq i j ≡ c
        → cond c (Some x) (slice_get ys j) ≡ cond b None (cond c (Some x) (cond b (Some x) (slice_get ys j)))
    by j true last true here = let same : length ys ≡ i = eqb-true (length ys) j last ∙ sym (eqb-true i j here) in absurd (omega (arith, same, within))
    by j true last false here = ap (slice_get ys) (sym (eqb-true (length ys) j last)) ∙ past ys
    by j false last c here = refl

-- the last item goes
pub cut : (old ys : List ℕ) (x i : ℕ) → old ≡ ys ++ x ∷ [] → i ≡ length ys → (j : ℕ) → slice_get ys j ≡ cond (nat_eq i j) None (slice_get old j)
cut old ys x i is last j = by (nat_eq (length ys) j) refl ∙ ap (λ k. cond (nat_eq k j) None (cond (nat_eq (length ys) j) (Some x) (slice_get ys j))) (sym last) ∙ ap (cond (nat_eq i j) None) (sym (ap (λ (l : List ℕ). slice_get l j) is ∙ pushed_at ys x j))
  where
    by : (b : Bool) → nat_eq (length ys) j ≡ b → slice_get ys j ≡ cond b None (cond b (Some x) (slice_get ys j))
    by true at = ap (slice_get ys) (sym (eqb-true (length ys) j at)) ∙ past ys
    by false at = refl

-- The list of an owner -------------------------------------------------------------------------------------------

pub item_here : (lists : Lists) (p : ℕ) (v : Vec ℕ) → get lists p ≡ Some v → (j : ℕ) → item_at lists p j ≡ slice_get v.items j
item_here lists p v there j = ap (λ (o : Option (Vec ℕ)). option_and_then (λ w. slice_get w.items j) o) there

pub item_none : (lists : Lists) (p : ℕ) → get lists p ≡ None → (j : ℕ) → item_at lists p j ≡ None
item_none lists p none j = ap (λ (o : Option (Vec ℕ)). option_and_then (λ w. slice_get w.items j) o) none

pub item_put : (lists : Lists) (p : ℕ) (v : Vec ℕ) (q j : ℕ) → item_at (insert lists p v) q j ≡ cond (nat_eq p q) (slice_get v.items j) (item_at lists q j)
item_put lists p v q j = ap (λ (o : Option (Vec ℕ)). option_and_then (λ w. slice_get w.items j) o) (get_put lists p q v) ∙ by (nat_eq q p) ∙ ap (λ b. cond b (slice_get v.items j) (item_at lists q j)) (turned q p)
  where
    by : (b : Bool) → option_and_then (λ (w : Vec ℕ). slice_get w.items j) (cond b (Some v) (get lists q)) ≡ cond b (slice_get v.items j) (item_at lists q j)
    by true = refl
    by false = refl

-- what stood in the list of this owner
owner_item : (lists : Lists) (p q : ℕ) (j : ℕ) → nat_eq p q ≡ true → item_at lists q j ≡ item_at lists p j
owner_item lists p q j is = ap (λ r. item_at lists r j) (sym (eqb-true p q is))

pub appended : (lists : Lists) (p n : ℕ) (v w : Vec ℕ) → get lists p ≡ Some v → w.items ≡ v.items ++ n ∷ [] → IsAppended p (length v.items) n lists (insert lists p w)
appended lists p n v w there more = record {
  free = item_here lists p v there (length v.items) ∙ past v.items;
  items = λ q j.
      item_put lists p w q j ∙ ap (λ r. cond (nat_eq p q) r (item_at lists q j)) (ap (λ (l : List ℕ). slice_get l j) more ∙ pushed_at v.items n j ∙ ap (cond (nat_eq (length v.items) j) (Some n)) (sym (item_here lists p v there j)))
      ∙ by q j (nat_eq p q) refl (nat_eq (length v.items) j);
}
  where
    by : (q j : ℕ) (b : Bool) → nat_eq p q ≡ b → (c : Bool) → cond b (cond c (Some n) (item_at lists p j)) (item_at lists q j) ≡ cond (b && c) (Some n) (item_at lists q j)
    by q j true is true = refl
    by q j true is false = sym (owner_item lists p q j is)
    by q j false is c = refl

pub appended_first : (lists : Lists) (p n : ℕ) (w : Vec ℕ) → get lists p ≡ None → w.items ≡ n ∷ [] → IsAppended p 0 n lists (insert lists p w)
appended_first lists p n w none one = record {
  free = item_none lists p none 0;
  items = λ q j.
      item_put lists p w q j ∙ ap (λ r. cond (nat_eq p q) r (item_at lists q j)) (ap (λ (l : List ℕ). slice_get l j) one ∙ pushed_at [] n j) ∙ by q j (nat_eq p q) refl (nat_eq 0 j);
}
  where
    by : (q j : ℕ) (b : Bool) → nat_eq p q ≡ b → (c : Bool) → cond b (cond c (Some n) None) (item_at lists q j) ≡ cond (b && c) (Some n) (item_at lists q j)
    by q j true is true = refl
    by q j true is false = sym (owner_item lists p q j is ∙ item_none lists p none j)
    by q j false is c = refl

pub taken_out : (lists : Lists) (p i : ℕ) (r : Option ℕ) (v w : Vec ℕ) → get lists p ≡ Some v → IsSwapped i r v.items w.items → IsTakenOut p i r lists (insert lists p w)
taken_out lists p i None v w there s = λ q j.
    item_put lists p w q j ∙ ap (λ r. cond (nat_eq p q) r (item_at lists q j)) (s j ∙ ap (cond (nat_eq i j) None) (sym (item_here lists p v there j))) ∙ by q j (nat_eq p q) refl (nat_eq i j)
  where
    by : (q j : ℕ) (b : Bool) → nat_eq p q ≡ b → (c : Bool) → cond b (cond c None (item_at lists p j)) (item_at lists q j) ≡ cond (b && c) None (item_at lists q j)
    by q j true is true = refl
    by q j true is false = sym (owner_item lists p q j is)
    by q j false is c = refl
taken_out lists p i (Some m) v w there s = record {
  last = s.last;
  there = item_here lists p v there s.last ∙ s.there;
  apart = s.apart;
  items = λ q j.
      item_put lists p w q j
      ∙ ap (λ r. cond (nat_eq p q) r (item_at lists q j)) (s.items j ∙ ap (λ r. cond (nat_eq s.last j) None (cond (nat_eq i j) (Some m) r)) (sym (item_here lists p v there j)))
      ∙ by q j (nat_eq p q) refl (nat_eq s.last j) (nat_eq i j);
}
  where
    by : (q j : ℕ) (b : Bool) → nat_eq p q ≡ b → (c d : Bool) → cond b (cond c None (cond d (Some m) (item_at lists p j))) (item_at lists q j) ≡ cond (b && c) None (cond (b && d) (Some m) (item_at lists q j))
    by q j true is true d = refl
    by q j true is false true = refl
    by q j true is false false = sym (owner_item lists p q j is)
    by q j false is c d = refl

-- an empty list is freed
pub freed : (lists : Lists) (p : ℕ) (v : Vec ℕ) → get lists p ≡ Some v → v.items ≡ [] → (q j : ℕ) → item_at (remove lists p) q j ≡ item_at lists q j
freed lists p v there none q j = ap (λ (o : Option (Vec ℕ)). option_and_then (λ w. slice_get w.items j) o) (get_dropped lists p q) ∙ by (nat_eq q p) refl
  where
    by : (b : Bool) → nat_eq q p ≡ b → option_and_then (λ (w : Vec ℕ). slice_get w.items j) (cond b None (get lists q)) ≡ item_at lists q j
    by true is = sym (owner_item lists p q j (turned p q ∙ is) ∙ item_here lists p v there j ∙ ap (λ (l : List ℕ). slice_get l j) none)
    by false is = refl

-- the same stands in the lists
pub taken_same : (p i : ℕ) (r : Option ℕ) (lists mid new : Lists) → ((q j : ℕ) → item_at new q j ≡ item_at mid q j) → IsTakenOut p i r lists mid → IsTakenOut p i r lists new
taken_same p i None lists mid new same s = λ q j. same q j ∙ s q j
taken_same p i (Some m) lists mid new same s = record { last = s.last; there = s.there; apart = s.apart; items = λ q j. same q j ∙ s.items q j }

-- a list with the same items
pub same_items : (lists : Lists) (p : ℕ) (v w : Vec ℕ) → get lists p ≡ Some v → w.items ≡ v.items → (q j : ℕ) → item_at (insert lists p w) q j ≡ item_at lists q j
same_items lists p v w there same q j = item_put lists p w q j ∙ ap (λ (l : List ℕ). cond (nat_eq p q) (slice_get l j) (item_at lists q j)) same ∙ by (nat_eq p q) refl
  where
    by : (b : Bool) → nat_eq p q ≡ b → cond b (slice_get v.items j) (item_at lists q j) ≡ item_at lists q j
    by true is = sym (owner_item lists p q j is ∙ item_here lists p v there j)
    by false is = refl

-- no list has an item at first
pub nothing_at : (lists : Lists) → lists ≡ empty → (p i : ℕ) → item_at lists p i ≡ None
nothing_at lists none p i = item_none lists p (ap (λ (m : Lists). get m p) none ∙ get-empty nat_cmp p) i

-- nothing stands in a list with no last item
pub empty_at : (xs : List ℕ) → slice_get xs (length xs - 1) ≡ None → (i : ℕ) → slice_get xs i ≡ None
empty_at [] none i = refl
empty_at (x ∷ xs) none i = let there = slice_get-get_or (x ∷ xs) (length (x ∷ xs) - 1) 0 (omega arith) in absurd (cc)

pub nothing_in : (xs : List ℕ) → length xs ≡ 0 → xs ≡ []
nothing_in [] e = refl
nothing_in (x ∷ xs) e = absurd (omega (arith, e))
