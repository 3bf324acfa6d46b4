-- One number apart from the others, with its owner.
use Rattle.std.proofs.Common.{◌≡◌, ◌∙◌, ℕ, ◌+◌, Option, Some, None, Bool, true, false, cond, refl, sym, ap, arith}
use Rattle.std.specs.Prelude.{nat_eq, ◌&&◌}
use Rattle.std.specs.Cmp.{nat_eq_equiv}
use Rattle.std.specs.FinMap.{get, insert}
use borrow.Author.Tests.{eqb-true, eq-eqb}
use Rattle.number_map.proofs.Changes.{get_put}
use Rattle.owned_numbers.specs.declared.newest.Newest.{Newest}
use Rattle.owned_numbers.specs.declared.newest.Newest.TheVariants.{Nothing, Pair}
use Rattle.owned_numbers.specs.Owned.{IsApart, Owned, OwnsAs, is_owner, is_pair, owns, with_newest}

abbrev one_if : Bool → ℕ
one_if b = cond b 1 0

turned : (a b : ℕ) → nat_eq a b ≡ nat_eq b a
turned a b = nat_eq_equiv.symm a b

pub no_owner : (o : Option ℕ) → ((p : ℕ) → is_owner p o ≡ false) → o ≡ None
no_owner None none = refl
no_owner (Some q) none = let no : nat_eq q q ≡ false = none q in let is : nat_eq q q ≡ true = eq-eqb q q refl in absurd (cc)

-- the owner of a number, once another one has come
owner_put : (o : Owned) (p n q k : ℕ) → is_owner q (get (insert o.owners n p) k) ≡ is_owner q (cond (nat_eq k n) (Some p) (get o.owners k))
owner_put o p n q k = ap (is_owner q) (get_put o.owners n k p)

none_at : (o : Owned) (n k : ℕ) → get o.owners n ≡ None → nat_eq k n ≡ true → get o.owners k ≡ None
none_at o n k none is = ap (get o.owners) (eqb-true k n is) ∙ none

-- a number comes
pub listed_as : (o : Owned) (p n : ℕ) → get o.owners n ≡ None → OwnsAs true p n o (with_newest (Pair p n) o)
listed_as o p n none q k = owner_put o p n q k ∙ by (nat_eq k n) refl ∙ ap (λ b. cond (nat_eq p q && b) true (owns q k o)) (turned k n)
  where
    whole : (b : Bool) → b ≡ cond (b && true) true false
    whole true = refl
    whole false = refl

    other : (b c : Bool) → c ≡ cond (b && false) true c
    other true c = refl
    other false c = refl

    by : (b : Bool) → nat_eq k n ≡ b → is_owner q (cond b (Some p) (get o.owners k)) ≡ cond (nat_eq p q && b) true (owns q k o)
    by true is = whole (nat_eq p q) ∙ ap (λ r. cond (nat_eq p q && true) true (is_owner q r)) (sym (none_at o n k none is))
    by false is = other (nat_eq p q) (owns q k o)

-- the number apart goes
pub own_gone : (o : Owned) (p n : ℕ) → get o.owners n ≡ None → OwnsAs false p n (with_newest (Pair p n) o) o
own_gone o p n none q k = by (nat_eq k n) refl ∙ (ap (λ b. cond (nat_eq p q && b) false (is_owner q (cond (nat_eq k n) (Some p) (get o.owners k)))) (turned k n) ∙ ap (cond (nat_eq p q && nat_eq n k) false) (sym (owner_put o p n q k)))
  where
    whole : (b : Bool) → false ≡ cond (b && true) false b
    whole true = refl
    whole false = refl

    other : (b c : Bool) → c ≡ cond (b && false) false c
    other true c = refl
    other false c = refl

    by : (b : Bool) → nat_eq k n ≡ b → owns q k o ≡ cond (nat_eq p q && b) false (is_owner q (cond b (Some p) (get o.owners k)))
    by true is = ap (is_owner q) (none_at o n k none is) ∙ whole (nat_eq p q)
    by false is = other (nat_eq p q) (owns q k o)

pub own_there : (o : Owned) (p n : ℕ) → owns p n (with_newest (Pair p n) o) ≡ true
own_there o p n = owner_put o p n p n ∙ ap (λ b. is_owner p (cond b (Some p) (get o.owners n))) (eq-eqb n n refl) ∙ eq-eqb p p refl

pub pair_is : (a : Newest) (p n : ℕ) → is_pair p n a ≡ true → a ≡ Pair p n
pair_is Nothing p n is = absurd (cc)
pair_is (Pair y m) p n is = by (nat_eq y p) refl (nat_eq m n) refl is
  where
    by : (b : Bool) → nat_eq y p ≡ b → (c : Bool) → nat_eq m n ≡ c → (b && c) ≡ true → Pair y m ≡ Pair p n
    by true first true second is = ap (λ q. Pair q m) (eqb-true y p first) ∙ ap (Pair p) (eqb-true m n second)
    by true first false second is = absurd (cc)
    by false first c second is = absurd (cc)

-- another number goes ----------------------------------------------------------------------------------------

-- what is owned with the number apart
with_one : (y m : ℕ) (o : Owned) (q k : ℕ) → owns q k (with_newest (Pair y m) o) ≡ cond (nat_eq k m) (nat_eq y q) (owns q k o)
with_one y m o q k = owner_put o y m q k ∙ by (nat_eq k m)
  where
    by : (b : Bool) → is_owner q (cond b (Some y) (get o.owners k)) ≡ cond b (nat_eq y q) (owns q k o)
    by true = refl
    by false = refl

pub other_gone : (a : Newest) (o t : Owned) (p n : ℕ) → is_pair p n a ≡ false → OwnsAs false p n o t → OwnsAs false p n (with_newest a o) (with_newest a t)
other_gone Nothing o t p n other says q k = says q k
other_gone (Pair y m) o t p n other says q k = with_one y m t q k ∙ ap (cond (nat_eq k m) (nat_eq y q)) (says q k) ∙ by (nat_eq k m) refl (nat_eq p q && nat_eq n k) refl ∙ ap (cond (nat_eq p q && nat_eq n k) false) (sym (with_one y m o q k))
  where
    -- the number apart has another owner
    differs : nat_eq k m ≡ true → (nat_eq p q && nat_eq n k) ≡ true → nat_eq y q ≡ false
    differs here same = at (nat_eq p q) refl (nat_eq n k) refl same
      where
        at : (b : Bool) → nat_eq p q ≡ b → (c : Bool) → nat_eq n k ≡ c → (b && c) ≡ true → nat_eq y q ≡ false
        at true owner true number s =
            let number_is : nat_eq m n ≡ true = eq-eqb m n (sym (eqb-true n k number ∙ eqb-true k m here)) in
            let pair : (nat_eq y p && true) ≡ false = ap (λ b. nat_eq y p && b) (sym number_is) ∙ other in
            ap (nat_eq y) (sym (eqb-true p q owner)) ∙ first (nat_eq y p) pair
          where
            first : (b : Bool) → (b && true) ≡ false → b ≡ false
            first true e = absurd (cc)
            first false e = refl
        at true owner false number s = absurd (cc)
        at false owner c number s = absurd (cc)

    by : (b : Bool) → nat_eq k m ≡ b → (c : Bool) → (nat_eq p q && nat_eq n k) ≡ c
        → cond b (nat_eq y q) (cond c false (owns q k o)) ≡ cond c false (cond b (nat_eq y q) (owns q k o))
    by true here true same = differs here same
    by true here false same = refl
    by false here true same = refl
    by false here false same = refl

pub still_apart : (a : Newest) (o t : Owned) (p n : ℕ) → OwnsAs false p n o t → IsApart a o → IsApart a t
still_apart Nothing o t p n says apart = tt
still_apart (Pair y m) o t p n says apart = no_owner (get t.owners m) (λ q. says q m ∙ ap (λ r. cond (nat_eq p q && nat_eq n m) false (is_owner q r)) apart ∙ by (nat_eq p q && nat_eq n m))
  where
    by : (b : Bool) → cond b false false ≡ false
    by true = refl
    by false = refl

pub other_size : (a : Newest) (o t : Owned) (p n : ℕ) → is_pair p n a ≡ false → IsApart a o → t.size + one_if (owns p n o) ≡ o.size → (with_newest a t).size + one_if (owns p n (with_newest a o)) ≡ (with_newest a o).size
other_size Nothing o t p n other apart size = size
other_size (Pair y m) o t p n other apart size =
    let same : owns p n (with_newest (Pair y m) o) ≡ owns p n o = with_one y m o p n ∙ by (nat_eq n m) refl in
    let counted : one_if (owns p n (with_newest (Pair y m) o)) ≡ one_if (owns p n o) = ap one_if same in
    omega (arith, counted, size)
  where
    by : (b : Bool) → nat_eq n m ≡ b → cond b (nat_eq y p) (owns p n o) ≡ owns p n o
    by true here =
        let number : n ≡ m = eqb-true n m here in
        let pair : (nat_eq y p && true) ≡ false = ap (λ b. nat_eq y p && b) (sym (eq-eqb m n (sym number))) ∙ other in
        first (nat_eq y p) pair ∙ sym (ap (is_owner p) (ap (get o.owners) number ∙ apart))
      where
        first : (b : Bool) → (b && true) ≡ false → b ≡ false
        first true e = absurd (cc)
        first false e = refl
    by false here = refl

-- nothing goes where there was nothing
pub none_gone : (o : Owned) (p n : ℕ) → owns p n o ≡ false → OwnsAs false p n o o
none_gone o p n none q k = by (nat_eq p q) refl (nat_eq n k) refl
  where
    by : (b : Bool) → nat_eq p q ≡ b → (c : Bool) → nat_eq n k ≡ c → owns q k o ≡ cond (b && c) false (owns q k o)
    by true owner true number = ap (λ r. owns r k o) (sym (eqb-true p q owner)) ∙ ap (λ r. owns p r o) (sym (eqb-true n k number)) ∙ none
    by true owner false number = refl
    by false owner c number = refl

-- What is found ----------------------------------------------------------------------------------------------

pub other_there : (a : Newest) (o : Owned) (p n : ℕ) → IsApart a o → owns p n o ≡ true → owns p n (with_newest a o) ≡ true
other_there Nothing o p n apart there = there
other_there (Pair y m) o p n apart there = with_one y m o p n ∙ by (nat_eq n m) refl
  where
    by : (b : Bool) → nat_eq n m ≡ b → cond b (nat_eq y p) (owns p n o) ≡ true
    by true here = let none : owns p n o ≡ false = ap (is_owner p) (ap (get o.owners) (eqb-true n m here) ∙ apart) in absurd (cc)
    by false here = there

pub none_there : (a : Newest) (o : Owned) (p : ℕ) → ((n : ℕ) → is_pair p n a ≡ false) → ((n : ℕ) → owns p n o ≡ false) → (n : ℕ) → owns p n (with_newest a o) ≡ false
none_there Nothing o p none others n = others n
none_there (Pair y m) o p none others n = with_one y m o p n ∙ by (nat_eq n m)
  where
    first : (b : Bool) → (b && true) ≡ false → b ≡ false
    first true e = absurd (cc)
    first false e = refl

    by : (b : Bool) → cond b (nat_eq y p) (owns p n o) ≡ false
    by true = first (nat_eq y p) (ap (λ b. nat_eq y p && b) (sym (eq-eqb m m refl)) ∙ none m)
    by false = others n
