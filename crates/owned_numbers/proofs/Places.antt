-- Each number stands at its place in the list of its owner, and at no other one: a number comes, and goes.
use Rattle.std.proofs.Common.{◌≡◌, ◌∙◌, ℕ, Option, Some, None, Bool, true, false, cond, refl, sym, ap, subst}
use Rattle.std.specs.Prelude.{nat_eq, IfSome, ◌&&◌}
use Rattle.std.specs.Ordering.{nat_cmp}
use Rattle.std.specs.Option.{option_map, option_map_or}
use Rattle.std.specs.Cmp.{nat_eq_equiv}
use Rattle.std.specs.FinMap.{empty, get, get-empty, insert, remove}
use borrow.Author.Tests.{eqb-true, eq-eqb, ne_eqb}
use Rattle.number_map.specs.Table.{change}
use Rattle.number_map.proofs.Changes.{get_dropped, get_put}
use Rattle.number_map.proofs.Mapped.{get_mapped}
use Rattle.owned_numbers.specs.declared.others.Place.{Place}
use Rattle.owned_numbers.specs.Lists.{AreListed, IsAppended, Lists, MovesTo, Places, item_at, owners_of}
use Rattle.owned_numbers.specs.Owned.{is_owner}

-- Places -----------------------------------------------------------------------------------------------------

abbrev place : ℕ → ℕ → Place
place p i = record { owner = p; index = i }

same_place : (a b : Place) → Some a ≡ Some b → (a.owner ≡ b.owner) × (a.index ≡ b.index)
same_place a b e = (ap (λ (o : Option Place). owner_of o) e, ap (λ (o : Option Place). index_of o) e)
  where
    owner_of : Option Place → ℕ
    owner_of None = 0
    owner_of (Some x) = x.owner

    index_of : Option Place → ℕ
    index_of None = 0
    index_of (Some x) = x.index

same_number : (a b : ℕ) → Some a ≡ Some b → a ≡ b
same_number a b e = cc

self_pair : (p i : ℕ) → (nat_eq p p && nat_eq i i) ≡ true
self_pair p i = ap (λ b. b && nat_eq i i) (eq-eqb p p refl) ∙ eq-eqb i i refl

pair_of : (p q i j : ℕ) → p ≡ q → i ≡ j → (nat_eq p q && nat_eq i j) ≡ true
pair_of p q i j same_p same_i = ap (λ b. b && nat_eq i j) (eq-eqb p q same_p) ∙ eq-eqb i j same_i

of_pair : (p q i j : ℕ) → (nat_eq p q && nat_eq i j) ≡ true → (p ≡ q) × (i ≡ j)
of_pair p q i j is = by (nat_eq p q) refl (nat_eq i j) refl is
  where
    by : (b : Bool) → nat_eq p q ≡ b → (c : Bool) → nat_eq i j ≡ c → (b && c) ≡ true → (p ≡ q) × (i ≡ j)
    by true first true second e = (eqb-true p q first, eqb-true i j second)
    by true first false second e = absurd (cc)
    by false first c second e = absurd (cc)

-- what stands at the place of a number is the number
stands : (places : Places) (lists : Lists) (k : ℕ) (x : Place) → AreListed places lists → get places k ≡ Some x → item_at lists x.owner x.index ≡ Some k
stands places lists k x h there = subst (λ o. IfSome o (λ x. item_at lists x.owner x.index ≡ Some k)) there (h.found k)

-- two numbers stand at two places
two_places : (places : Places) (lists : Lists) (k n : ℕ) (x y : Place) → AreListed places lists → get places k ≡ Some x → get places n ≡ Some y → (nat_eq y.owner x.owner && nat_eq y.index x.index) ≡ true → k ≡ n
two_places places lists k n x y h there other same =
    let is = of_pair y.owner x.owner y.index x.index same in
    same_number k n (sym (stands places lists k x h there) ∙ ap (λ p. item_at lists p x.index) (sym is.0) ∙ ap (item_at lists y.owner) (sym is.1) ∙ stands places lists n y h other)

-- Nothing is there at first ------------------------------------------------------------------------------------

pub listed_none : (places : Places) (lists : Lists) → places ≡ empty → ((p i : ℕ) → item_at lists p i ≡ None) → AreListed places lists
listed_none places lists none nothing = record {
  found = λ n. subst (λ o. IfSome o (λ x. item_at lists x.owner x.index ≡ Some n)) (sym (ap (λ (m : Places). get m n) none ∙ get-empty nat_cmp n)) tt;
  placed = λ p i n is. let no = nothing p i in absurd (cc);
}

-- the same stands in the lists
pub listed_same : (places : Places) (lists new : Lists) → ((q j : ℕ) → item_at new q j ≡ item_at lists q j) → AreListed places lists → AreListed places new
listed_same places lists new same h = record {
  found = λ k. by k (get places k) (h.found k);
  placed = λ q j k is. h.placed q j k (sym (same q j) ∙ is);
}
  where
    by : (k : ℕ) (o : Option Place) → IfSome o (λ x. item_at lists x.owner x.index ≡ Some k) → IfSome o (λ x. item_at new x.owner x.index ≡ Some k)
    by k None i = tt
    by k (Some x) i = same x.owner x.index ∙ i

-- A number comes -----------------------------------------------------------------------------------------------

pub listed_more : (places : Places) (lists new : Lists) (p i n : ℕ) → get places n ≡ None → IsAppended p i n lists new → AreListed places lists → AreListed (insert places n (record { owner = p; index = i })) new
listed_more places lists new p i n none more h = record {
  found = λ k. subst (λ o. IfSome o (λ x. item_at new x.owner x.index ≡ Some k)) (sym (get_put places n k (place p i))) (found k (nat_eq k n) refl (get places k) refl);
  placed = λ q j k is. get_put places n k (place p i) ∙ placed q j k (nat_eq p q && nat_eq i j) refl (sym (more.items q j) ∙ is);
}
  where
    found : (k : ℕ) (b : Bool) → nat_eq k n ≡ b → (o : Option Place) → get places k ≡ o → IfSome (cond b (Some (place p i)) o) (λ x. item_at new x.owner x.index ≡ Some k)
    found k true is o there = more.items p i ∙ ap (λ b. cond b (Some n) (item_at lists p i)) (self_pair p i) ∙ ap (λ m. Some m) (sym (eqb-true k n is))
    found k false is None there = tt
    found k false is (Some x) there = more.items x.owner x.index ∙ by (nat_eq p x.owner && nat_eq i x.index) refl
      where
        by : (b : Bool) → (nat_eq p x.owner && nat_eq i x.index) ≡ b → cond b (Some n) (item_at lists x.owner x.index) ≡ Some k
        by true same =
            let at = of_pair p x.owner i x.index same in
            let taken : item_at lists p i ≡ Some k = ap (λ q. item_at lists q i) at.0 ∙ ap (item_at lists x.owner) at.1 ∙ stands places lists k x h there in
            let free = more.free in
            absurd (cc)
        by false same = stands places lists k x h there

    placed : (q j k : ℕ) (b : Bool) → (nat_eq p q && nat_eq i j) ≡ b → cond b (Some n) (item_at lists q j) ≡ Some k → cond (nat_eq k n) (Some (place p i)) (get places k) ≡ Some (place q j)
    placed q j k true same is =
        let at = of_pair p q i j same in
        ap (λ b. cond b (Some (place p i)) (get places k)) (eq-eqb k n (sym (same_number n k is))) ∙ ap (λ r. Some (place r i)) at.0 ∙ ap (λ r. Some (place q r)) at.1
    placed q j k false same is =
        let there = h.placed q j k is in
        ap (λ b. cond b (Some (place p i)) (get places k)) (ne_eqb k n (λ e. let gone : get places k ≡ None = ap (get places) e ∙ none in absurd (cc))) ∙ there

-- A number goes ------------------------------------------------------------------------------------------------

-- it was the last of its list
pub listed_less : (places : Places) (lists new : Lists) (p i n : ℕ) → get places n ≡ Some (record { owner = p; index = i }) → ((q j : ℕ) → item_at new q j ≡ cond (nat_eq p q && nat_eq i j) None (item_at lists q j))
    → AreListed places lists → AreListed (remove places n) new
listed_less places lists new p i n own less h = record {
  found = λ k. subst (λ o. IfSome o (λ x. item_at new x.owner x.index ≡ Some k)) (sym (get_dropped places n k)) (found k (nat_eq k n) refl (get places k) refl);
  placed = λ q j k is. get_dropped places n k ∙ placed q j k (nat_eq p q && nat_eq i j) refl (sym (less q j) ∙ is);
}
  where
    found : (k : ℕ) (b : Bool) → nat_eq k n ≡ b → (o : Option Place) → get places k ≡ o → IfSome (cond b None o) (λ x. item_at new x.owner x.index ≡ Some k)
    found k true is o there = tt
    found k false is None there = tt
    found k false is (Some x) there = less x.owner x.index ∙ by (nat_eq p x.owner && nat_eq i x.index) refl
      where
        by : (b : Bool) → (nat_eq p x.owner && nat_eq i x.index) ≡ b → cond b None (item_at lists x.owner x.index) ≡ Some k
        by true same = let number = two_places places lists k n x (place p i) h there own same in let no = eq-eqb k n number in absurd (cc)
        by false same = stands places lists k x h there

    placed : (q j k : ℕ) (b : Bool) → (nat_eq p q && nat_eq i j) ≡ b → cond b None (item_at lists q j) ≡ Some k → cond (nat_eq k n) None (get places k) ≡ Some (place q j)
    placed q j k true same is = absurd (cc)
    placed q j k false same is =
        let there = h.placed q j k is in
        ap (λ b. cond b None (get places k))
        (ne_eqb k n (λ e.
        let at = same_place (place p i) (place q j) (sym own ∙ ap (get places) (sym e) ∙ there) in
        let no = pair_of p q i j at.0 at.1 in
        absurd (cc)))
        ∙ there

-- the last of its list came to its place
pub listed_moved : (places : Places) (lists new : Lists) (p i n m : ℕ) → get places n ≡ Some (record { owner = p; index = i }) → MovesTo p m i lists new
    → AreListed places lists → AreListed (change m (λ x. record x { index = i }) (remove places n)) new
listed_moved places lists new p i n m own moves h = subst (λ t. AreListed t new) (sym changed) (record {
  found = λ k. subst (λ o. IfSome o (λ x. item_at new x.owner x.index ≡ Some k)) (sym (at k)) (found k (nat_eq k m) refl (nat_eq k n) refl (get places k) refl);
  placed = λ q j k is. at k ∙ placed q j k (nat_eq p q && nat_eq moves.last j) refl (nat_eq p q && nat_eq i j) refl (sym (moves.items q j) ∙ is);
})
  where
    rest : Places
    rest = remove places n

    moved : get places m ≡ Some (place p moves.last)
    moved = h.placed p moves.last m moves.there

    differs : nat_eq m n ≡ false
    differs = ne_eqb m n (λ e.
        let at = same_place (place p moves.last) (place p i) (sym moved ∙ ap (get places) e ∙ own) in
        let no = eq-eqb moves.last i at.1 in
        let apart = moves.apart in
        absurd (cc))

    still : get rest m ≡ Some (place p moves.last)
    still = get_dropped places n m ∙ ap (λ b. cond b None (get places m)) differs ∙ moved

    changed : change m (λ x. record x { index = i }) rest ≡ insert rest m (place p i)
    changed = ap (λ o. option_map_or (λ (x : Place). insert rest m (record x { index = i })) o rest) still

    at : (k : ℕ) → get (insert rest m (place p i)) k ≡ cond (nat_eq k m) (Some (place p i)) (cond (nat_eq k n) None (get places k))
    at k = get_put rest m k (place p i) ∙ ap (cond (nat_eq k m) (Some (place p i))) (get_dropped places n k)

    found : (k : ℕ) (b : Bool) → nat_eq k m ≡ b → (c : Bool) → nat_eq k n ≡ c → (o : Option Place) → get places k ≡ o → IfSome (cond b (Some (place p i)) (cond c None o)) (λ x. item_at new x.owner x.index ≡ Some k)
    found k true is c other o there =
        moves.items p i ∙ ap (λ b. cond (nat_eq p p && b) None (cond (nat_eq p p && nat_eq i i) (Some m) (item_at lists p i))) moves.apart
        ∙ ap (λ b. cond (b && false) None (cond (nat_eq p p && nat_eq i i) (Some m) (item_at lists p i))) (eq-eqb p p refl)
        ∙ ap (λ b. cond b (Some m) (item_at lists p i)) (self_pair p i) ∙ ap (λ r. Some r) (sym (eqb-true k m is))
    found k false is true other o there = tt
    found k false is false other None there = tt
    found k false is false other (Some x) there = moves.items x.owner x.index ∙ by (nat_eq p x.owner && nat_eq moves.last x.index) refl (nat_eq p x.owner && nat_eq i x.index) refl
      where
        by : (b : Bool) → (nat_eq p x.owner && nat_eq moves.last x.index) ≡ b → (c : Bool) → (nat_eq p x.owner && nat_eq i x.index) ≡ c → cond b None (cond c (Some m) (item_at lists x.owner x.index)) ≡ Some k
        by true same c which = let number = two_places places lists k m x (place p moves.last) h there moved same in let no = eq-eqb k m number in absurd (cc)
        by false same true which = let number = two_places places lists k n x (place p i) h there own which in let no = eq-eqb k n number in absurd (cc)
        by false same false which = stands places lists k x h there

    placed : (q j k : ℕ) (b : Bool) → (nat_eq p q && nat_eq moves.last j) ≡ b → (c : Bool) → (nat_eq p q && nat_eq i j) ≡ c → cond b None (cond c (Some m) (item_at lists q j)) ≡ Some k
        → cond (nat_eq k m) (Some (place p i)) (cond (nat_eq k n) None (get places k)) ≡ Some (place q j)
    placed q j k true same c which is = absurd (cc)
    placed q j k false same true which is =
        let here = of_pair p q i j which in
        ap (λ b. cond b (Some (place p i)) (cond (nat_eq k n) None (get places k))) (eq-eqb k m (sym (same_number m k is))) ∙ ap (λ r. Some (place r i)) here.0 ∙ ap (λ r. Some (place q r)) here.1
    placed q j k false same false which is =
        let there = h.placed q j k is in
        ap (λ b. cond b (Some (place p i)) (cond (nat_eq k n) None (get places k)))
        (ne_eqb k m (λ e.
        let here = same_place (place p moves.last) (place q j) (sym moved ∙ ap (get places) (sym e) ∙ there) in
        let no = pair_of p q moves.last j here.0 here.1 in
        absurd (cc)))
        ∙ ap (λ b. cond b None (get places k))
        (ne_eqb k n (λ e.
        let here = same_place (place p i) (place q j) (sym own ∙ ap (get places) (sym e) ∙ there) in
        let no = pair_of p q i j here.0 here.1 in
        absurd (cc)))
        ∙ there

-- The owners ---------------------------------------------------------------------------------------------------

pub owner_is : (places : Places) (k : ℕ) → get (owners_of places) k ≡ option_map (λ (x : Place). x.owner) (get places k)
owner_is places k = get_mapped (λ (x : Place). x.owner) places k

-- a number that is found at an index of an owner's list has this owner
pub owner_there : (places : Places) (lists : Lists) (p i n : ℕ) → AreListed places lists → item_at lists p i ≡ Some n → is_owner p (get (owners_of places) n) ≡ true
owner_there places lists p i n h there = ap (is_owner p) (owner_is places n ∙ ap (option_map (λ (x : Place). x.owner)) (h.placed p i n there)) ∙ eq-eqb p p refl

-- an owner with no list has no number
pub owner_nowhere : (places : Places) (lists : Lists) (p : ℕ) → AreListed places lists → ((i : ℕ) → item_at lists p i ≡ None) → (n : ℕ) → is_owner p (get (owners_of places) n) ≡ false
owner_nowhere places lists p h nothing n = ap (is_owner p) (owner_is places n) ∙ by (get places n) refl
  where
    by : (o : Option Place) → get places n ≡ o → is_owner p (option_map (λ (x : Place). x.owner) o) ≡ false
    by None there = refl
    by (Some x) there = ne_eqb x.owner p (λ e.
        let here : item_at lists p x.index ≡ Some n = ap (λ q. item_at lists q x.index) (sym e) ∙ stands places lists n x h there in
        let no = nothing x.index in
        absurd (cc))

-- a number that goes is no one's, and the others keep their owners
pub owners_less : (places : Places) (p i n : ℕ) → get places n ≡ Some (record { owner = p; index = i })
    → (q k : ℕ) → is_owner q (get (owners_of (remove places n)) k) ≡ cond (nat_eq p q && nat_eq n k) false (is_owner q (get (owners_of places) k))
owners_less places p i n own q k = ap (is_owner q) (owner_is (remove places n) k ∙ ap (option_map (λ (x : Place). x.owner)) (get_dropped places n k)) ∙ by (nat_eq k n) refl ∙ ap (λ o. cond (nat_eq p q && nat_eq n k) false (is_owner q o)) (sym (owner_is places k))
  where
    here : nat_eq k n ≡ true → get places k ≡ Some (place p i)
    here is = ap (get places) (eqb-true k n is) ∙ own

    whole : (b : Bool) → false ≡ cond (b && true) false b
    whole true = refl
    whole false = refl

    other : (b c : Bool) → c ≡ cond (b && false) false c
    other true c = refl
    other false c = refl

    by : (b : Bool) → nat_eq k n ≡ b → is_owner q (option_map (λ (x : Place). x.owner) (cond b None (get places k))) ≡ cond (nat_eq p q && nat_eq n k) false (is_owner q (option_map (λ (x : Place). x.owner) (get places k)))
    by true is =
        whole (nat_eq p q) ∙ ap (λ b. cond (nat_eq p q && b) false (nat_eq p q)) (sym (nat_eq_equiv.symm n k ∙ is))
        ∙ ap (λ o. cond (nat_eq p q && nat_eq n k) false (is_owner q (option_map (λ (x : Place). x.owner) o))) (sym (here is))
    by false is =
        other (nat_eq p q) (is_owner q (option_map (λ (x : Place). x.owner) (get places k)))
        ∙ ap (λ b. cond (nat_eq p q && b) false (is_owner q (option_map (λ (x : Place). x.owner) (get places k)))) (sym (nat_eq_equiv.symm n k ∙ is))

-- another index is another place of the same owner
pub owners_moved : (places : Places) (m i k : ℕ) → get (owners_of (change m (λ x. record x { index = i }) places)) k ≡ get (owners_of places) k
owners_moved places m i k = owner_is (change m (λ x. record x { index = i }) places) k ∙ by (get places m) refl ∙ sym (owner_is places k)
  where
    same : (x : Place) → get places m ≡ Some x → (b : Bool) → nat_eq k m ≡ b → option_map (λ (x : Place). x.owner) (cond b (Some (record x { index = i })) (get places k)) ≡ option_map (λ (x : Place). x.owner) (get places k)
    same x there true is = ap (option_map (λ (x : Place). x.owner)) (sym (ap (get places) (eqb-true k m is) ∙ there))
    same x there false is = refl

    by : (o : Option Place) → get places m ≡ o → option_map (λ (x : Place). x.owner) (get (option_map_or (λ (x : Place). insert places m (record x { index = i })) o places) k) ≡ option_map (λ (x : Place). x.owner) (get places k)
    by None there = refl
    by (Some x) there = ap (option_map (λ (x : Place). x.owner)) (get_put places m k (record x { index = i })) ∙ same x there (nat_eq k m) refl
