-- Members in the order of their object numbers: what an insertion and a removal at a place leave.
use Rattle.std.proofs.Common.{◌≡◌, ℕ, zero, suc, ◌+◌, ◌<◌, ◌≤◌, Bool, true, false, ◌&&◌, ◌||◌, cond, List, [], ◌∷◌, ◌++◌, length, filter, take, drop, get_or, Option, Some, None, refl, sym, ap, subst, ◌∙◌, arith, true≢false}
use Rattle.std.specs.Prelude.{nat_eq, nat_lt, All, IfSome, insert, remove, slice_index}
use Rattle.std.proofs.lemmas.List.Elements.{All-nil, All-cons, All-head, All-tail, filter_passes}
use Rattle.std.proofs.lemmas.List.{get_or-map, length-map}
use Rattle.std.proofs.lemmas.List.Edits.{get_or-remove_below, get_or-remove_above, length-remove}
use Rattle.std.proofs.lemmas.Bool.{cases_lt}
use Rattle.std.specs.List.{AllPairs}
use Rattle.std.specs.List.Sorted.{IsNonDecreasingBy, IsStrictlyIncreasing}
use Rattle.std.proofs.lemmas.List.Kept.{AllPairs-cons, AllPairs-filter}
use Rattle.std.proofs.lemmas.Bool.Decides.{nat_tests}
use mathlib.Core.Logic.{◌⊎◌, inl, inr, ⊎_elim}
use borrow.Author.Tests.{eqb-true, eq-eqb, ne_eqb, lt-ltb, le-ltb}
use Rattle.fin_lists.specs.declared.group.Membership.{Membership}
use Rattle.fin_lists.specs.Members.{insert_member, remove_member, put_member, has_member, members_in, objects_of, is_same, IsSole, AreOnce}

abbrev pub nobody : Membership
nobody = record { object = 0; set = 0 }

-- an insertion behind those that are not above, and before those that are
pub insert_at : (m : Membership) (xs : List Membership) (i : ℕ) → i ≤ length xs → ((k : ℕ) → k < i → (get_or xs k nobody).object ≤ m.object)
    → ((k : ℕ) → i ≤ k → k < length xs → m.object < (get_or xs k nobody).object) → insert xs i m ≡ insert_member m xs
insert_at m [] zero h before after = refl
insert_at m [] (suc i) h before after = absurd (omega arith)
insert_at m (x ∷ xs) zero h before after = ap (λ b. cond b (m ∷ x ∷ xs) (x ∷ insert_member m xs)) (sym (lt-ltb m.object x.object (after 0 (omega arith) (omega arith))))
insert_at m (x ∷ xs) (suc i) h before after =
    ap (λ l. x ∷ l) (insert_at m xs i (omega arith) (λ k l. before (suc k) (omega arith)) (λ k l n. after (suc k) (omega arith) (omega arith)))
    ∙ ap (λ b. cond b (m ∷ x ∷ xs) (x ∷ insert_member m xs)) (sym (le-ltb m.object x.object (before 0 (omega arith))))

-- a removal at the first place where the member stands
pub remove_at : (m : Membership) (xs : List Membership) (i : ℕ) → i < length xs → is_same m (get_or xs i nobody) ≡ true
    → ((k : ℕ) → k < i → is_same m (get_or xs k nobody) ≡ false) → remove xs i ≡ remove_member m xs
remove_at m [] i h here before = absurd (omega arith)
remove_at m (x ∷ xs) zero h here before = ap (λ b. cond b xs (x ∷ remove_member m xs)) (sym here)
remove_at m (x ∷ xs) (suc i) h here before =
    ap (λ l. x ∷ l) (remove_at m xs i (omega arith) here (λ k l. before (suc k) (omega arith)))
    ∙ ap (λ b. cond b xs (x ∷ remove_member m xs)) (sym (before 0 (omega arith)))

abbrev differs : Membership → Membership → Type 0
differs m x = is_same m x ≡ false

-- where the member does not stand, nothing is removed
pub remove_nothing : (m : Membership) (xs : List Membership) → All (λ x. is_same m x ≡ false) xs → xs ≡ remove_member m xs
remove_nothing m [] none = refl
remove_nothing m (x ∷ xs) none =
    ap (λ l. x ∷ l) (remove_nothing m xs (All-tail (differs m) x xs none)) ∙ ap (λ b. cond b xs (x ∷ remove_member m xs)) {x = false} {y = is_same m x} (sym (All-head (differs m) x xs none))

-- members of one set are all of its own
pub sole_members : (set : ℕ) (xs : List Membership) → IsSole (Some set) xs → members_in set xs ≡ xs
sole_members set [] sole = refl
sole_members set (x ∷ xs) sole =
    let P : Membership → Type 0 = λ m. m.set ≡ set in
    ap (λ b. cond b (x ∷ members_in set xs) (members_in set xs)) {x = nat_eq x.set set} {y = true} (eq-eqb x.set set (All-head P x xs sole))
    ∙ ap (λ l. x ∷ l) (sole_members set xs (All-tail P x xs sole))

-- what holds of a member and of all others holds of all once it is put in
all_insert : (P : Membership → Type 0) (m : Membership) (xs : List Membership) → P m → All P xs → All P (insert_member m xs)
all_insert P m [] here all = All-cons P m [] here (All-nil P)
all_insert P m (x ∷ xs) here all =
    elim (nat_lt m.object x.object) as (λ b. All P (cond b (m ∷ x ∷ xs) (x ∷ insert_member m xs))) [
      | true ↦ All-cons P m (x ∷ xs) here all
      | false ↦ All-cons P x (insert_member m xs) (All-head P x xs all) (all_insert P m xs here (All-tail P x xs all))
    ]

-- a further member of its set leaves a sole set sole
pub sole_insert : (set : ℕ) (m : Membership) (xs : List Membership) → m.set ≡ set → IsSole (Some set) xs → IsSole (Some set) (insert_member m xs)
sole_insert set m xs here sole = all_insert (λ x. x.set ≡ set) m xs here sole

-- where a set is named, and the member is of that one
pub sole_with : (set : Option ℕ) (m : Membership) (xs : List Membership) → IfSome set (λ s. s ≡ m.set) → IsSole set xs → IsSole set (insert_member m xs)
sole_with None m xs here sole = tt
sole_with (Some set) m xs here sole = sole_insert set m xs (sym here) sole

-- so does a removal
pub sole_remove : (set : Option ℕ) (m : Membership) (xs : List Membership) → IsSole set xs → IsSole set (remove_member m xs)
sole_remove None m xs sole = tt
sole_remove (Some set) m [] sole = sole
sole_remove (Some set) m (x ∷ xs) sole =
    let P : Membership → Type 0 = λ m. m.set ≡ set in
    elim (is_same m x) as (λ b. All P (cond b xs (x ∷ remove_member m xs))) [
      | true ↦ All-tail P x xs sole
      | false ↦ All-cons P x (remove_member m xs) (All-head P x xs sole) (sole_remove (Some set) m xs (All-tail P x xs sole))
    ]

abbrev pub number : Membership → ℕ
number m = m.object

-- what is left after a removal is in order
pub ordered_remove : (xs : List Membership) (p : ℕ) → p < length xs → IsNonDecreasingBy (λ m. m.object) xs → IsNonDecreasingBy (λ m. m.object) (remove xs p)
ordered_remove xs p within ordered i j d le below =
    let long = length-remove xs p in
    ⊎_elim (λ (jp : j < p).
    subst (λ v. number v ≤ number (get_or (remove xs p) j d)) (sym (get_or-remove_below xs p d i (omega arith) within))
    (subst (λ v. number (get_or xs i d) ≤ number v) (sym (get_or-remove_below xs p d j jp within)) (ordered i j d le (omega arith))))
    (λ (pj : p ≤ j). ⊎_elim
    (λ (ip : i < p).
    subst (λ v. number v ≤ number (get_or (remove xs p) j d)) (sym (get_or-remove_below xs p d i ip within))
    (subst (λ v. number (get_or xs i d) ≤ number v) (sym (get_or-remove_above xs p d j pj within)) (ordered i (j + 1) d (omega arith) (omega arith))))
    (λ (pi : p ≤ i).
    subst (λ v. number v ≤ number (get_or (remove xs p) j d)) (sym (get_or-remove_above xs p d i pi within))
    (subst (λ v. number (get_or xs (i + 1) d) ≤ number v) (sym (get_or-remove_above xs p d j pj within)) (ordered (i + 1) (j + 1) d (omega arith) (omega arith))))
    (cases_lt i p))
    (cases_lt j p)

-- a member of a smaller number is another
pub differs_below : (m x : Membership) → x.object < m.object → is_same m x ≡ false
differs_below m x below = ap (λ b. b && nat_eq m.set x.set) (ne_eqb m.object x.object (λ same. let it : ⊥ = omega arith in it))

-- the same the other way round
same_back : (x y : Membership) → is_same x y ≡ is_same y x
same_back x y =
    let eq : (a b : ℕ) → nat_eq a b ≡ nat_eq b a = λ a b. grind (arith, nat_tests) in
    λ i. eq x.object y.object i && eq x.set y.set i

-- a member that is another than each is not there
pub none_there : (m : Membership) (xs : List Membership) → All (λ x. is_same m x ≡ false) xs → has_member m xs ≡ false
none_there m [] none = refl
none_there m (x ∷ xs) none =
    ap (λ b. b || has_member m xs) {x = is_same m x} {y = false} (All-head (differs m) x xs none) ∙ none_there m xs (All-tail (differs m) x xs none)

-- one that stands at a place is there
pub one_there : (m : Membership) (xs : List Membership) (i : ℕ) → i < length xs → is_same m (get_or xs i nobody) ≡ true → has_member m xs ≡ true
one_there m [] i h here = absurd (omega arith)
one_there m (x ∷ xs) zero h here = ap (λ b. b || has_member m xs) {x = is_same m x} {y = true} here
one_there m (x ∷ xs) (suc i) h here =
    let later = one_there m xs i (omega arith) here in
    elim (is_same m x) as (λ b. (b || has_member m xs) ≡ true) [ true ↦ refl | false ↦ later ]

abbrev other : Membership → Membership → Type 0
other x y = is_same x y ≡ false

once_head : (x : Membership) (xs : List Membership) → AreOnce (x ∷ xs) → All (other x) xs
once_head x xs once k d lt = once 0 (suc k) d (omega arith) (omega arith)

once_tail : (x : Membership) (xs : List Membership) → AreOnce (x ∷ xs) → AreOnce xs
once_tail x xs once i j d lt below = once (suc i) (suc j) d (omega arith) (omega arith)

-- a member that was not there is there once
pub once_insert : (m : Membership) (xs : List Membership) → All (λ x. is_same m x ≡ false) xs → AreOnce xs → AreOnce (insert_member m xs)
once_insert m [] none once = AllPairs-cons other m [] none once
once_insert m (x ∷ xs) none once =
    elim (nat_lt m.object x.object) as (λ b. AreOnce (cond b (m ∷ x ∷ xs) (x ∷ insert_member m xs))) [
      | true ↦ AllPairs-cons other m (x ∷ xs) none once
      | false ↦ AllPairs-cons other x (insert_member m xs) (all_insert (other x) m xs (same_back x m ∙ All-head (differs m) x xs none) (once_head x xs once))
          (once_insert m xs (All-tail (differs m) x xs none) (once_tail x xs once))
    ]

-- of two members of one set the second, if its number is not lower, has a higher one
another : (x y : Membership) → x.set ≡ y.set → x.object ≤ y.object → is_same x y ≡ false → x.object < y.object
another x y sets le differ =
    ⊎_elim (λ (lt : x.object < y.object). lt)
    (λ (ge : y.object ≤ x.object).
    let objects : x.object ≡ y.object = omega arith in
    absurd (true≢false (sym (λ i. eq-eqb x.object y.object objects i && eq-eqb x.set y.set sets i) ∙ differ)))
    (cases_lt x.object y.object)

-- members of one set, in order and each there once, are numbered from the lowest to the highest
pub members_rise : (set : ℕ) (xs : List Membership) → IsNonDecreasingBy (λ m. m.object) xs → AreOnce xs → IsStrictlyIncreasing (objects_of (members_in set xs))
members_rise set xs ordered once k below =
    let ys = members_in set xs in
    let inside : k + 1 < length ys = omega (arith, length-map ys number) in
    let R : Membership → Membership → Type 0 = λ x y. (x.object ≤ y.object) × (is_same x y ≡ false) in
    let pairs : AllPairs R xs = λ i j d lt h. (ordered i j d (omega arith) h, once i j d lt h) in
    let kept = AllPairs-filter R (λ m. nat_eq m.set set) xs pairs k (k + 1) nobody (omega arith) inside in
    let own = filter_passes (λ (m : Membership). nat_eq m.set set) xs in
    let x = get_or ys k nobody in
    let y = get_or ys (k + 1) nobody in
    let x_in : x.set ≡ set = eqb-true _ _ (own k nobody (omega arith)) in
    let y_in : y.set ≡ set = eqb-true _ _ (own (k + 1) nobody inside) in
    subst (λ n. n < slice_index (objects_of ys) (k + 1)) (sym (get_or-map number ys k nobody 0 (omega arith)))
    (subst (λ n. x.object < n) (sym (get_or-map number ys (k + 1) nobody 0 inside)) (another x y (x_in ∙ sym y_in) kept.0 kept.1))
