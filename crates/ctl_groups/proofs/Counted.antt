-- A caller goes over the groups of some collections, counts the objects that pass a test of its own, and finds the first or the last of them.
use Rattle.std.proofs.Common.{◌≡◌, ◌∙◌, ℕ, zero, suc, ◌+◌, ◌-◌, ◌<◌, ◌≤◌, List, [], ◌∷◌, Option, Some, None, Bool, true, false, cond, refl, sym, ap, arith, length}
use Rattle.std.specs.Prelude.{nat_eq, nat_lt, not, ◌&&◌}
use Rattle.std.specs.List.{AllByRecursion}
use Rattle.std.proofs.lemmas.Bool.Decides.{nat_tests}
use Rattle.ctl_meaning.specs.World.{Object}
use Rattle.ctl_meaning.specs.Lists.{keep, opened_lists, pull_item}
use Rattle.ctl_meaning.specs.Objects.{object_in}
use Rattle.ctl_groups.specs.Groups.{one, test}
use Rattle.ctl_groups.specs.Members.{IsGreatest, IsLeast, passes}
use Rattle.ctl_storage.specs.Order.{Rise}
use Rattle.ctl_groups.proofs.Grouped.{is_false}
use Rattle.ctl_groups.proofs.Moved.{length_more, length_none, none_kept, other, own_count}
use Rattle.ctl_storage.proofs.Rising.{in_here, in_keep, in_more, in_none, in_there, keep_more, keep_none, kept_one, none_below, rise_keep}

-- Each object ----------------------------------------------------------------------------------------------

-- what holds of each object that is found holds of all
pub each_there : (P : Object → Type 0) (low : ℕ) (os : List Object) → Rise low os → ((o : Object) → object_in o.number os ≡ Some o → P o) → AllByRecursion P os
each_there P low [] rise h = tt
each_there P low (x ∷ xs) rise h = (h x (in_here x xs), each_there P (x.number + 1) xs rise.1 (λ o there. h o (in_there o.number x xs (λ same. apart o there same) ∙ there)))
  where
    apart : (o : Object) → object_in o.number xs ≡ Some o → x.number ≡ o.number → ⊥
    apart o there same =
        let none : object_in o.number xs ≡ None = none_below (x.number + 1) o.number xs rise.1 (omega (arith, same)) in
        cc

-- an object that passes a test
pub passing : (p : Object → Bool) (n : ℕ) (os : List Object) → passes p n os ≡ true → (o : Object) × (object_in n os ≡ Some o) × (p o ≡ true)
passing p n os is = by (object_in n os) refl is
  where
    by : (r : Option Object) → object_in n os ≡ r → test p r ≡ true → (o : Object) × (object_in n os ≡ Some o) × (p o ≡ true)
    by None there t = absurd (cc)
    by (Some o) there t = (o, there, t)

pub passes_so : (p : Object → Bool) (n : ℕ) (o : Object) (os : List Object) → object_in n os ≡ Some o → p o ≡ true → passes p n os ≡ true
passes_so p n o os there is = ap (test p) there ∙ is

-- How many -------------------------------------------------------------------------------------------------

-- those that pass one of two tests, where none passes both
pub sums : (p q r : Object → Bool) (os : List Object) → AllByRecursion (λ o. one (p o) ≡ one (q o) + one (r o)) os → length (keep p os) ≡ length (keep q os) + length (keep r os)
sums p q r [] all = let a = length_none p in let b = length_none q in let c = length_none r in omega (arith, a, b, c)
sums p q r (x ∷ xs) all =
    let ih = sums p q r xs all.1 in
    let this = all.0 in
    let a = length_more p x xs in
    let b = length_more q x xs in
    let c = length_more r x xs in
    omega (arith, ih, this, a, b, c)

pub kept_same : (p q : Object → Bool) (os : List Object) → AllByRecursion (λ o. p o ≡ q o) os → keep p os ≡ keep q os
kept_same p q [] all = keep_none p ∙ sym (keep_none q)
kept_same p q (x ∷ xs) all = keep_more p x xs ∙ (ap (λ b. cond b (x ∷ keep p xs) (keep p xs)) all.0 ∙ (ap (λ (l : List Object). cond (q x) (x ∷ l) l) (kept_same p q xs all.1) ∙ sym (keep_more q x xs)))

pub no_fewer : (p q : Object → Bool) (os : List Object) → ((o : Object) → p o ≡ true → q o ≡ true) → length (keep p os) ≤ length (keep q os)
no_fewer p q [] to = let a = length_none p in let b = length_none q in omega (arith, a, b)
no_fewer p q (x ∷ xs) to =
    let ih = no_fewer p q xs to in
    let a = length_more p x xs in
    let b = length_more q x xs in
    let less = by (p x) (q x) (to x) in
    omega (arith, ih, a, b, less)
  where
    by : (s t : Bool) → (s ≡ true → t ≡ true) → one s ≤ one t
    by false t h = omega arith
    by true true h = omega arith
    by true false h = let no = h refl in absurd (cc)

-- one fewer at least
pub fewer_left : (p q : Object → Bool) (n low : ℕ) (os : List Object) → Rise low os → ((o : Object) → p o ≡ true → q o ≡ true) → passes p n os ≡ false → passes q n os ≡ true → length (keep p os) < length (keep q os)
fewer_left p q n low os rise to out into =
    let a = own_count p n low os rise in
    let b = own_count q n low os rise in
    let none : one (test p (object_in n os)) ≡ 0 = ap one out in
    let some : one (test q (object_in n os)) ≡ 1 = ap one into in
    let rest = no_fewer (other p n) (other q n) os (λ o is. both o (p o) refl is) in
    omega (arith, a, b, none, some, rest)
  where
    both : (o : Object) (b : Bool) → p o ≡ b → other p n o ≡ true → other q n o ≡ true
    both o true is t = ap (λ s. s && not (nat_eq o.number n)) (to o is) ∙ (sym (ap (λ s. s && not (nat_eq o.number n)) is) ∙ t)
    both o false is t = let never_so : false ≡ true = sym (ap (λ s. s && not (nat_eq o.number n)) is) ∙ t in absurd (cc)

pub some_kept : (q : Object → Bool) (n low : ℕ) (os : List Object) → Rise low os → passes q n os ≡ true → 0 < length (keep q os)
some_kept q n low os rise into =
    let a = own_count q n low os rise in
    let some : one (test q (object_in n os)) ≡ 1 = ap one into in
    omega (arith, a, some)

pub none_passes : (q : Object → Bool) (os : List Object) → Rise 0 os → ((n : ℕ) → passes q n os ≡ true → ⊥) → keep q os ≡ []
none_passes q os rise none = none_kept q os rise (λ k. is_false (test q (object_in k os)) (none k))

-- The first and the last -----------------------------------------------------------------------------------

same_object : (x o : Object) → (let some : Option Object = Some x in some ≡ Some o) → x ≡ o
same_object x o e = cc

first_item : (d o : Object) (n low : ℕ) (os : List Object) → Rise low os → object_in n os ≡ Some o → ((k : ℕ) (z : Object) → object_in k os ≡ Some z → n ≤ k) → pull_item d 0 os ≡ o
unfolding opened_lists
first_item d o n low [] rise there least = let none = in_none n in absurd (cc)
first_item d o n low (x ∷ xs) rise there least = by (nat_lt n x.number) refl
  where
    high : n ≤ x.number
    high = least x.number x (in_here x xs)

    by : (b : Bool) → nat_lt n x.number ≡ b → x ≡ o
    by true is =
        let less : n < x.number = grind (arith, nat_tests, is) in
        let none : object_in n (x ∷ xs) ≡ None = none_below x.number n (x ∷ xs) (omega arith, rise.1) less in
        absurd (cc)
    by false is =
        let most = high in
        let same : n ≡ x.number = grind (arith, nat_tests, is, most) in
        same_object x o (sym (in_here x xs) ∙ (ap (λ k. object_in k (x ∷ xs)) (sym same) ∙ there))

last_item : (d o : Object) (n low m : ℕ) (os : List Object) → m + 1 ≡ length os → Rise low os → object_in n os ≡ Some o → ((k : ℕ) (z : Object) → object_in k os ≡ Some z → k ≤ n) → pull_item d m os ≡ o
unfolding opened_lists
last_item d o n low m [] place rise there greatest = let none = in_none n in absurd (cc)
last_item d o n low (suc m) (x ∷ []) place rise there greatest = absurd (omega (arith, place))
last_item d o n low zero (x ∷ []) place rise there greatest = by (nat_eq x.number n) (sym (in_more n x []) ∙ there)
  where
    by : (b : Bool) → cond b (Some x) (object_in n []) ≡ Some o → x ≡ o
    by true e = same_object x o e
    by false e = let none = in_none n in absurd (cc)
last_item d o n low zero (x ∷ y ∷ ys) place rise there greatest = absurd (omega (arith, place))
last_item d o n low (suc m) (x ∷ y ∷ ys) place rise there greatest =
    last_item d o n (x.number + 1) m (y ∷ ys) (omega (arith, place)) rise.1 (sym (in_there n x (y ∷ ys) apart) ∙ there) (λ k z found. greatest k z (in_there k x (y ∷ ys) (behind k z found) ∙ found))
  where
    high : y.number ≤ n
    high = greatest y.number y (in_there y.number x (y ∷ ys) (λ same. let next = rise.1.0 in omega (arith, same, next)) ∙ in_here y ys)

    apart : x.number ≡ n → ⊥
    apart same = let next = rise.1.0 in let far = high in omega (arith, same, next, far)

    behind : (k : ℕ) (z : Object) → object_in k (y ∷ ys) ≡ Some z → x.number ≡ k → ⊥
    behind k z found same =
        let none : object_in k (y ∷ ys) ≡ None = none_below (x.number + 1) k (y ∷ ys) rise.1 (omega (arith, same)) in
        cc

-- an object that is kept
kept_there : (q : Object → Bool) (n : ℕ) (o : Object) (os : List Object) → Rise 0 os → object_in n os ≡ Some o → q o ≡ true → object_in n (keep q os) ≡ Some o
kept_there q n o os rise there is = in_keep q 0 n os rise ∙ (ap (kept_one q) there ∙ ap (λ b. cond b (Some o) None) is)

was_there : (q : Object → Bool) (n : ℕ) (z : Object) (os : List Object) → Rise 0 os → object_in n (keep q os) ≡ Some z → passes q n os ≡ true
was_there q n z os rise found = by (object_in n os) (sym (in_keep q 0 n os rise) ∙ found)
  where
    at : (o : Object) (b : Bool) → q o ≡ b → cond b (Some o) None ≡ Some z → q o ≡ true
    at o true is e = is
    at o false is e = absurd (cc)

    by : (r : Option Object) → kept_one q r ≡ Some z → test q r ≡ true
    by None e = absurd (cc)
    by (Some o) e = at o (q o) refl e

-- the first of those that pass stands first among them, and the last of them last
pub least_pulled : (q : Object → Bool) (n : ℕ) (os : List Object) → Rise 0 os → IsLeast (λ k. passes q k os ≡ true) (Some n) → (o : Object) × (object_in n os ≡ Some o) × (q o ≡ true) × ((d : Object) → pull_item d 0 (keep q os) ≡ o)
least_pulled q n os rise l =
    let it = passing q n os l.0 in
    (it.0, it.1, it.2, λ d. first_item d it.0 n 0 (keep q os) (rise_keep q 0 os rise) (kept_there q n it.0 os rise it.1 it.2) (λ k z found. l.1 k (was_there q k z os rise found)))

pub greatest_pulled : (q : Object → Bool) (n : ℕ) (os : List Object) → Rise 0 os → IsGreatest (λ k. passes q k os ≡ true) (Some n) → (o : Object) × (object_in n os ≡ Some o) × (q o ≡ true) × ((d : Object) → pull_item d (length (keep q os) - 1) (keep q os) ≡ o)
greatest_pulled q n os rise l =
    let it = passing q n os l.0 in
    (it.0, it.1, it.2, λ d. last_item d it.0 n 0 (length (keep q os) - 1) (keep q os) (let some = some_kept q n 0 os rise l.0 in omega (arith, some)) (rise_keep q 0 os rise) (kept_there q n it.0 os rise it.1 it.2) (λ k z found. l.1 k (was_there q k z os rise found)))
