-- Objects whose numbers rise: what a number finds among them, and that this alone makes two such lists the same.
use Rattle.std.proofs.Common.{◌≡◌, ◌≢◌, ℕ, ◌+◌, ◌<◌, ◌≤◌, List, [], ◌∷◌, ◌++◌, Option, Some, None, Bool, true, false, cond, refl, sym, ap, ◌∙◌, subst, arith}
use Rattle.std.specs.Prelude.{nat_eq, nat_lt}
use Rattle.std.specs.Option.{option_map, option_or}
use Rattle.std.proofs.lemmas.Bool.Decides.{nat_tests}
use borrow.Author.Tests.{eqb-true, eq-eqb, ne_eqb}
use Rattle.ctl_meaning.specs.World.{Object}
use Rattle.ctl_meaning.specs.Lists.{keep, opened_lists}
use Rattle.ctl_meaning.specs.Objects.{object_in, change_in, opened_objects}
use Rattle.ctl_storage.specs.Order.{Rise, AreBelow}

-- What a number finds ------------------------------------------------------------------------------------

pub in_none : (k : ℕ) → object_in k [] ≡ None
unfolding opened_lists opened_objects
in_none k = refl

pub in_more : (k : ℕ) (o : Object) (os : List Object) → object_in k (o ∷ os) ≡ cond (nat_eq o.number k) (Some o) (object_in k os)
unfolding opened_lists opened_objects
in_more k o os = refl

pub in_here : (o : Object) (os : List Object) → object_in o.number (o ∷ os) ≡ Some o
in_here o os = in_more o.number o os ∙ ap (λ b. cond b (Some o) (object_in o.number os)) (eq-eqb o.number o.number refl)

pub in_there : (k : ℕ) (o : Object) (os : List Object) → o.number ≢ k → object_in k (o ∷ os) ≡ object_in k os
in_there k o os differs = in_more k o os ∙ ap (λ b. cond b (Some o) (object_in k os)) (ne_eqb o.number k differs)

-- what is found has the number
pub number_found : (k : ℕ) (os : List Object) (o : Object) → object_in k os ≡ Some o → o.number ≡ k
number_found k [] o e = let none = in_none k in absurd (cc)
number_found k (x ∷ xs) o e = by (number_found k xs o) (nat_eq x.number k) refl (sym (in_more k x xs) ∙ e)
  where
    same : (a b : Object) → Some a ≡ Some b → a ≡ b
    same a b h = cc

    by : (object_in k xs ≡ Some o → o.number ≡ k) → (b : Bool) → nat_eq x.number k ≡ b → cond b (Some x) (object_in k xs) ≡ Some o → o.number ≡ k
    by further true is h = ap (λ (z : Object). z.number) (sym (same x o h)) ∙ eqb-true x.number k is
    by further false is h = further h

pub none_below : (low k : ℕ) (os : List Object) → Rise low os → k < low → object_in k os ≡ None
none_below low k [] rise less = in_none k
none_below low k (o ∷ os) rise less =
    let first = rise.0 in
    in_there k o os (λ is. omega (arith, first, less, is)) ∙ none_below (o.number + 1) k os rise.1 (omega (arith, first, less))

-- Two lists that answer alike ------------------------------------------------------------------------------

same_rest : (x : Object) (xs ys : List Object) → Rise (x.number + 1) xs → Rise (x.number + 1) ys → ((k : ℕ) → object_in k (x ∷ xs) ≡ object_in k (x ∷ ys)) → (k : ℕ) → object_in k xs ≡ object_in k ys
same_rest x xs ys rise rises same k = by (nat_eq x.number k) refl
  where
    by : (b : Bool) → nat_eq x.number k ≡ b → object_in k xs ≡ object_in k ys
    by true is =
        let less : k < x.number + 1 = let e = eqb-true x.number k is in omega (arith, e) in
        none_below (x.number + 1) k xs rise less ∙ sym (none_below (x.number + 1) k ys rises less)
    by false is =
        sym (in_more k x xs ∙ ap (λ b. cond b (Some x) (object_in k xs)) is) ∙ (same k ∙ (in_more k x ys ∙ ap (λ b. cond b (Some x) (object_in k ys)) is))

-- the first of two lists has no greater number
not_behind : (x y : Object) (xs ys : List Object) (low : ℕ) → Rise low (x ∷ xs) → Rise low (y ∷ ys) → object_in x.number (x ∷ xs) ≡ object_in x.number (y ∷ ys) → y.number ≤ x.number
not_behind x y xs ys low rise rises same = by (nat_lt x.number y.number) refl
  where
    by : (b : Bool) → nat_lt x.number y.number ≡ b → y.number ≤ x.number
    by true is =
        let less : x.number < y.number = grind (arith, nat_tests, is) in
        let none : object_in x.number (y ∷ ys) ≡ None = none_below y.number x.number (y ∷ ys) (omega arith, rises.1) less in
        let some = in_here x xs in
        absurd (cc)
    by false is = grind (arith, nat_tests, is)

pub same_objects : (low : ℕ) (xs ys : List Object) → Rise low xs → Rise low ys → ((k : ℕ) → object_in k xs ≡ object_in k ys) → xs ≡ ys
same_objects low [] [] rise rises same = refl
same_objects low [] (y ∷ ys) rise rises same =
    let some = in_here y ys in
    let none = in_none y.number in
    let is = same y.number in
    absurd (cc)
same_objects low (x ∷ xs) [] rise rises same =
    let some = in_here x xs in
    let none = in_none x.number in
    let is = same x.number in
    absurd (cc)
same_objects low (x ∷ xs) (y ∷ ys) rise rises same =
    let one = not_behind x y xs ys low rise rises (same x.number) in
    let other = not_behind y x ys xs low rises rise (sym (same y.number)) in
    let number : y.number ≡ x.number = omega (arith, one, other) in
    let found : Some x ≡ Some y = sym (in_here x xs) ∙ (same x.number ∙ (ap (λ k. object_in k (y ∷ ys)) (sym number) ∙ in_here y ys)) in
    let is : y ≡ x = cc in
    let further : Rise (x.number + 1) ys = subst (λ k. Rise (k + 1) ys) number rises.1 in
    let alike : (k : ℕ) → object_in k (x ∷ xs) ≡ object_in k (x ∷ ys) = λ k. same k ∙ ap (λ (z : Object). object_in k (z ∷ ys)) is in
    ap (λ (l : List Object). x ∷ l) (same_objects (x.number + 1) xs ys rise.1 further (same_rest x xs ys rise.1 further alike))
    ∙ ap (λ (z : Object). z ∷ ys) (sym is)

-- Objects that change --------------------------------------------------------------------------------------

abbrev pub KeepsNumbers : (Object → Object) → Type 0
KeepsNumbers f = (o : Object) → (f o).number ≡ o.number

pub change_more : (n : ℕ) (f : Object → Object) (o : Object) (os : List Object) → change_in n f (o ∷ os) ≡ cond (nat_eq o.number n) (f o) o ∷ change_in n f os
unfolding opened_lists opened_objects
change_more n f o os = refl

pub change_none : (n : ℕ) (f : Object → Object) → change_in n f [] ≡ []
unfolding opened_lists opened_objects
change_none n f = refl

changed_number : (n : ℕ) (f : Object → Object) → KeepsNumbers f → (o : Object) → (cond (nat_eq o.number n) (f o) o).number ≡ o.number
changed_number n f keeps o = by (nat_eq o.number n)
  where
    by : (b : Bool) → (cond b (f o) o).number ≡ o.number
    by true = keeps o
    by false = refl

pub rise_change : (n : ℕ) (f : Object → Object) → KeepsNumbers f → (low : ℕ) (os : List Object) → Rise low os → Rise low (change_in n f os)
rise_change n f keeps low [] rise = subst (λ l. Rise low l) (sym (change_none n f)) tt
rise_change n f keeps low (o ∷ os) rise =
    let number = changed_number n f keeps o in
    let first = rise.0 in
    subst (λ l. Rise low l) (sym (change_more n f o os))
    (omega (arith, number, first), subst (λ k. Rise (k + 1) (change_in n f os)) (sym number) (rise_change n f keeps (o.number + 1) os rise.1))

pub in_change : (n : ℕ) (f : Object → Object) → KeepsNumbers f → (k : ℕ) (os : List Object) → object_in k (change_in n f os) ≡ cond (nat_eq k n) (option_map f (object_in k os)) (object_in k os)
in_change n f keeps k [] = ap (object_in k) (change_none n f) ∙ by (nat_eq k n)
  where
    by : (b : Bool) → object_in k [] ≡ cond b (option_map f (object_in k [])) (object_in k [])
    by true = in_none k ∙ sym (ap (option_map f) (in_none k))
    by false = refl
in_change n f keeps k (o ∷ os) =
    ap (object_in k) (change_more n f o os) ∙ (in_more k (cond (nat_eq o.number n) (f o) o) (change_in n f os)
    ∙ (ap (λ j. cond (nat_eq j k) (Some (cond (nat_eq o.number n) (f o) o)) (object_in k (change_in n f os))) (changed_number n f keeps o)
    ∙ by (in_change n f keeps k os) (nat_eq o.number k) refl))
  where
    to : (b : Bool) → nat_eq o.number k ≡ b → object_in k (o ∷ os) ≡ cond b (Some o) (object_in k os)
    to b is = in_more k o os ∙ ap (λ b. cond b (Some o) (object_in k os)) is

    some : (b : Bool) → Some (cond b (f o) o) ≡ cond b (option_map f (Some o)) (Some o)
    some true = refl
    some false = refl

    by : object_in k (change_in n f os) ≡ cond (nat_eq k n) (option_map f (object_in k os)) (object_in k os)
        → (b : Bool) → nat_eq o.number k ≡ b → cond b (Some (cond (nat_eq o.number n) (f o) o)) (object_in k (change_in n f os)) ≡ cond (nat_eq k n) (option_map f (object_in k (o ∷ os))) (object_in k (o ∷ os))
    by ih true is =
        ap (λ j. Some (cond (nat_eq j n) (f o) o)) (eqb-true o.number k is) ∙ (some (nat_eq k n)
        ∙ ap (λ x. cond (nat_eq k n) (option_map f x) x) (sym (to true is)))
    by ih false is = ih ∙ ap (λ x. cond (nat_eq k n) (option_map f x) x) (sym (to false is))

-- where no object has the number, none is changed
pub change_lacking : (n : ℕ) (f : Object → Object) (os : List Object) → object_in n os ≡ None → change_in n f os ≡ os
change_lacking n f [] none = change_none n f
change_lacking n f (o ∷ os) none = by (change_lacking n f os) (nat_eq o.number n) refl (sym (in_more n o os) ∙ none)
  where
    by : (object_in n os ≡ None → change_in n f os ≡ os) → (b : Bool) → nat_eq o.number n ≡ b → cond b (Some o) (object_in n os) ≡ None → change_in n f (o ∷ os) ≡ o ∷ os
    by rest true is e = absurd (cc)
    by rest false is e = change_more n f o os ∙ (ap (λ b. cond b (f o) o ∷ change_in n f os) is ∙ ap (λ (l : List Object). o ∷ l) (rest e))

-- Objects that stay ----------------------------------------------------------------------------------------

abbrev pub kept_one : (Object → Bool) → Option Object → Option Object
kept_one p None = None
kept_one p (Some o) = cond (p o) (Some o) None

pub keep_more : (p : Object → Bool) (o : Object) (os : List Object) → keep p (o ∷ os) ≡ cond (p o) (o ∷ keep p os) (keep p os)
unfolding opened_lists
keep_more p o os = refl

pub keep_none : (p : Object → Bool) → keep p [] ≡ []
unfolding opened_lists
keep_none p = refl

pub rise_lower : (low high : ℕ) (os : List Object) → low ≤ high → Rise high os → Rise low os
rise_lower low high [] less rise = tt
rise_lower low high (o ∷ os) less rise = let first = rise.0 in (omega (arith, less, first), rise.1)

pub rise_keep : (p : Object → Bool) (low : ℕ) (os : List Object) → Rise low os → Rise low (keep p os)
rise_keep p low [] rise = subst (λ l. Rise low l) (sym (keep_none p)) tt
rise_keep p low (o ∷ os) rise = subst (λ l. Rise low l) (sym (keep_more p o os)) (by (rise_keep p (o.number + 1) os rise.1) (p o))
  where
    by : Rise (o.number + 1) (keep p os) → (b : Bool) → Rise low (cond b (o ∷ keep p os) (keep p os))
    by rest true = (rise.0, rest)
    by rest false = rise_lower low (o.number + 1) (keep p os) (let first = rise.0 in omega (arith, first)) rest

pub in_keep : (p : Object → Bool) (low k : ℕ) (os : List Object) → Rise low os → object_in k (keep p os) ≡ kept_one p (object_in k os)
in_keep p low k [] rise = ap (object_in k) (keep_none p) ∙ (in_none k ∙ sym (ap (kept_one p) (in_none k)))
in_keep p low k (o ∷ os) rise = ap (object_in k) (keep_more p o os) ∙ (by (in_keep p (o.number + 1) k os rise.1) (nat_eq o.number k) refl ∙ sym (ap (kept_one p) (in_more k o os)))
  where
    gone : nat_eq o.number k ≡ true → object_in k (keep p os) ≡ None
    gone is = none_below (o.number + 1) k (keep p os) (rise_keep p (o.number + 1) os rise.1) (let e = eqb-true o.number k is in omega (arith, e))

    here : (b : Bool) → nat_eq o.number k ≡ true → object_in k (cond b (o ∷ keep p os) (keep p os)) ≡ cond b (Some o) None
    here true is = in_more k o (keep p os) ∙ ap (λ b. cond b (Some o) (object_in k (keep p os))) is
    here false is = gone is

    there : (b : Bool) → nat_eq o.number k ≡ false → object_in k (cond b (o ∷ keep p os) (keep p os)) ≡ object_in k (keep p os)
    there true is = in_more k o (keep p os) ∙ ap (λ b. cond b (Some o) (object_in k (keep p os))) is
    there false is = refl

    by : object_in k (keep p os) ≡ kept_one p (object_in k os)
        → (b : Bool) → nat_eq o.number k ≡ b → object_in k (cond (p o) (o ∷ keep p os) (keep p os)) ≡ kept_one p (cond (nat_eq o.number k) (Some o) (object_in k os))
    by ih true is = here (p o) is ∙ ap (λ b. kept_one p (cond b (Some o) (object_in k os))) (sym is)
    by ih false is = there (p o) is ∙ (ih ∙ ap (λ b. kept_one p (cond b (Some o) (object_in k os))) (sym is))

-- A newest object ------------------------------------------------------------------------------------------

pub rise_newest : (low : ℕ) (os : List Object) (x : Object) → Rise low os → AreBelow x.number os → low ≤ x.number → Rise low (os ++ x ∷ [])
rise_newest low [] x rise below less = (less, tt)
rise_newest low (o ∷ os) x rise below less = (rise.0, rise_newest (o.number + 1) os x rise.1 below.1 (let first = below.0 in omega (arith, first)))

pub in_newest : (k : ℕ) (os : List Object) (x : Object) → object_in k (os ++ x ∷ []) ≡ option_or (object_in k os) (cond (nat_eq x.number k) (Some x) None)
in_newest k [] x = in_more k x [] ∙ (ap (λ l. cond (nat_eq x.number k) (Some x) l) (in_none k) ∙ sym (ap (λ l. option_or l (cond (nat_eq x.number k) (Some x) None)) (in_none k)))
in_newest k (o ∷ os) x = in_more k o (os ++ x ∷ []) ∙ (by (in_newest k os x) (nat_eq o.number k) ∙ sym (ap (λ l. option_or l (cond (nat_eq x.number k) (Some x) None)) (in_more k o os)))
  where
    by : object_in k (os ++ x ∷ []) ≡ option_or (object_in k os) (cond (nat_eq x.number k) (Some x) None)
        → (b : Bool) → cond b (Some o) (object_in k (os ++ x ∷ [])) ≡ option_or (cond b (Some o) (object_in k os)) (cond (nat_eq x.number k) (Some x) None)
    by ih true = refl
    by ih false = ih

pub none_above : (n : ℕ) (os : List Object) → AreBelow n os → object_in n os ≡ None
none_above n [] below = in_none n
none_above n (o ∷ os) below = let first = below.0 in in_there n o os (λ is. omega (arith, first, is)) ∙ none_above n os below.1
