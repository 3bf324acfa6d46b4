-- Two lists of objects as one: what a number finds in it, and how it changes.
use Rattle.std.proofs.Common.{◌≡◌, ◌≢◌, ◌∙◌, ℕ, ◌+◌, ◌<◌, ◌≤◌, List, [], ◌∷◌, ◌++◌, Option, Some, None, Bool, true, false, cond, refl, sym, ap, arith, subst}
use Rattle.std.specs.Prelude.{nat_eq, nat_lt, not, is_some, IfOk, IfSome, OnErr, OnOk, Result, Ok, Err}
use Rattle.std.specs.Option.{option_map, option_or}
use Rattle.std.specs.List.{AllByRecursion}
use Rattle.std.proofs.lemmas.Bool.Decides.{nat_tests}
use borrow.Author.Tests.{eqb-true, eq-eqb}
use Rattle.ctl_meaning.specs.World.{Origin, Declared, Allocated, Object}
use Rattle.ctl_meaning.specs.Lists.{change_first, keep, opened_lists}
use Rattle.ctl_meaning.specs.Objects.{cells_at, change_in, object_in, opened_objects, with_cells}
use Rattle.ctl_objects.specs.Copies.{copied}
use Rattle.ctl_storage.proofs.InStore.{cells_keep}
use Rattle.ctl_objects.proofs.Origins.{KeepsOrigins, cells_stay, origins_changed, origins_kept, origins_newest}
use Rattle.ctl_objects.specs.Order.{AreApart, AreSplit, IsAllocated, IsDeclared, both, placed}
use Rattle.ctl_storage.specs.Order.{AreBelow, Rise}
use Rattle.ctl_storage.proofs.Rising.{KeepsNumbers, change_lacking, in_change, in_here, in_keep, in_more, in_newest, in_none, in_there, kept_one, none_above, none_below, number_found, rise_change, rise_keep, rise_newest, same_objects}

-- One object among others ----------------------------------------------------------------------------------

placed_more : (o x : Object) (xs : List Object) → placed o (x ∷ xs) ≡ cond (nat_lt o.number x.number) (o ∷ x ∷ xs) (x ∷ placed o xs)
unfolding placed
placed_more o x xs = refl

placed_none : (o : Object) → placed o [] ≡ o ∷ []
unfolding placed
placed_none o = refl

both_more : (x : Object) (xs ys : List Object) → both (x ∷ xs) ys ≡ placed x (both xs ys)
unfolding both
both_more x xs ys = refl

pub both_none : (ys : List Object) → both [] ys ≡ ys
unfolding both
both_none ys = refl

none_behind : (n : ℕ) (x : Object) (xs : List Object) → object_in n (x ∷ xs) ≡ None → (x.number ≢ n) × (object_in n xs ≡ None)
none_behind n x xs none = by (nat_eq x.number n) refl (sym (in_more n x xs) ∙ none)
  where
    by : (b : Bool) → nat_eq x.number n ≡ b → cond b (Some x) (object_in n xs) ≡ None → (x.number ≢ n) × (object_in n xs ≡ None)
    by true is e = absurd (cc)
    by false is e = ((λ same. let no : true ≡ false = sym (eq-eqb x.number n same) ∙ is in cc), e)

rise_placed : (o : Object) (low : ℕ) (xs : List Object) → Rise low xs → low ≤ o.number → object_in o.number xs ≡ None → Rise low (placed o xs)
rise_placed o low [] rise less none = subst (λ l. Rise low l) (sym (placed_none o)) (less, tt)
rise_placed o low (x ∷ xs) rise less none = subst (λ l. Rise low l) (sym (placed_more o x xs)) (by (rise_placed o (x.number + 1) xs rise.1) (nat_lt o.number x.number) refl)
  where
    by : (x.number + 1 ≤ o.number → object_in o.number xs ≡ None → Rise (x.number + 1) (placed o xs)) → (b : Bool) → nat_lt o.number x.number ≡ b → Rise low (cond b (o ∷ x ∷ xs) (x ∷ placed o xs))
    by ih true is = let before : o.number < x.number = grind (arith, nat_tests, is) in (less, (omega (arith, before), rise.1))
    by ih false is =
        let behind : x.number ≤ o.number = grind (arith, nat_tests, is) in
        let rest = none_behind o.number x xs none in
        let apart : x.number ≢ o.number = rest.0 in
        (rise.0, ih (grind arith) rest.1)

in_placed : (n : ℕ) (o : Object) (xs : List Object) → object_in o.number xs ≡ None → object_in n (placed o xs) ≡ cond (nat_eq o.number n) (Some o) (object_in n xs)
in_placed n o [] none = ap (object_in n) (placed_none o) ∙ in_more n o []
in_placed n o (x ∷ xs) none = ap (object_in n) (placed_more o x xs) ∙ by (in_placed n o xs (none_behind o.number x xs none).1) (nat_lt o.number x.number)
  where
    apart : x.number ≢ o.number
    apart = (none_behind o.number x xs none).0

    swap : (a b : Bool) → nat_eq x.number n ≡ a → nat_eq o.number n ≡ b → cond a (Some x) (cond b (Some o) (object_in n xs)) ≡ cond b (Some o) (cond a (Some x) (object_in n xs))
    swap true true e f = absurd (apart (eqb-true x.number n e ∙ sym (eqb-true o.number n f)))
    swap true false e f = refl
    swap false b e f = refl

    by : object_in n (placed o xs) ≡ cond (nat_eq o.number n) (Some o) (object_in n xs) → (b : Bool) → object_in n (cond b (o ∷ x ∷ xs) (x ∷ placed o xs)) ≡ cond (nat_eq o.number n) (Some o) (object_in n (x ∷ xs))
    by ih true = in_more n o (x ∷ xs)
    by ih false =
        in_more n x (placed o xs) ∙ (ap (λ r. cond (nat_eq x.number n) (Some x) r) ih
        ∙ (swap (nat_eq x.number n) (nat_eq o.number n) refl refl ∙ ap (λ r. cond (nat_eq o.number n) (Some o) r) (sym (in_more n x xs))))

-- Both lists -----------------------------------------------------------------------------------------------

apart_rest : (x : Object) (xs ys : List Object) → Rise (x.number + 1) xs → AreApart (x ∷ xs) ys → AreApart xs ys
apart_rest x xs ys rise apart n o there = apart n o (in_there n x xs (λ same. differs same) ∙ there)
  where
    differs : x.number ≡ n → ⊥
    differs same =
        let none : object_in n xs ≡ None = none_below (x.number + 1) n xs rise (omega (arith, same)) in
        cc

pub in_both : (n low : ℕ) (xs ys : List Object) → Rise low xs → AreApart xs ys → object_in n (both xs ys) ≡ option_or (object_in n xs) (object_in n ys)
in_both n low [] ys rise apart = ap (object_in n) (both_none ys) ∙ ap (λ r. option_or r (object_in n ys)) (sym (in_none n))
in_both n low (x ∷ xs) ys rise apart =
    let rest = apart_rest x xs ys rise.1 apart in
    let mine : object_in x.number xs ≡ None = none_below (x.number + 1) x.number xs rise.1 (omega arith) in
    let other : object_in x.number ys ≡ None = apart x.number x (in_here x xs) in
    let none : object_in x.number (both xs ys) ≡ None = in_both x.number (x.number + 1) xs ys rise.1 rest ∙ (ap (λ r. option_or r (object_in x.number ys)) mine ∙ other) in
    ap (object_in n) (both_more x xs ys)
    ∙ (in_placed n x (both xs ys) none
    ∙ (ap (λ r. cond (nat_eq x.number n) (Some x) r) (in_both n (x.number + 1) xs ys rise.1 rest)
    ∙ (by (nat_eq x.number n) ∙ ap (λ r. option_or r (object_in n ys)) (sym (in_more n x xs)))))
  where
    by : (b : Bool) → cond b (Some x) (option_or (object_in n xs) (object_in n ys)) ≡ option_or (cond b (Some x) (object_in n xs)) (object_in n ys)
    by true = refl
    by false = refl

rise_of_both : (low : ℕ) (xs ys : List Object) → Rise low xs → Rise 0 ys → AreApart xs ys → Rise 0 (both xs ys)
rise_of_both low [] ys rise rises apart = subst (λ l. Rise 0 l) (sym (both_none ys)) rises
rise_of_both low (x ∷ xs) ys rise rises apart =
    let rest = apart_rest x xs ys rise.1 apart in
    let mine : object_in x.number xs ≡ None = none_below (x.number + 1) x.number xs rise.1 (omega arith) in
    let other : object_in x.number ys ≡ None = apart x.number x (in_here x xs) in
    let none : object_in x.number (both xs ys) ≡ None = in_both x.number (x.number + 1) xs ys rise.1 rest ∙ (ap (λ r. option_or r (object_in x.number ys)) mine ∙ other) in
    subst (λ l. Rise 0 l) (sym (both_more x xs ys)) (rise_placed x 0 (both xs ys) (rise_of_both (x.number + 1) xs ys rise.1 rises rest) (omega arith) none)

pub rise_both : (xs ys : List Object) → AreSplit xs ys → Rise 0 (both xs ys)
rise_both xs ys s = rise_of_both 0 xs ys s.first s.second s.apart

pub found_both : (n : ℕ) (xs ys : List Object) → AreSplit xs ys → object_in n (both xs ys) ≡ option_or (object_in n xs) (object_in n ys)
found_both n xs ys s = in_both n 0 xs ys s.first s.apart

all_placed : (P : Object → Type 0) (o : Object) (xs : List Object) → AllByRecursion P (placed o xs) → P o × AllByRecursion P xs
all_placed P o [] h = let i = subst (λ l. AllByRecursion P l) (placed_none o) h in (i.0, tt)
all_placed P o (x ∷ xs) h = by (all_placed P o xs) (nat_lt o.number x.number) (subst (λ l. AllByRecursion P l) (placed_more o x xs) h)
  where
    by : (AllByRecursion P (placed o xs) → P o × AllByRecursion P xs) → (b : Bool) → AllByRecursion P (cond b (o ∷ x ∷ xs) (x ∷ placed o xs)) → P o × AllByRecursion P (x ∷ xs)
    by ih true i = (i.0, i.1)
    by ih false i = let r = ih i.1 in (r.0, (i.0, r.1))

pub all_both : (P : Object → Type 0) (xs ys : List Object) → AllByRecursion P (both xs ys) → AllByRecursion P xs × AllByRecursion P ys
all_both P [] ys h = (tt, subst (λ l. AllByRecursion P l) (both_none ys) h)
all_both P (x ∷ xs) ys h =
    let i = all_placed P x (both xs ys) (subst (λ l. AllByRecursion P l) (both_more x xs ys) h) in
    let r = all_both P xs ys i.1 in
    ((i.0, r.0), r.1)

pub no_objects : AreSplit [] []
no_objects = record {
  first = tt;
  second = tt;
  apart = λ n o there. in_none n;
  allocated = λ n. subst (λ o. IfSome o (λ z. IsAllocated z.origin)) (sym (in_none n)) tt;
  declared = λ n. subst (λ o. IfSome o (λ z. IsDeclared z.origin)) (sym (in_none n)) tt;
}

-- Objects that change --------------------------------------------------------------------------------------

lacks_changed : (n k : ℕ) (f : Object → Object) → KeepsNumbers f → (os : List Object) → object_in k os ≡ None → object_in k (change_in n f os) ≡ None
lacks_changed n k f keeps os none = in_change n f keeps k os ∙ (ap (λ o. cond (nat_eq k n) (option_map f o) o) none ∙ by (nat_eq k n))
  where
    nothing : Option Object
    nothing = None

    by : (b : Bool) → cond b (option_map f nothing) nothing ≡ None
    by true = refl
    by false = refl

had_changed : (n k : ℕ) (f : Object → Object) → KeepsNumbers f → (os : List Object) (o : Object) → object_in k (change_in n f os) ≡ Some o → (x : Object) × (object_in k os ≡ Some x)
had_changed n k f keeps os o there = by (object_in k os) refl
  where
    by : (r : Option Object) → object_in k os ≡ r → (x : Object) × (object_in k os ≡ Some x)
    by None none = let no = lacks_changed n k f keeps os none in absurd (cc)
    by (Some x) e = (x, e)

pub split_changed : (n : ℕ) (f : Object → Object) → KeepsNumbers f → KeepsOrigins f → (xs ys : List Object) → AreSplit xs ys → AreSplit (change_in n f xs) (change_in n f ys)
split_changed n f keeps stays xs ys s = record {
  first = rise_change n f keeps 0 xs s.first;
  second = rise_change n f keeps 0 ys s.second;
  apart = λ k o there. let h = had_changed n k f keeps xs o there in lacks_changed n k f keeps ys (s.apart k h.0 h.1);
  allocated = origins_changed IsAllocated n f keeps stays xs s.allocated;
  declared = origins_changed IsDeclared n f keeps stays ys s.declared;
}

pub changed_both : (n : ℕ) (f : Object → Object) → KeepsNumbers f → KeepsOrigins f → (xs ys : List Object) → AreSplit xs ys → both (change_in n f xs) (change_in n f ys) ≡ change_in n f (both xs ys)
changed_both n f keeps stays xs ys s =
    let t = split_changed n f keeps stays xs ys s in
    same_objects 0 (both (change_in n f xs) (change_in n f ys)) (change_in n f (both xs ys)) (rise_both (change_in n f xs) (change_in n f ys) t) (rise_change n f keeps 0 (both xs ys) (rise_both xs ys s)) (λ k.
    found_both k (change_in n f xs) (change_in n f ys) t
    ∙ (ap (λ o. option_or o (object_in k (change_in n f ys))) (in_change n f keeps k xs)
    ∙ (ap (λ o. option_or (cond (nat_eq k n) (option_map f (object_in k xs)) (object_in k xs)) o) (in_change n f keeps k ys)
    ∙ (by k (nat_eq k n) (object_in k xs)
    ∙ sym (in_change n f keeps k (both xs ys) ∙ ap (λ o. cond (nat_eq k n) (option_map f o) o) (found_both k xs ys s))))))
  where
    by : (k : ℕ) (b : Bool) (o : Option Object) → option_or (cond b (option_map f o) o) (cond b (option_map f (object_in k ys)) (object_in k ys)) ≡ cond b (option_map f (option_or o (object_in k ys))) (option_or o (object_in k ys))
    by k true None = refl
    by k true (Some x) = refl
    by k false o = refl

pub some_is : (o : Option Object) → true ≡ is_some o → (x : Object) × (o ≡ Some x)
some_is None e = absurd (cc)
some_is (Some x) e = (x, refl)

pub none_is : (o : Option Object) → false ≡ is_some o → o ≡ None
none_is None e = refl
none_is (Some x) e = absurd (cc)

-- a declared object was changed
pub first_stays : (n : ℕ) (f : Object → Object) (xs ys : List Object) → AreSplit xs ys → true ≡ is_some (object_in n ys) → change_in n f xs ≡ xs
first_stays n f xs ys s there = change_lacking n f xs (by (object_in n xs) refl)
  where
    by : (o : Option Object) → object_in n xs ≡ o → o ≡ None
    by None e = refl
    by (Some x) e = let y = some_is (object_in n ys) there in let no = s.apart n x e in let yes = y.1 in absurd (cc)

-- the first object of a number is the only one
pub first_is_each : (n : ℕ) (f : Object → Object) (low : ℕ) (os : List Object) → Rise low os → change_in n f os ≡ change_first (λ o. nat_eq o.number n) f os
unfolding opened_lists opened_objects
first_is_each n f low [] rise = refl
first_is_each n f low (o ∷ os) rise = by (first_is_each n f (o.number + 1) os rise.1) (nat_eq o.number n) refl
  where
    more : (b : Bool) → nat_eq o.number n ≡ b → change_in n f (o ∷ os) ≡ cond b (f o) o ∷ change_in n f os
    more b is = ap (λ c. cond c (f o) o ∷ change_in n f os) is

    first : (b : Bool) → nat_eq o.number n ≡ b → change_first (λ x. nat_eq x.number n) f (o ∷ os) ≡ cond b (f o ∷ os) (o ∷ change_first (λ x. nat_eq x.number n) f os)
    first b is = ap (λ c. cond c (f o ∷ os) (o ∷ change_first (λ x. nat_eq x.number n) f os)) is

    by : change_in n f os ≡ change_first (λ x. nat_eq x.number n) f os → (b : Bool) → nat_eq o.number n ≡ b → change_in n f (o ∷ os) ≡ change_first (λ x. nat_eq x.number n) f (o ∷ os)
    by ih true is =
        more true is ∙ (ap (λ (l : List Object). f o ∷ l) (change_lacking n f os (none_below (o.number + 1) n os rise.1 (let e = eqb-true o.number n is in omega (arith, e)))) ∙ sym (first true is))
    by ih false is = more false is ∙ (ap (λ (l : List Object). o ∷ l) ih ∙ sym (first false is))

-- Objects that go ------------------------------------------------------------------------------------------

pub lacks_kept : (p : Object → Bool) (k : ℕ) (os : List Object) → Rise 0 os → object_in k os ≡ None → object_in k (keep p os) ≡ None
lacks_kept p k os rise none = in_keep p 0 k os rise ∙ ap (kept_one p) none

pub split_kept : (p : Object → Bool) (xs ys : List Object) → AreSplit xs ys → AreSplit (keep p xs) (keep p ys)
split_kept p xs ys s = record {
  first = rise_keep p 0 xs s.first;
  second = rise_keep p 0 ys s.second;
  apart = λ k o there. by k (object_in k xs) refl o there;
  allocated = origins_kept IsAllocated p xs s.first s.allocated;
  declared = origins_kept IsDeclared p ys s.second s.declared;
}
  where
    by : (k : ℕ) (r : Option Object) → object_in k xs ≡ r → (o : Object) → object_in k (keep p xs) ≡ Some o → object_in k (keep p ys) ≡ None
    by k None e o there = let no = lacks_kept p k xs s.first e in absurd (cc)
    by k (Some x) e o there = lacks_kept p k ys s.second (s.apart k x e)

pub kept_both : (p : Object → Bool) (xs ys : List Object) → AreSplit xs ys → both (keep p xs) (keep p ys) ≡ keep p (both xs ys)
kept_both p xs ys s =
    let t = split_kept p xs ys s in
    same_objects 0 (both (keep p xs) (keep p ys)) (keep p (both xs ys)) (rise_both (keep p xs) (keep p ys) t) (rise_keep p 0 (both xs ys) (rise_both xs ys s)) (λ k.
    found_both k (keep p xs) (keep p ys) t
    ∙ (ap (λ o. option_or o (object_in k (keep p ys))) (in_keep p 0 k xs s.first)
    ∙ (ap (λ o. option_or (kept_one p (object_in k xs)) o) (in_keep p 0 k ys s.second)
    ∙ (by k (object_in k xs) refl
    ∙ sym (in_keep p 0 k (both xs ys) (rise_both xs ys s) ∙ ap (kept_one p) (found_both k xs ys s))))))
  where
    or_none : (o : Option Object) → option_or o None ≡ o
    or_none None = refl
    or_none (Some x) = refl

    by : (k : ℕ) (o : Option Object) → object_in k xs ≡ o → option_or (kept_one p o) (kept_one p (object_in k ys)) ≡ kept_one p (option_or o (object_in k ys))
    by k None e = refl
    by k (Some x) e = ap (λ r. option_or (kept_one p (Some x)) (kept_one p r)) (s.apart k x e) ∙ or_none (kept_one p (Some x))

-- none goes where none has the number
pub keep_lacking : (n : ℕ) (os : List Object) → Rise 0 os → object_in n os ≡ None → keep (λ o. not (nat_eq o.number n)) os ≡ os
keep_lacking n os rise none =
    let other = λ (o : Object). not (nat_eq o.number n) in
    same_objects 0 (keep other os) os (rise_keep other 0 os rise) rise (λ k. in_keep other 0 k os rise ∙ by k (object_in k os) refl)
  where
    at : (k : ℕ) (z : Object) → object_in k os ≡ Some z → (b : Bool) → nat_eq z.number n ≡ b → cond (not b) (Some z) None ≡ Some z
    at k z there false is = refl
    at k z there true is =
        let same : k ≡ n = sym (number_found k os z there) ∙ eqb-true z.number n is in
        let no : object_in k os ≡ None = ap (λ m. object_in m os) same ∙ none in
        absurd (cc)

    by : (k : ℕ) (o : Option Object) → object_in k os ≡ o → kept_one (λ (x : Object). not (nat_eq x.number n)) o ≡ o
    by k None e = refl
    by k (Some z) e = at k z e (nat_eq z.number n) refl

-- an allocated object is none of the declared ones
pub not_declared : (n : ℕ) (xs ys : List Object) → AreSplit xs ys → IfSome (object_in n (both xs ys)) (λ o. IsAllocated o.origin) → IfSome (object_in n ys) (λ o. IsDeclared o.origin) → object_in n ys ≡ None
not_declared n xs ys s allocated declared = by (object_in n ys) refl (object_in n xs) refl (subst (λ o. IfSome o (λ x. IsAllocated x.origin)) (found_both n xs ys s) allocated) declared
  where
    never : (x : Origin) → IsAllocated x → IsDeclared x → ⊥
    never (Declared m) a d = a
    never (Allocated c p) a d = d

    by : (o : Option Object) → object_in n ys ≡ o → (r : Option Object) → object_in n xs ≡ r → IfSome (option_or (object_in n xs) (object_in n ys)) (λ x. IsAllocated x.origin) → IfSome (object_in n ys) (λ x. IsDeclared x.origin) → o ≡ None
    by None e r f a d = refl
    by (Some y) e None f a d = absurd (never y.origin
        (subst (λ o. IfSome (option_or o (Some y)) (λ x. IsAllocated x.origin)) f (subst (λ o. IfSome (option_or (object_in n xs) o) (λ x. IsAllocated x.origin)) e a))
        (subst (λ o. IfSome o (λ x. IsDeclared x.origin)) e d))
    by (Some y) e (Some x) f a d = let no = s.apart n x f in absurd (cc)

-- A new object ---------------------------------------------------------------------------------------------

abbrev new_at : ℕ → Object → Option Object
new_at k x = cond (nat_eq x.number k) (Some x) None

lacks_both : (n : ℕ) (xs ys : List Object) → AreBelow n (both xs ys) → (object_in n xs ≡ None) × (object_in n ys ≡ None)
lacks_both n xs ys below = let all = all_both (λ o. o.number < n) xs ys below in (none_above n xs all.0, none_above n ys all.1)

pub split_declared : (x : Object) (xs ys : List Object) → IsDeclared x.origin → AreBelow x.number (both xs ys) → AreSplit xs ys → AreSplit xs (ys ++ x ∷ [])
split_declared x xs ys is below s =
    let all = all_both (λ o. o.number < x.number) xs ys below in
    let lacks = lacks_both x.number xs ys below in
    record {
      first = s.first;
      second = rise_newest 0 ys x s.second all.1 (omega arith);
      apart = λ k o there. in_newest k ys x ∙ (ap (λ r. option_or r (new_at k x)) (s.apart k o there) ∙ by k o there (nat_eq x.number k) refl (lacks.0));
      allocated = s.allocated;
      declared = origins_newest IsDeclared ys x is s.declared;
    }
  where
    by : (k : ℕ) (o : Object) → object_in k xs ≡ Some o → (b : Bool) → nat_eq x.number k ≡ b → object_in x.number xs ≡ None → cond b (Some x) None ≡ None
    by k o there true is none = let no : object_in k xs ≡ None = ap (λ m. object_in m xs) (sym (eqb-true x.number k is)) ∙ none in absurd (cc)
    by k o there false is none = refl

pub split_allocated : (x : Object) (xs ys : List Object) → IsAllocated x.origin → AreBelow x.number (both xs ys) → AreSplit xs ys → AreSplit (xs ++ x ∷ []) ys
split_allocated x xs ys is below s =
    let all = all_both (λ o. o.number < x.number) xs ys below in
    let lacks = lacks_both x.number xs ys below in
    record {
      first = rise_newest 0 xs x s.first all.0 (omega arith);
      second = s.second;
      apart = λ k o there. by k o (object_in k xs) refl (nat_eq x.number k) refl lacks.1 (sym (in_newest k xs x) ∙ there);
      allocated = origins_newest IsAllocated xs x is s.allocated;
      declared = s.declared;
    }
  where
    by : (k : ℕ) (o : Object) (r : Option Object) → object_in k xs ≡ r → (b : Bool) → nat_eq x.number k ≡ b → object_in x.number ys ≡ None → option_or (object_in k xs) (cond (nat_eq x.number k) (Some x) None) ≡ Some o → object_in k ys ≡ None
    by k o (Some z) e b is none there = s.apart k z e
    by k o None e true is none there = ap (λ m. object_in m ys) (sym (eqb-true x.number k is)) ∙ none
    by k o None e false is none there =
        let no : option_or (object_in k xs) (cond (nat_eq x.number k) (Some x) None) ≡ None = ap (λ r. option_or r (cond (nat_eq x.number k) (Some x) None)) e ∙ ap (λ b. cond b (Some x) None) is in
        absurd (cc)

or_or : (a b c : Option Object) → option_or a (option_or b c) ≡ option_or (option_or a b) c
or_or None b c = refl
or_or (Some x) b c = refl

pub declared_both : (x : Object) (xs ys : List Object) → IsDeclared x.origin → AreBelow x.number (both xs ys) → AreSplit xs ys → both xs (ys ++ x ∷ []) ≡ both xs ys ++ x ∷ []
declared_both x xs ys is below s =
    let t = split_declared x xs ys is below s in
    same_objects 0 (both xs (ys ++ x ∷ [])) (both xs ys ++ x ∷ []) (rise_both xs (ys ++ x ∷ []) t) (rise_newest 0 (both xs ys) x (rise_both xs ys s) below (omega arith)) (λ k.
    found_both k xs (ys ++ x ∷ []) t
    ∙ (ap (λ r. option_or (object_in k xs) r) (in_newest k ys x)
    ∙ (or_or (object_in k xs) (object_in k ys) (new_at k x)
    ∙ sym (in_newest k (both xs ys) x ∙ ap (λ r. option_or r (new_at k x)) (found_both k xs ys s)))))

pub allocated_both : (x : Object) (xs ys : List Object) → IsAllocated x.origin → AreBelow x.number (both xs ys) → AreSplit xs ys → both (xs ++ x ∷ []) ys ≡ both xs ys ++ x ∷ []
allocated_both x xs ys is below s =
    let t = split_allocated x xs ys is below s in
    same_objects 0 (both (xs ++ x ∷ []) ys) (both xs ys ++ x ∷ []) (rise_both (xs ++ x ∷ []) ys t) (rise_newest 0 (both xs ys) x (rise_both xs ys s) below (omega arith)) (λ k.
    found_both k (xs ++ x ∷ []) ys t
    ∙ (ap (λ r. option_or r (object_in k ys)) (in_newest k xs x)
    ∙ (by k (object_in k xs) (nat_eq x.number k) refl (lacks_both x.number xs ys below).1
    ∙ sym (in_newest k (both xs ys) x ∙ ap (λ r. option_or r (new_at k x)) (found_both k xs ys s)))))
  where
    or_none : (o : Option Object) → o ≡ option_or o None
    or_none None = refl
    or_none (Some z) = refl

    by : (k : ℕ) (o : Option Object) (b : Bool) → nat_eq x.number k ≡ b → object_in x.number ys ≡ None → option_or (option_or o (cond (nat_eq x.number k) (Some x) None)) (object_in k ys) ≡ option_or (option_or o (object_in k ys)) (cond (nat_eq x.number k) (Some x) None)
    by k (Some z) b is none = refl
    by k None true is none =
        let gone : object_in k ys ≡ None = ap (λ m. object_in m ys) (sym (eqb-true x.number k is)) ∙ none in
        ap (λ c. option_or (cond c (Some x) None) (object_in k ys)) is
        ∙ sym (ap (λ r. option_or r (cond (nat_eq x.number k) (Some x) None)) gone ∙ ap (λ c. cond c (Some x) None) is)
    by k None false is none =
        ap (λ c. option_or (cond c (Some x) None) (object_in k ys)) is
        ∙ (or_none (object_in k ys) ∙ ap (λ c. option_or (object_in k ys) (cond c (Some x) None)) (sym is))

-- What is read, and what changes ---------------------------------------------------------------------------

pub read_second : {X : Type 0} (g : Object → X) (n : ℕ) (xs ys : List Object) (v : X) → AreSplit xs ys → (let read : Option X = Some v in read ≡ option_map g (object_in n ys)) → let read : Option X = Some v in read ≡ option_map g (object_in n (both xs ys))
read_second {X} g n xs ys v s is = by (object_in n xs) refl ∙ ap (option_map g) (sym (found_both n xs ys s))
  where
    some : (o : Option Object) → (let read : Option X = Some v in read ≡ option_map g o) → (x : Object) × (o ≡ Some x)
    some None e = absurd (cc)
    some (Some x) e = (x, refl)

    by : (o : Option Object) → object_in n xs ≡ o → (let read : Option X = Some v in read ≡ option_map g (option_or (object_in n xs) (object_in n ys)))
    by None e = is ∙ ap (λ o. option_map g (option_or o (object_in n ys))) (sym e)
    by (Some x) e = let y = some (object_in n ys) is in let there = y.1 in let no = s.apart n x e in absurd (cc)

pub read_first : {X : Type 0} (g : Object → X) (n : ℕ) (xs ys : List Object) (r : Option X) → AreSplit xs ys → (let none : Option X = None in none ≡ option_map g (object_in n ys)) → r ≡ option_map g (object_in n xs) → r ≡ option_map g (object_in n (both xs ys))
read_first {X} g n xs ys r s none is = is ∙ (by (object_in n xs) (object_in n ys) none ∙ ap (option_map g) (sym (found_both n xs ys s)))
  where
    by : (o p : Option Object) → (let none : Option X = None in none ≡ option_map g p) → option_map g o ≡ option_map g (option_or o p)
    by (Some x) p e = refl
    by None None e = refl
    by None (Some y) e = absurd (cc)

pub changed_second : (n : ℕ) (f : Object → Object) (xs ys zs : List Object) → KeepsNumbers f → KeepsOrigins f → AreSplit xs ys → zs ≡ change_in n f ys → true ≡ is_some (object_in n ys) → AreSplit xs zs × (both xs zs ≡ change_in n f (both xs ys))
changed_second n f xs ys zs keeps origins s changed there =
    let stays = first_stays n f xs ys s there in (
      subst (λ l. AreSplit xs l) (sym changed) (subst (λ l. AreSplit l (change_in n f ys)) stays (split_changed n f keeps origins xs ys s)),
      ap (both xs) changed ∙ (ap (λ l. both l (change_in n f ys)) (sym stays) ∙ changed_both n f keeps origins xs ys s),
    )

pub changed_first : (n : ℕ) (f : Object → Object) (xs ys ws zs : List Object) → KeepsNumbers f → KeepsOrigins f → AreSplit xs ys → ws ≡ change_in n f xs → zs ≡ change_in n f ys → AreSplit ws zs × (both ws zs ≡ change_in n f (both xs ys))
changed_first n f xs ys ws zs keeps origins s first second = (
  subst (λ l. AreSplit l zs) (sym first) (subst (λ l. AreSplit (change_in n f xs) l) (sym second) (split_changed n f keeps origins xs ys s)),
  ap (λ l. both l zs) first ∙ (ap (both (change_in n f xs)) second ∙ changed_both n f keeps origins xs ys s),
)

-- what a call says where it succeeds and where it is refused
pub on_either : {T E : Type 0} (r : Result T E) (P Q G : Type 0) → OnOk r P → OnErr r Q → (P → G) → (Q → G) → G
on_either (Ok x) P Q G p q f g = f p
on_either (Err e) P Q G p q f g = g q

pub on_ok : {T E : Type 0} (r : Result T E) (P Q : Type 0) → OnOk r P → (P → Q) → OnOk r Q
on_ok (Ok x) P Q p f = f p
on_ok (Err e) P Q p f = p

pub on_err : {T E : Type 0} (r : Result T E) (P Q : Type 0) → OnErr r P → (P → Q) → OnErr r Q
on_err (Ok x) P Q p f = p
on_err (Err e) P Q p f = f p

pub if_ok : {T E : Type 0} (r : Result T E) (P Q : T → Type 0) → IfOk r P → ((x : T) → P x → Q x) → IfOk r Q
if_ok (Ok x) P Q p f = f x p
if_ok (Err e) P Q p f = p

pub ok_both : {T E : Type 0} (r : Result T E) (P Q : Type 0) → OnOk r P → OnOk r Q → OnOk r (P × Q)
ok_both (Ok x) P Q p q = (p, q)
ok_both (Err e) P Q p q = tt

-- what a number finds where it is that of an object of the second list, and where it is not
pub found_second : (n : ℕ) (xs ys : List Object) → AreSplit xs ys → true ≡ is_some (object_in n ys) → object_in n (both xs ys) ≡ object_in n ys
found_second n xs ys s there = found_both n xs ys s ∙ by (object_in n xs) refl
  where
    by : (o : Option Object) → object_in n xs ≡ o → option_or o (object_in n ys) ≡ object_in n ys
    by None e = refl
    by (Some x) e = let y = some_is (object_in n ys) there in let yes = y.1 in let no = s.apart n x e in absurd (cc)

pub found_first : (n : ℕ) (xs ys : List Object) → AreSplit xs ys → false ≡ is_some (object_in n ys) → object_in n (both xs ys) ≡ object_in n xs
found_first n xs ys s gone = found_both n xs ys s ∙ (ap (option_or (object_in n xs)) (none_is (object_in n ys) gone) ∙ by (object_in n xs))
  where
    by : (o : Option Object) → option_or o None ≡ o
    by None = refl
    by (Some x) = refl

-- cells of one object of the second list are copied into another one of it
pub copied_second : (start target count from to : ℕ) (xs ys zs : List Object) → AreSplit xs ys → true ≡ is_some (object_in from ys) → true ≡ is_some (object_in to ys) → zs ≡ copied start to target count (object_in from ys) ys
    → AreSplit xs zs × (both xs zs ≡ copied start to target count (object_in from (both xs ys)) (both xs ys))
copied_second start target count from to xs ys zs s there other is =
    let o = some_is (object_in from ys) there in
    let v = cells_at start count o.0 in
    let changed = is ∙ ap (λ r. copied start to target count r ys) o.1 in
    let c = changed_second to (with_cells target v) xs ys zs (cells_keep target v) (cells_stay target v) s changed other in
    (c.0, c.1 ∙ ap (λ r. copied start to target count r (both xs ys)) (sym (found_second from xs ys s there ∙ o.1)))
