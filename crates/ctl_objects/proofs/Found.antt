-- Declared objects are found by their numbers, which rise, and changed one at a time.
use Rattle.std.proofs.Common.{◌≡◌, ◌≢◌, ◌∙◌, ℕ, zero, suc, ◌+◌, ◌-◌, ◌<◌, ◌≤◌, List, [], ◌∷◌, Option, Some, None, refl, sym, map, ap, arith, subst, length, drop, take}
use Rattle.std.specs.Prelude.{slice_get, slice_index_or, slice_set}
use Rattle.ctl_meaning.specs.World.{Object}
use Rattle.ctl_meaning.specs.Lists.{opened_lists}
use Rattle.ctl_meaning.specs.Objects.{object_in, change_in, opened_objects}
use Rattle.ctl_objects.specs.declared.declarations.Declaration.{Declaration}
use Rattle.ctl_storage.specs.Stages.{start}
use Rattle.ctl_storage.proofs.Cells.{eq_differs, eq_same}
use Rattle.ctl_objects.specs.Declarations.{Lacks, NumbersRise, object_of}

-- what is read where no object is
abbrev pub any_declaration : Declaration
any_declaration = record { number = 0; «record» = 0; master = 0; first = 0; cells = 0; stage = start }

pub get_index : {X : Type 0} (xs : List X) (i : ℕ) (d : X) → i < length xs → slice_get xs i ≡ Some (slice_index_or xs i d)
get_index [] i d h = absurd (omega (arith, h))
get_index (x ∷ xs) zero d h = refl
get_index (x ∷ xs) (suc i) d h = get_index xs i d (omega (arith, h))

-- what stands at a place is one thing
pub same_at : {X : Type 0} (a b : X) (o : Option X) → o ≡ Some a → o ≡ Some b → a ≡ b
same_at {X} a b o p q = ap (λ (x : Option X). item_of x) (sym p ∙ q)
  where
    item_of : Option X → X
    item_of None = a
    item_of (Some c) = c

pub same_item : (a b : Declaration) → Some a ≡ Some b → a ≡ b
same_item a b e = ap (λ (o : Option Declaration). item_of o) e
  where
    item_of : Option Declaration → Declaration
    item_of None = a
    item_of (Some c) = c

pub number_above : (os : List Declaration) (at low : ℕ) (o : Declaration) → NumbersRise low os → slice_get os at ≡ Some o → low ≤ o.number
number_above [] at low o h e = absurd (cc)
number_above (x ∷ os) zero low o h e = let same : x.number ≡ o.number = ap (λ (z : Declaration). z.number) (same_item x o e) in omega (arith, h.0, same)
number_above (x ∷ os) (suc at) low o h e = let ih = number_above os at (x.number + 1) o h.1 e in omega (arith, h.0, ih)

pub rise_set : (os : List Declaration) (at low : ℕ) (o o' : Declaration) → NumbersRise low os → slice_get os at ≡ Some o → o'.number ≡ o.number → NumbersRise low (slice_set os at o')
rise_set [] at low o o' h e same = absurd (cc)
rise_set (x ∷ os) zero low o o' h e same =
    let is : o'.number ≡ x.number = same ∙ ap (λ (z : Declaration). z.number) (sym (same_item x o e)) in
    (omega (arith, h.0, is), subst (λ n. NumbersRise (n + 1) os) (sym is) h.1)
rise_set (x ∷ os) (suc at) low o o' h e same = (h.0, rise_set os at (x.number + 1) o o' h.1 e same)

pub unchanged_above : (parts : List ℕ) (f : Object → Object) (os : List Declaration) (n low : ℕ) → NumbersRise low os → n < low → change_in n f (map (object_of parts) os) ≡ map (object_of parts) os
unfolding opened_lists opened_objects
unchanged_above parts f [] n low h less = refl
unchanged_above parts f (x ∷ os) n low h less =
    rw (eq_differs x.number n (λ same. omega (arith, same, less, h.0)), unchanged_above parts f os n (x.number + 1) h.1 (omega (arith, less, h.0))) refl

pub change_first_object : (parts : List ℕ) (f : Object → Object) (x : Declaration) (n : ℕ) (os : List Object) → x.number ≡ n → change_in n f (object_of parts x ∷ os) ≡ f (object_of parts x) ∷ change_in n f os
unfolding opened_lists opened_objects
change_first_object parts f x n os e = rw (eq_same x.number n e) refl

pub change_other_object : (parts : List ℕ) (f : Object → Object) (x : Declaration) (n : ℕ) (os : List Object) → x.number ≢ n → change_in n f (object_of parts x ∷ os) ≡ object_of parts x ∷ change_in n f os
unfolding opened_lists opened_objects
change_other_object parts f x n os e = rw (eq_differs x.number n e) refl

-- one object is changed
pub changed_object : (parts : List ℕ) (f : Object → Object) (os : List Declaration) (at low : ℕ) (o o' : Declaration) → NumbersRise low os → slice_get os at ≡ Some o → f (object_of parts o) ≡ object_of parts o'
    → change_in o.number f (map (object_of parts) os) ≡ map (object_of parts) (slice_set os at o')
changed_object parts f [] at low o o' h e is = absurd (cc)
changed_object parts f (x ∷ os) zero low o o' h e is =
    let same : x ≡ o = same_item x o e in
    let number : x.number ≡ o.number = ap (λ (z : Declaration). z.number) same in
    change_first_object parts f x o.number (map (object_of parts) os) number
    ∙ (ap (λ (z : Object). z ∷ change_in o.number f (map (object_of parts) os)) (ap (λ (z : Declaration). f (object_of parts z)) same ∙ is)
    ∙ ap (λ (l : List Object). object_of parts o' ∷ l) (unchanged_above parts f os o.number (x.number + 1) h.1 (omega (arith, number))))
changed_object parts f (x ∷ os) (suc at) low o o' h e is =
    let above = number_above os at (x.number + 1) o h.1 e in
    change_other_object parts f x o.number (map (object_of parts) os) (λ same. omega (arith, above, same))
    ∙ ap (λ (l : List Object). object_of parts x ∷ l) (changed_object parts f os at (x.number + 1) o o' h.1 e is)

-- an object is found by its number
pub found_object : (parts : List ℕ) (os : List Declaration) (at low : ℕ) (o : Declaration) → NumbersRise low os → slice_get os at ≡ Some o → object_in o.number (map (object_of parts) os) ≡ Some (object_of parts o)
unfolding opened_lists opened_objects
found_object parts [] at low o h e = absurd (cc)
found_object parts (x ∷ os) zero low o h e =
    let same : x ≡ o = same_item x o e in
    rw (eq_same x.number o.number (ap (λ (z : Declaration). z.number) same)) (ap (λ (z : Declaration). Some (object_of parts z)) same)
found_object parts (x ∷ os) (suc at) low o h e =
    let above = number_above os at (x.number + 1) o h.1 e in
    rw (eq_differs x.number o.number (λ same. omega (arith, above, same))) (found_object parts os at (x.number + 1) o h.1 e)

pub set_same : (os : List Declaration) (at : ℕ) (o : Declaration) → slice_get os at ≡ Some o → slice_set os at o ≡ os
set_same [] at o e = absurd (cc)
set_same (x ∷ os) zero o e = ap (λ (z : Declaration). z ∷ os) (sym (same_item x o e))
set_same (x ∷ os) (suc at) o e = ap (λ (l : List Declaration). x ∷ l) (set_same os at o e)

-- Searching ------------------------------------------------------------------------------------------------

-- the numbers of these objects are below this one, or above it
abbrev pub AreUnder : ℕ → List Declaration → Type 0
AreUnder n [] = Unit {0}
AreUnder n (o ∷ os) = (o.number < n) × AreUnder n os

abbrev pub AreOver : ℕ → List Declaration → Type 0
AreOver n [] = Unit {0}
AreOver n (o ∷ os) = (n < o.number) × AreOver n os

pub none_over : (n : ℕ) (os : List Declaration) → AreOver n (drop (length os) os)
none_over n [] = tt
none_over n (o ∷ os) = none_over n os

pub over_all : (os : List Declaration) (low n : ℕ) → NumbersRise low os → n < low → AreOver n os
over_all [] low n h less = tt
over_all (o ∷ os) low n h less = let f = h.0 in (omega (arith, f, less), over_all os (o.number + 1) n h.1 (omega (arith, f, less)))

-- where an object has a lower number, each one before it has, and where it has aer one, each one behind it
under_front : (os : List Declaration) (at low n : ℕ) (o : Declaration) → NumbersRise low os → slice_get os at ≡ Some o → o.number < n → AreUnder n (take (suc at) os)
under_front [] at low n o h e less = absurd (cc)
under_front (x ∷ os) zero low n o h e less = (let same : x.number ≡ o.number = ap (λ (z : Declaration). z.number) (same_item x o e) in omega (arith, same, less), tt)
under_front (x ∷ os) (suc at) low n o h e less = (let above = number_above os at (x.number + 1) o h.1 e in omega (arith, above, less), under_front os at (x.number + 1) n o h.1 e less)

over_back : (os : List Declaration) (at low n : ℕ) (o : Declaration) → NumbersRise low os → slice_get os at ≡ Some o → n < o.number → AreOver n (drop at os)
over_back [] at low n o h e less = absurd (cc)
over_back (x ∷ os) zero low n o h e less =
    let same : x.number ≡ o.number = ap (λ (z : Declaration). z.number) (same_item x o e) in
    (omega (arith, same, less), over_all os (x.number + 1) n h.1 (omega (arith, same, less)))
over_back (x ∷ os) (suc at) low n o h e less = over_back os at (x.number + 1) n o h.1 e less

pub over_lacks : (n : ℕ) (os : List Declaration) → AreOver n os → Lacks n os
over_lacks n [] h = tt
over_lacks n (o ∷ os) h = ((λ same. let f = h.0 in omega (arith, f, same)), over_lacks n os h.1)

-- no object is left between them
pub none_between : (n : ℕ) (os : List Declaration) (low high : ℕ) → high ≤ low → AreUnder n (take low os) → AreOver n (drop high os) → Lacks n os
none_between n [] low high less under over = tt
none_between n (o ∷ os) low zero less under over = over_lacks n (o ∷ os) over
none_between n (o ∷ os) zero (suc high) less under over = absurd (omega (arith, less))
none_between n (o ∷ os) (suc low) (suc high) less under over = ((λ same. let f = under.0 in omega (arith, f, same)), none_between n os low high (omega (arith, less)) under.1 over)

-- no object is there where the last one has a lower number
pub none_behind : (os : List Declaration) (n : ℕ) (d : Declaration) → NumbersRise 0 os → 1 ≤ length os → (slice_index_or os (length os - 1) d).number < n → Lacks n os
none_behind os n d rise some less =
    let last : suc (length os - 1) ≡ length os = omega (arith, some) in
    let under = under_front os (length os - 1) 0 n (slice_index_or os (length os - 1) d) rise (get_index os (length os - 1) d (omega (arith, some))) less in
    none_between n os (length os) (length os) (omega arith) (subst (λ i. AreUnder n (take i os)) last under) (none_over n os)

-- the search goes on behind a place, or before it
pub goes_behind : (os : List Declaration) (at n : ℕ) (d : Declaration) → NumbersRise 0 os → at < length os → (slice_index_or os at d).number < n → AreUnder n (take (at + 1) os)
goes_behind os at n d rise within less =
    let e : suc at ≡ at + 1 = omega arith in
    subst (λ i. AreUnder n (take i os)) e (under_front os at 0 n (slice_index_or os at d) rise (get_index os at d within) less)

pub goes_before : (os : List Declaration) (at n : ℕ) (d : Declaration) → NumbersRise 0 os → at < length os → n < (slice_index_or os at d).number → AreOver n (drop at os)
goes_before os at n d rise within less = over_back os at 0 n (slice_index_or os at d) rise (get_index os at d within) less

-- what the table finds where no object has a number
pub lacking : (parts : List ℕ) (os : List Declaration) (n : ℕ) → Lacks n os → object_in n (map (object_of parts) os) ≡ None
unfolding opened_lists opened_objects
lacking parts [] n h = refl
lacking parts (o ∷ os) n h = rw (eq_differs o.number n h.0) (lacking parts os n h.1)
