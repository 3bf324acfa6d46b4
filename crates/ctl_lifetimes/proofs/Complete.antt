-- The components with a controlled part that are complete where some that stand side by side are not.
use Rattle.std.proofs.Common.{◌≡◌, ℕ, zero, suc, ◌+◌, ◌-◌, ◌≤◌, List, [], ◌∷◌, ◌++◌, Bool, true, false, Option, Some, None, length, refl, sym, ap, ◌∙◌, subst, arith, drop, take}
use Rattle.std.specs.Prelude.{◌||◌, slice_get, nat_eq, not, if◌then◌else◌}
use Rattle.std.proofs.Math.Seq.{drop-append_seam, take-append_seam}
use Rattle.std.proofs.lemmas.List.{append-nil, length-append, take-append-drop, take_all}
use Rattle.ctl_meaning.specs.Lists.{keep, opened_lists}
use Rattle.ctl_code.specs.declared.code.Begun.{Begun}
use Rattle.ctl_code.specs.declared.code.Code.{Code}
use Rattle.ctl_code.specs.declared.code.Layout.{Layout}
use Rattle.ctl_code.specs.Table.{begun_in, begun_of, complete_of, controlled_in, controlled_of, is_one_of}
use Rattle.ctl_code.specs.Valid.{IsValid, PositionsRise, is_finalized}
use Rattle.ctl_frames.specs.declared.frame.Apart.{Apart}
use Rattle.ctl_frames.specs.declared.frame.Left.{Left}
use Rattle.ctl_frames.specs.Filling.{AreApart, AreLeft}
use Rattle.ctl_frames.proofs.Lists.{eq_same, eq_differs}

-- Lists ------------------------------------------------------------------------------------------------

drop_twice : {X : Type 0} (xs : List X) (n m k : ℕ) → k ≡ n + m → drop m (drop n xs) ≡ drop k xs
drop_twice {X} xs zero m k e = let same : m ≡ k = omega (arith, e) in ap (λ j. drop j xs) same
drop_twice [] (suc n) zero zero e = refl
drop_twice [] (suc n) (suc m) zero e = refl
drop_twice [] (suc n) zero (suc k) e = refl
drop_twice [] (suc n) (suc m) (suc k) e = refl
drop_twice (x ∷ xs) (suc n) m zero e = absurd (omega (arith, e))
drop_twice (x ∷ xs) (suc n) m (suc k) e = drop_twice xs n m k (omega (arith, e))

keep_joined : {X : Type 0} (p : X → Bool) (xs ys : List X) → keep p (xs ++ ys) ≡ keep p xs ++ keep p ys
unfolding opened_lists
keep_joined p [] ys = refl
keep_joined {X} p (x ∷ xs) ys = by (p x) (keep_joined p xs ys)
  where
    by : (b : Bool) → keep p (xs ++ ys) ≡ keep p xs ++ keep p ys → (if b then x ∷ keep p (xs ++ ys) else keep p (xs ++ ys)) ≡ (if b then x ∷ keep p xs else keep p xs) ++ keep p ys
    by true ih = ap (λ (l : List X). x ∷ l) ih
    by false ih = ih

taken_more : {X : Type 0} (xs : List X) (at : ℕ) (x : X) → slice_get xs at ≡ Some x → take (suc at) xs ≡ take at xs ++ x ∷ []
taken_more [] at x e = absurd (cc)
taken_more {X} (y ∷ ys) zero x e = ap (λ (o : Option X). first_of o) e
  where
    first_of : Option X → List X
    first_of None = y ∷ []
    first_of (Some z) = z ∷ []
taken_more {X} (y ∷ ys) (suc at) x e = ap (λ (l : List X). y ∷ l) (taken_more ys at x e)

pub counted_none : {X : Type 0} (p : X → Bool) (xs : List X) → 0 ≡ length (keep p (take 0 xs))
unfolding opened_lists
counted_none p xs = refl

pub counted : {X : Type 0} (p : X → Bool) (xs : List X) (at : ℕ) (x : X) → slice_get xs at ≡ Some x → keep p (take (at + 1) xs) ≡ keep p (take at xs) ++ (if p x then x ∷ [] else [])
unfolding opened_lists
counted {X} p xs at x e =
    let next : at + 1 ≡ suc at = omega arith in
    ap (λ n. keep p (take n xs)) next ∙ (ap (λ (l : List X). keep p l) (taken_more xs at x e) ∙ keep_joined p (take at xs) (x ∷ []))

-- one more item is counted, or not
pub counted_more : {X : Type 0} (p : X → Bool) (xs : List X) (at : ℕ) (x : X) → slice_get xs at ≡ Some x → p x ≡ true → length (keep p (take (at + 1) xs)) ≡ length (keep p (take at xs)) + 1
counted_more {X} p xs at x e it = ap (λ (l : List X). length l) (counted p xs at x e ∙ ap (λ (b : Bool). keep p (take at xs) ++ (if b then x ∷ [] else [])) it) ∙ length-append (keep p (take at xs)) (x ∷ [])

pub counted_same : {X : Type 0} (p : X → Bool) (xs : List X) (at : ℕ) (x : X) → slice_get xs at ≡ Some x → p x ≡ false → length (keep p (take (at + 1) xs)) ≡ length (keep p (take at xs))
counted_same {X} p xs at x e none = ap (λ (l : List X). length l) (counted p xs at x e ∙ (ap (λ (b : Bool). keep p (take at xs) ++ (if b then x ∷ [] else [])) none ∙ append-nil (keep p (take at xs))))

-- Positions --------------------------------------------------------------------------------------------

rise_from : (low lower : ℕ) (xs : List Begun) → lower ≤ low → PositionsRise low xs → PositionsRise lower xs
rise_from low lower [] less h = tt
rise_from low lower (x ∷ xs) less h = (let f = h.0 in omega (arith, less, f), h.1)

rise_front : (n low : ℕ) (xs : List Begun) → PositionsRise low xs → PositionsRise low (take n xs)
rise_front zero low xs h = tt
rise_front (suc n) low [] h = tt
rise_front (suc n) low (x ∷ xs) h = (h.0, rise_front n x.position xs h.1)

rise_behind : (n low : ℕ) (xs : List Begun) → PositionsRise low xs → PositionsRise low (drop n xs)
rise_behind zero low xs h = h
rise_behind (suc n) low [] h = tt
rise_behind (suc n) low (x ∷ xs) h = rise_behind n low xs (rise_from x.position low xs (let f = h.0 in omega (arith, f)) h.1)

-- none of these components is one of those, or each is
abbrev AreApartFrom : List Begun → List Begun → Type 0
AreApartFrom those [] = Unit {0}
AreApartFrom those (x ∷ xs) = (is_one_of x.position those ≡ false) × AreApartFrom those xs

abbrev AreAmong : List Begun → List Begun → Type 0
AreAmong those [] = Unit {0}
AreAmong those (x ∷ xs) = (is_one_of x.position those ≡ true) × AreAmong those xs

none_above : (n low : ℕ) (xs : List Begun) → n ≤ low → PositionsRise low xs → is_one_of n xs ≡ false
unfolding opened_lists
none_above n low [] less h = refl
none_above n low (x ∷ xs) less h =
    let f = h.0 in
    rw (eq_differs x.position n (λ same. omega (arith, f, less, same))) (none_above n x.position xs (omega (arith, f, less)) h.1)

low_apart : (xs : List Begun) (first count low : ℕ) → PositionsRise low xs → AreApartFrom (take count (drop first xs)) (take first xs)
low_apart xs zero count low h = tt
low_apart [] (suc first) count low h = tt
low_apart (x ∷ xs) (suc first) count low h =
    (none_above x.position x.position (take count (drop first xs)) (omega arith) (rise_front count x.position (drop first xs) (rise_behind first x.position xs h.1)), low_apart xs first count x.position h.1)

apart_from_more : (y : Begun) (those xs : List Begun) → PositionsRise y.position xs → AreApartFrom those xs → AreApartFrom (y ∷ those) xs
unfolding opened_lists
apart_from_more y those [] rise h = tt
apart_from_more y those (x ∷ xs) rise h =
    let f = rise.0 in
    (rw (eq_differs y.position x.position (λ same. omega (arith, f, same))) h.0, apart_from_more y those xs (rise_from x.position y.position xs (omega (arith, f)) rise.1) h.1)

apart_from_none : (xs : List Begun) → AreApartFrom [] xs
unfolding opened_lists
apart_from_none [] = tt
apart_from_none (x ∷ xs) = (refl, apart_from_none xs)

high_apart : (xs : List Begun) (n low : ℕ) → PositionsRise low xs → AreApartFrom (take n xs) (drop n xs)
high_apart xs zero low h = apart_from_none xs
high_apart [] (suc n) low h = tt
high_apart (x ∷ xs) (suc n) low h = apart_from_more x (take n xs) (drop n xs) (rise_behind n x.position xs h.1) (high_apart xs n x.position h.1)

among_more : (y : Begun) (those xs : List Begun) → AreAmong those xs → AreAmong (y ∷ those) xs
unfolding opened_lists
among_more y those [] h = tt
among_more y those (x ∷ xs) h = (by (nat_eq y.position x.position), among_more y those xs h.1)
  where
    by : (b : Bool) → (b || is_one_of x.position those) ≡ true
    by true = refl
    by false = h.0

all_among : (xs : List Begun) → AreAmong xs xs
unfolding opened_lists
all_among [] = tt
all_among (x ∷ xs) = (rw (eq_same x.position x.position refl) refl, among_more x xs xs (all_among xs))

-- What is complete -------------------------------------------------------------------------------------

-- not one of those
abbrev apart_from : List Begun → Begun → Bool
apart_from those x = not (is_one_of x.position those)

all_kept : (f : Begun → Bool) (those xs : List Begun) → AreApartFrom those xs → keep (apart_from those) (keep f xs) ≡ keep f xs
unfolding opened_lists
all_kept f those [] h = refl
all_kept f those (x ∷ xs) h = by (f x) (all_kept f those xs h.1)
  where
    by : (b : Bool) → keep (apart_from those) (keep f xs) ≡ keep f xs → keep (apart_from those) (if b then x ∷ keep f xs else keep f xs) ≡ (if b then x ∷ keep f xs else keep f xs)
    by true ih = ap (λ (b : Bool). if not b then x ∷ keep (apart_from those) (keep f xs) else keep (apart_from those) (keep f xs)) h.0 ∙ ap (λ (l : List Begun). x ∷ l) ih
    by false ih = ih

none_kept : (f : Begun → Bool) (those xs : List Begun) → AreAmong those xs → keep (apart_from those) (keep f xs) ≡ []
unfolding opened_lists
none_kept f those [] h = refl
none_kept f those (x ∷ xs) h = by (f x) (none_kept f those xs h.1)
  where
    by : (b : Bool) → keep (apart_from those) (keep f xs) ≡ [] → keep (apart_from those) (if b then x ∷ keep f xs else keep f xs) ≡ []
    by true ih = ap (λ (b : Bool). if not b then x ∷ keep (apart_from those) (keep f xs) else keep (apart_from those) (keep f xs)) h.0 ∙ ih
    by false ih = ih

-- before and behind those that stand side by side
complete_are : (f : Begun → Bool) (xs those : List Begun) (first last : ℕ) → PositionsRise 0 xs → first ≤ last → those ≡ take (last - first) (drop first xs) → keep (apart_from those) (keep f xs) ≡ keep f (take first xs) ++ keep f (drop last xs)
complete_are f xs those first last rise less are =
    let count = last - first in
    let own = take count (drop first xs) in
    let p = apart_from own in
    let low = take first xs in
    let high = drop last xs in
    let behind : drop count (drop first xs) ≡ high = drop_twice xs first count last (omega (arith, less)) in
    let parts : xs ≡ low ++ (own ++ high) = sym (take-append-drop first xs) ∙ ap (λ (l : List Begun). low ++ l) (sym (take-append-drop count (drop first xs)) ∙ ap (λ (l : List Begun). own ++ l) behind) in
    let apart : AreApartFrom own high = subst (λ (l : List Begun). AreApartFrom own l) behind (high_apart (drop first xs) count 0 (rise_behind first 0 xs rise)) in
    ap (λ (l : List Begun). keep (apart_from l) (keep f xs)) are
    ∙ (ap (λ (l : List Begun). keep p (keep f l)) parts
    ∙ (ap (λ (l : List Begun). keep p l) (keep_joined f low (own ++ high) ∙ ap (λ (l : List Begun). keep f low ++ l) (keep_joined f own high))
    ∙ (keep_joined p (keep f low) (keep f own ++ keep f high)
    ∙ (ap (λ (l : List Begun). l ++ keep p (keep f own ++ keep f high)) (all_kept f own low (low_apart xs first count 0 rise))
    ∙ ap (λ (l : List Begun). keep f low ++ l) (keep_joined p (keep f own) (keep f high) ∙ (ap (λ (l : List Begun). l ++ keep p (keep f high)) (none_kept f own own (all_among own)) ∙ all_kept f own high apart))))))

-- by the numbers of those before and behind
are_apart : (f : Begun → Bool) (xs those : List Begun) (incomplete : Left) (result : Apart) → PositionsRise 0 xs → AreLeft xs incomplete those
    → result.low.first ≡ 0 → result.low.last ≡ length (keep f (take incomplete.first xs)) → result.high.first ≡ length (keep f (take incomplete.last xs)) → result.high.last ≡ length (keep f xs)
    → AreApart (keep f xs) result (keep (apart_from those) (keep f xs))
are_apart f xs those incomplete result rise left low_first low_last high_first high_last =
    let first = incomplete.first in
    let last = incomplete.last in
    let all = keep f xs in
    let a = keep f (take first xs) in
    let a' = keep f (drop first xs) in
    let b = keep f (take last xs) in
    let b' = keep f (drop last xs) in
    let low_parts : all ≡ a ++ a' = ap (λ (l : List Begun). keep f l) (sym (take-append-drop first xs)) ∙ keep_joined f (take first xs) (drop first xs) in
    let high_parts : all ≡ b ++ b' = ap (λ (l : List Begun). keep f l) (sym (take-append-drop last xs)) ∙ keep_joined f (take last xs) (drop last xs) in
    let low_long : length all ≡ length a + length a' = ap (λ (l : List Begun). length l) low_parts ∙ length-append a a' in
    let high_long : length all ≡ length b + length b' = ap (λ (l : List Begun). length l) high_parts ∙ length-append b b' in
    let low_count : result.low.last - result.low.first ≡ length a = omega (arith, low_first, low_last) in
    let high_count : length b' ≤ result.high.last - result.high.first = omega (arith, high_first, high_last, high_long) in
    record {
      low = a;
      high = b';
      below = record {
        rising = omega (arith, low_first);
        within = omega (arith, low_last, low_long);
        are = sym (ap (λ n. take n (drop result.low.first all)) low_count ∙ (ap (λ n. take (length a) (drop n all)) low_first ∙ (ap (λ (l : List Begun). take (length a) l) low_parts ∙ take-append_seam a a')));
      };
      above = record {
        rising = omega (arith, high_first, high_last, high_long);
        within = omega (arith, high_last);
        are = sym (ap (λ n. take (result.high.last - result.high.first) (drop n all)) high_first ∙ (ap (λ (l : List Begun). take (result.high.last - result.high.first) (drop (length b) l)) high_parts ∙ (ap (λ (l : List Begun). take (result.high.last - result.high.first) l) (drop-append_seam b b') ∙ take_all (result.high.last - result.high.first) b' high_count)));
      };
      are = complete_are f xs those first last rise left.rising left.are;
    }

-- Record types -----------------------------------------------------------------------------------------

-- those with a controlled part are those that the code tells apart, and positions rise
pub controlled_are : (code : Code) (t : ℕ) → IsValid code → (controlled_of code t ≡ keep (λ x. is_finalized code x.initial) (begun_of code t)) × PositionsRise 0 (begun_of code t)
unfolding opened_lists
controlled_are code t valid = by (slice_get code.layouts.items t) refl
  where
    by : (o : Option Layout) → slice_get code.layouts.items t ≡ o → (controlled_in o ≡ keep (λ x. is_finalized code x.initial) (begun_in o)) × PositionsRise 0 (begun_in o)
    by None e = (refl, tt)
    by (Some x) e = let laid = valid.layouts t x e in (laid.controlled, laid.rise)

pub complete_apart : (code : Code) (t : ℕ) (those : List Begun) (incomplete : Left) (result : Apart) → IsValid code → AreLeft (begun_of code t) incomplete those
    → result.low.first ≡ 0 → result.low.last ≡ length (keep (λ x. is_finalized code x.initial) (take incomplete.first (begun_of code t)))
    → result.high.first ≡ length (keep (λ x. is_finalized code x.initial) (take incomplete.last (begun_of code t))) → result.high.last ≡ length (controlled_of code t)
    → AreApart (controlled_of code t) result (complete_of code t those)
complete_apart code t those incomplete result valid left low_first low_last high_first high_last =
    let f : Begun → Bool = λ x. is_finalized code x.initial in
    let c = controlled_are code t valid in
    subst (λ (l : List Begun). AreApart l result (keep (apart_from those) l)) (sym c.0)
    (are_apart f (begun_of code t) those incomplete result c.1 left low_first low_last high_first (high_last ∙ ap (λ (l : List Begun). length l) c.0))
