-- Of components that stand side by side, those that pass a test: how many, the first and the last of them.
use Rattle.std.proofs.Common.{◌≡◌, ℕ, zero, suc, ◌+◌, ◌-◌, ◌<◌, ◌≤◌, List, [], ◌∷◌, ◌++◌, Bool, true, false, Some, length, refl, sym, ap, ◌∙◌, arith, drop, take}
use Rattle.std.specs.Prelude.{slice_get, if◌then◌else◌}
use Rattle.std.proofs.lemmas.List.{append-nil, length-append, take_all}
use Rattle.ctl_tree.specs.declared.request.Order.{Order}
use Rattle.ctl_tree.specs.declared.request.Order.TheVariants as OrderOf
use Rattle.ctl_meaning.specs.Lists.{keep, pull_item, pull_rest, opened_lists}
use Rattle.ctl_code.specs.declared.code.Begun.{Begun}
use Rattle.ctl_frames.specs.Filling.{pick_among}
use Rattle.ctl_lifetimes.specs.Undoing.{IsChosenAmong, among}
use Rattle.ctl_lifetimes.proofs.Complete.{counted}
use Rattle.ctl_frames.proofs.Intervals.{get_behind}
use Rattle.ctl_frames.proofs.Lists.{same_at}

-- Stretches --------------------------------------------------------------------------------------------

-- where the stretch ends before it begins
pub among_none : (all : List Begun) (a b : ℕ) (p : Begun → Bool) → b ≤ a → among all a b p ≡ []
unfolding opened_lists
among_none all a b p less = let same : b - a ≡ 0 = omega (arith, less) in ap (λ n. keep p (take n (drop a all))) same

-- of all
pub among_all : (all : List Begun) (n : ℕ) (p : Begun → Bool) → n ≡ length all → among all 0 n p ≡ keep p all
among_all all n p is = let same : n - 0 ≡ length all = omega (arith, is) in ap (λ m. keep p (take m all)) same ∙ ap (λ (l : List Begun). keep p l) (take_all (length all) all (omega arith))

first_is : (p : Begun → Bool) (xs : List Begun) (a n : ℕ) (x : Begun) → slice_get xs a ≡ Some x → keep p (take (suc n) (drop a xs)) ≡ (if p x then x ∷ keep p (take n (drop (suc a) xs)) else keep p (take n (drop (suc a) xs)))
unfolding opened_lists
first_is p [] a n x e = absurd (cc)
first_is p (y ∷ ys) zero n x e = ap (λ (z : Begun). if p z then z ∷ keep p (take n ys) else keep p (take n ys)) (same_at y x (Some y) refl e)
first_is p (y ∷ ys) (suc a) n x e = first_is p ys a n x e

first_so : (all : List Begun) (a b next : ℕ) (p : Begun → Bool) (x : Begun) → a < b → next ≡ a + 1 → slice_get all a ≡ Some x → among all a b p ≡ (if p x then x ∷ among all next b p else among all next b p)
first_so all a b next p x less is e =
    let more : b - a ≡ suc (b - next) = omega (arith, less, is) in
    let same : suc a ≡ next = omega (arith, is) in
    ap (λ n. keep p (take n (drop a all))) more
    ∙ (first_is p all a (b - next) x e
    ∙ ap (λ n. if p x then x ∷ keep p (take (b - next) (drop n all)) else keep p (take (b - next) (drop n all))) same)

-- the first of them passes, or does not
pub first_passes : (all : List Begun) (a b next : ℕ) (p : Begun → Bool) (x : Begun) → a < b → next ≡ a + 1 → slice_get all a ≡ Some x → p x ≡ true → among all a b p ≡ x ∷ among all next b p
first_passes all a b next p x less is e it = first_so all a b next p x less is e ∙ ap (λ (c : Bool). if c then x ∷ among all next b p else among all next b p) it

pub first_fails : (all : List Begun) (a b next : ℕ) (p : Begun → Bool) (x : Begun) → a < b → next ≡ a + 1 → slice_get all a ≡ Some x → p x ≡ false → among all next b p ≡ among all a b p
first_fails all a b next p x less is e it = sym (first_so all a b next p x less is e ∙ ap (λ (c : Bool). if c then x ∷ among all next b p else among all next b p) it)

last_so : (all : List Begun) (a b end : ℕ) (p : Begun → Bool) (x : Begun) → a ≤ b → end ≡ b + 1 → slice_get all b ≡ Some x → among all a end p ≡ among all a b p ++ (if p x then x ∷ [] else [])
last_so all a b end p x less is e =
    let more : end - a ≡ (b - a) + 1 = omega (arith, less, is) in
    ap (λ n. keep p (take n (drop a all))) more ∙ counted p (drop a all) (b - a) x (get_behind all a (b - a) b (omega (arith, less)) ∙ e)

-- and so the last
pub last_passes : (all : List Begun) (a b end : ℕ) (p : Begun → Bool) (x : Begun) → a ≤ b → end ≡ b + 1 → slice_get all b ≡ Some x → p x ≡ true → among all a end p ≡ among all a b p ++ x ∷ []
last_passes all a b end p x less is e it = last_so all a b end p x less is e ∙ ap (λ (c : Bool). among all a b p ++ (if c then x ∷ [] else [])) it

pub last_fails : (all : List Begun) (a b end : ℕ) (p : Begun → Bool) (x : Begun) → a ≤ b → end ≡ b + 1 → slice_get all b ≡ Some x → p x ≡ false → among all a b p ≡ among all a end p
last_fails all a b end p x less is e it = sym (last_so all a b end p x less is e ∙ (ap (λ (c : Bool). among all a b p ++ (if c then x ∷ [] else [])) it ∙ append-nil (among all a b p)))

-- how many
pub counts_more : (all : List Begun) (a b end : ℕ) (p : Begun → Bool) (x : Begun) → a ≤ b → end ≡ b + 1 → slice_get all b ≡ Some x → p x ≡ true → length (among all a end p) ≡ length (among all a b p) + 1
counts_more all a b end p x less is e it = ap (λ (l : List Begun). length l) (last_passes all a b end p x less is e it) ∙ length-append (among all a b p) (x ∷ [])

-- Choices ----------------------------------------------------------------------------------------------

item_first : (d x : Begun) (xs : List Begun) → pull_item d 0 (x ∷ xs) ≡ x
unfolding opened_lists
item_first d x xs = refl

rest_first : (x : Begun) (xs : List Begun) → pull_rest 0 (x ∷ xs) ≡ xs
unfolding opened_lists
rest_first x xs = refl

item_last : (d x : Begun) (xs : List Begun) (n : ℕ) → n ≡ length xs → pull_item d n (xs ++ x ∷ []) ≡ x
unfolding opened_lists
item_last d x [] zero e = refl
item_last d x [] (suc n) e = absurd (omega (arith, e))
item_last d x (y ∷ xs) zero e = absurd (omega (arith, e))
item_last d x (y ∷ xs) (suc n) e = item_last d x xs n (omega (arith, e))

rest_last : (x : Begun) (xs : List Begun) (n : ℕ) → n ≡ length xs → pull_rest n (xs ++ x ∷ []) ≡ xs
unfolding opened_lists
rest_last x [] zero e = refl
rest_last x [] (suc n) e = absurd (omega (arith, e))
rest_last x (y ∷ xs) zero e = absurd (omega (arith, e))
rest_last x (y ∷ xs) (suc n) e = ap (λ (l : List Begun). y ∷ l) (rest_last x xs n (omega (arith, e)))

-- one less is left
rest_fewer : (left : List Begun) (pick : ℕ) → pick < length left → length (pull_rest pick left) ≡ length left - 1
unfolding opened_lists
rest_fewer [] pick less = absurd (omega (arith, less))
rest_fewer (x ∷ xs) zero less = omega arith
rest_fewer (x ∷ xs) (suc n) less = let rest = rest_fewer xs n (omega (arith, less)) in omega (arith, rest, less)

pub one_fewer : (order : Order) (left : List Begun) (count : ℕ) → count ≡ length left → 0 < count → count - 1 ≡ length (pull_rest (pick_among order (length left)) left)
one_fewer OrderOf.Newest left count many some = let rest = rest_fewer left (length left - 1) (omega (arith, many, some)) in omega (arith, rest, many)
one_fewer OrderOf.Oldest left count many some = let rest = rest_fewer left 0 (omega (arith, many, some)) in omega (arith, rest, many)

-- the first of those that pass is chosen
pub chooses_first : (all left : List Begun) (at last next : ℕ) (p : Begun → Bool) (x : Begun) → at < last → next ≡ at + 1 → last ≤ length all → slice_get all at ≡ Some x → p x ≡ true → among all at last p ≡ left → IsChosenAmong all p left 0 at (record { first = next; last = last })
chooses_first all left at last next p x less is within e it are =
    let them : left ≡ x ∷ among all next last p = sym are ∙ first_passes all at last next p x less is e it in
    record {
      chosen = λ d. e ∙ ap (λ (y : Begun). Some y) (sym (ap (λ (l : List Begun). pull_item d 0 l) them ∙ item_first d x (among all next last p)));
      rest = record {
        rising = omega (arith, less, is);
        within = within;
        are = ap (λ (l : List Begun). pull_rest 0 l) them ∙ rest_first x (among all next last p);
      };
    }

-- the last of them
pub chooses_last : (all left : List Begun) (first at end : ℕ) (p : Begun → Bool) (x : Begun) → first ≤ at → end ≡ at + 1 → end ≤ length all → slice_get all at ≡ Some x → p x ≡ true → among all first end p ≡ left → IsChosenAmong all p left (length left - 1) at (record { first = first; last = at })
chooses_last all left first at end p x less is within e it are =
    let front = among all first at p in
    let them : left ≡ front ++ x ∷ [] = sym are ∙ last_passes all first at end p x less is e it in
    let long = ap (λ (l : List Begun). length l) them ∙ length-append front (x ∷ []) in
    let pick : length left - 1 ≡ length front = omega (arith, long) in
    record {
      chosen = λ d. e ∙ ap (λ (y : Begun). Some y) (sym (ap (λ (l : List Begun). pull_item d (length left - 1) l) them ∙ item_last d x front (length left - 1) pick));
      rest = record {
        rising = less;
        within = omega (arith, is, within);
        are = ap (λ (l : List Begun). pull_rest (length left - 1) l) them ∙ rest_last x front (length left - 1) pick;
      };
    }
