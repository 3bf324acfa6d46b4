-- Items by a number of theirs: what a number finds among them, as they change and go.
use Rattle.std.proofs.Common.{◌≡◌, ◌∙◌, ℕ, List, [], ◌∷◌, Option, Some, None, Bool, true, false, cond, refl, sym, ap}
use Rattle.std.specs.Prelude.{nat_eq}
use Rattle.std.specs.Option.{option_map}
use borrow.Author.Tests.{eqb-true}
use Rattle.ctl_meaning.specs.Lists.{change_each, first_with, keep, opened_lists}

abbrev pub at : {A : Type 0} → (A → ℕ) → ℕ → List A → Option A
at key k xs = first_with (λ x. nat_eq (key x) k) xs

pub at_none : {A : Type 0} (key : A → ℕ) (k : ℕ) → at key k [] ≡ None
unfolding opened_lists
at_none key k = refl

pub at_more : {A : Type 0} (key : A → ℕ) (k : ℕ) (x : A) (xs : List A) → at key k (x ∷ xs) ≡ cond (nat_eq (key x) k) (Some x) (at key k xs)
unfolding opened_lists
at_more key k x xs = refl

pub at_changed : {A : Type 0} (key : A → ℕ) (k n : ℕ) (f : A → A) → ((x : A) → key (f x) ≡ key x) → (xs : List A)
    → at key k (change_each (λ x. nat_eq (key x) n) f xs) ≡ cond (nat_eq k n) (option_map f (at key k xs)) (at key k xs)
unfolding opened_lists
at_changed {A} key k n f keeps [] = by (nat_eq k n)
  where
    by : (b : Bool) → let none : Option A = None in none ≡ cond b None None
    by true = refl
    by false = refl
at_changed {A} key k n f keeps (x ∷ xs) =
    ap (λ m. cond (nat_eq m k) (Some (cond (nat_eq (key x) n) (f x) x)) (at key k (change_each (λ y. nat_eq (key y) n) f xs))) (same (nat_eq (key x) n))
    ∙ by (at_changed key k n f keeps xs) (nat_eq (key x) k) refl
  where
    same : (b : Bool) → key (cond b (f x) x) ≡ key x
    same true = keeps x
    same false = refl

    some : (b : Bool) → Some (cond b (f x) x) ≡ cond b (option_map f (Some x)) (Some x)
    some true = refl
    some false = refl

    by : at key k (change_each (λ y. nat_eq (key y) n) f xs) ≡ cond (nat_eq k n) (option_map f (at key k xs)) (at key k xs)
        → (b : Bool) → nat_eq (key x) k ≡ b
        → cond b (Some (cond (nat_eq (key x) n) (f x) x)) (at key k (change_each (λ y. nat_eq (key y) n) f xs)) ≡ cond (nat_eq k n) (option_map f (cond (nat_eq (key x) k) (Some x) (at key k xs))) (cond (nat_eq (key x) k) (Some x) (at key k xs))
    by ih true is =
        ap (λ m. Some (cond (nat_eq m n) (f x) x)) (eqb-true (key x) k is) ∙ (some (nat_eq k n)
        ∙ ap (λ b. cond (nat_eq k n) (option_map f (cond b (Some x) (at key k xs))) (cond b (Some x) (at key k xs))) (sym is))
    by ih false is = ih ∙ ap (λ b. cond (nat_eq k n) (option_map f (cond b (Some x) (at key k xs))) (cond b (Some x) (at key k xs))) (sym is)

-- those whose numbers pass a test
pub at_kept : {A : Type 0} (key : A → ℕ) (stays : ℕ → Bool) (k : ℕ) (xs : List A) → at key k (keep (λ x. stays (key x)) xs) ≡ cond (stays k) (at key k xs) None
unfolding opened_lists
at_kept {A} key stays k [] = by (stays k)
  where
    by : (b : Bool) → let none : Option A = None in none ≡ cond b None None
    by true = refl
    by false = refl
at_kept {A} key stays k (x ∷ xs) = by (at_kept key stays k xs) (stays (key x)) refl (nat_eq (key x) k) refl
  where
    by : at key k (keep (λ y. stays (key y)) xs) ≡ cond (stays k) (at key k xs) None
        → (b : Bool) → stays (key x) ≡ b → (c : Bool) → nat_eq (key x) k ≡ c
        → at key k (cond b (x ∷ keep (λ y. stays (key y)) xs) (keep (λ y. stays (key y)) xs)) ≡ cond (stays k) (cond c (Some x) (at key k xs)) None
    by ih true passes true is =
        ap (λ c. cond c (Some x) (at key k (keep (λ y. stays (key y)) xs))) is
        ∙ ap (λ t. cond t (Some x) None) (sym (ap stays (sym (eqb-true (key x) k is)) ∙ passes))
    by ih true passes false is = ap (λ c. cond c (Some x) (at key k (keep (λ y. stays (key y)) xs))) is ∙ ih
    by ih false fails true is =
        let none : stays k ≡ false = ap stays (sym (eqb-true (key x) k is)) ∙ fails in
        ih ∙ (ap (λ t. cond t (at key k xs) None) none ∙ sym (ap (λ t. cond t (Some x) None) none))
    by ih false fails false is = ih
