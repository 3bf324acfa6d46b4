-- The numbers of active masters rise.
use Rattle.std.proofs.Common.{◌≡◌, ℕ, zero, suc, ◌+◌, ◌<◌, ◌≤◌, List, [], ◌∷◌, Some, Bool, true, false, length, refl, sym, ap, ◌∙◌, arith, reverse, ◌⊎◌, inl, inr}
use Rattle.std.specs.Prelude.{nat_lt, slice_get}
use Rattle.std.proofs.lemmas.Bool.Decides.{nat_tests}
use Rattle.std.proofs.lemmas.List.{reverse-append, reverse-reverse}
use Rattle.std.proofs.lemmas.Option.{slice_get_within}
use Rattle.ctl_frames.specs.declared.frame.Master.{Master}
use Rattle.ctl_frames.specs.Masters.{AreBelow}
use Rattle.ctl_frames.proofs.Links.{get_split}
use Rattle.ctl_frames.proofs.Lists.{same_at}
use Rattle.ctl_engine.proofs.Reached.{among_reversed}
use Rattle.ctl_engine.proofs.Slots.{is_older}

only : (m c : Master) (l : ℕ) → slice_get (m ∷ []) l ≡ Some c → (l ≡ 0) × (m ≡ c)
only m c zero e = (refl, cc)
only m c (suc l) e = absurd (cc)

-- from the outermost master on
rises_from : (ms : List Master) (n i j : ℕ) (a b : Master) → AreBelow ms n → slice_get (reverse ms) i ≡ Some a → slice_get (reverse ms) j ≡ Some b → i < j → a.number < b.number
rises_from [] n i j a b below first second less = absurd (cc)
rises_from (m ∷ ms) n i j a b below first second less = by (λ f s. rises_from ms m.number i j a b below.1 f s less) (there i a first) (there j b second)
  where
    there : (k : ℕ) (c : Master) → slice_get (reverse (m ∷ ms)) k ≡ Some c → (slice_get (reverse ms) k ≡ Some c) ⊎ ((l : ℕ) × (k ≡ length (reverse ms) + l) × (slice_get (m ∷ []) l ≡ Some c))
    there k c e = get_split (reverse ms) (m ∷ []) k c (sym (ap (λ (l : List Master). slice_get l k) (reverse-append (m ∷ []) ms)) ∙ e)

    by : (slice_get (reverse ms) i ≡ Some a → slice_get (reverse ms) j ≡ Some b → a.number < b.number)
        → (slice_get (reverse ms) i ≡ Some a) ⊎ ((l : ℕ) × (i ≡ length (reverse ms) + l) × (slice_get (m ∷ []) l ≡ Some a)) → (slice_get (reverse ms) j ≡ Some b) ⊎ ((l : ℕ) × (j ≡ length (reverse ms) + l) × (slice_get (m ∷ []) l ≡ Some b)) → a.number < b.number
    by older (inl f) (inl s) = older f s
    by older (inl f) (inr s) =
        let lower = is_older ms a m.number below.1 (among_reversed ms i a f) in
        let same = ap (λ (x : Master). x.number) (only m b s.0 s.2).1 in
        omega (arith, lower, same)
    by older (inr f) (inl s) = absurd (let within = slice_get_within (reverse ms) j b s in let at = f.1 in omega (arith, within, at, less))
    by older (inr f) (inr s) = absurd (let p = (only m a f.0 f.2).0 in let q = (only m b s.0 s.2).0 in let at = f.1 in let behind = s.1 in omega (arith, p, q, at, behind, less))

pub rises : (xs : List Master) (n i j : ℕ) (a b : Master) → AreBelow (reverse xs) n → slice_get xs i ≡ Some a → slice_get xs j ≡ Some b → i < j → a.number < b.number
rises xs n i j a b below first second less =
    let same : (k : ℕ) (c : Master) → slice_get xs k ≡ Some c → slice_get (reverse (reverse xs)) k ≡ Some c = λ k c e. ap (λ (l : List Master). slice_get l k) (reverse-reverse xs) ∙ e in
    rises_from (reverse xs) n i j a b below (same i a first) (same j b second) less

-- up to one with a lower number than this, and from one with a higher number on
pub lower_front : (xs : List Master) (n i j number : ℕ) (a b : Master) → AreBelow (reverse xs) n → slice_get xs i ≡ Some a → slice_get xs j ≡ Some b → i ≤ j → b.number < number → a.number < number
lower_front xs n i j number a b below first second less lower = by (nat_lt i j) refl
  where
    by : (more : Bool) → nat_lt i j ≡ more → a.number < number
    by true e = let higher = rises xs n i j a b below first second (grind (arith, nat_tests, e)) in omega (arith, higher, lower)
    by false e =
        let here : i ≡ j = grind (arith, nat_tests, e, less) in
        let same = ap (λ (m : Master). m.number) (same_at a b (slice_get xs j) (ap (λ k. slice_get xs k) (sym here) ∙ first) second) in
        omega (arith, same, lower)

pub higher_back : (xs : List Master) (n i j number : ℕ) (a b : Master) → AreBelow (reverse xs) n → slice_get xs i ≡ Some a → slice_get xs j ≡ Some b → j ≤ i → number < b.number → number < a.number
higher_back xs n i j number a b below first second less higher = by (nat_lt j i) refl
  where
    by : (more : Bool) → nat_lt j i ≡ more → number < a.number
    by true e = let lower = rises xs n j i b a below second first (grind (arith, nat_tests, e)) in omega (arith, lower, higher)
    by false e =
        let here : i ≡ j = grind (arith, nat_tests, e, less) in
        let same = ap (λ (m : Master). m.number) (same_at a b (slice_get xs j) (ap (λ k. slice_get xs k) (sym here) ∙ first) second) in
        omega (arith, same, higher)
