-- What stands in a list from a place on.
use Rattle.std.proofs.Common.{◌≡◌, ℕ, ◌+◌, ◌<◌, List, [], ◌∷◌, ◌++◌, length, Some, ap, ◌∙◌, subst, arith, append_assoc, length-append}
use Rattle.std.specs.Prelude.{slice_get}
use Rattle.std.proofs.Math.Seq.{get_or-append_seam}
use Rattle.std.proofs.lemmas.Option.{slice_get-get_or}
use Rattle.ctl_code.specs.declared.code.Code.{Code}
use Rattle.ctl_code.specs.Valid.{kinds_at}
use Rattle.ctl_layout.specs.Around.{Line}

-- these items stand in the list from this place on
abbrev pub HasAt : {A : Type 0} → List A → ℕ → List A → Type 0
HasAt all place [] = Unit {0}
HasAt all place (x ∷ xs) = (slice_get all place ≡ Some x) × HasAt all (place + 1) xs

pub has_front : {A : Type 0} (all : List A) (place : ℕ) (a b : List A) → HasAt all place (a ++ b) → HasAt all place a
has_front all place [] b h = tt
has_front all place (x ∷ a) b h = (h.0, has_front all (place + 1) a b h.1)

pub has_back : {A : Type 0} (all : List A) (place : ℕ) (a b : List A) → HasAt all place (a ++ b) → HasAt all (place + length a) b
has_back all place [] b h = let e : place ≡ place + 0 = omega arith in subst (λ n. HasAt all n b) e h
has_back all place (x ∷ a) b h =
    let e : place + 1 + length a ≡ place + length (x ∷ a) = omega arith in
    subst (λ n. HasAt all n b) e (has_back all (place + 1) a b h.1)

-- all of a list stands behind what comes before it
pub has_all : {A : Type 0} (xs before : List A) → HasAt (before ++ xs) (length before) xs
has_all [] before = tt
has_all (x ∷ xs) before =
    let inside : length before < length (before ++ x ∷ xs) = omega (arith, length-append before (x ∷ xs)) in
    let here = slice_get-get_or (before ++ x ∷ xs) (length before) x inside ∙ ap Some (get_or-append_seam before x xs x) in
    let n : length (before ++ x ∷ []) ≡ length before + 1 = omega (arith, length-append before (x ∷ [])) in
    let rest = has_all xs (before ++ x ∷ []) in
    let rest1 = subst (λ l. HasAt l (length (before ++ x ∷ [])) xs) (append_assoc before (x ∷ []) xs) rest in
    (here, subst (λ m. HasAt (before ++ x ∷ xs) m xs) n rest1)

-- these lines stand in the code from this place on
abbrev pub Laid : Code → ℕ → List Line → Type 0
Laid code place [] = Unit {0}
Laid code place (x ∷ xs) = (slice_get code.instructions.items place ≡ Some x.0) × (kinds_at code place ≡ Some x.1) × Laid code (place + 1) xs

pub laid_front : (code : Code) (place : ℕ) (a b : List Line) → Laid code place (a ++ b) → Laid code place a
laid_front code place [] b h = tt
laid_front code place (x ∷ a) b h = (h.0, h.1, laid_front code (place + 1) a b h.2)

pub laid_back : (code : Code) (place : ℕ) (a b : List Line) → Laid code place (a ++ b) → Laid code (place + length a) b
laid_back code place [] b h = let e : place ≡ place + 0 = omega arith in subst (λ n. Laid code n b) e h
laid_back code place (x ∷ a) b h =
    let e : place + 1 + length a ≡ place + length (x ∷ a) = omega arith in
    subst (λ n. Laid code n b) e (laid_back code (place + 1) a b h.2)
