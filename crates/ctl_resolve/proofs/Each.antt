-- One turn of a loop that resolves each in turn.
use Rattle.std.specs.Prelude.{IfOk}
use Rattle.std.proofs.Common.{◌≡◌, ℕ, ◌+◌, ◌<◌, List, [], ◌∷◌, ◌++◌, Result, Ok, length, get_or, map, drop, refl, sym, ap, subst, ◌∙◌}
use Rattle.std.proofs.lemmas.List.{at_drop_more}
use Rattle.ctl_resolve.specs.declared.view.View.{View}
use Rattle.ctl_resolve.specs.Naming.{Naming, Names, each, each_on}

each_next : {A B : Type 0} (f : A → Naming B) (done : List B) (b : B) (w : View) (xs : List A) → each_on f done (b, w) xs ≡ each f (done ++ b ∷ []) xs w
each_next f done b w [] = refl
each_next f done b w (x ∷ xs) = refl

-- what is left, behind one more, gives what was left before it
pub turn : {A B : Type 0} (f : A → Naming B) (done : List B) (all : List A) (i : ℕ) (x : A) (b : B) (v w : View) → i < length all → x ≡ get_or all i x → f x v ≡ (b, w) → each f (done ++ b ∷ []) (drop (i + 1) all) w ≡ each f done (drop i all) v
turn f done all i x b v w lt at h =
    sym (each_next f done b w (drop (i + 1) all))
    ∙ sym (ap (λ r. each_on f done r (drop (i + 1) all)) h)
    ∙ ap (λ y. each f done (y ∷ drop (i + 1) all) v) at
    ∙ sym (at_drop_more (λ xs. each f done xs v) all i x lt)

-- the same where one more was added
pub turned : {A B E : Type 0} (f : A → Naming B) (done more : List B) (all : List A) (i : ℕ) (x : A) (next : Result B E) (v w : View) → i < length all → x ≡ get_or all i x → Names (f x) v next w
    → (b : B) × (next ≡ Ok b) × (more ≡ done ++ b ∷ []) → each f more (drop (i + 1) all) w ≡ each f done (drop i all) v
turned f done more all i x next v w lt at h behind =
    let b = behind.0 in
    ap (λ ds. each f ds (drop (i + 1) all) w) behind.2
    ∙ turn f done all i x b v w lt at (subst (λ r. Names (f x) v r w) behind.1 h)

behind_one : {A : Type 0} (done : List A) (y : A) (zs : List A) → (done ++ y ∷ []) ++ zs ≡ done ++ y ∷ zs
behind_one [] y zs = refl
behind_one (d ∷ ds) y zs = ap (λ r. d ∷ r) (behind_one ds y zs)

-- the copies and what is left are the same where one more was copied
pub copied : {A E : Type 0} (done more all : List A) (i : ℕ) (x : A) (next : Result A E) → i < length all → x ≡ get_or all i x → IfOk next (λ y. y ≡ x)
    → (b : A) × (next ≡ Ok b) × (more ≡ done ++ b ∷ []) → more ++ drop (i + 1) all ≡ done ++ drop i all
copied done more all i x next lt at h behind =
    let same : behind.0 ≡ x = subst (λ r. IfOk r (λ y. y ≡ x)) behind.1 h in
    ap (λ ds. ds ++ drop (i + 1) all) behind.2
    ∙ ap (λ y. (done ++ y ∷ []) ++ drop (i + 1) all) (same ∙ at)
    ∙ behind_one done (get_or all i x) (drop (i + 1) all)
    ∙ sym (at_drop_more (λ xs. done ++ xs) all i x lt)

on_map : {A B C : Type 0} (f : B → Naming C) (g : A → B) (done : List C) (r : C × View) (xs : List A) → each_on f done r (map g xs) ≡ each_on (λ y. f (g y)) done r xs
on_map f g done (b, w) [] = refl
on_map f g done (b, w) (y ∷ ys) = on_map f g (done ++ b ∷ []) (f (g y) w) ys

-- naming each of what was made is naming each as it is made
pub each_map : {A B C : Type 0} (f : B → Naming C) (g : A → B) (done : List C) (xs : List A) (v : View) → each f done (map g xs) v ≡ each (λ y. f (g y)) done xs v
each_map f g done [] v = refl
each_map f g done (y ∷ ys) v = on_map f g done (f (g y) v) ys
