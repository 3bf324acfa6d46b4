-- Subpools that are dropped once the ones after them are.
use Rattle.std.proofs.Common.{◌≡◌, ℕ, zero, suc, ◌+◌, ◌-◌, ◌<◌, ◌≤◌, Bool, true, false, cond, List, [], ◌∷◌, ◌++◌, length, take, Option, Some, None, refl, sym, ap, subst, ◌∙◌, arith, length-append}
use Rattle.std.specs.Prelude.{slice_get}
use Rattle.std.specs.Option.{option_map_or}
use Rattle.std.proofs.lemmas.Option.{same_Some, slice_get_within, slice_get_past}
use Rattle.pool_area.specs.Subpools.{Seen, Subpools, new_subpool, is_dead, is_last_dead, last_of, front_of, or_renewed, given_if_renewed, without_last, living_before, living, settled}
use Rattle.pool_area.proofs.SubpoolViews.{last_pushed, front_pushed}

-- Lists ---------------------------------------------------------------------

module _ {X : Type 0} where
  nil : (xs : List X) → length xs ≡ 0 → xs ≡ []
  nil [] e = refl
  nil (x ∷ xs) e = let no : suc (length xs) ≡ 0 = e in absurd (omega arith)

  parted : (xs : List X) (n : ℕ) (x : X) → suc n ≡ length xs → slice_get xs n ≡ Some x → xs ≡ take n xs ++ x ∷ []
  parted [] n x e g = let no : suc n ≡ 0 = e in absurd (omega arith)
  parted (y ∷ ys) zero x e g =
      let long : 1 ≡ suc (length ys) = e in
      ap (λ l. y ∷ l) (nil ys (omega arith)) ∙ ap (λ v. v ∷ []) (same_Some y x g)
  parted (y ∷ ys) (suc n) x e g =
      let long : suc (suc n) ≡ suc (length ys) = e in
      ap (λ l. y ∷ l) (parted ys n x (omega arith) g)

  -- several are those in front and the last
  pub last_apart : (xs : List X) (x : X) → slice_get xs (length xs - 1) ≡ Some x → xs ≡ front_of xs ++ x ∷ []
  last_apart xs x g =
      let within = slice_get_within xs (length xs - 1) x g in
      parted xs (length xs - 1) x (omega arith) g

  get_front : (xs : List X) (n : ℕ) (x z : X) → slice_get xs n ≡ Some z → slice_get (xs ++ x ∷ []) n ≡ Some z
  get_front [] n x z g = absurd (cc)
  get_front (y ∷ ys) zero x z g = g
  get_front (y ∷ ys) (suc n) x z g = get_front ys n x z g

  get_end : (xs : List X) (x : X) → slice_get (xs ++ x ∷ []) (length xs) ≡ Some x
  get_end [] x = refl
  get_end (y ∷ ys) x = get_end ys x

  past_front : (xs : List X) → slice_get xs (length xs) ≡ None
  past_front xs = slice_get_past xs (length xs) (omega arith)

-- The living ones -----------------------------------------------------------

-- one that is dead at the end is not among them
living_dead : (xs : List Seen) (x : Seen) → is_dead x.standing ≡ true → living (xs ++ x ∷ []) ≡ living xs
living_dead [] x e = ap (λ b. cond b [] (x ∷ [])) e
living_dead (y ∷ ys) x e = ap (living_before y) (living_dead ys x e)

-- where the last is not, all are
living_all : (xs : List Seen) (x : Seen) → is_dead x.standing ≡ false → living (xs ++ x ∷ []) ≡ xs ++ x ∷ []
living_all [] x e = ap (λ b. cond b [] (x ∷ [])) e
living_all (y ∷ []) x e = ap (living_before y) (living_all [] x e)
living_all (y ∷ z ∷ zs) x e = ap (living_before y) (living_all (z ∷ zs) x e)

-- they are all of them, where none comes after them
living_whole : (xs : List Seen) → slice_get xs (length (living xs)) ≡ None → living xs ≡ xs
living_whole [] g = refl
living_whole (x ∷ xs) g = by (living xs) refl (λ h. living_whole xs h) g
  where
    alone : (b : Bool) → is_dead x.standing ≡ b → slice_get (x ∷ xs) (length (cond b [] (x ∷ []))) ≡ None → cond b [] (x ∷ []) ≡ x ∷ xs
    alone true e h = absurd (cc)
    alone false e h = ap (λ l. x ∷ l) (sym (nil xs (shorter xs h)))
      where
        shorter : (ys : List Seen) → slice_get ys 0 ≡ None → length ys ≡ 0
        shorter [] k = refl
        shorter (y ∷ ys) k = absurd (cc)

    by : (ls : List Seen) → living xs ≡ ls → (slice_get xs (length (living xs)) ≡ None → living xs ≡ xs) → slice_get (x ∷ xs) (length (living_before x (living xs))) ≡ None → living_before x (living xs) ≡ x ∷ xs
    by [] e more h =
        ap (living_before x) e ∙ alone (is_dead x.standing) refl (ap (λ l. slice_get (x ∷ xs) (length (living_before x l))) (sym e) ∙ h)
    by (y ∷ ys) e more h =
        let below : slice_get xs (length (y ∷ ys)) ≡ None = ap (λ l. slice_get (x ∷ xs) (length (living_before x l))) (sym e) ∙ h in
        ap (living_before x) e ∙ ap (λ l. x ∷ l) (sym e ∙ more (ap (λ l. slice_get xs (length l)) e ∙ below))

-- Dropping ------------------------------------------------------------------

abbrev with_all : Subpools → List Seen → Subpools
with_all p xs = record p { subpools = xs }

abbrev kept_from : ℕ → Subpools → List Seen → Seen → Subpools
kept_from n p kept x = record { size = p.size; used = x.start; subpools = or_renewed n kept; given = given_if_renewed n p.given kept }

dropped : (n : ℕ) (p : Subpools) (xs : List Seen) (x : Seen) → without_last n (with_all p (xs ++ x ∷ [])) ≡ kept_from n p xs x
dropped n p xs x =
    let last = ap (λ o. option_map_or (λ (y : Seen). y.start) o 0) (last_pushed xs x) in
    let front = front_pushed xs x in
    λ i. record { size = p.size; used = last i; subpools = or_renewed n (front i); given = given_if_renewed n p.given (front i) }

-- what is kept where one of several is the first of those that go
settled_at : (n : ℕ) (p : Subpools) (xs kept : List Seen) (x : Seen) → living xs ≡ kept → slice_get xs (length kept) ≡ Some x → settled n (with_all p xs) ≡ kept_from n p kept x
settled_at n p xs kept x e g =
    ap (λ l. option_map_or (kept_from n p l) (slice_get xs (length l)) (with_all p xs)) e ∙ ap (λ o. option_map_or (kept_from n p kept) o (with_all p xs)) g

settled_none : (n : ℕ) (p : Subpools) (xs : List Seen) → slice_get xs (length (living xs)) ≡ None → settled n (with_all p xs) ≡ with_all p xs
settled_none n p xs g = ap (λ o. option_map_or (kept_from n p (living xs)) o (with_all p xs)) g

-- to drop the last, which is dead, is the first step
step : (n : ℕ) (p : Subpools) (xs : List Seen) (x : Seen) → is_dead x.standing ≡ true → settled n (kept_from n p xs x) ≡ settled n (with_all p (xs ++ x ∷ []))
step n p [] x e = settled_none n (kept_from n p [] x) (new_subpool n 0 ∷ []) refl ∙ sym (settled_at n p (x ∷ []) [] x (living_dead [] x e) refl)
step n p (y ∷ ys) x e = by (slice_get (y ∷ ys) (length (living (y ∷ ys)))) refl
  where
    by : (o : Option Seen) → slice_get (y ∷ ys) (length (living (y ∷ ys))) ≡ o → settled n (kept_from n p (y ∷ ys) x) ≡ settled n (with_all p (y ∷ ys ++ x ∷ []))
    by None g =
        let whole = living_whole (y ∷ ys) g in
        settled_none n (kept_from n p (y ∷ ys) x) (y ∷ ys) g
        ∙ sym (settled_at n p (y ∷ (ys ++ x ∷ [])) (y ∷ ys) x (living_dead (y ∷ ys) x e ∙ whole) (get_end (y ∷ ys) x))
    by (Some z) g =
        settled_at n (kept_from n p (y ∷ ys) x) (y ∷ ys) (living (y ∷ ys)) z refl g
        ∙ sym (settled_at n p (y ∷ (ys ++ x ∷ [])) (living (y ∷ ys)) z (living_dead (y ∷ ys) x e) (get_front (y ∷ ys) (length (living (y ∷ ys))) x z g))

-- the last subpool that is dead
some_dead : (o : Option Seen) → option_map_or (λ x. is_dead x.standing) o false ≡ true → (x : Seen) × (o ≡ Some x) × (is_dead x.standing ≡ true)
some_dead None e = absurd (cc)
some_dead (Some x) e = (x, refl, e)

pub settled_step : (n : ℕ) (p : Subpools) → is_last_dead p ≡ true → settled n (without_last n p) ≡ settled n p
settled_step n p e =
    let d = some_dead (last_of p.subpools) e in
    let all : p ≡ with_all p (front_of p.subpools ++ d.0 ∷ []) = ap (with_all p) (last_apart p.subpools d.0 d.1) in
    ap (λ q. settled n (without_last n q)) all ∙ ap (settled n) (dropped n p (front_of p.subpools) d.0) ∙ step n p (front_of p.subpools) d.0 d.2 ∙ sym (ap (settled n) all)

-- where the last one is not dead, nothing goes
pub settled_end : (n : ℕ) (p : Subpools) → is_last_dead p ≡ false → settled n p ≡ p
settled_end n p e = by (last_of p.subpools) refl e
  where
    by : (o : Option Seen) → last_of p.subpools ≡ o → option_map_or (λ (x : Seen). is_dead x.standing) o false ≡ false → settled n p ≡ p
    by None g h =
        let past : slice_get p.subpools (length (living p.subpools)) ≡ None = none p.subpools g in
        settled_none n p p.subpools past
      where
        none : (xs : List Seen) → slice_get xs (length xs - 1) ≡ None → slice_get xs (length (living xs)) ≡ None
        none [] k = refl
        none (x ∷ xs) k = absurd (at_last (x ∷ xs) (length (x ∷ xs) - 1) (let long : 0 < suc (length xs) = omega arith in omega arith) k)
          where
            at_last : (ys : List Seen) (m : ℕ) → m < length ys → slice_get ys m ≡ None → ⊥
            at_last [] m lt k = absurd (let no : m < 0 = lt in omega arith)
            at_last (y ∷ ys) zero lt k = absurd (cc)
            at_last (y ∷ ys) (suc m) lt k = at_last ys m (let more : suc m < suc (length ys) = lt in omega arith) k
    by (Some x) g h =
        let all = last_apart p.subpools x g in
        let whole : living p.subpools ≡ p.subpools = ap living all ∙ living_all (front_of p.subpools) x h ∙ sym all in
        settled_none n p p.subpools (ap (λ l. slice_get p.subpools (length l)) whole ∙ past_front p.subpools)

-- fewer subpools stand, or the last one is not dead
abbrev pub weight : Subpools → ℕ
weight p = length p.subpools + cond (is_last_dead p) 1 0

at_most_one : (b : Bool) → cond b 1 0 ≤ 1
at_most_one true = omega arith
at_most_one false = omega arith

pub fewer : (n : ℕ) (p : Subpools) → is_last_dead p ≡ true → weight (without_last n p) < weight p
fewer n p e =
    let d = some_dead (last_of p.subpools) e in
    let xs = front_of p.subpools in
    let all : p ≡ with_all p (xs ++ d.0 ∷ []) = ap (with_all p) (last_apart p.subpools d.0 d.1) in
    let after : without_last n p ≡ kept_from n p xs d.0 = ap (without_last n) all ∙ dropped n p xs d.0 in
    let long : length p.subpools ≡ length xs + 1 = ap (λ q. length q.subpools) all ∙ length-append xs (d.0 ∷ []) in
    let heavy : weight p ≡ length p.subpools + 1 = ap (λ b. length p.subpools + cond b 1 0) e in
    let light = by xs d.0 in
    let same : weight (without_last n p) ≡ weight (kept_from n p xs d.0) = ap weight after in
    omega arith
  where
    by : (ys : List Seen) (x : Seen) → weight (kept_from n p ys x) ≤ length ys + 1
    by [] x = let one : 1 + 0 ≤ 0 + 1 = omega arith in one
    by (y ∷ ys) x = let few = at_most_one (is_last_dead (kept_from n p (y ∷ ys) x)) in omega arith

-- a number is given once
pub still_new : (n : ℕ) (p : Subpools) → is_last_dead p ≡ true → p.given < n → is_last_dead (without_last n p) ≡ true → (without_last n p).given < n
still_new n p e new more =
    let d = some_dead (last_of p.subpools) e in
    let xs = front_of p.subpools in
    let all : p ≡ with_all p (xs ++ d.0 ∷ []) = ap (with_all p) (last_apart p.subpools d.0 d.1) in
    let after : without_last n p ≡ kept_from n p xs d.0 = ap (without_last n) all ∙ dropped n p xs d.0 in
    subst (λ q. q.given < n) (sym after) (by xs d.0 (sym (ap is_last_dead after) ∙ more))
  where
    by : (ys : List Seen) (x : Seen) → is_last_dead (kept_from n p ys x) ≡ true → (kept_from n p ys x).given < n
    by [] x h = absurd (cc)
    by (y ∷ ys) x h = new
