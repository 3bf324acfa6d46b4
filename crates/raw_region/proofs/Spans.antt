-- Spans: `span F k n` is F of each of the n numbers from k on. How spans are cut, and changed number by number. Assumes `Logic`.
use Rattle.std.proofs.Common.{◌≡◌, ℕ, zero, suc, ◌+◌, ◌<◌, ◌≤◌, [], ◌∷◌, refl, sym, subst, arith}
use mathlib.Core.Logic.{⊎_elim}
use seplogic.Ra.Ura.{Ura}
use base.Logic.{ent, guard, guard_i, guard_e, emp, via, id⊢}
use base.Fml.{Lft, Fml, ftrue, fsep}
use types.Logic.{Logic, sem}
use types.Kit.{‵, ◌⊛◌, given, ◌$◌, ◌∵◌, !, qed, move, keep, drop, use0, use1, use2, split, fsplit, fjoin, learn, check, rewrite, done}
use denote.Steps.{nothing}
use denote.Sharing.{ShrLaws}
use denote.SharingLaws.{nothing_shr_laws, beside_shr_laws}
use denote.Struct.Lending.{Lends, Lends-nothing, Lends-both}
use Rattle.raw_region.specs.Ownership.{span, span_lent}
use Rattle.raw_region.proofs.PlaceLemmas.{order}

module _ {M : Type 1} {𝓤 : Ura M} (𝓛 : Logic 𝓤) where
  -- P gives Q
  abbrev pub Gives : Fml → Fml → Type 1
  Gives P Q = ent 𝓤 (sem 𝓛 P) (sem 𝓛 Q)

  -- P gives Q, and that φ is so
  abbrev pub Tells : Fml → Type 0 → Fml → Type 1
  Tells P φ Q = ent 𝓤 (sem 𝓛 P) (guard 𝓤 φ (sem 𝓛 Q))

  -- each gives the other
  abbrev pub Same : Fml → Fml → Type 1
  Same P Q = Gives P Q × Gives Q P

  -- a span is its first m numbers, and the n others, from l on
  pub span_sum : (F : ℕ → Fml) (k l m n t : ℕ) → l ≡ k + m → t ≡ m + n → Same (span F k t) (fsep (span F k m) (span F l n))
  span_sum F k l zero n t at long =
      let at' : l ≡ k + 0 = at in let long' : t ≡ 0 + n = long in
      let here : k ≡ l = omega arith in let all : t ≡ n = omega arith in (
        qed 𝓛 (‵ (span F k t) ∷ []) ∵ rewrite ! 0 (λ j. ‵ (span F j t)) here refl $ rewrite ! 0 (λ j. ‵ (span F l j)) all refl $ nothing ! $ done !,
        qed 𝓛 (‵ ftrue ∷ ‵ (span F l n) ∷ []) ∵ drop ! $ rewrite ! 0 (λ j. ‵ (span F l j)) (sym all) refl $ rewrite ! 0 (λ j. ‵ (span F j t)) (sym here) refl $ done !,
      )
  span_sum F k l (suc m) n zero at long = let long' : 0 ≡ suc m + n = long in absurd (omega arith)
  span_sum F k l (suc m) n (suc t) at long =
      let at' : l ≡ k + suc m = at in let long' : suc t ≡ suc m + n = long in
      let rest = span_sum F (suc k) l m n t (omega arith) (omega arith) in (
        qed 𝓛 (‵ (span F k (suc t)) ∷ []) ∵ fsplit ! $ move ! (1 ∷ []) $ use1 𝓛 (‵ (span F (suc k) m) ⊛ ‵ (span F l n)) rest.0 $ split ! $
            move ! (2 ∷ 0 ∷ []) $ fjoin ! $ done !,
        qed 𝓛 (‵ (span F k (suc m)) ∷ ‵ (span F l n) ∷ []) ∵ fsplit ! $ move ! (1 ∷ 2 ∷ []) $ use2 𝓛 (‵ (span F (suc k) t)) rest.1 $
            move ! (1 ∷ 0 ∷ []) $ fjoin ! $ done !,
      )

  -- what each number tells, the span tells of them all
  pub span_tells : (F G : ℕ → Fml) (φ : ℕ → Type 0) (k n : ℕ) → ((j : ℕ) → k ≤ j → j < k + n → Tells (F j) (φ j) (G j))
      → Tells (span F k n) ((j : ℕ) → k ≤ j → j < k + n → φ j) (span G k n)
  span_tells F G φ k zero each =
      qed 𝓛 (‵ ftrue ∷ []) ∵ check ! (λ j lo hi. let none : j < k + 0 = hi in absurd (omega arith)) $ done !
  span_tells F G φ k (suc n) each =
      qed 𝓛 (‵ (span F k (suc n)) ∷ []) ∵ fsplit ! $
      use1 𝓛 (given (φ k) (‵ (G k))) (each k (omega arith) (omega arith)) $ learn ! (λ first. move ! (1 ∷ []) $
      use1 𝓛 (given ((j : ℕ) → suc k ≤ j → j < suc k + n → φ j) (‵ (span G (suc k) n)))
      (span_tells F G φ (suc k) n (λ j lo hi. each j (omega arith) (omega arith))) $ learn ! (λ others.
      check ! (λ j lo hi. ⊎_elim (λ (past : k < j). others j (omega arith) (omega arith))
      (λ (upto : j ≤ k). let same : k ≡ j = omega arith in subst φ same first) (order k j)) $
      move ! (1 ∷ 0 ∷ []) $ fjoin ! $ done !))

  -- what each number gives, the span gives
  pub span_gives : (F G : ℕ → Fml) (k n : ℕ) → ((j : ℕ) → k ≤ j → j < k + n → Gives (F j) (G j)) → Gives (span F k n) (span G k n)
  span_gives F G k n each =
      let Trivial : ℕ → Type 0 = λ _. Unit {0} in
      via 𝓤 (guard 𝓤 ((j : ℕ) → k ≤ j → j < k + n → Trivial j) (sem 𝓛 (span G k n)))
      (span_tells F G Trivial k n (λ j lo hi. via 𝓤 (sem 𝓛 (G j)) (each j lo hi) (guard_i 𝓤 (Trivial j) (sem 𝓛 (G j)) tt)))
      (guard_e 𝓤 ((j : ℕ) → k ≤ j → j < k + n → Trivial j) (sem 𝓛 (span G k n)) (λ _. id⊢ 𝓤 (sem 𝓛 (span G k n))))

  -- where nothing gives F of each number, it gives the span
  pub span_of_none : (F : ℕ → Fml) (k n : ℕ) → ((j : ℕ) → k ≤ j → j < k + n → ent 𝓤 (emp 𝓤) (sem 𝓛 (F j))) → ent 𝓤 (emp 𝓤) (sem 𝓛 (span F k n))
  span_of_none F k zero each = id⊢ 𝓤 (emp 𝓤)
  span_of_none F k (suc n) each =
      qed 𝓛 [] ∵ use0 𝓛 (‵ (span F (suc k) n)) (span_of_none F (suc k) n (λ j lo hi. each j (omega arith) (omega arith))) $
      use0 𝓛 (‵ (F k)) (each k (omega arith) (omega arith)) $ fjoin ! $ done !

  -- two spans of the same numbers are one
  pub span_pair : (F G : ℕ → Fml) (k n : ℕ) → Same (span (λ j. fsep (F j) (G j)) k n) (fsep (span F k n) (span G k n))
  span_pair F G k zero =
      (qed 𝓛 (‵ ftrue ∷ []) ∵ nothing ! $ done !, qed 𝓛 (‵ ftrue ∷ ‵ ftrue ∷ []) ∵ drop ! $ done !)
  span_pair F G k (suc n) =
      let Both = λ (j : ℕ). fsep (F j) (G j) in
      let rest = span_pair F G (suc k) n in (
        qed 𝓛 (‵ (span Both k (suc n)) ∷ []) ∵ fsplit ! $ fsplit ! $ move ! (2 ∷ []) $
            use1 𝓛 (‵ (span F (suc k) n) ⊛ ‵ (span G (suc k) n)) rest.0 $ split ! $
            -- [the others of F; of G; the first of F; of G]
            move ! (2 ∷ 0 ∷ []) $ fjoin ! $ move ! (2 ∷ 1 ∷ []) $ fjoin ! $ move ! (1 ∷ 0 ∷ []) $ done !,
        qed 𝓛 (‵ (span F k (suc n)) ∷ ‵ (span G k (suc n)) ∷ []) ∵ fsplit ! $ move ! (2 ∷ []) $ fsplit ! $
            -- [the first of G; the others; the first of F; the others]
            move ! (3 ∷ 1 ∷ []) $ use2 𝓛 (‵ (span Both (suc k) n)) rest.1 $ move ! (2 ∷ 1 ∷ []) $ fjoin ! $ fjoin ! $ done !,
      )

  -- a borrow of a span shows each of its numbers
  pub span_Lends : (F : ℕ → Fml) (S : ℕ → Lft → Fml) (l : Lft) → ((j : ℕ) → Lends 𝓛 (F j) (S j) l) → (k n : ℕ) → Lends 𝓛 (span F k n) (span_lent S k n) l
  span_Lends F S l each k zero = Lends-nothing 𝓛 ftrue l
  span_Lends F S l each k (suc n) = Lends-both 𝓛 (F k) (span F (suc k) n) (S k) (span_lent S (suc k) n) l (each k) (span_Lends F S l each (suc k) n)

  -- and the `&` gives the one that is asked for
  pub span_shows : (S : ℕ → Lft → Fml) (κ : Lft) (k n i : ℕ) → k ≤ i → i < k + n → Gives (span_lent S k n κ) (S i κ)
  span_shows S κ k zero i lo hi = let none : i < k + 0 = hi in absurd (omega arith)
  span_shows S κ k (suc n) i lo hi =
      ⊎_elim
      (λ (past : k < i). qed 𝓛 (‵ (span_lent S k (suc n) κ) ∷ []) ∵ fsplit ! $ drop ! $ use1 𝓛 (‵ (S i κ)) (span_shows S κ (suc k) n i (omega arith) (omega arith)) $ done !)
      (λ (upto : i ≤ k). let same : k ≡ i = omega arith in
      qed 𝓛 (‵ (span_lent S k (suc n) κ) ∷ []) ∵ fsplit ! $ keep ! (0 ∷ []) $ rewrite ! 0 (λ j. ‵ (S j κ)) same refl $ done !)
      (order k i)

-- the laws of a `&`, of a span of them
pub span_ShrLaws : (S : ℕ → Lft → Fml) → ((j : ℕ) → ShrLaws (S j)) → (k n : ℕ) → ShrLaws (span_lent S k n)
span_ShrLaws S each k zero = nothing_shr_laws
span_ShrLaws S each k (suc n) = beside_shr_laws (S k) (span_lent S (suc k) n) (each k) (span_ShrLaws S each (suc k) n)
