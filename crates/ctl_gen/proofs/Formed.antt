-- Stretches of well-formed code, and how they are joined.
use Rattle.std.proofs.Common.{◌≡◌, ℕ, ◌+◌, List, [], ◌∷◌, ◌++◌, length, Option, Some, None, subst, arith}
use Rattle.ctl_code.specs.declared.kinds.Kind.{Kind}
use Rattle.ctl_code.specs.declared.code.Instr.{Instr}
use Rattle.ctl_code.specs.declared.code.Code.{Code}
use Rattle.ctl_code.specs.Valid.{IsFine, Leads}
use Rattle.ctl_layout.specs.Around.{Line}

module _ (code : Code) where
  -- what is known of the place behind a stretch
  abbrev pub Behind : ℕ → Option (List Kind) → Type 0
  Behind place None = Unit {0}
  Behind place (Some stack) = Leads code place stack

  -- the table of kinds has what stands before these lines, from a place on, and this behind them
  abbrev pub Has : ℕ → List Line → Option (List Kind) → Type 0
  Has place [] after = Behind place after
  Has place (l ∷ ls) after = Leads code place l.1 × Has (place + 1) ls after

  -- each instruction from a place on is fine over what stands before it
  abbrev pub AreFine : ℕ → List Line → Type 0
  AreFine place [] = Unit {0}
  AreFine place (l ∷ ls) = IsFine code place l.0 l.1 × AreFine (place + 1) ls

  -- where the table has these lines from a place on, this stands at the place, and the instructions are fine
  abbrev pub FormedAt : ℕ → List Line → List Kind → Option (List Kind) → Type 0
  FormedAt place ls before after = Has place ls after → Leads code place before × AreFine place ls

  abbrev pub Formed : List Line → List Kind → Option (List Kind) → Type 0
  Formed ls before after = (place : ℕ) → FormedAt place ls before after

  pub leads_at : (p q : ℕ) (s : List Kind) → p ≡ q → Leads code p s → Leads code q s
  leads_at p q s e h = subst (λ n. Leads code n s) e h

  pub fine_both : (p : ℕ) (a b : List Line) → AreFine p a → AreFine (p + length a) b → AreFine p (a ++ b)
  fine_both p [] b f g = let e : p + 0 ≡ p = omega arith in subst (λ n. AreFine n b) e g
  fine_both p (l ∷ a) b f g =
      let e : p + length (l ∷ a) ≡ p + 1 + length a = omega arith in
      (f.0, fine_both (p + 1) a b f.1 (subst (λ n. AreFine n b) e g))

  -- What stands in the table ---------------------------------------------------------------------

  pub has_back : (p : ℕ) (a b : List Line) (after : Option (List Kind)) → Has p (a ++ b) after → Has (p + length a) b after
  has_back p [] b after h = let e : p ≡ p + 0 = omega arith in subst (λ n. Has n b after) e h
  has_back p (l ∷ a) b after h =
      let e : p + 1 + length a ≡ p + length (l ∷ a) = omega arith in
      subst (λ n. Has n b after) e (has_back (p + 1) a b after h.1)

  pub has_front : (p : ℕ) (a b : List Line) (after mid : Option (List Kind)) → Has p (a ++ b) after → Behind (p + length a) mid → Has p a mid
  has_front p [] b after mid h g = let e : p + 0 ≡ p = omega arith in subst (λ n. Behind n mid) e g
  has_front p (l ∷ a) b after mid h g =
      let e : p + length (l ∷ a) ≡ p + 1 + length a = omega arith in
      (h.0, has_front (p + 1) a b after mid h.1 (subst (λ n. Behind n mid) e g))

  -- behind a stretch there stands what is known
  pub has_end : (p : ℕ) (a : List Line) (after : Option (List Kind)) → Has p a after → Behind (p + length a) after
  has_end p [] after h = let e : p ≡ p + 0 = omega arith in subst (λ n. Behind n after) e h
  has_end p (l ∷ a) after h =
      let e : p + 1 + length a ≡ p + length (l ∷ a) = omega arith in
      subst (λ n. Behind n after) e (has_end (p + 1) a after h.1)

  -- Stretches ------------------------------------------------------------------------------------

  pub none : (s : List Kind) → Formed [] s (Some s)
  none s p h = (h, tt)

  -- one instruction
  pub one : (i : Instr) (s : List Kind) (after : Option (List Kind)) → ((p : ℕ) → Behind (p + 1) after → IsFine code p i s) → Formed ((i, s) ∷ []) s after
  one i s after f p h = (h.0, (f p h.1, tt))

  -- one stretch and then another
  pub both_at : (p : ℕ) (a b : List Line) (before mid : List Kind) (after : Option (List Kind)) → FormedAt p a before (Some mid) → FormedAt (p + length a) b mid after → FormedAt p (a ++ b) before after
  both_at p a b before mid after f g h =
      let y = g (has_back p a b after h) in
      let x = f (has_front p a b after (Some mid) h y.0) in
      (x.0, fine_both p a b x.1 y.1)

  pub both : (a b : List Line) (before mid : List Kind) (after : Option (List Kind)) → Formed a before (Some mid) → Formed b mid after → Formed (a ++ b) before after
  both a b before mid after f g p h = both_at p a b before mid after (f p) (g (p + length a)) h
