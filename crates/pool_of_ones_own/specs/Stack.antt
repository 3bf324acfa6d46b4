-- What a contract sees of a pool whose Blocks come back in the reverse order.
use Rattle.std.specs.Prelude.{◌≡◌, refl, ℕ, ◌+◌, ◌-◌, ◌≤◌, length}
use Rattle.std.specs.Coded.{Coded, code_by, coded×, coded_ℕ}
use Rattle.raw_region.specs.Places.{Home, home_code, Region, Cut, AreHeld}

-- Which region its words lie in, how many there are, and how many are used.
pub record Stack : Type 0 where
  pub home : Home
  pub size : ℕ
  pub used : ℕ

-- How the logic stores it: as a tuple of its fields.
abbrev pub stack_code : Coded Stack
stack_code =
    code_by (Home × (ℕ × ℕ)) (coded× home_code (coded× coded_ℕ coded_ℕ)) (λ p. (p.home, (p.size, p.used))) (λ t. record { home = t.0; size = t.1.0; used = t.1.1 }) (λ _. refl)

-- The pool with another number of words used.
abbrev pub with_used : Stack → ℕ → Stack
with_used p n = record p { used = n }

-- b has the last of the words that are used.
abbrev pub IsTop : Stack → Cut → Type 0
IsTop p b = (b.home ≡ p.home) × (b.start + length b.words ≡ p.used)

-- The region has `size` words, and those that are not used are in it.
pub record Keeps (r : Region) (size used : ℕ) : Type 0 where
  pub places : length r.places ≡ size
  pub fits : used ≤ size
  pub rest : AreHeld r.places used (size - used)
