-- Numbers on top of what stands in a window.
use Rattle.std.proofs.Common.{◌≡◌, ℕ, zero, suc, ◌+◌, ◌<◌, List, [], ◌∷◌, refl, sym, ap, ◌∙◌, subst, arith}
use Rattle.std.specs.Prelude.{drop}
use Rattle.ctl_program.specs.declared.types.Ty.TheVariants.{Integer, Count, Boolean, Address, Handle, Access, Record}
use Rattle.ctl_code.specs.declared.kinds.Kind.{Kind}
use Rattle.ctl_code.specs.declared.kinds.Kind.TheVariants.{Operand, RecordValue, Block, Body, Default}
use Rattle.ctl_code.specs.Valid.{HaveNumbers, over_numbers}

-- where so many stand on top, each of them is one
pub number_at : (n i : ℕ) (stack : List Kind) → i < n → HaveNumbers n stack → drop i stack ≡ Operand Integer ∷ drop (i + 1) stack
number_at zero i stack lt h = absurd (omega (arith, lt))
number_at (suc n) i [] lt h = absurd h
number_at (suc n) i (RecordValue ∷ stack) lt h = absurd h
number_at (suc n) i (Block slots ∷ stack) lt h = absurd h
number_at (suc n) i (Body level slots number ∷ stack) lt h = absurd h
number_at (suc n) i (Default level number ∷ stack) lt h = absurd h
number_at (suc n) i (Operand Count ∷ stack) lt h = absurd h
number_at (suc n) i (Operand Boolean ∷ stack) lt h = absurd h
number_at (suc n) i (Operand Address ∷ stack) lt h = absurd h
number_at (suc n) i (Operand Handle ∷ stack) lt h = absurd h
number_at (suc n) i (Operand (Access a) ∷ stack) lt h = absurd h
number_at (suc n) i (Operand (Record t) ∷ stack) lt h = absurd h
number_at (suc n) zero (Operand Integer ∷ stack) lt h = refl
number_at (suc n) (suc i) (Operand Integer ∷ stack) lt h = let same : suc i + 1 ≡ suc (i + 1) = omega arith in rw same (number_at n i stack (omega (arith, lt)) h)

-- one more below those so far
pub one_number : (n : ℕ) (stack rest : List Kind) → HaveNumbers n stack → drop n stack ≡ Operand Integer ∷ rest → HaveNumbers (n + 1) stack
one_number zero stack rest h e = subst (HaveNumbers 1) (sym e) tt
one_number (suc n) [] rest h e = absurd h
one_number (suc n) (RecordValue ∷ stack) rest h e = absurd h
one_number (suc n) (Block slots ∷ stack) rest h e = absurd h
one_number (suc n) (Body level slots number ∷ stack) rest h e = absurd h
one_number (suc n) (Default level number ∷ stack) rest h e = absurd h
one_number (suc n) (Operand Count ∷ stack) rest h e = absurd h
one_number (suc n) (Operand Boolean ∷ stack) rest h e = absurd h
one_number (suc n) (Operand Address ∷ stack) rest h e = absurd h
one_number (suc n) (Operand Handle ∷ stack) rest h e = absurd h
one_number (suc n) (Operand (Access a) ∷ stack) rest h e = absurd h
one_number (suc n) (Operand (Record t) ∷ stack) rest h e = absurd h
one_number (suc n) (Operand Integer ∷ stack) rest h e = let same : suc n + 1 ≡ suc (n + 1) = omega arith in rw same (one_number n stack rest h e)

-- the last of them is on top
pub numbers_end : (n : ℕ) (stack : List Kind) → over_numbers n (Operand Integer ∷ stack) ≡ Operand Integer ∷ over_numbers n stack
numbers_end zero stack = refl
numbers_end (suc n) stack = numbers_end n (Operand Integer ∷ stack)

pub have_over : (n : ℕ) (stack : List Kind) → HaveNumbers n (over_numbers n stack)
have_over zero stack = tt
have_over (suc n) stack = subst (HaveNumbers (suc n)) (sym (numbers_end n stack)) (have_over n stack)

pub below_over : (n : ℕ) (stack : List Kind) → drop n (over_numbers n stack) ≡ stack
below_over zero stack = refl
below_over (suc n) stack = ap (drop (suc n)) (numbers_end n stack) ∙ below_over n stack

pub over_below : (n : ℕ) (stack below : List Kind) → HaveNumbers n stack → drop n stack ≡ below → stack ≡ over_numbers n below
over_below zero stack below h e = e
over_below (suc n) [] below h e = absurd h
over_below (suc n) (RecordValue ∷ stack) below h e = absurd h
over_below (suc n) (Block slots ∷ stack) below h e = absurd h
over_below (suc n) (Body level slots number ∷ stack) below h e = absurd h
over_below (suc n) (Default level number ∷ stack) below h e = absurd h
over_below (suc n) (Operand Count ∷ stack) below h e = absurd h
over_below (suc n) (Operand Boolean ∷ stack) below h e = absurd h
over_below (suc n) (Operand Address ∷ stack) below h e = absurd h
over_below (suc n) (Operand Handle ∷ stack) below h e = absurd h
over_below (suc n) (Operand (Access a) ∷ stack) below h e = absurd h
over_below (suc n) (Operand (Record t) ∷ stack) below h e = absurd h
over_below (suc n) (Operand Integer ∷ stack) below h e = ap (λ s. Operand Integer ∷ s) (over_below n stack below h e) ∙ sym (numbers_end n below)
