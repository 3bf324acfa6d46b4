-- Parts that are kept below other operands, in two numbers each: which words these are, and where they stand (6.4.1).
use Rattle.std.proofs.Common.{◌≡◌, ℕ, zero, suc, ◌+◌, ◌*◌, List, [], ◌∷◌, ◌++◌, length, Some, refl, sym, ap, ◌∙◌, subst, append_assoc, arith}
use Rattle.std.specs.Prelude.{slice_get, slice_set}
use Rattle.ctl_program.specs.declared.types.Ty.{Ty}
use Rattle.ctl_program.specs.declared.types.Ty.TheVariants.{Integer}
use Rattle.ctl_meaning.specs.Finalization.{Spot}
use Rattle.ctl_code.specs.declared.code.Code.{Code}
use Rattle.ctl_code.specs.declared.kinds.Kind.{Kind}
use Rattle.ctl_code.specs.declared.kinds.Kind.TheVariants.{Operand, RecordValue, Block, Body, Default}
use Rattle.ctl_code.specs.States.{Word, Scalar, Located, Cells, Frame, cells_of, worth}
use Rattle.ctl_code.specs.Table.{keeping, with_values}
use Rattle.ctl_code.specs.Valid.{HaveOperands}
use Rattle.ctl_code.specs.Fits.{IsOperandOf, Stands}

-- of so many zeros one is on top
pub one_zero : (n : ℕ) (ops : List Word) → with_values (suc n) [] ops ≡ Scalar 0 ∷ with_values n [] ops
one_zero zero ops = refl
one_zero (suc n) ops = one_zero n (Scalar 0 ∷ ops)

-- a part is kept under these operands as it is where they do not stand
pub keeping_over : (above : List Word) (n : ℕ) (s : Spot) (ops : List Word) → keeping (length above + n) s (above ++ ops) ≡ above ++ keeping n s ops
keeping_over [] n s ops = let same : 0 + n ≡ n = omega arith in ap (λ m. keeping m s ops) same
keeping_over (x ∷ above) n s ops =
    let same : length (x ∷ above) + n ≡ suc (length above + n) = omega arith in
    ap (λ m. keeping m s (x ∷ (above ++ ops))) same ∙ ap (λ xs. x ∷ xs) (keeping_over above n s ops)

-- the words that keep these parts, those of the first part on top
abbrev pub words_of : List Spot → List Word
words_of [] = []
words_of (s ∷ ss) = Scalar s.offset ∷ Scalar s.object ∷ words_of ss

pub words_length : (ss : List Spot) → length (words_of ss) ≡ 2 * length ss
words_length [] = refl
words_length (s ∷ ss) = let more = words_length ss in omega (arith, more)

words_and : (ss : List Spot) (s : Spot) → words_of (ss ++ s ∷ []) ≡ words_of ss ++ Scalar s.offset ∷ Scalar s.object ∷ []
words_and [] s = refl
words_and (t ∷ ss) s = ap (λ xs. Scalar t.offset ∷ Scalar t.object ∷ xs) (words_and ss s)

-- where zeros stand below the parts that are kept so far, one more is kept
kept_next : (ss : List Spot) (n : ℕ) (s : Spot) (ops : List Word) → keeping (length (words_of ss)) s (words_of ss ++ with_values (suc (suc n)) [] ops) ≡ words_of (ss ++ s ∷ []) ++ with_values n [] ops
kept_next ss n s ops =
    let so_far = words_of ss in
    let zeros = with_values (suc (suc n)) [] ops in
    let rest = with_values n [] ops in
    let none_more : length so_far ≡ length so_far + 0 = omega arith in
    ap (λ m. keeping m s (so_far ++ zeros)) none_more
    ∙ keeping_over so_far 0 s zeros
    ∙ ap (λ xs. so_far ++ keeping 0 s xs) (one_zero (suc n) ops ∙ ap (λ xs. Scalar 0 ∷ xs) (one_zero n ops))
    ∙ sym (append_assoc so_far (Scalar s.offset ∷ Scalar s.object ∷ []) rest)
    ∙ ap (λ xs. xs ++ rest) (sym (words_and ss s))

-- and so it is under other operands
pub filled : (above : List Word) (ss : List Spot) (n : ℕ) (s : Spot) (ops : List Word) → keeping (length above + length (words_of ss)) s (above ++ (words_of ss ++ with_values (suc (suc n)) [] ops)) ≡ above ++ (words_of (ss ++ s ∷ []) ++ with_values n [] ops)
filled above ss n s ops = keeping_over above (length (words_of ss)) s (words_of ss ++ with_values (suc (suc n)) [] ops) ∙ ap (λ xs. above ++ xs) (kept_next ss n s ops)

-- the two words of one of them
pub offset_at : (ss : List Spot) (j : ℕ) (s : Spot) (ops : List Word) → slice_get ss j ≡ Some s → slice_get (words_of ss ++ ops) (2 * j) ≡ Some (Scalar s.offset)
offset_at [] j s ops is = absurd (cc is)
offset_at (t ∷ ss) zero s ops is = let same : t ≡ s = cc in ap (λ (z : Spot). Some (Scalar z.offset)) same
offset_at (t ∷ ss) (suc j) s ops is =
    let next : 2 * suc j ≡ suc (suc (2 * j)) = omega arith in
    ap (slice_get (words_of (t ∷ ss) ++ ops)) next ∙ offset_at ss j s ops is

pub object_at_pair : (ss : List Spot) (j : ℕ) (s : Spot) (ops : List Word) → slice_get ss j ≡ Some s → slice_get (words_of ss ++ ops) (2 * j + 1) ≡ Some (Scalar s.object)
object_at_pair [] j s ops is = absurd (cc is)
object_at_pair (t ∷ ss) zero s ops is = let same : t ≡ s = cc in ap (λ (z : Spot). Some (Scalar z.object)) same
object_at_pair (t ∷ ss) (suc j) s ops is =
    let next : 2 * suc j + 1 ≡ suc (suc (2 * j + 1)) = omega arith in
    ap (slice_get (words_of (t ∷ ss) ++ ops)) next ∙ object_at_pair ss j s ops is

-- What a window has of it ---------------------------------------------------------------------------

-- there are as many operands
pub kept_length : (n : ℕ) (s : Spot) (ops : List Word) → length (keeping n s ops) ≡ length ops
kept_length zero s [] = refl
kept_length zero s (x ∷ []) = refl
kept_length zero s (x ∷ y ∷ ops) = refl
kept_length (suc n) s [] = refl
kept_length (suc n) s (x ∷ ops) = ap suc (kept_length n s ops)

-- two of their cells have changed
pub kept_cells : (n : ℕ) (s : Spot) (x y : Word) (ops : List Word) → slice_get ops n ≡ Some x → slice_get ops (suc n) ≡ Some y → cells_of (keeping n s ops) ≡ slice_set (slice_set (cells_of ops) n s.offset) (suc n) s.object
kept_cells n s x y [] first second = absurd (cc first)
kept_cells zero s x y (z ∷ []) first second = absurd (cc second)
kept_cells zero s x y (z ∷ u ∷ ops) first second = refl
kept_cells (suc n) s x y (z ∷ ops) first second = ap (λ xs. worth z ∷ xs) (kept_cells n s x y ops first second)

-- Words that numbers stand for ---------------------------------------------------------------------

a_number : (ty : Ty) (x : Word) → Some (Operand ty) ≡ Some (Operand Integer) → IsOperandOf ty x → (n : ℕ) × (x ≡ Scalar n)
a_number ty (Scalar n) is o = (n, refl)
a_number ty (Located m) is o = let same : ty ≡ Integer = cc in absurd (subst (λ (t : Ty). IsOperandOf t (Located m)) same o)
a_number ty (Cells v) is o = let same : ty ≡ Integer = cc in absurd (subst (λ (t : Ty). IsOperandOf t (Cells v)) same o)

-- where a part can be kept there stand two values, so no part is lost there
pub kept_scalars : (code : Code) (n : ℕ) (stack : List Kind) (k : List Frame) (ops : List Word) → HaveOperands (suc (suc n)) stack → slice_get stack n ≡ Some (Operand Integer) → slice_get stack (suc n) ≡ Some (Operand Integer) → Stands code stack k ops → (x : ℕ) × (y : ℕ) × (slice_get ops n ≡ Some (Scalar x)) × (slice_get ops (suc n) ≡ Some (Scalar y))
kept_scalars code zero (Operand t ∷ Operand u ∷ stack) k (x ∷ y ∷ ops) h first second s =
    let a = a_number t x first s.0 in
    let b = a_number u y second s.1.0 in
    (a.0, b.0, ap (λ (z : Word). Some z) a.1, ap (λ (z : Word). Some z) b.1)
kept_scalars code zero (Operand t ∷ Operand u ∷ stack) k (x ∷ []) h first second s = absurd s.1
kept_scalars code zero (Operand t ∷ Operand u ∷ stack) k [] h first second s = absurd s
kept_scalars code zero (Operand t ∷ []) k ops h first second s = absurd h
kept_scalars code zero (Operand t ∷ RecordValue ∷ stack) k ops h first second s = absurd h
kept_scalars code zero (Operand t ∷ Block slots ∷ stack) k ops h first second s = absurd h
kept_scalars code zero (Operand t ∷ Body level slots number ∷ stack) k ops h first second s = absurd h
kept_scalars code zero (Operand t ∷ Default level number ∷ stack) k ops h first second s = absurd h
kept_scalars code (suc n) (Operand t ∷ stack) k (x ∷ ops) h first second s = kept_scalars code n stack k ops h first second s.1
kept_scalars code (suc n) (Operand t ∷ stack) k [] h first second s = absurd s
kept_scalars code n [] k ops h first second s = absurd h
kept_scalars code n (RecordValue ∷ stack) k ops h first second s = absurd h
kept_scalars code n (Block slots ∷ stack) k ops h first second s = absurd h
kept_scalars code n (Body level slots number ∷ stack) k ops h first second s = absurd h
kept_scalars code n (Default level number ∷ stack) k ops h first second s = absurd h
