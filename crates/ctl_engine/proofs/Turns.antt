-- The turns of a loop with a parameter.
use Rattle.std.proofs.Common.{◌≡◌, ℕ, ◌+◌, ◌-◌, ◌^◌, ◌<◌, List, [], ◌∷◌, Option, Some, None, Bool, true, false, refl, sym, ap, ◌∙◌, subst, arith, reverse}
use Rattle.std.specs.Prelude.{MatchOption, ℤ, pos, negsuc, ◌≤ℤ◌, ◌+ℤ◌, ◌-ℤ◌, int_le, int_lt, nat_lt, if◌then◌else◌, slice_get, slice_set}
use Rattle.std.proofs.lemmas.Bool.Decides.{nat_tests}
use Rattle.std.proofs.lemmas.Int.{ints}
use Rattle.ctl_program.specs.declared.types.Ty.TheVariants.{Integer}
use Rattle.ctl_program.specs.declared.operators.Direction.{Direction}
use Rattle.ctl_program.specs.declared.operators.Direction.TheVariants.{Upward, Downward}
use Rattle.ctl_meaning.specs.Numbers.{signed, cell_of}
use Rattle.ctl_code.specs.declared.kinds.Kind.{Kind}
use Rattle.ctl_code.specs.declared.kinds.Kind.TheVariants.{Operand}
use Rattle.ctl_code.specs.declared.code.Code.{Code}
use Rattle.ctl_code.specs.declared.code.Instr.TheVariants.{For, Next}
use Rattle.ctl_code.specs.States.{Word, Scalar, Move, State, At}
use Rattle.ctl_code.specs.Table.{Here, by_instr, by_for, by_next, bounds_after, in_turn, quiet, with_parameter}
use Rattle.ctl_code.specs.Valid.{Leads}
use Rattle.ctl_engine.specs.declared.engine.Engine.{Engine}
use Rattle.ctl_frames.specs.declared.frame.Mode.TheVariants as ModeOf
use Rattle.ctl_frames.specs.Masters.{heads_of, first_display, first_window}
use Rattle.ctl_engine.specs.Shows.{Kept, kept}
use Rattle.ctl_engine.specs.Moves.{Before, Makes, GoesOn, here_of}
use Rattle.ctl_engine.specs.Turns.{counted, start, following, first_value, next_value}
use Rattle.ctl_engine.proofs.Plain.{goes_makes}
use Rattle.ctl_engine.proofs.Computed.{same_value}
use Rattle.ctl_engine.proofs.Bounds.{IsLoop, is_loop, upper_of, lower_of, turn_goes}

-- Cells -------------------------------------------------------------------------------------------------

-- a cell is the cell of its number
cell_stays : (n : ℕ) → n < 2 ^ 64 → cell_of (signed n) ≡ n
unfolding signed cell_of
cell_stays n h = one (nat_lt n (2 ^ 63)) refl
  where
    one : (b : Bool) → nat_lt n (2 ^ 63) ≡ b → cell_of (if b then pos n else negsuc (2 ^ 64 - 1 - n)) ≡ n
    one true e = refl
    one false e = omega (arith, h)

number_fits : (n : ℕ) → signed n ≤ℤ pos (2 ^ 63)
unfolding signed
number_fits n = grind (arith, nat_tests, ints)

cell_fits : (z : ℤ) → z ≤ℤ pos (2 ^ 63 + 1) → cell_of z < 2 ^ 64
unfolding cell_of
cell_fits (pos n) h = omega (arith, ints, h)
cell_fits (negsuc n) h = omega arith

following_fits : (way : Direction) (a b : ℕ) → following way a b < 2 ^ 64
following_fits Upward a b = cell_fits (signed a +ℤ pos 1) (omega (arith, ints, number_fits a))
following_fits Downward a b = cell_fits (signed b -ℤ pos 1) (omega (arith, ints, number_fits b))

-- Turns of the table --------------------------------------------------------------------------------------

-- the operands and the world of a turn with this value
abbrev turn_of : Direction → ℕ → ℕ → ℕ → ℕ → ℕ → List Word → Here → Move
turn_of way slot a b x place ops h = quiet (At h.display place) h.control (Scalar (upper_of way x b) ∷ Scalar (lower_of way x a) ∷ ops) (with_parameter h.display slot x h.world)

-- the first turn: the bounds stay
first_turn : (way : Direction) (slot a b place : ℕ) (ops : List Word) (h : Here) → a < 2 ^ 64 → b < 2 ^ 64 → in_turn way slot (b ∷ a ∷ []) place ops h ≡ turn_of way slot a b (start way a b) place ops h
first_turn Upward slot a b place ops h fa fb = rw (cell_stays a fa) refl
first_turn Downward slot a b place ops h fa fb = rw (cell_stays b fb) refl

-- each other turn
next_turn : (way : Direction) (slot a b place : ℕ) (ops : List Word) (h : Here) → in_turn way slot (bounds_after way a b) place ops h ≡ turn_of way slot a b (following way a b) place ops h
next_turn Upward slot a b place ops h = rw (cell_stays (following Upward a b) (following_fits Upward a b)) refl
next_turn Downward slot a b place ops h = rw (cell_stays (following Downward a b) (following_fits Downward a b)) refl

-- The instructions --------------------------------------------------------------------------------------

-- a turn with this value, or none
abbrev pub BeginsTurn : Engine → Engine → Option ℕ → ℕ → ℕ → ℕ → ℕ → Type 0
BeginsTurn old new value bound parameter inside behind =
    MatchOption value (GoesOn old new (ModeOf.At behind) old.cells.items) (λ x. GoesOn old new (ModeOf.At inside) (slice_set (slice_set old.cells.items (first_window (reverse old.masters.items) + bound) x) (first_window (reverse old.masters.items) + parameter) x))

loop_goes : (code : Code) (old new : Engine) (low slot parameter inside behind : ℕ) (way : Direction) (below : List Kind) (s : State) (place x : ℕ) (turns : Bool) (turn : Move) → (l : IsLoop code (kept old) low slot parameter below s.control s.operands s.world)
    → turn ≡ turn_of way slot l.bounds.lower l.bounds.upper x inside l.bounds.rest (here_of place s) → Leads code inside (Operand Integer ∷ Operand Integer ∷ below) → Leads code behind below
    → BeginsTurn old new (if turns then Some x else None) (counted way low) parameter inside behind
    → Makes code old new (if turns then turn else quiet (At (first_display (heads_of s.world.activations)) behind) s.control l.bounds.rest s.world)
loop_goes code old new low slot parameter inside behind way below s place x true turn l is leads out g =
    subst (λ (m : Move). Makes code old new m) (sym is) (turn_goes code old new inside low slot parameter way below s.control s.operands s.world x l leads g)
loop_goes code old new low slot parameter inside behind way below s place x false turn l is leads out g =
    goes_makes code old new behind below s.control l.bounds.rest s.world old.cells.items out l.bounds.left g

-- what was read of the bounds
pub record AreRead (e : Kept) (low a b : ℕ) : Type 0 where
  pub first : slice_get e.cells (first_window e.masters + low) ≡ Some a
  pub last : slice_get e.cells (first_window e.masters + (low + 1)) ≡ Some b
  pub first_fits : a < 2 ^ 64
  pub last_fits : b < 2 ^ 64

pub for_loop : (code : Code) (e : Engine) (place low slot parameter count : ℕ) (way : Direction) (s : State) → (b : Before code e place (For low slot parameter way count) s) → IsLoop code (kept e) low slot parameter b.fine.0 s.control s.operands s.world
for_loop code e place low slot parameter count way s b = is_loop code (kept e) low slot parameter b.stack s.control s.operands s.world _ b.inside b.fine

pub next_loop : (code : Code) (e : Engine) (place low slot parameter count : ℕ) (way : Direction) (s : State) → (b : Before code e place (Next low slot parameter way count) s) → IsLoop code (kept e) low slot parameter b.fine.1.0 s.control s.operands s.world
next_loop code e place low slot parameter count way s b = is_loop code (kept e) low slot parameter b.stack s.control s.operands s.world _ b.inside b.fine.1

pub for_makes : (code : Code) (old new : Engine) (place low slot parameter count : ℕ) (way : Direction) (s : State) (a b : ℕ) (value : Option ℕ) → Before code old place (For low slot parameter way count) s → AreRead (kept old) low a b → value ≡ first_value way a b
    → BeginsTurn old new value (counted way low) parameter (place + 2) (place + 1 + count)
    → Makes code old new (by_instr code (Some (For low slot parameter way count)) s.operands (here_of place s))
for_makes code old new place low slot parameter count way s a b value before r is g =
    let l = for_loop code old place low slot parameter count way s before in
    let x = l.bounds.lower in
    let y = l.bounds.upper in
    let first : a ≡ x = same_value a x _ r.first l.bounds.lower_read in
    let last : b ≡ y = same_value b y _ r.last l.bounds.upper_read in
    let leads : Leads code (place + 2) (Operand Integer ∷ Operand Integer ∷ before.fine.0) = subst (λ (z : List Kind). Leads code (place + 2) z) before.fine.1 before.fine.2.2.0 in
    let value_is : value ≡ first_value way x y = is ∙ (ap (λ z. first_value way z b) first ∙ ap (λ z. first_value way x z) last) in
    let turn = first_turn way slot x y (place + 2) l.bounds.rest (here_of place s) (subst (λ z. z < 2 ^ 64) first r.first_fits) (subst (λ z. z < 2 ^ 64) last r.last_fits) in
    subst (λ xs. Makes code old new (by_for way slot count xs (here_of place s))) (sym l.bounds.are)
    (loop_goes code old new low slot parameter (place + 2) (place + 1 + count) way before.fine.0 s place (start way x y) (int_le (signed x) (signed y)) _ l turn leads before.fine.2.2.1
    (subst (λ (v : Option ℕ). BeginsTurn old new v (counted way low) parameter (place + 2) (place + 1 + count)) value_is g))

pub next_makes : (code : Code) (old new : Engine) (place low slot parameter count : ℕ) (way : Direction) (s : State) (a b : ℕ) (value : Option ℕ) → Before code old place (Next low slot parameter way count) s → AreRead (kept old) low a b → value ≡ next_value way a b
    → BeginsTurn old new value (counted way low) parameter (place - count) (place + 1)
    → Makes code old new (by_instr code (Some (Next low slot parameter way count)) s.operands (here_of place s))
next_makes code old new place low slot parameter count way s a b value before r is g =
    let l = next_loop code old place low slot parameter count way s before in
    let x = l.bounds.lower in
    let y = l.bounds.upper in
    let first : a ≡ x = same_value a x _ r.first l.bounds.lower_read in
    let last : b ≡ y = same_value b y _ r.last l.bounds.upper_read in
    let leads : Leads code (place - count) (Operand Integer ∷ Operand Integer ∷ before.fine.1.0) = subst (λ (z : List Kind). Leads code (place - count) z) before.fine.1.1 before.fine.1.2.2.0 in
    let value_is : value ≡ next_value way x y = is ∙ (ap (λ z. next_value way z b) first ∙ ap (λ z. next_value way x z) last) in
    let turn = next_turn way slot x y (place - count) l.bounds.rest (here_of place s) in
    subst (λ xs. Makes code old new (by_next way slot count xs (here_of place s))) (sym l.bounds.are)
    (loop_goes code old new low slot parameter (place - count) (place + 1) way before.fine.1.0 s place (following way x y) (int_lt (signed x) (signed y)) _ l turn leads before.fine.1.2.2.1
    (subst (λ (v : Option ℕ). BeginsTurn old new v (counted way low) parameter (place - count) (place + 1)) value_is g))
