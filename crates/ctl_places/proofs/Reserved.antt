-- Numbers are reserved below actuals, all of them 0 (6.4.1).
use Rattle.std.proofs.Common.{◌≡◌, ℕ, zero, suc, ◌+◌, ◌<◌, ◌≤◌, List, [], ◌∷◌, Some, length, sym, ap, subst, arith, reverse}
use Rattle.std.specs.Prelude.{slice_set}
use Rattle.ctl_program.specs.declared.types.Ty.TheVariants.{Integer}
use Rattle.ctl_meaning.specs.World.{World}
use Rattle.ctl_code.specs.declared.kinds.Kind.{Kind}
use Rattle.ctl_code.specs.declared.kinds.Kind.TheVariants.{Operand}
use Rattle.ctl_code.specs.declared.code.Code.{Code}
use Rattle.ctl_code.specs.declared.code.Instr.TheVariants.{Reserve}
use Rattle.ctl_code.specs.States as T
use Rattle.ctl_code.specs.States.{Word, Scalar, State}
use Rattle.ctl_code.specs.Table.{by_instr, with_values}
use Rattle.ctl_code.specs.Valid.{IsValid, over_numbers}
use Rattle.ctl_code.specs.Windows.{height}
use Rattle.ctl_code.proofs.Keeping.{one_zero}
use Rattle.ctl_code.proofs.Numbered.{numbers_end}
use Rattle.ctl_engine.specs.declared.engine.Engine.{Engine}
use Rattle.ctl_frames.specs.declared.frame.Mode.TheVariants as ModeOf
use Rattle.ctl_frames.specs.Masters.{first_window}
use Rattle.ctl_engine.specs.Moves.{Before, GoesOn, Inside, Makes, cleared, here_of}
use Rattle.ctl_engine.specs.Shows.{Kept, kept, with_cells}
use Rattle.ctl_engine.proofs.Cleared.{length_cleared}
use Rattle.ctl_engine.proofs.Places.{place_is}
use Rattle.ctl_engine.proofs.Plain.{goes_makes}
use Rattle.ctl_engine.proofs.Values.{operand_put, room_for, window_in}

-- a zero becomes the newest operand
zero_stands : (code : Code) (e : Kept) (stack : List Kind) (k : List T.Frame) (ops : List Word) (w : World) (at : ℕ) → Inside code e stack k ops w → at ≡ first_window e.masters + height stack → at < length e.cells
    → Inside code (with_cells e (slice_set e.cells at 0)) (Operand Integer ∷ stack) k (Scalar 0 ∷ ops) w
zero_stands code e stack k ops w at i is within =
    let here = place_is (window_in i) in
    record { stands = (tt, i.stands); sized = i.sized; holds = operand_put code e k ops w (Scalar 0) at i.holds (omega (arith, here, is)) within; spots = i.spots }

-- so many numbers take as many cells
height_over : (n : ℕ) (stack : List Kind) → height (over_numbers n stack) ≡ height stack + n
height_over zero stack = omega arith
height_over (suc n) stack = let ih = height_over n (Operand Integer ∷ stack) in omega (arith, ih)

-- so many of them do, the last one on top
zeros_stand : (code : Code) (e : Kept) (n : ℕ) (stack : List Kind) (k : List T.Frame) (ops : List Word) (w : World) (base : ℕ) → Inside code e stack k ops w → base ≡ first_window e.masters + height stack → base + n ≤ length e.cells
    → Inside code (with_cells e (cleared base n e.cells)) (over_numbers n stack) k (with_values n [] ops) w
zeros_stand code e zero stack k ops w base i is within = i
zeros_stand code e (suc n) stack k ops w base i is within =
    let so_far = with_cells e (cleared base n e.cells) in
    let all = with_cells e (slice_set (cleared base n e.cells) (base + n) 0) in
    let ih = zeros_stand code e n stack k ops w base i is (omega (arith, within)) in
    let high = height_over n stack in
    let long = length_cleared base n e.cells in
    let next = zero_stands code so_far (over_numbers n stack) k (with_values n [] ops) w (base + n) ih (omega (arith, is, high)) (omega (arith, within, long)) in
    subst (λ (s : List Kind). Inside code all s k (with_values (suc n) [] ops) w) (sym (numbers_end n stack))
    (subst (λ (xs : List Word). Inside code all (Operand Integer ∷ over_numbers n stack) k xs w) (sym (one_zero n ops)) next)

-- there is room for them
pub numbers_within : (code : Code) (e : Engine) (place count at : ℕ) (s : State) → IsValid code → Before code e place (Reserve count at) s → (first_window (reverse e.masters.items) + at) + count ≤ length e.cells.items
numbers_within code e place count at s valid b =
    let room = room_for code.room (reverse e.masters.items) (length e.cells.items) b.inside.holds.room in
    let fits = valid.room (place + 1) (over_numbers count b.stack) b.fine.1 in
    let high = height_over count b.stack in
    let first = b.fine.0 in
    omega (arith, room, fits, high, first)

pub reserve_makes : (code : Code) (old new : Engine) (place count at : ℕ) (s : State) → IsValid code → Before code old place (Reserve count at) s → GoesOn old new (ModeOf.At (place + 1)) (cleared (first_window (reverse old.masters.items) + at) count old.cells.items)
    → Makes code old new (by_instr code (Some (Reserve count at)) s.operands (here_of place s))
reserve_makes code old new place count at s valid b g =
    let first = first_window (reverse old.masters.items) in
    let base = first + at in
    let i = zeros_stand code (kept old) count b.stack s.control s.operands s.world base b.inside (ap (λ n. first + n) b.fine.0) (numbers_within code old place count at s valid b) in
    goes_makes code old new (place + 1) (over_numbers count b.stack) s.control (with_values count [] s.operands) s.world (cleared base count old.cells.items) b.fine.1 i g
