-- A copy goes back to a component of a part that is kept in two numbers (6.4.1).
use Rattle.std.proofs.Common.{◌≡◌, ℕ, suc, ◌+◌, ◌-◌, ◌<◌, List, Option, Some, None, drop, length, refl, sym, ap, ◌∙◌, subst, arith, reverse}
use Rattle.std.specs.Prelude.{slice_get}
use Rattle.std.proofs.lemmas.Option.{slice_get_within}
use Rattle.ctl_tree.specs.declared.ending.Stop.TheVariants.{UseAfterFree}
use Rattle.ctl_meaning.specs.World as W
use Rattle.ctl_meaning.specs.Finalization.{Spot}
use Rattle.ctl_meaning.specs.Objects.{object_in}
use Rattle.ctl_meaning.specs.Changes.{object_at}
use Rattle.ctl_code.specs.declared.kinds.Kind.{Kind}
use Rattle.ctl_code.specs.declared.code.Code.{Code}
use Rattle.ctl_code.specs.declared.code.Instr.TheVariants.{CopyBackPart}
use Rattle.ctl_code.specs.States.{Word, Scalar, Move, State}
use Rattle.ctl_code.specs.Table.{by_copy_back_part, by_instr, offset_of, stored}
use Rattle.ctl_code.specs.Valid.{HaveNumbers}
use Rattle.ctl_code.specs.Windows.{height}
use Rattle.ctl_code.proofs.Fitting.{fewer_numbers}
use Rattle.ctl_code.proofs.Numbered.{number_at}
use Rattle.ctl_engine.specs.declared.engine.Engine.{Engine}
use Rattle.ctl_frames.specs.declared.frame.Mode.TheVariants as ModeOf
use Rattle.ctl_frames.specs.Masters.{first_window}
use Rattle.ctl_engine.specs.Moves.{Before, GoesOn, Inside, Makes, here_of}
use Rattle.ctl_engine.specs.Shows.{kept, with_spots}
use Rattle.ctl_frames.specs.Spots.{standing}
use Rattle.ctl_engine.proofs.Computed.{same_value}
use Rattle.ctl_places.proofs.CopiesBack.{IsCopy, is_copy}
use Rattle.ctl_engine.proofs.Operands.{other_spots}
use Rattle.ctl_engine.proofs.Owned.{object_shown}
use Rattle.ctl_places.proofs.PartStored.{stored_in, stored_makes}
use Rattle.ctl_places.proofs.Touched.{gone_makes}
use Rattle.ctl_places.proofs.ValueGiven.{IsRead}

-- the copy, and the part by its first cell and its object
record ArePassed (e : Engine) (depth at below base : ℕ) (ops : List Word) : Type 0 where
  copy : IsCopy (kept e) (depth - 1) at ops
  first : IsCopy (kept e) (below - 2) (base + 1) ops
  object : IsCopy (kept e) (below - 1) base ops

-- the upper of the last two of so many numbers stands in the next cell
next_cell : (n base : ℕ) (stack : List Kind) → HaveNumbers (suc (suc n)) stack → base ≡ height (drop (suc (suc n)) stack) → base + 1 ≡ height (drop (suc n) stack)
next_cell n base stack numbers is =
    let less : suc n < suc (suc n) = omega arith in
    let same : suc n + 1 ≡ suc (suc n) = omega arith in
    ap (λ m. m + 1) (is ∙ ap (λ m. height (drop m stack)) (sym same)) ∙ sym (ap height (number_at (suc (suc n)) (suc n) stack less numbers))

are_passed : (code : Code) (e : Engine) (place depth at below base t position : ℕ) (s : State) → Before code e place (CopyBackPart depth at below base t position) s → ArePassed e depth at below base s.operands
are_passed code e place depth at below base t position s b =
    let n = below - 2 in
    let some = b.fine.0 in
    let two = b.fine.2 in
    let one : depth ≡ suc (depth - 1) = omega (arith, some) in
    let all : below ≡ suc (suc n) = omega (arith, two) in
    let last : below - 1 ≡ suc n = omega (arith, two) in
    let numbers = subst (λ m. HaveNumbers m b.stack) all b.fine.3.0 in
    let cell : base ≡ height (drop (suc (suc n)) b.stack) = b.fine.3.1 ∙ ap (λ m. height (drop m b.stack)) all in
    record {
      copy = is_copy code (kept e) (depth - 1) at b.stack s.control s.operands s.world (subst (λ m. HaveNumbers m b.stack) one b.fine.1.0) b.inside (b.fine.1.1 ∙ ap (λ m. height (drop m b.stack)) one);
      first = is_copy code (kept e) n (base + 1) b.stack s.control s.operands s.world (fewer_numbers (suc n) b.stack numbers) b.inside (next_cell n base b.stack numbers cell);
      object = subst (λ m. IsCopy (kept e) m base s.operands) (sym last) (is_copy code (kept e) (suc n) base b.stack s.control s.operands s.world numbers b.inside cell);
    }

-- a cell that is read is there
read_within : (e : Engine) (n at : ℕ) (ops : List Word) → IsCopy (kept e) n at ops → first_window (reverse e.masters.items) + at < length e.cells.items
read_within e n at ops c = slice_get_within e.cells.items (first_window (reverse e.masters.items) + at) c.value c.read

pub copy_there : (code : Code) (e : Engine) (place depth at below base t position : ℕ) (s : State) → Before code e place (CopyBackPart depth at below base t position) s → first_window (reverse e.masters.items) + at < length e.cells.items
copy_there code e place depth at below base t position s b = read_within e (depth - 1) at s.operands (are_passed code e place depth at below base t position s b).copy

pub first_there : (code : Code) (e : Engine) (place depth at below base t position : ℕ) (s : State) → Before code e place (CopyBackPart depth at below base t position) s → first_window (reverse e.masters.items) + (base + 1) < length e.cells.items
first_there code e place depth at below base t position s b = read_within e (below - 2) (base + 1) s.operands (are_passed code e place depth at below base t position s b).first

pub object_there : (code : Code) (e : Engine) (place depth at below base t position : ℕ) (s : State) → Before code e place (CopyBackPart depth at below base t position) s → first_window (reverse e.masters.items) + base < length e.cells.items
object_there code e place depth at below base t position s b = read_within e (below - 1) base s.operands (are_passed code e place depth at below base t position s b).object

-- what was read
same_copy : (e : Engine) (n at x : ℕ) (ops : List Word) → (c : IsCopy (kept e) n at ops) → IsRead e at x → slice_get ops n ≡ Some (Scalar x)
same_copy e n at x ops c read = c.operand ∙ ap (λ y. Some (Scalar y)) (same_value c.value x (slice_get e.cells.items (first_window (reverse e.masters.items) + at)) c.read read)

-- what the table makes of it, once the three are read
back_move : (code : Code) (e : Engine) (place depth at below base t position copy first object offset : ℕ) (s : State) → Before code e place (CopyBackPart depth at below base t position) s → IsRead e at copy → IsRead e (base + 1) first → IsRead e base object
    → (t' position' : ℕ) → offset ≡ offset_of code t' position'
    → by_instr code (Some (CopyBackPart depth at below base t' position')) s.operands (here_of place s) ≡ stored object (first + offset) copy (object_at object s.world) s.operands (here_of place s)
back_move code e place depth at below base t position copy first object offset s b copy_read first_read object_read t' position' same =
    let p = are_passed code e place depth at below base t position s b in
    let ops = s.operands in
    let h = here_of place s in
    let by = by_copy_back_part (offset_of code t' position') in
    ap (λ (x : Option Word). by x (slice_get ops (below - 2)) (slice_get ops (below - 1)) ops h) (same_copy e (depth - 1) at copy ops p.copy copy_read)
    ∙ (ap (λ (x : Option Word). by (Some (Scalar copy)) x (slice_get ops (below - 1)) ops h) (same_copy e (below - 2) (base + 1) first ops p.first first_read)
    ∙ (ap (λ (x : Option Word). by (Some (Scalar copy)) (Some (Scalar first)) x ops h) (same_copy e (below - 1) base object ops p.object object_read)
    ∙ ap (λ n. stored object (first + n) copy (object_at object s.world) ops h) (sym same)))

-- the object is there
pub back_makes : (code : Code) (old new : Engine) (place depth at below base t position copy first object offset : ℕ) (s : State) (o : W.Object) → Before code old place (CopyBackPart depth at below base t position) s → IsRead old at copy → IsRead old (base + 1) first → IsRead old base object
    → object_in object old.stock.objects ≡ Some o → new.mode ≡ ModeOf.At (place + 1) → kept new ≡ stored_in object (first + offset) copy (kept old) → new.events.items ≡ old.events.items → new.picks.items ≡ old.picks.items
    → (t' position' : ℕ) → offset ≡ offset_of code t' position' → Makes code old new (by_instr code (Some (CopyBackPart depth at below base t' position')) s.operands (here_of place s))
back_makes code old new place depth at below base t position copy first object offset s o b copy_read first_read object_read there mode kept_is events picks t' position' same =
    let spots = standing s.control s.operands in
    let left : Inside code (with_spots (kept old) spots) b.stack s.control s.operands s.world = record {
      stands = b.inside.stands;
      sized = b.inside.sized;
      holds = other_spots code (kept old) spots s.control s.operands s.world b.inside.holds;
      spots = refl;
    } in
    let stays = ap (λ (l : List Spot). with_spots (stored_in object (first + offset) copy (kept old)) l) b.inside.spots in
    subst (λ (m : Move). Makes code old new m) (sym (back_move code old place depth at below base t position copy first object offset s b copy_read first_read object_read t' position' same))
    (stored_makes code old new place b.stack s.control s.operands s.world object (first + offset) copy o b.fine.4 left there mode (kept_is ∙ stays) events picks)

-- it has ceased to exist
pub back_gone : (code : Code) (old new : Engine) (place depth at below base t position copy first object offset : ℕ) (s : State) → Before code old place (CopyBackPart depth at below base t position) s → IsRead old at copy → IsRead old (base + 1) first → IsRead old base object
    → object_in object old.stock.objects ≡ None → GoesOn old new (ModeOf.Stopped UseAfterFree) old.cells.items
    → (t' position' : ℕ) → offset ≡ offset_of code t' position' → Makes code old new (by_instr code (Some (CopyBackPart depth at below base t' position')) s.operands (here_of place s))
back_gone code old new place depth at below base t position copy first object offset s b copy_read first_read object_read none goes t' position' same =
    let gone = object_shown code (kept old) s.control s.operands s.world object b.inside.holds ∙ none in
    subst (λ (m : Move). Makes code old new m)
    (sym (back_move code old place depth at below base t position copy first object offset s b copy_read first_read object_read t' position' same ∙ ap (λ (z : Option W.Object). stored object (first + offset) copy z s.operands (here_of place s)) gone))
    (gone_makes code old new s.control s.operands s.world b.inside.holds goes)
