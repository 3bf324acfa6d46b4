-- The value of a record stays an operand while an Allocate is executed (4.8, 13.11).
use Rattle.std.proofs.Common.{◌≡◌, ℕ, ◌+◌, ◌<◌, List, [], ◌∷◌, ◌++◌, Some, drop, length, sym, ap, ◌∙◌, subst, arith, reverse}
use Rattle.std.specs.Prelude.{slice_set}
use Rattle.std.proofs.lemmas.List.{append_assoc}
use Rattle.ctl_program.specs.declared.types.Ty.{Ty}
use Rattle.ctl_program.specs.declared.types.Ty.TheVariants.{Record}
use Rattle.ctl_meaning.specs.World.{InBlock, World}
use Rattle.ctl_tree.specs.declared.ending.Stop.{Stop}
use Rattle.ctl_code.specs.declared.kinds.Kind.{Kind}
use Rattle.ctl_code.specs.declared.kinds.Kind.TheVariants.{RecordValue}
use Rattle.ctl_code.specs.declared.code.Code.{Code}
use Rattle.ctl_code.specs.declared.code.Instr.TheVariants.{NewCopy, NewCopyIn}
use Rattle.ctl_code.specs.States as T
use Rattle.ctl_code.specs.States.{Cells, State, Word}
use Rattle.ctl_code.specs.Table.{NotPassed, Passed, Test, by_copy_in, by_instr, copy_in_block}
use Rattle.ctl_code.specs.Windows.{height}
use Rattle.ctl_code.proofs.Lists.{split_at}
use Rattle.ctl_engine.specs.declared.engine.Engine.{Engine}
use Rattle.ctl_frames.specs.declared.frame.Mode.TheVariants as ModeOf
use Rattle.ctl_engine.specs.Copying.{with_value}
use Rattle.ctl_places.specs.Granting.{number_at}
use Rattle.ctl_frames.specs.Masters.{first_window}
use Rattle.ctl_engine.specs.Moves.{Before, GoesOn, Inside, Makes, here_of}
use Rattle.ctl_engine.specs.Shows.{Kept, kept, with_cells, with_spots}
use Rattle.ctl_frames.specs.Spots.{value_on_top, located, spots_in, standing, value_spot}
use Rattle.ctl_places.specs.StorageCalling.{AsksAllocate}
use Rattle.ctl_engine.proofs.Bodies.{more_cells}
use Rattle.ctl_allocations.proofs.CopyAllocated.{copy_move, source_part}
use Rattle.ctl_engine.proofs.Operands.{HasPart, HasValue, has_value, other_spots}
use Rattle.ctl_allocations.proofs.Placed.{has_numbers}
use Rattle.ctl_allocations.proofs.PlacedMember.{at_numbers, stops_so, tested_there}
use Rattle.ctl_engine.proofs.Places.{place_is}
use Rattle.ctl_engine.proofs.Values.{operand_put, window_in}

-- It takes the place of the part -------------------------------------------------------------------------

-- the part, where there is room for more
part_with_room : (code : Code) (e : Kept) (more : List ℕ) (below : List Kind) (k : List T.Frame) (ops : List Word) (w : World) → HasPart code e below k ops w → HasPart code (with_cells e (e.cells ++ more)) below k ops w
part_with_room code e more below k ops w p = record {
  top = p.top;
  are = p.are;
  object = p.object;
  stands = p.stands;
  either = p.either;
  spots = p.spots;
  left = record { stands = p.left.stands; sized = p.left.sized; holds = more_cells code (with_spots e (standing k (drop 1 ops))) more k (drop 1 ops) w p.left.holds; spots = p.left.spots };
}

value_put : (code : Code) (e : Kept) (cell : ℕ) (value : List ℕ) (below : List Kind) (k : List T.Frame) (ops : List Word) (w : World) → HasPart code e below k ops w → cell ≡ first_window e.masters + height below → cell < length e.cells
    → Inside code (with_value cell value (standing k (drop 1 ops)) e) (RecordValue ∷ below) k (Cells value ∷ drop 1 ops) w
value_put code e cell value below k ops w p is within =
    let rest = drop 1 ops in
    let here = place_is (window_in p.left) in
    record {
      stands = p.left.stands;
      sized = p.left.sized;
      holds = other_spots code (with_spots (with_cells e (slice_set e.cells cell 1)) (standing k rest)) (standing k rest ++ value_spot value ∷ []) k (Cells value ∷ rest) w (operand_put code (with_spots e (standing k rest)) k rest w (Cells value) cell p.left.holds (omega (arith, here, is)) within);
      spots = append_assoc (spots_in k) (located rest) (value_spot value ∷ []);
    }

-- the Allocate is asked over it
pub asks_over_value : (code : Code) (old ready put : Engine) (access place t at cell first : ℕ) (ty : Ty) (value : List ℕ) (s : State) (more : List ℕ) → (b : Before code old place (NewCopy access t ty at) s) → kept ready ≡ with_cells (kept old) (old.cells.items ++ more) → cell ≡ first_window (reverse old.masters.items) + height b.fine.2.0 → cell < length ready.cells.items → first ≡ cell + 1
    → kept put ≡ with_value cell value (standing s.control (drop 1 s.operands)) (kept ready) → AsksAllocate code put place first (record s { operands = Cells value ∷ drop 1 s.operands })
asks_over_value code old ready put access place t at cell first ty value s more b made is within behind are =
    let below = b.fine.2.0 in
    let rest = drop 1 s.operands in
    let e = with_cells (kept old) (old.cells.items ++ more) in
    let p = part_with_room code (kept old) more below s.control s.operands s.world (source_part code old access place t at ty s b) in
    let long : length ready.cells.items ≡ length e.cells = ap (λ (z : Kept). length z.cells) made in
    let inside = value_put code e cell value below s.control s.operands s.world p is (omega (arith, within, long)) in
    let same : kept put ≡ with_value cell value (standing s.control rest) e = are ∙ ap (λ (z : Kept). with_value cell value (standing s.control rest) z) made in
    let window : first_window (reverse put.masters.items) ≡ first_window (reverse old.masters.items) = ap (λ (z : Kept). first_window z.masters) same in
    record {
      mode = b.mode;
      stack = RecordValue ∷ below;
      leads = b.fine.2.2.1;
      inside = subst (λ (z : Kept). Inside code z (RecordValue ∷ below) s.control (Cells value ∷ rest) s.world) (sym same) inside;
      cell = omega (arith, behind, is, window);
    }

-- At the address that the Allocate gave -------------------------------------------------------------------

-- it is the operand below what that gave
pub value_below : (code : Code) (e : Engine) (place t at : ℕ) (ty : Ty) (s : State) → (b : Before code e place (NewCopyIn t ty at) s) → HasValue code (kept e) (drop 5 b.stack) s.control (drop 4 s.operands) s.world
value_below code e place t at ty s b =
    let n = has_numbers code (kept e) b.stack s.control s.operands s.world b.fine.2 b.inside in
    let split = split_at 4 b.stack RecordValue b.fine.3 in
    let rest : n.rest ≡ drop 4 s.operands = sym (ap (λ (l : List Word). drop 4 l) n.stand.are) in
    subst (λ (l : List Word). HasValue code (kept e) (drop 5 b.stack) s.control l s.world) rest
    (has_value code (kept e) (drop 5 b.stack) s.control n.rest s.world (subst (λ (l : List Kind). Inside code (kept e) l s.control n.rest s.world) split n.stand.inside))

-- what the table makes of it
copy_in_is : (code : Code) (e : Engine) (place t at : ℕ) (ty : Ty) (s : State) (r : Test) → (b : Before code e place (NewCopyIn t ty at) s) → tested_there code (Record t) s ≡ r
    → by_instr code (Some (NewCopyIn t ty at)) s.operands (here_of place s) ≡ copy_in_block code t (value_on_top (drop 4 s.operands)) (number_at s.operands 3) (number_at s.operands 2) (number_at s.operands 0) r (drop 1 (drop 4 s.operands)) (here_of place s)
copy_in_is code e place t at ty s r b is =
    let h = here_of place s in
    let x = value_below code e place t at ty s b in
    let n = has_numbers code (kept e) b.stack s.control s.operands s.world b.fine.2 b.inside in
    at_numbers code (kept e) b.stack s.control s.operands s.world (λ set n a rest. by_copy_in code t set n a rest h) h n
    ∙ (ap (λ (l : List Word). by_copy_in code t (number_at s.operands 3) (number_at s.operands 2) (number_at s.operands 0) l h) x.are
    ∙ ap (λ (z : Test). copy_in_block code t (value_on_top (drop 4 s.operands)) (number_at s.operands 3) (number_at s.operands 2) (number_at s.operands 0) z (drop 1 (drop 4 s.operands)) h) is)

pub copies_in_block : (code : Code) (old new : Engine) (place t at set : ℕ) (ty : Ty) (s : State) → (b : Before code old place (NewCopyIn t ty at) s) → set ≡ number_at s.operands 3 → tested_there code (Record t) s ≡ Passed
    → Makes code old new (copy_move code (place + 1) set t (InBlock (number_at s.operands 2) (number_at s.operands 0)) s.world (value_on_top (drop 4 s.operands)) (drop 1 (drop 4 s.operands)) s) → Makes code old new (by_instr code (Some (NewCopyIn t ty at)) s.operands (here_of place s))
copies_in_block code old new place t at set ty s b set_is passes made =
    subst (λ (y : T.Move). Makes code old new y) (sym (copy_in_is code old place t at ty s Passed b passes))
    (subst (λ i. Makes code old new (copy_move code (place + 1) i t (InBlock (number_at s.operands 2) (number_at s.operands 0)) s.world (value_on_top (drop 4 s.operands)) (drop 1 (drop 4 s.operands)) s)) set_is made)

pub copy_stops : (code : Code) (old new : Engine) (place t at : ℕ) (ty : Ty) (stop : Stop) (s : State) → (b : Before code old place (NewCopyIn t ty at) s)
    → tested_there code (Record t) s ≡ NotPassed stop → GoesOn old new (ModeOf.Stopped stop) old.cells.items → Makes code old new (by_instr code (Some (NewCopyIn t ty at)) s.operands (here_of place s))
copy_stops code old new place t at ty stop s b fails goes =
    subst (λ (y : T.Move). Makes code old new y) (sym (copy_in_is code old place t at ty s (NotPassed stop) b fails)) (stops_so code old new stop s.control s.operands s.world b.inside.holds goes)
