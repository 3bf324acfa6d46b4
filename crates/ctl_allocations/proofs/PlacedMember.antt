-- An object that is put into a block is to begin (13.11).
use Rattle.std.proofs.Common.{◌≡◌, ℕ, ◌+◌, ◌<◌, List, [], Some, length, refl, sym, ap, ◌∙◌, subst, arith, drop}
use Rattle.std.specs.Prelude.{slice_get, slice_index_or}
use Rattle.std.proofs.lemmas.List.{append-nil}
use Rattle.ctl_tree.specs.declared.ending.Stop.{Stop}
use Rattle.ctl_program.specs.declared.types.Ty.{Ty}
use Rattle.ctl_meaning.specs.World.{InBlock, World}
use Rattle.ctl_meaning.specs.Pools.{block_pool_at}
use Rattle.ctl_code.specs.declared.code.Code.{Code}
use Rattle.ctl_code.specs.declared.code.Instr.TheVariants.{NewIn}
use Rattle.ctl_code.specs.declared.kinds.Kind.{Kind}
use Rattle.ctl_code.specs.Kinds.{stack_at}
use Rattle.ctl_code.specs.Valid.{Leads}
use Rattle.ctl_code.specs.Windows.{height}
use Rattle.ctl_code.specs.States as T
use Rattle.ctl_code.specs.States.{State, Word}
use Rattle.ctl_code.specs.Table.{Here, NotPassed, Passed, Test, address_test, at_address, behind_declaration, by_instr, member_begins, new_in_block, stopped, units_for}
use Rattle.ctl_engine.specs.declared.engine.Engine.{Engine}
use Rattle.ctl_frames.specs.declared.frame.Mode.{Mode}
use Rattle.ctl_frames.specs.declared.frame.Mode.TheVariants as ModeOf
use Rattle.ctl_places.specs.Gathering.{Member}
use Rattle.ctl_places.specs.Granting.{IsAdded, IsNewMember, number_at}
use Rattle.ctl_frames.specs.Masters.{heads_of}
use Rattle.ctl_engine.specs.Moves.{Before, GoesOn, Makes, here_of}
use Rattle.ctl_engine.specs.Shows.{Holds, Kept, ShowsMode, kept}
use Rattle.ctl_frames.specs.Spots.{KeepsSpots}
use Rattle.ctl_engine.proofs.Blocks.{stack_is}
use Rattle.ctl_frames.proofs.Links.{got}
use Rattle.ctl_frames.proofs.Lists.{same_at}
use Rattle.ctl_allocations.proofs.NewMember.{is_added}
use Rattle.ctl_allocations.proofs.Placed.{HasNumbers, has_numbers}
use Rattle.ctl_engine.proofs.Plain.{no_operands}

-- the object that these operands ask for
abbrev pub member_in : List Word → ℕ → State → Member
member_in ops place s = record { place = InBlock (number_at ops 2) (number_at ops 0); control = s.control; point = behind_declaration (drop 4 ops) (here_of place s); granted = s.world }

-- what stands there before
pub numbers_of : (code : Code) (e : Engine) (place : ℕ) (of : Ty) (at : ℕ) (ty : Ty) (s : State) → (b : Before code e place (NewIn of ty at) s) → HasNumbers code (kept e) b.stack s.control s.operands s.world
numbers_of code e place of at ty s b = has_numbers code (kept e) b.stack s.control s.operands s.world b.fine.2 b.inside

pub placed_is : (code : Code) (old added : Engine) (place : ℕ) (of : Ty) (at set : ℕ) (ty : Ty) (s : State) → Before code old place (NewIn of ty at) s → IsNewMember code (kept old) (kept added) set of (InBlock (number_at s.operands 2) (number_at s.operands 0)) s.world
    → IsAdded code added set of (place + 1) (member_in s.operands place s)
placed_is code old added place of at set ty s b i =
    let n = numbers_of code old place of at ty s b in
    let j = subst (λ (l : List Word). IsNewMember code (kept old) (kept added) set of (InBlock (number_at l 2) (number_at l 0)) s.world) n.stand.are i in
    subst (λ (l : List Word). IsAdded code added set of (place + 1) (member_in l place s)) (sym n.stand.are)
    (is_added code old added set of (place + 1) ty (drop 4 b.stack) (InBlock n.pool n.address) s.control (behind_declaration n.rest (here_of place s)) s.world s.world n.stand.inside refl refl b.fine.0 b.fine.4 refl j)

-- The table's move ---------------------------------------------------------------------------------------

-- by these numbers
pub at_numbers : (code : Code) (e : Kept) (stack : List Kind) (k : List T.Frame) (ops : List Word) (w : World) (f : ℕ → ℕ → ℕ → List Word → T.Move) (h : Here) → HasNumbers code e stack k ops w → at_address f ops h ≡ f (number_at ops 3) (number_at ops 2) (number_at ops 0) (drop 4 ops)
at_numbers code e stack k ops w f h n = subst (λ (l : List Word). at_address f l h ≡ f (number_at l 3) (number_at l 2) (number_at l 0) (drop 4 l)) (sym n.stand.are) refl

-- whether the address that stands there passes its test
abbrev pub tested_there : Code → Ty → State → Test
tested_there code of s = address_test (number_at s.operands 0) (units_for code of) (block_pool_at (number_at s.operands 2) s.world.pools) s.world

new_is : (code : Code) (e : Engine) (place : ℕ) (of : Ty) (at : ℕ) (ty : Ty) (s : State) (r : Test) → Before code e place (NewIn of ty at) s → tested_there code of s ≡ r
    → by_instr code (Some (NewIn of ty at)) s.operands (here_of place s) ≡ new_in_block code of (number_at s.operands 3) (number_at s.operands 2) (number_at s.operands 0) r (drop 4 s.operands) (here_of place s)
new_is code e place of at ty s r b is =
    let h = here_of place s in
    at_numbers code (kept e) b.stack s.control s.operands s.world (λ set n a rest. new_in_block code of set n a (address_test a (units_for code of) (block_pool_at n h.world.pools) h.world) rest h) h (numbers_of code e place of at ty s b)
    ∙ ap (λ (z : Test). new_in_block code of (number_at s.operands 3) (number_at s.operands 2) (number_at s.operands 0) z (drop 4 s.operands) h) is

pub makes_in_block : (code : Code) (old new : Engine) (place : ℕ) (of : Ty) (at set : ℕ) (ty : Ty) (s : State) → Before code old place (NewIn of ty at) s → set ≡ number_at s.operands 3 → tested_there code of s ≡ Passed
    → (let m = member_in s.operands place s in Makes code old new (member_begins code of set m.place m.point m.control m.granted)) → Makes code old new (by_instr code (Some (NewIn of ty at)) s.operands (here_of place s))
makes_in_block code old new place of at set ty s b set_is passes made =
    let m = member_in s.operands place s in
    subst (λ (y : T.Move). Makes code old new y) (sym (new_is code old place of at ty s Passed b passes)) (subst (λ i. Makes code old new (member_begins code of i m.place m.point m.control m.granted)) set_is made)

pub stops_so : (code : Code) (old new : Engine) (stop : Stop) (k : List T.Frame) (ops : List Word) (w : World) → Holds code (kept old) k ops w → GoesOn old new (ModeOf.Stopped stop) old.cells.items → Makes code old new (stopped stop k w)
stops_so code old new stop k ops w h g = record {
  mode = subst (λ (m : Mode). ShowsMode code m (T.Stopped stop) k (heads_of w.activations)) (sym g.mode) refl;
  holds = subst (λ (e : Kept). Holds code e k [] w) (sym g.kept) (no_operands code (kept old) k ops w h);
  spots = subst (λ (m : Mode). KeepsSpots m new.spots.items k []) (sym g.mode) tt;
  shows = g.events ∙ sym (append-nil old.events.items);
  picks = g.picks;
}

pub makes_stop : (code : Code) (old new : Engine) (place : ℕ) (of : Ty) (at : ℕ) (ty : Ty) (stop : Stop) (s : State) → (b : Before code old place (NewIn of ty at) s)
    → tested_there code of s ≡ NotPassed stop → GoesOn old new (ModeOf.Stopped stop) old.cells.items → Makes code old new (by_instr code (Some (NewIn of ty at)) s.operands (here_of place s))
makes_stop code old new place of at ty stop s b fails goes =
    subst (λ (y : T.Move). Makes code old new y) (sym (new_is code old place of at ty s (NotPassed stop) b fails)) (stops_so code old new stop s.control s.operands s.world b.inside.holds goes)

-- The cells ----------------------------------------------------------------------------------------------

-- where they begin
pub first_is : (code : Code) (place : ℕ) (stack : List Kind) (window under first : ℕ) → Leads code place stack → window ≡ first → under ≡ height (drop 4 (stack_at code.kinds place)) → window + under ≡ first + height (drop 4 stack)
first_is code place stack window under first leads begins is = ap (λ n. n + under) begins ∙ ap (λ n. first + n) (is ∙ ap (λ (l : List Kind). height (drop 4 l)) (stack_is code place stack leads))

-- what is read there
pub read_is : (cells : List ℕ) (i at r n : ℕ) → i ≡ at → at < length cells → r ≡ slice_index_or cells i r → slice_get cells at ≡ Some n → r ≡ n
read_is cells i at r n same less read found = same_at r n (slice_get cells i) (got cells i r (omega (arith, same, less)) read) (ap (λ j. slice_get cells j) same ∙ found)
