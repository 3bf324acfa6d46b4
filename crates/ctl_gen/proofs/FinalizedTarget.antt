-- The finalization of the target of an assignment (5.2, 7.6): an exception of a Finalize leaves it as Program_Error.
use Rattle.std.proofs.Common.{◌≡◌, ℕ, ◌≤◌, List, Some, true}
use Rattle.ctl_program.specs.declared.types.Ty.TheVariants.{Record}
use Rattle.ctl_tree.specs.declared.event.Cause.TheVariants.{Assign}
use Rattle.ctl_meaning.specs.World.{Log, World}
use Rattle.ctl_meaning.specs.Choice.{Ask}
use Rattle.ctl_meaning.specs.Types.{Tables, depth as type_depth, has_controlled}
use Rattle.ctl_meaning.specs.Names.{Call, Default, among}
use Rattle.ctl_meaning.specs.Finalization.{Spot, Every, finalize}
use Rattle.ctl_code.specs.declared.code.Code.{Code}
use Rattle.ctl_code.specs.declared.kinds.Kind.{Kind}
use Rattle.ctl_code.specs.States.{Frame, State}
use Rattle.ctl_code.specs.Table as Table
use Rattle.ctl_code.specs.Table.{assigning_in, parts_of}
use Rattle.ctl_code.specs.Steps.{moved, step}
use Rattle.ctl_code.specs.Valid.{IsDeclarable}
use Rattle.ctl_code.specs.Windows.{depth}
use Rattle.ctl_gen.proofs.Known.{IsPlainType}
use Rattle.ctl_gen.proofs.Parted.{GivesDefaults}
use Rattle.ctl_gen.proofs.Worlds.{Since}
use Rattle.ctl_gen.proofs.Setting.{IsSeen, Setting, seen_surrounds, tools_with, Calls}
use Rattle.ctl_gen.proofs.FinalizedParts.{Passed, part_runs, tells}
use Rattle.ctl_gen.proofs.Finalize.{within_depth}
use Rattle.ctl_gen.proofs.Follow.{Runs}

-- a part with a controlled part, whether its object exists or not, from the step that begins with it, where the statement that assigns sees a
-- display
pub target_runs : (ask : Ask) (k : Tables) (code : Code) (setting : Setting k code) (call : Call) (default : Default) → GivesDefaults k default → (bound : ℕ) → Calls ask k code setting bound call → (s : Spot) (t : ℕ) (d : List ℕ) (stack : List Kind) (w0 : World) (ks : List Frame) (c : ℕ) (l : Log) (w : World) (s0 : State)
    → IsPlainType k (Record t) → has_controlled k (Record t) ≡ true → assigning_in ks ≡ Some d → IsSeen w0 d stack → IsDeclarable code (depth stack) t → c ≤ bound → Since k code w0 w → step ask code s0 ≡ moved l (Table.finalize_part code (parts_of code t) Assign s t ks w) → Runs ask code (Passed k code Assign w0) 0 0 s0 c (tells ks) (finalize (among d (tools_with ask k call default)) Assign Every s t c l w)
unfolding finalize
target_runs ask k code setting call default constants bound calls s t d stack w0 ks c l w s0 plain held assigns sees inside le fits first =
    part_runs ask k code setting call default constants bound calls (Some d) Assign w0 (depth stack) (type_depth k) s t ks c l w s0 (assigns, seen_surrounds k code d stack w0 s.object sees) (within_depth k t plain) plain held inside le fits first
