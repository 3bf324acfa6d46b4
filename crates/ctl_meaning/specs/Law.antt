-- What holds of every program and every run.
use Rattle.std.specs.Prelude.{◌≡◌, ℕ, ◌+◌, List, ◌++◌}
use Rattle.std.specs.List.{flat_map}
use Rattle.ctl_program.specs.declared.program.Checked.{Checked}
use Rattle.ctl_program.specs.declared.statement.Stmt.{Stmt}
use Rattle.ctl_tree.specs.declared.event.Cause.{Cause}
use Rattle.ctl_tree.specs.declared.event.Event.{Event}
use Rattle.ctl_meaning.specs.World.{Log, World, empty_world}
use Rattle.ctl_meaning.specs.Choice.{Ask, Obeys, replayed}
use Rattle.ctl_meaning.specs.Types.{tables_of}
use Rattle.ctl_meaning.specs.Names.{Tools}
use Rattle.ctl_meaning.specs.Members.{Group, OfSets, candidates_of}
use Rattle.ctl_meaning.specs.Finalization.{finalize_group}
use Rattle.ctl_meaning.specs.Masters.{finalize_sets}
use Rattle.ctl_meaning.specs.Statements.{exec}
use Rattle.ctl_meaning.specs.Run.{meaning_of, execution, tools_with, run}
use Rattle.ctl_meaning.specs.Advance.{Grows, log_of, IsAtMost}
use Rattle.ctl_meaning.specs.Cuts.{CutForCause}
use Rattle.ctl_meaning.specs.Emptied.{LeavesNone, Ascend, member_numbers, InOrder, StaysInOrder}
use Rattle.ctl_meaning.specs.SameAnswers.{AnswersAlike}
use Rattle.ctl_meaning.specs.Continues.{Continues}

-- the clock that a run leaves is not above the clock that it had
pub record ClockNeverRises (program : Checked) : Type 0 where
  pub at_end : (ask : Ask) (clock : ℕ) → IsAtMost clock (run program ask clock)

-- what statements are executed with, where executions are at most so deep
abbrev pub tools_at : Checked → Ask → ℕ → Tools
tools_at program ask depth = tools_with ask (meaning_of program) (execution ask (meaning_of program) depth)

-- each statement, from each log and world, shows what was shown before and then more; so do its choices
pub record LogOnlyGrows (program : Checked) : Type 0 where
  pub after : (ask : Ask) (depth : ℕ) (env : List ℕ) (caught : ℕ) (s : Stmt) (clock : ℕ) (l : Log) (w : World) → Grows ask l (log_of (exec s (tools_at program ask depth) env caught clock l w))

-- the choices of a run are the answers that were given, each below its width
pub record ChoicesObey (program : Checked) : Type 0 where
  pub in_run : (ask : Ask) (clock : ℕ) → Obeys ask (log_of (run program ask clock)).taken

-- a run is cut only where the clock is 0 or a choice has no answer, never for the depth of executions, the turns of a loop or the members of a collection
pub record CutsHaveCauses (program : Checked) : Type 0 where
  pub in_run : (ask : Ask) (clock : ℕ) → CutForCause ask (run program ask clock)

-- the candidates of a group are in the order of their numbers, each once, where the objects are; so these are in the empty world, and after each
-- statement if before it
pub record CandidatesInOrder (program : Checked) : Type 0 where
  pub candidates : (g : Group) (w : World) → InOrder w → Ascend (member_numbers (candidates_of (tables_of program) g w))
  pub at_start : InOrder empty_world
  pub after : (ask : Ask) (depth : ℕ) (env : List ℕ) (caught : ℕ) (s : Stmt) (clock : ℕ) (l : Log) (w : World) → InOrder w → StaysInOrder (exec s (tools_at program ask depth) env caught clock l w)

-- where the finalization of members goes on, none that is due is left: of a subpool or of collections, and where collections are left with
-- their master
pub record GroupsAreEmptied (program : Checked) : Type 0 where
  pub of_members : (ask : Ask) (depth : ℕ) (cause : Cause) (g : Group) (clock : ℕ) (l : Log) (w : World) → LeavesNone (tables_of program) g (finalize_group (tools_at program ask depth) cause g clock l w)
  pub of_collections : (ask : Ask) (depth : ℕ) (sets : List ℕ) (clock : ℕ) (l : Log) (w : World) → LeavesNone (tables_of program) (OfSets sets) (finalize_sets (tools_at program ask depth) sets clock l w)

-- whoever answers the choices of a run alike gets the same run
pub record SameAnswersSameRun (program : Checked) : Type 0 where
  pub in_run : (ask other : Ask) (clock : ℕ) → AnswersAlike ask other (run program ask clock) → run program other clock ≡ run program ask clock

-- the choices of a run, and no more, give the same run
pub record ChoicesReplay (program : Checked) : Type 0 where
  pub in_run : (ask : Ask) (clock : ℕ) → run program (replayed (log_of (run program ask clock)).taken) clock ≡ run program ask clock

-- more clock changes no run that ended, and continues one that was cut
pub record MoreClockContinues (program : Checked) : Type 0 where
  pub in_run : (ask : Ask) (clock more : ℕ) → Continues ask more (run program ask clock) (run program ask (clock + more))

-- the second text continues the first
pub record GoesOn (text later : List ℕ) : Type 0 where
  pub rest : List ℕ
  pub whole : later ≡ text ++ rest

-- whatever text each event has: with more clock, the text of the events continues the one that was shown with less
pub record TextsContinue (program : Checked) : Type 0 where
  pub in_run : (text : Event → List ℕ) (ask : Ask) (clock more : ℕ) → GoesOn (flat_map text (log_of (run program ask clock)).trace) (flat_map text (log_of (run program ask (clock + more))).trace)
