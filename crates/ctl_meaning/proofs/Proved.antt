-- The laws of whole runs.
use Rattle.std.specs.Prelude.{◌≡◌, ℕ, suc, ◌+◌, List, [], ◌∷◌, ◌++◌, length, Some, None, slice_get}
use Rattle.std.specs.List.{flat_map}
use Rattle.std.proofs.Common.{refl, sym, ap, ◌∙◌, subst, arith, append-nil}
use Rattle.std.proofs.lemmas.Grind.{flat_map-append}
use Rattle.ctl_program.specs.declared.program.Checked.{Checked}
use Rattle.ctl_tree.specs.declared.event.Event.{Event}
use Rattle.ctl_meaning.specs.World.{Pick, Log, empty_log}
use Rattle.ctl_meaning.specs.Choice.{Ask, AreAnswers, Obeys, accepted, chosen_in, replayed}
use Rattle.ctl_meaning.specs.Outcome.{Out, Gives, Stops, Cut}
use Rattle.ctl_meaning.specs.Types.{tables_of}
use Rattle.ctl_meaning.specs.Members.{OfSets}
use Rattle.ctl_meaning.specs.Names.{Returned}
use Rattle.ctl_meaning.specs.Run.{meaning_of, tools_with, run}
use Rattle.ctl_meaning.specs.Advance.{Grows, log_of}
use Rattle.ctl_meaning.specs.SameAnswers.{LeavesOpen, AnswersAlike}
use Rattle.ctl_meaning.specs.Continues.{Continues}
use Rattle.ctl_meaning.specs.Law.{tools_at, ClockNeverRises, LogOnlyGrows, ChoicesObey, CutsHaveCauses, GroupsAreEmptied, SameAnswersSameRun, ChoicesReplay, MoreClockContinues, GoesOn, TextsContinue, CandidatesInOrder}
use Rattle.ctl_meaning.proofs.Advance as A
use Rattle.ctl_meaning.proofs.Candidates.{in_order}
use Rattle.ctl_meaning.proofs.Order as O
use Rattle.ctl_meaning.proofs.Cuts as C
use Rattle.ctl_meaning.proofs.Emptied.{emptied, sets_emptied}
use Rattle.ctl_meaning.proofs.SameAnswers as S
use Rattle.ctl_meaning.proofs.MoreClock as M

pub clock_never_rises : (p : Checked) → ClockNeverRises p
clock_never_rises p = record { at_end = λ ask clock. (A.runs ask p clock).falls }

pub log_only_grows : (p : Checked) → LogOnlyGrows p
log_only_grows p = record { after = λ ask depth env caught s clock l w. ((A.does ask p depth s env caught).from clock l w).grows }

-- Choices ----------------------------------------------------------------------------

obeying : (ask : Ask) (l : Log) → Grows ask empty_log l → Obeys ask l.taken
unfolding empty_log
obeying ask l g = subst (λ ps. Obeys ask ps) (sym g.taken) g.answers

pub choices_obey : (p : Checked) → ChoicesObey p
choices_obey p = record { in_run = λ ask clock. obeying ask _ (A.runs ask p clock).grows }

pub cuts_have_causes : (p : Checked) → CutsHaveCauses p
cuts_have_causes p = record { in_run = λ ask clock. (C.runs p ask clock).cause }

pub groups_are_emptied : (p : Checked) → GroupsAreEmptied p
unfolding tools_with meaning_of
groups_are_emptied p = record {
  of_members = λ ask depth cause g clock l w. emptied (tools_at p ask depth) g cause clock l w;
  of_collections = λ ask depth sets clock l w. sets_emptied (tools_at p ask depth) (OfSets sets) sets clock l w refl;
}

pub candidates_in_order : (p : Checked) → CandidatesInOrder p
candidates_in_order p = record {
  candidates = λ g w h. in_order (tables_of p) g w h;
  at_start = O.starts_in_order;
  after = λ ask depth env caught s clock l w h. (O.does p ask depth s env caught).from clock l w h;
}

pub same_answers_same_run : (p : Checked) → SameAnswersSameRun p
same_answers_same_run p = record { in_run = λ ask other clock h. S.runs ask other p clock h }

-- Replaying ----------------------------------------------------------------------------

answers_by_place : (ask other : Ask) (i : ℕ) (ps : List Pick) → AreAnswers ask i ps → ((k : ℕ) (p : Pick) → slice_get ps k ≡ Some p → other (i + k) p.width ≡ Some p.chosen) → AreAnswers other i ps
answers_by_place ask other i [] h x = tt
answers_by_place ask other i (p ∷ ps) h x =
    (subst (λ n. other n p.width ≡ Some p.chosen) (omega arith) (x 0 p refl), h.1, answers_by_place ask other (suc i) ps h.2 (λ k q e. subst (λ n. other n q.width ≡ Some q.chosen) (omega arith) (x (suc k) q e)))

nothing_at_end : (ps : List Pick) → slice_get ps (length ps) ≡ None
nothing_at_end [] = refl
nothing_at_end (p ∷ ps) = nothing_at_end ps

replays : (ask : Ask) (ps : List Pick) → Obeys ask ps → Obeys (replayed ps) ps
unfolding replayed chosen_in
replays ask ps h = answers_by_place ask (replayed ps) 0 ps h (λ k p e. ap chosen_in (subst (λ n. slice_get ps n ≡ Some p) (omega arith) e))

open_at_end : (ask : Ask) (l : Log) → LeavesOpen ask (replayed l.taken) l
unfolding replayed accepted chosen_in
open_at_end ask l = record { at_end = λ m e. ap (λ o. accepted m (chosen_in o)) (nothing_at_end l.taken) }

fitting : (ask : Ask) (o : Out Returned) → Obeys ask (log_of o).taken → AnswersAlike ask (replayed (log_of o).taken) o
fitting ask (Gives r t c l w) h = replays ask l.taken h
fitting ask (Stops s t l) h = replays ask l.taken h
fitting ask (Cut t c l) h = (replays ask l.taken h, open_at_end ask l)

pub choices_replay : (p : Checked) → ChoicesReplay p
choices_replay p = record { in_run = λ ask clock. (same_answers_same_run p).in_run ask _ clock (fitting ask (run p ask clock) ((choices_obey p).in_run ask clock)) }

-- More clock ------------------------------------------------------------------------------

pub more_clock_continues : (p : Checked) → MoreClockContinues p
more_clock_continues p = record { in_run = λ ask clock more. M.runs ask more p clock }

-- the trace of a run goes on with more clock
trace_goes_on : (ask : Ask) (more : ℕ) (o later : Out Returned) → Continues ask more o later → (rest : List Event) × ((log_of later).trace ≡ (log_of o).trace ++ rest)
trace_goes_on ask more (Gives r t c l w) later h = ([], ap (λ x. (log_of x).trace) h ∙ sym (append-nil l.trace))
trace_goes_on ask more (Stops s t l) later h = ([], ap (λ x. (log_of x).trace) h ∙ sym (append-nil l.trace))
trace_goes_on ask more (Cut t c l) later h = (h.shown, h.trace)

text_goes_on : (f : Event → List ℕ) (es later rest : List Event) → later ≡ es ++ rest → GoesOn (flat_map f es) (flat_map f later)
text_goes_on f es later rest h = record { rest = flat_map f rest; whole = ap (flat_map f) h ∙ flat_map-append f es rest }

pub texts_continue : (p : Checked) → TextsContinue p
texts_continue p = record
    { in_run = λ text ask clock more. let h = trace_goes_on ask more _ _ ((more_clock_continues p).in_run ask clock more) in text_goes_on text _ _ h.0 h.1 }
