-- Executions at any depth keep the invariant, and so do whole runs: their traces are orderly.
use Rattle.std.specs.Prelude.{ℕ, zero, suc, List, [], Option, Some, None, false}
use Rattle.std.proofs.Common.{refl}
use Rattle.ctl_program.specs.declared.types.Ty.{Ty}
use Rattle.ctl_program.specs.declared.program.Checked.{Checked}
use Rattle.ctl_tree.specs.declared.event.Event.{Event}
use Rattle.ctl_meaning.specs.World.{Slot, World, empty_log, empty_world, empty_ledger}
use Rattle.ctl_meaning.specs.Choice.{Ask}
use Rattle.ctl_meaning.specs.Outcome.{Out, Gives, Stops, Cut, Act, on_some, ◌>>=◌, spend}
use Rattle.ctl_meaning.specs.Types.{Tables, tables_of}
use Rattle.ctl_meaning.specs.Names.{Execution, OfSubprogram, OfAllocator, Call as Caller, Default, Returned, gone}
use Rattle.ctl_meaning.specs.Expressions.{Valued}
use Rattle.ctl_meaning.specs.Allocation.{allocate}
use Rattle.ctl_meaning.specs.Run.{meaning_of, defaults_from, default_at, expression_tools, default_in, tools_with, run_number, completed, execute, execution, tools, run_meaning, run}
use Rattle.ctl_meaning.specs.Advance.{log_of}
use Rattle.ctl_meaning.specs.Audit.{first_owner, closed, first_closing, IsOrderly}
use Rattle.ctl_meaning.proofs.Relation.{IfSome}
use Rattle.ctl_meaning.proofs.Glue.{good_default, good_routine}
use Rattle.ctl_orderly.specs.Law.{InOrder, TracesAreOrderly}
use Rattle.ctl_orderly.proofs.Traces.{orderly_by}
use Rattle.ctl_orderly.proofs.State.{Inv, Moves, none, calm}
use Rattle.ctl_orderly.proofs.Rules.{Good, Ends, Ever}
use Rattle.ctl_orderly.proofs.Plain.{keeps_seq, keeps_spends, keeps_ticked, keeps_gone}
use Rattle.ctl_orderly.proofs.Expressions as E
use Rattle.ctl_orderly.proofs.Allocating.{keeps_allocate}
use Rattle.ctl_orderly.proofs.Statements as S

-- no component begins by default
abbrev no_default : Default
no_default = λ u position env. gone

module _ (program : Checked) (order : InOrder program.records) (ask : Ask) where
  abbrev t : Tables
  t = tables_of program

  in_order : InOrder t.records
  unfolding tables_of
  in_order = order

  module _ (call : Caller) (calls : (f : ℕ) (ss : List Slot) (env : List ℕ) → Good t (call (OfSubprogram f ss) env)) (allocates : E.Allocates t ask call no_default) where
    abbrev defaults : Default
    defaults = default_in (defaults_from [] program.records) (record { ask = ask; tables = t; call = call; default = no_default })

    value_in : (o : Option Valued) → IfSome (E.GoodValue t ask call no_default) o → (env : List ℕ) → Good t (on_some o gone (λ e. e (record { ask = ask; tables = t; call = call; default = no_default }) env))
    unfolding on_some
    value_in None h env = keeps_gone
    value_in (Some e) h env = h env

    values : (u position : ℕ) (env : List ℕ) → Good t (defaults u position env)
    unfolding default_in
    values u position env = value_in (default_at (defaults_from [] program.records) u position) (good_default (E.expressions t ask call no_default calls allocates) program.records u position) env

    keeps_number : (env : List ℕ) (ss : List Slot) (f : ℕ) → Good t (run_number (meaning_of program) (tools_with ask (meaning_of program) call) env ss f)
    unfolding run_number meaning_of tools_with expression_tools
    keeps_number env ss f = S.keeps_routine t in_order ask call defaults calls allocates values _ (good_routine (E.expressions t ask call defaults calls allocates) (S.statements t in_order ask call defaults calls allocates values) program.subprograms f) env ss

    keeps_new : (env : List ℕ) (a : ℕ) (ty : Ty) (h v : Option (List ℕ)) → Good t (allocate (tools_with ask (meaning_of program) call) env a ty h v >>= completed)
    unfolding meaning_of tools_with expression_tools
    keeps_new env a ty h v = keeps_allocate t in_order ask call defaults calls values env a ty h v

  takes_one : (call : Caller) (env : List ℕ) (access : ℕ) (ty : Ty) (m : Act (Option (List ℕ) × Option (List ℕ))) → ((h v : Option (List ℕ)) → Good t (call (OfAllocator access ty h v) env)) → Good t m → Good t (spend (m >>= (λ p. call (OfAllocator access ty p.0 p.1) env)))
  takes_one call env access ty m h x = keeps_spends (keeps_seq x (λ p. h p.0 p.1))

  executes : (n : ℕ) (x : Execution) (env : List ℕ) → Good t (execution ask (meaning_of program) n x env)
  unfolding execution execute
  executes zero x env = record { from = λ c l w i r. record { holds = i.sound } }
  executes (suc n) (OfSubprogram f ss) env =
      let call = execution ask (meaning_of program) n in
      record { from = λ c l w i r. (keeps_spends (keeps_ticked (keeps_number call (λ g xs e. executes n (OfSubprogram g xs) e) (λ e a ty m h. takes_one call e a ty m (λ x y. executes n (OfAllocator a ty x y) e) h) env ss f))).from c l w i tt }
  executes (suc n) (OfAllocator a ty h v) env =
      let call = execution ask (meaning_of program) n in
      record { from = λ c l w i r. (keeps_new call (λ g xs e. executes n (OfSubprogram g xs) e) (λ e b uy m x. takes_one call e b uy m (λ y z. executes n (OfAllocator b uy y z) e) x) env a ty h v).from c l w i tt }

  at_start : Inv t empty_log.trace empty_world
  unfolding empty_log empty_world empty_ledger first_closing first_owner closed
  at_start = record { sound = refl; fresh = λ p o le h. absurd (cc); unclosed = λ p le. refl; active = λ p m h. absurd (cc); declared = λ p m h. absurd (cc); members = λ o l. absurd l; numbers = λ o l. absurd l }

  orderly_end : (o : Out Returned) (w0 : World) (tr0 : List Event) → Ends (λ r tr v. Inv t tr v × Moves none calm tr0 w0 tr v × Ever r tr v) o → IsOrderly (log_of o).trace false
  orderly_end (Gives r c k l w) w0 tr0 h = orderly_by l.trace h.holds.0.sound
  orderly_end (Stops s c l) w0 tr0 h = orderly_by l.trace h.holds
  orderly_end (Cut c k l) w0 tr0 h = orderly_by l.trace h.holds

  runs : (clock : ℕ) → IsOrderly (log_of (run program ask clock)).trace false
  unfolding run run_meaning tools
  runs clock = orderly_end _ empty_world empty_log.trace ((keeps_number (execution ask (meaning_of program) (suc clock)) (λ g xs e. executes (suc clock) (OfSubprogram g xs) e) (λ e a ty m h. takes_one (execution ask (meaning_of program) (suc clock)) e a ty m (λ x y. executes (suc clock) (OfAllocator a ty x y) e) h) [] [] program.main).from clock empty_log empty_world at_start tt)

pub traces_are_orderly : (program : Checked) → TracesAreOrderly program
traces_are_orderly program = record { in_run = λ order ask clock. runs program order ask clock }
