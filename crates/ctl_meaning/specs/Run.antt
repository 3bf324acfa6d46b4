-- What the text of a program means, executions of its bodies, and its run.
use Rattle.std.specs.Prelude.{ℕ, zero, suc, ◌-◌, List, [], ◌∷◌, ◌++◌, length, Option, Some, None, slice_get, take, drop, option_map, map}
use Rattle.ctl_program.specs.declared.program.Checked.{Checked}
use Rattle.ctl_program.specs.declared.operators.SubprogramKind.{SubprogramKind}
use Rattle.ctl_program.specs.declared.operators.SubprogramKind.TheVariants.{Procedure, Function}
use Rattle.ctl_program.specs.declared.program.Subprogram.{Subprogram}
use Rattle.ctl_program.specs.declared.types.RecordType.{RecordType}
use Rattle.ctl_tree.specs.declared.ending.End.{End}
use Rattle.ctl_tree.specs.declared.ending.End as EndOf
use Rattle.ctl_tree.specs.declared.event.Event.{Event}
use Rattle.ctl_meaning.specs.World.{Pick, Slot, empty_log, empty_world, opened_world}
use Rattle.ctl_meaning.specs.Lists.{item_or, opened_lists}
use Rattle.ctl_meaning.specs.Ledger.{opened_ledger}
use Rattle.ctl_meaning.specs.Activations.{opened_activations}
use Rattle.ctl_meaning.specs.Objects.{opened_objects}
use Rattle.ctl_meaning.specs.Pools.{opened_pools}
use Rattle.ctl_meaning.specs.Changes.{opened_changes}
use Rattle.ctl_meaning.specs.Members.{opened_members}
use Rattle.ctl_meaning.specs.Choice.{Ask, opened_choice}
use Rattle.ctl_meaning.specs.Outcome.{program_error, Way, ByReturn, ByRaise, Result, Goes, Leaves, Out, Gives, Stops, Cut, Act, Done, given, ◌>>=◌, ◌>>◌, done, ticked, spend, on_some, opened_outcome}
use Rattle.ctl_meaning.specs.Numbers.{opened_numbers}
use Rattle.ctl_meaning.specs.Types.{Tables, tables_of, of_parent, opened_types}
use Rattle.ctl_meaning.specs.Names.{Execution, OfSubprogram, OfAllocator, Returned, Call, Default, Tools, gone, opened_names}
use Rattle.ctl_meaning.specs.Marks.{opened_marks}
use Rattle.ctl_meaning.specs.Expressions.{Valued, eval, opened_expressions}
use Rattle.ctl_meaning.specs.Finalization.{opened_finalization}
use Rattle.ctl_meaning.specs.Adjustment.{opened_adjustment}
use Rattle.ctl_meaning.specs.Initialization.{opened_initialization}
use Rattle.ctl_meaning.specs.Storage.{opened_storage}
use Rattle.ctl_meaning.specs.Allocation.{allocate, join_collection, opened_allocation}
use Rattle.ctl_meaning.specs.Masters.{in_master, opened_masters}
use Rattle.ctl_meaning.specs.Statements.{Body, unset_slots, body_of, opened_statements}

-- What a program's text means ----------------------------------------------------------------

-- a subprogram
pub record Routine : Type 0 where
  pub level : ℕ
  pub kind : SubprogramKind
  pub body : Body

-- a program before it runs: its tables of types, for each record type the default expressions of its components, inherited ones first,
-- and its subprograms
pub record Meaning : Type 0 where
  pub tables : Tables
  pub defaults : List (List (Option Valued))
  pub routines : List Routine

abbrev pub routine_of : Subprogram → Routine
routine_of s = record { level = s.level; kind = s.kind; body = body_of s.body }

abbrev pub own_defaults : RecordType → List (Option Valued)
own_defaults r = map (λ c. option_map eval c.default) r.own

unfoldable pub row_of : List (List (Option Valued)) → ℕ → List (Option Valued)
row_of rows t = item_or [] (slice_get rows t)

-- a parent stands before its descendants
unfoldable pub defaults_from : List (List (Option Valued)) → List RecordType → List (List (Option Valued))
defaults_from rows [] = rows
defaults_from rows (r ∷ rs) = defaults_from (rows ++ (of_parent [] (row_of rows) r.parent ++ own_defaults r) ∷ []) rs

unfoldable pub default_at : List (List (Option Valued)) → ℕ → ℕ → Option Valued
default_at rows t position = item_or None (slice_get (row_of rows t) (position - 1))

unfoldable pub meaning_of : Checked → Meaning
meaning_of p = record { tables = tables_of p; defaults = defaults_from [] p.records; routines = map routine_of p.subprograms }

-- Executions ------------------------------------------------------------------------------

-- a function that reaches its end raises Program_Error, outside its own handlers (6.5). What completes a loop stands in one (5.7), and would
-- else end the body
abbrev pub handed_back : SubprogramKind → List Slot → Result Done → Result Returned
handed_back kind slots (Leaves (ByReturn v)) = Goes (record { cells = v; slots = slots })
handed_back kind slots (Leaves (ByRaise e)) = Leaves (ByRaise e)
handed_back Function slots r = Leaves (ByRaise program_error)
handed_back Procedure slots r = Goes (record { cells = []; slots = slots })

unfoldable pub returned : SubprogramKind → List Slot → Result Done → Act Returned
returned kind slots r = given (handed_back kind slots r)

-- the formals have the first slots
unfoldable pub slots_for : Body → List Slot → List Slot
slots_for b actuals = actuals ++ drop (length actuals) (unset_slots b)

-- the body inside the masters around its declaration; its value is there before the master is finalized
unfoldable pub run_routine : Tools → List ℕ → List Slot → Routine → Act Returned
run_routine k env actuals s =
    in_master k (take s.level env) (slots_for s.body actuals) (λ inner. s.body.inside k inner 0) >>= (λ x. returned s.kind x.slots x.result)

unfoldable pub run_number : Meaning → Tools → List ℕ → List Slot → ℕ → Act Returned
run_number p k env actuals f = on_some (slice_get p.routines f) gone (run_routine k env actuals)

-- the new object of an allocator joins its collection, and the access value is its number
unfoldable pub completed : ℕ → Act Returned
completed n = join_collection n >> done (record { cells = n ∷ []; slots = [] })

-- a call takes one from the clock, and is a tick; an allocator has taken one before its operands
unfoldable pub execute : Meaning → Tools → Execution → List ℕ → Act Returned
execute p k (OfSubprogram f actuals) env = spend (ticked (run_number p k env actuals f))
execute p k (OfAllocator access ty handle value) env = allocate k env access ty handle value >>= completed

-- expressions begin no component by default
unfoldable pub expression_tools : Ask → Meaning → Call → Tools
expression_tools ask p call = record { ask = ask; tables = p.tables; call = call; default = λ t position env. gone }

unfoldable pub default_in : List (List (Option Valued)) → Tools → Default
default_in rows k t position env = on_some (default_at rows t position) gone (λ e. e k env)

unfoldable pub tools_with : Ask → Meaning → Call → Tools
tools_with ask p call = record { ask = ask; tables = p.tables; call = call; default = default_in p.defaults (expression_tools ask p call) }

-- executions at most n deep
unfoldable pub execution : Ask → Meaning → ℕ → Call
execution ask p zero x env c l w = Cut 0 c l
execution ask p (suc n) x env c l w = execute p (tools_with ask p (execution ask p n)) x env c l w

-- with a clock, no execution is deeper than the clock allows
unfoldable pub tools : Ask → Meaning → ℕ → Tools
tools ask p clock = tools_with ask p (execution ask p (suc clock))

-- The run ----------------------------------------------------------------------------------

-- the main procedure in the empty world; it takes none from the clock
unfoldable pub run_meaning : Meaning → ℕ → Ask → ℕ → Out Returned
run_meaning p main ask clock = run_number p (tools ask p clock) [] [] main clock empty_log empty_world

unfoldable pub run : Checked → Ask → ℕ → Out Returned
run p ask clock = run_meaning (meaning_of p) p.main ask clock

-- what a run comes to: what it showed, its choices, how it ended (not at all where it was cut), and its ticks
pub record Outcome : Type 0 where
  pub trace : List Event
  pub picks : List Pick
  pub end : Option End
  pub ticks : ℕ

-- the name of an exception (11.1)
unfoldable pub name_of : List (List ℕ) → ℕ → List ℕ
name_of names e = item_or [] (slice_get names e)

unfoldable pub end_by : List (List ℕ) → Way → End
end_by names (ByRaise e) = EndOf.TheVariants.Raised (name_of names e)
end_by names y = EndOf.TheVariants.Done

unfoldable pub outcome_of : List (List ℕ) → Out Returned → Outcome
outcome_of names (Gives (Goes a) t c l w) = record { trace = l.trace; picks = l.taken; end = Some EndOf.TheVariants.Done; ticks = t }
outcome_of names (Gives (Leaves y) t c l w) = record { trace = l.trace; picks = l.taken; end = Some (end_by names y); ticks = t }
outcome_of names (Stops s t l) = record { trace = l.trace; picks = l.taken; end = Some (EndOf.TheVariants.Stopped s); ticks = t }
outcome_of names (Cut t c l) = record { trace = l.trace; picks = l.taken; end = None; ticks = t }

-- the outcome of a program with a clock, where choices are answered so
unfoldable pub outcome : Checked → Ask → ℕ → Outcome
outcome p ask clock = outcome_of p.exceptions (run p ask clock)

-- everything here, opened at once
unfoldable pub opened_run : Unit {0}
unfolding row_of defaults_from default_at meaning_of returned slots_for run_routine run_number completed execute expression_tools default_in tools_with execution tools run_meaning run name_of end_by outcome_of outcome
opened_run = tt

-- all definitions, opened at once
unfoldable pub opened_meaning : Unit {0}
unfolding opened_lists opened_world opened_ledger opened_activations opened_objects opened_pools opened_changes opened_choice opened_outcome opened_numbers opened_types opened_members opened_names opened_marks opened_expressions opened_finalization opened_adjustment opened_initialization opened_storage opened_allocation opened_masters opened_statements opened_run
opened_meaning = tt
