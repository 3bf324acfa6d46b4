-- What the text of a program does, where its executions are related: its statements, its subprograms and its allocators.
use Rattle.std.proofs.Common.{ℕ, List, [], Option, Some, None}
use Rattle.ctl_program.specs.declared.types.Ty.{Ty}
use Rattle.ctl_program.specs.declared.statement.Stmt.{Stmt}
use Rattle.ctl_program.specs.declared.program.Checked.{Checked}
use Rattle.ctl_meaning.specs.World.{Slot}
use Rattle.ctl_meaning.specs.Choice.{Ask}
use Rattle.ctl_meaning.specs.Outcome.{Act, Done, on_some}
use Rattle.ctl_meaning.specs.Types.{Tables, tables_of}
use Rattle.ctl_meaning.specs.Names.{Call as Caller, Default, Returned, gone}
use Rattle.ctl_meaning.specs.Expressions.{Valued}
use Rattle.ctl_meaning.specs.Allocation.{allocate}
use Rattle.ctl_meaning.specs.Statements.{exec}
use Rattle.ctl_meaning.specs.Run.{meaning_of, defaults_from, default_at, expression_tools, default_in, tools_with, run_number}
use Rattle.ctl_meaning.proofs.Relation.{Closed, IfSome}
use Rattle.ctl_meaning.proofs.Layers.{Expressions, Statements}
use Rattle.ctl_meaning.proofs.Induction as I
use Rattle.ctl_meaning.proofs.Glue as G

-- no component begins by default
abbrev no_default : Default
no_default = λ u position env. gone

module _ (program : Checked) (ask other : Ask) (call spare : Caller) (Rel : (A : Type 0) → Act A → Act A → Type 0) (closed : Closed (tables_of program) ask other Rel) where
  abbrev t : Tables
  t = tables_of program

  abbrev of_k : Default
  of_k = default_in (defaults_from [] program.records) (record { ask = ask; tables = t; call = call; default = no_default })

  abbrev of_j : Default
  of_j = default_in (defaults_from [] program.records) (record { ask = other; tables = t; call = spare; default = no_default })

  module _ (calls : I.Calls t ask other call spare no_default no_default Rel closed) (allocates : I.Allocates t ask other call spare no_default no_default Rel closed) where
    value_in : (o : Option Valued) → IfSome (I.GoodValue t ask other call spare no_default no_default Rel closed) o → (env : List ℕ) → Rel (List ℕ) (on_some o gone (λ e. e (record { ask = ask; tables = t; call = call; default = no_default }) env)) (on_some o gone (λ e. e (record { ask = other; tables = t; call = spare; default = no_default }) env))
    unfolding on_some gone
    value_in None h env = closed.stops _
    value_in (Some e) h env = h env

    values : I.Starts t ask other call spare of_k of_j Rel closed
    unfolding default_in
    values u position env = value_in (default_at (defaults_from [] program.records) u position) (G.good_default (I.expressions t ask other call spare no_default no_default Rel closed calls allocates) program.records u position) env

    expressions : Expressions (I.of_expressions t ask other call spare of_k of_j Rel closed)
    expressions = I.expressions t ask other call spare of_k of_j Rel closed calls allocates

    statements : Statements (I.of_expressions t ask other call spare of_k of_j Rel closed) (I.of_statements t ask other call spare of_k of_j Rel closed calls allocates values)
    statements = I.statements t ask other call spare of_k of_j Rel closed calls allocates values

    pub good_run_number : (env : List ℕ) (ss : List Slot) (f : ℕ) → Rel Returned (run_number (meaning_of program) (tools_with ask (meaning_of program) call) env ss f) (run_number (meaning_of program) (tools_with other (meaning_of program) spare) env ss f)
    unfolding run_number meaning_of tools_with expression_tools
    good_run_number env ss f = I.k_routine t ask other call spare of_k of_j Rel closed calls allocates values _ (G.good_routine expressions statements program.subprograms f) env ss

    pub good_allocate : (env : List ℕ) (a : ℕ) (ty : Ty) (h v : Option (List ℕ)) → Rel ℕ (allocate (tools_with ask (meaning_of program) call) env a ty h v) (allocate (tools_with other (meaning_of program) spare) env a ty h v)
    unfolding meaning_of tools_with expression_tools
    good_allocate env a ty h v = I.k_allocate t ask other call spare of_k of_j Rel closed calls allocates values env a ty h v

    pub good_exec : (s : Stmt) (env : List ℕ) (caught : ℕ) → Rel Done (exec s (tools_with ask (meaning_of program) call) env caught) (exec s (tools_with other (meaning_of program) spare) env caught)
    unfolding meaning_of tools_with expression_tools
    good_exec s = G.good_statement expressions statements s
