-- The checked form of statements, but for those that hold statements themselves (5.1 to 5.8, 6.4, 6.5, 11.3, A.10.7, 13.11).
use Rattle.std.specs.Prelude.{ℕ, if◌then◌else◌, List, [], ◌∷◌, slice_get, Option, Some, None}
use Rattle.ctl_tree.specs.declared.span.Span.{Span}
use Rattle.ctl_tree.specs.declared.fault.FaultCode.TheVariants as rule
use Rattle.ctl_program.specs.Library.{constraint_error, program_error, storage_error}
use Rattle.ctl_program.specs.declared.types.Ty.{Ty}
use Rattle.ctl_program.specs.declared.types.Ty.TheVariants as ty
use Rattle.ctl_program.specs.declared.expression.Expr.{Expr}
use Rattle.ctl_program.specs.declared.expression.Name.{Name as Checked_name}
use Rattle.ctl_program.specs.declared.statement.Piece.{Piece}
use Rattle.ctl_program.specs.declared.statement.Stmt.{Stmt}
use Rattle.ctl_program.specs.declared.statement.Stmt.TheVariants as stmt
use Rattle.ctl_syntax.specs.declared.denoted.Denoted.{Denoted}
use Rattle.ctl_syntax.specs.declared.denoted.Denoted.TheVariants as denoted
use Rattle.ctl_syntax.specs.declared.denoted.LibraryName.{LibraryName}
use Rattle.ctl_syntax.specs.declared.denoted.LibraryName.TheVariants as library
use Rattle.ctl_syntax.specs.declared.denoted.OperationName.{OperationName}
use Rattle.ctl_syntax.specs.declared.denoted.OperationName.TheVariants.{Allocate, Deallocate}
use Rattle.ctl_syntax.specs.declared.denoted.Use.{Use}
use Rattle.ctl_syntax.specs.declared.name.Identifier.{Identifier}
use Rattle.ctl_syntax.specs.declared.name.Mark.{Mark}
use Rattle.ctl_syntax.specs.declared.name.Suffix.{Suffix}
use Rattle.ctl_syntax.specs.declared.name.Suffix.TheVariants as suffix
use Rattle.ctl_typing.specs.declared.table.Tables.{Tables}
use Rattle.ctl_typing.specs.declared.table.Entry.{Entry}
use Rattle.ctl_typing.specs.declared.table.Entry.TheVariants as entry
use Rattle.ctl_typing.specs.declared.table.Profile.{Profile}
use Rattle.ctl_typing.specs.declared.found.Asked.{Asked}
use Rattle.ctl_typing.specs.declared.found.Asked.TheVariants.{Anything, Exactly}
use Rattle.ctl_typing.specs.declared.found.Place.{Place}
use Rattle.ctl_statements.specs.declared.assignments.Source.{Source}
use Rattle.ctl_statements.specs.declared.assignments.Source.TheVariants as as_source
use Rattle.ctl_statements.specs.declared.assignments.Target.{Target}
use Rattle.ctl_typing.specs.declared.found.Found.{Found}
use Rattle.ctl_typing.specs.declared.found.Found.TheVariants.{Part, Computed, Discriminant, View}
use Rattle.ctl_draft.specs.declared.draft.Draft.{Draft}
use Rattle.ctl_draft.specs.declared.draft.Giving.{Giving}
use Rattle.ctl_draft.specs.declared.draft.Giving.TheVariants as giving
use Rattle.ctl_draft.specs.declared.draft.Looping.{Looping}
use Rattle.ctl_draft.specs.declared.draft.Looping.TheVariants as looping
use Rattle.ctl_draft.specs.declared.draft.Handling.{Handling}
use Rattle.ctl_draft.specs.declared.draft.Handling.TheVariants as handling
use Rattle.ctl_draft.specs.declared.draft.Returning.TheVariants.{Somewhere}
use Rattle.ctl_typing.specs.Judgement.{Judgement, known, but, wrong, unresolved, noting, ◌>>=◌, both, following, followed_by, each}
use Rattle.ctl_typing.specs.Lookup.{same, root_of, is_limited}
use Rattle.ctl_typing.specs.Typing.{Sense, found, settled, name_of, as_variable, variable_of, actuals_of, handed_on, truth_of}
use Rattle.ctl_draft.specs.Draft.{Doing, by_tables, broken}
use Rattle.ctl_draft.specs.Operations.{provides, user_operation, operation_formals, operations_of}
use Rattle.ctl_program.specs.declared.statement.Choices.{Choices as Checked_choices}
use Rattle.ctl_program.specs.declared.statement.Choices.TheVariants as chosen
use Rattle.ctl_syntax.specs.declared.item.Choices.{Choices}
use Rattle.ctl_syntax.specs.declared.item.Choices.TheVariants as choices

-- Variables that are written to ---------------------------------------------------------------

-- the name of a variable of this type (6.4.1)
abbrev pub writing : Tables → Ty → Sense → Judgement Checked_name
writing tables t x = variable_of tables t x >>= (λ p. known (name_of p))

-- Assignments (5.2) -----------------------------------------------------------------------------

abbrev pub limited_kept : Tables → Span → Target → Judgement Target
limited_kept tables place t = if is_limited tables t.ty then but rule.Limited place t else known t

-- what an assignment writes to: a variable that is not limited
abbrev pub target_part : Tables → Span → Place → Judgement Target
target_part tables place p = as_variable place p.mutability (record { name = name_of p; ty = p.ty }) >>= limited_kept tables place

abbrev pub target_found : Tables → Span → Found → Judgement Target
target_found tables place (Part p) = target_part tables place p
target_found tables place (Computed t) = wrong rule.Mode place
target_found tables place (Discriminant p k) = wrong rule.Mode place
target_found tables place f = wrong rule.Type place

abbrev pub target : Tables → Use → List (Suffix Sense) → Judgement Target
target tables u xs = found u xs tables >>= settled tables u.span >>= target_found tables u.span

abbrev pub record_part : Span → ℕ → Place → Judgement Source
record_part place t p = if same (ty.Record t) p.ty then noting p.ty (as_source.Record t (handed_on p.head p.steps p.ty)) else wrong rule.Type place

-- a record is read where a name denotes it, or as the result of a call; a view of it is none (profile)
abbrev pub record_source : Span → ℕ → Found → Judgement Source
record_source place t (Part p) = record_part place t p
record_source place t f = wrong rule.Type place

abbrev pub record_from : Tables → Span → ℕ → (Tables → Judgement Found) → Judgement Source
record_from tables place t name = name tables >>= settled tables place >>= record_source place t

abbrev pub record_named : Tables → Span → ℕ → Use → List (Suffix Sense) → Judgement Source
record_named tables place t u xs = record_from tables place t (found u xs)

abbrev pub value_source : Tables → Sense → Asked → Judgement Source
value_source tables x asked = x.judged tables asked >>= (λ r. known (as_source.Value r.value))

abbrev pub source_of_record : Tables → Span → ℕ → Sense → Option (Tables → Judgement Found) → Judgement Source
source_of_record tables place t x None = value_source tables x (Exactly (ty.Record t))
source_of_record tables place t x (Some name) = record_from tables place t name

abbrev pub source_of_type : Tables → Ty → Sense → Judgement Source
source_of_type tables (ty.Record t) x = source_of_record tables x.within t x x.named
source_of_type tables t x = value_source tables x (Exactly t)

-- what is assigned; where the target is wrong itself, the value is judged alone
abbrev pub source : Tables → Option Ty → Sense → Judgement Source
source tables None x = value_source tables x Anything
source tables (Some t) x = source_of_type tables t x

abbrev pub type_of_target : Option Target → Option Ty
type_of_target None = None
type_of_target (Some t) = Some t.ty

abbrev pub assigning : Checked_name → Source → Stmt
assigning to (as_source.Value x) = stmt.Assign to x
assigning to (as_source.Record t a) = stmt.AssignRecord to t a

abbrev pub assignment : Use → List (Suffix Sense) → Sense → Tables → Judgement Stmt
assignment u xs x tables = following (target tables u xs) (λ t. source tables (type_of_target t) x) >>= (λ r. known (assigning r.0.name r.1))

-- Explicit calls of operations (7.6, 13.11) -------------------------------------------------------------

-- the type of the first actual, by which the operation is told
abbrev pub operand_found : Span → Found → Judgement Ty
operand_found place (Part p) = known p.ty
operand_found place (View p) = known p.ty
operand_found place (Computed t) = known t.ty
operand_found place (Discriminant p k) = known ty.Count
operand_found place f = wrong rule.Type place

abbrev pub operand_of : Tables → Span → (Tables → Judgement Found) → Judgement Ty
operand_of tables place name = name tables >>= settled tables place >>= operand_found place

abbrev pub operand_named : Tables → Span → Use → List (Suffix Sense) → Judgement Ty
operand_named tables place u xs = operand_of tables place (found u xs)

abbrev pub operand_value : Tables → Sense → Judgement Ty
operand_value tables x = x.judged tables Anything >>= (λ t. known t.ty)

abbrev pub operand_by : Tables → Sense → Option (Tables → Judgement Found) → Judgement Ty
operand_by tables x None = operand_value tables x
operand_by tables x (Some name) = operand_of tables x.place name

abbrev pub operand_type : Tables → Sense → Judgement Ty
operand_type tables x = operand_by tables x x.bare

abbrev pub user_called : Tables → Span → OperationName → Ty → ℕ → List Sense → Judgement Stmt
user_called tables place o t s xs = actuals_of tables place (operation_formals o t) xs >>= (λ as'. known (stmt.Call s as'))

abbrev pub value_as : Tables → Ty → Sense → Judgement Expr
value_as tables t x = x.judged tables (Exactly t) >>= (λ r. known r.value)

-- a size and an alignment (13.11)
abbrev pub measures : Tables → Sense → Sense → Judgement (Expr × Expr)
measures tables s l = both (value_as tables ty.Count s) (value_as tables ty.Count l)

abbrev pub pool_and_variable : Tables → Ty → Sense → Sense → Judgement (Checked_name × Checked_name)
pool_and_variable tables t p a = both (writing tables t p) (writing tables ty.Address a)

abbrev pub library_allocate : Tables → Ty → Sense → Sense → Sense → Sense → Judgement Stmt
library_allocate tables t p a s l = both (pool_and_variable tables t p a) (measures tables s l) >>= (λ r. known (stmt.LibraryAllocate r.0.0 r.0.1 r.1.0 r.1.1))

abbrev pub pool_and_address : Tables → Ty → Sense → Sense → Judgement (Checked_name × Expr)
pool_and_address tables t p a = both (writing tables t p) (value_as tables ty.Address a)

abbrev pub library_deallocate : Tables → Ty → Sense → Sense → Sense → Sense → Judgement Stmt
library_deallocate tables t p a s l = both (pool_and_address tables t p a) (measures tables s l) >>= (λ r. known (stmt.LibraryDeallocate r.0.0 r.0.1 r.1.0 r.1.1))

-- an operation that does nothing
abbrev pub nothing_called : Tables → Ty → Sense → Judgement Stmt
nothing_called tables t x = writing tables t x >>= (λ n. known (stmt.Nothing n))

-- the library's operation of the type, in number and type of its actuals
abbrev pub library_operation : Tables → Span → OperationName → Ty → List Sense → Judgement Stmt
library_operation tables place Allocate t (p ∷ a ∷ s ∷ l ∷ []) = library_allocate tables t p a s l
library_operation tables place Allocate t xs = wrong rule.Type place
library_operation tables place Deallocate t (p ∷ a ∷ s ∷ l ∷ []) = library_deallocate tables t p a s l
library_operation tables place Deallocate t xs = wrong rule.Type place
library_operation tables place o t (x ∷ []) = nothing_called tables t x
library_operation tables place o t xs = wrong rule.Type place

abbrev pub operation_by : Tables → Span → OperationName → Ty → Option ℕ → List Sense → Judgement Stmt
operation_by tables place o t None xs = library_operation tables place o t xs
operation_by tables place o t (Some s) xs = user_called tables place o t s xs

abbrev pub operation_of : Tables → Span → OperationName → List Sense → Ty → Judgement Stmt
operation_of tables place o xs (ty.Record t) =
    if provides (root_of (slice_get tables.records t)) (is_limited tables (ty.Record t)) o
    then operation_by tables place o (ty.Record t) (user_operation o (operations_of (slice_get tables.states.records t))) xs
    else wrong rule.Type place
operation_of tables place o xs t = wrong rule.Type place

-- where it is not known what type the first actual has, there is no operation of it
abbrev pub operation_for : Tables → Span → OperationName → List Sense → Option Ty → Judgement Stmt
operation_for tables place o xs None = wrong rule.Type place
operation_for tables place o xs (Some t) = operation_of tables place o xs t

-- an explicit call of an operation is one of the operation of the first actual's type
abbrev pub operation_called : Tables → Span → OperationName → Sense → List Sense → Judgement Stmt
operation_called tables place o x more = followed_by (operand_type tables x) (operation_for tables place o (x ∷ more))

-- Calls (6.4) ----------------------------------------------------------------------------------------------

-- a call without actuals, or with these
abbrev pub arguments_of : List (Suffix Sense) → Option (List Sense)
arguments_of [] = Some []
arguments_of (suffix.Arguments s x more ∷ []) = Some (x ∷ more)
arguments_of xs = None

abbrev pub operation_with : Tables → Span → OperationName → Option (List Sense) → Judgement Stmt
operation_with tables place o (Some (x ∷ more)) = operation_called tables place o x more
operation_with tables place o xs = wrong rule.Type place

abbrev pub putting_by : LibraryName → List Piece → Stmt
putting_by library.Put ps = stmt.Put ps
putting_by l ps = stmt.PutLine ps

abbrev pub putting : Tables → LibraryName → Sense → Judgement Stmt
putting tables l x = x.texts tables >>= (λ ps. known (putting_by l ps))

abbrev pub releasing : Tables → Sense → Judgement Stmt
releasing tables x = writing tables ty.Handle x >>= (λ n. known (stmt.Release n))

-- the library's procedures (A.10.7, A.10.5, 13.11.5)
abbrev pub library_with : Tables → Span → LibraryName → Option (List Sense) → Judgement Stmt
library_with tables place library.NewLine (Some []) = known stmt.NewLine
library_with tables place library.Put (Some (x ∷ [])) = putting tables library.Put x
library_with tables place library.PutLine (Some (x ∷ [])) = putting tables library.PutLine x
library_with tables place library.UncheckedDeallocateSubpool (Some (x ∷ [])) = releasing tables x
library_with tables place l xs = wrong rule.Type place

abbrev pub procedure_by : Tables → Span → Option Ty → Profile → List Sense → Judgement Stmt
procedure_by tables place None p xs = actuals_of tables place p.formals xs >>= (λ as'. known (stmt.Call p.subprogram as'))
procedure_by tables place (Some t) p xs = wrong rule.Type place

abbrev pub procedure_called : Tables → Span → Profile → List Sense → Judgement Stmt
procedure_called tables place p xs = procedure_by tables place p.result p xs

abbrev pub deallocating : Tables → ℕ → Sense → Judgement Stmt
deallocating tables a x = writing tables (ty.Access a) x >>= (λ n. known (stmt.Free a n))

-- what the text declares; an instance of Ada.Unchecked_Deallocation takes a variable of its access type (13.11.2)
abbrev pub declared_with : Tables → Span → Option Entry → Option (List Sense) → Judgement Stmt
declared_with tables place (Some (entry.Subprogram p)) (Some xs) = procedure_called tables place p xs
declared_with tables place (Some (entry.Deallocation a)) (Some (x ∷ [])) = deallocating tables a x
declared_with tables place (Some entry.Unknown) xs = λ n. (None, n)
declared_with tables place e xs = wrong rule.Type place

abbrev pub declared_called : Tables → Span → ℕ → Option (List Sense) → Judgement Stmt
declared_called tables place number xs = declared_with tables place (slice_get tables.entries number) xs

abbrev pub called_by : Tables → Span → Denoted → Option (List Sense) → Judgement Stmt
called_by tables place (denoted.Declared number level) xs = declared_called tables place number xs
called_by tables place (denoted.Library l) xs = library_with tables place l xs
called_by tables place (denoted.Operation o) xs = operation_with tables place o xs
called_by tables place denoted.Unknown xs = unresolved place

-- a call of a procedure
abbrev pub call : Span → Use → List (Suffix Sense) → Tables → Judgement Stmt
call place u xs tables = called_by tables place u.denoted (arguments_of xs)

-- Exceptions (11.2, 11.3) --------------------------------------------------------------------------------------

abbrev pub exception_entry : Span → Option Entry → Judgement ℕ
exception_entry place (Some (entry.Exception n)) = known n
exception_entry place (Some entry.Unknown) = λ n. (None, n)
exception_entry place e = wrong rule.Type place

abbrev pub exception_of : Tables → Span → ℕ → Judgement ℕ
exception_of tables place number = exception_entry place (slice_get tables.entries number)

abbrev pub exception_denoted : Tables → Span → Denoted → Judgement ℕ
exception_denoted tables place (denoted.Declared number level) = exception_of tables place number
exception_denoted tables place (denoted.Library library.ConstraintError) = known constraint_error
exception_denoted tables place (denoted.Library library.ProgramError) = known program_error
exception_denoted tables place (denoted.Library library.StorageError) = known storage_error
exception_denoted tables place denoted.Unknown = unresolved place
exception_denoted tables place d = wrong rule.Type place

abbrev pub exception_named : Tables → Span → Use → List Identifier → Judgement ℕ
exception_named tables place u [] = exception_denoted tables place u.denoted
exception_named tables place u (i ∷ is) = wrong rule.Type place

abbrev pub raising : Span → Mark Use → Tables → Judgement Stmt
raising place m tables = exception_named tables place m.first m.rest >>= (λ n. known (stmt.Raise n))

abbrev pub choice : Span → Mark Use → Tables → Judgement ℕ
choice place m tables = exception_named tables place m.first m.rest

abbrev pub exceptions_chosen : Span → List (Mark Use) → Doing (List ℕ)
exceptions_chosen place ms d = each (λ m. by_tables (choice place m)) (Some []) ms d

abbrev pub choices_of : Span → Choices Use → Doing Checked_choices
choices_of place choices.Others = known chosen.Others
choices_of place (choices.Exceptions ms) = exceptions_chosen place ms >>= (λ ns. known (chosen.Exceptions ns))

-- Transfers (5.7, 6.5, 11.3) --------------------------------------------------------------------------------------

abbrev pub raising_again : Span → Handling → Doing Stmt
raising_again place handling.Outside = broken rule.Return place
raising_again place handling.Inside = known stmt.RaiseAgain

abbrev pub exit_by : Option Sense → Tables → Judgement Stmt
exit_by None tables = known (stmt.Exit None)
exit_by (Some x) tables = truth_of tables x >>= (λ c. known (stmt.Exit (Some c)))

abbrev pub exiting : Span → Looping → Option Sense → Doing Stmt
exiting place looping.Outside c = broken rule.Return place
exiting place looping.Inside c = by_tables (exit_by c)

abbrev pub with_return : Draft → Draft
with_return d = record d { returning = Somewhere }

abbrev pub return_value : Asked → Sense → Tables → Judgement Stmt
return_value asked x tables = x.judged tables asked >>= (λ r. known (stmt.Return (Some r.value)))

-- where it is not known what a return gives, nothing is known of it
abbrev pub unclear_value : Sense → Tables → Judgement Stmt
unclear_value x tables = x.judged tables Anything >>= (λ r n. (None, n))

abbrev pub return_by : Span → Giving → Option Sense → Doing Stmt
return_by place giving.Nothing None = known (stmt.Return None)
return_by place (giving.Value t) (Some x) = by_tables (return_value (Exactly t) x)
return_by place giving.Unclear (Some x) = by_tables (unclear_value x)
return_by place g x = broken rule.Return place

abbrev pub returning : Span → Giving → Option Sense → Doing Stmt
returning place g x d = return_by place g x (with_return d)
