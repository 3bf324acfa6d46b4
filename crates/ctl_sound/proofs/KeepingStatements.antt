-- No judgement of a statement that holds none takes a fault back.
use Rattle.std.proofs.Common.{ℕ, List, [], ◌∷◌, map, slice_get, Option, Some, None}
use Rattle.ctl_tree.specs.declared.span.Span.{Span}
use Rattle.ctl_tree.specs.declared.fault.FaultCode.TheVariants as fault
use Rattle.ctl_program.specs.declared.types.Ty.{Ty}
use Rattle.ctl_program.specs.declared.types.Ty.TheVariants as ty
use Rattle.ctl_program.specs.declared.statement.Stmt.{Stmt}
use Rattle.ctl_program.specs.declared.statement.Stmt.TheVariants as stmt
use Rattle.ctl_syntax.specs.declared.denoted.Denoted.{Denoted}
use Rattle.ctl_syntax.specs.declared.denoted.Denoted.TheVariants as denoted
use Rattle.ctl_syntax.specs.declared.denoted.LibraryName.{LibraryName}
use Rattle.ctl_syntax.specs.declared.denoted.LibraryName.TheVariants as library
use Rattle.ctl_syntax.specs.declared.denoted.OperationName.{OperationName}
use Rattle.ctl_syntax.specs.declared.denoted.OperationName.TheVariants.{Initialize, Adjust, Finalize, Allocate, Deallocate}
use Rattle.ctl_syntax.specs.declared.denoted.Use.{Use}
use Rattle.ctl_syntax.specs.declared.expression.Expression.{Expression}
use Rattle.ctl_syntax.specs.declared.name.Identifier.{Identifier}
use Rattle.ctl_syntax.specs.declared.name.Name.{Name}
use Rattle.ctl_syntax.specs.declared.name.Suffix.{Suffix}
use Rattle.ctl_syntax.specs.declared.name.Suffix.TheVariants as suffix
use Rattle.ctl_typing.specs.declared.table.Tables.{Tables}
use Rattle.ctl_typing.specs.declared.table.Entry.{Entry}
use Rattle.ctl_typing.specs.declared.table.Entry.TheVariants as entry
use Rattle.ctl_typing.specs.declared.table.Profile.{Profile}
use Rattle.ctl_typing.specs.declared.found.Asked.{Asked}
use Rattle.ctl_typing.specs.declared.found.Asked.TheVariants as asking
use Rattle.ctl_typing.specs.declared.found.Found.{Found}
use Rattle.ctl_typing.specs.declared.found.Found.TheVariants as is
use Rattle.ctl_typing.specs.Judgement.{Judgement, known, but, wrong, noting, ◌>>=◌, both, following}
use Rattle.ctl_typing.specs.Lookup.{same, root_of, is_limited}
use Rattle.ctl_typing.specs.Senses.{suffix_sense}
use Rattle.ctl_typing.specs.Typing as expr
use Rattle.ctl_typing.specs.Typing.{Sense, sense}
use Rattle.ctl_statements.specs.Statements as spec
use Rattle.ctl_draft.specs.Operations as operations
use Rattle.ctl_statements.specs.declared.assignments.Source.{Source}
use Rattle.ctl_statements.specs.declared.assignments.Source.TheVariants as as_source
use Rattle.ctl_statements.specs.declared.assignments.Target.{Target}
use Rattle.ctl_sound.specs.Known.{IfSome, All, Stays}
use Rattle.ctl_sound.specs.Law.{SimpleStatementsKeepFaults}
use Rattle.ctl_sound.proofs.Stays.{Keeps, KeepsSuffix, FoundStays, known_stays, silent_stays, wrong_stays, but_stays, next_stays, both_stays, following_stays, followed_stays, if_stays, settled_stays, as_variable_stays, variable_of_stays, actuals_stay}
use Rattle.ctl_sound.proofs.Keeping.{settled_found_stays, truth_stays, expression_keeps, suffixes_keep}

-- Variables that are written to ----------------------------------------------------------

writing_stays : (tables : Tables) (t : Ty) (x : Sense) → Keeps x → Stays (spec.writing tables t x)
writing_stays tables t x g = next_stays (expr.variable_of tables t x) (λ p. known (expr.name_of p)) (variable_of_stays tables t x g) (λ p. known_stays (expr.name_of p))

-- Assignments (5.2) --------------------------------------------------------------------------

target_found_stays : (tables : Tables) (place : Span) (f : Found) → Stays (spec.target_found tables place f)
target_found_stays tables place (is.Part p) =
    let t : Target = record { name = expr.name_of p; ty = p.ty } in
    next_stays (expr.as_variable place p.mutability t) (spec.limited_kept tables place) (as_variable_stays place p.mutability t) (λ q. if_stays (is_limited tables q.ty) (but fault.Limited place q) (known q) (but_stays fault.Limited place q) (known_stays q))
target_found_stays tables place (is.Computed t) = wrong_stays Target fault.Mode place
target_found_stays tables place (is.Discriminant p k) = wrong_stays Target fault.Mode place
target_found_stays tables place _ = wrong_stays Target fault.Type place

target_stays : (tables : Tables) (u : Use) (xs : List (Suffix Sense)) → All KeepsSuffix xs → Stays (spec.target tables u xs)
target_stays tables u xs g = next_stays (expr.found u xs tables >>= expr.settled tables u.span) (spec.target_found tables u.span) (settled_found_stays u xs tables u.span g) (target_found_stays tables u.span)

noted : (t : Ty) (s : Source) → Stays (noting t s)
noted t s n h = record { early = h.early; fault = h.fault }

record_source_stays : (place : Span) (t : ℕ) (f : Found) → Stays (spec.record_source place t f)
record_source_stays place t (is.Part p) = if_stays (same (ty.Record t) p.ty) (noting p.ty (as_source.Record t (expr.handed_on p.head p.steps p.ty))) (wrong fault.Type place) (noted p.ty (as_source.Record t (expr.handed_on p.head p.steps p.ty))) (wrong_stays Source fault.Type place)
record_source_stays place t _ = wrong_stays Source fault.Type place

value_source_stays : (tables : Tables) (x : Sense) (asked : Asked) → Keeps x → Stays (spec.value_source tables x asked)
value_source_stays tables x asked g = next_stays (x.judged tables asked) (λ r. known (as_source.Value r.value)) (g.judged tables asked) (λ r n h. h)

source_of_record_stays : (tables : Tables) (place : Span) (t : ℕ) (x : Sense) (o : Option (Tables → Judgement Found)) → Keeps x → FoundStays o → Stays (spec.source_of_record tables place t x o)
source_of_record_stays tables place t x None g h = value_source_stays tables x (asking.Exactly (ty.Record t)) g
source_of_record_stays tables place t x (Some name) g h = next_stays (name tables >>= expr.settled tables place) (spec.record_source place t) (next_stays (name tables) (expr.settled tables place) (h tables) (settled_stays tables place)) (record_source_stays place t)

source_stays : (tables : Tables) (o : Option Ty) (x : Sense) → Keeps x → Stays (spec.source tables o x)
source_stays tables None x g = value_source_stays tables x asking.Anything g
source_stays tables (Some (ty.Record t)) x g = source_of_record_stays tables x.within t x x.named g g.named
source_stays tables (Some ty.Integer) x g = value_source_stays tables x (asking.Exactly ty.Integer) g
source_stays tables (Some ty.Count) x g = value_source_stays tables x (asking.Exactly ty.Count) g
source_stays tables (Some ty.Boolean) x g = value_source_stays tables x (asking.Exactly ty.Boolean) g
source_stays tables (Some ty.Address) x g = value_source_stays tables x (asking.Exactly ty.Address) g
source_stays tables (Some ty.Handle) x g = value_source_stays tables x (asking.Exactly ty.Handle) g
source_stays tables (Some (ty.Access a)) x g = value_source_stays tables x (asking.Exactly (ty.Access a)) g

assignment_stays : (tables : Tables) (u : Use) (xs : List (Suffix Sense)) (x : Sense) → All KeepsSuffix xs → Keeps x → Stays (spec.assignment u xs x tables)
assignment_stays tables u xs x g h = next_stays (following (spec.target tables u xs) (λ t. spec.source tables (spec.type_of_target t) x)) (λ r. known (spec.assigning r.0.name r.1))
    (following_stays (spec.target tables u xs) (λ t. spec.source tables (spec.type_of_target t) x) (target_stays tables u xs g) (λ t. source_stays tables (spec.type_of_target t) x h)) (λ r n c. c)

-- Operations and other calls (6.4, 7.6, 13.11) -----------------------------------------------------

operand_found_stays : (place : Span) (f : Found) → Stays (spec.operand_found place f)
operand_found_stays place (is.Part p) = λ n h. h
operand_found_stays place (is.View p) = λ n h. h
operand_found_stays place (is.Computed t) = λ n h. h
operand_found_stays place (is.Discriminant p k) = λ n h. h
operand_found_stays place _ = wrong_stays Ty fault.Type place

operand_by_stays : (tables : Tables) (x : Sense) (o : Option (Tables → Judgement Found)) → Keeps x → FoundStays o → Stays (spec.operand_by tables x o)
operand_by_stays tables x None g h = next_stays (x.judged tables asking.Anything) (λ t. known t.ty) (g.judged tables asking.Anything) (λ t n c. c)
operand_by_stays tables x (Some name) g h = next_stays (name tables >>= expr.settled tables x.place) (spec.operand_found x.place) (next_stays (name tables) (expr.settled tables x.place) (h tables) (settled_stays tables x.place)) (operand_found_stays x.place)

typed_stays : (tables : Tables) (t : Ty) (x : Sense) → Keeps x → Stays (x.judged tables (asking.Exactly t) >>= (λ r. known r.value))
typed_stays tables t x g = next_stays (x.judged tables (asking.Exactly t)) (λ r. known r.value) (g.judged tables (asking.Exactly t)) (λ r n h. h)

library_operation_stays : (tables : Tables) (place : Span) (o : OperationName) (t : Ty) (xs : List Sense) → All Keeps xs → Stays (spec.library_operation tables place o t xs)
library_operation_stays tables place Allocate t (p ∷ a ∷ s ∷ l ∷ []) g =
    let m = both (spec.writing tables t p) (spec.writing tables ty.Address a) in
    let n = both (spec.value_as tables ty.Count s) (spec.value_as tables ty.Count l) in
    next_stays (both m n) (λ r. known (stmt.LibraryAllocate r.0.0 r.0.1 r.1.0 r.1.1)) (both_stays m n (both_stays (spec.writing tables t p) (spec.writing tables ty.Address a) (writing_stays tables t p g.0) (writing_stays tables ty.Address a g.1.0)) (both_stays (spec.value_as tables ty.Count s) (spec.value_as tables ty.Count l) (typed_stays tables ty.Count s g.1.1.0) (typed_stays tables ty.Count l g.1.1.1.0))) (λ r k h. h)
library_operation_stays tables place Deallocate t (p ∷ a ∷ s ∷ l ∷ []) g =
    let m = both (spec.writing tables t p) (spec.value_as tables ty.Address a) in
    let n = both (spec.value_as tables ty.Count s) (spec.value_as tables ty.Count l) in
    next_stays (both m n) (λ r. known (stmt.LibraryDeallocate r.0.0 r.0.1 r.1.0 r.1.1)) (both_stays m n (both_stays (spec.writing tables t p) (spec.value_as tables ty.Address a) (writing_stays tables t p g.0) (typed_stays tables ty.Address a g.1.0)) (both_stays (spec.value_as tables ty.Count s) (spec.value_as tables ty.Count l) (typed_stays tables ty.Count s g.1.1.0) (typed_stays tables ty.Count l g.1.1.1.0))) (λ r k h. h)
library_operation_stays tables place Initialize t (x ∷ []) g = next_stays (spec.writing tables t x) (λ n. known (stmt.Nothing n)) (writing_stays tables t x g.0) (λ n k h. h)
library_operation_stays tables place Adjust t (x ∷ []) g = next_stays (spec.writing tables t x) (λ n. known (stmt.Nothing n)) (writing_stays tables t x g.0) (λ n k h. h)
library_operation_stays tables place Finalize t (x ∷ []) g = next_stays (spec.writing tables t x) (λ n. known (stmt.Nothing n)) (writing_stays tables t x g.0) (λ n k h. h)
library_operation_stays tables place o t xs g = wrong_stays Stmt fault.Type place

operation_by_stays : (tables : Tables) (place : Span) (o : OperationName) (t : Ty) (q : Option ℕ) (xs : List Sense) → All Keeps xs → Stays (spec.operation_by tables place o t q xs)
operation_by_stays tables place o t None xs g = library_operation_stays tables place o t xs g
operation_by_stays tables place o t (Some s) xs g = next_stays (expr.actuals_of tables place (operations.operation_formals o t) xs) (λ as'. known (stmt.Call s as')) (actuals_stay tables place (operations.operation_formals o t) xs g) (λ as' n h. h)

operation_of_stays : (tables : Tables) (place : Span) (o : OperationName) (xs : List Sense) (t : Ty) → All Keeps xs → Stays (spec.operation_of tables place o xs t)
operation_of_stays tables place o xs (ty.Record t) g =
    let q = operations.user_operation o (operations.operations_of (slice_get tables.states.records t)) in
    if_stays (operations.provides (root_of (slice_get tables.records t)) (is_limited tables (ty.Record t)) o) (spec.operation_by tables place o (ty.Record t) q xs) (wrong fault.Type place) (operation_by_stays tables place o (ty.Record t) q xs g) (wrong_stays Stmt fault.Type place)
operation_of_stays tables place o xs _ g = wrong_stays Stmt fault.Type place

operation_for_stays : (tables : Tables) (place : Span) (o : OperationName) (xs : List Sense) (t : Option Ty) → All Keeps xs → Stays (spec.operation_for tables place o xs t)
operation_for_stays tables place o xs None g = wrong_stays Stmt fault.Type place
operation_for_stays tables place o xs (Some t) g = operation_of_stays tables place o xs t g

operation_with_stays : (tables : Tables) (place : Span) (o : OperationName) (xs : Option (List Sense)) → IfSome (All Keeps) xs → Stays (spec.operation_with tables place o xs)
operation_with_stays tables place o (Some (x ∷ more)) g = followed_stays (spec.operand_type tables x) (spec.operation_for tables place o (x ∷ more)) (operand_by_stays tables x x.bare g.0 g.0.bare) (λ t. operation_for_stays tables place o (x ∷ more) t g)
operation_with_stays tables place o (Some []) g = wrong_stays Stmt fault.Type place
operation_with_stays tables place o None g = wrong_stays Stmt fault.Type place

arguments_keep : (xs : List (Suffix Sense)) → All KeepsSuffix xs → IfSome (All Keeps) (spec.arguments_of xs)
arguments_keep [] g = tt
arguments_keep (suffix.Arguments s x more ∷ []) g = g.0
arguments_keep (suffix.Arguments s x more ∷ (y ∷ ys)) g = tt
arguments_keep (suffix.Selector i ∷ xs) g = tt
arguments_keep (suffix.All i ∷ xs) g = tt
arguments_keep (suffix.Attribute i j ∷ xs) g = tt

putting_stays : (tables : Tables) (l : LibraryName) (x : Sense) → Keeps x → Stays (spec.putting tables l x)
putting_stays tables l x g = next_stays (x.texts tables) (λ ps. known (spec.putting_by l ps)) (g.texts tables) (λ ps n h. h)

library_with_stays : (tables : Tables) (place : Span) (l : LibraryName) (xs : Option (List Sense)) → IfSome (All Keeps) xs → Stays (spec.library_with tables place l xs)
library_with_stays tables place library.NewLine (Some []) g = λ n h. h
library_with_stays tables place library.Put (Some (x ∷ [])) g = putting_stays tables library.Put x g.0
library_with_stays tables place library.PutLine (Some (x ∷ [])) g = putting_stays tables library.PutLine x g.0
library_with_stays tables place library.UncheckedDeallocateSubpool (Some (x ∷ [])) g = next_stays (spec.writing tables ty.Handle x) (λ n. known (stmt.Release n)) (writing_stays tables ty.Handle x g.0) (λ n k h. h)
library_with_stays tables place l xs g = wrong_stays Stmt fault.Type place

procedure_by_stays : (tables : Tables) (place : Span) (r : Option Ty) (p : Profile) (xs : List Sense) → All Keeps xs → Stays (spec.procedure_by tables place r p xs)
procedure_by_stays tables place None p xs g = next_stays (expr.actuals_of tables place p.formals xs) (λ as'. known (stmt.Call p.subprogram as')) (actuals_stay tables place p.formals xs g) (λ as' n h. h)
procedure_by_stays tables place (Some t) p xs g = wrong_stays Stmt fault.Type place

declared_with_stays : (tables : Tables) (place : Span) (e : Option Entry) (xs : Option (List Sense)) → IfSome (All Keeps) xs → Stays (spec.declared_with tables place e xs)
declared_with_stays tables place (Some (entry.Subprogram p)) (Some xs) g = procedure_by_stays tables place p.result p xs g
declared_with_stays tables place (Some (entry.Deallocation a)) (Some (x ∷ [])) g = next_stays (spec.writing tables (ty.Access a) x) (λ n. known (stmt.Free a n)) (writing_stays tables (ty.Access a) x g.0) (λ n k h. h)
declared_with_stays tables place (Some entry.Unknown) xs g = silent_stays Stmt
declared_with_stays tables place e xs g = wrong_stays Stmt fault.Type place

called_by_stays : (tables : Tables) (place : Span) (d : Denoted) (xs : Option (List Sense)) → IfSome (All Keeps) xs → Stays (spec.called_by tables place d xs)
called_by_stays tables place (denoted.Declared n level) xs g = declared_with_stays tables place (slice_get tables.entries n) xs g
called_by_stays tables place (denoted.Library l) xs g = library_with_stays tables place l xs g
called_by_stays tables place (denoted.Operation o) xs g = operation_with_stays tables place o xs g
called_by_stays tables place denoted.Unknown xs g = wrong_stays Stmt fault.Unknown place

-- Transfers of control ------------------------------------------------------------------------------

exception_entry_stays : (place : Span) (e : Option Entry) → Stays (spec.exception_entry place e)
exception_entry_stays place (Some (entry.Exception n)) = known_stays n
exception_entry_stays place (Some entry.Unknown) = silent_stays ℕ
exception_entry_stays place e = wrong_stays ℕ fault.Type place

exception_denoted_stays : (tables : Tables) (place : Span) (d : Denoted) → Stays (spec.exception_denoted tables place d)
exception_denoted_stays tables place (denoted.Declared n level) = exception_entry_stays place (slice_get tables.entries n)
exception_denoted_stays tables place (denoted.Library library.ConstraintError) = λ n h. h
exception_denoted_stays tables place (denoted.Library library.ProgramError) = λ n h. h
exception_denoted_stays tables place (denoted.Library library.StorageError) = λ n h. h
exception_denoted_stays tables place denoted.Unknown = wrong_stays ℕ fault.Unknown place
exception_denoted_stays tables place d = wrong_stays ℕ fault.Type place

pub exception_named_stays : (tables : Tables) (place : Span) (u : Use) (rest : List Identifier) → Stays (spec.exception_named tables place u rest)
exception_named_stays tables place u [] = exception_denoted_stays tables place u.denoted
exception_named_stays tables place u (i ∷ rest) = wrong_stays ℕ fault.Type place

pub simple_statements_keep_faults : (n : Name Use (Expression Use)) (x : Expression Use) → SimpleStatementsKeepFaults n x
simple_statements_keep_faults n x = record {
  assignment = λ tables. assignment_stays tables n.first (map suffix_sense n.suffixes) (sense x) (suffixes_keep n.suffixes) (expression_keeps x);
  call = λ tables place. called_by_stays tables place n.first.denoted (spec.arguments_of (map suffix_sense n.suffixes)) (arguments_keep (map suffix_sense n.suffixes) (suffixes_keep n.suffixes));
  raise = λ tables place m. next_stays (spec.exception_named tables place m.first m.rest) (λ e. known (stmt.Raise e)) (exception_named_stays tables place m.first m.rest) (λ e k h. h);
  return = λ tables asked. next_stays ((sense x).judged tables asked) (λ r. known (stmt.Return (Some r.value))) ((expression_keeps x).judged tables asked) (λ r k h. h);
  condition = λ tables. truth_stays tables (sense x) (expression_keeps x);
}
