-- Statements, items and bodies in their checked form, and the whole program (3.11, 5.1, 6.3, 11.2, 10.1.1).
use Rattle.std.specs.Prelude.{◌≡◌, ◌⊎◌, ℕ, ◌+◌, Bool, true, false, ◌&&◌, ◌||◌, if◌then◌else◌, List, [], ◌∷◌, ◌++◌, codes, length, take, map, Option, Some, None, option_map, Result, Ok, Err}
use Rattle.ctl_tree.specs.declared.span.Span.{Span}
use Rattle.ctl_tree.specs.declared.fault.Fault.{Fault}
use Rattle.ctl_tree.specs.declared.fault.FaultCode.TheVariants as rule
use Rattle.ctl_program.specs.declared.types.Ty.{Ty}
use Rattle.ctl_program.specs.declared.types.Ty.TheVariants as ty
use Rattle.ctl_program.specs.declared.types.Root.{Root}
use Rattle.ctl_program.specs.declared.types.Root.TheVariants as root
use Rattle.ctl_program.specs.declared.types.Var.{Var}
use Rattle.ctl_program.specs.declared.types.Component.{Component}
use Rattle.ctl_program.specs.declared.types.RecordType.{RecordType}
use Rattle.ctl_program.specs.declared.types.AccessType.{AccessType}
use Rattle.ctl_program.specs.declared.expression.Expr.{Expr}
use Rattle.ctl_program.specs.declared.operators.Direction.{Direction as Checked_direction}
use Rattle.ctl_program.specs.declared.operators.Direction.TheVariants as way
use Rattle.ctl_program.specs.declared.operators.SubprogramKind.TheVariants as kind
use Rattle.ctl_program.specs.declared.program.Checked.{Checked}
use Rattle.ctl_program.specs.declared.program.Subprogram.{Subprogram}
use Rattle.ctl_program.specs.declared.statement.Arm.{Arm, roll-Arm}
use Rattle.ctl_program.specs.declared.statement.Handler.{Handler as Checked_handler, roll-Handler}
use Rattle.ctl_program.specs.declared.statement.Item.{Item as Checked_item}
use Rattle.ctl_program.specs.declared.statement.Item.TheVariants as made
use Rattle.ctl_program.specs.declared.statement.Master.{Master, roll-Master}
use Rattle.ctl_program.specs.declared.statement.Stmt.{Stmt}
use Rattle.ctl_program.specs.declared.statement.Stmt.TheVariants as stmt
use Rattle.ctl_syntax.specs.declared.denoted.Definition.{Definition}
use Rattle.ctl_syntax.specs.declared.denoted.Use.{Use}
use Rattle.ctl_syntax.specs.declared.item.Body.{Body, Body-F, fold-Body}
use Rattle.ctl_syntax.specs.declared.item.Branch.{Branch}
use Rattle.ctl_syntax.specs.declared.item.Choices.{Choices}
use Rattle.ctl_syntax.specs.declared.item.Choices.TheVariants as choices
use Rattle.ctl_syntax.specs.declared.item.Direction.{Direction}
use Rattle.ctl_syntax.specs.declared.item.Direction.TheVariants as direction
use Rattle.ctl_syntax.specs.declared.item.Handler.{Handler}
use Rattle.ctl_syntax.specs.declared.item.Item.{Item, Item-F, fold-Item}
use Rattle.ctl_syntax.specs.declared.item.ItemKind.{ItemKind}
use Rattle.ctl_syntax.specs.declared.item.ItemKind.TheVariants as item
use Rattle.ctl_syntax.specs.declared.item.Statement.TheOpen.{Statement-F}
use Rattle.ctl_syntax.specs.declared.item.Limitation.{Limitation}
use Rattle.ctl_syntax.specs.declared.item.Limitation.TheVariants as limitation
use Rattle.ctl_syntax.specs.declared.item.Specification.{Specification}
use Rattle.ctl_syntax.specs.declared.item.Statement.{Statement, fold-Statement}
use Rattle.ctl_syntax.specs.declared.item.Tree.{Tree}
use Rattle.ctl_typing.specs.declared.table.FormalEntry.{FormalEntry}
use Rattle.ctl_typing.specs.declared.table.Tables.{Tables}
use Rattle.ctl_typing.specs.declared.table.Entry.TheVariants as entry
use Rattle.ctl_typing.specs.declared.table.RecordEntry.{RecordEntry}
use Rattle.ctl_typing.specs.declared.table.RecordState.{RecordState}
use Rattle.ctl_typing.specs.declared.table.AccessEntry.{AccessEntry}
use Rattle.ctl_typing.specs.declared.table.Concreteness.{Concreteness}
use Rattle.ctl_typing.specs.declared.table.Concreteness.TheVariants as concreteness
use Rattle.ctl_typing.specs.declared.table.Control.TheVariants as control
use Rattle.ctl_typing.specs.declared.table.Defaults.TheVariants.{Used}
use Rattle.ctl_typing.specs.declared.table.Designated.{Designated}
use Rattle.ctl_typing.specs.declared.table.Designated.TheVariants as designated
use Rattle.ctl_typing.specs.declared.table.Freezing.TheVariants.{Frozen}
use Rattle.ctl_typing.specs.declared.table.Mutability.TheVariants as mutability
use Rattle.ctl_typing.specs.declared.table.Standing.TheVariants as standing
use Rattle.ctl_syntax.specs.declared.item.Aliasing.TheVariants as aliasing
use Rattle.ctl_typing.specs.declared.found.Asked.TheVariants.{Exactly}
use Rattle.ctl_draft.specs.declared.draft.Draft.{Draft}
use Rattle.ctl_draft.specs.declared.draft.Routine.{Routine}
use Rattle.ctl_draft.specs.declared.draft.Around.{Around}
use Rattle.ctl_draft.specs.declared.draft.Giving.{Giving}
use Rattle.ctl_draft.specs.declared.draft.Giving.TheVariants as giving
use Rattle.ctl_draft.specs.declared.draft.Handling.TheVariants as handling
use Rattle.ctl_draft.specs.declared.draft.Looping.TheVariants as looping
use Rattle.ctl_types.specs.declared.masters.Opened.{Opened}
use Rattle.ctl_draft.specs.declared.draft.Order.{Order}
use Rattle.ctl_draft.specs.declared.draft.Order.TheVariants as order
use Rattle.ctl_draft.specs.declared.draft.Returning.{Returning}
use Rattle.ctl_draft.specs.declared.draft.Returning.TheVariants as returning
use Rattle.ctl_tree.specs.Faults.{fault_at}
use Rattle.ctl_typing.specs.declared.notes.Notes.{Notes}
use Rattle.ctl_typing.specs.Judgement.{Judgement, known, with_known, ◌>>=◌, both, each, appended}
use Rattle.ctl_typing.specs.Senses.{suffix_sense}
use Rattle.ctl_typing.specs.Typing.{Sense, sense, truth_of}
use Rattle.ctl_draft.specs.Draft.{Doing, by_tables, fault_when, declare, declare_object, leave_view, next_var}
use Rattle.ctl_draft.specs.Freezing.{freeze_all, end_of_part}
use Rattle.ctl_statements.specs.Statements.{assignment, call, raising, raising_again, exiting, choices_of}
use Rattle.ctl_draft.specs.Operations.{operations_of}
use Rattle.ctl_statements.specs.Statements as simple
use Rattle.ctl_declarations.specs.Types.{pool_clause}
use Rattle.ctl_declarations.specs.Declarations.{objects, exceptions, instance, heading, enter_formals, name_kept, definition_of, incomplete}
use Rattle.ctl_types.specs.Subprograms.{declaration, subprogram_of, giving_of, put_body, add_subprogram}

-- What each construct is ------------------------------------------------------------------------------

-- a statement, where something stands around it
abbrev pub Says : Type 0
Says = Around → Doing Stmt

-- a declarative part with its statements and handlers, where the construct begins that has it
abbrev pub Does : Type 0
Does = Span → Around → Doing Master

-- an item of a declarative part, with a body behind it or not
abbrev pub Declares : Type 0
Declares = Order → Around → Doing (List Checked_item)

-- an item, and whether it is a body
pub record Part_of : Type 0 where
  pub is_body : Bool
  pub declares : Declares

-- Sequences (5.1) -----------------------------------------------------------------------------------------

abbrev pub sequence : List Says → Around → Doing (List Stmt)
sequence ss around d = each (λ s. s around) (Some []) ss d

-- Conditions and loops (5.3, 5.5) ------------------------------------------------------------------------------

abbrev pub condition : Sense → Doing Expr
condition x = by_tables (λ tables. truth_of tables x)

abbrev pub branch : Around → Branch Says Use → Doing Arm
branch around b = both (condition (sense b.condition)) (sequence b.statements around) >>= (λ r. known (roll-Arm (record { test = r.0; body = r.1 })))

abbrev pub branches : Around → List (Branch Says Use) → Doing (List Arm)
branches around bs d = each (branch around) (Some []) bs d

abbrev pub conditional : Branch Says Use → List (Branch Says Use) → List Says → Says
conditional first more otherwise around = both (branches around (first ∷ more)) (sequence otherwise around) >>= (λ r. known (stmt.If r.0 r.1))

abbrev pub in_loop : Around → Around
in_loop around = record around { looping = looping.Inside }

abbrev pub endless : List Says → Says
endless ss around = sequence ss (in_loop around) >>= (λ body. known (stmt.Loop body))

abbrev pub while : Sense → List Says → Says
while c ss around = both (condition c) (sequence ss (in_loop around)) >>= (λ r. known (stmt.While r.0 r.1))

abbrev pub bound : Sense → Tables → Judgement Expr
bound x tables = x.judged tables (Exactly ty.Integer) >>= (λ r. known r.value)

abbrev pub way_of : Direction → Checked_direction
way_of direction.Upward = way.Upward
way_of direction.Downward = way.Downward

-- the loop parameter is in view inside alone
abbrev pub shown : ℕ → Option (List Stmt) × Draft → Option (List Stmt) × Draft
shown count (ss, d) = (ss, leave_view count d)

abbrev pub with_parameter : List Says → Around → Doing (List Stmt)
with_parameter ss around d =
    shown (length d.tables.entries) (sequence ss (in_loop around) (declare_object around ty.Integer standing.LoopParameter mutability.Constant aliasing.Unaliased d))

abbrev pub counting_at : Direction → Sense → Sense → List Says → Around → Var → Doing Stmt
counting_at way low high ss around v =
    both (both (by_tables (bound low)) (by_tables (bound high))) (with_parameter ss around) >>= (λ r. known (stmt.For v (way_of way) r.0.0 r.0.1 r.1))

abbrev pub counting : Direction → Sense → Sense → List Says → Says
counting way low high ss around d = counting_at way low high ss around (next_var around d) d

-- Masters (5.6, 6.3, 7.6.1) ------------------------------------------------------------------------------------------

abbrev pub deeper : ℕ → ℕ
deeper level = level + 1

-- what stands around the items of a new master
abbrev pub inside : Around → Giving → Draft → Around
inside around g d =
    record {
      level = deeper around.level;
      start = length d.tables.entries;
      first_subprogram = length d.subprograms;
      first_record = length d.tables.records;
      first_access = length d.tables.states.accesses;
      looping = looping.Outside;
      handling = handling.Outside;
      giving = g;
    }

-- a block is left by the transfers of control that stand in it (5.7, 6.5, 11.3)
abbrev pub inside_block : Around → Draft → Around
inside_block around d = record (inside around around.giving d) { looping = around.looping; handling = around.handling }

-- its declarations go out of view, and its slots are its own
abbrev pub left : Draft → Option Master × Draft → Option Master × Draft
left outer (m, d) = (m, record (leave_view (length outer.tables.entries) d) { slots = outer.slots })

abbrev pub without_slots : Draft → Draft
without_slots d = record d { slots = [] }

abbrev pub block : Span → Does → Says
block place body around d = with_known (λ m. known (stmt.Block m)) (left d (body place (inside_block around d) (without_slots d)))

-- Items (3.11) -----------------------------------------------------------------------------------------------------------

abbrev pub any_body : List Part_of → Bool
any_body [] = false
any_body (i ∷ is) = i.is_body || any_body is

-- whether a body stands behind
abbrev pub order_before : List Part_of → Order
order_before is = if any_body is then order.BeforeBody else order.BehindBodies

abbrev pub more_items : Option (List Checked_item) → Option (List Checked_item) → Option (List Checked_item)
more_items (Some before) (Some is) = Some (before ++ is)
more_items before is = None

abbrev pub items_on : Around → Option (List Checked_item) → Option (List Checked_item) × Draft → List Part_of → Option (List Checked_item) × Draft
items_on around before (r, d) [] = (more_items before r, d)
items_on around before (r, d) (i ∷ is) = items_on around (more_items before r) (i.declares (order_before is) around d) is

-- the items of a part, behind those so far
abbrev pub items : Around → Option (List Checked_item) → List Part_of → Draft → Option (List Checked_item) × Draft
items around before [] d = (before, d)
items around before (i ∷ is) d = items_on around before (i.declares (order_before is) around d) is

abbrev pub surely : List Checked_item × Draft → Option (List Checked_item) × Draft
surely (is, d) = (Some is, d)

-- Handlers (11.2) ------------------------------------------------------------------------------------------------------------

abbrev pub in_handler : Around → Around
in_handler around = record around { handling = handling.Inside }

abbrev pub handler : Span → Around → Handler Says Use → Doing Checked_handler
handler place around h =
    both (choices_of place h.choices) (sequence h.statements (in_handler around)) >>= (λ r. known (roll-Handler (record { choices = r.0; body = r.1 })))

abbrev pub is_others : Choices Use → Bool
is_others choices.Others = true
is_others c = false

-- whether a handler stands behind one of `others` (11.2(5))
abbrev pub others_early : Bool → List (Handler Says Use) → Bool
others_early before [] = false
others_early before (h ∷ hs) = before || others_early (is_others h.choices) hs

abbrev pub handlers : Span → Around → List (Handler Says Use) → Doing (List Checked_handler)
handlers place around hs d = each (handler place around) (Some []) hs (fault_when (others_early false hs) rule.Type place d)

-- Bodies (6.3, 5.6, 11.2) -------------------------------------------------------------------------------------------------------

-- what waits in the part is judged at its end
abbrev pub part_ended : Around → ℕ → Draft → Draft
part_ended around waiting d = cut (end_of_part around waiting d)
  where
    cut : Draft → Draft
    cut e = record e { waiting = take waiting e.waiting }

abbrev pub part_frozen : Around → ℕ → Option (List Checked_item) → List Checked_item × Draft → Option (List Checked_item) × Draft
part_frozen around waiting is (layers, d) = (more_items is (Some layers), part_ended around waiting d)

abbrev pub part_behind : Around → ℕ → Option (List Checked_item) × Draft → Option (List Checked_item) × Draft
part_behind around waiting (is, d) = part_frozen around waiting is (freeze_all around d)

-- a declarative part; its end freezes all types that are declared in it (13.14(3))
abbrev pub part : List Part_of → Around → Doing (List Checked_item)
part is around d = part_behind around (length d.waiting) (items around (Some []) is d)

abbrev pub master_of : List Checked_item → List Stmt → List Checked_handler → Doing Master
master_of is ss hs d = (Some (roll-Master (record { slots = length d.slots; items = is; body = ss; handlers = hs })), d)

abbrev pub body_step : Body-F Definition Use Says Does Part_of → Does
body_step b place around = both (both (part b.items around) (sequence b.statements around)) (handlers place around b.handlers) >>= (λ r. master_of r.0.0 r.0.1 r.1)

-- Subprogram bodies (6.3) ------------------------------------------------------------------------------------------------------------

abbrev pub gives_value : Giving → Bool
gives_value giving.Nothing = false
gives_value g = true

abbrev pub has_none : Returning → Bool
has_none returning.Nowhere = true
has_none returning.Somewhere = false

-- a function has a return (6.5(5))
abbrev pub returns_kept : Span → Giving → Draft → Draft
returns_kept place g d = fault_when (gives_value g && has_none d.returning) rule.Return place d

abbrev pub fresh : Draft → Draft
fresh d = record d { slots = []; returning = returning.Nowhere }

abbrev pub returned_from : Draft → Span → Giving → Option Master × Draft → Option Master × Draft
returned_from outer place g (m, d) = left outer (m, record (returns_kept place g d) { returning = outer.returning })

-- the statements and declarations of a subprogram's body, with its formals in view
abbrev pub subprogram_body : Span → Specification Definition Use → Does → Around → Giving → Doing Master
subprogram_body place s body around g d =
    returned_from d s.name.identifier.span g (body place (inside around g d) (enter_formals (inside around g d) place s.formals (fresh d)))

abbrev pub opened_with : Giving → Option ℕ → List Checked_item × Draft → Opened × Draft
opened_with g n (layers, d) = (record { giving = g; number = n; layers = layers }, d)

abbrev pub opened_as : Around → Giving → Option ℕ × Draft → Opened × Draft
opened_as around g (n, d) = opened_with g n (freeze_all around d)

abbrev pub opened_by : Span → Specification Definition Use → Around → Option (List FormalEntry × Option Ty) × Draft → Opened × Draft
opened_by place s around (h, d) = opened_as around (giving_of s.result h) (subprogram_of around place s (h, d))

-- a body freezes the types of its part, after the declaration that it may make itself (13.14(3))
abbrev pub opened : Span → Specification Definition Use → Around → Draft → Opened × Draft
opened place s around d = opened_by place s around (heading place s d)

abbrev pub body_put : Option ℕ → List Checked_item → Option Master × Draft → Option (List Checked_item) × Draft
body_put n layers (None, d) = (None, d)
body_put n layers (Some m, d) = (Some (layers ++ made.Silent ∷ []), put_body n (Some m) d)

abbrev pub body_opened : Span → Specification Definition Use → Does → Around → Opened × Draft → Option (List Checked_item) × Draft
body_opened place s body around (o, d) = body_put o.number o.layers (subprogram_body place s body around o.giving d)

abbrev pub body_item : Span → Specification Definition Use → Does → Declares
body_item place s body o around d = body_opened place s body around (opened place s around d)

-- Items by their kinds -----------------------------------------------------------------------------------------------------------------

abbrev pub without_body : Declares → Part_of
without_body p = record { is_body = false; declares = p }

abbrev pub item_of : Span → ItemKind Definition Use Does → Part_of
item_of place (item.Declaration s) = without_body (λ o around d. surely (declaration place s around d))
item_of place (item.Body s body) = record { is_body = true; declares = body_item place s body }
item_of place (item.Instance name m as') = without_body (λ o around. instance place name m as' around)
item_of place (item.Incomplete name t) = without_body (λ o around d. surely (incomplete name t around d))
item_of place (item.«Type» name def) = without_body (λ o around d. surely (definition_of place name def around d))
item_of place (item.StoragePool u m) = without_body (λ o around d. surely (pool_clause place u m around d))
item_of place (item.Exceptions names) = without_body (λ o around d. surely (exceptions names d))
item_of place (item.Objects os) = without_body (λ o around. objects place os o around)

abbrev pub item_step : Item-F Definition Use Says Does Part_of → Part_of
item_step i = item_of i.span i.kind

-- Statements by their kinds --------------------------------------------------------------------------------------------------------------

abbrev pub statement_step : Statement-F Definition Use Says Does Part_of → Says
statement_step (Statement-F.Null place) around = known stmt.Null
statement_step (Statement-F.Assignment place to x) around = by_tables (assignment to.first (map suffix_sense to.suffixes) (sense x))
statement_step (Statement-F.Call place n) around = by_tables (call place n.first (map suffix_sense n.suffixes))
statement_step (Statement-F.Exit place c) around = exiting place around.looping (option_map sense c)
statement_step (Statement-F.Return place x) around = simple.returning place around.giving (option_map sense x)
statement_step (Statement-F.Raise place m) around = by_tables (raising place m)
statement_step (Statement-F.RaiseAgain place) around = raising_again place around.handling
statement_step (Statement-F.If place first more otherwise) around = conditional first more otherwise around
statement_step (Statement-F.Loop place ss) around = endless ss around
statement_step (Statement-F.While place c ss) around = while (sense c) ss around
statement_step (Statement-F.For place name way low high ss) around = counting way (sense low) (sense high) ss around
statement_step (Statement-F.Block place body) around = block place body around

abbrev pub body : Body Definition Use → Does
body = fold-Body Definition Use Says Does Part_of statement_step body_step item_step

abbrev pub item_judged : Item Definition Use → Part_of
item_judged = fold-Item Definition Use Says Does Part_of statement_step body_step item_step

abbrev pub statement : Statement Definition Use → Says
statement = fold-Statement Definition Use Says Does Part_of statement_step body_step item_step

-- The whole program (10.1.1) ---------------------------------------------------------------------------------------------------------------------

abbrev pub library_record : Root → Limitation → Concreteness → RecordEntry
library_record r l c =
    record { level = 0; root = r; limitation = l; concreteness = c; control = control.Controlled; parent = None; own = []; count = 0; deeds = [] }

-- Controlled, Limited_Controlled and the pools of the library have the first numbers (7.6, 13.11)
abbrev pub library_records : List RecordEntry
library_records =
    library_record root.Controlled limitation.Nonlimited concreteness.Abstract
    ∷ library_record root.Controlled limitation.Limited concreteness.Abstract
    ∷ library_record root.BlockPool limitation.Limited concreteness.Concrete
    ∷ library_record root.MarkPool limitation.Limited concreteness.Concrete
    ∷ []

-- nothing of them changes
abbrev pub library_state : RecordState
library_state = record { operations = operations_of None; freezing = Frozen; defaults = Used; called = None }

abbrev pub library_states : List RecordState
library_states = library_state ∷ library_state ∷ library_state ∷ library_state ∷ []

-- they have none that the text sees
abbrev pub library_components : List (Option (List Component))
library_components = Some [] ∷ Some [] ∷ Some [] ∷ Some [] ∷ []

abbrev pub library_exceptions : List (List ℕ)
library_exceptions = codes "Constraint_Error" ∷ codes "Program_Error" ∷ codes "Storage_Error" ∷ []

abbrev pub library_tables : Tables
library_tables = record { entries = []; records = library_records; states = record { records = library_states; accesses = [] } }

-- what there is before the text: the types and exceptions of the library
abbrev pub library : Draft
library =
    record {
      tables = library_tables;
      components = library_components;
      subprograms = [];
      exceptions = library_exceptions;
      slots = [];
      returning = returning.Nowhere;
      waiting = [];
      own = [];
      own_names = [];
      notes = record { early = None; fault = None; deeds = None };
    }

abbrev pub outside : Around
outside =
    record {
      level = 0;
      start = 0;
      first_subprogram = 0;
      first_record = 0;
      first_access = 0;
      looping = looping.Outside;
      handling = handling.Outside;
      giving = giving.Nothing;
    }

-- the main procedure is the first subprogram, and is in view inside itself
abbrev pub main_declared : Definition → Draft → Draft
main_declared name d = declare (entry.Subprogram (record { subprogram = 0; formals = []; names = []; result = None })) (add_subprogram outside kind.Procedure (name_kept name d))

abbrev pub main_put : Option Master × Draft → Draft
main_put (m, d) = put_body (Some 0) m d

-- its declarations, statements and handlers
abbrev pub main_judged : Tree Definition Use → Draft → Option Master × Draft
main_judged t d = left d (body t.body t.span (inside outside giving.Nothing d) (without_slots d))

abbrev pub behind : Option Fault → Option Fault → Notes → Notes
behind names uses n = record { early = names; fault = uses; deeds = n.deeds }

-- what is known before the text, and the first broken rule on names and the first use clause of what is no package, if there are such
abbrev pub begun : Option Fault → Option Fault → Draft
begun names uses = record library { notes = behind names uses library.notes }

-- the program as far as it is checked at the end of the text
abbrev pub whole : Option Fault → Option Fault → Tree Definition Use → Draft
whole names uses t = main_put (main_judged t (main_declared t.name (begun names uses)))

-- The checked program ----------------------------------------------------------------------------------------------------------------------------------

abbrev pub record_type_of : RecordEntry → RecordState → List Component → RecordType
record_type_of r s cs = record { level = r.level; root = r.root; parent = r.parent; own = cs; operations = s.operations }

abbrev pub record_types : List RecordEntry → List RecordState → List (List Component) → List RecordType
record_types (r ∷ rs) (s ∷ ss) (cs ∷ css) = record_type_of r s cs ∷ record_types rs ss css
record_types rs ss css = []

abbrev pub pool_var : Option (Var × ℕ) → Option Var
pool_var None = None
pool_var (Some p) = Some p.0

abbrev pub access_type_to : AccessEntry → Designated → Option AccessType
access_type_to a (designated.Known t) = Some (record { collection = a.collection; designated = t; pool = pool_var a.pool })
access_type_to a d = None

-- those of the program, behind those so far; known where each of them is
abbrev pub access_types_on : Option (List AccessType) → List AccessEntry → Option (List AccessType)
access_types_on before [] = before
access_types_on before (a ∷ as') = access_types_on (appended before (access_type_to a a.designated)) as'

abbrev pub access_types : List AccessEntry → Option (List AccessType)
access_types as' = access_types_on (Some []) as'

abbrev pub subprogram_with : Routine → Option Master → Option Subprogram
subprogram_with r None = None
subprogram_with r (Some m) = Some (record { level = r.level; kind = r.kind; body = m })

-- those of the program, behind those so far; known where each has its body
abbrev pub subprograms_on : Option (List Subprogram) → List Routine → Option (List Subprogram)
subprograms_on before [] = before
subprograms_on before (r ∷ rs) = subprograms_on (appended before (subprogram_with r r.body)) rs

abbrev pub subprograms : List Routine → Option (List Subprogram)
subprograms rs = subprograms_on (Some []) rs

-- the components of the record types, behind those so far; known where those of each are
abbrev pub components_on : Option (List (List Component)) → List (Option (List Component)) → Option (List (List Component))
components_on before [] = before
components_on before (cs ∷ css) = components_on (appended before cs) css

abbrev pub components_known : List (Option (List Component)) → Option (List (List Component))
components_known css = components_on (Some []) css

abbrev pub checked_with : Draft → Option (List AccessType) → Option (List Subprogram) → Option (List (List Component)) → Option Checked
checked_with d (Some as') (Some ss) (Some css) =
    Some (record {
      exceptions = d.exceptions;
      records = record_types d.tables.records d.tables.states.records css;
      accesses = as';
      subprograms = ss;
      main = 0;
    })
checked_with d as' ss css = None

abbrev pub checked_of : Draft → Option Checked
checked_of d = checked_with d (access_types d.tables.states.accesses) (subprograms d.subprograms) (components_known d.components)

-- a tree that `resolve` did not give may leave a type incomplete, or a subprogram without a body; where the components of a type are wrong that was
-- told: then the fault stands where the text begins
abbrev pub or_nothing : Span → Option Checked → Result Checked Fault
or_nothing place None = Err (fault_at rule.Type place)
or_nothing place (Some p) = Ok p

abbrev pub verdict_by : Span → Option Fault → Option Fault → Draft → Result Checked Fault
verdict_by place (Some f) g d = Err f
verdict_by place None (Some f) d = Err f
verdict_by place None None d = or_nothing place (checked_of d)

abbrev pub verdict : Span → Draft → Result Checked Fault
verdict place d = verdict_by place d.notes.early d.notes.fault d

-- the checked program of a resolved tree, or its first fault: of names, order and completion, the resolver's among them, before any other
abbrev pub elaborate : Option Fault → Option Fault → Tree Definition Use → Result Checked Fault
elaborate names uses t = verdict t.span (whole names uses t)

-- what the check gives: that, or that memory was refused
abbrev pub Elaborates : Option Fault → Option Fault → Tree Definition Use → Result Checked Fault → Type 0
Elaborates names uses t r = (r ≡ elaborate names uses t) ⊎ (r ≡ Err (record { code = rule.Memory; line = 1; column = 1 }))
