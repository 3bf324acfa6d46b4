-- The parts of the tree, with what each statement, item and body in them is.
use Rattle.std.specs.Prelude.{ℕ, zero, suc, ◌-◌, Bool, List, [], ◌∷◌, map, length, Option, Some, None, if◌then◌else◌}
use Rattle.ctl_program.specs.declared.statement.Arm.{Arm}
use Rattle.ctl_program.specs.declared.statement.Stmt.{Stmt}
use Rattle.ctl_program.specs.declared.statement.Stmt.TheVariants as stmt
use Rattle.ctl_program.specs.declared.types.Component.{Component}
use Rattle.ctl_program.specs.declared.types.RecordType.{RecordType}
use Rattle.ctl_typing.specs.declared.table.RecordEntry.{RecordEntry}
use Rattle.ctl_typing.specs.declared.table.RecordState.{RecordState}
use Rattle.ctl_syntax.specs.declared.denoted.Definition.{Definition}
use Rattle.ctl_syntax.specs.declared.denoted.Use.{Use}
use Rattle.ctl_syntax.specs.declared.item.Branch.{Branch}
use Rattle.ctl_syntax.specs.declared.item.Statement.{Statement}
use Rattle.ctl_program.specs.declared.statement.Handler.{Handler as Checked_handler}
use Rattle.ctl_program.specs.declared.statement.Item.{Item as Checked_item}
use Rattle.ctl_program.specs.declared.statement.Master.{Master, roll-Master}
use Rattle.ctl_tree.specs.declared.span.Span.{Span}
use Rattle.ctl_syntax.specs.declared.item.Handler.{Handler}
use Rattle.ctl_syntax.specs.declared.item.Item.{Item}
use Rattle.ctl_draft.specs.declared.draft.Draft.{Draft}
use Rattle.ctl_draft.specs.declared.draft.Giving.{Giving}
use Rattle.ctl_draft.specs.declared.draft.Order.{Order}
use Rattle.ctl_draft.specs.declared.draft.Order.TheVariants as order
use Rattle.ctl_draft.specs.declared.draft.Returning.{Returning}
use Rattle.ctl_types.specs.declared.masters.Outer.{Outer}
use Rattle.ctl_draft.specs.Draft.{leave_view}
use Rattle.ctl_types.specs.Elaboration.{Says, statement, item_judged, returns_kept, record_type_of}

abbrev pub branch_of : Branch (Statement Definition Use) Use → Branch Says Use
branch_of b = record { condition = b.condition; statements = map statement b.statements }

-- a conditional statement, where its arms are known and what stands behind `else`
abbrev pub conditional_of : Option (List Arm) → Option (List Stmt) → Option Stmt
conditional_of (Some arms) (Some otherwise) = Some (stmt.If arms otherwise)
conditional_of arms otherwise = None

abbrev pub handler_of : Handler (Statement Definition Use) Use → Handler Says Use
handler_of h = record { span = h.span; choices = h.choices; statements = map statement h.statements }

abbrev pub is_body : Item Definition Use → Bool
is_body i = (item_judged i).is_body

-- how many bodies there are, beside so many
abbrev pub bodies_on : ℕ → List (Item Definition Use) → ℕ
bodies_on n [] = n
bodies_on n (i ∷ is) = bodies_on (if is_body i then suc n else n) is

-- what was there before a master is there again
abbrev pub left_to : Outer → Draft → Draft
left_to o d = record (leave_view o.count d) { slots = o.slots }

abbrev pub outside_of : Draft → Outer
outside_of d = record { count = length d.tables.entries; slots = d.slots }

-- behind the body of a subprogram
abbrev pub returned_to : Returning → Span → Giving → Draft → Draft
returned_to r place g d = record (returns_kept place g d) { returning = r }

abbrev pub master_of : ℕ → Option (List Checked_item) → Option (List Stmt) → Option (List Checked_handler) → Option Master
master_of slots (Some is) (Some ss) (Some hs) = Some (roll-Master (record { slots = slots; items = is; body = ss; handlers = hs }))
master_of slots is ss hs = None

abbrev pub bodies_but : Item Definition Use → ℕ → ℕ
bodies_but i n = if is_body i then n - 1 else n

abbrev pub order_with : ℕ → Order
order_with zero = order.BehindBodies
order_with (suc n) = order.BeforeBody

-- a record type, where there are an entry and a state of its number
abbrev pub record_type_at : Option RecordEntry → Option RecordState → List Component → Option RecordType
record_type_at (Some r) (Some s) cs = Some (record_type_of r s cs)
record_type_at r s cs = None
