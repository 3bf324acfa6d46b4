-- Items, statements, bodies and handlers (3.11, 5.1, 6.3, 11.2).
use Rattle.std.specs.Prelude.{List, [], ◌∷◌, ◌++◌, drop, map, Option, is_some, if◌then◌else◌}
use Rattle.ctl_tree.specs.declared.span.Span.{Span}
use Rattle.ctl_tree.specs.declared.fault.Fault.{Fault}
use Rattle.ctl_tree.specs.declared.fault.FaultCode.TheVariants as rule
use Rattle.ctl_syntax.specs.declared.name.Identifier.{Identifier}
use Rattle.ctl_syntax.specs.declared.name.Mark.{Mark}
use Rattle.ctl_syntax.specs.declared.expression.Expression.{Expression}
use Rattle.ctl_syntax.specs.declared.denoted.Use.{Use}
use Rattle.ctl_syntax.specs.declared.denoted.Definition.{Definition}
use Rattle.ctl_syntax.specs.declared.item.Association.{Association}
use Rattle.ctl_syntax.specs.declared.item.Branch.{Branch}
use Rattle.ctl_syntax.specs.declared.item.Choices.{Choices}
use Rattle.ctl_syntax.specs.declared.item.Choices.TheVariants as choice
use Rattle.ctl_syntax.specs.declared.item.Handler.{Handler}
use Rattle.ctl_syntax.specs.declared.item.Specification.{Specification}
use Rattle.ctl_syntax.specs.declared.item.Item.{Item, fold-Item, roll-Item}
use Rattle.ctl_syntax.specs.declared.item.ItemKind.{ItemKind}
use Rattle.ctl_syntax.specs.declared.item.ItemKind.TheVariants as item
use Rattle.ctl_syntax.specs.declared.item.Body.{Body, fold-Body, roll-Body}
use Rattle.ctl_syntax.specs.declared.item.Statement.{Statement, fold-Statement}
use Rattle.ctl_syntax.specs.declared.item.Statement.TheOpen.{Item-F, Statement-F, Body-F}
use Rattle.ctl_syntax.specs.declared.item.Statement.TheVariants as s
use Rattle.ctl_resolve.specs.declared.view.Declaration.{Declaration}
use Rattle.ctl_resolve.specs.declared.view.Role.TheVariants as role
use Rattle.ctl_resolve.specs.declared.view.Sought.TheVariants as sought
use Rattle.ctl_resolve.specs.declared.view.Stage.TheVariants as stage
use Rattle.ctl_resolve.specs.declared.view.Usage.TheVariants as usage
use Rattle.ctl_resolve.specs.declared.view.View.{View}
use Rattle.ctl_resolve.specs.Table.{folded, find, waits}
use Rattle.ctl_tree.specs.Faults.{first_of, fault_at}
use Rattle.ctl_resolve.specs.Naming.{Naming, pure, ◌>>=◌, after, before, each, optional, note_if, set_stage, behind_body, enter_master, enter_region, within}
use Rattle.ctl_resolve.specs.Expressions.{used, mark, name_of, expression}
use Rattle.ctl_resolve.specs.Declarations.{new_name, new_names, hidden_in, declaration, heading, begun, note_order, incomplete, full_type, instance_of, objects}

-- The end of a declarative part (3.11.1) -----------------------------------------------------------------

-- NO_BODY: a declaration that is not completed in its part (3.11.1, 6.1(20), 3.10.1(3))
abbrev pub unfinished : Option Fault → List Declaration → Option Fault
unfinished f [] = f
unfinished f (d ∷ ds) = unfinished (if waits d.stage then first_of f (fault_at rule.NoBody d.span) else f) ds

abbrev pub note_unfinished : View → View
note_unfinished v = record v { fault = unfinished v.fault (drop v.part.start v.table) }

-- Choices of handlers (11.2) --------------------------------------------------------------------------------

-- the choices of an exception part so far, kept as if each were declared, and what is in view
abbrev pub Chosen : Type 0
Chosen = List Declaration × View

abbrev pub chosen : Identifier → Chosen → Chosen
chosen id (seen, v) = (
  seen ++ (record { key = folded id; role = role.Direct; stage = stage.Complete; level = 0; span = id.span }) ∷ [],
  note_if (is_some (find sought.Direct (folded id) seen)) rule.Duplicate id.span v,
)

-- only a choice that is an identifier alone can be an exception
abbrev pub chosen_alone : Identifier → List Identifier → Chosen → Chosen
chosen_alone id [] c = chosen id c
chosen_alone id (x ∷ xs) c = c

abbrev pub chosen_each : List (Mark Identifier) → Chosen → Chosen
chosen_each [] c = c
chosen_each (m ∷ ms) c = chosen_each ms (chosen_alone m.first m.rest c)

abbrev pub chosen_by : Choices Identifier → Chosen → Chosen
chosen_by choice.Others c = c
chosen_by (choice.Exceptions ms) c = chosen_each ms c

abbrev pub chosen_in : {S : Type 0} → List (Handler S Identifier) → Chosen → Chosen
chosen_in [] c = c
chosen_in (h ∷ hs) c = chosen_in hs (chosen_by h.choices c)

abbrev pub in_view : Chosen → View
in_view (seen, v) = v

-- DUPLICATE: a second choice of one name among all choices of an exception part (11.2(5))
abbrev pub note_choices : {S : Type 0} → List (Handler S Identifier) → View → View
note_choices hs v = in_view (chosen_in hs ([], v))

abbrev pub choices : Choices Identifier → Naming (Choices Use)
choices choice.Others = pure choice.Others
choices (choice.Exceptions ms) = each (mark usage.Plain) [] ms >>= (λ xs. pure (choice.Exceptions xs))

-- Items, statements and bodies --------------------------------------------------------------------------------

abbrev pub Named_item : Type 0
Named_item = Naming (Item Definition Use)

abbrev pub Named_statement : Type 0
Named_statement = Naming (Statement Definition Use)

abbrev pub Named_body : Type 0
Named_body = Naming (Body Definition Use)

abbrev pub Named_kind : Type 0
Named_kind = Naming (ItemKind Definition Use (Body Definition Use))

abbrev pub handler : Handler Named_statement Identifier → Naming (Handler (Statement Definition Use) Use)
handler h = do
  c ← choices h.choices
  xs ← each (λ x. x) [] h.statements
  pure (record { span = h.span; choices = c; statements = xs })

-- the heading, and the part behind it; the name is known from the word `is` on
abbrev pub in_body : Specification Identifier Identifier → Named_body → Definition → Naming (Specification Definition Use × Body Definition Use)
in_body s body d = do
  h ← heading s d
  b ← after (set_stage d.number stage.Complete) body
  pure (h, b)

abbrev pub body_item : Specification Identifier Identifier → Named_body → Named_kind
body_item s body = before (begun s >>= (λ d. within enter_master (in_body s body d))) behind_body >>= (λ x. pure (item.Body x.0 x.1))

abbrev pub instance : Identifier → Mark Identifier → List (Association Identifier) → Named_kind
instance id unit actuals = do
  x ← hidden_in (id ∷ []) (instance_of unit actuals)
  d ← new_name stage.Complete id
  pure (item.Instance d x.0 x.1)

abbrev pub storage_pool : Identifier → Mark Identifier → Named_kind
storage_pool id pool = do
  u ← used usage.Plain id []
  m ← mark usage.Plain pool
  pure (item.StoragePool u.0 m)

abbrev pub item_kind : Span → ItemKind Identifier Identifier Named_body → Named_kind
item_kind at (item.Declaration h) = declaration h >>= (λ x. pure (item.Declaration x))
item_kind at (item.Body h b) = body_item h b
item_kind at (item.Instance id unit actuals) = instance id unit actuals
item_kind at (item.Incomplete id t) = after (note_order at) (incomplete id) >>= (λ d. pure (item.Incomplete d t))
item_kind at (item.«Type» id t) = after (note_order at) (full_type id t) >>= (λ x. pure (item.«Type» x.0 x.1))
item_kind at (item.StoragePool id pool) = storage_pool id pool
item_kind at (item.Exceptions ids) = new_names ids >>= (λ ds. pure (item.Exceptions ds))
item_kind at (item.Objects o) = objects o >>= (λ x. pure (item.Objects x))

abbrev pub step_item : Item-F Identifier Identifier Named_statement Named_body Named_item → Named_item
step_item i = item_kind i.span i.kind >>= (λ k. pure (roll-Item Definition Use (record { span = i.span; kind = k })))

abbrev pub statements : List Named_statement → Naming (List (Statement Definition Use))
statements xs = each (λ x. x) [] xs

abbrev pub branch : Branch Named_statement Identifier → Naming (Branch (Statement Definition Use) Use)
branch b = do
  c ← expression b.condition
  xs ← statements b.statements
  pure (record { condition = c; statements = xs })

abbrev pub bounds : Expression Identifier → Expression Identifier → Naming (Expression Use × Expression Use)
bounds low high = do
  a ← expression low
  b ← expression high
  pure (a, b)

abbrev pub looped : Identifier → List Named_statement → Naming (Definition × List (Statement Definition Use))
looped id body = do
  d ← new_name stage.Complete id
  xs ← statements body
  pure (d, xs)

abbrev pub step_statement : Statement-F Identifier Identifier Named_statement Named_body Named_item → Named_statement
step_statement (Statement-F.Null at) = pure (s.Null at)
step_statement (Statement-F.Assignment at target value) = do
  n ← name_of target
  x ← expression value
  pure (s.Assignment at n x)
step_statement (Statement-F.Call at n) = name_of n >>= (λ x. pure (s.Call at x))
step_statement (Statement-F.Exit at condition) = optional expression condition >>= (λ x. pure (s.Exit at x))
step_statement (Statement-F.Return at value) = optional expression value >>= (λ x. pure (s.Return at x))
step_statement (Statement-F.Raise at m) = mark usage.Plain m >>= (λ x. pure (s.Raise at x))
step_statement (Statement-F.RaiseAgain at) = pure (s.RaiseAgain at)
step_statement (Statement-F.If at first more others) = do
  a ← branch first
  bs ← each branch [] more
  xs ← statements others
  pure (s.If at a bs xs)
step_statement (Statement-F.Loop at body) = statements body >>= (λ xs. pure (s.Loop at xs))
step_statement (Statement-F.While at condition body) = do
  c ← expression condition
  xs ← statements body
  pure (s.While at c xs)
step_statement (Statement-F.For at id direction low high body) = do
  x ← hidden_in (id ∷ []) (bounds low high)
  y ← within enter_region (looped id body)
  pure (s.For at y.0 direction x.0 x.1 y.1)
step_statement (Statement-F.Block at body) = within enter_master body >>= (λ x. pure (s.Block at x))

-- the declarative part, its end, and what is handled
abbrev pub step_body : Body-F Identifier Identifier Named_statement Named_body Named_item → Named_body
step_body b = do
  is ← each (λ x. x) [] b.items
  xs ← after note_unfinished (statements b.statements)
  hs ← after (note_choices b.handlers) (each handler [] b.handlers)
  pure (roll-Body Definition Use (record { items = is; statements = xs; handlers = hs }))

abbrev pub item_of : Item Identifier Identifier → Named_item
item_of = fold-Item Identifier Identifier Named_statement Named_body Named_item step_statement step_body step_item

abbrev pub statement : Statement Identifier Identifier → Named_statement
statement = fold-Statement Identifier Identifier Named_statement Named_body Named_item step_statement step_body step_item

abbrev pub body_of : Body Identifier Identifier → Named_body
body_of = fold-Body Identifier Identifier Named_statement Named_body Named_item step_statement step_body step_item

-- the same of what stands in items, branches, loops and handlers, wherever these stand
abbrev pub kind_parts : ItemKind Identifier Identifier (Body Identifier Identifier) → ItemKind Identifier Identifier Named_body
kind_parts (item.Declaration h) = item.Declaration h
kind_parts (item.Body h b) = item.Body h (body_of b)
kind_parts (item.Instance id unit actuals) = item.Instance id unit actuals
kind_parts (item.Incomplete id t) = item.Incomplete id t
kind_parts (item.«Type» id t) = item.«Type» id t
kind_parts (item.StoragePool id pool) = item.StoragePool id pool
kind_parts (item.Exceptions ids) = item.Exceptions ids
kind_parts (item.Objects o) = item.Objects o

abbrev pub named_kind : Span → ItemKind Identifier Identifier (Body Identifier Identifier) → Named_kind
named_kind at k = item_kind at (kind_parts k)

abbrev pub branch_parts : Branch (Statement Identifier Identifier) Identifier → Branch Named_statement Identifier
branch_parts b = record { condition = b.condition; statements = map statement b.statements }

abbrev pub named_branch : Branch (Statement Identifier Identifier) Identifier → Naming (Branch (Statement Definition Use) Use)
named_branch b = branch (branch_parts b)

abbrev pub named_loop : Identifier → List (Statement Identifier Identifier) → Naming (Definition × List (Statement Definition Use))
named_loop id body = within enter_region (looped id (map statement body))

abbrev pub handler_parts : Handler (Statement Identifier Identifier) Identifier → Handler Named_statement Identifier
handler_parts h = record { span = h.span; choices = h.choices; statements = map statement h.statements }

abbrev pub named_handler : Handler (Statement Identifier Identifier) Identifier → Naming (Handler (Statement Definition Use) Use)
named_handler h = handler (handler_parts h)
