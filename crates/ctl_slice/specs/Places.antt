-- The place of the first construct of a resolved text, in its order, that is of a kind of which this version does not run all.
use Rattle.std.specs.Prelude.{List, [], ◌∷◌, map, Option, Some, None}
use Rattle.ctl_tree.specs.declared.span.Span.{Span}
use Rattle.ctl_syntax.specs.declared.denoted.Definition.{Definition}
use Rattle.ctl_syntax.specs.declared.denoted.Use.{Use}
use Rattle.ctl_syntax.specs.declared.item.Body.{Body, Body-F, fold-Body}
use Rattle.ctl_syntax.specs.declared.item.Branch.{Branch}
use Rattle.ctl_syntax.specs.declared.item.Handler.{Handler}
use Rattle.ctl_syntax.specs.declared.item.Item.{Item, Item-F, fold-Item}
use Rattle.ctl_syntax.specs.declared.item.ItemKind.{ItemKind}
use Rattle.ctl_syntax.specs.declared.item.ItemKind.TheVariants as kind
use Rattle.ctl_syntax.specs.declared.item.Statement.{Statement, fold-Statement}
use Rattle.ctl_syntax.specs.declared.item.Statement.TheOpen.{Statement-F}
use Rattle.ctl_syntax.specs.declared.item.Tree.{Tree}
use Rattle.ctl_slice.specs.declared.construct.Support.{Support}
use Rattle.ctl_slice.specs.declared.construct.Support.TheVariants.{Run, LeftOut}
use Rattle.ctl_slice.specs.Constructs.{of_heading, of_type, of_objects, of_value, of_call}

-- a place that may be there
abbrev pub Place : Type 0
Place = Option Span

-- the first of two places
abbrev pub either : Place → Place → Place
either (Some p) q = Some p
either None q = q

-- of three in the order of the text
abbrev pub earliest : Place → Place → Place → Place
earliest p q r = either p (either q r)

abbrev pub first_of : List Place → Place
first_of [] = None
first_of (p ∷ ps) = either p (first_of ps)

-- a construct, where it is left out
abbrev pub where_left_out : Support → Span → Place
where_left_out Run place = None
where_left_out LeftOut place = Some place

-- a body is as far as its heading is
abbrev pub body_of : Support → Span → Place → Place
body_of Run place inside = inside
body_of LeftOut place inside = Some place

abbrev pub item_of : Span → ItemKind Definition Use Place → Place
item_of place (kind.Declaration s) = where_left_out (of_heading s) place
item_of place (kind.Body s inside) = body_of (of_heading s) place inside
-- Unchecked_Deallocation is the one generic of the language (13.11.2)
item_of place (kind.Instance n m actuals) = None
item_of place (kind.Incomplete n t) = None
item_of place (kind.«Type» n d) = where_left_out (of_type d) place
-- its pool is judged where it is declared (13.11)
item_of place (kind.StoragePool t m) = None
item_of place (kind.Exceptions ns) = None
item_of place (kind.Objects os) = where_left_out (of_objects os) place

-- in the statements of a handler (11.2)
abbrev pub handler : Handler Place Use → Place
handler h = first_of h.statements

abbrev pub body_step : Body-F Definition Use Place Place Place → Place
body_step b = earliest (first_of b.items) (first_of b.statements) (first_of (map handler b.handlers))

abbrev pub item_step : Item-F Definition Use Place Place Place → Place
item_step i = item_of i.span i.kind

abbrev pub branch : Branch Place Use → Place
branch b = first_of b.statements

abbrev pub conditional : Branch Place Use → List (Branch Place Use) → List Place → Place
conditional first more otherwise = earliest (branch first) (first_of (map branch more)) (first_of otherwise)

abbrev pub statement_step : Statement-F Definition Use Place Place Place → Place
statement_step (Statement-F.Assignment place to x) = where_left_out (of_value (Some x)) place
statement_step (Statement-F.Call place n) = where_left_out (of_call n) place
statement_step (Statement-F.Return place x) = where_left_out (of_value x) place
statement_step (Statement-F.If place first more otherwise) = conditional first more otherwise
statement_step (Statement-F.Loop place ss) = first_of ss
statement_step (Statement-F.While place c ss) = first_of ss
statement_step (Statement-F.For place name way low high ss) = first_of ss
statement_step (Statement-F.Block place b) = b
-- a statement that holds none, of which no part tells whether it is run; were one left out and forgotten here, then its program would be refused
-- all the same, by is_run of ctl_layout, and at the procedure
statement_step s = None

abbrev pub body : Body Definition Use → Place
body = fold-Body Definition Use Place Place Place statement_step body_step item_step

abbrev pub item : Item Definition Use → Place
item = fold-Item Definition Use Place Place Place statement_step body_step item_step

abbrev pub statement : Statement Definition Use → Place
statement = fold-Statement Definition Use Place Place Place statement_step body_step item_step

-- the parts of the tree, with the places in them
abbrev pub branch_of : Branch (Statement Definition Use) Use → Branch Place Use
branch_of b = record { condition = b.condition; statements = map statement b.statements }

abbrev pub handler_of : Handler (Statement Definition Use) Use → Handler Place Use
handler_of h = record { span = h.span; choices = h.choices; statements = map statement h.statements }

-- of a whole text
abbrev pub first_left_out : Tree Definition Use → Place
first_left_out t = body t.body
