-- What declarations, statements and bodies stand for.
use Rattle.std.specs.Prelude.{List, [], ◌∷◌, map, Option, Some, None}
use Rattle.ctl_tree.specs.declared.span.Span.{Span}
use Rattle.ctl_grammar.specs.Form.{Node, none, at, pair, tag}
use Rattle.ctl_grammar.specs.Label.{Label}
use Rattle.ctl_grammar.specs.Label as labels
use Rattle.ctl_grammar.specs.Nodes.{alone, first, second, row_of, yes, no}
use Rattle.ctl_syntax.specs.declared.name.Identifier.{Identifier}
use Rattle.ctl_syntax.specs.declared.name.Mark.{Mark}
use Rattle.ctl_syntax.specs.declared.item.Aliasing.{Aliasing}
use Rattle.ctl_syntax.specs.declared.item.Aliasing.TheVariants as aliasing
use Rattle.ctl_syntax.specs.declared.item.Association.{Association}
use Rattle.ctl_syntax.specs.declared.item.Body.{Body, fold-Body}
use Rattle.ctl_syntax.specs.declared.item.Branch.{Branch}
use Rattle.ctl_syntax.specs.declared.item.Choices.{Choices}
use Rattle.ctl_syntax.specs.declared.item.Choices.TheVariants as choice
use Rattle.ctl_syntax.specs.declared.item.Components.{Components}
use Rattle.ctl_syntax.specs.declared.item.Constancy.{Constancy}
use Rattle.ctl_syntax.specs.declared.item.Constancy.TheVariants as constancy
use Rattle.ctl_syntax.specs.declared.item.Context.{Context}
use Rattle.ctl_syntax.specs.declared.item.ContextKind.{ContextKind}
use Rattle.ctl_syntax.specs.declared.item.ContextKind.TheVariants as context_kind
use Rattle.ctl_syntax.specs.declared.item.Coverage.{Coverage}
use Rattle.ctl_syntax.specs.declared.item.Coverage.TheVariants as coverage
use Rattle.ctl_syntax.specs.declared.item.Definition.{Definition}
use Rattle.ctl_syntax.specs.declared.item.Definition.TheVariants as definition
use Rattle.ctl_syntax.specs.declared.item.Direction.{Direction}
use Rattle.ctl_syntax.specs.declared.item.Direction.TheVariants as direction
use Rattle.ctl_syntax.specs.declared.item.Formal.{Formal}
use Rattle.ctl_syntax.specs.declared.item.Generality.{Generality}
use Rattle.ctl_syntax.specs.declared.item.Generality.TheVariants as generality
use Rattle.ctl_syntax.specs.declared.item.Handler.{Handler}
use Rattle.ctl_syntax.specs.declared.item.Indicator.{Indicator}
use Rattle.ctl_syntax.specs.declared.item.Indicator.TheVariants as indicator
use Rattle.ctl_syntax.specs.declared.item.Item.{Item, fold-Item}
use Rattle.ctl_syntax.specs.declared.item.ItemKind.{ItemKind}
use Rattle.ctl_syntax.specs.declared.item.ItemKind.TheVariants as item
use Rattle.ctl_syntax.specs.declared.item.Limitation.{Limitation}
use Rattle.ctl_syntax.specs.declared.item.Limitation.TheVariants as limitation
use Rattle.ctl_syntax.specs.declared.item.Mode.{Mode}
use Rattle.ctl_syntax.specs.declared.item.Mode.TheVariants as mode
use Rattle.ctl_syntax.specs.declared.item.Objects.{Objects}
use Rattle.ctl_syntax.specs.declared.item.Specification.{Specification}
use Rattle.ctl_syntax.specs.declared.item.Statement.{Statement, fold-Statement}
use Rattle.ctl_syntax.specs.declared.item.Statement.TheOpen.{Item-F, Statement-F, Body-F}
use Rattle.ctl_syntax.specs.declared.item.Taggedness.{Taggedness}
use Rattle.ctl_syntax.specs.declared.item.Taggedness.TheVariants as taggedness
use Rattle.ctl_syntax.specs.declared.item.Tree.{Tree}
use Rattle.ctl_parse.specs.declared.bodies.Rest.{Rest}
use Rattle.ctl_parse.specs.declared.bodies.Rest.TheVariants as rest
use Rattle.ctl_parse.specs.declared.simple_statements.Scheme.{Scheme}
use Rattle.ctl_parse.specs.declared.simple_statements.Scheme.TheVariants as scheme
use Rattle.ctl_parse.specs.declared.types.Defined.{Defined}
use Rattle.ctl_parse.specs.declared.types.Defined.TheVariants as defined
use Rattle.ctl_parse.specs.View.{optional, identifier_node, mark_node, name_node, view}

-- ---- words that are there or not

abbrev pub aliasing_node : Aliasing → Node
aliasing_node aliasing.Aliased = yes
aliasing_node aliasing.Unaliased = no

abbrev pub constancy_node : Constancy → Node
constancy_node constancy.Constant = yes
constancy_node constancy.Variable = no

abbrev pub direction_node : Direction → Node
direction_node direction.Downward = yes
direction_node direction.Upward = no

abbrev pub generality_node : Generality → Node
generality_node generality.General = yes
generality_node generality.PoolSpecific = no

abbrev pub indicator_node : Indicator → Node
indicator_node indicator.Overriding = yes
indicator_node indicator.Absent = no

abbrev pub limitation_node : Limitation → Node
limitation_node limitation.Limited = yes
limitation_node limitation.Nonlimited = no

abbrev pub taggedness_node : Taggedness → Node
taggedness_node taggedness.Tagged = yes
taggedness_node taggedness.Unsaid = no

-- no text of the grammar says that an access type designates a class
abbrev pub coverage_node : Coverage → Node
coverage_node coverage.Specific = none
coverage_node coverage.ClassWide = yes

-- ---- headings and lists in parentheses

-- names, with the place of the first
abbrev pub placed_node : Span × List Identifier → Node
placed_node p = pair (at p.0) (row_of (map identifier_node p.1))

abbrev pub mode_label : Mode → Label
mode_label mode.In = labels.In
mode_label mode.Out = labels.Out
mode_label mode.InOut = labels.InOut

abbrev pub formal_node : Formal Identifier Identifier → Node
formal_node f = pair (row_of (map identifier_node f.names)) (pair (alone (mode_label f.mode)) (mark_node f.mark))

abbrev pub result_node : Option (Mark Identifier) → Node
result_node None = none
result_node (Some m) = mark_node m

abbrev pub specification_node : Specification Identifier Identifier → Node
specification_node s = pair (at s.span) (pair (identifier_node s.name) (pair (row_of (map formal_node s.formals)) (result_node s.result)))

-- an identifier that may be absent
abbrev pub named_node : Option Identifier → Node
named_node None = none
named_node (Some i) = identifier_node i

abbrev pub association_node : Association Identifier → Node
association_node a = pair (named_node a.name) (view a.value)

-- ---- types

abbrev pub components_node : Components Identifier → Node
components_node c = pair (row_of (map identifier_node c.names)) (pair (mark_node c.mark) (optional view c.default))

abbrev pub definition_node : Definition Identifier → Node
definition_node (definition.Record l cs) = tag labels.Record (pair (limitation_node l) (row_of (map components_node cs)))
definition_node (definition.Extension m cs) = tag labels.Extension (pair (mark_node m) (row_of (map components_node cs)))
definition_node (definition.Access g m c pool) = tag labels.AccessType (pair (generality_node g) (pair (mark_node m) (pair (coverage_node c) (optional mark_node pool))))

-- ---- items, by what their bodies stand for

abbrev pub objects_node : Objects Identifier Identifier → Node
objects_node o = pair (aliasing_node o.aliasing) (pair (constancy_node o.constancy) (pair (mark_node o.mark) (pair (row_of (map association_node o.discriminants)) (optional view o.value))))

abbrev pub item_kind_node : {B : Type 0} → (B → Node) → ItemKind Identifier Identifier B → Node
item_kind_node body (item.Declaration s) = tag labels.Subprogram (pair (indicator_node s.indicator) (pair (specification_node s) none))
item_kind_node body (item.Body s b) = tag labels.Subprogram (pair (indicator_node s.indicator) (pair (specification_node s) (pair none (body b))))
item_kind_node body (item.Instance i m actuals) = tag labels.Instance (pair (identifier_node i) (pair (mark_node m) (row_of (map association_node actuals))))
item_kind_node body (item.Incomplete i t) = tag labels.TypeItem (pair (identifier_node i) (taggedness_node t))
item_kind_node body (item.«Type» i d) = tag labels.TypeItem (pair (identifier_node i) (pair none (definition_node d)))
item_kind_node body (item.StoragePool i pool) = tag labels.PoolClause (pair (identifier_node i) (mark_node pool))
item_kind_node body (item.Exceptions ids) = tag labels.NamedItem (pair (row_of (map identifier_node ids)) none)
item_kind_node body (item.Objects o) = tag labels.NamedItem (pair (row_of (map identifier_node o.names)) (objects_node o))

-- ---- parts of statements, by what their statements stand for

abbrev pub branch_node : {S : Type 0} → (S → Node) → Branch S Identifier → Node
branch_node statement b = pair (view b.condition) (row_of (map statement b.statements))

-- names of exceptions: in a text there is one at least
abbrev pub exceptions_node : List (Mark Identifier) → Node
exceptions_node [] = no
exceptions_node (m ∷ ms) = pair (mark_node m) (row_of (map mark_node ms))

abbrev pub choices_node : Choices Identifier → Node
choices_node choice.Others = none
choices_node (choice.Exceptions ms) = exceptions_node ms

abbrev pub handler_node : {S : Type 0} → (S → Node) → Handler S Identifier → Node
handler_node statement h = pair (at h.span) (pair (choices_node h.choices) (row_of (map statement h.statements)))

-- ---- one layer of a statement, a body or an item, from the nodes of its parts

abbrev pub statement_step : Statement-F Identifier Identifier Node Node Node → Node
statement_step (Statement-F.Null p) = pair (at p) (tag labels.NullStatement none)
statement_step (Statement-F.Assignment p n e) = pair (at p) (tag labels.Assignment (pair (name_node view n) (view e)))
statement_step (Statement-F.Call p n) = pair (at p) (tag labels.Call (name_node view n))
statement_step (Statement-F.Exit p e) = pair (at p) (tag labels.Exit (optional view e))
statement_step (Statement-F.Return p e) = pair (at p) (tag labels.Return (optional view e))
statement_step (Statement-F.Raise p m) = pair (at p) (tag labels.Raise (pair none (mark_node m)))
statement_step (Statement-F.RaiseAgain p) = pair (at p) (tag labels.Raise none)
statement_step (Statement-F.If p b more others) = pair (at p) (tag labels.If (pair (pair (branch_node (λ v. v) b) (row_of (map (branch_node (λ v. v)) more))) (row_of others)))
statement_step (Statement-F.Loop p ss) = pair (at p) (tag labels.Loop (pair (tag labels.Endless none) (row_of ss)))
statement_step (Statement-F.While p e ss) = pair (at p) (tag labels.Loop (pair (tag labels.While (view e)) (row_of ss)))
statement_step (Statement-F.For p i d low high ss) = pair (at p) (tag labels.Loop (pair (tag labels.For (pair (identifier_node i) (pair (direction_node d) (pair (view low) (view high))))) (row_of ss)))
statement_step (Statement-F.Block p b) = pair (at p) (tag labels.Block b)

abbrev pub body_step : Body-F Identifier Identifier Node Node Node → Node
body_step b = pair (row_of b.items) (pair (row_of b.statements) (row_of (map (handler_node (λ v. v)) b.handlers)))

abbrev pub item_step : Item-F Identifier Identifier Node Node Node → Node
item_step i = pair (at i.span) (item_kind_node (λ v. v) i.kind)

-- ---- the whole

abbrev pub view_statement : Statement Identifier Identifier → Node
view_statement = fold-Statement Identifier Identifier Node Node Node statement_step body_step item_step

abbrev pub view_body : Body Identifier Identifier → Node
view_body = fold-Body Identifier Identifier Node Node Node statement_step body_step item_step

abbrev pub view_item : Item Identifier Identifier → Node
view_item = fold-Item Identifier Identifier Node Node Node statement_step body_step item_step

abbrev pub context_label : ContextKind → Label
context_label context_kind.With = labels.With
context_label context_kind.Use = labels.Use

abbrev pub context_node : Context → Node
context_node c = pair (pair (at c.span) (alone (context_label c.kind))) (row_of (map mark_node c.units))

abbrev pub tree_node : Tree Identifier Identifier → Node
tree_node t = pair (row_of (map context_node t.contexts)) (pair (at t.span) (pair (identifier_node t.name) (view_body t.body)))

-- ---- what is read on the way

-- a place that may be absent
abbrev pub place_node : Option Span → Node
place_node None = none
place_node (Some p) = at p

-- the pool of an aspect behind its word, if there is one
abbrev pub aspect_node : Node → Option (Mark Identifier) → Node
aspect_node word None = none
aspect_node word (Some m) = pair word (mark_node m)

-- what stands behind the colon of names: none where they are exceptions
abbrev pub declared_node : Option (Objects Identifier Identifier) → Node
declared_node None = none
declared_node (Some o) = objects_node o

-- what stands behind the name of a type
abbrev pub defined_node : Defined → Node
defined_node (defined.Incomplete t) = taggedness_node t
defined_node (defined.Full d) = pair none (definition_node d)

-- how a loop goes on
abbrev pub scheme_node : Scheme → Node
scheme_node scheme.Endless = tag labels.Endless none
scheme_node (scheme.While e) = tag labels.While (view e)
scheme_node (scheme.For i d low high) = tag labels.For (pair (identifier_node i) (pair (direction_node d) (pair (view low) (view high))))

-- a body with what stands at its end
abbrev pub ended_node : Body Identifier Identifier → Node → Node
ended_node b end = pair (first (view_body b)) (pair (second (view_body b)) end)

-- what completes a heading, if there is something, with what stands at the end of a body
abbrev pub completed_node : Option (Body Identifier Identifier) → Node → Node
completed_node None end = none
completed_node (Some b) end = pair none (ended_node b end)

-- what stands behind the name of a procedure, with what stands at the end of a body
abbrev pub rest_node : Rest → Node → Node
rest_node (rest.Instance m actuals) end = pair yes (pair (mark_node m) (row_of (map association_node actuals)))
rest_node (rest.Subprogram formals b) end = pair none (pair (row_of (map formal_node formals)) (completed_node b end))

-- the whole text, with what stands at its end
abbrev pub program_node : Tree Identifier Identifier → Node → Node
program_node t end = pair (row_of (map context_node t.contexts)) (pair (at t.span) (pair (identifier_node t.name) (ended_node t.body end)))
