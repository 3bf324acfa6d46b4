-- The tree that stands for a node: `tree_node` the other way round. For a node that no tree stands for it is some tree.
use Rattle.std.specs.Prelude.{◌≡◌, ℕ, zero, suc, ◌+◌, Bool, true, false, cond, List, [], ◌∷◌, map, Option, Some, None}
use Rattle.ctl_tree.specs.declared.span.Span.{Span}
use Rattle.ctl_tree.specs.declared.token.Token.{Token}
use Rattle.ctl_grammar.specs.Form.{Node, num, at, pair, tag}
use Rattle.ctl_grammar.specs.Label as labels
use Rattle.ctl_grammar.specs.Nodes.{first, second, part_2, behind_2, part_3, behind_3, part_4, behind_4, letters, is_none}
use Rattle.ctl_grammar.specs.Text.{IsProgram}
use Rattle.ctl_syntax.specs.declared.name.Identifier.{Identifier}
use Rattle.ctl_syntax.specs.declared.name.Mark.{Mark}
use Rattle.ctl_syntax.specs.declared.name.Name.{Name}
use Rattle.ctl_syntax.specs.declared.name.Suffix.{Suffix}
use Rattle.ctl_syntax.specs.declared.name.Suffix.TheVariants as suffix
use Rattle.ctl_syntax.specs.declared.name.Attribute.{Attribute}
use Rattle.ctl_syntax.specs.declared.name.Attribute.TheVariants as attribute
use Rattle.ctl_syntax.specs.declared.operators.Operand.{Operand}
use Rattle.ctl_syntax.specs.declared.operators.ArithmeticOperator.{ArithmeticOperator}
use Rattle.ctl_syntax.specs.declared.operators.ArithmeticOperator.TheVariants as arithmetic
use Rattle.ctl_syntax.specs.declared.operators.RelationalOperator.{RelationalOperator}
use Rattle.ctl_syntax.specs.declared.operators.RelationalOperator.TheVariants as relational
use Rattle.ctl_syntax.specs.declared.operators.LogicalOperator.{LogicalOperator}
use Rattle.ctl_syntax.specs.declared.operators.LogicalOperator.TheVariants as logical
use Rattle.ctl_syntax.specs.declared.operators.UnaryOperator.{UnaryOperator}
use Rattle.ctl_syntax.specs.declared.operators.UnaryOperator.TheVariants as unary
use Rattle.ctl_syntax.specs.declared.expression.Expression.{Expression}
use Rattle.ctl_syntax.specs.declared.expression.Expression.TheVariants as e
use Rattle.ctl_syntax.specs.declared.item.Aliasing.{Aliasing}
use Rattle.ctl_syntax.specs.declared.item.Aliasing.TheVariants as aliasing
use Rattle.ctl_syntax.specs.declared.item.Association.{Association}
use Rattle.ctl_syntax.specs.declared.item.Body.{Body, roll-Body}
use Rattle.ctl_syntax.specs.declared.item.Branch.{Branch}
use Rattle.ctl_syntax.specs.declared.item.Choices.{Choices}
use Rattle.ctl_syntax.specs.declared.item.Choices.TheVariants as choice
use Rattle.ctl_syntax.specs.declared.item.Components.{Components}
use Rattle.ctl_syntax.specs.declared.item.Constancy.{Constancy}
use Rattle.ctl_syntax.specs.declared.item.Constancy.TheVariants as constancy
use Rattle.ctl_syntax.specs.declared.item.Context.{Context}
use Rattle.ctl_syntax.specs.declared.item.ContextKind.{ContextKind}
use Rattle.ctl_syntax.specs.declared.item.ContextKind.TheVariants as context_kind
use Rattle.ctl_syntax.specs.declared.item.Coverage.{Coverage}
use Rattle.ctl_syntax.specs.declared.item.Coverage.TheVariants as coverage
use Rattle.ctl_syntax.specs.declared.item.Definition.{Definition}
use Rattle.ctl_syntax.specs.declared.item.Definition.TheVariants as definition
use Rattle.ctl_syntax.specs.declared.item.Direction.{Direction}
use Rattle.ctl_syntax.specs.declared.item.Direction.TheVariants as direction
use Rattle.ctl_syntax.specs.declared.item.Formal.{Formal}
use Rattle.ctl_syntax.specs.declared.item.Generality.{Generality}
use Rattle.ctl_syntax.specs.declared.item.Generality.TheVariants as generality
use Rattle.ctl_syntax.specs.declared.item.Handler.{Handler}
use Rattle.ctl_syntax.specs.declared.item.Indicator.{Indicator}
use Rattle.ctl_syntax.specs.declared.item.Indicator.TheVariants as indicator
use Rattle.ctl_syntax.specs.declared.item.Item.{Item, roll-Item}
use Rattle.ctl_syntax.specs.declared.item.ItemKind.{ItemKind}
use Rattle.ctl_syntax.specs.declared.item.ItemKind.TheVariants as item
use Rattle.ctl_syntax.specs.declared.item.Limitation.{Limitation}
use Rattle.ctl_syntax.specs.declared.item.Limitation.TheVariants as limitation
use Rattle.ctl_syntax.specs.declared.item.Mode.{Mode}
use Rattle.ctl_syntax.specs.declared.item.Mode.TheVariants as mode
use Rattle.ctl_syntax.specs.declared.item.Objects.{Objects}
use Rattle.ctl_syntax.specs.declared.item.Specification.{Specification}
use Rattle.ctl_syntax.specs.declared.item.Statement.{Statement}
use Rattle.ctl_syntax.specs.declared.item.Taggedness.{Taggedness}
use Rattle.ctl_syntax.specs.declared.item.Taggedness.TheVariants as taggedness
use Rattle.ctl_syntax.specs.declared.item.Tree.{Tree}
use Rattle.ctl_syntax.specs.declared.item.Statement.TheVariants as s
use Rattle.ctl_parse.specs.Kept.{kept_program}
use Rattle.ctl_parse.specs.Parts.{tree_node}

-- ---- parts of nodes

abbrev pub nowhere : Span
nowhere = record { line = 0; column = 0 }

abbrev pub span_in : Node → Span
span_in (at p) = p
span_in _ = nowhere

abbrev pub number_in : Node → ℕ
number_in (num n) = n
number_in _ = 0

-- whether a word is there
abbrev pub says_yes : Node → Bool
says_yes (tag labels.Yes v) = true
says_yes _ = false

-- the nodes of a row
abbrev pub row_in : Node → List Node
row_in (pair a b) = a ∷ row_in b
row_in _ = []

-- how many pairs and tags a node has
abbrev pub size : Node → ℕ
size (pair a b) = suc (size a + size b)
size (tag n v) = suc (size v)
size _ = 0

abbrev pub read_optional : {X : Type 0} → (Node → X) → Node → Option X
read_optional read (pair a b) = Some (read b)
read_optional read _ = None

-- ---- names

abbrev pub read_identifier : Node → Identifier
read_identifier v = record { text = letters (first v); span = span_in (second v) }

abbrev pub read_mark : Node → Mark Identifier
read_mark v = record { first = read_identifier (first v); rest = map read_identifier (row_in (second v)) }

abbrev pub read_attribute : Node → Attribute
read_attribute (tag labels.Image v) = attribute.Image
read_attribute (tag labels.First v) = attribute.First
read_attribute _ = attribute.Last

abbrev pub read_suffix : {E : Type 0} → (Node → E) → Node → Suffix E
read_suffix read (tag labels.Selector v) = suffix.Selector (read_identifier v)
read_suffix read (tag labels.All v) = suffix.All (span_in v)
read_suffix read (tag labels.Arguments v) = suffix.Arguments (span_in (first v)) (read (part_2 v)) (map read (row_in (behind_2 v)))
read_suffix read (tag labels.Access v) = suffix.Attribute (span_in v) attribute.Access
read_suffix read (tag labels.Attribute v) = suffix.Attribute (span_in (second v)) (read_attribute (first v))
read_suffix read _ = suffix.All nowhere

abbrev pub read_name : {E : Type 0} → (Node → E) → Node → Name Identifier E
read_name read v = record { first = read_identifier (first v); suffixes = map (read_suffix read) (row_in (second v)) }

-- ---- operators

abbrev pub read_logical : Node → LogicalOperator
read_logical (tag labels.And v) = logical.And
read_logical (tag labels.Or v) = logical.Or
read_logical (tag labels.Xor v) = logical.Xor
read_logical (tag labels.AndThen v) = logical.AndThen
read_logical _ = logical.OrElse

abbrev pub read_relational : Node → RelationalOperator
read_relational (tag labels.Equal v) = relational.Equal
read_relational (tag labels.NotEqual v) = relational.NotEqual
read_relational (tag labels.Less v) = relational.Less
read_relational (tag labels.LessEqual v) = relational.LessEqual
read_relational (tag labels.Greater v) = relational.Greater
read_relational _ = relational.GreaterEqual

abbrev pub read_arithmetic : Node → ArithmeticOperator
read_arithmetic (tag labels.Plus v) = arithmetic.Plus
read_arithmetic (tag labels.Minus v) = arithmetic.Minus
read_arithmetic (tag labels.Concatenate v) = arithmetic.Concatenate
read_arithmetic (tag labels.Times v) = arithmetic.Times
read_arithmetic (tag labels.Divide v) = arithmetic.Divide
read_arithmetic (tag labels.Mod v) = arithmetic.Mod
read_arithmetic _ = arithmetic.Rem

abbrev pub read_sign : Node → UnaryOperator
read_sign (tag labels.Plus v) = unary.Plus
read_sign _ = unary.Minus

abbrev pub read_word : Node → UnaryOperator
read_word (tag labels.Abs v) = unary.Abs
read_word _ = unary.Not

abbrev pub read_operand : {E : Type 0} → (Node → E) → Node → Operand E
read_operand read v = record { operator = read_arithmetic (first v); operand = read (second v) }

-- ---- expressions, by how their parts are read

abbrev pub read_chain : (Node → Expression Identifier) → Span → Expression Identifier → Node → Expression Identifier
read_chain read p a more = e.Chain p a (read_operand read (first more)) (map (read_operand read) (row_in (second more)))

-- a sign with its term, which others may stand behind
abbrev pub read_signed : (Node → Expression Identifier) → Span → Expression Identifier → Node → Expression Identifier
read_signed read p a more = cond (is_none more) a (read_chain read p a more)

abbrev pub read_sum : (Node → Expression Identifier) → Span → Node → Expression Identifier
read_sum read p v = cond (is_none (first v)) (read_chain read p (read (part_2 v)) (behind_2 v)) (read_signed read p (e.Unary p (read_sign (first v)) (read (part_2 v))) (behind_2 v))

-- an expression from its place and what stands there
abbrev pub expression_at : (Node → Expression Identifier) → Span → Node → Expression Identifier
expression_at read p (tag labels.Number v) = e.Number p (number_in v)
expression_at read p (tag labels.String v) = e.String p (letters v)
expression_at read p (tag labels.Null v) = e.Null p
expression_at read p (tag labels.Name v) = e.Name p (read_name read v)
expression_at read p (tag labels.Parentheses v) = e.Parentheses p (read v)
expression_at read p (tag labels.Unary v) = e.Unary p (read_word (first v)) (read (second v))
expression_at read p (tag labels.Product v) = read_chain read p (read (first v)) (second v)
expression_at read p (tag labels.Sum v) = read_sum read p v
expression_at read p (tag labels.Relation v) = e.Relation p (read_relational (first v)) (read (part_2 v)) (read (behind_2 v))
expression_at read p (tag labels.Logical v) = e.Logical p (read_logical (first v)) (read (part_2 v)) (read (part_3 v)) (map read (row_in (behind_3 v)))
expression_at read p (tag labels.Allocator v) = e.New p (read_optional (read_name read) (first v)) (read_mark (part_2 v)) (read_optional read (behind_2 v))
expression_at read p _ = e.Null p

-- an expression of a node of less than this size
abbrev pub read_expression_below : ℕ → Node → Expression Identifier
read_expression_below zero v = e.Null nowhere
read_expression_below (suc n) v = expression_at (read_expression_below n) (span_in (first v)) (second v)

abbrev pub read_expression : Node → Expression Identifier
read_expression v = read_expression_below (suc (size v)) v

-- ---- words that are there or not

abbrev pub read_aliasing : Node → Aliasing
read_aliasing v = cond (says_yes v) aliasing.Aliased aliasing.Unaliased

abbrev pub read_constancy : Node → Constancy
read_constancy v = cond (says_yes v) constancy.Constant constancy.Variable

abbrev pub read_direction : Node → Direction
read_direction v = cond (says_yes v) direction.Downward direction.Upward

abbrev pub read_generality : Node → Generality
read_generality v = cond (says_yes v) generality.General generality.PoolSpecific

abbrev pub read_indicator : Node → Indicator
read_indicator v = cond (says_yes v) indicator.Overriding indicator.Absent

abbrev pub read_limitation : Node → Limitation
read_limitation v = cond (says_yes v) limitation.Limited limitation.Nonlimited

abbrev pub read_taggedness : Node → Taggedness
read_taggedness v = cond (says_yes v) taggedness.Tagged taggedness.Unsaid

abbrev pub read_coverage : Node → Coverage
read_coverage v = cond (says_yes v) coverage.ClassWide coverage.Specific

abbrev pub read_mode : Node → Mode
read_mode (tag labels.In v) = mode.In
read_mode (tag labels.Out v) = mode.Out
read_mode _ = mode.InOut

-- ---- headings and lists in parentheses

abbrev pub identifiers_in : Node → List Identifier
identifiers_in v = map read_identifier (row_in v)

abbrev pub read_formal : Node → Formal Identifier Identifier
read_formal v = record { names = identifiers_in (first v); mode = read_mode (part_2 v); mark = read_mark (behind_2 v) }

-- a part that is absent where its node is none
abbrev pub read_present : {X : Type 0} → (Node → X) → Node → Option X
read_present read v = cond (is_none v) None (Some (read v))

abbrev pub read_specification : Indicator → Node → Specification Identifier Identifier
read_specification i v = record { indicator = i; span = span_in (first v); name = read_identifier (part_2 v); formals = map read_formal (row_in (part_3 v)); result = read_present read_mark (behind_3 v) }

abbrev pub read_association : Node → Association Identifier
read_association v = record { name = read_present read_identifier (first v); value = read_expression (second v) }

abbrev pub associations_in : Node → List (Association Identifier)
associations_in v = map read_association (row_in v)

-- ---- types

abbrev pub read_components : Node → Components Identifier
read_components v = record { names = identifiers_in (first v); mark = read_mark (part_2 v); default = read_optional read_expression (behind_2 v) }

abbrev pub read_definition : Node → Definition Identifier
read_definition (tag labels.Record v) = definition.Record (read_limitation (first v)) (map read_components (row_in (second v)))
read_definition (tag labels.Extension v) = definition.Extension (read_mark (first v)) (map read_components (row_in (second v)))
read_definition (tag labels.AccessType v) = definition.Access (read_generality (first v)) (read_mark (part_2 v)) (read_coverage (part_3 v)) (read_optional read_mark (behind_3 v))
read_definition _ = definition.Record limitation.Nonlimited []

-- ---- items, by how bodies are read

-- a type whose definition stands behind its name, or an incomplete one
abbrev pub read_type : {B : Type 0} → Identifier → Node → ItemKind Identifier Identifier B
read_type i (pair a d) = item.«Type» i (read_definition d)
read_type i v = item.Incomplete i (read_taggedness v)

abbrev pub read_objects : List Identifier → Node → Objects Identifier Identifier
read_objects is v = record { names = is; aliasing = read_aliasing (first v); constancy = read_constancy (part_2 v); mark = read_mark (part_3 v); discriminants = associations_in (part_4 v); value = read_optional read_expression (behind_4 v) }

-- a subprogram with its body, if there is one
abbrev pub read_subprogram : {B : Type 0} → (Node → B) → Specification Identifier Identifier → Node → ItemKind Identifier Identifier B
read_subprogram body s v = cond (is_none v) (item.Declaration s) (item.Body s (body (second v)))

-- names of exceptions, or of objects
abbrev pub read_named : {B : Type 0} → List Identifier → Node → ItemKind Identifier Identifier B
read_named is v = cond (is_none v) (item.Exceptions is) (item.Objects (read_objects is v))

abbrev pub read_kind : {B : Type 0} → (Node → B) → Node → ItemKind Identifier Identifier B
read_kind body (tag labels.TypeItem v) = read_type (read_identifier (first v)) (second v)
read_kind body (tag labels.PoolClause v) = item.StoragePool (read_identifier (first v)) (read_mark (second v))
read_kind body (tag labels.NamedItem v) = read_named (identifiers_in (first v)) (second v)
read_kind body (tag labels.Subprogram v) = read_subprogram body (read_specification (read_indicator (first v)) (part_2 v)) (behind_2 v)
read_kind body (tag labels.Instance v) = item.Instance (read_identifier (first v)) (read_mark (part_2 v)) (associations_in (behind_2 v))
read_kind body _ = item.Exceptions []

-- ---- parts of statements, by how statements are read

abbrev pub read_branch : {S : Type 0} → (Node → S) → Node → Branch S Identifier
read_branch statement v = record { condition = read_expression (first v); statements = map statement (row_in (second v)) }

abbrev pub read_choices : Node → Choices Identifier
read_choices v = cond (is_none v) choice.Others (choice.Exceptions (map read_mark (row_in v)))

abbrev pub read_handler : {S : Type 0} → (Node → S) → Node → Handler S Identifier
read_handler statement v = record { span = span_in (first v); choices = read_choices (part_2 v); statements = map statement (row_in (behind_2 v)) }

-- ---- statements, by how statements and bodies are read

-- a raise statement, with a name or without one
abbrev pub read_raise : Span → Node → Statement Identifier Identifier
read_raise p v = cond (is_none v) (s.RaiseAgain p) (s.Raise p (read_mark (second v)))

abbrev pub read_loop : (Node → Statement Identifier Identifier) → Span → Node → Node → Statement Identifier Identifier
read_loop statement p (tag labels.While v) rest = s.While p (read_expression v) (map statement (row_in rest))
read_loop statement p (tag labels.For v) rest = s.For p (read_identifier (first v)) (read_direction (part_2 v)) (read_expression (part_3 v)) (read_expression (behind_3 v)) (map statement (row_in rest))
read_loop statement p _ rest = s.Loop p (map statement (row_in rest))

-- a statement from its place and what stands there
abbrev pub statement_at : (Node → Statement Identifier Identifier) → (Node → Body Identifier Identifier) → Span → Node → Statement Identifier Identifier
statement_at statement body p (tag labels.NullStatement v) = s.Null p
statement_at statement body p (tag labels.Assignment v) = s.Assignment p (read_name read_expression (first v)) (read_expression (second v))
statement_at statement body p (tag labels.Call v) = s.Call p (read_name read_expression v)
statement_at statement body p (tag labels.Exit v) = s.Exit p (read_optional read_expression v)
statement_at statement body p (tag labels.Return v) = s.Return p (read_optional read_expression v)
statement_at statement body p (tag labels.Raise v) = read_raise p v
statement_at statement body p (tag labels.If v) = s.If p (read_branch statement (first (first v))) (map (read_branch statement) (row_in (second (first v)))) (map statement (row_in (second v)))
statement_at statement body p (tag labels.Loop v) = read_loop statement p (first v) (second v)
statement_at statement body p (tag labels.Block v) = s.Block p (body v)
statement_at statement body p _ = s.Null p

-- statements, bodies and items of nodes of less than this size
abbrev mutual
  pub read_statement_below : ℕ → Node → Statement Identifier Identifier
  read_statement_below zero v = s.Null nowhere
  read_statement_below (suc n) v = statement_at (read_statement_below n) (read_body_below n) (span_in (first v)) (second v)

  pub read_body_below : ℕ → Node → Body Identifier Identifier
  read_body_below zero v = roll-Body Identifier Identifier (record { items = []; statements = []; handlers = [] })
  read_body_below (suc n) v = roll-Body Identifier Identifier (record { items = map (read_item_below n) (row_in (first v)); statements = map (read_statement_below n) (row_in (part_2 v)); handlers = map (read_handler (read_statement_below n)) (row_in (behind_2 v)) })

  pub read_item_below : ℕ → Node → Item Identifier Identifier
  read_item_below zero v = roll-Item Identifier Identifier (record { span = nowhere; kind = item.Exceptions [] })
  read_item_below (suc n) v = roll-Item Identifier Identifier (record { span = span_in (first v); kind = read_kind (read_body_below n) (second v) })

abbrev pub read_body : Node → Body Identifier Identifier
read_body v = read_body_below (suc (size v)) v

-- ---- the whole

abbrev pub read_context_kind : Node → ContextKind
read_context_kind (tag labels.With v) = context_kind.With
read_context_kind _ = context_kind.Use

abbrev pub read_context : Node → Context
read_context v = record { span = span_in (first (first v)); kind = read_context_kind (second (first v)); units = map read_mark (row_in (second v)) }

abbrev pub read_tree : Node → Tree Identifier Identifier
read_tree v = record { contexts = map read_context (row_in (first v)); span = span_in (part_2 v); name = read_identifier (part_3 v); body = read_body (behind_3 v) }

-- ---- the laws

-- A tree is read back from the node that it stands for.
abbrev pub ReadsBack : Type 0
ReadsBack = (t : Tree Identifier Identifier) → read_tree (tree_node t) ≡ t

-- Two trees that stand for the same node are equal.
abbrev pub HasOneTree : Type 0
HasOneTree = (a b : Tree Identifier Identifier) → tree_node a ≡ tree_node b → a ≡ b

-- The tree that tokens spell, where so many constructs may stand in one another.
abbrev pub IsTreeOf : ℕ → Tree Identifier Identifier → List Token → Type 0
IsTreeOf left t ts = (v : Node) × IsProgram left v ts × (tree_node t ≡ kept_program v)

-- Tokens spell at most one tree.
abbrev pub SpellsOneTree : Type 0
SpellsOneTree = (left more : ℕ) (a b : Tree Identifier Identifier) (ts : List Token) → IsTreeOf left a ts → IsTreeOf more b ts → a ≡ b
