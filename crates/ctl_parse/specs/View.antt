-- What trees stand for.
use Rattle.std.specs.Prelude.{◌==◌, Bool, true, false, ◌&&◌, not, cond, List, map, Option, Some, None}
use Rattle.ctl_tree.specs.declared.span.Span.{Span}
use Rattle.ctl_grammar.specs.Form.{Node, none, leaf, num, written, at, pair, tag}
use Rattle.ctl_grammar.specs.Label.{Label}
use Rattle.ctl_grammar.specs.Label as labels
use Rattle.ctl_grammar.specs.Nodes.{alone, first, second, part_2, behind_2, is_none, tagged_part, row_of}
use Rattle.ctl_syntax.specs.declared.name.Identifier.{Identifier}
use Rattle.ctl_syntax.specs.declared.name.Mark.{Mark}
use Rattle.ctl_syntax.specs.declared.name.Name.{Name}
use Rattle.ctl_syntax.specs.declared.name.Suffix.{Suffix}
use Rattle.ctl_syntax.specs.declared.name.Suffix.TheVariants as suffix
use Rattle.ctl_syntax.specs.declared.name.Attribute.{Attribute}
use Rattle.ctl_syntax.specs.declared.name.Attribute.TheVariants as attribute
use Rattle.ctl_syntax.specs.declared.operators.Operand.{Operand}
use Rattle.ctl_syntax.specs.declared.operators.ArithmeticOperator.{ArithmeticOperator}
use Rattle.ctl_syntax.specs.declared.operators.ArithmeticOperator.TheVariants as arithmetic
use Rattle.ctl_syntax.specs.declared.operators.RelationalOperator.{RelationalOperator}
use Rattle.ctl_syntax.specs.declared.operators.RelationalOperator.TheVariants as relational
use Rattle.ctl_syntax.specs.declared.operators.LogicalOperator.{LogicalOperator}
use Rattle.ctl_syntax.specs.declared.operators.LogicalOperator.TheVariants as logical
use Rattle.ctl_syntax.specs.declared.operators.UnaryOperator.{UnaryOperator}
use Rattle.ctl_syntax.specs.declared.operators.UnaryOperator.TheVariants as unary
use Rattle.ctl_syntax.specs.declared.expression.Expression.{Expression, fold-Expression}
use Rattle.ctl_syntax.specs.declared.expression.Expression.TheOpen.{Expression-F}

-- ---- names

-- a node that may be absent
abbrev pub optional : {X : Type 0} → (X → Node) → Option X → Node
optional view None = none
optional view (Some x) = pair none (view x)

abbrev pub identifier_node : Identifier → Node
identifier_node i = pair (written i.text) (at i.span)

abbrev pub mark_node : Mark Identifier → Node
mark_node m = pair (identifier_node m.first) (row_of (map identifier_node m.rest))

-- an attribute but Access has the label that is kept of its spelling
abbrev pub attribute_node : Span → Attribute → Node
attribute_node p attribute.Access = tag labels.Access (at p)
attribute_node p attribute.Image = tag labels.Attribute (pair (alone labels.Image) (at p))
attribute_node p attribute.First = tag labels.Attribute (pair (alone labels.First) (at p))
attribute_node p attribute.Last = tag labels.Attribute (pair (alone labels.Last) (at p))

-- the label of an attribute that an identifier names
abbrev pub attribute_label : Attribute → Option Label
attribute_label attribute.Access = None
attribute_label attribute.Image = Some labels.Image
attribute_label attribute.First = Some labels.First
attribute_label attribute.Last = Some labels.Last

-- what stands behind the beginning of a name, by what its expressions stand for
abbrev pub suffix_node : {E : Type 0} → (E → Node) → Suffix E → Node
suffix_node view (suffix.Selector i) = tag labels.Selector (identifier_node i)
suffix_node view (suffix.All p) = tag labels.All (at p)
suffix_node view (suffix.Arguments p e more) = tag labels.Arguments (pair (at p) (pair (view e) (row_of (map view more))))
suffix_node view (suffix.Attribute p a) = attribute_node p a

abbrev pub name_node : {E : Type 0} → (E → Node) → Name Identifier E → Node
name_node view n = pair (identifier_node n.first) (row_of (map (suffix_node view) n.suffixes))

-- ---- operators

abbrev pub logical_label : LogicalOperator → Label
logical_label logical.And = labels.And
logical_label logical.Or = labels.Or
logical_label logical.Xor = labels.Xor
logical_label logical.AndThen = labels.AndThen
logical_label logical.OrElse = labels.OrElse

abbrev pub relational_label : RelationalOperator → Label
relational_label relational.Equal = labels.Equal
relational_label relational.NotEqual = labels.NotEqual
relational_label relational.Less = labels.Less
relational_label relational.LessEqual = labels.LessEqual
relational_label relational.Greater = labels.Greater
relational_label relational.GreaterEqual = labels.GreaterEqual

abbrev pub arithmetic_label : ArithmeticOperator → Label
arithmetic_label arithmetic.Plus = labels.Plus
arithmetic_label arithmetic.Minus = labels.Minus
arithmetic_label arithmetic.Concatenate = labels.Concatenate
arithmetic_label arithmetic.Times = labels.Times
arithmetic_label arithmetic.Divide = labels.Divide
arithmetic_label arithmetic.Mod = labels.Mod
arithmetic_label arithmetic.Rem = labels.Rem

-- whether it joins terms
abbrev pub is_adding : ArithmeticOperator → Bool
is_adding arithmetic.Plus = true
is_adding arithmetic.Minus = true
is_adding arithmetic.Concatenate = true
is_adding arithmetic.Times = false
is_adding arithmetic.Divide = false
is_adding arithmetic.Mod = false
is_adding arithmetic.Rem = false

-- a sign makes a sum of one term, a word is an operator of its own
abbrev pub unary_node : UnaryOperator → Node → Node
unary_node unary.Plus v = tag labels.Sum (pair (alone labels.Plus) (pair v none))
unary_node unary.Minus v = tag labels.Sum (pair (alone labels.Minus) (pair v none))
unary_node unary.Abs v = tag labels.Unary (pair (alone labels.Abs) v)
unary_node unary.Not v = tag labels.Unary (pair (alone labels.Not) v)

-- an operand behind its operator
abbrev pub operand_node : {E : Type 0} → (E → Node) → Operand E → Node
operand_node view o = pair (alone (arithmetic_label o.operator)) (view o.operand)

-- ---- expressions

-- whether what stands behind a place is a sign with one term
abbrev pub is_signed_sum : Node → Bool
is_signed_sum (tag labels.Sum v) = not (is_none (first v)) && is_none (behind_2 v)
is_signed_sum _ = false

abbrev pub is_signed : Node → Bool
is_signed v = is_signed_sum (second v)

abbrev pub is_same_span : Span → Span → Bool
is_same_span p q = (p.line == q.line) && (p.column == q.column)

-- whether a node is this place
abbrev pub is_at : Span → Node → Bool
is_at p (at q) = is_same_span p q
is_at p none = false
is_at p (leaf t) = false
is_at p (num n) = false
is_at p (written s) = false
is_at p (pair a b) = false
is_at p (tag n v) = false

-- whether two nodes are one place
abbrev pub is_same_place : Node → Node → Bool
is_same_place (at p) v = is_at p v
is_same_place none v = false
is_same_place (leaf t) v = false
is_same_place (num n) v = false
is_same_place (written s) v = false
is_same_place (pair a b) v = false
is_same_place (tag n w) v = false

-- A sum from its place, its first term and those behind it. A sign before the first term is the sum's own, where it stands at the
-- sum's place, as in every text.
abbrev pub sum_node : Node → Node → Node → Node
sum_node place v more = cond (is_signed v && is_same_place place (first v)) (tag labels.Sum (pair (first (tagged_part (second v))) (pair (part_2 (tagged_part (second v))) more))) (tag labels.Sum (pair none (pair v more)))

-- terms or factors from their place, the first one and those behind it
abbrev pub chain_node : Bool → Node → Node → Node → Node
chain_node true place v more = sum_node place v more
chain_node false place v more = tag labels.Product (pair v more)

-- one layer of an expression, from the nodes of its parts
abbrev pub expression_step : Expression-F Identifier Node → Node
expression_step (Expression-F.Logical p o a b more) = pair (at p) (tag labels.Logical (pair (alone (logical_label o)) (pair a (pair b (row_of more)))))
expression_step (Expression-F.Relation p o a b) = pair (at p) (tag labels.Relation (pair (alone (relational_label o)) (pair a b)))
expression_step (Expression-F.Chain p a o more) = pair (at p) (chain_node (is_adding o.operator) (at p) a (pair (operand_node (λ v. v) o) (row_of (map (operand_node (λ v. v)) more))))
expression_step (Expression-F.Unary p o a) = pair (at p) (unary_node o a)
expression_step (Expression-F.Number p n) = pair (at p) (tag labels.Number (num n))
expression_step (Expression-F.String p s) = pair (at p) (tag labels.String (written s))
expression_step (Expression-F.Null p) = pair (at p) (tag labels.Null none)
expression_step (Expression-F.Name p n) = pair (at p) (tag labels.Name (name_node (λ v. v) n))
expression_step (Expression-F.Parentheses p a) = pair (at p) (tag labels.Parentheses a)
expression_step (Expression-F.New p handle mark value) = pair (at p) (tag labels.Allocator (pair (optional (name_node (λ v. v)) handle) (pair (mark_node mark) (optional (λ v. v) value))))

abbrev pub view : Expression Identifier → Node
view = fold-Expression Identifier Node expression_step

-- ---- parts of expressions

-- a relation behind its operator, if there is one
abbrev pub compared_node : Option (RelationalOperator × Expression Identifier) → Node
compared_node None = none
compared_node (Some p) = pair (alone (relational_label p.0)) (view p.1)

-- relations behind the first one, with their operator
abbrev pub joined_node : LogicalOperator → Expression Identifier → List (Expression Identifier) → Node
joined_node o a more = pair (alone (logical_label o)) (pair (view a) (row_of (map view more)))

abbrev pub joint_node : Option (LogicalOperator × Expression Identifier × List (Expression Identifier)) → Node
joint_node None = none
joint_node (Some j) = joined_node j.0 j.1 j.2

-- the second operand and those behind it
abbrev pub operands_node : Operand (Expression Identifier) × List (Operand (Expression Identifier)) → Node
operands_node p = pair (operand_node view p.0) (row_of (map (operand_node view) p.1))

abbrev pub further_node : Option (Operand (Expression Identifier) × List (Operand (Expression Identifier))) → Node
further_node None = none
further_node (Some p) = operands_node p

-- a first operand with those behind it, or alone
abbrev pub chain_of : Node → Option (Operand (Expression Identifier) × List (Operand (Expression Identifier))) → Node
chain_of v None = v
chain_of v (Some p) = pair (first v) (chain_node (is_adding p.0.operator) (first v) v (operands_node p))

-- whether what is behind the first operand joins terms, or factors, where there is something
abbrev pub joins : Bool → Option (Operand (Expression Identifier) × List (Operand (Expression Identifier))) → Bool
joins adding None = true
joins true (Some p) = is_adding p.0.operator
joins false (Some p) = not (is_adding p.0.operator)

abbrev pub unary_label : UnaryOperator → Label
unary_label unary.Plus = labels.Plus
unary_label unary.Minus = labels.Minus
unary_label unary.Abs = labels.Abs
unary_label unary.Not = labels.Not

-- a sign with its place, if there is one
abbrev pub sign_node : Option (UnaryOperator × Span) → Node
sign_node None = none
sign_node (Some s) = pair (alone (unary_label s.0)) (at s.1)

-- a first term behind its sign, if there is one
abbrev pub signed_node : Option (UnaryOperator × Span) → Node → Node
signed_node None v = v
signed_node (Some s) v = pair (at s.1) (tag labels.Sum (pair (alone (unary_label s.0)) (pair v none)))

abbrev pub is_sign : UnaryOperator → Bool
is_sign unary.Plus = true
is_sign unary.Minus = true
is_sign unary.Abs = false
is_sign unary.Not = false

abbrev pub signs : Option (UnaryOperator × Span) → Bool
signs None = true
signs (Some s) = is_sign s.0

-- expressions with a comma between them
abbrev pub expressions_node : Expression Identifier × List (Expression Identifier) → Node
expressions_node p = pair (view p.0) (row_of (map view p.1))
