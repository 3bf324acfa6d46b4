-- The parts of the tree, with what is known of each expression in them.
use Rattle.std.specs.Prelude.{◌≡◌, ℕ, ◌<◌, Option, Some, None, option_map, ◌+◌, List, [], map, length, take, drop, slice_get}
use Rattle.ctl_syntax.specs.declared.denoted.Use.{Use}
use Rattle.ctl_syntax.specs.declared.name.Name.{Name}
use Rattle.ctl_syntax.specs.declared.name.Suffix.{Suffix}
use Rattle.ctl_syntax.specs.declared.name.Suffix.TheVariants as suffix
use Rattle.ctl_syntax.specs.declared.operators.Operand.{Operand}
use Rattle.ctl_syntax.specs.declared.expression.Expression.{Expression}
use Rattle.ctl_tree.specs.declared.span.Span.{Span}
use Rattle.ctl_program.specs.declared.expression.Expr.{Expr}
use Rattle.ctl_program.specs.declared.expression.Expr.TheVariants as e
use Rattle.ctl_program.specs.declared.expression.Operand.{Operand as Checked_operand}
use Rattle.ctl_program.specs.declared.operators.BinaryOp.{BinaryOp}
use Rattle.ctl_program.specs.declared.operators.Shortcut.{Shortcut}
use Rattle.ctl_typing.specs.declared.table.Tables.{Tables}
use Rattle.ctl_typing.specs.declared.found.Asked.{Asked}
use Rattle.ctl_typing.specs.declared.found.Asked.TheVariants as asking
use Rattle.ctl_typing.specs.declared.found.Typed.{Typed}
use Rattle.ctl_typing.specs.declared.found.Found.{Found}
use Rattle.ctl_typing.specs.declared.found.Found.TheVariants.{Computed}
use Rattle.ctl_program.specs.declared.operators.SubpoolFunction.{SubpoolFunction}
use Rattle.ctl_syntax.specs.declared.item.Mode.{Mode}
use Rattle.ctl_typing.specs.declared.found.Place.{Place}
use Rattle.ctl_program.specs.declared.types.Ty.{Ty}
use Rattle.ctl_program.specs.declared.types.Ty.TheVariants as ty
use Rattle.ctl_program.specs.declared.operators.BinaryOp.TheVariants as op
use Rattle.ctl_program.specs.declared.operators.Shortcut.TheVariants as shortcut
use Rattle.ctl_tree.specs.declared.fault.FaultCode.TheVariants as rule
use Rattle.ctl_syntax.specs.declared.operators.ArithmeticOperator.{ArithmeticOperator}
use Rattle.ctl_syntax.specs.declared.operators.RelationalOperator.{RelationalOperator}
use Rattle.ctl_syntax.specs.declared.operators.UnaryOperator.{UnaryOperator}
use Rattle.ctl_syntax.specs.declared.operators.LogicalOperator.{LogicalOperator}
use Rattle.ctl_syntax.specs.declared.operators.LogicalOperator.TheVariants as logical
use Rattle.ctl_program.specs.declared.expression.Actual.{Actual}
use Rattle.ctl_typing.specs.Judgement.{Judgement, known, wrong, onward, with_known, paired, ◌>>=◌, both, each}
use Rattle.ctl_typing.specs.Typing.{Sense, sense, fits, settled, imaged as image_of_value, selected, all_of, value_found, variable_of, variable_found, by_name, name_of, record_found, record_enclosed, by_value, record_by, converted_number, truth_of, truths_of, logical_operand, relation_of, operand_of, unary_of, chain_of, joined, operator_of, arithmetic_of, split}

abbrev pub suffix_sense : Suffix (Expression Use) → Suffix Sense
suffix_sense (suffix.Selector i) = suffix.Selector i
suffix_sense (suffix.All s) = suffix.All s
suffix_sense (suffix.Arguments s x more) = suffix.Arguments s (sense x) (map sense more)
suffix_sense (suffix.Attribute s a) = suffix.Attribute s a

abbrev pub name_sense : Name Use (Expression Use) → Name Use Sense
name_sense u = record { first = u.first; suffixes = map suffix_sense u.suffixes }

abbrev pub operand_sense : Operand (Expression Use) → Operand Sense
operand_sense o = record { operator = o.operator; operand = sense o.operand }

-- a further operand of `and`, `or` or `xor`
abbrev pub truth_behind : BinaryOp → Tables → Sense → Judgement Checked_operand
truth_behind o tables x = truth_of tables x >>= (λ v. known (logical_operand o v))

abbrev pub whole : BinaryOp → Sense → Sense → List Sense → Tables → Judgement Expr
whole o a b more tables = both (both (truth_of tables a) (truth_of tables b)) (truths_of tables more) >>= (λ r. known (e.Chain r.0.0 (logical_operand o r.0.1) (map (logical_operand o) r.1)))

abbrev pub short : Shortcut → Sense → Sense → List Sense → Tables → Judgement Expr
short form a b more tables = both (both (truth_of tables a) (truth_of tables b)) (truths_of tables more) >>= (λ r. known (e.Short form r.0.0 r.0.1 r.1))

-- a value that is handed on
abbrev pub actual_value : Tables → Ty → Sense → Judgement Actual
actual_value tables t x = x.judged tables (asking.Exactly t) >>= by_value

-- a record that is handed on
abbrev pub record_handed : Tables → Ty → Sense → Judgement Actual
record_handed tables t x = record_by tables t x x.bare x.named

-- the same in parentheses
abbrev pub record_inside : Tables → Ty → Sense → Judgement Actual
record_inside tables t x = record_by tables t x None x.named

abbrev pub number_of : Tables → Ty → Sense → Judgement Found
number_of tables t x = x.judged tables asking.Number >>= converted_number t

-- the first two operands of a logical operator
abbrev pub two_truths : Tables → Sense → Sense → Judgement (Expr × Expr)
two_truths tables a b = both (truth_of tables a) (truth_of tables b)

-- the operands of `and`, `or` or `xor` behind the second
abbrev pub truths_behind : BinaryOp → Tables → List Sense → Judgement (List Checked_operand)
truths_behind o tables xs n = each (truth_behind o tables) (Some []) xs n

-- the operands of a logical operator, joined
abbrev pub logical_value : LogicalOperator → Sense → Sense → List Sense → Tables → Judgement Expr
logical_value logical.And a b more tables = whole op.And a b more tables
logical_value logical.Or a b more tables = whole op.Or a b more tables
logical_value logical.Xor a b more tables = whole op.Xor a b more tables
logical_value logical.AndThen a b more tables = short shortcut.AndThen a b more tables
logical_value logical.OrElse a b more tables = short shortcut.OrElse a b more tables

-- a Boolean value, where its place may ask something
abbrev pub boolean_at : Span → Asked → Expr → Judgement Typed
boolean_at place asked v = fits place asked (record { ty = ty.Boolean; value = v })

-- What is known of an expression with several operands, once each of them is judged -----------------------------------------------

abbrev pub swapped : {A B : Type 0} → Option (A × B) → Judgement (B × A)
swapped p = onward p (λ r. known (r.1, r.0))

abbrev pub valued : Option Typed → Judgement Expr
valued t = onward t (λ r. known r.value)

abbrev pub operand_behind : BinaryOp → Option Expr → Judgement Checked_operand
operand_behind o v = onward v (λ w. known (logical_operand o w))

abbrev pub operand_typed : ArithmeticOperator → Option Typed → Judgement Checked_operand
operand_typed o t = onward t (λ r. known (operand_of (operator_of o) r.ty r.value))

abbrev pub chain_made : BinaryOp → (Expr × Expr) × List Checked_operand → Judgement Expr
chain_made o r = known (e.Chain r.0.0 (logical_operand o r.0.1) r.1)

abbrev pub short_made : Shortcut → (Expr × Expr) × List Expr → Judgement Expr
short_made form r = known (e.Short form r.0.0 r.0.1 r.1)

-- the operands of `and`, `or` or `xor` behind the first two, which may be known
abbrev pub whole_behind : BinaryOp → Option (Expr × Expr) → List Sense → Tables → Judgement Expr
whole_behind o two more tables n = with_known (chain_made o) (paired two (truths_behind o tables more n))

abbrev pub short_behind : Shortcut → Option (Expr × Expr) → List Sense → Tables → Judgement Expr
short_behind form two more tables n = with_known (short_made form) (paired two (truths_of tables more n))

abbrev pub logical_behind : LogicalOperator → Option (Expr × Expr) → List Sense → Tables → Judgement Expr
logical_behind logical.And two more tables = whole_behind op.And two more tables
logical_behind logical.Or two more tables = whole_behind op.Or two more tables
logical_behind logical.Xor two more tables = whole_behind op.Xor two more tables
logical_behind logical.AndThen two more tables = short_behind shortcut.AndThen two more tables
logical_behind logical.OrElse two more tables = short_behind shortcut.OrElse two more tables

abbrev pub relation_at : Span → RelationalOperator → Asked → Typed × Typed → Judgement Typed
relation_at place o asked p = fits place asked (relation_of o p.0 p.1)

abbrev pub unary_at : Span → UnaryOperator → Asked → Typed → Judgement Typed
unary_at place o asked r = fits place asked (record { ty = r.ty; value = e.Unary (unary_of o) r.ty r.value })

-- by a first operand that gives the others their type
abbrev pub led_by_first : Typed × List Checked_operand → Judgement Typed
led_by_first r = known (record { ty = r.0.ty; value = chain_of r.0.value r.1 })

-- by another that does
abbrev pub led_by : ArithmeticOperator → Typed × ((Expr × List Checked_operand) × List Checked_operand) → Judgement Typed
led_by o r = known (joined (operator_of o) r.0 r.1)

abbrev pub of_literals : Ty → Expr × List Checked_operand → Judgement Typed
of_literals t r = known (record { ty = t; value = chain_of r.0 r.1 })

abbrev pub arithmetic : Tables → Asked → Sense → List (Operand Sense) → Judgement Typed
arithmetic tables asked x os = arithmetic_of tables asked x os (split os)

-- where the first operand stands that has a type of its own
pub record Leading (os : List (Operand (Expression Use))) (at : ℕ) : Type 0 where
  pub inside : at < length os
  pub parts : split (map operand_sense os) ≡ record { before = map operand_sense (take at os); typed = option_map operand_sense (slice_get os at); behind = map operand_sense (drop (at + 1) os) }

abbrev pub Parted : List (Operand (Expression Use)) → Option ℕ → Type 0
Parted os (Some at) = Leading os at
Parted os None = split (map operand_sense os) ≡ record { before = map operand_sense os; typed = None; behind = [] }

-- an expression that is to be a name alone
abbrev pub bare_found : Span → Option (Tables → Judgement Found) → Tables → Judgement Found
bare_found place None tables = wrong rule.Type place
bare_found place (Some name) tables = name tables

-- Names, once it may be known what they are -----------------------------------------------------------------------------------------

abbrev pub selected_behind : Tables → Span → List ℕ → Found → Judgement Found
selected_behind tables place name f = settled tables place f >>= selected tables place name

abbrev pub all_behind : Tables → Span → Found → Judgement Found
all_behind tables place f = settled tables place f >>= all_of tables place

abbrev pub name_value : Tables → Span → Asked → Option Found → Judgement Typed
name_value tables place asked f = onward f (settled tables place) >>= value_found tables place asked

-- the actual of a formal of mode `out` or `in out`
abbrev pub written_by : Tables → Mode → Ty → Sense → Judgement Actual
written_by tables m t x = variable_of tables t x >>= (λ p. known (by_name m p))

abbrev pub subpool_of : SubpoolFunction → Place → Found
subpool_of which p = Computed (record { ty = ty.Handle; value = e.Subpool which (name_of p) })

-- what is written to
abbrev pub variable_named : Tables → Span → Ty → Option Found → Judgement Place
variable_named tables place t f = onward f (settled tables place) >>= variable_found tables place t

abbrev pub record_handed_on : Tables → Span → Ty → Option Found → Judgement Actual
record_handed_on tables place t f = onward f (settled tables place) >>= record_found place t

abbrev pub record_in_parentheses : Tables → Span → Ty → Option Found → Judgement Actual
record_in_parentheses tables place t f = onward f (settled tables place) >>= record_enclosed place t

abbrev pub imaged : Option Typed → Judgement Found
imaged t = onward t image_of_value
