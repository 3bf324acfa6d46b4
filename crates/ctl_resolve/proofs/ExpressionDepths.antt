-- How deep expressions are: a naming that goes down them ends.
use Rattle.std.proofs.Common.{◌≡◌, ℕ, List, [], ◌∷◌, ◌<◌, rules}
use denote.Param.Weighed.{most}
use Rattle.ctl_tree.specs.declared.span.Span.{Span}
use Rattle.ctl_syntax.specs.declared.name.Identifier.{Identifier}
use Rattle.ctl_syntax.specs.declared.operators.LogicalOperator.{LogicalOperator}
use Rattle.ctl_syntax.specs.declared.operators.RelationalOperator.{RelationalOperator}
use Rattle.ctl_syntax.specs.declared.operators.Operand.{Operand}
use Rattle.ctl_syntax.specs.declared.expression.Expression.{Expression, the_lemmas}
use Rattle.ctl_syntax.specs.declared.expression.Expression.TheVariants as x
use Rattle.ctl_syntax.specs.contracts.name.Identifier.{the_row}
use Rattle.ctl_syntax.proofs.name.Identifier.TheLaws.{the_row_laws}
use Rattle.ctl_syntax.proofs.expression.Expression.TheLaws.{the_size}

-- as deep as the deepest of them
abbrev pub deepest : List (Expression Identifier) → ℕ
deepest es = most (λ e. the_size the_row the_row_laws e) es

abbrev pub deepest_of_chain : Expression Identifier → Operand (Expression Identifier) → List (Operand (Expression Identifier)) → ℕ
deepest_of_chain a o os = most (λ n. n) (the_size the_row the_row_laws a ∷ most (λ p. the_size the_row the_row_laws p.operand) (o ∷ os) ∷ [])

pub logical_below : (e : Expression Identifier) (p : Span) (o : LogicalOperator) (a b : Expression Identifier) (es : List (Expression Identifier)) → e ≡ x.Logical p o a b es → deepest (a ∷ b ∷ es) < the_size the_row the_row_laws e
logical_below e p o a b es is = search (rules, the_lemmas)

pub relation_below : (e : Expression Identifier) (p : Span) (o : RelationalOperator) (a b : Expression Identifier) → e ≡ x.Relation p o a b → deepest (a ∷ b ∷ []) < the_size the_row the_row_laws e
relation_below e p o a b is = search (rules, the_lemmas)

pub chain_below : (e : Expression Identifier) (p : Span) (a : Expression Identifier) (o : Operand (Expression Identifier)) (os : List (Operand (Expression Identifier))) → e ≡ x.Chain p a o os → deepest_of_chain a o os < the_size the_row the_row_laws e
chain_below e p a o os is = search (rules, the_lemmas)
