-- What is known of an expression with several parts, by what is known of each of them.
use Rattle.std.proofs.Common.{◌≡◌, ℕ, refl, ap, List, [], ◌∷◌, map, Option, Some, None, option_map}
use Rattle.ctl_tree.specs.declared.span.Span.{Span}
use Rattle.ctl_syntax.specs.declared.denoted.Use.{Use}
use Rattle.ctl_syntax.specs.declared.name.Name.{Name}
use Rattle.ctl_syntax.specs.declared.name.Mark.{Mark}
use Rattle.ctl_syntax.specs.declared.name.Suffix.{Suffix}
use Rattle.ctl_syntax.specs.declared.name.Suffix.TheVariants as suffix
use Rattle.ctl_syntax.specs.declared.operators.Operand.{Operand}
use Rattle.ctl_syntax.specs.declared.operators.LogicalOperator.{LogicalOperator}
use Rattle.ctl_syntax.specs.declared.operators.RelationalOperator.{RelationalOperator}
use Rattle.ctl_syntax.specs.declared.operators.UnaryOperator.{UnaryOperator}
use Rattle.ctl_syntax.specs.declared.expression.Expression.{Expression, map-Expression, fold-roll-Expression}
use Rattle.ctl_syntax.specs.declared.expression.Expression.TheOpen.{Expression-F}
use Rattle.ctl_syntax.specs.declared.expression.Expression.TheVariants as x
use Rattle.ctl_syntax.specs.declared.expression.Expression.TheVariants.{rolls-Number, rolls-Null, rolls-String, rolls-Logical, rolls-Relation, rolls-Unary, rolls-Parentheses, rolls-Name, rolls-Chain, rolls-New}
use Rattle.ctl_typing.specs.Senses.{suffix_sense, name_sense, operand_sense}
use Rattle.ctl_program.specs.declared.types.Ty.{Ty}
use Rattle.ctl_typing.specs.declared.table.Tables.{Tables}
use Rattle.ctl_typing.specs.declared.found.Found.{Found}
use Rattle.ctl_typing.specs.Judgement.{Judgement}
use Rattle.ctl_typing.specs.Typing.{Sense, sense, step_of, record_by, enclosed_sense}

-- a suffix before those of a name
abbrev with_suffix : Suffix Sense → Expression-F Use Sense → Expression-F Use Sense
with_suffix s (Expression-F.Name p u) = Expression-F.Name p (record { first = u.first; suffixes = s ∷ u.suffixes })
with_suffix s y = y

name_layer : (p : Span) (u : Use) (xs : List (Suffix (Expression Use))) → map-Expression Use (Expression Use) Sense sense (Expression-F.Name p (record { first = u; suffixes = xs })) ≡ Expression-F.Name p (record { first = u; suffixes = map suffix_sense xs })
name_layer p u [] = refl
name_layer p u (suffix.Selector i ∷ xs) = ap (with_suffix (suffix.Selector i)) (name_layer p u xs)
name_layer p u (suffix.All s ∷ xs) = ap (with_suffix (suffix.All s)) (name_layer p u xs)
name_layer p u (suffix.Arguments s y more ∷ xs) = ap (with_suffix (suffix.Arguments s (sense y) (map sense more))) (name_layer p u xs)
name_layer p u (suffix.Attribute s a ∷ xs) = ap (with_suffix (suffix.Attribute s a)) (name_layer p u xs)

pub sense_name : (p : Span) (u : Name Use (Expression Use)) → sense (x.Name p u) ≡ step_of (Expression-F.Name p (name_sense u))
sense_name p u = rw (← rolls-Name, fold-roll-Expression) (ap step_of (name_layer p u.first u.suffixes))

pub sense_logical : (p : Span) (o : LogicalOperator) (a b : Expression Use) (more : List (Expression Use)) → sense (x.Logical p o a b more) ≡ step_of (Expression-F.Logical p o (sense a) (sense b) (map sense more))
sense_logical p o a b more = rw (← rolls-Logical, fold-roll-Expression) refl

pub sense_chain : (p : Span) (a : Expression Use) (o : Operand (Expression Use)) (os : List (Operand (Expression Use))) → sense (x.Chain p a o os) ≡ step_of (Expression-F.Chain p (sense a) (operand_sense o) (map operand_sense os))
sense_chain p a o os = rw (← rolls-Chain, fold-roll-Expression) refl

-- a suffix before those of a handle
abbrev with_handle_suffix : Suffix Sense → Expression-F Use Sense → Expression-F Use Sense
with_handle_suffix s (Expression-F.New p (Some u) m v) = Expression-F.New p (Some (record { first = u.first; suffixes = s ∷ u.suffixes })) m v
with_handle_suffix s y = y

handle_layer : (p : Span) (u : Use) (m : Mark Use) (v : Option (Expression Use)) (xs : List (Suffix (Expression Use))) → map-Expression Use (Expression Use) Sense sense (Expression-F.New p (Some (record { first = u; suffixes = xs })) m v) ≡ Expression-F.New p (Some (record { first = u; suffixes = map suffix_sense xs })) m (option_map sense v)
handle_layer p u m None [] = refl
handle_layer p u m (Some v) [] = refl
handle_layer p u m v (suffix.Selector i ∷ xs) = ap (with_handle_suffix (suffix.Selector i)) (handle_layer p u m v xs)
handle_layer p u m v (suffix.All s ∷ xs) = ap (with_handle_suffix (suffix.All s)) (handle_layer p u m v xs)
handle_layer p u m v (suffix.Arguments s y more ∷ xs) = ap (with_handle_suffix (suffix.Arguments s (sense y) (map sense more))) (handle_layer p u m v xs)
handle_layer p u m v (suffix.Attribute s a ∷ xs) = ap (with_handle_suffix (suffix.Attribute s a)) (handle_layer p u m v xs)

new_layer : (p : Span) (h : Option (Name Use (Expression Use))) (m : Mark Use) (v : Option (Expression Use)) → map-Expression Use (Expression Use) Sense sense (Expression-F.New p h m v) ≡ Expression-F.New p (option_map name_sense h) m (option_map sense v)
new_layer p None m None = refl
new_layer p None m (Some v) = refl
new_layer p (Some u) m v = handle_layer p u.first m v u.suffixes

pub sense_new : (p : Span) (h : Option (Name Use (Expression Use))) (m : Mark Use) (v : Option (Expression Use)) → sense (x.New p h m v) ≡ step_of (Expression-F.New p (option_map name_sense h) m (option_map sense v))
sense_new p h m v = rw (← rolls-New, fold-roll-Expression) (ap step_of (new_layer p h m v))

pub sense_number : (p : Span) (n : ℕ) → sense (x.Number p n) ≡ step_of (Expression-F.Number p n)
sense_number p n = rw (← rolls-Number, fold-roll-Expression) refl

pub sense_null : (p : Span) → sense (x.Null p) ≡ step_of (Expression-F.Null p)
sense_null p = rw (← rolls-Null, fold-roll-Expression) refl

pub sense_string : (p : Span) (s : List ℕ) → sense (x.String p s) ≡ step_of (Expression-F.String p s)
sense_string p s = rw (← rolls-String, fold-roll-Expression) refl

pub sense_relation : (p : Span) (o : RelationalOperator) (a b : Expression Use) → sense (x.Relation p o a b) ≡ step_of (Expression-F.Relation p o (sense a) (sense b))
sense_relation p o a b = rw (← rolls-Relation, fold-roll-Expression) refl

pub sense_unary : (p : Span) (o : UnaryOperator) (a : Expression Use) → sense (x.Unary p o a) ≡ step_of (Expression-F.Unary p o (sense a))
sense_unary p o a = rw (← rolls-Unary, fold-roll-Expression) refl

pub sense_parentheses : (p : Span) (a : Expression Use) → sense (x.Parentheses p a) ≡ step_of (Expression-F.Parentheses p (sense a))
sense_parentheses p a = rw (← rolls-Parentheses, fold-roll-Expression) refl

-- what stands in parentheses is handed on as in further ones around it
pub record_enclosed_is : (tables : Tables) (t : Ty) (p : Span) (x : Sense) (named : Option (Tables → Judgement Found)) → record_by tables t (enclosed_sense p x) None named ≡ record_by tables t x None named
record_enclosed_is tables t p x None = refl
record_enclosed_is tables t p x (Some name) = refl
