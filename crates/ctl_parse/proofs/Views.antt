-- What expressions of parts stand for.
use Rattle.std.proofs.Common.{◌≡◌, ℕ, List, [], ◌∷◌, map, Option, Some, None, refl, ap, ◌∙◌}
use Rattle.ctl_tree.specs.declared.span.Span.{Span}
use Rattle.ctl_syntax.specs.declared.name.Identifier.{Identifier}
use Rattle.ctl_syntax.specs.declared.name.Mark.{Mark}
use Rattle.ctl_syntax.specs.declared.name.Name.{Name}
use Rattle.ctl_syntax.specs.declared.name.Suffix.{Suffix}
use Rattle.ctl_syntax.specs.declared.name.Suffix.TheVariants as suffix
use Rattle.ctl_syntax.specs.declared.name.Attribute.{Attribute}
use Rattle.ctl_syntax.specs.declared.name.Attribute.TheVariants as attribute
use Rattle.ctl_syntax.specs.declared.operators.Operand.{Operand}
use Rattle.ctl_syntax.specs.declared.expression.Expression.{Expression, fold_out-Expression}
use Rattle.ctl_syntax.specs.declared.expression.Expression.TheVariants as e
use Rattle.ctl_syntax.specs.declared.expression.Expression.TheViews.{outs-Name, outs-Chain, outs-New, outs-Null, outs-Number}
use Rattle.ctl_grammar.specs.Form.{Node, none, pair, tag, at, num}
use Rattle.ctl_grammar.specs.Label.{Label}
use Rattle.ctl_grammar.specs.Label as labels
use Rattle.ctl_grammar.specs.Nodes.{alone, first, row_of}
use Rattle.ctl_parse.specs.View.{attribute_label, attribute_node, view, identifier_node, mark_node, optional, name_node, suffix_node, operand_node, chain_node, chain_of, is_adding}

pub map_same : (xs : List Node) → map (λ (v : Node). v) xs ≡ xs
map_same [] = refl
map_same (x ∷ xs) = ap (λ (r : List Node). x ∷ r) (map_same xs)

-- a row is seen through what was made of each
pub mapped : {A B : Type 0} (F : A → B) (v : B → Node) (w : A → Node) → ((a : A) → v (F a) ≡ w a) → (xs : List A) → map v (map F xs) ≡ map w xs
mapped F v w h [] = refl
mapped F v w h (x ∷ xs) = ap (λ (n : Node). n ∷ map v (map F xs)) (h x) ∙ ap (λ (r : List Node). w x ∷ r) (mapped F v w h xs)

named : (p : Span) (i : Identifier) (F : Suffix (Expression Identifier) → Suffix Node) (xs : List (Suffix (Expression Identifier))) → ((s : Suffix (Expression Identifier)) → suffix_node (λ v. v) (F s) ≡ suffix_node view s)
    → pair (at p) (tag labels.Name (pair (identifier_node i) (row_of (map (suffix_node (λ v. v)) (map F xs))))) ≡ pair (at p) (tag labels.Name (pair (identifier_node i) (row_of (map (suffix_node view) xs))))
named p i F xs h = ap (λ (r : List Node). pair (at p) (tag labels.Name (pair (identifier_node i) (row_of r)))) (mapped F (suffix_node (λ v. v)) (suffix_node view) h xs)

arguments : (p : Span) (x : Expression Identifier) (more : List (Expression Identifier)) → tag labels.Arguments (pair (at p) (pair (view x) (row_of (map (λ (v : Node). v) (map view more))))) ≡ suffix_node view (suffix.Arguments p x more)
arguments p x more = ap (λ (r : List Node). tag labels.Arguments (pair (at p) (pair (view x) (row_of r)))) (map_same (map view more))

pub view_name : (p : Span) (n : Name Identifier (Expression Identifier)) → view (e.Name p n) ≡ pair (at p) (tag labels.Name (name_node view n))
view_name p n = rw (fold_out-Expression, outs-Name p n) (named p n.first _ n.suffixes (elim [
  | suffix.Selector i ↦ refl
  | suffix.All q ↦ refl
  | suffix.Arguments q x more ↦ arguments q x more
  | suffix.Attribute q a ↦ refl
]))

chained : (p : Span) (a : Node) (o : Operand (Expression Identifier)) (F : Operand (Expression Identifier) → Operand Node) (xs : List (Operand (Expression Identifier))) → ((s : Operand (Expression Identifier)) → operand_node (λ v. v) (F s) ≡ operand_node view s)
    → pair (at p) (chain_node (is_adding o.operator) (at p) a (pair (operand_node view o) (row_of (map (operand_node (λ v. v)) (map F xs))))) ≡ pair (at p) (chain_node (is_adding o.operator) (at p) a (pair (operand_node view o) (row_of (map (operand_node view) xs))))
chained p a o F xs h = ap (λ (r : List Node). pair (at p) (chain_node (is_adding o.operator) (at p) a (pair (operand_node view o) (row_of r)))) (mapped F (operand_node (λ v. v)) (operand_node view) h xs)

pub view_chain : (p : Span) (a : Expression Identifier) (o : Operand (Expression Identifier)) (more : List (Operand (Expression Identifier))) → view (e.Chain p a o more) ≡ pair (at p) (chain_node (is_adding o.operator) (at p) (view a) (pair (operand_node view o) (row_of (map (operand_node view) more))))
view_chain p a o more = rw (fold_out-Expression, outs-Chain p a o more) (chained p (view a) o _ more (λ s. refl))

handled : (p : Span) (n : Name Identifier (Expression Identifier)) (m w : Node) (F : Suffix (Expression Identifier) → Suffix Node) → ((s : Suffix (Expression Identifier)) → suffix_node (λ v. v) (F s) ≡ suffix_node view s)
    → pair (at p) (tag labels.Allocator (pair (pair none (pair (identifier_node n.first) (row_of (map (suffix_node (λ v. v)) (map F n.suffixes))))) (pair m w))) ≡ pair (at p) (tag labels.Allocator (pair (pair none (name_node view n)) (pair m w)))
handled p n m w F h = ap (λ (r : List Node). pair (at p) (tag labels.Allocator (pair (pair none (pair (identifier_node n.first) (row_of r))) (pair m w)))) (mapped F (suffix_node (λ v. v)) (suffix_node view) h n.suffixes)

pub view_new : (p : Span) (handle : Option (Name Identifier (Expression Identifier))) (mark : Mark Identifier) (value : Option (Expression Identifier)) → view (e.New p handle mark value) ≡ pair (at p) (tag labels.Allocator (pair (optional (name_node view) handle) (pair (mark_node mark) (optional view value))))
view_new p None mark None = rw (fold_out-Expression, outs-New p None mark None) refl
view_new p None mark (Some x) = rw (fold_out-Expression, outs-New p None mark (Some x)) refl
view_new p (Some n) mark None = rw (fold_out-Expression, outs-New p (Some n) mark None) (handled p n (mark_node mark) (optional view None) _ (elim [
  | suffix.Selector i ↦ refl
  | suffix.All q ↦ refl
  | suffix.Arguments q x more ↦ arguments q x more
  | suffix.Attribute q a ↦ refl
]))
view_new p (Some n) mark (Some y) = rw (fold_out-Expression, outs-New p (Some n) mark (Some y)) (handled p n (mark_node mark) (optional view (Some y)) _ (elim [
  | suffix.Selector i ↦ refl
  | suffix.All q ↦ refl
  | suffix.Arguments q x more ↦ arguments q x more
  | suffix.Attribute q a ↦ refl
]))

pub chained_is : (p : Span) (a : Expression Identifier) (o : Operand (Expression Identifier)) (more : List (Operand (Expression Identifier))) → at p ≡ first (view a) → view (e.Chain p a o more) ≡ chain_of (view a) (Some (o, more))
chained_is p a o more h = view_chain p a o more ∙ ap (λ (z : Node). pair z (chain_node (is_adding o.operator) z (view a) (pair (operand_node view o) (row_of (map (operand_node view) more))))) h

pub spelled : (p : Span) (a : Attribute) (l : Label) → attribute_label a ≡ Some l → attribute_node p a ≡ tag labels.Attribute (pair (alone l) (at p))
spelled p attribute.Access l h = absurd cc
spelled p attribute.Image l h = let e : labels.Image ≡ l = cc in ap (λ (k : Label). tag labels.Attribute (pair (alone k) (at p))) e
spelled p attribute.First l h = let e : labels.First ≡ l = cc in ap (λ (k : Label). tag labels.Attribute (pair (alone k) (at p))) e
spelled p attribute.Last l h = let e : labels.Last ≡ l = cc in ap (λ (k : Label). tag labels.Attribute (pair (alone k) (at p))) e

pub view_null : (p : Span) → view (e.Null p) ≡ pair (at p) (tag labels.Null none)
view_null p = rw (fold_out-Expression, outs-Null p) refl

pub view_number : (p : Span) (n : ℕ) → view (e.Number p n) ≡ pair (at p) (tag labels.Number (num n))
view_number p n = rw (fold_out-Expression, outs-Number p n) refl
