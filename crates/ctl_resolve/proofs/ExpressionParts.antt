-- What the naming of an expression is, by the naming of its parts.
use Rattle.std.proofs.Common.{◌≡◌, refl, ap, ◌∙◌, ℕ, zero, suc, List, [], ◌∷◌, map, drop, Option, Some, None, option_map}
use Rattle.ctl_tree.specs.declared.span.Span.{Span}
use Rattle.ctl_syntax.specs.declared.denoted.Use.{Use}
use Rattle.ctl_syntax.specs.declared.name.Identifier.{Identifier}
use Rattle.ctl_syntax.specs.declared.name.Name.{Name}
use Rattle.ctl_syntax.specs.declared.name.Mark.{Mark}
use Rattle.ctl_syntax.specs.declared.name.Suffix.{Suffix}
use Rattle.ctl_syntax.specs.declared.name.Suffix.TheVariants as suffix
use Rattle.ctl_syntax.specs.declared.operators.Operand.{Operand}
use Rattle.ctl_syntax.specs.declared.operators.LogicalOperator.{LogicalOperator}
use Rattle.ctl_syntax.specs.declared.expression.Expression.{Expression, map-Expression, fold-roll-Expression}
use Rattle.ctl_syntax.specs.declared.expression.Expression.TheOpen.{Expression-F}
use Rattle.ctl_syntax.specs.declared.expression.Expression.TheVariants as x
use Rattle.ctl_syntax.specs.declared.expression.Expression.TheVariants.{rolls-Logical, rolls-Chain, rolls-Name, rolls-New}
use Rattle.ctl_resolve.specs.declared.view.View.{View}
use Rattle.ctl_resolve.specs.declared.view.Usage.TheVariants.{Plain}
use Rattle.ctl_resolve.specs.Naming.{Naming, pure, then_by, ◌>>=◌, each, optional}
use Rattle.ctl_resolve.proofs.Each.{each_map}
use Rattle.ctl_resolve.specs.Expressions.{Named_expression, step, expression, suffix_parts, operand_parts, named_suffix, named_operand, suffix_of, operand, name, name_of, leading, used, mark, every, itself}

-- Names -----------------------------------------------------------------------------------------------

leading_parts : (xs : List (Suffix (Expression Identifier))) → leading (map suffix_parts xs) ≡ leading xs
leading_parts [] = refl
leading_parts (suffix.Selector id ∷ xs) = ap (λ ids. id ∷ ids) (leading_parts xs)
leading_parts (suffix.All s ∷ xs) = refl
leading_parts (suffix.Arguments s y more ∷ xs) = refl
leading_parts (suffix.Attribute s a ∷ xs) = refl

drop_map : {A B : Type 0} (g : A → B) (k : ℕ) (xs : List A) → drop k (map g xs) ≡ map g (drop k xs)
drop_map g zero xs = refl
drop_map g (suc k) [] = refl
drop_map g (suc k) (y ∷ ys) = drop_map g k ys

-- a suffix before those of a name
abbrev with_suffix : Suffix Named_expression → Expression-F Identifier Named_expression → Expression-F Identifier Named_expression
with_suffix s (Expression-F.Name p u) = Expression-F.Name p (record { first = u.first; suffixes = s ∷ u.suffixes })
with_suffix s y = y

name_layer : (p : Span) (u : Identifier) (xs : List (Suffix (Expression Identifier))) → map-Expression Identifier (Expression Identifier) Named_expression expression (Expression-F.Name p (record { first = u; suffixes = xs })) ≡ Expression-F.Name p (record { first = u; suffixes = map suffix_parts xs })
name_layer p u [] = refl
name_layer p u (suffix.Selector i ∷ xs) = ap (with_suffix (suffix.Selector i)) (name_layer p u xs)
name_layer p u (suffix.All s ∷ xs) = ap (with_suffix (suffix.All s)) (name_layer p u xs)
name_layer p u (suffix.Arguments s y more ∷ xs) = ap (with_suffix (suffix.Arguments s (expression y) (map expression more))) (name_layer p u xs)
name_layer p u (suffix.Attribute s a ∷ xs) = ap (with_suffix (suffix.Attribute s a)) (name_layer p u xs)

expression_name : (p : Span) (u : Name Identifier (Expression Identifier)) → expression (x.Name p u) ≡ (name_of u >>= (λ a. pure (x.Name p a)))
expression_name p u = rw (← rolls-Name, fold-roll-Expression) (ap step (name_layer p u.first u.suffixes))

-- Operators -------------------------------------------------------------------------------------------

expression_logical : (p : Span) (o : LogicalOperator) (a b : Expression Identifier) (xs : List (Expression Identifier)) → expression (x.Logical p o a b xs) ≡ step (Expression-F.Logical p o (expression a) (expression b) (map expression xs))
expression_logical p o a b xs = rw (← rolls-Logical, fold-roll-Expression) refl

expression_chain : (p : Span) (a : Expression Identifier) (o : Operand (Expression Identifier)) (os : List (Operand (Expression Identifier))) → expression (x.Chain p a o os) ≡ step (Expression-F.Chain p (expression a) (operand_parts o) (map operand_parts os))
expression_chain p a o os = rw (← rolls-Chain, fold-roll-Expression) refl

-- Allocators ------------------------------------------------------------------------------------------

abbrev name_parts : Name Identifier (Expression Identifier) → Name Identifier Named_expression
name_parts u = record { first = u.first; suffixes = map suffix_parts u.suffixes }

-- a suffix before those of a handle
abbrev with_handle_suffix : Suffix Named_expression → Expression-F Identifier Named_expression → Expression-F Identifier Named_expression
with_handle_suffix s (Expression-F.New p (Some u) m v) = Expression-F.New p (Some (record { first = u.first; suffixes = s ∷ u.suffixes })) m v
with_handle_suffix s y = y

handle_layer : (p : Span) (u : Identifier) (m : Mark Identifier) (v : Option (Expression Identifier)) (xs : List (Suffix (Expression Identifier))) → map-Expression Identifier (Expression Identifier) Named_expression expression (Expression-F.New p (Some (record { first = u; suffixes = xs })) m v) ≡ Expression-F.New p (Some (record { first = u; suffixes = map suffix_parts xs })) m (option_map expression v)
handle_layer p u m None [] = refl
handle_layer p u m (Some v) [] = refl
handle_layer p u m v (suffix.Selector i ∷ xs) = ap (with_handle_suffix (suffix.Selector i)) (handle_layer p u m v xs)
handle_layer p u m v (suffix.All s ∷ xs) = ap (with_handle_suffix (suffix.All s)) (handle_layer p u m v xs)
handle_layer p u m v (suffix.Arguments s y more ∷ xs) = ap (with_handle_suffix (suffix.Arguments s (expression y) (map expression more))) (handle_layer p u m v xs)
handle_layer p u m v (suffix.Attribute s a ∷ xs) = ap (with_handle_suffix (suffix.Attribute s a)) (handle_layer p u m v xs)

new_layer : (p : Span) (h : Option (Name Identifier (Expression Identifier))) (m : Mark Identifier) (v : Option (Expression Identifier)) → map-Expression Identifier (Expression Identifier) Named_expression expression (Expression-F.New p h m v) ≡ Expression-F.New p (option_map name_parts h) m (option_map expression v)
new_layer p None m None = refl
new_layer p None m (Some v) = refl
new_layer p (Some u) m v = handle_layer p u.first m v u.suffixes

expression_new : (p : Span) (h : Option (Name Identifier (Expression Identifier))) (m : Mark Identifier) (v : Option (Expression Identifier)) → expression (x.New p h m v) ≡ step (Expression-F.New p (option_map name_parts h) m (option_map expression v))
expression_new p h m v = rw (← rolls-New, fold-roll-Expression) (ap step (new_layer p h m v))

handle_named : (h : Option (Name Identifier (Expression Identifier))) (w : View) → optional name (option_map name_parts h) w ≡ optional name_of h w
handle_named None w = refl
handle_named (Some u) w = refl

value_named : (y : Option (Expression Identifier)) (w : View) → optional itself (option_map expression y) w ≡ optional expression y w
value_named None w = refl
value_named (Some y) w = refl

-- Expressions by their parts ----------------------------------------------------------------------------

pub logical : (p : Span) (o : LogicalOperator) (a b : Expression Identifier) (xs : List (Expression Identifier)) (v v1 v2 v3 : View) (a2 b2 : Expression Use) (xs2 : List (Expression Use)) → expression a v ≡ (a2, v1) → expression b v1 ≡ (b2, v2) → each expression [] xs v2 ≡ (xs2, v3) → expression (x.Logical p o a b xs) v ≡ (x.Logical p o a2 b2 xs2, v3)
logical p o a b xs v v1 v2 v3 a2 b2 xs2 h k l =
    let third : List (Expression Use) → Named_expression = λ zs. pure (x.Logical p o a2 b2 zs) in
    let second : Expression Use → Named_expression = λ z. every (map expression xs) >>= (λ zs. pure (x.Logical p o a2 z zs)) in
    let first : Expression Use → Named_expression = λ y. expression b >>= (λ z. every (map expression xs) >>= (λ zs. pure (x.Logical p o y z zs))) in
    ap (λ f. f v) (expression_logical p o a b xs)
    ∙ ap (then_by first) h
    ∙ ap (then_by second) k
    ∙ ap (then_by third) (each_map (λ y. y) expression [] xs v2 ∙ l)

pub chain : (p : Span) (a : Expression Identifier) (o : Operand (Expression Identifier)) (os : List (Operand (Expression Identifier))) (v v1 v2 v3 : View) (a2 : Expression Use) (o2 : Operand (Expression Use)) (os2 : List (Operand (Expression Use))) → expression a v ≡ (a2, v1) → named_operand o v1 ≡ (o2, v2) → each named_operand [] os v2 ≡ (os2, v3) → expression (x.Chain p a o os) v ≡ (x.Chain p a2 o2 os2, v3)
chain p a o os v v1 v2 v3 a2 o2 os2 h k l =
    let third : List (Operand (Expression Use)) → Named_expression = λ zs. pure (x.Chain p a2 o2 zs) in
    let second : Operand (Expression Use) → Named_expression = λ z. each operand [] (map operand_parts os) >>= (λ zs. pure (x.Chain p a2 z zs)) in
    let first : Expression Use → Named_expression = λ y. named_operand o >>= (λ z. each operand [] (map operand_parts os) >>= (λ zs. pure (x.Chain p y z zs))) in
    ap (λ f. f v) (expression_chain p a o os)
    ∙ ap (then_by first) h
    ∙ ap (then_by second) k
    ∙ ap (then_by third) (each_map operand operand_parts [] os v2 ∙ l)

pub of_name : (p : Span) (n : Name Identifier (Expression Identifier)) (v w : View) (n2 : Name Use (Expression Use)) → name_of n v ≡ (n2, w) → expression (x.Name p n) v ≡ (x.Name p n2, w)
of_name p n v w n2 h =
    let behind : Name Use (Expression Use) → Named_expression = λ y. pure (x.Name p y) in
    ap (λ f. f v) (expression_name p n) ∙ ap (then_by behind) h

pub allocator : (p : Span) (h : Option (Name Identifier (Expression Identifier))) (m : Mark Identifier) (y : Option (Expression Identifier)) (v v1 v2 v3 : View) (h2 : Option (Name Use (Expression Use))) (m2 : Mark Use) (y2 : Option (Expression Use)) → optional name_of h v ≡ (h2, v1) → mark Plain m v1 ≡ (m2, v2) → optional expression y v2 ≡ (y2, v3) → expression (x.New p h m y) v ≡ (x.New p h2 m2 y2, v3)
allocator p h m y v v1 v2 v3 h2 m2 y2 j k l =
    let third : Option (Expression Use) → Named_expression = λ c. pure (x.New p h2 m2 c) in
    let second : Mark Use → Named_expression = λ b. optional itself (option_map expression y) >>= (λ c. pure (x.New p h2 b c)) in
    let first : Option (Name Use (Expression Use)) → Named_expression = λ a. mark Plain m >>= (λ b. optional itself (option_map expression y) >>= (λ c. pure (x.New p a b c))) in
    ap (λ f. f v) (expression_new p h m y)
    ∙ ap (then_by first) (handle_named h v ∙ j)
    ∙ ap (then_by second) k
    ∙ ap (then_by third) (value_named y v2 ∙ l)

pub named : (n : Name Identifier (Expression Identifier)) (v v1 v2 : View) (first : Use) (count : ℕ) (ys : List (Suffix (Expression Use))) → used Plain n.first (leading n.suffixes) v ≡ ((first, count), v1) → each named_suffix [] (drop count n.suffixes) v1 ≡ (ys, v2) → name_of n v ≡ (record { first = first; suffixes = ys }, v2)
named n v v1 v2 first count ys h k =
    let xs = n.suffixes in
    let last : List (Suffix (Expression Use)) → Naming (Name Use (Expression Use)) = λ zs. pure (record { first = first; suffixes = zs }) in
    let behind : Use × ℕ → Naming (Name Use (Expression Use)) = λ u. each suffix_of [] (drop u.1 (map suffix_parts xs)) >>= (λ zs. pure (record { first = u.0; suffixes = zs })) in
    ap (then_by behind) (ap (λ ids. used Plain n.first ids v) (leading_parts xs) ∙ h)
    ∙ ap (then_by last) (ap (λ zs. each suffix_of [] zs v1) (drop_map suffix_parts count xs) ∙ each_map suffix_of suffix_parts [] (drop count xs) v1 ∙ k)

pub arguments : (p : Span) (a : Expression Identifier) (xs : List (Expression Identifier)) (v v1 v2 : View) (a2 : Expression Use) (xs2 : List (Expression Use)) → expression a v ≡ (a2, v1) → each expression [] xs v1 ≡ (xs2, v2) → named_suffix (suffix.Arguments p a xs) v ≡ (suffix.Arguments p a2 xs2, v2)
arguments p a xs v v1 v2 a2 xs2 h k =
    let second : List (Expression Use) → Naming (Suffix (Expression Use)) = λ zs. pure (suffix.Arguments p a2 zs) in
    let first : Expression Use → Naming (Suffix (Expression Use)) = λ y. every (map expression xs) >>= (λ zs. pure (suffix.Arguments p y zs)) in
    ap (then_by first) h ∙ ap (then_by second) (each_map (λ y. y) expression [] xs v1 ∙ k)
