-- Names and expressions are read back from what they stand for.
use Rattle.std.proofs.Common.{◌≡◌, ℕ, zero, suc, ◌<◌, Bool, true, false, cond, List, [], ◌∷◌, map, Option, Some, None, refl, sym, ap, subst, ◌∙◌, arith}
use Rattle.std.specs.Prelude.{◌==◌, ◌&&◌, not}
use Rattle.ctl_tree.specs.declared.span.Span.{Span}
use Rattle.ctl_grammar.specs.Form.{Node, none, written, at, pair, tag}
use Rattle.ctl_grammar.specs.Label.{Label}
use Rattle.ctl_grammar.specs.Label as labels
use Rattle.ctl_grammar.specs.Nodes.{alone, first, second, part_2, is_none, row_of, tagged_part}
use Rattle.ctl_syntax.specs.declared.name.Identifier.{Identifier}
use Rattle.ctl_syntax.specs.declared.name.Mark.{Mark}
use Rattle.ctl_syntax.specs.declared.name.Name.{Name}
use Rattle.ctl_syntax.specs.declared.name.Suffix.{Suffix}
use Rattle.ctl_syntax.specs.declared.name.Suffix.TheVariants as suffix
use Rattle.ctl_syntax.specs.declared.name.Attribute.TheVariants as attribute
use Rattle.ctl_syntax.specs.declared.operators.Operand.{Operand}
use Rattle.ctl_syntax.specs.declared.operators.ArithmeticOperator.{ArithmeticOperator}
use Rattle.ctl_syntax.specs.declared.operators.ArithmeticOperator.TheVariants as arithmetic
use Rattle.ctl_syntax.specs.declared.operators.RelationalOperator.{RelationalOperator}
use Rattle.ctl_syntax.specs.declared.operators.RelationalOperator.TheVariants as relational
use Rattle.ctl_syntax.specs.declared.operators.LogicalOperator.{LogicalOperator}
use Rattle.ctl_syntax.specs.declared.operators.LogicalOperator.TheVariants as logical
use Rattle.ctl_syntax.specs.declared.operators.UnaryOperator.{UnaryOperator}
use Rattle.ctl_syntax.specs.declared.operators.UnaryOperator.TheVariants as unary
use Rattle.ctl_syntax.specs.declared.expression.Expression.{Expression, fold_out-Expression, out-Expression, roll-Expression, roll-out-Expression}
use Rattle.ctl_syntax.specs.declared.expression.Expression.TheOpen.{Expression-F}
use Rattle.ctl_syntax.specs.declared.expression.Expression.TheVariants as e
use Rattle.ctl_syntax.specs.declared.expression.Expression.TheVariants.{rolls-Logical, rolls-Relation, rolls-Chain, rolls-Unary, rolls-Number, rolls-String, rolls-Null, rolls-Name, rolls-Parentheses, rolls-New}
use Rattle.ctl_syntax.specs.declared.expression.Expression.TheViews.{outs-Logical, outs-Relation, outs-Unary, outs-String, outs-Parentheses}
use Rattle.ctl_parse.specs.Read.{row_in, size, read_optional, read_identifier, read_mark, read_suffix, read_name, read_operand, read_chain, read_logical, read_relational, read_arithmetic, read_sign, read_expression_below, read_expression}
use Rattle.ctl_parse.specs.View.{optional, identifier_node, mark_node, suffix_node, name_node, logical_label, relational_label, arithmetic_label, unary_node, operand_node, is_adding, is_signed, is_signed_sum, is_same_place, is_same_span, sum_node, chain_node, view}
use Rattle.ctl_parse.proofs.Terms.{unsigned_sum}
use Rattle.ctl_parse.proofs.Views.{view_name, view_chain, view_new, view_null, view_number}

-- ---- sizes

in_first : (a b : Node) {n : ℕ} → size (pair a b) < n → size a < n
in_first a b k = omega (arith, k)

in_second : (a b : Node) {n : ℕ} → size (pair a b) < n → size b < n
in_second a b k = omega (arith, k)

-- what stands behind a place, within a tag
within : (a v : Node) (t : Label) (n : ℕ) → size (pair a (tag t v)) < suc n → size v < n
within a v t n k = omega (arith, k)

-- ---- rows

pub row_back : {X : Type 0} (v : X → Node) (r : Node → X) (n : ℕ) → ((x : X) → size (v x) < n → r (v x) ≡ x) → (xs : List X) → size (row_of (map v xs)) < n → map r (row_in (row_of (map v xs))) ≡ xs
row_back v r n h [] k = refl
row_back v r n h (x ∷ xs) k =
    ap (λ y. y ∷ map r (row_in (row_of (map v xs)))) (h x (in_first (v x) (row_of (map v xs)) k))
    ∙ ap (λ ys. x ∷ ys) (row_back v r n h xs (in_second (v x) (row_of (map v xs)) k))

pub whole_row_back : {X : Type 0} (v : X → Node) (r : Node → X) → ((x : X) → r (v x) ≡ x) → (xs : List X) → map r (row_in (row_of (map v xs))) ≡ xs
whole_row_back v r h [] = refl
whole_row_back v r h (x ∷ xs) = ap (λ y. y ∷ map r (row_in (row_of (map v xs)))) (h x) ∙ ap (λ ys. x ∷ ys) (whole_row_back v r h xs)

pub option_back : {X : Type 0} (v : X → Node) (r : Node → X) (n : ℕ) → ((x : X) → size (v x) < n → r (v x) ≡ x) → (x : Option X) → size (optional v x) < n → read_optional r (optional v x) ≡ x
option_back v r n h None k = refl
option_back v r n h (Some x) k = ap Some (h x (in_second (none) (v x) k))

pub whole_option_back : {X : Type 0} (v : X → Node) (r : Node → X) → ((x : X) → r (v x) ≡ x) → (x : Option X) → read_optional r (optional v x) ≡ x
whole_option_back v r h None = refl
whole_option_back v r h (Some x) = ap Some (h x)

-- ---- names

pub identifier_back : (i : Identifier) → read_identifier (identifier_node i) ≡ i
identifier_back i = refl

abbrev with_rest : Identifier → List Identifier → Mark Identifier
with_rest i is = record { first = i; rest = is }

pub mark_back : (m : Mark Identifier) → read_mark (mark_node m) ≡ m
mark_back m = ap (with_rest m.first) (whole_row_back identifier_node read_identifier identifier_back m.rest)

suffix_back : (r : Node → Expression Identifier) (n : ℕ) → ((x : Expression Identifier) → size (view x) < n → r (view x) ≡ x) → (s : Suffix (Expression Identifier)) → size (suffix_node view s) < n → read_suffix r (suffix_node view s) ≡ s
suffix_back r n h (suffix.Selector i) k = refl
suffix_back r n h (suffix.All p) k = refl
suffix_back r n h (suffix.Arguments p x more) k =
    let inside : size (pair (view x) (row_of (map view more))) < n = omega (arith, k) in
    ap (λ y. suffix.Arguments p y (map r (row_in (row_of (map view more))))) (h x (in_first (view x) (row_of (map view more)) inside))
    ∙ ap (λ ys. suffix.Arguments p x ys) (row_back view r n h more (in_second (view x) (row_of (map view more)) inside))
suffix_back r n h (suffix.Attribute p attribute.Access) k = refl
suffix_back r n h (suffix.Attribute p attribute.Image) k = refl
suffix_back r n h (suffix.Attribute p attribute.First) k = refl
suffix_back r n h (suffix.Attribute p attribute.Last) k = refl

abbrev with_suffixes : Identifier → List (Suffix (Expression Identifier)) → Name Identifier (Expression Identifier)
with_suffixes i ss = record { first = i; suffixes = ss }

pub name_back : (r : Node → Expression Identifier) (n : ℕ) → ((x : Expression Identifier) → size (view x) < n → r (view x) ≡ x) → (m : Name Identifier (Expression Identifier)) → size (name_node view m) < n → read_name r (name_node view m) ≡ m
name_back r n h m k = ap (with_suffixes m.first) (row_back (suffix_node view) (read_suffix r) n (suffix_back r n h) m.suffixes (in_second (identifier_node m.first) (row_of (map (suffix_node view) m.suffixes)) k))

-- ---- operators

logical_back : (o : LogicalOperator) → read_logical (alone (logical_label o)) ≡ o
logical_back logical.And = refl
logical_back logical.Or = refl
logical_back logical.Xor = refl
logical_back logical.AndThen = refl
logical_back logical.OrElse = refl

relational_back : (o : RelationalOperator) → read_relational (alone (relational_label o)) ≡ o
relational_back relational.Equal = refl
relational_back relational.NotEqual = refl
relational_back relational.Less = refl
relational_back relational.LessEqual = refl
relational_back relational.Greater = refl
relational_back relational.GreaterEqual = refl

arithmetic_back : (o : ArithmeticOperator) → read_arithmetic (alone (arithmetic_label o)) ≡ o
arithmetic_back arithmetic.Plus = refl
arithmetic_back arithmetic.Minus = refl
arithmetic_back arithmetic.Concatenate = refl
arithmetic_back arithmetic.Times = refl
arithmetic_back arithmetic.Divide = refl
arithmetic_back arithmetic.Mod = refl
arithmetic_back arithmetic.Rem = refl

abbrev with_operand : ArithmeticOperator → Expression Identifier → Operand (Expression Identifier)
with_operand o x = record { operator = o; operand = x }

operand_back : (r : Node → Expression Identifier) (n : ℕ) → ((x : Expression Identifier) → size (view x) < n → r (view x) ≡ x) → (o : Operand (Expression Identifier)) → size (operand_node view o) < n → read_operand r (operand_node view o) ≡ o
operand_back r n h o k =
    ap (λ q. with_operand q (r (view o.operand))) (arithmetic_back o.operator)
    ∙ ap (with_operand o.operator) (h o.operand (in_second (alone (arithmetic_label o.operator)) (view o.operand) k))

-- what stands behind the first operand
abbrev behind : Operand (Expression Identifier) → List (Operand (Expression Identifier)) → Node
behind o more = pair (operand_node view o) (row_of (map (operand_node view) more))

operands_back : (r : Node → Expression Identifier) (n : ℕ) → ((x : Expression Identifier) → size (view x) < n → r (view x) ≡ x) → (p : Span) (a : Expression Identifier) (o : Operand (Expression Identifier)) (more : List (Operand (Expression Identifier))) → size (behind o more) < n → read_chain r p a (behind o more) ≡ e.Chain p a o more
operands_back r n h p a o more k =
    ap (λ q. e.Chain p a q (map (read_operand r) (row_in (row_of (map (operand_node view) more))))) (operand_back r n h o (in_first (operand_node view o) (row_of (map (operand_node view) more)) k))
    ∙ ap (λ qs. e.Chain p a o qs) (row_back (operand_node view) (read_operand r) n (operand_back r n h) more (in_second (operand_node view o) (row_of (map (operand_node view) more)) k))

-- ---- what expressions of parts stand for

view_string : (p : Span) (s : List ℕ) → view (e.String p s) ≡ pair (at p) (tag labels.String (written s))
view_string p s = rw (fold_out-Expression, outs-String p s) refl

view_parentheses : (p : Span) (a : Expression Identifier) → view (e.Parentheses p a) ≡ pair (at p) (tag labels.Parentheses (view a))
view_parentheses p a = rw (fold_out-Expression, outs-Parentheses p a) refl

view_unary : (p : Span) (o : UnaryOperator) (a : Expression Identifier) → view (e.Unary p o a) ≡ pair (at p) (unary_node o (view a))
view_unary p o a = rw (fold_out-Expression, outs-Unary p o a) refl

view_relation : (p : Span) (o : RelationalOperator) (a b : Expression Identifier) → view (e.Relation p o a b) ≡ pair (at p) (tag labels.Relation (pair (alone (relational_label o)) (pair (view a) (view b))))
view_relation p o a b = rw (fold_out-Expression, outs-Relation p o a b) refl

view_logical : (p : Span) (o : LogicalOperator) (a b : Expression Identifier) (more : List (Expression Identifier)) → view (e.Logical p o a b more) ≡ pair (at p) (tag labels.Logical (pair (alone (logical_label o)) (pair (view a) (pair (view b) (row_of (map view more))))))
view_logical p o a b more = rw (fold_out-Expression, outs-Logical p o a b more) refl

-- ---- places

abbrev span_with : ℕ → ℕ → Span
span_with l c = record { line = l; column = c }

both_same : (a b : Bool) → (a && b) ≡ true → (a ≡ true) × (b ≡ true)
both_same true b h = (refl, h)
both_same false b h = absurd cc

same_numbers : (m n : ℕ) → (m == n) ≡ true → m ≡ n
same_numbers m n h = grind arith

one_span : (p q : Span) → is_same_span p q ≡ true → p ≡ q
one_span p q h =
    let both = both_same (p.line == q.line) (p.column == q.column) h in
    ap (λ l. span_with l p.column) (same_numbers p.line q.line both.0) ∙ ap (span_with q.line) (same_numbers p.column q.column both.1)

-- ---- a sign before the first operand

no_more : (b : Bool) → (b && false) ≡ false
no_more true = refl
no_more false = refl

unsigned_chain : (own : Bool) (s t v x xs : Node) → is_signed_sum (cond own (tag labels.Sum (pair s (pair t (pair x xs)))) (tag labels.Sum (pair none (pair v (pair x xs))))) ≡ false
unsigned_chain true s t v x xs = no_more (not (is_none s))
unsigned_chain false s t v x xs = refl

chain_unsigned : (adding : Bool) (place v x xs : Node) → is_signed (pair place (chain_node adding place v (pair x xs))) ≡ false
chain_unsigned true place v x xs = unsigned_chain (is_signed v && is_same_place place (first v)) (first (tagged_part (second v))) (part_2 (tagged_part (second v))) v x xs
chain_unsigned false place v x xs = refl

-- what holds of each expression that is no sign with a term, and of each of those, holds of all
module _ (P : Expression Identifier → Type 0) (unsigned : (a : Expression Identifier) → is_signed (view a) ≡ false → P a) (plus : (p : Span) (a : Expression Identifier) → P (e.Unary p unary.Plus a)) (minus : (p : Span) (a : Expression Identifier) → P (e.Unary p unary.Minus a)) where
  by_layer : (x : Expression Identifier) (l : Expression-F Identifier (Expression Identifier)) → roll-Expression Identifier l ≡ x → P x
  by_layer x (Expression-F.Logical p o a b more) is = subst P (sym (rolls-Logical p o a b more) ∙ is) (unsigned (e.Logical p o a b more) (ap is_signed (view_logical p o a b more)))
  by_layer x (Expression-F.Relation p o a b) is = subst P (sym (rolls-Relation p o a b) ∙ is) (unsigned (e.Relation p o a b) (ap is_signed (view_relation p o a b)))
  by_layer x (Expression-F.Chain p a o more) is = subst P (sym (rolls-Chain p a o more) ∙ is) (unsigned (e.Chain p a o more) (ap is_signed (view_chain p a o more) ∙ chain_unsigned (is_adding o.operator) (at p) (view a) _ _))
  by_layer x (Expression-F.Unary p unary.Plus a) is = subst P (sym (rolls-Unary p unary.Plus a) ∙ is) (plus p a)
  by_layer x (Expression-F.Unary p unary.Minus a) is = subst P (sym (rolls-Unary p unary.Minus a) ∙ is) (minus p a)
  by_layer x (Expression-F.Unary p unary.Abs a) is = subst P (sym (rolls-Unary p unary.Abs a) ∙ is) (unsigned (e.Unary p unary.Abs a) (ap is_signed (view_unary p unary.Abs a)))
  by_layer x (Expression-F.Unary p unary.Not a) is = subst P (sym (rolls-Unary p unary.Not a) ∙ is) (unsigned (e.Unary p unary.Not a) (ap is_signed (view_unary p unary.Not a)))
  by_layer x (Expression-F.Number p m) is = subst P (sym (rolls-Number p m) ∙ is) (unsigned (e.Number p m) (ap is_signed (view_number p m)))
  by_layer x (Expression-F.String p s) is = subst P (sym (rolls-String p s) ∙ is) (unsigned (e.String p s) (ap is_signed (view_string p s)))
  by_layer x (Expression-F.Null p) is = subst P (sym (rolls-Null p) ∙ is) (unsigned (e.Null p) (ap is_signed (view_null p)))
  by_layer x (Expression-F.Name p m) is = subst P (sym (rolls-Name p m) ∙ is) (unsigned (e.Name p m) (ap is_signed (view_name p m)))
  by_layer x (Expression-F.Parentheses p a) is = subst P (sym (rolls-Parentheses p a) ∙ is) (unsigned (e.Parentheses p a) (ap is_signed (view_parentheses p a)))
  by_layer x (Expression-F.New p h m v) is = subst P (sym (rolls-New p h m v) ∙ is) (unsigned (e.New p h m v) (ap is_signed (view_new p h m v)))

  by_sign : (x : Expression Identifier) → P x
  by_sign x = by_layer x (out-Expression Identifier x) (roll-out-Expression Identifier x)

-- ---- expressions

-- an expression is read back from a node, if that is small enough
abbrev Seen : ℕ → Node → Expression Identifier → Type 0
Seen n w x = size w < suc n → read_expression_below (suc n) w ≡ x

abbrev Back : ℕ → Expression Identifier → Type 0
Back n x = Seen n (view x) x

seen : (n : ℕ) (x : Expression Identifier) (w : Node) → view x ≡ w → Seen n w x → Back n x
seen n x w is h = subst (λ z. Seen n z x) (sym is) h

module _ (n : ℕ) (h : (x : Expression Identifier) → size (view x) < n → read_expression_below n (view x) ≡ x) where
  relation_back : (p : Span) (o : RelationalOperator) (a b : Expression Identifier) → Seen n (pair (at p) (tag labels.Relation (pair (alone (relational_label o)) (pair (view a) (view b))))) (e.Relation p o a b)
  relation_back p o a b k =
      let left : size (view a) < n = omega (arith, k) in
      let right : size (view b) < n = omega (arith, k) in
      ap (λ q. e.Relation p q (read_expression_below n (view a)) (read_expression_below n (view b))) (relational_back o)
      ∙ ap (λ y. e.Relation p o y (read_expression_below n (view b))) (h a left)
      ∙ ap (λ y. e.Relation p o a y) (h b right)

  relations_back : (p : Span) (o : LogicalOperator) (a b : Expression Identifier) (more : List (Expression Identifier)) → Seen n (pair (at p) (tag labels.Logical (pair (alone (logical_label o)) (pair (view a) (pair (view b) (row_of (map view more))))))) (e.Logical p o a b more)
  relations_back p o a b more k =
      let left : size (view a) < n = omega (arith, k) in
      let right : size (view b) < n = omega (arith, k) in
      let rest : size (row_of (map view more)) < n = omega (arith, k) in
      ap (λ q. e.Logical p q (read_expression_below n (view a)) (read_expression_below n (view b)) (map (read_expression_below n) (row_in (row_of (map view more))))) (logical_back o)
      ∙ ap (λ y. e.Logical p o y (read_expression_below n (view b)) (map (read_expression_below n) (row_in (row_of (map view more))))) (h a left)
      ∙ ap (λ y. e.Logical p o a y (map (read_expression_below n) (row_in (row_of (map view more))))) (h b right)
      ∙ ap (λ ys. e.Logical p o a b ys) (row_back view (read_expression_below n) n h more rest)

  unary_back : (p : Span) (o : UnaryOperator) (a : Expression Identifier) → Seen n (pair (at p) (unary_node o (view a))) (e.Unary p o a)
  unary_back p unary.Plus a k = ap (e.Unary p unary.Plus) (h a (omega (arith, k)))
  unary_back p unary.Minus a k = ap (e.Unary p unary.Minus) (h a (omega (arith, k)))
  unary_back p unary.Abs a k = ap (e.Unary p unary.Abs) (h a (omega (arith, k)))
  unary_back p unary.Not a k = ap (e.Unary p unary.Not) (h a (omega (arith, k)))

  allocator_back : (p : Span) (handle : Option (Name Identifier (Expression Identifier))) (mark : Mark Identifier) (value : Option (Expression Identifier)) → Seen n (pair (at p) (tag labels.Allocator (pair (optional (name_node view) handle) (pair (mark_node mark) (optional view value))))) (e.New p handle mark value)
  allocator_back p handle mark value k =
      let in_handle : size (optional (name_node view) handle) < n = omega (arith, k) in
      let in_value : size (optional view value) < n = omega (arith, k) in
      ap (λ y. e.New p y (read_mark (mark_node mark)) (read_optional (read_expression_below n) (optional view value))) (option_back (name_node view) (read_name (read_expression_below n)) n (name_back (read_expression_below n) n h) handle in_handle)
      ∙ ap (λ y. e.New p handle y (read_optional (read_expression_below n) (optional view value))) (mark_back mark)
      ∙ ap (λ y. e.New p handle mark y) (option_back view (read_expression_below n) n h value in_value)

  product_back : (p : Span) (a : Expression Identifier) (o : Operand (Expression Identifier)) (more : List (Operand (Expression Identifier))) → Seen n (pair (at p) (tag labels.Product (pair (view a) (behind o more)))) (e.Chain p a o more)
  product_back p a o more k =
      let first_one : size (view a) < n = omega (arith, k) in
      let others : size (behind o more) < n = omega (arith, k) in
      ap (λ y. read_chain (read_expression_below n) p y (behind o more)) (h a first_one) ∙ operands_back (read_expression_below n) n h p a o more others

  -- a sum whose first operand is kept whole
  whole_sum_back : (p : Span) (a : Expression Identifier) (o : Operand (Expression Identifier)) (more : List (Operand (Expression Identifier))) → Seen n (pair (at p) (tag labels.Sum (pair none (pair (view a) (behind o more))))) (e.Chain p a o more)
  whole_sum_back p a o more k =
      let first_one : size (view a) < n = omega (arith, k) in
      let others : size (behind o more) < n = omega (arith, k) in
      ap (λ y. read_chain (read_expression_below n) p y (behind o more)) (h a first_one) ∙ operands_back (read_expression_below n) n h p a o more others

  -- a sum with a sign of its own
  signed_sum_back : (p : Span) (c : Label) (a : Expression Identifier) (o : Operand (Expression Identifier)) (more : List (Operand (Expression Identifier))) → Seen n (pair (at p) (tag labels.Sum (pair (alone c) (pair (view a) (behind o more))))) (e.Chain p (e.Unary p (read_sign (alone c)) a) o more)
  signed_sum_back p c a o more k =
      let first_one : size (view a) < n = omega (arith, k) in
      let others : size (behind o more) < n = omega (arith, k) in
      ap (λ y. read_chain (read_expression_below n) p (e.Unary p (read_sign (alone c)) y) (behind o more)) (h a first_one) ∙ operands_back (read_expression_below n) n h p (e.Unary p (read_sign (alone c)) a) o more others

  -- a sum whose first operand is a sign with a term: the sign stands at the sum's place, or not
  either_sum_back : (c : Label) (s : UnaryOperator) → read_sign (alone c) ≡ s → (p q : Span) (a : Expression Identifier) (o : Operand (Expression Identifier)) (more : List (Operand (Expression Identifier))) → view (e.Unary q s a) ≡ pair (at q) (tag labels.Sum (pair (alone c) (pair (view a) none)))
      → (own : Bool) → is_same_span p q ≡ own → Seen n (pair (at p) (cond own (tag labels.Sum (pair (alone c) (pair (view a) (behind o more)))) (tag labels.Sum (pair none (pair (pair (at q) (tag labels.Sum (pair (alone c) (pair (view a) none)))) (behind o more)))))) (e.Chain p (e.Unary q s a) o more)
  either_sum_back c s is p q a o more g true same k = signed_sum_back p c a o more k ∙ ap (λ z. e.Chain p (e.Unary p z a) o more) is ∙ ap (λ z. e.Chain p (e.Unary z s a) o more) (one_span p q same)
  either_sum_back c s is p q a o more g false same k = subst (λ z. Seen n (pair (at p) (tag labels.Sum (pair none (pair z (behind o more))))) (e.Chain p (e.Unary q s a) o more)) g (whole_sum_back p (e.Unary q s a) o more) k

  own_sign_back : (c : Label) (s : UnaryOperator) → read_sign (alone c) ≡ s → (p q : Span) (a : Expression Identifier) (o : Operand (Expression Identifier)) (more : List (Operand (Expression Identifier))) → view (e.Unary q s a) ≡ pair (at q) (tag labels.Sum (pair (alone c) (pair (view a) none)))
      → Seen n (pair (at p) (sum_node (at p) (view (e.Unary q s a)) (behind o more))) (e.Chain p (e.Unary q s a) o more)
  own_sign_back c s is p q a o more g = subst (λ z. Seen n (pair (at p) (sum_node (at p) z (behind o more))) (e.Chain p (e.Unary q s a) o more)) (sym g) (either_sum_back c s is p q a o more g (is_same_span p q) refl)

  sum_back : (p : Span) (a : Expression Identifier) (o : Operand (Expression Identifier)) (more : List (Operand (Expression Identifier))) → Seen n (pair (at p) (sum_node (at p) (view a) (behind o more))) (e.Chain p a o more)
  sum_back p a o more = by_sign (λ x. Seen n (pair (at p) (sum_node (at p) (view x) (behind o more))) (e.Chain p x o more))
      (λ x g. subst (λ z. Seen n (pair (at p) z) (e.Chain p x o more)) (sym (unsigned_sum (at p) (view x) (behind o more) g)) (whole_sum_back p x o more))
      (λ q x. own_sign_back labels.Plus unary.Plus refl p q x o more (view_unary q unary.Plus x))
      (λ q x. own_sign_back labels.Minus unary.Minus refl p q x o more (view_unary q unary.Minus x)) a

  chain_back : (adding : Bool) (p : Span) (a : Expression Identifier) (o : Operand (Expression Identifier)) (more : List (Operand (Expression Identifier))) → Seen n (pair (at p) (chain_node adding (at p) (view a) (behind o more))) (e.Chain p a o more)
  chain_back true p a o more = sum_back p a o more
  chain_back false p a o more = product_back p a o more

  back_by_layer : (x : Expression Identifier) (l : Expression-F Identifier (Expression Identifier)) → roll-Expression Identifier l ≡ x → Back n x
  back_by_layer x (Expression-F.Logical p o a b more) is = subst (Back n) (sym (rolls-Logical p o a b more) ∙ is) (seen n (e.Logical p o a b more) _ (view_logical p o a b more) (relations_back p o a b more))
  back_by_layer x (Expression-F.Relation p o a b) is = subst (Back n) (sym (rolls-Relation p o a b) ∙ is) (seen n (e.Relation p o a b) _ (view_relation p o a b) (relation_back p o a b))
  back_by_layer x (Expression-F.Chain p a o more) is = subst (Back n) (sym (rolls-Chain p a o more) ∙ is) (seen n (e.Chain p a o more) _ (view_chain p a o more) (chain_back (is_adding o.operator) p a o more))
  back_by_layer x (Expression-F.Unary p o a) is = subst (Back n) (sym (rolls-Unary p o a) ∙ is) (seen n (e.Unary p o a) _ (view_unary p o a) (unary_back p o a))
  back_by_layer x (Expression-F.Number p m) is = subst (Back n) (sym (rolls-Number p m) ∙ is) (seen n (e.Number p m) _ (view_number p m) (λ k. refl))
  back_by_layer x (Expression-F.String p s) is = subst (Back n) (sym (rolls-String p s) ∙ is) (seen n (e.String p s) _ (view_string p s) (λ k. refl))
  back_by_layer x (Expression-F.Null p) is = subst (Back n) (sym (rolls-Null p) ∙ is) (seen n (e.Null p) _ (view_null p) (λ k. refl))
  back_by_layer x (Expression-F.Name p m) is = subst (Back n) (sym (rolls-Name p m) ∙ is) (seen n (e.Name p m) _ (view_name p m) (λ k. ap (e.Name p) (name_back (read_expression_below n) n h m (within (at p) (name_node view m) labels.Name n k))))
  back_by_layer x (Expression-F.Parentheses p a) is = subst (Back n) (sym (rolls-Parentheses p a) ∙ is) (seen n (e.Parentheses p a) _ (view_parentheses p a) (λ k. ap (e.Parentheses p) (h a (within (at p) (view a) labels.Parentheses n k))))
  back_by_layer x (Expression-F.New p handle mark value) is = subst (Back n) (sym (rolls-New p handle mark value) ∙ is) (seen n (e.New p handle mark value) _ (view_new p handle mark value) (allocator_back p handle mark value))

expression_below_back : (n : ℕ) (x : Expression Identifier) → size (view x) < n → read_expression_below n (view x) ≡ x
expression_below_back zero x k = absurd (omega (arith, k))
expression_below_back (suc n) x k = back_by_layer n (expression_below_back n) x (out-Expression Identifier x) (roll-out-Expression Identifier x) k

pub expression_back : (x : Expression Identifier) → read_expression (view x) ≡ x
expression_back x = expression_below_back (suc (size (view x))) x (omega arith)

pub whole_name_back : (m : Name Identifier (Expression Identifier)) → read_name read_expression (name_node view m) ≡ m
whole_name_back m = name_back read_expression (suc (size (name_node view m))) (λ x k. expression_back x) m (omega arith)
