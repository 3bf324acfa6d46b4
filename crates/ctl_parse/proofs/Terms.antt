-- Sums and products: a term is no sum with a sign.
use Rattle.std.proofs.Common.{◌≡◌, ℕ, Bool, true, false, cond, List, Option, Some, None, Ok, Err, refl, sym, ap, subst, ◌∙◌, arith}
use Rattle.std.specs.Prelude.{◌==◌, not}
use Rattle.ctl_tree.specs.declared.span.Span.{Span}
use Rattle.ctl_tree.specs.declared.token.Token.{Token}
use Rattle.ctl_syntax.specs.declared.name.Identifier.{Identifier}
use Rattle.ctl_syntax.specs.declared.expression.Expression.{Expression}
use Rattle.ctl_syntax.specs.declared.operators.Operand.{Operand}
use Rattle.ctl_syntax.specs.declared.operators.UnaryOperator.{UnaryOperator}
use Rattle.ctl_grammar.specs.declared.refused.Refused.{Refused}
use Rattle.ctl_grammar.specs.Form.{Node, none, leaf, num, written, at, pair, tag, Form, alt, act, starts}
use Rattle.ctl_grammar.specs.Grammar.{term, factor, multiplicands, primary, number, string, null, allocator}
use Rattle.ctl_grammar.specs.Label as labels
use Rattle.ctl_grammar.specs.Nodes.{alone, first, second, product_of, sum_of}
use Rattle.ctl_grammar.specs.Reading.{Read, ◌>>=◌, begins, read}
use Rattle.ctl_parse.specs.declared.cursor.Parser.{Parser}
use Rattle.ctl_parse.specs.Kept.{kept, kept_read}
use Rattle.ctl_parse.specs.Reads.{Reads, Goes}
use Rattle.ctl_parse.specs.View.{is_signed, is_same_span, is_adding, chain_node, sum_node, chain_of, further_node, operands_node, joins, signed_node, sign_node, unary_label}
use Rattle.ctl_parse.proofs.Steps.{kept_product}

-- what was read is no sum with a sign
abbrev Unsigned : Read → Type 0
Unsigned (Ok x) = is_signed (kept x.0) ≡ false
Unsigned (Err e) = Unit {0}

unsigned_made : (make : Node → Node) (o : Read) → ((v : Node) → is_signed (kept (make v)) ≡ false) → Unsigned (o >>= λ x. Ok (make x.0, x.1))
unsigned_made make (Ok x) h = h x.0
unsigned_made make (Err e) h = tt

unsigned_choice : (b : Bool) (o s : Read) → Unsigned o → Unsigned s → Unsigned (cond b o s)
unsigned_choice true o s h k = h
unsigned_choice false o s h k = k

unsigned_product : (a b : Node) → is_signed a ≡ false → is_signed (product_of a b) ≡ false
unsigned_product a none h = h
unsigned_product a (leaf t) h = h
unsigned_product a (num n) h = h
unsigned_product a (written s) h = h
unsigned_product a (at p) h = h
unsigned_product a (pair x y) h = refl
unsigned_product a (tag n v) h = h

unsigned_pair : (x : Node × List Token) (o : Read) → is_signed (kept x.0) ≡ false → Unsigned ((o >>= λ y. Ok (pair x.0 y.0, y.1)) >>= λ z. Ok (product_of (first z.0) (second z.0), z.1))
unsigned_pair x (Ok y) h = ap is_signed (kept_product x.0 y.0) ∙ unsigned_product (kept x.0) (kept y.0) h
unsigned_pair x (Err e) h = tt

unsigned_term : (o : Read) (k : List Token → Read) → Unsigned o → Unsigned ((o >>= λ x. k x.1 >>= λ y. Ok (pair x.0 y.0, y.1)) >>= λ z. Ok (product_of (first z.0) (second z.0), z.1))
unsigned_term (Ok x) k h = unsigned_pair x (k x.1) h
unsigned_term (Err e) k h = tt

-- what a form stands for is no sum with a sign
record Bare (f : Form) : Type 0 where
  unsigned : (left : ℕ) (ts : List Token) → Unsigned (read left f none ts)

bare_act : {f : Form} {make : Node → Node} → ((v : Node) → is_signed (kept (make v)) ≡ false) → Bare (act make f)
bare_act {f} {make} h = record { unsigned = λ left ts. unsigned_made make (read left f none ts) h }

bare_alt : {f g : Form} → Bare f → Bare g → Bare (alt f g)
bare_alt {f} {g} h k = record { unsigned = λ left ts. unsigned_choice (begins (starts f) ts) (read left f none ts) (read left g none ts) (h.unsigned left ts) (k.unsigned left ts) }

primary_bare : Bare primary
unfolding primary number string null allocator
primary_bare = bare_alt (bare_act (λ v. refl)) (bare_alt (bare_act (λ v. refl)) (bare_alt (bare_act (λ v. refl)) (bare_alt (bare_act (λ v. refl)) (bare_alt (bare_act (λ v. refl)) (bare_act (λ v. refl))))))

factor_bare : Bare factor
unfolding factor
factor_bare = bare_alt (bare_act (λ v. refl)) (bare_alt (bare_act (λ v. refl)) primary_bare)

unsigned_of : (o : Read) (v : Node) (us : List Token) → Unsigned o → kept_read o ≡ Ok (v, us) → is_signed v ≡ false
unsigned_of (Ok x) v us h e =
    let pairs : (y z : Node × List Token) → (let w : Read = Ok y in w) ≡ Ok z → y ≡ z = λ y z k. cc in
    subst (λ (n : Node). is_signed n ≡ false) (ap (λ (z : Node × List Token). z.0) (pairs (kept x.0, x.1) (v, us) e)) h
unsigned_of (Err d) v us h e = absurd cc

unsigned_goes : (o : Read) (v : Node) (ts us : List Token) (d e : Option Refused) → Unsigned o → Goes d ts o v e us → e ≡ None → is_signed v ≡ false
unsigned_goes o v ts us None None h g k = unsigned_of o v us h g
unsigned_goes o v ts us None (Some x) h g k = absurd cc
unsigned_goes o v ts us (Some x) e h g k = absurd (let clash = sym k ∙ g.0 in absurd cc)

pub term_unsigned : {p q : Parser} {v : Node} → Reads term none p v q → q.fault ≡ None → is_signed v ≡ false
unfolding term
term_unsigned {p} {q} {v} r h =
    unsigned_goes (read p.left term none p.rest.now) v p.rest.now q.rest.now p.fault q.fault
    (unsigned_term (read p.left factor none p.rest.now) (read p.left multiplicands none) (factor_bare.unsigned p.left p.rest.now)) r.goes h

-- ---- chains

not_adding : (b : Bool) (v a : Node) (p : Operand (Expression Identifier) × List (Operand (Expression Identifier))) → not b ≡ true → pair a (chain_node b a v (operands_node p)) ≡ pair a (tag labels.Product (pair v (operands_node p)))
not_adding true v a p h = absurd cc
not_adding false v a p h = refl

pub product_is : (v : Node) (rest : Option (Operand (Expression Identifier) × List (Operand (Expression Identifier)))) → joins false rest ≡ true → product_of v (further_node rest) ≡ chain_of v rest
product_is v None h = refl
product_is v (Some p) h = sym (not_adding (is_adding p.0.operator) v (first v) p h)

adding_sum : (b : Bool) (v a : Node) (p : Operand (Expression Identifier) × List (Operand (Expression Identifier))) → b ≡ true → pair a (chain_node b a v (operands_node p)) ≡ pair a (sum_node a v (operands_node p))
adding_sum true v a p h = refl
adding_sum false v a p h = absurd cc

pub unsigned_sum : (place v more : Node) → is_signed v ≡ false → sum_node place v more ≡ tag labels.Sum (pair none (pair v more))
unsigned_sum place v more h = rw h refl

same_number : (n : ℕ) → (n == n) ≡ true
same_number n = grind arith

same_span : (p : Span) → is_same_span p p ≡ true
same_span p = rw (same_number p.line, same_number p.column) refl

signed_sum : (s : UnaryOperator × Span) (v more : Node) → sum_node (at s.1) (signed_node (Some s) v) more ≡ tag labels.Sum (pair (alone (unary_label s.0)) (pair v more))
signed_sum s v more = rw (same_span s.1) refl

pub sum_is : (sign : Option (UnaryOperator × Span)) (v : Node) (rest : Option (Operand (Expression Identifier) × List (Operand (Expression Identifier)))) → is_signed v ≡ false → joins true rest ≡ true → sum_of (sign_node sign) v (further_node rest) ≡ chain_of (signed_node sign v) rest
sum_is None v None h k = refl
sum_is None v (Some p) h k = ap (λ (n : Node). pair (first v) n) (sym (unsigned_sum (first v) v (operands_node p) h)) ∙ sym (adding_sum (is_adding p.0.operator) v (first v) p k)
sum_is (Some s) v None h k = refl
sum_is (Some s) v (Some p) h k = ap (λ (n : Node). pair (at s.1) n) (sym (signed_sum s v (operands_node p))) ∙ sym (adding_sum (is_adding p.0.operator) (signed_node (Some s) v) (at s.1) p k)
