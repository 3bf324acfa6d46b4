-- Names in front of lists, and associations.
use Rattle.std.proofs.Common.{◌≡◌, ℕ, Bool, true, false, cond, List, [], ◌∷◌, map, Option, Some, None, Ok, Err, refl, sym, ap, ◌∙◌, ◌⊎◌, inl, inr, rules}
use Rattle.std.specs.Prelude.{◌&&◌, ◌==◌, MatchOption, length}
use Rattle.ctl_tree.specs.declared.span.Span.{Span}
use Rattle.ctl_syntax.specs.declared.expression.Expression.{Expression}
use Rattle.ctl_syntax.specs.declared.expression.Expression.TheVariants as e
use Rattle.ctl_syntax.specs.declared.item.Choices.TheVariants as choice
use Rattle.ctl_syntax.specs.declared.name.Mark.{Mark}
use Rattle.ctl_syntax.specs.declared.name.Name.{Name}
use Rattle.ctl_syntax.specs.declared.name.Suffix.{Suffix}
use Rattle.ctl_parse.specs.Parts.{choices_node, named_node}
use Rattle.ctl_parse.proofs.Views.{view_name}
use Rattle.ctl_tree.specs.declared.token.Kind.TheVariants as kinds
use Rattle.ctl_tree.specs.declared.token.Token.{Token}
use Rattle.ctl_syntax.specs.declared.name.Identifier.{Identifier}
use Rattle.ctl_grammar.specs.Form.{Node, none, pair, Form, word, act, when, ◌▸◌, starts}
use Rattle.ctl_grammar.specs.Grammar.{apart, association, expression}
use Rattle.ctl_grammar.specs.Nodes.{first, second, row_of, is_bare, is_none, association_of, bare_of}
use Rattle.ctl_grammar.specs.Reading.{Read, ◌>>=◌, begins, read}
use Rattle.ctl_parse.specs.declared.cursor.Parser.{Parser}
use Rattle.ctl_parse.specs.Kept.{kept}
use Rattle.ctl_parse.specs.Reads.{Reads}
use Rattle.ctl_parse.specs.View.{identifier_node, mark_node, suffix_node, view}
use Rattle.ctl_parse.proofs.Steps.{same_parts, kept_first, kept_second}
use Rattle.ctl_parse.proofs.Forms.{inside, making_where, not_empty}
use Rattle.ctl_parse.proofs.Keeping.{kept_association, kept_bare}

-- ---- names in front

-- names that were read are not none
pub some_names : {f g : Form} {env : Node} {p q : Parser} (ids : List Identifier) → Reads (f ▸ g) env p (row_of (map identifier_node ids)) q → q.fault ≡ None → is_none (row_of (map identifier_node ids)) ≡ false
some_names [] k h = absurd (not_empty k h)
some_names (i ∷ ids) k h = refl

-- nor are names of exceptions
pub some_exceptions : {f g : Form} {env : Node} {p q : Parser} (ms : List (Mark Identifier)) → Reads (f ▸ g) env p (row_of (map mark_node ms)) q → q.fault ≡ None → choices_node (choice.Exceptions ms) ≡ row_of (map mark_node ms)
some_exceptions [] k h = absurd (not_empty k h)
some_exceptions (m ∷ ms) k h = refl

-- ---- associations

pub and_both : (a b : Bool) → (a && b) ≡ true → (a ≡ true) × (b ≡ true)
and_both true b h = (refl, h)
and_both false b h = absurd cc

abbrev behind_arrow : Form
behind_arrow = act (λ v. pair none (second v)) (word kinds.Arrow ▸ apart expression)

-- whether an arrow may follow is told by what is kept of the expression
same_arrow : (a v : Node) → kept v ≡ a → (left : ℕ) (ts : List Token) → read left (when is_bare behind_arrow) v ts ≡ read left (when is_bare behind_arrow) a ts
same_arrow a v h left ts =
    let same : is_bare v ≡ is_bare a = sym (kept_bare v) ∙ ap is_bare h in
    ap (λ (b : Bool). cond (b && begins (starts behind_arrow) ts) (read left behind_arrow none ts) (Ok (none, ts))) same

abbrev Named : Node → Type 0
Named v = (second v ≡ none) ⊎ (is_bare (first v) ≡ true)

told_made : (o : Read) (x v : Node) (xs : List Token) → is_bare x ≡ true → (o >>= λ y. Ok (pair x y.0, y.1)) ≡ Ok (v, xs) → Named v
told_made (Ok y) x v xs b h =
    let e : pair x y.0 ≡ v = ap (λ (z : Node × List Token). z.0) (same_parts (pair x y.0, y.1) (v, xs) h) in
    inr (ap (λ (n : Node). is_bare (first n)) (sym e) ∙ b)
told_made (Err d) x v xs b h = absurd cc

told_behind : (b c : Bool) (o : Read) (x v : Node) (us xs : List Token) → is_bare x ≡ b → (cond (b && c) o (Ok (none, us)) >>= λ y. Ok (pair x y.0, y.1)) ≡ Ok (v, xs) → Named v
told_behind true c o x v us xs b h = told_made (cond c o (Ok (none, us))) x v xs b h
told_behind false c o x v us xs b h =
    let e : pair x none ≡ v = ap (λ (z : Node × List Token). z.0) (same_parts (pair x none, us) (v, xs) h) in
    inl (ap second (sym e))

told : (o : Read) (k : List Token → Read) (v : Node) (xs : List Token)
    → (o >>= λ x. cond (is_bare x.0 && begins (starts behind_arrow) x.1) (k x.1) (Ok (none, x.1)) >>= λ y. Ok (pair x.0 y.0, y.1)) ≡ Ok (v, xs) → Named v
told (Ok x) k v xs h = told_behind (is_bare x.0) (begins (starts behind_arrow) x.1) (k x.1) x.0 v x.1 xs refl h
told (Err d) k v xs h = absurd cc

kept_named : (v : Node) → Named v → kept (association_of (first v) (second v)) ≡ association_of (first (kept v)) (second (kept v))
kept_named v h = kept_association (first v) (second v) h ∙ ap (λ (n : Node). association_of n (kept (second v))) (kept_first v) ∙ ap (λ (n : Node). association_of (first (kept v)) n) (kept_second v)

pub associating : {p q r : Parser} {a b : Node} → Reads expression none p a q → Reads (when is_bare behind_arrow) a q b r → Reads association none p (association_of a b) r
unfolding association
associating {p} {q} {r} {a} {b} h k =
    making_where Named (λ v. association_of (first v) (second v)) (λ left ts xs v e. told (read left expression none ts) (read left behind_arrow none) v xs e) kept_named
    (inside (λ e. e) (same_arrow a) h k)

-- the identifier in front of an arrow
pub bare_is : (v : Node) (name : Option Identifier) → MatchOption name (is_bare v ≡ false) (λ i. is_bare v ≡ true → identifier_node i ≡ bare_of v) → is_bare v ≡ true → named_node name ≡ bare_of v
bare_is v None h b = absurd (let clash = sym b ∙ h in absurd cc)
bare_is v (Some i) h b = h b

-- ---- names as expressions

row_is_none : (xs : List (Suffix (Expression Identifier))) → is_none (row_of (map (suffix_node view) xs)) ≡ (length xs == 0)
row_is_none [] = search rules
row_is_none (x ∷ xs) = search rules

pub name_is_bare : (p : Span) (n : Name Identifier (Expression Identifier)) → is_bare (view (e.Name p n)) ≡ (length n.suffixes == 0)
name_is_bare p n = ap is_bare (view_name p n) ∙ row_is_none n.suffixes

pub name_bare_of : (p : Span) (n : Name Identifier (Expression Identifier)) → identifier_node n.first ≡ bare_of (view (e.Name p n))
name_bare_of p n = ap bare_of (sym (view_name p n))
