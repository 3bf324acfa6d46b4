-- What begins a text, and what may stand behind it.
use Rattle.std.proofs.Common.{◌≡◌, ℕ, Bool, true, false, cond, eqb, List, [], ◌∷◌, ◌++◌, refl, sym, ap, subst, ◌∙◌, inl, inr}
use Rattle.std.specs.Prelude.{◌&&◌, ◌||◌, not}
use Rattle.std.proofs.lemmas.Bool.{eqb-true}
use Rattle.ctl_tree.specs.declared.token.Kind.{Kind}
use Rattle.ctl_tree.specs.declared.token.Token.{Token}
use Rattle.ctl_grammar.specs.Kind.{code, same_kind}
use Rattle.ctl_grammar.specs.Form.{Node, none, leaf, num, written, at, pair, tag, Nest, Form, word, keep, tested, empty, seq, within, alt, when, many, act, late, nest, has, is_apart, can_be_empty, starts, nest_starts, Rules}
use Rattle.ctl_grammar.specs.Reading.{begins}
use Rattle.ctl_grammar.specs.Derivation.{Split, Row, Both, Derives}

pub and_left : (a b : Bool) → (a && b) ≡ true → a ≡ true
and_left true b e = refl
and_left false b e = e

pub and_right : (a b : Bool) → (a && b) ≡ true → b ≡ true
and_right true b e = e
and_right false b e = absurd cc

pub not_true : (a : Bool) → not a ≡ true → a ≡ false
not_true true e = absurd cc
not_true false e = refl

or_left : (a b : Bool) → a ≡ true → (a || b) ≡ true
or_left a b e = rw e refl

or_right : (a b : Bool) → b ≡ true → (a || b) ≡ true
or_right true b e = refl
or_right false b e = e

or_neither_left : (a b : Bool) → (a || b) ≡ false → a ≡ false
or_neither_left true b e = e
or_neither_left false b e = refl

or_neither_right : (a b : Bool) → (a || b) ≡ false → b ≡ false
or_neither_right true b e = absurd cc
or_neither_right false b e = e

or_assoc : (a b c : Bool) → ((a || b) || c) ≡ (a || (b || c))
or_assoc true b c = refl
or_assoc false b c = refl

pub has_append : (k : Kind) (js ks : List Kind) → has k (js ++ ks) ≡ (has k js || has k ks)
has_append k [] ks = refl
has_append k (j ∷ js) ks =
    let more = has_append k js ks in
    ap (λ (b : Bool). same_kind j k || b) more ∙ sym (or_assoc (same_kind j k) (has k js) (has k ks))

has_left : (k : Kind) (js ks : List Kind) → has k js ≡ true → has k (js ++ ks) ≡ true
has_left k js ks e = has_append k js ks ∙ or_left (has k js) (has k ks) e

has_right : (k : Kind) (js ks : List Kind) → has k ks ≡ true → has k (js ++ ks) ≡ true
has_right k js ks e = has_append k js ks ∙ or_right (has k js) (has k ks) e

pub stops_left : (js ks : List Kind) (ts : List Token) → begins (js ++ ks) ts ≡ false → begins js ts ≡ false
stops_left js ks [] e = refl
stops_left js ks (t ∷ ts) e = or_neither_left (has t.kind js) (has t.kind ks) (sym (has_append t.kind js ks) ∙ e)

pub stops_right : (js ks : List Kind) (ts : List Token) → begins (js ++ ks) ts ≡ false → begins ks ts ≡ false
stops_right js ks [] e = refl
stops_right js ks (t ∷ ts) e = or_neither_right (has t.kind js) (has t.kind ks) (sym (has_append t.kind js ks) ∙ e)

pub has_same : (j k : Kind) (ks : List Kind) → same_kind j k ≡ true → has j ks ≡ has k ks
has_same j k [] e = refl
has_same j k (i ∷ ks) e =
    let more = has_same j k ks e in
    let equal : code j ≡ code k = eqb-true (code j) (code k) e in
    let one : same_kind i j ≡ same_kind i k = ap (λ (n : ℕ). eqb (code i) n) equal in
    cc

pub apart_has : (k : Kind) (js ks : List Kind) → is_apart js ks ≡ true → has k js ≡ true → has k ks ≡ false
apart_has k [] ks e h = absurd cc
apart_has k (j ∷ js) ks e h =
    let more = apart_has k js ks (and_right (not (has j ks)) (is_apart js ks) e) in
    let split : (b : Bool) → same_kind j k ≡ b → (b || has k js) ≡ true → has k ks ≡ false = elim [
      | true ↦ λ is l. sym (has_same j k ks is) ∙ not_true (has j ks) (and_left (not (has j ks)) (is_apart js ks) e)
      | false ↦ λ is l. more l
    ] in split (same_kind j k) refl h

-- the parts of what two forms derive
pub both_parts : (P : Node → List Token → Type 0) (Q : Node → Node → List Token → Type 0) (v : Node) (ts : List Token) → Both P Q v ts → (a : Node) × (b : Node) × (v ≡ pair a b) × Split (P a) (Q a b) ts
both_parts P Q (pair a b) ts p = (a, b, refl, p)
both_parts P Q none ts p = absurd p
both_parts P Q (leaf t) ts p = absurd p
both_parts P Q (num n) ts p = absurd p
both_parts P Q (written s) ts p = absurd p
both_parts P Q (at q) ts p = absurd p
both_parts P Q (tag n w) ts p = absurd p

-- a text that may be empty if e holds, and else begins with one of these
abbrev pub Opens : Bool → List Kind → List Token → Type 0
Opens e ks [] = e ≡ true
Opens e ks (t ∷ ts) = has t.kind ks ≡ true

opens_both : (d e : Bool) (js ks : List Kind) (x y : List Token) → Opens d js x → Opens e ks y → Opens (d && e) (js ++ cond d ks []) (x ++ y)
opens_both true e js ks [] [] p q = q
opens_both true e js ks [] (u ∷ y) p q = has_right u.kind js ks q
opens_both false e js ks [] y p q = absurd cc
opens_both d e js ks (t ∷ x) y p q = has_left t.kind js (cond d ks []) p

opens_left : (d e : Bool) (js ks : List Kind) (x : List Token) → Opens d js x → Opens (d || e) (js ++ ks) x
opens_left d e js ks [] p = or_left d e p
opens_left d e js ks (t ∷ x) p = has_left t.kind js ks p

opens_right : (d e : Bool) (js ks : List Kind) (x : List Token) → Opens e ks x → Opens (d || e) (js ++ ks) x
opens_right d e js ks [] p = or_right d e p
opens_right d e js ks (t ∷ x) p = has_right t.kind js ks p

opens_any : (e : Bool) (ks : List Kind) (x : List Token) → Opens e ks x → Opens true ks x
opens_any e ks [] p = refl
opens_any e ks (t ∷ x) p = p

opens_at : (e : Bool) (ks : List Kind) (x y : List Token) → x ≡ y → Opens e ks y → Opens e ks x
opens_at e ks x y same p = subst (λ (us : List Token). Opens e ks us) (sym same) p

pub row_opens : (P : Node → List Token → Type 0) (e : Bool) (ks : List Kind) → ((v : Node) (x : List Token) → P v x → Opens e ks x) → (v : Node) (x : List Token) → Row P v x → Opens true ks x
row_opens P e ks h none x p = opens_at true ks x [] p refl
row_opens P e ks h (pair a b) x p =
    let more = row_opens P e ks h b p.1 p.4 in
    let split : (y : List Token) → Opens e ks y → Opens true ks (y ++ p.1) = elim [ [] ↦ λ q. more | t ∷ y ↦ λ q. q ] in
    opens_at true ks x (p.0 ++ p.1) p.2 (split p.0 (h a p.0 p.3))
row_opens P e ks h (leaf t) x p = absurd p
row_opens P e ks h (num n) x p = absurd p
row_opens P e ks h (written s) x p = absurd p
row_opens P e ks h (at q) x p = absurd p
row_opens P e ks h (tag n v) x p = absurd p

abbrev pub OpensAll : (Nest → Node → Node → List Token → Type 0) → Type 0
OpensAll I = (n : Nest) (env v : Node) (x : List Token) → I n env v x → Opens false (nest_starts n) x

one_opens : (k : Kind) (t : Token) (x : List Token) → same_kind k t.kind ≡ true → x ≡ t ∷ [] → Opens false (k ∷ []) x
one_opens k t x is e = opens_at false (k ∷ []) x (t ∷ []) e (rw is refl)

pub derives_opens : (c : Rules) (I : Nest → Node → Node → List Token → Type 0) → OpensAll I → (f : Form) (env v : Node) (x : List Token) → Derives c I f env v x → Opens (can_be_empty f) (starts f) x
derives_opens c I h (word k) env v x p = one_opens k p.0 x p.1 p.2
derives_opens c I h (keep k) env v x p = one_opens k p.0 x p.1 p.2
derives_opens c I h (tested k test rule) env v x p = one_opens k p.0 x p.1 p.2
derives_opens c I h empty env v x p = opens_at true [] x [] p.0 refl
derives_opens c I h (seq f g) env v x p =
    let q = both_parts (Derives c I f env) (λ a. Derives c I g env) v x p in
    let s = q.3 in
    opens_at (can_be_empty (seq f g)) (starts (seq f g)) x (s.0 ++ s.1) s.2
    (opens_both (can_be_empty f) (can_be_empty g) (starts f) (starts g) s.0 s.1 (derives_opens c I h f env q.0 s.0 s.3) (derives_opens c I h g env q.1 s.1 s.4))
derives_opens c I h (within f pick g) env v x p =
    let q = both_parts (Derives c I f env) (λ a. Derives c I g (pick a)) v x p in
    let s = q.3 in
    opens_at (can_be_empty (within f pick g)) (starts (within f pick g)) x (s.0 ++ s.1) s.2
    (opens_both (can_be_empty f) (can_be_empty g) (starts f) (starts g) s.0 s.1 (derives_opens c I h f env q.0 s.0 s.3) (derives_opens c I h g (pick q.0) q.1 s.1 s.4))
derives_opens c I h (alt f g) env v x p = elim p [
  | inl q ↦ opens_left (can_be_empty f) (can_be_empty g) (starts f) (starts g) x (derives_opens c I h f env v x q)
  | inr q ↦ opens_right (can_be_empty f) (can_be_empty g) (starts f) (starts g) x (derives_opens c I h g env v x q)
]
derives_opens c I h (when test f) env v x p = elim p [
  | inl q ↦ opens_any (can_be_empty f) (starts f) x (derives_opens c I h f env v x q.1)
  | inr q ↦ opens_at true (starts f) x [] q.0 refl
]
derives_opens c I h (many f) env v x p = row_opens (Derives c I f env) (can_be_empty f) (starts f) (derives_opens c I h f env) v x p
derives_opens c I h (act make f) env v x p = derives_opens c I h f env p.0 x p.2
derives_opens c I h (late head f) env v x p = derives_opens c I h f env v x p
derives_opens c I h (nest n) env v x p = h n env v x p

-- what stands behind a text with those starts
pub behind : (e : Bool) (ss ks : List Kind) (y rest : List Token) → Opens e ss y → is_apart ss ks ≡ true → (e ≡ true → begins ks rest ≡ false) → begins ks (y ++ rest) ≡ false
behind e ss ks [] rest o apart h = h o
behind e ss ks (u ∷ y) rest o apart h = apart_has u.kind ss ks apart o

pub begins_with : (ss : List Kind) (y rest : List Token) → Opens false ss y → begins ss (y ++ rest) ≡ true
begins_with ss [] rest o = absurd cc
begins_with ss (u ∷ y) rest o = o
