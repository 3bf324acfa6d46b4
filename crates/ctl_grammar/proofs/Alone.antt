-- A name that breaks a rule goes on with a program where no rule counts.
use Rattle.std.proofs.Common.{◌≡◌, ℕ, zero, suc, ◌+◌, Bool, true, false, cond, List, [], ◌∷◌, ◌++◌, refl, sym, ap, subst, ◌∙◌, append_assoc, inl, inr}
use Rattle.std.specs.Prelude.{◌&&◌}
use Rattle.std.proofs.lemmas.List.{append-nil}
use Rattle.ctl_tree.specs.declared.token.Token.{Token}
use Rattle.ctl_grammar.specs.declared.refused.Reason.{Reason}
use Rattle.ctl_grammar.specs.declared.refused.Reason.TheVariants.{TooDeep}
use Rattle.ctl_grammar.specs.Form.{Node, none, leaf, num, written, at, pair, tag, Nest, every_rule, no_rule, Form, word, keep, tested, empty, seq, within, alt, when, many, act, late, nest}
use Rattle.ctl_grammar.specs.Grammar.{body}
use Rattle.ctl_grammar.specs.Reading.{is_too_deep, starts_too_deep}
use Rattle.ctl_grammar.specs.Derivation.{Row, Derives, Construct, AnyConstruct}
use Rattle.ctl_grammar.specs.Breaks.{Breaks, BreaksConstruct}
use Rattle.ctl_grammar.proofs.Sound.{allows_more}
use Rattle.ctl_grammar.proofs.Extends.{Sample, SampleAll, sample, free}
use Rattle.ctl_grammar.proofs.Deeper.{derives_within, construct_within, gather}

-- the tokens up to the first of `place` begin a text, with that token
pub record WithNext (P : Node → List Token → Type 0) (ts place : List Token) : Type 0 where
  pub front : List Token
  pub next : Token
  pub rest : List Token
  pub more : List Token
  pub node : Node
  pub parts : ts ≡ front ++ next ∷ rest
  pub here : place ≡ next ∷ rest
  pub is : P node (front ++ next ∷ more)

abbrev pub Plainly : Form → Node → Node → List Token → Type 0
Plainly f env = Derives no_rule (AnyConstruct no_rule) f env

-- what is derived with the rules and within the depth is derived without
loosely : (left : ℕ) (f : Form) (env v : Node) (ts : List Token) → Derives every_rule (Construct every_rule left) f env v ts → Plainly f env v ts
loosely left f env v ts p =
    derives_within every_rule no_rule (allows_more every_rule) (Construct every_rule left) (AnyConstruct no_rule) (λ n e w us q. (left + 0, construct_within every_rule no_rule (allows_more every_rule) left 0 n e w us q)) f env v ts p

row_loosely : (left : ℕ) (f : Form) (env v : Node) (ts : List Token) → Row (Derives every_rule (Construct every_rule left) f env) v ts → Row (Plainly f env) v ts
row_loosely left f env v ts p = loosely left (many f) env v ts p

changed : (P Q : Node → List Token → Type 0) → (make : Node → Node) → ((v : Node) (us : List Token) → P v us → Q (make v) us) → (ts place : List Token) → WithNext P ts place → WithNext Q ts place
changed P Q make h ts place p = record { front = p.front; next = p.next; rest = p.rest; more = p.more; node = make p.node; parts = p.parts; here = p.here; is = h p.node (p.front ++ p.next ∷ p.more) p.is }

-- a further part behind
part_behind : (P : Node → List Token → Type 0) (Q : Node → Node → List Token → Type 0) (R : Node → List Token → Type 0) → ((a : Node) → Sample (Q a)) → ((a b : Node) (x y : List Token) → P a x → Q a b y → R (pair a b) (x ++ y))
    → (ts place : List Token) → WithNext P ts place → WithNext R ts place
part_behind P Q R samples made ts place p =
    let q = samples p.node in
    let whole : (p.front ++ p.next ∷ p.more) ++ q.text ≡ p.front ++ p.next ∷ (p.more ++ q.text) = append_assoc p.front (p.next ∷ p.more) q.text in
    record {
      front = p.front;
      next = p.next;
      rest = p.rest;
      more = p.more ++ q.text;
      node = pair p.node q.node;
      parts = p.parts;
      here = p.here;
      is = subst (λ (us : List Token). R (pair p.node q.node) us) whole (made p.node q.node (p.front ++ p.next ∷ p.more) q.text p.is q.is);
    }

-- a part before
part_before : (Q R : Node → List Token → Type 0) (make : Node → Node) (x ts y place : List Token) → ts ≡ x ++ y → ((b : Node) (us : List Token) → Q b us → R (make b) (x ++ us)) → WithNext Q y place → WithNext R ts place
part_before Q R make x ts y place parts made q =
    let whole : ts ≡ (x ++ q.front) ++ q.next ∷ q.rest = parts ∙ ap (λ (us : List Token). x ++ us) q.parts ∙ sym (append_assoc x q.front (q.next ∷ q.rest)) in
    record {
      front = x ++ q.front;
      next = q.next;
      rest = q.rest;
      more = q.more;
      node = make q.node;
      parts = whole;
      here = q.here;
      is = subst (λ (us : List Token). R (make q.node) us) (sym (append_assoc x q.front (q.next ∷ q.more))) (made q.node (q.front ++ q.next ∷ q.more) q.is);
    }

-- one more behind a row
abbrev behind_row : Node → Node → Node
behind_row none v = pair v none
behind_row (pair a b) v = pair a (behind_row b v)
behind_row (leaf t) v = v
behind_row (num n) v = v
behind_row (written s) v = v
behind_row (at q) v = v
behind_row (tag n w) v = v

row_behind : (P : Node → List Token → Type 0) (row v : Node) (x y : List Token) → Row P row x → P v y → Row P (behind_row row v) (x ++ y)
row_behind P none v x y p q = (y, [], ap (λ (us : List Token). us ++ y) p ∙ sym (append-nil y), q, refl)
row_behind P (pair a b) v x y p q = (p.0, p.1 ++ y, ap (λ (us : List Token). us ++ y) p.2 ∙ append_assoc p.0 p.1 y, p.3, row_behind P b v p.1 y p.4 q)
row_behind P (leaf t) v x y p q = absurd p
row_behind P (num n) v x y p q = absurd p
row_behind P (written s) v x y p q = absurd p
row_behind P (at r) v x y p q = absurd p
row_behind P (tag n w) v x y p q = absurd p

and_false : (b : Bool) → (b && false) ≡ false
and_false true = refl
and_false false = refl

abbrev WithNextAll : (Nest → Node → List Token → List Token → Type 0) → Type 0
WithNextAll B = (n : Nest) (env : Node) (ts place : List Token) → B n env ts place → WithNext (AnyConstruct no_rule n env) ts place

form_with_next : (reason : Reason) → is_too_deep reason ≡ false → SampleAll (AnyConstruct no_rule) → (left : ℕ) (B : Nest → Node → List Token → List Token → Type 0) → WithNextAll B
    → (f : Form) (env : Node) (ts place : List Token) → Breaks reason left B f env ts place → WithNext (Plainly f env) ts place
form_with_next reason shallow samples left B h (word k) env ts place p = absurd p
form_with_next reason shallow samples left B h (keep k) env ts place p = absurd p
form_with_next reason shallow samples left B h (tested k test rule) env ts place p =
    record { front = []; next = p.0; rest = p.1; more = []; node = leaf p.0; parts = p.2; here = p.6 ∙ p.2; is = (p.0, p.3, refl, refl, free (test env p.0)) }
form_with_next reason shallow samples left B h empty env ts place p = absurd p
form_with_next reason shallow samples left B h (seq f g) env ts place p = elim p [
  | inl b ↦
      part_behind (Plainly f env) (λ a. Plainly g env) (Plainly (seq f g) env) (λ a. sample (AnyConstruct no_rule) samples g env) (λ a b x y d e. (x, y, refl, d, e)) ts place
      (form_with_next reason shallow samples left B h f env ts place b)
  | inr q ↦
      part_before (Plainly g env) (Plainly (seq f g) env) (λ b. pair q.0 b) q.1 ts q.2 place q.3 (λ b us d. (q.1, us, refl, loosely left f env q.0 q.1 q.4, d)) (form_with_next reason shallow samples left B h g env q.2 place q.5)
]
form_with_next reason shallow samples left B h (within f pick g) env ts place p = elim p [
  | inl b ↦
      part_behind (Plainly f env) (λ a. Plainly g (pick a)) (Plainly (within f pick g) env) (λ a. sample (AnyConstruct no_rule) samples g (pick a)) (λ a b x y d e. (x, y, refl, d, e)) ts place
      (form_with_next reason shallow samples left B h f env ts place b)
  | inr q ↦
      part_before (Plainly g (pick q.0)) (Plainly (within f pick g) env) (λ b. pair q.0 b) q.1 ts q.2 place q.3 (λ b us d. (q.1, us, refl, loosely left f env q.0 q.1 q.4, d))
      (form_with_next reason shallow samples left B h g (pick q.0) q.2 place q.5)
]
form_with_next reason shallow samples left B h (alt f g) env ts place p = elim p [
  | inl b ↦ changed (Plainly f env) (Plainly (alt f g) env) (λ v. v) (λ v us d. inl d) ts place (form_with_next reason shallow samples left B h f env ts place b)
  | inr b ↦ changed (Plainly g env) (Plainly (alt f g) env) (λ v. v) (λ v us d. inr d) ts place (form_with_next reason shallow samples left B h g env ts place b)
]
form_with_next reason shallow samples left B h (when test f) env ts place p =
    changed (Plainly f env) (Plainly (when test f) env) (λ v. v) (λ v us d. inl (p.0, d)) ts place (form_with_next reason shallow samples left B h f env ts place p.1)
form_with_next reason shallow samples left B h (many f) env ts place p =
    part_before (Plainly f env) (Plainly (many f) env) (behind_row p.0) p.1 ts p.2 place p.3 (λ b us d. row_behind (Plainly f env) p.0 b p.1 us (row_loosely left f env p.0 p.1 p.4) d)
    (form_with_next reason shallow samples left B h f env p.2 place p.5)
form_with_next reason shallow samples left B h (act make f) env ts place p =
    changed (Plainly f env) (Plainly (act make f) env) make (λ v us d. (v, refl, d)) ts place (form_with_next reason shallow samples left B h f env ts place p)
form_with_next reason shallow samples left B h (late head f) env ts place p =
    let same : place ≡ p.0 = p.2 ∙ ap (λ (b : Bool). cond (starts_too_deep left head ts && b) ts p.0) shallow ∙ ap (λ (b : Bool). cond b ts p.0) (and_false (starts_too_deep left head ts)) in
    subst (λ (us : List Token). WithNext (Plainly (late head f) env) ts us) (sym same)
    (changed (Plainly f env) (Plainly (late head f) env) (λ v. v) (λ v us d. d) ts p.0 (form_with_next reason shallow samples left B h f env ts p.0 p.1))
form_with_next reason shallow samples left B h (nest n) env ts place p = h n env ts place p

construct_with_next : (reason : Reason) → is_too_deep reason ≡ false → SampleAll (AnyConstruct no_rule) → (left : ℕ) → WithNextAll (BreaksConstruct reason left)
construct_with_next reason shallow samples zero n env ts place p =
    let wrong : is_too_deep TooDeep ≡ false = subst (λ (r : Reason). is_too_deep r ≡ false) p.1 shallow in
    absurd cc
construct_with_next reason shallow samples (suc left) n env ts place p =
    changed (Plainly (body n) env) (AnyConstruct no_rule n env) (λ v. v) (λ v us d.
    let q = gather no_rule (body n) env v us d in
    (suc q.0, q.1)) ts place (form_with_next reason shallow samples left (BreaksConstruct reason left) (construct_with_next reason shallow samples left) (body n) env ts place p)

-- with the token that breaks a rule of names the tokens begin a text where no rule counts
pub with_next : (reason : Reason) → is_too_deep reason ≡ false → SampleAll (AnyConstruct no_rule) → (left : ℕ) (f : Form) (env : Node) (ts place : List Token) → Breaks reason left (BreaksConstruct reason left) f env ts place → WithNext (Plainly f env) ts place
with_next reason shallow samples left f env ts place p = form_with_next reason shallow samples left (BreaksConstruct reason left) (construct_with_next reason shallow samples left) f env ts place p
