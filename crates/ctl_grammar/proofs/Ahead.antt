-- Looking ahead: forms that are read alike whatever may be opened, and reading step by step.
use Rattle.std.proofs.Common.{◌≡◌, ℕ, zero, suc, Bool, true, false, cond, List, [], ◌∷◌, length, Ok, Err, refl, ap, subst, ◌∙◌}
use Rattle.std.specs.Prelude.{◌&&◌}
use Rattle.ctl_tree.specs.declared.token.Kind.{Kind}
use Rattle.ctl_tree.specs.declared.token.Token.{Token}
use Rattle.ctl_grammar.specs.declared.refused.Reason.TheVariants.{Unexpected}
use Rattle.ctl_grammar.specs.Kind.{same_kind}
use Rattle.ctl_grammar.specs.Form.{Node, none, pair, Nest, Form, word, keep, tested, empty, seq, within, alt, when, many, act, late, nest, can_be_empty, starts, Rules, no_rule}
use Rattle.ctl_grammar.specs.Reading.{Read, ◌>>=◌, token_at, begins, both, repeat, all_of, nowhere, reader}
use Rattle.ctl_grammar.proofs.Starts.{and_left, and_right, Opens, derives_opens, begins_with}
use Rattle.ctl_grammar.proofs.Sound.{bind_ok, reader_sound, allows_same}
use Rattle.ctl_grammar.proofs.Moved.{Deep}

-- no rule of names, no construct, no place that is moved
abbrev pub is_simple : Form → Bool
is_simple (word k) = true
is_simple (keep k) = true
is_simple (tested k test rule) = false
is_simple empty = true
is_simple (seq f g) = is_simple f && is_simple g
is_simple (within f pick g) = is_simple f && is_simple g
is_simple (alt f g) = is_simple f && is_simple g
is_simple (when test f) = is_simple f
is_simple (many f) = is_simple f
is_simple (act make f) = is_simple f
is_simple (late head f) = false
is_simple (nest n) = false

-- ---- what is simple is read alike by all readers

bind_each : (g h : Node × List Token → Read) → ((x : Node × List Token) → g x ≡ h x) → (o : Read) → (o >>= g) ≡ (o >>= h)
bind_each g h k (Ok x) = k x
bind_each g h k (Err e) = refl

bind_same : (o p : Read) (g h : Node × List Token → Read) → o ≡ p → ((x : Node × List Token) → g x ≡ h x) → (o >>= g) ≡ (p >>= h)
bind_same o p g h e k = bind_each g h k o ∙ ap (λ (z : Read). z >>= h) e

cond_same : (b : Bool) (o p o' p' : Read) → o ≡ p → o' ≡ p' → cond b o o' ≡ cond b p p'
cond_same true o p o' p' h k = h
cond_same false o p o' p' h k = k

-- the same is read everywhere
abbrev Same : (List Token → Read) → (List Token → Read) → Type 0
Same r s = (ts : List Token) → r ts ≡ s ts

both_same : (r r' : List Token → Read) (s s' : Node → List Token → Read) → Same r r' → ((a : Node) → Same (s a) (s' a)) → Same (both r s) (both r' s')
both_same r r' s s' h k ts =
    bind_same (r ts) (r' ts) (λ x. s x.0 x.1 >>= λ y. Ok (pair x.0 y.0, y.1)) (λ x. s' x.0 x.1 >>= λ y. Ok (pair x.0 y.0, y.1)) (h ts) (λ x.
    bind_same (s x.0 x.1) (s' x.0 x.1) (λ y. Ok (pair x.0 y.0, y.1)) (λ y. Ok (pair x.0 y.0, y.1)) (k x.0 x.1) (λ y. refl))

repeat_same : (go : List Token → Bool) (r s : List Token → Read) → Same r s → (n : ℕ) → Same (repeat go r n) (repeat go s n)
repeat_same go r s h zero ts = refl
repeat_same go r s h (suc n) ts =
    let more = repeat_same go r s h n in
    cond_same (go ts) (r ts >>= λ x. repeat go r n x.1 >>= λ y. Ok (pair x.0 y.0, y.1)) (s ts >>= λ x. repeat go s n x.1 >>= λ y. Ok (pair x.0 y.0, y.1)) (Ok (none, ts)) (Ok (none, ts))
    (bind_same (r ts) (s ts) (λ x. repeat go r n x.1 >>= λ y. Ok (pair x.0 y.0, y.1)) (λ x. repeat go s n x.1 >>= λ y. Ok (pair x.0 y.0, y.1)) (h ts) (λ x.
    bind_same (repeat go r n x.1) (repeat go s n x.1) (λ y. Ok (pair x.0 y.0, y.1)) (λ y. Ok (pair x.0 y.0, y.1)) (more x.1) (λ y. refl)))
    refl

pub simple_same : (c : Rules) (m : Bool) (d : Rules) (n : Bool) (i j : Nest → Node → List Token → Read) (f : Form) → is_simple f ≡ true → (env : Node) (ts : List Token) → reader c m i f env ts ≡ reader d n j f env ts
unfolding all_of
simple_same c m d n i j (word k) h env ts = refl
simple_same c m d n i j (keep k) h env ts = refl
simple_same c m d n i j (tested k test rule) h env ts = absurd cc
simple_same c m d n i j empty h env ts = refl
simple_same c m d n i j (seq f g) h env ts =
    both_same (reader c m i f env) (reader d n j f env) (λ a. reader c m i g env) (λ a. reader d n j g env)
    (simple_same c m d n i j f (and_left (is_simple f) (is_simple g) h) env) (λ a. simple_same c m d n i j g (and_right (is_simple f) (is_simple g) h) env) ts
simple_same c m d n i j (within f pick g) h env ts =
    both_same (reader c m i f env) (reader d n j f env) (λ a. reader c m i g (pick a)) (λ a. reader d n j g (pick a))
    (simple_same c m d n i j f (and_left (is_simple f) (is_simple g) h) env) (λ a. simple_same c m d n i j g (and_right (is_simple f) (is_simple g) h) (pick a)) ts
simple_same c m d n i j (alt f g) h env ts =
    cond_same (begins (starts f) ts) (reader c m i f env ts) (reader d n j f env ts) (reader c m i g env ts) (reader d n j g env ts)
    (simple_same c m d n i j f (and_left (is_simple f) (is_simple g) h) env ts) (simple_same c m d n i j g (and_right (is_simple f) (is_simple g) h) env ts)
simple_same c m d n i j (when test f) h env ts =
    cond_same (test env && begins (starts f) ts) (reader c m i f env ts) (reader d n j f env ts) (Ok (none, ts)) (Ok (none, ts)) (simple_same c m d n i j f h env ts) refl
simple_same c m d n i j (many f) h env ts = repeat_same (begins (starts f)) (reader c m i f env) (reader d n j f env) (simple_same c m d n i j f h env) (length ts) ts
simple_same c m d n i j (act make f) h env ts =
    bind_same (reader c m i f env ts) (reader d n j f env ts) (λ x. Ok (make x.0, x.1)) (λ x. Ok (make x.0, x.1)) (simple_same c m d n i j f h env ts) (λ x. refl)
simple_same c m d n i j (late head f) h env ts = absurd cc
simple_same c m d n i j (nest k) h env ts = absurd cc

-- ---- reading ahead

-- a form that is read ahead
abbrev pub ahead : Form → List Token → Read
ahead f ts = reader no_rule false nowhere f none ts

-- two parts that were read: what each left
pub ahead_seq : (f g : Form) (ts : List Token) (y : Node × List Token) → ahead (seq f g) ts ≡ Ok y → (a : Node × List Token) × (b : Node × List Token) × (ahead f ts ≡ Ok a) × (ahead g a.1 ≡ Ok b) × (b.1 ≡ y.1)
ahead_seq f g ts y e =
    let p = bind_ok (ahead f ts) (λ x. ahead g x.1 >>= λ z. Ok (pair x.0 z.0, z.1)) y e in
    let q = bind_ok (ahead g p.0.1) (λ z. Ok (pair p.0.0 z.0, z.1)) y p.2 in
    let pairs : (x z : Node × List Token) → (let o : Read = Ok x in o) ≡ Ok z → x ≡ z = λ x z h. cc in
    (p.0, q.0, p.1, q.1, ap (λ (x : Node × List Token). x.1) (pairs (pair p.0.0 q.0.0, q.0.1) y q.2))

pub ahead_act : (make : Node → Node) (f : Form) (ts : List Token) (y : Node × List Token) → ahead (act make f) ts ≡ Ok y → (a : Node × List Token) × (ahead f ts ≡ Ok a) × (a.1 ≡ y.1)
ahead_act make f ts y e =
    let p = bind_ok (ahead f ts) (λ x. Ok (make x.0, x.1)) y e in
    let pairs : (x z : Node × List Token) → (let o : Read = Ok x in o) ≡ Ok z → x ≡ z = λ x z h. cc in
    (p.0, p.1, ap (λ (x : Node × List Token). x.1) (pairs (make p.0.0, p.0.1) y p.2))

-- what was read ahead begins with one of the form's first tokens
pub ahead_begins : (f : Form) → can_be_empty f ≡ false → (ts : List Token) (y : Node × List Token) → ahead f ts ≡ Ok y → begins (starts f) ts ≡ true
ahead_begins f some ts y e =
    let I : Nest → Node → Node → List Token → Type 0 = λ n env v us. ⊥ in
    let p = reader_sound no_rule no_rule false (allows_same no_rule) nowhere I (λ n env us v rest h. absurd cc) f none ts y.0 y.1 e in
    let opens : Opens false (starts f) p.text = subst (λ (b : Bool). Opens b (starts f) p.text) some (derives_opens no_rule I (λ n env v us h. absurd h) f none y.0 p.text p.is) in
    ap (begins (starts f)) p.parts ∙ begins_with (starts f) p.text y.1 opens

-- a token that was read may be kept or not
pub kept : (k : Kind) (make : Token → Node) (ts : List Token) (a : Node × List Token) → token_at k (λ t. none) ts ≡ Ok a → (v : Node) × (token_at k make ts ≡ Ok (v, a.1))
kept k make [] a e = absurd cc
kept k make (t ∷ ts) a e =
    let pairs : (x z : Node × List Token) → (let o : Read = Ok x in o) ≡ Ok z → x ≡ z = λ x z h. cc in
    let split : (b : Bool) → cond b (let o : Read = Ok (none, ts) in o) (Err (Unexpected, t ∷ ts)) ≡ Ok a → (v : Node) × (cond b (let o : Read = Ok (make t, ts) in o) (Err (Unexpected, t ∷ ts)) ≡ Ok (v, a.1)) = elim [
      | true ↦ λ h. (make t, ap (λ (x : Node × List Token). Ok (make t, x.1)) (pairs (none, ts) a h))
      | false ↦ λ h. absurd cc
    ] in split (same_kind k t.kind) e

-- ---- where too much is opened

pub deep_bind : (o : Read) (g : Node × List Token → Read) → Deep o → Deep (o >>= g)
deep_bind o g d = (d.0, ap (λ (z : Read). z >>= g) d.1)

pub deep_then : (o : Read) (g : Node × List Token → Read) (x : Node × List Token) → o ≡ Ok x → Deep (g x) → Deep (o >>= g)
deep_then o g x e d = (d.0, ap (λ (z : Read). z >>= g) e ∙ d.1)
