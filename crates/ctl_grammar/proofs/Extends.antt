-- What stands before a fault can go on to a whole text of the grammar alone: at any depth, and whatever the rules of names say.
use Rattle.std.proofs.Common.{◌≡◌, ℕ, zero, suc, Bool, true, false, cond, List, [], ◌∷◌, ◌++◌, length, Ok, Err, refl, sym, ap, ◌∙◌, ◌⊎◌, eq-eqb, append_assoc, inl, inr}
use Rattle.std.specs.Prelude.{◌&&◌, ◌||◌, not}
use Rattle.ctl_tree.specs.declared.token.Kind.{Kind}
use Rattle.ctl_tree.specs.declared.token.Token.{Token}
use Rattle.ctl_grammar.specs.declared.refused.Reason.{Reason}
use Rattle.ctl_grammar.specs.declared.refused.Reason.TheVariants.{Unexpected, TooDeep}
use Rattle.ctl_grammar.specs.Kind.{code, same_kind}
use Rattle.ctl_grammar.specs.Form.{Node, none, leaf, num, written, at, pair, tag, Nest, Rule, Form, word, keep, tested, empty, seq, within, alt, when, many, act, late, nest, starts, nest_starts, Rules, no_rule}
use Rattle.ctl_grammar.specs.Grammar.{body}
use Rattle.ctl_grammar.specs.Reading.{Read, ◌>>=◌, broken, token_at, tested_at, begins, both, repeat, all_of, reader, construct}
use Rattle.ctl_grammar.specs.Derivation.{Row, Both, Derives, AnyConstruct}
use Rattle.ctl_grammar.proofs.Sound.{Sound, SoundAll, failed, allows_more, reader_sound, construct_sound}
use Rattle.ctl_grammar.proofs.Again.{from_here_same}
use Rattle.ctl_grammar.proofs.Deeper.{gather}

-- a text
pub record Sample (P : Node → List Token → Type 0) : Type 0 where
  pub node : Node
  pub text : List Token
  pub is : P node text

-- what stands before the fault begins a text
pub record Extendable (P : Node → List Token → Type 0) (ts rest : List Token) : Type 0 where
  pub front : List Token
  pub more : List Token
  pub node : Node
  pub parts : ts ≡ front ++ rest
  pub is : P node (front ++ more)

abbrev pub Extends : (Node → List Token → Type 0) → (List Token → Read) → Type 0
Extends P r = (ts : List Token) (f : Reason) (rest : List Token) → r ts ≡ Err (f, rest) → Extendable P ts rest

unfoldable pub token_of : Kind → Token
token_of k = record { kind = k; span = record { line = 1; column = 1 }; text = []; value = 0 }

same_kind_self : (k : Kind) → same_kind k k ≡ true
same_kind_self k = eq-eqb (code k) (code k) refl

pub free : (b : Bool) → (b || not false) ≡ true
free true = refl
free false = refl

pub err_place : (r : Read) (f : Node × List Token → Read) (e : Reason × List Token) → (r >>= f) ≡ Err e → (r ≡ Err e) ⊎ ((x : Node × List Token) × (r ≡ Ok x) × (f x ≡ Err e))
err_place (Ok x) f e h = inr (x, refl, h)
err_place (Err d) f e h = inl h

abbrev pub SampleAll : (Nest → Node → Node → List Token → Type 0) → Type 0
SampleAll I = (n : Nest) (env : Node) → Sample (I n env)

pub sample : (I : Nest → Node → Node → List Token → Type 0) → SampleAll I → (f : Form) (env : Node) → Sample (Derives no_rule I f env)
unfolding token_of
sample I h (word k) env = record { node = none; text = token_of k ∷ []; is = (token_of k, same_kind_self k, refl, refl) }
sample I h (keep k) env = record { node = leaf (token_of k); text = token_of k ∷ []; is = (token_of k, same_kind_self k, refl, refl) }
sample I h (tested k test rule) env = record { node = leaf (token_of k); text = token_of k ∷ []; is = (token_of k, same_kind_self k, refl, refl, free (test env (token_of k))) }
sample I h empty env = record { node = none; text = []; is = (refl, refl) }
sample I h (seq f g) env = let a = sample I h f env in let b = sample I h g env in record { node = pair a.node b.node; text = a.text ++ b.text; is = (a.text, b.text, refl, a.is, b.is) }
sample I h (within f pick g) env = let a = sample I h f env in let b = sample I h g (pick a.node) in record { node = pair a.node b.node; text = a.text ++ b.text; is = (a.text, b.text, refl, a.is, b.is) }
sample I h (alt f g) env = let b = sample I h g env in record { node = b.node; text = b.text; is = inr b.is }
sample I h (when test f) env = record { node = none; text = []; is = inr (refl, refl) }
sample I h (many f) env = record { node = none; text = []; is = refl }
sample I h (act make f) env = let b = sample I h f env in record { node = make b.node; text = b.text; is = (b.node, refl, b.is) }
sample I h (late head f) env = let b = sample I h f env in record { node = b.node; text = b.text; is = b.is }
sample I h (nest n) env = h n env

err_is : (e d : Reason × List Token) → failed e.0 e.1 ≡ failed d.0 d.1 → e ≡ d
err_is e d h = cc

at_once : (P : Node → List Token → Type 0) → Sample P → (ts : List Token) (e : Reason) (f : Reason) (rest : List Token) → failed e ts ≡ failed f rest → Extendable P ts rest
at_once P s ts e f rest h =
    let same : ts ≡ rest = ap (λ (d : Reason × List Token). d.1) (err_is (e, ts) (f, rest) h) in
    record { front = []; more = s.text; node = s.node; parts = same; is = s.is }

token_extends : (P : Node → List Token → Type 0) → Sample P → (k : Kind) (make : Token → Node) → Extends P (token_at k make)
token_extends P s k make [] f rest h = at_once P s [] Unexpected f rest h
token_extends P s k make (t ∷ ts) f rest h =
    let go : (b : Bool) → cond {A = Read} b (Ok (make t, ts)) (Err (Unexpected, t ∷ ts)) ≡ Err (f, rest) → Extendable P (t ∷ ts) rest = elim [
      | true ↦ λ e. absurd cc
      | false ↦ λ e. at_once P s (t ∷ ts) Unexpected f rest e
    ] in go (same_kind k t.kind) h

tested_extends : (P : Node → List Token → Type 0) → Sample P → (c : Rules) (k : Kind) (test : Token → Bool) (rule : Rule) → Extends P (tested_at c k test rule)
tested_extends P s c k test rule [] f rest h = at_once P s [] Unexpected f rest h
tested_extends P s c k test rule (t ∷ ts) f rest h =
    let allowed : (b : Bool) → cond {A = Read} b (Ok (leaf t, ts)) (Err (broken rule, t ∷ ts)) ≡ Err (f, rest) → Extendable P (t ∷ ts) rest = elim [
      | true ↦ λ e. absurd cc
      | false ↦ λ e. at_once P s (t ∷ ts) (broken rule) f rest e
    ] in
    let go : (b : Bool) → cond {A = Read} b (cond (test t || not (c rule)) (Ok (leaf t, ts)) (Err (broken rule, t ∷ ts))) (Err (Unexpected, t ∷ ts)) ≡ Err (f, rest) → Extendable P (t ∷ ts) rest = elim [
      | true ↦ λ e. allowed (test t || not (c rule)) e
      | false ↦ λ e. at_once P s (t ∷ ts) Unexpected f rest e
    ] in go (same_kind k t.kind) h

-- a fault in the first part, or in the second
both_extends : (P : Node → List Token → Type 0) (Q : Node → Node → List Token → Type 0) (r : List Token → Read) (s : Node → List Token → Read) → Extends P r → Sound P r → ((a : Node) → Extends (Q a) (s a)) → ((a : Node) → Sample (Q a))
    → Extends (Both P Q) (both r s)
both_extends P Q r s hr sr hs sample ts f rest h = elim (err_place (r ts) (λ x. s x.0 x.1 >>= λ y. Ok (pair x.0 y.0, y.1)) (f, rest) h) [
  | inl e ↦
      let p = hr ts f rest e in
      let q = sample p.node in
      record { front = p.front; more = p.more ++ q.text; node = pair p.node q.node; parts = p.parts; is = (p.front ++ p.more, q.text, sym (append_assoc p.front p.more q.text), p.is, q.is) }
  | inr w ↦ elim (err_place (s w.0.0 w.0.1) (λ y. Ok (pair w.0.0 y.0, y.1)) (f, rest) w.2) [
    | inl e ↦
        let p = sr ts w.0.0 w.0.1 w.1 in
        let q = hs w.0.0 w.0.1 f rest e in
        let parts : ts ≡ (p.text ++ q.front) ++ rest = p.parts ∙ ap (λ (us : List Token). p.text ++ us) q.parts ∙ sym (append_assoc p.text q.front rest) in
        record { front = p.text ++ q.front; more = q.more; node = pair w.0.0 q.node; parts = parts; is = (p.text, q.front ++ q.more, append_assoc p.text q.front q.more, p.is, q.is) }
    | inr u ↦ let no = u.2 in absurd cc
  ]
]

weaken : (P Q : Node → List Token → Type 0) → ((v : Node) (us : List Token) → P v us → Q v us) → (ts rest : List Token) → Extendable P ts rest → Extendable Q ts rest
weaken P Q h ts rest p = record { front = p.front; more = p.more; node = p.node; parts = p.parts; is = h p.node (p.front ++ p.more) p.is }

row_more : (P : Node → List Token → Type 0) (v : Node) (us : List Token) → Both P (λ a. Row P) v us → Row P v us
row_more P none us q = absurd q
row_more P (leaf t) us q = q
row_more P (num n) us q = q
row_more P (written s) us q = q
row_more P (at p) us q = q
row_more P (pair a b) us q = q
row_more P (tag n v) us q = q

repeat_extends : (P : Node → List Token → Type 0) (go : List Token → Bool) (r : List Token → Read) → Extends P r → Sound P r → (n : ℕ) → Extends (Row P) (repeat go r n)
repeat_extends P go r hr sr zero ts f rest h = absurd cc
repeat_extends P go r hr sr (suc n) ts f rest h =
    let more = repeat_extends P go r hr sr n in
    let nothing : Sample (Row P) = record { node = none; text = []; is = refl } in
    let split : (b : Bool) → cond {A = Read} b (r ts >>= λ x. repeat go r n x.1 >>= λ y. Ok (pair x.0 y.0, y.1)) (Ok (none, ts)) ≡ Err (f, rest) → Extendable (Row P) ts rest = elim [
      | true ↦ λ e. weaken (Both P (λ a. Row P)) (Row P) (row_more P) ts rest (both_extends P (λ a. Row P) r (λ a. repeat go r n) hr sr (λ a. more) (λ a. nothing) ts f rest e)
      | false ↦ λ e. absurd cc
    ] in split (go ts) h

abbrev pub ExtendsAll : (Nest → Node → Node → List Token → Type 0) → (Nest → Node → List Token → Read) → Type 0
ExtendsAll I inner = (n : Nest) (env : Node) → Extends (I n env) (inner n env)

pub reader_extends : (c : Rules) (inner : Nest → Node → List Token → Read) (I : Nest → Node → Node → List Token → Type 0) → SampleAll I → SoundAll I inner → ExtendsAll I inner → (f : Form) (env : Node) → Extends (Derives no_rule I f env) (reader c false inner f env)
unfolding all_of
reader_extends c inner I hx hs h (word k) env = token_extends (Derives no_rule I (word k) env) (sample I hx (word k) env) k (λ t. none)
reader_extends c inner I hx hs h (keep k) env = token_extends (Derives no_rule I (keep k) env) (sample I hx (keep k) env) k (λ t. leaf t)
reader_extends c inner I hx hs h (tested k test rule) env = tested_extends (Derives no_rule I (tested k test rule) env) (sample I hx (tested k test rule) env) c k (test env) rule
reader_extends c inner I hx hs h empty env = λ ts f rest e. absurd cc
reader_extends c inner I hx hs h (seq f g) env =
    both_extends (Derives no_rule I f env) (λ a. Derives no_rule I g env) (reader c false inner f env) (λ a. reader c false inner g env)
    (reader_extends c inner I hx hs h f env) (reader_sound c no_rule false (allows_more c) inner I hs f env) (λ a. reader_extends c inner I hx hs h g env) (λ a. sample I hx g env)
reader_extends c inner I hx hs h (within f pick g) env =
    both_extends (Derives no_rule I f env) (λ a. Derives no_rule I g (pick a)) (reader c false inner f env) (λ a. reader c false inner g (pick a))
    (reader_extends c inner I hx hs h f env) (reader_sound c no_rule false (allows_more c) inner I hs f env) (λ a. reader_extends c inner I hx hs h g (pick a)) (λ a. sample I hx g (pick a))
reader_extends c inner I hx hs h (alt f g) env = λ ts d rest e.
    let hf = reader_extends c inner I hx hs h f env ts d rest in
    let hg = reader_extends c inner I hx hs h g env ts d rest in
    let split : (b : Bool) → cond {A = Read} b (reader c false inner f env ts) (reader c false inner g env ts) ≡ Err (d, rest) → Extendable (Derives no_rule I (alt f g) env) ts rest = elim [
      | true ↦ λ k. weaken (Derives no_rule I f env) (Derives no_rule I (alt f g) env) (λ v us. inl) ts rest (hf k)
      | false ↦ λ k. weaken (Derives no_rule I g env) (Derives no_rule I (alt f g) env) (λ v us. inr) ts rest (hg k)
    ] in split (begins (starts f) ts) e
reader_extends c inner I hx hs h (when test f) env = λ ts d rest e.
    let hf = reader_extends c inner I hx hs h f env ts d rest in
    let split : (b : Bool) → test env ≡ b → cond {A = Read} (b && begins (starts f) ts) (reader c false inner f env ts) (Ok (none, ts)) ≡ Err (d, rest) → Extendable (Derives no_rule I (when test f) env) ts rest = elim [
      | true ↦ λ is k.
          let go : (b : Bool) → cond {A = Read} b (reader c false inner f env ts) (Ok (none, ts)) ≡ Err (d, rest) → Extendable (Derives no_rule I (when test f) env) ts rest = elim [
            | true ↦ λ k. weaken (Derives no_rule I f env) (Derives no_rule I (when test f) env) (λ v us p. inl (is, p)) ts rest (hf k)
            | false ↦ λ k. absurd cc
          ] in go (begins (starts f) ts) k
      | false ↦ λ is k. absurd cc
    ] in split (test env) refl e
reader_extends c inner I hx hs h (many f) env = λ ts. repeat_extends (Derives no_rule I f env) (begins (starts f)) (reader c false inner f env) (reader_extends c inner I hx hs h f env) (reader_sound c no_rule false (allows_more c) inner I hs f env) (length ts) ts
reader_extends c inner I hx hs h (act make f) env = λ ts d rest e. elim (err_place (reader c false inner f env ts) (λ x. Ok (make x.0, x.1)) (d, rest) e) [
  | inl k ↦ let p = reader_extends c inner I hx hs h f env ts d rest k in record { front = p.front; more = p.more; node = make p.node; parts = p.parts; is = (p.node, refl, p.is) }
  | inr w ↦ let no = w.2 in absurd cc
]
reader_extends c inner I hx hs h (late head f) env = λ ts d rest e.
    reader_extends c inner I hx hs h f env ts d rest (sym (from_here_same ts (reader c false inner f env ts)) ∙ e)
reader_extends c inner I hx hs h (nest n) env = h n env

any_sound : (c : Rules) (left : ℕ) → SoundAll (AnyConstruct no_rule) (construct c false left)
any_sound c left n env ts v rest e = let p = construct_sound c no_rule false (allows_more c) left n env ts v rest e in record { text = p.text; is = (left, p.is); parts = p.parts }

pub construct_extends : (c : Rules) → SampleAll (AnyConstruct no_rule) → (left : ℕ) → ExtendsAll (AnyConstruct no_rule) (construct c false left)
unfolding construct
construct_extends c hx zero n env ts f rest e =
    let split : (b : Bool) → cond {A = Read} b (Err (TooDeep, ts)) (Err (Unexpected, ts)) ≡ Err (f, rest) → Extendable (AnyConstruct no_rule n env) ts rest = elim [
      | true ↦ λ k. at_once (AnyConstruct no_rule n env) (hx n env) ts TooDeep f rest k
      | false ↦ λ k. at_once (AnyConstruct no_rule n env) (hx n env) ts Unexpected f rest k
    ] in split (begins (nest_starts n) ts) e
construct_extends c hx (suc left) n env ts f rest e =
    let inside = reader_extends c (construct c false left) (AnyConstruct no_rule) hx (any_sound c left) (construct_extends c hx left) (body n) env ts f rest in
    let up : (v : Node) (us : List Token) → Derives no_rule (AnyConstruct no_rule) (body n) env v us → AnyConstruct no_rule n env v us = λ v us p. let q = gather no_rule (body n) env v us p in (suc q.0, q.1) in
    let split : (b : Bool) → cond {A = Read} b (reader c false (construct c false left) (body n) env ts) (Err (Unexpected, ts)) ≡ Err (f, rest) → Extendable (AnyConstruct no_rule n env) ts rest = elim [
      | true ↦ λ k. weaken (Derives no_rule (AnyConstruct no_rule) (body n) env) (AnyConstruct no_rule n env) up ts rest (inside k)
      | false ↦ λ k. at_once (AnyConstruct no_rule n env) (hx n env) ts Unexpected f rest k
    ] in split (begins (nest_starts n) ts) e

pub read_extends : (c : Rules) → SampleAll (AnyConstruct no_rule) → (left : ℕ) (f : Form) (env : Node) → Extends (Derives no_rule (AnyConstruct no_rule) f env) (reader c false (construct c false left) f env)
read_extends c hx left f env = reader_extends c (construct c false left) (AnyConstruct no_rule) hx (any_sound c left) (construct_extends c hx left) f env
