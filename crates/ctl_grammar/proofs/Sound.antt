-- What is read is derived.
use Rattle.std.proofs.Common.{◌≡◌, ℕ, zero, suc, Bool, true, false, cond, List, [], ◌∷◌, ◌++◌, length, Ok, Err, refl, sym, ap, subst, ◌∙◌, append_assoc, inl, inr}
use Rattle.std.specs.Prelude.{◌&&◌, ◌||◌, not}
use Rattle.ctl_tree.specs.declared.token.Kind.{Kind}
use Rattle.ctl_tree.specs.declared.token.Token.{Token}
use Rattle.ctl_grammar.specs.declared.refused.Reason.{Reason}
use Rattle.ctl_grammar.specs.declared.refused.Reason.TheVariants.{Unexpected, TooDeep}
use Rattle.ctl_grammar.specs.Kind.{same_kind}
use Rattle.ctl_grammar.specs.Form.{Node, none, leaf, pair, Nest, Rule, Form, word, keep, tested, empty, seq, within, alt, when, many, act, late, nest, starts, nest_starts, Rules, no_rule}
use Rattle.ctl_grammar.specs.Grammar.{body}
use Rattle.ctl_grammar.specs.Reading.{Read, ◌>>=◌, broken, token_at, tested_at, begins, both, repeat, all_of, from_here, is_read, nowhere, reader, is_zero, construct}
use Rattle.ctl_grammar.specs.Derivation.{Row, Both, Derives, Construct}
use Rattle.ctl_grammar.proofs.Starts.{and_left}

abbrev pub done : Node → List Token → Read
done v ts = Ok (v, ts)

abbrev pub failed : Reason → List Token → Read
failed r ts = Err (r, ts)

-- the value of a step that did not fail
pub bind_ok : (r : Read) (f : Node × List Token → Read) (y : Node × List Token) → (r >>= f) ≡ Ok y → (x : Node × List Token) × (r ≡ Ok x) × (f x ≡ Ok y)
bind_ok (Ok x) f y e = (x, refl, e)
bind_ok (Err d) f y e = absurd cc

ok_is : (x y : Node × List Token) → done x.0 x.1 ≡ done y.0 y.1 → x ≡ y
ok_is x y e = cc

pub ok_value : (v w : Node) (ts us : List Token) → done v ts ≡ done w us → v ≡ w
ok_value v w ts us e = ap (λ (x : Node × List Token). x.0) (ok_is (v, ts) (w, us) e)

pub ok_rest : (v w : Node) (ts us : List Token) → done v ts ≡ done w us → ts ≡ us
ok_rest v w ts us e = ap (λ (x : Node × List Token). x.1) (ok_is (v, ts) (w, us) e)

-- these are the front of the tokens, and the rest is left
pub record Takes (P : List Token → Type 0) (ts rest : List Token) : Type 0 where
  pub text : List Token
  pub is : P text
  pub parts : ts ≡ text ++ rest

-- the same at other values that are equal
pub takes_at : (P : Node → List Token → Type 0) (ts : List Token) (v w : Node) (rest us : List Token) → done v rest ≡ done w us → Takes (P v) ts rest → Takes (P w) ts us
takes_at P ts v w rest us e h =
    subst (λ (u : List Token). Takes (P w) ts u) (ok_rest v w rest us e) (subst (λ (u : Node). Takes (P u) ts rest) (ok_value v w rest us e) h)

weaker : (P Q : List Token → Type 0) (ts rest : List Token) → ((us : List Token) → P us → Q us) → Takes P ts rest → Takes Q ts rest
weaker P Q ts rest f h = record { text = h.text; is = f h.text h.is; parts = h.parts }

abbrev pub Sound : (Node → List Token → Type 0) → (List Token → Read) → Type 0
Sound P r = (ts : List Token) (v : Node) (rest : List Token) → r ts ≡ Ok (v, rest) → Takes (P v) ts rest

abbrev pub SoundAll : (Nest → Node → Node → List Token → Type 0) → (Nest → Node → List Token → Read) → Type 0
SoundAll I inner = (n : Nest) (env : Node) → Sound (I n env) (inner n env)

-- what one reading allows, the other allows
abbrev pub Allows : Rules → Rules → Type 0
Allows c d = (rule : Rule) (b : Bool) → (b || not (c rule)) ≡ true → (b || not (d rule)) ≡ true

pub allows_same : (c : Rules) → Allows c c
allows_same c rule b e = e

pub allows_more : (c : Rules) → Allows c no_rule
allows_more c rule true e = refl
allows_more c rule false e = refl

token_sound : (k : Kind) (make : Token → Node) → Sound (λ v ts. (t : Token) × (same_kind k t.kind ≡ true) × (ts ≡ t ∷ []) × (v ≡ make t)) (token_at k make)
token_sound k make [] v rest e = absurd cc
token_sound k make (t ∷ ts) v rest e =
    let go : (b : Bool) → same_kind k t.kind ≡ b → cond b (done (make t) ts) (failed Unexpected (t ∷ ts)) ≡ done v rest → Takes (λ us. (u : Token) × (same_kind k u.kind ≡ true) × (us ≡ u ∷ []) × (v ≡ make u)) (t ∷ ts) rest = elim [
      | true ↦ λ is h. record { text = t ∷ []; is = (t, is, refl, sym (ok_value (make t) v ts rest h)); parts = ap (λ (us : List Token). t ∷ us) (ok_rest (make t) v ts rest h) }
      | false ↦ λ is h. absurd cc
    ] in go (same_kind k t.kind) refl e

tested_sound : (c d : Rules) → Allows c d → (k : Kind) (test : Token → Bool) (rule : Rule)
    → Sound (λ v ts. (t : Token) × (same_kind k t.kind ≡ true) × (ts ≡ t ∷ []) × (v ≡ leaf t) × ((test t || not (d rule)) ≡ true)) (tested_at c k test rule)
tested_sound c d allows k test rule [] v rest e = absurd cc
tested_sound c d allows k test rule (t ∷ ts) v rest e =
    let P : Node → List Token → Type 0 = λ w us. (u : Token) × (same_kind k u.kind ≡ true) × (us ≡ u ∷ []) × (w ≡ leaf u) × ((test u || not (d rule)) ≡ true) in
    let allowed : same_kind k t.kind ≡ true → (b : Bool) → (test t || not (c rule)) ≡ b → cond b (done (leaf t) ts) (failed (broken rule) (t ∷ ts)) ≡ done v rest → Takes (P v) (t ∷ ts) rest = λ is. elim [
      | true ↦ λ ok h. takes_at P (t ∷ ts) (leaf t) v ts rest h (record { text = t ∷ []; is = (t, is, refl, refl, allows rule (test t) ok); parts = refl })
      | false ↦ λ ok h. absurd cc
    ] in
    let go : (b : Bool) → same_kind k t.kind ≡ b → cond b (cond (test t || not (c rule)) (done (leaf t) ts) (failed (broken rule) (t ∷ ts))) (failed Unexpected (t ∷ ts)) ≡ done v rest → Takes (P v) (t ∷ ts) rest = elim [
      | true ↦ λ is h. allowed is (test t || not (c rule)) refl h
      | false ↦ λ is h. absurd cc
    ] in go (same_kind k t.kind) refl e

both_sound : (P : Node → List Token → Type 0) (Q : Node → Node → List Token → Type 0) (r : List Token → Read) (s : Node → List Token → Read) → Sound P r → ((a : Node) → Sound (Q a) (s a)) → Sound (Both P Q) (both r s)
both_sound P Q r s hr hs ts v rest e =
    let a = bind_ok (r ts) (λ x. s x.0 x.1 >>= λ y. Ok (pair x.0 y.0, y.1)) (v, rest) e in
    let b = bind_ok (s a.0.0 a.0.1) (λ y. Ok (pair a.0.0 y.0, y.1)) (v, rest) a.2 in
    let p = hr ts a.0.0 a.0.1 a.1 in
    let q = hs a.0.0 a.0.1 b.0.0 b.0.1 b.1 in
    let parts : ts ≡ (p.text ++ q.text) ++ b.0.1 = p.parts ∙ ap (λ us. p.text ++ us) q.parts ∙ sym (append_assoc p.text q.text b.0.1) in
    takes_at (Both P Q) ts (pair a.0.0 b.0.0) v b.0.1 rest b.2 (record { text = p.text ++ q.text; is = (p.text, q.text, refl, p.is, q.is); parts = parts })

repeat_sound : (P : Node → List Token → Type 0) (go : List Token → Bool) (r : List Token → Read) → Sound P r → (n : ℕ) → Sound (Row P) (repeat go r n)
repeat_sound P go r h zero ts v rest e = takes_at (Row P) ts none v ts rest e (record { text = []; is = refl; parts = refl })
repeat_sound P go r h (suc n) ts v rest e =
    let more = repeat_sound P go r h n in
    let split : (b : Bool) → cond b (r ts >>= λ x. repeat go r n x.1 >>= λ y. Ok (pair x.0 y.0, y.1)) (Ok (none, ts)) ≡ Ok (v, rest) → Takes (Row P v) ts rest = elim [
      | false ↦ λ k. takes_at (Row P) ts none v ts rest k (record { text = []; is = refl; parts = refl })
      | true ↦ λ k.
          let a = bind_ok (r ts) (λ x. repeat go r n x.1 >>= λ y. Ok (pair x.0 y.0, y.1)) (v, rest) k in
          let b = bind_ok (repeat go r n a.0.1) (λ y. Ok (pair a.0.0 y.0, y.1)) (v, rest) a.2 in
          let p = h ts a.0.0 a.0.1 a.1 in
          let q = more a.0.1 b.0.0 b.0.1 b.1 in
          let parts : ts ≡ (p.text ++ q.text) ++ b.0.1 = p.parts ∙ ap (λ us. p.text ++ us) q.parts ∙ sym (append_assoc p.text q.text b.0.1) in
          takes_at (Row P) ts (pair a.0.0 b.0.0) v b.0.1 rest b.2 (record { text = p.text ++ q.text; is = (p.text, q.text, refl, p.is, q.is); parts = parts })
    ] in split (go ts) e

-- what is too deep may be moved, but what is read is the same
pub from_here_ok : (b : Bool) (ts : List Token) (o : Read) (y : Node × List Token) → from_here b ts o ≡ Ok y → o ≡ Ok y
from_here_ok b ts (Ok x) y e = e
from_here_ok b ts (Err d) y e = absurd cc

pub reader_sound : (c d : Rules) (full : Bool) → Allows c d → (inner : Nest → Node → List Token → Read) (I : Nest → Node → Node → List Token → Type 0) → SoundAll I inner → (f : Form) (env : Node) → Sound (Derives d I f env) (reader c full inner f env)
unfolding all_of
reader_sound c d full al inner I h (word k) env = token_sound k (λ t. none)
reader_sound c d full al inner I h (keep k) env = token_sound k (λ t. leaf t)
reader_sound c d full al inner I h (tested k test rule) env = tested_sound c d al k (test env) rule
reader_sound c d full al inner I h empty env = λ ts v rest e. takes_at (λ u us. (us ≡ []) × (u ≡ none)) ts none v ts rest e (record { text = []; is = (refl, refl); parts = refl })
reader_sound c d full al inner I h (seq f g) env =
    both_sound (Derives d I f env) (λ a. Derives d I g env) (reader c full inner f env) (λ a. reader c full inner g env) (reader_sound c d full al inner I h f env) (λ a. reader_sound c d full al inner I h g env)
reader_sound c d full al inner I h (within f pick g) env =
    both_sound (Derives d I f env) (λ a. Derives d I g (pick a)) (reader c full inner f env) (λ a. reader c full inner g (pick a)) (reader_sound c d full al inner I h f env) (λ a. reader_sound c d full al inner I h g (pick a))
reader_sound c d full al inner I h (alt f g) env = λ ts v rest e.
    let hf = reader_sound c d full al inner I h f env ts v rest in
    let hg = reader_sound c d full al inner I h g env ts v rest in
    let split : (b : Bool) → cond b (reader c full inner f env ts) (reader c full inner g env ts) ≡ Ok (v, rest) → Takes (Derives d I (alt f g) env v) ts rest = elim [
      | true ↦ λ k. weaker (Derives d I f env v) (Derives d I (alt f g) env v) ts rest (λ us. inl) (hf k)
      | false ↦ λ k. weaker (Derives d I g env v) (Derives d I (alt f g) env v) ts rest (λ us. inr) (hg k)
    ] in split (begins (starts f) ts) e
reader_sound c d full al inner I h (when test f) env = λ ts v rest e.
    let hf = reader_sound c d full al inner I h f env ts v rest in
    let split : (b : Bool) → (test env && begins (starts f) ts) ≡ b → cond b (reader c full inner f env ts) (Ok (none, ts)) ≡ Ok (v, rest) → Takes (Derives d I (when test f) env v) ts rest = elim [
      | true ↦ λ is k. weaker (Derives d I f env v) (Derives d I (when test f) env v) ts rest (λ us p. inl (and_left (test env) (begins (starts f) ts) is, p)) (hf k)
      | false ↦ λ is k. takes_at (Derives d I (when test f) env) ts none v ts rest k (record { text = []; is = inr (refl, refl); parts = refl })
    ] in split (test env && begins (starts f) ts) refl e
reader_sound c d full al inner I h (many f) env = λ ts v rest e. repeat_sound (Derives d I f env) (begins (starts f)) (reader c full inner f env) (reader_sound c d full al inner I h f env) (length ts) ts v rest e
reader_sound c d full al inner I h (act make f) env = λ ts v rest e.
    let b = bind_ok (reader c full inner f env ts) (λ x. Ok (make x.0, x.1)) (v, rest) e in
    let p = reader_sound c d full al inner I h f env ts b.0.0 b.0.1 b.1 in
    let here : Takes (Derives d I (act make f) env (make b.0.0)) ts b.0.1 = record { text = p.text; is = (b.0.0, refl, p.is); parts = p.parts } in
    takes_at (Derives d I (act make f) env) ts (make b.0.0) v b.0.1 rest b.2 here
reader_sound c d full al inner I h (late head f) env = λ ts v rest e.
    reader_sound c d full al inner I h f env ts v rest (from_here_ok (full && is_read (reader no_rule false nowhere head none ts)) ts (reader c full inner f env ts) (v, rest) e)
reader_sound c d full al inner I h (nest n) env = h n env

pub construct_sound : (c d : Rules) (moved : Bool) → Allows c d → (left : ℕ) → SoundAll (Construct d left) (construct c moved left)
unfolding construct
construct_sound c d moved al zero n env ts v rest e =
    let split : (b : Bool) → cond b (failed TooDeep ts) (failed Unexpected ts) ≡ done v rest → Takes (Construct d zero n env v) ts rest = elim [ true ↦ λ k. absurd cc | false ↦ λ k. absurd cc ] in
    split (begins (nest_starts n) ts) e
construct_sound c d moved al (suc left) n env ts v rest e =
    let inside = reader_sound c d (moved && is_zero left) al (construct c moved left) (Construct d left) (construct_sound c d moved al left) (body n) env ts v rest in
    let split : (b : Bool) → cond b (reader c (moved && is_zero left) (construct c moved left) (body n) env ts) (failed Unexpected ts) ≡ done v rest → Takes (Construct d (suc left) n env v) ts rest = elim [
      | true ↦ λ k. inside k
      | false ↦ λ k. absurd cc
    ] in split (begins (nest_starts n) ts) e
