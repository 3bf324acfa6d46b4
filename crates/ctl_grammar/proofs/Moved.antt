-- Moving what is too deep changes its place alone.
use Rattle.std.proofs.Common.{◌≡◌, ℕ, zero, suc, Bool, true, false, cond, List, length, Ok, Err, refl, sym, ◌∙◌, inl, inr}
use Rattle.std.specs.Prelude.{◌⊎◌, ◌&&◌}
use Rattle.ctl_tree.specs.declared.token.Token.{Token}
use Rattle.ctl_grammar.specs.declared.refused.Reason.TheVariants.{Unexpected, TooDeep, LeftOut, EndName}
use Rattle.ctl_grammar.specs.Form.{Node, none, pair, Nest, Form, word, keep, tested, empty, seq, within, alt, when, many, act, late, nest, starts, nest_starts, Rules, no_rule}
use Rattle.ctl_grammar.specs.Grammar.{body}
use Rattle.ctl_grammar.specs.Reading.{Read, ◌>>=◌, begins, both, repeat, all_of, from_here, is_read, nowhere, reader, is_zero, construct}
use Rattle.ctl_grammar.proofs.Again.{from_here_same}

-- too much was opened
abbrev pub Deep : Read → Type 0
Deep o = (here : List Token) × (o ≡ Err (TooDeep, here))

-- the same, or both too deep
abbrev pub Alike : (List Token → Read) → (List Token → Read) → Type 0
Alike r s = (ts : List Token) → (s ts ≡ r ts) ⊎ (Deep (r ts) × Deep (s ts))

bind_alike : (o p : Read) (g h : Node × List Token → Read) → (p ≡ o) ⊎ (Deep o × Deep p) → ((x : Node × List Token) → (h x ≡ g x) ⊎ (Deep (g x) × Deep (h x))) → ((p >>= h) ≡ (o >>= g)) ⊎ (Deep (o >>= g) × Deep (p >>= h))
bind_alike (Ok x) p g h (inl e) k = elim (k x) [ inl d ↦ inl (rw (e, d) refl) | inr d ↦ inr (d.0, (d.1.0, rw e d.1.1)) ]
bind_alike (Err f) p g h (inl e) k = inl (rw e refl)
bind_alike o p g h (inr e) k = inr ((e.0.0, rw e.0.1 refl), (e.1.0, rw e.1.1 refl))

cond_alike : (b : Bool) (o p o' p' : Read) → (p ≡ o) ⊎ (Deep o × Deep p) → (p' ≡ o') ⊎ (Deep o' × Deep p') → (cond b p p' ≡ cond b o o') ⊎ (Deep (cond b o o') × Deep (cond b p p'))
cond_alike true o p o' p' h k = h
cond_alike false o p o' p' h k = k

both_alike : (r r' : List Token → Read) (s s' : Node → List Token → Read) → Alike r r' → ((a : Node) → Alike (s a) (s' a)) → Alike (both r s) (both r' s')
both_alike r r' s s' h k ts =
    bind_alike (r ts) (r' ts) (λ x. s x.0 x.1 >>= λ y. Ok (pair x.0 y.0, y.1)) (λ x. s' x.0 x.1 >>= λ y. Ok (pair x.0 y.0, y.1)) (h ts) (λ x.
    bind_alike (s x.0 x.1) (s' x.0 x.1) (λ y. Ok (pair x.0 y.0, y.1)) (λ y. Ok (pair x.0 y.0, y.1)) (k x.0 x.1) (λ y. inl refl))

repeat_alike : (go : List Token → Bool) (r s : List Token → Read) → Alike r s → (n : ℕ) → Alike (repeat go r n) (repeat go s n)
repeat_alike go r s h zero ts = inl refl
repeat_alike go r s h (suc n) ts =
    let more = repeat_alike go r s h n in
    cond_alike (go ts) (r ts >>= λ x. repeat go r n x.1 >>= λ y. Ok (pair x.0 y.0, y.1)) (s ts >>= λ x. repeat go s n x.1 >>= λ y. Ok (pair x.0 y.0, y.1)) (Ok (none, ts)) (Ok (none, ts))
    (bind_alike (r ts) (s ts) (λ x. repeat go r n x.1 >>= λ y. Ok (pair x.0 y.0, y.1)) (λ x. repeat go s n x.1 >>= λ y. Ok (pair x.0 y.0, y.1)) (h ts) (λ x.
    bind_alike (repeat go r n x.1) (repeat go s n x.1) (λ y. Ok (pair x.0 y.0, y.1)) (λ y. Ok (pair x.0 y.0, y.1)) (more x.1) (λ y. inl refl)))
    (inl refl)

from_here_alike : (b : Bool) (ts : List Token) (o : Read) → (o ≡ from_here b ts o) ⊎ (Deep (from_here b ts o) × Deep o)
from_here_alike b ts (Ok x) = inl refl
from_here_alike true ts (Err (Unexpected, at)) = inl refl
from_here_alike true ts (Err (TooDeep, at)) = inr ((ts, refl), (at, refl))
from_here_alike true ts (Err (LeftOut, at)) = inl refl
from_here_alike true ts (Err (EndName, at)) = inl refl
from_here_alike false ts (Err e) = inl refl

then_alike : (o p q : Read) → (p ≡ o) ⊎ (Deep o × Deep p) → (q ≡ p) ⊎ (Deep p × Deep q) → (q ≡ o) ⊎ (Deep o × Deep q)
then_alike o p q (inl e) (inl d) = inl (d ∙ e)
then_alike o p q (inl e) (inr d) = inr ((d.0.0, sym e ∙ d.0.1), d.1)
then_alike o p q (inr e) (inl d) = inr (e.0, (e.1.0, d ∙ e.1.1))
then_alike o p q (inr e) (inr d) = inr (e.0, d.1)

reader_alike : (c : Rules) (full : Bool) (moving staying : Nest → Node → List Token → Read) → ((n : Nest) (env : Node) → Alike (moving n env) (staying n env)) → (f : Form) (env : Node) → Alike (reader c full moving f env) (reader c false staying f env)
unfolding all_of
reader_alike c full r s h (word k) env ts = inl refl
reader_alike c full r s h (keep k) env ts = inl refl
reader_alike c full r s h (tested k test rule) env ts = inl refl
reader_alike c full r s h empty env ts = inl refl
reader_alike c full r s h (seq f g) env ts = both_alike (reader c full r f env) (reader c false s f env) (λ a. reader c full r g env) (λ a. reader c false s g env) (reader_alike c full r s h f env) (λ a. reader_alike c full r s h g env) ts
reader_alike c full r s h (within f pick g) env ts = both_alike (reader c full r f env) (reader c false s f env) (λ a. reader c full r g (pick a)) (λ a. reader c false s g (pick a)) (reader_alike c full r s h f env) (λ a. reader_alike c full r s h g (pick a)) ts
reader_alike c full r s h (alt f g) env ts = cond_alike (begins (starts f) ts) (reader c full r f env ts) (reader c false s f env ts) (reader c full r g env ts) (reader c false s g env ts) (reader_alike c full r s h f env ts) (reader_alike c full r s h g env ts)
reader_alike c full r s h (when test f) env ts = cond_alike (test env && begins (starts f) ts) (reader c full r f env ts) (reader c false s f env ts) (Ok (none, ts)) (Ok (none, ts)) (reader_alike c full r s h f env ts) (inl refl)
reader_alike c full r s h (many f) env ts = repeat_alike (begins (starts f)) (reader c full r f env) (reader c false s f env) (reader_alike c full r s h f env) (length ts) ts
reader_alike c full r s h (act make f) env ts = bind_alike (reader c full r f env ts) (reader c false s f env ts) (λ x. Ok (make x.0, x.1)) (λ x. Ok (make x.0, x.1)) (reader_alike c full r s h f env ts) (λ x. inl refl)
reader_alike c full r s h (late head f) env ts =
    let o = reader c full r f env ts in
    let p = reader c false s f env ts in
    let here = from_here (full && is_read (reader no_rule false nowhere head none ts)) ts o in
    let one = from_here_alike (full && is_read (reader no_rule false nowhere head none ts)) ts o in
    let two = reader_alike c full r s h f env ts in
    then_alike here p (from_here false ts p) (then_alike here o p one two) (inl (from_here_same ts p))
reader_alike c full r s h (nest n) env ts = h n env ts

construct_alike : (c : Rules) (left : ℕ) (n : Nest) (env : Node) → Alike (construct c true left n env) (construct c false left n env)
unfolding construct
construct_alike c zero n env ts = inl refl
construct_alike c (suc left) n env ts =
    cond_alike (begins (nest_starts n) ts) (reader c (is_zero left) (construct c true left) (body n) env ts) (reader c false (construct c false left) (body n) env ts) (Err (Unexpected, ts)) (Err (Unexpected, ts))
    (reader_alike c (is_zero left) (construct c true left) (construct c false left) (construct_alike c left) (body n) env ts) (inl refl)

pub read_alike : (c : Rules) (left : ℕ) (f : Form) (env : Node) → Alike (reader c (is_zero left) (construct c true left) f env) (reader c false (construct c false left) f env)
read_alike c left f env = reader_alike c (is_zero left) (construct c true left) (construct c false left) (construct_alike c left) f env
