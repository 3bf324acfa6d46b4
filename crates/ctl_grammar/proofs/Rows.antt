-- Reading a row, one after the other.
use Rattle.std.proofs.Common.{◌≡◌, ℕ, zero, suc, ◌≤◌, ◌<◌, Bool, true, false, cond, List, [], ◌∷◌, length, Ok, Err, refl, ap, subst, arith}
use Rattle.std.proofs.lemmas.List.{length-append}
use Rattle.ctl_tree.specs.declared.token.Kind.{Kind}
use Rattle.ctl_tree.specs.declared.token.Token.{Token}
use Rattle.ctl_grammar.specs.Form.{Node, none, pair, Form, Nest, can_be_empty, starts, Rules}
use Rattle.ctl_grammar.specs.Reading.{Read, ◌>>=◌, begins, repeat, all_of, reader, construct}
use Rattle.ctl_grammar.specs.Derivation.{Construct}
use Rattle.ctl_grammar.proofs.Starts.{Opens, OpensAll, derives_opens}
use Rattle.ctl_grammar.proofs.Sound.{SoundAll, allows_same, reader_sound, construct_sound}
use Rattle.ctl_grammar.proofs.Again.{construct_opens}
use Rattle.ctl_grammar.proofs.Plain.{plain}

abbrev pub Consumes : (List Token → Read) → Type 0
Consumes r = (ts : List Token) (v : Node) (rest : List Token) → r ts ≡ Ok (v, rest) → length rest < length ts

pub reader_consumes : (c : Rules) (full : Bool) (inner : Nest → Node → List Token → Read) (I : Nest → Node → Node → List Token → Type 0) → SoundAll I inner → OpensAll I → (f : Form) (env : Node) → can_be_empty f ≡ false → Consumes (reader c full inner f env)
reader_consumes c full inner I hs ho f env some ts v rest e =
    let p = reader_sound c c full (allows_same c) inner I hs f env ts v rest e in
    let opens : Opens false (starts f) p.text = subst (λ (b : Bool). Opens b (starts f) p.text) some (derives_opens c I ho f env v p.text p.is) in
    let long : (z : List Token) → Opens false (starts f) z → 1 ≤ length z = elim [ [] ↦ λ o. absurd cc | t ∷ z ↦ λ o. omega arith ] in
    omega (arith, long p.text opens, ap length p.parts, length-append p.text rest)

-- a form that is not empty takes at least one token
pub consumes : (c : Rules) (full moved : Bool) (left : ℕ) (f : Form) (env : Node) → can_be_empty f ≡ false → Consumes (reader c full (construct c moved left) f env)
consumes c full moved left f env some = reader_consumes c full (construct c moved left) (Construct c left) (construct_sound c c moved (allows_same c) left) (construct_opens plain c left) f env some

-- one, and then the others
abbrev pub and_then : (List Token → Read) → Read → Read
and_then others r = r >>= λ x. others x.1 >>= λ y. Ok (pair x.0 y.0, y.1)

pub and_then_same : (r s : List Token → Read) (o : Read) → ((x : Node × List Token) → o ≡ Ok x → r x.1 ≡ s x.1) → and_then r o ≡ and_then s o
and_then_same r s (Ok x) h = rw (h x refl) refl
and_then_same r s (Err e) h = refl

repeat_fuel : (ks : List Kind) (r : List Token → Read) → Consumes r → (n m : ℕ) (ts : List Token) → length ts ≤ n → length ts ≤ m → repeat (begins ks) r n ts ≡ repeat (begins ks) r m ts
repeat_fuel ks r h zero zero ts p q = refl
repeat_fuel ks r h zero (suc m) [] p q = refl
repeat_fuel ks r h zero (suc m) (t ∷ ts) p q = absurd (omega arith)
repeat_fuel ks r h (suc n) zero [] p q = refl
repeat_fuel ks r h (suc n) zero (t ∷ ts) p q = absurd (omega arith)
repeat_fuel ks r h (suc n) (suc m) ts p q =
    let more = repeat_fuel ks r h n m in
    let same = and_then_same (repeat (begins ks) r n) (repeat (begins ks) r m) (r ts) (λ x e. let lt = h ts x.0 x.1 e in more x.1 (omega arith) (omega arith)) in
    ap (λ (o : Read). cond (begins ks ts) o (Ok (none, ts))) same

pub all_step : (ks : List Kind) (r : List Token → Read) → Consumes r → (ts : List Token) → begins ks ts ≡ true → all_of (begins ks) r ts ≡ and_then (all_of (begins ks) r) (r ts)
unfolding all_of
all_step ks r h [] e = absurd cc
all_step ks r h (t ∷ ts) e =
    let same = and_then_same (repeat (begins ks) r (length ts)) (λ us. repeat (begins ks) r (length us) us) (r (t ∷ ts)) (λ x k. let lt = h (t ∷ ts) x.0 x.1 k in repeat_fuel ks r h (length ts) (length x.1) x.1 (omega arith) (omega arith)) in
    rw e same

pub all_stop : (ks : List Kind) (r : List Token → Read) (ts : List Token) → begins ks ts ≡ false → all_of (begins ks) r ts ≡ Ok (none, ts)
unfolding all_of
all_stop ks r [] e = refl
all_stop ks r (t ∷ ts) e = rw e refl
