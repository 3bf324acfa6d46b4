-- What is read does not depend on what stands behind the next token.
use Rattle.std.proofs.Common.{◌≡◌, ℕ, zero, suc, ◌≤◌, Bool, true, false, cond, List, [], ◌∷◌, ◌++◌, length, Ok, Err, refl, sym, ap, subst, ◌∙◌, append_assoc, arith}
use Rattle.std.specs.Prelude.{◌&&◌, ◌||◌, not}
use Rattle.ctl_tree.specs.declared.token.Kind.{Kind}
use Rattle.ctl_tree.specs.declared.token.Token.{Token}
use Rattle.ctl_grammar.specs.declared.refused.Reason.{Reason}
use Rattle.ctl_grammar.specs.declared.refused.Reason.TheVariants.{Unexpected, TooDeep}
use Rattle.ctl_grammar.specs.Kind.{same_kind}
use Rattle.ctl_grammar.specs.Form.{Node, none, leaf, pair, Nest, Rule, Form, word, keep, tested, empty, seq, within, alt, when, many, act, late, nest, has, can_be_empty, starts, nest_starts, goes_on, is_apart, is_clear, Rules}
use Rattle.ctl_grammar.specs.Grammar.{body}
use Rattle.ctl_grammar.specs.Reading.{Read, ◌>>=◌, broken, token_at, tested_at, begins, both, all_of, from_here, reader, construct}
use Rattle.ctl_grammar.proofs.Starts.{and_left, and_right, not_true}
use Rattle.ctl_grammar.proofs.Again.{IsPlain, from_here_same}
use Rattle.ctl_grammar.proofs.Rows.{Consumes, all_step, all_stop}

-- both have the same first token, or both none
abbrev pub SameStart : List Token → List Token → Type 0
SameStart [] [] = Unit {0}
SameStart [] (u ∷ us) = ⊥
SameStart (t ∷ ts) [] = ⊥
SameStart (t ∷ ts) (u ∷ us) = t ≡ u

pub same_behind : (front ts us : List Token) → SameStart ts us → SameStart (front ++ ts) (front ++ us)
same_behind [] ts us h = h
same_behind (t ∷ front) ts us h = refl

begins_same : (ks : List Kind) (ts us : List Token) → SameStart ts us → begins ks ts ≡ begins ks us
begins_same ks [] [] h = refl
begins_same ks [] (u ∷ us) h = absurd h
begins_same ks (t ∷ ts) [] h = absurd h
begins_same ks (t ∷ ts) (u ∷ us) h = ap (λ (w : Token). has w.kind ks) h

-- the same is read at each list that begins as this one, up to and with the next token
abbrev pub LocalAt : (List Token → Read) → List Token → Read → Type 0
LocalAt r ts (Ok x) = (front : List Token) × (ts ≡ front ++ x.1) × ((rest : List Token) → SameStart x.1 rest → r (front ++ rest) ≡ Ok (x.0, rest))
LocalAt r ts (Err e) = (front : List Token) × (ts ≡ front ++ e.1) × ((rest : List Token) → SameStart e.1 rest → r (front ++ rest) ≡ Err (e.0, rest))

abbrev pub Local : (List Token → Read) → Type 0
Local r = (ts : List Token) → LocalAt r ts (r ts)

-- a reader that is the same wherever the start is
carry : (r s : List Token → Read) (ts : List Token) (o : Read) → ((us : List Token) → SameStart ts us → s us ≡ r us) → LocalAt r ts o → LocalAt s ts o
carry r s ts (Ok x) h p = (p.0, p.1, λ rest k. h (p.0 ++ rest) (subst (λ (us : List Token). SameStart us (p.0 ++ rest)) (sym p.1) (same_behind p.0 x.1 rest k)) ∙ p.2 rest k)
carry r s ts (Err e) h p = (p.0, p.1, λ rest k. h (p.0 ++ rest) (subst (λ (us : List Token). SameStart us (p.0 ++ rest)) (sym p.1) (same_behind p.0 e.1 rest k)) ∙ p.2 rest k)

then_at : (r : List Token → Read) (g : Node × List Token → Read) (ts : List Token) (x : Node × List Token) (o : Read) → LocalAt r ts (Ok x) → LocalAt (λ us. g (x.0, us)) x.1 o → LocalAt (λ us. r us >>= g) ts o
then_at r g ts x (Ok y) p q = (
  p.0 ++ q.0,
  p.1 ∙ ap (λ (us : List Token). p.0 ++ us) q.1 ∙ sym (append_assoc p.0 q.0 y.1),
  λ rest k.
      let start : SameStart x.1 (q.0 ++ rest) = subst (λ (us : List Token). SameStart us (q.0 ++ rest)) (sym q.1) (same_behind q.0 y.1 rest k) in
      rw (append_assoc p.0 q.0 rest, p.2 (q.0 ++ rest) start) (q.2 rest k),
)
then_at r g ts x (Err e) p q = (
  p.0 ++ q.0,
  p.1 ∙ ap (λ (us : List Token). p.0 ++ us) q.1 ∙ sym (append_assoc p.0 q.0 e.1),
  λ rest k.
      let start : SameStart x.1 (q.0 ++ rest) = subst (λ (us : List Token). SameStart us (q.0 ++ rest)) (sym q.1) (same_behind q.0 e.1 rest k) in
      rw (append_assoc p.0 q.0 rest, p.2 (q.0 ++ rest) start) (q.2 rest k),
)

bind_at : (r : List Token → Read) (g : Node × List Token → Read) (ts : List Token) (o : Read) → LocalAt r ts o → ((x : Node × List Token) → o ≡ Ok x → LocalAt (λ us. g (x.0, us)) x.1 (g x)) → LocalAt (λ us. r us >>= g) ts (o >>= g)
bind_at r g ts (Ok x) p h = then_at r g ts x (g x) p (h x refl)
bind_at r g ts (Err e) p h = (p.0, p.1, λ rest k. rw (p.2 rest k) refl)

here : (v : Node) (ts : List Token) → LocalAt (λ us. Ok (v, us)) ts (Ok (v, ts))
here v ts = ([], refl, λ rest k. refl)

stuck : (f : Reason) (ts : List Token) → LocalAt (λ us. Err (f, us)) ts (Err (f, ts))
stuck f ts = ([], refl, λ rest k. refl)

token_local : (k : Kind) (make : Token → Node) → Local (token_at k make)
token_local k make [] = ([], refl, elim [ [] ↦ λ h. refl | u ∷ us ↦ λ h. absurd h ])
token_local k make (t ∷ ts) =
    let split : (b : Bool) → same_kind k t.kind ≡ b → LocalAt (token_at k make) (t ∷ ts) (cond b (Ok (make t, ts)) (Err (Unexpected, t ∷ ts))) = elim [
      | true ↦ λ is. (t ∷ [], refl, λ rest h. rw is refl)
      | false ↦ λ is. ([], refl, elim [ [] ↦ λ h. absurd h | u ∷ us ↦ λ h. let is_u : same_kind k u.kind ≡ false = subst (λ (w : Token). same_kind k w.kind ≡ false) h is in rw is_u refl ])
    ] in split (same_kind k t.kind) refl

tested_local : (c : Rules) (k : Kind) (test : Token → Bool) (rule : Rule) → Local (tested_at c k test rule)
tested_local c k test rule [] = ([], refl, elim [ [] ↦ λ h. refl | u ∷ us ↦ λ h. absurd h ])
tested_local c k test rule (t ∷ ts) =
    let allowed : same_kind k t.kind ≡ true → (b : Bool) → (test t || not (c rule)) ≡ b → LocalAt (tested_at c k test rule) (t ∷ ts) (cond b (Ok (leaf t, ts)) (Err (broken rule, t ∷ ts))) = λ is. elim [
      | true ↦ λ ok. (t ∷ [], refl, λ rest h. rw (is, ok) refl)
      | false ↦ λ ok. (
        [],
        refl,
        elim [
          | [] ↦ λ h. absurd h
          | u ∷ us ↦ λ h.
              let is_u : same_kind k u.kind ≡ true = subst (λ (w : Token). same_kind k w.kind ≡ true) h is in
              let ok_u : (test u || not (c rule)) ≡ false = subst (λ (w : Token). (test w || not (c rule)) ≡ false) h ok in
              rw (is_u, ok_u) refl
        ],
      )
    ] in
    let split : (b : Bool) → same_kind k t.kind ≡ b → LocalAt (tested_at c k test rule) (t ∷ ts) (cond b (cond (test t || not (c rule)) (Ok (leaf t, ts)) (Err (broken rule, t ∷ ts))) (Err (Unexpected, t ∷ ts))) = elim [
      | true ↦ λ is. allowed is (test t || not (c rule)) refl
      | false ↦ λ is. ([], refl, elim [ [] ↦ λ h. absurd h | u ∷ us ↦ λ h. let is_u : same_kind k u.kind ≡ false = subst (λ (w : Token). same_kind k w.kind ≡ false) h is in rw is_u refl ])
    ] in split (same_kind k t.kind) refl

choose_local : (b : Bool) (ks : List Kind) (r s : List Token → Read) → Local r → Local s → Local (λ us. cond (b && begins ks us) (r us) (s us))
choose_local true ks r s hr hs ts =
    let split : (b : Bool) → begins ks ts ≡ b → LocalAt (λ us. cond (begins ks us) (r us) (s us)) ts (cond b (r ts) (s ts)) = elim [
      | true ↦ λ is. carry r (λ us. cond (begins ks us) (r us) (s us)) ts (r ts) (λ us h. rw (sym (begins_same ks ts us h) ∙ is) refl) (hr ts)
      | false ↦ λ is. carry s (λ us. cond (begins ks us) (r us) (s us)) ts (s ts) (λ us h. rw (sym (begins_same ks ts us h) ∙ is) refl) (hs ts)
    ] in split (begins ks ts) refl
choose_local false ks r s hr hs ts = hs ts

all_stops : (ks : List Kind) (r : List Token → Read) (ts : List Token) → begins ks ts ≡ false → LocalAt (all_of (begins ks) r) ts (all_of (begins ks) r ts)
all_stops ks r ts is =
    subst (λ (o : Read). LocalAt (all_of (begins ks) r) ts o) (sym (all_stop ks r ts is))
    (carry (λ us. Ok (none, us)) (all_of (begins ks) r) ts (Ok (none, ts)) (λ us h. all_stop ks r us (sym (begins_same ks ts us h) ∙ is)) (here none ts))

all_goes_on : (ks : List Kind) (r : List Token → Read) → Consumes r → Local r → (m : ℕ) (ts : List Token) → length ts ≤ suc m → ((us : List Token) → length us ≤ m → LocalAt (all_of (begins ks) r) us (all_of (begins ks) r us))
    → begins ks ts ≡ true → LocalAt (all_of (begins ks) r) ts (all_of (begins ks) r ts)
all_goes_on ks r hc hl m ts short ih is =
    let g : Node × List Token → Read = λ x. all_of (begins ks) r x.1 >>= λ y. Ok (pair x.0 y.0, y.1) in
    let two : LocalAt (λ us. r us >>= g) ts (r ts >>= g) = bind_at r g ts (r ts) (hl ts) (λ x e.
    let lt = hc ts x.0 x.1 e in
    bind_at (all_of (begins ks) r) (λ y. Ok (pair x.0 y.0, y.1)) x.1 (all_of (begins ks) r x.1) (ih x.1 (omega arith)) (λ y k. here (pair x.0 y.0) y.1)) in
    subst (λ (o : Read). LocalAt (all_of (begins ks) r) ts o) (sym (all_step ks r hc ts is))
    (carry (λ us. r us >>= g) (all_of (begins ks) r) ts (r ts >>= g) (λ us h. all_step ks r hc us (sym (begins_same ks ts us h) ∙ is)) two)

all_local : (ks : List Kind) (r : List Token → Read) → Consumes r → Local r → (n : ℕ) (ts : List Token) → length ts ≤ n → LocalAt (all_of (begins ks) r) ts (all_of (begins ks) r ts)
all_local ks r hc hl zero [] le = all_stops ks r [] refl
all_local ks r hc hl zero (t ∷ ts) le = absurd (omega arith)
all_local ks r hc hl (suc n) ts le =
    let more = all_local ks r hc hl n in
    let split : (b : Bool) → begins ks ts ≡ b → LocalAt (all_of (begins ks) r) ts (all_of (begins ks) r ts) = elim [
      | true ↦ all_goes_on ks r hc hl n ts le more
      | false ↦ all_stops ks r ts
    ] in split (begins ks ts) refl

both_local : (r : List Token → Read) (s : Node → List Token → Read) → Local r → ((a : Node) → Local (s a)) → Local (both r s)
both_local r s hr hs ts =
    bind_at r (λ x. s x.0 x.1 >>= λ y. Ok (pair x.0 y.0, y.1)) ts (r ts) (hr ts) (λ x e.
    bind_at (s x.0) (λ y. Ok (pair x.0 y.0, y.1)) x.1 (s x.0 x.1) (hs x.0 x.1) (λ y k. here (pair x.0 y.0) y.1))

abbrev pub ConsumesAll : Rules → (Nest → Node → List Token → Read) → Type 0
ConsumesAll c inner = (f : Form) (env : Node) → can_be_empty f ≡ false → Consumes (reader c false inner f env)

pub reader_local : (c : Rules) (inner : Nest → Node → List Token → Read) → ConsumesAll c inner → ((n : Nest) (env : Node) → Local (inner n env)) → (f : Form) → is_clear f ≡ true → (env : Node) → Local (reader c false inner f env)
reader_local c inner hc h (word k) clear env = token_local k (λ t. none)
reader_local c inner hc h (keep k) clear env = token_local k (λ t. leaf t)
reader_local c inner hc h (tested k test rule) clear env = tested_local c k (test env) rule
reader_local c inner hc h empty clear env = here none
reader_local c inner hc h (seq f g) clear env =
    let clear_f = and_left (is_clear f) (is_clear g && is_apart (starts g) (goes_on f)) clear in
    let later = and_right (is_clear f) (is_clear g && is_apart (starts g) (goes_on f)) clear in
    let clear_g = and_left (is_clear g) (is_apart (starts g) (goes_on f)) later in
    both_local (reader c false inner f env) (λ a. reader c false inner g env) (reader_local c inner hc h f clear_f env) (λ a. reader_local c inner hc h g clear_g env)
reader_local c inner hc h (within f pick g) clear env =
    let clear_f = and_left (is_clear f) (is_clear g && is_apart (starts g) (goes_on f)) clear in
    let later = and_right (is_clear f) (is_clear g && is_apart (starts g) (goes_on f)) clear in
    let clear_g = and_left (is_clear g) (is_apart (starts g) (goes_on f)) later in
    both_local (reader c false inner f env) (λ a. reader c false inner g (pick a)) (reader_local c inner hc h f clear_f env) (λ a. reader_local c inner hc h g clear_g (pick a))
reader_local c inner hc h (alt f g) clear env =
    let clear_f = and_left (is_clear f) (is_clear g && (not (can_be_empty f) && is_apart (starts g) (starts f))) clear in
    let later = and_right (is_clear f) (is_clear g && (not (can_be_empty f) && is_apart (starts g) (starts f))) clear in
    let clear_g = and_left (is_clear g) (not (can_be_empty f) && is_apart (starts g) (starts f)) later in
    choose_local true (starts f) (reader c false inner f env) (reader c false inner g env) (reader_local c inner hc h f clear_f env) (reader_local c inner hc h g clear_g env)
reader_local c inner hc h (when test f) clear env =
    let clear_f = and_left (is_clear f) (not (can_be_empty f)) clear in
    choose_local (test env) (starts f) (reader c false inner f env) (λ us. Ok (none, us)) (reader_local c inner hc h f clear_f env) (here none)
reader_local c inner hc h (many f) clear env = λ ts.
    let clear_f = and_left (is_clear f) (not (can_be_empty f) && is_apart (starts f) (goes_on f)) clear in
    let last = and_right (is_clear f) (not (can_be_empty f) && is_apart (starts f) (goes_on f)) clear in
    let some = not_true (can_be_empty f) (and_left (not (can_be_empty f)) (is_apart (starts f) (goes_on f)) last) in
    all_local (starts f) (reader c false inner f env) (hc f env some) (reader_local c inner hc h f clear_f env) (length ts) ts (omega arith)
reader_local c inner hc h (act make f) clear env = λ ts.
    bind_at (reader c false inner f env) (λ x. Ok (make x.0, x.1)) ts (reader c false inner f env ts) (reader_local c inner hc h f clear env ts) (λ x e. here (make x.0) x.1)
reader_local c inner hc h (late head f) clear env = λ ts.
    subst (λ (o : Read). LocalAt (λ us. from_here false us (reader c false inner f env us)) ts o) (sym (from_here_same ts (reader c false inner f env ts)))
    (carry (reader c false inner f env) (λ us. from_here false us (reader c false inner f env us)) ts (reader c false inner f env ts) (λ us same. from_here_same us (reader c false inner f env us)) (reader_local c inner hc h f clear env ts))
reader_local c inner hc h (nest n) clear env = h n env

pub construct_local : ((n : Nest) → IsPlain n) → (c : Rules) → ((left : ℕ) → ConsumesAll c (construct c false left)) → (left : ℕ) (n : Nest) (env : Node) → Local (construct c false left n env)
unfolding construct
construct_local plain c hc zero n env = choose_local true (nest_starts n) (λ us. Err (TooDeep, us)) (λ us. Err (Unexpected, us)) (stuck TooDeep) (stuck Unexpected)
construct_local plain c hc (suc left) n env =
    choose_local true (nest_starts n) (reader c false (construct c false left) (body n) env) (λ us. Err (Unexpected, us)) (reader_local c (construct c false left) (hc left) (construct_local plain c hc left) (body n) (plain n).clear env) (stuck Unexpected)
