-- What breaks a rule is answered for that reason, and where it does; and nothing else is.
use Rattle.std.proofs.Common.{◌≡◌, ℕ, zero, suc, Bool, true, false, cond, List, [], ◌∷◌, ◌++◌, length, Ok, Err, refl, sym, ap, subst, ◌∙◌, append_assoc, inl, inr}
use Rattle.std.specs.Prelude.{◌⊎◌, ◌&&◌, ◌||◌, not}
use Rattle.ctl_tree.specs.declared.token.Kind.{Kind}
use Rattle.ctl_tree.specs.declared.token.Token.{Token}
use Rattle.ctl_grammar.specs.declared.refused.Reason.{Reason}
use Rattle.ctl_grammar.specs.declared.refused.Reason.TheVariants.{Unexpected, TooDeep}
use Rattle.ctl_grammar.specs.Kind.{same_kind}
use Rattle.ctl_grammar.specs.Form.{Node, none, leaf, num, written, at, pair, tag, Nest, Rule, every_rule, Form, word, keep, tested, empty, seq, within, alt, when, many, act, late, nest, is_apart, can_be_empty, starts, goes_on, is_clear, nest_starts}
use Rattle.ctl_grammar.specs.Grammar.{body}
use Rattle.ctl_grammar.specs.Reading.{Read, ◌>>=◌, broken, token_at, tested_at, begins, both, repeat, all_of, from_here, is_too_deep, is_zero, construct, read, starts_too_deep}
use Rattle.ctl_grammar.specs.Derivation.{Row, Derives, Construct}
use Rattle.ctl_grammar.specs.Breaks.{Behind, Breaks, BreaksConstruct}
use Rattle.ctl_grammar.proofs.Starts.{and_left, and_right, not_true, apart_has, has_append, Opens, row_opens, derives_opens, begins_with}
use Rattle.ctl_grammar.proofs.Sound.{Sound, failed, allows_same, reader_sound, construct_sound}
use Rattle.ctl_grammar.proofs.Again.{Again, reader_again, construct_again, construct_opens}
use Rattle.ctl_grammar.proofs.Plain.{plain}
use Rattle.ctl_grammar.proofs.Rows.{Consumes, consumes, and_then, all_step}
use Rattle.ctl_grammar.proofs.Moved.{read_alike}
use Rattle.ctl_grammar.proofs.Extends.{err_place}
use Rattle.ctl_grammar.proofs.Whole.{is_ruled}

err_is : (e d : Reason × List Token) → failed e.0 e.1 ≡ failed d.0 d.1 → e ≡ d
err_is e d h = cc

same_reason : (r s : Reason) (ts us : List Token) → failed r ts ≡ failed s us → r ≡ s
same_reason r s ts us h = ap (λ (d : Reason × List Token). d.0) (err_is (r, ts) (s, us) h)

same_place : (r s : Reason) (ts us : List Token) → failed r ts ≡ failed s us → ts ≡ us
same_place r s ts us h = ap (λ (d : Reason × List Token). d.1) (err_is (r, ts) (s, us) h)

-- a reason that is a broken rule is not that the token is unexpected
pub not_unexpected : (r : Reason) (ts us : List Token) → is_ruled r ≡ true → failed Unexpected ts ≡ failed r us → ⊥
not_unexpected r ts us ruled h =
    let wrong : is_ruled Unexpected ≡ true = subst (λ (s : Reason). is_ruled s ≡ true) (sym (same_reason Unexpected r ts us h)) ruled in
    absurd cc

-- ---- what is answered breaks a rule

abbrev pub Finds : Reason → (List Token → List Token → Type 0) → (List Token → Read) → Type 0
Finds reason B r = (ts place : List Token) → r ts ≡ Err (reason, place) → B ts place

token_finds : (reason : Reason) → is_ruled reason ≡ true → (k : Kind) (make : Token → Node) → Finds reason (λ ts place. ⊥) (token_at k make)
token_finds reason ruled k make [] place e = not_unexpected reason [] place ruled e
token_finds reason ruled k make (t ∷ ts) place e =
    let go : (b : Bool) → cond {A = Read} b (Ok (make t, ts)) (Err (Unexpected, t ∷ ts)) ≡ Err (reason, place) → ⊥ = elim [
      | true ↦ λ h. absurd cc
      | false ↦ λ h. not_unexpected reason (t ∷ ts) place ruled h
    ] in go (same_kind k t.kind) e

or_neither : (a : Bool) → (a || false) ≡ false → a ≡ false
or_neither true h = absurd cc
or_neither false h = refl

abbrev BreaksTest : Reason → Kind → (Token → Bool) → Rule → List Token → List Token → Type 0
BreaksTest reason k test rule ts place = (t : Token) × (more : List Token) × (ts ≡ t ∷ more) × (same_kind k t.kind ≡ true) × (test t ≡ false) × (reason ≡ broken rule) × (place ≡ ts)

tested_finds : (reason : Reason) → is_ruled reason ≡ true → (k : Kind) (test : Token → Bool) (rule : Rule) → Finds reason (BreaksTest reason k test rule) (tested_at every_rule k test rule)
tested_finds reason ruled k test rule [] place e = absurd (not_unexpected reason [] place ruled e)
tested_finds reason ruled k test rule (t ∷ ts) place e =
    let allowed : same_kind k t.kind ≡ true → (b : Bool) → (test t || false) ≡ b → cond {A = Read} b (Ok (leaf t, ts)) (Err (broken rule, t ∷ ts)) ≡ Err (reason, place) → BreaksTest reason k test rule (t ∷ ts) place = λ is. elim [
      | true ↦ λ ok h. absurd cc
      | false ↦ λ ok h. (t, ts, refl, is, or_neither (test t) ok, sym (same_reason (broken rule) reason (t ∷ ts) place h), sym (same_place (broken rule) reason (t ∷ ts) place h))
    ] in
    let go : (b : Bool) → same_kind k t.kind ≡ b → cond {A = Read} b (cond (test t || false) (Ok (leaf t, ts)) (Err (broken rule, t ∷ ts))) (Err (Unexpected, t ∷ ts)) ≡ Err (reason, place) → BreaksTest reason k test rule (t ∷ ts) place = elim [
      | true ↦ λ is h. allowed is (test t || false) refl h
      | false ↦ λ is h. absurd (not_unexpected reason (t ∷ ts) place ruled h)
    ] in go (same_kind k t.kind) refl e

both_finds : (reason : Reason) (P : Node → List Token → Type 0) (B : List Token → List Token → Type 0) (C : Node → List Token → List Token → Type 0) (r : List Token → Read) (s : Node → List Token → Read)
    → Sound P r → Finds reason B r → ((a : Node) → Finds reason (C a) (s a)) → Finds reason (λ ts place. B ts place ⊎ Behind P C ts place) (both r s)
both_finds reason P B C r s sound hr hs ts place e = elim (err_place (r ts) (λ x. s x.0 x.1 >>= λ y. Ok (pair x.0 y.0, y.1)) (reason, place) e) [
  | inl d ↦ inl (hr ts place d)
  | inr w ↦ elim (err_place (s w.0.0 w.0.1) (λ y. Ok (pair w.0.0 y.0, y.1)) (reason, place) w.2) [
    | inl d ↦ let p = sound ts w.0.0 w.0.1 w.1 in inr (w.0.0, p.text, w.0.1, p.parts, p.is, hs w.0.0 w.0.1 place d)
    | inr u ↦ let no = u.2 in absurd cc
  ]
]

repeat_finds : (reason : Reason) (P : Node → List Token → Type 0) (B : List Token → List Token → Type 0) (go : List Token → Bool) (r : List Token → Read) → Sound P r → Finds reason B r
    → (n : ℕ) → Finds reason (Behind (Row P) (λ row. B)) (repeat go r n)
repeat_finds reason P B go r sound hr zero ts place e = absurd cc
repeat_finds reason P B go r sound hr (suc n) ts place e =
    let more = repeat_finds reason P B go r sound hr n in
    let split : (b : Bool) → cond {A = Read} b (r ts >>= λ x. repeat go r n x.1 >>= λ y. Ok (pair x.0 y.0, y.1)) (Ok (none, ts)) ≡ Err (reason, place) → Behind (Row P) (λ row. B) ts place = elim [
      | true ↦ λ d. elim (both_finds reason P B (λ a. Behind (Row P) (λ row. B)) r (λ a. repeat go r n) sound hr (λ a. more) ts place d) [
        | inl b ↦ (none, [], ts, refl, refl, b)
        | inr q ↦
            let p = q.5 in
            let parts : ts ≡ (q.1 ++ p.1) ++ p.2 = q.3 ∙ ap (λ (us : List Token). q.1 ++ us) p.3 ∙ sym (append_assoc q.1 p.1 p.2) in
            (pair q.0 p.0, q.1 ++ p.1, p.2, parts, (q.1, p.1, refl, q.4, p.4), p.5)
      ]
      | false ↦ λ d. absurd cc
    ] in split (go ts) e

-- what is read of a part is derived
part_sound : (left : ℕ) (f : Form) (env : Node) → Sound (Derives every_rule (Construct every_rule left) f env) (read left f env)
part_sound left f env = reader_sound every_rule every_rule (is_zero left) (allows_same every_rule) (construct every_rule true left) (Construct every_rule left) (construct_sound every_rule every_rule true (allows_same every_rule) left) f env

from_here_err : (b : Bool) (ts place : List Token) (reason : Reason) (o : Read) → from_here b ts o ≡ Err (reason, place) → (there : List Token) × (o ≡ Err (reason, there)) × (place ≡ cond (b && is_too_deep reason) ts there)
from_here_err b ts place reason (Ok x) e = absurd cc
from_here_err b ts place reason (Err d) e =
    let same : d.0 ≡ reason = same_reason d.0 reason (cond (b && is_too_deep d.0) ts d.1) place e in
    let there : cond (b && is_too_deep d.0) ts d.1 ≡ place = same_place d.0 reason (cond (b && is_too_deep d.0) ts d.1) place e in
    (d.1, ap (λ (r : Reason). failed r d.1) same, sym there ∙ ap (λ (r : Reason). cond (b && is_too_deep r) ts d.1) same)

pub reader_finds : (reason : Reason) → is_ruled reason ≡ true → (left : ℕ) (B : Nest → Node → List Token → List Token → Type 0) → ((n : Nest) (env : Node) → Finds reason (B n env) (construct every_rule true left n env))
    → (f : Form) (env : Node) → Finds reason (Breaks reason left B f env) (read left f env)
unfolding all_of
reader_finds reason ruled left B h (word k) env = token_finds reason ruled k (λ t. none)
reader_finds reason ruled left B h (keep k) env = token_finds reason ruled k (λ t. leaf t)
reader_finds reason ruled left B h (tested k test rule) env = tested_finds reason ruled k (test env) rule
reader_finds reason ruled left B h empty env = λ ts place e. absurd cc
reader_finds reason ruled left B h (seq f g) env =
    both_finds reason (Derives every_rule (Construct every_rule left) f env) (Breaks reason left B f env) (λ a. Breaks reason left B g env) (read left f env) (λ a. read left g env)
    (part_sound left f env) (reader_finds reason ruled left B h f env) (λ a. reader_finds reason ruled left B h g env)
reader_finds reason ruled left B h (within f pick g) env =
    both_finds reason (Derives every_rule (Construct every_rule left) f env) (Breaks reason left B f env) (λ a. Breaks reason left B g (pick a)) (read left f env) (λ a. read left g (pick a))
    (part_sound left f env) (reader_finds reason ruled left B h f env) (λ a. reader_finds reason ruled left B h g (pick a))
reader_finds reason ruled left B h (alt f g) env = λ ts place e.
    let hf = reader_finds reason ruled left B h f env ts place in
    let hg = reader_finds reason ruled left B h g env ts place in
    let split : (b : Bool) → cond {A = Read} b (read left f env ts) (read left g env ts) ≡ Err (reason, place) → Breaks reason left B (alt f g) env ts place = elim [
      | true ↦ λ d. inl (hf d)
      | false ↦ λ d. inr (hg d)
    ] in split (begins (starts f) ts) e
reader_finds reason ruled left B h (when test f) env = λ ts place e.
    let hf = reader_finds reason ruled left B h f env ts place in
    let split : (b : Bool) → (test env && begins (starts f) ts) ≡ b → cond {A = Read} b (read left f env ts) (Ok (none, ts)) ≡ Err (reason, place) → Breaks reason left B (when test f) env ts place = elim [
      | true ↦ λ is d. (and_left (test env) (begins (starts f) ts) is, hf d)
      | false ↦ λ is d. absurd cc
    ] in split (test env && begins (starts f) ts) refl e
reader_finds reason ruled left B h (many f) env = λ ts.
    repeat_finds reason (Derives every_rule (Construct every_rule left) f env) (Breaks reason left B f env) (begins (starts f)) (read left f env) (part_sound left f env) (reader_finds reason ruled left B h f env) (length ts) ts
reader_finds reason ruled left B h (act make f) env = λ ts place e. elim (err_place (read left f env ts) (λ x. Ok (make x.0, x.1)) (reason, place) e) [
  | inl d ↦ reader_finds reason ruled left B h f env ts place d
  | inr w ↦ let no = w.2 in absurd cc
]
reader_finds reason ruled left B h (late head f) env = λ ts place e.
    let p = from_here_err (starts_too_deep left head ts) ts place reason (read left f env ts) e in
    (p.0, reader_finds reason ruled left B h f env ts p.0 p.1, p.2)
reader_finds reason ruled left B h (nest n) env = h n env

pub construct_finds : (reason : Reason) → is_ruled reason ≡ true → (left : ℕ) (n : Nest) (env : Node) → Finds reason (BreaksConstruct reason left n env) (construct every_rule true left n env)
unfolding construct
construct_finds reason ruled zero n env ts place e =
    let split : (b : Bool) → begins (nest_starts n) ts ≡ b → cond {A = Read} b (Err (TooDeep, ts)) (Err (Unexpected, ts)) ≡ Err (reason, place) → BreaksConstruct reason zero n env ts place = elim [
      | true ↦ λ is d. (is, sym (same_reason TooDeep reason ts place d), sym (same_place TooDeep reason ts place d))
      | false ↦ λ is d. absurd (not_unexpected reason ts place ruled d)
    ] in split (begins (nest_starts n) ts) refl e
construct_finds reason ruled (suc left) n env ts place e =
    let inside = reader_finds reason ruled left (BreaksConstruct reason left) (construct_finds reason ruled left) (body n) env ts place in
    let split : (b : Bool) → cond {A = Read} b (read left (body n) env ts) (Err (Unexpected, ts)) ≡ Err (reason, place) → BreaksConstruct reason (suc left) n env ts place = elim [
      | true ↦ λ d. inside d
      | false ↦ λ d. absurd (not_unexpected reason ts place ruled d)
    ] in split (begins (nest_starts n) ts) e

-- ---- what breaks a rule begins as its form does

begins_left : (js ks : List Kind) (ts : List Token) → begins js ts ≡ true → begins (js ++ ks) ts ≡ true
begins_left js ks [] e = absurd cc
begins_left js ks (t ∷ ts) e = rw (has_append t.kind js ks, e) refl

or_true : (a : Bool) → (a || true) ≡ true
or_true true = refl
or_true false = refl

begins_right : (js ks : List Kind) (ts : List Token) → begins ks ts ≡ true → begins (js ++ ks) ts ≡ true
begins_right js ks [] e = absurd cc
begins_right js ks (t ∷ ts) e = rw (has_append t.kind js ks, e) (or_true _)

begins_behind : (e : Bool) (js ks : List Kind) (x y : List Token) → Opens e js x → begins ks y ≡ true → begins (js ++ cond e ks []) (x ++ y) ≡ true
begins_behind true js ks [] y o b = begins_right js ks y b
begins_behind false js ks [] y o b = absurd cc
begins_behind e js ks (t ∷ x) y o b = begins_left js (cond e ks []) (t ∷ (x ++ y)) o

begins_row : (ks : List Kind) (x y : List Token) → Opens true ks x → begins ks y ≡ true → begins ks (x ++ y) ≡ true
begins_row ks [] y o b = b
begins_row ks (t ∷ x) y o b = o

begins_at : (ks : List Kind) (ts us : List Token) → ts ≡ us → begins ks us ≡ true → begins ks ts ≡ true
begins_at ks ts us e b = ap (begins ks) e ∙ b

abbrev BeginsAll : (Nest → Node → List Token → List Token → Type 0) → Type 0
BeginsAll B = (n : Nest) (env : Node) (ts place : List Token) → B n env ts place → begins (nest_starts n) ts ≡ true

breaks_begin : (reason : Reason) (left : ℕ) (B : Nest → Node → List Token → List Token → Type 0) → BeginsAll B → (f : Form) (env : Node) (ts place : List Token) → Breaks reason left B f env ts place → begins (starts f) ts ≡ true
breaks_begin reason left B h (word k) env ts place p = absurd p
breaks_begin reason left B h (keep k) env ts place p = absurd p
breaks_begin reason left B h (tested k test rule) env ts place p = begins_at (k ∷ []) ts (p.0 ∷ p.1) p.2 (rw p.3 refl)
breaks_begin reason left B h empty env ts place p = absurd p
breaks_begin reason left B h (seq f g) env ts place p = elim p [
  | inl b ↦ begins_left (starts f) (cond (can_be_empty f) (starts g) []) ts (breaks_begin reason left B h f env ts place b)
  | inr q ↦
      let opens = derives_opens every_rule (Construct every_rule left) (construct_opens plain every_rule left) f env q.0 q.1 q.4 in
      begins_at (starts (seq f g)) ts (q.1 ++ q.2) q.3 (begins_behind (can_be_empty f) (starts f) (starts g) q.1 q.2 opens (breaks_begin reason left B h g env q.2 place q.5))
]
breaks_begin reason left B h (within f pick g) env ts place p = elim p [
  | inl b ↦ begins_left (starts f) (cond (can_be_empty f) (starts g) []) ts (breaks_begin reason left B h f env ts place b)
  | inr q ↦
      let opens = derives_opens every_rule (Construct every_rule left) (construct_opens plain every_rule left) f env q.0 q.1 q.4 in
      begins_at (starts (within f pick g)) ts (q.1 ++ q.2) q.3 (begins_behind (can_be_empty f) (starts f) (starts g) q.1 q.2 opens (breaks_begin reason left B h g (pick q.0) q.2 place q.5))
]
breaks_begin reason left B h (alt f g) env ts place p = elim p [
  | inl b ↦ begins_left (starts f) (starts g) ts (breaks_begin reason left B h f env ts place b)
  | inr b ↦ begins_right (starts f) (starts g) ts (breaks_begin reason left B h g env ts place b)
]
breaks_begin reason left B h (when test f) env ts place p = breaks_begin reason left B h f env ts place p.1
breaks_begin reason left B h (many f) env ts place p =
    let opens = row_opens (Derives every_rule (Construct every_rule left) f env) (can_be_empty f) (starts f) (derives_opens every_rule (Construct every_rule left) (construct_opens plain every_rule left) f env) p.0 p.1 p.4 in
    begins_at (starts f) ts (p.1 ++ p.2) p.3 (begins_row (starts f) p.1 p.2 opens (breaks_begin reason left B h f env p.2 place p.5))
breaks_begin reason left B h (act make f) env ts place p = breaks_begin reason left B h f env ts place p
breaks_begin reason left B h (late head f) env ts place p = breaks_begin reason left B h f env ts p.0 p.1
breaks_begin reason left B h (nest n) env ts place p = h n env ts place p

construct_begins : (reason : Reason) (left : ℕ) → BeginsAll (BreaksConstruct reason left)
construct_begins reason zero n env ts place p = p.0
construct_begins reason (suc left) n env ts place p = subst (λ (ks : List Kind). begins ks ts ≡ true) (plain n).begun (breaks_begin reason left (BreaksConstruct reason left) (construct_begins reason left) (body n) env ts place p)

-- ---- what breaks a rule is answered

abbrev pub Tells : Reason → (List Token → List Token → Type 0) → (List Token → Read) → Type 0
Tells reason B r = (ts place : List Token) → B ts place → r ts ≡ Err (reason, place)

pub apart_begins : (js ks : List Kind) (ts : List Token) → is_apart js ks ≡ true → begins js ts ≡ true → begins ks ts ≡ false
apart_begins js ks [] h b = refl
apart_begins js ks (t ∷ ts) h b = apart_has t.kind js ks h b

-- what is derived is read, also where places are moved
part_again : (left : ℕ) (f : Form) → is_clear f ≡ true → (env : Node) → Again (Derives every_rule (Construct every_rule left) f env) (goes_on f) (read left f env)
part_again left f clear env v text rest p stop =
    let staying = reader_again every_rule (construct every_rule false left) (Construct every_rule left) (construct_opens plain every_rule left) (construct_again plain every_rule left) f clear env v text rest p stop in
    elim (read_alike every_rule left f env (text ++ rest)) [
      | inl same ↦ sym same ∙ staying
      | inr deep ↦ let clash = sym staying ∙ deep.1.1 in absurd cc
    ]

first_tells : (reason : Reason) (r : List Token → Read) (s : Node → List Token → Read) (ts place : List Token) → r ts ≡ Err (reason, place) → both r s ts ≡ Err (reason, place)
first_tells reason r s ts place e = rw e refl

second_tells : (reason : Reason) (r : List Token → Read) (s : Node → List Token → Read) (ts x y place : List Token) (a : Node) → ts ≡ x ++ y → r (x ++ y) ≡ Ok (a, y) → s a y ≡ Err (reason, place) → both r s ts ≡ Err (reason, place)
second_tells reason r s ts x y place a parts one two = rw (parts, one, two) refl

row_tells : (reason : Reason) (P : Node → List Token → Type 0) (ks gs : List Kind) (r : List Token → Read) → Consumes r → ((v : Node) (x : List Token) → P v x → Opens false ks x) → Again P gs r → is_apart ks gs ≡ true
    → (row : Node) (x y place : List Token) → Row P row x → begins ks y ≡ true → r y ≡ Err (reason, place) → all_of (begins ks) r (x ++ y) ≡ Err (reason, place)
row_tells reason P ks gs r takes opens again apart none x y place p b e =
    rw p (all_step ks r takes y b ∙ ap (and_then (all_of (begins ks) r)) e)
row_tells reason P ks gs r takes opens again apart (pair a v) x y place p b e =
    let whole : x ++ y ≡ p.0 ++ (p.1 ++ y) = ap (λ (us : List Token). us ++ y) p.2 ∙ append_assoc p.0 p.1 y in
    let next : begins ks (p.1 ++ y) ≡ true = begins_row ks p.1 y (row_opens P false ks opens v p.1 p.4) b in
    let one : r (p.0 ++ (p.1 ++ y)) ≡ Ok (a, p.1 ++ y) = again a p.0 (p.1 ++ y) p.3 (apart_begins ks gs (p.1 ++ y) apart next) in
    let is : begins ks (p.0 ++ (p.1 ++ y)) ≡ true = begins_with ks p.0 (p.1 ++ y) (opens a p.0 p.3) in
    let others = row_tells reason P ks gs r takes opens again apart v p.1 y place p.4 b e in
    let behind : and_then (all_of (begins ks) r) (Ok (a, p.1 ++ y)) ≡ Err (reason, place) = rw others refl in
    ap (all_of (begins ks) r) whole ∙ all_step ks r takes (p.0 ++ (p.1 ++ y)) is ∙ ap (and_then (all_of (begins ks) r)) one ∙ behind
row_tells reason P ks gs r takes opens again apart (leaf t) x y place p b e = absurd p
row_tells reason P ks gs r takes opens again apart (num n) x y place p b e = absurd p
row_tells reason P ks gs r takes opens again apart (written s) x y place p b e = absurd p
row_tells reason P ks gs r takes opens again apart (at q) x y place p b e = absurd p
row_tells reason P ks gs r takes opens again apart (tag n v) x y place p b e = absurd p

pub reader_tells : (reason : Reason) (left : ℕ) (B : Nest → Node → List Token → List Token → Type 0) → BeginsAll B → ((n : Nest) (env : Node) → Tells reason (B n env) (construct every_rule true left n env))
    → (f : Form) → is_clear f ≡ true → (env : Node) → Tells reason (Breaks reason left B f env) (read left f env)
reader_tells reason left B hb h (word k) clear env ts place p = absurd p
reader_tells reason left B hb h (keep k) clear env ts place p = absurd p
reader_tells reason left B hb h (tested k test rule) clear env ts place p = rw (p.6, p.2, p.3, p.4, p.5) refl
reader_tells reason left B hb h empty clear env ts place p = absurd p
reader_tells reason left B hb h (seq f g) clear env ts place p =
    let clear_f = and_left (is_clear f) (is_clear g && is_apart (starts g) (goes_on f)) clear in
    let later = and_right (is_clear f) (is_clear g && is_apart (starts g) (goes_on f)) clear in
    let clear_g = and_left (is_clear g) (is_apart (starts g) (goes_on f)) later in
    let apart = and_right (is_clear g) (is_apart (starts g) (goes_on f)) later in
    elim p [
      | inl b ↦ first_tells reason (read left f env) (λ a. read left g env) ts place (reader_tells reason left B hb h f clear_f env ts place b)
      | inr q ↦
          let stop = apart_begins (starts g) (goes_on f) q.2 apart (breaks_begin reason left B hb g env q.2 place q.5) in
          second_tells reason (read left f env) (λ a. read left g env) ts q.1 q.2 place q.0 q.3 (part_again left f clear_f env q.0 q.1 q.2 q.4 stop) (reader_tells reason left B hb h g clear_g env q.2 place q.5)
    ]
reader_tells reason left B hb h (within f pick g) clear env ts place p =
    let clear_f = and_left (is_clear f) (is_clear g && is_apart (starts g) (goes_on f)) clear in
    let later = and_right (is_clear f) (is_clear g && is_apart (starts g) (goes_on f)) clear in
    let clear_g = and_left (is_clear g) (is_apart (starts g) (goes_on f)) later in
    let apart = and_right (is_clear g) (is_apart (starts g) (goes_on f)) later in
    elim p [
      | inl b ↦ first_tells reason (read left f env) (λ a. read left g (pick a)) ts place (reader_tells reason left B hb h f clear_f env ts place b)
      | inr q ↦
          let stop = apart_begins (starts g) (goes_on f) q.2 apart (breaks_begin reason left B hb g (pick q.0) q.2 place q.5) in
          second_tells reason (read left f env) (λ a. read left g (pick a)) ts q.1 q.2 place q.0 q.3 (part_again left f clear_f env q.0 q.1 q.2 q.4 stop) (reader_tells reason left B hb h g clear_g (pick q.0) q.2 place q.5)
    ]
reader_tells reason left B hb h (alt f g) clear env ts place p =
    let clear_f = and_left (is_clear f) (is_clear g && (not (can_be_empty f) && is_apart (starts g) (starts f))) clear in
    let later = and_right (is_clear f) (is_clear g && (not (can_be_empty f) && is_apart (starts g) (starts f))) clear in
    let clear_g = and_left (is_clear g) (not (can_be_empty f) && is_apart (starts g) (starts f)) later in
    let last = and_right (is_clear g) (not (can_be_empty f) && is_apart (starts g) (starts f)) later in
    let apart = and_right (not (can_be_empty f)) (is_apart (starts g) (starts f)) last in
    elim p [
      | inl b ↦ rw (breaks_begin reason left B hb f env ts place b) (reader_tells reason left B hb h f clear_f env ts place b)
      | inr b ↦ rw (apart_begins (starts g) (starts f) ts apart (breaks_begin reason left B hb g env ts place b)) (reader_tells reason left B hb h g clear_g env ts place b)
    ]
reader_tells reason left B hb h (when test f) clear env ts place p =
    rw (p.0, breaks_begin reason left B hb f env ts place p.1) (reader_tells reason left B hb h f (and_left (is_clear f) (not (can_be_empty f)) clear) env ts place p.1)
reader_tells reason left B hb h (many f) clear env ts place p =
    let clear_f = and_left (is_clear f) (not (can_be_empty f) && is_apart (starts f) (goes_on f)) clear in
    let last = and_right (is_clear f) (not (can_be_empty f) && is_apart (starts f) (goes_on f)) clear in
    let some = not_true (can_be_empty f) (and_left (not (can_be_empty f)) (is_apart (starts f) (goes_on f)) last) in
    let apart = and_right (not (can_be_empty f)) (is_apart (starts f) (goes_on f)) last in
    let opens : (w : Node) (x : List Token) → Derives every_rule (Construct every_rule left) f env w x → Opens false (starts f) x = λ w x q.
    subst (λ (e : Bool). Opens e (starts f) x) some (derives_opens every_rule (Construct every_rule left) (construct_opens plain every_rule left) f env w x q) in
    ap (all_of (begins (starts f)) (read left f env)) p.3
    ∙ row_tells reason (Derives every_rule (Construct every_rule left) f env) (starts f) (goes_on f) (read left f env) (consumes every_rule (is_zero left) true left f env some) opens (part_again left f clear_f env) apart p.0 p.1 p.2 place p.4
    (breaks_begin reason left B hb f env p.2 place p.5) (reader_tells reason left B hb h f clear_f env p.2 place p.5)
reader_tells reason left B hb h (act make f) clear env ts place p = rw (reader_tells reason left B hb h f clear env ts place p) refl
reader_tells reason left B hb h (late head f) clear env ts place p =
    ap (from_here (starts_too_deep left head ts) ts) (reader_tells reason left B hb h f clear env ts p.0 p.1) ∙ ap (failed reason) (sym p.2)
reader_tells reason left B hb h (nest n) clear env ts place p = h n env ts place p

pub construct_tells : (reason : Reason) (left : ℕ) (n : Nest) (env : Node) → Tells reason (BreaksConstruct reason left n env) (construct every_rule true left n env)
unfolding construct
construct_tells reason zero n env ts place p = rw (p.0, p.1, p.2) refl
construct_tells reason (suc left) n env ts place p =
    rw (construct_begins reason (suc left) n env ts place p) (reader_tells reason left (BreaksConstruct reason left) (construct_begins reason left) (construct_tells reason left) (body n) (plain n).clear env ts place p)

pub all_begin : (reason : Reason) (left : ℕ) → BeginsAll (BreaksConstruct reason left)
all_begin = construct_begins
