-- With more room, or with fewer rules, the same is read, unless there was too little room or a rule was broken.
use Rattle.std.proofs.Common.{◌≡◌, ℕ, zero, suc, ◌+◌, Bool, true, false, cond, List, [], ◌∷◌, length, Ok, Err, refl, sym, ap, subst, ◌∙◌, inl, inr, arith}
use Rattle.std.specs.Prelude.{◌⊎◌, ◌&&◌, ◌||◌, not}
use Rattle.ctl_tree.specs.declared.token.Kind.{Kind}
use Rattle.ctl_tree.specs.declared.token.Token.{Token}
use Rattle.ctl_grammar.specs.declared.refused.Reason.{Reason}
use Rattle.ctl_grammar.specs.declared.refused.Reason.TheVariants.{Unexpected, TooDeep}
use Rattle.ctl_grammar.specs.Kind.{same_kind}
use Rattle.ctl_grammar.specs.Form.{Node, none, leaf, num, written, at, pair, tag, Nest, Rule, Form, word, keep, tested, empty, seq, within, alt, when, many, act, late, nest, starts, nest_starts, Rules}
use Rattle.ctl_grammar.specs.Grammar.{body}
use Rattle.ctl_grammar.specs.Reading.{Read, ◌>>=◌, broken, tested_at, begins, both, repeat, all_of, reader, construct}
use Rattle.ctl_grammar.specs.Derivation.{Split, Row, Both, Derives, Construct, AnyConstruct}
use Rattle.ctl_grammar.proofs.Starts.{both_parts}
use Rattle.ctl_grammar.proofs.Sound.{Allows}
use Rattle.ctl_grammar.proofs.Again.{from_here_same}

-- one of these reasons stopped the reading
abbrev pub Stopped : (Reason → Bool) → Read → Type 0
Stopped lost o = (r : Reason) × (here : List Token) × (o ≡ Err (r, here)) × (lost r ≡ true)

-- the same, unless one of these reasons stopped the first
abbrev pub Agrees : (Reason → Bool) → (List Token → Read) → (List Token → Read) → Type 0
Agrees lost r s = (ts : List Token) → (s ts ≡ r ts) ⊎ Stopped lost (r ts)

bind_agrees : (lost : Reason → Bool) (o p : Read) (g h : Node × List Token → Read) → (p ≡ o) ⊎ Stopped lost o → ((x : Node × List Token) → (h x ≡ g x) ⊎ Stopped lost (g x)) → ((p >>= h) ≡ (o >>= g)) ⊎ Stopped lost (o >>= g)
bind_agrees lost (Ok x) p g h (inl e) k = elim (k x) [ inl d ↦ inl (rw (e, d) refl) | inr d ↦ inr d ]
bind_agrees lost (Err f) p g h (inl e) k = inl (rw e refl)
bind_agrees lost o p g h (inr e) k = inr (e.0, e.1, rw e.2 refl, e.3)

cond_agrees : (lost : Reason → Bool) (b : Bool) (o p o' p' : Read) → (p ≡ o) ⊎ Stopped lost o → (p' ≡ o') ⊎ Stopped lost o' → (cond b p p' ≡ cond b o o') ⊎ Stopped lost (cond b o o')
cond_agrees lost true o p o' p' h k = h
cond_agrees lost false o p o' p' h k = k

both_agrees : (lost : Reason → Bool) (r r' : List Token → Read) (s s' : Node → List Token → Read) → Agrees lost r r' → ((a : Node) → Agrees lost (s a) (s' a)) → Agrees lost (both r s) (both r' s')
both_agrees lost r r' s s' h k ts =
    bind_agrees lost (r ts) (r' ts) (λ x. s x.0 x.1 >>= λ y. Ok (pair x.0 y.0, y.1)) (λ x. s' x.0 x.1 >>= λ y. Ok (pair x.0 y.0, y.1)) (h ts) (λ x.
    bind_agrees lost (s x.0 x.1) (s' x.0 x.1) (λ y. Ok (pair x.0 y.0, y.1)) (λ y. Ok (pair x.0 y.0, y.1)) (k x.0 x.1) (λ y. inl refl))

repeat_agrees : (lost : Reason → Bool) (go : List Token → Bool) (r s : List Token → Read) → Agrees lost r s → (n : ℕ) → Agrees lost (repeat go r n) (repeat go s n)
repeat_agrees lost go r s h zero ts = inl refl
repeat_agrees lost go r s h (suc n) ts =
    let more = repeat_agrees lost go r s h n in
    cond_agrees lost (go ts) (r ts >>= λ x. repeat go r n x.1 >>= λ y. Ok (pair x.0 y.0, y.1)) (s ts >>= λ x. repeat go s n x.1 >>= λ y. Ok (pair x.0 y.0, y.1)) (Ok (none, ts)) (Ok (none, ts))
    (bind_agrees lost (r ts) (s ts) (λ x. repeat go r n x.1 >>= λ y. Ok (pair x.0 y.0, y.1)) (λ x. repeat go s n x.1 >>= λ y. Ok (pair x.0 y.0, y.1)) (h ts) (λ x.
    bind_agrees lost (repeat go r n x.1) (repeat go s n x.1) (λ y. Ok (pair x.0 y.0, y.1)) (λ y. Ok (pair x.0 y.0, y.1)) (more x.1) (λ y. inl refl)))
    (inl refl)

-- the second allows what the first allows, or a broken rule is one of the reasons
abbrev pub Frees : (Reason → Bool) → Rules → Rules → Type 0
Frees lost c d = (rule : Rule) (b : Bool) → ((b || not (d rule)) ≡ (b || not (c rule))) ⊎ (((b || not (c rule)) ≡ false) × (lost (broken rule) ≡ true))

tested_agrees : (lost : Reason → Bool) (c d : Rules) → Frees lost c d → (k : Kind) (test : Token → Bool) (rule : Rule) → Agrees lost (tested_at c k test rule) (tested_at d k test rule)
tested_agrees lost c d frees k test rule [] = inl refl
tested_agrees lost c d frees k test rule (t ∷ ts) =
    cond_agrees lost (same_kind k t.kind) (cond (test t || not (c rule)) (Ok (leaf t, ts)) (Err (broken rule, t ∷ ts))) (cond (test t || not (d rule)) (Ok (leaf t, ts)) (Err (broken rule, t ∷ ts))) (Err (Unexpected, t ∷ ts)) (Err (Unexpected, t ∷ ts))
    (elim (frees rule (test t)) [
      | inl e ↦ inl (ap (λ (b : Bool). cond {A = Read} b (Ok (leaf t, ts)) (Err (broken rule, t ∷ ts))) e)
      | inr e ↦ inr (broken rule, t ∷ ts, ap (λ (b : Bool). cond {A = Read} b (Ok (leaf t, ts)) (Err (broken rule, t ∷ ts))) e.0, e.1)
    ])
    (inl refl)

reader_agrees : (lost : Reason → Bool) (c d : Rules) → Frees lost c d → (less more : Nest → Node → List Token → Read) → ((n : Nest) (env : Node) → Agrees lost (less n env) (more n env))
    → (f : Form) (env : Node) → Agrees lost (reader c false less f env) (reader d false more f env)
unfolding all_of
reader_agrees lost c d frees less more h (word k) env ts = inl refl
reader_agrees lost c d frees less more h (keep k) env ts = inl refl
reader_agrees lost c d frees less more h (tested k test rule) env ts = tested_agrees lost c d frees k (test env) rule ts
reader_agrees lost c d frees less more h empty env ts = inl refl
reader_agrees lost c d frees less more h (seq f g) env ts =
    both_agrees lost (reader c false less f env) (reader d false more f env) (λ a. reader c false less g env) (λ a. reader d false more g env) (reader_agrees lost c d frees less more h f env) (λ a. reader_agrees lost c d frees less more h g env) ts
reader_agrees lost c d frees less more h (within f pick g) env ts =
    both_agrees lost (reader c false less f env) (reader d false more f env) (λ a. reader c false less g (pick a)) (λ a. reader d false more g (pick a)) (reader_agrees lost c d frees less more h f env) (λ a. reader_agrees lost c d frees less more h g (pick a)) ts
reader_agrees lost c d frees less more h (alt f g) env ts =
    cond_agrees lost (begins (starts f) ts) (reader c false less f env ts) (reader d false more f env ts) (reader c false less g env ts) (reader d false more g env ts) (reader_agrees lost c d frees less more h f env ts) (reader_agrees lost c d frees less more h g env ts)
reader_agrees lost c d frees less more h (when test f) env ts =
    cond_agrees lost (test env && begins (starts f) ts) (reader c false less f env ts) (reader d false more f env ts) (Ok (none, ts)) (Ok (none, ts)) (reader_agrees lost c d frees less more h f env ts) (inl refl)
reader_agrees lost c d frees less more h (many f) env ts = repeat_agrees lost (begins (starts f)) (reader c false less f env) (reader d false more f env) (reader_agrees lost c d frees less more h f env) (length ts) ts
reader_agrees lost c d frees less more h (act make f) env ts = bind_agrees lost (reader c false less f env ts) (reader d false more f env ts) (λ x. Ok (make x.0, x.1)) (λ x. Ok (make x.0, x.1)) (reader_agrees lost c d frees less more h f env ts) (λ x. inl refl)
reader_agrees lost c d frees less more h (late head f) env ts =
    let inside = reader_agrees lost c d frees less more h f env ts in
    let one = from_here_same ts (reader c false less f env ts) in
    let two = from_here_same ts (reader d false more f env ts) in
    elim inside [
      | inl e ↦ inl (two ∙ e ∙ sym one)
      | inr e ↦ inr (e.0, e.1, one ∙ e.2, e.3)
    ]
reader_agrees lost c d frees less more h (nest n) env ts = h n env ts

construct_agrees_one : (lost : Reason → Bool) (c d : Rules) → Frees lost c d → lost TooDeep ≡ true → (left extra : ℕ) (n : Nest) (env : Node) → Agrees lost (construct c false left n env) (construct d false (left + extra) n env)
unfolding construct
construct_agrees_one lost c d frees deep zero extra n env ts =
    let outside : (b : Bool) → begins (nest_starts n) ts ≡ b → (construct d false (zero + extra) n env ts ≡ cond b (Err (TooDeep, ts)) (Err (Unexpected, ts))) ⊎ Stopped lost (cond b (Err (TooDeep, ts)) (Err (Unexpected, ts))) = elim [
      | true ↦ λ is. inr (TooDeep, ts, refl, deep)
      | false ↦ λ is. inl (
          let none_there : (m : ℕ) → construct d false m n env ts ≡ Err (Unexpected, ts) = elim [ zero ↦ rw is refl | suc m ↦ rw is refl ] in
          none_there (zero + extra))
    ] in outside (begins (nest_starts n) ts) refl
construct_agrees_one lost c d frees deep (suc left) extra n env ts =
    let sum : suc left + extra ≡ suc (left + extra) = omega arith in
    let inside = cond_agrees lost (begins (nest_starts n) ts) (reader c false (construct c false left) (body n) env ts) (reader d false (construct d false (left + extra)) (body n) env ts) (Err (Unexpected, ts)) (Err (Unexpected, ts))
    (reader_agrees lost c d frees (construct c false left) (construct d false (left + extra)) (construct_agrees_one lost c d frees deep left extra) (body n) env ts) (inl refl) in
    subst (λ (m : ℕ). (construct d false m n env ts ≡ construct c false (suc left) n env ts) ⊎ Stopped lost (construct c false (suc left) n env ts)) (sym sum) inside

pub read_agrees : (lost : Reason → Bool) (c d : Rules) → Frees lost c d → lost TooDeep ≡ true → (left extra : ℕ) (f : Form) (env : Node) → Agrees lost (reader c false (construct c false left) f env) (reader d false (construct d false (left + extra)) f env)
read_agrees lost c d frees deep left extra f env = reader_agrees lost c d frees (construct c false left) (construct d false (left + extra)) (construct_agrees_one lost c d frees deep left extra) f env

-- in the same room
construct_agrees_beside : (lost : Reason → Bool) (c d : Rules) → Frees lost c d → (left : ℕ) (n : Nest) (env : Node) → Agrees lost (construct c false left n env) (construct d false left n env)
unfolding construct
construct_agrees_beside lost c d frees zero n env ts = inl refl
construct_agrees_beside lost c d frees (suc left) n env ts =
    cond_agrees lost (begins (nest_starts n) ts) (reader c false (construct c false left) (body n) env ts) (reader d false (construct d false left) (body n) env ts) (Err (Unexpected, ts)) (Err (Unexpected, ts))
    (reader_agrees lost c d frees (construct c false left) (construct d false left) (construct_agrees_beside lost c d frees left) (body n) env ts) (inl refl)

pub read_agrees_beside : (lost : Reason → Bool) (c d : Rules) → Frees lost c d → (left : ℕ) (f : Form) (env : Node) → Agrees lost (reader c false (construct c false left) f env) (reader d false (construct d false left) f env)
read_agrees_beside lost c d frees left f env = reader_agrees lost c d frees (construct c false left) (construct d false left) (construct_agrees_beside lost c d frees left) f env

-- ---- the same for what is derived

abbrev pub Within : (Node → List Token → Type 0) → (Node → List Token → Type 0) → Type 0
Within P Q = (v : Node) (ts : List Token) → P v ts → Q v ts

row_within : (P Q : Node → List Token → Type 0) → Within P Q → Within (Row P) (Row Q)
row_within P Q h none ts p = p
row_within P Q h (pair a b) ts p = (p.0, p.1, p.2, h a p.0 p.3, row_within P Q h b p.1 p.4)
row_within P Q h (leaf t) ts p = p
row_within P Q h (num n) ts p = p
row_within P Q h (written s) ts p = p
row_within P Q h (at q) ts p = p
row_within P Q h (tag n v) ts p = p

pub both_made : (P : Node → List Token → Type 0) (Q : Node → Node → List Token → Type 0) (v a b : Node) (ts : List Token) → v ≡ pair a b → Split (P a) (Q a b) ts → Both P Q v ts
both_made P Q v a b ts e p = subst (λ (w : Node). Both P Q w ts) (sym e) p

both_within : (P R : Node → List Token → Type 0) (Q S : Node → Node → List Token → Type 0) → Within P R → ((a : Node) → Within (Q a) (S a)) → Within (Both P Q) (Both R S)
both_within P R Q S h k v ts p =
    let q = both_parts P Q v ts p in
    both_made R S v q.0 q.1 ts q.2 (q.3.0, q.3.1, q.3.2, h q.0 q.3.0 q.3.3, k q.0 q.1 q.3.1 q.3.4)

pub derives_within : (c d : Rules) → Allows c d → (I J : Nest → Node → Node → List Token → Type 0) → ((n : Nest) (env : Node) → Within (I n env) (J n env)) → (f : Form) (env : Node) → Within (Derives c I f env) (Derives d J f env)
derives_within c d al I J h (word k) env v ts p = p
derives_within c d al I J h (keep k) env v ts p = p
derives_within c d al I J h (tested k test rule) env v ts p = (p.0, p.1, p.2, p.3, al rule (test env p.0) p.4)
derives_within c d al I J h empty env v ts p = p
derives_within c d al I J h (seq f g) env v ts p = both_within (Derives c I f env) (Derives d J f env) (λ a. Derives c I g env) (λ a. Derives d J g env) (derives_within c d al I J h f env) (λ a. derives_within c d al I J h g env) v ts p
derives_within c d al I J h (within f pick g) env v ts p = both_within (Derives c I f env) (Derives d J f env) (λ a. Derives c I g (pick a)) (λ a. Derives d J g (pick a)) (derives_within c d al I J h f env) (λ a. derives_within c d al I J h g (pick a)) v ts p
derives_within c d al I J h (alt f g) env v ts p = elim p [ inl q ↦ inl (derives_within c d al I J h f env v ts q) | inr q ↦ inr (derives_within c d al I J h g env v ts q) ]
derives_within c d al I J h (when test f) env v ts p = elim p [ inl q ↦ inl (q.0, derives_within c d al I J h f env v ts q.1) | inr q ↦ inr q ]
derives_within c d al I J h (many f) env v ts p = row_within (Derives c I f env) (Derives d J f env) (derives_within c d al I J h f env) v ts p
derives_within c d al I J h (act make f) env v ts p = (p.0, p.1, derives_within c d al I J h f env p.0 ts p.2)
derives_within c d al I J h (late head f) env v ts p = derives_within c d al I J h f env v ts p
derives_within c d al I J h (nest n) env v ts p = h n env v ts p

pub construct_within : (c d : Rules) → Allows c d → (left extra : ℕ) (n : Nest) (env : Node) → Within (Construct c left n env) (Construct d (left + extra) n env)
construct_within c d al zero extra n env v ts p = absurd p
construct_within c d al (suc left) extra n env v ts p =
    let sum : suc left + extra ≡ suc (left + extra) = omega arith in
    subst (λ (m : ℕ). Construct d m n env v ts) (sym sum) (derives_within c d al (Construct c left) (Construct d (left + extra)) (construct_within c d al left extra) (body n) env v ts p)

-- more room, and fewer rules
pub deeper : (c d : Rules) → Allows c d → (left more extra : ℕ) (f : Form) (env : Node) → left + extra ≡ more → Within (Derives c (Construct c left) f env) (Derives d (Construct d more) f env)
deeper c d al left more extra f env e v ts p = subst (λ (m : ℕ). Derives d (Construct d m) f env v ts) e (derives_within c d al (Construct c left) (Construct d (left + extra)) (construct_within c d al left extra) f env v ts p)

abbrev Gathers : Rules → (Node → List Token → Type 0) → (ℕ → Node → List Token → Type 0) → Type 0
Gathers c P Q = (v : Node) (ts : List Token) → P v ts → (d : ℕ) × Q d v ts

row_gather : (c : Rules) (f : Form) (env : Node) → Gathers c (Derives c (AnyConstruct c) f env) (λ d. Derives c (Construct c d) f env) → Gathers c (Row (Derives c (AnyConstruct c) f env)) (λ d. Row (Derives c (Construct c d) f env))
row_gather c f env h none ts p = (0, p)
row_gather c f env h (pair a b) ts p =
    let one = h a p.0 p.3 in
    let two = row_gather c f env h b p.1 p.4 in
    let same : Allows c c = λ rule x e. e in
    (one.0 + two.0, (p.0, p.1, p.2, deeper c c same one.0 (one.0 + two.0) two.0 f env refl a p.0 one.1, deeper c c same two.0 (one.0 + two.0) one.0 (many f) env (omega arith) b p.1 two.1))
row_gather c f env h (leaf t) ts p = absurd p
row_gather c f env h (num n) ts p = absurd p
row_gather c f env h (written s) ts p = absurd p
row_gather c f env h (at q) ts p = absurd p
row_gather c f env h (tag n v) ts p = absurd p

both_gather : (c : Rules) (f g : Form) (env : Node) (pick : Node → Node) → Gathers c (Derives c (AnyConstruct c) f env) (λ d. Derives c (Construct c d) f env) → ((a : Node) → Gathers c (Derives c (AnyConstruct c) g (pick a)) (λ d. Derives c (Construct c d) g (pick a)))
    → Gathers c (Both (Derives c (AnyConstruct c) f env) (λ a. Derives c (AnyConstruct c) g (pick a))) (λ d. Both (Derives c (Construct c d) f env) (λ a. Derives c (Construct c d) g (pick a)))
both_gather c f g env pick hf hg v ts p =
    let q = both_parts (Derives c (AnyConstruct c) f env) (λ a. Derives c (AnyConstruct c) g (pick a)) v ts p in
    let one = hf q.0 q.3.0 q.3.3 in
    let two = hg q.0 q.1 q.3.1 q.3.4 in
    let same : Allows c c = λ rule x e. e in (
      one.0 + two.0,
      both_made (Derives c (Construct c (one.0 + two.0)) f env) (λ a. Derives c (Construct c (one.0 + two.0)) g (pick a)) v q.0 q.1 ts q.2
          (q.3.0, q.3.1, q.3.2, deeper c c same one.0 (one.0 + two.0) two.0 f env refl q.0 q.3.0 one.1, deeper c c same two.0 (one.0 + two.0) one.0 g (pick q.0) (omega arith) q.1 q.3.1 two.1),
    )

-- the depths of the parts are below one depth
pub gather : (c : Rules) (f : Form) (env : Node) → Gathers c (Derives c (AnyConstruct c) f env) (λ d. Derives c (Construct c d) f env)
gather c (word k) env v ts p = (0, p)
gather c (keep k) env v ts p = (0, p)
gather c (tested k test rule) env v ts p = (0, p)
gather c empty env v ts p = (0, p)
gather c (seq f g) env v ts p = both_gather c f g env (λ a. env) (gather c f env) (λ a. gather c g env) v ts p
gather c (within f pick g) env v ts p = both_gather c f g env pick (gather c f env) (λ a. gather c g (pick a)) v ts p
gather c (alt f g) env v ts p = elim p [
  | inl q ↦ let one = gather c f env v ts q in (one.0, inl one.1)
  | inr q ↦ let one = gather c g env v ts q in (one.0, inr one.1)
]
gather c (when test f) env v ts p = elim p [
  | inl q ↦ let one = gather c f env v ts q.1 in (one.0, inl (q.0, one.1))
  | inr q ↦ (0, inr q)
]
gather c (many f) env v ts p = row_gather c f env (gather c f env) v ts p
gather c (act make f) env v ts p = let one = gather c f env p.0 ts p.2 in (one.0, (p.0, p.1, one.1))
gather c (late head f) env v ts p = gather c f env v ts p
gather c (nest n) env v ts p = p
