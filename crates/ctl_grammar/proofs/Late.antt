-- Bodies that are too deep: where no more construct may be opened and the tokens ahead begin a body, the item is too deep.
use Rattle.std.proofs.Common.{◌≡◌, ◌≢◌, ℕ, zero, suc, Bool, true, false, List, [], ◌∷◌, Ok, Err, refl, sym, ap, subst, ◌∙◌, inl, inr}
use Rattle.std.specs.Prelude.{◌||◌, ◌⊎◌}
use Rattle.ctl_tree.specs.declared.token.Kind.{Kind}
use Rattle.ctl_tree.specs.declared.token.Kind.TheVariants as kinds
use Rattle.ctl_tree.specs.declared.token.Token.{Token}
use Rattle.ctl_grammar.specs.declared.refused.Reason.TheVariants.{TooDeep}
use Rattle.ctl_grammar.specs.Kind.{code, same_kind}
use Rattle.ctl_grammar.specs.Form.{Node, none, leaf, pair, Nest, Formals, Body, BareBody, Form, word, empty, seq, within, alt, act, late, nest, ◌▸◌, has, is_apart, starts, nest_starts, every_rule, no_rule}
use Rattle.ctl_grammar.specs.Nodes.{first, second, part_2, behind_2, part_3, behind_4, place, yes, part_2_letters}
use Rattle.ctl_grammar.specs.Grammar.{spot, apart, identifier, selector, selectors, dotted, next_identifier, next_identifiers, identifiers, mode_behind_in, mode, formal, next_formal, formal_list, in_formals, optional_formals, procedure, function, specification, instance, behind, plain_formals, start_of_function, start_of_procedure, start_of_function_body, start_of_body, start_of_bare_body, behind_start, start_of_procedure_body, completed, behind_is, behind_name, heading, plain_procedure, completed_specification, completed_function, completed_procedure}
use Rattle.ctl_grammar.specs.Reading.{Read, ◌>>=◌, begins, is_read, from_here, nowhere, is_zero, construct, read, starts_too_deep}
use Rattle.ctl_grammar.specs.Text.{PlacesDeepBodies}
use Rattle.ctl_grammar.proofs.Starts.{has_same, apart_has}
use Rattle.ctl_grammar.proofs.Again.{from_here_same}
use Rattle.ctl_grammar.proofs.Moved.{Deep}
use Rattle.ctl_grammar.proofs.Constructs.{construct_full}
use Rattle.ctl_grammar.proofs.Ahead.{is_simple, simple_same, ahead, ahead_seq, ahead_act, ahead_begins, kept, deep_bind, deep_then}

-- a form that is read where no more construct may be opened
abbrev full : Form → Node → List Token → Read
full f env ts = read zero f env ts

pairs : (x z : Node × List Token) → (let o : Read = Ok x in o) ≡ Ok z → x ≡ z
pairs x z h = cc

apart_begins : (js ks : List Kind) (ts : List Token) → is_apart js ks ≡ true → begins js ts ≡ true → begins ks ts ≡ false
apart_begins js ks [] h b = refl
apart_begins js ks (t ∷ ts) h b = apart_has t.kind js ks h b

-- ---- the place of what is too deep

pub late_past : (left : ℕ) (head f : Form) (env : Node) (ts : List Token) → starts_too_deep left head ts ≡ false → read left (late head f) env ts ≡ read left f env ts
late_past left head f env ts h = ap (λ (b : Bool). from_here b ts (read left f env ts)) h ∙ from_here_same ts (read left f env ts)

late_deep : (left : ℕ) (head f : Form) (env : Node) (ts : List Token) → starts_too_deep left head ts ≡ true → Deep (read left f env ts) → read left (late head f) env ts ≡ Err (TooDeep, ts)
late_deep left head f env ts h d = ap (λ (b : Bool). from_here b ts (read left f env ts)) h ∙ ap (λ (o : Read). from_here true ts o) d.1

-- what is read ahead where no more construct may be opened
was_read : (o : Read) → is_read o ≡ true → (y : Node × List Token) × (o ≡ Ok y)
was_read (Ok y) e = (y, refl)
was_read (Err d) e = absurd cc

-- ---- the parts of a heading

or_false : (a : Bool) → (a || false) ≡ true → a ≡ true
or_false true h = refl
or_false false h = h

-- the next token is of the kind that was read ahead
next_has : (k : Kind) (ts : List Token) (y : Node × List Token) → ahead (word k) ts ≡ Ok y → (ks : List Kind) → begins ks ts ≡ has k ks
next_has k [] y e ks = absurd cc
next_has k (t ∷ ts) y e ks = sym (has_same k t.kind ks (or_false (same_kind k t.kind) (ahead_begins (word k) refl (t ∷ ts) y e)))

-- a construct whose first token is next
opened : (n : Nest) (env : Node) (ts : List Token) → begins (nest_starts n) ts ≡ true → Deep (full (nest n) env ts)
opened n env ts b = (ts, construct_full zero n env ts b refl)

-- a choice, one token ahead
takes_left : (f g : Form) (env : Node) (ts : List Token) → begins (starts f) ts ≡ true → full (alt f g) env ts ≡ full f env ts
takes_left f g env ts b = rw b refl

takes_right : (f g : Form) (env : Node) (ts : List Token) → begins (starts f) ts ≡ false → full (alt f g) env ts ≡ full g env ts
takes_right f g env ts b = rw b refl

deep_same : (o p : Read) → o ≡ p → Deep p → Deep o
deep_same o p e d = (d.0, e ∙ d.1)

deep_act : (make : Node → Node) (f : Form) (env : Node) (ts : List Token) → Deep (full f env ts) → Deep (full (act make f) env ts)
deep_act make f env ts d = deep_bind (full f env ts) (λ x. Ok (make x.0, x.1)) d

deep_first : (f g : Form) (env : Node) (ts : List Token) → Deep (full f env ts) → Deep (full (seq f g) env ts)
deep_first f g env ts d = deep_bind (full f env ts) (λ x. full g env x.1 >>= λ y. Ok (pair x.0 y.0, y.1)) d

deep_second : (f g : Form) (env : Node) (ts : List Token) (x : Node × List Token) → full f env ts ≡ Ok x → Deep (full g env x.1) → Deep (full (seq f g) env ts)
deep_second f g env ts x e d = deep_then (full f env ts) (λ x. full g env x.1 >>= λ y. Ok (pair x.0 y.0, y.1)) x e (deep_bind (full g env x.1) (λ y. Ok (pair x.0 y.0, y.1)) d)

deep_within_first : (f : Form) (pick : Node → Node) (g : Form) (env : Node) (ts : List Token) → Deep (full f env ts) → Deep (full (within f pick g) env ts)
deep_within_first f pick g env ts d = deep_bind (full f env ts) (λ x. full g (pick x.0) x.1 >>= λ y. Ok (pair x.0 y.0, y.1)) d

deep_within : (f : Form) (pick : Node → Node) (g : Form) (env : Node) (ts : List Token) (x : Node × List Token) → full f env ts ≡ Ok x → Deep (full g (pick x.0) x.1) → Deep (full (within f pick g) env ts)
deep_within f pick g env ts x e d = deep_then (full f env ts) (λ x. full g (pick x.0) x.1 >>= λ y. Ok (pair x.0 y.0, y.1)) x e (deep_bind (full g (pick x.0) x.1) (λ y. Ok (pair x.0 y.0, y.1)) d)

-- the place of a word, where the word was read ahead
placed : (k : Kind) (ts : List Token) (a : Node × List Token) → ahead (word k) ts ≡ Ok a → (v : Node) × (full (spot k) none ts ≡ Ok (v, a.1))
placed k ts a e = let p = kept k (λ t. leaf t) ts a e in (place p.0, ap (λ (o : Read). o >>= λ x. Ok (place x.0, x.1)) p.1)

-- a simple form that was read ahead
simply : (f : Form) → is_simple f ≡ true → (ts : List Token) (a : Node × List Token) → ahead f ts ≡ Ok a → full f none ts ≡ Ok a
simply f h ts a e = simple_same every_rule true no_rule false (construct every_rule true zero) nowhere f h none ts ∙ e

-- two parts that are read, one behind the other
both_read : (f g : Form) (env : Node) (ts : List Token) (x y : Node × List Token) → full f env ts ≡ Ok x → full g env x.1 ≡ Ok y → full (seq f g) env ts ≡ Ok (pair x.0 y.0, y.1)
both_read f g env ts x y d e = ap (λ (o : Read). o >>= λ x. full g env x.1 >>= λ y. Ok (pair x.0 y.0, y.1)) d ∙ ap (λ (o : Read). o >>= λ y. Ok (pair x.0 y.0, y.1)) e

act_read : (make : Node → Node) (f : Form) (env : Node) (ts : List Token) (x : Node × List Token) → full f env ts ≡ Ok x → full (act make f) env ts ≡ Ok (make x.0, x.1)
act_read make f env ts x e = ap (λ (o : Read). o >>= λ x. Ok (make x.0, x.1)) e

-- ---- parameters: those of a heading open a construct, those ahead do not

-- Parameters that are there open a construct; where there are none, both readers take nothing.
formals_deep : (ts : List Token) (y : Node × List Token) → ahead plain_formals ts ≡ Ok y → Deep (full optional_formals none ts) ⊎ ((full optional_formals none ts ≡ Ok (none, ts)) × (y.1 ≡ ts))
unfolding optional_formals plain_formals in_formals
formals_deep ts y e =
    let split : (b : Bool) → begins (kinds.LeftParenthesis ∷ []) ts ≡ b → Deep (full optional_formals none ts) ⊎ ((full optional_formals none ts ≡ Ok (none, ts)) × (y.1 ≡ ts)) = elim [
      | true ↦ λ b. inl (deep_same (full optional_formals none ts) (full (nest Formals) none ts) (takes_left (nest Formals) empty none ts b) (opened Formals none ts b))
      | false ↦ λ b.
          let p = ahead_act (λ v. none) (alt in_formals empty) ts y e in
          let nothing : ahead (alt in_formals empty) ts ≡ Ok (none, ts) = rw b refl in
          inr (takes_right (nest Formals) empty none ts b, sym p.2 ∙ sym (ap (λ (x : Node × List Token). x.1) (pairs (none, ts) p.0 (sym nothing ∙ p.1))))
    ] in split (begins (kinds.LeftParenthesis ∷ []) ts) refl

-- the body behind an `is`
behind_heading : (env : Node) (ts : List Token) (y : Node × List Token) → ahead (word kinds.Is) ts ≡ Ok y → Deep (full completed env ts)
unfolding completed code
behind_heading env ts y e =
    let body_next = next_has kinds.Is ts y e in
    let semicolon : Form = act (λ v. none) (word kinds.Semicolon) in
    let with_body : Form = act (λ v. pair none v) (nest Body) in
    deep_same (full completed env ts) (full with_body env ts) (takes_right semicolon with_body env ts (body_next (kinds.Semicolon ∷ []))) (deep_act (λ v. pair none v) (nest Body) env ts (opened Body env ts (body_next (kinds.Is ∷ []))))

-- a function and a body behind it
pub function_deep : (ts : List Token) (a y : Node × List Token) → ahead start_of_function ts ≡ Ok a → ahead (word kinds.Is) a.1 ≡ Ok y → Deep (full (heading function) none ts)
unfolding start_of_function function identifier selector selectors dotted
function_deep ts a y e is =
    let p = ahead_act (λ v. none) (word kinds.Function ▸ identifier ▸ plain_formals ▸ word kinds.Return ▸ dotted) ts a e in
    let p1 = ahead_seq (word kinds.Function) (identifier ▸ plain_formals ▸ word kinds.Return ▸ dotted) ts p.0 p.1 in
    let p2 = ahead_seq identifier (plain_formals ▸ word kinds.Return ▸ dotted) p1.0.1 p1.1 p1.3 in
    let p3 = ahead_seq plain_formals (word kinds.Return ▸ dotted) p2.0.1 p2.1 p2.3 in
    let p4 = ahead_seq (word kinds.Return) dotted p3.0.1 p3.1 p3.3 in
    let mark = placed kinds.Function ts p1.0 p1.2 in
    let name = simply identifier refl p1.0.1 p2.0 p2.2 in
    let make : Node → Node = λ v. pair (first v) (pair (part_2 v) (pair (part_3 v) (behind_4 v))) in
    let rest_1 : Form = word kinds.Return ▸ dotted in
    let rest_2 : Form = optional_formals ▸ rest_1 in
    let rest_3 : Form = identifier ▸ rest_2 in
    elim (formals_deep p2.0.1 p3.0 p3.2) [
      | inl deep ↦
          deep_within_first function part_2_letters completed none ts
          (deep_act make (spot kinds.Function ▸ rest_3) none ts
          (deep_second (spot kinds.Function) rest_3 none ts (mark.0, p1.0.1) mark.1
          (deep_second identifier rest_2 none p1.0.1 p2.0 name
          (deep_first optional_formals rest_1 none p2.0.1 deep))))
      | inr plain ↦
          let at_return : ahead (word kinds.Return) p2.0.1 ≡ Ok p4.0 = ap (ahead (word kinds.Return)) (sym plain.1) ∙ p4.2 in
          let result = simply dotted refl p4.0.1 p4.1 p4.3 in
          let end : p4.1.1 ≡ a.1 = p4.4 ∙ p3.4 ∙ p2.4 ∙ p1.4 ∙ p.2 in
          let read_1 = both_read (word kinds.Return) dotted none p2.0.1 p4.0 p4.1 at_return result in
          let read_2 = both_read optional_formals rest_1 none p2.0.1 (none, p2.0.1) (pair p4.0.0 p4.1.0, p4.1.1) plain.0 read_1 in
          let read_3 = both_read identifier rest_2 none p1.0.1 p2.0 (pair none (pair p4.0.0 p4.1.0), p4.1.1) name read_2 in
          let read_4 = both_read (spot kinds.Function) rest_3 none ts (mark.0, p1.0.1) (pair p2.0.0 (pair none (pair p4.0.0 p4.1.0)), p4.1.1) mark.1 read_3 in
          let whole = pair mark.0 (pair p2.0.0 (pair none (pair p4.0.0 p4.1.0))) in
          let read_5 = act_read make (spot kinds.Function ▸ rest_3) none ts (whole, p4.1.1) read_4 in
          let next : ahead (word kinds.Is) p4.1.1 ≡ Ok y = ap (ahead (word kinds.Is)) end ∙ is in
          deep_within function part_2_letters completed none ts (make whole, p4.1.1) read_5 (behind_heading (part_2_letters (make whole)) p4.1.1 y next)
    ]

-- a procedure and a body behind it
pub procedure_deep : (ts : List Token) (a y : Node × List Token) → ahead start_of_procedure ts ≡ Ok a → ahead (word kinds.Is) a.1 ≡ Ok y → Deep (full (heading procedure) none ts)
unfolding start_of_procedure procedure identifier
procedure_deep ts a y e is =
    let p = ahead_act (λ v. none) (word kinds.Procedure ▸ identifier ▸ plain_formals) ts a e in
    let p1 = ahead_seq (word kinds.Procedure) (identifier ▸ plain_formals) ts p.0 p.1 in
    let p2 = ahead_seq identifier plain_formals p1.0.1 p1.1 p1.3 in
    let mark = placed kinds.Procedure ts p1.0 p1.2 in
    let name = simply identifier refl p1.0.1 p2.0 p2.2 in
    let make : Node → Node = λ v. pair (first v) (pair (part_2 v) (pair (behind_2 v) none)) in
    let rest_1 : Form = identifier ▸ optional_formals in
    elim (formals_deep p2.0.1 p2.1 p2.3) [
      | inl deep ↦
          deep_within_first procedure part_2_letters completed none ts
          (deep_act make (spot kinds.Procedure ▸ rest_1) none ts
          (deep_second (spot kinds.Procedure) rest_1 none ts (mark.0, p1.0.1) mark.1
          (deep_second identifier optional_formals none p1.0.1 p2.0 name deep)))
      | inr plain ↦
          let end : p2.0.1 ≡ a.1 = sym plain.1 ∙ p2.4 ∙ p1.4 ∙ p.2 in
          let read_1 = both_read identifier optional_formals none p1.0.1 p2.0 (none, p2.0.1) name plain.0 in
          let read_2 = both_read (spot kinds.Procedure) rest_1 none ts (mark.0, p1.0.1) (pair p2.0.0 none, p2.0.1) mark.1 read_1 in
          let whole = pair mark.0 (pair p2.0.0 none) in
          let read_3 = act_read make (spot kinds.Procedure ▸ rest_1) none ts (whole, p2.0.1) read_2 in
          let next : ahead (word kinds.Is) p2.0.1 ≡ Ok y = ap (ahead (word kinds.Is)) end ∙ is in
          deep_within procedure part_2_letters completed none ts (make whole, p2.0.1) read_3 (behind_heading (part_2_letters (make whole)) p2.0.1 y next)
    ]

-- ---- items

-- no more construct may be opened, and the tokens ahead have the form
room_gone : (left : ℕ) (head : Form) (ts : List Token) → starts_too_deep left head ts ≡ true → (left ≡ zero) × ((y : Node × List Token) × (ahead head ts ≡ Ok y))
room_gone zero head ts h = (refl, was_read (ahead head ts) h)
room_gone (suc left) head ts h = absurd cc

deep_at : (left : ℕ) (f : Form) (env : Node) (ts : List Token) → left ≡ zero → Deep (full f env ts) → Deep (read left f env ts)
deep_at left f env ts e d = subst (λ (n : ℕ). Deep (read n f env ts)) (sym e) d

-- what begins a body begins with a heading
abbrev parts_of_start : List Token → Type 0
parts_of_start ts = (a : Node × List Token) × (y : Node × List Token) × (ahead (alt start_of_function start_of_procedure) ts ≡ Ok a) × (ahead (word kinds.Is) a.1 ≡ Ok y)

start_parts : (ts : List Token) (y : Node × List Token) → ahead start_of_body ts ≡ Ok y → parts_of_start ts
unfolding start_of_body
start_parts ts y e =
    let p = ahead_act (λ v. none) (alt start_of_function start_of_procedure ▸ word kinds.Is) ts y e in
    let q = ahead_seq (alt start_of_function start_of_procedure) (word kinds.Is) ts p.0 p.1 in
    (q.0, q.1, q.2, q.3)

-- `overriding` and a body
pub specification_here : (left : ℕ) (ts : List Token) → starts_too_deep left start_of_body ts ≡ true → read left completed_specification none ts ≡ Err (TooDeep, ts)
unfolding completed_specification specification start_of_function function
specification_here left ts h =
    let gone = room_gone left start_of_body ts h in
    let p = start_parts ts gone.1.0 gone.1.1 in
    let split : (b : Bool) → begins (kinds.Function ∷ []) ts ≡ b → Deep (full (heading specification) none ts) = elim [
      | true ↦ λ b.
          let head : ahead start_of_function ts ≡ Ok p.0 = (let same : ahead (alt start_of_function start_of_procedure) ts ≡ ahead start_of_function ts = rw b refl in sym same ∙ p.2) in
          let chosen : full specification none ts ≡ full function none ts = takes_left function procedure none ts b in
          deep_same (full (heading specification) none ts) (full (heading function) none ts) (ap (λ (o : Read). o >>= λ x. full completed (part_2_letters x.0) x.1 >>= λ y. Ok (pair x.0 y.0, y.1)) chosen) (function_deep ts p.0 p.1 head p.3)
      | false ↦ λ b.
          let head : ahead start_of_procedure ts ≡ Ok p.0 = (let same : ahead (alt start_of_function start_of_procedure) ts ≡ ahead start_of_procedure ts = rw b refl in sym same ∙ p.2) in
          let chosen : full specification none ts ≡ full procedure none ts = takes_right function procedure none ts b in
          deep_same (full (heading specification) none ts) (full (heading procedure) none ts) (ap (λ (o : Read). o >>= λ x. full completed (part_2_letters x.0) x.1 >>= λ y. Ok (pair x.0 y.0, y.1)) chosen) (procedure_deep ts p.0 p.1 head p.3)
    ] in
    late_deep left start_of_body (heading specification) none ts h (deep_at left (heading specification) none ts gone.0 (split (begins (kinds.Function ∷ []) ts) refl))

-- a function with its body
pub function_here : (left : ℕ) (ts : List Token) → starts_too_deep left start_of_function_body ts ≡ true → read left completed_function none ts ≡ Err (TooDeep, ts)
unfolding completed_function start_of_function_body
function_here left ts h =
    let gone = room_gone left start_of_function_body ts h in
    let p = ahead_act (λ v. none) (start_of_function ▸ word kinds.Is) ts gone.1.0 gone.1.1 in
    let q = ahead_seq start_of_function (word kinds.Is) ts p.0 p.1 in
    late_deep left start_of_function_body (heading function) none ts h (deep_at left (heading function) none ts gone.0 (function_deep ts q.0 q.1 q.2 q.3))

-- what stands behind the name of a procedure where a body follows
name_deep : (env : Node) (ts : List Token) (y : Node × List Token) → ahead behind_start ts ≡ Ok y → Deep (full behind_name env ts)
unfolding behind_start behind_name behind_is in_formals start_of_bare_body instance behind code
name_deep env ts y e =
    let with_formals : Form = apart (nest Formals) ▸ completed in
    let front : Form = act (λ v. none) (in_formals ▸ word kinds.Is) in
    let other : Form = act (λ v. none) (word kinds.Is ▸ start_of_bare_body) in
    let bare : Form = act (λ v. pair none (pair none (pair none v))) (nest BareBody) in
    let instanced : Form = act (λ v. pair yes v) (apart instance) in
    let opening : Form = act second (word kinds.Is ▸ behind_is) in
    let declared : Form = act (λ v. pair none (pair none none)) (word kinds.Semicolon) in
    let split : (b : Bool) → begins (kinds.LeftParenthesis ∷ []) ts ≡ b → Deep (full behind_name env ts) = elim [
      | true ↦ λ b.
          deep_same (full behind_name env ts) (full (act (λ v. pair none v) with_formals) env ts) (takes_left (act (λ v. pair none v) with_formals) (alt opening declared) env ts b)
          (deep_act (λ v. pair none v) with_formals env ts
          (deep_first (apart (nest Formals)) completed env ts
          (deep_act second (within empty (λ v. none) (nest Formals)) env ts
          (deep_within empty (λ v. none) (nest Formals) env ts (none, ts) refl (opened Formals none ts b)))))
      | false ↦ λ b.
          let same : ahead behind_start ts ≡ ahead other ts = rw b refl in
          let p = ahead_act (λ v. none) (word kinds.Is ▸ start_of_bare_body) ts y (sym same ∙ e) in
          let q = ahead_seq (word kinds.Is) start_of_bare_body ts p.0 p.1 in
          let is_next = next_has kinds.Is ts q.0 q.2 in
          let seven : begins (starts start_of_bare_body) q.0.1 ≡ true = ahead_begins start_of_bare_body refl q.0.1 q.1 q.3 in
          let not_new : begins (kinds.New ∷ []) q.0.1 ≡ false = apart_begins (starts start_of_bare_body) (kinds.New ∷ []) q.0.1 refl seven in
          let inner : Deep (full behind_is env q.0.1) = deep_same (full behind_is env q.0.1) (full bare env q.0.1) (takes_right instanced bare env q.0.1 not_new) (deep_act (λ v. pair none (pair none (pair none v))) (nest BareBody) env q.0.1 (opened BareBody env q.0.1 seven)) in
          deep_same (full behind_name env ts) (full (alt opening declared) env ts) (takes_right (act (λ v. pair none v) with_formals) (alt opening declared) env ts b)
          (deep_same (full (alt opening declared) env ts) (full opening env ts) (takes_left opening declared env ts (is_next (kinds.Is ∷ [])))
          (deep_act second (word kinds.Is ▸ behind_is) env ts
          (deep_second (word kinds.Is) behind_is env ts q.0 q.2 inner)))
    ] in split (begins (kinds.LeftParenthesis ∷ []) ts) refl

-- a procedure with its body
pub procedure_here : (left : ℕ) (ts : List Token) → starts_too_deep left start_of_procedure_body ts ≡ true → read left completed_procedure none ts ≡ Err (TooDeep, ts)
unfolding completed_procedure start_of_procedure_body identifier
procedure_here left ts h =
    let gone = room_gone left start_of_procedure_body ts h in
    let p = ahead_act (λ v. none) (word kinds.Procedure ▸ identifier ▸ behind_start) ts gone.1.0 gone.1.1 in
    let p1 = ahead_seq (word kinds.Procedure) (identifier ▸ behind_start) ts p.0 p.1 in
    let p2 = ahead_seq identifier behind_start p1.0.1 p1.1 p1.3 in
    let mark = placed kinds.Procedure ts p1.0 p1.2 in
    let name = simply identifier refl p1.0.1 p2.0 p2.2 in
    let head = both_read (spot kinds.Procedure) identifier none ts (mark.0, p1.0.1) p2.0 mark.1 name in
    let deep = deep_within (spot kinds.Procedure ▸ identifier) (λ v. first (second v)) behind_name none ts (pair mark.0 p2.0.0, p2.0.1) head (name_deep (first p2.0.0) p2.0.1 p2.1 p2.3) in
    late_deep left start_of_procedure_body plain_procedure none ts h (deep_at left plain_procedure none ts gone.0 deep)

-- ---- what is read ahead is read alike by all readers

pub start_alike : (left : ℕ) (ts : List Token) → read left start_of_body none ts ≡ ahead start_of_body ts
unfolding start_of_body start_of_function start_of_procedure plain_formals in_formals formal_list next_formal formal mode mode_behind_in identifiers next_identifiers next_identifier identifier selector selectors dotted
start_alike left ts = simple_same every_rule (is_zero left) no_rule false (construct every_rule true left) nowhere start_of_body refl none ts

pub start_of_function_alike : (left : ℕ) (ts : List Token) → read left start_of_function_body none ts ≡ ahead start_of_function_body ts
unfolding start_of_function_body start_of_function plain_formals in_formals formal_list next_formal formal mode mode_behind_in identifiers next_identifiers next_identifier identifier selector selectors dotted
start_of_function_alike left ts = simple_same every_rule (is_zero left) no_rule false (construct every_rule true left) nowhere start_of_function_body refl none ts

pub start_of_procedure_alike : (left : ℕ) (ts : List Token) → read left start_of_procedure_body none ts ≡ ahead start_of_procedure_body ts
unfolding start_of_procedure_body behind_start start_of_bare_body in_formals formal_list next_formal formal mode mode_behind_in identifiers next_identifiers next_identifier identifier selector selectors dotted
start_of_procedure_alike left ts = simple_same every_rule (is_zero left) no_rule false (construct every_rule true left) nowhere start_of_procedure_body refl none ts

-- ---- where the tokens ahead begin no body, or another construct may be opened

pub specification_past : (left : ℕ) (ts : List Token) → starts_too_deep left start_of_body ts ≡ false → read left completed_specification none ts ≡ read left (heading specification) none ts
unfolding completed_specification
specification_past left ts h = late_past left start_of_body (heading specification) none ts h

pub function_past : (left : ℕ) (ts : List Token) → starts_too_deep left start_of_function_body ts ≡ false → read left completed_function none ts ≡ read left (heading function) none ts
unfolding completed_function
function_past left ts h = late_past left start_of_function_body (heading function) none ts h

pub procedure_past : (left : ℕ) (ts : List Token) → starts_too_deep left start_of_procedure_body ts ≡ false → read left completed_procedure none ts ≡ read left plain_procedure none ts
unfolding completed_procedure
procedure_past left ts h = late_past left start_of_procedure_body plain_procedure none ts h

pub not_zero : (n : ℕ) → n ≢ 0 → is_zero n ≡ false
not_zero zero h = absurd (h refl)
not_zero (suc n) h = refl

pub places_deep_bodies : PlacesDeepBodies
places_deep_bodies left ts = (specification_here left ts, function_here left ts, procedure_here left ts)
