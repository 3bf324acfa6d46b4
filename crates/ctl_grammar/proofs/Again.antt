-- What is derived is read, where what stands behind it does not go on with it.
use Rattle.std.proofs.Common.{◌≡◌, ℕ, zero, suc, ◌≤◌, ◌<◌, Bool, true, false, cond, List, [], ◌∷◌, ◌++◌, length, Ok, Err, refl, sym, ap, subst, ◌∙◌, append_assoc, inl, inr, arith}
use Rattle.std.specs.Prelude.{◌&&◌, not}
use Rattle.std.proofs.lemmas.List.{length-append}
use Rattle.ctl_tree.specs.declared.token.Kind.{Kind}
use Rattle.ctl_tree.specs.declared.token.Token.{Token}
use Rattle.ctl_grammar.specs.Form.{Node, none, leaf, num, written, at, pair, tag, Nest, Form, word, keep, tested, empty, seq, within, alt, when, many, act, late, nest, can_be_empty, starts, goes_on, nest_starts, is_apart, is_clear, Rules}
use Rattle.ctl_grammar.specs.Grammar.{body}
use Rattle.ctl_grammar.specs.Reading.{Read, begins, both, repeat, all_of, from_here, reader, construct}
use Rattle.ctl_grammar.specs.Derivation.{Row, Both, Derives, Construct}
use Rattle.ctl_grammar.proofs.Starts.{and_left, and_right, not_true, stops_left, stops_right, both_parts, Opens, OpensAll, row_opens, derives_opens, behind, begins_with}

abbrev pub Again : (Node → List Token → Type 0) → List Kind → (List Token → Read) → Type 0
Again P ks r = (v : Node) (text rest : List Token) → P v text → begins ks rest ≡ false → r (text ++ rest) ≡ Ok (v, rest)

abbrev pub AgainAll : (Nest → Node → Node → List Token → Type 0) → (Nest → Node → List Token → Read) → Type 0
AgainAll I inner = (n : Nest) (env : Node) → Again (I n env) [] (inner n env)

repeat_again : (P : Node → List Token → Type 0) (r : List Token → Read) (ks gs : List Kind) → ((v : Node) (x : List Token) → P v x → Opens false ks x) → Again P gs r → is_apart ks gs ≡ true
    → (v : Node) (n : ℕ) (text rest : List Token) → Row P v text → begins (gs ++ ks) rest ≡ false → length (text ++ rest) ≤ n → repeat (begins ks) r n (text ++ rest) ≡ Ok (v, rest)
repeat_again P r ks gs ho ha apart none zero text rest p stop le = rw p refl
repeat_again P r ks gs ho ha apart none (suc n) text rest p stop le = rw (p, stops_right gs ks rest stop) refl
repeat_again P r ks gs ho ha apart (pair a b) n text rest p stop le =
    let x = p.0 in
    let y = p.1 in
    let whole : text ++ rest ≡ x ++ (y ++ rest) = ap (λ (us : List Token). us ++ rest) p.2 ∙ append_assoc x y rest in
    let opens = ho a x p.3 in
    let yopens = row_opens P false ks ho b y p.4 in
    let one : r (x ++ (y ++ rest)) ≡ Ok (a, y ++ rest) = ha a x (y ++ rest) p.3 (behind true ks gs y rest yopens apart (λ e. stops_left gs ks rest stop)) in
    let is : begins ks (x ++ (y ++ rest)) ≡ true = begins_with ks x (y ++ rest) opens in
    let long : (z : List Token) → Opens false ks z → 1 ≤ length z = elim [ [] ↦ λ o. absurd cc | t ∷ z ↦ λ o. omega arith ] in
    let shorter : length (y ++ rest) < n = omega (arith, long x opens, ap length whole, length-append x (y ++ rest)) in
    let more = repeat_again P r ks gs ho ha apart b in
    let split : (m : ℕ) → length (y ++ rest) < m → repeat (begins ks) r m (x ++ (y ++ rest)) ≡ Ok (pair a b, rest) = elim [
      | zero ↦ λ h. absurd (omega arith)
      | suc m ↦ λ h. rw (is, one, more m y rest p.4 stop (omega arith)) refl
    ] in ap (repeat (begins ks) r n) whole ∙ split n shorter
repeat_again P r ks gs ho ha apart (leaf t) n text rest p stop le = absurd p
repeat_again P r ks gs ho ha apart (num m) n text rest p stop le = absurd p
repeat_again P r ks gs ho ha apart (written s) n x rest p stop le = absurd p
repeat_again P r ks gs ho ha apart (at q) n text rest p stop le = absurd p
repeat_again P r ks gs ho ha apart (tag m v) n text rest p stop le = absurd p

-- two parts, the second of which begins with nothing that goes on with the first
both_again : (P : Node → List Token → Type 0) (Q : Node → Node → List Token → Type 0) (r : List Token → Read) (s : Node → List Token → Read) (fs gs ss : List Kind) (e : Bool)
    → ((a b : Node) (y : List Token) → Q a b y → Opens e ss y) → is_apart ss fs ≡ true → Again P fs r → ((a : Node) → Again (Q a) gs (s a)) → Again (Both P Q) (gs ++ cond e fs []) (both r s)
both_again P Q r s fs gs ss e ho apart ha hb v text rest p stop =
    let q = both_parts P Q v text p in
    let a = q.0 in
    let b = q.1 in
    let x = q.3.0 in
    let y = q.3.1 in
    let whole : text ++ rest ≡ x ++ (y ++ rest) = ap (λ (us : List Token). us ++ rest) q.3.2 ∙ append_assoc x y rest in
    let stop_f : e ≡ true → begins fs rest ≡ false = λ is. subst (λ (c : Bool). begins (cond c fs []) rest ≡ false) is (stops_right gs (cond e fs []) rest stop) in
    let one : r (x ++ (y ++ rest)) ≡ Ok (a, y ++ rest) = ha a x (y ++ rest) q.3.3 (behind e ss fs y rest (ho a b y q.3.4) apart stop_f) in
    let two : s a (y ++ rest) ≡ Ok (b, rest) = hb a b y rest q.3.4 (stops_left gs (cond e fs []) rest stop) in
    let made : both r s (text ++ rest) ≡ Ok (pair a b, rest) = rw (whole, one, two) refl in
    made ∙ ap (λ (w : Node). Ok (w, rest)) (sym q.2)

pub from_here_same : (ts : List Token) (o : Read) → from_here false ts o ≡ o
from_here_same ts (Ok x) = refl
from_here_same ts (Err e) = refl

pub reader_again : (c : Rules) (inner : Nest → Node → List Token → Read) (I : Nest → Node → Node → List Token → Type 0) → OpensAll I → AgainAll I inner
    → (f : Form) → is_clear f ≡ true → (env : Node) → Again (Derives c I f env) (goes_on f) (reader c false inner f env)
unfolding all_of
reader_again c inner I ho h (word k) clear env v text rest p stop = rw (p.2, p.1, p.3) refl
reader_again c inner I ho h (keep k) clear env v text rest p stop = rw (p.2, p.1, p.3) refl
reader_again c inner I ho h (tested k test rule) clear env v text rest p stop = rw (p.2, p.1, p.3, p.4) refl
reader_again c inner I ho h empty clear env v text rest p stop = rw (p.0, p.1) refl
reader_again c inner I ho h (seq f g) clear env v text rest p stop =
    let clear_f = and_left (is_clear f) (is_clear g && is_apart (starts g) (goes_on f)) clear in
    let later = and_right (is_clear f) (is_clear g && is_apart (starts g) (goes_on f)) clear in
    let clear_g = and_left (is_clear g) (is_apart (starts g) (goes_on f)) later in
    let apart = and_right (is_clear g) (is_apart (starts g) (goes_on f)) later in
    both_again (Derives c I f env) (λ a. Derives c I g env) (reader c false inner f env) (λ a. reader c false inner g env) (goes_on f) (goes_on g) (starts g) (can_be_empty g)
    (λ a b y q. derives_opens c I ho g env b y q) apart (reader_again c inner I ho h f clear_f env) (λ a. reader_again c inner I ho h g clear_g env) v text rest p stop
reader_again c inner I ho h (within f pick g) clear env v text rest p stop =
    let clear_f = and_left (is_clear f) (is_clear g && is_apart (starts g) (goes_on f)) clear in
    let later = and_right (is_clear f) (is_clear g && is_apart (starts g) (goes_on f)) clear in
    let clear_g = and_left (is_clear g) (is_apart (starts g) (goes_on f)) later in
    let apart = and_right (is_clear g) (is_apart (starts g) (goes_on f)) later in
    both_again (Derives c I f env) (λ a. Derives c I g (pick a)) (reader c false inner f env) (λ a. reader c false inner g (pick a)) (goes_on f) (goes_on g) (starts g) (can_be_empty g)
    (λ a b y q. derives_opens c I ho g (pick a) b y q) apart (reader_again c inner I ho h f clear_f env) (λ a. reader_again c inner I ho h g clear_g (pick a)) v text rest p stop
reader_again c inner I ho h (alt f g) clear env v text rest p stop =
    let more = goes_on g ++ cond (can_be_empty g) (starts f) [] in
    let clear_f = and_left (is_clear f) (is_clear g && (not (can_be_empty f) && is_apart (starts g) (starts f))) clear in
    let later = and_right (is_clear f) (is_clear g && (not (can_be_empty f) && is_apart (starts g) (starts f))) clear in
    let clear_g = and_left (is_clear g) (not (can_be_empty f) && is_apart (starts g) (starts f)) later in
    let last = and_right (is_clear g) (not (can_be_empty f) && is_apart (starts g) (starts f)) later in
    let some = not_true (can_be_empty f) (and_left (not (can_be_empty f)) (is_apart (starts g) (starts f)) last) in
    let apart = and_right (not (can_be_empty f)) (is_apart (starts g) (starts f)) last in
    let stop_more = stops_right (goes_on f) more rest stop in
    let one = reader_again c inner I ho h f clear_f env v text rest in
    let two = reader_again c inner I ho h g clear_g env v text rest in
    elim p [
      | inl q ↦
          let opens : Opens false (starts f) text = subst (λ (e : Bool). Opens e (starts f) text) some (derives_opens c I ho f env v text q) in
          let is : begins (starts f) (text ++ rest) ≡ true = begins_with (starts f) text rest opens in
          rw is (one q (stops_left (goes_on f) more rest stop))
      | inr q ↦
          let stop_f : can_be_empty g ≡ true → begins (starts f) rest ≡ false = λ e. subst (λ (b : Bool). begins (cond b (starts f) []) rest ≡ false) e (stops_right (goes_on g) (cond (can_be_empty g) (starts f) []) rest stop_more) in
          let is : begins (starts f) (text ++ rest) ≡ false = behind (can_be_empty g) (starts g) (starts f) text rest (derives_opens c I ho g env v text q) apart stop_f in
          rw is (two q (stops_left (goes_on g) (cond (can_be_empty g) (starts f) []) rest stop_more))
    ]
reader_again c inner I ho h (when test f) clear env v text rest p stop =
    let clear_f = and_left (is_clear f) (not (can_be_empty f)) clear in
    let some = not_true (can_be_empty f) (and_right (is_clear f) (not (can_be_empty f)) clear) in
    let one = reader_again c inner I ho h f clear_f env v text rest in
    elim p [
      | inl q ↦
          let opens : Opens false (starts f) text = subst (λ (e : Bool). Opens e (starts f) text) some (derives_opens c I ho f env v text q.1) in
          let is : begins (starts f) (text ++ rest) ≡ true = begins_with (starts f) text rest opens in
          rw (q.0, is) (one q.1 (stops_left (goes_on f) (starts f) rest stop))
      | inr q ↦
          let never : (b : Bool) → (b && false) ≡ false = elim [ true ↦ refl | false ↦ refl ] in
          rw (q.0, stops_right (goes_on f) (starts f) rest stop, never (test env), q.1) refl
    ]
reader_again c inner I ho h (many f) clear env v text rest p stop =
    let clear_f = and_left (is_clear f) (not (can_be_empty f) && is_apart (starts f) (goes_on f)) clear in
    let last = and_right (is_clear f) (not (can_be_empty f) && is_apart (starts f) (goes_on f)) clear in
    let some = not_true (can_be_empty f) (and_left (not (can_be_empty f)) (is_apart (starts f) (goes_on f)) last) in
    let apart = and_right (not (can_be_empty f)) (is_apart (starts f) (goes_on f)) last in
    let opens : (w : Node) (x : List Token) → Derives c I f env w x → Opens false (starts f) x = λ w x q. subst (λ (e : Bool). Opens e (starts f) x) some (derives_opens c I ho f env w x q) in
    repeat_again (Derives c I f env) (reader c false inner f env) (starts f) (goes_on f) opens (reader_again c inner I ho h f clear_f env) apart v (length (text ++ rest)) text rest p stop (omega arith)
reader_again c inner I ho h (act make f) clear env v text rest p stop =
    let one = reader_again c inner I ho h f clear env p.0 text rest p.2 stop in
    rw (one, p.1) refl
reader_again c inner I ho h (late head f) clear env v text rest p stop =
    from_here_same (text ++ rest) (reader c false inner f env (text ++ rest)) ∙ reader_again c inner I ho h f clear env v text rest p stop
reader_again c inner I ho h (nest n) clear env v text rest p stop = h n env v text rest p stop

-- What a construct of the grammar has to keep.
pub record IsPlain (n : Nest) : Type 0 where
  pub clear : is_clear (body n) ≡ true
  pub some : can_be_empty (body n) ≡ false
  pub begun : starts (body n) ≡ nest_starts n
  pub ends : goes_on (body n) ≡ []

pub construct_opens : ((n : Nest) → IsPlain n) → (c : Rules) (left : ℕ) → OpensAll (Construct c left)
construct_opens plain c zero n env v x p = absurd p
construct_opens plain c (suc left) n env v x p =
    subst (λ (ks : List Kind). Opens false ks x) (plain n).begun (subst (λ (e : Bool). Opens e (starts (body n)) x) (plain n).some (derives_opens c (Construct c left) (construct_opens plain c left) (body n) env v x p))

pub construct_again : ((n : Nest) → IsPlain n) → (c : Rules) (left : ℕ) → AgainAll (Construct c left) (construct c false left)
unfolding construct
construct_again plain c zero n env v text rest p stop = absurd p
construct_again plain c (suc left) n env v text rest p stop =
    let opens = construct_opens plain c (suc left) n env v text p in
    let is : begins (nest_starts n) (text ++ rest) ≡ true = begins_with (nest_starts n) text rest opens in
    let none_on : (us : List Token) → begins [] us ≡ false = elim [ [] ↦ refl | t ∷ us ↦ refl ] in
    let end : begins (goes_on (body n)) rest ≡ false = rw (plain n).ends (none_on rest) in
    rw is (reader_again c (construct c false left) (Construct c left) (construct_opens plain c left) (construct_again plain c left) (body n) (plain n).clear env v text rest p end)
