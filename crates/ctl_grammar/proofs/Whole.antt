-- A whole text: the laws put together.
use Rattle.std.proofs.Common.{◌≡◌, ℕ, ◌+◌, Bool, true, false, List, [], ◌∷◌, ◌++◌, Ok, Err, refl, sym, ap, subst, ◌∙◌, append_assoc, inl, inr, arith, ◌⊎◌}
use Rattle.std.specs.Prelude.{not}
use Rattle.std.proofs.lemmas.List.{append-nil, append_cancel_right}
use Rattle.ctl_tree.specs.declared.token.Token.{Token}
use Rattle.ctl_grammar.specs.declared.refused.Reason.{Reason}
use Rattle.ctl_grammar.specs.declared.refused.Reason.TheVariants.{Unexpected, TooDeep, LeftOut, EndName}
use Rattle.ctl_grammar.specs.Form.{Node, none, Rule, Known, Ends, Form, goes_on, is_clear, Rules, every_rule, no_rule}
use Rattle.ctl_grammar.specs.Reading.{Read, broken, reader, begins, construct, is_too_deep}
use Rattle.ctl_grammar.specs.Derivation.{Construct, Spells, Begins}
use Rattle.ctl_grammar.proofs.Sound.{Takes, allows_same, reader_sound, construct_sound}
use Rattle.ctl_grammar.proofs.Again.{reader_again, construct_again, construct_opens}
use Rattle.ctl_grammar.proofs.Plain.{plain}
use Rattle.ctl_grammar.proofs.Rows.{consumes}
use Rattle.ctl_grammar.proofs.Local.{LocalAt, reader_local, construct_local}
use Rattle.ctl_grammar.proofs.Deeper.{Frees, read_agrees, deeper}

-- A form that one token is enough to read, and that nothing behind it goes on with.
pub record IsWhole (f : Form) : Type 0 where
  pub clear : is_clear f ≡ true
  pub ends : goes_on f ≡ []

stops : (f : Form) → IsWhole f → (rest : List Token) → begins (goes_on f) rest ≡ false
stops f h rest =
    let none_on : (us : List Token) → begins [] us ≡ false = elim [ [] ↦ refl | t ∷ us ↦ refl ] in
    rw h.ends (none_on rest)

-- reading that changes no place
abbrev pub plainly : Rules → ℕ → Form → List Token → Read
plainly c left f ts = reader c false (construct c false left) f none ts

pub spelled_is_read : (f : Form) → IsWhole f → (c : Rules) (left : ℕ) (v : Node) (text rest : List Token) → Spells c left f v text → plainly c left f (text ++ rest) ≡ Ok (v, rest)
spelled_is_read f h c left v text rest p = reader_again c (construct c false left) (Construct c left) (construct_opens plain c left) (construct_again plain c left) f h.clear none v text rest p (stops f h rest)

pub read_is_spelled : (f : Form) (c : Rules) (left : ℕ) (v : Node) (text rest : List Token) → plainly c left f text ≡ Ok (v, rest) → Takes (Spells c left f v) text rest
read_is_spelled f c left v text rest e = reader_sound c c false (allows_same c) (construct c false left) (Construct c left) (construct_sound c c false (allows_same c) left) f none text v rest e

-- A token list spells at most one tree, whatever the depths of the two.
pub spells_one : (f : Form) → IsWhole f → (c : Rules) (left more : ℕ) (v w : Node) (ts : List Token) → Spells c left f v ts → Spells c more f w ts → v ≡ w
spells_one f h c left more v w ts p q =
    let up_p : Spells c (left + more) f v ts = deeper c c (allows_same c) left (left + more) more f none refl v ts p in
    let up_q : Spells c (left + more) f w ts = deeper c c (allows_same c) more (left + more) left f none (omega arith) w ts q in
    let one = spelled_is_read f h c (left + more) v ts [] up_p in
    let two = spelled_is_read f h c (left + more) w ts [] up_q in
    let same : (let x : Read = Ok (v, []) in x) ≡ Ok (w, []) = sym one ∙ two in
    let pairs : (x y : Node × List Token) → (let r : Read = Ok x in r) ≡ Ok y → x ≡ y = λ x y e. cc in
    ap (λ (x : Node × List Token). x.0) (pairs (v, []) (w, []) same)

pub is_unexpected : Reason → Bool
is_unexpected Unexpected = true
is_unexpected TooDeep = false
is_unexpected LeftOut = false
is_unexpected EndName = false

-- every reason but that the token is unexpected
abbrev pub is_ruled : Reason → Bool
is_ruled Unexpected = false
is_ruled TooDeep = true
is_ruled LeftOut = true
is_ruled EndName = true

ruled : (rule : Rule) → is_ruled (broken rule) ≡ true
ruled Known = refl
ruled Ends = refl

frees_all : (c : Rules) → Frees is_ruled c no_rule
frees_all c rule true = inl refl
frees_all c rule false =
    let split : (k : Bool) → (true ≡ not k) ⊎ ((not k ≡ false) × (is_ruled (broken rule) ≡ true)) = elim [ true ↦ inr (refl, ruled rule) | false ↦ inl refl ] in
    split (c rule)

frees_none : (c : Rules) → Frees is_too_deep c c
frees_none c rule b = inl refl

pub local_error : (f : Form) → IsWhole f → (c : Rules) (left : ℕ) (ts : List Token) (d : Reason) (front : List Token) (t : Token) (rest more : List Token) → plainly c left f ts ≡ Err (d, t ∷ rest) → ts ≡ front ++ t ∷ rest → plainly c left f (front ++ t ∷ more) ≡ Err (d, t ∷ more)
local_error f h c left ts d front t rest more e parts =
    let r : List Token → Read = plainly c left f in
    let here : LocalAt r ts (Err (d, t ∷ rest)) = subst (λ (o : Read). LocalAt r ts o) e (reader_local c (construct c false left) (consumes c false false left) (construct_local plain c (consumes c false false) left) f h.clear none ts) in
    let same : here.0 ≡ front = append_cancel_right here.0 front (t ∷ rest) (sym here.1 ∙ parts) in
    subst (λ (us : List Token). r (us ++ t ∷ more) ≡ Err (d, t ∷ more)) same (here.2 (t ∷ more) refl)

failed : Reason → List Token → Read
failed r ts = Err (r, ts)

-- An unexpected token goes on with no text of the grammar alone.
pub no_text : (f : Form) → IsWhole f → (c : Rules) (left : ℕ) (ts front : List Token) (t : Token) (rest : List Token) → plainly c left f ts ≡ Err (Unexpected, t ∷ rest) → ts ≡ front ++ t ∷ rest → Begins no_rule f (front ++ t ∷ []) → ⊥
no_text f h c left ts front t rest e parts (d, v, more, p) =
    let whole : (front ++ t ∷ []) ++ more ≡ front ++ t ∷ more = append_assoc front (t ∷ []) more in
    let whole_nil : ((front ++ t ∷ []) ++ more) ++ [] ≡ front ++ t ∷ more = append-nil ((front ++ t ∷ []) ++ more) ∙ whole in
    let up_p : Spells no_rule (left + d) f v ((front ++ t ∷ []) ++ more) = deeper no_rule no_rule (allows_same no_rule) d (left + d) left f none (omega arith) v ((front ++ t ∷ []) ++ more) p in
    let good : plainly no_rule (left + d) f (front ++ t ∷ more) ≡ Ok (v, []) = ap (plainly no_rule (left + d) f) (sym whole_nil) ∙ spelled_is_read f h no_rule (left + d) v ((front ++ t ∷ []) ++ more) [] up_p in
    let here = local_error f h c left ts Unexpected front t rest more e parts in
    let bad : plainly no_rule (left + d) f (front ++ t ∷ more) ≡ Err (Unexpected, t ∷ more) = elim (read_agrees is_ruled c no_rule (frees_all c) refl left d f none (front ++ t ∷ more)) [
      | inl same ↦ same ∙ here
      | inr stopped ↦
          let clash : (let x : Read = Err (Unexpected, t ∷ more) in x) ≡ Err (stopped.0, stopped.1) = sym here ∙ stopped.2 in
          let pairs : (x y : Reason × List Token) → (let r : Read = Err x in r) ≡ Err y → x ≡ y = λ x y k. cc in
          let reason : Unexpected ≡ stopped.0 = ap (λ (x : Reason × List Token). x.0) (pairs (Unexpected, t ∷ more) (stopped.0, stopped.1) clash) in
          let wrong : is_ruled Unexpected ≡ true = ap is_ruled reason ∙ stopped.3 in
          absurd cc
    ] in
    let clash = sym good ∙ bad in
    absurd cc

-- A token that breaks a rule, or opens too much, goes on with no text that keeps the rules.
pub no_kept_text : (f : Form) → IsWhole f → (left : ℕ) (ts front : List Token) (d : Reason) (t : Token) (rest : List Token) → plainly every_rule left f ts ≡ Err (d, t ∷ rest) → ts ≡ front ++ t ∷ rest
    → (v : Node) (more : List Token) → Spells every_rule left f v ((front ++ t ∷ []) ++ more) → ⊥
no_kept_text f h left ts front d t rest e parts v more p =
    let whole_nil : ((front ++ t ∷ []) ++ more) ++ [] ≡ front ++ t ∷ more = append-nil ((front ++ t ∷ []) ++ more) ∙ append_assoc front (t ∷ []) more in
    let good : plainly every_rule left f (front ++ t ∷ more) ≡ Ok (v, []) = ap (plainly every_rule left f) (sym whole_nil) ∙ spelled_is_read f h every_rule left v ((front ++ t ∷ []) ++ more) [] p in
    let clash = sym good ∙ local_error f h every_rule left ts d front t rest more e parts in
    absurd cc
