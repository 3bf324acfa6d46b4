-- Reading a row that a loop gathers in a list.
use Rattle.std.proofs.Common.{◌≡◌, ℕ, true, false, List, [], ◌∷◌, ◌++◌, Ok, Err, refl, sym, ap, ◌∙◌}
use Rattle.ctl_tree.specs.declared.token.Token.{Token}
use Rattle.ctl_grammar.specs.declared.refused.Reason.{Reason}
use Rattle.ctl_grammar.specs.declared.refused.Refused.{Refused}
use Rattle.ctl_grammar.specs.declared.refused.Refused.TheVariants as refused
use Rattle.ctl_grammar.specs.Form.{Node, none, pair, Form, many, can_be_empty, starts, every_rule}
use Rattle.ctl_grammar.specs.Nodes.{row_of, joined_row}
use Rattle.ctl_grammar.specs.Reading.{Read, ◌>>=◌, Gives, begins, all_of, reader, is_zero, construct, read}
use Rattle.ctl_grammar.proofs.Rows.{consumes, and_then, all_step, all_stop}

-- what is still read, behind what has been read so far
abbrev pub gathering : List Node → Read → Read
gathering front o = o >>= λ y. Ok (joined_row front y.0, y.1)

joined_push : (front : List Node) (x v : Node) → joined_row (front ++ x ∷ []) v ≡ joined_row front (pair x v)
joined_push [] x v = refl
joined_push (y ∷ front) x v = ap (λ (w : Node). pair y w) (joined_push front x v)

pub joined_none : (front : List Node) → joined_row front none ≡ row_of front
joined_none [] = refl
joined_none (y ∷ front) = ap (λ (w : Node). pair y w) (joined_none front)

gathering_pair : (o : Read) (front : List Node) (x : Node) → gathering front (o >>= λ y. Ok (pair x y.0, y.1)) ≡ gathering (front ++ x ∷ []) o
gathering_pair (Ok y) front x = ap (λ (w : Node). Ok (w, y.1)) (sym (joined_push front x y.0))
gathering_pair (Err e) front x = refl

-- an error that is passed on
pub passes : {X Y : Type 0} (v : X → Node) (w : Y → Node) (e : Refused) (now : List Token) (o total : Read) → Gives v (Err e) now o → ((f : Reason) → o ≡ Err (f, now) → total ≡ Err (f, now)) → Gives w (Err e) now total
passes v w refused.Memory now o total h k = tt
passes v w (refused.Token f) now o total h k = k f h

pub gathers : (left now : ℕ) (f : Form) (env : Node) (ts us : List Token) (front new : List Node) (x : Node) (total : Read) → can_be_empty f ≡ false → now ≡ left → begins (starts f) ts ≡ true
    → read now f env ts ≡ Ok (x, us) → new ≡ front ++ x ∷ [] → gathering front (read left (many f) env ts) ≡ total → gathering new (read left (many f) env us) ≡ total
gathers left now f env ts us front new x total some same b one made so_far =
    let g = reader every_rule (is_zero left) (construct every_rule true left) f env in
    let ks = starts f in
    let here : g ts ≡ Ok (x, us) = ap (λ (n : ℕ). read n f env ts) (sym same) ∙ one in
    let step = all_step ks g (consumes every_rule (is_zero left) true left f env some) ts b ∙ ap (and_then (all_of (begins ks) g)) here in
    ap (λ (z : List Node). gathering z (all_of (begins ks) g us)) made ∙ sym (gathering_pair (all_of (begins ks) g us) front x) ∙ sym (ap (gathering front) step) ∙ so_far

pub gathering_fails : {X Y : Type 0} (v : X → Node) (w : Y → Node) (left now : ℕ) (f : Form) (env : Node) (ts at : List Token) (e : Refused) (front : List Node) (total : Read) → can_be_empty f ≡ false → now ≡ left → begins (starts f) ts ≡ true
    → Gives v (Err e) at (read now f env ts) → gathering front (read left (many f) env ts) ≡ total → Gives w (Err e) at total
gathering_fails v w left now f env ts at e front total some same b h so_far =
    let g = reader every_rule (is_zero left) (construct every_rule true left) f env in
    let ks = starts f in
    passes v w e at (read now f env ts) total h (λ d k.
    let here : g ts ≡ Err (d, at) = ap (λ (n : ℕ). read n f env ts) (sym same) ∙ k in
    let step = all_step ks g (consumes every_rule (is_zero left) true left f env some) ts b ∙ ap (and_then (all_of (begins ks) g)) here in
    sym so_far ∙ ap (gathering front) step)

pub gathering_ends : (left : ℕ) (f : Form) (env : Node) (ts : List Token) (front : List Node) (total : Read) → begins (starts f) ts ≡ false → gathering front (read left (many f) env ts) ≡ total → total ≡ Ok (row_of front, ts)
gathering_ends left f env ts front total b so_far =
    sym so_far ∙ ap (gathering front) (all_stop (starts f) (reader every_rule (is_zero left) (construct every_rule true left) f env) ts b) ∙ ap (λ (w : Node). Ok (w, ts)) (joined_none front)
