-- Items that may be bodies, from what was read of their parts.
use Rattle.std.proofs.Common.{◌≡◌, ℕ, false, List, Ok, Err, refl, ap, subst, ◌∙◌}
use Rattle.ctl_tree.specs.declared.token.Kind.TheVariants as kinds
use Rattle.ctl_tree.specs.declared.token.Token.{Token}
use Rattle.ctl_grammar.specs.Form.{Node, none, pair, tag, Form, ◌▸◌}
use Rattle.ctl_grammar.specs.Label as labels
use Rattle.ctl_grammar.specs.Nodes.{first, second, yes, no, procedure_of, part_2_letters}
use Rattle.ctl_grammar.specs.Grammar.{spot, identifier, function, specification, start_of_body, start_of_function_body, start_of_procedure_body, completed, behind_name, completed_specification, overriding_item, function_item, procedure_item}
use Rattle.ctl_grammar.specs.Reading.{Read, ◌>>=◌, made, read, starts_too_deep}
use Rattle.ctl_grammar.proofs.Late.{specification_past, function_past, procedure_past}

pairs : (x z : Node × List Token) → (let o : Read = Ok x in o) ≡ Ok z → x ≡ z
pairs x z h = cc

made_twice : (f g : Node → Node) (o : Read) → made g (made f o) ≡ made (λ v. g (f v)) o
made_twice f g (Ok x) = refl
made_twice f g (Err e) = refl

-- the place of an item before what it is
placed : (f h : Node → Node) (p kind : Node) (now : List Token) → ((v : Node) → h v ≡ pair p (f v)) → (o : Read) → made f o ≡ Ok (kind, now) → made h o ≡ Ok (pair p kind, now)
placed f h p kind now same (Ok x) e = ap (λ (v : Node). Ok (v, x.1)) (same x.0) ∙ ap (λ (z : Node × List Token). Ok (pair p z.0, z.1)) (pairs (f x.0, x.1) (kind, now) e)
placed f h p kind now same (Err d) e = absurd cc

-- a heading that was read, and what completes it
headed : (f : Form) (left : ℕ) (ts rest : List Token) (spec : Node) → read left f none ts ≡ Ok (spec, rest)
    → (read left f none ts >>= λ x. read left completed (part_2_letters x.0) x.1 >>= λ y. Ok (pair x.0 y.0, y.1)) ≡ made (λ v. pair spec v) (read left completed (part_2_letters spec) rest)
headed f left ts rest spec e = ap (λ (o : Read). o >>= λ x. read left completed (part_2_letters x.0) x.1 >>= λ y. Ok (pair x.0 y.0, y.1)) e

pub function_item_read : (left now : ℕ) (ts rest behind : List Token) (spec kind : Node) → now ≡ left → starts_too_deep left start_of_function_body ts ≡ false → read left function none ts ≡ Ok (spec, rest)
    → made (λ v. tag labels.Subprogram (pair no (pair spec v))) (read now completed (part_2_letters spec) rest) ≡ Ok (kind, behind) → read left function_item none ts ≡ Ok (pair (first spec) kind, behind)
unfolding function_item
function_item_read left now ts rest behind spec kind same past e given =
    let make : Node → Node = λ v. pair (first (first v)) (tag labels.Subprogram (pair no v)) in
    let o = read left completed (part_2_letters spec) rest in
    let here : made (λ v. tag labels.Subprogram (pair no (pair spec v))) o ≡ Ok (kind, behind) = subst (λ (n : ℕ). made (λ v. tag labels.Subprogram (pair no (pair spec v))) (read n completed (part_2_letters spec) rest) ≡ Ok (kind, behind)) same given in
    ap (made make) (function_past left ts past ∙ headed function left ts rest spec e) ∙ made_twice (λ v. pair spec v) make o ∙ placed (λ v. tag labels.Subprogram (pair no (pair spec v))) (λ v. make (pair spec v)) (first spec) kind behind (λ v. refl) o here

pub overriding_item_read : (left next now : ℕ) (ts at_heading rest behind : List Token) (p spec kind : Node) → next ≡ left → now ≡ left → read left (spot kinds.Overriding) none ts ≡ Ok (p, at_heading) → starts_too_deep next start_of_body at_heading ≡ false
    → read next specification none at_heading ≡ Ok (spec, rest) → made (λ v. tag labels.Subprogram (pair yes (pair spec v))) (read now completed (part_2_letters spec) rest) ≡ Ok (kind, behind) → read left overriding_item none ts ≡ Ok (pair p kind, behind)
unfolding overriding_item
overriding_item_read left next now ts at_heading rest behind p spec kind next_same now_same word past e given =
    let make : Node → Node = λ v. pair (first v) (tag labels.Subprogram (pair yes (second v))) in
    let o = read left completed (part_2_letters spec) rest in
    let here : made (λ v. tag labels.Subprogram (pair yes (pair spec v))) o ≡ Ok (kind, behind) = subst (λ (n : ℕ). made (λ v. tag labels.Subprogram (pair yes (pair spec v))) (read n completed (part_2_letters spec) rest) ≡ Ok (kind, behind)) now_same given in
    let past_here : starts_too_deep left start_of_body at_heading ≡ false = subst (λ (n : ℕ). starts_too_deep n start_of_body at_heading ≡ false) next_same past in
    let e_here : read left specification none at_heading ≡ Ok (spec, rest) = subst (λ (n : ℕ). read n specification none at_heading ≡ Ok (spec, rest)) next_same e in
    let inner : read left completed_specification none at_heading ≡ made (λ v. pair spec v) o = specification_past left at_heading past_here ∙ headed specification left at_heading rest spec e_here in
    ap (λ (r : Read). made make (r >>= λ x. read left completed_specification none x.1 >>= λ y. Ok (pair x.0 y.0, y.1))) word ∙ ap (λ (r : Read). made make (made (λ v. pair p v) r)) inner
    ∙ ap (made make) (made_twice (λ v. pair spec v) (λ v. pair p v) o) ∙ made_twice (λ v. pair p (pair spec v)) make o
    ∙ placed (λ v. tag labels.Subprogram (pair yes (pair spec v))) (λ v. make (pair p (pair spec v))) p kind behind (λ v. refl) o here

pub procedure_item_read : (left next now : ℕ) (ts at_name rest behind : List Token) (p id kind : Node) → next ≡ left → now ≡ left → starts_too_deep left start_of_procedure_body ts ≡ false → read left (spot kinds.Procedure) none ts ≡ Ok (p, at_name)
    → read next identifier none at_name ≡ Ok (id, rest) → made (procedure_of p id) (read now behind_name (first id) rest) ≡ Ok (kind, behind) → read left procedure_item none ts ≡ Ok (pair p kind, behind)
unfolding procedure_item
procedure_item_read left next now ts at_name rest behind p id kind next_same now_same past word e given =
    let make : Node → Node = λ v. pair (first (first v)) (procedure_of (first (first v)) (second (first v)) (second v)) in
    let o = read left behind_name (first id) rest in
    let here : made (procedure_of p id) o ≡ Ok (kind, behind) = subst (λ (n : ℕ). made (procedure_of p id) (read n behind_name (first id) rest) ≡ Ok (kind, behind)) now_same given in
    let e_here : read left identifier none at_name ≡ Ok (id, rest) = subst (λ (n : ℕ). read n identifier none at_name ≡ Ok (id, rest)) next_same e in
    let head : read left (spot kinds.Procedure ▸ identifier) none ts ≡ Ok (pair p id, rest) = ap (λ (r : Read). r >>= λ x. read left identifier none x.1 >>= λ y. Ok (pair x.0 y.0, y.1)) word ∙ ap (λ (r : Read). r >>= λ y. Ok (pair p y.0, y.1)) e_here in
    ap (made make) (procedure_past left ts past ∙ ap (λ (r : Read). r >>= λ x. read left behind_name (first (second x.0)) x.1 >>= λ y. Ok (pair x.0 y.0, y.1)) head)
    ∙ made_twice (λ v. pair (pair p id) v) make o ∙ placed (procedure_of p id) (λ v. make (pair (pair p id) v)) p kind behind (λ v. refl) o here
