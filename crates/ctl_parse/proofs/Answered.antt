-- What the parser's answer says of the tokens.
use Rattle.std.proofs.Common.{◌≡◌, ◌⊎◌, ℕ, List, [], ◌∷◌, map, Option, Some, None, Ok, Err, inl, inr, refl, sym, ap, subst, ◌∙◌}
use Rattle.ctl_tree.specs.declared.fault.Fault.{Fault}
use Rattle.ctl_tree.specs.declared.token.Token.{Token}
use Rattle.ctl_syntax.specs.declared.item.Tree.{Tree}
use Rattle.ctl_syntax.specs.declared.name.Identifier.{Identifier}
use Rattle.ctl_grammar.specs.declared.refused.Reason.{Reason}
use Rattle.ctl_grammar.specs.declared.refused.Refused.{Refused}
use Rattle.ctl_grammar.specs.declared.refused.Refused.TheVariants as refused
use Rattle.ctl_grammar.specs.Form.{Node, none, at, pair}
use Rattle.ctl_grammar.specs.Grammar.{program}
use Rattle.ctl_grammar.specs.Nodes.{first, part_2, part_3, behind_3, row_of}
use Rattle.ctl_grammar.specs.Reading.{Read, ◌>>=◌, read}
use Rattle.ctl_grammar.specs.Text.{IsProgram, answer, ended}
use Rattle.ctl_grammar.specs.Fault.{HasGrammarFault, fault_at}
use Rattle.ctl_parse.specs.Memory.{IsMemory, Tells}
use Rattle.ctl_grammar.proofs.Programs.{reads_what_is_spelled, spells_what_is_read}
use Rattle.ctl_grammar.proofs.Faults.{one_of_both}
use Rattle.ctl_parse.specs.declared.cursor.Parser.{Parser}
use Rattle.ctl_parse.specs.Kept.{kept, kept_read, kept_program, body_part}
use Rattle.ctl_parse.specs.Parts.{context_node, program_node, tree_node}
use Rattle.ctl_parse.specs.Reads.{Reads, Gave, Goes, Ended, Ends}
use Rattle.ctl_parse.specs.View.{identifier_node}
use Rattle.ctl_parse.proofs.PartViews.{body_pair}
use Rattle.ctl_parse.proofs.Steps.{same_parts}

-- ---- the end

ended_here : (x a : Node) (xs us : List Token) (f : Option Refused) → kept x ≡ a → xs ≡ us → Ended None us f → Gave (ended x xs) a f us
ended_here x a xs [] f h k e = subst (λ (z : Option Refused). Gave (ended x xs) a z []) (sym e) (ap (λ (z : List Token). kept_read (ended x z)) k ∙ ap (λ (z : Node). Ok (z, [])) h)
ended_here x a xs (t ∷ ts) f h k e = subst (λ (z : Option Refused). Gave (ended x xs) a z (t ∷ ts)) (sym e) (ap (ended x) k)

gave_ended : (o : Read) (a : Node) (us : List Token) (e f : Option Refused) → Gave o a e us → Ended e us f → Gave (o >>= λ x. ended x.0 x.1) a f us
gave_ended (Ok x) a us None f g h =
    let p = same_parts (kept x.0, x.1) (a, us) g in
    ended_here x.0 a x.1 us f (ap (λ (z : Node × List Token). z.0) p) (ap (λ (z : Node × List Token). z.1) p) h
gave_ended (Err d) a us None f g h = absurd cc
gave_ended o a us (Some refused.Memory) f g h = subst (λ (z : Option Refused). Gave (o >>= λ x. ended x.0 x.1) a z us) (sym h) tt
gave_ended o a us (Some (refused.Token r)) f g h = subst (λ (z : Option Refused). Gave (o >>= λ x. ended x.0 x.1) a z us) (sym h) (ap (λ (z : Read). z >>= λ x. ended x.0 x.1) g)

goes_ended : (o : Read) (a : Node) (ts us : List Token) (d e f : Option Refused) → Goes d ts o a e us → Ended e us f → Goes d ts (o >>= λ x. ended x.0 x.1) a f us
goes_ended o a ts us None e f g h = gave_ended o a us e f g h
goes_ended o a ts us (Some x) e f g h = (subst (λ (z : Option Refused). Ended z us f) g.0 h, g.1)

pub ending : {p q r : Parser} {a : Node} → Reads program none p a q → Ends q r → Goes p.fault p.rest.now (answer p.left p.rest.now) a r.fault r.rest.now
unfolding answer
ending {p} {q} {r} {a} k e =
    subst (λ (z : List Token). Goes p.fault p.rest.now (read p.left program none p.rest.now >>= λ x. ended x.0 x.1) a r.fault z) (sym e.rest)
    (goes_ended (read p.left program none p.rest.now) a p.rest.now q.rest.now p.fault q.fault r.fault k.goes e.ended)

-- ---- programs

-- what is kept of a program is its tree
tree_is : (t : Tree Identifier Identifier) (end v : Node) → kept v ≡ program_node t end → tree_node t ≡ kept_program v
tree_is t end v h =
    let same = ap (λ (n : Node). pair (row_of (map context_node t.contexts)) (pair (at t.span) (pair (identifier_node t.name) n))) (body_pair t.body) in
    sym same ∙ sym (ap (λ (n : Node). pair (first n) (pair (part_2 n) (pair (part_3 n) (body_part (behind_3 n))))) h)

kept_answer : (o : Read) (a : Node) (us : List Token) → kept_read o ≡ Ok (a, us) → (v : Node) × (o ≡ Ok (v, us)) × (kept v ≡ a)
kept_answer (Ok x) a us h =
    let p = same_parts (kept x.0, x.1) (a, us) h in
    (x.0, ap (λ (z : Node × List Token). Ok (x.0, z.1)) p, ap (λ (z : Node × List Token). z.0) p)
kept_answer (Err d) a us h = absurd cc

pub found : (left : ℕ) (ts us : List Token) (t : Tree Identifier Identifier) (end : Node) → kept_read (answer left ts) ≡ Ok (program_node t end, us) → (v : Node) × IsProgram left v ts × (tree_node t ≡ kept_program v)
found left ts us t end h =
    let p = kept_answer (answer left ts) (program_node t end) us h in
    (p.0, spells_what_is_read left p.0 ts us p.1, tree_is t end p.0 p.2)

pub one_program : (left : ℕ) (ts us : List Token) (t : Tree Identifier Identifier) (end v : Node) → kept_read (answer left ts) ≡ Ok (program_node t end, us) → IsProgram left v ts → tree_node t ≡ kept_program v
one_program left ts us t end v h p =
    let e : kept_read (answer left ts) ≡ Ok (kept v, []) = ap kept_read (reads_what_is_spelled left v ts p) in
    tree_is t end v (ap (λ (z : Node × List Token). z.0) (same_parts (kept v, []) (program_node t end, us) (sym e ∙ h)))

pub no_fault : (left : ℕ) (ts us : List Token) (a : Node) (fault : Fault) → kept_read (answer left ts) ≡ Ok (a, us) → HasGrammarFault left ts fault → ⊥
no_fault left ts us a fault h f = let clash = sym h ∙ ap kept_read f.2 in absurd cc

-- ---- faults

pub no_program : (left : ℕ) (ts rest : List Token) (reason : Reason) (v : Node) → answer left ts ≡ Err (reason, rest) → IsProgram left v ts → ⊥
no_program left ts rest reason v e p = let clash = sym e ∙ reads_what_is_spelled left v ts p in absurd cc

pub has_fault : (left : ℕ) (ts rest : List Token) (reason : Reason) → answer left ts ≡ Err (reason, rest) → HasGrammarFault left ts (fault_at reason rest ts)
has_fault left ts rest reason e = (reason, rest, e, refl)

pub one_fault : (left : ℕ) (ts rest : List Token) (reason : Reason) (fault : Fault) → answer left ts ≡ Err (reason, rest) → HasGrammarFault left ts fault → fault_at reason rest ts ≡ fault
one_fault left ts rest reason fault e h = (one_of_both left ts fault h).1 (fault_at reason rest ts) (has_fault left ts rest reason e)

-- ---- what is answered

pub sound_answer : (o : Read) (a : Node) (us : List Token) (e : Option Refused) → e ≡ None → Gave o a e us → kept_read o ≡ Ok (a, us)
sound_answer o a us e h g = subst (λ (z : Option Refused). Gave o a z us) h g

pub refused_answer : (o : Read) (a : Node) (us : List Token) (e : Option Refused) (x : Refused) → e ≡ Some x → Gave o a e us → Gave o a (Some x) us
refused_answer o a us e x h g = subst (λ (z : Option Refused). Gave o a z us) h g

pub refused_is : (left : ℕ) (ts us : List Token) (a : Node) (x : Refused) (f : Fault) → Gave (answer left ts) a (Some x) us → Tells x us ts f → HasGrammarFault left ts f ⊎ IsMemory f
refused_is left ts us a refused.Memory f g t = inr t
refused_is left ts us a (refused.Token r) f g t = inl (subst (HasGrammarFault left ts) (sym t) (has_fault left ts us r g))

pub program_refused : (left : ℕ) (ts us : List Token) (a v : Node) (x : Refused) (f : Fault) → Gave (answer left ts) a (Some x) us → Tells x us ts f → IsProgram left v ts → IsMemory f
program_refused left ts us a v refused.Memory f g t p = t
program_refused left ts us a v (refused.Token r) f g t p = absurd (no_program left ts us r v g p)

pub fault_refused : (left : ℕ) (ts us : List Token) (a : Node) (x : Refused) (f other : Fault) → Gave (answer left ts) a (Some x) us → Tells x us ts f → HasGrammarFault left ts other → (f ≡ other) ⊎ IsMemory f
fault_refused left ts us a refused.Memory f other g t h = inr t
fault_refused left ts us a (refused.Token r) f other g t h = inl (t ∙ one_fault left ts us r other g h)
