-- The laws of faults.
use Rattle.std.proofs.Common.{◌≡◌, ℕ, List, Ok, Err, refl, sym, ap, ◌∙◌, inl, inr}
use Rattle.std.specs.Prelude.{◌⊎◌}
use Rattle.ctl_tree.specs.declared.fault.Fault.{Fault}
use Rattle.ctl_tree.specs.declared.token.Token.{Token}
use Rattle.ctl_grammar.specs.declared.refused.Reason.{Reason}
use Rattle.ctl_grammar.specs.declared.refused.Reason.TheVariants.{Unexpected, TooDeep, LeftOut, EndName}
use Rattle.ctl_grammar.specs.Form.{Node, none, Known, Ends, every_rule}
use Rattle.ctl_grammar.specs.Grammar.{program}
use Rattle.ctl_grammar.specs.Reading.{Read}
use Rattle.ctl_grammar.specs.Text.{IsProgram, answer, IsRefused, IsRefusedForDepth}
use Rattle.ctl_grammar.specs.Fault.{fault_at, HasGrammarFault, IsFirst, FaultsAreFirst, BreaksAreFaults, ProgramOrFault, OneOfBoth}
use Rattle.ctl_grammar.proofs.Programs.{reads_what_is_spelled, spells_what_is_read, finds_the_unexpected, finds_the_left_out, finds_the_end_name, inside, first_refused}
use Rattle.ctl_grammar.proofs.Moved.{read_alike}
use Rattle.ctl_grammar.proofs.Told.{finds, tells, names_refuse_alone, depth_alone}

-- the token that is refused for the depth
deep_first : (left : ℕ) (ts rest : List Token) → answer left ts ≡ Err (TooDeep, rest) → (there : List Token) × IsRefused left ts there × IsRefusedForDepth left ts there
deep_first left ts rest e =
    let k = inside left TooDeep ts rest (λ h. absurd cc) e in
    elim (read_alike every_rule left program none ts) [
      | inl same ↦ (rest, first_refused left TooDeep ts rest (same ∙ k), depth_alone left ts rest (same ∙ k))
      | inr deep ↦ (deep.1.0, first_refused left TooDeep ts deep.1.0 deep.1.1, depth_alone left ts deep.1.0 deep.1.1)
    ]

first : (left : ℕ) (ts rest : List Token) (reason : Reason) → answer left ts ≡ Err (reason, rest) → IsFirst reason left ts rest
first left ts rest Unexpected e = finds_the_unexpected left ts rest e
first left ts rest TooDeep e = (deep_first left ts rest e, finds TooDeep refl left ts rest e)
first left ts rest LeftOut e = (finds_the_left_out left ts rest e, names_refuse_alone Known left ts rest e, finds LeftOut refl left ts rest e)
first left ts rest EndName e = (finds_the_end_name left ts rest e, names_refuse_alone Ends left ts rest e, finds EndName refl left ts rest e)

pub faults_are_first : FaultsAreFirst
faults_are_first left ts fault h = (h.0, h.1, h.3, first left ts h.1 h.0 h.2)

pub breaks_are_faults : BreaksAreFaults
breaks_are_faults left ts place reason p = (reason, place, tells reason left ts place p, refl)

pub program_or_fault : ProgramOrFault
program_or_fault left ts =
    let split : (o : Read) → answer left ts ≡ o → ((v : Node) × IsProgram left v ts) ⊎ ((fault : Fault) × HasGrammarFault left ts fault) = elim [
      | Ok x ↦ λ e. inl (x.0, spells_what_is_read left x.0 ts x.1 e)
      | Err d ↦ λ e. inr (fault_at d.0 d.1 ts, (d.0, d.1, e, refl))
    ] in split (answer left ts) refl

abbrev failed : Reason × List Token → Read
failed d = Err d

same_failure : (d e : Reason × List Token) → failed d ≡ failed e → d ≡ e
same_failure d e h = cc

pub one_of_both : OneOfBoth
one_of_both left ts fault h = (
  λ v p. let clash = sym h.2 ∙ reads_what_is_spelled left v ts p in absurd cc,
  λ other k.
      let same = same_failure (k.0, k.1) (h.0, h.1) (sym k.2 ∙ h.2) in
      k.3 ∙ ap (λ (d : Reason × List Token). fault_at d.0 d.1 ts) same ∙ sym h.3,
)
