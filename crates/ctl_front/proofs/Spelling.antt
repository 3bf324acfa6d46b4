-- What the tokens of a text say of the text.
use Rattle.std.proofs.Common.{◌≡◌, ℕ, List, ◌⊎◌, inl, inr, Result, Ok, Err, refl, sym, ap, subst, ◌∙◌}
use Rattle.std.specs.Prelude.{IfErr, IfOk}
use Rattle.ctl_tree.specs.declared.fault.Fault.{Fault}
use Rattle.ctl_tree.specs.declared.token.Token.{Token}
use Rattle.ctl_lexis.specs.Lexis.{HasTokens, HasFault}
use Rattle.ctl_lexis.proofs.OneAnswer as lexis
use Rattle.ctl_lex.specs.Memory.{IsMemory}
use Rattle.ctl_grammar.specs.Depth.{greatest_depth}
use Rattle.ctl_grammar.specs.Form.{Node}
use Rattle.ctl_grammar.specs.Text.{IsProgram}
use Rattle.ctl_grammar.specs.Fault.{HasGrammarFault}
use Rattle.ctl_grammar.proofs.Programs as programs
use Rattle.ctl_grammar.proofs.Faults as faults
use Rattle.ctl_parse.specs.Kept.{kept_program}
use Rattle.ctl_parse.specs.Parts.{tree_node}
use Rattle.ctl_parse.specs.Read.{read_tree}
use Rattle.ctl_parse.proofs.ReadTrees.{tree_back}
use Rattle.ctl_front.specs.Text.{Written, Spells, BreaksForm, of_lexis, of_grammar}

-- ---- of a text that is refused

pub refused_by_lexis : (source : List ℕ) (fault : Fault) → HasFault source fault ⊎ IsMemory fault → BreaksForm source fault ⊎ IsMemory fault
refused_by_lexis source fault (inl h) = inl (of_lexis h)
refused_by_lexis source fault (inr m) = inr m

by_grammar : (source : List ℕ) (ts : List Token) (fault : Fault) → HasTokens source ts → HasGrammarFault greatest_depth ts fault ⊎ IsMemory fault → BreaksForm source fault ⊎ IsMemory fault
by_grammar source ts fault h (inl f) = inl (of_grammar ts h f)
by_grammar source ts fault h (inr m) = inr m

pub refused_by_grammar : {X : Type 0} (source : List ℕ) (ts : List Token) (r : Result X Fault) → HasTokens source ts → IfErr r (λ f. HasGrammarFault greatest_depth ts f ⊎ IsMemory f) → IfErr r (λ f. BreaksForm source f ⊎ IsMemory f)
refused_by_grammar source ts (Ok x) h is = is
refused_by_grammar source ts (Err fault) h is = by_grammar source ts fault h is

-- ---- of a text that is read

pub spelled_by : (source : List ℕ) (ts : List Token) (r : Result Written Fault) → HasTokens source ts → IfOk r (λ tree. (v : Node) × IsProgram greatest_depth v ts × (tree_node tree ≡ kept_program v)) → IfOk r (λ tree. Spells source tree)
spelled_by source ts (Ok tree) h is = record { tokens = ts; lexical = h; node = is.0; grammatical = is.1; kept = sym (tree_back tree) ∙ ap read_tree is.2 }
spelled_by source ts (Err fault) h is = is

-- ---- one tree or one fault

-- what holds of the text's one list of tokens
along : (P : List Token → Type 0) (source : List ℕ) (ts us : List Token) → HasTokens source ts → HasTokens source us → P ts → P us
along P source ts us h k p = subst P (lexis.one_list source ts us h k) p

program_of : (source : List ℕ) (ts : List Token) (tree : Written) → HasTokens source ts → (s : Spells source tree) → IsProgram greatest_depth s.node ts
program_of source ts tree h s = along (λ us. IsProgram greatest_depth s.node us) source s.tokens ts s.lexical h s.grammatical

fault_of : (source : List ℕ) (ts : List Token) (fault : Fault) → HasTokens source ts → BreaksForm source fault → HasGrammarFault greatest_depth ts fault
fault_of source ts fault h (of_lexis f) = absurd (lexis.never_both source ts fault h f)
fault_of source ts fault h (of_grammar us k f) = along (λ xs. HasGrammarFault greatest_depth xs fault) source us ts k h f

pub one_tree : (source : List ℕ) (a b : Written) → Spells source a → Spells source b → a ≡ b
one_tree source a b s r = s.kept ∙ (ap (λ v. read_tree (kept_program v)) (programs.one_tree greatest_depth greatest_depth s.node r.node r.tokens (program_of source r.tokens a r.lexical s) r.grammatical) ∙ sym r.kept)

pub no_tree : (source : List ℕ) (fault : Fault) (tree : Written) → BreaksForm source fault → Spells source tree → ⊥
no_tree source fault tree (of_lexis f) s = lexis.never_both source s.tokens fault s.lexical f
no_tree source fault tree (of_grammar ts h f) s = (faults.one_of_both greatest_depth ts fault f).0 s.node (program_of source ts tree h s)

same_of_lexis : (source : List ℕ) (a b : Fault) → HasFault source a → BreaksForm source b → a ≡ b
same_of_lexis source a b f (of_lexis g) = lexis.one_fault source a b f g
same_of_lexis source a b f (of_grammar ts h g) = absurd (lexis.never_both source ts a h f)

pub same_fault : (source : List ℕ) (a b : Fault) → BreaksForm source a → BreaksForm source b → a ≡ b
same_fault source a b (of_lexis f) g = same_of_lexis source a b f g
same_fault source a b (of_grammar ts h f) g = sym ((faults.one_of_both greatest_depth ts a f).1 b (fault_of source ts b h g))

pub tree_or_fault : (source : List ℕ) → ((tree : Written) × Spells source tree) ⊎ ((fault : Fault) × BreaksForm source fault)
tree_or_fault source = elim (lexis.always_one source) [
  | inl h ↦ elim (faults.program_or_fault greatest_depth h.0) [
    | inl p ↦ inl (read_tree (kept_program p.0), record { tokens = h.0; lexical = h.1; node = p.0; grammatical = p.1; kept = refl })
    | inr f ↦ inr (f.0, of_grammar h.0 h.1 f.1)
  ]
  | inr f ↦ inr (f.0, of_lexis f.1)
]
