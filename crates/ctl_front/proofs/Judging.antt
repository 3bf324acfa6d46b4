-- What the answer of the check says of a text; each text has one answer.
use Rattle.std.proofs.Common.{◌≡◌, ℕ, List, ◌⊎◌, inl, inr, Result, Err, sym, ap, subst, ◌∙◌}
use Rattle.ctl_tree.specs.declared.fault.Fault.{Fault}
use Rattle.ctl_syntax.specs.declared.denoted.Definition.{Definition}
use Rattle.ctl_syntax.specs.declared.denoted.Use.{Use}
use Rattle.ctl_syntax.specs.declared.item.Tree.{Tree}
use Rattle.ctl_program.specs.declared.program.Checked.{Checked}
use Rattle.ctl_lex.specs.Memory.{IsMemory}
use Rattle.ctl_resolve.specs.declared.context.Broken.{Broken}
use Rattle.ctl_resolve.specs.Whole.{named}
use Rattle.ctl_types.specs.Elaboration.{elaborate, Elaborates}
use Rattle.ctl_front.specs.Text.{Written, Spells, BreaksForm, resolved, judged, IsAnswer, unspelled, spelled, Answers, SpellsNamed, HasAnswer, HasOneAnswer}
use Rattle.ctl_front.proofs.Spelling.{one_tree, no_tree, same_fault, tree_or_fault}

-- ---- the answer of the check

resolved_so : (tree : Written) (n : Tree Definition Use × Broken) → n ≡ named tree → n ≡ resolved tree
unfolding resolved
resolved_so tree n e = e

judged_so : (tree : Written) (n : Tree Definition Use × Broken) (r : Result Checked Fault) → n ≡ resolved tree → r ≡ elaborate n.1.names n.1.uses n.0 → r ≡ judged tree
unfolding judged
judged_so tree n r e is = is ∙ ap (λ (m : Tree Definition Use × Broken). elaborate m.1.names m.1.uses m.0) e

-- of a resolved tree and first broken rules that the resolver gave
pub answered_by : (source : List ℕ) (tree : Written) (n : Tree Definition Use × Broken) (r : Result Checked Fault) → Spells source tree → n ≡ named tree → Elaborates n.1.names n.1.uses n.0 r → Answers source r
answered_by source tree n r s e (inl is) = inl (subst (λ x. IsAnswer source x) (sym (judged_so tree n r (resolved_so tree n e) is)) (spelled s))
answered_by source tree n r s e (inr is) = inr is

-- the resolver's tree
pub resolved_as : (source : List ℕ) (tree : Written) (n : Tree Definition Use × Broken) → Spells source tree → n ≡ named tree → SpellsNamed source n.0
resolved_as source tree n s e = record { tree = tree; spelled = s; denotes = ap (λ (m : Tree Definition Use × Broken). m.0) (resolved_so tree n e) }

-- where no tree was read
pub unread : (source : List ℕ) (fault : Fault) → BreaksForm source fault ⊎ IsMemory fault → Answers source (Err fault)
unread source fault (inl f) = inl (unspelled f)
unread source fault (inr m) = inr (ap Err m)

-- ---- the laws

pub has_answer : HasAnswer
has_answer source = elim (tree_or_fault source) [
  | inl t ↦ (judged t.0, spelled t.1)
  | inr f ↦ (Err f.0, unspelled f.1)
]

pub has_one_answer : HasOneAnswer
has_one_answer source a b (unspelled f) (unspelled g) = ap Err (same_fault source _ _ f g)
has_one_answer source a b (unspelled f) (spelled s) = absurd (no_tree source _ _ f s)
has_one_answer source a b (spelled s) (unspelled f) = absurd (no_tree source _ _ f s)
has_one_answer source a b (spelled s) (spelled t) = ap judged (one_tree source _ _ s t)
