-- What the stages answer of a text makes up its verdict, and it has one.
use Rattle.std.proofs.Common.{◌≡◌, ℕ, List, Bool, true, false, Result, Ok, Err, ◌⊎◌, inl, inr, refl, sym, ap, subst, ◌∙◌}
use Rattle.std.specs.Prelude.{IsTrue}
use Rattle.ctl_tree.specs.declared.fault.Fault.{Fault}
use Rattle.ctl_syntax.specs.declared.denoted.Definition.{Definition}
use Rattle.ctl_syntax.specs.declared.denoted.Use.{Use}
use Rattle.ctl_syntax.specs.declared.item.Tree.{Tree}
use Rattle.ctl_tree.specs.declared.fault.FaultCode.TheVariants.{LeftOut}
use Rattle.ctl_tree.specs.Faults.{fault_at}
use Rattle.ctl_program.specs.declared.program.Checked.{Checked}
use Rattle.ctl_lex.specs.Memory.{IsMemory}
use Rattle.ctl_front.specs.Text.{Written, Spells, BreaksForm, SpellsNamed, resolved, judged, IsAnswer, unspelled, spelled, Answers}
use Rattle.ctl_front.proofs.Judging.{has_answer, has_one_answer}
use Rattle.ctl_front.proofs.Spelling.{one_tree}
use Rattle.ctl_layout.specs.Run.{IsRun, is_run}
use Rattle.ctl_verdict.specs.Verdict.{place_left_out, IsLeftOut, IsVerdict, refused, left_out, accepted, Settles, IsFaultOf, IsFaultless, HasVerdict, HasOneVerdict}

-- ---- a program of a text

-- the tree that it spells
pub record IsProgramOf (source : List ℕ) (program : Checked) : Type 0 where
  pub tree : Written
  pub spelled : Spells source tree
  pub judged_so : judged tree ≡ Ok program

pub program_is : (source : List ℕ) (r : Result Checked Fault) (program : Checked) → IsAnswer source r → r ≡ Ok program → IsProgramOf source program
program_is source r program (unspelled f) e = absurd (cc)
program_is source r program (spelled s) e = record { tree = _; spelled = s; judged_so = e }

-- ---- the law

is_left : (source : List ℕ) (tree : Written) → Spells source tree → IsLeftOut source (fault_at LeftOut (place_left_out (resolved tree).0))
is_left source tree s = record { named = (resolved tree).0; spelled = record { tree = tree; spelled = s; denotes = refl }; place = refl }

by_running : (source : List ℕ) (program : Checked) (runs : Bool) → is_run program ≡ runs → IsAnswer source (Ok program) → (r : Result Checked Fault) × IsVerdict source r
by_running source program true e a = (Ok program, accepted a e)
by_running source program false e a =
    let p = program_is source (Ok program) program a refl in
    (Err (fault_at LeftOut (place_left_out (resolved p.tree).0)), left_out program a e (is_left source p.tree p.spelled))

by_answer : (source : List ℕ) (r : Result Checked Fault) → IsAnswer source r → (s : Result Checked Fault) × IsVerdict source s
by_answer source (Ok program) a = by_running source program (is_run program) refl a
by_answer source (Err fault) a = (Err fault, refused a)

pub has_verdict : HasVerdict
has_verdict source = by_answer source (has_answer source).0 (has_answer source).1

-- a text has one tree, so one place where it is left out
one_place : (source : List ℕ) (f g : Fault) → IsLeftOut source f → IsLeftOut source g → f ≡ g
one_place source f g l m =
    let trees = one_tree source l.spelled.tree m.spelled.tree l.spelled.spelled m.spelled.spelled in
    let named : l.named ≡ m.named = l.spelled.denotes ∙ (ap (λ (t : Written). (resolved t).0) trees ∙ sym m.spelled.denotes) in
    l.place ∙ (ap (λ (t : Tree Definition Use). fault_at LeftOut (place_left_out t)) named ∙ sym m.place)

-- the program of a text is run, or it is not
never_both : (source : List ℕ) (p q : Checked) → IsAnswer source (Ok p) → IsAnswer source (Ok q) → is_run p ≡ false → IsRun q → ⊥
never_both source p q a b not runs = absurd (let same = has_one_answer source (Ok p) (Ok q) a b in cc)

pub has_one_verdict : HasOneVerdict
has_one_verdict source a b (refused x) (refused y) = has_one_answer source a b x y
has_one_verdict source a b (refused x) (left_out q y m l) = absurd (let same = has_one_answer source a (Ok q) x y in cc)
has_one_verdict source a b (refused x) (accepted y r) = absurd (let same = has_one_answer source a b x y in cc)
has_one_verdict source a b (left_out p x n k) (refused y) = absurd (let same = has_one_answer source (Ok p) b x y in cc)
has_one_verdict source a b (left_out p x n k) (left_out q y m l) = ap Err (one_place source _ _ k l)
has_one_verdict source a b (left_out p x n k) (accepted y r) = absurd (never_both source p _ x y n r)
has_one_verdict source a b (accepted x r) (refused y) = absurd (let same = has_one_answer source a b x y in cc)
has_one_verdict source a b (accepted x r) (left_out q y m l) = absurd (never_both source q _ y x m r)
has_one_verdict source a b (accepted x r) (accepted y s) = has_one_answer source a b x y

-- ---- what the check answers

-- its first fault is the text's, unless memory was refused
pub by_first : (source : List ℕ) (fault : Fault) → Answers source (Err fault) → Settles source (Err fault)
by_first source fault (inl a) = inl (refused a)
by_first source fault (inr m) = inr m

-- its program is the text's
pub is_program : (source : List ℕ) (program : Checked) → Answers source (Ok program) → IsAnswer source (Ok program)
is_program source program (inl a) = a
is_program source program (inr m) = absurd (cc)

-- a text with a program breaks neither lexis nor grammar
pub by_construct : (source : List ℕ) (program : Checked) (fault : Fault) → IsAnswer source (Ok program) → is_run program ≡ false → IsLeftOut source fault ⊎ (BreaksForm source fault ⊎ IsMemory fault) → Settles source (Err fault)
by_construct source program fault a not (inl l) = inl (left_out program a not l)
by_construct source program fault a not (inr (inl f)) = absurd (let same = has_one_answer source (Ok program) (Err fault) a (unspelled f) in cc)
by_construct source program fault a not (inr (inr m)) = inr (ap Err m)

-- ---- what the verdict says of a run

pub verdict_of : (source : List ℕ) (program : Checked) → Settles source (Ok program) → IsVerdict source (Ok program)
verdict_of source program (inl v) = v
verdict_of source program (inr m) = absurd (cc)

pub answer_of : (source : List ℕ) (r : Result Checked Fault) (program : Checked) → IsVerdict source r → r ≡ Ok program → IsAnswer source (Ok program)
answer_of source r program (refused a) e = absurd (cc)
answer_of source r program (left_out p a n l) e = absurd (cc)
answer_of source r program (accepted a runs) e = subst (λ x. IsAnswer source x) e a

pub runs_of : (source : List ℕ) (r : Result Checked Fault) (program : Checked) → IsVerdict source r → r ≡ Ok program → IsRun program
runs_of source r program (refused a) e = absurd (cc)
runs_of source r program (left_out p a n l) e = absurd (cc)
runs_of source (Ok p) program (accepted a runs) e = let same : p ≡ program = cc in subst IsRun same runs

-- why a text is refused: for its fault, or for want of memory
pub refused_for : (source : List ℕ) (fault : Fault) → Settles source (Err fault) → IsFaultOf source fault ⊎ IsMemory fault
refused_for source fault (inl v) = inl v
refused_for source fault (inr m) = inr (cc)

-- a text with a fault is refused with it, unless memory was refused
pub refused_with_it : (source : List ℕ) (fault told : Fault) → IsFaultOf source fault → Settles source (Err told) → (told ≡ fault) ⊎ IsMemory told
refused_with_it source fault told f (inl v) = inl (let same = has_one_verdict source (Err told) (Err fault) v f in cc)
refused_with_it source fault told f (inr m) = inr (cc)

-- it is not accepted
pub not_accepted : (source : List ℕ) (fault : Fault) (program : Checked) → IsFaultOf source fault → Settles source (Ok program) → ⊥
not_accepted source fault program f s = absurd (let same = has_one_verdict source (Err fault) (Ok program) f (verdict_of source program s) in cc)

-- a text without a fault is refused for want of memory alone
pub for_memory : (source : List ℕ) (fault : Fault) → IsFaultless source → Settles source (Err fault) → IsMemory fault
for_memory source fault p (inl v) = absurd (let same = has_one_verdict source (Err fault) (Ok p.0) v p.1 in cc)
for_memory source fault p (inr m) = cc
