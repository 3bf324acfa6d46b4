-- What a source text comes to: a program that this version runs, or its fault.
use Rattle.std.specs.Prelude.{◌≡◌, ◌⊎◌, ℕ, List, unwrap_or, Result, Ok, Err, false}
use Rattle.ctl_tree.specs.declared.fault.Fault.{Fault}
use Rattle.ctl_tree.specs.declared.fault.FaultCode.TheVariants.{LeftOut, Memory}
use Rattle.ctl_tree.specs.declared.span.Span.{Span}
use Rattle.ctl_tree.specs.Faults.{fault_at}
use Rattle.ctl_syntax.specs.declared.denoted.Definition.{Definition}
use Rattle.ctl_syntax.specs.declared.denoted.Use.{Use}
use Rattle.ctl_syntax.specs.declared.item.Tree.{Tree}
use Rattle.ctl_program.specs.declared.program.Checked.{Checked}
use Rattle.ctl_front.specs.Text.{IsAnswer, SpellsNamed}
use Rattle.ctl_layout.specs.Run.{IsRun, is_run}
use Rattle.ctl_slice.specs.Places.{first_left_out}

-- where a text is left out: at the first construct of a kind of which not all is run, or else at the procedure
abbrev pub place_left_out : Tree Definition Use → Span
place_left_out t = unwrap_or (first_left_out t) t.span

-- the bytes spell a tree, and this is the fault where it is left out
pub record IsLeftOut (source : List ℕ) (fault : Fault) : Type 0 where
  pub named : Tree Definition Use
  pub spelled : SpellsNamed source named
  pub place : fault ≡ fault_at LeftOut (place_left_out named)

-- what a text is: refused with its first fault, left out where its program is not run whole, or accepted with its program
pub data IsVerdict : List ℕ → Result Checked Fault → Type 0 where
  refused : {source : List ℕ} {fault : Fault} → IsAnswer source (Err fault) → IsVerdict source (Err fault)
  left_out : {source : List ℕ} {fault : Fault} (program : Checked) → IsAnswer source (Ok program) → is_run program ≡ false → IsLeftOut source fault → IsVerdict source (Err fault)
  accepted : {source : List ℕ} {program : Checked} → IsAnswer source (Ok program) → IsRun program → IsVerdict source (Ok program)

-- the verdict of a text, or that memory was refused
abbrev pub Settles : List ℕ → Result Checked Fault → Type 0
Settles source r = IsVerdict source r ⊎ (r ≡ Err (record { code = Memory; line = 1; column = 1 }))

-- the fault of a text
abbrev pub IsFaultOf : List ℕ → Fault → Type 0
IsFaultOf source fault = IsVerdict source (Err fault)

-- a text without a fault
abbrev pub IsFaultless : List ℕ → Type 0
IsFaultless source = (program : Checked) × IsVerdict source (Ok program)

-- ---- the law

-- Each text has a program that is run, or a fault.
abbrev pub HasVerdict : Type 0
HasVerdict = (source : List ℕ) → (r : Result Checked Fault) × IsVerdict source r

-- It has no other: not a program and a fault, no two programs, no two faults.
abbrev pub HasOneVerdict : Type 0
HasOneVerdict = (source : List ℕ) (a b : Result Checked Fault) → IsVerdict source a → IsVerdict source b → a ≡ b
