-- Why a text is refused.
use Rattle.std.proofs.Common.{ℕ, List}
use Rattle.ctl_lexis.specs.Lexis.{HasFault}
use Rattle.ctl_front.specs.Text.{BreaksForm, of_lexis, unspelled}
use Rattle.ctl_verdict.specs.Verdict.{IsFaultOf, refused}
use Rattle.ctl_tree.specs.declared.fault.Fault.{Fault}

-- the first fault of a text that spells no tree is its fault
pub fault_of_form : (source : List ℕ) (fault : Fault) → BreaksForm source fault → IsFaultOf source fault
fault_of_form source fault f = refused (unspelled f)

-- and so is its first fault of lexis
pub fault_of_lexis : (source : List ℕ) (fault : Fault) → HasFault source fault → IsFaultOf source fault
fault_of_lexis source fault f = fault_of_form source fault (of_lexis f)
