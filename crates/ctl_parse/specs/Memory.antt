-- The fault of a refused growth, and that of any refusal.
use Rattle.std.specs.Prelude.{◌≡◌, List}
use Rattle.ctl_tree.specs.declared.fault.Fault.{Fault}
use Rattle.ctl_tree.specs.declared.fault.FaultCode.TheVariants.{Memory}
use Rattle.ctl_tree.specs.declared.token.Token.{Token}
use Rattle.ctl_grammar.specs.declared.refused.Refused.{Refused}
use Rattle.ctl_grammar.specs.declared.refused.Refused.TheVariants as refused
use Rattle.ctl_grammar.specs.Fault.{fault_at}

-- the host refused memory: a fault of no place, shown at the beginning
abbrev pub IsMemory : Fault → Type 0
IsMemory fault = fault ≡ record { code = Memory; line = 1; column = 1 }

-- the fault is that of the refusal before the tokens `rest`, which end the tokens
abbrev pub Tells : Refused → List Token → List Token → Fault → Type 0
Tells refused.Memory rest ts fault = IsMemory fault
Tells (refused.Token reason) rest ts fault = fault ≡ fault_at reason rest ts
