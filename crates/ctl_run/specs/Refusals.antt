-- Why the text of a run was not written.
use Rattle.std.specs.Prelude.{◌≡◌, ◌⊎◌, ℕ, List}
use Rattle.ctl_lex.specs.Memory.{IsMemory}
use Rattle.ctl_verdict.specs.Verdict.{IsFaultOf}
use Rattle.ctl_run.specs.declared.summary.RunFault.{RunFault}
use Rattle.ctl_run.specs.declared.summary.RunFault.TheVariants.{Refused, Write}
use Rattle.ctl_tree.specs.declared.fault.Fault.{Fault}

-- the source text is refused, or memory was
abbrev pub IsRefusal : RunFault → Type 0
IsRefusal (Refused fault) = Unit {0}
IsRefusal Write = ⊥

-- if it was refused, then for want of memory
abbrev pub WantsMemory : RunFault → Type 0
WantsMemory (Refused fault) = IsMemory fault
WantsMemory Write = Unit {0}

-- if it was refused, then for the fault of the source text, or for want of memory
abbrev pub IsRefusedFor : List ℕ → RunFault → Type 0
IsRefusedFor source (Refused fault) = IsFaultOf source fault ⊎ IsMemory fault
IsRefusedFor source Write = Unit {0}

-- the source text is refused with this fault, or memory was refused
abbrev pub IsRefusalWith : Fault → RunFault → Type 0
IsRefusalWith fault (Refused given) = (given ≡ fault) ⊎ IsMemory given
IsRefusalWith fault Write = ⊥
