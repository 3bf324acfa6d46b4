-- The exit statuses: their numbers, and those for ends and faults.
use Rattle.std.specs.Prelude.{ℕ}
use Rattle.ctl_job.specs.declared.job.UsageFault.{UsageFault}
use Rattle.ctl_serve.specs.declared.status.Status.{Status}
use Rattle.ctl_serve.specs.declared.status.Status.TheVariants as status
use Rattle.ctl_tree.specs.declared.ending.End.{End}
use Rattle.ctl_tree.specs.declared.ending.End.TheVariants.{Done, Raised, Stopped, StepLimit, HostMemory}
use Rattle.ctl_tree.specs.declared.fault.FaultCode.{FaultCode}
use Rattle.ctl_tree.specs.declared.fault.FaultCode.TheVariants.{Memory}

-- the number of a status
abbrev pub exit_code : Status → ℕ
exit_code Status.Done = 0
exit_code Status.Raised = 1
exit_code Status.Refused = 2
exit_code Status.Stopped = 3
exit_code Status.StepLimit = 4
exit_code Status.HostMemory = 5
exit_code Status.Usage = 64
exit_code Status.InputOutput = 74

-- the status for words that ask for no job
abbrev pub usage_status : UsageFault → Status
usage_status UsageFault.Usage = status.Usage
usage_status UsageFault.Memory = status.HostMemory

-- the status for a run that ended so
abbrev pub end_status : End → Status
end_status Done = status.Done
end_status (Raised name) = status.Raised
end_status (Stopped stop) = status.Stopped
end_status StepLimit = status.StepLimit
end_status HostMemory = status.HostMemory

-- the status for a source text with a fault of this code
abbrev pub fault_status : FaultCode → Status
fault_status Memory = status.HostMemory
fault_status _ = status.Refused
