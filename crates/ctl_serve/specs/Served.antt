-- What was read and written, by the job and the exit status.
use Rattle.std.specs.Prelude.{◌≡◌, ◌≤◌, ◌<◌, ◌⊎◌, ℕ, Bool, true, List, Ok, Option, codes, length}
use Rattle.std.specs.Io.KnownBytes.{Appends, Consumes, IsAtEnd, Keeps}
use Rattle.ctl_job.specs.declared.job.Job.{Job}
use Rattle.ctl_job.specs.declared.job.Job.TheVariants.{Check, Run}
use Rattle.ctl_run.specs.Shown.{shown_by}
use Rattle.ctl_serve.specs.Statuses.{end_status, exit_code, fault_status}
use Rattle.ctl_serve.specs.declared.status.Status.{Status}
use Rattle.ctl_serve.specs.declared.status.Status.TheVariants.{Done, Raised, Refused, Stopped, StepLimit, HostMemory, Usage, InputOutput}
use Rattle.ctl_program.specs.declared.program.Checked.{Checked}
use Rattle.ctl_run.specs.Headline.{Account, RunsSource}
use Rattle.ctl_verdict.specs.Verdict.{IsFaultOf, IsVerdict}
use Rattle.ctl_sink.specs.Prefix.{AppendsUpTo}
use Rattle.ctl_tree.specs.declared.fault.Fault.{Fault}
use Rattle.ctl_tree.specs.declared.request.Order.{Order}
use Rattle.ctl_tree.specs.declared.request.Show.{Show}

-- the status tells how a run ended
abbrev pub IsRunStatus : Status → Type 0
IsRunStatus Done = Unit {0}
IsRunStatus Raised = Unit {0}
IsRunStatus Refused = ⊥
IsRunStatus Stopped = Unit {0}
IsRunStatus StepLimit = Unit {0}
IsRunStatus HostMemory = ⊥
IsRunStatus Usage = ⊥
IsRunStatus InputOutput = ⊥

-- a check may end so
abbrev pub IsCheckStatus : Status → Type 0
IsCheckStatus Done = Unit {0}
IsCheckStatus Raised = ⊥
IsCheckStatus Refused = Unit {0}
IsCheckStatus Stopped = ⊥
IsCheckStatus StepLimit = ⊥
IsCheckStatus HostMemory = Unit {0}
IsCheckStatus Usage = ⊥
IsCheckStatus InputOutput = Unit {0}

-- a job may end so: any job but for wrong words, and a check not as a run ends
abbrev pub IsPossible : Job → Status → Type 0
IsPossible (Check file) status = IsCheckStatus status
IsPossible (Run file show order steps) status = status ≡ Usage → ⊥

-- this source text was read: all that the reader had left, where that is less than so many bytes
pub record Reads (most : ℕ) (old new : Option (List ℕ)) (source : List ℕ) : Type 0 where
  pub read : Consumes old new source
  pub within : length source ≤ most
  pub whole : length source < most → IsAtEnd new

-- `ok` was written for an accepted text
pub record WritesOk (source : List ℕ) (old new : Option (List ℕ)) : Type 0 where
  pub program : Checked
  pub accepted : IsVerdict source (Ok program)
  pub whole : Appends old new (codes "ok\n")

-- the whole text was written that shows a run of this source, under this order and limit of steps, and the status tells how it ended
pub record WritesRun (source : List ℕ) (order : Order) (steps : ℕ) (show : Show) (old new : Option (List ℕ)) (status : Status) : Type 0 where
  pub account : Account
  pub runs : RunsSource source order steps account
  pub ended : end_status account.end ≡ status
  pub whole : Appends old new (shown_by show account)

-- what is written for a job that was done, under the order and the limit of steps of the job
abbrev pub WritesFor : Job → List ℕ → Option (List ℕ) → Option (List ℕ) → Status → Type 0
WritesFor (Check file) source old new status = (status ≡ Done) × WritesOk source old new
WritesFor (Run file show order steps) source old new status = WritesRun source order steps show old new status

-- the status says that the job was done: the text is accepted, or how its run ended
abbrev pub IsDone : Job → Status → Type 0
IsDone (Check file) status = status ≡ Done
IsDone (Run file show order steps) status = IsRunStatus status

-- it was done on a source text that was read
pub record Serves (job : Job) (most : ℕ) (before after : Option (List ℕ)) (old new : Option (List ℕ)) (status : Status) : Type 0 where
  pub source : List ℕ
  pub reads : Reads most before after source
  pub writes : WritesFor job source old new status

-- `ok` was to be written for an accepted text: its beginning was, or all of it
pub record WritesOkUpTo (source : List ℕ) (old new : Option (List ℕ)) : Type 0 where
  pub program : Checked
  pub accepted : IsVerdict source (Ok program)
  pub part : AppendsUpTo old new (codes "ok\n")

-- the text was to be written that shows a run of this source, under this order and limit of steps: its beginning was, or all of it
pub record WritesRunUpTo (source : List ℕ) (order : Order) (steps : ℕ) (show : Show) (old new : Option (List ℕ)) : Type 0 where
  pub account : Account
  pub runs : RunsSource source order steps account
  pub part : AppendsUpTo old new (shown_by show account)

-- what is written for a job where the sink failed
abbrev pub WritesUpTo : Job → List ℕ → Option (List ℕ) → Option (List ℕ) → Type 0
WritesUpTo (Check file) source old new = WritesOkUpTo source old new
WritesUpTo (Run file show order steps) source old new = WritesRunUpTo source order steps show old new

-- it was broken off, on a source text that was read
pub record BreaksOff (job : Job) (most : ℕ) (before after : Option (List ℕ)) (old new : Option (List ℕ)) : Type 0 where
  pub source : List ℕ
  pub reads : Reads most before after source
  pub writes : WritesUpTo job source old new

-- this text is refused for its fault, and that is not want of memory
pub record IsRefusedText (source : List ℕ) : Type 0 where
  pub fault : Fault
  pub because : IsFaultOf source fault
  pub told : fault_status fault.code ≡ Refused

-- such a text was read
pub record ReadsRefused (most : ℕ) (before after : Option (List ℕ)) : Type 0 where
  pub source : List ℕ
  pub reads : Reads most before after source
  pub refused : IsRefusedText source

-- How a job ended: what the reader had left and what the sink held, before and after it, and whether a read and the sink have failed.
-- Where the text is refused nothing was written, nor where memory was wanting outside a run; a run that ended for want of memory was
-- written whole. The job ends as InputOutput where the sink failed, or a read did and nothing was written, and nowhere else.
pub record Ends (job : Job) (most : ℕ) (before after : Option (List ℕ)) (unread : Bool) (old new : Option (List ℕ)) (broken : Bool) (status : Status) : Type 0 where
  pub possible : IsPossible job status
  pub done : IsDone job status → Serves job most before after old new status
  pub refused : status ≡ Refused → ReadsRefused most before after × Keeps old new
  pub memory : status ≡ HostMemory → Keeps old new ⊎ Serves job most before after old new HostMemory
  pub told : broken ≡ true → status ≡ InputOutput
  pub failed : status ≡ InputOutput → ((broken ≡ true) × BreaksOff job most before after old new) ⊎ ((unread ≡ true) × Keeps old new)

-- a job ended so, by the number of its status
pub record EndsBy (job : Job) (most : ℕ) (before after : Option (List ℕ)) (unread : Bool) (old new : Option (List ℕ)) (broken : Bool) (number : ℕ) : Type 0 where
  pub status : Status
  pub numbered : number ≡ exit_code status
  pub ends : Ends job most before after unread old new broken status
