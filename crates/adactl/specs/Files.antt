-- Which file a job is about.
use Rattle.std.specs.Prelude.{ℕ, List, string_bytes}
use Rattle.ctl_job.specs.declared.job.Job.{Job}
use Rattle.ctl_job.specs.declared.job.Job.TheVariants.{Check, Run}

abbrev pub file_named : Job → List ℕ
file_named (Check file) = string_bytes file
file_named (Run file show order steps) = string_bytes file
