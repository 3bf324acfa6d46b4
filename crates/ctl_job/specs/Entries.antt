-- The job that the entries of a subcommand ask for.
use Rattle.std.specs.Prelude.{◌≡◌, List, codes, string_bytes}
use Rattle.clap.specs.Words.{Row, Text}
use Rattle.ctl_entries.specs.Entries.{file_in, IsLimitIn, IsOrderIn, IsShowIn}
use Rattle.ctl_job.specs.declared.job.Job.{Job}
use Rattle.ctl_job.specs.declared.job.Job.TheVariants.{Check, Run}

-- what the entries of `check` ask for
abbrev pub AsksToCheck : List Row → Job → Type 0
AsksToCheck rows (Check file) = string_bytes file ≡ file_in rows
AsksToCheck rows (Run file show order steps) = ⊥

-- what the entries of `run` ask for
abbrev pub AsksToRun : List Row → Job → Type 0
AsksToRun rows (Check file) = ⊥
AsksToRun rows (Run file show order steps) =
    (string_bytes file ≡ file_in rows) × IsShowIn rows show × IsOrderIn rows order × IsLimitIn rows steps

-- what the entries of the subcommand with this name ask for
abbrev pub AsksBy : Text → List Row → Job → Type 0
AsksBy name rows (Check file) = (name ≡ codes "check") × AsksToCheck rows (Check file)
AsksBy name rows (Run file show order steps) = (name ≡ codes "run") × AsksToRun rows (Run file show order steps)
