use Rattle.std.proofs.Common.{◌∙◌, sym}
use Rattle.clap.specs.Words.{found_of, rows_of}
use Rattle.ctl_job.proofs.Lines.{entered_by, met_subcommand}
use Rattle.ctl_job.proofs.entries.job_of.Goals as goal

pub job_by-requires : goal.job_by-requires
job_by-requires c =
    let matched = c.in_ok-matches.ensures.ok in
    let entries = rows_of (found_of c.in-Some.entries.now) in
    let met = met_subcommand _ c.in-Some.name.now entries c.in-Some.ensures.name c.in-Some.ensures.rows in
    entered_by matched.line matched.is_line _ _ _ (sym matched.entered ∙ met)

pub returns-clause-job : goal.returns-clause-job
returns-clause-job c =
    let matched = c.in_ok-matches.ensures.ok in
    let entries = rows_of (found_of c.in-Some.entries.now) in
    let met = met_subcommand _ c.in-Some.name.now entries c.in-Some.ensures.name c.in-Some.ensures.rows in
    record {
      line = matched.line;
      is_line = matched.is_line;
      faultless = matched.faultless;
      name = c.in-Some.name.now;
      rows = entries;
      entered = sym matched.entered ∙ met;
      asked = c.in_ok-job_by.ensures;
    }
