-- What the words of a command line ask for, by clap's definition of a simple command.
use Rattle.std.specs.Prelude.{◌≡◌, List, [], Some, true, false}
use Rattle.clap.specs.Words.{App, Row, Text, fault_of, has_subcommand, subcommand_of, subcommand_rows_of, takes}
use Rattle.clap.specs.declared.parser.matches.ArgMatches.{ArgMatches}
use Rattle.ctl_job.specs.Entries.{AsksBy}
use Rattle.ctl_job.specs.Line.{IsLine}
use Rattle.ctl_job.specs.declared.job.Job.{Job}

-- the matches are those that the definition gives these words, in which it finds no fault
pub record IsMatched (words : List Text) (matches : ArgMatches) : Type 0 where
  pub line : App
  pub is_line : IsLine line
  pub faultless : fault_of line words ≡ []
  pub entered : subcommand_rows_of matches ≡ subcommand_of line words
  pub named : has_subcommand matches ≡ true

-- the definition finds no fault in the words, and the entries that it gives them ask for this job
pub record Asks (words : List Text) (job : Job) : Type 0 where
  pub line : App
  pub is_line : IsLine line
  pub faultless : fault_of line words ≡ []
  pub name : Text
  pub rows : List Row
  pub entered : subcommand_of line words ≡ Some (name, rows)
  pub asked : AsksBy name rows job

-- the definition does not take the words
pub record IsRefused (words : List Text) : Type 0 where
  pub line : App
  pub is_line : IsLine line
  pub refused : takes line words ≡ false
