-- The text that shows a run, and what a sink took of it.
use Rattle.std.specs.Prelude.{◌≡◌, ℕ, List, Option}
use Rattle.std.specs.Io.KnownBytes.{Appends}
use Rattle.ctl_tree.specs.declared.request.Order.{Order}
use Rattle.ctl_run.specs.Headline.{Account, RunsSource}
use Rattle.ctl_run.specs.declared.summary.Summary.{Summary}
use Rattle.ctl_sink.specs.Prefix.{AppendsPart}
use Rattle.ctl_text.specs.Texts.{output_of, trace_of}
use Rattle.ctl_tree.specs.declared.request.Show.{Show}
use Rattle.ctl_tree.specs.declared.request.Show.TheVariants.{Output, Trace}

-- what the run printed, or its trace
abbrev pub shown_by : Show → Account → List ℕ
shown_by Output account = output_of account.events
shown_by Trace account = trace_of account.events account.end

-- the picks, the end and the steps are those of the run
pub record Summarizes (account : Account) (summary : Summary) : Type 0 where
  pub picks : summary.picks.items ≡ account.picks
  pub end : summary.end ≡ account.end
  pub steps : summary.steps ≡ account.steps

-- the sink took the whole text of what a run of this source shows, and this is the run's summary
pub record WritesWhole (source : List ℕ) (order : Order) (limit : ℕ) (show : Show) (old new : Option (List ℕ)) (summary : Summary) : Type 0 where
  pub account : Account
  pub runs : RunsSource source order limit account
  pub summarized : Summarizes account summary
  pub whole : Appends old new (shown_by show account)

-- the sink took a part of that text, from its beginning
pub record WritesPart (source : List ℕ) (order : Order) (limit : ℕ) (show : Show) (old new : Option (List ℕ)) : Type 0 where
  pub account : Account
  pub runs : RunsSource source order limit account
  pub part : AppendsPart old new (shown_by show account)
