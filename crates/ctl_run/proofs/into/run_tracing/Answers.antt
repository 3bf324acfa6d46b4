use Rattle.std.proofs.Common.{ℕ, List, Option, OnOk, IfOk, Result, Ok, Err, inr}
use Rattle.std.proofs.lemmas.Result.{IfErr-weaker}
use Rattle.std.specs.Io.KnownBytes.{Appends}
use Rattle.ctl_run.specs.Headline.{Account, RunsSource, account_of}
use Rattle.ctl_run.specs.declared.summary.RunFault.{RunFault}
use Rattle.ctl_run.specs.declared.summary.RunFault.TheVariants.{Refused, Write}
use Rattle.ctl_run.specs.declared.summary.Summary.{Summary}
use Rattle.ctl_run.specs.Refusals.{IsRefusedFor, WantsMemory}
use Rattle.ctl_run.specs.Shown.{shown_by, Summarizes, WritesWhole}
use Rattle.ctl_tree.specs.declared.request.Order.{Order}
use Rattle.ctl_tree.specs.declared.request.Show.{Show}
use Rattle.ctl_tree.specs.declared.request.Show.TheVariants.{Trace}
use Rattle.ctl_run.proofs.into.run_tracing.Goals as goal

-- the whole text of a run was put, and this is its summary
shown_whole : (source : List ℕ) (order : Order) (limit : ℕ) (show : Show) (old new : Option (List ℕ)) (account : Account) (r : Result Summary RunFault)
    → RunsSource source order limit account → OnOk r (Appends old new (shown_by show account)) → IfOk r (Summarizes account)
    → IfOk r (WritesWhole source order limit show old new)
shown_whole source order limit show old new account (Ok summary) runs whole summarized =
    record { account = account; runs = runs; summarized = summarized; whole = whole }
shown_whole source order limit show old new account (Err fault) runs whole summarized = tt

pub returns-in-Ok-clause-ok : goal.returns-in-Ok-clause-ok
returns-in-Ok-clause-ok g c =
    shown_whole c.args.source.now c.args.order c.args.steps Trace _ _ (account_of c.in-Ok.outcome) c.show_run.result c.in-Ok.ensures.headline
    c.show_run.ensures.whole c.show_run.ensures.summary

pub returns-in-Ok-clause-write : goal.returns-in-Ok-clause-write
returns-in-Ok-clause-write g c = λ is. record {
  account = account_of c.in-Ok.outcome;
  runs = c.in-Ok.ensures.headline;
  part = c.show_run.ensures.write is;
}

-- want of memory is a reason
a_reason : (source : List ℕ) (fault : RunFault) → WantsMemory fault → IsRefusedFor source fault
a_reason source (Refused fault) h = inr h
a_reason source Write h = tt

pub returns-in-Ok-clause-because : goal.returns-in-Ok-clause-because
returns-in-Ok-clause-because g c =
    IfErr-weaker c.show_run.result WantsMemory (IsRefusedFor c.args.source.now) (a_reason c.args.source.now) c.show_run.ensures.memory

pub returns-in-Ok-clause-faulty : goal.returns-in-Ok-clause-faulty
returns-in-Ok-clause-faulty g c = λ fault has. absurd (c.in-Ok.ensures.faulty fault has)

pub returns-in-Err-clause-because : goal.returns-in-Err-clause-because
returns-in-Err-clause-because g c = rw c.from.ensures c.in-Err.ensures.refused

pub returns-in-Err-clause-faulty : goal.returns-in-Err-clause-faulty
returns-in-Err-clause-faulty g c = λ fault has. rw c.from.ensures (c.in-Err.ensures.faulty fault has)

-- a faultless text is refused for want of memory alone

pub returns-in-Ok-clause-faultless : goal.returns-in-Ok-clause-faultless
returns-in-Ok-clause-faultless g c = λ text. c.show_run.ensures.memory

pub returns-in-Err-clause-faultless : goal.returns-in-Err-clause-faultless
returns-in-Err-clause-faultless g c = λ text. rw c.from.ensures (c.in-Err.ensures.faultless text)
