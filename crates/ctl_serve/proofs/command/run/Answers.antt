use Rattle.std.proofs.Common.{◌∙◌, ap, inr, rules, sym}
use Rattle.std.proofs.KnownBytes.{Appends-kept}
use Rattle.ctl_serve.specs.Statuses.{end_status}
use Rattle.ctl_serve.proofs.Ended.{part_up_to, whole_up_to}
use Rattle.ctl_serve.proofs.command.run.Goals as goal

-- the sink passed on the whole text of a run, and the status is that of its end
pub returns-else-is_err-clause-written : goal.returns-else-is_err-clause-written
returns-else-is_err-clause-written g c = λ ends.
    let written = c.in-Ok.ensures.ok in
    record {
      account = written.account;
      runs = written.runs;
      ended = sym (c.status_of_end.ensures ∙ ap end_status written.summarized.end);
      whole = Appends-kept _ _ _ _ written.whole c.flush.ensures.taken;
    }

pub returns-else-is_err-clause-memory : goal.returns-else-is_err-clause-memory
returns-else-is_err-clause-memory g c = λ is.
    let written = c.in-Ok.ensures.ok in
    inr (record {
      account = written.account;
      runs = written.runs;
      ended = sym (c.status_of_end.ensures ∙ ap end_status written.summarized.end) ∙ is;
      whole = Appends-kept _ _ _ _ written.whole c.flush.ensures.taken;
    })

-- it took the whole text, and failed to pass it on
pub returns-then-is_err-clause-broken : goal.returns-then-is_err-clause-broken
returns-then-is_err-clause-broken g c = λ is.
    let written = c.in-Ok.ensures.ok in
    record {
      account = written.account;
      runs = written.runs;
      part = whole_up_to _ _ _ _ written.whole c.flush.ensures.taken;
    }

-- it took the beginning of the text
pub returns-in-Err-Write-clause-broken : goal.returns-in-Err-Write-clause-broken
returns-in-Err-Write-clause-broken g c = λ is.
    let written = c.run_into.ensures.write (search rules) in
    record {
      account = written.account;
      runs = written.runs;
      part = part_up_to _ _ _ written.part;
    }
