use Rattle.ctl_serve.proofs.Ended.{kept_by, either_kept, kept_beside}
use Rattle.ctl_serve.proofs.command.serve.Goals as goal

-- each clause of what the job came to says its part
pub returns-clause-ends : goal.returns-clause-ends
returns-clause-ends g c =
    let taken = g.S.Sink.taken in
    let old = c.args.sink.now in
    let new = c.serve_into.new.sink in
    let said = c.serve_into.ensures in
    λ unfailed. record {
      status = c.serve_into.result;
      numbered = c.code-2.ensures;
      ends = record {
        possible = said.possible;
        done = said.written;
        refused = λ h. (said.refused h, kept_by taken old new (said.untouched h));
        memory = λ h. either_kept taken old new (said.memory h);
        told = said.told;
        failed = λ h. kept_beside taken old new (said.failed h);
      };
    }
