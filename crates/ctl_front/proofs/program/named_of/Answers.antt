use Rattle.ctl_front.proofs.program.named_of.Goals as goal

pub returns-clause-found : goal.returns-clause-found
returns-clause-found c = (c.in_ok-written.written, c.in_ok-written.ensures.found, c.in_ok-found.ensures)
