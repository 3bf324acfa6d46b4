use Rattle.ctl_run.proofs.Refused.{fault_of_form, fault_of_lexis}
use Rattle.ctl_run.proofs.into.run_into.Goals as goal

pub returns-in-Output-clause-lexical : goal.returns-in-Output-clause-lexical
returns-in-Output-clause-lexical g c = λ fault has. c.run_printing.ensures.faulty fault (fault_of_lexis c.args.source.now fault has)

pub returns-in-Output-clause-grammatical : goal.returns-in-Output-clause-grammatical
returns-in-Output-clause-grammatical g c = λ fault has. c.run_printing.ensures.faulty fault (fault_of_form c.args.source.now fault has)

pub returns-in-Trace-clause-lexical : goal.returns-in-Trace-clause-lexical
returns-in-Trace-clause-lexical g c = λ fault has. c.run_tracing.ensures.faulty fault (fault_of_lexis c.args.source.now fault has)

pub returns-in-Trace-clause-grammatical : goal.returns-in-Trace-clause-grammatical
returns-in-Trace-clause-grammatical g c = λ fault has. c.run_tracing.ensures.faulty fault (fault_of_form c.args.source.now fault has)
