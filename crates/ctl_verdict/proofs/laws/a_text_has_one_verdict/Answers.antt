use Rattle.ctl_verdict.proofs.Verdicts.{has_verdict, has_one_verdict}
use Rattle.ctl_verdict.proofs.laws.a_text_has_one_verdict.Goals as goal

pub returns-clause-some : goal.returns-clause-some
returns-clause-some c = has_verdict

pub returns-clause-one : goal.returns-clause-one
returns-clause-one c = has_one_verdict
