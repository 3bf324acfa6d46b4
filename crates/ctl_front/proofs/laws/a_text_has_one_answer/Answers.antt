use Rattle.ctl_front.proofs.Judging.{has_answer, has_one_answer}
use Rattle.ctl_front.proofs.laws.a_text_has_one_answer.Goals as goal

pub returns-clause-some : goal.returns-clause-some
returns-clause-some c = has_answer

pub returns-clause-one : goal.returns-clause-one
returns-clause-one c = has_one_answer
