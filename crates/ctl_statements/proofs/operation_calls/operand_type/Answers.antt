use Rattle.ctl_typing.proofs.Senses.{sense_name}
use Rattle.ctl_statements.proofs.operation_calls.operand_type.Goals as goal

pub returns-in-Name : goal.returns-in-Name
returns-in-Name c = rw (c.in-Name.is, sense_name c.in-Name.place c.in-Name.name) c.operand_named.ensures
