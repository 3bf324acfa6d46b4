use Rattle.ctl_typing.proofs.Senses.{sense_name}
use Rattle.ctl_statements.proofs.assignments.+source_of_record.Goals as goal

pub returns-in-Name : goal.returns-in-Name
returns-in-Name t c = rw (c.in-Name.is, sense_name c.in-Name.place c.in-Name.name) c.record_named.ensures
