use Rattle.ctl_typing.proofs.Senses.{sense_name}
use Rattle.ctl_declarations.proofs.instances.actual_type.Goals as goal

pub returns-in-Name : goal.returns-in-Name
returns-in-Name c = rw (c.in-Name.is, sense_name c.in-Name.field-0 c.in-Name.name) c.type_named.ensures
