use Rattle.ctl_parse.proofs.Views.{view_name}
use Rattle.ctl_parse.proofs.building.name_expression.Goals as goal

pub returns : goal.returns
returns c = view_name c.args.name.first.span c.args.name
