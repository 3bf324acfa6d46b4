use Rattle.std.proofs.Common.{◌+◌}
use Rattle.ctl_engine.specs.Shows.{kept}
use Rattle.ctl_places.proofs.Touched.{part_read}
use Rattle.ctl_places.proofs.components.read_at.Goals as goal

pub returns : goal.returns
returns g c = part_read c.args.code.now (kept c.args.engine.now) g.s.control g.s.operands g.s.world c.args.object (c.args.start + c.args.offset) c.read_part.result c.requires c.read_part.ensures
