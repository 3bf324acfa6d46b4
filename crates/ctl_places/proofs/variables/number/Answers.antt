use Rattle.std.proofs.Common.{refl}
use Rattle.ctl_places.proofs.Given.{number_makes}
use Rattle.ctl_places.proofs.variables.number.Goals as goal

pub returns-clause-makes : goal.returns-clause-makes
returns-clause-makes g c = number_makes c.args.code.now c.args.engine.now _ c.args.place g.s c.requires.0 refl refl refl refl
