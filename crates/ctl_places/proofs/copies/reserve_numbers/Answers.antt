use Rattle.ctl_places.proofs.Reserved.{numbers_within, reserve_makes}
use Rattle.ctl_places.proofs.copies.reserve_numbers.Goals as goal

pub clear_numbers-requires-clause-cells : goal.clear_numbers-requires-clause-cells
clear_numbers-requires-clause-cells g c = numbers_within c.args.code.now c.args.engine.now c.args.place c.args.count c.args.at g.s c.requires.0 c.requires.1.0

pub returns-clause-makes : goal.returns-clause-makes
returns-clause-makes g c = reserve_makes c.args.code.now c.args.engine.now c.clear_numbers.new.engine c.args.place c.args.count c.args.at g.s c.requires.0 c.requires.1.0 c.clear_numbers.ensures
