use Rattle.ctl_code.specs.declared.code.Instr.TheVariants.{TakePart}
use Rattle.ctl_places.proofs.locating.take_part.Goals as goal

pub is_newest_value-requires : goal.is_newest_value-requires
is_newest_value-requires g c = let r = c.requires.1.0 in (TakePart r.0 r.1 r.2 c.args.to.now, r.3, r.0, r.3.fine.1.0, r.3.fine.1.1)

pub take_of_value-requires : goal.take_of_value-requires
take_of_value-requires g c = (c.requires.0, (c.requires.1.0, (c.is_newest_value.ensures.value c.if-is_newest_value.true, c.requires.1.1)))

pub take_of_part-requires : goal.take_of_part-requires
take_of_part-requires g c = (c.requires.0, (c.requires.1.0, (c.is_newest_value.ensures.part c.if-is_newest_value.false, c.requires.1.1)))

pub returns-then-is_newest_value-clause-passed : goal.returns-then-is_newest_value-clause-passed
returns-then-is_newest_value-clause-passed g c = λ t position ty same. (c.take_of_value.ensures.mode, c.take_of_value.ensures.makes t position ty same)
