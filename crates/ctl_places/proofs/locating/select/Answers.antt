use Rattle.ctl_code.specs.declared.code.Instr.TheVariants.{Select}
use Rattle.ctl_places.proofs.locating.select.Goals as goal

pub is_newest_value-requires : goal.is_newest_value-requires
is_newest_value-requires g c = let r = c.requires.0 in (Select r.0 c.args.position r.1, r.2, r.0, r.2.fine.0, r.2.fine.1)

pub select_of_value-requires : goal.select_of_value-requires
select_of_value-requires g c = (c.requires.0, (c.is_newest_value.ensures.value c.if-is_newest_value.true, c.requires.1))

pub select_of_part-requires : goal.select_of_part-requires
select_of_part-requires g c = (c.requires.0, (c.is_newest_value.ensures.part c.if-is_newest_value.false, c.requires.1))
