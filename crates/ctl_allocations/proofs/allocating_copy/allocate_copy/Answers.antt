use Rattle.ctl_code.specs.declared.code.Instr.TheVariants.{NewCopy}
use Rattle.ctl_allocations.proofs.allocating_copy.allocate_copy.Goals as goal

pub is_newest_value-requires : goal.is_newest_value-requires
is_newest_value-requires g c = let b = c.requires.1.0 in (NewCopy c.args.access c.args.record g.s.1 g.s.2, b, c.args.record, b.fine.2.0, b.fine.2.1)

pub allocate_value-requires : goal.allocate_value-requires
allocate_value-requires g c = (c.requires.0, (c.requires.1.0, (c.is_newest_value.ensures.value c.if-is_newest_value.true, c.requires.1.1)))

pub allocate_part-requires : goal.allocate_part-requires
allocate_part-requires g c = (c.requires.0, (c.requires.1.0, (c.is_newest_value.ensures.part c.if-is_newest_value.false, c.requires.1.1)))
