use Rattle.ctl_code.specs.declared.code.Instr.TheVariants.{DeclareCopy}
use Rattle.ctl_allocations.proofs.declare.declare_copy.Goals as goal

pub is_newest_value-requires : goal.is_newest_value-requires
is_newest_value-requires g c = let b = c.requires.1.0 in (DeclareCopy c.args.slot c.args.record, b, c.args.record, b.fine.1.0, b.fine.1.1)

pub declare_value-requires : goal.declare_value-requires
declare_value-requires g c = (c.requires.0, (c.requires.1.0, (c.is_newest_value.ensures.value c.if-is_newest_value.true, c.requires.1.1)))

pub declare_part-requires : goal.declare_part-requires
declare_part-requires g c = (c.requires.0, (c.requires.1.0, (c.is_newest_value.ensures.part c.if-is_newest_value.false, c.requires.1.1)))
