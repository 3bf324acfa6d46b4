use Rattle.std.proofs.Common.{◌≡◌, ◌∙◌, refl, sym}
use Rattle.ctl_code.specs.declared.code.Parts.TheVariants as PartsOf
use Rattle.ctl_code.specs.Table.{parts_of}
use Rattle.ctl_allocations.proofs.CopyAllocated.{member_awaits_copy, plain_joins}
use Rattle.ctl_allocations.proofs.allocating_copy.adjust_member.Goals as goal

pub returns-in-Plain : goal.returns-in-Plain
returns-in-Plain g c = plain_joins c.args.code.now c.args.engine.now c.end_allocation.new.engine c.args.object c.args.record c.args.place c.args.set g.s (sym c.parts_of.ensures ∙ c.in-Plain.is) c.end_allocation.ensures

pub adjust_object-requires : goal.adjust_object-requires
adjust_object-requires g c =
    let code = c.args.code.now in (
      member_awaits_copy code c.args.engine.now c.args.object c.args.record c.args.place c.count_noted-first.result g.s c.requires.1.0 c.count_noted-first.ensures,
      (refl, ((λ (plain : parts_of code c.args.record ≡ PartsOf.Plain). c.in_default.not-Plain (c.parts_of.ensures ∙ plain)), c.requires.1.1)),
    )
