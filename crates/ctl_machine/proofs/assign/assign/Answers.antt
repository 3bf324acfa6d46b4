use Rattle.std.proofs.Common.{◌∙◌, ◌∷◌, List, ap, refl}
use Rattle.ctl_code.specs.declared.kinds.Kind.{Kind}
use Rattle.ctl_code.specs.declared.kinds.Kind.TheVariants.{Operand}
use Rattle.ctl_code.specs.declared.code.Instr.TheVariants as InstrOf
use Rattle.ctl_program.specs.declared.types.Ty.TheVariants.{Record}
use Rattle.ctl_allocations.proofs.Assigned.{given_makes, gives_now, value_stops}
use Rattle.ctl_engine.proofs.Steps.{on_ok}
use Rattle.ctl_machine.proofs.assign.assign.Goals as goal

pub is_value_below-requires : goal.is_value_below-requires
is_value_below-requires g c =
    let b = c.requires.1.0 in
    let t = c.args.record in
    (InstrOf.Assign t, b, t, t, b.fine.1.2.0, b.fine.1.1 ∙ ap (λ (l : List Kind). Operand (Record t) ∷ l) b.fine.1.2.1)

pub returns-then-is_value_below-clause-ok : goal.returns-then-is_value_below-clause-ok
returns-then-is_value_below-clause-ok g c =
    value_stops c.args.code.now c.args.engine.now _ c.args.place g.s c.args.record c.requires.0 c.requires.1.0 (c.is_value_below.ensures.value c.if-is_value_below.true) (record { mode = refl; kept = refl; events = refl; picks = refl })

pub is_newest_value-requires : goal.is_newest_value-requires
is_newest_value-requires g c = let b = c.requires.1.0 in (InstrOf.Assign c.args.record, b, c.args.record, b.fine.1.0, b.fine.1.1)

pub replace_value-requires : goal.replace_value-requires
replace_value-requires g c =
    (c.requires.0, (gives_now c.args.code.now c.args.engine.now c.args.place g.s c.args.record c.requires.0 c.requires.1.0 (c.is_newest_value.ensures.value c.if-is_newest_value.true), (tt, c.requires.1.1.1)))

pub returns-then-is_newest_value-clause-ok : goal.returns-then-is_newest_value-clause-ok
returns-then-is_newest_value-clause-ok g c =
    on_ok c.replace_value.result
    (λ made. given_makes c.args.code.now c.args.engine.now c.replace_value.new.engine c.args.place g.s c.args.record c.requires.0 c.requires.1.0 (c.is_newest_value.ensures.value c.if-is_newest_value.true) (c.is_value_below.ensures.part c.if-is_value_below.false) made)
    c.replace_value.ensures.ok

pub assign_part-requires : goal.assign_part-requires
assign_part-requires g c =
    (c.requires.0, (c.requires.1.0, (c.is_newest_value.ensures.part c.if-is_newest_value.false, (c.is_value_below.ensures.part c.if-is_value_below.false, (c.requires.1.1.0, c.requires.1.1.1)))))
