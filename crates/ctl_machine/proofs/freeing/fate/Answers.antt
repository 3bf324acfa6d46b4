use Rattle.std.proofs.Common.{◌∙◌, subst, sym}
use Rattle.ctl_engine.specs.declared.freeing.Fate.{Fate}
use Rattle.ctl_places.specs.Freeing.{IsFate}
use Rattle.ctl_places.proofs.Fates.{fate_known, fate_unknown, storage_known, storage_unknown, units_known, units_unknown}
use Rattle.ctl_machine.proofs.freeing.fate.Goals as goal

pub returns-in-Some-clause-fate : goal.returns-in-Some-clause-fate
returns-in-Some-clause-fate g c =
    let old = c.args.engine.now in
    subst (λ (f : Fate). IsFate c.args.code.now c.args.access.now c.args.object old.owned.items g.s f) (sym c.fate_of.ensures)
    (fate_known c.args.code.now old c.args.access.now c.args.object c.set_held.result c.in-Some.existing g.s c.requires.0 c.in-Some.ensures c.set_held.ensures)

pub returns-in-Some-clause-storage : goal.returns-in-Some-clause-storage
returns-in-Some-clause-storage g c =
    let code = c.args.code.now in
    let engine = c.args.engine.now in (
      storage_known code engine c.args.object c.in-Some.existing g.s c.requires.0 c.in-Some.ensures ∙ sym c.storage_of.ensures,
      units_known code engine c.args.object c.in-Some.existing g.s c.requires.0 c.in-Some.ensures ∙ sym c.units_for.ensures,
    )

pub returns-in-None-clause-fate : goal.returns-in-None-clause-fate
returns-in-None-clause-fate g c = fate_unknown c.args.code.now c.args.engine.now c.args.access.now c.args.object g.s c.requires.0 c.in-None.ensures

pub returns-in-None-clause-storage : goal.returns-in-None-clause-storage
returns-in-None-clause-storage g c =
    let code = c.args.code.now in
    let engine = c.args.engine.now in
    (storage_unknown code engine c.args.object g.s c.requires.0 c.in-None.ensures, units_unknown code engine c.args.object g.s c.requires.0 c.in-None.ensures)
