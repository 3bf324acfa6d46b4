use Rattle.std.proofs.Common.{◌+◌, ◌∙◌, arith, refl, sym}
use Rattle.ctl_meaning.specs.Objects.{object_in}
use Rattle.ctl_engine.specs.declared.engine.Engine.{Engine}
use Rattle.ctl_frames.specs.declared.frame.Mode.TheVariants.{At}
use Rattle.ctl_engine.specs.Shows.{kept}
use Rattle.ctl_engine.proofs.Owned.{none_there, some_there}
use Rattle.ctl_places.proofs.PartCopiedBack.{back_gone, back_makes, copy_there, first_there, object_there}
use Rattle.ctl_engine.proofs.Stocked.{stocked}
use Rattle.ctl_places.proofs.copies.copy_back_part.Goals as goal

pub take-value-requires : goal.take-value-requires
take-value-requires g c =
    let r = c.requires.0 in
    copy_there c.args.code.now c.args.engine.now c.args.place c.args.depth c.args.at c.args.below c.args.base r.0 r.1 g.s r.2

pub take-object-requires : goal.take-object-requires
take-object-requires g c =
    let r = c.requires.0 in
    object_there c.args.code.now c.args.engine.now c.args.place c.args.depth c.args.at c.args.below c.args.base r.0 r.1 g.s r.2

pub overflow_add-base : goal.overflow_add-base
overflow_add-base g c =
    let r = c.requires.0 in
    let within = first_there c.args.code.now c.args.engine.now c.args.place c.args.depth c.args.at c.args.below c.args.base r.0 r.1 g.s r.2 in
    let few = c.args.engine.now.cells.ok.0 in
    omega (arith, within, few)

pub take-first-requires : goal.take-first-requires
take-first-requires g c =
    let r = c.requires.0 in
    first_there c.args.code.now c.args.engine.now c.args.place c.args.depth c.args.at c.args.below c.args.base r.0 r.1 g.s r.2

pub returns-clause-passed : goal.returns-clause-passed
returns-clause-passed g c = λ t position same.
    let old = c.args.engine.now in
    let r = c.requires.0 in
    let copy = c.take-value.result in
    let object = c.take-object.result in
    let first = c.take-first.result in
    let there = some_there (object_in object old.stock.objects) (sym c.exists.ensures ∙ c.if-not-exists.false) in
    let new : Engine = record old { mode = At (c.args.place + 1); stock = c.write_part.new.self } in (
      refl,
      back_makes c.args.code.now old new c.args.place c.args.depth c.args.at c.args.below c.args.base r.0 r.1 copy first object c.args.offset g.s there.0 r.2 c.take-value.ensures c.take-first.ensures c.take-object.ensures there.1 refl
          (stocked (kept old) c.write_part.new.self _ c.write_part.ensures.objects c.write_part.ensures.same) refl refl t position same,
    )

pub returns-then-not-exists-clause-gone : goal.returns-then-not-exists-clause-gone
returns-then-not-exists-clause-gone g c = λ t position same new goes.
    let old = c.args.engine.now in
    let r = c.requires.0 in
    let none = none_there (object_in c.take-object.result old.stock.objects) (sym c.exists.ensures ∙ c.if-not-exists.true) in
    back_gone c.args.code.now old new c.args.place c.args.depth c.args.at c.args.below c.args.base r.0 r.1 c.take-value.result c.take-first.result c.take-object.result c.args.offset g.s r.2 c.take-value.ensures c.take-first.ensures c.take-object.ensures none goes t position same
