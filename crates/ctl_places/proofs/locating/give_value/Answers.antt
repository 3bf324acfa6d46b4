use Rattle.std.proofs.Common.{◌+◌, ◌∙◌, ap, arith, reverse, sym}
use Rattle.std.specs.Prelude.{slice_set}
use Rattle.ctl_meaning.specs.Objects.{object_in}
use Rattle.ctl_frames.specs.Masters.{first_window}
use Rattle.ctl_engine.specs.Shows.{Kept, kept, with_cells}
use Rattle.ctl_engine.proofs.Owned.{none_there, some_there}
use Rattle.ctl_engine.proofs.Stocked.{stocked}
use Rattle.ctl_places.proofs.ValueGiven.{access_within, gives_makes, gives_none, value_within}
use Rattle.ctl_places.proofs.locating.give_value.Goals as goal

pub overflow_add-at : goal.overflow_add-at
overflow_add-at g c =
    let r = c.requires.1.0 in
    let within = access_within c.args.code.now c.args.engine.now c.args.place r.0 r.1 c.args.at g.s r.2 in
    let few = c.args.engine.now.cells.ok.0 in
    omega (arith, within, few)

pub take-object-requires : goal.take-object-requires
take-object-requires g c =
    let r = c.requires.1.0 in
    access_within c.args.code.now c.args.engine.now c.args.place r.0 r.1 c.args.at g.s r.2

pub take-value-requires : goal.take-value-requires
take-value-requires g c =
    let r = c.requires.1.0 in
    value_within c.args.code.now c.args.engine.now c.args.place r.0 r.1 c.args.at g.s r.2

pub put-requires-clause-cell : goal.put-requires-clause-cell
put-requires-clause-cell g c =
    let r = c.requires.1.0 in
    value_within c.args.code.now c.args.engine.now c.args.place r.0 r.1 c.args.at g.s r.2

pub returns-clause-passed : goal.returns-clause-passed
returns-clause-passed g c = λ of ty.
    let code = c.args.code.now in
    let old = c.args.engine.now in
    let r = c.requires.1.0 in
    let access = c.take-object.result in
    let value = c.take-value.result in
    let there = some_there (object_in access old.stock.objects) (sym c.exists.ensures ∙ c.if-not-exists.false) in
    let cells = slice_set old.cells.items (first_window (reverse old.masters.items) + c.args.at) access in (
      c.put.ensures.mode,
      gives_makes code old c.put.new.self c.args.place r.0 r.1 c.args.at access value g.s there.0 c.requires.0 r.2 c.take-object.ensures c.take-value.ensures there.1 c.put.ensures.mode
          (c.put.ensures.kept ∙ ap (λ (e : Kept). with_cells e cells) (stocked (kept old) c.write.new.self _ c.write.ensures.objects c.write.ensures.same))
          c.put.ensures.events c.put.ensures.picks of ty,
    )

pub returns-then-not-exists-clause-gone : goal.returns-then-not-exists-clause-gone
returns-then-not-exists-clause-gone g c = λ of ty new goes.
    let old = c.args.engine.now in
    let r = c.requires.1.0 in
    let none = none_there (object_in c.take-object.result old.stock.objects) (sym c.exists.ensures ∙ c.if-not-exists.true) in
    gives_none c.args.code.now old new c.args.place r.0 r.1 c.args.at c.take-object.result g.s r.2 c.take-object.ensures none goes of ty
