use Rattle.std.proofs.Common.{◌≡◌, ◌+◌, ◌<◌, Some, arith, length, subst}
use Rattle.std.specs.Prelude.{slice_get}
use Rattle.ctl_frames.specs.declared.frame.Mode.TheVariants.{At}
use Rattle.ctl_engine.specs.Windows.{moded}
use Rattle.ctl_engine.proofs.Plain.{taken_within}
use Rattle.ctl_frames.proofs.Links.{got}
use Rattle.ctl_places.proofs.Stored.{store_makes}
use Rattle.ctl_places.proofs.variables.store.Goals as goal

pub overflow_add-window : goal.overflow_add-window
overflow_add-window g c =
    let b = c.requires.1.0.1 in
    let less = taken_within c.args.code.now c.args.engine.now c.args.from.now c.requires.1.0.0 b.stack b.fine.1.0 g.s.control g.s.operands g.s.world b.fine.0 b.inside b.fine.1.1 in
    let many = c.args.engine.now.cells.ok in
    omega (arith, less, many.0, many.1, c.requires.1.1)

pub index-value-requires : goal.index-value-requires
index-value-requires g c =
    let b = c.requires.1.0.1 in
    let less = taken_within c.args.code.now c.args.engine.now c.args.from.now c.requires.1.0.0 b.stack b.fine.1.0 g.s.control g.s.operands g.s.world b.fine.0 b.inside b.fine.1.1 in
    let many = c.args.engine.now.cells.ok in
    omega (arith, less, many.0, many.1, c.requires.1.1)

pub set_variable-requires : goal.set_variable-requires
set_variable-requires g c = c.requires.1.0.1.inside.holds

pub returns-clause-makes : goal.returns-clause-makes
returns-clause-makes g c = λ ty.
    let e = c.args.engine.now in
    let b = c.requires.1.0.1 in
    let x = c.index-value.result.now in
    let at = c.args.from.now.at in
    let less = taken_within c.args.code.now e c.args.from.now c.requires.1.0.0 b.stack b.fine.1.0 g.s.control g.s.operands g.s.world b.fine.0 b.inside b.fine.1.1 in
    let within : c.args.window + at < length e.cells.items = omega (arith, less, c.requires.1.1) in
    let read = got e.cells.items (c.args.window + at) x within c.index-value.ensures in
    store_makes c.args.code.now e (moded c.set_variable.new.engine (At (c.args.place + 1))) c.args.place g.s c.args.from.now c.requires.1.0.0 c.args.out c.args.slot x b (subst (λ n. slice_get e.cells.items (n + at) ≡ Some x) c.requires.1.1 read) (c.set_variable.ensures.gives (c.args.place + 1))
