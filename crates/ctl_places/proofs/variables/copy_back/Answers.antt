use Rattle.std.proofs.Common.{◌≡◌, ◌+◌, ◌<◌, Some, arith, length, subst}
use Rattle.std.specs.Prelude.{slice_get}
use Rattle.ctl_frames.specs.declared.frame.Mode.TheVariants.{At}
use Rattle.ctl_engine.specs.Windows.{moded}
use Rattle.ctl_places.proofs.CopiesBack.{copy_back_makes, copy_within}
use Rattle.ctl_frames.proofs.Links.{got}
use Rattle.ctl_places.proofs.variables.copy_back.Goals as goal

pub overflow_add-window : goal.overflow_add-window
overflow_add-window g c =
    let less = copy_within c.args.code.now c.args.engine.now c.args.place c.args.depth c.args.at c.args.out c.args.slot g.s c.requires.0 in
    let many = c.args.engine.now.cells.ok in
    omega (arith, less, many.0, many.1, c.requires.1)

pub index-value-requires : goal.index-value-requires
index-value-requires g c =
    let less = copy_within c.args.code.now c.args.engine.now c.args.place c.args.depth c.args.at c.args.out c.args.slot g.s c.requires.0 in
    let many = c.args.engine.now.cells.ok in
    omega (arith, less, many.0, many.1, c.requires.1)

pub set_variable-requires : goal.set_variable-requires
set_variable-requires g c = c.requires.0.inside.holds

pub returns-clause-makes : goal.returns-clause-makes
returns-clause-makes g c =
    let e = c.args.engine.now in
    let x = c.index-value.result.now in
    let less = copy_within c.args.code.now e c.args.place c.args.depth c.args.at c.args.out c.args.slot g.s c.requires.0 in
    let within : c.args.window + c.args.at < length e.cells.items = omega (arith, less, c.requires.1) in
    let read = got e.cells.items (c.args.window + c.args.at) x within c.index-value.ensures in
    copy_back_makes c.args.code.now e (moded c.set_variable.new.engine (At (c.args.place + 1))) c.args.place c.args.depth c.args.at c.args.out c.args.slot x g.s c.requires.0 (subst (λ n. slice_get e.cells.items (n + c.args.at) ≡ Some x) c.requires.1 read) (c.set_variable.ensures.gives (c.args.place + 1))
