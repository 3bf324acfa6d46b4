use Rattle.std.proofs.Common.{◌≡◌, ◌+◌, ◌∙◌, Some, ap, arith, drop, reverse, subst, sym}
use Rattle.std.specs.Prelude.{slice_get}
use Rattle.ctl_code.specs.Kinds.{stack_at}
use Rattle.ctl_code.specs.Windows.{height}
use Rattle.ctl_frames.specs.Masters.{first_window}
use Rattle.ctl_engine.specs.RecordValues.{is_value_in}
use Rattle.ctl_frames.proofs.Links.{got}
use Rattle.ctl_places.proofs.TopValues.{no_value_in}
use Rattle.ctl_places.proofs.record_values.is_value_at.Goals as goal

pub index-cell-requires : goal.index-cell-requires
index-cell-requires c =
    let e = c.args.engine.now in
    let window = c.window.ensures in
    let height = c.height_at.ensures in
    let within = c.requires.cell in
    omega (arith, window, height, within)

pub returns-then-object-eq0 : goal.returns-then-object-eq0
returns-then-object-eq0 c =
    let e = c.args.engine.now in
    let s = c.index-spot.result.now in
    let cell = first_window (reverse e.masters.items) + height (drop (c.args.under + 1) (stack_at c.args.code.now.kinds c.args.place)) in
    let there = got e.spots.items c.args.at s c.requires.spot c.index-spot.ensures in
    let at : c.window.result + c.height_at.result ≡ cell = ap (λ n. n + c.height_at.result) c.window.ensures ∙ ap (λ n. first_window (reverse e.masters.items) + n) c.height_at.ensures in
    let within = c.requires.cell in
    let read = subst (λ n. slice_get e.cells.items n ≡ Some c.index-cell.result.now) at (got e.cells.items (c.window.result + c.height_at.result) c.index-cell.result.now (omega (arith, at, within)) c.index-cell.ensures) in
    c.is_value_as.ensures
    ∙ sym (ap (λ o. is_value_in o (slice_get e.cells.items cell)) there ∙ ap (λ o. is_value_in (Some s) o) read)

pub returns : goal.returns
returns c =
    let e = c.args.engine.now in
    let s = c.index-spot.result.now in
    let cell = first_window (reverse e.masters.items) + height (drop (c.args.under + 1) (stack_at c.args.code.now.kinds c.args.place)) in
    let there = got e.spots.items c.args.at s c.requires.spot c.index-spot.ensures in
    sym (ap (λ o. is_value_in o (slice_get e.cells.items cell)) there ∙ no_value_in s (slice_get e.cells.items cell) (λ is. let zero : c.object.result ≡ 0 = c.object.ensures ∙ is in omega (arith, zero, c.if-object-eq0.false)))
