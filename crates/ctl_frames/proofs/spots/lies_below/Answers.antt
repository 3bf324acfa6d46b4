use Rattle.std.proofs.Common.{◌≡◌, ◌∙◌, Some, ap, arith, length, sym}
use Rattle.std.specs.Prelude.{◌&&◌, slice_get, slice_index_or}
use Rattle.std.proofs.lemmas.Option.{slice_get-get_or}
use Rattle.ctl_meaning.specs.Lists.{begins}
use Rattle.ctl_frames.proofs.Beginnings.{begins_below, ends_before}
use Rattle.ctl_frames.proofs.Lists.{eq_differs, eq_same}
use Rattle.ctl_frames.proofs.spots.lies_below.Goals as goal

pub returns-then-path-depth : goal.returns-then-path-depth
returns-then-path-depth c = sym (ends_before c.args.whole.now c.args.path.now c.args.position c.if-path-depth.true)

pub returns-then-position-path : goal.returns-then-position-path
returns-then-position-path c =
    let whole = c.args.whole.now in
    let path = c.args.path.now in
    let long = c.if-path-depth.false in
    let step = slice_index_or path (length whole) 0 in
    let read : slice_get path (length whole) ≡ Some step = slice_get-get_or path (length whole) 0 (omega (arith, long)) in
    c.begins_with.ensures ∙ sym (begins_below whole path c.args.position step read ∙ ap (λ b. b && begins whole path) (eq_same c.args.position step c.if-position-path.true))

pub returns-else-position-path : goal.returns-else-position-path
returns-else-position-path c =
    let whole = c.args.whole.now in
    let path = c.args.path.now in
    let long = c.if-path-depth.false in
    let step = slice_index_or path (length whole) 0 in
    let read : slice_get path (length whole) ≡ Some step = slice_get-get_or path (length whole) 0 (omega (arith, long)) in
    let differs = eq_differs c.args.position step c.if-position-path.false in
    differs ∙ sym (begins_below whole path c.args.position step read ∙ ap (λ b. b && begins whole path) differs)
