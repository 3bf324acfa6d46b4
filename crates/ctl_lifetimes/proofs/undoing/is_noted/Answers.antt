use Rattle.std.proofs.Common.{◌≡◌, ◌≤◌, ◌∙◌, Some, arith, length, refl, sym}
use Rattle.std.specs.Prelude.{slice_get}
use Rattle.ctl_meaning.specs.Lists.{same_list}
use Rattle.ctl_frames.specs.Noted.{paths_of}
use Rattle.ctl_frames.proofs.Beginnings.{count_paths, none_behind, noted_elsewhere, noted_here}
use Rattle.ctl_frames.proofs.Links.{got}
use Rattle.ctl_lifetimes.proofs.undoing.is_noted.Goals as goal

pub returns-then-has_path_of : goal.returns-then-has_path_of
returns-then-has_path_of c =
    let noted = c.args.noted.now in
    let s = c.index-noted-at.result in
    let found : slice_get noted c.loop-at.at ≡ Some s = got noted c.loop-at.at s c.loop-at-test.true c.index-noted-at.is in
    sym (noted_here (same_list c.args.spot.now.path) noted c.loop-at.at s found (sym c.has_path_of.ensures ∙ c.if-has_path_of.true)) ∙ c.loop-at.invariant

pub loop-at-preserved : goal.loop-at-preserved
loop-at-preserved c =
    let noted = c.args.noted.now in
    let s = c.index-noted-at.result in
    let found : slice_get noted c.loop-at.at ≡ Some s = got noted c.loop-at.at s c.loop-at-test.true c.index-noted-at.is in
    noted_elsewhere (same_list c.args.spot.now.path) noted c.loop-at.at _ s found (sym c.has_path_of.ensures ∙ c.if-has_path_of.false) refl ∙ c.loop-at.invariant

pub returns : goal.returns
returns c =
    let noted = c.args.noted.now in
    let past = c.loop-at-test.false in
    let many = count_paths noted in
    let behind : length (paths_of noted) ≤ c.loop-at.at = omega (arith, past, many) in
    sym (none_behind (same_list c.args.spot.now.path) (paths_of noted) c.loop-at.at behind) ∙ c.loop-at.invariant
