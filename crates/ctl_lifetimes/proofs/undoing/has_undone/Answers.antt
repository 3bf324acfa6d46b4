use Rattle.std.proofs.Common.{◌≡◌, ◌≤◌, ◌∙◌, Some, arith, length, refl, sym, ◌++◌, [], ◌∷◌}
use Rattle.std.specs.Prelude.{slice_get}
use Rattle.ctl_meaning.specs.Lists.{begins}
use Rattle.ctl_frames.specs.Noted.{paths_of}
use Rattle.ctl_frames.proofs.Beginnings.{count_paths, none_behind, noted_elsewhere, noted_here}
use Rattle.ctl_frames.proofs.Links.{got}
use Rattle.ctl_lifetimes.proofs.undoing.has_undone.Goals as goal

pub returns-then-lies_in : goal.returns-then-lies_in
returns-then-lies_in c =
    let noted = c.args.noted.now in
    let s = c.index-noted-at.result in
    let found : slice_get noted c.loop-at.at ≡ Some s = got noted c.loop-at.at s c.loop-at-test.true c.index-noted-at.is in
    sym (noted_here (begins (c.args.spot.now.path ++ c.args.position ∷ [])) noted c.loop-at.at s found (sym c.lies_in.ensures ∙ c.if-lies_in.true)) ∙ c.loop-at.invariant

pub loop-at-preserved : goal.loop-at-preserved
loop-at-preserved c =
    let noted = c.args.noted.now in
    let s = c.index-noted-at.result in
    let found : slice_get noted c.loop-at.at ≡ Some s = got noted c.loop-at.at s c.loop-at-test.true c.index-noted-at.is in
    noted_elsewhere (begins (c.args.spot.now.path ++ c.args.position ∷ [])) noted c.loop-at.at _ s found (sym c.lies_in.ensures ∙ c.if-lies_in.false) refl ∙ c.loop-at.invariant

pub returns : goal.returns
returns c =
    let noted = c.args.noted.now in
    let past = c.loop-at-test.false in
    let many = count_paths noted in
    let behind : length (paths_of noted) ≤ c.loop-at.at = omega (arith, past, many) in
    sym (none_behind (begins (c.args.spot.now.path ++ c.args.position ∷ [])) (paths_of noted) c.loop-at.at behind) ∙ c.loop-at.invariant
