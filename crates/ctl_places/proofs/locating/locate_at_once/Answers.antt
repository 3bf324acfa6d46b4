use Rattle.std.proofs.Common.{◌≡◌, ◌∷◌, ◌++◌, ◌+◌, ◌∙◌, [], List, ap, reverse, sym}
use Rattle.std.specs.Prelude.{slice_set}
use Rattle.ctl_meaning.specs.Finalization.{Spot}
use Rattle.ctl_frames.specs.declared.frame.Mode.TheVariants.{At}
use Rattle.ctl_frames.specs.Masters.{first_window}
use Rattle.ctl_engine.specs.Shows.{Kept, kept, with_cells, with_spots}
use Rattle.ctl_engine.specs.Windows.{moded}
use Rattle.ctl_frames.specs.Spots.{located}
use Rattle.ctl_places.proofs.Located.{locate_makes, locate_within}
use Rattle.ctl_places.proofs.locating.locate_at_once.Goals as goal

pub set_cell-requires : goal.set_cell-requires
set_cell-requires g c =
    record { window = c.requires.1.1.0; cell = locate_within c.args.code.now c.args.engine.now c.args.place g.s c.args.variable.now c.requires.1.0.0 c.args.at c.requires.0 c.requires.1.0.1 }

pub returns-clause-passed : goal.returns-clause-passed
returns-clause-passed g c = λ t yes.
    let old = c.args.engine.now in
    let set = c.set_cell.new.engine in
    let new = moded (record set { spots = c.push_reserved.new.self }) (At (c.args.place + 1)) in
    let found = c.in-Some-start_of.ensures in
    let word = found.0 in
    let goes = c.set_cell.ensures.goes (c.args.place + 1) in
    let cell = first_window (reverse old.masters.items) + c.args.at in
    let same = ap (λ (e : Kept). e.spots) goes.kept in
    let parts : c.push_reserved.new.self.items ≡ old.spots.items ++ located (word ∷ []) =
    c.push_reserved.ensures.items ∙ (ap (λ (l : List Spot). l ++ c.without_path-spot.result ∷ []) same ∙ (ap (λ (s : Spot). old.spots.items ++ s ∷ []) c.without_path-spot.ensures ∙ ap (λ (l : List Spot). old.spots.items ++ l) (sym found.2))) in
    locate_makes c.args.code.now old new c.args.place g.s c.args.variable.now c.requires.1.0.0 c.args.at word c.requires.0 c.requires.1.0.1 (sym found.1 ∙ c.in-Some.ensures.part)
    goes.mode
    (ap (λ (e : Kept). with_spots e c.push_reserved.new.self.items) goes.kept
    ∙ (ap (λ (l : List Spot). with_spots (with_cells (kept old) (slice_set old.cells.items cell c.in-Some-start_of.start.object)) l) parts
    ∙ ap (λ n. with_spots (with_cells (kept old) (slice_set old.cells.items cell n)) (old.spots.items ++ located (word ∷ []))) found.3))
    goes.events goes.picks
