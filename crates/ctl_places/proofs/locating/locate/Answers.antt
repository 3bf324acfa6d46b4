use Rattle.std.proofs.Common.{◌≡◌, ◌∷◌, ◌++◌, ◌+◌, ◌∙◌, [], List, ap, reverse, sym}
use Rattle.std.specs.Prelude.{slice_set}
use Rattle.ctl_meaning.specs.Finalization.{Spot}
use Rattle.ctl_frames.specs.Masters.{first_window}
use Rattle.ctl_engine.specs.Shows.{kept, with_cells, with_spots}
use Rattle.ctl_code.specs.States.{Word, worth}
use Rattle.ctl_frames.specs.Spots.{located}
use Rattle.ctl_places.proofs.Located.{locate_within, locate_makes, locate_gone, some_is}
use Rattle.ctl_places.proofs.locating.locate.Goals as goal

pub put-requires-clause-cell : goal.put-requires-clause-cell
put-requires-clause-cell g c = locate_within c.args.code.now c.args.engine.now c.args.place g.s c.args.variable.now c.requires.1.0.0 c.args.at c.requires.0 c.requires.1.0.1

pub spot_of-requires : goal.spot_of-requires
spot_of-requires g c = c.in-Some.ensures.there

pub returns-clause-passed : goal.returns-clause-passed
returns-clause-passed g c = λ t.
    let old = c.args.engine.now in
    let x = c.in_ok-spot.spot in
    let found = c.in_ok-spot.ensures in
    let read = c.cell_of-cell.ensures in
    let word = found.0 in
    let cell = first_window (reverse old.masters.items) + c.args.at in
    let same : read.0 ≡ word = some_is read.0 word (sym read.1 ∙ found.1) in
    let parts : c.push_reserved.new.self.items ≡ old.spots.items ++ located (word ∷ []) = c.push_reserved.ensures.items ∙ (ap (λ (l : List Spot). l ++ x ∷ []) c.in_ok-reserve.ensures.items ∙ ap (λ (l : List Spot). old.spots.items ++ l) (sym found.2)) in (
      c.put.ensures.mode,
      locate_makes c.args.code.now old c.put.new.self c.args.place g.s c.args.variable.now c.requires.1.0.0 c.args.at word c.requires.0 c.requires.1.0.1 (sym found.1 ∙ c.in-Some.ensures.part)
          c.put.ensures.mode
          (c.put.ensures.kept
          ∙ (ap (λ (l : List Spot). with_spots (with_cells (kept old) (slice_set old.cells.items cell c.cell_of-cell.result)) l) parts
          ∙ ap (λ n. with_spots (with_cells (kept old) (slice_set old.cells.items cell n)) (old.spots.items ++ located (word ∷ []))) (read.2 ∙ ap (λ (z : Word). worth z) same)))
          c.put.ensures.events c.put.ensures.picks,
    )

pub returns-in_default-clause-gone : goal.returns-in_default-clause-gone
returns-in_default-clause-gone g c = λ t new goes. locate_gone c.args.code.now c.args.engine.now new c.args.place g.s c.args.variable.now c.requires.1.0.0 c.args.at c.requires.1.0.1 c.in_default.ensures.part goes
