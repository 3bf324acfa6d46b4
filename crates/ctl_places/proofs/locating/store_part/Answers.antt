use Rattle.std.proofs.Common.{◌≡◌, ◌+◌, ◌∙◌, [], ◌∷◌, List, ap, drop, refl, sym}
use Rattle.ctl_meaning.specs.Finalization.{Spot}
use Rattle.ctl_meaning.specs.Objects.{change_in, object_in, with_cells}
use Rattle.ctl_engine.specs.declared.engine.Engine.{Engine}
use Rattle.ctl_frames.specs.declared.frame.Mode.TheVariants.{At}
use Rattle.ctl_engine.specs.Shows.{kept}
use Rattle.ctl_frames.specs.Spots.{first_spot, standing}
use Rattle.ctl_engine.proofs.Owned.{none_there, some_there}
use Rattle.ctl_places.proofs.PartStored.{is_given, parts_of, value_within, part_makes, store_gone}
use Rattle.ctl_engine.proofs.Stocked.{stocked}
use Rattle.ctl_frames.proofs.Words.{newest_read, same_front}
use Rattle.ctl_places.proofs.locating.store_part.Goals as goal

pub take-value-requires : goal.take-value-requires
take-value-requires g c = value_within c.args.code.now c.args.engine.now c.args.place g.s c.args.from.now c.requires.0.0 c.requires.0.1 c.requires.0.2 c.requires.0.3

pub returns-clause-passed : goal.returns-clause-passed
returns-clause-passed g c = λ t position ty same.
    let code = c.args.code.now in
    let old = c.args.engine.now in
    let r = c.requires.0 in
    let from = c.args.from.now in
    let i = is_given code old c.args.place g.s from r.0 r.1 r.2 r.3 in
    let y = first_spot (parts_of from g.s) in
    let below = standing g.s.control (drop 1 (parts_of from g.s)) in
    let count = c.count_spots-newest in
    let spot = newest_read old.spots.items below y c.index-spot.result.now count.result i.spots count.ensures.count c.index-spot.ensures in
    let popped = (same_front c.take_last.new.self.items below c.take_last.result y (sym c.take_last.ensures.items ∙ i.spots)).0 in
    let number : c.object-object.result ≡ y.object = c.object-object.ensures ∙ ap (λ (x : Spot). x.object) spot in
    let start : c.offset-start.result ≡ y.offset = c.offset-start.ensures ∙ ap (λ (x : Spot). x.offset) spot in
    let there = some_there (object_in c.object-object.result old.stock.objects) (sym c.exists.ensures ∙ c.if-not-exists.false) in
    let value = c.take-value.result in
    let written : c.write_part.new.self.objects ≡ change_in y.object (with_cells (y.offset + c.args.offset) (value ∷ [])) old.stock.objects =
    c.write_part.ensures.objects
    ∙ (ap (λ n. change_in n (with_cells (c.offset-start.result + c.args.offset) (value ∷ [])) old.stock.objects) number
    ∙ ap (λ n. change_in y.object (with_cells (n + c.args.offset) (value ∷ [])) old.stock.objects) start) in
    let new : Engine = record old { mode = At (c.args.place + 1); stock = c.write_part.new.self; spots = c.take_last.new.self } in (
      refl,
      part_makes code old new c.args.place g.s from r.0 r.1 c.args.offset value r.2 there.0 r.3 c.take-value.ensures
          (ap (λ n. object_in n old.stock.objects) (sym number) ∙ there.1) refl
          (stocked (record (kept old) { spots = c.take_last.new.self.items }) c.write_part.new.self _ written c.write_part.ensures.same
          ∙ ap (λ (l : List Spot). record (kept old) { objects = change_in y.object (with_cells (y.offset + c.args.offset) (value ∷ [])) old.stock.objects; spots = l }) popped)
          refl refl t position ty same,
    )

pub returns-then-not-exists-clause-gone : goal.returns-then-not-exists-clause-gone
returns-then-not-exists-clause-gone g c = λ t position ty same new goes.
    let code = c.args.code.now in
    let old = c.args.engine.now in
    let r = c.requires.0 in
    let from = c.args.from.now in
    let i = is_given code old c.args.place g.s from r.0 r.1 r.2 r.3 in
    let y = first_spot (parts_of from g.s) in
    let count = c.count_spots-newest in
    let spot = newest_read old.spots.items (standing g.s.control (drop 1 (parts_of from g.s))) y c.index-spot.result.now count.result i.spots count.ensures.count c.index-spot.ensures in
    let none = none_there (object_in c.object-object.result old.stock.objects) (sym c.exists.ensures ∙ c.if-not-exists.true) in
    store_gone code old new c.args.place g.s from r.0 r.1 c.args.offset r.2 r.3 (ap (λ n. object_in n old.stock.objects) (sym (c.object-object.ensures ∙ ap (λ (x : Spot). x.object) spot)) ∙ none) goes t position ty same
