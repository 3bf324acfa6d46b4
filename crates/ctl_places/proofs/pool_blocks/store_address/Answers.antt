use Rattle.std.proofs.Common.{◌≡◌, ◌+◌, ◌∙◌, [], ◌∷◌, List, ap, refl, sym}
use Rattle.ctl_meaning.specs.Finalization.{Spot}
use Rattle.ctl_meaning.specs.Objects.{change_in, object_in, with_cells}
use Rattle.ctl_engine.specs.Shows.{kept, with_spots}
use Rattle.ctl_frames.specs.Spots.{standing}
use Rattle.ctl_places.proofs.BlocksInto.{address_gone, address_stored, both_dropped}
use Rattle.ctl_engine.proofs.Owned.{none_there, some_there}
use Rattle.ctl_engine.proofs.Stocked.{stocked}
use Rattle.ctl_places.proofs.pool_blocks.store_address.Goals as goal

pub returns-then-not-exists : goal.returns-then-not-exists
returns-then-not-exists g c =
    let code = c.args.code.now in
    let old = c.args.engine.now in
    let s = g.s.1 in
    let a = c.requires.0 in
    let part = a.part in
    let dropped = both_dropped c.take_last-part.new.self.items c.take_last.new.self.items (standing s.control s.operands) c.take_last-part.result c.take_last.result a.pool part (sym c.take_last-part.ensures.items ∙ a.spots) c.take_last.ensures.items in
    let number = c.object.ensures ∙ ap (λ (x : Spot). x.object) dropped.0 in
    let none = none_there (object_in c.object.result old.stock.objects) (sym c.exists.ensures ∙ c.if-not-exists.true) in
    address_gone code old _ c.args.place c.args.offset c.args.address g.s.0 s a (ap (λ n. object_in n old.stock.objects) (sym number) ∙ none)
    (record { mode = refl; kept = ap (λ (l : List Spot). with_spots (kept old) l) dropped.1; events = refl; picks = refl })

pub returns : goal.returns
returns g c =
    let code = c.args.code.now in
    let old = c.args.engine.now in
    let s = g.s.1 in
    let a = c.requires.0 in
    let part = a.part in
    let dropped = both_dropped c.take_last-part.new.self.items c.take_last.new.self.items (standing s.control s.operands) c.take_last-part.result c.take_last.result a.pool part (sym c.take_last-part.ensures.items ∙ a.spots) c.take_last.ensures.items in
    let number = c.object.ensures ∙ ap (λ (x : Spot). x.object) dropped.0 in
    let start = c.offset.ensures ∙ ap (λ (x : Spot). x.offset) dropped.0 in
    let there = some_there (object_in c.object.result old.stock.objects) (sym c.exists.ensures ∙ c.if-not-exists.false) in
    let address = c.args.address in
    let written : c.write_part.new.self.objects ≡ change_in part.object (with_cells (part.offset + c.args.offset) (address ∷ [])) old.stock.objects =
    c.write_part.ensures.objects
    ∙ (ap (λ n. change_in n (with_cells (c.offset.result + c.args.offset) (address ∷ [])) old.stock.objects) (c.object-2.ensures ∙ ap (λ (x : Spot). x.object) dropped.0)
    ∙ ap (λ n. change_in part.object (with_cells (n + c.args.offset) (address ∷ [])) old.stock.objects) start) in
    address_stored code old _ c.args.place c.args.offset address g.s.0 s there.0 a (ap (λ n. object_in n old.stock.objects) (sym number) ∙ there.1)
    (record {
      mode = refl;
      kept = stocked (record (kept old) { spots = c.take_last.new.self.items }) c.write_part.new.self _ written c.write_part.ensures.same
          ∙ ap (λ (l : List Spot). record (kept old) { objects = change_in part.object (with_cells (part.offset + c.args.offset) (address ∷ [])) old.stock.objects; spots = l }) dropped.1;
      events = refl;
      picks = refl;
    })
