use Rattle.std.proofs.Common.{◌≡◌, ◌+◌, ◌∙◌, [], ◌∷◌, List, ap, arith, refl, sym}
use Rattle.ctl_meaning.specs.Finalization.{Spot}
use Rattle.ctl_meaning.specs.Objects.{change_in, object_in, with_cells}
use Rattle.ctl_frames.specs.declared.frame.Frame.{Frame}
use Rattle.ctl_frames.specs.declared.frame.Frame.TheVariants as FrameOf
use Rattle.ctl_engine.specs.Shows.{kept}
use Rattle.ctl_frames.specs.Spots.{spots_in}
use Rattle.ctl_lifetimes.proofs.Creations.{default_gone, has_frames, has_spots, rest_of, takes_default, with_next}
use Rattle.ctl_engine.proofs.Owned.{none_there, some_there}
use Rattle.ctl_engine.proofs.Stocked.{stocked, with_stock}
use Rattle.ctl_frames.proofs.Words.{newest_read}
use Rattle.ctl_lifetimes.proofs.filling.take_default.Goals as goal

pub index-spot-requires : goal.index-spot-requires
index-spot-requires g c =
    let some = has_spots c.args.code.now c.args.engine.now c.args.creation.record_type c.args.creation.owner g.t.0 c.requires.0 in
    let count = c.count_spots-newest.ensures.count in
    omega (arith, some, count)

pub returns-then-not-exists : goal.returns-then-not-exists
returns-then-not-exists g c =
    let code = c.args.code.now in
    let old = c.args.engine.now in
    let count = c.count_spots-newest in
    let spot = newest_read old.spots.items (spots_in g.t.0.control) g.t.0.new.spot c.index-spot.result.now count.result c.requires.0.spots count.ensures.count c.index-spot.ensures in
    let raw = none_there (object_in c.object-object.result old.stock.objects) (sym c.exists.ensures ∙ c.if-not-exists.true) in
    let none = ap (λ n. object_in n old.stock.objects) (sym (c.object-object.ensures ∙ ap (λ (x : Spot). x.object) spot)) ∙ raw in
    let control = rest_of old.control.items c.take_last.new.self.items c.take_last.result c.take_last.ensures.items in
    record {
      takes = default_gone code old _ c.args.creation.record_type c.args.creation.owner c.args.offset c.args.value g.t.0 g.t.1 c.requires.0 none refl
          (ap (λ (l : List Frame). record (kept old) { control = l }) control) refl refl;
      picks = refl;
    }

pub replace_top-requires : goal.replace_top-requires
replace_top-requires g c = let some = has_frames c.args.code.now c.args.engine.now c.args.creation.record_type c.args.creation.owner g.t.0 c.requires.0 in let long = c.args.engine.now.control.ok.0 in omega (arith, some, long)

pub returns : goal.returns
returns g c =
    let code = c.args.code.now in
    let old = c.args.engine.now in
    let count = c.count_spots-newest in
    let x = g.t.0.new.spot in
    let spot = newest_read old.spots.items (spots_in g.t.0.control) x c.index-spot.result.now count.result c.requires.0.spots count.ensures.count c.index-spot.ensures in
    let number : c.object-object.result ≡ x.object = c.object-object.ensures ∙ ap (λ (y : Spot). y.object) spot in
    let start : c.offset-start.result ≡ x.offset = c.offset-start.ensures ∙ ap (λ (y : Spot). y.offset) spot in
    let there = some_there (object_in c.object-object.result old.stock.objects) (sym c.exists.ensures ∙ c.if-not-exists.false) in
    let frame = FrameOf.Filling c.args.creation.record_type c.args.creation.owner c.args.rest c.args.rest in
    let written : c.write_part.new.self.objects ≡ change_in x.object (with_cells (x.offset + c.args.offset) (c.args.value ∷ [])) old.stock.objects =
    c.write_part.ensures.objects
    ∙ (ap (λ n. change_in n (with_cells (c.offset-start.result + c.args.offset) (c.args.value ∷ [])) old.stock.objects) number
    ∙ ap (λ n. change_in x.object (with_cells (n + c.args.offset) (c.args.value ∷ [])) old.stock.objects) start) in
    record {
      takes = takes_default code old _ c.args.creation.record_type c.args.creation.owner c.args.offset c.args.value g.t.0 c.args.rest g.t.1 there.0 c.requires.0 c.requires.1.0
          (ap (λ n. object_in n old.stock.objects) (sym number) ∙ there.1)
          (record {
            mode = refl;
            kept = ap (λ (l : List Frame). with_stock c.write_part.new.self (record (kept old) { control = l })) c.replace_top.ensures.items
                ∙ stocked (with_next frame (kept old)) c.write_part.new.self _ written c.write_part.ensures.same;
            events = refl;
            picks = refl;
          })
          c.requires.1.1;
      picks = refl;
    }
