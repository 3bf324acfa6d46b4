use Rattle.std.proofs.Common.{◌+◌, ◌++◌, ◌∙◌, [], ◌∷◌, ap, arith, refl, sym}
use Rattle.std.proofs.lemmas.List.{length-append}
use Rattle.ctl_frames.specs.declared.frame.After.TheVariants as AfterOf
use Rattle.ctl_frames.specs.declared.frame.Master.{Master}
use Rattle.ctl_frames.specs.Holders.{first_formal}
use Rattle.ctl_engine.specs.Moves.{cleared}
use Rattle.ctl_engine.specs.Shows.{kept, with_body}
use Rattle.ctl_frames.specs.Masters.{heads_of, display_from}
use Rattle.ctl_engine.proofs.Bodies.{IsCall}
use Rattle.ctl_engine.proofs.Operations.{call_within, linked_call, operation_makes}
use Rattle.ctl_engine.proofs.engine.Engine.call_among.Goals as goal
use Rattle.ctl_meaning.specs.Finalization.{Spot}

pub around_from-link-requires : goal.around_from-link-requires
around_from-link-requires g c = (linked_call c.args.code.now c.args.self.now c.args.entry.now c.requires.1.0.0 c.args.base g.t c.requires.1.0.1, c.requires.1.0.2.bound)

pub depth_at-requires : goal.depth_at-requires
depth_at-requires g c = (linked_call c.args.code.now c.args.self.now c.args.entry.now c.requires.1.0.0 c.args.base g.t c.requires.1.0.1, c.around_from-link.ensures.bound)

pub open_for-requires-clause-cells : goal.open_for-requires-clause-cells
open_for-requires-clause-cells g c = call_within c.args.code.now c.args.self.now c.args.entry.now c.requires.1.0.0 c.args.base g.t c.requires.0 c.requires.1.0.1 c.requires.1.1.1

pub returns : goal.returns
returns g c =
    let code = c.args.code.now in
    let old = c.args.self.now in
    let entry = c.args.entry.now in
    let b : Master = record { number = old.given_masters + 1; window = c.args.base; base = c.args.base; slots = entry.slots; link = c.around_from-link.result; depth = c.depth_at.result + 1; owned = c.count_owned.result; outer_formals = c.count_formals-outer_formals.result; formals = c.count_formals-outer_formals.result + 1; spots = c.count_spots.result } in
    let is : IsCall old b entry c.args.base (display_from c.args.caller (heads_of g.t.world.activations)) (heads_of g.t.world.activations) (first_formal g.t.spot ∷ []) = record {
      number = refl;
      window = refl;
      begins = refl;
      slots = refl;
      link = c.around_from-link.ensures.bound;
      display = c.around_from-link.ensures.display;
      depth = ap (λ n. n + 1) c.depth_at.ensures.depth;
      shallow = let s = c.depth_at.ensures.shallow in omega (arith, s);
      owned = c.count_owned.ensures;
      outer = c.count_formals-outer_formals.ensures.count;
      formals = ap (λ n. n + 1) c.count_formals-outer_formals.ensures.count ∙ sym (length-append old.formals.items (first_formal g.t.spot ∷ []));
    } in
    operation_makes code old c.open_for.new.self entry c.requires.1.0.0 c.args.base c.args.caller g.t b c.args.event c.requires.0 c.requires.1.0.1 c.requires.1.1.1 c.requires.1.0.2 is c.count_spots.ensures.count
    (record { kept = c.open_for.ensures.kept ∙ ap (λ (p : Spot). with_body (kept old) AfterOf.Body b (cleared b.base entry.slots old.cells.items) (old.formals.items ++ first_formal p ∷ [])) c.requires.1.1.0; mode = c.open_for.ensures.mode; events = c.open_for.ensures.events ∙ c.push_reserved.ensures.items; picks = c.open_for.ensures.picks })
