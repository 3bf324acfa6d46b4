use Rattle.std.proofs.Common.{◌≡◌, ◌+◌, ◌≤◌, ◌++◌, ◌∙◌, List, [], ◌∷◌, ℕ, ap, arith, length, refl, reverse, subst, sym}
use Rattle.std.proofs.lemmas.List.{length-append}
use Rattle.ctl_meaning.specs.Finalization.{Spot}
use Rattle.ctl_code.specs.States.{whole_spot}
use Rattle.ctl_frames.specs.declared.frame.Formal.{Formal}
use Rattle.ctl_frames.specs.declared.frame.Master.{Master}
use Rattle.ctl_frames.specs.Holders.{IsMasterOf, first_formal}
use Rattle.ctl_frames.specs.Masters.{AreBelow, heads_of, display_from}
use Rattle.ctl_engine.specs.Shows.{kept, with_body}
use Rattle.ctl_places.specs.StorageCalling.{storage_begun}
use Rattle.ctl_engine.proofs.Bodies.{IsCall}
use Rattle.ctl_places.proofs.StorageCalled.{length_begun, linked_storage, storage_makes, storage_within}
use Rattle.ctl_engine.proofs.Stretches.{cells_are}
use Rattle.ctl_places.proofs.storage_calls.call_storage.Goals as goal

pub around_from-link-requires : goal.around_from-link-requires
around_from-link-requires g c =
    let old = c.args.engine.now in
    let owner : IsMasterOf old.masters.items c.args.master c.master_at-owner.result = subst (λ (l : List Master). IsMasterOf l c.args.master c.master_at-owner.result) c.as_slice.ensures.value c.master_at-owner.ensures in
    (linked_storage c.args.code.now old c.args.entry.now c.args.master c.args.base c.args.after g.t c.requires.1.0, owner.bound)

pub master_at-owner-requires : goal.master_at-owner-requires
master_at-owner-requires g c =
    let old = c.args.engine.now in
    (old.given_masters + 1, subst (λ (l : List Master). AreBelow (reverse l) (old.given_masters + 1)) (sym c.as_slice.ensures.value) c.requires.1.0.holds.below)

pub depth_at-requires : goal.depth_at-requires
depth_at-requires g c = (linked_storage c.args.code.now c.args.engine.now c.args.entry.now c.args.master c.args.base c.args.after g.t c.requires.1.0, c.around_from-link.ensures.bound)

pub begin_formals-requires-clause-cells : goal.begin_formals-requires-clause-cells
begin_formals-requires-clause-cells g c =
    let within = storage_within c.args.code.now c.args.engine.now c.args.entry.now c.args.master c.args.base c.args.after g.t c.requires.0 c.requires.1.0 c.requires.1.1.1 in
    let same = c.deref_mut.ensures.value in
    subst (λ (l : List ℕ). c.args.base + c.args.entry.now.slots ≤ length l) (sym same) within

pub returns : goal.returns
returns g c =
    let code = c.args.code.now in
    let old = c.args.engine.now in
    let entry = c.args.entry.now in
    let t = g.t in
    let pool = c.requires.1.1.0 in
    let owner : IsMasterOf old.masters.items c.args.master c.master_at-owner.result = subst (λ (l : List Master). IsMasterOf l c.args.master c.master_at-owner.result) c.as_slice.ensures.value c.master_at-owner.ensures in
    let b : Master = record { number = old.given_masters + 1; window = c.args.base; base = c.args.base; slots = entry.slots; link = c.around_from-link.result; depth = c.depth_at.result + 1; owned = c.count_owned.result; outer_formals = c.count_formals-outer_formals.result; formals = c.count_formals-outer_formals.result + 1; spots = c.count_spots.result } in
    let own = first_formal (whole_spot t.object.number) ∷ [] in
    let is : IsCall old b entry c.args.base (display_from c.master_at-owner.result (heads_of t.world.activations)) (heads_of t.world.activations) own = record {
      number = refl;
      window = refl;
      begins = refl;
      slots = refl;
      link = c.around_from-link.ensures.bound;
      display = c.around_from-link.ensures.display;
      depth = ap (λ n. n + 1) c.depth_at.ensures.depth;
      shallow = let s = c.depth_at.ensures.shallow in omega (arith, s);
      owned = c.count_owned.ensures;
      outer = c.count_formals-outer_formals.ensures.count;
      formals = ap (λ n. n + 1) c.count_formals-outer_formals.ensures.count ∙ sym (length-append old.formals.items own);
    } in
    let formals : c.push_reserved-2.new.self.items ≡ old.formals.items ++ own =
    c.push_reserved-2.ensures.items ∙ ap (λ (p : Spot). old.formals.items ++ first_formal p ∷ []) (c.whole-spot.ensures ∙ ap whole_spot pool.pool) in
    let written : c.begin_formals.new.cells ≡ storage_begun c.args.base entry.slots t.address t.units old.cells.items =
    c.begin_formals.ensures ∙ (ap (λ (l : List ℕ). storage_begun c.args.base entry.slots c.args.actuals.address c.args.actuals.units l) c.deref_mut.ensures.value
    ∙ (ap (λ n. storage_begun c.args.base entry.slots n c.args.actuals.units old.cells.items) pool.address ∙ ap (λ n. storage_begun c.args.base entry.slots t.address n old.cells.items) pool.units)) in
    storage_makes code old c.stand.new.self entry c.args.master c.args.base c.master_at-owner.result c.args.after t b c.args.event c.requires.0 c.requires.1.0 c.requires.1.1.1 owner is c.count_spots.ensures.count
    (record {
      kept = c.stand.ensures.kept
          ∙ (ap (λ (l : List ℕ). with_body (kept old) c.args.after b l c.push_reserved-2.new.self.items) (cells_are old c.begin_formals.new.cells (ap length written ∙ length_begun c.args.base entry.slots t.address t.units old.cells.items) ∙ written)
          ∙ ap (λ (l : List Formal). with_body (kept old) c.args.after b (storage_begun c.args.base entry.slots t.address t.units old.cells.items) l) formals);
      mode = c.stand.ensures.mode;
      events = c.stand.ensures.events ∙ c.push_reserved.ensures.items;
      picks = c.stand.ensures.picks;
    })
