use Rattle.std.specs.Prelude.{◌<◌, ◌≤◌, OnOk, vec_capacity, vec_len}
use Rattle.std.proofs.Common.{◌≡◌, ◌+◌, ◌∙◌, ◌∷◌, [], length, Err, List, Ok, Result, ap, arith, drop, refl, subst, sym, ℕ}
use Rattle.std.proofs.lemmas.List.{length-append}
use Rattle.ctl_program.specs.declared.types.Ty.TheVariants.{Record}
use Rattle.ctl_meaning.specs.Finalization.{Spot}
use Rattle.ctl_meaning.specs.Objects.{change_in, with_cells}
use Rattle.ctl_meaning.specs.World as W
use Rattle.ctl_meaning.specs.World.{InBlock}
use Rattle.ctl_engine.specs.declared.engine.Engine.{Engine}
use Rattle.ctl_frames.specs.declared.frame.Mode.{Mode}
use Rattle.ctl_places.specs.Granting.{PlacesThere, number_at}
use Rattle.ctl_engine.specs.Moves.{GoesOn}
use Rattle.ctl_engine.specs.Shows.{Kept, kept}
use Rattle.ctl_frames.specs.Spots.{value_on_top, standing, value_spot}
use Rattle.ctl_allocations.proofs.CopyAllocated.{value_is, value_makes, with_taken}
use Rattle.ctl_places.proofs.Granted.{goes_both}
use Rattle.ctl_allocations.proofs.NewMember.{member_number}
use Rattle.ctl_engine.proofs.Stocked.{copied_stock}
use Rattle.ctl_allocations.proofs.ValueKept.{copies_in_block, copy_stops, value_below}
use Rattle.ctl_frames.proofs.Words.{same_front}
use Rattle.ctl_allocations.proofs.allocating_copy.allocate_copy_at_address.Goals as goal

pub place_member-requires : goal.place_member-requires
place_member-requires g c = let b = c.requires.1.0 in (c.requires.0, ((b.stack, b.leads, b.fine.2, b.inside), c.requires.1.1.1))

pub take_last-value-requires : goal.take_last-value-requires
take_last-value-requires g c =
    let code = c.args.code.now in
    let old = c.args.engine.now in
    let added = c.place_member.new.engine in
    let s = g.s.0 in
    let t = c.args.record in
    let placed : PlacesThere code old added (Record t) s (Ok c.in-Ok.set) = subst (λ (z : Result ℕ Mode). PlacesThere code old added (Record t) s z) c.in-Ok.is c.in_ok-set.ensures.ok in
    let x = value_below code old c.args.place t g.s.2 g.s.1 s c.requires.1.0 in
    let spots : added.spots.items ≡ old.spots.items = ap (λ (e : Kept). e.spots) placed.2.kept in
    let below = standing s.control (drop 1 (drop 4 s.operands)) in
    let long : length added.spots.items ≡ length below + 1 = ap (λ (l : List Spot). length l) (spots ∙ x.spots) ∙ length-append below (value_spot (value_on_top (drop 4 s.operands)) ∷ []) in
    omega (arith, long)

pub adjust_member-requires : goal.adjust_member-requires
adjust_member-requires g c =
    let code = c.args.code.now in
    let old = c.args.engine.now in
    let added = c.place_member.new.engine in
    let s = g.s.0 in
    let t = c.args.record in
    let b = c.requires.1.0 in
    let set = c.in-Ok.set in
    let placed : PlacesThere code old added (Record t) s (Ok set) = subst (λ (z : Result ℕ Mode). PlacesThere code old added (Record t) s z) c.in-Ok.is c.in_ok-set.ensures.ok in
    let x = value_below code old c.args.place t g.s.2 g.s.1 s b in
    let below = standing s.control (drop 1 (drop 4 s.operands)) in
    let place = InBlock (number_at s.operands 2) (number_at s.operands 0) in
    let begun : Engine = record added { spots = c.take_last-value.new.self; stock = c.write_all.new.self } in
    let spots : added.spots.items ≡ old.spots.items = ap (λ (e : Kept). e.spots) placed.2.kept in
    let popped = same_front c.take_last-value.new.self.items below c.take_last-value.result (value_spot (value_on_top (drop 4 s.operands))) (sym c.take_last-value.ensures.items ∙ (spots ∙ x.spots)) in
    let value : c.cells.result.now ≡ (value_on_top (drop 4 s.operands)) = c.cells.ensures ∙ ap (λ (p : Spot). p.path) popped.1 in
    let given = member_number code old added set (Record t) place s.world placed.2 in
    let written : c.write_all.new.self.objects ≡ change_in (old.numbered.objects + 1) (with_cells 0 (value_on_top (drop 4 s.operands))) added.stock.objects =
    c.write_all.ensures.objects ∙ (ap (λ (l : List ℕ). change_in added.numbered.objects (with_cells 0 l) added.stock.objects) value ∙ ap (λ n. change_in n (with_cells 0 (value_on_top (drop 4 s.operands))) added.stock.objects) given) in
    let are : kept begun ≡ with_taken (value_on_top (drop 4 s.operands)) (old.numbered.objects + 1) below (kept added) =
    copied_stock (kept added) c.write_all.new.self c.take_last-value.new.self.items c.write_all.ensures.same
    ∙ (ap (λ (l : List W.Object). record (kept added) { spots = c.take_last-value.new.self.items; objects = l }) written ∙ ap (λ (l : List Spot). with_taken (value_on_top (drop 4 s.operands)) (old.numbered.objects + 1) l (kept added)) popped.0) in
    let is = value_is code old added begun (c.args.place + 1) set t g.s.1 (drop 5 b.stack) place s.world (value_on_top (drop 4 s.operands)) (drop 1 (drop 4 s.operands)) s b.fine.0 b.fine.5 x.left refl placed.2 are in
    let fewer = c.take_last-value.ensures.len in
    let wide = c.take_last-value.ensures.capacity in
    let room = subst (λ (z : Result ℕ Mode). OnOk z (vec_len added.control + 2 ≤ vec_capacity added.control)) c.in-Ok.is c.in_ok-set.ensures.control in
    let free = subst (λ (z : Result ℕ Mode). OnOk z (vec_len added.spots < vec_capacity added.spots)) c.in-Ok.is c.in_ok-set.ensures.spots in
    (c.requires.0, (is, (room, omega (arith, fewer, wide, free))))

pub returns-in-Ok-clause-ok : goal.returns-in-Ok-clause-ok
returns-in-Ok-clause-ok g c =
    let code = c.args.code.now in
    let old = c.args.engine.now in
    let added = c.place_member.new.engine in
    let new = c.adjust_member.new.engine in
    let s = g.s.0 in
    let t = c.args.record in
    let b = c.requires.1.0 in
    let set = c.in-Ok.set in
    let placed : PlacesThere code old added (Record t) s (Ok set) = subst (λ (z : Result ℕ Mode). PlacesThere code old added (Record t) s z) c.in-Ok.is c.in_ok-set.ensures.ok in
    let place = InBlock (number_at s.operands 2) (number_at s.operands 0) in
    let begun : Engine = record added { spots = c.take_last-value.new.self; stock = c.write_all.new.self } in
    copies_in_block code old new c.args.place t g.s.2 set g.s.1 s b placed.0 placed.1
    (value_makes code old added begun new (c.args.place + 1) set t place s.world (value_on_top (drop 4 s.operands)) (drop 1 (drop 4 s.operands)) s b.inside.holds refl placed.2 (ap (λ v. v.items) c.place_member.ensures.events) (ap (λ v. v.items) c.place_member.ensures.picks) c.adjust_member.ensures)

pub returns-in-Err-clause-ok : goal.returns-in-Err-clause-ok
returns-in-Err-clause-ok g c =
    let code = c.args.code.now in
    let old = c.args.engine.now in
    let added = c.place_member.new.engine in
    let new = c.go_on.new.self in
    let s = g.s.0 in
    let t = c.args.record in
    let refused : PlacesThere code old added (Record t) s (Err c.in-Err.refused) = subst (λ (z : Result ℕ Mode). PlacesThere code old added (Record t) s z) c.in-Err.is c.in_ok-set.ensures.ok in
    let goes = goes_both old added new _ refused.3 c.go_on.ensures in
    copy_stops code old new c.args.place t g.s.2 g.s.1 refused.0 s c.requires.1.0 refused.2 (subst (λ (m : Mode). GoesOn old new m old.cells.items) refused.1 goes)
