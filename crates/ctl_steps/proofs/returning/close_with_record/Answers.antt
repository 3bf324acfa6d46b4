use Rattle.std.proofs.Common.{◌≡◌, ℕ, ◌+◌, ◌∙◌, [], List, ap, arith, drop, length, refl, reverse, subst, sym, take}
use Rattle.std.specs.Prelude.{if◌then◌else◌, vec_capacity, vec_len}
use Rattle.std.specs.Vec.{with_items}
use Rattle.ctl_meaning.specs.Finalization.{Spot}
use Rattle.ctl_meaning.specs.Activations.{activation_at, slots_in}
use Rattle.ctl_meaning.specs.Changes.{close_master}
use Rattle.ctl_meaning.specs.Outcome.{Result, Done}
use Rattle.ctl_code.specs.Table.{pending_with}
use Rattle.ctl_engine.specs.declared.engine.Engine.{Engine}
use Rattle.ctl_frames.specs.declared.frame.Frame.TheVariants as FrameOf
use Rattle.ctl_frames.specs.declared.frame.Master.{Master}
use Rattle.ctl_engine.specs.Departing.{with_top}
use Rattle.ctl_frames.specs.Links.{first_base}
use Rattle.ctl_frames.specs.Masters.{AreBelow, AreMasters, heads_of, layers_from}
use Rattle.ctl_engine.specs.Returning.{cell_behind, record_behind, waits_further, with_record}
use Rattle.ctl_engine.specs.Shows.{kept, with_spots, written_at}
use Rattle.ctl_frames.specs.Spots.{standing}
use Rattle.ctl_frames.specs.Under.{aside}
use Rattle.ctl_engine.proofs.Closed.{without_master}
use Rattle.ctl_places.proofs.LeftOwner.{comes_behind}
use Rattle.ctl_places.proofs.LeftWithRecord.{cell_is, closed_to, closes_given, given_within, is_done, length_written, parts_given, record_is, result_given, some_waits}
use Rattle.ctl_frames.proofs.Newest.{first_or}
use Rattle.ctl_engine.proofs.Owned.{up_to_newest}
use Rattle.ctl_places.proofs.OwnLayers.{place_behind}
use Rattle.ctl_engine.proofs.PoolsDropped.{drops}
use Rattle.ctl_engine.proofs.Stretches.{cells_are}
use Rattle.ctl_steps.proofs.returning.close_with_record.Goals as goal

pub record_behind-requires : goal.record_behind-requires
record_behind-requires g c = λ waits.
    let code = c.args.code.now in
    let old = c.args.engine.now in
    let d = c.args.departure in
    let t = g.t in
    let m = c.newest-newest.result in
    let ms = c.newest-newest.ensures.newest.0 in
    let is = c.newest-newest.ensures.newest.1 in
    let next = c.args.next in
    let how = c.completion-completion.result in
    let done = is_done code old d.failed d.pending how d.after next t m ms c.requires.1.0 is c.completion-completion.ensures.stands in
    let parts = standing t.control (aside t.after) in
    let r = pending_with d.failed t.pending in
    some_waits how r old.spots.items parts done.result done.waits waits

pub cell_behind-cell-requires : goal.cell_behind-cell-requires
cell_behind-cell-requires g c = λ waits.
    let code = c.args.code.now in
    let old = c.args.engine.now in
    let d = c.args.departure in
    let t = g.t in
    let m = c.newest-newest.result in
    let ms = c.newest-newest.ensures.newest.0 in
    let is = c.newest-newest.ensures.newest.1 in
    let next = c.args.next in
    let how = c.completion-completion.result in
    let done = is_done code old d.failed d.pending how d.after next t m ms c.requires.1.0 is c.completion-completion.ensures.stands in
    let parts = standing t.control (aside t.after) in
    let r = pending_with d.failed t.pending in
    some_waits how r old.spots.items parts done.result done.waits waits

pub forget_owned-requires-clause-masters : goal.forget_owned-requires-clause-masters
forget_owned-requires-clause-masters g c =
    let code = c.args.code.now in
    let old = c.args.engine.now in
    let d = c.args.departure in
    let t = g.t in
    let m = c.newest-newest.result in
    let ms = c.newest-newest.ensures.newest.0 in
    let is = c.newest-newest.ensures.newest.1 in
    let next = c.args.next in
    let h = c.requires.1.0.holds in
    let masters = subst (λ (l : List Master). AreMasters l (heads_of t.world.activations) t.world.ledger.masters old.owned.items) is h.masters in
    let below = subst (λ (l : List Master). AreBelow l (old.given_masters + 1)) is h.below in
    up_to_newest m ms (heads_of t.world.activations) t.world.ledger.masters old.owned.items (old.numbered.objects + 1) old.stock.objects masters below.1 h.owns

pub mode_behind-requires : goal.mode_behind-requires
mode_behind-requires g c = λ place e.
    let d = c.args.departure in
    let less = place_behind c.args.code.now c.args.engine.now d.failed d.pending d.after c.args.next g.t place c.requires.0 c.requires.1.0 c.requires.1.1.0 e in
    let bound = c.args.code.now.instructions.ok.0 in
    omega (arith, less, bound)

pub put_record-requires : goal.put_record-requires
put_record-requires g c =
    let room = c.in_ok-reserve.ensures.ok in
    let long = ap (λ v. vec_len v) c.close-base.ensures.parts in
    let wide = ap (λ v. vec_capacity v) c.close-base.ensures.parts in
    let fewer = c.drop_parts.ensures.len in
    let same = c.drop_parts.ensures.capacity in
    omega (arith, room, long, wide, fewer, same)

pub put_cell-requires : goal.put_cell-requires
put_cell-requires g c = λ x some.
    let code = c.args.code.now in
    let old = c.args.engine.now in
    let d = c.args.departure in
    let t = g.t in
    let m = c.newest-newest.result in
    let ms = c.newest-newest.ensures.newest.0 in
    let is = c.newest-newest.ensures.newest.1 in
    let next = c.args.next in
    let how = c.completion-completion.result in
    let done = is_done code old d.failed d.pending how d.after next t m ms c.requires.1.0 is c.completion-completion.ensures.stands in
    let parts = standing t.control (aside t.after) in
    let r = pending_with d.failed t.pending in
    let given = result_given how r old.spots.items parts done.result done.waits in
    let stock = c.forget_owned.new.stock in
    let gone = drops old m stock c.forget_owned.ensures.objects c.forget_owned.ensures.needs c.forget_owned.ensures.pools in
    let b = comes_behind code old d.failed d.pending d.after next t m ms stock c.requires.0 c.requires.1.0 c.requires.1.1.0 is gone parts refl in
    let within = given_within code (with_spots (without_master (drop 1 (reverse old.control.items)) m ms stock (with_top (FrameOf.Leaving d.failed d.pending d.after next) (kept old))) parts) d.after t.after (slots_in (activation_at t.master t.world.activations)) t.control (close_master t.master t.world) m r x b
    (sym (c.cell_behind-cell.ensures ∙ (cell_is d.after how old.spots.items ∙ ap (λ (y : Result Done). cell_behind d.after y) given)) ∙ some) in
    let base = c.close-base.ensures.base ∙ ap (λ (l : List Master). first_base l) is in
    let long = ap (λ l. length l) c.close-base.ensures.closes.row in
    omega (arith, within, base, long)

pub returns-clause-ok : goal.returns-clause-ok
returns-clause-ok g c =
    let code = c.args.code.now in
    let old = c.args.engine.now in
    let d = c.args.departure in
    let t = g.t in
    let m = c.newest-newest.result in
    let ms = c.newest-newest.ensures.newest.0 in
    let is = c.newest-newest.ensures.newest.1 in
    let next = c.args.next in
    let how = c.completion-completion.result in
    let done = is_done code old d.failed d.pending how d.after next t m ms c.requires.1.0 is c.completion-completion.ensures.stands in
    let parts = standing t.control (aside t.after) in
    let r = pending_with d.failed t.pending in
    let given = result_given how r old.spots.items parts done.result done.waits in
    let stock = c.forget_owned.new.stock in
    let gone = drops old m stock c.forget_owned.ensures.objects c.forget_owned.ensures.needs c.forget_owned.ensures.pools in
    let cut : Engine = record old { spots = c.reserve.new.vector; owned = c.forget_owned.new.owned; stock = stock } in
    let closed = c.close-base.new.engine in
    let closes = c.close-base.ensures.closes in
    let top = FrameOf.Leaving d.failed d.pending d.after next in
    let e = without_master (drop 1 (reverse old.control.items)) m ms stock (with_top top (kept old)) in
    let n = c.requires.1.1.1.1.1 in
    let first : n.0 ≡ m = ap (λ (l : List Master). first_or m l) (sym n.2 ∙ is) in
    let none = subst (λ (x : Master). layers_from x.owned old.owned.items ≡ []) first n.3 in
    let row = c.put_cell.new.cells in
    let there = c.put_record.new.spots.items in
    let base = c.close-base.ensures.base ∙ ap (λ (l : List Master). first_base l) is in
    let row_is : row ≡ written_at (cell_behind d.after r) m.base old.cells.items =
    c.put_cell.ensures
    ∙ (ap (λ (l : List ℕ). written_at c.cell_behind-cell.result c.close-base.result l) c.deref_mut.ensures.value
    ∙ (ap (λ o. written_at o c.close-base.result closed.cells.items) (c.cell_behind-cell.ensures ∙ (cell_is d.after how old.spots.items ∙ ap (λ (y : Result Done). cell_behind d.after y) given))
    ∙ (ap (λ at. written_at (cell_behind d.after r) at closed.cells.items) base
    ∙ ap (λ l. written_at (cell_behind d.after r) m.base l) closes.row))) in
    let spots : closed.spots.items ≡ old.spots.items = closes.spots ∙ c.in_ok-reserve.ensures.items in
    let left : c.drop_parts.new.spots.items ≡ (if waits_further d.after how then old.spots.items else take m.spots old.spots.items) =
    c.drop_parts.ensures.items
    ∙ (ap (λ b. if b then closed.spots.items else take m.spots closed.spots.items) c.waits_further-stays.ensures
    ∙ ap (λ (l : List Spot). if waits_further d.after how then l else take m.spots l) spots) in
    let there_is =
    c.put_record.ensures
    ∙ (ap (λ o. with_record o c.drop_parts.new.spots.items) (c.in_ok-given.ensures ∙ (record_is d.after how old.spots.items ∙ ap (λ (y : Result Done). record_behind d.after y) given))
    ∙ (ap (λ (l : List Spot). with_record (record_behind d.after r) l) left
    ∙ parts_given d.after how r old.spots.items parts m.spots done.result done.waits done.cut)) in
    let long : length row ≡ length closed.cells.items =
    ap (λ l. length l) c.put_cell.ensures
    ∙ (length_written c.cell_behind-cell.result c.close-base.result _
    ∙ ap (λ (l : List ℕ). length l) c.deref_mut.ensures.value) in
    let new : Engine = record closed { cells = with_items closed.cells row; spots = c.put_record.new.spots } in
    let there_kept : kept new ≡ record (kept closed) { cells = row; spots = there } = ap (λ (l : List ℕ). record (kept closed) { cells = l; spots = there }) (cells_are closed row long) in
    closes_given code old new d.failed d.pending how d.after next t m ms stock c.requires.0 c.requires.1.0 c.requires.1.1.0 is none gone done
    (there_kept
    ∙ (sym (closed_to old cut closed top _ m ms row there is (record { control = refl; masters = refl; formals = refl; saved = refl; noted = refl; given_masters = refl; numbered = refl }) c.forget_owned.ensures.owned c.forget_owned.ensures.objects c.forget_owned.ensures.needs closes)
    ∙ (ap (λ l. record e { cells = l; spots = there }) row_is
    ∙ ap (λ (l : List Spot). record e { cells = written_at (cell_behind d.after r) m.base old.cells.items; spots = l }) there_is)))
    (closes.mode ∙ c.mode_behind.ensures) closes.events closes.picks
