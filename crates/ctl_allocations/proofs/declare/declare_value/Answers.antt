use Rattle.std.proofs.Common.{drop, ◌≡◌, ◌∙◌, ◌+◌, ◌<◌, ◌≤◌, List, ℕ, ap, arith, length, subst, sym}
use Rattle.std.specs.Prelude.{vec_capacity, vec_len}
use Rattle.ctl_meaning.specs.Objects.{change_in, first_cells, with_cells}
use Rattle.ctl_code.specs.declared.code.Instr.TheVariants.{DeclareCopy}
use Rattle.ctl_frames.specs.declared.frame.Numbered.{Numbered}
use Rattle.ctl_frames.specs.declared.frame.Owned.{Owned}
use Rattle.ctl_objects.specs.Order as Order
use Rattle.ctl_storage.specs.Order as Stored
use Rattle.ctl_engine.specs.Declaring.{IsDeclared}
use Rattle.ctl_engine.specs.Moves.{Makes}
use Rattle.ctl_engine.specs.Shows.{Kept, kept, with_spots}
use Rattle.ctl_engine.proofs.Owned.{newest_above}
use Rattle.ctl_allocations.proofs.CopyDeclared.{copied_by, copied_part, given_is, given_kept}
use Rattle.ctl_engine.proofs.Stocked.{copied_stock}
use Rattle.ctl_frames.proofs.Words.{same_front}
use Rattle.ctl_frames.specs.Spots.{first_spot, standing, value_on_top}
use Rattle.ctl_meaning.specs.Finalization.{Spot}
use Rattle.ctl_tree.specs.declared.event.Owner.TheVariants as OwnerOf
use Rattle.ctl_code.specs.States.{ByDeclaration, Move}
use Rattle.ctl_code.specs.Table.{adjust_new, newborn, parts_of, size_of}
use Rattle.ctl_engine.specs.declared.engine.Engine.{Engine}
use Rattle.ctl_engine.proofs.Newborn.{some_masters, has_object, row_of}
use Rattle.ctl_frames.proofs.Newest.{newest_object, newest_object_is}
use Rattle.ctl_allocations.proofs.declare.declare_value.Goals as goal

pub newest-newest-requires : goal.newest-newest-requires
newest-newest-requires g c = let b = c.requires.1.0 in some_masters c.args.code.now c.args.engine.now b.stack g.s b.inside

pub newest_value-requires : goal.newest_value-requires
newest_value-requires g c = let b = c.requires.1.0 in ((DeclareCopy c.args.slot c.args.record, b, c.args.record, b.fine.1.0, b.fine.1.1), c.requires.1.1.0)

pub create-requires-clause-cell : goal.create-requires-clause-cell
create-requires-clause-cell g c =
    let code = c.args.code.now in
    let old = c.args.engine.now in
    let m = c.newest-newest.result in
    let b = c.requires.1.0 in
    let has = has_object code old b.stack c.args.slot c.args.record g.s g.s.operands m b.inside (c.args.slot, b.fine.2) c.newest-newest.ensures.last in
    subst (λ (l : List ℕ). c.args.slot < m.slots → m.base + c.args.slot < length l) (sym (ap (λ (e : Kept). e.cells) c.in_ok-reserve_object.ensures.same.kept)) has.made.within

pub create-requires-clause-numbers : goal.create-requires-clause-numbers
create-requires-clause-numbers g c =
    let b = c.requires.1.0 in
    subst (λ (e : Kept). Stored.AreBelow e.next_object e.objects) (sym c.in_ok-reserve_object.ensures.same.kept) b.inside.holds.owns.numbers

pub create-requires-clause-newest : goal.create-requires-clause-newest
create-requires-clause-newest g c =
    let b = c.requires.1.0 in
    let m = c.newest-newest.result in
    let has = has_object c.args.code.now c.args.engine.now b.stack c.args.slot c.args.record g.s g.s.operands m b.inside (c.args.slot, b.fine.2) c.newest-newest.ensures.last in
    subst (λ (e : Kept). Order.AreUpTo m.number e.objects) (sym c.in_ok-reserve_object.ensures.same.kept)
    (newest_above c.args.code.now (kept c.args.engine.now) g.s.control g.s.operands g.s.world m has.first.0 b.inside.holds has.first.1)

pub adjust_new-requires : goal.adjust_new-requires
adjust_new-requires g c =
    let code = c.args.code.now in
    let old = c.args.engine.now in
    let t = c.args.record in
    let same = c.in_ok-reserve_object.ensures.same in
    let ready = c.reserve_object.new.engine in
    let made = c.create.new.engine in
    let m = c.newest-newest.result in
    let p = copied_part code old c.args.place c.args.slot t g.s c.requires.1.0 in
    let v = first_cells (size_of code t) (value_on_top g.s.operands) in
    let below = standing g.s.control (drop 1 g.s.operands) in
    let spots : made.spots.items ≡ old.spots.items = ap (λ (e : Kept). e.spots) c.in_ok-create.ensures.kept ∙ ap (λ (e : Kept). e.spots) same.kept in
    let popped = (same_front c.take_last.new.self.items below c.take_last.result (first_spot g.s.operands) (sym c.take_last.ensures.items ∙ (spots ∙ p.spots))).0 in
    let mid : Engine = record old { spots = c.take_last.new.self } in
    let given : made.numbered.objects ≡ old.numbered.objects + 1 = c.in_ok-create.ensures.number ∙ ap (λ (n : Numbered). n.objects + 1) c.in_ok-reserve_object.ensures.number in
    let begun : Engine = record made { spots = c.take_last.new.self; stock = c.write_all.new.self } in
    let value : c.as_slice.result.now ≡ v = c.as_slice.ensures.value ∙ (c.in_ok-value.ensures ∙ ap (λ n. first_cells n (value_on_top g.s.operands)) c.size_of-size.ensures) in
    let written = c.write_all.ensures.objects ∙ ap (λ (l : List ℕ). change_in made.numbered.objects (with_cells 0 l) made.stock.objects) value in
    let are = copied_stock (kept made) c.write_all.new.self c.take_last.new.self.items c.write_all.ensures.same
    ∙ given_kept (kept old) (kept ready) (kept made) c.write_all.new.self.objects c.take_last.new.self.items m c.args.slot t c.size_of-size.result (size_of code t) made.numbered.objects v
    same.kept c.in_ok-create.ensures.kept given c.size_of-size.ensures written in
    let taken = given_is code old mid begun c.args.place c.args.slot t g.s m c.requires.1.0 c.requires.1.1.0 (ap (λ (l : List Spot). with_spots (kept old) l) popped) c.newest-newest.ensures.last are given in
    let slot : (newest_object made.owned.items).slot ≡ c.args.slot = ap (λ (e : Kept). (newest_object e.owned).slot) c.in_ok-create.ensures.kept ∙ ap (λ (x : Owned). x.slot) (newest_object_is ready.owned.items (row_of m c.args.slot t (kept ready))) in
    let room = c.in_ok-reserve_object.ensures.control in
    let frames = c.in_ok-create.ensures.control in
    let fewer = c.take_last.ensures.len in
    let wide = c.take_last.ensures.capacity in
    let there = c.in_ok-reserve_object.ensures.spots in
    let was = ap (λ v. vec_len v) c.in_ok-create.ensures.spots in
    let wider = ap (λ v. vec_capacity v) c.in_ok-create.ensures.spots in (
      subst (λ n. IsDeclared code begun t (c.args.place + 1) (copied_by code (c.args.place + 1) n t v g.s)) (sym slot) taken.0,
      (
        subst (λ v. vec_len v + 2 ≤ vec_capacity v) (sym frames) room,
        omega (arith, fewer, wide, there, was, wider),
      ),
    )

pub returns-clause-ok : goal.returns-clause-ok
returns-clause-ok g c =
    let code = c.args.code.now in
    let old = c.args.engine.now in
    let t = c.args.record in
    let same = c.in_ok-reserve_object.ensures.same in
    let ready = c.reserve_object.new.engine in
    let made = c.create.new.engine in
    let m = c.newest-newest.result in
    let p = copied_part code old c.args.place c.args.slot t g.s c.requires.1.0 in
    let v = first_cells (size_of code t) (value_on_top g.s.operands) in
    let below = standing g.s.control (drop 1 g.s.operands) in
    let spots : made.spots.items ≡ old.spots.items = ap (λ (e : Kept). e.spots) c.in_ok-create.ensures.kept ∙ ap (λ (e : Kept). e.spots) same.kept in
    let popped = (same_front c.take_last.new.self.items below c.take_last.result (first_spot g.s.operands) (sym c.take_last.ensures.items ∙ (spots ∙ p.spots))).0 in
    let mid : Engine = record old { spots = c.take_last.new.self } in
    let given : made.numbered.objects ≡ old.numbered.objects + 1 = c.in_ok-create.ensures.number ∙ ap (λ (n : Numbered). n.objects + 1) c.in_ok-reserve_object.ensures.number in
    let begun : Engine = record made { spots = c.take_last.new.self; stock = c.write_all.new.self } in
    let value : c.as_slice.result.now ≡ v = c.as_slice.ensures.value ∙ (c.in_ok-value.ensures ∙ ap (λ n. first_cells n (value_on_top g.s.operands)) c.size_of-size.ensures) in
    let written = c.write_all.ensures.objects ∙ ap (λ (l : List ℕ). change_in made.numbered.objects (with_cells 0 l) made.stock.objects) value in
    let are = copied_stock (kept made) c.write_all.new.self c.take_last.new.self.items c.write_all.ensures.same
    ∙ given_kept (kept old) (kept ready) (kept made) c.write_all.new.self.objects c.take_last.new.self.items m c.args.slot t c.size_of-size.result (size_of code t) made.numbered.objects v
    same.kept c.in_ok-create.ensures.kept given c.size_of-size.ensures written in
    let taken = given_is code old mid begun c.args.place c.args.slot t g.s m c.requires.1.0 c.requires.1.1.0 (ap (λ (l : List Spot). with_spots (kept old) l) popped) c.newest-newest.ensures.last are given in
    let slot : (newest_object made.owned.items).slot ≡ c.args.slot = ap (λ (e : Kept). (newest_object e.owned).slot) c.in_ok-create.ensures.kept ∙ ap (λ (x : Owned). x.slot) (newest_object_is ready.owned.items (row_of m c.args.slot t (kept ready))) in
    let b = c.requires.1.0 in
    let has = has_object code old b.stack c.args.slot t g.s g.s.operands m b.inside (c.args.slot, b.fine.2) c.newest-newest.ensures.last in
    let goes : ℕ → ℕ → Move = λ n j. let x = copied_by code (c.args.place + 1) n t v g.s in adjust_new code (parts_of code t) ByDeclaration (newborn x.number t (OwnerOf.Master j)) x.point x.control x.world in
    taken.1 c.adjust_new.new.engine (ap (λ v. v.items) c.in_ok-create.ensures.events ∙ same.events) (ap (λ v. v.items) c.in_ok-create.ensures.picks ∙ same.picks)
    (subst (λ j. Makes code begun c.adjust_new.new.engine (goes c.args.slot j)) (sym has.own) (subst (λ n. Makes code begun c.adjust_new.new.engine (goes n m.number)) slot c.adjust_new.ensures))
