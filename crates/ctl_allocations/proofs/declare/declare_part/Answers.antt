use Rattle.std.proofs.Common.{drop, ◌≡◌, ◌∙◌, ◌+◌, ◌<◌, ◌≤◌, List, ℕ, ap, arith, length, refl, subst, sym}
use Rattle.std.specs.Prelude.{vec_capacity, vec_len}
use Rattle.ctl_meaning.specs.Objects.{object_in}
use Rattle.ctl_frames.specs.declared.frame.Numbered.{Numbered}
use Rattle.ctl_frames.specs.declared.frame.Owned.{Owned}
use Rattle.ctl_objects.specs.Order as Order
use Rattle.ctl_storage.specs.Order as Stored
use Rattle.ctl_engine.specs.Declaring.{IsDeclared}
use Rattle.ctl_engine.specs.Moves.{Makes}
use Rattle.ctl_engine.specs.Shows.{Kept, kept, with_spots}
use Rattle.ctl_engine.proofs.Owned.{found_below, newest_above, none_there, some_there}
use Rattle.ctl_allocations.proofs.CopyDeclared.{copy_kept, copied_at, copied_gone, copied_is, copied_part}
use Rattle.ctl_engine.proofs.Stocked.{copied_stock}
use Rattle.ctl_frames.proofs.Words.{newest_read, same_front}
use Rattle.ctl_frames.specs.Spots.{first_spot, standing}
use Rattle.ctl_meaning.specs.Finalization.{Spot}
use Rattle.ctl_tree.specs.declared.event.Owner.TheVariants as OwnerOf
use Rattle.ctl_code.specs.States.{ByDeclaration, Move}
use Rattle.ctl_code.specs.Table.{adjust_new, newborn, parts_of, size_of}
use Rattle.ctl_engine.specs.declared.engine.Engine.{Engine}
use Rattle.ctl_engine.proofs.Newborn.{some_masters, has_object, row_of}
use Rattle.ctl_frames.proofs.Newest.{newest_object, newest_object_is}
use Rattle.ctl_allocations.proofs.declare.declare_part.Goals as goal

pub newest-newest-requires : goal.newest-newest-requires
newest-newest-requires g c = let b = c.requires.1.0 in some_masters c.args.code.now c.args.engine.now b.stack g.s b.inside

pub returns-then-not-exists-clause-ok : goal.returns-then-not-exists-clause-ok
returns-then-not-exists-clause-ok g c =
    let code = c.args.code.now in
    let old = c.args.engine.now in
    let p = copied_part code old c.args.place c.args.slot c.args.record g.s c.requires.1.0 in
    let count = c.count_spots-newest_spot in
    let y = first_spot g.s.operands in
    let spot = newest_read old.spots.items (standing g.s.control (drop 1 g.s.operands)) y c.index-spot.result.now count.result p.spots count.ensures.count c.index-spot.ensures in
    let none = none_there (object_in c.object-source.result old.stock.objects) (sym c.exists.ensures ∙ c.if-not-exists.true) in
    copied_gone code old _ c.args.place c.args.slot c.args.record g.s c.requires.1.0 c.requires.1.1.0 (ap (λ n. object_in n old.stock.objects) (sym (c.object-source.ensures ∙ ap (λ (x : Spot). x.object) spot)) ∙ none)
    (record { mode = refl; kept = refl; events = refl; picks = refl })

pub create-requires-clause-cell : goal.create-requires-clause-cell
create-requires-clause-cell g c =
    let code = c.args.code.now in
    let old = c.args.engine.now in
    let m = c.newest-newest.result in
    let b = c.requires.1.0 in
    let has = has_object code old b.stack c.args.slot c.args.record g.s g.s.operands m b.inside (c.args.slot, b.fine.2) c.newest-newest.ensures.last in
    subst (λ (l : List ℕ). c.args.slot < m.slots → m.base + c.args.slot < length l) (sym (ap (λ (e : Kept). e.cells) c.in_ok-reserve_object.ensures.same.kept)) has.made.within

pub create-requires-clause-numbers : goal.create-requires-clause-numbers
create-requires-clause-numbers g c =
    let b = c.requires.1.0 in
    subst (λ (e : Kept). Stored.AreBelow e.next_object e.objects) (sym c.in_ok-reserve_object.ensures.same.kept) b.inside.holds.owns.numbers

pub create-requires-clause-newest : goal.create-requires-clause-newest
create-requires-clause-newest g c =
    let b = c.requires.1.0 in
    let m = c.newest-newest.result in
    let has = has_object c.args.code.now c.args.engine.now b.stack c.args.slot c.args.record g.s g.s.operands m b.inside (c.args.slot, b.fine.2) c.newest-newest.ensures.last in
    subst (λ (e : Kept). Order.AreUpTo m.number e.objects) (sym c.in_ok-reserve_object.ensures.same.kept)
    (newest_above c.args.code.now (kept c.args.engine.now) g.s.control g.s.operands g.s.world m has.first.0 b.inside.holds has.first.1)

pub copy-requires : goal.copy-requires
copy-requires g c = λ e.
    let old = c.args.engine.now in
    let given = c.in_ok-create.ensures.number in
    let before = ap (λ (n : Numbered). n.objects) c.in_ok-reserve_object.ensures.number in
    let some = some_there (object_in c.object-source.result old.stock.objects) (sym c.exists.ensures ∙ c.if-not-exists.false) in
    let less = found_below old.owned.items (old.numbered.objects + 1) old.stock.objects c.object-source.result some.0 c.requires.1.0.inside.holds.owns some.1 in
    omega (arith, e, given, before, less)

pub adjust_new-requires : goal.adjust_new-requires
adjust_new-requires g c =
    let code = c.args.code.now in
    let old = c.args.engine.now in
    let same = c.in_ok-reserve_object.ensures.same in
    let ready = c.reserve_object.new.engine in
    let made = c.create.new.engine in
    let m = c.newest-newest.result in
    let p = copied_part code old c.args.place c.args.slot c.args.record g.s c.requires.1.0 in
    let count = c.count_spots-newest_spot in
    let y = first_spot g.s.operands in
    let below = standing g.s.control (drop 1 g.s.operands) in
    let spot = newest_read old.spots.items below y c.index-spot.result.now count.result p.spots count.ensures.count c.index-spot.ensures in
    let spots : made.spots.items ≡ old.spots.items = ap (λ (e : Kept). e.spots) c.in_ok-create.ensures.kept ∙ ap (λ (e : Kept). e.spots) same.kept in
    let popped = (same_front c.take_last.new.self.items below c.take_last.result y (sym c.take_last.ensures.items ∙ (spots ∙ p.spots))).0 in
    let mid : Engine = record old { spots = c.take_last.new.self } in
    let some = some_there (object_in c.object-source.result old.stock.objects) (sym c.exists.ensures ∙ c.if-not-exists.false) in
    let number : c.object-source.result ≡ y.object = c.object-source.ensures ∙ ap (λ (x : Spot). x.object) spot in
    let start : c.offset-start.result ≡ y.offset = c.offset-start.ensures ∙ ap (λ (x : Spot). x.offset) spot in
    let given : made.numbered.objects ≡ old.numbered.objects + 1 = c.in_ok-create.ensures.number ∙ ap (λ (n : Numbered). n.objects + 1) c.in_ok-reserve_object.ensures.number in
    let begun : Engine = record made { spots = c.take_last.new.self; stock = c.copy.new.self } in
    let are = copied_stock (kept made) c.copy.new.self c.take_last.new.self.items c.copy.ensures.same
    ∙ copy_kept (kept old) (kept ready) (kept made) c.copy.new.self.objects c.take_last.new.self.items m c.args.slot c.args.record c.size_of-size.result c.object-source.result c.offset-start.result y.offset (size_of code c.args.record) made.numbered.objects some.0
    same.kept c.in_ok-create.ensures.kept given some.1 start c.size_of-size.ensures c.copy.ensures.objects in
    let copied = copied_is code old mid begun c.args.place c.args.slot c.args.record g.s m some.0 c.requires.1.0 c.requires.1.1.0 (ap (λ (l : List Spot). with_spots (kept old) l) popped) c.newest-newest.ensures.last
    (ap (λ n. object_in n old.stock.objects) (sym number) ∙ some.1) are given in
    let slot : (newest_object made.owned.items).slot ≡ c.args.slot = ap (λ (e : Kept). (newest_object e.owned).slot) c.in_ok-create.ensures.kept ∙ ap (λ (x : Owned). x.slot) (newest_object_is ready.owned.items (row_of m c.args.slot c.args.record (kept ready))) in
    let room = c.in_ok-reserve_object.ensures.control in
    let frames = c.in_ok-create.ensures.control in
    let fewer = c.take_last.ensures.len in
    let wide = c.take_last.ensures.capacity in
    let there = c.in_ok-reserve_object.ensures.spots in
    let was = ap (λ v. vec_len v) c.in_ok-create.ensures.spots in
    let wider = ap (λ v. vec_capacity v) c.in_ok-create.ensures.spots in (
      subst (λ n. IsDeclared code begun c.args.record (c.args.place + 1) (copied_at code (c.args.place + 1) n c.args.record g.s)) (sym slot) copied.0,
      (
        subst (λ v. vec_len v + 2 ≤ vec_capacity v) (sym frames) room,
        omega (arith, fewer, wide, there, was, wider),
      ),
    )

pub returns-clause-ok : goal.returns-clause-ok
returns-clause-ok g c =
    let code = c.args.code.now in
    let old = c.args.engine.now in
    let same = c.in_ok-reserve_object.ensures.same in
    let ready = c.reserve_object.new.engine in
    let made = c.create.new.engine in
    let m = c.newest-newest.result in
    let p = copied_part code old c.args.place c.args.slot c.args.record g.s c.requires.1.0 in
    let count = c.count_spots-newest_spot in
    let y = first_spot g.s.operands in
    let below = standing g.s.control (drop 1 g.s.operands) in
    let spot = newest_read old.spots.items below y c.index-spot.result.now count.result p.spots count.ensures.count c.index-spot.ensures in
    let spots : made.spots.items ≡ old.spots.items = ap (λ (e : Kept). e.spots) c.in_ok-create.ensures.kept ∙ ap (λ (e : Kept). e.spots) same.kept in
    let popped = (same_front c.take_last.new.self.items below c.take_last.result y (sym c.take_last.ensures.items ∙ (spots ∙ p.spots))).0 in
    let mid : Engine = record old { spots = c.take_last.new.self } in
    let some = some_there (object_in c.object-source.result old.stock.objects) (sym c.exists.ensures ∙ c.if-not-exists.false) in
    let number : c.object-source.result ≡ y.object = c.object-source.ensures ∙ ap (λ (x : Spot). x.object) spot in
    let start : c.offset-start.result ≡ y.offset = c.offset-start.ensures ∙ ap (λ (x : Spot). x.offset) spot in
    let given : made.numbered.objects ≡ old.numbered.objects + 1 = c.in_ok-create.ensures.number ∙ ap (λ (n : Numbered). n.objects + 1) c.in_ok-reserve_object.ensures.number in
    let begun : Engine = record made { spots = c.take_last.new.self; stock = c.copy.new.self } in
    let are = copied_stock (kept made) c.copy.new.self c.take_last.new.self.items c.copy.ensures.same
    ∙ copy_kept (kept old) (kept ready) (kept made) c.copy.new.self.objects c.take_last.new.self.items m c.args.slot c.args.record c.size_of-size.result c.object-source.result c.offset-start.result y.offset (size_of code c.args.record) made.numbered.objects some.0
    same.kept c.in_ok-create.ensures.kept given some.1 start c.size_of-size.ensures c.copy.ensures.objects in
    let copied = copied_is code old mid begun c.args.place c.args.slot c.args.record g.s m some.0 c.requires.1.0 c.requires.1.1.0 (ap (λ (l : List Spot). with_spots (kept old) l) popped) c.newest-newest.ensures.last
    (ap (λ n. object_in n old.stock.objects) (sym number) ∙ some.1) are given in
    let slot : (newest_object made.owned.items).slot ≡ c.args.slot = ap (λ (e : Kept). (newest_object e.owned).slot) c.in_ok-create.ensures.kept ∙ ap (λ (x : Owned). x.slot) (newest_object_is ready.owned.items (row_of m c.args.slot c.args.record (kept ready))) in
    let b = c.requires.1.0 in
    let has = has_object code old b.stack c.args.slot c.args.record g.s g.s.operands m b.inside (c.args.slot, b.fine.2) c.newest-newest.ensures.last in
    let goes : ℕ → ℕ → Move = λ n j. let x = copied_at code (c.args.place + 1) n c.args.record g.s in adjust_new code (parts_of code c.args.record) ByDeclaration (newborn x.number c.args.record (OwnerOf.Master j)) x.point x.control x.world in
    copied.1 c.adjust_new.new.engine (ap (λ v. v.items) c.in_ok-create.ensures.events ∙ same.events) (ap (λ v. v.items) c.in_ok-create.ensures.picks ∙ same.picks)
    (subst (λ j. Makes code begun c.adjust_new.new.engine (goes c.args.slot j)) (sym has.own) (subst (λ n. Makes code begun c.adjust_new.new.engine (goes n m.number)) slot c.adjust_new.ensures))
