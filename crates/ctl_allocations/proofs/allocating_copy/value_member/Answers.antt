use Rattle.std.proofs.Common.{◌≡◌, ◌∙◌, ◌+◌, ℕ, List, Option, Some, ap, arith, drop, refl, subst, sym}
use Rattle.ctl_program.specs.declared.types.Ty.TheVariants.{Record}
use Rattle.ctl_meaning.specs.Finalization.{Spot}
use Rattle.ctl_meaning.specs.Objects.{first_cells}
use Rattle.ctl_meaning.specs.World as W
use Rattle.ctl_code.specs.declared.code.Instr.TheVariants.{NewCopy}
use Rattle.ctl_code.specs.Table.{Grant, size_of, units_of}
use Rattle.ctl_engine.specs.declared.engine.Engine.{Engine}
use Rattle.ctl_frames.specs.declared.frame.Mode.{Mode}
use Rattle.ctl_places.specs.declared.pool_blocks.Grantor.{Grantor}
use Rattle.ctl_places.specs.Granting.{Adds, Grants, Serves, place_granted, storage_seen, world_granted}
use Rattle.ctl_engine.specs.Moves.{Makes, here_of}
use Rattle.ctl_engine.specs.Shows.{Kept, kept}
use Rattle.ctl_frames.specs.Spots.{first_spot, standing, value_on_top}
use Rattle.ctl_allocations.proofs.CopyAllocated.{given_taken, member_copied, source_part, taken_is, taken_makes, with_taken}
use Rattle.ctl_allocations.proofs.NewMember.{lacking_makes, member_number}
use Rattle.ctl_places.proofs.Granted.{asked_pool, asks_none, grants_beside, no_user}
use Rattle.ctl_engine.proofs.Stocked.{copied_stock}
use Rattle.ctl_frames.proofs.Words.{same_front}
use Rattle.ctl_allocations.proofs.allocating_copy.value_member.Goals as goal

pub newest_value-requires : goal.newest_value-requires
newest_value-requires g c =
    let b = c.requires.1.0.2 in
    ((NewCopy c.args.access c.args.record c.requires.1.0.0 c.requires.1.0.1, b, c.args.record, b.fine.2.0, b.fine.2.1), c.requires.1.1.0)

pub returns-in-Some-clause-ok : goal.returns-in-Some-clause-ok
returns-in-Some-clause-ok g c =
    let code = c.args.code.now in
    let old = c.args.engine.now in
    let added = c.add_member.new.engine in
    let s = g.s.0 in
    let set = c.args.set in
    let t = c.args.record in
    let b = c.requires.1.0.2 in
    let size = units_of code t in
    let mode = c.in-Some.refused in
    let grants : Grants code old s.world g.s.1 c.grantor-grantor.result = subst (λ (f : ℕ → Grant). Grants code old s.world f c.grantor-grantor.result) (sym c.requires.1.1.1.0) c.grantor-grantor.ensures in
    let none = no_user c.grantor-grantor.result c.in_default.not-User in
    let served : Serves code old added set (Record t) s.world (g.s.1 size) (Some mode) = subst (λ (o : Option Mode). Serves code old added set (Record t) s.world (g.s.1 size) o) c.in-Some.is c.in_ok-refused.ensures.ok in
    lacking_makes code old added c.go_on.new.self mode b.stack s.operands (here_of c.args.place s) (member_copied code c.args.place set t (first_cells (size_of code t) (value_on_top s.operands)) s) (g.s.1 size) (λ o f is. absurd (asks_none code old s.world g.s.1 c.grantor-grantor.result size o f grants none is)) refl refl b.inside served.0 served.1 c.go_on.ensures

pub adjust_member-requires : goal.adjust_member-requires
adjust_member-requires g c =
    let code = c.args.code.now in
    let old = c.args.engine.now in
    let s = g.s.0 in
    let before = c.requires.1.0 in
    let set = c.args.set in
    let t = c.args.record in
    let size = units_of code t in
    let place = place_granted (g.s.1 size) in
    let v = world_granted s.world (g.s.1 size) in
    let value = first_cells (size_of code t) (value_on_top s.operands) in
    let added = c.add_member.new.engine in
    let adds : Adds code (kept old) (kept added) set (Record t) s.world (g.s.1 size) =
    subst (λ (z : Option Mode). Serves code old added set (Record t) s.world (g.s.1 size) z) c.in_default-2.is c.in_ok-refused.ensures.ok in
    let beside = grants_beside code old s.world v (storage_seen code c.args.access s) c.grantor-grantor.result size place c.grantor-grantor.ensures (ap (λ (f : ℕ → Grant). f size) (sym c.requires.1.1.1.0) ∙ adds.granted) in
    let begun : Engine = record added { spots = c.take_last.new.self; stock = c.write_all.new.self } in
    let b = before.2 in
    let i = adds.member in
    let below = standing s.control (drop 1 s.operands) in
    let p = source_part code old c.args.access c.args.place t before.1 before.0 s b in
    let spots : added.spots.items ≡ old.spots.items = ap (λ (e : Kept). e.spots) i.kept in
    let popped = (same_front c.take_last.new.self.items below c.take_last.result (first_spot s.operands) (sym c.take_last.ensures.items ∙ (spots ∙ p.spots))).0 in
    let given = member_number code old added set (Record t) place v i in
    let is : c.as_slice.result.now ≡ value = c.as_slice.ensures.value ∙ (c.in_ok-value.ensures ∙ ap (λ n. first_cells n (value_on_top s.operands)) c.size_of-size.ensures) in
    let taken = given_taken code (kept old) (kept added) c.write_all.new.self.objects added.numbered.objects c.as_slice.result.now value given is c.write_all.ensures.objects in
    let are : kept begun ≡ with_taken value (old.numbered.objects + 1) below (kept added) =
    copied_stock (kept added) c.write_all.new.self c.take_last.new.self.items c.write_all.ensures.same
    ∙ (ap (λ (l : List W.Object). record (kept added) { spots = c.take_last.new.self.items; objects = l }) taken ∙ ap (λ (l : List Spot). with_taken value (old.numbered.objects + 1) l (kept added)) popped) in
    let made = taken_is code old added begun c.args.access c.args.place set t before.1 before.0 place v value s b beside i are in
    let room = c.in_ok-refused.ensures.control in
    let fewer = c.take_last.ensures.len in
    let wide = c.take_last.ensures.capacity in
    let free = c.in_ok-refused.ensures.spots in
    (c.requires.0, (made, (room, omega (arith, fewer, wide, free))))

pub returns-clause-ok : goal.returns-clause-ok
returns-clause-ok g c =
    let code = c.args.code.now in
    let old = c.args.engine.now in
    let s = g.s.0 in
    let before = c.requires.1.0 in
    let set = c.args.set in
    let t = c.args.record in
    let size = units_of code t in
    let place = place_granted (g.s.1 size) in
    let v = world_granted s.world (g.s.1 size) in
    let value = first_cells (size_of code t) (value_on_top s.operands) in
    let added = c.add_member.new.engine in
    let adds : Adds code (kept old) (kept added) set (Record t) s.world (g.s.1 size) =
    subst (λ (z : Option Mode). Serves code old added set (Record t) s.world (g.s.1 size) z) c.in_default-2.is c.in_ok-refused.ensures.ok in
    let beside = grants_beside code old s.world v (storage_seen code c.args.access s) c.grantor-grantor.result size place c.grantor-grantor.ensures (ap (λ (f : ℕ → Grant). f size) (sym c.requires.1.1.1.0) ∙ adds.granted) in
    let begun : Engine = record added { spots = c.take_last.new.self; stock = c.write_all.new.self } in
    let new = c.adjust_member.new.engine in
    subst (λ (x : Grant). Makes code old new (member_copied code c.args.place set t value s x)) (sym adds.granted)
    (taken_makes code old added begun new c.args.access c.args.place set t before.1 before.0 place v value s before.2 beside adds.member (ap (λ l. l.items) c.add_member.ensures.events) (ap (λ l. l.items) c.add_member.ensures.picks) c.adjust_member.ensures)

pub call_over_value-requires : goal.call_over_value-requires
call_over_value-requires g c =
    let code = c.args.code.now in
    let old = c.args.engine.now in
    let s = g.s.0 in
    let before = c.requires.1.0 in
    let seen = storage_seen code c.args.access s in
    let asked = asked_pool code old c.in-User.pool c.in-User.allocate seen (subst (λ (r : Grantor). Grants code old s.world seen r) c.in-User.is c.grantor-grantor.ensures) in
    let value = sym (c.in_ok-value.ensures ∙ ap (λ n. first_cells n (value_on_top s.operands)) c.size_of-size.ensures) in
    let place = c.requires.1.1.1.1.0 in
    (c.requires.0, ((c.args.access, before.0, before.1, before.2), (value, (refl, (asked.0, (asked.1, (omega (arith, place), c.requires.1.1.1.1.1.1)))))))
