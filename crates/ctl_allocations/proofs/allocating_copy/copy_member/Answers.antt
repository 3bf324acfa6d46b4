use Rattle.std.proofs.Common.{◌≡◌, ◌∙◌, ◌+◌, ℕ, List, Option, Some, ap, arith, drop, refl, subst, sym}
use Rattle.ctl_program.specs.declared.types.Ty.TheVariants.{Record}
use Rattle.ctl_meaning.specs.Finalization.{Spot}
use Rattle.ctl_meaning.specs.Objects.{cells_at, object_in}
use Rattle.ctl_meaning.specs.World as W
use Rattle.ctl_code.specs.declared.code.Instr.TheVariants.{NewCopy}
use Rattle.ctl_code.specs.Table.{Grant, units_of}
use Rattle.ctl_engine.specs.declared.engine.Engine.{Engine}
use Rattle.ctl_frames.specs.declared.frame.Mode.{Mode}
use Rattle.ctl_places.specs.declared.pool_blocks.Grantor.{Grantor}
use Rattle.ctl_places.specs.Granting.{Adds, Grants, Serves, place_granted, storage_seen, world_granted}
use Rattle.ctl_engine.specs.Moves.{Makes, here_of}
use Rattle.ctl_engine.specs.Shows.{Kept, kept}
use Rattle.ctl_frames.specs.Spots.{first_spot, standing}
use Rattle.ctl_allocations.proofs.CopyAllocated.{member_copied, source_part, taken_is, taken_kept, taken_makes, value_of, with_taken}
use Rattle.ctl_allocations.proofs.NewMember.{lacking_makes, member_number}
use Rattle.ctl_places.proofs.Granted.{asked_pool, asks_none, grants_beside, no_user}
use Rattle.ctl_engine.proofs.Owned.{found_below, object_shown}
use Rattle.ctl_engine.proofs.Stocked.{copied_stock}
use Rattle.ctl_frames.proofs.Words.{newest_read, same_front}
use Rattle.ctl_allocations.proofs.allocating_copy.copy_member.Goals as goal

pub returns-in-Some-clause-ok : goal.returns-in-Some-clause-ok
returns-in-Some-clause-ok g c =
    let code = c.args.code.now in
    let old = c.args.engine.now in
    let added = c.add_member.new.engine in
    let s = g.s.0 in
    let set = c.args.set in
    let t = c.args.record in
    let b = c.requires.1.0.2 in
    let size = units_of code t in
    let mode = c.in-Some.refused in
    let grants : Grants code old s.world g.s.2 c.grantor-grantor.result = subst (λ (f : ℕ → Grant). Grants code old s.world f c.grantor-grantor.result) (sym c.requires.1.1.1.1.0) c.grantor-grantor.ensures in
    let none = no_user c.grantor-grantor.result c.in_default.not-User in
    let served : Serves code old added set (Record t) s.world (g.s.2 size) (Some mode) = subst (λ (o : Option Mode). Serves code old added set (Record t) s.world (g.s.2 size) o) c.in-Some.is c.in_ok-refused.ensures.ok in
    lacking_makes code old added c.go_on.new.self mode b.stack s.operands (here_of c.args.place s) (member_copied code c.args.place set t (value_of code t g.s.1 s) s) (g.s.2 size) (λ o f is. absurd (asks_none code old s.world g.s.2 c.grantor-grantor.result size o f grants none is)) refl refl b.inside served.0 served.1 c.go_on.ensures

pub copy-requires : goal.copy-requires
copy-requires g c = λ e.
    let code = c.args.code.now in
    let old = c.args.engine.now in
    let s = g.s.0 in
    let t = c.args.record in
    let before = c.requires.1.0 in
    let added = c.add_member.new.engine in
    let h = before.2.inside.holds in
    let size = units_of code t in
    let p = source_part code old c.args.access c.args.place t before.1 before.0 s before.2 in
    let count = c.count_spots-newest in
    let spot = newest_read old.spots.items (standing s.control (drop 1 s.operands)) (first_spot s.operands) c.index-spot.result.now count.result p.spots count.ensures.count c.index-spot.ensures in
    let number = c.object-source.ensures ∙ ap (λ (x : Spot). x.object) spot in
    let there = sym (object_shown code (kept old) s.control s.operands s.world (first_spot s.operands).object h) ∙ c.requires.1.1.1.0 in
    let less = found_below old.owned.items (old.numbered.objects + 1) old.stock.objects (first_spot s.operands).object g.s.1 h.owns there in
    let adds : Adds code (kept old) (kept added) c.args.set (Record t) s.world (g.s.2 size) =
    subst (λ (o : Option Mode). Serves code old added c.args.set (Record t) s.world (g.s.2 size) o) c.in_default-2.is c.in_ok-refused.ensures.ok in
    let given = member_number code old added c.args.set (Record t) (place_granted (g.s.2 size)) (world_granted s.world (g.s.2 size)) adds.member in
    omega (arith, e, given, number, less)

pub adjust_member-requires : goal.adjust_member-requires
adjust_member-requires g c =
    let code = c.args.code.now in
    let old = c.args.engine.now in
    let s = g.s.0 in
    let o = g.s.1 in
    let before = c.requires.1.0 in
    let b = before.2 in
    let set = c.args.set in
    let t = c.args.record in
    let size = units_of code t in
    let place = place_granted (g.s.2 size) in
    let v = world_granted s.world (g.s.2 size) in
    let added = c.add_member.new.engine in
    let y = first_spot s.operands in
    let below = standing s.control (drop 1 s.operands) in
    let adds : Adds code (kept old) (kept added) set (Record t) s.world (g.s.2 size) =
    subst (λ (z : Option Mode). Serves code old added set (Record t) s.world (g.s.2 size) z) c.in_default-2.is c.in_ok-refused.ensures.ok in
    let i = adds.member in
    let beside = grants_beside code old s.world v (storage_seen code c.args.access s) c.grantor-grantor.result size place c.grantor-grantor.ensures (ap (λ (f : ℕ → Grant). f size) (sym c.requires.1.1.1.1.0) ∙ adds.granted) in
    let p = source_part code old c.args.access c.args.place t before.1 before.0 s b in
    let count = c.count_spots-newest in
    let spot = newest_read old.spots.items below y c.index-spot.result.now count.result p.spots count.ensures.count c.index-spot.ensures in
    let number : c.object-source.result ≡ y.object = c.object-source.ensures ∙ ap (λ (x : Spot). x.object) spot in
    let start : c.offset-start.result ≡ y.offset = c.offset-start.ensures ∙ ap (λ (x : Spot). x.offset) spot in
    let spots : added.spots.items ≡ old.spots.items = ap (λ (e : Kept). e.spots) i.kept in
    let popped = (same_front c.take_last.new.self.items below c.take_last.result y (sym c.take_last.ensures.items ∙ (spots ∙ p.spots))).0 in
    let there = sym (object_shown code (kept old) s.control s.operands s.world y.object b.inside.holds) ∙ c.requires.1.1.1.0 in
    let given = member_number code old added set (Record t) place v i in
    let begun : Engine = record added { spots = c.take_last.new.self; stock = c.copy.new.self } in
    let value = value_of code t o s in
    let taken = taken_kept code (kept old) (kept added) c.copy.new.self.objects set t c.object-source.result c.offset-start.result y.offset c.size_of-size.result added.numbered.objects place v o
    i given (ap (λ n. object_in n old.stock.objects) number ∙ there) start c.size_of-size.ensures c.copy.ensures.objects in
    let are : kept begun ≡ with_taken value (old.numbered.objects + 1) below (kept added) =
    copied_stock (kept added) c.copy.new.self c.take_last.new.self.items c.copy.ensures.same
    ∙ (ap (λ (l : List W.Object). record (kept added) { spots = c.take_last.new.self.items; objects = l }) taken ∙ ap (λ (l : List Spot). with_taken value (old.numbered.objects + 1) l (kept added)) popped) in
    let is = taken_is code old added begun c.args.access c.args.place set t before.1 before.0 place v value s b beside i are in
    let room = c.in_ok-refused.ensures.control in
    let fewer = c.take_last.ensures.len in
    let wide = c.take_last.ensures.capacity in
    let free = c.in_ok-refused.ensures.spots in
    (c.requires.0, (is, (room, omega (arith, fewer, wide, free))))

pub returns-clause-ok : goal.returns-clause-ok
returns-clause-ok g c =
    let code = c.args.code.now in
    let old = c.args.engine.now in
    let s = g.s.0 in
    let o = g.s.1 in
    let before = c.requires.1.0 in
    let set = c.args.set in
    let t = c.args.record in
    let size = units_of code t in
    let place = place_granted (g.s.2 size) in
    let v = world_granted s.world (g.s.2 size) in
    let added = c.add_member.new.engine in
    let begun : Engine = record added { spots = c.take_last.new.self; stock = c.copy.new.self } in
    let adds : Adds code (kept old) (kept added) set (Record t) s.world (g.s.2 size) =
    subst (λ (z : Option Mode). Serves code old added set (Record t) s.world (g.s.2 size) z) c.in_default-2.is c.in_ok-refused.ensures.ok in
    let beside = grants_beside code old s.world v (storage_seen code c.args.access s) c.grantor-grantor.result size place c.grantor-grantor.ensures (ap (λ (f : ℕ → Grant). f size) (sym c.requires.1.1.1.1.0) ∙ adds.granted) in
    let new = c.adjust_member.new.engine in
    subst (λ (x : Grant). Makes code old new (member_copied code c.args.place set t (value_of code t o s) s x)) (sym adds.granted)
    (taken_makes code old added begun new c.args.access c.args.place set t before.1 before.0 place v (value_of code t o s) s before.2 beside adds.member (ap (λ l. l.items) c.add_member.ensures.events) (ap (λ l. l.items) c.add_member.ensures.picks) c.adjust_member.ensures)

pub newest_cells-requires : goal.newest_cells-requires
newest_cells-requires g c =
    let b = c.requires.1.0.2 in
    ((NewCopy c.args.access c.args.record c.requires.1.0.0 c.requires.1.0.1, b, c.args.record, b.fine.2.0, b.fine.2.1), (c.requires.1.1.0, c.requires.1.1.1.0))

pub call_over_value-requires : goal.call_over_value-requires
call_over_value-requires g c =
    let code = c.args.code.now in
    let old = c.args.engine.now in
    let s = g.s.0 in
    let before = c.requires.1.0 in
    let seen = storage_seen code c.args.access s in
    let asked = asked_pool code old c.in-User.pool c.in-User.allocate seen (subst (λ (r : Grantor). Grants code old s.world seen r) c.in-User.is c.grantor-grantor.ensures) in
    let value = sym (c.in_ok-value.ensures ∙ ap (λ n. cells_at (first_spot s.operands).offset n g.s.1) c.size_of-size.ensures) in
    let place = c.requires.1.1.1.1.1.0 in
    (c.requires.0, ((c.args.access, before.0, before.1, before.2), (value, (refl, (asked.0, (asked.1, (omega (arith, place), c.requires.1.1.1.1.1.1.1)))))))
