use Rattle.std.proofs.Common.{◌≡◌, ◌∙◌, ◌+◌, ℕ, ap, arith, drop, refl, reverse, subst, sym}
use Rattle.ctl_code.specs.declared.code.Way.TheVariants as WayOf
use Rattle.ctl_code.specs.Kinds.{stack_at}
use Rattle.ctl_code.specs.States as T
use Rattle.ctl_code.specs.Table.{by_creating}
use Rattle.ctl_code.specs.Windows.{height}
use Rattle.ctl_engine.specs.declared.engine.Engine.{Engine}
use Rattle.ctl_frames.specs.declared.frame.Ended.{Ended}
use Rattle.ctl_frames.specs.declared.frame.Mode.TheVariants as ModeOf
use Rattle.ctl_engine.specs.Copying.{point_at}
use Rattle.ctl_engine.specs.Finishing.{with_objects}
use Rattle.ctl_frames.specs.Masters.{first_window}
use Rattle.ctl_engine.specs.Moves.{Makes}
use Rattle.ctl_engine.specs.Shows.{Kept, kept, tried_of}
use Rattle.ctl_lifetimes.proofs.AfterInitialize.{fine_of}
use Rattle.ctl_engine.proofs.Allocated.{allocator_joins, allocator_raises, allocator_stops, join_within, with_member, with_value}
use Rattle.ctl_engine.proofs.Foreign.{foreign_allocated}
use Rattle.ctl_engine.proofs.Stocked.{stocked, forgot}
use Rattle.ctl_allocations.proofs.allocating.end_allocation.Goals as goal

pub forget-requires : goal.forget-requires
forget-requires g c =
    let old = c.args.engine.now in
    let m = c.requires.1 in
    foreign_allocated c.args.object (old.numbered.objects + 1) old.stock.objects old.owned.items m.inside.holds.owns m.foreign

pub returns-in-Raised : goal.returns-in-Raised
returns-in-Raised g c =
    let code = c.args.code.now in
    let old = c.args.engine.now in
    let s = g.s in
    let new : Engine = record old { stock = c.forget.new.self; mode = ModeOf.Transfers (WayOf.Raise c.in-Raised.exception) } in
    subst (λ (x : Ended). Makes code old new (by_creating (tried_of x) T.ByAllocator c.args.object (point_at c.args.place s) s.control s.world)) (sym c.in-Raised.is)
    (allocator_raises code old new c.args.object c.args.place s c.in-Raised.exception c.requires.1 refl (forgot (kept old) c.forget.new.self c.args.object c.forget.ensures.objects c.forget.ensures.same) c.forget.ensures.pools refl refl)

pub may_join-requires : goal.may_join-requires
may_join-requires g c = c.requires.1.inside.holds

pub returns-then-not-may_join : goal.returns-then-not-may_join
returns-then-not-may_join g c =
    let fine = fine_of c.args.ended c.in_default.not-Raised in
    allocator_stops c.args.code.now c.args.engine.now _ c.args.object c.args.place g.s (tried_of c.args.ended) fine.0 fine.1 c.requires.1 (c.may_join.ensures.not c.if-not-may_join.true) refl refl refl refl

pub overflow_add-cell : goal.overflow_add-cell
overflow_add-cell g c =
    let old = c.args.engine.now in
    let within = join_within c.args.code.now old c.args.object c.args.place g.s c.requires.0 c.requires.1 in
    let few = old.cells.ok.0 in
    let window = c.window.ensures in
    let height = c.height_at.ensures in
    omega (arith, within, few, window, height)

pub index_mut-requires : goal.index_mut-requires
index_mut-requires g c =
    let within = join_within c.args.code.now c.args.engine.now c.args.object c.args.place g.s c.requires.0 c.requires.1 in
    let window = c.window.ensures in
    let height = c.height_at.ensures in
    omega (arith, within, window, height)

pub returns : goal.returns
returns g c =
    let code = c.args.code.now in
    let old = c.args.engine.now in
    let fine = fine_of c.args.ended c.in_default.not-Raised in
    let first = first_window (reverse old.masters.items) in
    let at = height (drop 1 (stack_at code.kinds c.args.place)) in
    let made : Kept → ℕ → Kept = λ e n. with_value n c.args.object e in
    let cell : c.window.result + c.height_at.result ≡ first + at = ap (λ n. n + c.height_at.result) c.window.ensures ∙ ap (λ n. first + n) c.height_at.ensures in
    allocator_joins code old _ c.args.object c.args.place g.s (tried_of c.args.ended) fine.0 fine.1 c.requires.0 c.requires.1 (c.may_join.ensures.may c.if-not-may_join.false) refl
    (ap (λ (e : Kept). made e (c.window.result + c.height_at.result)) (stocked (kept old) c.join.new.self _ c.join.ensures.objects c.join.ensures.same) ∙ ap (λ n. made (with_objects (with_member c.args.object old.stock.objects) (kept old)) n) cell)
    refl refl
