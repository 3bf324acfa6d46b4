use Rattle.std.proofs.Common.{◌-◌, ℕ, List, ap, arith, length}
use Rattle.ctl_meaning.specs.Activations.{master_of}
use Rattle.ctl_frames.specs.Masters.{first_display, heads_of}
use Rattle.ctl_engine.specs.Shows.{kept}
use Rattle.ctl_places.proofs.Granted.{master_seen, none_seen}
use Rattle.ctl_engine.proofs.Reached.{among_of, linked_in, no_master_slot, no_number_slot}
use Rattle.ctl_places.proofs.seen.seen_at.Goals as goal

pub around-count-requires : goal.around-count-requires
around-count-requires g c = linked_in c.args.code.now c.args.engine.now g.s.control g.s.operands g.s.world c.requires

pub depth_at-requires : goal.depth_at-requires
depth_at-requires g c = (linked_in c.args.code.now c.args.engine.now g.s.control g.s.operands g.s.world c.requires, c.around-count.ensures.bound)

pub returns-then-depth_at-level-clause-none : goal.returns-then-depth_at-level-clause-none
returns-then-depth_at-level-clause-none g c = λ t.
    let d = first_display (heads_of g.s.world.activations) in
    let v = c.args.variable.now in
    let level = c.level_of-level in
    let same = ap (λ (l : List ℕ). length l) c.around-count.ensures.display in
    let depth = c.depth_at.ensures.depth in
    let less = c.if-depth_at-level.true in
    no_number_slot c.args.code.now (kept c.args.engine.now) g.s.control g.s.operands g.s.world (master_of d v) v.slot c.requires (none_seen d v level.result level.ensures.some level.ensures.same (omega (arith, same, depth, less)))

pub returns-then-variable-master-clause-none : goal.returns-then-variable-master-clause-none
returns-then-variable-master-clause-none g c = λ t.
    let engine = c.args.engine.now in
    let w = g.s.world in
    let v = c.args.variable.now in
    let m = c.index-master.result.now in
    let level = c.level_of-level in
    let count = c.around-count in
    let depth = c.depth_at.ensures.depth in
    let shallow = c.depth_at.ensures.shallow in
    let more = c.if-depth_at-level.false in
    let seen = master_seen c.args.code.now engine g.s.control g.s.operands w v level.result count.result m c.requires level.ensures.some level.ensures.same count.ensures.bound count.ensures.display (omega (arith, depth, shallow)) (omega (arith, depth, more)) c.index-master.ensures in
    let n = master_of (first_display (heads_of w.activations)) v in
    no_master_slot c.args.code.now (kept engine) g.s.control g.s.operands w n v.slot m c.requires (among_of engine.masters.items (count.result - 1) m seen.0) seen.1 (omega (arith, c.if-variable-master.true))

pub returns-clause-there : goal.returns-clause-there
returns-clause-there g c =
    let engine = c.args.engine.now in
    let w = g.s.world in
    let v = c.args.variable.now in
    let m = c.index-master.result.now in
    let level = c.level_of-level in
    let count = c.around-count in
    let depth = c.depth_at.ensures.depth in
    let shallow = c.depth_at.ensures.shallow in
    let more = c.if-depth_at-level.false in
    let seen = master_seen c.args.code.now engine g.s.control g.s.operands w v level.result count.result m c.requires level.ensures.some level.ensures.same count.ensures.bound count.ensures.display (omega (arith, depth, shallow)) (omega (arith, depth, more)) c.index-master.ensures in
    record { master = m; found = seen.0; numbered = seen.1; within = omega (arith, c.if-variable-master.false) }
