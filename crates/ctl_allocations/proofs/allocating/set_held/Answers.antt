use Rattle.std.proofs.Common.{ℕ, ◌-◌, ◌∙◌, List, ap, arith, drop, length, take}
use Rattle.ctl_meaning.specs.Activations.{master_of}
use Rattle.ctl_meaning.specs.Allocation as Allocation
use Rattle.ctl_meaning.specs.World as W
use Rattle.ctl_frames.specs.declared.frame.Owned.{Owned}
use Rattle.ctl_frames.specs.Holders.{holder_in}
use Rattle.ctl_frames.specs.Masters.{heads_of, first_display}
use Rattle.ctl_engine.specs.Shows.{kept}
use Rattle.ctl_places.proofs.HeldThere.{own_end_within}
use Rattle.ctl_frames.proofs.Links.{got}
use Rattle.ctl_engine.proofs.Reached.{among_of, linked_in, no_master_slot, no_number_slot}
use Rattle.ctl_places.proofs.SetSeen.{level_is, no_level, no_slot_held, slot_held}
use Rattle.ctl_allocations.proofs.allocating.set_held.Goals as goal

pub around-count-requires : goal.around-count-requires
around-count-requires g c = linked_in c.args.code.now c.args.engine.now g.s.control g.s.operands g.s.world c.requires.0

pub depth_at-requires : goal.depth_at-requires
depth_at-requires g c = (linked_in c.args.code.now c.args.engine.now g.s.control g.s.operands g.s.world c.requires.0, c.around-count.ensures.bound)

pub returns-then-depth_at-access : goal.returns-then-depth_at-access
returns-then-depth_at-access g c =
    let d = first_display (heads_of g.s.world.activations) in
    let v = c.args.access.now in
    let same = ap (λ (l : List ℕ). length l) c.around-count.ensures.display in
    let depth = c.depth_at.ensures.depth in
    let less = c.if-depth_at-access.true in
    no_slot_held (master_of d v) v.slot g.s.world
    (no_number_slot c.args.code.now (kept c.args.engine.now) g.s.control g.s.operands g.s.world (master_of d v) v.slot c.requires.0 (no_level d v c.requires.1 (omega (arith, same, depth, less))))

pub returns-then-access-master : goal.returns-then-access-master
returns-then-access-master g c =
    let code = c.args.code.now in
    let engine = c.args.engine.now in
    let w = g.s.world in
    let hs = heads_of w.activations in
    let d = first_display hs in
    let v = c.args.access.now in
    let count = c.around-count.result in
    let m = c.index-master.result.now in
    let linked = linked_in code engine g.s.control g.s.operands w c.requires.0 in
    let bound = c.around-count.ensures.bound in
    let depth = c.depth_at.ensures.depth in
    let shallow = c.depth_at.ensures.shallow in
    let more = c.if-depth_at-access.false in
    let some = c.requires.1 in
    let found = got engine.masters.items (count - 1) m (omega (arith, bound, shallow, more, some)) c.index-master.ensures in
    let number = level_is d v count engine.masters.items hs m some linked found (omega (arith, shallow, more, some)) c.around-count.ensures.display (omega (arith, depth, more)) in
    no_slot_held (master_of d v) v.slot w (no_master_slot code (kept engine) g.s.control g.s.operands w (master_of d v) v.slot m c.requires.0 (among_of engine.masters.items (count - 1) m found) number (omega (arith, c.if-access-master.true)))

pub held_set-requires : goal.held_set-requires
held_set-requires g c =
    let engine = c.args.engine.now in
    let count = c.around-count.result in
    let m = c.index-master.result.now in
    let bound = c.around-count.ensures.bound in
    let shallow = c.depth_at.ensures.shallow in
    let more = c.if-depth_at-access.false in
    let found = got engine.masters.items (count - 1) m (omega (arith, bound, shallow, more, c.requires.1)) c.index-master.ensures in
    let within = own_end_within c.args.code.now engine g.s.control g.s.operands g.s.world (count - 1) m c.requires.0 found in
    let end = c.own_end.ensures in
    let same = ap (λ (l : List Owned). length l) c.as_slice.ensures.value in
    omega (arith, within, end, same)

pub returns : goal.returns
returns g c =
    let code = c.args.code.now in
    let engine = c.args.engine.now in
    let w = g.s.world in
    let hs = heads_of w.activations in
    let d = first_display hs in
    let v = c.args.access.now in
    let count = c.around-count.result in
    let m = c.index-master.result.now in
    let linked = linked_in code engine g.s.control g.s.operands w c.requires.0 in
    let bound = c.around-count.ensures.bound in
    let depth = c.depth_at.ensures.depth in
    let shallow = c.depth_at.ensures.shallow in
    let more = c.if-depth_at-access.false in
    let some = c.requires.1 in
    let found = got engine.masters.items (count - 1) m (omega (arith, bound, shallow, more, some)) c.index-master.ensures in
    let number = level_is d v count engine.masters.items hs m some linked found (omega (arith, shallow, more, some)) c.around-count.ensures.display (omega (arith, depth, more)) in
    c.held_set.ensures
    ∙ (ap (λ (l : List Owned). Allocation.set_in (holder_in (drop m.owned (take c.own_end.result l)) v.slot W.Nothing)) c.as_slice.ensures.value
    ∙ (ap (λ n. Allocation.set_in (holder_in (drop m.owned (take n engine.owned.items)) v.slot W.Nothing)) c.own_end.ensures
    ∙ slot_held code engine g.s.control g.s.operands w (master_of d v) v.slot (count - 1) m c.requires.0 found number (omega (arith, c.if-access-master.false))))
