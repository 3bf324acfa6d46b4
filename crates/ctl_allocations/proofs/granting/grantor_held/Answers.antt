use Rattle.ctl_meaning.specs.Activations.{master_of}
use Rattle.ctl_meaning.specs.Changes.{slot_at}
use Rattle.ctl_code.specs.Table.{word_of}
use Rattle.ctl_frames.specs.Masters.{first_display, heads_of}
use Rattle.ctl_places.proofs.Granted.{held_grants, none_grants}
use Rattle.ctl_allocations.proofs.granting.grantor_held.Goals as goal

pub returns-in-Some : goal.returns-in-Some
returns-in-Some g c =
    let w = g.s.world in
    let v = c.args.variable.now in
    held_grants c.args.code.now c.args.engine.now w (word_of (slot_at (master_of (first_display (heads_of w.activations)) v) v.slot w).content) c.in-Some.pool c.pool_grantor.result c.in-Some.ensures c.pool_grantor.ensures

pub returns-in-None : goal.returns-in-None
returns-in-None g c =
    let w = g.s.world in
    let v = c.args.variable.now in
    none_grants c.args.code.now c.args.engine.now w (word_of (slot_at (master_of (first_display (heads_of w.activations)) v) v.slot w).content) c.in-None.ensures
