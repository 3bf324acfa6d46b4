use Rattle.std.proofs.Common.{◌∙◌, List, ap}
use Rattle.ctl_frames.specs.declared.frame.Owned.{Owned}
use Rattle.ctl_frames.specs.Masters.{heads_of, first_display}
use Rattle.ctl_frames.specs.Owned.{set_in, sets_owned}
use Rattle.ctl_places.proofs.SetSeen.{set_seen_is}
use Rattle.ctl_allocations.proofs.allocating.set_seen.Goals as goal

pub returns : goal.returns
returns g c = λ pool.
    c.find_set.ensures
    ∙ (ap (λ (l : List Owned). set_in c.set_held.result (sets_owned l)) c.as_slice.ensures.value
    ∙ set_seen_is c.args.code.now c.args.engine.now g.s.control g.s.operands g.s.world (first_display (heads_of g.s.world.activations)) c.args.access.now pool c.set_held.result c.requires.0 c.set_held.ensures)
