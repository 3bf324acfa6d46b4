use Rattle.std.specs.Prelude.{◌∷◌}
use Rattle.ctl_machine.proofs.finalizing.finalize_next.Given as goal

abbrev pub ghost-finalize_part : goal.ghost-finalize_part
ghost-finalize_part g a = record { spot = a.doubles.spot; control = g.t.2 ∷ g.t.0.control; world = g.t.0.world }
