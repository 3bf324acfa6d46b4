use Rattle.std.specs.Prelude.{◌∷◌}
use Rattle.ctl_lifetimes.proofs.adjusting.adjust_next.Given as goal

abbrev pub ghost-adjust_part : goal.ghost-adjust_part
ghost-adjust_part g a = record { spot = a.doubles.spot; control = g.t.2 ∷ g.t.0.control; world = g.t.0.world }
