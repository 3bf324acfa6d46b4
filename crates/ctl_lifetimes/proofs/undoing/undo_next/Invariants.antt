use Rattle.std.specs.Prelude.{◌∷◌}
use Rattle.ctl_lifetimes.proofs.undoing.undo_next.Given as goal

abbrev pub ghost-undo_part : goal.ghost-undo_part
ghost-undo_part g a = record { spot = a.doubles.spot; control = g.t.2 ∷ g.t.0.control; world = g.t.0.world }
