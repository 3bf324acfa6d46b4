use Rattle.std.proofs.Common.{inl, refl}
use Rattle.ctl_verdict.proofs.verdict.left_out.Goals as goal

pub returns-in-Ok : goal.returns-in-Ok
returns-in-Ok c = inl (record { named = c.in-Ok.tree; spelled = c.in-Ok.ensures.found; place = rw (c.at.ensures, c.unwrap_or-place.ensures, c.first_left_out.ensures) refl })
