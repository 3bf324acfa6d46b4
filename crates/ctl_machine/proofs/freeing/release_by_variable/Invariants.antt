use Rattle.ctl_code.specs.States.{whole_spot}
use Rattle.ctl_places.proofs.Freed.{nulled_by}
use Rattle.ctl_machine.proofs.freeing.release_by_variable.Given as goal

abbrev pub ghost-release : goal.ghost-release
ghost-release g a = record { nulled = nulled_by a.nulled (whole_spot 0); operands = g.s.operands; place = a.release.place; state = g.s }
