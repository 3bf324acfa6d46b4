use Rattle.ctl_places.specs.Freeing.{by_component}
use Rattle.ctl_machine.proofs.freeing.release_by_part.Given as goal

abbrev pub ghost-release : goal.ghost-release
ghost-release g a = by_component g.s.1 a.release.place g.s.0
