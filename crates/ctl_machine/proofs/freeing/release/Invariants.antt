use Rattle.ctl_places.proofs.Freed.{freed_over}
use Rattle.ctl_machine.proofs.freeing.release.Given as goal

abbrev pub ghost-finalize_whole : goal.ghost-finalize_whole
ghost-finalize_whole g a = freed_over a.code.now a.number g.t
