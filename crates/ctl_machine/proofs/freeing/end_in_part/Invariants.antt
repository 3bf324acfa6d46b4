use Rattle.ctl_places.specs.Freeing.{behind_frees, gone_by_part, part_of}
use Rattle.ctl_machine.proofs.freeing.end_in_part.Given as goal

abbrev pub ghost-null_component : goal.ghost-null_component
ghost-null_component g a = let t = behind_frees g.s.control g.s.world in let part = part_of g.s.control in (t, part, gone_by_part a.object part t)
