use Rattle.std.proofs.Common.{drop}
use Rattle.ctl_places.specs.Freeing.{gone_by_part}
use Rattle.ctl_places.proofs.Freed.{at_place}
use Rattle.ctl_machine.proofs.freeing.free_at_once_by_part.Given as goal

abbrev pub ghost-null_component : goal.ghost-null_component
ghost-null_component g a = let t = at_place a.ending.place (drop 1 g.s.0.operands) g.s.0 in (t, g.s.1, gone_by_part a.object g.s.1 t)
