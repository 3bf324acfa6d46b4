use Rattle.ctl_code.specs.Table.{component_of}
use Rattle.ctl_frames.specs.Spots.{first_spot}
use Rattle.ctl_machine.proofs.freeing.free_part.Given as goal

abbrev pub ghost-read_at : goal.ghost-read_at
ghost-read_at g a = g.s

abbrev pub ghost-free_designated : goal.ghost-free_designated
ghost-free_designated g a = (g.s, component_of (first_spot g.s.operands) a.offset a.position)
