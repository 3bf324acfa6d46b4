use Rattle.ctl_objects.proofs.Filed.{numbers_of}
use Rattle.ctl_objects.proofs.allocations.Allocations.next_group.Goals as goal

pub next-requires : goal.next-requires
next-requires c = numbers_of c.self.inside.needs.items c.self.inside.objects.objects c.self.inside.sets c.self.inside.groups c.self.invariant
