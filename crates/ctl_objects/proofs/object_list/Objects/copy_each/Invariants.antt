use Rattle.std.specs.Prelude.{◌≡◌}
use Rattle.ctl_meaning.specs.Objects.{object_in}
use Rattle.ctl_objects.specs.Copies.{copied}
use Rattle.ctl_objects.specs.Pools.{KeepsShown}
use Rattle.ctl_objects.proofs.object_list.Objects.copy_each.Given as goal

abbrev pub invariant-loop-at : goal.invariant-loop-at
invariant-loop-at l = record {
  objects : l.self.objects ≡ copied l.fn.start l.fn.to l.fn.target l.at (object_in l.fn.from l.fn.self.objects) l.fn.self.objects;
  needs : l.self.needs ≡ l.fn.self.needs;
  pools : KeepsShown l.fn.self l.self;
  same : l.self ≡ record l.fn.self { objects = l.self.objects };
}
