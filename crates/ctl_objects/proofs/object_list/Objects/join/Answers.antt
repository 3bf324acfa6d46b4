use Rattle.std.proofs.Common.{◌∙◌}
use Rattle.ctl_meaning.specs.Objects.{with_joined}
use Rattle.ctl_objects.proofs.Both.{first_is_each}
use Rattle.ctl_objects.proofs.object_list.Objects.join.Goals as goal

pub returns-clause-objects : goal.returns-clause-objects
returns-clause-objects c = c.step.ensures.objects ∙ first_is_each c.args.number with_joined 0 c.args.self.now.objects c.rises.ensures
