use Rattle.std.proofs.Common.{◌∙◌, None, ap, cond, sym}
use Rattle.ctl_meaning.specs.Objects.{is_untouched, opened_objects}
use Rattle.ctl_storage.specs.declared.existing.Life.{Life}
use Rattle.ctl_groups.specs.Groups.{group_of}
use Rattle.ctl_storage.specs.Allocated.{known}
use Rattle.ctl_storage.specs.Stages.{state_of}
use Rattle.ctl_groups.proofs.groups.open_group.Goals as goal

pub returns-in-Untouched : goal.returns-in-Untouched
unfolding opened_objects
returns-in-Untouched c = λ number.
    c.group_of.ensures number
    ∙ sym (ap (λ (life : Life). cond (is_untouched (state_of life)) (group_of c.args.needs.now (known number c.args.object.now)) None) c.in-Untouched.is)
