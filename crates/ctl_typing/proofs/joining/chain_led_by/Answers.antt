use Rattle.std.proofs.Common.{ap}
use Rattle.ctl_typing.specs.declared.notes.Notes.{Notes}
use Rattle.ctl_typing.specs.Judgement.{beside, onward, with_known}
use Rattle.ctl_typing.specs.Senses.{led_by}
use Rattle.ctl_typing.proofs.Stages.{judged_as}
use Rattle.ctl_typing.proofs.joining.chain_led_by.Goals as goal

pub returns : goal.returns
returns c q old new judged =
    judged_as (λ (s : Notes). with_known (led_by c.args.operator) (beside q (c.args.leading, s))) (onward c.in_ok-all.all (led_by c.args.operator)) old new new c.chain_joined.result
    (ap (with_known (led_by c.args.operator)) (c.in_ok-all.ensures q old new judged)) (c.chain_joined.ensures new)
