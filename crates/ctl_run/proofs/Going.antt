-- A machine that goes on prints what it printed before, and then what waits.
use Rattle.std.proofs.Common.{◌≡◌, ◌≤◌, List, [], ◌++◌, sym, ap, ◌∙◌}
use Rattle.ctl_tree.specs.declared.event.Event.{Event}
use Rattle.ctl_tree.specs.declared.request.Order.{Order}
use Rattle.ctl_code.specs.declared.code.Code.{Code}
use Rattle.ctl_text.specs.Texts.{output_of}
use Rattle.ctl_machine.specs.Machine.{Running, shown_between}
use Rattle.ctl_machine.proofs.Shown.{shown_through}
use Rattle.ctl_run.proofs.Printed.{output_joined}

pub printed_further : (first before after : Running) (waiting : List Event) → before.code ≡ first.code → before.order ≡ first.order → before.waiting ≡ []
    → after.waiting ≡ before.waiting ++ shown_between before.code before.order before.steps after.steps → first.steps ≤ before.steps → before.steps ≤ after.steps → waiting ≡ after.waiting
    → output_of (shown_between first.code first.order first.steps after.steps) ≡ output_of (shown_between first.code first.order first.steps before.steps) ++ output_of waiting
printed_further first before after waiting code order none shows begun on is =
    let same : waiting ≡ shown_between first.code first.order before.steps after.steps =
    is
    ∙ (shows
    ∙ (ap (λ (l : List Event). l ++ shown_between before.code before.order before.steps after.steps) none
    ∙ (ap (λ (x : Code). shown_between x before.order before.steps after.steps) code ∙ ap (λ (x : Order). shown_between first.code x before.steps after.steps) order))) in
    sym (ap output_of (shown_through first.code first.order first.steps before.steps after.steps begun on))
    ∙ (output_joined (shown_between first.code first.order first.steps before.steps) (shown_between first.code first.order before.steps after.steps)
    ∙ ap (λ (l : List Event). output_of (shown_between first.code first.order first.steps before.steps) ++ output_of l) (sym same))
