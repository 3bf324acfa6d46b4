use Rattle.std.proofs.Common.{◌∙◌, Some, ap, sym}
use Rattle.ctl_places.proofs.Granted.{number_in}
use Rattle.ctl_allocations.proofs.granting.object_held.Goals as goal

pub returns-in_err-held : goal.returns-in_err-held
returns-in_err-held g c = c.from_residual.ensures ∙ ap (λ o. number_in o) c.in_err-held.ensures.part

pub returns : goal.returns
returns g c =
    let number = c.number_of.ensures in
    ap (λ n. Some n) number.2 ∙ ap (λ o. number_in o) (sym number.1 ∙ c.in_ok-held.ensures.part)
