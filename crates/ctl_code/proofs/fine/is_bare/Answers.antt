use Rattle.std.proofs.Common.{refl, sym, ◌∙◌}
use Rattle.ctl_code.specs.Kinds.{stack_at}
use Rattle.ctl_code.proofs.Lists.{empty_at_first}
use Rattle.ctl_code.proofs.fine.is_bare.Goals as goal

pub returns-in-None : goal.returns-in-None
returns-in-None c = (λ t. empty_at_first (stack_at c.args.code.now.kinds c.args.place) (sym c.kind_at.ensures ∙ c.in-None.is), λ e. refl)
