use Rattle.std.proofs.Common.{List, subst}
use Rattle.std.specs.Prelude.{IfSome}
use Rattle.ctl_meaning.specs.World.{Object}
use Rattle.ctl_meaning.specs.Objects.{object_in}
use Rattle.ctl_objects.specs.Order.{IsDeclared}
use Rattle.ctl_objects.proofs.Kept.{all_declared}
use Rattle.ctl_objects.proofs.declarations.Declarations.are_declared.Goals as goal

pub returns : goal.returns
returns c = λ n. subst (λ (l : List Object). IfSome (object_in n l) (λ o. IsDeclared o.origin)) c.self.view_is (all_declared n c.self.inside.objects.items c.self.inside.cells.items)
