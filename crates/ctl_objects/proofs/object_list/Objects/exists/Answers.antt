use Rattle.std.proofs.Common.{◌∙◌, Option, ap, sym}
use Rattle.std.specs.Prelude.{is_some}
use Rattle.ctl_meaning.specs.World.{Object}
use Rattle.ctl_meaning.specs.Objects.{object_in}
use Rattle.ctl_objects.specs.Stock.{Stock}
use Rattle.ctl_objects.proofs.Both.{found_first, found_second}
use Rattle.ctl_objects.proofs.object_list.Objects.exists.Goals as goal

pub returns-then-contains : goal.returns-then-contains
returns-then-contains c =
    let s = c.self.inside in
    let n = c.args.number in
    let there = sym c.if-contains.true ∙ c.contains.ensures in
    there ∙ ap (λ (o : Option Object). is_some o) (sym (found_second n s.allocated.objects s.declared c.self.invariant there)) ∙ ap (λ (v : Stock). is_some (object_in n v.objects)) c.self.view_is

pub returns : goal.returns
returns c =
    let s = c.self.inside in
    let n = c.args.number in
    let none = sym c.if-contains.false ∙ c.contains.ensures in
    c.contains-2.ensures ∙ ap (λ (o : Option Object). is_some o) (sym (found_first n s.allocated.objects s.declared c.self.invariant none)) ∙ ap (λ (v : Stock). is_some (object_in n v.objects)) c.self.view_is
