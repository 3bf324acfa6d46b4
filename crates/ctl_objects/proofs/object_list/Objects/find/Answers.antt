use Rattle.std.proofs.Common.{◌∙◌, ap}
use Rattle.std.specs.Option.{option_map}
use Rattle.ctl_meaning.specs.Objects.{object_in}
use Rattle.ctl_objects.specs.Existing.{bare, known}
use Rattle.ctl_objects.specs.Stock.{Stock}
use Rattle.ctl_objects.proofs.Both.{read_first, read_second}
use Rattle.ctl_objects.proofs.object_list.Objects.find.Goals as goal

pub returns-in-Some : goal.returns-in-Some
returns-in-Some c =
    let s = c.self.inside in
    read_second bare c.args.number s.allocated.objects s.declared (known c.args.number c.in-Some.existing) c.self.invariant c.in-Some.ensures
    ∙ ap (λ (v : Stock). option_map bare (object_in c.args.number v.objects)) c.self.view_is

pub returns-in-None : goal.returns-in-None
returns-in-None c =
    let s = c.self.inside in
    read_first bare c.args.number s.allocated.objects s.declared (option_map (known c.args.number) c.find-in-None.result) c.self.invariant c.in-None.ensures c.find-in-None.ensures
    ∙ ap (λ (v : Stock). option_map bare (object_in c.args.number v.objects)) c.self.view_is
