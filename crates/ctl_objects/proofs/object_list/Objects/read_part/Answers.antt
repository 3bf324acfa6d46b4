use Rattle.std.proofs.Common.{◌∙◌, ◌+◌, ap}
use Rattle.std.specs.Option.{option_map}
use Rattle.ctl_meaning.specs.World.{Object}
use Rattle.ctl_meaning.specs.Names.{scalar_of}
use Rattle.ctl_meaning.specs.Objects.{cells_at, object_in}
use Rattle.ctl_objects.specs.Stock.{Stock}
use Rattle.ctl_objects.proofs.Both.{read_first, read_second}
use Rattle.ctl_objects.proofs.object_list.Objects.read_part.Goals as goal

pub returns-in-Some : goal.returns-in-Some
returns-in-Some c =
    let s = c.self.inside in
    let g = λ (o : Object). scalar_of (cells_at (c.args.start + c.args.offset) 1 o) in
    read_second g c.args.number s.allocated.objects s.declared c.in-Some.value c.self.invariant c.in-Some.ensures
    ∙ ap (λ (v : Stock). option_map g (object_in c.args.number v.objects)) c.self.view_is

pub returns-in-None : goal.returns-in-None
returns-in-None c =
    let s = c.self.inside in
    let g = λ (o : Object). scalar_of (cells_at (c.args.start + c.args.offset) 1 o) in
    read_first g c.args.number s.allocated.objects s.declared c.read-in-None.result c.self.invariant c.in-None.ensures c.read-in-None.ensures
    ∙ ap (λ (v : Stock). option_map g (object_in c.args.number v.objects)) c.self.view_is
