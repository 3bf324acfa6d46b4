use Rattle.std.proofs.Common.{sym, subst, List}
use Rattle.ctl_resolve.specs.declared.view.Declaration.{Declaration}
use Rattle.ctl_resolve.specs.Places.{IsIndexed, places_of}
use Rattle.ctl_resolve.proofs.Places.{indexed_with_stage}
use Rattle.ctl_resolve.proofs.table.Table.set.Goals as goal

pub invariant_of-self : goal.invariant_of-self
invariant_of-self c =
    subst (λ (xs : List Declaration). IsIndexed xs c.self.inside.hides.items (places_of c.self.inside.newest)) (sym c.set_stage.ensures)
    (indexed_with_stage c.self.inside.declarations.items c.self.inside.hides.items (places_of c.self.inside.newest) c.args.number c.args.stage c.self.invariant)
