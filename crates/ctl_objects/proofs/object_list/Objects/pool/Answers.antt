use Rattle.std.proofs.Common.{subst, sym}
use Rattle.ctl_storage.specs.Calls.{IsPoolOf}
use Rattle.ctl_objects.specs.Order.{both}
use Rattle.ctl_objects.specs.Pools.{ShowsPools}
use Rattle.ctl_objects.specs.Stock.{Stock, storage_of}
use Rattle.ctl_objects.proofs.Pools.{from_all}
use Rattle.ctl_objects.proofs.PoolCalls.{known_all}
use Rattle.ctl_objects.proofs.Shown.{same_pool}
use Rattle.ctl_meaning.specs.World.{BlockPool}
use Rattle.std.specs.Option.{option_map}
use Rattle.ctl_storage.specs.Calls.{pool_of}
use Rattle.std.proofs.Common.{Option}
use Rattle.ctl_storage.specs.Storage.{exists}
use Rattle.std.proofs.Common.{true}
use Rattle.std.proofs.Common.{ap, subst, sym, ◌∙◌, ◌≡◌}
use Rattle.ctl_objects.proofs.object_list.Objects.pool.Goals as goal

pub returns-clause-known : goal.returns-clause-known
returns-clause-known c = subst (λ (v : Stock). IsPoolOf c.args.number c.pool.result (storage_of v)) c.self.view_is (known_all c.args.number c.pool.result (storage_of c.self.inside.allocated) (both c.self.inside.allocated.objects c.self.inside.declared) c.pool.ensures.known)

pub returns-clause-shown : goal.returns-clause-shown
returns-clause-shown c = λ next x h there.
    let s = c.self.inside in
    let shows = subst (λ (v : Stock). ShowsPools next x v) (sym c.self.view_is) h in
    c.pool.ensures.shown next shows.kept (from_all next shows.kept s.allocated s.declared c.self.invariant shows.held).shown
    ∙ ap (λ (o : Option BlockPool). option_map pool_of o) (sym (same_pool (both s.allocated.objects s.declared) c.args.number x shows.kept (subst (λ (v : Stock). exists c.args.number v.objects ≡ true) (sym c.self.view_is) there) shows.existing))
