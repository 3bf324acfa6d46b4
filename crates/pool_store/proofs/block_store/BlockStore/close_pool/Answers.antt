use Rattle.std.proofs.Common.{sym, ap, subst, ◌∙◌}
use Rattle.std.specs.FinMap.{remove}
use Rattle.pool_store.specs.Entries.{is_elsewhere, Ties}
use Rattle.pool_store.specs.Kept.{kept}
use Rattle.pool_store.specs.Store as store
use Rattle.pool_store.specs.Store.{Store}
use Rattle.pool_store.proofs.ClosedPools.{held_by, none_in, closed_ties, closed_seen}
use Rattle.pool_store.proofs.Steps.{seen}
use Rattle.pool_store.proofs.Tied.{Objects, Pools}
use Rattle.pool_store.proofs.block_store.BlockStore.close_pool.Goals as goal

pub close_area-requires : goal.close_area-requires
close_area-requires g c =
    let s = c.self.inside in
    held_by s.objects.values s.blocks.values s.given c.self.invariant c.args.pool c.in-Some.area (sym c.in-Some.ensures.value)

pub invariant_of-self : goal.invariant_of-self
invariant_of-self g c =
    let s = c.self.inside in
    let p = c.args.pool in
    let others : Objects g.row.A.Denot = kept (is_elsewhere p) s.objects.values in
    subst (λ (o : Objects g.row.A.Denot). Ties o c.remove.new.self.values s.given) (sym c.close_area.ensures)
    (subst (λ (b : Pools). Ties others b s.given) (sym c.in-Some.ensures.values) (closed_ties s.objects.values s.blocks.values s.given c.self.invariant p))

pub returns-in-Some : goal.returns-in-Some
returns-in-Some g c =
    let s = c.self.inside in
    let p = c.args.pool in
    let others : Objects g.row.A.Denot = kept (is_elsewhere p) s.objects.values in
    ap (λ (o : Objects g.row.A.Denot). seen o c.remove.new.self.values s.given) c.close_area.ensures
    ∙ ap (λ (b : Pools). seen others b s.given) c.in-Some.ensures.values
    ∙ closed_seen s.objects.values s.blocks.values s.given c.self.invariant p ∙ ap (store.without_pool p) c.self.view_is

pub invariant_of-self-in-None : goal.invariant_of-self-in-None
invariant_of-self-in-None g c =
    let s = c.self.inside in
    let p = c.args.pool in
    let none = none_in s.objects.values s.blocks.values s.given c.self.invariant p (sym c.in-None.ensures.value) in
    subst (λ (b : Pools). Ties s.objects.values b s.given) (sym c.in-None.ensures.values)
    (subst (λ (o : Objects g.row.A.Denot). Ties o (remove s.blocks.values p) s.given) none (closed_ties s.objects.values s.blocks.values s.given c.self.invariant p))

pub returns-in-None : goal.returns-in-None
returns-in-None g c =
    let s = c.self.inside in
    let p = c.args.pool in
    let none = none_in s.objects.values s.blocks.values s.given c.self.invariant p (sym c.in-None.ensures.value) in
    ap (λ (b : Pools). seen s.objects.values b s.given) c.in-None.ensures.values
    ∙ ap (λ (o : Objects g.row.A.Denot). seen o (remove s.blocks.values p) s.given) (sym none)
    ∙ closed_seen s.objects.values s.blocks.values s.given c.self.invariant p ∙ ap (store.without_pool p) c.self.view_is
