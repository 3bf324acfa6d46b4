use Rattle.std.proofs.Common.{◌∙◌, Option, subst, sym, ℕ}
use Rattle.ctl_meaning.specs.Pools.{block_pool_at}
use Rattle.ctl_code.specs.Table.{pool_grant}
use Rattle.ctl_places.specs.PoolBlocks.{IsServed}
use Rattle.ctl_places.proofs.PoolBlocks.{block_served, request_of}
use Rattle.ctl_places.proofs.pool_blocks.take_from.Goals as goal

pub returns-in-Some-clause-served : goal.returns-in-Some-clause-served
returns-in-Some-clause-served c = λ next w shown.
    let n = c.args.pool in
    let new = c.take_block.new.self in
    let taken = c.in_ok-address.ensures in
    subst (λ (r : Option ℕ). IsServed next w new (pool_grant n c.args.size (block_pool_at n w.pools) w) (request_of r)) c.in-Some.is
    (block_served n c.args.size next w new c.in_ok-address.field-0 (sym c.if-not-is_open.false ∙ c.is_open.ensures.shown next w.pools shown) (taken.answer next w.pools shown) (taken.pools next w.pools shown))

pub returns-in-None-clause-served : goal.returns-in-None-clause-served
returns-in-None-clause-served c = λ next w shown.
    let n = c.args.pool in
    let new = c.take_block.new.self in
    let taken = c.in_ok-address.ensures in
    subst (λ (r : Option ℕ). IsServed next w new (pool_grant n c.args.size (block_pool_at n w.pools) w) (request_of r)) c.in-None.is
    (block_served n c.args.size next w new c.in_ok-address.field-0 (sym c.if-not-is_open.false ∙ c.is_open.ensures.shown next w.pools shown) (taken.answer next w.pools shown) (taken.pools next w.pools shown))
