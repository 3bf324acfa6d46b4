use Rattle.std.proofs.Common.{◌∙◌, subst, sym}
use Rattle.ctl_meaning.specs.Pools.{block_pool_at}
use Rattle.ctl_storage.specs.declared.pools.BlockReturn.{BlockReturn}
use Rattle.ctl_code.specs.Table.{pool_return}
use Rattle.ctl_places.specs.PoolBlocks.{IsAccepted}
use Rattle.ctl_places.proofs.PoolBlocks.{block_accepted, stop_of}
use Rattle.ctl_places.proofs.pool_blocks.give_to.Goals as goal

pub returns-in-Accepted-clause-accepted : goal.returns-in-Accepted-clause-accepted
returns-in-Accepted-clause-accepted c = λ next w objects shown.
    let n = c.args.pool in
    let back = c.give_block in
    subst (λ (r : BlockReturn). IsAccepted next w back.new.self (pool_return n c.args.address (block_pool_at n w.pools) w) (stop_of r)) c.in-Accepted.is
    (block_accepted n c.args.address next w c.args.stock.now back.new.self back.result objects (sym c.if-not-is_open.false ∙ c.is_open.ensures.shown next w.pools shown)
    (back.ensures.answer next w.pools shown) (back.ensures.pools next w.pools shown))

pub returns-in-Refused-clause-accepted : goal.returns-in-Refused-clause-accepted
returns-in-Refused-clause-accepted c = λ next w objects shown.
    let n = c.args.pool in
    let back = c.give_block in
    subst (λ (r : BlockReturn). IsAccepted next w back.new.self (pool_return n c.args.address (block_pool_at n w.pools) w) (stop_of r)) c.in-Refused.is
    (block_accepted n c.args.address next w c.args.stock.now back.new.self back.result objects (sym c.if-not-is_open.false ∙ c.is_open.ensures.shown next w.pools shown)
    (back.ensures.answer next w.pools shown) (back.ensures.pools next w.pools shown))
