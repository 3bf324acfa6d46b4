use Rattle.std.proofs.Common.{◌∙◌, subst, sym}
use Rattle.ctl_meaning.specs.Pools.{block_pool_at}
use Rattle.ctl_storage.specs.declared.pools.BlockReturn.{BlockReturn}
use Rattle.ctl_code.specs.Table.{pool_return}
use Rattle.ctl_places.specs.Freeing.{IsGivenBack}
use Rattle.ctl_places.proofs.GivenBack.{back_of, block_given_back}
use Rattle.ctl_steps.proofs.freeing.give_to_pool.Goals as goal

pub returns-in-Accepted-clause-back : goal.returns-in-Accepted-clause-back
returns-in-Accepted-clause-back c = λ code next w objects shown.
    let n = c.args.number in
    let new = c.give_block.new.self in
    let known = sym c.in-Some.is ∙ c.pool.ensures.shown next w.pools shown c.requires.exists in
    let given = block_given_back code n c.args.address next w c.args.stock.now new c.give_block.result c.in-Some.pool objects known c.in_default-state.is (c.give_block.ensures.answer next w.pools shown) (c.give_block.ensures.pools next w.pools shown) in
    subst (λ (r : BlockReturn). IsGivenBack code next w new (pool_return n c.args.address (block_pool_at n w.pools) w) (back_of r)) c.in-Accepted.is given

pub returns-in-Refused-clause-back : goal.returns-in-Refused-clause-back
returns-in-Refused-clause-back c = λ code next w objects shown.
    let n = c.args.number in
    let new = c.give_block.new.self in
    let known = sym c.in-Some.is ∙ c.pool.ensures.shown next w.pools shown c.requires.exists in
    let given = block_given_back code n c.args.address next w c.args.stock.now new c.give_block.result c.in-Some.pool objects known c.in_default-state.is (c.give_block.ensures.answer next w.pools shown) (c.give_block.ensures.pools next w.pools shown) in
    subst (λ (r : BlockReturn). IsGivenBack code next w new (pool_return n c.args.address (block_pool_at n w.pools) w) (back_of r)) c.in-Refused.is given
