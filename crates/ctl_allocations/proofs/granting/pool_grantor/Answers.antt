use Rattle.std.proofs.Common.{◌∙◌, ◌+◌, sym}
use Rattle.ctl_places.proofs.Granted.{gone_grants, library_gone, library_grants, user_grants}
use Rattle.ctl_allocations.proofs.granting.pool_grantor.Goals as goal

pub returns-in_default : goal.returns-in_default
returns-in_default g c = gone_grants c.args.code.now c.args.engine.now g.s.control g.s.operands g.s.world c.args.pool c.requires c.in_default.ensures

pub returns-in-Some-allocate_of : goal.returns-in-Some-allocate_of
returns-in-Some-allocate_of g c = user_grants c.args.code.now c.args.engine.now g.s.control g.s.operands g.s.world c.args.pool c.in-Some-allocate_of.allocate c.in-Some.existing c.requires c.in-Some.ensures c.in-Some-allocate_of.ensures

pub returns-then-is_open : goal.returns-then-is_open
returns-then-is_open g c =
    let engine = c.args.engine.now in
    library_grants c.args.code.now engine g.s.control g.s.operands g.s.world c.args.pool c.in-Some.existing c.requires c.in-Some.ensures c.in_default-allocate_of.ensures
    (c.is_open.ensures.open c.if-is_open.true) (c.is_open.ensures.exists c.if-is_open.true) (sym c.if-is_open.true ∙ c.is_open.ensures.shown (engine.numbered.objects + 1) g.s.world.pools c.requires.pools)

pub returns : goal.returns
returns g c =
    let engine = c.args.engine.now in
    library_gone c.args.code.now engine g.s.control g.s.operands g.s.world c.args.pool c.in-Some.existing c.requires c.in-Some.ensures c.in_default-allocate_of.ensures
    (sym c.if-is_open.false ∙ c.is_open.ensures.shown (engine.numbered.objects + 1) g.s.world.pools c.requires.pools)
