use Rattle.std.proofs.Common.{arith}
use Rattle.ctl_places.proofs.BlockCalls.{asked_read, asked_within, pool_read, some_part}
use Rattle.ctl_places.proofs.pool_blocks.pool_and_value.Goals as goal

pub index-value-requires : goal.index-value-requires
index-value-requires g c =
    let less = asked_within c.args.code.now c.args.engine.now c.args.place c.args.under g.s.0 g.s.1 c.requires in
    let window = c.window.ensures in
    let height = c.height_at.ensures in
    omega (arith, less, window, height)

pub overflow_sub-count_spots : goal.overflow_sub-count_spots
overflow_sub-count_spots g c =
    let some = some_part c.args.code.now c.args.engine.now c.args.place c.args.under g.s.0 g.s.1 c.requires in
    let count = c.count_spots.ensures.count in
    omega (arith, some, count)

pub index-requires : goal.index-requires
index-requires g c =
    let some = some_part c.args.code.now c.args.engine.now c.args.place c.args.under g.s.0 g.s.1 c.requires in
    let count = c.count_spots.ensures.count in
    omega (arith, some, count)

pub returns : goal.returns
returns g c = λ a. (
  pool_read c.args.code.now c.args.engine.now c.args.place c.args.under c.object-pool.result c.count_spots.result c.index.result.now g.s.0 g.s.1 a c.count_spots.ensures.count c.index.ensures c.object-pool.ensures,
  asked_read c.args.code.now c.args.engine.now c.args.place c.args.under c.window.result c.height_at.result c.index-value.result.now g.s.0 g.s.1 a c.window.ensures c.height_at.ensures c.index-value.ensures,
)
