use Rattle.std.proofs.Common.{arith, drop}
use Rattle.ctl_code.specs.Kinds.{stack_at}
use Rattle.ctl_code.specs.Windows.{height}
use Rattle.ctl_frames.specs.Spots.{standing}
use Rattle.ctl_places.proofs.BlockCalls.{value_read, value_within}
use Rattle.ctl_places.proofs.BlocksInto.{pool_below_read, two_parts}
use Rattle.ctl_places.proofs.pool_blocks.pool_below.Goals as goal

pub index-size-requires : goal.index-size-requires
index-size-requires g c =
    let a = c.requires in
    let less = value_within c.args.engine.now (height (drop 2 (stack_at c.args.code.now.kinds c.args.place))) a.size a.read in
    let window = c.window.ensures in
    let height = c.height_at.ensures in
    omega (arith, less, window, height)

pub overflow_sub-count_spots : goal.overflow_sub-count_spots
overflow_sub-count_spots g c =
    let a = c.requires in
    let two = two_parts c.args.engine.now (standing g.s.control a.rest) a.pool a.part a.spots in
    let count = c.count_spots.ensures.count in
    omega (arith, two, count)

pub index-requires : goal.index-requires
index-requires g c =
    let a = c.requires in
    let two = two_parts c.args.engine.now (standing g.s.control a.rest) a.pool a.part a.spots in
    let count = c.count_spots.ensures.count in
    omega (arith, two, count)

pub returns : goal.returns
returns g c = λ a. (
  pool_below_read c.args.code.now c.args.engine.now c.args.place c.object-pool.result c.count_spots.result c.index.result.now g.s a c.count_spots.ensures.count c.index.ensures c.object-pool.ensures,
  value_read c.args.engine.now (height (drop 2 (stack_at c.args.code.now.kinds c.args.place))) a.size c.window.result c.height_at.result c.index-size.result.now a.read c.window.ensures c.height_at.ensures c.index-size.ensures,
)
