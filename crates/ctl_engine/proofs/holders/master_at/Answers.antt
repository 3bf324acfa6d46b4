use Rattle.std.proofs.Common.{◌+◌, ◌-◌, arith}
use Rattle.std.specs.Prelude.{◌/◌, slice_index_or}
use Rattle.ctl_engine.proofs.Homes.{any_master}
use Rattle.ctl_frames.proofs.Lists.{get_index}
use Rattle.ctl_engine.proofs.Numbers.{higher_back, lower_front}
use Rattle.ctl_engine.proofs.holders.master_at.Goals as goal

pub loop-low-preserved-then-found-number-2 : goal.loop-low-preserved-then-found-number-2
loop-low-preserved-then-found-number-2 c =
    let masters = c.args.masters.now in
    let middle = c.loop-low.low + (c.loop-low.high - c.loop-low.low) / 2 in
    let within = c.loop-low.invariant.0 in
    let some = c.loop-low-test.true in
    let less = c.if-found-number-2.true in
    let there = get_index masters middle any_master (omega (arith, some, within)) in
    (within, λ m at e front. lower_front masters c.requires.0 at middle c.args.number m (slice_index_or masters middle any_master) c.requires.1 e there (omega (arith, front)) (omega (arith, less)), c.loop-low.invariant.2)

pub loop-low-preserved : goal.loop-low-preserved
loop-low-preserved c =
    let masters = c.args.masters.now in
    let middle = c.loop-low.low + (c.loop-low.high - c.loop-low.low) / 2 in
    let within = c.loop-low.invariant.0 in
    let some = c.loop-low-test.true in
    let differs = c.if-found-number.false in
    let more = c.if-found-number-2.false in
    let there = get_index masters middle any_master (omega (arith, some, within)) in
    (omega (arith, within, some), c.loop-low.invariant.1, λ m at e back. higher_back masters c.requires.0 at middle c.args.number m (slice_index_or masters middle any_master) c.requires.1 e there back (omega (arith, differs, more)))
