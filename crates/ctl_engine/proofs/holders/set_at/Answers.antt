use Rattle.std.proofs.Common.{◌+◌, ◌-◌, arith, refl}
use Rattle.std.specs.Prelude.{◌/◌, slice_index_or}
use Rattle.ctl_engine.proofs.Come.{not_behind, not_in_front}
use Rattle.ctl_frames.proofs.Lists.{get_index}
use Rattle.ctl_frames.proofs.Newest.{any_owned}
use Rattle.ctl_engine.proofs.holders.set_at.Goals as goal

pub loop-low-preserved-then-found-number : goal.loop-low-preserved-then-found-number
loop-low-preserved-then-found-number c =
    let owned = c.args.owned.now in
    let middle = c.loop-low.low + (c.loop-low.high - c.loop-low.low) / 2 in
    let within = c.loop-low.invariant.0 in
    let some = c.loop-low-test.true in
    let there = get_index owned middle any_owned (omega (arith, some, within)) in
    (within, λ at o e front is. not_in_front owned c.requires.0 at middle c.args.number o (slice_index_or owned middle any_owned) c.requires.1 e there (omega (arith, front)) c.if-found-number.true is, c.loop-low.invariant.2)

pub returns-then-is_set-clause-some : goal.returns-then-is_set-clause-some
returns-then-is_set-clause-some c =
    let owned = c.args.owned.now in
    let middle = c.loop-low.low + (c.loop-low.high - c.loop-low.low) / 2 in
    let within = c.loop-low.invariant.0 in
    let some = c.loop-low-test.true in
    (slice_index_or owned middle any_owned, get_index owned middle any_owned (omega (arith, some, within)), c.if-is_set.ensures.set refl)

pub loop-low-preserved : goal.loop-low-preserved
loop-low-preserved c =
    let owned = c.args.owned.now in
    let middle = c.loop-low.low + (c.loop-low.high - c.loop-low.low) / 2 in
    let within = c.loop-low.invariant.0 in
    let some = c.loop-low-test.true in
    let there = get_index owned middle any_owned (omega (arith, some, within)) in
    (omega (arith, within, some), c.loop-low.invariant.1, λ at o e back is. not_behind owned c.requires.0 at middle c.args.number o (slice_index_or owned middle any_owned) c.requires.1 e there back c.if-found-number.false (c.if-is_set.ensures.other refl) is)
