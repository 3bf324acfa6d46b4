use Rattle.std.proofs.Common.{◌+◌, ◌≤◌, sym, subst, arith}
use Rattle.ctl_code.specs.Homes.{Raises}
use Rattle.ctl_code.specs.Windows.{said}
use Rattle.ctl_code.proofs.Raising.{HasLevelOf, UpTo, level_within, one_more_up_to, within_raised}
use Rattle.ctl_code.proofs.least.keep_within.Goals as goal

pub loop-level-preserved : goal.loop-level-preserved
loop-level-preserved c =
    let n = c.loop-level.level in
    let mid = c.loop-level.homes in
    let new = c.raise.new.self in
    let R = HasLevelOf c.args.outer c.args.of in
    let step = subst (λ slots. Raises (λ counts. slots ≤ said counts c.args.outer n) mid new c.in_ok-more.more) c.at-slots.ensures c.in_ok-more.ensures in
    subst (λ b. Raises (UpTo R (n + 1)) c.args.homes.now new b) (sym c.either-raised.ensures)
    (one_more_up_to R n c.args.homes.now mid new c.loop-level.raised c.in_ok-more.more c.loop-level.invariant (level_within mid new c.args.outer c.args.of n c.in_ok-more.more step))

pub returns : goal.returns
returns c =
    let end = c.loop-level-test.false in
    within_raised c.args.outer c.args.of c.loop-level.level c.args.homes.now c.loop-level.homes c.loop-level.raised (λ level far. c.levels-level-end.ensures level (omega (arith, far, end))) c.loop-level.invariant
