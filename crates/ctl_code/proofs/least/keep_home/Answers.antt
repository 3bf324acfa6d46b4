use Rattle.std.proofs.Common.{◌+◌, sym, subst, arith}
use Rattle.ctl_code.specs.Homes.{Raises}
use Rattle.ctl_code.specs.Kinds.{stack_at}
use Rattle.ctl_code.proofs.Raising.{HasLevel, UpTo, home_raised, one_more_up_to}
use Rattle.ctl_code.proofs.least.keep_home.Goals as goal

pub loop-level-preserved : goal.loop-level-preserved
loop-level-preserved c =
    let n = c.loop-level.level in
    let new = c.keep_level.new.homes in
    let R = HasLevel (stack_at c.args.code.now.kinds c.args.place) c.args.of in
    subst (λ b. Raises (UpTo R (n + 1)) c.args.homes.now new b) (sym c.either-raised.ensures)
    (one_more_up_to R n c.args.homes.now c.loop-level.homes new c.loop-level.raised c.in_ok-more.more c.loop-level.invariant c.in_ok-more.ensures)

pub returns : goal.returns
returns c =
    let end = c.loop-level-test.false in
    home_raised (stack_at c.args.code.now.kinds c.args.place) c.args.of c.loop-level.level c.args.homes.now c.loop-level.homes c.loop-level.raised (λ level far. c.levels-level-end.ensures level (omega (arith, far, end))) c.loop-level.invariant
