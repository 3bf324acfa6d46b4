use Rattle.std.proofs.Common.{◌-◌, ◌∙◌, List, ap, arith, length, sym}
use Rattle.ctl_code.specs.declared.code.Begun.{Begun}
use Rattle.ctl_code.specs.Table.{controlled_of}
use Rattle.ctl_lifetimes.specs.Undoing.{among, has_any_of, noted_from}
use Rattle.ctl_lifetimes.proofs.Among.{among_none, chooses_last, last_fails}
use Rattle.ctl_lifetimes.proofs.undoing.newest_undone.Goals as goal

pub returns-then-is_undone : goal.returns-then-is_undone
returns-then-is_undone c =
    let all = controlled_of c.args.code.now c.args.record in
    let passes = has_any_of (noted_from c.args.first c.args.engine.now.noted.items) c.args.spot.now in
    let left = c.args.left in
    let some = c.loop-end-test.true in
    let before = c.loop-end.invariant.0 in
    let within = c.requires.within in
    let x = c.is_undone.ensures in
    chooses_last all (among all left.first left.last passes) left.first (c.loop-end.end - 1) c.loop-end.end passes x.0 (omega (arith, some)) (omega (arith, some)) (omega (arith, before, within)) x.1 (sym x.2 ∙ c.if-is_undone.true) c.loop-end.invariant.1

pub loop-end-preserved : goal.loop-end-preserved
loop-end-preserved c =
    let all = controlled_of c.args.code.now c.args.record in
    let passes = has_any_of (noted_from c.args.first c.args.engine.now.noted.items) c.args.spot.now in
    let some = c.loop-end-test.true in
    let before = c.loop-end.invariant.0 in
    let x = c.is_undone.ensures in
    (omega (arith, before), last_fails all c.args.left.first (c.loop-end.end - 1) c.loop-end.end passes x.0 (omega (arith, some)) (omega (arith, some)) x.1 (sym x.2 ∙ c.if-is_undone.false) ∙ c.loop-end.invariant.1)

pub unreachable-requires : goal.unreachable-requires
unreachable-requires c =
    let all = controlled_of c.args.code.now c.args.record in
    let passes = has_any_of (noted_from c.args.first c.args.engine.now.noted.items) c.args.spot.now in
    let none = ap (λ (l : List Begun). length l) (sym c.loop-end.invariant.1 ∙ among_none all c.args.left.first c.loop-end.end passes c.loop-end-test.false) in
    let some = c.requires.some in
    omega (arith, none, some)
