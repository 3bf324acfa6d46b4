use Rattle.std.proofs.Common.{◌∙◌, List, ap, arith, length, refl, sym}
use Rattle.ctl_code.specs.declared.code.Begun.{Begun}
use Rattle.ctl_code.specs.Table.{controlled_of}
use Rattle.ctl_lifetimes.specs.Undoing.{among, has_any_of, noted_from}
use Rattle.ctl_lifetimes.proofs.Among.{among_none, chooses_first, first_fails}
use Rattle.ctl_lifetimes.proofs.undoing.oldest_undone.Goals as goal

pub returns-then-is_undone : goal.returns-then-is_undone
returns-then-is_undone c =
    let all = controlled_of c.args.code.now c.args.record in
    let passes = has_any_of (noted_from c.args.first c.args.engine.now.noted.items) c.args.spot.now in
    let left = c.args.left in
    let x = c.is_undone.ensures in
    chooses_first all (among all left.first left.last passes) c.loop-at.at left.last _ passes x.0 c.loop-at-test.true refl c.requires.within x.1 (sym x.2 ∙ c.if-is_undone.true) c.loop-at.invariant

pub loop-at-preserved : goal.loop-at-preserved
loop-at-preserved c =
    let all = controlled_of c.args.code.now c.args.record in
    let passes = has_any_of (noted_from c.args.first c.args.engine.now.noted.items) c.args.spot.now in
    let x = c.is_undone.ensures in
    first_fails all c.loop-at.at c.args.left.last _ passes x.0 c.loop-at-test.true refl x.1 (sym x.2 ∙ c.if-is_undone.false) ∙ c.loop-at.invariant

pub unreachable-requires : goal.unreachable-requires
unreachable-requires c =
    let all = controlled_of c.args.code.now c.args.record in
    let passes = has_any_of (noted_from c.args.first c.args.engine.now.noted.items) c.args.spot.now in
    let none = ap (λ (l : List Begun). length l) (sym c.loop-at.invariant ∙ among_none all c.loop-at.at c.args.left.last passes c.loop-at-test.false) in
    let some = c.requires.some in
    omega (arith, none, some)
