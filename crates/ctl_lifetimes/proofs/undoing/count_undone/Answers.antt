use Rattle.std.proofs.Common.{◌+◌, ◌∙◌, List, ap, arith, length, refl, sym}
use Rattle.ctl_code.specs.declared.code.Begun.{Begun}
use Rattle.ctl_code.specs.Table.{controlled_of}
use Rattle.ctl_lifetimes.specs.Undoing.{has_any_of, noted_from}
use Rattle.ctl_lifetimes.proofs.Among.{among_none, counts_more, last_fails}
use Rattle.ctl_lifetimes.proofs.undoing.count_undone.Goals as goal
use Rattle.ctl_lifetimes.proofs.undoing.count_undone.Goals.{else-is_undone, then-is_undone}

pub loop-at-init : goal.loop-at-init
loop-at-init c =
    let all = controlled_of c.args.code.now c.args.record in
    let passes = has_any_of (noted_from c.args.first c.args.engine.now.noted.items) c.args.spot.now in
    (sym (ap (λ (l : List Begun). length l) (among_none all c.args.left.first c.args.left.first passes (omega arith))), omega arith, omega arith)

pub loop-at-preserved : goal.loop-at-preserved
loop-at-preserved c =
    let all = controlled_of c.args.code.now c.args.record in
    let passes = has_any_of (noted_from c.args.first c.args.engine.now.noted.items) c.args.spot.now in
    let before = c.loop-at.invariant in
    let few = before.1 in
    let from = before.2 in
    let x = c.is_undone.ensures in
    elim c.if-is_undone.branch [
      | then-is_undone w ↦
          let same = w.count-is in
          (w.count-is ∙ (ap (λ n. n + 1) before.0 ∙ sym (counts_more all c.args.left.first c.loop-at.at _ passes x.0 from refl x.1 (sym x.2 ∙ w.if-is_undone.true))), omega (arith, few, same), omega (arith, from))
      | else-is_undone w ↦
          let same = w.count-is in
          (w.count-is ∙ (before.0 ∙ ap (λ (l : List Begun). length l) (last_fails all c.args.left.first c.loop-at.at _ passes x.0 from refl x.1 (sym x.2 ∙ w.if-is_undone.false))), omega (arith, few, same), omega (arith, from))
    ]
