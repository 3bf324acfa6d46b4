use Rattle.std.proofs.Common.{◌≡◌, ◌+◌, ◌∙◌, Bool, ap, arith, length, sym, take}
use Rattle.ctl_meaning.specs.Lists.{keep}
use Rattle.ctl_code.specs.declared.code.Begun.{Begun}
use Rattle.ctl_code.specs.Table.{begun_of}
use Rattle.ctl_code.specs.Valid.{is_finalized}
use Rattle.ctl_lifetimes.proofs.Complete.{counted_more, counted_none, counted_same}
use Rattle.ctl_lifetimes.proofs.filling.count_finalized.Goals as goal
use Rattle.ctl_lifetimes.proofs.filling.count_finalized.Goals.{else-is_finalized, then-is_finalized}

pub loop-at-init : goal.loop-at-init
loop-at-init c = (counted_none (λ x. is_finalized c.args.code.now x.initial) (begun_of c.args.code.now c.args.record), omega arith)

pub overflow_add-count : goal.overflow_add-count
overflow_add-count c =
    let few = c.loop-at.invariant.1 in
    let less = c.loop-at-test.true in
    let fits = c.ranges.end in
    omega (arith, few, less, fits)

pub loop-at-preserved : goal.loop-at-preserved
loop-at-preserved c =
    let code = c.args.code.now in
    let f : Begun → Bool = λ x. is_finalized code x.initial in
    let xs = begun_of code c.args.record in
    let before = c.loop-at.invariant in
    let few = before.1 in
    elim c.if-is_finalized.branch [
      | then-is_finalized w ↦
          (w.count-is ∙ (ap (λ n. n + 1) before.0 ∙ sym (counted_more f xs c.loop-at.at c.begun_at.result c.begun_at.ensures (sym c.is_finalized.ensures ∙ w.if-is_finalized.true))), let same = w.count-is in omega (arith, few, same))
      | else-is_finalized w ↦
          (w.count-is ∙ (before.0 ∙ sym (counted_same f xs c.loop-at.at c.begun_at.result c.begun_at.ensures (sym c.is_finalized.ensures ∙ w.if-is_finalized.false))), let same = w.count-is in omega (arith, few, same))
    ]

pub returns : goal.returns
returns c =
    let code = c.args.code.now in
    let over = c.loop-at-test.false in
    let end = c.loop-at.auto.at-end in
    let same : c.loop-at.at ≡ c.args.end = omega (arith, over, end) in
    c.loop-at.invariant.0 ∙ ap (λ n. length (keep (λ x. is_finalized code x.initial) (take n (begun_of code c.args.record)))) same
