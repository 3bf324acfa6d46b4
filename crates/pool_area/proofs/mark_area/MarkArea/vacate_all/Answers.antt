use Rattle.std.proofs.Common.{◌≡◌, ℕ, ◌+◌, ◌<◌, ◌≤◌, Option, None, sym, ap, ◌∙◌, arith}
use Rattle.pool_area.specs.Lots.{Held}
use Rattle.pool_area.specs.Subpools.{Subpools, count_of, with_block}
use Rattle.pool_area.proofs.EmptyLemmas.{emptied_to, none_emptied, one_emptied, each_emptied}
use Rattle.pool_area.proofs.mark_area.MarkArea.vacate_all.Goals as goal

pub loop-index-init : goal.loop-index-init
loop-index-init g c = none_emptied c.args.number c.args.self.now

pub loop-index-preserved : goal.loop-index-preserved
loop-index-preserved g c =
    let n = c.args.number in
    let p : Subpools = c.args.self.now in
    let i = c.loop-index.index in
    let within : i < count_of n p = omega arith in
    c.vacate.ensures ∙ ap (λ (q : Subpools). with_block n i (λ h. None) q) c.loop-index.invariant ∙ one_emptied n i p within

pub returns : goal.returns
returns g c =
    let n = c.args.number in
    let p : Subpools = c.args.self.now in
    let end : c.loop-index.index ≡ count_of n p = omega arith in
    c.loop-index.invariant ∙ ap (λ i. emptied_to n i p) end ∙ each_emptied n p
