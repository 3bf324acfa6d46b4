use Rattle.std.proofs.Common.{◌≡◌, ◌+◌, sym, ap, subst, ◌∙◌, arith}
use Rattle.pool_area.specs.Subpools.{Subpools, count_of, object_of}
use Rattle.pool_store.specs.Cells.{is_out_of_subpool, forgotten, AreHeldIn}
use Rattle.pool_store.specs.Kept.{kept}
use Rattle.pool_store.proofs.Forgotten.{AreFrom, forgotten_among, fewer_held, back_keeps, next_from, none_from}
use Rattle.pool_store.proofs.Placed.{Cells}
use Rattle.pool_store.proofs.forgetting.forget_subpool.Goals as goal

pub loop-index-preserved : goal.loop-index-preserved
loop-index-preserved g c =
    let p = c.args.pool in
    let n = c.args.subpool in
    let a : Subpools = c.args.area.now in
    let k = c.loop-index.index in
    let old : Cells = c.loop-index.cells.values in
    let i = c.loop-index.invariant in
    let new : c.forget.new.cells.values ≡ forgotten p n (object_of n k a) old = c.forget.ensures ∙ ap (λ x. forgotten p n x old) c.object.ensures in
    record {
      held = subst (λ (t : Cells). AreHeldIn p a t) (sym new) (fewer_held p a (forgotten p n (object_of n k a) old) old (forgotten_among p n (object_of n k a) old) i.held);
      rest = ap (kept (is_out_of_subpool p n)) new ∙ back_keeps p n (object_of n k a) old ∙ i.rest;
      from = subst (λ (t : Cells). AreFrom p n (k + 1) t) (sym new) (next_from p n k a old i.held i.from);
    }

pub returns : goal.returns
returns g c =
    let p = c.args.pool in
    let n = c.args.subpool in
    let a : Subpools = c.args.area.now in
    let i = c.loop-index.invariant in
    let end : c.loop-index.index ≡ count_of n a = omega arith in
    sym (none_from p n c.loop-index.index a c.loop-index.cells.values end i.held i.from) ∙ i.rest
