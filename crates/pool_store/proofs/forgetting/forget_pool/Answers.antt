use Rattle.std.proofs.Common.{◌≡◌, ◌+◌, Some, None, length, sym, ap, subst, ◌∙◌, arith}
use Rattle.std.specs.Prelude.{slice_get}
use Rattle.std.specs.Option.{option_map}
use Rattle.pool_area.specs.Subpools.{Seen, Subpools}
use Rattle.pool_store.specs.Cells.{is_out_of_subpool, is_out_of_pool, AreHeldIn}
use Rattle.pool_store.specs.Kept.{kept}
use Rattle.pool_store.proofs.Forgotten.{AreBehind, weaker_out, kept_is, fewer_held, kept_weaker, one_behind, no_row_behind, all_behind}
use Rattle.pool_store.proofs.Placed.{Cells}
use Rattle.pool_store.proofs.forgetting.forget_pool.Goals.{in-Some, in_default}
use Rattle.pool_store.proofs.forgetting.forget_pool.Goals as goal

pub loop-place-preserved : goal.loop-place-preserved
loop-place-preserved g c =
    let p = c.args.pool in
    let a : Subpools = c.args.area.now in
    let k = c.loop-place.place in
    let old : Cells = c.loop-place.cells.values in
    let i = c.loop-place.invariant in
    elim c.match-number_at.branch [
      | in-Some w ↦
          let n = w.in-Some.subpool in
          let new : c.match-number_at.cells.values ≡ kept (is_out_of_subpool p n) old = ap (λ t. t.values) w.cells-is ∙ w.forget_subpool.ensures in
          let number : option_map (λ (x : Seen). x.number) (slice_get a.subpools k) ≡ Some n = sym c.number_at.ensures ∙ w.in-Some.is in
          record {
            held = subst (λ (t : Cells). AreHeldIn p a t) (sym new) (fewer_held p a (kept (is_out_of_subpool p n) old) old (λ q c there. (kept_is (is_out_of_subpool p n) old q c there).0) i.held);
            rest = ap (kept (is_out_of_pool p)) new ∙ kept_weaker (is_out_of_pool p) (is_out_of_subpool p n) old (weaker_out p n) ∙ i.rest;
            behind = subst (λ (t : Cells). AreBehind p (k + 1) a t) (sym new) (one_behind p k n a old number i.behind);
          }
      | in_default w ↦
          let new : c.match-number_at.cells.values ≡ old = ap (λ t. t.values) w.cells-is in
          let none : option_map (λ (x : Seen). x.number) (slice_get a.subpools k) ≡ None = sym c.number_at.ensures ∙ w.in_default.is in
          record {
            held = subst (λ (t : Cells). AreHeldIn p a t) (sym new) i.held;
            rest = ap (kept (is_out_of_pool p)) new ∙ i.rest;
            behind = subst (λ (t : Cells). AreBehind p (k + 1) a t) (sym new) (no_row_behind p k a old none i.behind);
          }
    ]

pub returns : goal.returns
returns g c =
    let p = c.args.pool in
    let a : Subpools = c.args.area.now in
    let i = c.loop-place.invariant in
    let end : c.loop-place.place ≡ length a.subpools = omega arith in
    sym (all_behind p c.loop-place.place a c.loop-place.cells.values end i.held i.behind) ∙ i.rest
