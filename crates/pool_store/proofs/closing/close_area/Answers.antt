use Rattle.std.proofs.Common.{◌<◌, sym, ap, subst, ◌∙◌}
use Rattle.std.specs.FinMap.{len}
use Rattle.pool_area.specs.Blocks as area
use Rattle.pool_area.specs.Blocks.{Blocks}
use Rattle.pool_store.specs.Entries.{is_elsewhere, AreHeldBy}
use Rattle.pool_store.specs.Kept.{kept}
use Rattle.pool_store.proofs.ClosedPools.{back_keeps, back_held, none_left, fewer_out}
use Rattle.pool_store.proofs.Tied.{Objects}
use Rattle.pool_store.proofs.closing.close_area.Goals as goal

pub loop-returned-smaller : goal.loop-returned-smaller
loop-returned-smaller g c =
    let e = c.in-Some.ensures in
    subst (λ (b : Blocks). len b.out < len c.loop-returned.area.out) (sym e.2) (fewer_out c.in-Some.returned.address c.loop-returned.area e.0)

pub loop-returned-preserved : goal.loop-returned-preserved
loop-returned-preserved g c =
    let e = c.in-Some.ensures in
    let p = c.args.pool in
    let a = c.in-Some.returned.address in
    let b = c.loop-returned.area in
    let x = c.in-Some.returned.object in
    let objects : Objects g.row.A.Denot = c.loop-returned.objects.values in
    record {
      held = subst (λ (d : Blocks). AreHeldBy p d c.forget.new.objects.values) (sym e.2)
          (subst (λ (o : Objects g.row.A.Denot). AreHeldBy p (area.with_block_back a b) o) (sym c.forget.ensures) (back_held p a b x objects e.1 c.loop-returned.invariant.held));
      rest = ap (kept (is_elsewhere {A = g.row.A.Denot} p)) c.forget.ensures ∙ back_keeps p x objects ∙ c.loop-returned.invariant.rest;
    }

pub returns : goal.returns
returns g c =
    let objects : Objects g.row.A.Denot = c.loop-returned.objects.values in
    sym (none_left c.args.pool c.loop-returned.area objects c.in_default.ensures c.loop-returned.invariant.held) ∙ c.loop-returned.invariant.rest
