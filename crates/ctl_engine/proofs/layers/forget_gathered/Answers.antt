use Rattle.std.proofs.Common.{◌∙◌, ◌+◌, ap, sym, subst, [], ◌∷◌}
use Rattle.ctl_objects.specs.Stock.{Stock}
use Rattle.ctl_engine.proofs.Forgotten.{RemainsTo, no_set_goes, not_over, set_goes}
use Rattle.ctl_frames.proofs.Lists.{get_index}
use Rattle.ctl_frames.proofs.Newest.{any_owned}
use Rattle.std.specs.Prelude.{slice_index_or, not}
use Rattle.ctl_engine.proofs.layers.forget_gathered.Goals.{in-Collection, in_default}
use Rattle.ctl_engine.proofs.layers.forget_gathered.Goals as goal
use Rattle.ctl_engine.specs.LeftPools.{LeavesPools}
use Rattle.ctl_engine.proofs.PoolsDropped.{more_closed}
use Rattle.ctl_meaning.specs.Objects.{ends_with_master}

pub loop-at-preserved : goal.loop-at-preserved
loop-at-preserved c =
    let owned = c.args.owned.now in
    let at = c.loop-at.at in
    let o = slice_index_or owned at any_owned in
    let found = get_index owned at any_owned c.loop-at-test.true in
    elim c.match-owned-at.branch [
      | in-Collection w ↦ (
        ap (λ (x : Stock). x.needs) w.stock-is ∙ (w.close_master.ensures.needs ∙ c.loop-at.invariant.0),
        (
          λ first keeps. subst (λ (x : Stock). LeavesPools first x) (sym w.stock-is) (more_closed first c.loop-at.stock w.close_master.new.self (λ z. not (ends_with_master c.args.master (o.number ∷ []) z.origin)) w.close_master.ensures.objects (c.loop-at.invariant.1.0 first keeps) w.close_master.ensures.pools),
          set_goes owned c.args.start at c.args.master w.in-Collection.count w.in-Collection.started o c.args.stock.now.objects c.loop-at.stock.objects c.match-owned-at.stock.objects c.loop-at.auto.at found w.in-Collection.is (ap (λ (x : Stock). x.objects) w.stock-is ∙ w.close_master.ensures.objects) c.loop-at.invariant.1.1,
        ),
      )
      | in_default w ↦ (
        ap (λ (x : Stock). x.needs) w.stock-is ∙ c.loop-at.invariant.0,
        (
          λ first keeps. subst (λ (x : Stock). LeavesPools first x) (sym w.stock-is) (c.loop-at.invariant.1.0 first keeps),
          subst (λ (x : Stock). RemainsTo owned c.args.start (at + 1) c.args.master c.args.stock.now.objects x.objects) (sym w.stock-is) (no_set_goes owned c.args.start at c.args.master o c.args.stock.now.objects c.loop-at.stock.objects c.loop-at.auto.at found (not_over o o.role w.in_default.not-Collection) c.loop-at.invariant.1.1),
        ),
      )
    ]
