use Rattle.std.proofs.Common.{◌≡◌, ◌<◌, true, sym, ap, subst, ◌∙◌}
use Rattle.pool_area.specs.Subpools.{Subpools, settled, is_last_dead, without_last}
use Rattle.pool_area.proofs.SettledLemmas.{settled_step, settled_end, still_new}
use Rattle.pool_area.proofs.mark_area.MarkArea.drop_dead.Goals as goal

pub dead-preserved : goal.dead-preserved
dead-preserved g c =
    let n = c.args.number in
    let p : Subpools = c.dead.self in
    let dead : is_last_dead p ≡ true = sym c.is_last_dead.ensures ∙ c.dead-test.true in
    let after : c.drop_last.new.self ≡ without_last n p = c.drop_last.ensures in
    record {
      settles = ap (settled n) after ∙ settled_step n p dead ∙ c.dead.invariant.settles;
      fresh = λ more. subst (λ (q : Subpools). q.given < n) (sym after) (still_new n p dead (c.dead.invariant.fresh dead) (sym (ap is_last_dead after) ∙ more));
    }

pub returns : goal.returns
returns g c = sym (settled_end c.args.number c.dead.self (sym c.is_last_dead.ensures ∙ c.dead-test.false)) ∙ c.dead.invariant.settles
