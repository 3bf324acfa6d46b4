use Rattle.std.proofs.Common.{◌≡◌, ℕ, true, false, refl, sym, ap, subst, ◌∙◌, if◌then◌else◌}
use Rattle.pool_store.specs.Joined.{side_by_side, AreApart}
use Rattle.pool_store.specs.Store as store
use Rattle.pool_store.specs.Store.{Store}
use Rattle.pool_store.proofs.Sides.{detached_side, objects_detached}
use Rattle.std.proofs.Common.{Bool}
use Rattle.pool_store.proofs.store.PoolStore.detach_subpool.Goals as goal

pub invariant_of-self : goal.invariant_of-self
invariant_of-self g c =
    let s = c.self.inside in
    let n = c.args.subpool.0 in
    subst (AreApart s.blocks) (sym c.detach.ensures.store) (objects_detached s.blocks s.marks n (store.is_attached n s.marks) c.self.invariant)

pub returns-clause-store : goal.returns-clause-store
returns-clause-store g c =
    let s = c.self.inside in
    let n = c.args.subpool.0 in
    ap (side_by_side s.blocks) c.detach.ensures.store ∙ by s.blocks s.marks n (store.is_attached n s.marks)
    ∙ ap (λ v. let r : Store = if store.is_attached n v then store.detached n v else v in r) c.self.view_is
  where
    by : (a b : Store) (n : ℕ) (t : Bool) → side_by_side a (if t then store.detached n b else b) ≡ (if t then store.detached n (side_by_side a b) else side_by_side a b)
    by a b n true = detached_side a b n
    by a b n false = refl
