use Rattle.std.proofs.Common.{◌∙◌, arith, refl}
use Rattle.std.specs.Prelude.{slice_index_or}
use Rattle.ctl_objects.specs.Declarations.{has_number}
use Rattle.ctl_objects.specs.Stock.{storage_of}
use Rattle.ctl_objects.proofs.Dropped.{drops_more, drops_none, has_own}
use Rattle.ctl_objects.proofs.Found.{any_declaration}
use Rattle.ctl_objects.proofs.allocations.Allocations.drop_pools.Goals as goal

pub loop-object-init : goal.loop-object-init
loop-object-init c = record { objects = refl; needs = refl; pools = λ next x h. drops_none (λ n. has_number n c.args.going.now) next x (storage_of c.args.self.now) h }

pub loop-object-preserved : goal.loop-object-preserved
loop-object-preserved c =
    let going = c.args.going.now in
    let i = c.loop-object.object-index in
    record {
      objects = c.drop_pool.ensures.objects ∙ c.loop-object.invariant.objects;
      needs = c.drop_pool.ensures.needs ∙ c.loop-object.invariant.needs;
      pools = λ next x h. drops_more (λ n. has_number n going) (slice_index_or going i any_declaration).number next x (storage_of c.loop-object.self) (storage_of c.drop_pool.new.self) (has_own going i (omega arith)) (λ y. c.drop_pool.ensures.pools next y)
          (c.loop-object.invariant.pools next x h);
    }
