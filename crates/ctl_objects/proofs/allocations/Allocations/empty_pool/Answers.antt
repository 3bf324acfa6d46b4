use Rattle.std.proofs.Common.{◌∙◌, ◌<◌, List, ap, length, refl, subst, sym}
use Rattle.std.specs.Prelude.{is_some, not}
use Rattle.ctl_meaning.specs.World.{Object}
use Rattle.ctl_meaning.specs.Lists.{keep}
use Rattle.ctl_meaning.specs.Objects.{lies_in_pool}
use Rattle.ctl_storage.proofs.Kept.{all_outside, fewer, rest_same}
use Rattle.ctl_objects.proofs.allocations.Allocations.empty_pool.Goals as goal

pub loop-object-init : goal.loop-object-init
loop-object-init c = record { rest = refl; needs = refl; pools = λ next x h. h }

pub loop-object-smaller : goal.loop-object-smaller
loop-object-smaller c =
    let os = c.loop-object.self.objects in
    subst (λ (l : List Object). length l < length os) (sym c.forget.ensures.objects) (fewer os c.args.number c.in-Some.object c.in-Some.ensures.some)

pub loop-object-preserved : goal.loop-object-preserved
loop-object-preserved c =
    let os = c.loop-object.self.objects in
    let n = c.args.number in
    record {
      rest = ap (λ (l : List Object). keep (λ o. not (lies_in_pool n o.origin)) l) c.forget.ensures.objects ∙ (rest_same os n c.in-Some.object c.first_in.ensures.rise c.in-Some.ensures.some ∙ c.loop-object.invariant.rest);
      needs = c.forget.ensures.needs ∙ c.loop-object.invariant.needs;
      pools = λ next x h. c.forget.ensures.pools next x (c.loop-object.invariant.pools next x h);
    }

pub returns-clause-objects : goal.returns-clause-objects
returns-clause-objects c = all_outside c.loop-object.self.objects c.args.number c.first_in.ensures.rise (c.first_in.ensures.none (ap (λ o. is_some o) c.in_default.is)) ∙ c.loop-object.invariant.rest

pub returns-clause-outside : goal.returns-clause-outside
returns-clause-outside c = c.first_in.ensures.none (ap (λ o. is_some o) c.in_default.is)

pub returns-clause-pools : goal.returns-clause-pools
returns-clause-pools c = c.loop-object.invariant.pools
