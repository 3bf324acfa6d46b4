use Rattle.std.proofs.Common.{◌∙◌, ◌<◌, List, ap, length, subst, sym}
use Rattle.std.specs.Prelude.{not}
use Rattle.ctl_meaning.specs.World.{Object}
use Rattle.ctl_meaning.specs.Lists.{keep}
use Rattle.ctl_meaning.specs.Objects.{is_of_set}
use Rattle.ctl_objects.proofs.Listed.{fewer, rest_same}
use Rattle.ctl_objects.proofs.allocations.Allocations.close_set.Goals as goal

pub loop-number-smaller : goal.loop-number-smaller
loop-number-smaller c =
    let os = c.loop-number.self.objects in
    subst (λ (l : List Object). length l < length os) (sym c.forget.ensures.objects) (fewer os c.args.set c.in-Some.number c.in-Some.ensures.some)

pub loop-number-preserved : goal.loop-number-preserved
loop-number-preserved c =
    let os = c.loop-number.self.objects in
    let set = c.args.set in
    record {
      objects =
          ap (λ (l : List Object). keep (λ o. not (is_of_set set o.origin)) l) c.forget.ensures.objects
          ∙ (rest_same os set c.in-Some.number c.first_of.ensures.rise c.in-Some.ensures.some ∙ c.loop-number.invariant.objects);
      needs = c.forget.ensures.needs ∙ c.loop-number.invariant.needs;
      pools = λ next x h. c.forget.ensures.pools next x (c.loop-number.invariant.pools next x h);
    }
