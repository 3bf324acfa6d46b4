use Rattle.std.proofs.Common.{◌≡◌, ◌∙◌, ◌+◌, ◌∷◌, [], List, ap, arith, drop, sym, ℕ}
use Rattle.std.specs.Prelude.{not, slice_index_or}
use Rattle.ctl_meaning.specs.World.{Object}
use Rattle.ctl_meaning.specs.Lists.{keep}
use Rattle.ctl_objects.specs.Sets.{is_of_sets}
use Rattle.ctl_objects.proofs.Listed.{outside_first, outside_none}
use Rattle.ctl_storage.proofs.Cells.{all_dropped, item_dropped}
use Rattle.ctl_objects.proofs.allocations.Allocations.close_sets.Goals as goal

pub loop-set-preserved : goal.loop-set-preserved
loop-set-preserved c =
    let sets = c.args.sets.now in
    let i = c.loop-set.set-index in
    let set = slice_index_or sets i 0 in
    let item : drop i sets ≡ set ∷ drop (i + 1) sets = item_dropped sets i (omega arith) in
    let os = c.loop-set.self.objects in
    record {
      objects =
          ap (λ (l : List Object). keep (λ o. not (is_of_sets (drop (i + 1) sets) o.origin)) l) c.close_set.ensures.objects
          ∙ (sym (outside_first set (drop (i + 1) sets) os)
          ∙ (ap (λ (l : List ℕ). keep (λ o. not (is_of_sets l o.origin)) os) (sym item)
          ∙ c.loop-set.invariant.objects));
      needs = c.close_set.ensures.needs ∙ c.loop-set.invariant.needs;
      pools = λ next x h. c.close_set.ensures.pools next x (c.loop-set.invariant.pools next x h);
    }

pub returns-clause-objects : goal.returns-clause-objects
returns-clause-objects c = λ m.
    let sets = c.args.sets.now in
    let none : drop c.loop-set.set-index sets ≡ [] = all_dropped sets c.loop-set.set-index (omega arith) in
    sym (outside_none c.loop-set.self.objects)
    ∙ (ap (λ (l : List ℕ). keep (λ o. not (is_of_sets l o.origin)) c.loop-set.self.objects) (sym none)
    ∙ (c.loop-set.invariant.objects
    ∙ c.are_allocated.ensures m sets))
