use Rattle.std.proofs.Common.{◌∙◌, List, ap, subst, sym}
use Rattle.ctl_meaning.specs.World.{Object}
use Rattle.ctl_storage.specs.Calls.{is_vacant_at, returned, with_returned}
use Rattle.ctl_objects.specs.Order.{AreSplit, both}
use Rattle.ctl_objects.specs.Pools.{ShowsPools}
use Rattle.ctl_objects.specs.Stock.{Stock, all_of}
use Rattle.ctl_objects.proofs.PoolCalls.{all_given}
use Rattle.ctl_objects.proofs.PoolCalls.{answer_given}
use Rattle.ctl_storage.specs.Storage.{exists}
use Rattle.std.proofs.Common.{true}
use Rattle.std.proofs.Common.{List, ap, subst, sym, ◌∙◌, ◌≡◌}
use Rattle.ctl_objects.proofs.object_list.Objects.give_block.Goals as goal

pub invariant_of-self : goal.invariant_of-self
invariant_of-self c = let s = c.self.inside in subst (λ (l : List Object). AreSplit l s.declared) (sym c.give_block.ensures.objects) c.self.invariant

pub returns-clause-objects : goal.returns-clause-objects
returns-clause-objects c = let s = c.self.inside in ap (λ (l : List Object). both l s.declared) c.give_block.ensures.objects ∙ ap (λ (v : Stock). v.objects) c.self.view_is

pub returns-clause-answer : goal.returns-clause-answer
returns-clause-answer c = λ next x h.
    let s = c.self.inside in
    let a = c.args in
    answer_given next a.pool a.address x s.allocated s.declared c.give_block.result c.self.invariant (subst (λ (v : Stock). exists a.pool v.objects ≡ true) (sym c.self.view_is) c.requires.exists) c.give_block.ensures.answer (subst (λ (v : Stock). ShowsPools next x v) (sym c.self.view_is) h)
    ∙ ap (λ (v : Stock). returned (is_vacant_at a.pool a.address v.objects x)) c.self.view_is

pub returns-clause-pools : goal.returns-clause-pools
returns-clause-pools c = λ next x h.
    let s = c.self.inside in
    let a = c.args in
    subst (λ (v : Stock). ShowsPools next (with_returned a.pool a.address v.objects x) (all_of c.give_block.new.self s.declared)) c.self.view_is
    (all_given next a.pool a.address x s.allocated c.give_block.new.self s.declared c.self.invariant c.give_block.ensures.objects (subst (λ (v : Stock). exists a.pool v.objects ≡ true) (sym c.self.view_is) c.requires.exists) (λ y. c.give_block.ensures.pools next y) (subst (λ (v : Stock). ShowsPools next x v) (sym c.self.view_is) h))
