use Rattle.std.proofs.Common.{◌∙◌, List, ap, subst, sym}
use Rattle.ctl_meaning.specs.World.{Object}
use Rattle.ctl_objects.specs.Order.{AreSplit, both}
use Rattle.ctl_objects.specs.Pools.{ShowsPools}
use Rattle.ctl_objects.specs.Stock.{Stock, all_of}
use Rattle.ctl_objects.proofs.Both.{if_ok, on_err, on_ok}
use Rattle.ctl_objects.proofs.PoolCalls.{all_taken}
use Rattle.ctl_objects.proofs.PoolCalls.{answer_taken}
use Rattle.ctl_storage.specs.Storage.{exists}
use Rattle.std.proofs.Common.{true}
use Rattle.std.proofs.Common.{List, ap, subst, sym, ◌∙◌, ◌≡◌}
use Rattle.ctl_objects.proofs.object_list.Objects.take_block.Goals as goal

pub invariant_of-self : goal.invariant_of-self
invariant_of-self c = let s = c.self.inside in subst (λ (l : List Object). AreSplit l s.declared) (sym c.take_block.ensures.objects) c.self.invariant

pub returns-clause-objects : goal.returns-clause-objects
returns-clause-objects c = let s = c.self.inside in ap (λ (l : List Object). both l s.declared) c.take_block.ensures.objects ∙ ap (λ (v : Stock). v.objects) c.self.view_is

pub returns-clause-err : goal.returns-clause-err
returns-clause-err c = let s = c.self.inside in on_err c.take_block.result _ _ c.take_block.ensures.err (λ e. ap (λ (v : Stock). all_of v s.declared) e ∙ c.self.view_is)

pub returns-clause-answer : goal.returns-clause-answer
returns-clause-answer c =
    let s = c.self.inside in
    if_ok c.take_block.result _ _ c.take_block.ensures.answer (λ r f next x h. answer_taken next c.args.pool c.args.size x s.allocated s.declared r c.self.invariant (subst (λ (v : Stock). exists c.args.pool v.objects ≡ true) (sym c.self.view_is) c.requires.exists) f (subst (λ (v : Stock). ShowsPools next x v) (sym c.self.view_is) h))

pub returns-clause-pools : goal.returns-clause-pools
returns-clause-pools c =
    let s = c.self.inside in
    on_ok c.take_block.result _ _ c.take_block.ensures.pools (λ f next x h. all_taken next c.args.pool c.args.size x s.allocated c.take_block.new.self s.declared c.self.invariant c.take_block.ensures.objects (subst (λ (v : Stock). exists c.args.pool v.objects ≡ true) (sym c.self.view_is) c.requires.exists) (f next) (subst (λ (v : Stock). ShowsPools next x v) (sym c.self.view_is) h))
