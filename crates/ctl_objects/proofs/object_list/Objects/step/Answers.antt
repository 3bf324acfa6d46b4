use Rattle.std.proofs.Common.{◌∙◌, ap, sym, subst}
use Rattle.ctl_meaning.specs.Objects.{change_in}
use Rattle.ctl_storage.specs.Stages.{with_step}
use Rattle.ctl_objects.specs.Stock.{Stock, all_of}
use Rattle.ctl_objects.proofs.Both.{changed_first, changed_second}
use Rattle.ctl_storage.proofs.InStore.{step_keeps}
use Rattle.ctl_objects.proofs.Origins.{step_stays}
use Rattle.std.proofs.Common.{◌≡◌, refl, subst, ap, sym, ◌∙◌}
use Rattle.ctl_objects.specs.Order.{both}
use Rattle.ctl_objects.proofs.Pools.{all_same}
use Rattle.ctl_objects.proofs.Unchanged.{changed_shown}
use Rattle.ctl_objects.proofs.object_list.Objects.step.Goals as goal

pub invariant_of-self : goal.invariant_of-self
invariant_of-self c =
    let s = c.self.inside in
    (changed_first c.args.number (with_step c.args.step) s.allocated.objects s.declared c.step-then-not-step.new.self.objects c.step.new.self (step_keeps c.args.step) (step_stays c.args.step) c.self.invariant c.step-then-not-step.ensures.stepped c.step.ensures.stepped).0

pub invariant_of-self-else-not-step : goal.invariant_of-self-else-not-step
invariant_of-self-else-not-step c =
    let s = c.self.inside in
    (changed_second c.args.number (with_step c.args.step) s.allocated.objects s.declared c.step.new.self (step_keeps c.args.step) (step_stays c.args.step) c.self.invariant c.step.ensures.stepped (sym c.if-not-step.false ∙ c.step.ensures.exists)).0

pub returns-then-not-step-clause-objects : goal.returns-then-not-step-clause-objects
returns-then-not-step-clause-objects c =
    let s = c.self.inside in
    (changed_first c.args.number (with_step c.args.step) s.allocated.objects s.declared c.step-then-not-step.new.self.objects c.step.new.self (step_keeps c.args.step) (step_stays c.args.step) c.self.invariant c.step-then-not-step.ensures.stepped c.step.ensures.stepped).1
    ∙ ap (λ (v : Stock). change_in c.args.number (with_step c.args.step) v.objects) c.self.view_is

pub returns-else-not-step-clause-objects : goal.returns-else-not-step-clause-objects
returns-else-not-step-clause-objects c =
    let s = c.self.inside in
    (changed_second c.args.number (with_step c.args.step) s.allocated.objects s.declared c.step.new.self (step_keeps c.args.step) (step_stays c.args.step) c.self.invariant c.step.ensures.stepped (sym c.if-not-step.false ∙ c.step.ensures.exists)).1
    ∙ ap (λ (v : Stock). change_in c.args.number (with_step c.args.step) v.objects) c.self.view_is

pub returns-then-not-step-clause-same : goal.returns-then-not-step-clause-same
returns-then-not-step-clause-same c =
    let s = c.self.inside in
    subst (λ (v : Stock). all_of c.step-then-not-step.new.self c.step.new.self ≡ record v { objects = both c.step-then-not-step.new.self.objects c.step.new.self }) c.self.view_is (all_same s.allocated c.step-then-not-step.new.self s.declared c.step.new.self c.step-then-not-step.ensures.same)

pub returns-else-not-step-clause-same : goal.returns-else-not-step-clause-same
returns-else-not-step-clause-same c =
    let s = c.self.inside in
    subst (λ (v : Stock). all_of s.allocated c.step.new.self ≡ record v { objects = both s.allocated.objects c.step.new.self }) c.self.view_is (all_same s.allocated s.allocated s.declared c.step.new.self refl)

pub returns-then-not-step-clause-pools : goal.returns-then-not-step-clause-pools
returns-then-not-step-clause-pools c = changed_shown c.args.self.now (all_of c.step-then-not-step.new.self c.step.new.self) c.args.number (with_step c.args.step) (step_keeps c.args.step) (step_stays c.args.step) (returns-then-not-step-clause-same c) (returns-then-not-step-clause-objects c)

pub returns-else-not-step-clause-pools : goal.returns-else-not-step-clause-pools
returns-else-not-step-clause-pools c = changed_shown c.args.self.now (all_of c.self.inside.allocated c.step.new.self) c.args.number (with_step c.args.step) (step_keeps c.args.step) (step_stays c.args.step) (returns-else-not-step-clause-same c) (returns-else-not-step-clause-objects c)
