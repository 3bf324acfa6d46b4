use Rattle.std.proofs.Common.{◌≡◌, ◌∙◌, List, ap, subst, sym, true}
use Rattle.std.specs.Prelude.{is_some}
use Rattle.std.specs.Bool.{OnFalse, OnTrue}
use Rattle.ctl_meaning.specs.World.{Object}
use Rattle.ctl_meaning.specs.Objects.{object_in}
use Rattle.ctl_objects.specs.Copies.{copied}
use Rattle.ctl_objects.specs.Pools.{ShowsPools}
use Rattle.ctl_objects.specs.Stock.{Stock, all_of}
use Rattle.ctl_objects.proofs.Both.{copied_second}
use Rattle.std.proofs.Common.{◌≡◌, refl, subst, List, ap, sym, ◌∙◌}
use Rattle.ctl_objects.specs.Order.{both}
use Rattle.ctl_objects.proofs.Pools.{all_same}
use Rattle.ctl_objects.proofs.Unchanged.{copied_shown}
use Rattle.ctl_objects.proofs.object_list.Objects.copy.Goals as goal

pub invariant_of-self-else-not-copy : goal.invariant_of-self-else-not-copy
invariant_of-self-else-not-copy c =
    let a = c.args in
    let s = c.self.inside in
    let yes = c.if-not-copy.false in
    let first = subst (λ b. OnTrue b (true ≡ is_some (object_in a.from s.declared))) yes c.copy.ensures.first in
    let second = subst (λ b. OnTrue b (true ≡ is_some (object_in a.to s.declared))) yes c.copy.ensures.second in
    let is = subst (λ b. OnTrue b (c.copy.new.self ≡ copied a.start a.to a.target a.count (object_in a.from s.declared) s.declared)) yes c.copy.ensures.copied in
    (copied_second a.start a.target a.count a.from a.to s.allocated.objects s.declared c.copy.new.self c.self.invariant first second is).0

pub returns-else-not-copy-clause-objects : goal.returns-else-not-copy-clause-objects
returns-else-not-copy-clause-objects c =
    let a = c.args in
    let s = c.self.inside in
    let yes = c.if-not-copy.false in
    let first = subst (λ b. OnTrue b (true ≡ is_some (object_in a.from s.declared))) yes c.copy.ensures.first in
    let second = subst (λ b. OnTrue b (true ≡ is_some (object_in a.to s.declared))) yes c.copy.ensures.second in
    let is = subst (λ b. OnTrue b (c.copy.new.self ≡ copied a.start a.to a.target a.count (object_in a.from s.declared) s.declared)) yes c.copy.ensures.copied in
    (copied_second a.start a.target a.count a.from a.to s.allocated.objects s.declared c.copy.new.self c.self.invariant first second is).1
    ∙ ap (λ (v : Stock). copied a.start a.to a.target a.count (object_in a.from v.objects) v.objects) c.self.view_is

pub returns-then-not-copy-clause-pools : goal.returns-then-not-copy-clause-pools
returns-then-not-copy-clause-pools c = λ next x h.
    let s = c.self.inside in
    let kept = subst (λ b. OnFalse b (c.copy.new.self ≡ s.declared)) c.if-not-copy.true c.copy.ensures.kept in
    c.copy_each.ensures.pools next x (subst (λ (l : List Object). ShowsPools next x (all_of s.allocated l)) (sym kept) (subst (λ (v : Stock). ShowsPools next x v) (sym c.self.view_is) h))

pub returns-else-not-copy-clause-same : goal.returns-else-not-copy-clause-same
returns-else-not-copy-clause-same c =
    let s = c.self.inside in
    subst (λ (v : Stock). all_of s.allocated c.copy.new.self ≡ record v { objects = both s.allocated.objects c.copy.new.self }) c.self.view_is (all_same s.allocated s.allocated s.declared c.copy.new.self refl)

pub returns-then-not-copy-clause-same : goal.returns-then-not-copy-clause-same
returns-then-not-copy-clause-same c =
    let s = c.self.inside in
    c.copy_each.ensures.same ∙ ap (λ (v : Stock). record v { objects = c.copy_each.new.self.objects }) c.self.view_is

pub returns-else-not-copy-clause-pools : goal.returns-else-not-copy-clause-pools
returns-else-not-copy-clause-pools c =
    let a = c.args in
    copied_shown a.self.now (all_of c.self.inside.allocated c.copy.new.self) a.start a.to a.target a.count (object_in a.from a.self.now.objects) (returns-else-not-copy-clause-same c) (returns-else-not-copy-clause-objects c)
