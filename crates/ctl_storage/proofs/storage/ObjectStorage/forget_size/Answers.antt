use Rattle.std.proofs.Common.{◌∙◌, ap, subst, sym}
use Rattle.std.specs.FinMap.{get, remove}
use Rattle.ctl_storage.specs.Inside.{AreStored, view_of}
use Rattle.ctl_storage.specs.Storage.{Storage}
use Rattle.ctl_storage.proofs.Kept.{Sizes, kept_sizes}
use Rattle.ctl_storage.proofs.Shown.{dropped}
use Rattle.ctl_storage.proofs.storage.ObjectStorage.forget_size.Goals as goal

pub invariant_of-self : goal.invariant_of-self
invariant_of-self c =
    let s = c.self.inside in
    subst (λ (m : Sizes). AreStored s.objects.values m s.located s.store) (sym c.remove.ensures.values)
    (kept_sizes s.objects.values s.sizes.values s.located s.store c.args.number (ap (λ (v : Storage). get v.blocks c.args.number) c.self.view_is ∙ c.requires) c.self.invariant)

pub returns-clause-objects : goal.returns-clause-objects
returns-clause-objects c = ap (λ (v : Storage). v.objects) c.self.view_is

pub returns-clause-pools : goal.returns-clause-pools
returns-clause-pools c = λ next x h.
    let s = c.self.inside in
    dropped next c.args.number x c.args.self.now (view_of s.objects.values c.remove.new.self.values s.store) (ap (λ (v : Storage). v.objects) c.self.view_is)
    (c.remove.ensures.values ∙ ap (λ (v : Storage). remove v.sizes c.args.number) c.self.view_is) (ap (λ (v : Storage). v.blocks) c.self.view_is) c.requires (ap (λ (v : Storage). v.given) c.self.view_is) h
