use Rattle.std.proofs.Common.{◌≡◌, ◌∙◌, Option, Some, None, ap, refl, sym}
use Rattle.std.specs.Prelude.{is_some}
use Rattle.std.specs.Option.{option_map}
use Rattle.std.specs.FinMap.{get}
use Rattle.ctl_meaning.specs.World.{Object}
use Rattle.ctl_meaning.specs.Objects.{object_in}
use Rattle.pool_store.specs.Store.{words_of}
use Rattle.ctl_storage.specs.declared.existing.Allocation.{Allocation}
use Rattle.ctl_storage.specs.Allocated.{allocated}
use Rattle.ctl_storage.specs.Storage.{Storage}
use Rattle.ctl_storage.proofs.Seen.{in_seen}
use Rattle.ctl_storage.proofs.storage.ObjectStorage.contains.Goals as goal

as_many : (f : Allocation → Object) (o : Option Allocation) → is_some o ≡ is_some (option_map f o)
as_many f None = refl
as_many f (Some a) = refl

pub returns : goal.returns
returns c =
    let s = c.self.inside in
    let n = c.args.number in
    c.contains.ensures ∙ as_many (λ a. allocated n a (words_of n s.store)) (get s.objects.values n) ∙ ap (λ (o : Option Object). is_some o) (sym (in_seen s.objects.values s.store n))
    ∙ ap (λ (v : Storage). is_some (object_in n v.objects)) c.self.view_is
