use Rattle.std.proofs.Common.{◌∙◌, ap, sym}
use Rattle.std.specs.Ordering.{nat_cmp}
use Rattle.std.specs.FinMap.{get, get-empty}
use Rattle.ctl_storage.specs.Storage.{Storage}
use Rattle.ctl_storage.proofs.Kept.{Sizes}
use Rattle.ctl_storage.proofs.storage.ObjectStorage.has_pools.Goals as goal

pub returns : goal.returns
returns c = λ none n. ap (λ (v : Storage). get v.sizes n) (sym c.self.view_is) ∙ (ap (λ (m : Sizes). get m n) (c.are_used.ensures none) ∙ get-empty nat_cmp n)
