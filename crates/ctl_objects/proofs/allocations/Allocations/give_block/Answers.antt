use Rattle.std.proofs.Common.{◌∙◌, ap, subst, sym}
use Rattle.ctl_storage.specs.Storage.{ArePools}
use Rattle.ctl_objects.specs.Stock.{Stock, storage_of}
use Rattle.ctl_storage.specs.Calls.{is_vacant_at, returned, with_returned}
use Rattle.ctl_objects.proofs.allocations.Allocations.give_block.Goals as goal

pub returns-clause-answer : goal.returns-clause-answer
returns-clause-answer c = λ next x h. c.give_block.ensures.answer next x (subst (λ (v : Stock). ArePools next x (storage_of v)) (sym c.self.view_is) h) ∙ ap (λ (v : Stock). returned (is_vacant_at c.args.pool c.args.address v.objects x)) c.self.view_is

pub returns-clause-pools : goal.returns-clause-pools
returns-clause-pools c = λ next x h.
    subst (λ (v : Stock). ArePools next (with_returned c.args.pool c.args.address v.objects x) c.give_block.new.self) c.self.view_is (c.give_block.ensures.pools next x (subst (λ (v : Stock). ArePools next x (storage_of v)) (sym c.self.view_is) h))
