use Rattle.std.proofs.Common.{◌∙◌, ap, sym}
use Rattle.std.specs.Prelude.{is_some}
use Rattle.std.specs.FinMap.{get}
use Rattle.ctl_storage.specs.Calls.{state_of}
use Rattle.ctl_storage.specs.Storage.{Storage}
use Rattle.ctl_storage.proofs.Kept.{open_is}
use Rattle.ctl_storage.proofs.storage.ObjectStorage.state.Goals as goal

pub returns-then-is_open : goal.returns-then-is_open
returns-then-is_open c =
    let s = c.self.inside in
    let n = c.args.number in
    sym (ap state_of (ap (λ (v : Storage). is_some (get v.blocks n)) (sym c.self.view_is) ∙ (sym (open_is s.store n (c.self.invariant.marks n)) ∙ (sym c.is_open.ensures ∙ c.if-is_open.true))))

pub returns-else-is_open : goal.returns-else-is_open
returns-else-is_open c =
    let s = c.self.inside in
    let n = c.args.number in
    sym (ap state_of (ap (λ (v : Storage). is_some (get v.blocks n)) (sym c.self.view_is) ∙ (sym (open_is s.store n (c.self.invariant.marks n)) ∙ (sym c.is_open.ensures ∙ c.if-is_open.false))))
