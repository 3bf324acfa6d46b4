use Rattle.std.proofs.Common.{sym, ap, ◌∙◌}
use Rattle.std.specs.Prelude.{is_some, ◌||◌}
use Rattle.std.specs.FinMap.{get}
use Rattle.pool_store.proofs.Sides.{held_either}
use Rattle.pool_store.proofs.store.PoolStore.is_held.Goals as goal

pub returns-then-is_held : goal.returns-then-is_held
returns-then-is_held g c =
    let s = c.self.inside in
    let n = c.args.object in
    c.if-is_held.true ∙ sym (ap (λ t. t || is_some (get s.blocks.objects n)) (sym c.is_held.ensures ∙ c.if-is_held.true)) ∙ sym (held_either s.blocks s.marks n)
    ∙ ap (λ v. is_some (get v.objects n)) c.self.view_is

pub returns-else-is_held : goal.returns-else-is_held
returns-else-is_held g c =
    let s = c.self.inside in
    let n = c.args.object in
    c.is_held-else-is_held.ensures ∙ sym (ap (λ t. t || is_some (get s.blocks.objects n)) (sym c.is_held.ensures ∙ c.if-is_held.false)) ∙ sym (held_either s.blocks s.marks n)
    ∙ ap (λ v. is_some (get v.objects n)) c.self.view_is
