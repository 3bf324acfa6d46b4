use Rattle.std.proofs.Common.{length, sym, ap, ◌∙◌}
use Rattle.pool_store.specs.Store as store
use Rattle.pool_store.specs.Store.{Store}
use Rattle.pool_store.proofs.Sides.{not_left, not_right, words_left, words_right}
use Rattle.pool_store.proofs.store.PoolStore.len_of.Goals as goal

pub returns-then-is_held : goal.returns-then-is_held
returns-then-is_held g c =
    let s = c.self.inside in
    let n = c.args.object in
    c.len_of.ensures ∙ ap length (sym (words_right s.blocks s.marks n (not_left s.blocks.objects s.marks.objects n c.self.invariant (sym c.is_held.ensures ∙ c.if-is_held.true))) ∙ ap (store.words_of n) c.self.view_is)

pub returns-else-is_held : goal.returns-else-is_held
returns-else-is_held g c =
    let s = c.self.inside in
    let n = c.args.object in
    c.len_of-else-is_held.ensures ∙ ap length (sym (words_left s.blocks s.marks n (not_right s.marks.objects n (sym c.is_held.ensures ∙ c.if-is_held.false))) ∙ ap (store.words_of n) c.self.view_is)
