use Rattle.std.proofs.Common.{ℕ, ◌<◌, length, List, sym, ap, subst, ◌∙◌}
use Rattle.std.specs.Prelude.{slice_index_or}
use Rattle.pool_store.specs.Store as store
use Rattle.pool_store.specs.Store.{Store}
use Rattle.pool_store.proofs.Sides.{not_left, not_right, words_left, words_right}
use Rattle.pool_store.proofs.store.PoolStore.word.Goals as goal

pub word-requires : goal.word-requires
word-requires g c =
    let s = c.self.inside in
    let n = c.args.object in
    subst (λ (l : List ℕ). c.args.place < length l) (ap (store.words_of n) (sym c.self.view_is) ∙ words_right s.blocks s.marks n (not_left s.blocks.objects s.marks.objects n c.self.invariant (sym c.is_held.ensures ∙ c.if-is_held.true))) c.requires

pub word-requires-else-is_held : goal.word-requires-else-is_held
word-requires-else-is_held g c =
    let s = c.self.inside in
    let n = c.args.object in
    subst (λ (l : List ℕ). c.args.place < length l) (ap (store.words_of n) (sym c.self.view_is) ∙ words_left s.blocks s.marks n (not_right s.marks.objects n (sym c.is_held.ensures ∙ c.if-is_held.false))) c.requires

pub returns-then-is_held : goal.returns-then-is_held
returns-then-is_held g c =
    let s = c.self.inside in
    let n = c.args.object in
    c.word.ensures ∙ ap (λ (l : List ℕ). slice_index_or l c.args.place 0) (sym (words_right s.blocks s.marks n (not_left s.blocks.objects s.marks.objects n c.self.invariant (sym c.is_held.ensures ∙ c.if-is_held.true))) ∙ ap (store.words_of n) c.self.view_is)

pub returns-else-is_held : goal.returns-else-is_held
returns-else-is_held g c =
    let s = c.self.inside in
    let n = c.args.object in
    c.word-else-is_held.ensures ∙ ap (λ (l : List ℕ). slice_index_or l c.args.place 0) (sym (words_left s.blocks s.marks n (not_right s.marks.objects n (sym c.is_held.ensures ∙ c.if-is_held.false))) ∙ ap (store.words_of n) c.self.view_is)
