use Rattle.std.proofs.Common.{ℕ, ◌<◌, length, List, sym, ap, subst, ◌∙◌}
use Rattle.pool_store.specs.Joined.{side_by_side, AreApart}
use Rattle.pool_store.specs.Store as store
use Rattle.pool_store.specs.Store.{Store}
use Rattle.std.specs.Prelude.{slice_set}
use Rattle.pool_store.proofs.Sides.{not_left, not_right, words_left, words_right, changed_left, changed_right, less_left, less_right, less_change}
use Rattle.pool_store.proofs.store.PoolStore.set_word.Goals as goal

pub set_word-requires : goal.set_word-requires
set_word-requires g c =
    let s = c.self.inside in
    let n = c.args.object in
    subst (λ (l : List ℕ). c.args.place < length l) (ap (store.words_of n) (sym c.self.view_is) ∙ words_right s.blocks s.marks n (not_left s.blocks.objects s.marks.objects n c.self.invariant (sym c.is_held.ensures ∙ c.if-is_held.true))) c.requires

pub set_word-requires-else-is_held : goal.set_word-requires-else-is_held
set_word-requires-else-is_held g c =
    let s = c.self.inside in
    let n = c.args.object in
    subst (λ (l : List ℕ). c.args.place < length l) (ap (store.words_of n) (sym c.self.view_is) ∙ words_left s.blocks s.marks n (not_right s.marks.objects n (sym c.is_held.ensures ∙ c.if-is_held.false))) c.requires

pub invariant_of-self : goal.invariant_of-self
invariant_of-self g c =
    let s = c.self.inside in
    let n = c.args.object in
    subst (AreApart s.blocks) (sym c.set_word.ensures) (less_right s.blocks.objects s.marks.objects _ (less_change s.marks.objects n (store.with_words (λ (l : List ℕ). slice_set l c.args.place c.args.value))) c.self.invariant)

pub invariant_of-self-else-is_held : goal.invariant_of-self-else-is_held
invariant_of-self-else-is_held g c =
    let s = c.self.inside in
    let n = c.args.object in
    subst (λ a. AreApart a s.marks) (sym c.set_word-else-is_held.ensures) (less_left s.blocks.objects _ s.marks.objects (less_change s.blocks.objects n (store.with_words (λ (l : List ℕ). slice_set l c.args.place c.args.value))) c.self.invariant)

pub returns-then-is_held : goal.returns-then-is_held
returns-then-is_held g c =
    let s = c.self.inside in
    let n = c.args.object in
    ap (side_by_side s.blocks) c.set_word.ensures ∙ changed_right s.blocks s.marks n (store.with_words (λ (l : List ℕ). slice_set l c.args.place c.args.value)) (not_left s.blocks.objects s.marks.objects n c.self.invariant (sym c.is_held.ensures ∙ c.if-is_held.true))
    ∙ ap (store.with_word n c.args.place c.args.value) c.self.view_is

pub returns-else-is_held : goal.returns-else-is_held
returns-else-is_held g c =
    let s = c.self.inside in
    let n = c.args.object in
    ap (λ a. side_by_side a s.marks) c.set_word-else-is_held.ensures ∙ changed_left s.blocks s.marks n (store.with_words (λ (l : List ℕ). slice_set l c.args.place c.args.value)) (not_right s.marks.objects n (sym c.is_held.ensures ∙ c.if-is_held.false))
    ∙ ap (store.with_word n c.args.place c.args.value) c.self.view_is
