use Rattle.std.proofs.Common.{ℕ, ◌+◌, ◌≤◌, List, length, sym, ap, subst, ◌∙◌}
use Rattle.std.specs.Prelude.{IfSome, Ok, is_some, slice_set, ◌||◌}
use Rattle.std.specs.FinMap.{get}
use Rattle.pool_store.specs.Joined.{side_by_side, AreApart}
use Rattle.pool_store.specs.Store as store
use Rattle.pool_store.specs.Store.{Store}
use Rattle.pool_store.proofs.Held.{is_held_ok}
use Rattle.pool_store.proofs.Sides.{changed_left, held_either, left_apart, left_if, less_change, less_left}
use Rattle.pool_store.proofs.store.PoolStore.write.Goals as goal

pub set_standard_word-requires : goal.set_standard_word-requires
set_standard_word-requires g c =
    let s = c.self.inside in
    left_if s.blocks.objects s.marks.objects c.args.object (λ x. c.args.word + 1 ≤ length x.words) (subst (λ (v : Store). IfSome (get v.objects c.args.object) (λ x. c.args.word + 1 ≤ length x.words)) (sym c.self.view_is) c.requires)

pub invariant_of-self : goal.invariant_of-self
invariant_of-self g c =
    let s = c.self.inside in
    let n = c.args.object in
    subst (λ a. AreApart a s.marks) (sym c.if-set_standard_word.ensures.written) (less_left s.blocks.objects _ s.marks.objects (less_change s.blocks.objects n (store.with_words (λ (l : List ℕ). slice_set l c.args.word c.args.value))) c.self.invariant)

pub returns-then-set_standard_word-clause-result : goal.returns-then-set_standard_word-clause-result
returns-then-set_standard_word-clause-result g c =
    let s = c.self.inside in
    let n = c.args.object in
    let apart = left_apart s.blocks.objects s.marks.objects n c.self.invariant c.if-set_standard_word.ensures.held in
    is_held_ok (get c.args.self.now.objects n) (Ok tt)
    (sym (ap (λ v. is_some (get v.objects n)) c.self.view_is) ∙ (held_either s.blocks s.marks n ∙ (ap (λ o. is_some o || is_some (get s.blocks.objects n)) apart ∙ c.if-set_standard_word.ensures.held)))

pub returns-then-set_standard_word-clause-store : goal.returns-then-set_standard_word-clause-store
returns-then-set_standard_word-clause-store g c =
    let s = c.self.inside in
    let n = c.args.object in
    let apart = left_apart s.blocks.objects s.marks.objects n c.self.invariant c.if-set_standard_word.ensures.held in
    ap (λ a. side_by_side a s.marks) c.if-set_standard_word.ensures.written ∙ changed_left s.blocks s.marks n (store.with_words (λ (l : List ℕ). slice_set l c.args.word c.args.value)) apart
    ∙ ap (store.with_word n c.args.word c.args.value) c.self.view_is
