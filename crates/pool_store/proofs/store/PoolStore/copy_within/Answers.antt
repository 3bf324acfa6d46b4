use Rattle.std.proofs.Common.{ℕ, ◌+◌, ◌≤◌, length, List, sym, ap, subst, ◌∙◌}
use Rattle.pool_store.specs.Joined.{side_by_side, AreApart}
use Rattle.pool_store.specs.Store as store
use Rattle.pool_store.specs.Store.{Store}
use Rattle.pool_store.proofs.Sides.{not_left, not_right, words_left, words_right, copied_left, copied_right, less_left, less_right, less_copied}
use Rattle.pool_store.proofs.store.PoolStore.copy_within.Goals as goal

pub copy_within-requires-clause-from : goal.copy_within-requires-clause-from
copy_within-requires-clause-from g c =
    let s = c.self.inside in
    let n = c.args.object in
    subst (λ (l : List ℕ). c.args.word + c.args.count ≤ length l) (ap (store.words_of n) (sym c.self.view_is) ∙ words_right s.blocks s.marks n (not_left s.blocks.objects s.marks.objects n c.self.invariant (sym c.is_held.ensures ∙ c.if-is_held.true))) c.requires.from

pub copy_within-requires-clause-to : goal.copy_within-requires-clause-to
copy_within-requires-clause-to g c =
    let s = c.self.inside in
    let n = c.args.object in
    subst (λ (l : List ℕ). c.args.target + c.args.count ≤ length l) (ap (store.words_of n) (sym c.self.view_is) ∙ words_right s.blocks s.marks n (not_left s.blocks.objects s.marks.objects n c.self.invariant (sym c.is_held.ensures ∙ c.if-is_held.true))) c.requires.to

pub copy_within-requires-else-is_held-clause-from : goal.copy_within-requires-else-is_held-clause-from
copy_within-requires-else-is_held-clause-from g c =
    let s = c.self.inside in
    let n = c.args.object in
    subst (λ (l : List ℕ). c.args.word + c.args.count ≤ length l) (ap (store.words_of n) (sym c.self.view_is) ∙ words_left s.blocks s.marks n (not_right s.marks.objects n (sym c.is_held.ensures ∙ c.if-is_held.false))) c.requires.from

pub copy_within-requires-else-is_held-clause-to : goal.copy_within-requires-else-is_held-clause-to
copy_within-requires-else-is_held-clause-to g c =
    let s = c.self.inside in
    let n = c.args.object in
    subst (λ (l : List ℕ). c.args.target + c.args.count ≤ length l) (ap (store.words_of n) (sym c.self.view_is) ∙ words_left s.blocks s.marks n (not_right s.marks.objects n (sym c.is_held.ensures ∙ c.if-is_held.false))) c.requires.to

pub invariant_of-self : goal.invariant_of-self
invariant_of-self g c =
    let s = c.self.inside in
    let a = c.args in
    subst (AreApart s.blocks) (sym c.copy_within.ensures) (less_right s.blocks.objects s.marks.objects _ (less_copied s.blocks s.marks a.object a.word a.target a.count s.marks) c.self.invariant)

pub invariant_of-self-else-is_held : goal.invariant_of-self-else-is_held
invariant_of-self-else-is_held g c =
    let s = c.self.inside in
    let a = c.args in
    subst (λ v. AreApart v s.marks) (sym c.copy_within-else-is_held.ensures) (less_left s.blocks.objects _ s.marks.objects (less_copied s.blocks s.marks a.object a.word a.target a.count s.blocks) c.self.invariant)

pub returns-then-is_held : goal.returns-then-is_held
returns-then-is_held g c =
    let s = c.self.inside in
    let a = c.args in
    let n = a.object in
    ap (side_by_side s.blocks) c.copy_within.ensures ∙ copied_right s.blocks s.marks n a.word a.target a.count (not_left s.blocks.objects s.marks.objects n c.self.invariant (sym c.is_held.ensures ∙ c.if-is_held.true)) ∙ ap (store.copied n a.word n a.target a.count) c.self.view_is

pub returns-else-is_held : goal.returns-else-is_held
returns-else-is_held g c =
    let s = c.self.inside in
    let a = c.args in
    let n = a.object in
    ap (λ v. side_by_side v s.marks) c.copy_within-else-is_held.ensures ∙ copied_left s.blocks s.marks n a.word a.target a.count (not_right s.marks.objects n (sym c.is_held.ensures ∙ c.if-is_held.false)) ∙ ap (store.copied n a.word n a.target a.count) c.self.view_is
