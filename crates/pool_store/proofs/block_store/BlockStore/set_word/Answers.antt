use Rattle.std.proofs.Common.{◌≡◌, ℕ, ◌<◌, length, List, [], Some, refl, sym, ap, subst, ◌∙◌, arith}
use Rattle.std.specs.Prelude.{slice_set}
use Rattle.std.specs.FinMap.{insert}
use Rattle.pool_area.specs.Lots.{with_word}
use Rattle.pool_store.specs.declared.entry.Entry.TheVariants.{InBlock}
use Rattle.pool_store.specs.Entries.{lot_at, words_in, stored_in, Ties, own_words, with_own_words}
use Rattle.pool_store.specs.Store as store
use Rattle.pool_store.specs.Store.{Store}
use Rattle.pool_store.proofs.Steps.{seen, words_seen, no_words_seen, standard_ties, standard_written, written, spot_is, standard_is, spot_of_entry}
use Rattle.pool_store.proofs.block_store.BlockStore.set_word.Goals as goal

pub set_word_at-requires : goal.set_word_at-requires
set_word_at-requires g c =
    let s = c.self.inside in
    let n = c.args.object in
    let a = c.args in
    let here = spot_is s.objects.values s.blocks.values n c.in-Some.spot (ap (store.spot_of n) c.self.view_is ∙ sym c.in-Some.ensures) in
    subst (λ (ws : List ℕ). a.place < length ws) (ap (store.words_of n) (sym c.self.view_is)
    ∙ words_seen s.objects.values s.blocks.values s.given c.self.invariant n (InBlock c.in-Some.spot) here) c.requires

pub set_word-requires : goal.set_word-requires
set_word-requires g c =
    let s = c.self.inside in
    let n = c.args.object in
    let a = c.args in
    let e = c.in-Some-get_mut.entry.now in
    let there = sym c.in-Some-get_mut.ensures.value in
    let outside = sym (spot_of_entry s.objects.values s.blocks.values n e there) ∙ ap (store.spot_of n) c.self.view_is ∙ sym c.spot_of.ensures ∙ c.in_default.is in
    let is = standard_is s.blocks.values e outside in
    subst (λ (ws : List ℕ). a.place < length ws) (ap (store.words_of n) (sym c.self.view_is)
    ∙ words_seen s.objects.values s.blocks.values s.given c.self.invariant n e there ∙ ap (λ x. (stored_in s.blocks.values x).words) is) c.requires

pub unreachable-requires : goal.unreachable-requires
unreachable-requires g c =
    let s = c.self.inside in
    let n = c.args.object in
    let none : store.words_of n c.args.self.now ≡ [] = ap (store.words_of n) (sym c.self.view_is) ∙ no_words_seen s.objects.values s.blocks.values s.given c.self.invariant n (sym c.in_default-get_mut.ensures.value) in
    let long : length (store.words_of n c.args.self.now) ≡ 0 = ap length none in
    omega arith

pub invariant_of-self : goal.invariant_of-self
invariant_of-self g c =
    let s = c.self.inside in
    let n = c.args.object in
    let a = c.args in
    let x = c.in-Some.spot in
    let here = spot_is s.objects.values s.blocks.values n x (ap (store.spot_of n) c.self.view_is ∙ sym c.in-Some.ensures) in
    let ws : List ℕ = words_in (lot_at x s.blocks.values) in
    let is = written s.objects.values s.blocks.values s.given c.self.invariant n x here (with_word a.place a.value) (λ (l : List ℕ). slice_set l a.place a.value) (λ h. refl) (λ h. refl) in
    subst (λ b. Ties s.objects.values b s.given) (sym c.set_word_at.ensures) is.0

pub returns-in-Some : goal.returns-in-Some
returns-in-Some g c =
    let s = c.self.inside in
    let n = c.args.object in
    let a = c.args in
    let x = c.in-Some.spot in
    let here = spot_is s.objects.values s.blocks.values n x (ap (store.spot_of n) c.self.view_is ∙ sym c.in-Some.ensures) in
    let ws : List ℕ = words_in (lot_at x s.blocks.values) in
    let is = written s.objects.values s.blocks.values s.given c.self.invariant n x here (with_word a.place a.value) (λ (l : List ℕ). slice_set l a.place a.value) (λ h. refl) (λ h. refl) in
    ap (λ b. seen s.objects.values b s.given) c.set_word_at.ensures ∙ is.1 ∙ ap (λ v. store.with_word n a.place a.value v) c.self.view_is

pub invariant_of-self-2 : goal.invariant_of-self-2
invariant_of-self-2 g c =
    let s = c.self.inside in
    let n = c.args.object in
    let a = c.args in
    let e = c.in-Some-get_mut.entry.now in
    let there = sym c.in-Some-get_mut.ensures.value in
    let outside = sym (spot_of_entry s.objects.values s.blocks.values n e there) ∙ ap (store.spot_of n) c.self.view_is ∙ sym c.spot_of.ensures ∙ c.in_default.is in
    let is = standard_is s.blocks.values e outside in
    let ws = own_words e in
    let new = c.set_word.ensures ∙ ap (λ y. with_own_words (λ (l : List ℕ). slice_set l a.place a.value) y) is in
    subst (λ y. Ties (insert s.objects.values n y) s.blocks.values s.given) (sym new)
    (standard_ties s.objects.values s.blocks.values s.given c.self.invariant n ws (there ∙ ap (λ y. Some y) is) (λ (l : List ℕ). slice_set l a.place a.value))

pub returns : goal.returns
returns g c =
    let s = c.self.inside in
    let n = c.args.object in
    let a = c.args in
    let e = c.in-Some-get_mut.entry.now in
    let there = sym c.in-Some-get_mut.ensures.value in
    let outside = sym (spot_of_entry s.objects.values s.blocks.values n e there) ∙ ap (store.spot_of n) c.self.view_is ∙ sym c.spot_of.ensures ∙ c.in_default.is in
    let is = standard_is s.blocks.values e outside in
    let ws = own_words e in
    let new = c.set_word.ensures ∙ ap (λ y. with_own_words (λ (l : List ℕ). slice_set l a.place a.value) y) is in
    ap (λ y. seen (insert s.objects.values n y) s.blocks.values s.given) new
    ∙ standard_written s.objects.values s.blocks.values s.given c.self.invariant n ws (there ∙ ap (λ y. Some y) is) (λ (l : List ℕ). slice_set l a.place a.value)
    ∙ ap (λ v. store.with_word n a.place a.value v) c.self.view_is
