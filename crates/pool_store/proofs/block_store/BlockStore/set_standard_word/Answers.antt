use Rattle.std.proofs.Common.{◌≡◌, ℕ, ◌+◌, ◌≤◌, length, List, Option, Some, sym, ap, subst, ◌∙◌, arith}
use Rattle.std.specs.Prelude.{IfSome, is_some, slice_set}
use Rattle.std.specs.FinMap.{get, insert}
use Rattle.number_map.proofs.Changes.{insert_same}
use Rattle.pool_store.specs.Entries.{Stored, Ties, own_words, stored_in, with_own_words}
use Rattle.pool_store.specs.Store as store
use Rattle.pool_store.specs.Store.{Store}
use Rattle.pool_store.proofs.Steps.{entry_seen, is_standard, seen, standard_ties, standard_written}
use Rattle.pool_store.proofs.block_store.BlockStore.set_standard_word.Goals as goal

-- it lies in a block
pub invariant_of-self-then-is_some : goal.invariant_of-self-then-is_some
invariant_of-self-then-is_some g c =
    let s = c.self.inside in
    let same = insert_same s.objects.values c.args.object c.in-Some.entry.now (sym c.in-Some.ensures.value) in
    subst (λ t. Ties t s.blocks.values s.given) (sym same) c.self.invariant

pub returns-then-is_some-clause-kept : goal.returns-then-is_some-clause-kept
returns-then-is_some-clause-kept g c =
    let s = c.self.inside in
    let same = insert_same s.objects.values c.args.object c.in-Some.entry.now (sym c.in-Some.ensures.value) in
    ap (λ t. seen t s.blocks.values s.given) same ∙ c.self.view_is

-- its word is written
pub set_word-requires : goal.set_word-requires
set_word-requires g c =
    let s = c.self.inside in
    let n = c.args.object in
    let a = c.args in
    let e = c.in-Some.entry.now in
    let there = sym c.in-Some.ensures.value in
    let is = is_standard e (sym (ap (λ o. is_some o) c.spot.ensures) ∙ (sym c.is_some.ensures ∙ c.if-is_some.false)) in
    let ws = own_words e in
    let here : get c.args.self.now.objects n ≡ Some (stored_in s.blocks.values e) = sym (ap (λ v. get v.objects n) c.self.view_is) ∙ entry_seen s.objects.values s.blocks.values n e there in
    let fits : a.place + 1 ≤ length (stored_in s.blocks.values e).words = subst (λ (o : Option Stored). IfSome o (λ x. a.place + 1 ≤ length x.words)) here c.requires in
    let long : length (stored_in s.blocks.values e).words ≡ length ws = ap (λ x. length (stored_in s.blocks.values x).words) is in
    omega arith

pub invariant_of-self-2 : goal.invariant_of-self-2
invariant_of-self-2 g c =
    let s = c.self.inside in
    let n = c.args.object in
    let a = c.args in
    let e = c.in-Some.entry.now in
    let there = sym c.in-Some.ensures.value in
    let is = is_standard e (sym (ap (λ o. is_some o) c.spot.ensures) ∙ (sym c.is_some.ensures ∙ c.if-is_some.false)) in
    let ws = own_words e in
    let new = c.set_word.ensures ∙ ap (λ y. with_own_words (λ (l : List ℕ). slice_set l a.place a.value) y) is in
    subst (λ y. Ties (insert s.objects.values n y) s.blocks.values s.given) (sym new)
    (standard_ties s.objects.values s.blocks.values s.given c.self.invariant n ws (there ∙ ap (λ y. Some y) is) (λ (l : List ℕ). slice_set l a.place a.value))

pub returns-clause-held : goal.returns-clause-held
returns-clause-held g c =
    let s = c.self.inside in
    let n = c.args.object in
    sym (ap (λ v. is_some (get v.objects n)) c.self.view_is) ∙ ap (λ o. is_some o) (entry_seen s.objects.values s.blocks.values n c.in-Some.entry.now (sym c.in-Some.ensures.value))

pub returns-clause-written : goal.returns-clause-written
returns-clause-written g c =
    let s = c.self.inside in
    let n = c.args.object in
    let a = c.args in
    let e = c.in-Some.entry.now in
    let there = sym c.in-Some.ensures.value in
    let is = is_standard e (sym (ap (λ o. is_some o) c.spot.ensures) ∙ (sym c.is_some.ensures ∙ c.if-is_some.false)) in
    let ws = own_words e in
    let new = c.set_word.ensures ∙ ap (λ y. with_own_words (λ (l : List ℕ). slice_set l a.place a.value) y) is in
    ap (λ y. seen (insert s.objects.values n y) s.blocks.values s.given) new
    ∙ standard_written s.objects.values s.blocks.values s.given c.self.invariant n ws (there ∙ ap (λ y. Some y) is) (λ (l : List ℕ). slice_set l a.place a.value)
    ∙ ap (λ v. store.with_word n a.place a.value v) c.self.view_is
