use Rattle.std.proofs.Common.{◌≡◌, ℕ, ◌+◌, ◌-◌, ◌*◌, ◌<◌, ◌≤◌, length, List, [], Option, Some, None, Bool, true, false, refl, sym, ap, subst, ◌∙◌, arith}
use Rattle.std.specs.Prelude.{slice_index_or}
use Rattle.std.specs.Option.{option_map, option_map_or}
use Rattle.std.specs.FinMap.{empty, get, insert, remove}
use Rattle.number_map.specs.Table.{mapped}
use Rattle.number_map.proofs.Mapped.{mapped_none, mapped_put, mapped_drop}
use Rattle.pool_area.specs.declared.lot.Lot.{Lot}
use Rattle.pool_area.specs.Lots.{Held, held_in, words_in, words_of, with_word, with_words_over, run_of}
use Rattle.pool_area.specs.Blocks.{Blocks, Keeps, is_vacant, with_block_out, with_block_back, with_holder, with_no_holder, with_word_of, with_words_of, words_at, object_at}
use Rattle.pool_area.proofs.BlockLemmas.{keeps_new, keeps_out, keeps_back, keeps_changed, keeps_any, lot_of}
use Rattle.pool_area.proofs.BlockViews.{view_of, with_out, unseen, seen_some, vacant_here, words_here, no_words_here, object_here, changed_view, unchanged_view}
use Rattle.pool_area.proofs.block_area.BlockArea.copy_within.Goals as goal

pub invariant_of-self-2 : goal.invariant_of-self-2
invariant_of-self-2 g c =
    let s = c.self.inside in
    keeps_changed s.pool s.size s.lots.size c.args.address s.lots.values c.in-Some.lot.now c.copy_within.new.self c.self.invariant (sym c.in-Some.ensures.value) c.copy_within.ensures.block c.copy_within.ensures.filled

pub returns : goal.returns
returns g c =
    let s = c.self.inside in
    let a = c.args in
    changed_view s.pool s.size s.lots.values a.address c.in-Some.lot.now c.copy_within.new.self (λ (h : Option Held). option_map (with_words_over a.to (run_of a.from a.count (words_at a.address c.args.self.now))) h) (sym c.in-Some.ensures.value) (c.copy_within.ensures.held ∙ ap (λ (ws : List ℕ). option_map (with_words_over a.to (run_of a.from a.count ws)) (held_in c.in-Some.lot.now)) (sym (words_here s.lots.values a.address c.in-Some.lot.now (sym c.in-Some.ensures.value)) ∙ ap (words_at a.address) c.self.view_is))
    ∙ ap (λ v. with_words_of a.address a.to (run_of a.from a.count (words_at a.address c.args.self.now)) v) c.self.view_is

pub returns-in_default : goal.returns-in_default
returns-in_default g c =
    let s = c.self.inside in
    let a = c.args in
    unchanged_view s.pool s.size s.lots.values a.address (λ (h : Option Held). option_map (with_words_over a.to (run_of a.from a.count (words_at a.address c.args.self.now))) h) (sym c.in_default.ensures.value) ∙ ap (λ v. with_words_of a.address a.to (run_of a.from a.count (words_at a.address c.args.self.now)) v) c.self.view_is

pub copy_within-requires-clause-from : goal.copy_within-requires-clause-from
copy_within-requires-clause-from g c =
    let s = c.self.inside in
    let a = c.args in
    subst (λ (ws : List ℕ). a.from + a.count ≤ length ws) (ap (words_at a.address) (sym c.self.view_is) ∙ words_here s.lots.values a.address c.in-Some.lot.now (sym c.in-Some.ensures.value)) c.requires.from

pub copy_within-requires-clause-to : goal.copy_within-requires-clause-to
copy_within-requires-clause-to g c =
    let s = c.self.inside in
    let a = c.args in
    subst (λ (ws : List ℕ). a.to + a.count ≤ length ws) (ap (words_at a.address) (sym c.self.view_is) ∙ words_here s.lots.values a.address c.in-Some.lot.now (sym c.in-Some.ensures.value)) c.requires.to
