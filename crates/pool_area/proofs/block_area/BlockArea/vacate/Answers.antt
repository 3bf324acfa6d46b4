use Rattle.std.proofs.Common.{◌≡◌, ℕ, ◌+◌, ◌-◌, ◌*◌, ◌<◌, ◌≤◌, length, List, [], Option, Some, None, Bool, true, false, refl, sym, ap, subst, ◌∙◌, arith}
use Rattle.std.specs.Prelude.{slice_index_or}
use Rattle.std.specs.Option.{option_map, option_map_or}
use Rattle.std.specs.FinMap.{empty, get, insert, remove}
use Rattle.number_map.specs.Table.{mapped}
use Rattle.number_map.proofs.Mapped.{mapped_none, mapped_put, mapped_drop}
use Rattle.pool_area.specs.declared.lot.Lot.{Lot}
use Rattle.pool_area.specs.Lots.{Held, held_in, words_in, words_of, with_word, with_words_over, run_of}
use Rattle.pool_area.specs.Blocks.{Blocks, Keeps, is_vacant, with_block_out, with_block_back, with_holder, with_no_holder, with_word_of, with_words_of, words_at, object_at}
use Rattle.pool_area.proofs.BlockLemmas.{keeps_new, keeps_out, keeps_back, keeps_changed, keeps_any, lot_of}
use Rattle.pool_area.proofs.BlockViews.{view_of, with_out, unseen, seen_some, vacant_here, words_here, no_words_here, object_here, changed_view, unchanged_view}
use Rattle.pool_area.proofs.block_area.BlockArea.vacate.Goals as goal

pub invariant_of-self-2 : goal.invariant_of-self-2
invariant_of-self-2 g c =
    let s = c.self.inside in
    keeps_changed s.pool s.size s.lots.size c.args.address s.lots.values c.in-Some.lot.now c.vacate.new.self c.self.invariant (sym c.in-Some.ensures.value) c.vacate.ensures.block c.vacate.ensures.filled

pub returns : goal.returns
returns g c =
    let s = c.self.inside in
    let a = c.args in
    changed_view s.pool s.size s.lots.values a.address c.in-Some.lot.now c.vacate.new.self (λ (h : Option Held). None) (sym c.in-Some.ensures.value) (c.vacate.ensures.held)
    ∙ ap (λ v. with_no_holder a.address v) c.self.view_is

pub returns-in_default : goal.returns-in_default
returns-in_default g c =
    let s = c.self.inside in
    let a = c.args in
    unchanged_view s.pool s.size s.lots.values a.address (λ (h : Option Held). None) (sym c.in_default.ensures.value) ∙ ap (λ v. with_no_holder a.address v) c.self.view_is
