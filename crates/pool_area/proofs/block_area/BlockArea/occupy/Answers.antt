use Rattle.std.proofs.Common.{◌≡◌, ℕ, ◌+◌, ◌-◌, ◌*◌, ◌<◌, ◌≤◌, length, List, [], Some, None, Bool, true, false, refl, sym, ap, subst, ◌∙◌, arith}
use Rattle.std.specs.Prelude.{slice_index_or}
use Rattle.std.specs.Option.{option_map, option_map_or}
use Rattle.std.specs.FinMap.{empty, get, insert, remove}
use Rattle.number_map.specs.Table.{mapped}
use Rattle.number_map.proofs.Mapped.{mapped_none, mapped_put, mapped_drop}
use Rattle.pool_area.specs.declared.lot.Lot.{Lot}
use Rattle.pool_area.specs.Lots.{Held, held_in, words_in, words_of, with_word, with_words_over, run_of}
use Rattle.pool_area.specs.Blocks.{Blocks, Keeps, is_vacant, with_block_out, with_block_back, with_holder, with_no_holder, with_word_of, with_words_of, words_at, object_at}
use Rattle.pool_area.proofs.BlockLemmas.{keeps_new, keeps_out, keeps_back, keeps_changed, keeps_any, lot_of}
use Rattle.pool_area.proofs.BlockViews.{view_of, with_out, unseen, seen_some, vacant_here, words_here, no_words_here, object_here, changed_view, unchanged_view}
use Rattle.pool_area.proofs.block_area.BlockArea.occupy.Goals as goal

pub hold-requires : goal.hold-requires
hold-requires g c =
    let s = c.self.inside in
    let lot = lot_of s.pool s.size s.lots.size c.args.address s.lots.values c.in-Some.lot.now c.self.invariant (sym c.in-Some.ensures.value) in
    let size : s.size ≡ c.args.self.now.size = ap (λ v. v.size) c.self.view_is in
    let whole : length c.in-Some.lot.now.block.words ≡ s.pool.block_words = lot.0.1 in
    omega (arith, c.self.invariant.fits, c.requires.fits)

pub unreachable-requires : goal.unreachable-requires
unreachable-requires g c =
    let none = vacant_here c.self.inside.lots.values c.args.address None (sym c.in-None.ensures.value) in
    let was = ap (is_vacant c.args.address) c.self.view_is ∙ c.requires.vacant in
    absurd (cc (none, was))

pub invariant_of-self : goal.invariant_of-self
invariant_of-self g c =
    let s = c.self.inside in
    keeps_changed s.pool s.size s.lots.size c.args.address s.lots.values c.in-Some.lot.now c.hold.new.self c.self.invariant (sym c.in-Some.ensures.value) c.hold.ensures.block c.hold.ensures.filled

pub returns : goal.returns
returns g c =
    let s = c.self.inside in
    ap (with_out (view_of s.pool s.size s.lots.values)) (mapped_put held_in s.lots.values c.args.address c.hold.new.self ∙ ap (insert (mapped held_in s.lots.values) c.args.address) c.hold.ensures.held)
    ∙ ap (λ v. with_holder c.args.address c.args.object c.args.words v) c.self.view_is
