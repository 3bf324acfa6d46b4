use Rattle.std.proofs.Common.{◌≡◌, ℕ, ◌+◌, ◌-◌, ◌*◌, ◌<◌, ◌≤◌, length, List, [], Some, None, Bool, true, false, refl, sym, ap, subst, ◌∙◌, arith}
use Rattle.std.specs.Prelude.{slice_index_or}
use Rattle.std.specs.Option.{option_map, option_map_or}
use Rattle.std.specs.FinMap.{empty, get, insert, remove}
use Rattle.number_map.specs.Table.{mapped}
use Rattle.number_map.proofs.Mapped.{mapped_none, mapped_put, mapped_drop}
use Rattle.pool_area.specs.declared.lot.Lot.{Lot}
use Rattle.pool_area.specs.Lots.{Held, held_in, words_in, words_of, with_word, with_words_over, run_of}
use Rattle.pool_area.specs.Blocks.{Blocks, Keeps, is_vacant, with_block_out, with_block_back, with_holder, with_no_holder, with_word_of, with_words_of, words_at, object_at}
use Rattle.pool_area.proofs.BlockLemmas.{keeps_new, keeps_out, keeps_back, keeps_changed, keeps_any, keeps_none, lot_of}
use Rattle.pool_area.proofs.BlockViews.{view_of, with_out, unseen, seen_some, vacant_here, words_here, no_words_here, object_here, changed_view, unchanged_view}
use Rattle.pool_area.proofs.block_area.BlockArea.close.Goals as goal

pub loop-lot-preserved : goal.loop-lot-preserved
loop-lot-preserved g c =
    let e = c.in-Some.ensures in
    subst (λ t. Keeps c.give.new.self 0 t c.pop.new.self.size) (sym e.1)
    (keeps_back c.loop-lot.pool c.give.new.self 0 c.loop-lot.lots.size c.pop.new.self.size c.in-Some.field-0-0 c.loop-lot.lots.values c.loop-lot.invariant e.2 c.give.ensures)

pub close-requires : goal.close-requires
close-requires g c = omega (arith, c.loop-lot.invariant.total, c.in_default.ensures)
