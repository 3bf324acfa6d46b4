use Rattle.std.proofs.Common.{◌≡◌, ℕ, ◌+◌, ◌-◌, ◌*◌, ◌<◌, ◌≤◌, length, List, [], Some, None, Bool, true, false, refl, sym, ap, subst, ◌∙◌, arith}
use Rattle.std.specs.Prelude.{slice_index_or}
use Rattle.std.specs.Option.{option_map, option_map_or}
use Rattle.std.specs.FinMap.{empty, get, insert, remove}
use Rattle.number_map.specs.Table.{mapped}
use Rattle.number_map.proofs.Mapped.{mapped_none, mapped_put, mapped_drop}
use Rattle.pool_area.specs.declared.lot.Lot.{Lot}
use Rattle.pool_area.specs.Lots.{Held, held_in, words_in, words_of, with_word, with_words_over, run_of}
use Rattle.pool_area.specs.Blocks.{Blocks, Keeps, is_vacant, with_block_out, with_block_back, with_holder, with_no_holder, with_word_of, with_words_of, words_at, object_at}
use Rattle.pool_area.proofs.BlockLemmas.{keeps_new, keeps_out, keeps_back, keeps_changed, keeps_any, lot_of}
use Rattle.pool_area.proofs.BlockViews.{view_of, with_out, unseen, seen_some, vacant_here, words_here, no_words_here, object_here, changed_view, unchanged_view}
use Rattle.pool_area.proofs.block_area.BlockArea.len.Goals as goal

pub returns-in-Some : goal.returns-in-Some
returns-in-Some g c =
    c.len.ensures ∙ ap length (sym (words_here c.self.inside.lots.values c.args.address c.in-Some.lot.now (sym c.in-Some.ensures)) ∙ ap (words_at c.args.address) c.self.view_is)

pub returns-in-None : goal.returns-in-None
returns-in-None g c =
    ap length (sym (no_words_here c.self.inside.lots.values c.args.address (sym c.in-None.ensures)) ∙ ap (words_at c.args.address) c.self.view_is)
