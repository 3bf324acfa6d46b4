use Rattle.std.proofs.Common.{◌≡◌, ℕ, ◌+◌, ◌-◌, ◌*◌, ◌<◌, ◌≤◌, length, List, [], Some, None, Bool, true, false, refl, sym, ap, subst, ◌∙◌, arith}
use Rattle.std.specs.Prelude.{slice_index_or}
use Rattle.std.specs.Option.{option_map, option_map_or}
use Rattle.std.specs.FinMap.{empty, get, insert, remove}
use Rattle.number_map.specs.Table.{mapped}
use Rattle.number_map.proofs.Mapped.{mapped_none, mapped_put, mapped_drop}
use Rattle.pool_area.specs.declared.lot.Lot.{Lot}
use Rattle.pool_area.specs.Lots.{Held, held_in, words_in, words_of, with_word, with_words_over, run_of}
use Rattle.pool_area.specs.Blocks.{Blocks, Keeps, is_vacant, with_block_out, with_block_back, with_holder, with_no_holder, with_word_of, with_words_of, words_at, object_at}
use Rattle.pool_area.proofs.BlockLemmas.{keeps_new, keeps_out, keeps_back, keeps_changed, keeps_any, lot_of}
use Rattle.pool_area.proofs.BlockViews.{view_of, with_out, unseen, seen_some, vacant_here, words_here, no_words_here, object_here, changed_view, unchanged_view}
use Rattle.pool_area.proofs.block_area.BlockArea.allocate.Goals as goal

pub put_new-requires-clause-new : goal.put_new-requires-clause-new
put_new-requires-clause-new g c =
    ap (λ t. get t c.args.address) c.reserve.ensures.values ∙ unseen c.self.inside.lots.values c.args.address (ap (λ v. get v.out c.args.address) c.self.view_is ∙ c.requires.new)

pub invariant_of-self-in-Some : goal.invariant_of-self-in-Some
invariant_of-self-in-Some g c =
    let s = c.self.inside in
    let e = c.in-Some.ensures in
    let lot : Lot = record { block = c.in-Some.block; occupant = None } in
    let values = c.put_new.ensures.values ∙ ap (λ t. insert t c.args.address lot) c.reserve.ensures.values in
    let size = c.put_new.ensures.size ∙ ap (λ n. n + 1) c.reserve.ensures.size in
    subst (λ m. Keeps c.take.new.self s.size m c.put_new.new.self.size) (sym values)
    (subst (λ n. Keeps c.take.new.self s.size (insert s.lots.values c.args.address lot) n) (sym size)
    (keeps_out s.pool c.take.new.self s.size s.lots.size c.args.address s.lots.values lot c.self.invariant (e.1, tt) e.3 e.4))

pub returns-clause-ok : goal.returns-clause-ok
returns-clause-ok g c =
    let s = c.self.inside in
    let e = c.in-Some.ensures in
    let lot : Lot = record { block = c.in-Some.block; occupant = None } in
    let values = c.put_new.ensures.values ∙ ap (λ t. insert t c.args.address lot) c.reserve.ensures.values in
    let after = ap (mapped held_in) values ∙ mapped_put held_in s.lots.values c.args.address lot in
    let free : c.take.new.self.free ≡ s.pool.free - 1 = omega (arith, e.3) in
    let more : view_of c.take.new.self s.size c.put_new.new.self.values ≡ with_block_out c.args.address (view_of s.pool s.size s.lots.values) = λ i. record { size = s.size; free = free i; out = after i } in
    more ∙ ap (with_block_out c.args.address) c.self.view_is
