use Rattle.std.proofs.Common.{◌≡◌, ℕ, ◌+◌, ◌-◌, ◌*◌, ◌<◌, ◌≤◌, length, List, [], Some, None, Bool, true, false, refl, sym, ap, subst, ◌∙◌, arith}
use Rattle.std.specs.Prelude.{slice_index_or}
use Rattle.std.specs.Option.{option_map, option_map_or}
use Rattle.std.specs.FinMap.{empty, get, insert, remove}
use Rattle.number_map.specs.Table.{mapped}
use Rattle.number_map.proofs.Mapped.{mapped_none, mapped_put, mapped_drop}
use Rattle.pool_area.specs.declared.lot.Lot.{Lot}
use Rattle.pool_area.specs.Lots.{Held, held_in, words_in, words_of, with_word, with_words_over, run_of}
use Rattle.pool_area.specs.Blocks.{Blocks, Keeps, is_vacant, with_block_out, with_block_back, with_holder, with_no_holder, with_word_of, with_words_of, words_at, object_at}
use Rattle.pool_area.proofs.BlockLemmas.{keeps_new, keeps_out, keeps_back, keeps_changed, keeps_any, lot_of}
use Rattle.pool_area.proofs.BlockViews.{view_of, with_out, unseen, seen_some, vacant_here, words_here, no_words_here, object_here, changed_view, unchanged_view}
use Rattle.pool_area.proofs.block_area.BlockArea.deallocate.Goals as goal

pub unreachable-requires : goal.unreachable-requires
unreachable-requires g c =
    let none = vacant_here c.self.inside.lots.values c.args.address None (sym c.in-None.ensures.value) in
    let was = ap (is_vacant c.args.address) c.self.view_is ∙ c.requires in
    absurd (cc (none, was))

pub give-requires : goal.give-requires
give-requires g c =
    let s = c.self.inside in
    let lot = lot_of s.pool s.size s.lots.size c.args.address s.lots.values c.in-Some.lot c.self.invariant (sym c.in-Some.ensures.value) in
    (ap (λ b. b.home) c.into_block.ensures ∙ lot.0.0, ap (λ b. length b.words) c.into_block.ensures ∙ lot.0.1)

pub invariant_of-self : goal.invariant_of-self
invariant_of-self g c =
    let s = c.self.inside in
    let e = c.in-Some.ensures in
    subst (λ t. Keeps c.give.new.self s.size t c.remove.new.self.size) (sym e.values)
    (keeps_back s.pool c.give.new.self s.size s.lots.size c.remove.new.self.size c.args.address s.lots.values c.self.invariant e.size c.give.ensures)

pub returns : goal.returns
returns g c =
    let s = c.self.inside in
    let e = c.in-Some.ensures in
    let after : mapped held_in c.remove.new.self.values ≡ remove (mapped held_in s.lots.values) c.args.address = ap (mapped held_in) e.values ∙ mapped_drop held_in s.lots.values c.args.address in
    let free : c.give.new.self.free ≡ s.pool.free + 1 = ap (λ p. p.free) c.give.ensures in
    let gone : view_of c.give.new.self s.size c.remove.new.self.values ≡ with_block_back c.args.address (view_of s.pool s.size s.lots.values) = λ i. record { size = s.size; free = free i; out = after i } in
    gone ∙ ap (with_block_back c.args.address) c.self.view_is
