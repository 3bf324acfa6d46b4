use Rattle.std.proofs.Common.{◌≡◌, ℕ, ◌+◌, ◌-◌, ◌*◌, ◌<◌, ◌≤◌, length, List, [], Some, None, Bool, true, false, refl, sym, ap, subst, ◌∙◌, arith}
use Rattle.std.specs.Prelude.{slice_index_or, IsSome}
use Rattle.std.specs.Option.{option_map, option_map_or}
use Rattle.std.specs.FinMap.{empty, get, insert, remove}
use Rattle.number_map.specs.Table.{mapped}
use Rattle.number_map.proofs.Mapped.{mapped_none, mapped_put, mapped_drop}
use Rattle.pool_area.specs.declared.lot.Lot.{Lot}
use Rattle.pool_area.specs.Lots.{Held, held_in, words_in, words_of, with_word, with_words_over, run_of}
use Rattle.pool_area.specs.Blocks.{Blocks, Keeps, is_vacant, with_block_out, with_block_back, with_holder, with_no_holder, with_word_of, with_words_of, words_at, object_at}
use Rattle.pool_area.proofs.BlockLemmas.{keeps_new, keeps_out, keeps_back, keeps_changed, keeps_any, keeps_none, lot_of}
use Rattle.pool_area.proofs.BlockViews.{view_of, with_out, unseen, seen_some, vacant_here, words_here, no_words_here, object_here, changed_view, unchanged_view}
use Rattle.pool_area.proofs.block_area.BlockArea.give_back.Goals as goal

pub invariant_of-self : goal.invariant_of-self
invariant_of-self g c =
    let s = c.self.inside in
    let e = c.in_default.ensures in
    keeps_none s.pool s.size s.lots.size c.pop.new.self.size s.lots.values c.pop.new.self.values c.self.invariant e.1 e.2 e.3

pub returns-in_default : goal.returns-in_default
returns-in_default g c =
    ap (λ v. v.out) (sym c.self.view_is) ∙ ap (mapped held_in) c.in_default.ensures.0 ∙ mapped_none held_in

pub invariant_of-self-2 : goal.invariant_of-self-2
invariant_of-self-2 g c =
    let s = c.self.inside in
    let e = c.in-Some.ensures in
    subst (λ t. Keeps c.give.new.self s.size t c.pop.new.self.size) (sym e.1)
    (keeps_back s.pool c.give.new.self s.size s.lots.size c.pop.new.self.size c.in-Some.address s.lots.values c.self.invariant e.2 c.give.ensures)

pub returns : goal.returns
returns g c =
    let s = c.self.inside in
    let e = c.in-Some.ensures in
    let a = c.in-Some.address in
    let after : mapped held_in c.pop.new.self.values ≡ remove (mapped held_in s.lots.values) a = ap (mapped held_in) e.1 ∙ mapped_drop held_in s.lots.values a in
    let free : c.give.new.self.free ≡ s.pool.free + 1 = ap (λ p. p.free) c.give.ensures in
    let gone : view_of c.give.new.self s.size c.pop.new.self.values ≡ with_block_back a (view_of s.pool s.size s.lots.values) = λ i. record { size = s.size; free = free i; out = after i } in
    let seen : get (mapped held_in s.lots.values) a ≡ Some (held_in c.in-Some.lot) = seen_some s.lots.values a c.in-Some.lot e.0 in (
      subst IsSome (sym (ap (λ v. get v.out a) (sym c.self.view_is) ∙ seen)) refl,
      c.object-object.ensures ∙ sym (object_here s.lots.values a c.in-Some.lot e.0) ∙ ap (object_at a) c.self.view_is,
      gone ∙ ap (with_block_back a) c.self.view_is,
    )
