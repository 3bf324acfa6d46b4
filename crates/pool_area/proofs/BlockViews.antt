-- What a contract sees of a block pool, as its blocks change.
use Rattle.std.proofs.Common.{◌≡◌, ℕ, ◌+◌, ◌-◌, ◌<◌, Bool, true, false, length, List, [], Option, Some, None, refl, sym, ap, subst, ◌∙◌}
use Rattle.std.specs.Prelude.{is_none}
use Rattle.std.specs.Ordering.{nat_cmp}
use Rattle.std.specs.Option.{option_map, option_map_or}
use Rattle.std.specs.FinMap.{FinMap, empty, get, insert, remove}
use Rattle.number_map.specs.Table.{mapped, change}
use Rattle.number_map.proofs.Mapped.{get_mapped, mapped_put, mapped_drop, mapped_changed, mapped_unchanged}
use Rattle.block_pool.specs.Pool.{Pool}
use Rattle.pool_area.specs.declared.lot.Lot.{Lot}
use Rattle.pool_area.specs.Lots.{Held, held_in, words_in, words_of}
use Rattle.pool_area.specs.Blocks.{Blocks, is_vacant, words_at, object_at}

-- what is seen of a pool with these blocks out
abbrev pub view_of : Pool → ℕ → FinMap nat_cmp Lot → Blocks
view_of p size lots = record { size = size; free = p.free; out = mapped held_in lots }

abbrev pub with_out : Blocks → FinMap nat_cmp (Option Held) → Blocks
with_out v out = record v { out = out }

none_under : (o : Option Lot) → option_map held_in o ≡ None → o ≡ None
none_under None e = refl
none_under (Some x) e = absurd (cc)

-- an address that is not seen has no block
pub unseen : (lots : FinMap nat_cmp Lot) (a : ℕ) → get (mapped held_in lots) a ≡ None → get lots a ≡ None
unseen lots a none = none_under (get lots a) (sym (get_mapped held_in lots a) ∙ none)

pub seen_some : (lots : FinMap nat_cmp Lot) (a : ℕ) (lot : Lot) → get lots a ≡ Some lot → get (mapped held_in lots) a ≡ Some (held_in lot)
seen_some lots a lot there = get_mapped held_in lots a ∙ ap (option_map held_in) there

pub seen_none : (lots : FinMap nat_cmp Lot) (a : ℕ) → get lots a ≡ None → get (mapped held_in lots) a ≡ None
seen_none lots a none = get_mapped held_in lots a ∙ ap (option_map held_in) none

pub vacant_here : (lots : FinMap nat_cmp Lot) (a : ℕ) (o : Option Lot) → get lots a ≡ o → option_map_or is_none (get (mapped held_in lots) a) false ≡ option_map_or (λ lot. is_none (held_in lot)) o false
vacant_here lots a None there = ap (λ o. option_map_or is_none o false) (seen_none lots a there)
vacant_here lots a (Some lot) there = ap (λ o. option_map_or is_none o false) (seen_some lots a lot there)

pub words_here : (lots : FinMap nat_cmp Lot) (a : ℕ) (lot : Lot) → get lots a ≡ Some lot → option_map_or words_of (get (mapped held_in lots) a) [] ≡ words_in lot
words_here lots a lot there = ap (λ o. option_map_or words_of o []) (seen_some lots a lot there)

pub no_words_here : (lots : FinMap nat_cmp Lot) (a : ℕ) → get lots a ≡ None → option_map_or words_of (get (mapped held_in lots) a) [] ≡ []
no_words_here lots a none = ap (λ o. option_map_or words_of o []) (seen_none lots a none)

pub object_here : (lots : FinMap nat_cmp Lot) (a : ℕ) (lot : Lot) → get lots a ≡ Some lot
    → option_map_or (λ h. option_map (λ x. x.object) h) (get (mapped held_in lots) a) None ≡ option_map (λ x. x.object) (held_in lot)
object_here lots a lot there = ap (λ o. option_map_or (λ h. option_map (λ x. x.object) h) o None) (seen_some lots a lot there)

-- what a block holds has changed
pub changed_view : (p : Pool) (size : ℕ) (lots : FinMap nat_cmp Lot) (a : ℕ) (old new : Lot) (f : Option Held → Option Held) → get lots a ≡ Some old → held_in new ≡ f (held_in old)
    → view_of p size (insert lots a new) ≡ with_out (view_of p size lots) (change a f (mapped held_in lots))
changed_view p size lots a old new f there held = ap (with_out (view_of p size lots)) (mapped_changed held_in lots a old new f there held)

pub unchanged_view : (p : Pool) (size : ℕ) (lots : FinMap nat_cmp Lot) (a : ℕ) (f : Option Held → Option Held) → get lots a ≡ None
    → view_of p size lots ≡ with_out (view_of p size lots) (change a f (mapped held_in lots))
unchanged_view p size lots a f none = ap (with_out (view_of p size lots)) (mapped_unchanged held_in lots a f none)
