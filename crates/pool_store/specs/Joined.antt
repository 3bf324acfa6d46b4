-- Two stores side by side: one with the standard pool and the pools of blocks, one with the pools with marks.
use Rattle.std.specs.Prelude.{◌≡◌, ℕ, ◌++◌, None, IfSome}
use Rattle.std.specs.Ordering.{nat_cmp}
use Rattle.std.specs.FinMap.{FinMap, entries, from_entries, get}
use Rattle.pool_store.specs.Store.{Store}

-- the values of two maps, those of the first where both have one
unfoldable pub joined : {V : Type 0} → FinMap nat_cmp V → FinMap nat_cmp V → FinMap nat_cmp V
joined s t = from_entries (entries s ++ entries t)

abbrev pub side_by_side : Store → Store → Store
side_by_side a b = record { objects = joined a.objects b.objects; blocks = a.blocks; given = a.given; marks = b.marks; opened = b.opened; next_subpool = b.next_subpool }

-- no object is in both
abbrev pub AreApart : Store → Store → Type 0
AreApart a b = (n : ℕ) → IfSome (get a.objects n) (λ o. get b.objects n ≡ None)

-- no object lies in a subpool
abbrev pub AreOutside : Store → Type 0
AreOutside a = (n : ℕ) → IfSome (get a.objects n) (λ o. o.site ≡ None)
