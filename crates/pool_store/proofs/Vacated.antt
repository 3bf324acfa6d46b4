-- That nothing changes where an object that is gone is vacated.
use Rattle.std.proofs.Common.{◌≡◌, ℕ, Bool, true, false, cond, Option, Some, None, Result, Ok, Err, refl, sym, ap, ◌∙◌}
use Rattle.std.specs.Prelude.{OnErr, nat_eq}
use Rattle.std.specs.Option.{option_map, option_map_or}
use Rattle.std.specs.FinMap.{get, remove}
use Rattle.number_map.proofs.Changes.{get_dropped, equal_maps}
use borrow.Author.Tests.{eqb-true}
use Rattle.pool_store.specs.Entries.{Stored}
use Rattle.pool_store.specs.Store as store
use Rattle.pool_store.specs.Store.{Store}
use Rattle.pool_store.specs.declared.block_store.Address.{Address}
use Rattle.pool_store.specs.declared.fault.StoreFault.{StoreFault}
use Rattle.pool_store.specs.declared.fault.StoreFault.TheVariants.{Gone}

-- an object that is not held leaves no trace
without_none : (n : ℕ) (s : Store) → get s.objects n ≡ None → store.without_object n s ≡ s
without_none n s none =
    let same = equal_maps (remove s.objects n) s.objects (λ q. get_dropped s.objects n q ∙ by q (nat_eq q n) refl) in
    let blocks = ap (λ o. store.freed_spot (option_map_or (λ (x : Stored). x.spot) o None) s.blocks) none in
    λ i. record s { objects = same i; blocks = blocks i }
  where
    by : (q : ℕ) (b : Bool) → nat_eq q n ≡ b → cond b None (get s.objects q) ≡ get s.objects q
    by q true e = sym none ∙ ap (get s.objects) (sym (eqb-true q n e))
    by q false e = refl

pub vacated_or_kept : (n : ℕ) (s new : Store) (r : Result (Option Address) StoreFault) → r ≡ store.vacated n s → new ≡ store.without_object n s → OnErr r (new ≡ s)
vacated_or_kept n s new r answer after = by (get s.objects n) refl r answer
  where
    by : (o : Option Stored) → get s.objects n ≡ o → (r : Result (Option Address) StoreFault) → r ≡ option_map_or (λ o. Ok (option_map (λ x. record { 0 = x.address }) o.spot)) o (Err Gone) → OnErr r (new ≡ s)
    by None none (Ok x) e = tt
    by None none (Err fault) e = after ∙ without_none n s none
    by (Some o) there (Ok x) e = tt
    by (Some o) there (Err fault) e = absurd (cc)
