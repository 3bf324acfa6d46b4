-- The functions on a mark pool (13.11.4, 13.11.6).
use Rattle.std.specs.Prelude.{ℕ, List, [], ◌∷◌, length, nat_lt, nat_eq, if◌then◌else◌}
use Rattle.ctl_program.specs.declared.operators.SubpoolFunction.{SubpoolFunction}
use Rattle.ctl_program.specs.declared.operators.SubpoolFunction.TheVariants.{Mark, Default}
use Rattle.ctl_meaning.specs.World.{MarkPool}
use Rattle.ctl_program.specs.Limits.{greatest_subpool_count}
use Rattle.ctl_meaning.specs.Pools.{block_pool_at, mark_pool_at, push_subpool, last_mark}
use Rattle.ctl_meaning.specs.Changes.{in_pools}
use Rattle.ctl_meaning.specs.Outcome.{storage_error, Act, ◌>>=◌, ◌>>◌, done, raise, look, change, either, on_some}
use Rattle.ctl_meaning.specs.Names.{gone}

-- a mark pool that is open, or a stop
unfoldable pub with_mark_pool : {A : Type 0} → ℕ → (MarkPool → Act A) → Act A
with_mark_pool n f = look (λ w. on_some (mark_pool_at n w.pools) gone (λ p. either p.is_open (f p) gone))

-- a further subpool, where there are not too many (profile)
unfoldable pub mark : ℕ → Act ℕ
mark n = with_mark_pool n (λ p. either (nat_lt (length p.marks) greatest_subpool_count) (look (λ w. change (in_pools (push_subpool n p.used)) >> done w.pools.next_subpool)) (raise storage_error))

unfoldable pub default_subpool : ℕ → Act ℕ
default_subpool n = with_mark_pool n (λ p. done (last_mark p))

unfoldable pub subpool_function : SubpoolFunction → ℕ → Act (List ℕ)
subpool_function Mark n = mark n >>= (λ s. done (s ∷ []))
subpool_function Default n = default_subpool n >>= (λ s. done (s ∷ []))

-- a discriminant of a pool, by its position
unfoldable pub discriminant : ℕ → ℕ → Act (List ℕ)
discriminant n i =
    look (λ w. on_some (block_pool_at n w.pools)
    (on_some (mark_pool_at n w.pools) gone (λ p. done (p.pool_size ∷ [])))
    (λ p. done ((if nat_eq i 0 then p.block_size else p.block_count) ∷ [])))

-- everything here, opened at once
unfoldable pub opened_marks : Unit {0}
unfolding with_mark_pool mark default_subpool subpool_function discriminant
opened_marks = tt
