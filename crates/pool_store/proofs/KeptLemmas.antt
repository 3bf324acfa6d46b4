-- What a finite map gives once only some of its values are kept.
use Rattle.std.proofs.Common.{◌≡◌, ℕ, Bool, true, false, cond, Option, Some, None, refl, sym, ap, ◌∙◌}
use Rattle.std.specs.Ordering.{nat_cmp}
use Rattle.std.specs.Option.{option_map_or}
use Rattle.std.specs.FinMap.{FinMap, get, get-retain_keys, nat_cmp-IsAntisymmetric}
use Rattle.pool_store.specs.Kept.{kept, kept_if}

pub get_kept : {V : Type 0} (passes : V → Bool) (t : FinMap nat_cmp V) (q : ℕ) → get (kept passes t) q ≡ kept_if passes (get t q)
unfolding kept
get_kept {V} passes t q =
    let test : ℕ → Bool = λ n. option_map_or passes (get t n) false in
    get-retain_keys t test q (λ x e. ap test (sym (nat_cmp-IsAntisymmetric q x e))) ∙ by (get t q)
  where
    by : (o : Option V) → cond (option_map_or passes o false) o None ≡ kept_if passes o
    by None = refl
    by (Some v) = refl

-- what passed once passes again
pub kept_again : {V : Type 0} (passes : V → Bool) (o : Option V) → kept_if passes (kept_if passes o) ≡ kept_if passes o
kept_again passes None = refl
kept_again {V} passes (Some v) = by (passes v) refl
  where
    by : (b : Bool) → passes v ≡ b → kept_if passes (cond b (Some v) None) ≡ cond b (Some v) None
    by true e = ap (λ t. cond t (Some v) None) e
    by false e = refl
