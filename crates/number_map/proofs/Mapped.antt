-- Finite maps by number, with each value as another one.
use Rattle.std.proofs.Common.{◌≡◌, ℕ, Bool, true, false, cond, List, [], ◌∷◌, map, Option, None, Some, refl, sym, ap, ◌∙◌}
use Rattle.std.specs.Prelude.{nat_eq}
use Rattle.std.specs.Ordering.{nat_cmp, eq_by_cmp}
use Rattle.std.specs.Option.{option_map, option_map_or}
use Rattle.std.specs.Cmp.{nat_cmp_total}
use Rattle.std.specs.FinMap.{FinMap, empty, entries, find, get, insert, remove, get-empty, get-entries, get-from_entries}
use Rattle.number_map.specs.Table.{mapped, change}
use Rattle.number_map.proofs.Changes.{get_put, get_dropped, equal_maps}

find_mapped : {V W : Type 0} (f : V → W) (es : List (ℕ × V)) (q : ℕ) → find nat_cmp q (map (λ e. (e.0, f e.1)) es) ≡ option_map f (find nat_cmp q es)
find_mapped f [] q = refl
find_mapped {V} {W} f (e ∷ es) q = by (eq_by_cmp nat_cmp q e.0) (find_mapped f es q)
  where
    by : (b : Bool) → find nat_cmp q (map (λ x. (x.0, f x.1)) es) ≡ option_map f (find nat_cmp q es)
        → cond b (Some (f e.1)) (find nat_cmp q (map (λ x. (x.0, f x.1)) es)) ≡ option_map f (cond b (Some e.1) (find nat_cmp q es))
    by true more = refl
    by false more = more

-- what a number gives
pub get_mapped : {V W : Type 0} (f : V → W) (t : FinMap nat_cmp V) (q : ℕ) → get (mapped f t) q ≡ option_map f (get t q)
unfolding mapped
get_mapped f t q = get-from_entries nat_cmp_total (map (λ e. (e.0, f e.1)) (entries t)) q ∙ find_mapped f (entries t) q ∙ ap (option_map f) (sym (get-entries t q))

pub mapped_none : {V W : Type 0} (f : V → W) → mapped f empty ≡ empty
mapped_none {V} {W} f =
    let none : FinMap nat_cmp V = empty in
    let nothing : FinMap nat_cmp W = empty in
    equal_maps (mapped f none) nothing (λ q. get_mapped f none q ∙ ap (option_map f) (get-empty nat_cmp q) ∙ sym (get-empty nat_cmp q))

pub mapped_put : {V W : Type 0} (f : V → W) (t : FinMap nat_cmp V) (k : ℕ) (v : V) → mapped f (insert t k v) ≡ insert (mapped f t) k (f v)
mapped_put {V} {W} f t k v = equal_maps (mapped f (insert t k v)) (insert (mapped f t) k (f v)) (λ q.
    get_mapped f (insert t k v) q ∙ ap (option_map f) (get_put t k q v) ∙ by q (nat_eq q k) ∙ sym (get_put (mapped f t) k q (f v)))
  where
    by : (q : ℕ) (b : Bool) → option_map f (cond b (Some v) (get t q)) ≡ cond b (Some (f v)) (get (mapped f t) q)
    by q true = refl
    by q false = sym (get_mapped f t q)

pub mapped_drop : {V W : Type 0} (f : V → W) (t : FinMap nat_cmp V) (k : ℕ) → mapped f (remove t k) ≡ remove (mapped f t) k
mapped_drop {V} {W} f t k = equal_maps (mapped f (remove t k)) (remove (mapped f t) k) (λ q.
    get_mapped f (remove t k) q ∙ ap (option_map f) (get_dropped t k q) ∙ by q (nat_eq q k) ∙ sym (get_dropped (mapped f t) k q))
  where
    by : (q : ℕ) (b : Bool) → option_map f (cond b None (get t q)) ≡ cond b None (get (mapped f t) q)
    by q true = refl
    by q false = sym (get_mapped f t q)

-- a value that was changed, seen as another one
pub mapped_changed : {V W : Type 0} (f : V → W) (t : FinMap nat_cmp V) (k : ℕ) (v w : V) (g : W → W) → get t k ≡ Some v → f w ≡ g (f v)
    → mapped f (insert t k w) ≡ change k g (mapped f t)
mapped_changed f t k v w g there same =
    let seen : get (mapped f t) k ≡ Some (f v) = get_mapped f t k ∙ ap (option_map f) there in
    mapped_put f t k w ∙ ap (insert (mapped f t) k) same
    ∙ sym (ap (λ o. option_map_or (λ x. insert (mapped f t) k (g x)) o (mapped f t)) seen)

-- nothing is changed where there is no value
pub mapped_unchanged : {V W : Type 0} (f : V → W) (t : FinMap nat_cmp V) (k : ℕ) (g : W → W) → get t k ≡ None → mapped f t ≡ change k g (mapped f t)
mapped_unchanged f t k g none =
    sym (ap (λ o. option_map_or (λ x. insert (mapped f t) k (g x)) o (mapped f t)) (get_mapped f t k ∙ ap (option_map f) none))

-- where the other value of a number is none, it has none
pub unmapped : {V W : Type 0} (f : V → W) (t : FinMap nat_cmp V) (q : ℕ) → get (mapped f t) q ≡ None → get t q ≡ None
unmapped {V} f t q none = by (get t q) (sym (get_mapped f t q) ∙ none)
  where
    by : (o : Option V) → option_map f o ≡ None → o ≡ None
    by None e = refl
    by (Some v) e = absurd (cc)
