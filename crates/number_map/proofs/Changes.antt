-- Finite maps by number: a value that is written again, or put in and taken out.
use Rattle.std.proofs.Common.{◌≡◌, ℕ, Bool, true, false, cond, None, Some, refl, sym, ap, ◌∙◌}
use Rattle.std.specs.Prelude.{nat_eq}
use Rattle.std.specs.Ordering.{nat_cmp}
use Rattle.std.specs.Cmp.{nat_cmp_total, unsigned_tied}
use Rattle.std.specs.FinMap.{FinMap, get, insert, remove, get-insert, get-remove, same_map, nat_cmp-IsAntisymmetric}
use borrow.Author.Tests.{eqb-true, eq-eqb, ne_eqb}

-- what a number gives after a value is put at another one, or at it
pub get_put : {V : Type 0} (t : FinMap nat_cmp V) (k q : ℕ) (v : V) → get (insert t k v) q ≡ cond (nat_eq q k) (Some v) (get t q)
get_put t k q v = get-insert nat_cmp_total t k v q ∙ ap (λ b. cond b (Some v) (get t q)) (unsigned_tied q k)

pub get_dropped : {V : Type 0} (t : FinMap nat_cmp V) (k q : ℕ) → get (remove t k) q ≡ cond (nat_eq q k) None (get t q)
get_dropped t k q = get-remove nat_cmp_total t k q ∙ ap (λ b. cond b None (get t q)) (unsigned_tied q k)

pub equal_maps : {V : Type 0} (s t : FinMap nat_cmp V) → ((q : ℕ) → get s q ≡ get t q) → s ≡ t
equal_maps s t same = same_map nat_cmp_total nat_cmp-IsAntisymmetric s t same

-- to write the value that is there changes nothing
pub insert_same : {V : Type 0} (t : FinMap nat_cmp V) (k : ℕ) (v : V) → get t k ≡ Some v → insert t k v ≡ t
insert_same t k v there = equal_maps (insert t k v) t (λ q. get_put t k q v ∙ by q (nat_eq q k) refl)
  where
    by : (q : ℕ) (b : Bool) → nat_eq q k ≡ b → cond b (Some v) (get t q) ≡ get t q
    by q true e = sym there ∙ ap (get t) (sym (eqb-true q k e))
    by q false e = refl

-- the number that was written last has that value
pub get_here : {V : Type 0} (t : FinMap nat_cmp V) (k : ℕ) (v : V) → get (insert t k v) k ≡ Some v
get_here t k v = get_put t k k v ∙ ap (λ b. cond b (Some v) (get t k)) (eq-eqb k k refl)

-- another number has what it had
pub get_there : {V : Type 0} (t : FinMap nat_cmp V) (k q : ℕ) (v : V) → (q ≡ k → ⊥) → get (insert t k v) q ≡ get t q
get_there t k q v apart = get_put t k q v ∙ ap (λ b. cond b (Some v) (get t q)) (ne_eqb q k apart)

-- of two values that are written at one number the second stays
pub insert_again : {V : Type 0} (t : FinMap nat_cmp V) (k : ℕ) (v w : V) → insert (insert t k v) k w ≡ insert t k w
insert_again t k v w = equal_maps (insert (insert t k v) k w) (insert t k w) (λ q.
    get_put (insert t k v) k q w ∙ by q (nat_eq q k) refl ∙ sym (get_put t k q w))
  where
    by : (q : ℕ) (b : Bool) → nat_eq q k ≡ b → cond b (Some w) (get (insert t k v) q) ≡ cond b (Some w) (get t q)
    by q true e = refl
    by q false e = get_put t k q v ∙ ap (λ b. cond b (Some v) (get t q)) e

-- a value that is written where one was removed
pub insert_removed : {V : Type 0} (t : FinMap nat_cmp V) (k : ℕ) (v : V) → insert (remove t k) k v ≡ insert t k v
insert_removed t k v = equal_maps (insert (remove t k) k v) (insert t k v) (λ q.
    get_put (remove t k) k q v ∙ by q (nat_eq q k) refl ∙ sym (get_put t k q v))
  where
    by : (q : ℕ) (b : Bool) → nat_eq q k ≡ b → cond b (Some v) (get (remove t k) q) ≡ cond b (Some v) (get t q)
    by q true e = refl
    by q false e = get_dropped t k q ∙ ap (λ b. cond b None (get t q)) e

pub get_gone : {V : Type 0} (t : FinMap nat_cmp V) (k : ℕ) → get (remove t k) k ≡ None
get_gone t k = get_dropped t k k ∙ ap (λ b. cond b None (get t k)) (eq-eqb k k refl)
