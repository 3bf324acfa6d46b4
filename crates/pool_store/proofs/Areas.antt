-- Pools of blocks as they change: what is seen of them, and which addresses were given.
use Rattle.std.proofs.Common.{◌≡◌, ℕ, zero, suc, ◌+◌, ◌-◌, ◌<◌, ◌≤◌, Bool, true, false, cond, Option, Some, None, refl, sym, ap, subst, ◌∙◌, arith}
use Rattle.std.specs.Prelude.{nat_eq, nat_lt, nat_le, is_none, ◌||◌, ◌&&◌, IfSome}
use Rattle.std.specs.Ordering.{nat_cmp}
use Rattle.std.proofs.lemmas.Bool.Decides.{nat_tests}
use Rattle.std.specs.Option.{option_map, option_map_or}
use Rattle.std.specs.FinMap.{FinMap, get, insert, remove}
use borrow.Author.Tests.{eqb-true}
use Rattle.number_map.specs.Table.{mapped, change, AreGiven}
use Rattle.number_map.proofs.Changes.{get_put, get_dropped, get_here, get_there, equal_maps}
use Rattle.number_map.proofs.Mapped.{get_mapped, mapped_put, mapped_drop}
use Rattle.pool_area.specs.Lots.{Held}
use Rattle.pool_area.specs.Blocks as area
use Rattle.pool_area.specs.Blocks.{Blocks}
use Rattle.pool_store.specs.Entries.{BlockPool, pool_of, holder_of, lot_at}
use Rattle.pool_store.specs.Store as store
use Rattle.pool_store.proofs.Tied.{Pools}

-- Addresses ----------------------------------------------------------------

module _ {X : Type 0} where
  pub given_more : (g h : ℕ) (t : FinMap nat_cmp X) → g ≤ h → AreGiven g t → AreGiven h t
  given_more g h t le given q above = given q (omega arith)

  pub given_put : (g a : ℕ) (t : FinMap nat_cmp X) (x : X) → a ≤ g → AreGiven g t → AreGiven g (insert t a x)
  given_put g a t x le given q above = get_there t a q x (λ e. let no : ⊥ = omega arith in no) ∙ given q above

  pub given_drop : (g a : ℕ) (t : FinMap nat_cmp X) → AreGiven g t → AreGiven g (remove t a)
  given_drop g a t given q above = get_dropped t a q ∙ by (nat_eq q a)
    where
      by : (b : Bool) → cond b None (get t q) ≡ None
      by true = refl
      by false = given q above

  -- an address that is out was given
  was_given : (g a : ℕ) (t : FinMap nat_cmp X) (x : X) → AreGiven g t → get t a ≡ Some x → (g < a → ⊥)
  was_given g a t x given there above = let none = given a above in absurd (cc)

  pub given_over : (g a : ℕ) (t : FinMap nat_cmp X) (x y : X) → get t a ≡ Some x → AreGiven g t → AreGiven g (insert t a y)
  given_over g a t x y there given q above =
      get_there t a q y (λ e. was_given g a t x given there (subst (λ m. g < m) e above)) ∙ given q above

  pub given_changed : (g a : ℕ) (t : FinMap nat_cmp X) (f : X → X) → AreGiven g t → AreGiven g (change a f t)
  given_changed g a t f given = by (get t a) refl
    where
      by : (o : Option X) → get t a ≡ o → AreGiven g (option_map_or (λ v. insert t a (f v)) o t)
      by None e = given
      by (Some x) e = given_over g a t x (f x) e given

abbrev pub AllGiven : ℕ → Pools → Type 0
AllGiven g blocks = (p : ℕ) → IfSome (get blocks p) (λ b. AreGiven g b.out)

pub given_of : (g p : ℕ) (blocks : Pools) (b : Blocks) → AllGiven g blocks → get blocks p ≡ Some b → AreGiven g b.out
given_of g p blocks b all there = subst (λ o. IfSome o (λ x. AreGiven g x.out)) there (all p)

pub all_given_put : (g h p : ℕ) (blocks : Pools) (c : Blocks) → g ≤ h → AllGiven g blocks → AreGiven h c.out → AllGiven h (insert blocks p c)
all_given_put g h p blocks c le all given q = subst (λ o. IfSome o (λ x. AreGiven h x.out)) (sym (get_put blocks p q c)) (by (nat_eq q p) (get blocks q) (all q))
  where
    by : (b : Bool) (o : Option Blocks) → IfSome o (λ x. AreGiven g x.out) → IfSome (cond b (Some c) o) (λ x. AreGiven h x.out)
    by true o t = given
    by false None t = tt
    by false (Some x) t = given_more g h x.out le t

pub all_given_drop : (g p : ℕ) (blocks : Pools) → AllGiven g blocks → AllGiven g (remove blocks p)
all_given_drop g p blocks all q = subst (λ o. IfSome o (λ x. AreGiven g x.out)) (sym (get_dropped blocks p q)) (by (nat_eq q p))
  where
    by : (b : Bool) → IfSome (cond b None (get blocks q)) (λ x. AreGiven g x.out)
    by true = tt
    by false = all q

-- What is seen -------------------------------------------------------------

pub pool_here : (blocks : Pools) (p : ℕ) (b : Blocks) → get blocks p ≡ Some b → get (mapped pool_of blocks) p ≡ Some (pool_of b)
pool_here blocks p b there = get_mapped pool_of blocks p ∙ ap (option_map pool_of) there

pub no_pool_here : (blocks : Pools) (p : ℕ) → get blocks p ≡ None → get (mapped pool_of blocks) p ≡ None
no_pool_here blocks p none = get_mapped pool_of blocks p ∙ ap (option_map pool_of) none

pub not_seen : (blocks : Pools) (p : ℕ) → get (mapped pool_of blocks) p ≡ None → get blocks p ≡ None
not_seen blocks p none = by (get blocks p) (sym (get_mapped pool_of blocks p) ∙ none)
  where
    by : (o : Option Blocks) → option_map pool_of o ≡ None → o ≡ None
    by None e = refl
    by (Some x) e = absurd (cc)

pub out_seen : (b : Blocks) (a : ℕ) → pool_of (area.with_block_out a b) ≡ store.with_block_out a (pool_of b)
out_seen b a = let e = mapped_put holder_of b.out a None in λ i. record { size = b.size; free = b.free - 1; out = e i }

pub back_seen : (b : Blocks) (a : ℕ) → pool_of (area.with_block_back a b) ≡ store.with_block_back a (pool_of b)
back_seen b a = let e = mapped_drop holder_of b.out a in λ i. record { size = b.size; free = b.free + 1; out = e i }

pub held_seen : (b : Blocks) (a n words : ℕ) → pool_of (area.with_holder a n words b) ≡ store.with_holder a (Some n) (pool_of b)
held_seen b a n words =
    let e = mapped_put holder_of b.out a _ in λ i. record { size = b.size; free = b.free; out = e i }

-- the words of a block are not seen
pub words_unseen : (b : Blocks) (a : ℕ) (f : Held → Held) → ((h : Held) → (f h).object ≡ h.object) → mapped holder_of (change a (option_map f) b.out) ≡ mapped holder_of b.out
words_unseen b a f same = equal_maps (mapped holder_of (change a (option_map f) b.out)) (mapped holder_of b.out) (λ q.
    get_mapped holder_of (change a (option_map f) b.out) q ∙ by (get b.out a) refl q ∙ sym (get_mapped holder_of b.out q))
  where
    keeps : (o : Option Held) → holder_of (option_map f o) ≡ holder_of o
    keeps None = refl
    keeps (Some h) = ap (λ n. Some n) (same h)

    at : (x : Option Held) (q : ℕ) (t : Bool) → get b.out a ≡ Some x → nat_eq q a ≡ t → option_map holder_of (cond t (Some (option_map f x)) (get b.out q)) ≡ option_map holder_of (get b.out q)
    at x q true there e = ap (λ n. Some n) (keeps x) ∙ sym (ap (λ n. option_map holder_of (get b.out n)) (eqb-true q a e) ∙ ap (option_map holder_of) there)
    at x q false there e = refl

    by : (o : Option (Option Held)) → get b.out a ≡ o → (q : ℕ)
        → option_map holder_of (get (option_map_or (λ v. insert b.out a (option_map f v)) o b.out) q) ≡ option_map holder_of (get b.out q)
    by None there q = refl
    by (Some x) there q = ap (option_map holder_of) (get_put b.out a q (option_map f x)) ∙ at x q (nat_eq q a) there refl

-- a block that loses its object
pub vacated_seen : (b : Blocks) (a : ℕ) (x : Option Held) → get b.out a ≡ Some x → pool_of (area.with_no_holder a b) ≡ store.with_holder a None (pool_of b)
vacated_seen b a x there =
    let e = ap (mapped holder_of) (ap (λ o. option_map_or (λ (v : Option Held). insert b.out a None) o b.out) there) ∙ mapped_put holder_of b.out a None in
    λ i. record { size = b.size; free = b.free; out = e i }

-- the block at a spot of a pool that has changed
pub lot_here : (blocks : Pools) (p a : ℕ) (c : Blocks) → lot_at (record { pool = p; address = a }) (insert blocks p c) ≡ get c.out a
lot_here blocks p a c = ap (λ o. option_map_or (λ (d : Blocks). get d.out a) o None) (get_here blocks p c)

pub lot_there : (blocks : Pools) (p a : ℕ) (b : Blocks) → get blocks p ≡ Some b → lot_at (record { pool = p; address = a }) blocks ≡ get b.out a
lot_there blocks p a b there = ap (λ o. option_map_or (λ (d : Blocks). get d.out a) o None) there

-- a pool that can serve a request has a free block
pub has_free : (units : ℕ) (p : BlockPool) → store.is_exhausted units p ≡ false → 0 < p.free
has_free units p room = by p.free room
  where
    by : (n : ℕ) → (nat_eq n 0 || nat_lt p.size units) ≡ false → 0 < n
    by zero h = absurd (cc)
    by (suc n) h = omega arith

-- and its blocks are large enough for it
pub has_size : (units : ℕ) (p : BlockPool) → store.is_exhausted units p ≡ false → units ≤ p.size
has_size units p room = by p.free room
  where
    by : (n : ℕ) → (nat_eq n 0 || nat_lt p.size units) ≡ false → units ≤ p.size
    by zero h = absurd (cc)
    by (suc n) h = grind (arith, nat_tests)

-- Vacant blocks ------------------------------------------------------------

pub vacant_seen : (b : Blocks) (a : ℕ) → store.is_vacant a (pool_of b) ≡ area.is_vacant a b
vacant_seen b a = ap (λ o. option_map_or is_none o false) (get_mapped holder_of b.out a) ∙ by (get b.out a)
  where
    by : (o : Option (Option Held)) → option_map_or is_none (option_map holder_of o) false ≡ option_map_or is_none o false
    by None = refl
    by (Some None) = refl
    by (Some (Some h)) = refl

pub vacant_lot : (b : Blocks) (a : ℕ) → area.is_vacant a b ≡ true → get b.out a ≡ Some None
vacant_lot b a vacant = by (get b.out a) vacant
  where
    by : (o : Option (Option Held)) → option_map_or is_none o false ≡ true → o ≡ Some None
    by None e = absurd (cc)
    by (Some None) e = refl
    by (Some (Some h)) e = absurd (cc)

pub vacant_in : (blocks : Pools) (p a : ℕ) (o : Option Blocks) → get blocks p ≡ o → option_map_or (store.is_vacant a) (get (mapped pool_of blocks) p) false ≡ option_map_or (area.is_vacant a) o false
vacant_in blocks p a None there = ap (λ x. option_map_or (store.is_vacant a) x false) (no_pool_here blocks p there)
vacant_in blocks p a (Some b) there = ap (λ x. option_map_or (store.is_vacant a) x false) (pool_here blocks p b there) ∙ vacant_seen b a

pub fit_in : (blocks : Pools) (p a units : ℕ) (o : Option Blocks) → get blocks p ≡ o
    → option_map_or (store.is_fit a units) (get (mapped pool_of blocks) p) false ≡ option_map_or (λ b. area.is_vacant a b && nat_le units b.size) o false
fit_in blocks p a units None there = ap (λ x. option_map_or (store.is_fit a units) x false) (no_pool_here blocks p there)
fit_in blocks p a units (Some b) there = ap (λ x. option_map_or (store.is_fit a units) x false) (pool_here blocks p b there) ∙ ap (λ t. t && nat_le units b.size) (vacant_seen b a)

pub both : (x y : Bool) → (x && y) ≡ true → (x ≡ true) × (y ≡ true)
both true y e = (refl, e)
both false y e = absurd (cc)

pub change_there : {X : Type 0} (t : FinMap nat_cmp X) (a q : ℕ) (f : X → X) → (q ≡ a → ⊥) → get (change a f t) q ≡ get t q
change_there {X} t a q f off = by (get t a)
  where
    by : (o : Option X) → get (option_map_or (λ v. insert t a (f v)) o t) q ≡ get t q
    by None = refl
    by (Some x) = get_there t a q (f x) off

pub fits_of : (m n : ℕ) → nat_le m n ≡ true → m ≤ n
fits_of m n e = grind (arith, nat_tests)
