-- How objects and pools are kept, as objects come, change and go, and as blocks and pools do.
use Rattle.std.proofs.Common.{◌≡◌, ◌∙◌, ℕ, ◌+◌, ◌<◌, ◌≤◌, List, [], ◌++◌, ◌∷◌, Option, Some, None, Bool, true, false, cond, refl, sym, ap, arith, length, subst}
use Rattle.std.specs.Prelude.{nat_eq, not, ◌&&◌, ◌||◌, IfSome, IsSome, is_none, is_some, option_and_then, replicate}
use Rattle.std.specs.Option.{option_map, option_map_or, option_or}
use Rattle.std.specs.Ordering.{nat_cmp}
use Rattle.std.specs.Cmp.{nat_eq_equiv}
use Rattle.std.specs.FinMap.{FinMap, empty, get, get-empty, insert, remove}
use borrow.Author.Tests.{eqb-true, eq-eqb, ne_eqb}
use Rattle.ctl_meaning.specs.World as W
use Rattle.ctl_meaning.specs.World.{Object}
use Rattle.ctl_meaning.specs.Lists.{keep}
use Rattle.ctl_meaning.specs.Objects.{change_in, lies_in_pool, object_in, opened_objects}
use Rattle.number_map.specs.Table.{AreGiven, change}
use Rattle.number_map.proofs.Changes.{equal_maps, get_dropped, get_put}
use Rattle.pool_store.specs.declared.entry.Spot.{Spot}
use Rattle.pool_store.specs.Entries.{BlockPool, Stored}
use Rattle.pool_store.specs.Kept.{kept_if}
use Rattle.pool_store.specs.Marks.{MarkPool}
use Rattle.pool_store.specs.Store as S
use Rattle.pool_store.specs.Store.{Store}
use Rattle.pool_store.proofs.KeptLemmas.{get_kept}
use Rattle.ctl_storage.specs.declared.existing.Allocation.{Allocation}
use Rattle.ctl_storage.specs.declared.existing.Place.{Place}
use Rattle.ctl_storage.specs.declared.existing.Place.TheVariants.{Standard, InBlock}
use Rattle.ctl_storage.specs.declared.pools.PoolSize.{PoolSize}
use Rattle.ctl_storage.specs.Allocated.{allocated, place_of}
use Rattle.ctl_storage.specs.Calls.{AreOutside, number_lies_in}
use Rattle.ctl_storage.specs.Inside.{AreStored, IsStored, LiesAs, holds, is_at, is_in, lies_at, lies_in, lot_at, seen, spot_of, words_written}
use Rattle.owned_numbers.specs.Owned.{OwnsAs, Owned, owns}
use Rattle.ctl_storage.specs.Order.{Rise}
use Rattle.ctl_storage.specs.Storage.{exists}
use Rattle.ctl_storage.proofs.InStore.{AreEach, each_moved, each_with, each_without, each_written, get_changed, seen_same}
use Rattle.ctl_storage.proofs.Rising.{KeepsNumbers, in_change, in_keep, in_newest, keep_more, keep_none, kept_one, in_more, in_none, number_found, rise_keep, same_objects}
use Rattle.ctl_storage.proofs.Seen.{Objects, in_seen}
use Rattle.ctl_storage.proofs.Shown.{IsVacated, without}

turned : (a b : ℕ) → nat_eq a b ≡ nat_eq b a
turned a b = nat_eq_equiv.symm a b

abbrev pub Sizes : Type 0
Sizes = FinMap nat_cmp PoolSize

abbrev pub Blocks : Type 0
Blocks = FinMap nat_cmp BlockPool

-- a block holds exactly the object that lies in it
abbrev pub AreHeld : Objects → Store → Type 0
AreHeld os s = (n p a : ℕ) → holds n (lot_at p a s) ≡ lies_at p a (get os n)

-- Which objects exist --------------------------------------------------------------------------------------

some_mapped : {X : Type 0} (f : X → X) (b : Bool) (o : Option X) → is_some (cond b (option_map f o) o) ≡ is_some o
some_mapped f true None = refl
some_mapped f true (Some x) = refl
some_mapped f false o = refl

pub exists_changed : (n : ℕ) (f : Object → Object) → KeepsNumbers f → (m : ℕ) (os : List Object) → exists m (change_in n f os) ≡ exists m os
exists_changed n f keeps m os = ap (λ o. is_some o) (in_change n f keeps m os) ∙ some_mapped f (nat_eq m n) (object_in m os)

pub exists_newest : (os : List Object) (x : Object) (m : ℕ) → m < x.number → exists m (os ++ x ∷ []) ≡ exists m os
exists_newest os x m less =
    ap (λ o. is_some o) (in_newest m os x ∙ ap (λ b. option_or (object_in m os) (cond b (Some x) None)) (ne_eqb x.number m (λ same. omega (arith, less, same))))
    ∙ by (object_in m os)
  where
    by : (o : Option Object) → is_some (option_or o None) ≡ is_some o
    by None = refl
    by (Some z) = refl

pub newest_exists : (os : List Object) (x : Object) → exists x.number (os ++ x ∷ []) ≡ true
newest_exists os x =
    ap (λ o. is_some o) (in_newest x.number os x ∙ ap (λ b. option_or (object_in x.number os) (cond b (Some x) None)) (eq-eqb x.number x.number refl))
    ∙ by (object_in x.number os)
  where
    by : (o : Option Object) → is_some (option_or o (Some x)) ≡ true
    by None = refl
    by (Some z) = refl

pub exists_left : (n m : ℕ) (os : List Object) → Rise 0 os → exists m (keep (λ o. not (nat_eq o.number n)) os) ≡ cond (nat_eq m n) false (exists m os)
exists_left n m os rise = ap (λ o. is_some o) (in_keep (λ o. not (nat_eq o.number n)) 0 m os rise) ∙ by (object_in m os) refl
  where
    at : (b : Bool) (z : Object) → is_some (cond (not b) (Some z) None) ≡ cond b false true
    at true z = refl
    at false z = refl

    none : (b : Bool) → false ≡ cond b false false
    none true = refl
    none false = refl

    by : (o : Option Object) → object_in m os ≡ o → is_some (kept_one (λ (z : Object). not (nat_eq z.number n)) o) ≡ cond (nat_eq m n) false (is_some o)
    by None e = none (nat_eq m n)
    by (Some z) e = at (nat_eq z.number n) z ∙ ap (λ k. cond (nat_eq k n) false true) (number_found m os z e)

-- Nothing is there at first --------------------------------------------------------------------------------

pub nothing_kept : (os : Objects) (zs : Sizes) (l : Owned) (s : Store) → os ≡ empty → ((p n : ℕ) → owns p n l ≡ false) → s ≡ S.no_store → AreStored os zs l s
nothing_kept os zs l s none free first = record {
  each = λ n. subst (λ o. IsStored o (get s.objects n)) (sym (no_object n)) (subst (λ o. IsStored None o) (sym (ap (λ (t : Store). get t.objects n) first ∙ get-empty nat_cmp n)) tt);
  held = λ n p a. ap (λ o. holds n (option_and_then (λ b. get b.out a) o)) (no_pool p) ∙ sym (ap (lies_at p a) (no_object n));
  listed = λ p n. free p n ∙ sym (ap (lies_in p) (no_object n));
  pools = λ p. subst (λ o. IfSome o (λ b. IsSome (get zs p) × AreGiven s.given b.out)) (sym (no_pool p)) tt;
  marks = λ p. ap (λ (t : Store). get t.marks p) first ∙ get-empty nat_cmp p;
}
  where
    no_object : (n : ℕ) → get os n ≡ None
    no_object n = ap (λ (m : Objects). get m n) none ∙ get-empty nat_cmp n

    no_pool : (p : ℕ) → get s.blocks p ≡ None
    no_pool p = ap (λ (t : Store). get t.blocks p) first ∙ get-empty nat_cmp p

-- An object changes ----------------------------------------------------------------------------------------

pub kept_moved : (os : Objects) (zs : Sizes) (l : Owned) (s : Store) (n : ℕ) (a b : Allocation) → get os n ≡ Some a → b.cells ≡ a.cells → b.place ≡ a.place → AreStored os zs l s → AreStored (insert os n b) zs l s
kept_moved os zs l s n a b there cells place h = record {
  each = each_moved os s n a b h.each there cells place;
  held = λ k p c. h.held k p c ∙ sym (same (lies_at p c) (ap (is_at p c) place) k);
  listed = λ p k. h.listed p k ∙ sym (same (lies_in p) (ap (is_in p) place) k);
  pools = h.pools;
  marks = h.marks;
}
  where
    same : (test : Option Allocation → Bool) → test (Some b) ≡ test (Some a) → (k : ℕ) → test (get (insert os n b) k) ≡ test (get os k)
    same test alike k = ap test (get_put os n k b) ∙ by (nat_eq k n) refl
      where
        by : (t : Bool) → nat_eq k n ≡ t → test (cond t (Some b) (get os k)) ≡ test (get os k)
        by true is = alike ∙ sym (ap test (ap (get os) (eqb-true k n is) ∙ there))
        by false is = refl

-- only cells change
kept_cells : (os : Objects) (zs : Sizes) (l : Owned) (s t : Store) → AreEach os t → t.blocks ≡ s.blocks → t.given ≡ s.given → t.marks ≡ s.marks → AreStored os zs l s → AreStored os zs l t
kept_cells os zs l s t each blocks given marks h = record {
  each = each;
  held = λ n p a. ap (λ (m : Blocks). holds n (option_and_then (λ b. get b.out a) (get m p))) blocks ∙ h.held n p a;
  listed = h.listed;
  pools = λ p. subst (λ (m : Blocks). IfSome (get m p) (λ b. IsSome (get zs p) × AreGiven t.given b.out)) (sym blocks) (subst (λ g. IfSome (get s.blocks p) (λ b. IsSome (get zs p) × AreGiven g b.out)) (sym given) (h.pools p));
  marks = λ p. ap (λ m. get m p) marks ∙ h.marks p;
}

pub blocks_written : (n place x : ℕ) (s : Store) → (S.with_word n place x s).blocks ≡ s.blocks
blocks_written n place x s = refl

pub given_written : (n place x : ℕ) (s : Store) → (S.with_word n place x s).given ≡ s.given
given_written n place x s = refl

pub kept_written : (os : Objects) (zs : Sizes) (l : Owned) (s : Store) (n place x : ℕ) → AreStored os zs l s → AreStored os zs l (S.with_word n place x s)
kept_written os zs l s n place x h = kept_cells os zs l s (S.with_word n place x s) (each_written os s n place x h.each) refl refl refl h

pub blocks_all : (n offset : ℕ) (v : List ℕ) (s : Store) → (words_written n offset v s).blocks ≡ s.blocks
blocks_all n offset [] s = refl
blocks_all n offset (x ∷ v) s = blocks_all n (offset + 1) v (S.with_word n offset x s)

pub given_all : (n offset : ℕ) (v : List ℕ) (s : Store) → (words_written n offset v s).given ≡ s.given
given_all n offset [] s = refl
given_all n offset (x ∷ v) s = given_all n (offset + 1) v (S.with_word n offset x s)

pub kept_all : (os : Objects) (zs : Sizes) (l : Owned) (s : Store) (n offset : ℕ) (v : List ℕ) → AreStored os zs l s → AreStored os zs l (words_written n offset v s)
kept_all os zs l s n offset [] h = h
kept_all os zs l s n offset (x ∷ v) h = kept_all os zs l (S.with_word n offset x s) n (offset + 1) v (kept_written os zs l s n offset x h)

-- An object is added ---------------------------------------------------------------------------------------

-- where the object of a new number passes no test, the same do
new_same : (os : Objects) (n : ℕ) (a : Allocation) (test : Option Allocation → Bool) → get os n ≡ None → test None ≡ false → test (Some a) ≡ false → (k : ℕ) → test (get (insert os n a) k) ≡ test (get os k)
new_same os n a test none nothing fails k = ap test (get_put os n k a) ∙ by (nat_eq k n) refl
  where
    by : (t : Bool) → nat_eq k n ≡ t → test (cond t (Some a) (get os k)) ≡ test (get os k)
    by true is = fails ∙ sym (ap test (ap (get os) (eqb-true k n is) ∙ none) ∙ nothing)
    by false is = refl

pub kept_new : (os : Objects) (zs : Sizes) (l : Owned) (s : Store) (n : ℕ) (a : Allocation) → get os n ≡ None → a.place ≡ Standard → AreStored os zs l s → AreStored (insert os n a) zs l (S.with_object n a.cells s)
kept_new os zs l s n a none place h = record {
  each = each_with os s (S.with_object n a.cells s) n a (ap (λ z. insert s.objects n (record { spot = spot_of z; site = None; words = replicate a.cells 0 })) (sym place)) h.each;
  held = λ k p c. h.held k p c ∙ sym (new_same os n a (lies_at p c) none refl (ap (is_at p c) place) k);
  listed = λ p k. h.listed p k ∙ sym (new_same os n a (lies_in p) none refl (ap (is_in p) place) k);
  pools = h.pools;
  marks = h.marks;
}

-- Blocks change --------------------------------------------------------------------------------------------

lot_changed : (p n a : ℕ) (g : BlockPool → BlockPool) (s t : Store) → t.blocks ≡ change n g s.blocks → lot_at p a t ≡ option_and_then (λ b. get b.out a) (cond (nat_eq p n) (option_map g (get s.blocks p)) (get s.blocks p))
lot_changed p n a g s t blocks = ap (λ o. option_and_then (λ b. get b.out a) o) (ap (λ (m : Blocks). get m p) blocks ∙ get_changed s.blocks n p g)

-- one pool changes, and each block holds what it did
held_changed : (n : ℕ) (g : BlockPool → BlockPool) (s t : Store) → t.blocks ≡ change n g s.blocks → ((b : BlockPool) → get s.blocks n ≡ Some b → (k a : ℕ) → holds k (get (g b).out a) ≡ holds k (get b.out a))
    → (k p a : ℕ) → holds k (lot_at p a t) ≡ holds k (lot_at p a s)
held_changed n g s t blocks same k p a = ap (holds k) (lot_changed p n a g s t blocks) ∙ by (nat_eq p n) refl (get s.blocks p) refl
  where
    by : (c : Bool) → nat_eq p n ≡ c → (o : Option BlockPool) → get s.blocks p ≡ o → holds k (option_and_then (λ b. get b.out a) (cond c (option_map g o) o)) ≡ holds k (option_and_then (λ b. get b.out a) o)
    by false is o e = refl
    by true is None e = refl
    by true is (Some b) e = same b (ap (get s.blocks) (sym (eqb-true p n is)) ∙ e) k a

pools_changed : (n : ℕ) (g : BlockPool → BlockPool) (zs : Sizes) (s t : Store) → t.blocks ≡ change n g s.blocks
    → ((p : ℕ) (b : BlockPool) → AreGiven s.given b.out → AreGiven t.given b.out) → ((b : BlockPool) → get s.blocks n ≡ Some b → AreGiven s.given b.out → AreGiven t.given (g b).out)
    → ((p : ℕ) → IfSome (get s.blocks p) (λ b. IsSome (get zs p) × AreGiven s.given b.out)) → (p : ℕ) → IfSome (get t.blocks p) (λ b. IsSome (get zs p) × AreGiven t.given b.out)
pools_changed n g zs s t blocks more own h p =
    subst (λ o. IfSome o (λ b. IsSome (get zs p) × AreGiven t.given b.out)) (sym (ap (λ (m : Blocks). get m p) blocks ∙ get_changed s.blocks n p g)) (by (nat_eq p n) refl (get s.blocks p) refl (h p))
  where
    by : (c : Bool) → nat_eq p n ≡ c → (o : Option BlockPool) → get s.blocks p ≡ o → IfSome o (λ b. IsSome (get zs p) × AreGiven s.given b.out) → IfSome (cond c (option_map g o) o) (λ b. IsSome (get zs p) × AreGiven t.given b.out)
    by true is None e i = tt
    by true is (Some b) e i = (i.0, own b (ap (get s.blocks) (sym (eqb-true p n is)) ∙ e) i.1)
    by false is None e i = tt
    by false is (Some b) e i = (i.0, more p b i.1)

-- the pool of a number
given_of : (zs : Sizes) (s : Store) (n : ℕ) (b : BlockPool) → ((p : ℕ) → IfSome (get s.blocks p) (λ c. IsSome (get zs p) × AreGiven s.given c.out)) → get s.blocks n ≡ Some b → AreGiven s.given b.out
given_of zs s n b h there = (subst (λ o. IfSome o (λ c. IsSome (get zs n) × AreGiven s.given c.out)) there (h n)).1

-- a block goes out
pub kept_taken : (os : Objects) (zs : Sizes) (l : Owned) (s : Store) (n : ℕ) → AreStored os zs l s → AreStored os zs l (S.take_block n s)
kept_taken os zs l s n h = record {
  each = h.each;
  held = λ k p a. held_changed n (S.with_block_out (s.given + 1)) s (S.take_block n s) refl (λ b there k a. same b (given_of zs s n b h.pools there) k a) k p a ∙ h.held k p a;
  listed = h.listed;
  pools = pools_changed n (S.with_block_out (s.given + 1)) zs s (S.take_block n s) refl (λ p b i k more. i k (omega (arith, more))) (λ b there i. given b i) h.pools;
  marks = h.marks;
}
  where
    same : (b : BlockPool) → AreGiven s.given b.out → (k a : ℕ) → holds k (get (S.with_block_out (s.given + 1) b).out a) ≡ holds k (get b.out a)
    same b i k a = ap (holds k) (get_put b.out (s.given + 1) a None) ∙ by (nat_eq a (s.given + 1)) refl
      where
        by : (c : Bool) → nat_eq a (s.given + 1) ≡ c → holds k (cond c (Some None) (get b.out a)) ≡ holds k (get b.out a)
        by true is = let number = eqb-true a (s.given + 1) is in sym (ap (holds k) (i a (omega (arith, number))))
        by false is = refl

    given : (b : BlockPool) → AreGiven s.given b.out → AreGiven (s.given + 1) (insert b.out (s.given + 1) None)
    given b i k more = get_put b.out (s.given + 1) k None ∙ (ap (λ c. cond c (Some None) (get b.out k)) (ne_eqb k (s.given + 1) (λ same. omega (arith, more, same))) ∙ i k (omega (arith, more)))

-- a block that holds no object comes back
pub kept_back : (os : Objects) (zs : Sizes) (l : Owned) (s : Store) (n a : ℕ) → S.is_vacant_in n a s ≡ true → AreStored os zs l s → AreStored os zs l (S.give_block n a s)
kept_back os zs l s n a vacant h = record {
  each = h.each;
  held = λ k p c. held_changed n (S.with_block_back a) s (S.give_block n a s) refl (λ b there k c. same b (sym (ap (λ o. option_map_or (S.is_vacant a) o false) there) ∙ vacant) k c) k p c ∙ h.held k p c;
  listed = h.listed;
  pools = pools_changed n (S.with_block_back a) zs s (S.give_block n a s) refl (λ p b i. i) (λ b there i. given b i) h.pools;
  marks = h.marks;
}
  where
    none : (o : Option (Option ℕ)) (k : ℕ) → option_map_or is_none o false ≡ true → false ≡ holds k o
    none None k e = refl
    none (Some None) k e = refl
    none (Some (Some m)) k e = absurd (cc)

    same : (b : BlockPool) → S.is_vacant a b ≡ true → (k c : ℕ) → holds k (get (S.with_block_back a b).out c) ≡ holds k (get b.out c)
    same b is k c = ap (holds k) (get_dropped b.out a c) ∙ by (nat_eq c a) refl
      where
        by : (t : Bool) → nat_eq c a ≡ t → holds k (cond t None (get b.out c)) ≡ holds k (get b.out c)
        by true e = none (get b.out c) k (ap (λ m. option_map_or is_none (get b.out m) false) (eqb-true c a e) ∙ is)
        by false e = refl

    given : (b : BlockPool) → AreGiven s.given b.out → AreGiven s.given (remove b.out a)
    given b i k more = get_dropped b.out a k ∙ by (nat_eq k a)
      where
        by : (t : Bool) → cond t None (get b.out k) ≡ None
        by true = refl
        by false = i k more

-- another holder is noted in a block of a pool that is open
lot_put : (x : Spot) (holder : Option ℕ) (s t : Store) → t.blocks ≡ change x.pool (S.with_holder x.address holder) s.blocks → IsSome (get s.blocks x.pool)
    → (p a : ℕ) → lot_at p a t ≡ cond (nat_eq x.pool p && nat_eq x.address a) (Some holder) (lot_at p a s)
lot_put x holder s t blocks stands p a = lot_changed p x.pool a (S.with_holder x.address holder) s t blocks ∙ (ap (λ c. option_and_then (λ b. get b.out a) (cond c (option_map (S.with_holder x.address holder) (get s.blocks p)) (get s.blocks p))) (turned p x.pool) ∙ by (nat_eq x.pool p) refl (get s.blocks p) refl)
  where
    by : (c : Bool) → nat_eq x.pool p ≡ c → (o : Option BlockPool) → get s.blocks p ≡ o
        → option_and_then (λ b. get b.out a) (cond c (option_map (S.with_holder x.address holder) o) o) ≡ cond (c && nat_eq x.address a) (Some holder) (option_and_then (λ b. get b.out a) o)
    by false is o e = refl
    by true is None e = let no : is_some (get s.blocks x.pool) ≡ false = ap (λ n. is_some (get s.blocks n)) (eqb-true x.pool p is) ∙ ap (λ o. is_some o) e in absurd (cc)
    by true is (Some b) e = get_put b.out x.address a holder ∙ ap (λ c. cond c (Some holder) (get b.out a)) (turned a x.address)

-- An object is put into a block ----------------------------------------------------------------------------

-- a block that holds one object holds no other
only_one : (n k : ℕ) (o : Option (Option ℕ)) → holds n o ≡ true → nat_eq k n ≡ false → holds k o ≡ false
only_one n k None e differs = refl
only_one n k (Some None) e differs = refl
only_one n k (Some (Some m)) e differs = turned m k ∙ (ap (nat_eq k) (eqb-true m n e) ∙ differs)

fit_open : (o : Option BlockPool) (a units : ℕ) → option_map_or (S.is_fit a units) o false ≡ true → IsSome o
fit_open None a units e = absurd (cc)
fit_open (Some b) a units e = refl

both_first : (a b : Bool) → (a && b) ≡ true → a ≡ true
both_first true b e = refl
both_first false b e = absurd (cc)

both_second : (a b : Bool) → (a && b) ≡ true → b ≡ true
both_second true b e = e
both_second false b e = absurd (cc)

-- what is out in a block that is fit
fit_lot : (o : Option BlockPool) (a units : ℕ) → option_map_or (S.is_fit a units) o false ≡ true → option_and_then (λ b. get b.out a) o ≡ Some None
fit_lot None a units e = absurd (cc)
fit_lot (Some b) a units e = by (get b.out a) (both_first (S.is_vacant a b) _ e)
  where
    by : (o : Option (Option ℕ)) → option_map_or is_none o false ≡ true → o ≡ Some None
    by None e = absurd (cc)
    by (Some None) e = refl
    by (Some (Some m)) e = absurd (cc)

pub kept_held : (os : Objects) (zs : Sizes) (l m : Owned) (s : Store) (n units : ℕ) (x : Spot) (a : Allocation) → get os n ≡ None → a.place ≡ InBlock x → S.is_fit_in x.pool x.address units s ≡ true → OwnsAs true x.pool n l m
    → AreStored os zs l s → AreStored (insert os n a) zs m (S.hold_block x.pool x.address n a.cells s)
kept_held os zs l m s n units x a none place fit located h = record {
  each = each_with os s t n a (ap (λ z. insert s.objects n (record { spot = spot_of z; site = None; words = replicate a.cells 0 })) (sym place)) h.each;
  held = λ k p c. ap (holds k) (lot_put x (Some n) s t refl stands p c) ∙ (own k p c (nat_eq x.pool p && nat_eq x.address c) refl (nat_eq k n) refl ∙ sym (ap (lies_at p c) (get_put os n k a)));
  listed = λ p k. located p k ∙ (ap (λ b. cond (nat_eq x.pool p && nat_eq n k) true b) (h.listed p k) ∙ (list p k (nat_eq x.pool p) refl (nat_eq k n) refl ∙ sym (ap (lies_in p) (get_put os n k a))));
  pools = pools_changed x.pool (S.with_holder x.address (Some n)) zs s t refl (λ p b i. i) given h.pools;
  marks = h.marks;
}
  where
    t : Store
    t = S.hold_block x.pool x.address n a.cells s

    stands : IsSome (get s.blocks x.pool)
    stands = fit_open (get s.blocks x.pool) x.address units fit

    vacant : lot_at x.pool x.address s ≡ Some None
    vacant = fit_lot (get s.blocks x.pool) x.address units fit

    here : (p c : ℕ) → (nat_eq x.pool p && nat_eq x.address c) ≡ true → lot_at p c s ≡ Some None
    here p c is =
        let pool = eqb-true x.pool p (both_first (nat_eq x.pool p) (nat_eq x.address c) is) in
        let address = eqb-true x.address c (both_second (nat_eq x.pool p) (nat_eq x.address c) is) in
        sym (ap (λ q. lot_at q x.address s) pool ∙ ap (λ d. lot_at p d s) address) ∙ vacant

    own : (k p c : ℕ) (v : Bool) → (nat_eq x.pool p && nat_eq x.address c) ≡ v → (b : Bool) → nat_eq k n ≡ b → holds k (cond v (Some (Some n)) (lot_at p c s)) ≡ lies_at p c (cond b (Some a) (get os k))
    own k p c true at true is = turned n k ∙ (is ∙ sym (ap (is_at p c) place ∙ at))
    own k p c true at false is = turned n k ∙ (is ∙ sym (sym (h.held k p c) ∙ ap (holds k) (here p c at)))
    own k p c false at true is = h.held k p c ∙ (ap (λ o. lies_at p c o) (ap (get os) (eqb-true k n is) ∙ none) ∙ sym (ap (is_at p c) place ∙ at))
    own k p c false at false is = h.held k p c

    list : (p k : ℕ) (v : Bool) → nat_eq x.pool p ≡ v → (b : Bool) → nat_eq k n ≡ b → cond (nat_eq x.pool p && nat_eq n k) true (lies_in p (get os k)) ≡ lies_in p (cond b (Some a) (get os k))
    list p k v at true is =
        ap (λ c. cond (nat_eq x.pool p && c) true (lies_in p (get os k))) (turned n k ∙ is)
        ∙ (ap (λ o. cond (nat_eq x.pool p && true) true (lies_in p o)) (ap (get os) (eqb-true k n is) ∙ none)
        ∙ (same (nat_eq x.pool p) ∙ sym (ap (is_in p) place)))
      where
        same : (c : Bool) → cond (c && true) true false ≡ c
        same true = refl
        same false = refl
    list p k v at false is = ap (λ c. cond (nat_eq x.pool p && c) true (lies_in p (get os k))) (turned n k ∙ is) ∙ same (nat_eq x.pool p)
      where
        same : (c : Bool) → cond (c && false) true (lies_in p (get os k)) ≡ lies_in p (get os k)
        same true = refl
        same false = refl

    given : (b : BlockPool) → get s.blocks x.pool ≡ Some b → AreGiven s.given b.out → AreGiven s.given (insert b.out x.address (Some n))
    given b there i k more = get_put b.out x.address k (Some n) ∙ by (nat_eq k x.address) refl
      where
        by : (c : Bool) → nat_eq k x.address ≡ c → cond c (Some (Some n)) (get b.out k) ≡ None
        by true is =
            let out : get b.out x.address ≡ Some None = sym (ap (λ o. option_and_then (λ (z : BlockPool). get z.out x.address) o) there) ∙ vacant in
            let gone : get b.out x.address ≡ None = i x.address (subst (λ j. s.given < j) (eqb-true k x.address is) more) in
            absurd (cc)
        by false is = i k more

-- an object that was listed first is not in the end
pub unlisted : (os : Objects) (zs : Sizes) (l m u : Owned) (s : Store) (n pool : ℕ) → get os n ≡ None → OwnsAs true pool n l m → OwnsAs false pool n m u → AreStored os zs l s → AreStored os zs u s
unlisted os zs l m u s n pool none located undone h = record {
  each = h.each;
  held = h.held;
  listed = λ p k. undone p k ∙ (ap (λ b. cond (nat_eq pool p && nat_eq n k) false b) (located p k) ∙ (by p k (nat_eq pool p && nat_eq n k) refl ∙ h.listed p k));
  pools = h.pools;
  marks = h.marks;
}
  where
    by : (p k : ℕ) (b : Bool) → (nat_eq pool p && nat_eq n k) ≡ b → cond b false (cond b true (owns p k l)) ≡ owns p k l
    by p k true is =
        let number = eqb-true n k (both_second (nat_eq pool p) (nat_eq n k) is) in
        sym (h.listed p k ∙ ap (lies_in p) (ap (get os) (sym number) ∙ none))
    by p k false is = refl

-- An object goes -------------------------------------------------------------------------------------------

-- where an object lies, the store says too
spot_same : (os : Objects) (s : Store) (n : ℕ) → AreEach os s → option_map_or (λ (o : Stored). o.spot) (get s.objects n) None ≡ option_map_or (λ (a : Allocation). spot_of a.place) (get os n) None
spot_same os s n h = by (get os n) (get s.objects n) (h n)
  where
    by : (a : Option Allocation) (o : Option Stored) → IsStored a o → option_map_or (λ (o : Stored). o.spot) o None ≡ option_map_or (λ (a : Allocation). spot_of a.place) a None
    by None None i = refl
    by None (Some o) i = absurd i
    by (Some a) None i = absurd i
    by (Some a) (Some o) i = i.spot

held_open : (o : Option BlockPool) (n a : ℕ) → holds n (option_and_then (λ b. get b.out a) o) ≡ true → IsSome o
held_open None n a e = absurd (cc)
held_open (Some b) n a e = refl

-- a block that held the object holds none
vacated_lot : (os : Objects) (s : Store) (n : ℕ) → AreEach os s → AreHeld os s → (p a : ℕ) → lot_at p a (S.without_object n s) ≡ cond (lies_at p a (get os n)) (Some None) (lot_at p a s)
vacated_lot os s n each held p a = ap (λ (m : Blocks). option_and_then (λ b. get b.out a) (get m p)) (ap (λ o. S.freed_spot o s.blocks) (spot_same os s n each)) ∙ by (get os n) refl
  where
    at : (x : Allocation) → get os n ≡ Some x → (z : Place) → x.place ≡ z → option_and_then (λ b. get b.out a) (get (S.freed_spot (spot_of z) s.blocks) p) ≡ cond (is_at p a z) (Some None) (lot_at p a s)
    at x there Standard place = refl
    at x there (InBlock y) place =
        let lies : lies_at y.pool y.address (get os n) ≡ true = ap (lies_at y.pool y.address) there ∙ (ap (is_at y.pool y.address) place ∙ (ap (λ b. b && nat_eq y.address y.address) (eq-eqb y.pool y.pool refl) ∙ eq-eqb y.address y.address refl)) in
        lot_put y None s (record s { blocks = S.freed_spot (Some y) s.blocks }) refl (held_open (get s.blocks y.pool) n y.address (held n y.pool y.address ∙ lies)) p a

    by : (o : Option Allocation) → get os n ≡ o → option_and_then (λ b. get b.out a) (get (S.freed_spot (option_map_or (λ (z : Allocation). spot_of z.place) o None) s.blocks) p) ≡ cond (lies_at p a o) (Some None) (lot_at p a s)
    by None there = refl
    by (Some x) there = at x there x.place refl

without_lot : (n : ℕ) (o : Option (Option ℕ)) (v : Bool) → holds n o ≡ v → cond v (Some None) o ≡ option_map (without n) o
without_lot n None true e = absurd (cc)
without_lot n None false e = refl
without_lot n (Some None) true e = absurd (cc)
without_lot n (Some None) false e = refl
without_lot n (Some (Some m)) true e = ap (λ b. Some (cond b None (Some m))) (sym e)
without_lot n (Some (Some m)) false e = ap (λ b. Some (cond b None (Some m))) (sym e)

lot_without : (os : Objects) (s : Store) (n : ℕ) → AreEach os s → AreHeld os s → (p a : ℕ) → lot_at p a (S.without_object n s) ≡ option_map (without n) (lot_at p a s)
lot_without os s n each held p a = vacated_lot os s n each held p a ∙ without_lot n (lot_at p a s) (lies_at p a (get os n)) (held n p a)

-- the pools are the same but for that
abbrev IsLike : Option BlockPool → Option BlockPool → Type 0
IsLike None None = Unit {0}
IsLike None (Some c) = ⊥
IsLike (Some b) None = ⊥
IsLike (Some b) (Some c) = (c.size ≡ b.size) × (c.free ≡ b.free)

like_freed : (x : Option Spot) (blocks : Blocks) (p : ℕ) → IsLike (get blocks p) (get (S.freed_spot x blocks) p)
like_freed None blocks p = by (get blocks p)
  where
    by : (o : Option BlockPool) → IsLike o o
    by None = tt
    by (Some b) = (refl, refl)
like_freed (Some x) blocks p = subst (λ o. IsLike (get blocks p) o) (sym (get_changed blocks x.pool p (S.with_holder x.address None))) (by (nat_eq p x.pool) (get blocks p))
  where
    by : (c : Bool) (o : Option BlockPool) → IsLike o (cond c (option_map (S.with_holder x.address None) o) o)
    by true None = tt
    by true (Some b) = (refl, refl)
    by false None = tt
    by false (Some b) = (refl, refl)

pub vacated : (os : Objects) (s : Store) (n : ℕ) → AreEach os s → AreHeld os s → (p : ℕ) → IsVacated n (get s.blocks p) (get (S.without_object n s).blocks p)
vacated os s n each held p = by (get s.blocks p) (get (S.without_object n s).blocks p) (like_freed (option_map_or (λ (o : Stored). o.spot) (get s.objects n) None) s.blocks p) (λ a. lot_without os s n each held p a)
  where
    by : (b c : Option BlockPool) → IsLike b c → ((a : ℕ) → option_and_then (λ (z : BlockPool). get z.out a) c ≡ option_map (without n) (option_and_then (λ (z : BlockPool). get z.out a) b)) → IsVacated n b c
    by None None i e = tt
    by None (Some c) i e = absurd i
    by (Some b) None i e = absurd i
    by (Some b) (Some c) i e = (i.0, i.1, e)

holds_without : (n k : ℕ) (o : Option (Option ℕ)) → holds k (option_map (without n) o) ≡ cond (nat_eq k n) false (holds k o)
holds_without n k None = by (nat_eq k n)
  where
    by : (b : Bool) → false ≡ cond b false false
    by true = refl
    by false = refl
holds_without n k (Some None) = by (nat_eq k n)
  where
    by : (b : Bool) → false ≡ cond b false false
    by true = refl
    by false = refl
holds_without n k (Some (Some m)) = by (nat_eq m n) refl (nat_eq k n) refl
  where
    by : (b : Bool) → nat_eq m n ≡ b → (c : Bool) → nat_eq k n ≡ c → option_map_or (λ j. nat_eq j k) (cond b None (Some m)) false ≡ cond c false (nat_eq m k)
    by true is true same = refl
    by true is false differs = sym (turned m k ∙ (ap (nat_eq k) (eqb-true m n is) ∙ differs))
    by false is true same = ap (nat_eq m) (eqb-true k n same) ∙ is
    by false is false differs = refl

pub kept_without : (os : Objects) (zs : Sizes) (l m : Owned) (s : Store) (n : ℕ) (r : Option Allocation) → r ≡ get os n → ((p k : ℕ) → owns p k m ≡ cond (lies_in p r && nat_eq n k) false (owns p k l)) → AreStored os zs l s
    → AreStored (remove os n) zs m (S.without_object n s)
kept_without os zs l m s n r removed located h = record {
  each = each_without os s (S.without_object n s) n refl h.each;
  held = λ k p a.
      ap (holds k) (lot_without os s n h.each h.held p a)
      ∙ (holds_without n k (lot_at p a s)
      ∙ (ap (λ b. cond (nat_eq k n) false b) (h.held k p a) ∙ (own (lies_at p a) refl k (nat_eq k n) ∙ sym (ap (lies_at p a) (get_dropped os n k)))));
  listed = λ p k.
      located p k
      ∙ (ap (λ b. cond (lies_in p r && nat_eq n k) false b) (h.listed p k) ∙ (list p k (nat_eq k n) refl ∙ sym (ap (lies_in p) (get_dropped os n k))));
  pools = λ p. pool (get s.blocks p) p (get (S.without_object n s).blocks p) (vacated os s n h.each h.held p) (h.pools p);
  marks = h.marks;
}
  where
    own : (test : Option Allocation → Bool) → test None ≡ false → (k : ℕ) (b : Bool) → cond b false (test (get os k)) ≡ test (cond b None (get os k))
    own test none k true = sym none
    own test none k false = refl

    same : (b : Bool) → cond (b && true) false b ≡ false
    same true = refl
    same false = refl

    other : (b c : Bool) → cond (b && false) false c ≡ c
    other true c = refl
    other false c = refl

    list : (p k : ℕ) (b : Bool) → nat_eq k n ≡ b → cond (lies_in p r && nat_eq n k) false (lies_in p (get os k)) ≡ lies_in p (cond b None (get os k))
    list p k true is =
        ap (λ c. cond (lies_in p r && c) false (lies_in p (get os k))) (turned n k ∙ is)
        ∙ (ap (λ o. cond (lies_in p r && true) false (lies_in p o)) (ap (get os) (eqb-true k n is) ∙ sym removed)
        ∙ same (lies_in p r))
    list p k false is = ap (λ c. cond (lies_in p r && c) false (lies_in p (get os k))) (turned n k ∙ is) ∙ other (lies_in p r) (lies_in p (get os k))

    none : (o : Option (Option ℕ)) → o ≡ None → option_map (without n) o ≡ None
    none o e = ap (option_map (without n)) e

    pool : (o : Option BlockPool) (p : ℕ) (c : Option BlockPool) → IsVacated n o c → IfSome o (λ b. IsSome (get zs p) × AreGiven s.given b.out) → IfSome c (λ b. IsSome (get zs p) × AreGiven s.given b.out)
    pool None p None v i = tt
    pool None p (Some c) v i = absurd v
    pool (Some b) p None v i = tt
    pool (Some b) p (Some c) v i = (i.0, λ k more. v.2 k ∙ none (get b.out k) (i.1 k more))

-- Pools open and close -------------------------------------------------------------------------------------

pub kept_opened : (os : Objects) (zs : Sizes) (l : Owned) (s : Store) (n units count : ℕ) (z : PoolSize) → get zs n ≡ None → AreStored os zs l s → AreStored os (insert zs n z) l (S.with_pool n units count s)
kept_opened os zs l s n units count z none h = record {
  each = h.each;
  held = λ k p a. ap (λ o. holds k (option_and_then (λ b. get b.out a) o)) (get_put s.blocks n p new) ∙ (own k a p (nat_eq p n) refl ∙ h.held k p a);
  listed = h.listed;
  pools = λ p.
      subst (λ o. IfSome o (λ b. IsSome (get (insert zs n z) p) × AreGiven s.given b.out)) (sym (get_put s.blocks n p new))
      (pool p (nat_eq p n) refl (get s.blocks p) (h.pools p));
  marks = h.marks;
}
  where
    new : BlockPool
    new = record { size = units; free = count; out = empty }

    no_pool : get s.blocks n ≡ None
    no_pool = by (get s.blocks n) (h.pools n)
      where
        by : (o : Option BlockPool) → IfSome o (λ b. IsSome (get zs n) × AreGiven s.given b.out) → o ≡ None
        by None i = refl
        by (Some b) i = let there = i.0 in let no : is_some (get zs n) ≡ false = ap (λ o. is_some o) none in absurd (cc)

    own : (k a p : ℕ) (c : Bool) → nat_eq p n ≡ c → holds k (option_and_then (λ (b : BlockPool). get b.out a) (cond c (Some new) (get s.blocks p))) ≡ holds k (lot_at p a s)
    own k a p true is = ap (holds k) (get-empty nat_cmp a) ∙ sym (ap (λ o. holds k (option_and_then (λ (b : BlockPool). get b.out a) o)) (ap (get s.blocks) (eqb-true p n is) ∙ no_pool))
    own k a p false is = refl

    sized : (p : ℕ) (c : Bool) → nat_eq p n ≡ c → IsSome (get zs p) → IsSome (get (insert zs n z) p)
    sized p true is there = ap (λ o. is_some o) (get_put zs n p z ∙ ap (λ b. cond b (Some z) (get zs p)) is)
    sized p false is there = ap (λ o. is_some o) (get_put zs n p z ∙ ap (λ b. cond b (Some z) (get zs p)) is) ∙ there

    pool : (p : ℕ) (c : Bool) → nat_eq p n ≡ c → (o : Option BlockPool) → IfSome o (λ b. IsSome (get zs p) × AreGiven s.given b.out) → IfSome (cond c (Some new) o) (λ b. IsSome (get (insert zs n z) p) × AreGiven s.given b.out)
    pool p true is o i = (ap (λ o. is_some o) (get_put zs n p z ∙ ap (λ b. cond b (Some z) (get zs p)) is), λ k more. get-empty nat_cmp k)
    pool p false is None i = tt
    pool p false is (Some b) i = (sized p false is i.0, i.1)

-- a pool is not open yet where it has no discriminants
pub not_open : (os : Objects) (zs : Sizes) (l : Owned) (s : Store) (n : ℕ) → get zs n ≡ None → AreStored os zs l s → get s.blocks n ≡ None
not_open os zs l s n none h = by (get s.blocks n) (h.pools n)
  where
    by : (o : Option BlockPool) → IfSome o (λ b. IsSome (get zs n) × AreGiven s.given b.out) → o ≡ None
    by None i = refl
    by (Some b) i = let there = i.0 in let no : is_some (get zs n) ≡ false = ap (λ o. is_some o) none in absurd (cc)

-- where no object lies in a pool, none goes as it closes
pub none_goes : (os : Objects) (zs : Sizes) (l : Owned) (s : Store) (n : ℕ) → ((k : ℕ) → lies_in n (get os k) ≡ false) → AreStored os zs l s → (k : ℕ) → get (S.without_pool n s).objects k ≡ get s.objects k
none_goes os zs l s n none h k = get_kept (λ o. not (S.lies_in n o)) s.objects k ∙ by (get os k) (get s.objects k) (h.each k) (none k)
  where
    spot : (z : Place) → option_map_or (λ (x : Spot). nat_eq x.pool n) (spot_of z) false ≡ is_in n z
    spot Standard = refl
    spot (InBlock y) = refl

    stays : (a : Allocation) (o : Stored) → LiesAs a o → is_in n a.place ≡ false → S.lies_in n o ≡ false
    stays a o i out = ap (λ x. S.lies_in n (record o { site = x })) i.site ∙ (ap (λ (x : Option Spot). option_map_or (λ (y : Spot). nat_eq y.pool n) x false) i.spot ∙ (spot a.place ∙ out))

    by : (a : Option Allocation) (o : Option Stored) → IsStored a o → lies_in n a ≡ false → kept_if (λ (z : Stored). not (S.lies_in n z)) o ≡ o
    by None None i out = refl
    by None (Some o) i out = absurd i
    by (Some a) None i out = absurd i
    by (Some a) (Some o) i out = ap (λ b. cond (not b) (Some o) None) (stays a o i out)

pub seen_left : (os : Objects) (zs : Sizes) (l : Owned) (s : Store) (n : ℕ) → ((k : ℕ) → lies_in n (get os k) ≡ false) → AreStored os zs l s → seen os (S.without_pool n s) ≡ seen os s
seen_left os zs l s n none h = seen_same os s (S.without_pool n s) (equal_maps (S.without_pool n s).objects s.objects (none_goes os zs l s n none h))

pub not_open_is : (s : Store) (n : ℕ) → S.is_open n s ≡ false → get s.blocks n ≡ None
not_open_is s n is = by (get s.blocks n) (get s.marks n) is
  where
    by : (b : Option BlockPool) (m : Option MarkPool) → (is_some b || is_some m) ≡ false → b ≡ None
    by None m e = refl
    by (Some b) m e = absurd (cc)

pub open_is : (s : Store) (n : ℕ) → get s.marks n ≡ None → S.is_open n s ≡ is_some (get s.blocks n)
open_is s n none = ap (λ m. is_some (get s.blocks n) || is_some m) none ∙ by (is_some (get s.blocks n))
  where
    by : (b : Bool) → (b || false) ≡ b
    by true = refl
    by false = refl

-- a pool that is not open is not there where it closes
pub blocks_left : (m : Blocks) (n : ℕ) → get m n ≡ None → (k : ℕ) → get m k ≡ cond (nat_eq k n) None (get m k)
blocks_left m n none k = by (nat_eq k n) refl
  where
    by : (b : Bool) → nat_eq k n ≡ b → get m k ≡ cond b None (get m k)
    by true is = ap (get m) (eqb-true k n is) ∙ none
    by false is = refl

pub kept_closed : (os : Objects) (zs : Sizes) (l : Owned) (s : Store) (n : ℕ) → ((k : ℕ) → lies_in n (get os k) ≡ false) → AreStored os zs l s → AreStored os zs l (S.without_pool n s)
kept_closed os zs l s n none h = record {
  each = λ k. subst (λ o. IsStored (get os k) o) (sym (none_goes os zs l s n none h k)) (h.each k);
  held = λ k p a. ap (λ o. holds k (option_and_then (λ b. get b.out a) o)) (get_dropped s.blocks n p) ∙ own k p a (nat_eq p n) refl;
  listed = h.listed;
  pools = λ p. subst (λ o. IfSome o (λ b. IsSome (get zs p) × AreGiven s.given b.out)) (sym (get_dropped s.blocks n p)) (pool p (nat_eq p n));
  marks = λ p. get_dropped s.marks n p ∙ mark p (nat_eq p n);
}
  where
    elsewhere : (p a : ℕ) (o : Option Allocation) → lies_in p o ≡ false → lies_at p a o ≡ false
    elsewhere p a None e = refl
    elsewhere p a (Some x) e = at x.place e
      where
        at : (z : Place) → is_in p z ≡ false → is_at p a z ≡ false
        at Standard e = refl
        at (InBlock y) e = ap (λ b. b && nat_eq y.address a) e

    own : (k p a : ℕ) (c : Bool) → nat_eq p n ≡ c → holds k (option_and_then (λ (b : BlockPool). get b.out a) (cond c None (get s.blocks p))) ≡ lies_at p a (get os k)
    own k p a true is = sym (elsewhere p a (get os k) (ap (λ q. lies_in q (get os k)) (eqb-true p n is) ∙ none k))
    own k p a false is = h.held k p a

    pool : (p : ℕ) (c : Bool) → IfSome (cond c None (get s.blocks p)) (λ b. IsSome (get zs p) × AreGiven s.given b.out)
    pool p true = tt
    pool p false = h.pools p

    mark : (p : ℕ) (c : Bool) → cond c None (get s.marks p) ≡ None
    mark p true = refl
    mark p false = h.marks p

-- the discriminants of a pool that is not open are forgotten
pub kept_sizes : (os : Objects) (zs : Sizes) (l : Owned) (s : Store) (n : ℕ) → get s.blocks n ≡ None → AreStored os zs l s → AreStored os (remove zs n) l s
kept_sizes os zs l s n closed h = record {
  each = h.each;
  held = h.held;
  listed = h.listed;
  pools = λ p. by p (nat_eq p n) refl (get s.blocks p) refl (h.pools p);
  marks = h.marks;
}
  where
    by : (p : ℕ) (c : Bool) → nat_eq p n ≡ c → (o : Option BlockPool) → get s.blocks p ≡ o → IfSome o (λ b. IsSome (get zs p) × AreGiven s.given b.out) → IfSome o (λ b. IsSome (get (remove zs n) p) × AreGiven s.given b.out)
    by p c is None there i = tt
    by p true is (Some b) there i = let gone : get s.blocks p ≡ None = ap (get s.blocks) (eqb-true p n is) ∙ closed in absurd (cc)
    by p false is (Some b) there i = (ap (λ o. is_some o) (get_dropped zs n p ∙ ap (λ c. cond c None (get zs p)) is) ∙ i.0, i.1)

-- Objects in a pool ----------------------------------------------------------------------------------------

in_place : (n c : ℕ) (z : Place) → lies_in_pool n (W.Allocated c (place_of z)) ≡ is_in n z
unfolding opened_objects
in_place n c Standard = refl
in_place n c (InBlock y) = refl

pub lies_seen : (os : Objects) (s : Store) (n k : ℕ) → number_lies_in n k (seen os s) ≡ lies_in n (get os k)
lies_seen os s n k = ap (λ o. option_map_or (λ (x : Object). lies_in_pool n x.origin) o false) (in_seen os s k) ∙ by (get os k)
  where
    by : (o : Option Allocation) → option_map_or (λ (x : Object). lies_in_pool n x.origin) (option_map (λ a. allocated k a (S.words_of k s)) o) false ≡ lies_in n o
    by None = refl
    by (Some a) = in_place n a.collection a.place

pub outside_seen : (os : List Object) (n : ℕ) → ((k : ℕ) → number_lies_in n k os ≡ false) → AreOutside n os
outside_seen os n none k = by (object_in k os) (none k)
  where
    by : (o : Option Object) → option_map_or (λ (x : Object). lies_in_pool n x.origin) o false ≡ false → IfSome o (λ x. lies_in_pool n x.origin ≡ false)
    by None e = tt
    by (Some x) e = e

pub seen_outside : (os : List Object) (n k : ℕ) → AreOutside n os → number_lies_in n k os ≡ false
seen_outside os n k none = by (object_in k os) (none k)
  where
    by : (o : Option Object) → IfSome o (λ x. lies_in_pool n x.origin ≡ false) → option_map_or (λ (x : Object). lies_in_pool n x.origin) o false ≡ false
    by None e = refl
    by (Some x) e = e

-- an object in a block lies in a pool that is open
pub none_closed : (os : Objects) (zs : Sizes) (l : Owned) (s : Store) (n : ℕ) → get s.blocks n ≡ None → AreStored os zs l s → AreOutside n (seen os s)
none_closed os zs l s n closed h = outside_seen (seen os s) n (λ k. lies_seen os s n k ∙ by k (get os k) refl)
  where
    own : (k : ℕ) (a : Allocation) (z : Place) → get os k ≡ Some a → a.place ≡ z → (b : Bool) → is_in n z ≡ b → is_in n z ≡ false
    own k a z there place false is = is
    own k a Standard there place true is = refl
    own k a (InBlock y) there place true is =
        let held : holds k (lot_at n y.address s) ≡ true =
        h.held k n y.address ∙ (ap (λ o. lies_at n y.address o) there ∙ (ap (λ z. is_at n y.address z) place ∙ (ap (λ b. b && nat_eq y.address y.address) is ∙ eq-eqb y.address y.address refl))) in
        let none : holds k (lot_at n y.address s) ≡ false = ap (λ (o : Option BlockPool). holds k (option_and_then (λ b. get b.out y.address) o)) closed in
        absurd (cc)

    by : (k : ℕ) (o : Option Allocation) → get os k ≡ o → lies_in n o ≡ false
    by k None there = refl
    by k (Some a) there = own k a a.place there refl (is_in n a.place) refl

abbrev outside : ℕ → Object → Bool
outside n o = not (lies_in_pool n o.origin)

-- then each stays
pub all_outside : (os : List Object) (n : ℕ) → Rise 0 os → AreOutside n os → os ≡ keep (λ o. not (lies_in_pool n o.origin)) os
all_outside os n rise none = same_objects 0 os (keep (outside n) os) rise (rise_keep (outside n) 0 os rise) (λ k. by (object_in k os) (none k) ∙ sym (in_keep (outside n) 0 k os rise))
  where
    by : (o : Option Object) → IfSome o (λ x. lies_in_pool n x.origin ≡ false) → o ≡ kept_one (outside n) o
    by None is = refl
    by (Some z) is = ap (λ b. cond (not b) (Some z) None) (sym is)

pub no_more : (p : Object → Bool) (os : List Object) → length (keep p os) ≤ length os
no_more p [] = subst (λ l. length l ≤ 0) (sym (keep_none p)) (omega arith)
no_more p (o ∷ os) = subst (λ l. length l ≤ length (o ∷ os)) (sym (keep_more p o os)) (by (no_more p os) (p o))
  where
    by : length (keep p os) ≤ length os → (b : Bool) → length (cond b (o ∷ keep p os) (keep p os)) ≤ length (o ∷ os)
    by ih true = omega (arith, ih)
    by ih false = omega (arith, ih)

-- each time there is one object less
pub fewer : (os : List Object) (n k : ℕ) → number_lies_in n k os ≡ true → length (keep (λ o. not (nat_eq o.number k)) os) < length os
fewer [] n k is =
    let no : number_lies_in n k [] ≡ false = ap (λ o. option_map_or (λ (z : Object). lies_in_pool n z.origin) o false) (in_none k) in
    absurd (cc)
fewer (o ∷ os) n k is =
    subst (λ l. length l < length (o ∷ os)) (sym (keep_more (λ x. not (nat_eq x.number k)) o os))
    (by (fewer os n k) (nat_eq o.number k) (sym (ap (λ x. option_map_or (λ (z : Object). lies_in_pool n z.origin) x false) (in_more k o os)) ∙ is))
  where
    by : (number_lies_in n k os ≡ true → length (keep (λ x. not (nat_eq x.number k)) os) < length os) → (b : Bool) → option_map_or (λ (z : Object). lies_in_pool n z.origin) (cond b (Some o) (object_in k os)) false ≡ true
        → length (cond (not b) (o ∷ keep (λ x. not (nat_eq x.number k)) os) (keep (λ x. not (nat_eq x.number k)) os)) < length (o ∷ os)
    by ih true there = let less = no_more (λ x. not (nat_eq x.number k)) os in omega (arith, less)
    by ih false there = let less = ih there in omega (arith, less)

-- an object of the pool goes
pub rest_same : (os : List Object) (pool n : ℕ) → Rise 0 os → number_lies_in pool n os ≡ true
    → keep (λ o. not (lies_in_pool pool o.origin)) (keep (λ o. not (nat_eq o.number n)) os) ≡ keep (λ o. not (lies_in_pool pool o.origin)) os
rest_same os pool n rise is =
    let other = λ (o : Object). not (nat_eq o.number n) in
    same_objects 0 (keep (outside pool) (keep other os)) (keep (outside pool) os) (rise_keep (outside pool) 0 (keep other os) (rise_keep other 0 os rise)) (rise_keep (outside pool) 0 os rise) (λ k.
    in_keep (outside pool) 0 k (keep other os) (rise_keep other 0 os rise)
    ∙ (ap (kept_one (outside pool)) (in_keep other 0 k os rise)
    ∙ (by k (object_in k os) refl ∙ sym (in_keep (outside pool) 0 k os rise))))
  where
    at : (k : ℕ) (z : Object) → object_in k os ≡ Some z → (b : Bool) → nat_eq z.number n ≡ b → kept_one (outside pool) (cond (not b) (Some z) None) ≡ kept_one (outside pool) (Some z)
    at k z there false differs = refl
    at k z there true same =
        let number : k ≡ n = sym (number_found k os z there) ∙ eqb-true z.number n same in
        let gone : lies_in_pool pool z.origin ≡ true = ap (λ o. option_map_or (λ (x : Object). lies_in_pool pool x.origin) o false) (sym there) ∙ (ap (λ m. option_map_or (λ (x : Object). lies_in_pool pool x.origin) (object_in m os) false) number ∙ is) in
        ap (λ b. cond (not b) (Some z) None) (sym gone)

    by : (k : ℕ) (o : Option Object) → object_in k os ≡ o → kept_one (outside pool) (kept_one (λ (x : Object). not (nat_eq x.number n)) o) ≡ kept_one (outside pool) o
    by k None there = refl
    by k (Some z) there = at k z there (nat_eq z.number n) refl
