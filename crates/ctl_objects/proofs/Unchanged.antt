-- Objects come and change, and the pools are shown as they were: over plain variables, for a caller that knows what all objects are now.
use Rattle.std.proofs.Common.{◌≡◌, ◌∙◌, ℕ, ◌+◌, ◌<◌, ◌≤◌, List, [], ◌∷◌, ◌++◌, Option, Some, None, Bool, true, false, cond, refl, sym, ap, arith, subst}
use Rattle.std.specs.Prelude.{IfSome, is_some, nat_eq}
use Rattle.std.specs.Option.{option_map, option_or}
use Rattle.std.proofs.lemmas.Bool.Decides.{nat_tests}
use Rattle.ctl_program.specs.declared.types.Ty.{Ty}
use Rattle.ctl_meaning.specs.World as W
use Rattle.ctl_meaning.specs.World.{Object, Origin}
use Rattle.ctl_meaning.specs.Lists.{change_first, opened_lists}
use Rattle.ctl_meaning.specs.Objects.{cells_at, change_in, object_in, opened_objects, with_cells, with_joined}
use Rattle.ctl_meaning.specs.Changes.{new_object, opened_changes}
use Rattle.ctl_meaning.specs.Pools.{block_pool_at}
use Rattle.ctl_storage.specs.Order.{AreBelow}
use Rattle.ctl_storage.specs.Storage.{IsShown, exists, holder_at}
use Rattle.ctl_storage.proofs.Beside.{holders_weaker, shown_beside}
use Rattle.ctl_storage.proofs.InStore.{cells_keep}
use Rattle.ctl_storage.proofs.Rising.{KeepsNumbers, in_change, in_more, in_newest}
use Rattle.ctl_storage.proofs.Shown.{later}
use Rattle.ctl_objects.specs.Copies.{copied}
use Rattle.ctl_objects.proofs.Pools.{pool_weaker}
use Rattle.ctl_objects.proofs.Shown.{existing_alike, same_pool}
use Rattle.std.specs.FinMap.{get}
use Rattle.pool_store.specs.Entries.{BlockPool}
use Rattle.ctl_storage.specs.Calls.{IsOpen}
use Rattle.ctl_groups.specs.declared.needs.Need.{Need}
use Rattle.ctl_objects.specs.Order.{IsAllocated, IsDeclared}
use Rattle.ctl_objects.specs.Pools.{IsOwner, IsUnallocated, IsUndeclared, KeepsShown, ShowsPools}
use Rattle.ctl_objects.specs.Stock.{Stock, storage_of}
use Rattle.ctl_objects.proofs.Origins.{KeepsOrigins, cells_stay}

-- what is found of both has the same origin, or nothing is found
abbrev pub IsAlike : Option Object → Option Object → Type 0
IsAlike None None = Unit {0}
IsAlike None (Some z) = ⊥
IsAlike (Some o) None = ⊥
IsAlike (Some o) (Some z) = z.origin ≡ o.origin

-- each lower number finds such an object in both lists or in neither
abbrev pub AreAlike : ℕ → List Object → List Object → Type 0
AreAlike bound os zs = (n : ℕ) → n < bound → IsAlike (object_in n os) (object_in n zs)

alike_exists : (o z : Option Object) → IsAlike o z → is_some z ≡ is_some o
alike_exists None None a = refl
alike_exists None (Some z) a = absurd a
alike_exists (Some o) None a = absurd a
alike_exists (Some o) (Some z) a = refl

alike_undeclared : (o z : Option Object) → IsAlike o z → IfSome o (λ x. IsAllocated x.origin) → IfSome z (λ x. IsAllocated x.origin)
alike_undeclared None None a i = tt
alike_undeclared None (Some z) a i = absurd a
alike_undeclared (Some o) None a i = absurd a
alike_undeclared (Some o) (Some z) a i = subst IsAllocated (sym a) i

alike_unallocated : (o z : Option Object) → IsAlike o z → IfSome o (λ x. IsDeclared x.origin) → IfSome z (λ x. IsDeclared x.origin)
alike_unallocated None None a i = tt
alike_unallocated None (Some z) a i = absurd a
alike_unallocated (Some o) None a i = absurd a
alike_unallocated (Some o) (Some z) a i = subst IsDeclared (sym a) i

below_both : (bound : ℕ) (P : ℕ → Type 0) (o : Option ℕ) → IfSome o (λ n. n < bound) → IfSome o P → IfSome o (λ n. (n < bound) × P n)
below_both bound P None b i = tt
below_both bound P (Some n) b i = (b, i)

both_weaker : (A B C : Type 0) (o : Option W.BlockPool) → IfSome o (λ p. A) → IfSome o (λ p. B) → (A → B → C) → IfSome o (λ p. C)
both_weaker A B C None a b f = tt
both_weaker A B C (Some p) a b f = f a b

-- objects that are alike up to the next number show the same pools
pub alike_pools : (next : ℕ) (x : W.Pools) (s : Stock) (zs : List Object) → AreAlike next s.objects zs → ShowsPools next x s → ShowsPools next x (record s { objects = zs })
alike_pools next x s zs alike h = record {
  kept = h.kept;
  existing = existing_alike s.objects zs x h.kept (λ n. pool_weaker (n < next) (exists n zs ≡ exists n s.objects) (block_pool_at n h.kept) (same n) (h.held.shown.pools n)) h.existing;
  held = record {
    shown = shown_beside next h.kept zs (storage_of s) (holders_weaker (λ n. n < next) (λ n. exists n zs ≡ exists n s.objects) h.kept same h.held.shown.holders) h.held.shown;
    holders = holders_weaker (λ n. (n < next) × IsUndeclared n s.objects) (λ n. IsUndeclared n zs) h.kept (λ n i. alike_undeclared (object_in n s.objects) (object_in n zs) (alike n i.0) i.1)
        (λ n a. below_both next (λ m. IsUndeclared m s.objects) (holder_at n a h.kept) (h.held.shown.holders n a) (h.held.holders n a));
    owners = λ n. both_weaker (n < next) (IsUnallocated n s.objects) (IsUnallocated n zs) (block_pool_at n h.kept) (h.held.shown.pools n) (h.held.owners n) (λ less. alike_unallocated (object_in n s.objects) (object_in n zs) (alike n less));
  };
}
  where
    same : (n : ℕ) → n < next → exists n zs ≡ exists n s.objects
    same n less = alike_exists (object_in n s.objects) (object_in n zs) (alike n less)

-- the next number may be greater
pub later_pools : (next m : ℕ) (x : W.Pools) (s : Stock) → next ≤ m → ShowsPools next x s → ShowsPools m x s
later_pools next m x s less h = record { kept = h.kept; existing = h.existing; held = record { shown = later next m h.kept (storage_of s) less h.held.shown; holders = h.held.holders; owners = h.held.owners } }

pub needs_apart : (next : ℕ) (x : W.Pools) (s : Stock) (needs : List Need) → ShowsPools next x s → ShowsPools next x (record s { needs = needs })
needs_apart next x s needs h = record { kept = h.kept; existing = h.existing; held = record { shown = h.held.shown; holders = h.held.holders; owners = h.held.owners } }

-- Changes --------------------------------------------------------------------------------------------------

alike_same : (o : Option Object) → IsAlike o o
alike_same None = tt
alike_same (Some z) = refl

alike_mapped : (b : Bool) (f : Object → Object) → KeepsOrigins f → (o : Option Object) → IsAlike o (cond b (option_map f o) o)
alike_mapped false f origins o = alike_same o
alike_mapped true f origins None = tt
alike_mapped true f origins (Some z) = origins z

alike_changed : (n : ℕ) (f : Object → Object) → KeepsNumbers f → KeepsOrigins f → (os : List Object) (m : ℕ) → IsAlike (object_in m os) (object_in m (change_in n f os))
alike_changed n f numbers origins os m = subst (λ z. IsAlike (object_in m os) z) (sym (in_change n f numbers m os)) (alike_mapped (nat_eq m n) f origins (object_in m os))

pub changed_pools : (next n : ℕ) (f : Object → Object) (x : W.Pools) (s : Stock) → ((o : Object) → (f o).number ≡ o.number) → ((o : Object) → (f o).origin ≡ o.origin) → ShowsPools next x s → ShowsPools next x (record s { objects = change_in n f s.objects })
changed_pools next n f x s numbers origins h = alike_pools next x s (change_in n f s.objects) (λ m less. alike_changed n f numbers origins s.objects m) h

-- the first object that passes a test changes
alike_first : (p : Object → Bool) (f : Object → Object) → KeepsNumbers f → KeepsOrigins f → (os : List Object) (m : ℕ) → IsAlike (object_in m os) (object_in m (change_first p f os))
unfolding opened_lists
alike_first p f numbers origins [] m = alike_same (object_in m [])
alike_first p f numbers origins (o ∷ os) m =
    subst (λ z. IsAlike z (object_in m (cond (p o) (f o ∷ os) (o ∷ change_first p f os)))) (sym (in_more m o os)) (by (alike_first p f numbers origins os m) (p o))
  where
    own : (y z : Object) (a b : Option Object) → z.origin ≡ y.origin → IsAlike a b → (t : Bool) → IsAlike (cond t (Some y) a) (cond t (Some z) b)
    own y z a b same alike true = same
    own y z a b same alike false = alike

    by : IsAlike (object_in m os) (object_in m (change_first p f os)) → (t : Bool) → IsAlike (cond (nat_eq o.number m) (Some o) (object_in m os)) (object_in m (cond t (f o ∷ os) (o ∷ change_first p f os)))
    by rest true =
        subst (λ z. IsAlike (cond (nat_eq o.number m) (Some o) (object_in m os)) z) (sym (in_more m (f o) os ∙ ap (λ k. cond (nat_eq k m) (Some (f o)) (object_in m os)) (numbers o)))
        (own o (f o) (object_in m os) (object_in m os) (origins o) (alike_same (object_in m os)) (nat_eq o.number m))
    by rest false =
        subst (λ z. IsAlike (cond (nat_eq o.number m) (Some o) (object_in m os)) z) (sym (in_more m o (change_first p f os)))
        (own o o (object_in m os) (object_in m (change_first p f os)) refl rest (nat_eq o.number m))

joined_keeps : KeepsNumbers with_joined
unfolding opened_objects
joined_keeps o = refl

joined_stays : KeepsOrigins with_joined
unfolding opened_objects
joined_stays o = refl

pub joined_pools : (next n : ℕ) (x : W.Pools) (s : Stock) → ShowsPools next x s → ShowsPools next x (record s { objects = change_first (λ o. nat_eq o.number n) with_joined s.objects })
joined_pools next n x s h = alike_pools next x s (change_first (λ o. nat_eq o.number n) with_joined s.objects) (λ m less. alike_first (λ o. nat_eq o.number n) with_joined joined_keeps joined_stays s.objects m) h

pub copied_pools : (next start to target count : ℕ) (source : Option Object) (x : W.Pools) (s : Stock) → ShowsPools next x s → ShowsPools next x (record s { objects = copied start to target count source s.objects })
copied_pools next start to target count None x s h = h
copied_pools next start to target count (Some o) x s h = changed_pools next to (with_cells target (cells_at start count o)) x s (cells_keep target (cells_at start count o)) (cells_stay target (cells_at start count o)) h

-- An object comes ------------------------------------------------------------------------------------------

-- a lower number finds what it found
alike_newest : (z : Object) (os : List Object) → AreAlike z.number os (os ++ z ∷ [])
alike_newest z os m less = subst (λ o. IsAlike (object_in m os) o) (sym (in_newest m os z)) (by (object_in m os) (nat_eq z.number m) (grind (arith, nat_tests, less)))
  where
    by : (o : Option Object) (b : Bool) → b ≡ false → IsAlike o (option_or o (cond b (Some z) None))
    by (Some y) b is = refl
    by None false is = tt
    by None true is = absurd (cc)

pub newest_pools : (z : Object) (x : W.Pools) (s : Stock) → ShowsPools z.number x s → ShowsPools (z.number + 1) x (record s { objects = s.objects ++ z ∷ [] })
newest_pools z x s h = later_pools z.number (z.number + 1) x (record s { objects = s.objects ++ z ∷ [] }) (omega arith) (alike_pools z.number x s (s.objects ++ z ∷ []) (alike_newest z s.objects) h)

pub declared_pools : (number m : ℕ) (ty : Ty) (cells : List ℕ) (x : W.Pools) (s : Stock) → AreBelow number s.objects → ShowsPools number x s
    → ShowsPools (number + 1) x (record s { objects = s.objects ++ new_object number ty cells (W.Declared m) ∷ [] })
unfolding opened_changes
declared_pools number m ty cells x s below h = newest_pools (new_object number ty cells (W.Declared m)) x s h

pub allocated_pools : (number c : ℕ) (ty : Ty) (cells : List ℕ) (x : W.Pools) (s : Stock) → AreBelow number s.objects → ShowsPools number x s
    → ShowsPools (number + 1) x (record s { objects = s.objects ++ new_object number ty cells (W.Allocated c W.Standard) ∷ [] })
unfolding opened_changes
allocated_pools number c ty cells x s below h = newest_pools (new_object number ty cells (W.Allocated c W.Standard)) x s h

-- What is known of the pools that are shown ----------------------------------------------------------------

-- each is a declared object
pub pool_owner : (next : ℕ) (x : W.Pools) (s : Stock) → ShowsPools next x s → (n : ℕ) → IfSome (block_pool_at n x) (λ p. IsOwner n s.objects)
pool_owner next x s h n = subst (λ o. IfSome o (λ (p : W.BlockPool). IsOwner n s.objects)) (sym (h.existing.pools n)) (by (object_in n s.objects) refl (block_pool_at n h.kept) (h.held.owners n))
  where
    by : (z : Option Object) → object_in n s.objects ≡ z → (o : Option W.BlockPool) → IfSome o (λ p. IfSome z (λ y. IsDeclared y.origin)) → IfSome (cond (is_some z) o None) (λ p. IsOwner n s.objects)
    by None there o i = tt
    by (Some z) there None i = tt
    by (Some z) there (Some p) i = (z, there, i)

-- and its number was given
pub pool_below : (next : ℕ) (x : W.Pools) (s : Stock) → ShowsPools next x s → (n : ℕ) → IfSome (block_pool_at n x) (λ p. n < next)
pool_below next x s h n = subst (λ o. IfSome o (λ (p : W.BlockPool). n < next)) (sym (h.existing.pools n)) (by (exists n s.objects) (block_pool_at n h.kept) (h.held.shown.pools n))
  where
    by : (b : Bool) (o : Option W.BlockPool) → IfSome o (λ p. n < next) → IfSome (cond b o None) (λ p. n < next)
    by true o i = i
    by false o i = tt

-- a pool that is open, and whose object exists, is among them
pub open_shown : (next n : ℕ) (x : W.Pools) (s : Stock) → exists n s.objects ≡ true → IsOpen n (storage_of s) → ShowsPools next x s → (p : W.BlockPool) × (block_pool_at n x ≡ Some p) × (p.is_open ≡ true)
open_shown next n x s there stands h = by (block_pool_at n h.kept) (get s.blocks n) refl stands (h.held.shown.blocks n)
  where
    by : (o : Option W.BlockPool) (b : Option BlockPool) → block_pool_at n h.kept ≡ o → is_some b ≡ true → IsShown s.objects o b → (p : W.BlockPool) × (block_pool_at n x ≡ Some p) × (p.is_open ≡ true)
    by o None is e i = absurd (cc)
    by None (Some b) is e i = absurd i
    by (Some p) (Some b) is e i = (p, same_pool s.objects n x h.kept there h.existing ∙ is, i.0)

-- Calls that say what all objects are then -----------------------------------------------------------------

pub changed_shown : (s t : Stock) (n : ℕ) (f : Object → Object) → KeepsNumbers f → KeepsOrigins f → t ≡ record s { objects = t.objects } → t.objects ≡ change_in n f s.objects → KeepsShown s t
changed_shown s t n f numbers origins same is next x h = subst (λ (v : Stock). ShowsPools next x v) (sym (same ∙ ap (λ (os : List Object). record s { objects = os }) is)) (changed_pools next n f x s numbers origins h)

pub copied_shown : (s t : Stock) (start to target count : ℕ) (source : Option Object) → t ≡ record s { objects = t.objects } → t.objects ≡ copied start to target count source s.objects → KeepsShown s t
copied_shown s t start to target count source same is next x h = subst (λ (v : Stock). ShowsPools next x v) (sym (same ∙ ap (λ (os : List Object). record s { objects = os }) is)) (copied_pools next start to target count source x s h)

pub newest_shown : (s t : Stock) (z : Object) → t ≡ record s { objects = t.objects } → t.objects ≡ s.objects ++ z ∷ [] → (x : W.Pools) → ShowsPools z.number x s → ShowsPools (z.number + 1) x t
newest_shown s t z same is x h = subst (λ (v : Stock). ShowsPools (z.number + 1) x v) (sym (same ∙ ap (λ (os : List Object). record s { objects = os }) is)) (newest_pools z x s h)
