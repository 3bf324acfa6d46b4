-- What is true of each object stays true as objects come, change and go: so a caller shows the conditions of the calls.
use Rattle.std.proofs.Common.{◌≡◌, ℕ, ◌+◌, ◌<◌, ◌≤◌, List, [], ◌∷◌, ◌++◌, Option, Some, None, Bool, true, false, cond, refl, sym, ap, arith, subst}
use Rattle.std.specs.Option.{option_map}
use Rattle.std.specs.List.{AllByRecursion}
use Rattle.ctl_meaning.specs.World.{Origin, Declared, Allocated, Object}
use Rattle.ctl_meaning.specs.Lists.{change_first, keep, opened_lists}
use Rattle.ctl_meaning.specs.Objects.{change_in, object_in}
use Rattle.ctl_objects.specs.declared.existing.Existing.{Existing}
use Rattle.ctl_objects.specs.Existing.{IsKnown, bare, known, origin_of}
use Rattle.ctl_objects.specs.Order.{AreUpTo, IsDeclared, IsUpTo}
use Rattle.ctl_objects.specs.Pools.{IsOwner}
use Rattle.ctl_storage.specs.Order.{AreBelow}
use Rattle.ctl_storage.proofs.Conditions.{all_changed, all_kept, all_newest, all_weaker, below_more}
use Rattle.ctl_storage.proofs.Rising.{KeepsNumbers}

pub all_first : (P : Object → Type 0) (p : Object → Bool) (f : Object → Object) → ((o : Object) → P o → P (f o)) → (os : List Object) → AllByRecursion P os → AllByRecursion P (change_first p f os)
unfolding opened_lists
all_first P p f keeps [] h = tt
all_first P p f keeps (o ∷ os) h = by (all_first P p f keeps os h.1) (p o)
  where
    by : AllByRecursion P (change_first p f os) → (b : Bool) → AllByRecursion P (cond b (f o ∷ os) (o ∷ change_first p f os))
    by rest true = (keeps o h.0, h.1)
    by rest false = (h.0, rest)

-- a greater master
pub up_to_more : (n m : ℕ) (os : List Object) → n ≤ m → AreUpTo n os → AreUpTo m os
up_to_more n m os less h = all_weaker (λ o. IsUpTo n o.origin) (λ o. IsUpTo m o.origin) (λ o up. by o.origin up) os h
  where
    by : (x : Origin) → IsUpTo n x → IsUpTo m x
    by (Declared k) up = omega (arith, up, less)
    by (Allocated c p) up = tt

-- Both conditions ------------------------------------------------------------------------------------------

abbrev pub AreNumbered : ℕ → ℕ → List Object → Type 0
AreNumbered next m os = AreBelow next os × AreUpTo m os

pub numbered_changed : (next m n : ℕ) (f : Object → Object) (os : List Object) → KeepsNumbers f → ((o : Object) → (f o).origin ≡ o.origin) → AreNumbered next m os → AreNumbered next m (change_in n f os)
numbered_changed next m n f os numbers origins h = (
  all_changed (λ o. o.number < next) n f (λ o below. let same = numbers o in omega (arith, same, below)) os h.0,
  all_changed (λ o. IsUpTo m o.origin) n f (λ o up. subst (λ x. IsUpTo m x) (sym (origins o)) up) os h.1,
)

pub numbered_first : (next m : ℕ) (p : Object → Bool) (f : Object → Object) (os : List Object) → KeepsNumbers f → ((o : Object) → (f o).origin ≡ o.origin) → AreNumbered next m os → AreNumbered next m (change_first p f os)
numbered_first next m p f os numbers origins h = (
  all_first (λ o. o.number < next) p f (λ o below. let same = numbers o in omega (arith, same, below)) os h.0,
  all_first (λ o. IsUpTo m o.origin) p f (λ o up. subst (λ x. IsUpTo m x) (sym (origins o)) up) os h.1,
)

pub numbered_kept : (next m : ℕ) (p : Object → Bool) (os : List Object) → AreNumbered next m os → AreNumbered next m (keep p os)
numbered_kept next m p os h = (all_kept (λ o. o.number < next) p os h.0, all_kept (λ o. IsUpTo m o.origin) p os h.1)

pub numbered_new : (next m : ℕ) (x : Object) (os : List Object) → x.number ≡ next → IsUpTo m x.origin → AreNumbered next m os → AreNumbered (next + 1) m (os ++ x ∷ [])
numbered_new next m x os number up h = (
  all_newest (λ o. o.number < next + 1) os x (below_more next (next + 1) os (omega arith) h.0) (omega (arith, number)),
  all_newest (λ o. IsUpTo m o.origin) os x h.1 up,
)

-- Pools ----------------------------------------------------------------------------------------------------

-- what is found of a declared object says that a pool may be opened for it
pub known_owner : (n : ℕ) (e : Existing) (os : List Object) → IsKnown n (Some e) os → IsDeclared (origin_of e.origin) → IsOwner n os
known_owner n e os is declared = by (object_in n os) refl is
  where
    same : (a b : Object) → (let x : Option Object = Some a in x ≡ Some b) → a ≡ b
    same a b e = cc

    by : (o : Option Object) → object_in n os ≡ o → (let x : Option Object = Some (known n e) in x ≡ option_map bare o) → IsOwner n os
    by None there i = absurd (cc)
    by (Some z) there i = (z, there, subst IsDeclared (ap (λ (o : Object). o.origin) (same (known n e) (bare z) i)) declared)
