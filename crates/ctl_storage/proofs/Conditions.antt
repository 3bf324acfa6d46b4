-- What is true of each object stays true as objects come, change and go: so a caller shows the conditions of the calls.
use Rattle.std.proofs.Common.{◌≡◌, ℕ, ◌+◌, ◌<◌, ◌≤◌, List, [], ◌∷◌, ◌++◌, Bool, true, false, cond, arith}
use Rattle.std.specs.Prelude.{nat_eq}
use Rattle.std.specs.List.{AllByRecursion}
use Rattle.ctl_meaning.specs.World.{Object}
use Rattle.ctl_meaning.specs.Lists.{keep, opened_lists}
use Rattle.ctl_meaning.specs.Objects.{change_in, opened_objects}
use Rattle.ctl_storage.specs.Order.{AreBelow}
use Rattle.ctl_storage.proofs.Rising.{KeepsNumbers}

pub all_weaker : (P Q : Object → Type 0) → ((o : Object) → P o → Q o) → (os : List Object) → AllByRecursion P os → AllByRecursion Q os
all_weaker P Q f [] h = tt
all_weaker P Q f (o ∷ os) h = (f o h.0, all_weaker P Q f os h.1)

pub all_newest : (P : Object → Type 0) (os : List Object) (x : Object) → AllByRecursion P os → P x → AllByRecursion P (os ++ x ∷ [])
all_newest P [] x h is = (is, tt)
all_newest P (o ∷ os) x h is = (h.0, all_newest P os x h.1 is)

pub all_changed : (P : Object → Type 0) (n : ℕ) (f : Object → Object) → ((o : Object) → P o → P (f o)) → (os : List Object) → AllByRecursion P os → AllByRecursion P (change_in n f os)
unfolding opened_lists opened_objects
all_changed P n f keeps [] h = tt
all_changed P n f keeps (o ∷ os) h = (by (nat_eq o.number n), all_changed P n f keeps os h.1)
  where
    by : (b : Bool) → P (cond b (f o) o)
    by true = keeps o h.0
    by false = h.0

pub all_kept : (P : Object → Type 0) (p : Object → Bool) (os : List Object) → AllByRecursion P os → AllByRecursion P (keep p os)
unfolding opened_lists
all_kept P p [] h = tt
all_kept P p (o ∷ os) h = by (all_kept P p os h.1) (p o)
  where
    by : AllByRecursion P (keep p os) → (b : Bool) → AllByRecursion P (cond b (o ∷ keep p os) (keep p os))
    by rest true = (h.0, rest)
    by rest false = rest

-- a greater number
pub below_more : (n m : ℕ) (os : List Object) → n ≤ m → AreBelow n os → AreBelow m os
below_more n m os less h = all_weaker (λ o. o.number < n) (λ o. o.number < m) (λ o below. omega (arith, below, less)) os h

pub below_new : (next : ℕ) (x : Object) (os : List Object) → x.number ≡ next → AreBelow next os → AreBelow (next + 1) (os ++ x ∷ [])
below_new next x os number h = all_newest (λ o. o.number < next + 1) os x (below_more next (next + 1) os (omega arith) h) (omega (arith, number))

pub below_changed : (next n : ℕ) (f : Object → Object) (os : List Object) → KeepsNumbers f → AreBelow next os → AreBelow next (change_in n f os)
below_changed next n f os numbers h = all_changed (λ o. o.number < next) n f (λ o below. let same = numbers o in omega (arith, same, below)) os h

pub below_kept : (next : ℕ) (p : Object → Bool) (os : List Object) → AreBelow next os → AreBelow next (keep p os)
below_kept next p os h = all_kept (λ o. o.number < next) p os h
