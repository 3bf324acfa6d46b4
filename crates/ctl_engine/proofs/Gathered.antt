-- The collections among what is owned, as it comes and goes.
use Rattle.std.proofs.Common.{◌≡◌, ◌∙◌, ℕ, zero, suc, ◌≤◌, ◌+◌, List, [], ◌∷◌, ◌++◌, Bool, true, false, arith, refl, sym, ap, drop, take}
use Rattle.std.specs.Prelude.{nat_eq, not}
use Rattle.ctl_meaning.specs.World.{Collection}
use Rattle.ctl_meaning.specs.Lists.{keep, opened_lists}
use Rattle.ctl_frames.specs.declared.frame.Owned.{Owned}
use Rattle.ctl_frames.specs.declared.frame.Role.{Role}
use Rattle.ctl_frames.specs.declared.frame.Role.TheVariants as RoleOf
use Rattle.ctl_frames.specs.Masters.{AreOf}
use Rattle.ctl_frames.specs.Owned.{HasCome, HaveCome, set_over, sets_over, sets_owned}
use Rattle.ctl_frames.proofs.Lists.{eq_same, eq_differs}
use Rattle.ctl_engine.proofs.Owned.{AreOlder}

-- Something comes ----------------------------------------------------------------------------------------

pub sets_more : (os : List Owned) (x : Owned) (sets : List Collection) → sets_over (os ++ x ∷ []) sets ≡ set_over x.role x (sets_over os sets)
sets_more [] x sets = refl
sets_more (o ∷ os) x sets = sets_more os x (set_over o.role o sets)

-- an object is no collection
pub no_set_more : (os : List Owned) (x : Owned) (t : ℕ) → x.role ≡ RoleOf.Object t → sets_owned (os ++ x ∷ []) ≡ sets_owned os
no_set_more os x t role = sets_more os x [] ∙ ap (λ (r : Role). set_over r x (sets_owned os)) role

-- it knows as the newest collection one that is there
pub come_more : (os : List Owned) (before given : ℕ) (x : Owned) (t : ℕ) → HaveCome before os given → x.role ≡ RoleOf.Object t → x.collections ≡ given → HaveCome before (os ++ x ∷ []) given
come_more [] before given x t h role same = (came x.role role, omega (arith, same))
  where
    came : (r : Role) → r ≡ RoleOf.Object t → HasCome r x.number x.collections before
    came (RoleOf.Object u) is = omega (arith, h, same)
    came (RoleOf.Collection started count) is = absurd (cc)
come_more (o ∷ os) before given x t h role same = (h.0, come_more os o.collections given x t h.1 role same)

-- a collection is the newest of all
pub set_comes : (os : List Owned) (before given : ℕ) (x : Owned) (started : Bool) (count : ℕ) → HaveCome before os given → x.role ≡ RoleOf.Collection started count → x.number ≡ given + 1 → x.collections ≡ given + 1 → HaveCome before (os ++ x ∷ []) (given + 1)
set_comes [] before given x started count h role number same = (came x.role role, omega (arith, same))
  where
    came : (r : Role) → r ≡ RoleOf.Collection started count → HasCome r x.number x.collections before
    came (RoleOf.Object t) is = absurd (cc)
    came (RoleOf.Collection begun many) is = (omega (arith, h, same), number ∙ sym same)
set_comes (o ∷ os) before given x started count h role number same = (h.0, set_comes os o.collections given x started count h.1 role number same)

-- A master is closed -------------------------------------------------------------------------------------

-- the first of them and the others
pub sets_split : (i : ℕ) (os : List Owned) (sets : List Collection) → sets_over os sets ≡ sets_over (drop i os) (sets_over (take i os) sets)
sets_split zero os sets = refl
sets_split (suc i) [] sets = refl
sets_split (suc i) (o ∷ os) sets = sets_split i os (set_over o.role o sets)

pub come_before : (role : Role) (number collections before : ℕ) → HasCome role number collections before → before ≤ collections
come_before (RoleOf.Object t) number collections before h = h
come_before (RoleOf.Collection started count) number collections before h = let more = h.0 in omega (arith, more)

pub all_before : (os : List Owned) (before given : ℕ) → HaveCome before os given → before ≤ given
all_before [] before given h = h
all_before (o ∷ os) before given h =
    let first = come_before o.role o.number o.collections before h.0 in
    let others = all_before os o.collections given h.1 in
    omega (arith, first, others)

pub come_taken : (i : ℕ) (os : List Owned) (before given : ℕ) → HaveCome before os given → HaveCome before (take i os) given
come_taken zero os before given h = all_before os before given h
come_taken (suc i) [] before given h = h
come_taken (suc i) (o ∷ os) before given h = (h.0, come_taken i os o.collections given h.1)

-- these are all collections whose masters pass a test, or none of them is
abbrev of_masters : (ℕ → Bool) → List Collection → List Collection
of_masters f sets = keep (λ (c : Collection). f c.master) sets

abbrev AreAll : (ℕ → Bool) → Bool → List Owned → Type 0
AreAll f b [] = Unit {0}
AreAll f b (o ∷ os) = (f o.master ≡ b) × AreAll f b os

none_of : (f : ℕ → Bool) → of_masters f [] ≡ []
unfolding opened_lists
none_of f = refl

all_stay : (f : ℕ → Bool) (os : List Owned) (sets : List Collection) → AreAll f true os → of_masters f (sets_over os sets) ≡ sets_over os (of_masters f sets)
unfolding opened_lists
all_stay f [] sets h = refl
all_stay f (o ∷ os) sets h = all_stay f os (set_over o.role o sets) h.1 ∙ ap (λ (l : List Collection). sets_over os l) (by o.role)
  where
    by : (r : Role) → of_masters f (set_over r o sets) ≡ set_over r o (of_masters f sets)
    by (RoleOf.Object t) = refl
    by (RoleOf.Collection started count) = rw (h.0) refl

all_go : (f : ℕ → Bool) (os : List Owned) (sets : List Collection) → AreAll f false os → of_masters f (sets_over os sets) ≡ of_masters f sets
unfolding opened_lists
all_go f [] sets h = refl
all_go f (o ∷ os) sets h = all_go f os (set_over o.role o sets) h.1 ∙ by o.role
  where
    by : (r : Role) → of_masters f (set_over r o sets) ≡ of_masters f sets
    by (RoleOf.Object t) = refl
    by (RoleOf.Collection started count) = rw (h.0) refl

own_are : (n : ℕ) (os : List Owned) → AreOf n os → AreAll (λ m. nat_eq m n) true os
own_are n [] h = tt
own_are n (o ∷ os) h = (eq_same o.master n h.0, own_are n os h.1)

own_are_not : (n : ℕ) (os : List Owned) → AreOf n os → AreAll (λ m. not (nat_eq m n)) false os
own_are_not n [] h = tt
own_are_not n (o ∷ os) h = (ap not (eq_same o.master n h.0), own_are_not n os h.1)

older_are_not : (n : ℕ) (os : List Owned) → AreOlder n os → AreAll (λ m. nat_eq m n) false os
older_are_not n [] h = tt
older_are_not n (o ∷ os) h = (eq_differs o.master n (λ same. omega (arith, same, h.0)), older_are_not n os h.1)

older_are : (n : ℕ) (os : List Owned) → AreOlder n os → AreAll (λ m. not (nat_eq m n)) true os
older_are n [] h = tt
older_are n (o ∷ os) h = (ap not (eq_differs o.master n (λ same. omega (arith, same, h.0))), older_are n os h.1)

-- those of older masters remain
pub sets_remain : (n i : ℕ) (os : List Owned) → AreOlder n (take i os) → AreOf n (drop i os) → keep (λ (c : Collection). not (nat_eq c.master n)) (sets_owned os) ≡ sets_owned (take i os)
sets_remain n i os older own =
    let f : ℕ → Bool = λ m. not (nat_eq m n) in
    ap (of_masters f) (sets_split i os [])
    ∙ (all_go f (drop i os) (sets_owned (take i os)) (own_are_not n (drop i os) own)
    ∙ (all_stay f (take i os) [] (older_are n (take i os) older)
    ∙ ap (sets_over (take i os)) (none_of f)))

-- and these are its own
pub own_sets : (n i : ℕ) (os : List Owned) → AreOlder n (take i os) → AreOf n (drop i os) → keep (λ (c : Collection). nat_eq c.master n) (sets_owned os) ≡ sets_owned (drop i os)
own_sets n i os older own =
    let f : ℕ → Bool = λ m. nat_eq m n in
    ap (of_masters f) (sets_split i os [])
    ∙ (all_stay f (drop i os) (sets_owned (take i os)) (own_are n (drop i os) own)
    ∙ ap (sets_over (drop i os)) (all_go f (take i os) [] (older_are_not n (take i os) older) ∙ none_of f))
