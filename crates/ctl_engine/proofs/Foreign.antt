-- Objects that no master owns.
use Rattle.std.proofs.Common.{◌≡◌, ◌≢◌, ℕ, suc, ◌<◌, List, [], ◌∷◌, Option, Some, None, Bool, true, false, cond, refl, sym, ap, ◌∙◌, subst, arith, map}
use Rattle.std.specs.Prelude.{IfSome, nat_eq, not, slice_get}
use Rattle.std.specs.List.{AllByRecursion}
use Rattle.std.proofs.lemmas.Bool.Decides.{nat_tests}
use Rattle.ctl_meaning.specs.World.{Origin, Declared, Allocated, Object}
use Rattle.ctl_meaning.specs.Lists.{keep, opened_lists}
use Rattle.ctl_meaning.specs.Objects.{object_in, opened_objects}
use Rattle.ctl_objects.specs.Order as Order
use Rattle.ctl_storage.proofs.Conditions.{all_kept, all_weaker}
use Rattle.ctl_storage.proofs.Rising.{rise_keep}
use Rattle.ctl_frames.specs.declared.frame.Owned.{Owned}
use Rattle.ctl_engine.specs.Allocating.{HaveNot, OwnsNone}
use Rattle.ctl_frames.specs.Owned.{AreOwned, Identity, objects_owned, identity_of, identity_owned, is_declared}
use Rattle.ctl_frames.proofs.Lists.{eq_differs}
use Rattle.ctl_engine.proofs.Owned.{found_among, found_below}

eq_true : (a b : ℕ) → nat_eq a b ≡ true → a ≡ b
eq_true a b is = grind (arith, nat_tests)

-- the declared ones among these objects
abbrev declared_of : List Object → List Object
declared_of os = keep (λ o. is_declared o.origin) os

-- an object that is declared has another number
abbrev IsOther : ℕ → Object → Type 0
IsOther n o = is_declared o.origin ≡ true → o.number ≢ n

-- no declared object has a number that is none of the owned ones
others_all : (n : ℕ) (objects : List Object) (owned : List Owned) → map identity_of (declared_of objects) ≡ map identity_owned owned → HaveNot n owned → AllByRecursion (IsOther n) objects
unfolding opened_lists
others_all n [] owned h none = tt
others_all n (x ∷ xs) owned h none = by (others_all n xs) (is_declared x.origin) refl owned h none
  where
    by : ((owned : List Owned) → map identity_of (declared_of xs) ≡ map identity_owned owned → HaveNot n owned → AllByRecursion (IsOther n) xs) → (b : Bool) → is_declared x.origin ≡ b → (owned : List Owned) → map identity_of (cond b (x ∷ declared_of xs) (declared_of xs)) ≡ map identity_owned owned → HaveNot n owned → AllByRecursion (IsOther n) (x ∷ xs)
    by further true is [] e none = absurd (cc)
    by further true is (o ∷ os) e none =
        let first : identity_of x ≡ identity_owned o = cc in
        let others : map identity_of (declared_of xs) ≡ map identity_owned os = cc in
        ((λ d same. none.0 (sym (ap (λ (h : Identity). h.number) first) ∙ same)), further os others none.1)
    by further false is owned e none = ((λ d same. absurd (let both : true ≡ false = sym d ∙ is in cc)), further owned e none)

-- the object of such a number is allocated
allocated_so : (n : ℕ) (objects : List Object) (o : Object) → AllByRecursion (IsOther n) objects → object_in n objects ≡ Some o → Order.IsAllocated o.origin
unfolding opened_lists opened_objects
allocated_so n [] o others found = absurd (cc)
allocated_so n (x ∷ xs) o others found = by (allocated_so n xs o others.1) (nat_eq x.number n) refl found
  where
    origin_so : (z : Origin) → x.origin ≡ z → x.number ≡ n → Order.IsAllocated z
    origin_so (Declared m) is same = absurd (others.0 (ap is_declared is) same)
    origin_so (Allocated s p) is same = tt

    by : (object_in n xs ≡ Some o → Order.IsAllocated o.origin) → (b : Bool) → nat_eq x.number n ≡ b → cond b (Some x) (object_in n xs) ≡ Some o → Order.IsAllocated o.origin
    by older true is e =
        let same : x ≡ o = cc in
        let number : x.number ≡ n = eq_true x.number n is in
        subst (λ (y : Object). Order.IsAllocated y.origin) same (origin_so x.origin refl number)
    by older false is e = older e

pub foreign_allocated : (n next : ℕ) (objects : List Object) (owned : List Owned) → AreOwned owned next objects → OwnsNone n owned → IfSome (object_in n objects) (λ o. Order.IsAllocated o.origin)
foreign_allocated n next objects owned h none = by (object_in n objects) refl
  where
    by : (x : Option Object) → object_in n objects ≡ x → IfSome x (λ o. Order.IsAllocated o.origin)
    by None is = tt
    by (Some o) is = allocated_so n objects o (others_all n objects (objects_owned owned) h.declared none) is

-- those that are declared stay
declared_stay : (stays : Object → Bool) (objects : List Object) → AllByRecursion (λ o. is_declared o.origin ≡ true → stays o ≡ true) objects → declared_of (keep stays objects) ≡ declared_of objects
unfolding opened_lists
declared_stay stays [] all = refl
declared_stay stays (x ∷ xs) all = by (stays x) (is_declared x.origin) refl refl (declared_stay stays xs all.1)
  where
    by : (b d : Bool) → stays x ≡ b → is_declared x.origin ≡ d → declared_of (keep stays xs) ≡ declared_of xs → declared_of (cond b (x ∷ keep stays xs) (keep stays xs)) ≡ cond d (x ∷ declared_of xs) (declared_of xs)
    by true d goes is rest = ap (λ c. cond c (x ∷ declared_of (keep stays xs)) (declared_of (keep stays xs))) is ∙ ap (λ (l : List Object). cond d (x ∷ l) l) rest
    by false false goes is rest = rest
    by false true goes is rest = let never : true ≡ false = sym (all.0 is) ∙ goes in absurd (cc)

-- all objects but that of a number
abbrev pub forgotten : ℕ → List Object → List Object
forgotten n os = keep (λ o. not (nat_eq o.number n)) os

-- objects go, and none of them was declared
pub owns_kept : (stays : Object → Bool) (next : ℕ) (objects : List Object) (owned : List Owned) → AllByRecursion (λ o. is_declared o.origin ≡ true → stays o ≡ true) objects → AreOwned owned next objects → AreOwned owned next (keep stays objects)
owns_kept stays next objects owned none h = record {
  declared = ap (λ (l : List Object). map identity_of l) (declared_stay stays objects none) ∙ h.declared;
  numbers = all_kept (λ o. o.number < next) stays objects h.numbers;
  apart = rise_keep stays 1 objects h.apart;
  some = h.some;
}

-- the object of a number that is none of the owned ones
pub owns_without : (n next : ℕ) (objects : List Object) (owned : List Owned) → OwnsNone n owned → AreOwned owned next objects → AreOwned owned next (forgotten n objects)
owns_without n next objects owned none h =
    owns_kept (λ o. not (nat_eq o.number n)) next objects owned
    (all_weaker (IsOther n) (λ o. is_declared o.origin ≡ true → not (nat_eq o.number n) ≡ true) (λ o other d. ap not (eq_differs o.number n (other d))) objects (others_all n objects (objects_owned owned) h.declared none)) h

-- The next number ------------------------------------------------------------------------------------

have_not : (n : ℕ) (os : List Owned) → ((at : ℕ) (o : Owned) → slice_get os at ≡ Some o → o.number ≢ n) → HaveNot n os
have_not n [] each = tt
have_not n (o ∷ os) each = (each 0 o refl, have_not n os (λ at x e. each (suc at) x e))

-- no owned object has the next number
pub owns_no_next : (owned : List Owned) (next : ℕ) (objects : List Object) → AreOwned owned next objects → OwnsNone next owned
owns_no_next owned next objects h = have_not next (objects_owned owned) (λ at o e same.
    let i = found_among 1 objects (objects_owned owned) at o h.declared h.apart e in
    let less = found_below owned next objects o.number i.object h i.found in
    omega (arith, less, same))

-- An object that is allocated ------------------------------------------------------------------------

-- no master owns it
pub allocated_foreign : (n next : ℕ) (objects : List Object) (owned : List Owned) (o : Object) → AreOwned owned next objects → object_in n objects ≡ Some o → Order.IsAllocated o.origin → OwnsNone n owned
allocated_foreign n next objects owned o h found allocated = have_not n (objects_owned owned) (λ at x e same.
    let i = found_among 1 objects (objects_owned owned) at x h.declared h.apart e in
    let both : Some o ≡ Some i.object = sym found ∙ (ap (λ m. object_in m objects) (sym same) ∙ i.found) in
    let is : o ≡ i.object = cc in
    subst (λ (z : Origin). Order.IsAllocated z) (ap (λ (y : Object). y.origin) is ∙ i.origin) allocated)
