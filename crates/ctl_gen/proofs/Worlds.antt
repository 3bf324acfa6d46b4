-- The worlds of the programs of this version: each object is of a plain record type, and belongs to an active master, where it was declared
-- or which its collection belongs to, inside those around the operations of its type and inside the main procedure's own one; so does each
-- collection, and it is found in no slot of another master; the numbers of objects rise; the masters of a display are nested in one another;
-- no record is copied, and no pool has subpools.
use Rattle.std.proofs.Common.{◌≡◌, ℕ, zero, suc, ◌+◌, ◌<◌, ◌≤◌, List, [], ◌∷◌, ◌++◌, length, Option, Some, None, Bool, true, false, refl, sym, ap, ◌∙◌, subst, arith}
use Rattle.std.specs.Prelude.{if◌then◌else◌, nat_eq, not, slice_get, replicate}
use Rattle.std.proofs.lemmas.Bool.{eqb-true, eqb-false, eq-eqb, ne_eqb}
use Rattle.ctl_program.specs.declared.types.Ty.{Ty}
use Rattle.ctl_program.specs.declared.types.Var.{Var}
use Rattle.ctl_tree.specs.declared.event.Cause.{Cause}
use Rattle.ctl_meaning.specs.Types.{Tables}
use Rattle.ctl_meaning.specs.World.{Place, Standard, InBlock, InSubpool, Finalized, Origin, Declared, Allocated, Object, Layer, Collection, Content, Nothing, Holds, Binds, Copies, Gathers, holding, Slot, unset, Activation, BlockPool, Pools, World, opened_world, empty_world}
use Rattle.ctl_meaning.specs.Lists.{first_with, change_each, change_first, keep, contains, item_or, opened_lists}
use Rattle.ctl_meaning.specs.Ledger.{collection_at, with_started, opened_ledger}
use Rattle.ctl_meaning.specs.Activations.{with_slot, slots_in, display_in, activation_at, slot_in, opened_activations}
use Rattle.ctl_meaning.specs.Objects.{lies_in_pool, object_in, change_in, with_cells, with_begun, with_joined, with_finalized, is_untouched, opened_objects}
use Rattle.ctl_meaning.specs.Pools.{closed_mark_pool, give_block, hold_block, keep_pools, shut, take_block, opened_pools}
use Rattle.ctl_meaning.specs.Outcome.{Way}
use Rattle.ctl_meaning.specs.Changes.{ends_with, new_object, object_at, take_object_number, close_pool_at, create, create_at, in_pools, put_into, write_cells, forget, open_master, add_layer, take_layer, set_slot, slot_at, set_value, close_master, add_collection, start_collections, join, begin_finalization, end_finalization, home_master, home_of, opened_changes}
use Rattle.ctl_code.specs.declared.code.Code.{Code}
use Rattle.ctl_code.specs.Table.{grant, pool_grant, pool_return, return_to, with_end}
use Rattle.ctl_code.specs.Valid.{MayLie}
use Rattle.ctl_code.proofs.Storage.{OnGrant, OnReturn, granted_keeps, granted_of_pool, returned_keeps, returned_to_pool, end_keeps}
use Rattle.ctl_gen.proofs.Known.{IsPlainType}
use Rattle.ctl_gen.proofs.Each.{Each, IfFound, each_found, each_and, each_changed, each_changed_first, each_kept, not_true, found_passes, each_all, each_set, each_get}
use Rattle.ctl_gen.proofs.Collections.{home, home_slot, home_kept, home_gone, HasDisplay, AreNested, nested_in, nested_alike, nested_and, IsMadeIn, IsHeldBy, held_in, IsOf, Gathered, gathered_in, of_gathered, of_pushed, of_started, of_kept, Belongs, belongs_in, belongs_home, belongs_other}

-- Slots -----------------------------------------------------------------------------------------------

-- what a slot may hold when its master is entered: no collection
abbrev pub IsPlainContent : Content → Type 0
IsPlainContent (Gathers c) = ⊥
IsPlainContent _ = Unit {0}

abbrev pub IsPlainSlot : Slot → Type 0
IsPlainSlot s = IsPlainContent s.content

pub plain_unset : (n : ℕ) → Each IsPlainSlot (replicate n unset)
plain_unset zero = tt
plain_unset (suc n) = (tt, plain_unset n)

plain_held : (next : ℕ) (cs : List Collection) (m : ℕ) (x : Content) → IsPlainContent x → IsHeldBy next cs m x
plain_held next cs m Nothing h = tt
plain_held next cs m (Holds n) h = tt
plain_held next cs m (Binds n offset path) h = tt
plain_held next cs m (Copies v) h = tt
plain_held next cs m (Gathers c) h = absurd h

-- each slot of a master holds what it may
abbrev pub HoldsOwn : ℕ → List Collection → Activation → Type 0
HoldsOwn next cs a = Each (λ s. IsHeldBy next cs a.master s.content) a.slots

own_in : (a b : ℕ) (cs ds : List Collection) → a ≤ b → ((c m : ℕ) → c < a → Each (IsMadeIn c m) cs → Each (IsMadeIn c m) ds) → (x : Activation) → HoldsOwn a cs x → HoldsOwn b ds x
own_in a b cs ds more made x h = each_all (λ s. IsHeldBy a cs x.master s.content) (λ s. IsHeldBy b ds x.master s.content) (λ s. held_in a b cs ds more made x.master s.content) x.slots h

own_at : (next : ℕ) (cs : List Collection) (n i : ℕ) (as' : List Activation) → Each (HoldsOwn next cs) as' → IsHeldBy next cs n (slot_in n i as').content
unfolding slot_in slots_in activation_at item_or
own_at next cs n i as' h = by (first_with (λ a. nat_eq a.master n) as') refl (each_found (HoldsOwn next cs) (λ a. nat_eq a.master n) as' h)
  where
    by : (o : Option Activation) → first_with (λ a. nat_eq a.master n) as' ≡ o → IfFound (HoldsOwn next cs) o → IsHeldBy next cs n (item_or unset (slice_get (slots_in o) i)).content
    by None is h1 = each_get (λ s. IsHeldBy next cs n s.content) unset [] i tt tt
    by (Some a) is h1 = subst (λ m. IsHeldBy next cs m (item_or unset (slice_get a.slots i)).content) (eqb-true a.master n (found_passes (λ x. nat_eq x.master n) as' a is)) (each_get (λ s. IsHeldBy next cs a.master s.content) unset a.slots i tt h1)

-- Objects ---------------------------------------------------------------------------------------------

-- the numbers of objects rise, so that each is the number of one object
abbrev pub AreApart : List Object → Type 0
AreApart [] = Unit {0}
AreApart (x ∷ xs) = Each (λ o. x.number < o.number) xs × AreApart xs

apart_and : (os : List Object) (x : Object) → Each (λ o. o.number < x.number) os → AreApart os → AreApart (os ++ x ∷ [])
apart_and [] x less h = (tt, tt)
apart_and (y ∷ os) x less h = (each_and (λ o. y.number < o.number) os x less.0 h.0, apart_and os x less.1 h.1)

apart_changed : (p : Object → Bool) (f : Object → Object) → ((o : Object) → (f o).number ≡ o.number) → (os : List Object) → AreApart os → AreApart (change_each p f os)
unfolding change_each
apart_changed p f same [] h = tt
apart_changed p f same (x ∷ os) h = (one (p x), apart_changed p f same os h.1)
  where
    rest : Each (λ o. x.number < o.number) (change_each p f os)
    rest = each_changed (λ o. x.number < o.number) p f (λ o e lt. subst (λ n. x.number < n) (sym (same o)) lt) os h.0

    one : (b : Bool) → Each (λ o. (if b then f x else x).number < o.number) (change_each p f os)
    one true = each_all (λ o. x.number < o.number) (λ o. (f x).number < o.number) (λ o lt. subst (λ n. n < o.number) (sym (same x)) lt) (change_each p f os) rest
    one false = rest

apart_changed_first : (p : Object → Bool) (f : Object → Object) → ((o : Object) → (f o).number ≡ o.number) → (os : List Object) → AreApart os → AreApart (change_first p f os)
unfolding change_first
apart_changed_first p f same [] h = tt
apart_changed_first p f same (x ∷ os) h = one (p x) (apart_changed_first p f same os h.1)
  where
    rest : Each (λ o. x.number < o.number) (change_first p f os)
    rest = each_changed_first (λ o. x.number < o.number) p f (λ o lt. subst (λ n. x.number < n) (sym (same o)) lt) os h.0

    one : (b : Bool) → AreApart (change_first p f os) → AreApart (if b then f x ∷ os else x ∷ change_first p f os)
    one true more = (each_all (λ o. x.number < o.number) (λ o. (f x).number < o.number) (λ o lt. subst (λ n. n < o.number) (sym (same x)) lt) os h.0, h.1)
    one false more = (rest, more)

apart_kept : (p : Object → Bool) (os : List Object) → AreApart os → AreApart (keep p os)
unfolding keep
apart_kept p [] h = tt
apart_kept p (x ∷ os) h = one (p x) (each_kept (λ o. x.number < o.number) (λ o. x.number < o.number) p (λ o e lt. lt) os h.0) (apart_kept p os h.1)
  where
    one : (b : Bool) → Each (λ o. x.number < o.number) (keep p os) → AreApart (keep p os) → AreApart (if b then x ∷ keep p os else keep p os)
    one true first rest = (first, rest)
    one false first rest = rest

-- an object of this number has this type and this origin
abbrev pub IsThis : ℕ → Ty → Origin → Object → Type 0
IsThis n ty x o = o.number ≡ n → (o.ty ≡ ty) × (o.origin ≡ x)

-- where numbers are apart, the object that is found is the only one of its number
found_only : (n : ℕ) (os : List Object) (o : Object) → AreApart os → first_with (λ x. nat_eq x.number n) os ≡ Some o → Each (IsThis n o.ty o.origin) os
unfolding first_with
found_only n [] o h e = absurd (cc e)
found_only n (x ∷ os) o h e = by (nat_eq x.number n) refl (found_only n os o h.1) e
  where
    by : (b : Bool) → nat_eq x.number n ≡ b → (first_with (λ y. nat_eq y.number n) os ≡ Some o → Each (IsThis n o.ty o.origin) os) → (if b then Some x else first_with (λ y. nat_eq y.number n) os) ≡ Some o → Each (IsThis n o.ty o.origin) (x ∷ os)
    by true is rest e1 =
        let same : x ≡ o = cc e1 in
        let number = eqb-true x.number n is in
        (λ e2. (ap (λ (y : Object). y.ty) same, ap (λ (y : Object). y.origin) same), each_all (λ y. x.number < y.number) (IsThis n o.ty o.origin) (λ y lt e2. absurd (omega (arith, lt, e2, number))) os h.0)
    by false is rest e1 = (λ e2. absurd (eqb-false x.number n is e2), rest e1)

-- the newest one is found
last_found : (n : ℕ) (os : List Object) (x : Object) → x.number ≡ n → Each (λ o. o.number < n) os → first_with (λ o. nat_eq o.number n) (os ++ x ∷ []) ≡ Some x
unfolding first_with
last_found n [] x is h = ap (λ b. if b then Some x else None) (eq-eqb x.number n is)
last_found n (o ∷ os) x is h =
    let less = h.0 in
    ap (λ b. if b then Some o else first_with (λ p. nat_eq p.number n) (os ++ x ∷ [])) (ne_eqb o.number n (λ e. omega (arith, e, less))) ∙ last_found n os x is h.1

-- Pools -----------------------------------------------------------------------------------------------

-- where no pool has subpools, none has them behind the end of one
no_marks_shut : (n : ℕ) (x : Pools) → x.mark_pools ≡ [] → (shut n x).mark_pools ≡ []
unfolding opened_pools change_each
no_marks_shut n x none = ap (change_each (λ p. nat_eq p.object n) closed_mark_pool) none

-- Worlds ----------------------------------------------------------------------------------------------

-- the masters of a display are nested in one another
abbrev pub IsNested : World → List ℕ → Type 0
IsNested w d = AreNested w.ledger.next_master w.activations [] d

-- and so are those that an active one sees
abbrev pub SeesNested : ℕ → List Activation → Activation → Type 0
SeesNested next as' a = AreNested next as' [] a.display

nested_all : (next next1 : ℕ) (as' bs cs : List Activation) → next ≤ next1 → ((m : ℕ) → m < next → home m bs ≡ home m as') → Each (SeesNested next as') cs → Each (SeesNested next1 bs) cs
nested_all next next1 as' bs cs le same h = each_all (SeesNested next as') (SeesNested next1 bs) (λ a. nested_alike next next1 as' bs le same [] a.display) cs h

module _ (k : Tables) (code : Code) where
  -- where the next master has this number, and these masters and collections are active
  pub record Settled (next : ℕ) (as' : List Activation) (cs : List Collection) (o : Object) : Type 0 where
    pub plain : IsPlainType k o.ty
    pub master : ℕ
    pub origin : Belongs cs master o.origin
    pub old : master < next
    pub inside : MayLie code (length (home master as')) o.ty
    -- that is the main procedure's own master, or one inside it
    pub deep : 1 ≤ length (home master as')

  pub record Fits (w : World) : Type 0 where
    pub objects : Each (Settled w.ledger.next_master w.activations w.ledger.collections) w.objects
    pub numbers : Each (λ o. o.number < w.ledger.next_object) w.objects
    pub apart : AreApart w.objects
    pub collections : Each (Gathered w.ledger.next_collection w.ledger.next_master w.activations) w.ledger.collections
    -- collections count from 1
    pub counted : 1 ≤ w.ledger.next_collection
    pub slots : Each (HoldsOwn w.ledger.next_collection w.ledger.collections) w.activations
    pub displays : Each (SeesNested w.ledger.next_master w.activations) w.activations
    pub mark_pools : w.pools.mark_pools ≡ []

  -- since an earlier world each master of that time has kept its display, each object its type and its origin, and each collection stands in
  -- its master
  pub record Keeps (w0 w : World) : Type 0 where
    pub later : w0.ledger.next_master ≤ w.ledger.next_master
    pub homes : (n : ℕ) → n < w0.ledger.next_master → home n w.activations ≡ home n w0.activations
    pub newer : w0.ledger.next_object ≤ w.ledger.next_object
    pub same : (n : ℕ) → n < w0.ledger.next_object → (ty : Ty) (x : Origin) → Each (IsThis n ty x) w0.objects → Each (IsThis n ty x) w.objects
    pub further : w0.ledger.next_collection ≤ w.ledger.next_collection
    pub sets : (c : ℕ) → c < w0.ledger.next_collection → (m : ℕ) → m < w0.ledger.next_master → IsOf c m w0.ledger.collections → IsOf c m w.ledger.collections

  abbrev pub Since : World → World → Type 0
  Since w0 w = Fits w × Keeps w0 w

  abbrev pub Kept : World → Option Way → World → Type 0
  Kept w0 y w = Since w0 w

  pub keeps_itself : (w : World) → Keeps w w
  keeps_itself w = record { later = omega arith; homes = λ n lt. refl; newer = omega arith; same = λ n lt ty x h. h; further = omega arith; sets = λ c lt m old h. h }

  pub keeps_on : (w0 w w1 : World) → Keeps w0 w → Keeps w w1 → Keeps w0 w1
  keeps_on w0 w w1 a b = record {
    later = omega (arith, a.later, b.later);
    homes = λ n lt. b.homes n (omega (arith, lt, a.later)) ∙ a.homes n lt;
    newer = omega (arith, a.newer, b.newer);
    same = λ n lt ty x h. b.same n (omega (arith, lt, a.newer)) ty x (a.same n lt ty x h);
    further = omega (arith, a.further, b.further);
    sets = λ c lt m old h. b.sets c (omega (arith, lt, a.further)) m (omega (arith, old, a.later)) (a.sets c lt m old h);
  }

  -- what has been so since a later world has been so since an earlier one
  pub since_on : (w0 w w1 : World) → Since w0 w → Since w w1 → Since w0 w1
  since_on w0 w w1 a b = (b.0, keeps_on w0 w w1 a.1 b.1)

  settled_in : (next next1 : ℕ) (as' bs : List Activation) (cs ds : List Collection) → next ≤ next1 → ((n : ℕ) → n < next → home n bs ≡ home n as') → ((c m : ℕ) → m < next → IsOf c m cs → IsOf c m ds) → (o : Object) → Settled next as' cs o → Settled next1 bs ds o
  settled_in next next1 as' bs cs ds le same kept o h = record {
    plain = h.plain;
    master = h.master;
    origin = belongs_in cs ds h.master (λ c. kept c h.master h.old) o.origin h.origin;
    old = omega (arith, h.old, le);
    inside = subst (λ d. MayLie code (length d) o.ty) (sym (same h.master h.old)) h.inside;
    deep = subst (λ (d : List ℕ). 1 ≤ length d) (sym (same h.master h.old)) h.deep;
  }

  pub object_fits : (n : ℕ) (w : World) → Fits w → IfFound (Settled w.ledger.next_master w.activations w.ledger.collections) (object_at n w)
  unfolding object_at object_in
  object_fits n w h = each_found (Settled w.ledger.next_master w.activations w.ledger.collections) (λ o. nat_eq o.number n) w.objects h.objects

  pub collection_fits : (c : ℕ) (w : World) → Fits w → IfFound (Gathered w.ledger.next_collection w.ledger.next_master w.activations) (collection_at c w.ledger)
  unfolding collection_at
  collection_fits c w h = each_found (Gathered w.ledger.next_collection w.ledger.next_master w.activations) (λ y. nat_eq y.number c) w.ledger.collections h.collections

  -- what each slot holds
  pub held_at : (n i : ℕ) (w : World) → Fits w → IsHeldBy w.ledger.next_collection w.ledger.collections n (slot_at n i w).content
  unfolding slot_at
  held_at n i w h = own_at w.ledger.next_collection w.ledger.collections n i w.activations h.slots

  -- the masters that a master sees are nested, and so are those that the operations of an object are called with
  pub home_nested : (n : ℕ) (w : World) → Fits w → IsNested w (home n w.activations)
  unfolding activation_at display_in
  home_nested n w h = by (first_with (λ a. nat_eq a.master n) w.activations) (each_found (SeesNested w.ledger.next_master w.activations) (λ a. nat_eq a.master n) w.activations h.displays)
    where
      by : (o : Option Activation) → IfFound (SeesNested w.ledger.next_master w.activations) o → IsNested w (display_in o)
      by None h1 = tt
      by (Some a) h1 = h1

  pub origin_nested : (x : Origin) (w : World) → Fits w → IsNested w (home_of x w)
  unfolding home_of
  origin_nested x w h = home_nested (home_master w x) w h

  pub fits_empty : Fits empty_world
  unfolding opened_world
  fits_empty = record {
    objects = tt;
    numbers = tt;
    apart = tt;
    collections = tt;
    counted = omega arith;
    slots = tt;
    displays = tt;
    mark_pools = refl;
  }

  fits_number : (w : World) → Fits w → Fits (take_object_number w)
  unfolding opened_changes opened_ledger
  fits_number w h = record {
    objects = h.objects;
    numbers = each_all (λ o. o.number < w.ledger.next_object) (λ o. o.number < w.ledger.next_object + 1) (λ o lt. omega (arith, lt)) w.objects h.numbers;
    apart = h.apart;
    collections = h.collections;
    counted = h.counted;
    slots = h.slots;
    displays = h.displays;
    mark_pools = h.mark_pools;
  }

  pub since_number : (w0 w : World) → Since w0 w → Since w0 (take_object_number w)
  unfolding opened_changes opened_ledger
  since_number w0 w h = (fits_number w h.0, record { later = h.1.later; homes = h.1.homes; newer = omega (arith, h.1.newer); same = h.1.same; further = h.1.further; sets = h.1.sets })

  fits_slot : (n i : ℕ) (x : Slot) (w : World) → IsHeldBy w.ledger.next_collection w.ledger.collections n x.content → Fits w → Fits (set_slot n i x w)
  unfolding opened_changes opened_activations
  fits_slot n i x w held h = record {
    objects = each_all (Settled w.ledger.next_master w.activations w.ledger.collections) (Settled w.ledger.next_master bs w.ledger.collections) (settled_in w.ledger.next_master w.ledger.next_master w.activations bs w.ledger.collections w.ledger.collections (omega arith) (λ m lt. home_slot m n i x w.activations) (λ c m lt y. y)) w.objects h.objects;
    numbers = h.numbers;
    apart = h.apart;
    collections = each_all (Gathered w.ledger.next_collection w.ledger.next_master w.activations) (Gathered w.ledger.next_collection w.ledger.next_master bs) (gathered_in w.ledger.next_collection w.ledger.next_collection w.ledger.next_master w.ledger.next_master w.activations bs (omega arith) (omega arith) (λ m lt. home_slot m n i x w.activations)) w.ledger.collections h.collections;
    counted = h.counted;
    slots = each_changed (HoldsOwn w.ledger.next_collection w.ledger.collections) (λ a. nat_eq a.master n) (with_slot i x) own w.activations h.slots;
    displays = each_changed (SeesNested w.ledger.next_master bs) (λ a. nat_eq a.master n) (with_slot i x) (λ a e y. y) w.activations (nested_all w.ledger.next_master w.ledger.next_master w.activations bs w.activations (omega arith) (λ m lt. home_slot m n i x w.activations) h.displays);
    mark_pools = h.mark_pools;
  }
    where
      bs : List Activation
      bs = change_each (λ a. nat_eq a.master n) (with_slot i x) w.activations

      own : (a : Activation) → nat_eq a.master n ≡ true → HoldsOwn w.ledger.next_collection w.ledger.collections a → HoldsOwn w.ledger.next_collection w.ledger.collections (with_slot i x a)
      own a e y = each_set (λ s. IsHeldBy w.ledger.next_collection w.ledger.collections a.master s.content) a.slots i x (subst (λ m. IsHeldBy w.ledger.next_collection w.ledger.collections m x.content) (sym (eqb-true a.master n e)) held) y

  since_held : (n i : ℕ) (x : Slot) (w0 w : World) → IsHeldBy w.ledger.next_collection w.ledger.collections n x.content → Since w0 w → Since w0 (set_slot n i x w)
  unfolding opened_changes opened_activations
  since_held n i x w0 w held h = (fits_slot n i x w held h.0, record { later = h.1.later; homes = λ m lt. home_slot m n i x w.activations ∙ h.1.homes m lt; newer = h.1.newer; same = h.1.same; further = h.1.further; sets = h.1.sets })

  pub since_slot : (n i : ℕ) (x : Slot) (w0 w : World) → IsPlainSlot x → Since w0 w → Since w0 (set_slot n i x w)
  since_slot n i x w0 w plain h = since_held n i x w0 w (plain_held w.ledger.next_collection w.ledger.collections n x.content plain) h

  pub since_value : (n i x : ℕ) (w0 w : World) → Since w0 w → Since w0 (set_value n i x w)
  unfolding set_value
  since_value n i x w0 w h = since_held n i _ w0 w (held_at n i w h.0) h

  -- an object of either origin is created
  fits_new : (ty : Ty) (cells : List ℕ) (x : Origin) (m : ℕ) (w : World) → Belongs w.ledger.collections m x → IsPlainType k ty → m < w.ledger.next_master → MayLie code (length (home m w.activations)) ty → 1 ≤ length (home m w.activations) → Fits w → Fits (create ty cells x w)
  unfolding opened_changes opened_ledger
  fits_new ty cells x m w origin known old inside deep h = record {
    objects = each_and (Settled w.ledger.next_master w.activations w.ledger.collections) w.objects _ (record { plain = known; master = m; origin = origin; old = old; inside = inside; deep = deep }) h.objects;
    numbers = each_and (λ o. o.number < w.ledger.next_object + 1) w.objects _ (omega arith) (each_all (λ o. o.number < w.ledger.next_object) (λ o. o.number < w.ledger.next_object + 1) (λ o lt. omega (arith, lt)) w.objects h.numbers);
    apart = apart_and w.objects _ h.numbers h.apart;
    collections = h.collections;
    counted = h.counted;
    slots = h.slots;
    displays = h.displays;
    mark_pools = h.mark_pools;
  }

  since_new : (ty : Ty) (cells : List ℕ) (x : Origin) (m : ℕ) (w0 w : World) → Belongs w.ledger.collections m x → IsPlainType k ty → m < w.ledger.next_master → MayLie code (length (home m w.activations)) ty → 1 ≤ length (home m w.activations) → Since w0 w → Since w0 (create ty cells x w)
  unfolding opened_changes opened_ledger
  since_new ty cells x m w0 w origin known old inside deep h = (
    fits_new ty cells x m w origin known old inside deep h.0,
    record {
      later = h.1.later;
      homes = h.1.homes;
      newer = omega (arith, h.1.newer);
      same = λ n lt ty1 y each. each_and (IsThis n ty1 y) w.objects _ (λ e. absurd (omega (arith, e, lt, h.1.newer))) (h.1.same n lt ty1 y each);
      further = h.1.further;
      sets = h.1.sets;
    },
  )

  pub since_create : (ty : Ty) (cells : List ℕ) (m : ℕ) (w0 w : World) → IsPlainType k ty → m < w.ledger.next_master → MayLie code (length (home m w.activations)) ty → 1 ≤ length (home m w.activations) → Since w0 w → Since w0 (create ty cells (Declared m) w)
  since_create ty cells m w0 w = since_new ty cells (Declared m) m w0 w refl

  -- Layers and collections ---------------------------------------------------------------------------

  -- a layer is added
  fits_layer : (m : ℕ) (x : Layer) (w : World) → Fits w → Fits (add_layer m x w)
  unfolding opened_changes opened_ledger
  fits_layer m x w h = record {
    objects = h.objects;
    numbers = h.numbers;
    apart = h.apart;
    collections = h.collections;
    counted = h.counted;
    slots = h.slots;
    displays = h.displays;
    mark_pools = h.mark_pools;
  }

  pub since_layer : (m : ℕ) (x : Layer) (w0 w : World) → Since w0 w → Since w0 (add_layer m x w)
  unfolding opened_changes opened_ledger
  since_layer m x w0 w h = (fits_layer m x w h.0, record { later = h.1.later; homes = h.1.homes; newer = h.1.newer; same = h.1.same; further = h.1.further; sets = h.1.sets })

  fits_take : (m : ℕ) (w : World) → Fits w → Fits (take_layer m w)
  unfolding opened_changes opened_ledger
  fits_take m w h = record {
    objects = h.objects;
    numbers = h.numbers;
    apart = h.apart;
    collections = h.collections;
    counted = h.counted;
    slots = h.slots;
    displays = h.displays;
    mark_pools = h.mark_pools;
  }

  pub since_take : (m : ℕ) (w0 w : World) → Since w0 w → Since w0 (take_layer m w)
  unfolding opened_changes opened_ledger
  since_take m w0 w h = (fits_take m w h.0, record { later = h.1.later; homes = h.1.homes; newer = h.1.newer; same = h.1.same; further = h.1.further; sets = h.1.sets })

  -- the collections change, and those that stood stand in their masters
  fits_gathered : (a : ℕ) (ds : List Collection) (w : World) → w.ledger.next_collection ≤ a → Each (Gathered a w.ledger.next_master w.activations) ds → ((c m : ℕ) → IsOf c m w.ledger.collections → IsOf c m ds) → ((c m : ℕ) → c < w.ledger.next_collection → Each (IsMadeIn c m) w.ledger.collections → Each (IsMadeIn c m) ds) → Fits w → Fits (record w { ledger = record (w.ledger) { next_collection = a; collections = ds } })
  fits_gathered a ds w more gathered kept made h = record {
    objects = each_all (Settled w.ledger.next_master w.activations w.ledger.collections) (Settled w.ledger.next_master w.activations ds) (settled_in w.ledger.next_master w.ledger.next_master w.activations w.activations w.ledger.collections ds (omega arith) (λ n lt. refl) (λ c m lt. kept c m)) w.objects h.objects;
    numbers = h.numbers;
    apart = h.apart;
    collections = gathered;
    counted = omega (arith, h.counted, more);
    slots = each_all (HoldsOwn w.ledger.next_collection w.ledger.collections) (HoldsOwn a ds) (own_in w.ledger.next_collection a w.ledger.collections ds more made) w.activations h.slots;
    displays = h.displays;
    mark_pools = h.mark_pools;
  }

  since_gathered : (a : ℕ) (ds : List Collection) (w0 w : World) → w.ledger.next_collection ≤ a → Each (Gathered a w.ledger.next_master w.activations) ds → ((c m : ℕ) → IsOf c m w.ledger.collections → IsOf c m ds) → ((c m : ℕ) → c < w.ledger.next_collection → Each (IsMadeIn c m) w.ledger.collections → Each (IsMadeIn c m) ds) → Since w0 w → Since w0 (record w { ledger = record (w.ledger) { next_collection = a; collections = ds } })
  since_gathered a ds w0 w more gathered kept made h = (
    fits_gathered a ds w more gathered kept made h.0,
    record {
      later = h.1.later;
      homes = h.1.homes;
      newer = h.1.newer;
      same = h.1.same;
      further = omega (arith, h.1.further, more);
      sets = λ c lt m old is. kept c m (h.1.sets c lt m old is);
    },
  )

  -- a collection is made in a master that sees one, and is found in a slot of it
  pub since_collection : (n i : ℕ) (w0 w : World) → n < w.ledger.next_master → 1 ≤ length (home n w.activations) → Since w0 w → Since w0 (add_collection n i (holding (Gathers w.ledger.next_collection)) w)
  unfolding opened_changes opened_ledger
  since_collection n i w0 w old deep h = since_held n i (holding (Gathers a)) w0 _ (omega arith, ((λ e. refl), older)) (since_gathered (a + 1) (new ∷ cs) w0 w (omega arith) (record { counted = h.0.counted; numbered = omega arith; old = old; deep = deep }, others) kept (λ c m less each. ((λ e. absurd (omega (arith, e, less))), each)) h)
    where
      a : ℕ
      a = w.ledger.next_collection

      cs : List Collection
      cs = w.ledger.collections

      new : Collection
      new = record { number = a; master = n; started = false }

      others : Each (Gathered (a + 1) w.ledger.next_master w.activations) cs
      others = each_all (Gathered a w.ledger.next_master w.activations) (Gathered (a + 1) w.ledger.next_master w.activations) (gathered_in a (a + 1) w.ledger.next_master w.ledger.next_master w.activations w.activations (omega arith) (omega arith) (λ m lt. refl)) cs h.0.collections

      older : Each (IsMadeIn a n) cs
      older = each_all (Gathered a w.ledger.next_master w.activations) (IsMadeIn a n) (λ x y e. absurd (let less = y.numbered in omega (arith, less, e))) cs h.0.collections

      kept : (c m : ℕ) → IsOf c m cs → IsOf c m (new ∷ cs)
      kept c m is = of_pushed a n c m cs (of_gathered a w.ledger.next_master w.activations c m cs h.0.collections is).0 is

  pub since_started : (s : List ℕ) (w0 w : World) → Since w0 w → Since w0 (start_collections s w)
  unfolding opened_changes opened_ledger
  since_started s w0 w h = since_gathered w.ledger.next_collection _ w0 w (omega arith) (each_changed (Gathered w.ledger.next_collection w.ledger.next_master w.activations) (λ c. contains c.number s) with_started (λ c e y. record { counted = y.counted; numbered = y.numbered; old = y.old; deep = y.deep }) w.ledger.collections h.0.collections) (λ c m is. of_started (λ y. contains y.number s) c m w.ledger.collections is) (λ c m less each. each_changed (IsMadeIn c m) (λ y. contains y.number s) with_started (λ x e y. y) w.ledger.collections each) h

  -- Objects that change ------------------------------------------------------------------------------

  same_finalized : (o : Object) → (with_finalized o).ty ≡ o.ty
  unfolding with_finalized
  same_finalized o = by (is_untouched o.state)
    where
      by : (b : Bool) → (if b then o else record o { state = Finalized }).ty ≡ o.ty
      by true = refl
      by false = refl

  same_number : (o : Object) → (with_finalized o).number ≡ o.number
  unfolding with_finalized
  same_number o = by (is_untouched o.state)
    where
      by : (b : Bool) → (if b then o else record o { state = Finalized }).number ≡ o.number
      by true = refl
      by false = refl

  same_origin : (o : Object) → (with_finalized o).origin ≡ o.origin
  unfolding with_finalized
  same_origin o = by (is_untouched o.state)
    where
      by : (b : Bool) → (if b then o else record o { state = Finalized }).origin ≡ o.origin
      by true = refl
      by false = refl

  settled_as : (next : ℕ) (as' : List Activation) (cs : List Collection) (o p : Object) → p.ty ≡ o.ty → p.origin ≡ o.origin → Settled next as' cs o → Settled next as' cs p
  settled_as next as' cs o p ty origin h = record { plain = subst (IsPlainType k) (sym ty) h.plain; master = h.master; origin = subst (Belongs cs h.master) (sym origin) h.origin; old = h.old; inside = subst (λ t. MayLie code (length (home h.master as')) t) (sym ty) h.inside; deep = h.deep }

  -- the objects are others, or changed, or fewer
  fits_objects : (os : List Object) (w : World) → Each (Settled w.ledger.next_master w.activations w.ledger.collections) os → Each (λ o. o.number < w.ledger.next_object) os → AreApart os → Fits w → Fits (record w { objects = os })
  fits_objects os w settled numbers apart h = record {
    objects = settled;
    numbers = numbers;
    apart = apart;
    collections = h.collections;
    counted = h.counted;
    slots = h.slots;
    displays = h.displays;
    mark_pools = h.mark_pools;
  }

  since_objects : (os : List Object) (w0 w : World) → Fits (record w { objects = os }) → ((m : ℕ) (ty : Ty) (x : Origin) → Each (IsThis m ty x) w.objects → Each (IsThis m ty x) os) → Since w0 w → Since w0 (record w { objects = os })
  since_objects os w0 w fits same h = (
    fits,
    record {
      later = h.1.later;
      homes = h.1.homes;
      newer = h.1.newer;
      same = λ m lt ty x each. same m ty x (h.1.same m lt ty x each);
      further = h.1.further;
      sets = h.1.sets;
    },
  )

  -- some are changed, each without its number, its type and its origin
  since_changed : (p : Object → Bool) (f : Object → Object) → ((o : Object) → (f o).number ≡ o.number) → ((o : Object) → (f o).ty ≡ o.ty) → ((o : Object) → (f o).origin ≡ o.origin) → (w0 w : World) → Since w0 w → Since w0 (record w { objects = change_each p f w.objects })
  since_changed p f number ty origin w0 w h = since_objects (change_each p f w.objects) w0 w
      (fits_objects (change_each p f w.objects) w
      (each_changed (Settled w.ledger.next_master w.activations w.ledger.collections) p f (λ o e y. settled_as w.ledger.next_master w.activations w.ledger.collections o (f o) (ty o) (origin o) y) w.objects h.0.objects)
      (each_changed (λ o. o.number < w.ledger.next_object) p f (λ o e y. subst (λ m. m < w.ledger.next_object) (sym (number o)) y) w.objects h.0.numbers)
      (apart_changed p f number w.objects h.0.apart) h.0)
      (λ m t x each. each_changed (IsThis m t x) p f (λ o passes y e. let z = y (sym (number o) ∙ e) in (ty o ∙ z.0, origin o ∙ z.1)) w.objects each) h

  pub since_begin : (n : ℕ) (w0 w : World) → Since w0 w → Since w0 (begin_finalization n w)
  unfolding opened_changes opened_objects
  since_begin n w0 w h = since_changed (λ o. nat_eq o.number n) with_begun (λ o. refl) (λ o. refl) (λ o. refl) w0 w h

  pub since_end : (n : ℕ) (w0 w : World) → Since w0 w → Since w0 (end_finalization n w)
  unfolding opened_changes opened_objects
  since_end n w0 w h = since_changed (λ o. nat_eq o.number n) with_finalized same_number same_finalized same_origin w0 w h

  -- cells of an object are written
  pub since_written : (n offset : ℕ) (v : List ℕ) (w0 w : World) → Since w0 w → Since w0 (write_cells n offset v w)
  unfolding opened_changes change_in with_cells
  since_written n offset v w0 w h = since_changed (λ o. nat_eq o.number n) (with_cells offset v) (λ o. refl) (λ o. refl) (λ o. refl) w0 w h

  -- an object joins its collection
  pub since_join : (n : ℕ) (w0 w : World) → Since w0 w → Since w0 (join n w)
  unfolding opened_changes opened_objects
  since_join n w0 w h = since_objects _ w0 w
      (fits_objects _ w
      (each_changed_first (Settled w.ledger.next_master w.activations w.ledger.collections) (λ o. nat_eq o.number n) with_joined (λ o y. settled_as w.ledger.next_master w.activations w.ledger.collections o (with_joined o) refl refl y) w.objects h.0.objects)
      (each_changed_first (λ o. o.number < w.ledger.next_object) (λ o. nat_eq o.number n) with_joined (λ o y. y) w.objects h.0.numbers)
      (apart_changed_first (λ o. nat_eq o.number n) with_joined (λ o. refl) w.objects h.0.apart) h.0)
      (λ m ty x each. each_changed_first (IsThis m ty x) (λ o. nat_eq o.number n) with_joined (λ o y. y) w.objects each) h

  -- those that do not pass a test cease to exist
  since_fewer : (p : Object → Bool) (w0 w : World) → Since w0 w → Since w0 (record w { objects = keep p w.objects })
  since_fewer p w0 w h = since_objects (keep p w.objects) w0 w
      (fits_objects (keep p w.objects) w
      (each_kept (Settled w.ledger.next_master w.activations w.ledger.collections) (Settled w.ledger.next_master w.activations w.ledger.collections) p (λ o e y. y) w.objects h.0.objects)
      (each_kept (λ o. o.number < w.ledger.next_object) (λ o. o.number < w.ledger.next_object) p (λ o e y. y) w.objects h.0.numbers)
      (apart_kept p w.objects h.0.apart) h.0)
      (λ m ty x each. each_kept (IsThis m ty x) (IsThis m ty x) p (λ o e y. y) w.objects each) h

  -- an object ceases to exist
  pub since_forget : (n : ℕ) (w0 w : World) → Since w0 w → Since w0 (forget n w)
  unfolding opened_changes
  since_forget n w0 w h = since_fewer (λ o. not (nat_eq o.number n)) w0 w h

  -- Pools --------------------------------------------------------------------------------------------

  -- the pools are others, none of which has subpools
  fits_pools : (f : Pools → Pools) (w : World) → (f w.pools).mark_pools ≡ [] → Fits w → Fits (in_pools f w)
  unfolding opened_changes
  fits_pools f w none h = record {
    objects = h.objects;
    numbers = h.numbers;
    apart = h.apart;
    collections = h.collections;
    counted = h.counted;
    slots = h.slots;
    displays = h.displays;
    mark_pools = none;
  }

  pub since_pools : (f : Pools → Pools) (w0 w : World) → (f w.pools).mark_pools ≡ [] → Since w0 w → Since w0 (in_pools f w)
  unfolding opened_changes
  since_pools f w0 w none h = (fits_pools f w none h.0, record { later = h.1.later; homes = h.1.homes; newer = h.1.newer; same = h.1.same; further = h.1.further; sets = h.1.sets })

  -- a pool closes, and the objects in it cease to exist
  pub since_closed : (n : ℕ) (w0 w : World) → Since w0 w → Since w0 (close_pool_at n w)
  unfolding opened_changes
  since_closed n w0 w h = since_fewer (λ o. not (lies_in_pool n o.origin)) w0 (in_pools (shut n) w) (since_pools (shut n) w0 w (no_marks_shut n w.pools h.0.mark_pools) h)

  -- a block of a pool goes out, and comes back
  since_taken : (w0 : World) (n : ℕ) (w : World) → Since w0 w → Since w0 (in_pools (take_block n) w)
  unfolding opened_pools
  since_taken w0 n w h = since_pools (take_block n) w0 w h.0.mark_pools h

  since_given : (w0 : World) (n a : ℕ) (w : World) → Since w0 w → Since w0 (in_pools (give_block n a) w)
  unfolding opened_pools
  since_given w0 n a w h = since_pools (give_block n a) w0 w h.0.mark_pools h

  -- storage is granted to an allocator, or given back
  pub since_granted : (pool : Option Var) (d : List ℕ) (size : ℕ) (w0 w : World) → Since w0 w → OnGrant (Since w0) (grant code pool d size w)
  since_granted pool d size w0 w h = granted_keeps (Since w0) (since_taken w0) code pool d size w h

  pub since_returned : (place : Place) (w0 w : World) → Since w0 w → OnReturn (Since w0) (return_to code place w)
  since_returned place w0 w h = returned_keeps (Since w0) (since_given w0) code place w h

  -- the same of the library's Allocate and Deallocate of a pool
  pub since_of_pool : (n size : ℕ) (p : Option BlockPool) (w0 w : World) → Since w0 w → OnGrant (Since w0) (pool_grant n size p w)
  since_of_pool n size p w0 w h = granted_of_pool (Since w0) (since_taken w0) n size p w h

  pub since_to_pool : (n a : ℕ) (p : Option BlockPool) (w0 w : World) → Since w0 w → OnReturn (Since w0) (pool_return n a p w)
  since_to_pool n a p w0 w h = returned_to_pool (Since w0) (since_given w0) n a p w h

  -- the finalization of an object has ended
  pub since_ended : (cause : Cause) (n : ℕ) (w0 w : World) → Since w0 w → Since w0 (with_end cause n w)
  since_ended cause n w0 w h = end_keeps (Since w0) (λ m v. since_closed m w0 v) cause n w h

  -- an object is put into a block, or lies elsewhere
  since_put : (place : Place) (n : ℕ) (w0 w : World) → Since w0 w → Since w0 (put_into place n w)
  unfolding opened_changes opened_pools
  since_put Standard n w0 w h = h
  since_put (InBlock p a) n w0 w h = since_pools (hold_block p a n) w0 w h.0.mark_pools h
  since_put (InSubpool s) n w0 w h = h

  -- an object is allocated at a place: where its collection stands, the operations of its type are to be declared around the collection's
  -- master
  pub since_allocate : (ty : Ty) (cells : List ℕ) (c : ℕ) (place : Place) (m : ℕ) (w0 w : World) → IsOf c m w.ledger.collections → IsPlainType k ty → MayLie code (length (home m w.activations)) ty → Since w0 w → Since w0 (create_at ty cells c place w)
  unfolding create_at
  since_allocate ty cells c place m w0 w is known inside h =
      let of = of_gathered w.ledger.next_collection w.ledger.next_master w.activations c m w.ledger.collections h.0.collections is in
      since_put place w.ledger.next_object w0 _ (since_new ty cells (Allocated c place) m w0 w is known of.1 inside of.2 h)

  -- a master is entered ------------------------------------------------------------------------------

  home_open : (n : ℕ) (d : List ℕ) (slots : List Slot) (w : World) → n < w.ledger.next_master → home n (open_master d slots w).activations ≡ home n w.activations
  unfolding opened_changes opened_activations opened_lists
  home_open n d slots w lt = by (nat_eq w.ledger.next_master n) refl
    where
      by : (b : Bool) → nat_eq w.ledger.next_master n ≡ b → display_in (if b then Some (record { master = w.ledger.next_master; display = d ++ w.ledger.next_master ∷ []; slots = slots }) else first_with (λ a. nat_eq a.master n) w.activations) ≡ home n w.activations
      by true e = absurd (let same = eqb-true w.ledger.next_master n e in omega (arith, same, lt))
      by false e = refl

  pub home_new : (d : List ℕ) (slots : List Slot) (w : World) → home w.ledger.next_master (open_master d slots w).activations ≡ d ++ w.ledger.next_master ∷ []
  unfolding opened_changes opened_activations opened_lists
  home_new d slots w = ap (λ b. display_in (if b then Some (record { master = w.ledger.next_master; display = d ++ w.ledger.next_master ∷ []; slots = slots }) else first_with (λ a. nat_eq a.master w.ledger.next_master) w.activations)) (eq-eqb w.ledger.next_master w.ledger.next_master refl)

  pub keeps_open : (d : List ℕ) (slots : List Slot) (w : World) → Keeps w (open_master d slots w)
  unfolding open_master opened_ledger
  keeps_open d slots w = record { later = omega arith; homes = λ n lt. home_open n d slots w lt; newer = omega arith; same = λ n lt ty x h. h; further = omega arith; sets = λ c lt m old h. h }

  pub fits_open : (d : List ℕ) (slots : List Slot) (w : World) → IsNested w d → Each IsPlainSlot slots → Fits w → Fits (open_master d slots w)
  unfolding open_master opened_ledger opened_activations
  fits_open d slots w nested plain h = record {
    objects = each_all (Settled w.ledger.next_master w.activations w.ledger.collections) (Settled (w.ledger.next_master + 1) bs w.ledger.collections) (settled_in w.ledger.next_master (w.ledger.next_master + 1) w.activations bs w.ledger.collections w.ledger.collections (omega arith) (λ n lt. home_open n d slots w lt) (λ c m lt y. y)) w.objects h.objects;
    numbers = h.numbers;
    apart = h.apart;
    collections = each_all (Gathered w.ledger.next_collection w.ledger.next_master w.activations) (Gathered w.ledger.next_collection (w.ledger.next_master + 1) bs) (gathered_in w.ledger.next_collection w.ledger.next_collection w.ledger.next_master (w.ledger.next_master + 1) w.activations bs (omega arith) (omega arith) (λ n lt. home_open n d slots w lt)) w.ledger.collections h.collections;
    counted = h.counted;
    slots = (each_all IsPlainSlot (λ s. IsHeldBy w.ledger.next_collection w.ledger.collections w.ledger.next_master s.content) (λ s. plain_held w.ledger.next_collection w.ledger.collections w.ledger.next_master s.content) slots plain, h.slots);
    displays = (
      nested_and (w.ledger.next_master + 1) bs [] d w.ledger.next_master (omega arith) (home_new d slots w) (nested_alike w.ledger.next_master (w.ledger.next_master + 1) w.activations bs (omega arith) (λ n lt. home_open n d slots w lt) [] d nested),
      nested_all w.ledger.next_master (w.ledger.next_master + 1) w.activations bs w.activations (omega arith) (λ n lt. home_open n d slots w lt) h.displays,
    );
    mark_pools = h.mark_pools;
  }
    where
      bs : List Activation
      bs = (open_master d slots w).activations

  -- and left: no object of it is left behind, and no collection
  fits_close : (m : ℕ) (w : World) → Fits w → Fits (close_master m w)
  unfolding opened_changes opened_ledger opened_activations opened_objects keep_pools opened_lists
  fits_close m w h = record {
    objects = each_kept (Settled w.ledger.next_master w.activations w.ledger.collections) (Settled w.ledger.next_master bs ds) _ left w.objects h.objects;
    numbers = each_kept (λ o. o.number < w.ledger.next_object) (λ o. o.number < w.ledger.next_object) _ (λ o e y. y) w.objects h.numbers;
    apart = apart_kept _ w.objects h.apart;
    collections = each_kept (Gathered w.ledger.next_collection w.ledger.next_master w.activations) (Gathered w.ledger.next_collection w.ledger.next_master bs) _ others w.ledger.collections h.collections;
    counted = h.counted;
    slots = each_kept (HoldsOwn w.ledger.next_collection w.ledger.collections) (HoldsOwn w.ledger.next_collection ds) (λ a. not (nat_eq a.master m)) (λ a e. own_in w.ledger.next_collection w.ledger.next_collection w.ledger.collections ds (omega arith) (λ c n less. each_kept (IsMadeIn c n) (IsMadeIn c n) _ (λ x e1 y. y) w.ledger.collections) a) w.activations h.slots;
    displays = each_kept (SeesNested w.ledger.next_master w.activations) (SeesNested w.ledger.next_master bs) (λ a. not (nat_eq a.master m)) (λ a e. nested_in w.ledger.next_master w.ledger.next_master w.activations bs (omega arith) (λ n whole less. still_seen n whole (nat_eq m n) refl) [] a.display) w.activations h.displays;
    mark_pools = ap (keep _) h.mark_pools;
  }
    where
      bs : List Activation
      bs = keep (λ a. not (nat_eq a.master m)) w.activations

      ds : List Collection
      ds = keep (λ y. not (nat_eq y.master m)) w.ledger.collections

      flip : (a b : ℕ) → nat_eq a b ≡ false → nat_eq b a ≡ false
      flip a b e = ne_eqb b a (λ e1. eqb-false a b e (sym e1))

      -- one that is left has no display any more, and the others keep theirs
      still_seen : (n : ℕ) (whole : List ℕ) (b : Bool) → nat_eq m n ≡ b → HasDisplay whole (home n w.activations) → HasDisplay whole (home n bs)
      still_seen n whole true e has = subst (λ z. HasDisplay whole (home z bs)) (eqb-true m n e) (subst (HasDisplay whole) (sym (home_gone m w.activations)) (λ any. absurd (omega (arith, any))))
      still_seen n whole false e has = subst (HasDisplay whole) (sym (home_kept n m e w.activations)) has

      others : (x : Collection) → not (nat_eq x.master m) ≡ true → Gathered w.ledger.next_collection w.ledger.next_master w.activations x → Gathered w.ledger.next_collection w.ledger.next_master bs x
      others x e y = record { counted = y.counted; numbered = y.numbered; old = y.old; deep = subst (λ (d : List ℕ). 1 ≤ length d) (sym (home_kept x.master m (flip x.master m (not_true (nat_eq x.master m) e)) w.activations)) y.deep }

      left : (o : Object) → not (ends_with m w o.origin) ≡ true → Settled w.ledger.next_master w.activations w.ledger.collections o → Settled w.ledger.next_master bs ds o
      left o e y =
          let other = belongs_other m y.master w o.origin e y.origin in
          let same = home_kept y.master m (flip y.master m other) w.activations in
          record {
            plain = y.plain;
            master = y.master;
            origin = belongs_in w.ledger.collections ds y.master (λ c is. of_kept m c y.master w.ledger.collections other is) o.origin y.origin;
            old = y.old;
            inside = subst (λ d. MayLie code (length d) o.ty) (sym same) y.inside;
            deep = subst (λ (d : List ℕ). 1 ≤ length d) (sym same) y.deep;
          }

  -- a master that is younger than a world
  pub since_close : (m : ℕ) (w0 w : World) → w0.ledger.next_master ≤ m → Since w0 w → Since w0 (close_master m w)
  unfolding opened_changes opened_ledger opened_activations
  since_close m w0 w young h = (
    fits_close m w h.0,
    record {
      later = h.1.later;
      homes = λ n lt. home_kept n m (ne_eqb m n (λ e. absurd (omega (arith, e, lt, young)))) w.activations ∙ h.1.homes n lt;
      newer = h.1.newer;
      same = λ n lt ty x each. each_kept (IsThis n ty x) (IsThis n ty x) _ (λ o e y. y) w.objects (h.1.same n lt ty x each);
      further = h.1.further;
      sets = λ c lt n old is. of_kept m c n w.ledger.collections (ne_eqb n m (λ e. absurd (omega (arith, e, old, young)))) (h.1.sets c lt n old is);
    },
  )

  -- What is still there -----------------------------------------------------------------------------

  -- a collection that stood stands in its master
  pub still_of : (c m : ℕ) (w0 w : World) → Fits w0 → Keeps w0 w → IsOf c m w0.ledger.collections → IsOf c m w.ledger.collections
  still_of c m w0 w fits keeps is =
      let of = of_gathered w0.ledger.next_collection w0.ledger.next_master w0.activations c m w0.ledger.collections fits.collections is in
      keeps.sets c of.0 m of.1 is

  -- an object that was there, and is there, has its type and its origin of that time
  pub still_this : (n : ℕ) (w0 w : World) (o p : Object) → Fits w0 → Keeps w0 w → object_at n w0 ≡ Some o → object_at n w ≡ Some p → (p.ty ≡ o.ty) × (p.origin ≡ o.origin)
  unfolding object_at object_in
  still_this n w0 w o p fits keeps was is =
      let number = is_numbered w0.objects o was in
      let less = subst (IfFound (λ (x : Object). x.number < w0.ledger.next_object)) was (each_found (λ x. x.number < w0.ledger.next_object) (λ x. nat_eq x.number n) w0.objects fits.numbers) in
      let each = keeps.same n (omega (arith, number, less)) o.ty o.origin (found_only n w0.objects o fits.apart was) in
      subst (IfFound (IsThis n o.ty o.origin)) is (each_found (IsThis n o.ty o.origin) (λ x. nat_eq x.number n) w.objects each) (is_numbered w.objects p is)
    where
      is_numbered : (os : List Object) (x : Object) → first_with (λ y. nat_eq y.number n) os ≡ Some x → x.number ≡ n
      is_numbered os x e = eqb-true x.number n (found_passes (λ y. nat_eq y.number n) os x e)

  -- and its operations are called with the display of that time
  pub still_home : (n : ℕ) (w0 w : World) (o p : Object) → Fits w0 → Keeps w0 w → object_at n w0 ≡ Some o → object_at n w ≡ Some p → home_of p.origin w ≡ home_of o.origin w0
  still_home n w0 w o p fits keeps was is =
      let settled = subst (IfFound (Settled w0.ledger.next_master w0.activations w0.ledger.collections)) was (object_fits n w0 fits) in
      ap (λ x. home_of x w) (still_this n w0 w o p fits keeps was is).1
      ∙ (belongs_home settled.master w o.origin (belongs_in w0.ledger.collections w.ledger.collections settled.master (λ c of. still_of c settled.master w0 w fits keeps of) o.origin settled.origin)
      ∙ (keeps.homes settled.master settled.old
      ∙ sym (belongs_home settled.master w0 o.origin settled.origin)))

  -- the object that was created is there, with its type, in its master
  pub created_there : (ty : Ty) (cells : List ℕ) (m slot : ℕ) (w : World) → Fits w → (o : Object) × (object_at w.ledger.next_object (set_slot m slot (holding (Holds w.ledger.next_object)) (create ty cells (Declared m) w)) ≡ Some o) × (o.ty ≡ ty) × (o.origin ≡ Declared m)
  unfolding opened_changes object_in
  created_there ty cells m slot w h = (new_object w.ledger.next_object ty cells (Declared m), last_found w.ledger.next_object w.objects (new_object w.ledger.next_object ty cells (Declared m)) refl h.numbers, refl, refl)

  -- and so is one that was allocated, for its collection, at a place
  pub allocated_there : (ty : Ty) (cells : List ℕ) (c : ℕ) (place : Place) (w : World) → Fits w → object_at w.ledger.next_object (create_at ty cells c place w) ≡ Some (new_object w.ledger.next_object ty cells (Allocated c place))
  unfolding opened_changes object_in
  allocated_there ty cells c Standard w h = last_found w.ledger.next_object w.objects (new_object w.ledger.next_object ty cells (Allocated c Standard)) refl h.numbers
  allocated_there ty cells c (InBlock p a) w h = last_found w.ledger.next_object w.objects (new_object w.ledger.next_object ty cells (Allocated c (InBlock p a))) refl h.numbers
  allocated_there ty cells c (InSubpool s) w h = last_found w.ledger.next_object w.objects (new_object w.ledger.next_object ty cells (Allocated c (InSubpool s))) refl h.numbers

  pub created_ty : (ty : Ty) (cells : List ℕ) (m slot : ℕ) (w : World) → Fits w → (o : Object) → object_at w.ledger.next_object (set_slot m slot (holding (Holds w.ledger.next_object)) (create ty cells (Declared m) w)) ≡ Some o → o.ty ≡ ty
  created_ty ty cells m slot w h o e =
      let x = created_there ty cells m slot w h in
      let same : o ≡ x.0 = cc (sym e ∙ x.1) in
      ap (λ (y : Object). y.ty) same ∙ x.2
