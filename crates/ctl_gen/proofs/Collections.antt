-- The displays of masters, and collections: each belongs to a master, and with it the objects that are allocated for it (4.8, 7.6.1).
use Rattle.std.proofs.Common.{◌≡◌, ℕ, zero, suc, ◌<◌, ◌≤◌, List, [], ◌∷◌, ◌++◌, length, Some, Bool, true, false, refl, sym, ap, ◌∙◌, subst, append_assoc, arith}
use Rattle.std.specs.Prelude.{if◌then◌else◌, nat_eq, not, ◌||◌, map, take, slice_get}
use Rattle.std.proofs.lemmas.Bool.{eqb-true, eq-eqb, ne_eqb}
use Rattle.ctl_meaning.specs.World.{Origin, Declared, Allocated, Collection, Content, Nothing, Holds, Binds, Copies, Gathers, Slot, Activation, World}
use Rattle.ctl_meaning.specs.Lists.{first_with, change_each, keep, contains, item_or, opened_lists}
use Rattle.ctl_meaning.specs.Ledger.{with_started, collection_at, master_in, opened_ledger}
use Rattle.ctl_meaning.specs.Activations.{with_slot, display_in, activation_at, opened_activations}
use Rattle.ctl_meaning.specs.Objects.{opened_objects}
use Rattle.ctl_meaning.specs.Changes.{ends_with, sets_of, home_of, opened_changes}
use Rattle.ctl_gen.proofs.Each.{Each, IfFound, each_found, not_true, found_passes, found_kept, found_changed}

-- Masters and their displays ------------------------------------------------------------------------

-- the display of a master
abbrev pub home : ℕ → List Activation → List ℕ
home n as' = display_in (activation_at n as')

pub home_slot : (n m i : ℕ) (x : Slot) (as' : List Activation) → home n (change_each (λ a. nat_eq a.master m) (with_slot i x) as') ≡ home n as'
unfolding opened_activations opened_lists
home_slot n m i x [] = refl
home_slot n m i x (a ∷ as') = one (nat_eq a.master m) (home_slot n m i x as')
  where
    rest : Type 0
    rest = display_in (first_with (λ y. nat_eq y.master n) (change_each (λ y. nat_eq y.master m) (with_slot i x) as')) ≡ display_in (first_with (λ y. nat_eq y.master n) as')

    two : rest → (c : Bool) (b : Activation) → b.display ≡ a.display → display_in (if c then Some b else first_with (λ y. nat_eq y.master n) (change_each (λ y. nat_eq y.master m) (with_slot i x) as')) ≡ display_in (if c then Some a else first_with (λ y. nat_eq y.master n) as')
    two h true b e = e
    two h false b e = h

    one : (b : Bool) → rest → display_in (if nat_eq (if b then with_slot i x a else a).master n then Some (if b then with_slot i x a else a) else first_with (λ y. nat_eq y.master n) (change_each (λ y. nat_eq y.master m) (with_slot i x) as')) ≡ display_in (if nat_eq a.master n then Some a else first_with (λ y. nat_eq y.master n) as')
    one true h = two h (nat_eq a.master n) (with_slot i x a) refl
    one false h = two h (nat_eq a.master n) a refl

pub home_kept : (n m : ℕ) → nat_eq m n ≡ false → (as' : List Activation) → home n (keep (λ a. not (nat_eq a.master m)) as') ≡ home n as'
unfolding opened_activations opened_lists
home_kept n m e [] = refl
home_kept n m e (a ∷ as') = one (nat_eq a.master m) refl (home_kept n m e as')
  where
    rest : Type 0
    rest = display_in (first_with (λ y. nat_eq y.master n) (keep (λ y. not (nat_eq y.master m)) as')) ≡ display_in (first_with (λ y. nat_eq y.master n) as')

    two : rest → (c : Bool) → display_in (if c then Some a else first_with (λ y. nat_eq y.master n) (keep (λ y. not (nat_eq y.master m)) as')) ≡ display_in (if c then Some a else first_with (λ y. nat_eq y.master n) as')
    two h true = refl
    two h false = h

    one : (b : Bool) → nat_eq a.master m ≡ b → rest → display_in (first_with (λ y. nat_eq y.master n) (if not b then a ∷ keep (λ y. not (nat_eq y.master m)) as' else keep (λ y. not (nat_eq y.master m)) as')) ≡ display_in (if nat_eq a.master n then Some a else first_with (λ y. nat_eq y.master n) as')
    one true is h =
        let other : nat_eq a.master n ≡ false = ap (λ z. nat_eq z n) (eqb-true a.master m is) ∙ e in
        h ∙ ap (λ c. display_in (if c then Some a else first_with (λ y. nat_eq y.master n) as')) (sym other)
    one false is h = two h (nat_eq a.master n)

-- of a master that has been left there is none
pub home_gone : (m : ℕ) (as' : List Activation) → home m (keep (λ a. not (nat_eq a.master m)) as') ≡ []
unfolding opened_activations opened_lists
home_gone m [] = refl
home_gone m (a ∷ as') = one (nat_eq a.master m) refl (home_gone m as')
  where
    others : List Activation
    others = keep (λ y. not (nat_eq y.master m)) as'

    one : (b : Bool) → nat_eq a.master m ≡ b → display_in (first_with (λ y. nat_eq y.master m) others) ≡ [] → display_in (first_with (λ y. nat_eq y.master m) (if not b then a ∷ others else others)) ≡ []
    one true is h = h
    one false is h = ap (λ c. display_in (if c then Some a else first_with (λ y. nat_eq y.master m) others)) is ∙ h

-- Nested masters --------------------------------------------------------------------------------------

-- the display of a master that has not been left is this one
abbrev pub HasDisplay : List ℕ → List ℕ → Type 0
HasDisplay whole d = 1 ≤ length d → d ≡ whole

-- behind these masters, those are nested in one another: each is older than the next one, and sees all up to itself, unless it has been left
abbrev pub AreNested : ℕ → List Activation → List ℕ → List ℕ → Type 0
AreNested next as' before [] = Unit {0}
AreNested next as' before (m ∷ ms) = (m < next) × HasDisplay (before ++ m ∷ []) (home m as') × AreNested next as' (before ++ m ∷ []) ms

pub nested_in : (next next1 : ℕ) (as' bs : List Activation) → next ≤ next1 → ((m : ℕ) (whole : List ℕ) → m < next → HasDisplay whole (home m as') → HasDisplay whole (home m bs)) → (before d : List ℕ) → AreNested next as' before d → AreNested next1 bs before d
nested_in next next1 as' bs le kept before [] h = tt
nested_in next next1 as' bs le kept before (m ∷ ms) h = let old = h.0 in (omega (arith, old, le), kept m (before ++ m ∷ []) h.0 h.1, nested_in next next1 as' bs le kept (before ++ m ∷ []) ms h.2)

-- where the displays are the same
pub nested_alike : (next next1 : ℕ) (as' bs : List Activation) → next ≤ next1 → ((m : ℕ) → m < next → home m bs ≡ home m as') → (before d : List ℕ) → AreNested next as' before d → AreNested next1 bs before d
nested_alike next next1 as' bs le same before d h = nested_in next next1 as' bs le (λ m whole old has. subst (HasDisplay whole) (sym (same m old)) has) before d h

pub nested_taken : (next : ℕ) (as' : List Activation) (before : List ℕ) (i : ℕ) (d : List ℕ) → AreNested next as' before d → AreNested next as' before (take i d)
nested_taken next as' before zero d h = tt
nested_taken next as' before (suc i) [] h = tt
nested_taken next as' before (suc i) (m ∷ ms) h = (h.0, h.1, nested_taken next as' (before ++ m ∷ []) i ms h.2)

-- one more inside them
pub nested_and : (next : ℕ) (as' : List Activation) (before d : List ℕ) (m : ℕ) → m < next → home m as' ≡ before ++ (d ++ m ∷ []) → AreNested next as' before d → AreNested next as' before (d ++ m ∷ [])
nested_and next as' before [] m old is h = (old, (λ any. is), tt)
nested_and next as' before (x ∷ ms) m old is h = (h.0, h.1, nested_and next as' (before ++ x ∷ []) ms m old (is ∙ sym (append_assoc before (x ∷ []) (ms ++ m ∷ []))) h.2)

-- one of them sees those up to it
pub nested_at : (next : ℕ) (as' : List Activation) (before : List ℕ) (i : ℕ) (d : List ℕ) → i < length d → AreNested next as' before d → HasDisplay (before ++ take (suc i) d) (home (item_or 0 (slice_get d i)) as')
unfolding item_or
nested_at next as' before i [] less h = absurd (omega (arith, less))
nested_at next as' before zero (m ∷ ms) less h = h.1
nested_at next as' before (suc i) (m ∷ ms) less h = λ any. nested_at next as' (before ++ m ∷ []) i ms (omega (arith, less)) h.2 any ∙ append_assoc before (m ∷ []) (take (suc i) ms)

-- Collections -----------------------------------------------------------------------------------------

-- a collection of this number stands, and belongs to this master
abbrev pub IsOf : ℕ → ℕ → List Collection → Type 0
IsOf c m cs = (x : Collection) × (first_with (λ y. nat_eq y.number c) cs ≡ Some x) × (x.master ≡ m)

-- where the next collection and the next master have these numbers, and these are active
pub record Gathered (next_collection next : ℕ) (as' : List Activation) (x : Collection) : Type 0 where
  pub counted : 1 ≤ x.number
  pub numbered : x.number < next_collection
  pub old : x.master < next
  -- that is the main procedure's own master, or one inside it
  pub deep : 1 ≤ length (home x.master as')

pub gathered_in : (a b next next1 : ℕ) (as' bs : List Activation) → a ≤ b → next ≤ next1 → ((n : ℕ) → n < next → home n bs ≡ home n as') → (x : Collection) → Gathered a next as' x → Gathered b next1 bs x
gathered_in a b next next1 as' bs more le same x h = record { counted = h.counted; numbered = omega (arith, h.numbered, more); old = omega (arith, h.old, le); deep = subst (λ (d : List ℕ). 1 ≤ length d) (sym (same x.master h.old)) h.deep }

-- one that stands, as it was gathered
pub of_gathered : (a next : ℕ) (as' : List Activation) (c m : ℕ) (cs : List Collection) → Each (Gathered a next as') cs → IsOf c m cs → (c < a) × (m < next) × (1 ≤ length (home m as'))
of_gathered a next as' c m cs h is =
    let found = subst (IfFound (Gathered a next as')) is.1 (each_found (Gathered a next as') (λ y. nat_eq y.number c) cs h) in
    let number = eqb-true is.0.number c (found_passes (λ y. nat_eq y.number c) cs is.0 is.1) in
    let numbered = found.numbered in
    (omega (arith, number, numbered), subst (λ z. z < next) is.2 found.old, subst (λ z. 1 ≤ length (home z as')) is.2 found.deep)

-- it still stands beside a new one
pub of_pushed : (a m c m1 : ℕ) (cs : List Collection) → c < a → IsOf c m1 cs → IsOf c m1 ((record { number = a; master = m; started = false }) ∷ cs)
unfolding first_with
of_pushed a m c m1 cs less is = (is.0, ap (λ b. if b then Some (record { number = a; master = m; started = false }) else first_with (λ y. nat_eq y.number c) cs) (ne_eqb a c (λ e. omega (arith, e, less))) ∙ is.1, is.2)

-- where some are started
pub of_started : (p : Collection → Bool) (c m : ℕ) (cs : List Collection) → IsOf c m cs → IsOf c m (change_each p with_started cs)
unfolding with_started
of_started p c m cs is = (_, found_changed (λ y. nat_eq y.number c) p with_started (λ y. refl) cs is.0 is.1, kept (p is.0) ∙ is.2)
  where
    kept : (b : Bool) → (if b then record is.0 { started = true } else is.0).master ≡ is.0.master
    kept true = refl
    kept false = refl

-- and where another master is left
pub of_kept : (n c m : ℕ) (cs : List Collection) → nat_eq m n ≡ false → IsOf c m cs → IsOf c m (keep (λ y. not (nat_eq y.master n)) cs)
of_kept n c m cs other is = (is.0, found_kept (λ y. nat_eq y.number c) (λ y. not (nat_eq y.master n)) cs is.0 is.1 (ap (λ z. not (nat_eq z n)) is.2 ∙ ap not other), is.2)

-- one that is not among those of a master does not belong to it
of_other : (n c : ℕ) (cs : List Collection) (x : Collection) → first_with (λ y. nat_eq y.number c) cs ≡ Some x → contains c (map (λ y. y.number) (keep (λ y. nat_eq y.master n) cs)) ≡ false → nat_eq x.master n ≡ false
unfolding opened_lists
of_other n c [] x is e = absurd (cc is)
of_other n c (y ∷ cs) x is e = by (nat_eq y.number c) (nat_eq y.master n) refl refl (of_other n c cs x) is e
  where
    among : (b : Bool) → List ℕ
    among b = map (λ z. z.number) (if b then y ∷ keep (λ z. nat_eq z.master n) cs else keep (λ z. nat_eq z.master n) cs)

    by : (b d : Bool) → nat_eq y.number c ≡ b → nat_eq y.master n ≡ d → (first_with (λ z. nat_eq z.number c) cs ≡ Some x → contains c (map (λ z. z.number) (keep (λ z. nat_eq z.master n) cs)) ≡ false → nat_eq x.master n ≡ false) → (if b then Some y else first_with (λ z. nat_eq z.number c) cs) ≡ Some x → contains c (among d) ≡ false → nat_eq x.master n ≡ false
    by true true is1 is2 rest e1 e2 = absurd (cc (sym (ap (λ z. z || contains c (map (λ z1. z1.number) (keep (λ z1. nat_eq z1.master n) cs))) (eq-eqb c y.number (sym (eqb-true y.number c is1)))) ∙ e2))
    by true false is1 is2 rest e1 e2 = let same : y ≡ x = cc e1 in ap (λ (z : Collection). nat_eq z.master n) (sym same) ∙ is2
    by false true is1 is2 rest e1 e2 = rest e1 (second (nat_eq c y.number) _ e2)
      where
        second : (g h : Bool) → (g || h) ≡ false → h ≡ false
        second true h e3 = absurd (cc e3)
        second false h e3 = e3
    by false false is1 is2 rest e1 e2 = rest e1 e2

-- What slots hold ---------------------------------------------------------------------------------------

-- a collection of this number was made in this master
abbrev pub IsMadeIn : ℕ → ℕ → Collection → Type 0
IsMadeIn c m x = x.number ≡ c → x.master ≡ m

-- what a slot of a master may hold, where the next collection has this number and these stand: no collection but one that was made in it
abbrev pub IsHeldBy : ℕ → List Collection → ℕ → Content → Type 0
IsHeldBy next cs m (Gathers c) = (c < next) × Each (IsMadeIn c m) cs
IsHeldBy next cs m _ = Unit {0}

pub held_in : (a b : ℕ) (cs ds : List Collection) → a ≤ b → ((c m : ℕ) → c < a → Each (IsMadeIn c m) cs → Each (IsMadeIn c m) ds) → (m : ℕ) (x : Content) → IsHeldBy a cs m x → IsHeldBy b ds m x
held_in a b cs ds more kept m Nothing h = tt
held_in a b cs ds more kept m (Holds n) h = tt
held_in a b cs ds more kept m (Binds n offset path) h = tt
held_in a b cs ds more kept m (Copies v) h = tt
held_in a b cs ds more kept m (Gathers c) h = let less = h.0 in (omega (arith, less, more), kept c m h.0 h.1)

-- Owners of objects -------------------------------------------------------------------------------------

-- the origin of an object that belongs to this master: it was declared there, or allocated for a collection of it, wherever its storage lies
abbrev pub Belongs : List Collection → ℕ → Origin → Type 0
Belongs cs m (Declared n) = n ≡ m
Belongs cs m (Allocated c place) = IsOf c m cs

pub belongs_in : (cs ds : List Collection) (m : ℕ) → ((c : ℕ) → IsOf c m cs → IsOf c m ds) → (x : Origin) → Belongs cs m x → Belongs ds m x
belongs_in cs ds m kept (Declared n) h = h
belongs_in cs ds m kept (Allocated c place) h = kept c h

-- that is where its operations are called
pub belongs_home : (m : ℕ) (w : World) (x : Origin) → Belongs w.ledger.collections m x → home_of x w ≡ home m w.activations
unfolding opened_changes opened_ledger
belongs_home m w (Declared n) h = ap (λ z. home z w.activations) h
belongs_home m w (Allocated c place) h = ap (λ z. home z w.activations) (ap master_in h.1 ∙ h.2)

-- an object that is not gone with a master belongs to another one
pub belongs_other : (n m : ℕ) (w : World) (x : Origin) → not (ends_with n w x) ≡ true → Belongs w.ledger.collections m x → nat_eq m n ≡ false
unfolding opened_changes opened_objects
belongs_other n m w (Declared a) e h = ap (λ z. nat_eq z n) (sym h) ∙ not_true (nat_eq a n) e
belongs_other n m w (Allocated c place) e h = ap (λ z. nat_eq z n) (sym h.2) ∙ of_other n c w.ledger.collections h.0 h.1 (not_true (contains c (sets_of n w)) e)

-- a collection that is found by its number has it
pub found_number : (n : ℕ) (w : World) (x : Collection) → collection_at n w.ledger ≡ Some x → x.number ≡ n
unfolding collection_at
found_number n w x at = eqb-true x.number n (found_passes (λ y. nat_eq y.number n) w.ledger.collections x at)
