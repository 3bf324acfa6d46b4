-- Allocated objects and their cells in the store: an object is added, read, written, takes a step and goes.
use Rattle.std.proofs.Common.{◌≡◌, ◌∙◌, ℕ, zero, suc, ◌+◌, ◌≤◌, List, [], ◌∷◌, ◌++◌, Option, Some, None, Bool, true, false, cond, refl, sym, ap, arith, subst, length, drop, map, replicate}
use Rattle.std.specs.Prelude.{nat_eq, not, slice_get, slice_index_or, slice_set}
use Rattle.std.specs.Option.{option_map, option_map_or}
use Rattle.std.specs.Ordering.{nat_cmp}
use Rattle.std.specs.FinMap.{FinMap, empty, entries, get, get-empty, insert, remove}
use Rattle.std.proofs.lemmas.List.{length-replicate}
use borrow.Author.Tests.{eqb-true, eq-eqb, ne_eqb}
use Rattle.ctl_meaning.specs.World as W
use Rattle.ctl_meaning.specs.World.{Object}
use Rattle.ctl_meaning.specs.Lists.{item_or, keep, opened_lists}
use Rattle.ctl_meaning.specs.Names.{scalar_of}
use Rattle.ctl_meaning.specs.Objects.{cells_at, change_in, first_cells, is_of_set, object_in, with_cells, with_finalized, opened_objects}
use Rattle.ctl_meaning.specs.Changes.{new_object, opened_changes}
use Rattle.number_map.specs.Table.{change}
use Rattle.number_map.proofs.Changes.{get_dropped, get_here, get_put, get_there, insert_same}
use Rattle.pool_store.specs.Entries.{Stored}
use Rattle.pool_store.specs.Store.{Store, with_word, with_words, words_of}
use Rattle.ctl_storage.specs.declared.existing.Allocation.{Allocation}
use Rattle.ctl_storage.specs.declared.existing.Life.{Life}
use Rattle.ctl_storage.specs.declared.existing.Life.TheVariants as LifeOf
use Rattle.ctl_storage.specs.declared.existing.Stage.{Stage}
use Rattle.ctl_storage.specs.declared.existing.Step.{Step}
use Rattle.ctl_storage.specs.declared.existing.Step.TheVariants as StepOf
use Rattle.ctl_storage.specs.Order.{AreBelow}
use Rattle.ctl_storage.specs.Stages.{ended, start, state_of, with_step}
use Rattle.ctl_storage.specs.Allocated.{IsKnown, allocated, blank, is_member, known, place_of}
use Rattle.ctl_storage.specs.Inside.{IsStored, moved, seen, spot_of, words_written}
use Rattle.ctl_storage.proofs.Cells.{cell_dropped, drop_twice, first_more, length_set, overwritten_is, scalar_first, written_more, written_nothing}
use Rattle.ctl_storage.proofs.Rising.{KeepsNumbers, in_none, kept_one, none_above, same_objects}
use Rattle.ctl_storage.proofs.Seen.{Objects, found, in_seen, rise_seen, seen_changed, seen_kept, seen_new}

-- the store has the objects, and no others
abbrev pub AreEach : Objects → Store → Type 0
AreEach os s = (n : ℕ) → IsStored (get os n) (get s.objects n)

-- an object of a store
abbrev pub words : Option Stored → List ℕ
words o = option_map_or (λ z. z.words) o []

-- What a number finds --------------------------------------------------------------------------------------

none_mapped : {X Y : Type 0} (f : X → Y) (o : Option X) → option_map f o ≡ None → o ≡ None
none_mapped f None e = refl
none_mapped f (Some x) e = absurd (cc)

-- where the list has no such object, none is kept
pub not_kept : (os : Objects) (s : Store) (n : ℕ) → object_in n (seen os s) ≡ None → get os n ≡ None
not_kept os s n none = none_mapped (λ a. allocated n a (words_of n s)) (get os n) (sym (in_seen os s n) ∙ none)

pub not_stored : (os : Objects) (s : Store) (n : ℕ) → AreEach os s → get os n ≡ None → get s.objects n ≡ None
not_stored os s n h none = by (get s.objects n) refl (subst (λ o. IsStored o (get s.objects n)) none (h n))
  where
    by : (o : Option Stored) → get s.objects n ≡ o → IsStored None o → o ≡ None
    by None e i = refl
    by (Some x) e i = absurd i

pub new_kept : (os : Objects) (s : Store) (n : ℕ) → AreBelow n (seen os s) → get os n ≡ None
new_kept os s n below = not_kept os s n (none_above n (seen os s) below)

pub new_number : (os : Objects) (s : Store) (n : ℕ) → AreEach os s → AreBelow n (seen os s) → get s.objects n ≡ None
new_number os s n h below = not_stored os s n h (new_kept os s n below)

-- the object, as it is seen
pub found_here : (os : Objects) (s : Store) (n : ℕ) (a : Allocation) → get os n ≡ Some a → object_in n (seen os s) ≡ Some (allocated n a (words_of n s))
found_here os s n a there = in_seen os s n ∙ ap (option_map (λ a. allocated n a (words_of n s))) there

pub found_none : (os : Objects) (s : Store) (n : ℕ) → get os n ≡ None → object_in n (seen os s) ≡ None
found_none os s n none = in_seen os s n ∙ ap (option_map (λ a. allocated n a (words_of n s))) none

-- its cells are as many as it says
pub as_many : (os : Objects) (s : Store) (n : ℕ) (a : Allocation) → AreEach os s → get os n ≡ Some a → a.cells ≡ length (words_of n s)
as_many os s n a h there = by (get s.objects n) (subst (λ o. IsStored o (get s.objects n)) there (h n))
  where
    by : (o : Option Stored) → IsStored (Some a) o → a.cells ≡ length (words o)
    by None i = absurd i
    by (Some x) i = i.cells

-- the object but for the values of its cells
pub known_stored : (os : Objects) (s : Store) (n : ℕ) (r : Option Allocation) → AreEach os s → r ≡ get os n → IsKnown n r (seen os s)
known_stored os s n r h is = by r (sym is) ∙ ap (option_map blank) (ap (option_map (λ a. allocated n a (words_of n s))) is ∙ sym (in_seen os s n))
  where
    by : (o : Option Allocation) → get os n ≡ o → option_map (known n) o ≡ option_map blank (option_map (λ a. allocated n a (words_of n s)) o)
    by None there = refl
    by (Some a) there = ap (λ m. Some (allocated n a (replicate m 0))) (as_many os s n a h there)

-- whether it is of a collection
pub member_stored : (os : Objects) (s : Store) (n set : ℕ) (r : Option Allocation) → r ≡ get os n → is_member set n (seen os s) ≡ option_map_or (λ a. nat_eq a.collection set) r false
unfolding opened_objects
member_stored os s n set r is = ap (λ o. option_map_or (λ (x : Object). is_of_set set x.origin) o false) (in_seen os s n ∙ ap (option_map (λ a. allocated n a (words_of n s))) (sym is)) ∙ by r
  where
    by : (o : Option Allocation) → option_map_or (λ (x : Object). is_of_set set x.origin) (option_map (λ a. allocated n a (words_of n s)) o) false ≡ option_map_or (λ a. nat_eq a.collection set) o false
    by None = refl
    by (Some a) = refl

-- the value of a cell
pub first_value : (ws : List ℕ) (offset : ℕ) → scalar_of (first_cells 1 (drop offset ws)) ≡ slice_index_or ws offset 0
unfolding opened_lists
first_value ws offset = scalar_first (drop offset ws) ∙ (ap (λ x. item_or 0 x) (cell_dropped offset 0 offset ws (omega arith)) ∙ by ws offset)
  where
    by : (xs : List ℕ) (i : ℕ) → item_or 0 (slice_get xs i) ≡ slice_index_or xs i 0
    by [] i = refl
    by (x ∷ xs) zero = refl
    by (x ∷ xs) (suc i) = by xs i

pub cell_value : (offset : ℕ) (o : Object) → scalar_of (cells_at offset 1 o) ≡ slice_index_or o.cells offset 0
unfolding opened_objects
cell_value offset o = first_value o.cells offset

-- the list says nothing of pools
pub seen_same : (os : Objects) (s t : Store) → t.objects ≡ s.objects → seen os t ≡ seen os s
unfolding seen
seen_same os s t same = ap (λ (m : FinMap nat_cmp Stored). map (λ e. allocated e.0 e.1 (words (get m e.0))) (entries os)) same

-- No object ------------------------------------------------------------------------------------------------

pub none_seen : (os : Objects) (s : Store) → os ≡ empty → seen os s ≡ []
none_seen os s none = same_objects 0 (seen os s) [] (rise_seen os s) tt (λ k. in_seen os s k ∙ (ap (option_map (λ a. allocated k a (words_of k s))) (ap (λ (m : Objects). get m k) none ∙ get-empty nat_cmp k) ∙ sym (in_none k)))

-- An object is added ---------------------------------------------------------------------------------------

-- as it is stored first
abbrev pub stored_new : Allocation → Stored
stored_new a = record { spot = spot_of a.place; site = None; words = replicate a.cells 0 }

pub each_with : (os : Objects) (s t : Store) (n : ℕ) (a : Allocation) → t.objects ≡ insert s.objects n (stored_new a) → AreEach os s → AreEach (insert os n a) t
each_with os s t n a stored h k = subst (λ (m : FinMap nat_cmp Stored). IsStored (get (insert os n a) k) (get m k)) (sym stored) (by (nat_eq k n) refl)
  where
    by : (b : Bool) → nat_eq k n ≡ b → IsStored (get (insert os n a) k) (get (insert s.objects n (stored_new a)) k)
    by true is =
        subst (λ o. IsStored o (get (insert s.objects n (stored_new a)) k)) (sym (get_put os n k a ∙ ap (λ b. cond b (Some a) (get os k)) is))
        (subst (λ o. IsStored (Some a) o) (sym (get_put s.objects n k (stored_new a) ∙ ap (λ b. cond b (Some (stored_new a)) (get s.objects k)) is))
        (record { cells = sym (length-replicate {A = ℕ} a.cells 0); spot = refl; site = refl }))
    by false is =
        subst (λ o. IsStored o (get (insert s.objects n (stored_new a)) k)) (sym (get_put os n k a ∙ ap (λ b. cond b (Some a) (get os k)) is))
        (subst (λ o. IsStored (get os k) o) (sym (get_put s.objects n k (stored_new a) ∙ ap (λ b. cond b (Some (stored_new a)) (get s.objects k)) is))
        (h k))

-- an object found is as the same of both, where neither has changed
pub found_same : (os bs : Objects) (s t : Store) (k : ℕ) → get bs k ≡ get os k → get t.objects k ≡ get s.objects k → found bs t k ≡ found os s k
found_same os bs s t k objects stored =
    ap (λ o. option_map (λ a. allocated k a (words_of k t)) o) objects
    ∙ ap (λ o. option_map (λ a. allocated k a (words o)) (get os k)) stored

pub seen_with : (os : Objects) (s t : Store) (n : ℕ) (a : Allocation) → t.objects ≡ insert s.objects n (stored_new a) → AreBelow n (seen os s) → a.stage ≡ start
    → seen (insert os n a) t ≡ seen os s ++ new_object n a.ty (replicate a.cells 0) (W.Allocated a.collection (place_of a.place)) ∷ []
unfolding opened_changes
seen_with os s t n a stored below new =
    seen_new os (insert os n a) s t (new_object n a.ty (replicate a.cells 0) (W.Allocated a.collection (place_of a.place))) below
    (λ k apart. found_same os (insert os n a) s t k (get_there os n k a apart) (ap (λ (m : FinMap nat_cmp Stored). get m k) stored ∙ get_there s.objects n k (stored_new a) apart))
    (ap (option_map (λ a'. allocated n a' (words_of n t))) (get_here os n a)
    ∙ (ap (λ o. Some (allocated n a (words o))) (ap (λ (m : FinMap nat_cmp Stored). get m n) stored ∙ get_here s.objects n (stored_new a))
    ∙ ap (λ (g : Stage). Some (record { number = n; ty = a.ty; cells = replicate a.cells 0; state = state_of g.life; origin = W.Allocated a.collection (place_of a.place); joined = g.has_joined })) new))

-- A step ---------------------------------------------------------------------------------------------------

pub each_moved : (os : Objects) (s : Store) (n : ℕ) (a b : Allocation) → AreEach os s → get os n ≡ Some a → b.cells ≡ a.cells → b.place ≡ a.place → AreEach (insert os n b) s
each_moved os s n a b h there cells place k = by (nat_eq k n) refl
  where
    is_stored : (o : Option Stored) → IsStored (Some a) o → IsStored (Some b) o
    is_stored None i = i
    is_stored (Some x) i = record { cells = cells ∙ i.cells; spot = i.spot ∙ sym (ap spot_of place); site = i.site }

    by : (t : Bool) → nat_eq k n ≡ t → IsStored (get (insert os n b) k) (get s.objects k)
    by true is =
        let number = eqb-true k n is in
        subst (λ o. IsStored o (get s.objects k)) (sym (get_put os n k b ∙ ap (λ t. cond t (Some b) (get os k)) is))
        (is_stored (get s.objects k) (subst (λ o. IsStored o (get s.objects k)) (ap (get os) number ∙ there) (h k)))
    by false is = subst (λ o. IsStored o (get s.objects k)) (sym (get_put os n k b ∙ ap (λ t. cond t (Some b) (get os k)) is)) (h k)

moved_seen : (x : Step) (n : ℕ) (a : Allocation) (cells : List ℕ) → allocated n (moved x a) cells ≡ with_step x (allocated n a cells)
unfolding opened_objects
moved_seen StepOf.Begin n a cells = refl
moved_seen StepOf.Join n a cells = refl
moved_seen StepOf.End n a cells = by a.stage.life
  where
    by : (l : Life) → allocated n (record a { stage = record a.stage { life = ended l } }) cells ≡ with_finalized (allocated n (record a { stage = record a.stage { life = l } }) cells)
    by LifeOf.Untouched = refl
    by LifeOf.Finalizing = refl
    by LifeOf.Finalized = refl

pub step_keeps : (x : Step) → KeepsNumbers (with_step x)
unfolding opened_objects
step_keeps StepOf.Begin o = refl
step_keeps StepOf.Join o = refl
step_keeps StepOf.End o = by o.state
  where
    by : (l : W.State) → (with_finalized (record o { state = l })).number ≡ o.number
    by W.Untouched = refl
    by W.Finalizing = refl
    by W.Finalized = refl

pub seen_moved : (x : Step) (os : Objects) (s : Store) (n : ℕ) (a : Allocation) → get os n ≡ Some a → seen (insert os n (moved x a)) s ≡ change_in n (with_step x) (seen os s)
seen_moved x os s n a there =
    seen_changed os (insert os n (moved x a)) s s n (with_step x) (step_keeps x)
    (λ k apart. found_same os (insert os n (moved x a)) s s k (get_there os n k (moved x a) apart) refl)
    (ap (option_map (λ b. allocated n b (words_of n s))) (get_here os n (moved x a))
    ∙ (ap (λ o. Some o) (moved_seen x n a (words_of n s))
    ∙ ap (λ o. option_map (with_step x) (option_map (λ b. allocated n b (words_of n s)) o)) (sym there)))

-- A cell is written ----------------------------------------------------------------------------------------

pub get_changed : {V : Type 0} (t : FinMap nat_cmp V) (n k : ℕ) (f : V → V) → get (change n f t) k ≡ cond (nat_eq k n) (option_map f (get t k)) (get t k)
get_changed {V} t n k f = by (get t n) refl
  where
    at : (v : V) → get t n ≡ Some v → (b : Bool) → nat_eq k n ≡ b → cond b (Some (f v)) (get t k) ≡ cond b (option_map f (get t k)) (get t k)
    at v there true is = ap (option_map f) (sym (ap (get t) (eqb-true k n is) ∙ there))
    at v there false is = refl

    none : get t n ≡ None → (b : Bool) → nat_eq k n ≡ b → get t k ≡ cond b (option_map f (get t k)) (get t k)
    none gone true is = let e : get t k ≡ None = ap (get t) (eqb-true k n is) ∙ gone in e ∙ sym (ap (option_map f) e)
    none gone false is = refl

    by : (o : Option V) → get t n ≡ o → get (option_map_or (λ v. insert t n (f v)) o t) k ≡ cond (nat_eq k n) (option_map f (get t k)) (get t k)
    by None gone = none gone (nat_eq k n) refl
    by (Some v) there = get_put t n k (f v) ∙ at v there (nat_eq k n) refl

abbrev writes : ℕ → ℕ → Stored → Stored
writes place x o = with_words (λ ws. slice_set ws place x) o

pub each_written : (os : Objects) (s : Store) (n place x : ℕ) → AreEach os s → AreEach os (with_word n place x s)
each_written os s n place x h k = subst (λ o. IsStored (get os k) o) (sym (get_changed s.objects n k (writes place x))) (by (nat_eq k n) (get os k) (get s.objects k) (h k))
  where
    by : (b : Bool) (a : Option Allocation) (o : Option Stored) → IsStored a o → IsStored a (cond b (option_map (writes place x) o) o)
    by false a o i = i
    by true None None i = i
    by true None (Some o) i = i
    by true (Some a) None i = i
    by true (Some a) (Some o) i = record { cells = i.cells ∙ sym (length_set o.words place x); spot = i.spot; site = i.site }

words_written_one : (s : Store) (n place x k : ℕ) → words_of k (with_word n place x s) ≡ cond (nat_eq k n) (slice_set (words_of k s) place x) (words_of k s)
words_written_one s n place x k = ap words (get_changed s.objects n k (writes place x)) ∙ by (nat_eq k n) (get s.objects k)
  where
    by : (b : Bool) (o : Option Stored) → words (cond b (option_map (writes place x) o) o) ≡ cond b (slice_set (words o) place x) (words o)
    by false o = refl
    by true None = refl
    by true (Some o) = refl

pub cells_keep : (offset : ℕ) (v : List ℕ) → KeepsNumbers (with_cells offset v)
unfolding opened_objects
cells_keep offset v o = refl

cells_written : (n place x : ℕ) (a : Allocation) (ws : List ℕ) → allocated n a (slice_set ws place x) ≡ with_cells place (x ∷ []) (allocated n a ws)
unfolding opened_objects
cells_written n place x a ws = ap (λ (l : List ℕ). allocated n a l) (sym (overwritten_is place x ws))

pub seen_written : (os : Objects) (s : Store) (n place x : ℕ) → seen os (with_word n place x s) ≡ change_in n (with_cells place (x ∷ [])) (seen os s)
seen_written os s n place x =
    seen_changed os os s (with_word n place x s) n (with_cells place (x ∷ [])) (cells_keep place (x ∷ []))
    (λ k apart. ap (λ ws. option_map (λ a. allocated k a ws) (get os k)) (words_written_one s n place x k ∙ ap (λ b. cond b (slice_set (words_of k s) place x) (words_of k s)) (ne_eqb k n apart)))
    (ap (λ ws. option_map (λ a. allocated n a ws) (get os n)) (words_written_one s n place x n ∙ ap (λ b. cond b (slice_set (words_of n s) place x) (words_of n s)) (eq-eqb n n refl))
    ∙ by (get os n))
  where
    by : (o : Option Allocation) → option_map (λ a. allocated n a (slice_set (words_of n s) place x)) o ≡ option_map (with_cells place (x ∷ [])) (option_map (λ a. allocated n a (words_of n s)) o)
    by None = refl
    by (Some a) = ap (λ o. Some o) (cells_written n place x a (words_of n s))

-- a cell that an object does not have is not written
set_nothing : (ws : List ℕ) (place x : ℕ) → length ws ≤ place → slice_set ws place x ≡ ws
set_nothing [] place x h = refl
set_nothing (w ∷ ws) zero x h = absurd (omega (arith, h))
set_nothing (w ∷ ws) (suc place) x h = ap (λ (l : List ℕ). w ∷ l) (set_nothing ws place x (omega (arith, h)))

pub nothing_written : (s : Store) (n place x : ℕ) → length (words_of n s) ≤ place → s ≡ with_word n place x s
nothing_written s n place x more = by (get s.objects n) refl more
  where
    by : (o : Option Stored) → get s.objects n ≡ o → length (words o) ≤ place → s ≡ record s { objects = option_map_or (λ v. insert s.objects n (writes place x v)) o s.objects }
    by None e h = refl
    by (Some o) e h =
        let same : writes place x o ≡ o = ap (λ (l : List ℕ). record o { words = l }) (set_nothing o.words place x h) in
        ap (λ (m : FinMap nat_cmp Stored). record s { objects = m }) (sym (ap (insert s.objects n) same ∙ insert_same s.objects n o e))

-- An object goes -------------------------------------------------------------------------------------------

pub each_without : (os : Objects) (s t : Store) (n : ℕ) → t.objects ≡ remove s.objects n → AreEach os s → AreEach (remove os n) t
each_without os s t n stored h k =
    subst (λ (m : FinMap nat_cmp Stored). IsStored (get (remove os n) k) (get m k)) (sym stored)
    (subst (λ o. IsStored o (get (remove s.objects n) k)) (sym (get_dropped os n k))
    (subst (λ o. IsStored (cond (nat_eq k n) None (get os k)) o) (sym (get_dropped s.objects n k)) (by (nat_eq k n) (get os k) (get s.objects k) (h k))))
  where
    by : (b : Bool) (a : Option Allocation) (o : Option Stored) → IsStored a o → IsStored (cond b None a) (cond b None o)
    by true a o i = tt
    by false a o i = i

pub seen_without : (os : Objects) (s t : Store) (n : ℕ) → t.objects ≡ remove s.objects n → seen (remove os n) t ≡ keep (λ o. not (nat_eq o.number n)) (seen os s)
seen_without os s t n stored = seen_kept os (remove os n) s t (λ o. not (nat_eq o.number n)) (λ k.
    ap (option_map (λ a. allocated k a (words_of k t))) (get_dropped os n k)
    ∙ (ap (λ w. option_map (λ a. allocated k a (words w)) (cond (nat_eq k n) None (get os k))) (ap (λ (m : FinMap nat_cmp Stored). get m k) stored ∙ get_dropped s.objects n k)
    ∙ by k (nat_eq k n) refl (get os k)))
  where
    by : (k : ℕ) (b : Bool) → nat_eq k n ≡ b → (o : Option Allocation)
        → option_map (λ a. allocated k a (words (cond b None (get s.objects k)))) (cond b None o) ≡ kept_one (λ (x : Object). not (nat_eq x.number n)) (option_map (λ a. allocated k a (words_of k s)) o)
    by k true is None = refl
    by k true is (Some a) = ap (λ b. cond (not b) (Some (allocated k a (words_of k s))) None) (sym is)
    by k false is None = refl
    by k false is (Some a) = ap (λ b. cond (not b) (Some (allocated k a (words_of k s))) None) (sym is)

-- Several cells --------------------------------------------------------------------------------------------

pub each_all : (os : Objects) (s : Store) (n offset : ℕ) (v : List ℕ) → AreEach os s → AreEach os (words_written n offset v s)
each_all os s n offset [] h = h
each_all os s n offset (x ∷ v) h = each_all os (with_word n offset x s) n (offset + 1) v (each_written os s n offset x h)

pub seen_all : (os : Objects) (s : Store) (n offset : ℕ) (v : List ℕ) → seen os (words_written n offset v s) ≡ change_in n (with_cells offset v) (seen os s)
seen_all os s n offset [] = sym (written_nothing n offset (seen os s))
seen_all os s n offset (x ∷ v) = seen_all os (with_word n offset x s) n (offset + 1) v ∙ (ap (change_in n (with_cells (offset + 1) v)) (seen_written os s n offset x) ∙ written_more n offset x v (seen os s))

pub as_many_words : (s : Store) (n place x : ℕ) → length (words_of n (with_word n place x s)) ≡ length (words_of n s)
as_many_words s n place x = ap (λ (l : List ℕ). length l) (words_written_one s n place x n) ∙ by (nat_eq n n)
  where
    by : (b : Bool) → length (cond b (slice_set (words_of n s) place x) (words_of n s)) ≡ length (words_of n s)
    by true = length_set (words_of n s) place x
    by false = refl

pub saved_word : (first n : ℕ) (ws : List ℕ) → first_cells (n + 1) (drop first ws) ≡ first_cells n (drop first ws) ++ slice_index_or ws (first + n) 0 ∷ []
saved_word first n ws =
    let next : n + 1 ≡ suc n = omega arith in
    ap (λ c. first_cells c (drop first ws)) next
    ∙ (first_more n (drop first ws)
    ∙ ap (λ x. first_cells n (drop first ws) ++ x ∷ []) (ap (λ (l : List ℕ). scalar_of (first_cells 1 l)) (drop_twice first n (first + n) ws refl) ∙ first_value ws (first + n)))

pub none_first : (ws : List ℕ) → first_cells 0 ws ≡ []
unfolding opened_objects
none_first ws = refl

pub cells_saved : (first count n : ℕ) (a : Allocation) (ws : List ℕ) → first_cells count (drop first ws) ≡ cells_at first count (allocated n a ws)
unfolding opened_objects
cells_saved first count n a ws = refl
