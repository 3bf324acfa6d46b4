-- A new object of an elementary type takes its value before it joins its collection or behind that: it is the same world (4.8). So an allocator
-- with a value means what the one without does, and then the object takes the value.
use Rattle.std.proofs.Common.{◌≡◌, ℕ, List, [], ◌∷◌, Option, Some, None, Bool, true, false, if◌then◌else◌, nat_eq, refl, sym, ap, ◌∙◌}
use Rattle.std.specs.Prelude.{slice_get, option_map}
use Rattle.ctl_program.specs.declared.types.Ty.{Ty}
use Rattle.ctl_program.specs.declared.types.Var.{Var}
use Rattle.ctl_program.specs.declared.types.AccessType.{AccessType}
use Rattle.ctl_tree.specs.declared.ending.Stop.TheVariants.{UseAfterFree}
use Rattle.ctl_meaning.specs.World.{Allocated, Collection, Declared, Log, Object, Origin, Place, World}
use Rattle.ctl_meaning.specs.Activations.{master_of}
use Rattle.ctl_meaning.specs.Lists.{change_each, change_first, first_with, opened_lists}
use Rattle.ctl_meaning.specs.Ledger.{collection_at}
use Rattle.ctl_meaning.specs.Objects.{change_in, object_in, with_cells, with_joined}
use Rattle.ctl_meaning.specs.Changes.{create_at, join, object_at, slot_at, write_cells}
use Rattle.ctl_meaning.specs.Outcome.{program_error, Result, Goes, Leaves, Out, Gives, Stops, Cut, Act, Done, add, bind, on_goes, ◌>>=◌, ◌>>◌, done, nothing, raise, change, told, either, on_some, opened_outcome}
use Rattle.ctl_meaning.specs.Types.{begin_cells, size_of}
use Rattle.ctl_meaning.specs.Names.{Returned, Tools, gone, must_exist, scalar_of, write_part, opened_names}
use Rattle.ctl_meaning.specs.Adjustment.{Birth, adjust, birth_of}
use Rattle.ctl_meaning.specs.Initialization.{fill, initialize}
use Rattle.ctl_meaning.specs.Storage.{storage}
use Rattle.ctl_meaning.specs.Allocation.{allocate, allocate_for, created, created_or_gone, is_new, is_null, join_collection, refuses, set_in, set_of, with_set}
use Rattle.ctl_meaning.specs.Run.{completed}
use Rattle.ctl_gen.proofs.Known.{IsScalar}
use Rattle.ctl_gen.proofs.Depths.{scalar_of_record}
use Rattle.ctl_gen.proofs.Follow.{add_none, bind_bind}

module _ (n : ℕ) (v : List ℕ) where
  abbrev joined : List Object → List Object
  joined os = change_first (λ o. nat_eq o.number n) with_joined os

  abbrev written : List Object → List Object
  written os = change_each (λ o. nat_eq o.number n) (with_cells 0 v) os

  one : (o : Object) (os : List Object) (b : Bool) → nat_eq o.number n ≡ b → written (joined os) ≡ joined (written os) → written (if b then with_joined o ∷ os else o ∷ joined os) ≡ joined ((if b then with_cells 0 v o else o) ∷ written os)
  unfolding change_each change_first with_cells with_joined
  one o os true is h =
      ap (λ b. (if b then with_cells 0 v (with_joined o) else with_joined o) ∷ written os) is
      ∙ sym (ap (λ b. if b then with_joined (with_cells 0 v o) ∷ written os else with_cells 0 v o ∷ joined (written os)) is)
  one o os false is h =
      ap (λ b. (if b then with_cells 0 v o else o) ∷ written (joined os)) is
      ∙ ap (λ xs. o ∷ xs) h
      ∙ sym (ap (λ b. if b then with_joined o ∷ written os else o ∷ joined (written os)) is)

  all : (os : List Object) → written (joined os) ≡ joined (written os)
  unfolding change_each change_first
  all [] = refl
  all (o ∷ os) = one o os (nat_eq o.number n) refl (all os)

  -- what is found of the object behind a change that keeps its number
  found_written : (os : List Object) → object_in n (written os) ≡ option_map (with_cells 0 v) (object_in n os)
  unfolding object_in first_with change_each with_cells
  found_written [] = refl
  found_written (o ∷ os) = by (nat_eq o.number n) refl (found_written os)
    where
      by : (b : Bool) → nat_eq o.number n ≡ b → object_in n (written os) ≡ option_map (with_cells 0 v) (object_in n os) → first_with (λ x. nat_eq x.number n) ((if b then with_cells 0 v o else o) ∷ written os) ≡ option_map (with_cells 0 v) (if b then Some o else object_in n os)
      by true is h = ap (λ b. if b then Some (with_cells 0 v o) else object_in n (written os)) is
      by false is h = ap (λ b. if b then Some o else object_in n (written os)) is ∙ h

  found_joined : (os : List Object) → object_in n (joined os) ≡ option_map with_joined (object_in n os)
  unfolding object_in first_with change_first with_joined
  found_joined [] = refl
  found_joined (o ∷ os) = by (nat_eq o.number n) refl (found_joined os)
    where
      by : (b : Bool) → nat_eq o.number n ≡ b → object_in n (joined os) ≡ option_map with_joined (object_in n os) → first_with (λ x. nat_eq x.number n) (if b then with_joined o ∷ os else o ∷ joined os) ≡ option_map with_joined (if b then Some o else object_in n os)
      by true is h = ap (λ b. if b then Some (with_joined o) else object_in n os) is
      by false is h = ap (λ b. if b then Some o else object_in n (joined os)) is ∙ h

  written_at : (w : World) → object_at n (write_cells n 0 v w) ≡ option_map (with_cells 0 v) (object_at n w)
  unfolding object_at write_cells change_in
  written_at w = found_written w.objects

  joined_at : (w : World) → object_at n (join n w) ≡ option_map with_joined (object_at n w)
  unfolding object_at join
  joined_at w = found_joined w.objects

pub written_joined : (n : ℕ) (v : List ℕ) (w : World) → write_cells n 0 v (join n w) ≡ join n (write_cells n 0 v w)
unfolding write_cells join change_in
written_joined n v w = ap (λ (os : List Object). record w { objects = os }) (all n v w.objects)

-- An allocator with a value -------------------------------------------------------------------------

-- the object that an allocator made takes a value
abbrev pub takes : List ℕ → Returned → Act Returned
takes v r = write_part (scalar_of r.cells) 0 v >> done r

-- what goes on alike
bind_alike : {A B : Type 0} (o : Out A) (f g : Result A → Act B) → ((r : Result A) (c : ℕ) (l : Log) (w : World) → f r c l w ≡ g r c l w) → bind o f ≡ bind o g
unfolding bind
bind_alike (Gives r t c l w) f g same = ap (add t) (same r c l w)
bind_alike (Stops why t l) f g same = refl
bind_alike (Cut t c l) f g same = refl

-- the access value, which is the number of the object
abbrev pub as_value : ℕ → Returned
as_value n = record { cells = n ∷ []; slots = [] }

-- an object that is there joins its collection, if that still stands
abbrev pub joined_to : ℕ → Object → Option Collection → Act Returned
joined_to n o set = on_some set gone (λ x. either (is_new o) (change (join n)) gone) >> done (as_value n)

module _ (n : ℕ) (v : List ℕ) where
  -- whether its collection stands is the same behind the write
  same_set : (x : Origin) (w : World) → set_of x (write_cells n 0 v w) ≡ set_of x w
  unfolding set_of write_cells
  same_set (Declared m) w = refl
  same_set (Allocated set place) w = refl

  completed_is : (o : Object) (c : ℕ) (l : Log) (w : World) → object_at n w ≡ Some o → completed n c l w ≡ joined_to n o (set_of o.origin w) c l w
  unfolding completed join_collection opened_outcome opened_names
  completed_is o c l w there = ap (λ q. bind (on_some q gone (λ y. (λ c1 l1 w1. on_some (set_of y.origin w1) gone (λ x. either (is_new y) (change (join n)) gone) c1 l1 w1)) c l w) (on_goes (λ _. done (as_value n)))) there

  -- it takes the value where it is found
  takes_there : (o : Object) (c : ℕ) (l : Log) (w : World) → object_at n w ≡ Some o → takes v (as_value n) c l w ≡ Gives (Goes (as_value n)) 0 c l (write_cells n 0 v w)
  unfolding write_part scalar_of opened_lists opened_outcome opened_names
  takes_there o c l w there = ap (λ q. bind (on_some q gone (λ _. change (write_cells n 0 v)) c l w) (on_goes (λ _. done (as_value n)))) there

  joins_given : (o : Object) (set : Option Collection) (c : ℕ) (l : Log) (w : World) → object_at n w ≡ Some o → joined_to n (with_cells 0 v o) set c l (write_cells n 0 v w) ≡ bind (joined_to n o set c l w) (on_goes (takes v))
  unfolding with_cells is_new opened_outcome opened_names
  joins_given o None c l w there = refl
  joins_given o (Some x) c l w there = by (is_new o)
    where
      by : (b : Bool) → bind (either b (change (join n)) gone c l (write_cells n 0 v w)) (on_goes (λ _. done (as_value n))) ≡ bind (bind (either b (change (join n)) gone c l w) (on_goes (λ _. done (as_value n)))) (on_goes (takes v))
      by false = refl
      by true =
          ap (λ (w1 : World). Gives (Goes (as_value n)) 0 c l w1) (sym (written_joined n v w))
          ∙ ap (add 0) (sym (takes_there (with_joined o) c l (join n w) (joined_at n v w ∙ ap (option_map with_joined) there)))

  -- joined with the value, or without it and then given that
  completed_given : (o : Object) (c : ℕ) (l : Log) (w : World) → object_at n w ≡ Some o → completed n c l (write_cells n 0 v w) ≡ bind (completed n c l w) (on_goes (takes v))
  unfolding with_cells
  completed_given o c l w there =
      completed_is (with_cells 0 v o) c l (write_cells n 0 v w) (written_at n v w ∙ ap (option_map (with_cells 0 v)) there)
      ∙ ap (λ set. joined_to n (with_cells 0 v o) set c l (write_cells n 0 v w)) (same_set o.origin w)
      ∙ joins_given o (set_of o.origin w) c l w there
      ∙ sym (ap (λ x. bind x (on_goes (takes v))) (completed_is o c l w there))

-- an allocator of a type, with a value or without one, for a collection, if there is one
abbrev pub for_set : Tools → Ty → Option (List ℕ) → ℕ → List ℕ → Option Var → Option Collection → Act Returned
for_set K ty x set d pool o = on_some o gone (λ y. either (refuses K.tables ty y) (raise program_error) (storage K d pool None (size_of K.tables ty) >>= created K set ty x)) >>= completed

module _ (K : Tools) (ty : Ty) (scalar : IsScalar ty) where
  -- nothing is executed for the creation of an object that is no record
  fill_none : (birth : Birth) (n : ℕ) → fill K birth n ty None ≡ (nothing >> must_exist n)
  unfolding fill initialize opened_outcome
  fill_none birth n = ap (λ (m : Act Done). m >> must_exist n) (scalar_of_record nothing _ ty scalar)

  fill_some : (birth : Birth) (n : ℕ) (v : List ℕ) → fill K birth n ty (Some v) ≡ ((write_part n 0 v >> nothing) >> must_exist n)
  unfolding fill adjust opened_outcome
  fill_some birth n v = ap (λ (m : Act Done). (write_part n 0 v >> m) >> must_exist n) (scalar_of_record nothing _ ty scalar)

  module _ (set : ℕ) (v : List ℕ) (place : Place) (c : ℕ) (l : Log) (w : World) where
    abbrev n : ℕ
    n = w.ledger.next_object

    abbrev made : World
    made = create_at ty (begin_cells K.tables ty) set place w

    -- once it is created
    abbrev filled : Act Done → Out ℕ
    filled m = bind (add 0 (bind (m c l made) told)) (on_goes (created_or_gone n))

    created_is : (x : Option (List ℕ)) → created K set ty x place c l w ≡ filled (fill K (birth_of (Allocated set place) w) n ty x)
    unfolding created opened_outcome
    created_is x = refl

    none_made : created K set ty None place c l w ≡ on_some (object_at n made) gone (λ _. done n) c l made
    unfolding created_or_gone opened_outcome opened_names
    none_made = created_is None ∙ ap filled (fill_none (birth_of (Allocated set place) w) n) ∙ by (object_at n made)
      where
        by : (o : Option Object) → bind (add 0 (bind (add 0 (on_some o gone (λ _. nothing) c l made)) told)) (on_goes (created_or_gone n)) ≡ on_some o gone (λ _. done n) c l made
        by None = refl
        by (Some o) = refl

    -- where it is found it takes the value before it joins its collection
    some_made : (o : Object) → object_at n made ≡ Some o → created K set ty (Some v) place c l w ≡ Gives (Goes n) 0 c l (write_cells n 0 v made)
    unfolding created_or_gone opened_outcome opened_names
    some_made o there =
        created_is (Some v)
        ∙ ap filled (fill_some (birth_of (Allocated set place) w) n v)
        ∙ ap (λ q. bind (add 0 (bind (bind (bind (on_some q gone (λ _. change (write_cells n 0 v)) c l made) (on_goes (λ _. nothing))) (on_goes (λ _. must_exist n))) told)) (on_goes (created_or_gone n))) there
        ∙ ap (λ q. bind (add 0 (bind (add 0 (on_some q gone (λ _. nothing) c l (write_cells n 0 v made))) told)) (on_goes (created_or_gone n))) (written_at n v made ∙ ap (option_map (with_cells 0 v)) there)

    some_missing : object_at n made ≡ None → created K set ty (Some v) place c l w ≡ Stops UseAfterFree 0 l
    unfolding opened_outcome opened_names
    some_missing there =
        created_is (Some v)
        ∙ ap filled (fill_some (birth_of (Allocated set place) w) n v)
        ∙ ap (λ q. bind (add 0 (bind (bind (bind (on_some q gone (λ _. change (write_cells n 0 v)) c l made) (on_goes (λ _. nothing))) (on_goes (λ _. must_exist n))) told)) (on_goes (created_or_gone n))) there

    created_given : bind (created K set ty (Some v) place c l w) (on_goes completed) ≡ bind (bind (created K set ty None place c l w) (on_goes completed)) (on_goes (takes v))
    unfolding opened_outcome opened_names
    created_given = by (object_at n made) refl
      where
        by : (o : Option Object) → object_at n made ≡ o → bind (created K set ty (Some v) place c l w) (on_goes completed) ≡ bind (bind (created K set ty None place c l w) (on_goes completed)) (on_goes (takes v))
        by None there =
            ap (λ (x : Out ℕ). bind x (on_goes completed)) (some_missing there)
            ∙ sym (ap (λ (x : Out ℕ). bind (bind x (on_goes completed)) (on_goes (takes v))) (none_made ∙ ap (λ q. on_some q gone (λ _. done n) c l made) there))
        by (Some o) there =
            ap (λ (x : Out ℕ). bind x (on_goes completed)) (some_made o there)
            ∙ add_none (completed n c l (write_cells n 0 v made))
            ∙ completed_given n v o c l made there
            ∙ sym (ap (λ (x : Out Returned). bind x (on_goes (takes v))) (add_none (completed n c l made)))
            ∙ sym (ap (λ (x : Out ℕ). bind (bind x (on_goes completed)) (on_goes (takes v))) (none_made ∙ ap (λ q. on_some q gone (λ _. done n) c l made) there))

  module _ (set : ℕ) (v : List ℕ) where
    -- behind its storage
    placed_given : (r : Result Place) (c : ℕ) (l : Log) (w : World) → bind (on_goes (created K set ty (Some v)) r c l w) (on_goes completed) ≡ bind (bind (on_goes (created K set ty None) r c l w) (on_goes completed)) (on_goes (takes v))
    unfolding opened_outcome
    placed_given (Goes place) c l w = created_given set v place c l w
    placed_given (Leaves y) c l w = refl

    stored_given : (o : Out Place) → bind (bind o (on_goes (created K set ty (Some v)))) (on_goes completed) ≡ bind (bind (bind o (on_goes (created K set ty None))) (on_goes completed)) (on_goes (takes v))
    stored_given o =
        let made : Option (List ℕ) → Result Place → Act ℕ = λ x. on_goes (created K set ty x) in
        bind_bind o (made (Some v)) (on_goes completed)
        ∙ bind_alike o (λ r c l w. bind (made (Some v) r c l w) (on_goes completed)) (λ r c l w. bind (bind (made None r c l w) (on_goes completed)) (on_goes (takes v))) placed_given
        ∙ sym (ap (λ (x : Out Returned). bind x (on_goes (takes v))) (bind_bind o (made None) (on_goes completed)) ∙ bind_bind o (λ r c l w. bind (made None r c l w) (on_goes completed)) (on_goes (takes v)))

    set_given : (d : List ℕ) (pool : Option Var) (o : Option Collection) (c : ℕ) (l : Log) (w : World) → for_set K ty (Some v) set d pool o c l w ≡ bind (for_set K ty None set d pool o c l w) (on_goes (takes v))
    unfolding opened_outcome opened_names
    set_given d pool None c l w = refl
    set_given d pool (Some y) c l w = by (refuses K.tables ty y)
      where
        by : (b : Bool) → bind (either b (raise program_error) (storage K d pool None (size_of K.tables ty) >>= created K set ty (Some v)) c l w) (on_goes completed) ≡ bind (bind (either b (raise program_error) (storage K d pool None (size_of K.tables ty) >>= created K set ty None) c l w) (on_goes completed)) (on_goes (takes v))
        by true = refl
        by false = stored_given (storage K d pool None (size_of K.tables ty) c l w)

  -- an allocator with a value means what one without it does, and then its object takes the value
  pub given_is : (v : List ℕ) (d : List ℕ) (access c : ℕ) (l : Log) (w : World) → bind (allocate K d access ty None (Some v) c l w) (on_goes completed) ≡ bind (bind (allocate K d access ty None None c l w) (on_goes completed)) (on_goes (takes v))
  unfolding allocate allocate_for with_set is_null opened_outcome opened_names
  given_is v d access c l w = by (slice_get K.tables.accesses access)
    where
      by : (a : Option AccessType) → bind (on_some a gone (allocate_for K d ty None (Some v)) c l w) (on_goes completed) ≡ bind (bind (on_some a gone (allocate_for K d ty None None) c l w) (on_goes completed)) (on_goes (takes v))
      by None = refl
      by (Some a) = let set = set_in (slot_at (master_of d a.collection) a.collection.slot w).content in set_given set v d a.pool (collection_at set w.ledger) c l w
