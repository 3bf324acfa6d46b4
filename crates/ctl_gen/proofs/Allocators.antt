-- Allocators: the code of one creates an object for the collection of its access type, by default or with a value, or raises, as it means (4.8).
use Rattle.std.proofs.Common.{◌≡◌, ℕ, suc, ◌+◌, ◌≤◌, List, [], ◌∷◌, length, Option, Some, None, Bool, true, false, refl, sym, ap, ◌∙◌, subst, arith}
use Rattle.std.specs.Prelude.{drop, slice_get, replicate, ◌&&◌, nat_lt, if◌then◌else◌, option_map}
use Rattle.std.proofs.lemmas.Option.{slice_get_within}
use Rattle.ctl_program.specs.declared.types.Ty.{Ty}
use Rattle.ctl_program.specs.declared.types.Ty.TheVariants.{Integer, Count, Boolean, Address, Handle, Access, Record}
use Rattle.ctl_program.specs.declared.types.AccessType.{AccessType}
use Rattle.ctl_program.specs.declared.types.Var.{Var}
use Rattle.ctl_program.specs.declared.operators.SubprogramKind.TheVariants.{Procedure}
use Rattle.ctl_program.specs.Limits.{integer_last}
use Rattle.ctl_tree.specs.declared.ending.Stop.{Stop}
use Rattle.ctl_tree.specs.declared.ending.Stop.TheVariants.{UseAfterFree}
use Rattle.ctl_tree.specs.declared.event.Event.TheVariants.{Allocate}
use Rattle.ctl_tree.specs.declared.event.Owner.TheVariants as OwnerOf
use Rattle.ctl_meaning.specs.World.{Place, InBlock, Allocated, Object, Collection, Slot, Log, World}
use Rattle.ctl_meaning.specs.Lists.{last_of, opened_lists}
use Rattle.ctl_meaning.specs.Activations.{master_of}
use Rattle.ctl_meaning.specs.Ledger.{collection_at, master_in}
use Rattle.ctl_meaning.specs.Pools.{block_pool_at}
use Rattle.ctl_meaning.specs.Changes.{create_at, forget, home_master, home_of as origin_home, in_pools, join, new_object, object_at, owner_of, slot_at, write_cells}
use Rattle.ctl_meaning.specs.Choice.{Ask, picked}
use Rattle.ctl_meaning.specs.Outcome.{constraint_error, program_error, storage_error, ByRaise, Result, Goes, Leaves, Out, Gives, Stops, Act, Done, Fine, add, bind, on_goes, ◌>>=◌, done, nothing, raise, change, tell, told, look, either, on_some, opened_outcome}
use Rattle.ctl_meaning.specs.Types.{Tables, begin_cells, cells_of, depth as table_depth, of_record, size_of}
use Rattle.ctl_meaning.specs.Names.{OfSubprogram, Returned, Call, Default, Tools, gone, existing, must_exist, scalar_of, write_part, opened_names}
use Rattle.ctl_meaning.specs.Finalization.{whole}
use Rattle.ctl_meaning.specs.Adjustment.{Birth, birth_of}
use Rattle.ctl_meaning.specs.Initialization.{fill, initialize}
use Rattle.ctl_meaning.specs.Storage.{address_in, storage, storage_actuals, tested, user_allocate}
use Rattle.ctl_meaning.specs.Allocation.{allocate, allocate_for, created, created_or_gone, is_new, join_collection, refuses, set_in, set_of, with_set, opened_allocation}
use Rattle.ctl_meaning.specs.Run.{completed}
use Rattle.ctl_code.specs.declared.code.Code.{Code}
use Rattle.ctl_code.specs.declared.code.Instr.TheVariants as InstrOf
use Rattle.ctl_code.specs.States.{Move, Word, Scalar, Cells, Complete, Point, After, AfterFunction, AfterProcedure, ByAllocator, Frame, Creating, Filling, State, whole_spot}
use Rattle.ctl_code.specs.Table as Table
use Rattle.ctl_code.specs.Table.{AllocateOf, Exhausted, Grant, Granted, Here, NotPassed, Passed, Test, UnknownPool, address_test, begun_of, by_new, cells_for, come_to_life, first_value, grant, is_refused, joins, newborn, pool_in, set_seen, size_of as code_size, units_for, with_member, is_made_at_once, parts_of}
use Rattle.ctl_code.proofs.Storage.{OnGrant, granted_keeps}
use Rattle.ctl_code.specs.Steps.{moved, step}
use Rattle.ctl_code.specs.Valid.{MayLie, storage_formals}
use Rattle.ctl_layout.specs.Layout.{home_of}
use Rattle.ctl_gen.proofs.Known.{IsPlainType, IsScalar, scalar_plain}
use Rattle.ctl_gen.proofs.Given.{GivesEach}
use Rattle.ctl_gen.proofs.Collections.{found_number, home, of_gathered}
use Rattle.ctl_gen.proofs.Worlds.{Since, allocated_there, keeps_itself, origin_nested, since_allocate, since_forget, since_granted, since_join, since_on, since_written, still_of}
use Rattle.ctl_gen.proofs.Scopes.{allocate_in, type_inside}
use Rattle.ctl_gen.proofs.CreatedParts.{IsAround, IsBornAmong, parts_run, at_once_is}
use Rattle.ctl_gen.proofs.Setting.{Setting, Allocates, Calls, IsGiven, IsMadeAmong, IsServed, Made, ByDefault, Copied, made_type, made_value, MayAllocate, Told, allocator_steps, behind_allocator, by_allocator, enter_shows, returned_to, returns, tools_with}
use Rattle.ctl_gen.proofs.Storage.{IsOwn, address_is, gives_place, gives_test, great_is, in_block, own_granted, plain_actuals, storage_is, tested_is, units_alike, user_is}
use Rattle.ctl_gen.proofs.GivenValue.{as_value, for_set, given_is, joined_to, takes}
use Rattle.ctl_gen.proofs.Finalize.{part_alike}
use Rattle.ctl_gen.proofs.Cells.{by_code, here}
use Rattle.ctl_gen.proofs.Calls.{point_at}
use Rattle.ctl_gen.proofs.TakenValues as T
use Rattle.ctl_gen.proofs.Follow.{RunsTo, add_none, at, bind_bind, both_to, by_raise, gives, last_step_to, no_step_to, one_step_to, stop_step_to, transferred, way_of, added_to}

-- so many steps are enough
pub steps_enough : (m : Made) → 7 ≤ allocator_steps m
steps_enough (ByDefault ty) = omega arith
steps_enough (Copied t v) = omega arith

module _ (ask : Ask) (k : Tables) (code : Code) (setting : Setting k code) (call : Call) (default : Default) (defaults : GivesEach ask k code setting call default) (bound : ℕ) (calls : Calls ask k code setting bound call) where
  abbrev K : Tools
  K = tools_with ask k call default

  -- What it means ---------------------------------------------------------------------------------------

  -- what becomes of an object after its creation: it joins its collection, or is gone
  abbrev stands : ℕ → Result Done → Act Returned
  stands n r c l w = bind (bind (bind (on_goes (λ _. must_exist n) r c l w) told) (on_goes (created_or_gone n))) (on_goes completed)

  -- the creation of its parts, by default or by a value
  abbrev fills : (m : Made) → IsPlainType k (made_type m) → Birth → ℕ → Act Done
  fills (ByDefault ty) plain birth n = initialize K birth (whole n) ty
  fills (Copied t v) plain birth n = T.taking ask k code setting call default defaults.constants bound calls t plain birth n v

  abbrev begins : (m : Made) → IsPlainType k (made_type m) → ℕ → Place → Act Done
  begins m plain set place c l w = fills m plain (birth_of (Allocated set place) w) w.ledger.next_object c l (with_member code set (made_type m) place w)

  settled_is : (n : ℕ) (o : Out Done) → bind (bind (add 0 (bind (bind o (on_goes (λ _. must_exist n))) told)) (on_goes (created_or_gone n))) (on_goes completed) ≡ bind o (stands n)
  settled_is n o =
      ap (λ x. bind (bind x (on_goes (created_or_gone n))) (on_goes completed)) (add_none (bind (bind o (on_goes (λ _. must_exist n))) told))
      ∙ ap (λ x. bind (bind x (on_goes (created_or_gone n))) (on_goes completed)) (bind_bind o (on_goes (λ _. must_exist n)) told)
      ∙ ap (λ x. bind x (on_goes completed)) (bind_bind o (λ r c1 l1 w1. bind (on_goes (λ _. must_exist n) r c1 l1 w1) told) (on_goes (created_or_gone n)))
      ∙ bind_bind o (λ r c1 l1 w1. bind (bind (on_goes (λ _. must_exist n) r c1 l1 w1) told) (on_goes (created_or_gone n))) (on_goes completed)

  -- as many cells as the table of the code says
  cells_are : (ty : Ty) → IsPlainType k ty → begin_cells k ty ≡ replicate (cells_for code ty) 0
  unfolding begin_cells cells_of of_record
  cells_are (Record t) plain = ap (λ i. replicate i 0) (sym (setting.sizes t plain.2.laid.is))
  cells_are Integer plain = refl
  cells_are Count plain = refl
  cells_are Boolean plain = refl
  cells_are Address plain = refl
  cells_are Handle plain = refl
  cells_are (Access a) plain = refl

  -- Creation --------------------------------------------------------------------------------------------

  -- where the object is created, at a place
  created_is : (m : Made) (plain : IsPlainType k (made_type m)) (set : ℕ) (place : Place) (c : ℕ) (l : Log) (w : World) → bind (created K set (made_type m) (made_value m) place c l w) (on_goes completed) ≡ bind (begins m plain set place c l w) (stands w.ledger.next_object)
  unfolding created fill of_record opened_outcome
  created_is (ByDefault ty) plain set place c l w =
      let n = w.ledger.next_object in
      let m = ByDefault ty in
      ap (λ cells. bind (bind (add 0 (bind (bind (fills m plain (birth_of (Allocated set place) w) n c l (create_at ty cells set place w)) (on_goes (λ _. must_exist n))) told)) (on_goes (created_or_gone n))) (on_goes completed)) (cells_are ty plain)
      ∙ settled_is n (begins m plain set place c l w)
  created_is (Copied t v) plain set place c l w =
      let n = w.ledger.next_object in
      let m = Copied t v in
      ap (λ cells. bind (bind (add 0 (bind (bind (fills m plain (birth_of (Allocated set place) w) n c l (create_at (Record t) cells set place w)) (on_goes (λ _. must_exist n))) told)) (on_goes (created_or_gone n))) (on_goes completed)) (cells_are (Record t) plain)
      ∙ settled_is n (begins m plain set place c l w)

  there_is : (n c : ℕ) (l : Log) (w : World) (o : Object) → object_at n w ≡ Some o → stands n (Goes tt) c l w ≡ joined_to n o (set_of o.origin w) c l w
  unfolding must_exist created_or_gone completed join_collection opened_outcome opened_names
  there_is n c l w o is =
      ap (λ q. bind (bind (bind (on_some q gone (λ _. nothing) c l w) told) (on_goes (created_or_gone n))) (on_goes completed)) is
      ∙ ap (λ q. add 0 (bind (on_some q gone (λ y. look (λ w1. on_some (set_of y.origin w1) gone (λ x. either (is_new y) (change (join n)) gone))) c l w) (on_goes (λ _. done (as_value n))))) is
      ∙ add_none (joined_to n o (set_of o.origin w) c l w)

  missing_is : (n c : ℕ) (l : Log) (w : World) → object_at n w ≡ None → stands n (Goes tt) c l w ≡ Stops UseAfterFree 0 l
  unfolding must_exist opened_outcome opened_names
  missing_is n c l w is = ap (λ q. bind (bind (bind (on_some q gone (λ _. nothing) c l w) told) (on_goes (created_or_gone n))) (on_goes completed)) is

  -- where its creation raised, it is gone
  raised_is : (n e c : ℕ) (l : Log) (w : World) → stands n (Leaves (ByRaise e)) c l w ≡ Gives (Leaves (ByRaise e)) 1 c l (forget n w)
  unfolding created_or_gone opened_outcome
  raised_is n e c l w = refl

  abbrev set_number : List ℕ → Var → World → ℕ
  set_number d v w = set_in (slot_at (master_of d v) v.slot w).content

  -- of an access type of the table
  allocate_is : (m : Made) (d : List ℕ) (access : ℕ) (a : AccessType) → slice_get k.accesses access ≡ Some a → (c : ℕ) (l : Log) (w : World) → bind (allocate K d access (made_type m) None (made_value m) c l w) (on_goes completed) ≡ for_set K (made_type m) (made_value m) (set_number d a.collection w) d a.pool (set_seen (Some (home_of a)) d w) c l w
  unfolding allocate allocate_for with_set opened_outcome opened_allocation
  allocate_is m d access a found c l w = ap (λ o. bind (on_some o gone (allocate_for K d (made_type m) None (made_value m)) c l w) (on_goes completed)) found

  allocate_none : (m : Made) (d : List ℕ) (access : ℕ) → slice_get k.accesses access ≡ None → (c : ℕ) (l : Log) (w : World) → bind (allocate K d access (made_type m) None (made_value m) c l w) (on_goes completed) ≡ Stops UseAfterFree 0 l
  unfolding allocate opened_outcome opened_allocation opened_names
  allocate_none m d access found c l w = ap (λ o. bind (on_some o gone (allocate_for K d (made_type m) None (made_value m)) c l w) (on_goes completed)) found

  -- What its code does ------------------------------------------------------------------------------------

  module _ (w0 : World) where
    -- where control is behind it
    abbrev Gets : ℕ → ℕ → State → ℕ → Point → List Frame → Out Returned → Type 0
    Gets b h s c p ks o = RunsTo ask code (Allocates k code w0) b h s c (returned_to (AfterFunction None p) ks) o

    -- where it raises
    raises : (b h : ℕ) (e : ℕ) (p : Point) (ks : List Frame) (c : ℕ) (l : Log) (w : World) → Since k code w0 w → Gets b h (transferred (ByRaise e) ks l w) c p ks (Gives (Leaves (ByRaise e)) 0 c l w)
    raises b h e p ks c l w fits = no_step_to ask code (Allocates k code w0) b h _ c 0 (returned_to (AfterFunction None p) ks) (Leaves (ByRaise e)) l w (tt, fits) refl

    -- the new object joins its collection, in a step that takes at most one from the clock, or nothing more is done
    joins_runs : (n : ℕ) (o : Object) (set : Option Collection) (p : Point) (ks : List Frame) (s0 : State) (c0 c : ℕ) (l : Log) (w : World) → c ≤ c0 → c0 ≤ c + 1 → Since k code w0 w → step ask code s0 ≡ moved l (joins n o set p ks w) → Gets 1 3 s0 c0 p ks (joined_to n o set c l w)
    unfolding opened_outcome opened_names opened_lists
    joins_runs n o None p ks s0 c0 c l w lo hi fits first = stop_step_to ask code (Allocates k code w0) 1 3 s0 _ c0 0 (returned_to (AfterFunction None p) ks) UseAfterFree l (omega arith) first refl refl
    joins_runs n o (Some x) p ks s0 c0 c l w lo hi fits first = by (is_new o) first
      where
        by : (b : Bool) → step ask code s0 ≡ moved l (if b then Table.on_with n p ks (join n w) else Table.gone ks w) → Gets 1 3 s0 c0 p ks (bind (either b (change (join n)) gone c l w) (on_goes (λ _. done (as_value n))))
        by true go =
            let next = returned_to (AfterFunction None p) ks in
            let w1 = join n w in
            one_step_to ask code (Allocates k code w0) 0 2 1 3 s0 (next (Goes (as_value n)) l w1) c0 c next (Gives (Goes (as_value n)) 0 c l w1) (omega arith) (omega arith) lo hi go
            (no_step_to ask code (Allocates k code w0) 0 2 _ c 0 next (Goes (as_value n)) l w1 ((n, refl), since_join k code n w0 w fits) refl)
        by false go = stop_step_to ask code (Allocates k code w0) 1 3 s0 _ c0 0 (returned_to (AfterFunction None p) ks) UseAfterFree l (omega arith) go refl refl

    -- the object comes to life
    lives_on : (n : ℕ) (p : Point) (ks : List Frame) (s0 : State) (c0 c : ℕ) (l : Log) (w : World) → c ≤ c0 → c0 ≤ c + 1 → Since k code w0 w → step ask code s0 ≡ moved l (come_to_life ByAllocator n (object_at n w) p ks w) → Gets 1 3 s0 c0 p ks (stands n (Goes tt) c l w)
    lives_on n p ks s0 c0 c l w lo hi fits first = by (object_at n w) refl
      where
        by : (o : Option Object) → object_at n w ≡ o → Gets 1 3 s0 c0 p ks (stands n (Goes tt) c l w)
        by None is = subst (Gets 1 3 s0 c0 p ks) (sym (missing_is n c l w is)) (stop_step_to ask code (Allocates k code w0) 1 3 _ _ c0 0 (returned_to (AfterFunction None p) ks) UseAfterFree l (omega arith) (first ∙ ap (λ q. moved l (come_to_life ByAllocator n q p ks w)) is) refl refl)
        by (Some o) is =
            subst (Gets 1 3 s0 c0 p ks) (sym (there_is n c l w o is))
            (joins_runs n o (set_of o.origin w) p ks s0 c0 c l w lo hi fits (first ∙ ap (λ q. moved l (come_to_life ByAllocator n q p ks w)) is))

    -- after its creation
    stands_runs : (w1 : World) (n t : ℕ) (p : Point) (ks : List Frame) → Since k code w0 w1 → (r : Result Done) (c : ℕ) (l : Log) (w : World) → Told k code w1 (way_of r) w → Gets 1 3 (returns (Creating ByAllocator n t p ∷ ks) r l w) c p ks (stands n r c l w)
    unfolding picked
    stands_runs w1 n t p ks fits1 (Goes u) c l w told1 = lives_on n p ks (gives (Creating ByAllocator n t p ∷ ks) (Fine Complete) l w) c c l w (omega arith) (omega arith) (since_on k code w0 w1 w fits1 told1.1) refl
    stands_runs w1 n t p ks fits1 (Leaves y) c l w told1 =
        by_raise (λ v. Gets 1 3 (returns {A = Done} (Creating ByAllocator n t p ∷ ks) (Leaves v) l w) c p ks (stands n (Leaves v) c l w))
        (λ e.
        subst (Gets 1 3 (returns {A = Done} (Creating ByAllocator n t p ∷ ks) (Leaves (ByRaise e)) l w) c p ks) (sym (raised_is n e c l w))
        (last_step_to ask code (Allocates k code w0) 1 3 _ c 1 (returned_to (AfterFunction None p) ks) (Leaves (ByRaise e)) l (forget n w) (omega arith) (tt, since_forget k code n w0 w (since_on k code w0 w1 w fits1 told1.1)) refl)) y told1.0

    -- a collection stands, objects of a type may lie in it, and its master is one of those that are seen
    abbrev MayStand : List ℕ → Ty → ℕ → Collection → World → Type 0
    MayStand d ty set x w = (collection_at set w.ledger ≡ Some x) × MayLie code (length (home x.master w.activations)) ty × IsMadeAmong (home x.master w.activations) d w

    -- the worlds with a new object for such a collection
    member_fits : (v : World) (d : List ℕ) (ty : Ty) → IsPlainType k ty → (set : ℕ) (x : Collection) (place : Place) (w : World) → MayStand d ty set x w → Since k code v w → Since k code v (with_member code set ty place w)
    unfolding collection_at
    member_fits v d ty plain set x place w may fits = since_allocate k code ty (replicate (cells_for code ty) 0) set place x.master v w (x, may.0, refl) plain may.1 fits

    -- it is there, and its type, if it is a record type, is declared around its operations
    member_around : (t set : ℕ) (place : Place) (w : World) → Since k code w0 w → Since k code w0 (with_member code set (Record t) place w) → IsAround code w.ledger.next_object t (with_member code set (Record t) place w)
    unfolding new_object
    member_around t set place w fits fits1 =
        let there = allocated_there k code (Record t) (replicate (code_size code t) 0) set place w fits.0 in
        (_, there, type_inside k code w.ledger.next_object (with_member code set (Record t) place w) _ t fits1.0 there refl)

    -- a collection that stands still does since an earlier world, with the same masters around it
    still_stands : (d : List ℕ) (ty : Ty) (set : ℕ) (x : Collection) (v w : World) → MayStand d ty set x v → Since k code v v → Since k code v w → (y : Collection) × MayStand d ty set y w × (home y.master w.activations ≡ home x.master v.activations)
    unfolding collection_at
    still_stands d ty set x v w may fits since =
        let is = still_of k code set x.master v w fits.0 since.1 (x, may.0, refl) in
        let old = (of_gathered v.ledger.next_collection v.ledger.next_master v.activations set x.master v.ledger.collections fits.0.collections (x, may.0, refl)).1 in
        let home_is : home is.0.master w.activations ≡ home x.master v.activations = ap (λ i. home i w.activations) is.2 ∙ since.1.homes x.master old in
        let young = may.2.0 in
        let later = since.1.later in
        let among : IsMadeAmong (home x.master v.activations) d w = (omega (arith, young, later), since.1.homes (last_of d) young ∙ may.2.1, may.2.2, may.2.3) in
        (is.0, (is.1, subst (λ (e : List ℕ). MayLie code (length e) ty) (sym home_is) may.1, subst (λ (e : List ℕ). IsMadeAmong e d w) (sym home_is) among), home_is)

    -- the defaults of a new object are evaluated among the masters around its operations
    born_among : (t set : ℕ) (x : Collection) (place : Place) (p : Point) (ks : List Frame) (w : World) → MayStand p.display (Record t) set x w → Since k code w0 w → Since k code w (with_member code set (Record t) place w) → (inside : IsAround code w.ledger.next_object t (with_member code set (Record t) place w)) → IsBornAmong (birth_of (Allocated set place) w) (origin_home inside.0.origin (with_member code set (Record t) place w)) (Creating ByAllocator w.ledger.next_object t p ∷ ks) (with_member code set (Record t) place w)
    unfolding birth_of origin_home home_master master_in new_object
    born_among t set x place p ks w may fits since inside =
        let w1 = with_member code set (Record t) place w in
        let stand = still_stands p.display (Record t) set x w w1 may (fits.0, keeps_itself k code w) since in
        let there = allocated_there k code (Record t) (replicate (code_size code t) 0) set place w fits.0 in
        let same : inside.0 ≡ new_object w.ledger.next_object (Record t) (replicate (code_size code t) 0) (Allocated set place) = (let both = sym inside.1 ∙ there in cc both) in
        let outer : origin_home inside.0.origin w1 ≡ home stand.0.master w1.activations = ap (λ (o : Object). origin_home o.origin w1) same ∙ ap (λ o. home (master_in o) w1.activations) stand.1.0 in
        let born : origin_home (Allocated set place) w ≡ home x.master w.activations = ap (λ o. home (master_in o) w.activations) may.0 in
        (born ∙ (sym stand.2 ∙ sym outer), subst (λ (e : List ℕ). IsMadeAmong e p.display w1) (sym outer) stand.1.2)

    -- the step of the creation, for a collection that is there
    abbrev creates : Made → ℕ → Place → Point → List Frame → World → Move
    creates (ByDefault ty) = Table.member_begins code ty
    creates (Copied t v) = Table.copy_begins code t v

    -- an object for a collection that stands, from that step
    module _ (set : ℕ) (x : Collection) (place : Place) (p : Point) (ks : List Frame) (s0 : State) (c0 c : ℕ) (l : Log) (w : World) (le : c ≤ bound) (lo : c ≤ c0) (hi : c0 ≤ c + 1) (fits : Since k code w0 w) where
      abbrev n : ℕ
      n = w.ledger.next_object

      abbrev Creates : (m : Made) → IsPlainType k (made_type m) → Type 0
      Creates m plain = MayStand p.display (made_type m) set x w → step ask code s0 ≡ moved l (creates m set place p ks w) → Gets 6 (allocator_steps m) s0 c0 p ks (bind (begins m plain set place c l w) (stands n))

      -- of a record type by default: where nothing is executed for its creation it comes to life
      record_runs : (t : ℕ) (plain : IsPlainType k (Record t)) → Creates (ByDefault (Record t)) plain
      unfolding birth_of owner_of opened_outcome initialize of_record table_depth whole
      record_runs t plain may first = empty (is_made_at_once (parts_of code t) (begun_of code t)) refl first
        where
          w1 : World
          w1 = with_member code set (Record t) place w

          fits1 : Since k code w0 w1
          fits1 = member_fits w0 p.display (Record t) plain set x place w may fits

          fills_runs : step ask code s0 ≡ moved l (Table.begin_part code (newborn n t (OwnerOf.Collection set)) (Creating ByAllocator n t p ∷ ks) w1) → Gets 6 7 s0 c0 p ks (bind (begins (ByDefault (Record t)) plain set place c l w) (stands n))
          fills_runs go =
              let mid = Creating ByAllocator n t p ∷ ks in
              let s1 = gives (Filling (newborn n t (OwnerOf.Collection set)) (begun_of code t) (begun_of code t) ∷ mid) (Fine Complete) l w1 in
              one_step_to ask code (Allocates k code w0) 5 6 6 7 s0 s1 c0 c (returned_to (AfterFunction None p) ks) (bind (begins (ByDefault (Record t)) plain set place c l w) (stands n)) (omega arith) (omega arith) lo hi go
              (both_to ask code (λ r v. Told k code w1 (way_of r) v) (Allocates k code w0) 3 3 1 3 5 6 s1 c (returns mid) (returned_to (AfterFunction None p) ks) (begins (ByDefault (Record t)) plain set place c l w) (stands n) (omega arith) (omega arith) (omega arith)
              (parts_run ask k code setting call default defaults bound calls (suc (length k.records)) t (let within = slice_get_within k.records t plain.0 plain.1 in omega (arith, within)) plain (whole_spot n) (OwnerOf.Collection set) (birth_of (Allocated set place) w) refl w1 fits1.0 (member_around t set place w fits fits1) mid (born_among t set x place p ks w may fits (member_fits w p.display (Record t) plain set x place w may (fits.0, keeps_itself k code w)) (member_around t set place w fits fits1)) c l w1 le (fits1.0, keeps_itself k code w1))
              (λ r c1 l1 w2 lo1 told1. stands_runs w1 n t p ks fits1 r c1 l1 w2 told1))

          empty : (once : Bool) → is_made_at_once (parts_of code t) (begun_of code t) ≡ once
              → step ask code s0 ≡ moved l (if once then come_to_life ByAllocator n (object_at n w1) p ks w1 else Table.begin_part code (newborn n t (OwnerOf.Collection set)) (Creating ByAllocator n t p ∷ ks) w1)
              → Gets 6 7 s0 c0 p ks (bind (begins (ByDefault (Record t)) plain set place c l w) (stands n))
          empty true is go =
              subst (λ o. Gets 6 7 s0 c0 p ks (bind o (stands n))) (sym (at_once_is ask k code setting call default defaults bound calls (length k.records) (birth_of (Allocated set place) w) (whole_spot n) t c l w1 plain is))
              (added_to ask code (Allocates k code w0) 0 1 3 6 7 s0 c0 (returned_to (AfterFunction None p) ks) (stands n (Goes tt) c l w1) (omega arith) (omega arith) (lives_on n p ks s0 c0 c l w1 lo hi fits1 go))
          empty false is go = fills_runs go

      -- of an elementary type: nothing is executed for its creation
      at_once : (ty : Ty) (plain : IsPlainType k ty) → ((birth : Birth) → initialize K birth (whole n) ty ≡ nothing) → MayStand p.display ty set x w → step ask code s0 ≡ moved l (come_to_life ByAllocator n (object_at n (with_member code set ty place w)) p ks (with_member code set ty place w)) → Gets 6 7 s0 c0 p ks (bind (begins (ByDefault ty) plain set place c l w) (stands n))
      unfolding opened_outcome
      at_once ty plain none may first =
          let w1 = with_member code set ty place w in
          subst (λ (f : Act Done). Gets 6 7 s0 c0 p ks (bind (f c l w1) (stands n))) (sym (none (birth_of (Allocated set place) w)))
          (added_to ask code (Allocates k code w0) 0 1 3 6 7 s0 c0 (returned_to (AfterFunction None p) ks) (stands n (Goes tt) c l w1) (omega arith) (omega arith) (lives_on n p ks s0 c0 c l w1 lo hi (member_fits w0 p.display ty plain set x place w may fits) first))

      default_runs : (ty : Ty) (plain : IsPlainType k ty) → Creates (ByDefault ty) plain
      unfolding initialize of_record
      default_runs (Record t) plain may first = record_runs t plain may first
      default_runs Integer plain may first = at_once Integer plain (λ birth. refl) may first
      default_runs Count plain may first = at_once Count plain (λ birth. refl) may first
      default_runs Boolean plain may first = at_once Boolean plain (λ birth. refl) may first
      default_runs Address plain may first = at_once Address plain (λ birth. refl) may first
      default_runs Handle plain may first = at_once Handle plain (λ birth. refl) may first
      default_runs (Access a) plain may first = at_once (Access a) plain (λ birth. refl) may first

      -- with a value
      copied_runs : (t : ℕ) (v : List ℕ) (plain : IsPlainType k (Record t)) → Creates (Copied t v) plain
      unfolding birth_of owner_of
      copied_runs t v plain may first =
          let w1 = with_member code set (Record t) place w in
          let fits1 = member_fits w0 p.display (Record t) plain set x place w may fits in
          T.taken_runs ask k code setting call default defaults.constants bound calls t plain ByAllocator n (OwnerOf.Collection set) (birth_of (Allocated set place) w) refl p ks w1 fits1.0 (member_around t set place w fits fits1) (Allocates k code w0) (returned_to (AfterFunction None p) ks) (stands n)
          (λ s1 d0 d l1 w2 lo1 hi1 fits2 go1. lives_on n p ks s1 d0 d l1 w2 lo1 hi1 (since_on k code w0 w1 w2 fits1 fits2) go1)
          (λ r c1 l1 w2 told1. stands_runs w1 n t p ks fits1 r c1 l1 w2 told1)
          v s0 c0 c l le lo hi first

      begins_runs : (m : Made) (plain : IsPlainType k (made_type m)) → Creates m plain
      begins_runs (ByDefault ty) plain = default_runs ty plain
      begins_runs (Copied t v) plain = copied_runs t v plain

      created_runs : (m : Made) → IsPlainType k (made_type m) → MayStand p.display (made_type m) set x w → step ask code s0 ≡ moved l (creates m set place p ks w)
          → Gets 6 (allocator_steps m) s0 c0 p ks (bind (created K set (made_type m) (made_value m) place c l w) (on_goes completed))
      created_runs m plain may first = subst (Gets 6 (allocator_steps m) s0 c0 p ks) (sym (created_is m plain set place c l w)) (begins_runs m plain may first)

    -- At the address that a user's Allocate gave (13.11) ----------------------------------------------------

    -- the object begins at an address that passes its test
    abbrev places : Made → ℕ → ℕ → ℕ → Test → List Word → Here → Move
    places (ByDefault ty) = Table.new_in_block code ty
    places (Copied t v) = Table.copy_in_block code t v

    passes : (m : Made) (set n a : ℕ) (d : List ℕ) (place : ℕ) (ks : List Frame) (ops : List Word) (l : Log) (w : World) → moved l (places m set n a Passed ops (here d place ks w)) ≡ moved l (creates m set (InBlock n a) (point_at d (place + 1) ops) ks w)
    passes (ByDefault of) set n a d place ks ops l w = refl
    passes (Copied t v) set n a d place ks ops l w = refl

    fails : (m : Made) (set n a : ℕ) (why : Stop) (d : List ℕ) (place : ℕ) (ks : List Frame) (ops : List Word) (l : Log) (w : World) → moved l (places m set n a (NotPassed why) ops (here d place ks w)) ≡ moved l (Table.stopped why ks w)
    fails (ByDefault of) set n a why d place ks ops l w = refl
    fails (Copied t v) set n a why d place ks ops l w = refl

    -- the operands that stay while an Allocate is executed: the value is one of them
    abbrev kept_over : Made → List Word → List Word
    kept_over (ByDefault of) ops = ops
    kept_over (Copied t v) ops = Cells v ∷ ops

    -- the instruction that is for the address which it gave
    at_served : (m : Made) (set n a x : ℕ) (d : List ℕ) (place : ℕ) (ks : List Frame) (ops : List Word) (l : Log) (w : World) → IsServed code m place
        → step ask code (at d (place + 1) ks (Scalar a ∷ Scalar x ∷ Scalar n ∷ Scalar set ∷ kept_over m ops) l w) ≡ moved l (places m set n a (address_test a (units_for code (made_type m)) (block_pool_at n w.pools) w) ops (here d (place + 1) ks w))
    at_served (ByDefault of) set n a x d place ks ops l w (ty, top, there) = by_code ask code d (place + 1) ks (Scalar a ∷ Scalar x ∷ Scalar n ∷ Scalar set ∷ ops) l w (InstrOf.NewIn of ty top) there
    at_served (Copied t v) set n a x d place ks ops l w (ty, top, there) = by_code ask code d (place + 1) ks (Scalar a ∷ Scalar x ∷ Scalar n ∷ Scalar set ∷ Cells v ∷ ops) l w (InstrOf.NewCopyIn t ty top) there

    -- what comes of a request of storage: the creation, the call of a user's Allocate, an exception, or a stop
    abbrev grants : Made → ℕ → Grant → List Word → Here → Move
    grants (ByDefault of) = Table.new_at code of
    grants (Copied t v) = Table.copy_at code t v

    -- where there is no collection, or there is this one
    no_set : (m : Made) (pool : Option Var) (ops : List Word) (h : Here) (l : Log) → moved l (by_allocator code m pool None ops h) ≡ moved l (Table.gone h.control h.world)
    no_set (ByDefault of) pool ops h l = refl
    no_set (Copied t v) pool ops h l = refl

    abbrev tests : Made → Option Var → Collection → List Word → Here → Move
    tests m pool x ops h = if is_refused code (made_type m) x then Table.transfers (ByRaise program_error) h.control h.world else grants m x.number (grant code pool h.display (units_for code (made_type m)) h.world) ops h

    this_set : (m : Made) (pool : Option Var) (x : Collection) (ops : List Word) (h : Here) (l : Log) → moved l (by_allocator code m pool (Some x) ops h) ≡ moved l (tests m pool x ops h)
    this_set (ByDefault of) pool x ops h l = refl
    this_set (Copied t v) pool x ops h l = refl

    -- where storage is granted, or not
    granted_is : (m : Made) (set : ℕ) (at1 : Place) (w1 : World) (d : List ℕ) (place : ℕ) (ks : List Frame) (ops : List Word) (l : Log) (w : World) → moved l (grants m set (Granted at1 w1) ops (here d place ks w)) ≡ moved l (creates m set at1 (point_at d (behind_allocator place) ops) ks w1)
    granted_is (ByDefault of) set at1 w1 d place ks ops l w = refl
    granted_is (Copied t v) set at1 w1 d place ks ops l w = refl

    exhausted_is : (m : Made) (set : ℕ) (d : List ℕ) (place : ℕ) (ks : List Frame) (ops : List Word) (l : Log) (w : World) → moved l (grants m set Exhausted ops (here d place ks w)) ≡ transferred (ByRaise storage_error) ks l w
    exhausted_is (ByDefault of) set d place ks ops l w = refl
    exhausted_is (Copied t v) set d place ks ops l w = refl

    unknown_is : (m : Made) (set : ℕ) (d : List ℕ) (place : ℕ) (ks : List Frame) (ops : List Word) (l : Log) (w : World) → moved l (grants m set UnknownPool ops (here d place ks w)) ≡ moved l (Table.gone ks w)
    unknown_is (ByDefault of) set d place ks ops l w = refl
    unknown_is (Copied t v) set d place ks ops l w = refl

    asked_is : (m : Made) (set : ℕ) (o : Object) (f : ℕ) (d : List ℕ) (place : ℕ) (ks : List Frame) (ops : List Word) (l : Log) (w : World) → moved l (grants m set (AllocateOf o f) ops (here d place ks w)) ≡ moved l (Table.call_allocate code (units_for code (made_type m)) set o f (kept_over m ops) (here d place ks w))
    asked_is (ByDefault of) set o f d place ks ops l w = refl
    asked_is (Copied t v) set o f d place ks ops l w = refl

    -- An allocator ------------------------------------------------------------------------------------------

    module _ (m : Made) (plain : IsPlainType k (made_type m)) where
      -- its collection stands
      abbrev Stand : List ℕ → ℕ → Collection → World → Type 0
      Stand d = MayStand d (made_type m)

      -- so many storage units are requested (13.3)
      abbrev units : ℕ
      units = size_of k (made_type m)

      units_are : units_for code (made_type m) ≡ units
      units_are = units_alike k code setting (made_type m) plain

      -- the object is created
      abbrev makes : ℕ → Place → Act ℕ
      makes set = created K set (made_type m) (made_value m)

      placed_runs : (set : ℕ) (x : Collection) (n a : ℕ) (test : Test) (d : List ℕ) (place : ℕ) (ks : List Frame) (ops : List Word) (s0 : State) (c : ℕ) (l : Log) (w : World) → c ≤ bound → Stand d set x w → Since k code w0 w → step ask code s0 ≡ moved l (places m set n a test ops (here d place ks w))
          → Gets 6 (allocator_steps m) s0 c (point_at d (place + 1) ops) ks (bind (bind (bind (gives_test a test c l w) (on_goes (in_block n))) (on_goes (makes set))) (on_goes completed))
      unfolding opened_outcome
      placed_runs set x n a Passed d place ks ops s0 c l w le may fits first =
          subst (λ o. Gets 6 (allocator_steps m) s0 c (point_at d (place + 1) ops) ks (bind o (on_goes completed))) (sym (add_none (makes set (InBlock n a) c l w)))
          (created_runs set x (InBlock n a) (point_at d (place + 1) ops) ks s0 c c l w le (omega arith) (omega arith) fits m plain may (first ∙ passes m set n a d place ks ops l w))
      placed_runs set x n a (NotPassed s) d place ks ops s0 c l w le may fits first =
          stop_step_to ask code (Allocates k code w0) 6 (allocator_steps m) s0 _ c 0 (returned_to (AfterFunction None (point_at d (place + 1) ops)) ks) s l (let enough = steps_enough m in omega (arith, enough)) (first ∙ fails m set n a s d place ks ops l w) refl refl

      -- what follows the call
      abbrev after_allocate : ℕ → ℕ → Result Returned → Act Returned
      after_allocate set n r c l w = bind (bind (bind (on_goes (λ x. tested n units (address_in x)) r c l w) (on_goes (in_block n))) (on_goes (makes set))) (on_goes completed)

      called_is : (set n : ℕ) (o : Out Returned) → bind (bind (bind (bind o (on_goes (λ x. tested n units (address_in x)))) (on_goes (in_block n))) (on_goes (makes set))) (on_goes completed) ≡ bind o (after_allocate set n)
      called_is set n o =
          let test : Result Returned → Act ℕ = on_goes (λ x. tested n units (address_in x)) in
          let placed : Result ℕ → Act Place = on_goes (in_block n) in
          let made : Result Place → Act ℕ = on_goes (makes set) in
          ap (λ x. bind (bind x made) (on_goes completed)) (bind_bind o test placed)
          ∙ ap (λ x. bind x (on_goes completed)) (bind_bind o (λ r c l w. bind (test r c l w) placed) made)
          ∙ bind_bind o (λ r c l w. bind (bind (test r c l w) placed) made) (on_goes completed)

      -- from where the call leads
      after_runs : (set n : ℕ) (x : Collection) (d : List ℕ) (place : ℕ) (ks : List Frame) (ops : List Word) (v : World) → Stand d set x v → Since k code w0 v → IsServed code m place → (r : Result Returned) (c : ℕ) (l : Log) (w : World) → c ≤ bound → Told k code v (way_of r) w → Gets 6 (allocator_steps m) (returned_to (AfterProcedure 2 (point_at d (place + 1) (Scalar n ∷ Scalar set ∷ kept_over m ops))) ks r l w) c (point_at d (place + 1 + 1) ops) ks (after_allocate set n r c l w)
      unfolding opened_outcome
      after_runs set n x d place ks ops v may fits served (Goes r) c l w le told1 =
          let since = told1.1 in
          let stand = still_stands d (made_type m) set x v w may (fits.0, keeps_itself k code v) since in
          let a = first_value (drop 1 r.slots) in
          let s1 = at d (place + 1) ks (Scalar a ∷ Scalar (first_value r.slots) ∷ Scalar n ∷ Scalar set ∷ kept_over m ops) l w in
          subst (λ o. Gets 6 (allocator_steps m) s1 c (point_at d (place + 1 + 1) ops) ks (bind (bind (bind o (on_goes (in_block n))) (on_goes (makes set))) (on_goes completed)))
          (sym (ap (λ i. tested n units i c l w) (address_is r) ∙ tested_is n units a c l w))
          (placed_runs set stand.0 n a (address_test a units (block_pool_at n w.pools) w) d (place + 1) ks ops s1 c l w le stand.1 (since_on k code w0 v w fits since)
          (at_served m set n a (first_value r.slots) d place ks ops l w served
          ∙ ap (λ i. moved l (places m set n a (address_test a i (block_pool_at n w.pools) w) ops (here d (place + 1) ks w))) units_are))
      after_runs set n x d place ks ops v may fits served (Leaves y) c l w le told1 =
          by_raise (λ z. Gets 6 (allocator_steps m) (transferred z ks l w) c (point_at d (place + 1 + 1) ops) ks (Gives (Leaves z) 0 c l w))
          (λ e. raises 6 (allocator_steps m) e (point_at d (place + 1 + 1) ops) ks c l w (since_on k code w0 v w fits told1.1)) y told1.0

      -- from the step that calls it
      user_runs : (set : ℕ) (x : Collection) (o : Object) (f : ℕ) (d : List ℕ) (place : ℕ) (ks : List Frame) (ops : List Word) (s0 : State) (c : ℕ) (l : Log) (w : World) → c ≤ bound → Stand d set x w → Since k code w0 w → IsOwn k w (AllocateOf o f) → IsServed code m place → step ask code s0 ≡ moved l (Table.call_allocate code units set o f (kept_over m ops) (here d place ks w))
          → Gets 6 (allocator_steps m) s0 c (point_at d (place + 1 + 1) ops) ks (bind (bind (gives_place K units (AllocateOf o f) c l w) (on_goes (makes set))) (on_goes completed))
      unfolding opened_outcome
      user_runs set x o f d place ks ops s0 c l w le may fits own served first = by (nat_lt integer_last units) refl first
        where
          n : ℕ
          n = o.number

          v : List ℕ
          v = origin_home o.origin w

          p : Point
          p = point_at d (place + 1 + 1) ops

          after : After
          after = AfterProcedure 2 (point_at d (place + 1) (Scalar n ∷ Scalar set ∷ kept_over m ops))

          shown : Log
          shown = tell (Allocate n units) l

          actuals : List Slot
          actuals = storage_actuals n 0 units

          goal : Out ℕ → Type 0
          goal y = Gets 6 (allocator_steps m) s0 c p ks (bind (bind (bind y (on_goes (in_block n))) (on_goes (makes set))) (on_goes completed))

          by : (b : Bool) → nat_lt integer_last units ≡ b → step ask code s0 ≡ moved l (if b then Table.transfers (ByRaise constraint_error) ks w else Table.enter_body (slice_get code.entries.items f) (Allocate n units ∷ []) v actuals after ks w) → goal (user_allocate K n units f c l w)
          by true is go =
              subst goal (sym (great_is K n units f c l w is))
              (one_step_to ask code (Allocates k code w0) 5 6 6 (allocator_steps m) s0 (transferred (ByRaise constraint_error) ks l w) c c (returned_to (AfterFunction None p) ks) (Gives (Leaves (ByRaise constraint_error)) 0 c l w) (omega arith) (steps_enough m) (omega arith) (omega arith) go (raises 5 6 constraint_error p ks c l w fits))
          by false is go =
              let u = own.1.0 in
              let op = own.1.2 in
              let body = setting.allocate_body u f op in
              let callable = allocate_in code setting.valid (length v) u f (type_inside k code n w o u fits.0 own.0 own.1.1) (setting.allocate u ∙ op) in
              subst goal (sym (user_is K n units f c l w o own.0 is))
              (subst (Gets 6 (allocator_steps m) s0 c p ks) (sym (called_is set n (call (OfSubprogram f actuals) v c shown w)))
              (both_to ask code (λ r w1. Told k code w (way_of r) w1) (Allocates k code w0) 0 3 6 (allocator_steps m) 6 (allocator_steps m) s0 c (returned_to after ks) (returned_to (AfterFunction None p) ks) (call (OfSubprogram f actuals) v c shown w) (after_allocate set n) (omega arith) (let enough = steps_enough m in omega (arith, enough)) (omega arith)
              (calls.runs f body.0 body.1 w v actuals after ks c shown w s0 Procedure storage_formals tt le (fits.0, keeps_itself k code w) callable (origin_nested k code o.origin w fits.0) (plain_actuals n units)
              (go ∙ enter_shows (slice_get code.entries.items f) (Allocate n units) v actuals after ks l w))
              (λ r c1 l1 w1 lo told1. after_runs set n x d place ks ops w may fits served r c1 l1 w1 (omega (arith, lo, le)) told1)))

      -- an exception in its step
      raise_runs : (e : ℕ) (p : Point) (ks : List Frame) (s0 : State) (c : ℕ) (l : Log) (w : World) → Since k code w0 w → step ask code s0 ≡ transferred (ByRaise e) ks l w → Gets 6 (allocator_steps m) s0 c p ks (Gives (Leaves (ByRaise e)) 0 c l w)
      raise_runs e p ks s0 c l w fits first = one_step_to ask code (Allocates k code w0) 5 6 6 (allocator_steps m) s0 (transferred (ByRaise e) ks l w) c c (returned_to (AfterFunction None p) ks) (Gives (Leaves (ByRaise e)) 0 c l w) (omega arith) (steps_enough m) (omega arith) (omega arith) first (raises 5 6 e p ks c l w fits)

      -- a use of what has ceased to exist
      gone_runs : (p : Point) (ks : List Frame) (s0 : State) (c : ℕ) (l : Log) (w : World) → step ask code s0 ≡ moved l (Table.gone ks w) → Gets 6 (allocator_steps m) s0 c p ks (Stops UseAfterFree 0 l)
      gone_runs p ks s0 c l w first = stop_step_to ask code (Allocates k code w0) 6 (allocator_steps m) s0 _ c 0 (returned_to (AfterFunction None p) ks) UseAfterFree l (let enough = steps_enough m in omega (arith, enough)) first refl refl

      -- from there, for a collection that stands
      granted_runs : (set : ℕ) (x : Collection) (g : Grant) (d : List ℕ) (place : ℕ) (ks : List Frame) (ops : List Word) (s0 : State) (c : ℕ) (l : Log) (w : World) → c ≤ bound → Stand d set x w → OnGrant (Stand d set x) g → OnGrant (Since k code w0) g → IsOwn k w g → Since k code w0 w → IsServed code m place → step ask code s0 ≡ moved l (grants m set g ops (here d place ks w))
          → Gets 6 (allocator_steps m) s0 c (point_at d (behind_allocator place) ops) ks (bind (bind (gives_place K units g c l w) (on_goes (makes set))) (on_goes completed))
      unfolding opened_outcome
      granted_runs set x (Granted at1 w1) d place ks ops s0 c l w le may may1 fits1 own fits served first =
          subst (λ o. Gets 6 (allocator_steps m) s0 c (point_at d (place + 1 + 1) ops) ks (bind o (on_goes completed))) (sym (add_none (makes set at1 c l w1)))
          (created_runs set x at1 (point_at d (place + 1 + 1) ops) ks s0 c c l w1 le (omega arith) (omega arith) fits1 m plain may1 (first ∙ granted_is m set at1 w1 d place ks ops l w))
      granted_runs set x Exhausted d place ks ops s0 c l w le may may1 fits1 own fits served first = raise_runs storage_error (point_at d (place + 1 + 1) ops) ks s0 c l w fits (first ∙ exhausted_is m set d place ks ops l w)
      granted_runs set x UnknownPool d place ks ops s0 c l w le may may1 fits1 own fits served first = gone_runs (point_at d (place + 1 + 1) ops) ks s0 c l w (first ∙ unknown_is m set d place ks ops l w)
      granted_runs set x (AllocateOf o f) d place ks ops s0 c l w le may may1 fits1 own fits served first =
          user_runs set x o f d place ks ops s0 c l w le may fits own served
          (first ∙ asked_is m set o f d place ks ops l w ∙ ap (λ i. moved l (Table.call_allocate code i set o f (kept_over m ops) (here d place ks w))) units_are)

      -- for this collection, if there is one
      set_runs : (pool : Option Var) (set : ℕ) (o : Option Collection) (d : List ℕ) (place : ℕ) (ks : List Frame) (ops : List Word) (s0 : State) (c : ℕ) (l : Log) (w : World) → c ≤ bound → collection_at set w.ledger ≡ o → ((x : Collection) → o ≡ Some x → MayLie code (length (home x.master w.activations)) (made_type m) × IsMadeAmong (home x.master w.activations) d w) → Since k code w0 w → IsServed code m place → step ask code s0 ≡ moved l (by_allocator code m pool o ops (here d place ks w))
          → Gets 6 (allocator_steps m) s0 c (point_at d (behind_allocator place) ops) ks (for_set K (made_type m) (made_value m) set d pool o c l w)
      unfolding refuses opened_outcome opened_names in_pools
      set_runs pool set None d place ks ops s0 c l w le is may fits served first = gone_runs (point_at d (behind_allocator place) ops) ks s0 c l w (first ∙ no_set m pool ops (here d place ks w) l)
      set_runs pool set (Some x) d place ks ops s0 c l w le is may fits served first =
          subst (λ b. Gets 6 (allocator_steps m) s0 c p ks (bind (either (b && x.started) (raise program_error) (storage K d pool None units >>= makes set) c l w) (on_goes completed))) (sym (part_alike ask k code setting call default defaults.constants bound calls (made_type m) plain))
          (by (is_refused code (made_type m) x) (first ∙ this_set m pool x ops (here d place ks w) l))
        where
          p : Point
          p = point_at d (behind_allocator place) ops

          number : x.number ≡ set
          number = found_number set w x is

          by : (b : Bool) → step ask code s0 ≡ moved l (if b then Table.transfers (ByRaise program_error) ks w else grants m x.number (grant code pool d (units_for code (made_type m)) w) ops (here d place ks w)) → Gets 6 (allocator_steps m) s0 c p ks (bind (either b (raise program_error) (storage K d pool None units >>= makes set) c l w) (on_goes completed))
          by true go = raise_runs program_error p ks s0 c l w fits go
          by false go =
              subst (λ o. Gets 6 (allocator_steps m) s0 c p ks (bind (bind o (on_goes (makes set))) (on_goes completed))) (sym (storage_is ask k code setting call default pool d units c l w fits.0))
              (granted_runs set x (grant code pool d units w) d place ks ops s0 c l w le (is, (may x refl).0, (may x refl).1)
              (granted_keeps (Stand d set x) (λ n v h. h) code pool d units w (is, (may x refl).0, (may x refl).1))
              (since_granted k code pool d units w0 w fits) (own_granted k code setting pool d units w) fits served
              (go ∙ ap (λ i. moved l (grants m x.number (grant code pool d i w) ops (here d place ks w))) units_are ∙ ap (λ i. moved l (grants m i (grant code pool d units w) ops (here d place ks w))) number))

      -- an allocator, from its step
      pub allocator_runs : (access : ℕ) → slice_get code.accesses.items access ≡ option_map home_of (slice_get k.accesses access)
          → (d : List ℕ) (place : ℕ) (ks : List Frame) (ops : List Word) (s0 : State) (c : ℕ) (l : Log) (w : World) → c ≤ bound → Since k code w0 w → MayAllocate code access (made_type m) d w → IsServed code m place → step ask code s0 ≡ moved l (by_allocator code m (pool_in (slice_get code.accesses.items access)) (set_seen (slice_get code.accesses.items access) d w) ops (here d place ks w))
          → Gets 6 (allocator_steps m) s0 c (point_at d (behind_allocator place) ops) ks (bind (allocate K d access (made_type m) None (made_value m) c l w) (on_goes completed))
      allocator_runs access named d place ks ops s0 c l w le fits may served first = by (slice_get k.accesses access) refl
        where
          p : Point
          p = point_at d (behind_allocator place) ops

          -- its step, where this is its access type
          from : (o : Option AccessType) → slice_get k.accesses access ≡ o → step ask code s0 ≡ moved l (by_allocator code m (pool_in (option_map home_of o)) (set_seen (option_map home_of o) d w) ops (here d place ks w))
          from o found = first ∙ ap (λ y. moved l (by_allocator code m (pool_in y) (set_seen y d w) ops (here d place ks w))) (named ∙ ap (option_map home_of) found)

          by : (o : Option AccessType) → slice_get k.accesses access ≡ o → Gets 6 (allocator_steps m) s0 c p ks (bind (allocate K d access (made_type m) None (made_value m) c l w) (on_goes completed))
          by None found =
              subst (Gets 6 (allocator_steps m) s0 c p ks) (sym (allocate_none m d access found c l w))
              (gone_runs p ks s0 c l w (from None found ∙ no_set m None ops (here d place ks w) l))
          by (Some a) found =
              subst (Gets 6 (allocator_steps m) s0 c p ks) (sym (allocate_is m d access a found c l w))
              (set_runs a.pool (set_number d a.collection w) (set_seen (Some (home_of a)) d w) d place ks ops s0 c l w le refl (λ x is. may x (ap (λ o. set_seen o d w) (named ∙ ap (option_map home_of) found) ∙ is)) fits served (from (Some a) found))

    -- An allocator whose object takes a value ---------------------------------------------------------------

    -- behind the object that takes it
    abbrev behind_value : List ℕ → ℕ → List Word → Point
    behind_value d place ops = point_at d (behind_allocator place + 1) ops

    -- the step in which it does, where it is there
    takes_value : (of : Ty) (x : ℕ) (d : List ℕ) (place : ℕ) (ks : List Frame) (ops : List Word) → IsGiven code of place → (r : Result Returned) (c : ℕ) (l : Log) (w : World) → Allocates k code w0 r w → Gets 1 3 (returned_to (AfterFunction None (point_at d (behind_allocator place) (Scalar x ∷ ops))) ks r l w) c (behind_value d place ops) ks (on_goes (takes (x ∷ [])) r c l w)
    unfolding write_part existing gone opened_outcome
    takes_value of x d place ks ops (served, (ty, top, there)) (Goes r) c l w h = by (object_at n w) (by_code ask code d (behind_allocator place) ks (Scalar n ∷ Scalar x ∷ ops) l w (InstrOf.GiveValue of ty top) there)
      where
        n : ℕ
        n = scalar_of r.cells

        next : Result Returned → Log → World → State
        next = returned_to (AfterFunction None (behind_value d place ops)) ks

        s1 : State
        s1 = at d (behind_allocator place) ks (Scalar n ∷ Scalar x ∷ ops) l w

        by : (o : Option Object) → step ask code s1 ≡ moved l (Table.stored n 0 x o (Scalar n ∷ ops) (here d (behind_allocator place) ks w)) → Gets 1 3 s1 c (behind_value d place ops) ks (bind (on_some o gone (λ y. change (write_cells n 0 (x ∷ []))) c l w) (on_goes (λ _. done r)))
        by None go = stop_step_to ask code (Allocates k code w0) 1 3 s1 _ c 0 next UseAfterFree l (omega arith) go refl refl
        by (Some o) go = last_step_to ask code (Allocates k code w0) 1 3 s1 c 0 next (Goes r) l (write_cells n 0 (x ∷ []) w) (omega arith) (h.0, since_written k code n 0 (x ∷ []) w0 w h.1) go
    takes_value of x d place ks ops given (Leaves y) c l w h = by_raise (λ z. Gets 1 3 (transferred z ks l w) c (behind_value d place ops) ks (Gives (Leaves z) 0 c l w)) (λ e. raises 1 3 e (behind_value d place ops) ks c l w h.1) y h.0

    -- from the allocator's step, over the value
    pub giver_runs : (access : ℕ) → slice_get code.accesses.items access ≡ option_map home_of (slice_get k.accesses access)
        → (of : Ty) → IsScalar of → (x : ℕ) (d : List ℕ) (place : ℕ) (ks : List Frame) (ops : List Word) (s0 : State) (c : ℕ) (l : Log) (w : World) → c ≤ bound → Since k code w0 w → MayAllocate code access of d w → IsGiven code of place → step ask code s0 ≡ moved l (by_new code of (pool_in (slice_get code.accesses.items access)) (set_seen (slice_get code.accesses.items access) d w) (Scalar x ∷ ops) (here d place ks w))
        → Gets 7 9 s0 c (behind_value d place ops) ks (bind (allocate K d access of None (Some (x ∷ [])) c l w) (on_goes completed))
    giver_runs access named of scalar x d place ks ops s0 c l w le fits may given first =
        let mid = point_at d (behind_allocator place) (Scalar x ∷ ops) in
        subst (Gets 7 9 s0 c (behind_value d place ops) ks) (sym (given_is K of scalar (x ∷ []) d access c l w))
        (both_to ask code (Allocates k code w0) (Allocates k code w0) 6 7 1 3 7 9 s0 c (returned_to (AfterFunction None mid) ks) (returned_to (AfterFunction None (behind_value d place ops)) ks) (bind (allocate K d access of None None c l w) (on_goes completed)) (on_goes (takes (x ∷ []))) (omega arith) (omega arith) (omega arith)
        (allocator_runs (ByDefault of) (scalar_plain k of scalar) access named d place ks (Scalar x ∷ ops) s0 c l w le fits may given.0 first)
        (λ r c1 l1 w1 lo h. takes_value of x d place ks ops given r c1 l1 w1 h))
