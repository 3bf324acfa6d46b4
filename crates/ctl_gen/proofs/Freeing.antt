-- Unchecked_Deallocation: the code frees the object that an access value designates as the program means it (13.11.2). The value is read once;
-- what held it becomes null behind the finalization, and then the object is gone and its storage given back, by the Deallocate that the user wrote
-- for the type of its pool, or by the library's (13.11).
use Rattle.std.proofs.Common.{◌≡◌, ℕ, zero, suc, ◌+◌, ◌≤◌, List, [], ◌∷◌, length, Option, Some, None, Bool, true, false, refl, sym, ap, ◌∙◌, subst, arith, length-append}
use Rattle.std.specs.Prelude.{slice_get, nat_eq, not, ◌&&◌, if◌then◌else◌, option_map}
use Rattle.std.proofs.lemmas.Bool.{eqb-true, ne_eqb}
use Rattle.ctl_program.specs.declared.types.Ty.{Ty}
use Rattle.ctl_program.specs.declared.types.Ty.TheVariants.{Integer, Count, Boolean, Address, Handle, Access, Record}
use Rattle.ctl_program.specs.declared.operators.SubprogramKind.TheVariants.{Procedure}
use Rattle.ctl_program.specs.declared.types.AccessType.{AccessType}
use Rattle.ctl_program.specs.declared.types.Var.{Var}
use Rattle.ctl_program.specs.declared.expression.Step.{Step}
use Rattle.ctl_tree.specs.declared.ending.Stop.{Stop}
use Rattle.ctl_tree.specs.declared.ending.Stop.TheVariants.{UseAfterFree, FreeWhileFinalizing, ForeignFree, BadAddress}
use Rattle.ctl_tree.specs.declared.event.Cause.TheVariants as CauseOf
use Rattle.ctl_tree.specs.declared.event.Event.TheVariants.{Deallocate}
use Rattle.ctl_meaning.specs.World.{Standard, InBlock, InSubpool, Origin, Declared, Allocated, BlockPool, Object, Log, World}
use Rattle.ctl_meaning.specs.Lists.{opened_lists}
use Rattle.ctl_meaning.specs.Activations.{master_of}
use Rattle.ctl_meaning.specs.Objects.{cells_at, first_cells, is_untouched, is_finalizing, is_of_set, object_in}
use Rattle.ctl_meaning.specs.Changes.{home_of, in_pools, is_vacant, object_at, forget, set_value, slot_at, write_cells}
use Rattle.ctl_meaning.specs.Pools.{block_at, block_pool_at, give_block}
use Rattle.ctl_meaning.specs.Choice.{Ask, picked}
use Rattle.ctl_meaning.specs.Members.{member_of, is_due}
use Rattle.ctl_meaning.specs.Outcome.{program_error, ByRaise, Result, Goes, Leaves, Out, Gives, Stops, Act, Done, add, bind, on_goes, ◌>>=◌, ◌>>◌, done, nothing, stop, counted, ticked, look, change, show, tell, either, on_some, opened_outcome}
use Rattle.ctl_meaning.specs.Types.{Tables, has_controlled, of_record, operation, operation_for, size_of}
use Rattle.ctl_meaning.specs.Names.{Found, Call, Default, Tools, existing, gone, on_variable, read_found, read_part, scalar_of, write_found, write_part, OfSubprogram, opened_names}
use Rattle.ctl_meaning.specs.Names as Names
use Rattle.ctl_meaning.specs.Finalization.{Spot, finalize_object, with_home}
use Rattle.ctl_meaning.specs.Storage.{give_back, library_deallocate, program_error_if, storage_actuals, with_block_pool}
use Rattle.ctl_meaning.specs.Allocation.{finalize_unfinalized, free, free_object, free_value, freed, returns_storage, set_in, with_set}
use Rattle.ctl_code.specs.declared.code.Code.{Code}
use Rattle.ctl_code.specs.declared.code.Instr.TheVariants as InstrOf
use Rattle.ctl_code.specs.declared.code.Way.TheVariants as WayOf
use Rattle.ctl_code.specs.declared.kinds.Kind.TheVariants.{Operand}
use Rattle.ctl_code.specs.States.{AfterProcedure, Word, Located, Cells, Point, Nulled, NullVariable, NullPart, Frame, Freeing, State}
use Rattle.ctl_code.specs.Table as Table
use Rattle.ctl_code.specs.Table.{GivenBack, Returned, NotReturned, behind_free, by_free, by_free_part, component_of, enter_body, finalize_freed, finalize_typed, free_member, freed_by, freed_in, freed_part, has_part_in, object_return, out_of, own_return, pool_return, return_to, storage_of, units_for}
use Rattle.ctl_code.specs.Steps.{moved, step}
use Rattle.ctl_layout.specs.Around.{Line, out_to}
use Rattle.ctl_layout.specs.Parts.{Start, are_followed, located_code}
use Rattle.ctl_code.proofs.Storage.{OnReturn}
use Rattle.ctl_layout.specs.Layout.{failed_code, free_part_code, home_of as home_in}
use Rattle.ctl_gen.proofs.Known.{IsPlainType, both_true}
use Rattle.ctl_gen.proofs.Each.{Each, IfFound, found_passes}
use Rattle.ctl_gen.proofs.Worlds.{IsPlainSlot, Settled, Since, Kept, object_fits, origin_nested, since_forget, since_to_pool, since_value, since_written}
use Rattle.ctl_gen.proofs.Scopes.{deallocate_in, type_inside}
use Rattle.ctl_gen.proofs.Parted.{GivesDefaults}
use Rattle.ctl_gen.proofs.Setting.{Setting, Calls, Sure, Told, enter_shows, returned_to, seen, tools_with}
use Rattle.ctl_gen.proofs.Place.{laid_front, laid_back}
use Rattle.ctl_gen.proofs.Cells.{by_code, cell_is, here, out_is, value_of}
use Rattle.ctl_gen.proofs.Parts.{Agree, OfCells, OfObject, RecordOperand, find_by, found_at, word}
use Rattle.ctl_gen.proofs.LastSteps.{Ends, Last, last_found}
use Rattle.ctl_gen.proofs.Begun.{Starts, located_then}
use Rattle.ctl_gen.proofs.Expressions.{Uses}
use Rattle.ctl_gen.proofs.FinalizedParts.{heard, tells}
use Rattle.ctl_gen.proofs.Finalize.{part_alike, typed_runs}
use Rattle.ctl_gen.proofs.Storage.{units_alike}
use Rattle.ctl_gen.proofs.Does.{Does}
use Rattle.ctl_gen.proofs.Follow.{Runs, Target, added, arrives, at, bind_add, bind_bind, both, by_raise, lands, last_step, no_step, stop_step, transferred, way_of}

-- What it means ---------------------------------------------------------------------------------------

-- what becomes null, as the meaning names it where a display is seen
abbrev place_of : List ℕ → Nulled → Found
place_of d (NullVariable out slot) = Names.InVariable (out_of d out) slot
place_of d (NullPart s) = found_at (OfObject s)

-- the library's Deallocate: the pool takes the block back, or the program is erroneous (13.11)
pub data TakesBack (n a c : ℕ) (l : Log) (w : World) : Type 0 where
  Back : (v : World) (run : pool_return n a (block_pool_at n w.pools) w ≡ Returned v) (meant : library_deallocate n a c l w ≡ Gives (Goes tt) 0 c l v) → TakesBack n a c l w
  NotBack : (why : Stop) (run : pool_return n a (block_pool_at n w.pools) w ≡ NotReturned why) (meant : library_deallocate n a c l w ≡ Stops why 0 l) → TakesBack n a c l w

pub takes_back : (n a c : ℕ) (l : Log) (w : World) → TakesBack n a c l w
unfolding library_deallocate with_block_pool opened_names opened_outcome
takes_back n a c l w = by (block_pool_at n w.pools) refl
  where
    -- what is meant, with a pool that is open or not
    with_pool : BlockPool → Bool → Act Done
    with_pool p opened = either opened (look (λ v. either (is_vacant v (block_at a p)) (change (in_pools (give_block n a))) (stop BadAddress))) gone

    -- what the machine does with it, and with a block that is vacant or not
    run_of : Bool → Bool → GivenBack
    run_of opened vacant = if not opened then NotReturned UseAfterFree else if vacant then Returned (in_pools (give_block n a) w) else NotReturned BadAddress

    meant_is : (p : Option BlockPool) → block_pool_at n w.pools ≡ p → library_deallocate n a c l w ≡ on_some p gone (λ x. with_pool x x.is_open) c l w
    meant_is p there = ap (λ x. on_some x gone (λ y. with_pool y y.is_open) c l w) there

    run_is : (p : Option BlockPool) → block_pool_at n w.pools ≡ p → pool_return n a (block_pool_at n w.pools) w ≡ pool_return n a p w
    run_is p there = ap (λ x. pool_return n a x w) there

    vacated : (p : BlockPool) → pool_return n a (block_pool_at n w.pools) w ≡ run_of true (is_vacant w (block_at a p)) → library_deallocate n a c l w ≡ either (is_vacant w (block_at a p)) (change (in_pools (give_block n a))) (stop BadAddress) c l w → (vacant : Bool) → is_vacant w (block_at a p) ≡ vacant → TakesBack n a c l w
    vacated p run meant true is = Back (in_pools (give_block n a) w) (run ∙ ap (run_of true) is) (meant ∙ ap (λ b. either b (change (in_pools (give_block n a))) (stop BadAddress) c l w) is)
    vacated p run meant false is = NotBack BadAddress (run ∙ ap (run_of true) is) (meant ∙ ap (λ b. either b (change (in_pools (give_block n a))) (stop BadAddress) c l w) is)

    opened_or : (p : BlockPool) → pool_return n a (block_pool_at n w.pools) w ≡ run_of p.is_open (is_vacant w (block_at a p)) → library_deallocate n a c l w ≡ with_pool p p.is_open c l w → (opened : Bool) → p.is_open ≡ opened → TakesBack n a c l w
    opened_or p run meant false is = NotBack UseAfterFree (run ∙ ap (λ b. run_of b (is_vacant w (block_at a p))) is) (meant ∙ ap (λ b. with_pool p b c l w) is)
    opened_or p run meant true is = vacated p (run ∙ ap (λ b. run_of b (is_vacant w (block_at a p))) is) (meant ∙ ap (λ b. with_pool p b c l w) is) (is_vacant w (block_at a p)) refl

    by : (p : Option BlockPool) → block_pool_at n w.pools ≡ p → TakesBack n a c l w
    by None there = NotBack UseAfterFree (run_is None there) (meant_is None there)
    by (Some p) there = opened_or p (run_is (Some p) there) (meant_is (Some p) there) p.is_open refl

-- the instruction behind one that frees an object raises Program_Error: for where a Finalize failed
abbrev Raises : Code → ℕ → Type 0
Raises code place = slice_get code.instructions.items place ≡ Some (InstrOf.Transfer (WayOf.Raise program_error))

-- behind what gives storage back
abbrev behind_it : Point → List Frame → Result Done → Log → World → State
behind_it p ks (Goes u) l w = at p.display p.place ks p.operands l w
behind_it p ks (Leaves y) l w = transferred y ks l w

-- an object is gone and its storage given back, behind the place that has become null
abbrev vanishes : Tools → Object → Bool → Act Done
vanishes K o failed c l w = bind (add 1 (returns_storage K o.ty o.origin c l (forget o.number w))) (on_goes (λ _. program_error_if failed))

-- an object whose value was in a variable
variable_freed : (K : Tools) (m i : ℕ) (o : Object) (failed : Bool) (c : ℕ) (l : Log) (w : World) → freed K (Names.InVariable m i) o failed c l w ≡ vanishes K o failed c l (set_value m i 0 w)
unfolding freed write_found scalar_of opened_lists opened_outcome
variable_freed K m i o failed c l w = refl

-- or in a component, whose object may be gone by then
abbrev part_vanishes : Tools → Spot → Object → Bool → Option Object → Act Done
part_vanishes K s o failed None c l w = Stops UseAfterFree 0 l
part_vanishes K s o failed (Some x) c l w = vanishes K o failed c l (write_cells s.object s.offset (0 ∷ []) w)

part_freed : (K : Tools) (s : Spot) (o : Object) (failed : Bool) (c : ℕ) (l : Log) (w : World) → freed K (found_at (OfObject s)) o failed c l w ≡ part_vanishes K s o failed (object_at s.object w) c l w
unfolding freed write_found write_part existing gone opened_outcome
part_freed K s o failed c l w = by (object_at s.object w)
  where
    by : (x : Option Object) → bind (bind (bind (on_some x gone (λ y. change (write_cells s.object s.offset (0 ∷ []))) c l w) (on_goes (λ _. counted 1 (change (forget o.number))))) (on_goes (λ _. returns_storage K o.ty o.origin))) (on_goes (λ _. program_error_if failed)) ≡ part_vanishes K s o failed x c l w
    by None = refl
    by (Some x) = refl

-- what an access value designates, which is to exist, where the collection of its type is seen
abbrev designated_freed : Tools → List ℕ → ℕ → Found → ℕ → Act Done
designated_freed K d access place n = existing n (λ o. on_some (slice_get K.tables.accesses access) gone (λ a. with_set d a (λ set. free_object K place set o)))

-- a value that is not null
designated_is : (K : Tools) (d : List ℕ) (access n : ℕ) (place : Found) (c : ℕ) (l : Log) (w : World) → free_value K d access place (suc n) c l w ≡ designated_freed K d access place (suc n) c l w
unfolding free_value opened_outcome
designated_is K d access n place c l w = ap (λ b. either b nothing (designated_freed K d access place (suc n)) c l w) (ne_eqb (suc n) 0 (λ e. absurd (cc e)))

value_freed : (K : Tools) (d : List ℕ) (access n : ℕ) (place : Found) (c : ℕ) (l : Log) (w : World) (o : Object) (a : AccessType) → object_at (suc n) w ≡ Some o → slice_get K.tables.accesses access ≡ Some a → free_value K d access place (suc n) c l w ≡ free_object K place (set_in (slot_at (master_of d a.collection) a.collection.slot w).content) o c l w
unfolding with_set existing opened_outcome
value_freed K d access n place c l w o a there found =
    designated_is K d access n place c l w
    ∙ ap (λ x. on_some x gone (λ y. on_some (slice_get K.tables.accesses access) gone (λ b. look (λ w1. free_object K place (set_in (slot_at (master_of d b.collection) b.collection.slot w1).content) y))) c l w) there
    ∙ ap (λ x. on_some x gone (λ b. look (λ w1. free_object K place (set_in (slot_at (master_of d b.collection) b.collection.slot w1).content) o)) c l w) found

value_gone : (K : Tools) (d : List ℕ) (access n : ℕ) (place : Found) (c : ℕ) (l : Log) (w : World) → object_at (suc n) w ≡ None → free_value K d access place (suc n) c l w ≡ Stops UseAfterFree 0 l
unfolding existing gone opened_outcome
value_gone K d access n place c l w there =
    designated_is K d access n place c l w
    ∙ ap (λ x. on_some x gone (λ y. on_some (slice_get K.tables.accesses access) gone (λ a. with_set d a (λ set. free_object K place set y))) c l w) there

value_unseen : (K : Tools) (d : List ℕ) (access n : ℕ) (place : Found) (c : ℕ) (l : Log) (w : World) (o : Object) → object_at (suc n) w ≡ Some o → slice_get K.tables.accesses access ≡ None → free_value K d access place (suc n) c l w ≡ Stops UseAfterFree 0 l
unfolding existing gone opened_outcome
value_unseen K d access n place c l w o there found =
    designated_is K d access n place c l w
    ∙ ap (λ x. on_some x gone (λ y. on_some (slice_get K.tables.accesses access) gone (λ a. with_set d a (λ set. free_object K place set y))) c l w) there
    ∙ ap (λ x. on_some x gone (λ a. with_set d a (λ set. free_object K place set o)) c l w) found

-- What the code does ------------------------------------------------------------------------------------

module _ (ask : Ask) (k : Tables) (code : Code) (setting : Setting k code) (call : Call) (default : Default) (constants : GivesDefaults k default) (bound : ℕ) (calls : Calls ask k code setting bound call) where
  abbrev K : Tools
  K = tools_with ask k call default

  -- since an earlier world
  module _ (w0 : World) where
    -- an object that is there belongs to a master, and is found by its own number
    settled_there : (n : ℕ) (w : World) (o : Object) → Since k code w0 w → object_at n w ≡ Some o → Settled k code w.ledger.next_master w.activations w.ledger.collections o
    settled_there n w o fits there = subst (IfFound (Settled k code w.ledger.next_master w.activations w.ledger.collections)) there (object_fits k code n w fits.0)

    number_is : (n : ℕ) (w : World) (o : Object) → object_at n w ≡ Some o → o.number ≡ n
    unfolding object_at object_in
    number_is n w o there = eqb-true o.number n (found_passes (λ x. nat_eq x.number n) w.objects o there)

    found_itself : (n : ℕ) (w : World) (o : Object) → object_at n w ≡ Some o → object_at o.number w ≡ Some o
    found_itself n w o there = ap (λ i. object_at i w) (number_is n w o there) ∙ there

    -- Storage goes back (13.11) -----------------------------------------------------------------------

    -- the Deallocate that the user wrote is shown and called for a pool
    abbrev deallocates : ℕ → ℕ → ℕ → ℕ → Act Done
    deallocates n a size f = show (Deallocate n size) >> with_home n (λ d. K.call (OfSubprogram f (storage_actuals n a size)) d) >> nothing

    -- that exists
    deallocates_is : (n a size f c : ℕ) (l : Log) (w : World) (o : Object) → object_at n w ≡ Some o → deallocates n a size f c l w ≡ bind (add 0 (call (OfSubprogram f (storage_actuals n a size)) (home_of o.origin w) c (tell (Deallocate n size) l) w)) (on_goes (λ _. nothing))
    unfolding with_home existing opened_outcome
    deallocates_is n a size f c l w o there = ap (λ x. bind (add 0 (on_some x gone (λ y. look (λ v. call (OfSubprogram f (storage_actuals n a size)) (home_of y.origin v))) c (tell (Deallocate n size) l) w)) (on_goes (λ _. nothing))) there

    -- what it takes holds no collection
    storage_plain : (n a size : ℕ) → Each IsPlainSlot (storage_actuals n a size)
    unfolding storage_actuals
    storage_plain n a size = (tt, (tt, (tt, (tt, tt))))

    abbrev GivesBack : State → ℕ → Point → List Frame → Out Done → Type 0
    GivesBack s0 c p ks o = Runs ask code (Told k code w0) 2 3 s0 c (behind_it p ks) o

    -- from the step that enters its body
    user_runs : (n a size f t : ℕ) (o : Object) (p : Point) (ks : List Frame) (s0 : State) (c : ℕ) (l : Log) (w : World) → c ≤ bound → Since k code w0 w → object_at n w ≡ Some o → o.ty ≡ Record t → operation (λ x. x.deallocate) k t ≡ Some f → step ask code s0 ≡ moved l (enter_body (slice_get code.entries.items f) (Deallocate n size ∷ []) (home_of o.origin w) (storage_actuals n a size) (AfterProcedure 0 p) ks w) → GivesBack s0 c p ks (deallocates n a size f c l w)
    unfolding picked opened_outcome
    user_runs n a size f t o p ks s0 c l w le fits there ty op first =
        let v = home_of o.origin w in
        let slots = storage_actuals n a size in
        let body = setting.deallocate_body t f op in
        let callable = deallocate_in code setting.valid (length v) t f (type_inside k code n w o t fits.0 there ty) (setting.deallocate t ∙ op) in
        subst (GivesBack s0 c p ks) (sym (deallocates_is n a size f c l w o there))
        (both ask code (Told k code w0) (Told k code w0) 2 3 0 0 2 3 s0 c (returned_to (AfterProcedure 0 p) ks) (behind_it p ks) (add 0 (call (OfSubprogram f slots) v c (tell (Deallocate n size) l) w)) (on_goes (λ _. nothing)) (omega arith) (omega arith) (omega arith)
        (added ask code (Told k code w0) 0 _ _ 2 3 s0 c (returned_to (AfterProcedure 0 p) ks) _ (omega arith) (omega arith)
        (calls.runs f body.0 body.1 w0 v slots (AfterProcedure 0 p) ks c (tell (Deallocate n size) l) w s0 Procedure 4 tt le fits callable (origin_nested k code o.origin w fits.0) (storage_plain n a size)
        (first ∙ enter_shows (slice_get code.entries.items f) (Deallocate n size) v slots (AfterProcedure 0 p) ks l w)))
        over)
      where
        over : (r : Result Names.Returned) (c1 : ℕ) (l1 : Log) (w1 : World) → c1 ≤ c → Told k code w0 (way_of r) w1 → Runs ask code (Told k code w0) 0 0 (returned_to (AfterProcedure 0 p) ks r l1 w1) c1 (behind_it p ks) (on_goes (λ _. nothing) r c1 l1 w1)
        over (Goes x) c1 l1 w1 lo told1 = no_step ask code (Told k code w0) 0 0 _ c1 0 (behind_it p ks) (Goes tt) l1 w1 told1 refl
        over (Leaves y) c1 l1 w1 lo told1 = no_step ask code (Told k code w0) 0 0 _ c1 0 (behind_it p ks) (Leaves y) l1 w1 told1 refl

    -- the library's takes the block back, from the step that does it
    library_runs : (n a size : ℕ) (failed : Bool) (p : Point) (ks : List Frame) (s0 : State) (c : ℕ) (l : Log) (w : World) → Since k code w0 w → step ask code s0 ≡ moved l (freed_by code size failed (pool_return n a (block_pool_at n w.pools) w) p ks w) → GivesBack s0 c (behind_free failed p) ks (library_deallocate n a c l w)
    library_runs n a size failed p ks s0 c l w fits first = by (takes_back n a c l w)
      where
        by : TakesBack n a c l w → GivesBack s0 c (behind_free failed p) ks (library_deallocate n a c l w)
        by (Back v run meant) =
            subst (GivesBack s0 c (behind_free failed p) ks) (sym meant)
            (last_step ask code (Told k code w0) 2 3 s0 c 0 (behind_it (behind_free failed p) ks) (Goes tt) l v (omega arith)
            (tt, subst (OnReturn (Since k code w0)) run (since_to_pool k code n a (block_pool_at n w.pools) w0 w fits))
            (first ∙ ap (λ g. moved l (freed_by code size failed g p ks w)) run))
        by (NotBack why run meant) =
            subst (GivesBack s0 c (behind_free failed p) ks) (sym meant)
            (stop_step ask code (Told k code w0) 2 3 s0 _ c 0 (behind_it (behind_free failed p) ks) why l (omega arith) (first ∙ ap (λ g. moved l (freed_by code size failed g p ks w)) run) refl refl)

    -- to a pool: by the Deallocate that the user wrote, or else by the library's
    block_runs : (n a size : ℕ) (failed : Bool) (p : Point) (ks : List Frame) (s0 : State) (c : ℕ) (l : Log) (w : World) → c ≤ bound → Since k code w0 w → step ask code s0 ≡ moved l (freed_by code size failed (object_return code a (object_at n w) w) p ks w) → GivesBack s0 c (behind_free failed p) ks (give_back K n a size c l w)
    unfolding give_back existing gone of_record operation_for opened_outcome
    block_runs n a size failed p ks s0 c l w le fits first = by (object_at n w) refl first
      where
        q : Point
        q = behind_free failed p

        -- by the library's, where its type has no operation
        by_library : (o : Object) → object_at n w ≡ Some o → step ask code s0 ≡ moved l (freed_by code size failed (own_return None a o w) p ks w) → GivesBack s0 c (behind_free failed p) ks (library_deallocate n a c l w)
        by_library o there go = library_runs n a size failed p ks s0 c l w fits (go ∙ ap (λ i. moved l (freed_by code size failed (pool_return i a (block_pool_at i w.pools) w) p ks w)) (number_is n w o there))

        -- by the operation of its type, if there is one
        operated : (o : Object) → object_at n w ≡ Some o → (t : ℕ) → o.ty ≡ Record t → (f : Option ℕ) → operation (λ x. x.deallocate) k t ≡ f → step ask code s0 ≡ moved l (freed_by code size failed (own_return f a o w) p ks w) → GivesBack s0 c (behind_free failed p) ks (on_some f (library_deallocate n a) (deallocates n a size) c l w)
        operated o there t ty None op go = by_library o there go
        operated o there t ty (Some f) op go = user_runs n a size f t o q ks s0 c l w le fits there ty op (go ∙ ap (λ i. moved l (enter_body (slice_get code.entries.items f) (Deallocate i size ∷ []) (home_of o.origin w) (storage_actuals i a size) (AfterProcedure 0 q) ks w)) (number_is n w o there))

        typed : (o : Object) → object_at n w ≡ Some o → (ty : Ty) → o.ty ≡ ty → step ask code s0 ≡ moved l (freed_by code size failed (own_return (Table.operation_for (λ x. x.deallocate) code ty) a o w) p ks w) → GivesBack s0 c (behind_free failed p) ks (on_some (operation_for (λ x. x.deallocate) k ty) (library_deallocate n a) (deallocates n a size) c l w)
        typed o there (Record t) ty go = operated o there t ty (operation (λ x. x.deallocate) k t) refl (go ∙ ap (λ f. moved l (freed_by code size failed (own_return f a o w) p ks w)) (setting.deallocate t))
        typed o there Integer ty go = by_library o there go
        typed o there Boolean ty go = by_library o there go
        typed o there Count ty go = by_library o there go
        typed o there Address ty go = by_library o there go
        typed o there Handle ty go = by_library o there go
        typed o there (Access x) ty go = by_library o there go

        by : (y : Option Object) → object_at n w ≡ y → step ask code s0 ≡ moved l (freed_by code size failed (object_return code a y w) p ks w) → GivesBack s0 c (behind_free failed p) ks (on_some y gone (λ o. on_some (operation_for (λ x. x.deallocate) k o.ty) (library_deallocate n a) (deallocates n a size)) c l w)
        by None there go = stop_step ask code (Told k code w0) 2 3 s0 _ c 0 (behind_it (behind_free failed p) ks) UseAfterFree l (omega arith) go refl refl
        by (Some o) there go = typed o there o.ty refl go

    -- the storage of an object: nothing is given back to the standard pool
    storage_runs : (ty : Ty) (x : Origin) (failed : Bool) (p : Point) (ks : List Frame) (s0 : State) (c : ℕ) (l : Log) (w : World) → c ≤ bound → Since k code w0 w → step ask code s0 ≡ moved l (freed_by code (size_of k ty) failed (return_to code (storage_of x) w) p ks w) → GivesBack s0 c (behind_free failed p) ks (returns_storage K ty x c l w)
    unfolding returns_storage opened_outcome
    storage_runs ty (Declared m) failed p ks s0 c l w le fits first = last_step ask code (Told k code w0) 2 3 s0 c 0 (behind_it (behind_free failed p) ks) (Goes tt) l w (omega arith) (tt, fits) first
    storage_runs ty (Allocated set Standard) failed p ks s0 c l w le fits first = last_step ask code (Told k code w0) 2 3 s0 c 0 (behind_it (behind_free failed p) ks) (Goes tt) l w (omega arith) (tt, fits) first
    storage_runs ty (Allocated set (InBlock n a)) failed p ks s0 c l w le fits first = block_runs n a (size_of k ty) failed p ks s0 c l w le fits first
    storage_runs ty (Allocated set (InSubpool m)) failed p ks s0 c l w le fits first = last_step ask code (Told k code w0) 2 3 s0 c 0 (behind_it (behind_free failed p) ks) (Goes tt) l w (omega arith) (tt, fits) first

    -- An object is gone ----------------------------------------------------------------------------

    -- behind the instruction that frees an object, and the one that is for where a Finalize failed
    abbrev Frees : ℕ → ℕ → State → ℕ → Target → Point → List Frame → Out Done → Type 0
    Frees b h s c e p ks o = Runs ask code (Kept k code w0) b h s c (arrives e p.display (p.place + 1) ks p.operands) o

    -- behind its storage: Program_Error is raised where a Finalize failed, unless another exception goes on
    then_raises : (failed : Bool) (e : Target) (p : Point) (ks : List Frame) (c : ℕ) (r : Result Done) (l : Log) (w : World) → Raises code p.place → Told k code w0 (way_of r) w → Frees 1 1 (behind_it (behind_free failed p) ks r l w) c e p ks (on_goes (λ _. program_error_if failed) r c l w)
    unfolding program_error_if opened_outcome
    then_raises failed e p ks c (Leaves y) l w raises told =
        by_raise (λ v. Frees 1 1 (transferred v ks l w) c e p ks (Gives (Leaves v) 0 c l w))
        (λ x. no_step ask code (Kept k code w0) 1 1 _ c 0 (arrives e p.display (p.place + 1) ks p.operands) (Leaves (ByRaise x)) l w told.1 refl) y told.0
    then_raises true e p ks c (Goes u) l w raises told = last_step ask code (Kept k code w0) 1 1 _ c 0 (arrives e p.display (p.place + 1) ks p.operands) (Leaves (ByRaise program_error)) l w (omega arith) told.1 (by_code ask code p.display p.place ks p.operands l w (InstrOf.Transfer (WayOf.Raise program_error)) raises)
    then_raises false e p ks c (Goes u) l w raises told = no_step ask code (Kept k code w0) 1 1 _ c 0 (arrives e p.display (p.place + 1) ks p.operands) (Goes tt) l w told.1 refl

    -- from the step in which what held its value is null
    gone_runs : (o : Object) (failed : Bool) (e : Target) (p : Point) (ks : List Frame) (s0 : State) (c : ℕ) (l : Log) (w : World) → c ≤ bound → Since k code w0 w → IsPlainType k o.ty → Raises code p.place → step ask code s0 ≡ moved l (Table.freed code o.number (storage_of o.origin) (units_for code o.ty) failed p ks w) → Frees 1 3 s0 c e p ks (vanishes K o failed c l w)
    unfolding picked
    gone_runs o failed e p ks s0 c l w le fits plain raises first =
        let v = forget o.number w in
        let next : Result Done → Log → World → State = arrives e p.display (p.place + 1) ks p.operands in
        let units = units_alike k code setting o.ty plain in
        subst (Frees 1 3 s0 c e p ks) (sym (bind_add 1 (returns_storage K o.ty o.origin c l v) (on_goes (λ _. program_error_if failed))))
        (added ask code (Kept k code w0) 1 3 4 1 3 s0 c next _ (omega arith) (omega arith)
        (both ask code (Told k code w0) (Kept k code w0) 2 3 1 1 3 4 s0 c (behind_it (behind_free failed p) ks) next (returns_storage K o.ty o.origin c l v) (on_goes (λ _. program_error_if failed)) (omega arith) (omega arith) (omega arith)
        (storage_runs o.ty o.origin failed p ks s0 c l v le (since_forget k code o.number w0 w fits) (first ∙ ap (λ u. moved l (freed_by code u failed (return_to code (storage_of o.origin) v) p ks v)) units))
        (λ r c1 l1 w1 lo told. then_raises failed e p ks c1 r l1 w1 raises told)))

    -- what held its value becomes null before
    freed_runs : (nulled : Nulled) (o : Object) (failed : Bool) (e : Target) (p : Point) (ks : List Frame) (s0 : State) (c : ℕ) (l : Log) (w : World) → c ≤ bound → Since k code w0 w → IsPlainType k o.ty → Raises code p.place → step ask code s0 ≡ moved l (freed_in code nulled o.number (storage_of o.origin) (units_for code o.ty) failed p ks w) → Frees 1 3 s0 c e p ks (freed K (place_of p.display nulled) o failed c l w)
    freed_runs (NullVariable out slot) o failed e p ks s0 c l w le fits plain raises first =
        let m = out_of p.display out in
        subst (Frees 1 3 s0 c e p ks) (sym (variable_freed K m slot o failed c l w))
        (gone_runs o failed e p ks s0 c l (set_value m slot 0 w) le (since_value k code m slot 0 w0 w fits) plain raises first)
    freed_runs (NullPart s) o failed e p ks s0 c l w le fits plain raises first =
        subst (Frees 1 3 s0 c e p ks) (sym (part_freed K s o failed c l w)) (by (object_at s.object w) first)
      where
        by : (x : Option Object) → step ask code s0 ≡ moved l (freed_part code s o.number (storage_of o.origin) (units_for code o.ty) failed x p ks w) → Frees 1 3 s0 c e p ks (part_vanishes K s o failed x c l w)
        by None go = stop_step ask code (Kept k code w0) 1 3 s0 _ c 0 (arrives e p.display (p.place + 1) ks p.operands) UseAfterFree l (omega arith) go refl refl
        by (Some x) go = gone_runs o failed e p ks s0 c l (write_cells s.object s.offset (0 ∷ []) w) le (since_written k code s.object s.offset (0 ∷ []) w0 w fits) plain raises go

    -- both tables say alike what is not finalized yet
    due_alike : (o : Object) → has_controlled k o.ty ≡ has_part_in code o.ty → is_due k o ≡ (o.joined && (is_untouched o.state && has_part_in code o.ty))
    unfolding is_due
    due_alike o same = ap (λ b. o.joined && (is_untouched o.state && b)) same

    -- an object that is due is finalized before
    frees_due : (nulled : Nulled) (n : ℕ) (o : Object) (e : Target) (p : Point) (ks : List Frame) (s0 : State) (c : ℕ) (l : Log) (w : World) → c ≤ bound → Since k code w0 w → object_at n w ≡ Some o → Raises code p.place → step ask code s0 ≡ moved l (finalize_freed code nulled o p ks w) → Frees 4 4 s0 c e p ks ((finalize_unfinalized K o >>= freed K (place_of p.display nulled) o) c l w)
    unfolding picked finalize_unfinalized opened_outcome
    frees_due nulled n o e p ks s0 c l w le fits there raises first =
        subst goal (sym (due_alike o (part_alike ask k code setting call default constants bound calls o.ty settled.plain))) (by (o.joined && (is_untouched o.state && has_part_in code o.ty)) refl first)
      where
        settled : Settled k code w.ledger.next_master w.activations w.ledger.collections o
        settled = settled_there n w o fits there

        k1 : List Frame
        k1 = Freeing nulled o.number (storage_of o.origin) (units_for code o.ty) p ∷ ks

        goal : Bool → Type 0
        goal b = Frees 4 4 s0 c e p ks ((either b (finalize_object K CauseOf.Free (member_of o)) (done false) >>= freed K (place_of p.display nulled) o) c l w)

        after : (r : Result Bool) (c1 : ℕ) (l1 : Log) (w1 : World) → c1 ≤ c → Sure k code w0 (way_of r) w1 → Frees 1 3 (tells k1 r l1 w1) c1 e p ks (on_goes (freed K (place_of p.display nulled) o) r c1 l1 w1)
        after (Goes b) c1 l1 w1 lo sure = freed_runs nulled o b e p ks _ c1 l1 w1 (omega (arith, lo, le)) sure.1 settled.plain raises (ap (λ f. moved l1 (freed_in code nulled o.number (storage_of o.origin) (units_for code o.ty) f p ks w1)) (heard b))
        after (Leaves y) c1 l1 w1 lo sure = absurd sure.0

        by : (b : Bool) → (o.joined && (is_untouched o.state && has_part_in code o.ty)) ≡ b → step ask code s0 ≡ moved l (if b then finalize_typed code CauseOf.Free o.number o.ty k1 w else freed_in code nulled o.number (storage_of o.origin) (units_for code o.ty) false p ks w) → goal b
        by true is go =
            both ask code (Sure k code w0) (Kept k code w0) 1 1 1 3 4 4 s0 c (tells k1) (arrives e p.display (p.place + 1) ks p.operands) (finalize_object K CauseOf.Free (member_of o) c l w) (on_goes (freed K (place_of p.display nulled) o)) (omega arith) (omega arith) (omega arith)
            (typed_runs ask k code setting call default constants bound calls CauseOf.Free (λ m v. refl) (λ y sure. sure) o w0 k1 c l w s0 le fits (found_itself n w o there) settled.plain (both_true _ _ (both_true _ _ is).1).1 go)
            after
        by false is go =
            added ask code (Kept k code w0) 0 1 3 4 4 s0 c (arrives e p.display (p.place + 1) ks p.operands) (freed K (place_of p.display nulled) o false c l w) (omega arith) (omega arith)
            (freed_runs nulled o false e p ks s0 c l w le fits settled.plain raises go)

    -- an object of this collection, unless it is being finalized
    frees_member : (nulled : Nulled) (set n : ℕ) (o : Object) (e : Target) (p : Point) (ks : List Frame) (s0 : State) (c : ℕ) (l : Log) (w : World) → c ≤ bound → Since k code w0 w → object_at n w ≡ Some o → Raises code p.place → step ask code s0 ≡ moved l (free_member code nulled set o p ks w) → Frees 4 4 s0 c e p ks (free_object K (place_of p.display nulled) set o c l w)
    unfolding free_object opened_outcome
    frees_member nulled set n o e p ks s0 c l w le fits there raises first = foreign (not (is_of_set set o.origin)) first
      where
        frees : Act Done
        frees = finalize_unfinalized K o >>= freed K (place_of p.display nulled) o

        finalizing : (b : Bool) → step ask code s0 ≡ moved l (if b then Table.stopped FreeWhileFinalizing ks w else finalize_freed code nulled o p ks w) → Frees 4 4 s0 c e p ks (either b (stop FreeWhileFinalizing) frees c l w)
        finalizing true go = stop_step ask code (Kept k code w0) 4 4 s0 _ c 0 (arrives e p.display (p.place + 1) ks p.operands) FreeWhileFinalizing l (omega arith) go refl refl
        finalizing false go = frees_due nulled n o e p ks s0 c l w le fits there raises go

        foreign : (b : Bool) → step ask code s0 ≡ moved l (if b then Table.stopped ForeignFree ks w else if is_finalizing o.state then Table.stopped FreeWhileFinalizing ks w else finalize_freed code nulled o p ks w) → Frees 4 4 s0 c e p ks (either b (stop ForeignFree) (either (is_finalizing o.state) (stop FreeWhileFinalizing) frees) c l w)
        foreign true go = stop_step ask code (Kept k code w0) 4 4 s0 _ c 0 (arrives e p.display (p.place + 1) ks p.operands) ForeignFree l (omega arith) go refl refl
        foreign false go = finalizing (is_finalizing o.state) go

    -- what an access value designates, from the step that frees it; null designates nothing
    value_frees : (nulled : Nulled) (access n : ℕ) (e : Target) (d : List ℕ) (place : ℕ) (ks : List Frame) (ops : List Word) (s0 : State) (c : ℕ) (l : Log) (w : World) → c ≤ bound → Since k code w0 w → Raises code (place + 1) → step ask code s0 ≡ moved l (by_free code nulled (slice_get code.accesses.items access) n ops (here d place ks w)) → Runs ask code (Kept k code w0) 4 4 s0 c (arrives e d (place + 1 + 1) ks ops) (free_value K d access (place_of d nulled) n c l w)
    unfolding free_value opened_outcome
    value_frees nulled access zero e d place ks ops s0 c l w le fits raises first = last_step ask code (Kept k code w0) 4 4 s0 c 0 (arrives e d (place + 1 + 1) ks ops) (Goes tt) l w (omega arith) fits first
    value_frees nulled access (suc n) e d place ks ops s0 c l w le fits raises first = by (object_at (suc n) w) (slice_get k.accesses access) refl refl (first ∙ ap (λ v. moved l (Table.free_object code nulled v (object_at (suc n) w) ops (here d place ks w))) (setting.accesses access))
      where
        next : Result Done → Log → World → State
        next = arrives e d (place + 1 + 1) ks ops

        goal : Out Done → Type 0
        goal x = Runs ask code (Kept k code w0) 4 4 s0 c (arrives e d (place + 1 + 1) ks ops) x

        -- the step, by the object and the access type, if there are such
        freed_as : Option Object → Option AccessType → State
        freed_as o a = moved l (Table.free_object code nulled (option_map home_in a) o ops (here d place ks w))

        known : (o : Option Object) (a : Option AccessType) → object_at (suc n) w ≡ o → slice_get k.accesses access ≡ a → step ask code s0 ≡ freed_as (object_at (suc n) w) (slice_get k.accesses access) → step ask code s0 ≡ freed_as o a
        known o a there found go = go ∙ ap (λ x. freed_as x (slice_get k.accesses access)) there ∙ ap (freed_as o) found

        by : (o : Option Object) (a : Option AccessType) → object_at (suc n) w ≡ o → slice_get k.accesses access ≡ a → step ask code s0 ≡ freed_as (object_at (suc n) w) (slice_get k.accesses access) → goal (free_value K d access (place_of d nulled) (suc n) c l w)
        by None a there found go =
            subst goal (sym (value_gone K d access n (place_of d nulled) c l w there))
            (stop_step ask code (Kept k code w0) 4 4 s0 _ c 0 next UseAfterFree l (omega arith) (known None a there found go) refl refl)
        by (Some o) None there found go =
            subst goal (sym (value_unseen K d access n (place_of d nulled) c l w o there found))
            (stop_step ask code (Kept k code w0) 4 4 s0 _ c 0 next UseAfterFree l (omega arith) (known (Some o) None there found go) refl refl)
        by (Some o) (Some a) there found go =
            let set = set_in (slot_at (master_of d a.collection) a.collection.slot w).content in
            subst goal (sym (value_freed K d access n (place_of d nulled) c l w o a there found))
            (frees_member nulled set (suc n) o e (record { display = d; place = place + 1; operands = ops }) ks s0 c l w le fits there raises (known (Some o) (Some a) there found go))

    -- what the value of a component designates, from the step that frees it
    component_frees : (q : Spot) (access : ℕ) (e : Target) (d : List ℕ) (place : ℕ) (ks : List Frame) (ops : List Word) (s0 : State) (c : ℕ) (l : Log) (w : World) → c ≤ bound → Since k code w0 w → Raises code (place + 1) → step ask code s0 ≡ moved l (by_free_part code q (slice_get code.accesses.items access) (object_at q.object w) ops (here d place ks w)) → Runs ask code (Kept k code w0) 4 4 s0 c (arrives e d (place + 1 + 1) ks ops) (free K d access (found_at (OfObject q)) c l w)
    unfolding free on_variable read_found read_part existing gone opened_outcome
    component_frees q access e d place ks ops s0 c l w le fits raises first = by (object_at q.object w) first
      where
        by : (x : Option Object) → step ask code s0 ≡ moved l (by_free_part code q (slice_get code.accesses.items access) x ops (here d place ks w)) → Runs ask code (Kept k code w0) 4 4 s0 c (arrives e d (place + 1 + 1) ks ops) (bind (on_some x gone (λ o. done (cells_at q.offset 1 o)) c l w) (on_goes (λ v. free_value K d access (found_at (OfObject q)) (scalar_of v))))
        by None go = stop_step ask code (Kept k code w0) 4 4 s0 _ c 0 (arrives e d (place + 1 + 1) ks ops) UseAfterFree l (omega arith) go refl refl
        by (Some o) go =
            added ask code (Kept k code w0) 0 4 4 4 4 s0 c (arrives e d (place + 1 + 1) ks ops) _ (omega arith) (omega arith)
            (value_frees (NullPart q) access (scalar_of (cells_at q.offset 1 o)) e d place ks ops s0 c l w le fits raises go)

  -- Statements --------------------------------------------------------------------------------------------

  -- one whose access value is in a variable
  pub variable_freed_does : (access : ℕ) (v : Var) (find : List ℕ → Act Found) → Uses v find → Does ask k code bound (λ a. (InstrOf.Free access (out_to a.stack v) v.slot, a.stack) ∷ failed_code a.stack) (λ d caught. ticked (find d >>= free K d access))
  unfolding free on_variable read_found first_cells scalar_of opened_lists opened_outcome
  variable_freed_does access v find uses a w0 d place ks ops c l w le fits sees has =
      let out = out_to a.stack v in
      let s0 = at d place ks ops l w in
      let next = arrives (lands a place) d (place + 2) ks ops in
      let end : place + 1 + 1 ≡ place + 2 = omega arith in
      subst (λ o. Runs ask code (Kept k code w0) 0 0 s0 c next (add 1 (bind o (on_goes (free K d access))))) (sym (uses d c l w))
      (subst (λ m. Runs ask code (Kept k code w0) 0 0 s0 c next (add 1 (add 1 (add 0 (free_value K d access (Names.InVariable m v.slot) (value_of d v w) c l w))))) (out_is d a.stack v sees.long)
      (added ask code (Kept k code w0) 1 0 0 0 0 s0 c next _ (omega arith) (omega arith)
      (added ask code (Kept k code w0) 1 4 4 0 0 s0 c next _ (omega arith) (omega arith)
      (added ask code (Kept k code w0) 0 4 4 4 4 s0 c next _ (omega arith) (omega arith)
      (subst (λ z. Runs ask code (Kept k code w0) 4 4 s0 c (arrives (lands a place) d z ks ops) (free_value K d access (Names.InVariable (out_of d out) v.slot) (value_of d v w) c l w)) end
      (value_frees w0 (NullVariable out v.slot) access (value_of d v w) (lands a place) d place ks ops s0 c l w le fits has.2.0
      (by_code ask code d place ks ops l w (InstrOf.Free access out v.slot) has.0
      ∙ ap (λ n. moved l (by_free code (NullVariable out v.slot) (slice_get code.accesses.items access) n ops (here d place ks w))) (cell_is d a.stack v w sees.long))))))))

  -- where the place is that holds an access value says nothing of its path
  same_place : (access n offset : ℕ) (path other : List ℕ) (d : List ℕ) (c : ℕ) (l : Log) (w : World) → free K d access (Names.InObject n offset path) c l w ≡ free K d access (Names.InObject n offset other) c l w
  unfolding free on_variable free_value free_object freed read_found write_found opened_outcome
  same_place access n offset path other d c l w = refl

  -- over the part that has it: a value alone is no variable
  frees_over : (access t position : ℕ) (last : Last code t position) (p : RecordOperand) (e : Target) (w0 : World) (d : List ℕ) (place : ℕ) (ks : List Frame) (ops : List Word) (c : ℕ) (l : Log) (w : World) → c ≤ bound → Since k code w0 w → Raises code (place + 1) → slice_get code.instructions.items place ≡ Some (InstrOf.FreePart access t position) → Runs ask code (Kept k code w0) 4 4 (at d place ks (word p ∷ ops) l w) c (arrives e d (place + 1 + 1) ks ops) (free K d access (last_found last.offset last.path p) c l w)
  unfolding free on_variable gone opened_outcome
  frees_over access t position last (OfCells v) e w0 d place ks ops c l w le fits raises has =
      stop_step ask code (Kept k code w0) 4 4 _ _ c 0 (arrives e d (place + 1 + 1) ks ops) UseAfterFree l (omega arith) (by_code ask code d place ks (Cells v ∷ ops) l w (InstrOf.FreePart access t position) has) refl refl
  frees_over access t position last (OfObject p) e w0 d place ks ops c l w le fits raises has =
      let q = component_of p last.offset position in
      let s1 = at d place ks (Located p ∷ ops) l w in
      subst (λ o. Runs ask code (Kept k code w0) 4 4 s1 c (arrives e d (place + 1 + 1) ks ops) o) (same_place access p.object (p.offset + last.offset) q.path (last.path p) d c l w)
      (component_frees w0 q access e d place ks ops s1 c l w le fits raises
      (by_code ask code d place ks (Located p ∷ ops) l w (InstrOf.FreePart access t position) has
      ∙ ap (λ j. let x = component_of p j position in moved l (by_free_part code x (slice_get code.accesses.items access) (object_at x.object w) ops (here d place ks w))) last.there))

  -- and one whose access value is in a component, or in an object of an access type: what has it is found first
  pub part_freed_does : (access : ℕ) (first : Start) (given : List ℕ → Act (List ℕ)) → ((w0 : World) → Starts ask k code bound w0 first given) → (steps : List Step) (t position : ℕ) → Agree k code steps → (last : Last code t position) → are_followed first steps ≡ true → (find : List ℕ → Act Found) → Ends K last given steps first find → Does ask k code bound (λ a. free_part_code access first steps t position a.stack) (λ d caught. ticked (find d >>= free K d access))
  unfolding opened_outcome
  part_freed_does access first given begun steps t position agree last followed find is a w0 d place ks ops c l w le fits sees has =
      let s = a.stack in
      let front = located_code first steps t s in
      let back : List Line = (InstrOf.FreePart access t position, Operand (Record t) ∷ s) ∷ failed_code s in
      let s0 = at d place ks ops l w in
      let next = arrives (lands a place) d (place + length (free_part_code access first steps t position s)) ks ops in
      let end : place + length front + 1 + 1 ≡ place + length (free_part_code access first steps t position s) = omega (arith, length-append front back) in
      let frees : Result Found → Act Done = on_goes (free K d access) in
      let selected : Result Found → Act Done = λ r c1 l1 w1. bind (on_goes last.step r c1 l1 w1) frees in
      subst (Runs ask code (Kept k code w0) 0 0 s0 c next)
      (sym (ap (λ z. add 1 (bind z frees)) (is d c l w) ∙ ap (add 1) (bind_bind (find_by K given steps first d c l w) (on_goes last.step) frees)))
      (added ask code (Kept k code w0) 1 4 4 0 0 s0 c next _ (omega arith) (omega arith)
      (located_then ask k code bound w0 call default (λ r. Since k code w0) next selected d ks ops 4 4 first given (begun w0) steps t s place c l w followed agree le fits (seen sees) (laid_front code place front back has)
      (λ c1 l1 w1 lo fits1 p.
      let s1 = at d (place + length front) ks (word p ∷ ops) l1 w1 in
      let g = last_found last.offset last.path p in
      subst (λ o. Runs ask code (Kept k code w0) 4 4 s1 c1 next (bind o frees)) (sym (last.is p c1 l1 w1))
      (added ask code (Kept k code w0) last.ticks 4 4 4 4 s1 c1 next (free K d access g c1 l1 w1) (omega arith) (omega arith)
      (subst (λ z. Runs ask code (Kept k code w0) 4 4 s1 c1 (arrives (lands a place) d z ks ops) (free K d access g c1 l1 w1)) end
      (frees_over access t position last p (lands a place) w0 d (place + length front) ks ops c1 l1 w1 (omega (arith, lo, le)) fits1 (laid_back code place front back has).2.0 (laid_back code place front back has).0))))
      (λ y c1 l1 w1 lo fits1. no_step ask code (Kept k code w0) 4 4 _ c1 0 next (Leaves (ByRaise y)) l1 w1 fits1 refl)))
