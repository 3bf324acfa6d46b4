-- Allocators, and Unchecked_Deallocation (4.8, 13.11, 13.11.2).
use Rattle.std.specs.Prelude.{ℕ, List, [], ◌∷◌, Option, Some, None, Bool, false, not, ◌&&◌, nat_eq, slice_get}
use Rattle.ctl_program.specs.declared.types.Ty.{Ty}
use Rattle.ctl_program.specs.declared.types.AccessType.{AccessType}
use Rattle.ctl_tree.specs.declared.ending.Stop.TheVariants.{FreeWhileFinalizing, ForeignFree}
use Rattle.ctl_tree.specs.declared.event.Cause.TheVariants.{Free}
use Rattle.ctl_meaning.specs.World.{Place, Standard, InBlock, InSubpool, Origin, Declared, Allocated, Object, Collection, Content, Gathers, World}
use Rattle.ctl_meaning.specs.Activations.{master_of}
use Rattle.ctl_meaning.specs.Objects.{is_untouched, is_finalizing, is_of_set}
use Rattle.ctl_meaning.specs.Ledger.{collection_at}
use Rattle.ctl_meaning.specs.Changes.{create_at, forget, join, slot_at}
use Rattle.ctl_meaning.specs.Members.{member_of, is_due}
use Rattle.ctl_meaning.specs.Outcome.{constraint_error, program_error, Act, Done, ◌>>=◌, ◌>>◌, done, nothing, raise, stop, counted, look, change, Tried, Fine, Raised, attempt, either, on_some}
use Rattle.ctl_meaning.specs.Types.{Tables, size_of, begin_cells, has_controlled}
use Rattle.ctl_meaning.specs.Names.{Tools, Found, on_variable, gone, existing, scalar_of, read_found, write_found}
use Rattle.ctl_meaning.specs.Finalization.{finalize_object}
use Rattle.ctl_meaning.specs.Adjustment.{birth_of}
use Rattle.ctl_meaning.specs.Initialization.{fill}
use Rattle.ctl_meaning.specs.Storage.{storage, give_back, program_error_if}

-- Collections of access types --------------------------------------------------------

unfoldable pub set_in : Content → ℕ
set_in (Gathers n) = n
set_in _ = 0

-- the collection that an access type has where a display is seen
unfoldable pub with_set : {A : Type 0} → List ℕ → AccessType → (ℕ → Act A) → Act A
with_set env a f = look (λ w. f (set_in (slot_at (master_of env a.collection) a.collection.slot w).content))

-- Program_Error where the finalization of the collection has started and the object has a controlled part (4.8)
unfoldable pub refuses : Tables → Ty → Collection → Bool
refuses t ty c = has_controlled t ty && c.started

-- Joining ------------------------------------------------------------------------------

unfoldable pub is_new : Object → Bool
is_new o = is_untouched o.state && not o.joined

unfoldable pub set_of : Origin → World → Option Collection
set_of (Declared m) w = None
set_of (Allocated set place) w = collection_at set w.ledger

-- a new object joins its collection, which still stands
unfoldable pub join_collection : ℕ → Act Done
join_collection n =
    existing n (λ o. look (λ w. on_some (set_of o.origin w) gone (λ c. either (is_new o) (change (join n)) gone)))

-- Allocators ------------------------------------------------------------------------------

-- where the creation raises, the object is gone and never joins; its storage stays taken
unfoldable pub created_or_gone : ℕ → Tried Done → Act ℕ
created_or_gone n (Fine a) = done n
created_or_gone n (Raised e) = counted 1 (change (forget n)) >> raise e

unfoldable pub created : Tools → ℕ → Ty → Option (List ℕ) → Place → Act ℕ
created k set ty value place =
    look (λ w. change (create_at ty (begin_cells k.tables ty) set place)
    >> attempt (fill k (birth_of (Allocated set place) w) w.ledger.next_object ty value)
    >>= created_or_gone w.ledger.next_object)

unfoldable pub is_null : Option (List ℕ) → Bool
is_null None = false
is_null (Some v) = nat_eq (scalar_of v) 0

-- the tests of an allocator, then storage, and then the creation
unfoldable pub allocate_for : Tools → List ℕ → Ty → Option (List ℕ) → Option (List ℕ) → AccessType → Act ℕ
allocate_for k env ty handle value a =
    with_set env a (λ set. look (λ w. on_some (collection_at set w.ledger) gone (λ c.
    either (refuses k.tables ty c) (raise program_error) (storage k env a.pool handle (size_of k.tables ty) >>= created k set ty value))))

-- the number of the new object. A null handle, which denotes no subpool, is Constraint_Error (4.8)
unfoldable pub allocate : Tools → List ℕ → ℕ → Ty → Option (List ℕ) → Option (List ℕ) → Act ℕ
allocate k env access ty handle value =
    either (is_null handle) (raise constraint_error) (on_some (slice_get k.tables.accesses access) gone (allocate_for k env ty handle value))

-- Unchecked_Deallocation --------------------------------------------------------------------

unfoldable pub returns_storage : Tools → Ty → Origin → Act Done
returns_storage k ty (Declared m) = nothing
returns_storage k ty (Allocated set Standard) = nothing
returns_storage k ty (Allocated set (InBlock p a)) = give_back k p a (size_of k.tables ty)
returns_storage k ty (Allocated set (InSubpool s)) = nothing

-- the variable becomes null, the object is gone, its storage goes back; a Finalize that raised is Program_Error
unfoldable pub freed : Tools → Found → Object → Bool → Act Done
freed k place o failed =
    write_found place (0 ∷ []) >> counted 1 (change (forget o.number)) >> returns_storage k o.ty o.origin >> program_error_if failed

-- what is not finalized yet is finalized (13.11.2)
unfoldable pub finalize_unfinalized : Tools → Object → Act Bool
finalize_unfinalized k o = either (is_due k.tables o) (finalize_object k Free (member_of o)) (done false)

-- erroneous for an object of another collection, and for one that is being finalized (13.11.2, profile)
unfoldable pub free_object : Tools → Found → ℕ → Object → Act Done
free_object k place set o =
    either (not (is_of_set set o.origin)) (stop ForeignFree)
    (either (is_finalizing o.state) (stop FreeWhileFinalizing) (finalize_unfinalized k o >>= freed k place o))

unfoldable pub free_value : Tools → List ℕ → ℕ → Found → ℕ → Act Done
free_value k env access place n =
    either (nat_eq n 0) nothing (existing n (λ o. on_some (slice_get k.tables.accesses access) gone (λ a. with_set env a (λ set. free_object k place set o))))

-- an instance for an access type; null does nothing
unfoldable pub free : Tools → List ℕ → ℕ → Found → Act Done
free k env access place = on_variable place (read_found 1 place >>= (λ v. free_value k env access place (scalar_of v)))

-- everything here, opened at once
unfoldable pub opened_allocation : Unit {0}
unfolding set_in with_set refuses is_new set_of join_collection created_or_gone created is_null allocate_for allocate returns_storage freed finalize_unfinalized free_object free_value free
opened_allocation = tt
