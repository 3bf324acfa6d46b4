-- Masters: their parts are elaborated, and their layers finalized (3.11, 7.6.1).
use Rattle.std.specs.Prelude.{ℕ, List, [], ◌∷◌, ◌++◌, length, Option, None, Bool, false, ◌&&◌, ◌||◌, nat_eq, nat_le, if◌then◌else◌, slice_get, map, option_map}
use Rattle.ctl_program.specs.declared.types.Ty.{Ty}
use Rattle.ctl_program.specs.declared.types.Ty.TheVariants.{Record}
use Rattle.ctl_program.specs.declared.statement.Association.{Association}
use Rattle.ctl_program.specs.declared.types.AccessType.{AccessType}
use Rattle.ctl_program.specs.declared.types.Root.{Root}
use Rattle.ctl_program.specs.declared.types.Root.TheVariants.{MarkPool}
use Rattle.ctl_program.specs.declared.statement.Item.{Item}
use Rattle.ctl_tree.specs.declared.event.Cause.TheVariants.{Scope, Collection}
use Rattle.ctl_meaning.specs.World.{Declared, Layer, Single, Sets, Slot, Holds, Gathers, holding}
use Rattle.ctl_meaning.specs.Lists.{item_or}
use Rattle.ctl_meaning.specs.Activations.{slots_in, activation_at}
use Rattle.ctl_meaning.specs.Ledger.{layers_of}
use Rattle.ctl_meaning.specs.Pools.{push_block_pool, push_mark_pool}
use Rattle.ctl_meaning.specs.Changes.{take_object_number, create, open_master, close_master, gone_with, add_layer, take_layer, set_slot, set_value, add_collection, start_collections, in_pools, close_pool_at}
use Rattle.ctl_meaning.specs.Members.{OfSets}
use Rattle.ctl_program.specs.Limits.{least_block_size, greatest_block_size, least_block_count, greatest_block_count, least_mark_pool_size, greatest_mark_pool_size}
use Rattle.ctl_meaning.specs.Outcome.{constraint_error, Result, Act, Done, ◌>>=◌, ◌>>◌, done, nothing, raise, counted, ticked, then_always, look, change, Tried, Fine, Raised, attempt, either, on_some}
use Rattle.ctl_meaning.specs.Types.{Category, Elementary, Composite, category_of, root_of, begin_cells}
use Rattle.ctl_meaning.specs.Names.{Tools, gone, existing, scalar_of}
use Rattle.ctl_meaning.specs.Expressions.{Valued, if_given, eval}
use Rattle.ctl_meaning.specs.Finalization.{finalize_if_controlled, finalize_group}
use Rattle.ctl_meaning.specs.Adjustment.{birth_of}
use Rattle.ctl_meaning.specs.Initialization.{fill}
use Rattle.ctl_meaning.specs.Storage.{close_pool, program_error_if}

-- Leaving (7.6.1) ---------------------------------------------------------------

-- how a master was left, and what its slots held
pub record Left : Type 0 where
  pub result : Result Done
  pub slots : List Slot

-- a declared object is finalized by its own type, and closes then if it is a pool; whether a Finalize raised
unfoldable pub finalize_declared : Tools → ℕ → Act Bool
finalize_declared k n =
    existing n (λ o. finalize_if_controlled k Scope (record { number = n; ty = o.ty }) >>= (λ a. close_pool k n >>= (λ b. done (a || b))))

-- the collections of one freezing place start together, and a choice is made among all of their members
unfoldable pub finalize_sets : Tools → List ℕ → Act Bool
finalize_sets k sets = counted (length sets) (change (start_collections sets)) >> finalize_group k Collection (OfSets sets)

unfoldable pub finalize_layer : Tools → Layer → Act Bool
finalize_layer k (Single n) = finalize_declared k n
finalize_layer k (Sets sets) = finalize_sets k sets

-- the layers of a master from the newest on, each taken out where its finalization begins; one that raises does not stop the others
-- (7.6.1)
unfoldable pub leave_layers : Tools → ℕ → List Layer → Bool → Act Bool
leave_layers k m [] failed = done failed
leave_layers k m (x ∷ xs) failed = ticked (change (take_layer m) >> finalize_layer k x) >>= (λ b. leave_layers k m xs (failed || b))

-- what is left behind is gone; Program_Error in place of the result where a Finalize raised
unfoldable pub left : ℕ → Result Done → Bool → Act Left
left m r failed =
    look (λ w. counted (gone_with m w) (change (close_master m)) >> program_error_if failed >> done (record { result = r; slots = slots_in (activation_at m w.activations) }))

unfoldable pub leave : Tools → ℕ → Result Done → Act Left
leave k m r = ticked (look (λ w. leave_layers k m (layers_of m w.ledger) false) >>= left m r)

-- a master with these slots at first, inside the masters of a display. Whatever it gives, it is left
unfoldable pub in_master : Tools → List ℕ → List Slot → (List ℕ → Act Done) → Act Left
in_master k env slots run =
    look (λ w. change (open_master env slots) >> then_always (run (env ++ w.ledger.next_master ∷ [])) (leave k w.ledger.next_master))

-- Items (3.11) ------------------------------------------------------------------------------

-- an elementary variable takes an object number too, and its value is in its slot: nothing but a use of that slot reaches it, and it has
-- nothing to finalize. A composite object takes its number and is filled; it is a layer only where that succeeded
unfoldable pub declare : Category → Tools → ℕ → ℕ → Ty → Option (List ℕ) → Act Done
declare Elementary k m slot ty value = change take_object_number >> change (set_value m slot (scalar_of (item_or (begin_cells k.tables ty) value)))
declare Composite k m slot ty value =
    look (λ w. change (create ty (begin_cells k.tables ty) (Declared m))
    >> change (set_slot m slot (holding (Holds w.ledger.next_object)))
    >> fill k (birth_of (Declared m) w) w.ledger.next_object ty value
    >> change (add_layer m (Single w.ledger.next_object)))

-- the collection of an access type, at its freezing place (13.14, profile)
unfoldable pub gather : ℕ → AccessType → Act ℕ
gather m a = look (λ w. change (add_collection m a.collection.slot (holding (Gathers w.ledger.next_collection))) >> done w.ledger.next_collection)

-- those of one freezing place are one layer. The declaration of an access type is counted here
unfoldable pub gather_each : Tools → ℕ → List ℕ → List ℕ → Act Done
gather_each k m [] sets = change (add_layer m (Sets sets))
gather_each k m (a ∷ more) sets = ticked (on_some (slice_get k.tables.accesses a) gone (gather m)) >>= (λ n. gather_each k m more (sets ++ n ∷ []))

-- the discriminants of a pool, by their positions
unfoldable pub discriminants : Tools → List ℕ → List (ℕ × Valued) → ℕ × ℕ → Act (ℕ × ℕ)
discriminants k env [] d = done d
discriminants k env (x ∷ xs) d = x.1 k env >>= (λ v. discriminants k env xs (if nat_eq x.0 0 then (scalar_of v, d.1) else (d.0, scalar_of v)))

unfoldable pub lies_between : ℕ → ℕ → ℕ → Bool
lies_between low high n = nat_le low n && nat_le n high

unfoldable pub good_discriminants : Root → ℕ × ℕ → Bool
good_discriminants MarkPool d = lies_between least_mark_pool_size greatest_mark_pool_size d.0
good_discriminants _ d = lies_between least_block_size greatest_block_size d.0 && lies_between least_block_count greatest_block_count d.1

-- a pool is open from its number on
unfoldable pub open_pool : Root → ℕ → ℕ × ℕ → Act Done
open_pool MarkPool n d = change (in_pools (push_mark_pool n d.0))
open_pool _ n d = change (in_pools (push_block_pool n d.0 d.1))

-- where its creation fails, it closes
unfoldable pub pool_or_closed : ℕ → ℕ → Tried Done → Act Done
pool_or_closed m n (Fine a) = change (add_layer m (Single n))
pool_or_closed m n (Raised e) = change (close_pool_at n) >> raise e

-- bad discriminants are Constraint_Error, and take no number (profile)
unfoldable pub declare_pool : Tools → ℕ → ℕ → ℕ → ℕ × ℕ → Act Done
declare_pool k m slot t d =
    either (good_discriminants (root_of k.tables t) d)
    (look (λ w. change (create (Record t) (begin_cells k.tables (Record t)) (Declared m))
    >> change (set_slot m slot (holding (Holds w.ledger.next_object)))
    >> open_pool (root_of k.tables t) w.ledger.next_object d
    >> attempt (fill k (birth_of (Declared m) w) w.ledger.next_object (Record t) None)
    >>= pool_or_closed m w.ledger.next_object))
    (raise constraint_error)

-- what an item does in a master, where a display is seen
abbrev pub Elaborating : Type 0
Elaborating = Tools → List ℕ → ℕ → Act Done

unfoldable pub collections : List ℕ → Elaborating
collections accesses k env m = gather_each k m accesses []

-- each other declaration is a tick
unfoldable pub object : ℕ → Ty → Option Valued → Elaborating
object slot ty value k env m = ticked (if_given (λ e. e k env) value >>= declare (category_of ty) k m slot ty)

unfoldable pub pool : ℕ → ℕ → List (ℕ × Valued) → Elaborating
pool slot t ds k env m = ticked (discriminants k env ds (0, 0) >>= declare_pool k m slot t)

-- a declaration that does nothing when it is elaborated
unfoldable pub silent : Elaborating
silent k env m = ticked nothing

abbrev pub association : Association → ℕ × Valued
association x = (x.position, eval x.value)

abbrev pub elaborate_item : Item → Elaborating
elaborate_item (Item.Collections accesses) = collections accesses
elaborate_item (Item.Object slot ty value) = object slot ty (option_map eval value)
elaborate_item (Item.Pool slot t ds) = pool slot t (map association ds)
elaborate_item Item.Silent = silent

unfoldable pub elaborate : Tools → List ℕ → ℕ → List Elaborating → Act Done
elaborate k env m [] = nothing
elaborate k env m (x ∷ xs) = x k env m >> elaborate k env m xs

-- everything here, opened at once
unfoldable pub opened_masters : Unit {0}
unfolding finalize_declared finalize_sets finalize_layer leave_layers left leave in_master declare gather gather_each discriminants lies_between good_discriminants open_pool pool_or_closed declare_pool collections object pool silent elaborate
opened_masters = tt
