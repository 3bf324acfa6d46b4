-- All the ways in which the world changes, and what is looked up in it.
use Rattle.std.specs.Prelude.{ℕ, List, [], ◌∷◌, ◌++◌, length, Option, Some, None, Bool, false, not, ◌&&◌, nat_eq, is_some, map}
use Rattle.ctl_program.specs.declared.types.Ty.{Ty}
use Rattle.ctl_tree.specs.declared.event.Owner as EventOwner
use Rattle.ctl_tree.specs.declared.event.Owner.{Owner}
use Rattle.ctl_meaning.specs.World.{Place, Standard, InBlock, InSubpool, Origin, Declared, Allocated, Untouched, Object, Layer, Slot, Block, Pools, World}
use Rattle.ctl_meaning.specs.Lists.{change_first, keep, any_of}
use Rattle.ctl_meaning.specs.Ledger.{take_number, enter_master, push_layer, drop_layer, drop_master, collection_at, push_collection, start_sets, master_in}
use Rattle.ctl_meaning.specs.Activations.{activation_at, push_activation, drop_activation, change_slot, slot_in, display_in}
use Rattle.ctl_meaning.specs.Objects.{object_in, change_in, with_cells, with_begun, with_joined, with_finalized, is_finalizing, lies_in_subpool, lies_in_pool, ends_with_master}
use Rattle.ctl_meaning.specs.Pools.{hold_block, shut, keep_pools}

-- Objects ------------------------------------------------------------------

unfoldable pub object_at : ℕ → World → Option Object
object_at n w = object_in n w.objects

-- an object that is not there yet
unfoldable pub new_object : ℕ → Ty → List ℕ → Origin → Object
new_object n ty cells origin = record { number = n; ty = ty; cells = cells; state = Untouched; origin = origin; joined = false }

-- the next object number is taken
unfoldable pub take_object_number : World → World
take_object_number w = record w { ledger = take_number w.ledger }

-- a new object takes the next number
unfoldable pub create : Ty → List ℕ → Origin → World → World
create ty cells origin w = record w { ledger = take_number w.ledger; objects = w.objects ++ new_object w.ledger.next_object ty cells origin ∷ [] }

-- cells of an object are written
unfoldable pub write_cells : ℕ → ℕ → List ℕ → World → World
write_cells n offset v w = record w { objects = change_in n (with_cells offset v) w.objects }

-- one object ceases to exist
unfoldable pub forget : ℕ → World → World
forget n w = record w { objects = keep (λ o. not (nat_eq o.number n)) w.objects }

-- all objects of some origins cease to exist
unfoldable pub forget_all : (Origin → Bool) → World → World
forget_all p w = record w { objects = keep (λ o. not (p o.origin)) w.objects }

-- how many objects are of some origins
unfoldable pub count_of : (Origin → Bool) → World → ℕ
count_of p w = length (keep (λ o. p o.origin) w.objects)

-- Masters ------------------------------------------------------------------

-- a master is entered inside those of a display
unfoldable pub open_master : List ℕ → List Slot → World → World
open_master display slots w = record w { ledger = enter_master w.ledger; activations = push_activation w.ledger.next_master display slots w.activations }

unfoldable pub add_layer : ℕ → Layer → World → World
add_layer n x w = record w { ledger = push_layer n x w.ledger }

-- the finalization of a master's newest layer begins: it is taken out
unfoldable pub take_layer : ℕ → World → World
take_layer n w = record w { ledger = drop_layer n w.ledger }

unfoldable pub set_slot : ℕ → ℕ → Slot → World → World
set_slot n i x w = record w { activations = change_slot n i x w.activations }

unfoldable pub slot_at : ℕ → ℕ → World → Slot
slot_at n i w = slot_in n i w.activations

-- an elementary variable takes a value
unfoldable pub set_value : ℕ → ℕ → ℕ → World → World
set_value n i x w = set_slot n i (record (slot_at n i w) { value = x }) w

-- the numbers of a master's collections
unfoldable pub sets_of : ℕ → World → List ℕ
sets_of n w = map (λ c. c.number) (keep (λ c. nat_eq c.master n) w.ledger.collections)

unfoldable pub ends_with : ℕ → World → Origin → Bool
ends_with n w = ends_with_master n (sets_of n w)

-- a master is left: its collections and their objects and its own objects are gone, pools among them (7.6.1)
unfoldable pub close_master : ℕ → World → World
close_master n w =
    let v = forget_all (ends_with n w) w in
    record v { ledger = drop_master n w.ledger; activations = drop_activation n w.activations; pools = keep_pools (λ p. is_some (object_at p v)) w.pools }

-- how many objects are gone then
unfoldable pub gone_with : ℕ → World → ℕ
gone_with n w = count_of (ends_with n w) w

-- Collections --------------------------------------------------------------

-- a new collection of a master is found at a slot
unfoldable pub add_collection : ℕ → ℕ → Slot → World → World
add_collection n i x w = set_slot n i x (record w { ledger = push_collection n w.ledger })

unfoldable pub start_collections : List ℕ → World → World
start_collections sets w = record w { ledger = start_sets sets w.ledger }

-- an object joins its collection: it is a member from then on
unfoldable pub join : ℕ → World → World
join n w = record w { objects = change_first (λ o. nat_eq o.number n) with_joined w.objects }

-- the finalization of an object begins
unfoldable pub begin_finalization : ℕ → World → World
begin_finalization n w = record w { objects = change_in n with_begun w.objects }

-- it is complete
unfoldable pub end_finalization : ℕ → World → World
end_finalization n w = record w { objects = change_in n with_finalized w.objects }

-- Owners -------------------------------------------------------------------

-- the master in whose part an object's origin lies
unfoldable pub home_master : World → Origin → ℕ
home_master w (Declared m) = m
home_master w (Allocated n p) = master_in (collection_at n w.ledger)

-- the display that the operations of an object's type are called with
unfoldable pub home_of : Origin → World → List ℕ
home_of x w = display_in (activation_at (home_master w x) w.activations)

unfoldable pub owner_of : Origin → Owner
owner_of (Declared m) = EventOwner.TheVariants.Master m
owner_of (Allocated n p) = EventOwner.TheVariants.Collection n

-- Pools --------------------------------------------------------------------

unfoldable pub in_pools : (Pools → Pools) → World → World
in_pools f w = record w { pools = f w.pools }

unfoldable pub put_into : Place → ℕ → World → World
put_into Standard n w = w
put_into (InBlock p a) n w = in_pools (hold_block p a n) w
put_into (InSubpool s) n w = w

-- an allocated object takes the next number, at its place
unfoldable pub create_at : Ty → List ℕ → ℕ → Place → World → World
create_at ty cells set place w = put_into place w.ledger.next_object (create ty cells (Allocated set place) w)

-- a pool closes: every object in it is gone
unfoldable pub close_pool_at : ℕ → World → World
close_pool_at n w = forget_all (lies_in_pool n) (in_pools (shut n) w)

unfoldable pub empty_subpool : ℕ → World → World
empty_subpool n w = forget_all (lies_in_subpool n) w

-- whether a subpool holds an object that is being finalized
unfoldable pub is_busy : ℕ → World → Bool
is_busy n w = any_of (λ o. lies_in_subpool n o.origin && is_finalizing o.state) w.objects

unfoldable pub is_held : World → Option ℕ → Bool
is_held w None = false
is_held w (Some n) = is_some (object_at n w)

unfoldable pub is_vacant : World → Option Block → Bool
is_vacant w None = false
is_vacant w (Some b) = not (is_held w b.holder)

-- everything here, opened at once
unfoldable pub opened_changes : Unit {0}
unfolding object_at new_object take_object_number create write_cells forget forget_all count_of open_master add_layer take_layer set_slot slot_at set_value sets_of ends_with close_master gone_with add_collection start_collections join begin_finalization end_finalization home_master home_of owner_of in_pools put_into create_at close_pool_at empty_subpool is_busy is_held is_vacant
opened_changes = tt
