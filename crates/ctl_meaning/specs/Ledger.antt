-- Masters with their layers, and collections (7.6.1, 13.11.2).
use Rattle.std.specs.Prelude.{ℕ, ◌+◌, List, [], ◌∷◌, Option, Some, None, true, false, not, nat_eq, drop}
use Rattle.ctl_meaning.specs.World.{Layer, Master, Collection, Ledger}
use Rattle.ctl_meaning.specs.Lists.{first_with, change_each, keep, contains}

-- an object's number is taken before its creation
unfoldable pub take_number : Ledger → Ledger
take_number x = record x { next_object = x.next_object + 1 }

-- Masters ------------------------------------------------------------------

unfoldable pub master_at : ℕ → Ledger → Option Master
master_at n x = first_with (λ m. nat_eq m.number n) x.masters

unfoldable pub enter_master : Ledger → Ledger
enter_master x = record x { next_master = x.next_master + 1; masters = (record { number = x.next_master; layers = [] }) ∷ x.masters }

unfoldable pub with_layer : Layer → Master → Master
with_layer y m = record m { layers = y ∷ m.layers }

-- a further layer of a master, the newest
unfoldable pub push_layer : ℕ → Layer → Ledger → Ledger
push_layer n y x = record x { masters = change_each (λ m. nat_eq m.number n) (with_layer y) x.masters }

unfoldable pub without_newest : Master → Master
without_newest m = record m { layers = drop 1 m.layers }

-- the newest layer of a master is taken out
unfoldable pub drop_layer : ℕ → Ledger → Ledger
drop_layer n x = record x { masters = change_each (λ m. nat_eq m.number n) without_newest x.masters }

unfoldable pub layers_in : Option Master → List Layer
layers_in None = []
layers_in (Some m) = m.layers

-- the layers of a master, the newest first
unfoldable pub layers_of : ℕ → Ledger → List Layer
layers_of n x = layers_in (master_at n x)

-- a master that is left, with its collections
unfoldable pub drop_master : ℕ → Ledger → Ledger
drop_master n x = record x { masters = keep (λ m. not (nat_eq m.number n)) x.masters; collections = keep (λ c. not (nat_eq c.master n)) x.collections }

-- Collections --------------------------------------------------------------

unfoldable pub collection_at : ℕ → Ledger → Option Collection
collection_at n x = first_with (λ c. nat_eq c.number n) x.collections

-- a new collection of a master
unfoldable pub push_collection : ℕ → Ledger → Ledger
push_collection master x = record x { next_collection = x.next_collection + 1; collections = (record { number = x.next_collection; master = master; started = false }) ∷ x.collections }

unfoldable pub with_started : Collection → Collection
with_started c = record c { started = true }

-- the finalization of these collections starts
unfoldable pub start_sets : List ℕ → Ledger → Ledger
start_sets sets x = record x { collections = change_each (λ c. contains c.number sets) with_started x.collections }

unfoldable pub master_in : Option Collection → ℕ
master_in None = 0
master_in (Some c) = c.master

-- everything here, opened at once
unfoldable pub opened_ledger : Unit {0}
unfolding take_number master_at enter_master with_layer push_layer without_newest drop_layer layers_in layers_of drop_master collection_at push_collection with_started start_sets master_in
opened_ledger = tt
