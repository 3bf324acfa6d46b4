-- What there is while a program runs. Numbers of objects, masters, collections, subpools and addresses count from 1; 0 is none.
use Rattle.std.specs.Prelude.{ℕ, List, [], Option, Bool}
use Rattle.ctl_program.specs.declared.types.Ty.{Ty}
use Rattle.ctl_tree.specs.declared.event.Event.{Event}

-- a choice that was made: among how many candidates, and which of them, from 0
pub record Pick : Type 0 where
  pub width : ℕ
  pub chosen : ℕ

-- what a run has shown, and the choices that it has made
pub record Log : Type 0 where
  pub trace : List Event
  pub taken : List Pick

-- where the storage of an allocated object lies: in the standard pool, in a block of a pool, in a subpool (13.11, 13.11.4)
pub data Place : Type 0 where
  Standard : Place
  InBlock : (pool address : ℕ) → Place
  InSubpool : (subpool : ℕ) → Place

-- an object is declared in a master, or allocated for a collection (3.3.1, 4.8)
pub data Origin : Type 0 where
  Declared : (master : ℕ) → Origin
  Allocated : (collection : ℕ) (place : Place) → Origin

-- finalization by an assignment leaves the state as it is
pub data State : Type 0 where
  Untouched Finalizing Finalized : State

-- an object that exists: its own type, its value as cells, and whether it has joined its collection
pub record Object : Type 0 where
  pub number : ℕ
  pub ty : Ty
  pub cells : List ℕ
  pub state : State
  pub origin : Origin
  pub joined : Bool

-- an object, as a collection names it and as its finalization takes it: its number and its own type
pub record Member : Type 0 where
  pub number : ℕ
  pub ty : Ty

-- what a master finalizes at one time: a declared object, by its number, or the collections of one freezing place (7.6.1)
pub data Layer : Type 0 where
  Single : (object : ℕ) → Layer
  Sets : (collections : List ℕ) → Layer

-- an active master, with the layers that it has still to finalize, from the newest
pub record Master : Type 0 where
  pub number : ℕ
  pub layers : List Layer

-- the collection of an access type: the master that it belongs to, and whether its finalization has started (13.11.2, 7.6.1)
pub record Collection : Type 0 where
  pub number : ℕ
  pub master : ℕ
  pub started : Bool

-- who is to be finalized when: the next numbers, the active masters and the collections, each from the newest
pub record Ledger : Type 0 where
  pub next_object : ℕ
  pub next_master : ℕ
  pub next_collection : ℕ
  pub masters : List Master
  pub collections : List Collection

-- what a use of a name that is no elementary variable finds: nothing yet, an object, a part that a formal stands for, a copy of a record,
-- or a collection
pub data Content : Type 0 where
  Nothing : Content
  Holds : (object : ℕ) → Content
  Binds : (object offset : ℕ) (path : List ℕ) → Content
  Copies : (cells : List ℕ) → Content
  Gathers : (collection : ℕ) → Content

-- the slot of a declaration: the cell of an elementary variable, 0 where it has no value yet, and what any other one holds
pub record Slot : Type 0 where
  pub value : ℕ
  pub content : Content

abbrev pub unset : Slot
unset = record { value = 0; content = Nothing }

-- a slot with this value, and one that holds this
abbrev pub valued : ℕ → Slot
valued n = record { value = n; content = Nothing }

abbrev pub holding : Content → Slot
holding h = record { value = 0; content = h }

-- an active master as its statements see it: the masters around it by level, itself last, and its slots
pub record Activation : Type 0 where
  pub master : ℕ
  pub display : List ℕ
  pub slots : List Slot

-- a block that is out, and the object that was put there
pub record Block : Type 0 where
  pub address : ℕ
  pub holder : Option ℕ

-- a Block_Pool, by its object: its discriminants, how many blocks are free, and those that are out
pub record BlockPool : Type 0 where
  pub object : ℕ
  pub is_open : Bool
  pub block_size : ℕ
  pub block_count : ℕ
  pub free : ℕ
  pub out : List Block

-- a Mark_Release_Pool, by its object: its discriminant, how much is used, and its subpools from the last
pub record MarkPool : Type 0 where
  pub object : ℕ
  pub is_open : Bool
  pub pool_size : ℕ
  pub used : ℕ
  pub marks : List ℕ

-- a subpool that was not dropped: its pool, where it starts, whether it still belongs to the pool (13.11.4), and whether it is dead:
-- its release is over, and another one stood behind it
pub record Subpool : Type 0 where
  pub number : ℕ
  pub pool : ℕ
  pub start : ℕ
  pub belongs : Bool
  pub is_dead : Bool

-- the storage pools
pub record Pools : Type 0 where
  pub next_subpool : ℕ
  pub next_address : ℕ
  pub block_pools : List BlockPool
  pub mark_pools : List MarkPool
  pub subpools : List Subpool

-- all that there is
pub record World : Type 0 where
  pub ledger : Ledger
  pub activations : List Activation
  pub objects : List Object
  pub pools : Pools

unfoldable pub empty_log : Log
empty_log = record { trace = []; taken = [] }

unfoldable pub empty_ledger : Ledger
empty_ledger = record { next_object = 1; next_master = 1; next_collection = 1; masters = []; collections = [] }

unfoldable pub empty_pools : Pools
empty_pools = record { next_subpool = 1; next_address = 1; block_pools = []; mark_pools = []; subpools = [] }

unfoldable pub empty_world : World
empty_world = record { ledger = empty_ledger; activations = []; objects = []; pools = empty_pools }

-- everything here, opened at once
unfoldable pub opened_world : Unit {0}
unfolding empty_log empty_ledger empty_pools empty_world
opened_world = tt
