-- Objects that are freed: what the table frees, and what stands there before.
use Rattle.std.specs.Prelude.{◌≡◌, ◌≢◌, ℕ, ◌+◌, ◌^◌, ◌<◌, List, [], ◌∷◌, Option, Some, None, Bool, true, false, drop, is_some, ◌&&◌, if◌then◌else◌, nat_eq, reverse}
use Rattle.ctl_program.specs.declared.types.Ty.{Ty}
use Rattle.ctl_program.specs.declared.types.Ty.TheVariants.{Record}
use Rattle.ctl_program.specs.declared.types.Var.{Var}
use Rattle.ctl_tree.specs.declared.event.Cause.TheVariants as CauseOf
use Rattle.ctl_tree.specs.declared.ending.Stop.TheVariants as StopOf
use Rattle.ctl_meaning.specs.Changes.{forget, object_at, write_cells}
use Rattle.ctl_meaning.specs.Finalization.{Spot}
use Rattle.ctl_meaning.specs.Objects.{is_untouched, object_in}
use Rattle.ctl_meaning.specs.World as W
use Rattle.ctl_meaning.specs.World.{Object, World}
use Rattle.ctl_objects.specs.declared.existing.Existing.{Existing}
use Rattle.ctl_storage.specs.declared.existing.Life.{Life}
use Rattle.ctl_storage.specs.declared.existing.Life.TheVariants as LifeOf
use Rattle.ctl_objects.specs.declared.existing.Origin.{Origin}
use Rattle.ctl_objects.specs.declared.existing.Origin.TheVariants as OriginOf
use Rattle.ctl_objects.specs.Pools.{ShowsPools}
use Rattle.ctl_objects.specs.Stock.{Stock}
use Rattle.ctl_storage.specs.declared.existing.Place.{Place}
use Rattle.ctl_storage.specs.declared.existing.Place.TheVariants as PlaceOf
use Rattle.ctl_storage.specs.declared.existing.Stage.{Stage}
use Rattle.ctl_storage.specs.Stages.{state_of}
use Rattle.ctl_code.specs.declared.kinds.Kind.{Kind}
use Rattle.ctl_code.specs.declared.code.Code.{Code}
use Rattle.ctl_code.specs.declared.code.Parts.TheVariants as PartsOf
use Rattle.ctl_code.specs.States as T
use Rattle.ctl_code.specs.States.{Move, State, Word}
use Rattle.ctl_code.specs.Kinds.{stack_at}
use Rattle.ctl_code.specs.Table as Table
use Rattle.ctl_code.specs.Table.{Returned, NotReturned, DeallocateOf, behind_declaration, finalize_object, free_object, freed_in, has_part, operation_for, parts_of, stopped, storage_of, units_for, with_cell}
use Rattle.ctl_code.specs.Valid.{Leads}
use Rattle.ctl_code.specs.Windows.{height}
use Rattle.ctl_engine.specs.declared.engine.Engine.{Engine}
use Rattle.ctl_frames.specs.declared.frame.Ended.{Ended}
use Rattle.ctl_frames.specs.declared.frame.Ended.TheVariants as EndedOf
use Rattle.ctl_frames.specs.declared.frame.Nulled.{Nulled}
use Rattle.ctl_frames.specs.declared.frame.Owned.{Owned}
use Rattle.ctl_engine.specs.declared.freeing.Fate.{Fate}
use Rattle.ctl_engine.specs.declared.freeing.Fate.TheVariants as FateOf
use Rattle.ctl_engine.specs.declared.freeing.Deallocation.{Deallocation}
use Rattle.ctl_engine.specs.declared.freeing.Ending.{Ending}
use Rattle.ctl_engine.specs.declared.freeing.GivenBack.{GivenBack}
use Rattle.ctl_engine.specs.declared.freeing.GivenBack.TheVariants as BackOf
use Rattle.ctl_engine.specs.declared.freeing.Release.{Release}
use Rattle.ctl_engine.specs.Allocating.{OwnsNone}
use Rattle.ctl_engine.specs.Assigning.{HasRoom}
use Rattle.ctl_frames.specs.Masters.{first_display, first_window, heads_of}
use Rattle.ctl_places.specs.StorageCalling.{StorageCall}
use Rattle.ctl_engine.specs.Moves.{Inside, here_of}
use Rattle.ctl_engine.specs.Shows.{Holds, IsStored, kept, nulled_of, with_spots}
use Rattle.ctl_frames.specs.Spots.{spots_in, standing}

-- what the table frees: what becomes null, the operands that are left, the place of the instruction, and the state before
pub record Freed : Type 0 where
  pub nulled : T.Nulled
  pub operands : List Word
  pub place : ℕ
  pub state : State

-- by a variable
abbrev pub by_variable : (out slot place : ℕ) → State → Freed
by_variable out slot place s = record { nulled = T.NullVariable out slot; operands = s.operands; place = place; state = s }

-- by a component of the part that is the newest operand
abbrev pub by_component : Spot → ℕ → State → Freed
by_component part place s = record { nulled = T.NullPart part; operands = drop 1 s.operands; place = place; state = s }

-- where that goes on
abbrev pub point_of : Freed → T.Point
point_of t = behind_declaration t.operands (here_of t.place t.state)

-- where the storage of an object lies, if there is one
abbrev pub storage_at : Option Object → W.Place
storage_at None = W.Standard
storage_at (Some o) = storage_of o.origin

-- and how many storage units it has
abbrev pub units_at : Code → Option Object → ℕ
units_at code None = 0
units_at code (Some o) = units_for code o.ty

-- the frame of the object of a number comes over what waits
abbrev pub freeing_of : Code → ℕ → Freed → List T.Frame
freeing_of code n t = let o = object_at n t.state.world in T.Freeing t.nulled n (storage_at o) (units_at code o) (point_of t) ∷ t.state.control

-- before an object is freed
pub record Frees (code : Code) (e : Engine) (nulled : Nulled) (t : Freed) : Type 0 where
  pub nulled_is : nulled ≡ nulled_of t.nulled
  pub stack : List Kind
  pub leads : Leads code (t.place + 1) stack
  pub before : Holds code (kept e) t.state.control t.state.operands t.state.world
  pub inside : Inside code (with_spots (kept e) (standing t.state.control t.operands)) stack t.state.control t.operands t.state.world
  pub spots : (n : ℕ) → e.spots.items ≡ spots_in (freeing_of code n t)

-- What becomes of an object ----------------------------------------------------------------------------

-- the table's move where this becomes of the object of a number: what becomes null, its storage, where its freeing goes on, and what waits
abbrev pub by_fate : Code → Fate → T.Nulled → ℕ → W.Place → ℕ → T.Point → List T.Frame → World → Move
by_fate code (FateOf.Stops stop) nulled n lies units p k w = stopped stop k w
by_fate code FateOf.Goes nulled n lies units p k w = freed_in code nulled n lies units false p k w
by_fate code (FateOf.Finalizes type) nulled n lies units p k w = finalize_object code (parts_of code type) CauseOf.Free n type (T.Freeing nulled n lies units p ∷ k) w

-- what becomes of an object that is freed from its collection, by what is known of it
abbrev pub if_unfinished : Code → Stage → Ty → Fate
if_unfinished code stage (Record type) = if stage.has_joined && (is_untouched (state_of stage.life) && has_part (parts_of code type)) then FateOf.Finalizes type else FateOf.Goes
if_unfinished code stage ty = FateOf.Goes

abbrev pub fate_by_life : Code → Life → Stage → Ty → Fate
fate_by_life code LifeOf.Finalizing stage ty = FateOf.Stops StopOf.FreeWhileFinalizing
fate_by_life code life stage ty = if_unfinished code stage ty

abbrev pub fate_of_member : Code → Existing → Fate
fate_of_member code x = fate_by_life code x.stage.life x.stage x.ty

-- and from this collection
abbrev pub fate_by_origin : Code → ℕ → Origin → Existing → Fate
fate_by_origin code set (OriginOf.Declared m) x = FateOf.Stops StopOf.ForeignFree
fate_by_origin code set (OriginOf.Allocated c place) x = if nat_eq c set then fate_of_member code x else FateOf.Stops StopOf.ForeignFree

abbrev pub fate_of : Code → ℕ → Existing → Fate
fate_of code set x = fate_by_origin code set x.origin x

-- no master owns it, and what is finalized has a controlled part
abbrev pub MayBe : Code → Fate → ℕ → List Owned → Type 0
MayBe code (FateOf.Stops stop) n owned = Unit {0}
MayBe code FateOf.Goes n owned = OwnsNone n owned
MayBe code (FateOf.Finalizes type) n owned = OwnsNone n owned × (parts_of code type ≢ PartsOf.Plain)

-- this becomes of the object that a value designates, by the collection of an access type
pub record IsFate (code : Code) (v : Var) (n : ℕ) (owned : List Owned) (s : State) (fate : Fate) : Type 0 where
  pub may : MayBe code fate n owned
  pub moves : (place : ℕ) (nulled : T.Nulled) (pool : Option Var) (ops : List Word) → free_object code nulled (Some (record { collection = v; pool = pool })) (object_at n s.world) ops (here_of place s) ≡ by_fate code fate nulled n (storage_at (object_at n s.world)) (units_at code (object_at n s.world)) (behind_declaration ops (here_of place s)) s.control s.world

-- an object that is freed is finalized before, as one of this record type, and has this storage
pub record IsReleased (code : Code) (e : Engine) (release : Release) (type : ℕ) (w : World) : Type 0 where
  pub may : MayBe code (FateOf.Finalizes type) release.object e.owned.items
  pub stored : IsStored release.storage (storage_at (object_at release.object w)) (units_at code (object_at release.object w))

-- The end ----------------------------------------------------------------------------------------------

-- the place where it goes on: this one, if a Finalize failed, or else the next one
abbrev pub place_behind : Ended → ℕ → ℕ
place_behind EndedOf.Complete place = place + 1
place_behind _ place = place

-- the user wrote this body as the Deallocate of the type of the pool that is this object, and it is called for the block of an address
pub record IsDeallocation (code : Code) (objects : List Object) (call : Deallocation) (o : Object) (address body : ℕ) : Type 0 where
  pub object : object_in call.pool objects ≡ Some o
  pub number : o.number ≡ call.pool
  pub address_is : call.address ≡ address
  pub operation : operation_for (λ x. x.deallocate) code o.ty ≡ Some body
  pub body_is : call.body ≡ body

-- what a call answers by which storage was given back, where this comes of it in a world: the pools are shown then (13.11)
abbrev pub IsGivenBack : Code → ℕ → World → Stock → Table.GivenBack → GivenBack → Type 0
IsGivenBack code next w stock (Returned v) answer = (answer ≡ BackOf.Accepted) × (x : W.Pools) × (v ≡ record w { pools = x }) × ShowsPools next x stock
IsGivenBack code next w stock (NotReturned stop) answer = (answer ≡ BackOf.Stops stop) × ShowsPools next w.pools stock
IsGivenBack code next w stock (DeallocateOf o a f) answer = (call : Deallocation) × (answer ≡ BackOf.Calls call) × IsDeallocation code w.objects call o a f × ShowsPools next w.pools stock

-- an object that is freed, before it is gone or after that: where its freeing goes on, what waits, and the world
pub record Gone : Type 0 where
  pub point : T.Point
  pub control : List T.Frame
  pub world : World

-- behind the frame that frees an object
abbrev pub behind_frees : List T.Frame → World → Gone
behind_frees (T.Freeing nulled n storage units p ∷ k) w = record { point = p; control = k; world = w }
behind_frees k w = record { point = record { display = []; place = 0; operands = [] }; control = k; world = w }

-- the component that becomes null where a frame frees an object
abbrev pub part_of : List T.Frame → Spot
part_of (T.Freeing (T.NullPart s) n storage units p ∷ k) = s
part_of k = T.whole_spot 0

-- behind an instruction that frees an object
abbrev pub behind_instruction : Freed → Gone
behind_instruction t = record { point = point_of t; control = t.state.control; world = t.state.world }

-- the variable by which an object is freed has become null, and the object is gone
abbrev pub gone_by_variable : (object out slot : ℕ) → Gone → Gone
gone_by_variable object out slot t = record t { world = forget object (with_cell t.point.display out slot 0 t.world) }

-- the component by which an object is freed has become null, and the object is gone
abbrev pub gone_by_part : ℕ → Spot → Gone → Gone
gone_by_part object s t = record t { world = forget object (write_cells s.object s.offset (0 ∷ []) t.world) }

-- it goes on at a place
pub record GoesOnAt (code : Code) (e : Engine) (place : ℕ) (t : Gone) : Type 0 where
  pub stack : List Kind
  pub leads : Leads code place stack
  pub inside : Inside code (kept e) stack t.control t.point.operands t.world
  pub there : t.point.place ≡ place
  pub seen : t.point.display ≡ first_display (heads_of t.world.activations)

-- at a place, or at the next one
pub record IsGone (code : Code) (e : Engine) (place : ℕ) (t : Gone) : Type 0 where
  pub first : GoesOnAt code e place t
  pub next : Leads code (place + 1) first.stack

-- an object may be let go, and its freeing goes on at a place, or at the next one: no master owns it
pub record IsLetGo (code : Code) (e : Engine) (object place : ℕ) (t : Gone) : Type 0 where
  pub goes : IsGone code e place t
  pub foreign : OwnsNone object e.owned.items

-- the Deallocate of a pool object is called, and goes on at a place, where an object is gone
pub record Deallocates (code : Code) (e : Engine) (call : Deallocation) (units place : ℕ) (t : StorageCall) : Type 0 where
  pub goes_on : GoesOnAt code e place (record { point = t.point; control = t.control; world = t.world })
  pub is : IsDeallocation code e.stock.objects call t.object t.address t.body
  pub units_are : units ≡ t.units
  pub copies_none : t.copies ≡ 0

-- the user wrote the Deallocate of the type of an object that exists
abbrev pub has_deallocate : Code → Option Object → Bool
has_deallocate code None = false
has_deallocate code (Some o) = is_some (operation_for (λ x. x.deallocate) code o.ty)

-- storage is given back by such a Deallocate: that of the pool in which the block lies
abbrev pub calls_back : Code → Place → List Object → Bool
calls_back code (PlaceOf.InBlock block) objects = has_deallocate code (object_in block.pool objects)
calls_back code _ objects = false

-- there is room for the call of it, which goes on at a place: its window begins behind the operands that stay
abbrev pub HasReturnRoom : Code → Engine → Place → ℕ → Type 0
HasReturnRoom code e lies place = calls_back code lies e.stock.objects ≡ true → HasRoom code e (first_window (reverse e.masters.items) + height (stack_at code.kinds place))

-- how the freeing of an object goes on once it is gone: there is room for the call of a Deallocate
pub record IsEnding (code : Code) (e : Engine) (ending : Ending) : Type 0 where
  pub place : ending.place + 1 < 2 ^ 64
  pub room : HasReturnRoom code e ending.storage.place ending.place
