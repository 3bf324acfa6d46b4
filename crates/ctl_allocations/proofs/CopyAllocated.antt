-- An object is allocated for a collection with the value of a part of another one.
use Rattle.std.proofs.Common.{◌≡◌, ℕ, ◌+◌, List, [], ◌∷◌, ◌++◌, Option, Some, None, length, refl, sym, ap, ◌∙◌, subst, arith, drop, replicate}
use Rattle.std.specs.Prelude.{◌-◌, is_some, slice_get, slice_index_or, true}
use Rattle.std.specs.Option.{option_map_or}
use Rattle.ctl_tree.specs.declared.ending.Stop.TheVariants.{UseAfterFree}
use Rattle.ctl_tree.specs.declared.event.Owner.TheVariants as OwnerOf
use Rattle.ctl_program.specs.declared.types.Ty.{Ty}
use Rattle.ctl_program.specs.declared.types.Ty.TheVariants.{Record}
use Rattle.ctl_program.specs.declared.types.Var.{Var}
use Rattle.ctl_meaning.specs.World as W
use Rattle.ctl_meaning.specs.World.{Allocated, Collection, InBlock, Place, Standard, World}
use Rattle.ctl_meaning.specs.Objects.{cells_at, change_in, object_in, with_cells, first_cells}
use Rattle.ctl_meaning.specs.Changes.{new_object, object_at, write_cells, opened_changes}
use Rattle.ctl_meaning.specs.Finalization.{Spot}
use Rattle.ctl_meaning.specs.Outcome.{Fine}
use Rattle.ctl_code.specs.declared.code.Code.{Code}
use Rattle.ctl_code.specs.declared.code.Instr.TheVariants.{NewCopy}
use Rattle.ctl_code.specs.declared.kinds.Kind.{Kind}
use Rattle.ctl_code.specs.declared.kinds.Kind.TheVariants.{Operand}
use Rattle.ctl_code.specs.declared.code.Parts.{Parts}
use Rattle.ctl_code.specs.declared.code.Parts.TheVariants as PartsOf
use Rattle.ctl_code.specs.States as T
use Rattle.ctl_code.specs.States.{State, Word}
use Rattle.ctl_code.specs.Table.{Grant, Granted, Here, adjust_new, by_creating, by_instr, copy_at, copy_begins, new_from, new_with, newborn, parts_of, pool_in, set_seen, size_of, units_of, with_member}
use Rattle.ctl_code.specs.Valid.{IsScalar, Leads}
use Rattle.ctl_engine.specs.declared.engine.Engine.{Engine}
use Rattle.ctl_frames.specs.declared.frame.Frame.{Frame}
use Rattle.ctl_frames.specs.declared.frame.Frame.TheVariants as FrameOf
use Rattle.ctl_frames.specs.declared.frame.Mode.{Mode}
use Rattle.ctl_frames.specs.declared.frame.Mode.TheVariants as ModeOf
use Rattle.ctl_frames.specs.declared.frame.Owned.{Owned}
use Rattle.ctl_engine.specs.Allocating.{OwnsNone}
use Rattle.ctl_engine.specs.Copying.{AwaitsCopy, IsMember, Refuses, Takes, point_at}
use Rattle.ctl_engine.specs.Declaring.{NewObject}
use Rattle.ctl_engine.specs.Finishing.{with_objects}
use Rattle.ctl_places.specs.Granting.{IsNewMember, number_at, storage_seen}
use Rattle.ctl_frames.specs.Masters.{Head, heads_of, first_display}
use Rattle.ctl_engine.specs.Moves.{Before, GoesOn, Inside, Makes, here_of}
use Rattle.ctl_engine.specs.Shows.{Holds, Kept, Sized, kept, with_spots}
use Rattle.ctl_frames.specs.Spots.{value_on_top, first_spot, standing}
use Rattle.ctl_lifetimes.proofs.CopyBegun.{noted_from}
use Rattle.ctl_allocations.proofs.CopyDeclared.{value_taken}
use Rattle.ctl_engine.proofs.Following.{makes_later}
use Rattle.ctl_engine.proofs.Foreign.{owns_no_next}
use Rattle.ctl_places.proofs.Located.{on_part, on_value, part_on_top}
use Rattle.ctl_places.proofs.Granted.{IsBeside}
use Rattle.ctl_allocations.proofs.NewMember.{member_added, member_heads, member_next, member_number, not_allocated, refused_makes}
use Rattle.ctl_engine.proofs.Operands.{HasPart}
use Rattle.ctl_engine.proofs.Owned.{cells_keep, holds_changed, new_found, object_shown, some_there}
use Rattle.ctl_engine.proofs.Stages.{Copies, allocator_begins}
use Rattle.ctl_places.proofs.Touched.{gone_makes}
use Rattle.ctl_frames.proofs.Words.{newest_read}
use Rattle.ctl_engine.specs.RecordValues.{IsPart, IsValue}

-- It is to be adjusted -----------------------------------------------------------------------------------

-- an allocated object as one that has taken a value
abbrev pub member_at : ℕ → ℕ → State → NewObject
member_at object place s = record { number = object; point = point_at place s; control = s.control; world = s.world }

-- where the allocator of a frame goes on
abbrev pub place_of : Frame → ℕ
place_of (FrameOf.AllocatingCopy object t place first) = place
place_of _ = 0

-- the frame of its allocator is to wait for it
pub member_awaits_copy : (code : Code) (old : Engine) (object type place first : ℕ) (s : State) → IsMember code old object place s → first ≡ length old.noted.items → AwaitsCopy code old (FrameOf.AllocatingCopy object type place first) T.ByAllocator type (member_at object place s)
member_awaits_copy code old object type place first s m begins = record {
  holds = allocator_begins (Copies first []) code (kept old) object type place (point_at place s) s.control s.world (noted_from code old (member_at object place s) first begins m.inside.holds, refl) m.inside.holds m.foreign refl refl;
  spots = m.inside.spots;
  sized = (m.stack, (m.type, m.scalar, m.leads), m.inside.sized);
}

-- where no part of it is controlled, it joins its collection at once
pub plain_joins : (code : Code) (old new : Engine) (object type place set : ℕ) (s : State) → parts_of code type ≡ PartsOf.Plain → Makes code old new (by_creating (Fine T.Complete) T.ByAllocator object (point_at place s) s.control s.world)
    → Makes code old new (adjust_new code (parts_of code type) T.ByAllocator (newborn object type (OwnerOf.Collection set)) (point_at place s) s.control s.world)
plain_joins code old new object type place set s plain makes =
    subst (λ (p : Parts). Makes code old new (adjust_new code p T.ByAllocator (newborn object type (OwnerOf.Collection set)) (point_at place s) s.control s.world)) (sym plain) makes

-- It takes the value -------------------------------------------------------------------------------------

-- a new object of a collection, which has taken this value
abbrev pub with_taken : List ℕ → ℕ → List Spot → Kept → Kept
with_taken value number spots e = record e { spots = spots; objects = change_in number (with_cells 0 value) e.objects }

-- it is allocated, and then its cells are copied from an object that was there
pub taken_kept : (code : Code) (old made : Kept) (objects : List W.Object) (set t source start offset size number : ℕ) (place : Place) (v : World) (o : W.Object)
    → IsNewMember code old made set (Record t) place v → number ≡ old.next_object → object_in source old.objects ≡ Some o → start ≡ offset → size ≡ size_of code t
    → objects ≡ option_map_or (λ z. change_in number (with_cells 0 (cells_at start size z)) made.objects) (object_in source made.objects) made.objects
    → objects ≡ change_in old.next_object (with_cells 0 (cells_at offset (size_of code t) o)) made.objects
taken_kept code old made objects set t source start offset size number place v o added next there from all copied =
    let x = new_object old.next_object (Record t) (replicate (size_of code t) 0) (Allocated set place) in
    let more : made.objects ≡ old.objects ++ x ∷ [] = ap (λ (e : Kept). e.objects) added.kept in
    value_taken old.objects made.objects objects x source start offset size (size_of code t) number old.next_object o more next there from all copied
    ∙ ap (λ (l : List W.Object). change_in old.next_object (with_cells 0 (cells_at offset (size_of code t) o)) l) (sym more)

-- or takes this value
pub given_taken : (code : Code) (old made : Kept) (objects : List W.Object) (number : ℕ) (v value : List ℕ) → number ≡ old.next_object → v ≡ value → objects ≡ change_in number (with_cells 0 v) made.objects → objects ≡ change_in old.next_object (with_cells 0 value) made.objects
given_taken code old made objects number v value next is written =
    written
    ∙ (ap (λ n. change_in n (with_cells 0 v) made.objects) next
    ∙ ap (λ (l : List ℕ). change_in old.next_object (with_cells 0 l) made.objects) is)

-- other parts may stand beside the window
spots_apart : (code : Code) (old made : Kept) (set t : ℕ) (place : Place) (v : World) (spots : List Spot) → IsNewMember code old made set (Record t) place v → IsNewMember code (with_spots old spots) (with_spots made spots) set (Record t) place v
spots_apart code old made set t place v spots i = record { kept = ap (λ (e : Kept). with_spots e spots) i.kept; pools = i.pools }

-- what is shown then
taken_holds : (code : Code) (old made : Kept) (set t : ℕ) (place : Place) (value : List ℕ) (k : List T.Frame) (ops : List Word) (w v : World) → Holds code old k ops w → IsBeside w v → IsNewMember code old made set (Record t) place v
    → Holds code (with_objects (change_in old.next_object (with_cells 0 value) made.objects) made) k ops (write_cells v.ledger.next_object 0 value (with_member code set (Record t) place v))
unfolding opened_changes
taken_holds code old made set t place value k ops w v h b i =
    let u = with_member code set (Record t) place v in
    let added = member_added code old made set (Record t) place k ops w v h b i in
    let taken = holds_changed code made k ops u old.next_object (with_cells 0 value) (cells_keep 0 value) added in
    let next : v.ledger.next_object ≡ old.next_object = ap (λ (z : World). z.ledger.next_object) b ∙ h.next_object in
    subst (λ c. Holds code (with_objects (change_in old.next_object (with_cells 0 value) made.objects) made) k ops (write_cells c 0 value u)) (sym next) taken

taken_heads : (code : Code) (n set t : ℕ) (place : Place) (value : List ℕ) (w v : World) → IsBeside w v → heads_of (write_cells n 0 value (with_member code set (Record t) place v)).activations ≡ heads_of w.activations
unfolding opened_changes
taken_heads code n set t place value w v b = member_heads code set (Record t) place w v b

member_there : (code : Code) (old made : Kept) (set t : ℕ) (place : Place) (k : List T.Frame) (ops : List Word) (w v : World) → Holds code old k ops w → IsBeside w v → IsNewMember code old made set (Record t) place v
    → object_at v.ledger.next_object (with_member code set (Record t) place v) ≡ Some (new_object old.next_object (Record t) (replicate (size_of code t) 0) (Allocated set place))
unfolding opened_changes
member_there code old made set t place k ops w v h b i =
    let u = with_member code set (Record t) place v in
    let x = new_object old.next_object (Record t) (replicate (size_of code t) 0) (Allocated set place) in
    let added = member_added code old made set (Record t) place k ops w v h b i in
    let next : v.ledger.next_object ≡ old.next_object = ap (λ (z : World). z.ledger.next_object) b ∙ h.next_object in
    ap (λ c. object_at c u) next
    ∙ (object_shown code made k ops u old.next_object added
    ∙ (ap (λ (e : Kept). object_in old.next_object e.objects) i.kept ∙ new_found old.owned old.next_object old.objects x h.owns refl))

-- the state then, with these operands
abbrev pub taken_by : Code → ℕ → ℕ → Place → World → List ℕ → List Word → State → State
taken_by code set t place v value rest s = record s { operands = rest; world = write_cells v.ledger.next_object 0 value (with_member code set (Record t) place v) }

-- the move of the table, by which the allocator goes on there
abbrev pub copy_move : Code → ℕ → ℕ → ℕ → Place → World → List ℕ → List Word → State → T.Move
copy_move code at set t place v value rest s = copy_begins code t value set place (record { display = first_display (heads_of s.world.activations); place = at; operands = rest }) s.control v

-- what the table makes of it
table_takes : (code : Code) (old made : Kept) (at set t : ℕ) (place : Place) (v : World) (value : List ℕ) (rest : List Word) (s : State) → Holds code old s.control s.operands s.world → IsBeside s.world v → IsNewMember code old made set (Record t) place v
    → copy_move code at set t place v value rest s
    ≡ (let x = taken_by code set t place v value rest s in adjust_new code (parts_of code t) T.ByAllocator (newborn v.ledger.next_object t (OwnerOf.Collection set)) (point_at at (record x { world = s.world })) x.control x.world)
table_takes code old made at set t place v value rest s h b i = rw (member_there code old made set t place s.control s.operands s.world v h b i) refl

-- the new object has taken the value, and its allocator goes on there
pub value_is : (code : Code) (old made new : Engine) (at set t : ℕ) (ty : Ty) (stack : List Kind) (place : Place) (v : World) (value : List ℕ) (rest : List Word) (s : State) → IsScalar ty → Leads code at (Operand ty ∷ stack) → Inside code (with_spots (kept old) (standing s.control rest)) stack s.control rest s.world → IsBeside s.world v → IsNewMember code (kept old) (kept made) set (Record t) place v
    → kept new ≡ with_taken value (old.numbered.objects + 1) (standing s.control rest) (kept made)
    → IsMember code new made.numbered.objects at (taken_by code set t place v value rest s)
value_is code old made new at set t ty stack place v value rest s scalar leads left beside i are =
    let x = taken_by code set t place v value rest s in
    let spots = standing s.control rest in
    let taken = with_taken value (old.numbered.objects + 1) spots (kept made) in
    let heads : heads_of x.world.activations ≡ heads_of s.world.activations = taken_heads code v.ledger.next_object set t place value s.world v beside in
    let inside : Inside code taken stack s.control rest x.world = record {
      stands = left.stands;
      sized = subst (λ (l : List Head). Sized code stack s.control l) (sym heads) left.sized;
      holds = taken_holds code (with_spots (kept old) spots) (with_spots (kept made) spots) set t place value s.control rest s.world v left.holds beside (spots_apart code (kept old) (kept made) set t place v spots i);
      spots = left.spots;
    } in
    let number : made.numbered.objects ≡ old.numbered.objects + 1 = member_number code old made set (Record t) place v i in
    let owned : new.owned.items ≡ old.owned.items = ap (λ (z : Kept). z.owned) are ∙ ap (λ (z : Kept). z.owned) i.kept in
    let foreign : OwnsNone (old.numbered.objects + 1) old.owned.items = owns_no_next old.owned.items (old.numbered.objects + 1) old.stock.objects left.holds.owns in
    record {
      stack = stack;
      type = ty;
      scalar = scalar;
      leads = leads;
      inside = subst (λ (z : Kept). Inside code z stack s.control rest x.world) (sym are) inside;
      foreign = subst (λ (l : List Owned). OwnsNone made.numbered.objects l) (sym owned) (subst (λ n. OwnsNone n old.owned.items) (sym number) foreign);
    }

pub value_makes : (code : Code) (old made mid new : Engine) (at set t : ℕ) (place : Place) (v : World) (value : List ℕ) (rest : List Word) (s : State) → Holds code (kept old) s.control s.operands s.world → IsBeside s.world v → IsNewMember code (kept old) (kept made) set (Record t) place v
    → mid.events.items ≡ old.events.items → mid.picks.items ≡ old.picks.items
    → (let x = taken_by code set t place v value rest s in Makes code mid new (adjust_new code (parts_of code t) T.ByAllocator (newborn made.numbered.objects t (OwnerOf.Collection set)) (point_at at x) x.control x.world)) → Makes code old new (copy_move code at set t place v value rest s)
value_makes code old made mid new at set t place v value rest s h beside i events picks makes =
    let x = taken_by code set t place v value rest s in
    let goes : List Head → ℕ → T.Move = λ hs n. adjust_new code (parts_of code t) T.ByAllocator (newborn n t (OwnerOf.Collection set)) (record { display = first_display hs; place = at; operands = rest }) x.control x.world in
    let same : copy_move code at set t place v value rest s ≡ goes (heads_of x.world.activations) made.numbered.objects =
    table_takes code (kept old) (kept made) at set t place v value rest s h beside i
    ∙ (ap (λ n. goes (heads_of s.world.activations) n) (member_next code old made set (Record t) place s.world v h.next_object beside i)
    ∙ ap (λ (hs : List Head). goes hs made.numbered.objects) (sym (taken_heads code v.ledger.next_object set t place value s.world v beside))) in
    subst (λ (m : T.Move). Makes code old new m) (sym same) (makes_later code old mid new _ events picks makes)

-- the state where it takes the value of a record, at the address that an Allocate gave
abbrev pub kept_state : Code → ℕ → ℕ → State → State
kept_state code set t s = taken_by code set t (InBlock (number_at s.operands 2) (number_at s.operands 0)) s.world (value_on_top (drop 4 s.operands)) (drop 1 (drop 4 s.operands)) s

-- Where storage was granted ------------------------------------------------------------------------------

-- the value of the part that was the newest operand
abbrev pub value_of : Code → ℕ → W.Object → State → List ℕ
value_of code t o s = cells_at (first_spot s.operands).offset (size_of code t) o

-- the state then, with a value
abbrev pub taken_state : Code → ℕ → ℕ → Place → World → List ℕ → State → State
taken_state code set t place v value s = taken_by code set t place v value (drop 1 s.operands) s

-- the move of the table, where it was or not
abbrev pub member_copied : Code → ℕ → ℕ → ℕ → List ℕ → State → Grant → T.Move
member_copied code at set t value s g = copy_at code t value set g (drop 1 s.operands) (here_of at s)

-- the part whose value is taken
pub source_part : (code : Code) (e : Engine) (access place t at : ℕ) (ty : Ty) (s : State) → (b : Before code e place (NewCopy access t ty at) s) → HasPart code (kept e) b.fine.2.0 s.control s.operands s.world
source_part code e access place t at ty s b = part_on_top code e t b.stack b.fine.2.0 s b.inside b.fine.2.1

pub taken_is : (code : Code) (old made new : Engine) (access at set t cell : ℕ) (ty : Ty) (place : Place) (v : World) (value : List ℕ) (s : State) → Before code old at (NewCopy access t ty cell) s → IsBeside s.world v → IsNewMember code (kept old) (kept made) set (Record t) place v
    → kept new ≡ with_taken value (old.numbered.objects + 1) (standing s.control (drop 1 s.operands)) (kept made)
    → IsMember code new made.numbered.objects (at + 2) (taken_state code set t place v value s)
taken_is code old made new access at set t cell ty place v value s b beside i are =
    let p = source_part code old access at t cell ty s b in
    let behind : at + 1 + 1 ≡ at + 2 = omega arith in
    value_is code old made new (at + 2) set t ty b.fine.2.0 place v value (drop 1 s.operands) s b.fine.0 (subst (λ n. Leads code n (Operand ty ∷ b.fine.2.0)) behind b.fine.2.2.2) p.left beside i are

pub taken_makes : (code : Code) (old made mid new : Engine) (access at set t cell : ℕ) (ty : Ty) (place : Place) (v : World) (value : List ℕ) (s : State) → Before code old at (NewCopy access t ty cell) s → IsBeside s.world v → IsNewMember code (kept old) (kept made) set (Record t) place v
    → mid.events.items ≡ old.events.items → mid.picks.items ≡ old.picks.items
    → (let x = taken_state code set t place v value s in Makes code mid new (adjust_new code (parts_of code t) T.ByAllocator (newborn made.numbered.objects t (OwnerOf.Collection set)) (point_at (at + 2) x) x.control x.world)) → Makes code old new (member_copied code at set t value s (Granted place v))
taken_makes code old made mid new access at set t cell ty place v value s b beside i events picks makes =
    let behind : at + 2 ≡ at + 1 + 1 = omega arith in
    subst (λ n. Makes code old new (copy_move code n set t place v value (drop 1 s.operands) s)) behind (value_makes code old made mid new (at + 2) set t place v value (drop 1 s.operands) s b.inside.holds beside i events picks makes)

-- By the instruction -------------------------------------------------------------------------------------

-- the collection of an access type, where it is seen
abbrev pub seen_in : Code → ℕ → State → Option Collection
seen_in code access s = set_seen (slice_get code.accesses.items access) (first_display (heads_of s.world.activations)) s.world

-- its storage pool
abbrev pub pool_of : Code → ℕ → Option Var
pool_of code access = pool_in (slice_get code.accesses.items access)

copied_move : (code : Code) (place access t at : ℕ) (ty : Ty) (s : State) → IsPart s.operands
    → by_instr code (Some (NewCopy access t ty at)) s.operands (here_of place s) ≡ new_from code t (first_spot s.operands).offset (object_at (first_spot s.operands).object s.world) (pool_of code access) (seen_in code access s) (drop 1 s.operands) (here_of place s)
copied_move code place access t at ty s top =
    let h = here_of place s in
    on_part (λ y rest. new_from code t y.offset (object_at y.object s.world) (pool_of code access) (seen_in code access s) rest h) (λ v rest. new_with code t (first_cells (size_of code t) v) (pool_of code access) (seen_in code access s) rest h) s.operands h top

-- with the value of a record
given_move : (code : Code) (place access t at : ℕ) (ty : Ty) (s : State) → IsValue s.operands
    → by_instr code (Some (NewCopy access t ty at)) s.operands (here_of place s) ≡ new_with code t (first_cells (size_of code t) (value_on_top s.operands)) (pool_of code access) (seen_in code access s) (drop 1 s.operands) (here_of place s)
given_move code place access t at ty s top =
    let h = here_of place s in
    on_value (λ y rest. new_from code t y.offset (object_at y.object s.world) (pool_of code access) (seen_in code access s) rest h) (λ v rest. new_with code t (first_cells (size_of code t) v) (pool_of code access) (seen_in code access s) rest h) s.operands h top

-- an object that is there
abbrev pub object_or : Option W.Object → W.Object
object_or None = new_object 0 (Record 0) [] (Allocated 0 Standard)
object_or (Some o) = o

pub source_found : (code : Code) (e : Engine) (access place t at : ℕ) (ty : Ty) (s : State) → Before code e place (NewCopy access t ty at) s → (count number : ℕ) (x : Spot) → count ≡ length e.spots.items → x ≡ slice_index_or e.spots.items (count - 1) x → number ≡ x.object
    → is_some (object_in number e.stock.objects) ≡ true → object_at (first_spot s.operands).object s.world ≡ Some (object_or (object_at (first_spot s.operands).object s.world))
source_found code e access place t at ty s b count number x all read is there =
    let y = first_spot s.operands in
    let p = source_part code e access place t at ty s b in
    let same : x ≡ y = newest_read e.spots.items (standing s.control (drop 1 s.operands)) y x count p.spots all read in
    let some = some_there (object_in number e.stock.objects) there in
    let found : object_in y.object e.stock.objects ≡ Some some.0 = ap (λ n. object_in n e.stock.objects) (sym (is ∙ ap (λ (z : Spot). z.object) same)) ∙ some.1 in
    let shown : object_at y.object s.world ≡ Some some.0 = object_shown code (kept e) s.control s.operands s.world y.object b.inside.holds ∙ found in
    shown ∙ ap (λ (z : Option W.Object). Some (object_or z)) (sym shown)

-- the object of the part is gone
pub source_gone : (code : Code) (old new : Engine) (access place t at : ℕ) (ty : Ty) (s : State) → Before code old place (NewCopy access t ty at) s → IsPart s.operands → object_in (first_spot s.operands).object old.stock.objects ≡ None
    → GoesOn old new (ModeOf.Stopped UseAfterFree) old.cells.items → Makes code old new (by_instr code (Some (NewCopy access t ty at)) s.operands (here_of place s))
source_gone code old new access place t at ty s b top none goes =
    let y = first_spot s.operands in
    let rest = drop 1 s.operands in
    let object : object_at y.object s.world ≡ None = object_shown code (kept old) s.control s.operands s.world y.object b.inside.holds ∙ none in
    subst (λ (m : T.Move). Makes code old new m) (sym (copied_move code place access t at ty s top ∙ ap (λ (z : Option W.Object). new_from code t y.offset z (pool_of code access) (seen_in code access s) rest (here_of place s)) object))
    (gone_makes code old new s.control s.operands s.world b.inside.holds goes)

-- it is there
pub source_there : (code : Code) (access place t at : ℕ) (ty : Ty) (o : W.Object) (s : State) → IsPart s.operands → object_at (first_spot s.operands).object s.world ≡ Some o
    → by_instr code (Some (NewCopy access t ty at)) s.operands (here_of place s) ≡ new_with code t (cells_at (first_spot s.operands).offset (size_of code t) o) (pool_of code access) (seen_in code access s) (drop 1 s.operands) (here_of place s)
source_there code access place t at ty o s top there =
    copied_move code place access t at ty s top ∙ ap (λ (z : Option W.Object). new_from code t (first_spot s.operands).offset z (pool_of code access) (seen_in code access s) (drop 1 s.operands) (here_of place s)) there

-- no collection takes the new object
refused_with : (code : Code) (t : ℕ) (mode : Mode) (v : List ℕ) (pool : Option Var) (ops : List Word) (h : Here) (c : Option Collection) → Refuses code (Record t) c mode → new_with code t v pool c ops h ≡ not_allocated code (Record t) c h
refused_with code t mode v pool ops h None refuses = refl
refused_with code t mode v pool ops h (Some c) refuses = rw (refuses.0) refl

-- by the instruction, whose value is this
abbrev pub HasValueTo : Code → ℕ → ℕ → ℕ → ℕ → Ty → List ℕ → State → Type 0
HasValueTo code access place t at ty value s = by_instr code (Some (NewCopy access t ty at)) s.operands (here_of place s) ≡ new_with code t value (pool_of code access) (seen_in code access s) (drop 1 s.operands) (here_of place s)

pub has_given : (code : Code) (access place t at : ℕ) (ty : Ty) (s : State) → IsValue s.operands → HasValueTo code access place t at ty (first_cells (size_of code t) (value_on_top s.operands)) s
has_given code access place t at ty s top = given_move code place access t at ty s top

pub copy_refused : (code : Code) (old new : Engine) (access place t at : ℕ) (ty : Ty) (mode : Mode) (value : List ℕ) (s : State) → Before code old place (NewCopy access t ty at) s → HasValueTo code access place t at ty value s
    → Refuses code (Record t) (seen_in code access s) mode → GoesOn old new mode old.cells.items → Makes code old new (by_instr code (Some (NewCopy access t ty at)) s.operands (here_of place s))
copy_refused code old new access place t at ty mode value s b move refuses goes =
    subst (λ (m : T.Move). Makes code old new m)
    (sym (move ∙ refused_with code t mode value (pool_of code access) (drop 1 s.operands) (here_of place s) (seen_in code access s) refuses))
    (refused_makes code old new (Record t) mode b.stack s.operands (here_of place s) b.inside (seen_in code access s) refuses goes)

-- it takes it, where there is storage
takes_with : (code : Code) (access place t set : ℕ) (value : List ℕ) (s : State) (c : Option Collection) → Takes code (Record t) c set
    → new_with code t value (pool_of code access) c (drop 1 s.operands) (here_of place s) ≡ member_copied code place set t value s (storage_seen code access s (units_of code t))
takes_with code access place t set value s c u =
    ap (λ (z : Option Collection). new_with code t value (pool_of code access) z (drop 1 s.operands) (here_of place s)) u.is
    ∙ rw (u.takes) (ap (λ n. member_copied code place n t value s (storage_seen code access s (units_of code t))) u.number)

pub copy_takes : (code : Code) (old new : Engine) (access place set t at : ℕ) (ty : Ty) (value : List ℕ) (s : State) → HasValueTo code access place t at ty value s
    → Takes code (Record t) (seen_in code access s) set → Makes code old new (member_copied code place set t value s (storage_seen code access s (units_of code t))) → Makes code old new (by_instr code (Some (NewCopy access t ty at)) s.operands (here_of place s))
copy_takes code old new access place set t at ty value s move u makes =
    subst (λ (m : T.Move). Makes code old new m) (sym (move ∙ takes_with code access place t set value s (seen_in code access s) u)) makes
