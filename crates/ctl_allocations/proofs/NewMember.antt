-- An object is allocated for a collection.
use Rattle.std.proofs.Common.{◌≡◌, ℕ, ◌+◌, List, [], ◌∷◌, ◌++◌, Option, Some, None, true, false, arith, refl, sym, ap, ◌∙◌, subst, replicate}
use Rattle.std.specs.Prelude.{Bool, slice_get, if◌then◌else◌}
use Rattle.ctl_tree.specs.declared.event.Owner.{Owner}
use Rattle.ctl_tree.specs.declared.event.Owner.TheVariants as OwnerOf
use Rattle.ctl_program.specs.declared.types.Ty.{Ty}
use Rattle.ctl_program.specs.declared.types.Ty.TheVariants.{Record}
use Rattle.ctl_program.specs.declared.types.Var.{Var}
use Rattle.ctl_meaning.specs.World as W
use Rattle.ctl_meaning.specs.World.{World, Allocated, Collection, InBlock, InSubpool, Place, Standard}
use Rattle.ctl_meaning.specs.Ledger.{opened_ledger}
use Rattle.ctl_meaning.specs.Changes.{create, in_pools, new_object, object_at, opened_changes, put_into}
use Rattle.ctl_meaning.specs.Outcome.{ByRaise, Fine, program_error, storage_error}
use Rattle.ctl_meaning.specs.Pools.{hold_block}
use Rattle.ctl_objects.specs.Pools.{ShowsPools}
use Rattle.ctl_objects.specs.Stock.{Stock}
use Rattle.ctl_code.specs.declared.kinds.Kind.{Kind}
use Rattle.ctl_code.specs.declared.kinds.Kind.TheVariants.{Operand}
use Rattle.ctl_code.specs.declared.code.Code.{Code}
use Rattle.ctl_code.specs.declared.code.Instr.TheVariants.{New}
use Rattle.ctl_code.specs.declared.code.Way.TheVariants as WayOf
use Rattle.ctl_code.specs.States as T
use Rattle.ctl_code.specs.States.{State, Word}
use Rattle.ctl_code.specs.Table.{AllocateOf, Exhausted, Grant, Granted, Here, UnknownPool, begin_part, begun_of, by_creating, by_instr, by_new, cells_for, come_to_life, gone, is_made_at_once, member_begins, new_at, newborn, parts_of, pool_in, set_seen, transfers, units_for, with_member}
use Rattle.ctl_code.specs.Valid.{IsScalar, Leads}
use Rattle.ctl_engine.specs.declared.engine.Engine.{Engine}
use Rattle.ctl_frames.specs.declared.frame.Frame.TheVariants as FrameOf
use Rattle.ctl_frames.specs.declared.frame.Mode.{Mode}
use Rattle.ctl_frames.specs.declared.frame.Owned.{Owned}
use Rattle.ctl_engine.specs.Allocating.{OwnsNone}
use Rattle.ctl_engine.specs.Copying.{IsMember, Refuses, Takes, point_at}
use Rattle.ctl_places.specs.Gathering.{Member, member_at, with_new_member}
use Rattle.ctl_places.specs.Granting.{IsAdded, IsNewMember, Lacks, storage_seen}
use Rattle.ctl_engine.specs.Initializing.{Awaits}
use Rattle.ctl_frames.specs.Masters.{Head, heads_of, first_display}
use Rattle.ctl_engine.specs.Moves.{Before, GoesOn, Inside, Makes, here_of}
use Rattle.ctl_frames.specs.Needs.{type_begun}
use Rattle.ctl_engine.specs.Shows.{Kept, Holds, Sized, kept, stock_of}
use Rattle.ctl_engine.proofs.Following.{makes_later}
use Rattle.ctl_engine.proofs.Foreign.{owns_no_next}
use Rattle.ctl_places.proofs.Granted.{IsBeside, goes_both}
use Rattle.ctl_lifetimes.proofs.MadeAtOnce.{comes_at_once, comes_by_parts}
use Rattle.ctl_engine.proofs.Owned.{owns_member}
use Rattle.ctl_engine.proofs.Plain.{transfers_makes}
use Rattle.ctl_engine.proofs.Stages.{Creates, allocator_begins, with_frame}
use Rattle.ctl_places.proofs.Touched.{gone_makes}

-- the collection that owns an object; 0 where a master does
abbrev pub set_of_owner : Owner → ℕ
set_of_owner (OwnerOf.Collection set) = set
set_of_owner (OwnerOf.Master m) = 0

-- Where storage was granted ------------------------------------------------------------------------------

pools_beside : (w : World) (f : W.Pools → W.Pools) (v : World) → IsBeside w v → IsBeside w (in_pools f v)
unfolding opened_changes
pools_beside w f v b = ap (λ (u : World). record u { pools = f v.pools }) b

put_beside : (place : Place) (n : ℕ) (w v : World) → IsBeside w v → IsBeside w (put_into place n v)
unfolding opened_changes
put_beside Standard n w v b = b
put_beside (InBlock p a) n w v b = pools_beside w (hold_block p a n) v b
put_beside (InSubpool s) n w v b = b

-- the world without the object differs from the one with it in this object alone, but for the pools
pub created_beside : (code : Code) (set : ℕ) (of : Ty) (place : Place) (w v : World) → IsBeside w v → IsBeside (create of (replicate (cells_for code of) 0) (Allocated set place) w) (with_member code set of place v)
unfolding opened_changes
created_beside code set of place w v b =
    let made : World → World = λ u. create of (replicate (cells_for code of) 0) (Allocated set place) u in
    put_beside place v.ledger.next_object (made w) (made v) (ap made b)

pub member_heads : (code : Code) (set : ℕ) (of : Ty) (place : Place) (w v : World) → IsBeside w v → heads_of (with_member code set of place v).activations ≡ heads_of w.activations
unfolding opened_changes
member_heads code set of place w v b = ap (λ (u : World). heads_of u.activations) (created_beside code set of place w v b)

-- An object is there ---------------------------------------------------------------------------------------

same_object : (objects : List W.Object) (number next set : ℕ) (of : Ty) (size : ℕ) (place : Place) → number ≡ next → objects ++ new_object number of (replicate size 0) (Allocated set place) ∷ [] ≡ objects ++ new_object next of (replicate size 0) (Allocated set place) ∷ []
same_object objects number next set of size place same = rw (same) refl

created_holds : (code : Code) (e : Kept) (x : Stock) (set : ℕ) (of : Ty) (place : Place) (pools : W.Pools) (k : List T.Frame) (ops : List Word) (w : World) → Holds code e k ops w → ShowsPools (e.next_object + 1) pools (stock_of (with_new_member set of place (replicate (cells_for code of) 0) x e))
    → Holds code (with_new_member set of place (replicate (cells_for code of) 0) x e) k ops (record (create of (replicate (cells_for code of) 0) (Allocated set place) w) { pools = pools })
unfolding opened_changes opened_ledger
created_holds code e x set of place pools k ops w h shown =
    let size = cells_for code of in
    record {
      cells = h.cells;
      room = h.room;
      masters = h.masters;
      below = h.below;
      waits = h.waits;
      objects = ap (λ (l : List W.Object). l ++ new_object w.ledger.next_object of (replicate size 0) (Allocated set place) ∷ []) h.objects
          ∙ same_object e.objects w.ledger.next_object e.next_object set of size place h.next_object;
      needs = h.needs;
      pools = shown;
      owns = owns_member e.owned e.next_object e.objects set place of (replicate size 0) h.owns;
      held = h.held;
      rise = h.rise;
      next_master = h.next_master;
      next_object = ap (λ c. c + 1) h.next_object;
      next_collection = h.next_collection;
      collections = h.collections;
      left = h.left;
      saved = h.saved;
      noted = h.noted;
    }

pub member_added : (code : Code) (old new : Kept) (set : ℕ) (of : Ty) (place : Place) (k : List T.Frame) (ops : List Word) (w v : World) → Holds code old k ops w → IsBeside w v → IsNewMember code old new set of place v → Holds code new k ops (with_member code set of place v)
member_added code old new set of place k ops w v h b i =
    let u = with_member code set of place v in
    let shown = subst (λ (x : Stock). ShowsPools (old.next_object + 1) u.pools x) (ap stock_of i.kept) i.pools in
    subst (λ (e : Kept). Holds code e k ops u) (sym i.kept)
    (subst (λ (z : World). Holds code (with_new_member set of place (replicate (cells_for code of) 0) (stock_of new) old) k ops z) (sym (created_beside code set of place w v b)) (created_holds code old (stock_of new) set of place u.pools k ops w h shown))

-- its number
pub member_number : (code : Code) (old new : Engine) (set : ℕ) (of : Ty) (place : Place) (v : World) → IsNewMember code (kept old) (kept new) set of place v → new.numbered.objects ≡ old.numbered.objects + 1
member_number code old new set of place v i = let next = ap (λ (e : Kept). e.next_object) i.kept in omega (arith, next)

-- the table gives it the same
pub member_next : (code : Code) (old new : Engine) (set : ℕ) (of : Ty) (place : Place) (w v : World) → w.ledger.next_object ≡ old.numbered.objects + 1 → IsBeside w v → IsNewMember code (kept old) (kept new) set of place v → v.ledger.next_object ≡ new.numbered.objects
member_next code old new set of place w v next beside i = ap (λ (u : World). u.ledger.next_object) beside ∙ (next ∙ sym (member_number code old new set of place v i))

-- It is to begin -------------------------------------------------------------------------------------

pub is_added : (code : Code) (old added : Engine) (set : ℕ) (of : Ty) (at : ℕ) (ty : Ty) (stack : List Kind) (place : Place) (k : List T.Frame) (p : T.Point) (w v : World) → Inside code (kept old) stack k p.operands w → p.place ≡ at → p.display ≡ first_display (heads_of w.activations) → IsScalar ty → Leads code p.place (Operand ty ∷ stack)
    → IsBeside w v → IsNewMember code (kept old) (kept added) set of place v → IsAdded code added set of at (record { place = place; control = k; point = p; granted = v })
is_added code old added set of at ty stack place k p w v inside there seen scalar leads beside i =
    let h = inside.holds in
    let heads = member_heads code set of place w v beside in
    let number : added.numbered.objects ≡ old.numbered.objects + 1 = member_number code old added set of place v i in
    let owned : added.owned.items ≡ old.owned.items = ap (λ (e : Kept). e.owned) i.kept in
    record {
      holds = member_added code (kept old) (kept added) set of place k p.operands w v h beside i;
      spots = ap (λ (e : Kept). e.spots) i.kept ∙ inside.spots;
      number = member_next code old added set of place w v h.next_object beside i;
      foreign = subst (λ (l : List Owned). OwnsNone added.numbered.objects l) (sym owned) (subst (λ c. OwnsNone c old.owned.items) (sym number) (owns_no_next old.owned.items (old.numbered.objects + 1) old.stock.objects h.owns));
      goes_on = there;
      seen = seen ∙ ap first_display (sym heads);
      stack = stack;
      type = ty;
      scalar = scalar;
      leads = leads;
      stands = inside.stands;
      sized = subst (λ (hs : List Head). Sized code stack k hs) (sym heads) inside.sized;
    }

-- the frame of its allocator waits for it
pub added_awaits : (code : Code) (added mid : Engine) (set t at : ℕ) (m : Member) → IsAdded code added set (Record t) at m → kept mid ≡ with_frame (FrameOf.Allocating added.numbered.objects at) (kept added) → Awaits code mid (member_at code set t m).control (member_at code set t m).world
added_awaits code added mid set t at m a is =
    let p = m.point in
    let g = member_at code set t m in
    let n = added.numbered.objects in
    let waits = allocator_begins Creates code (kept added) n t at p m.control g.world tt a.holds a.foreign a.goes_on a.seen in
    record {
      holds = subst (λ (x : Kept). Holds code x g.control [] g.world) (sym is) (subst (λ c. Holds code (with_frame (FrameOf.Allocating n at) (kept added)) (T.Creating T.ByAllocator c t p ∷ m.control) [] g.world) (sym a.number) waits);
      spots = ap (λ (e : Kept). e.spots) is ∙ a.spots;
      sized = (a.stack, (a.type, a.scalar, a.leads), a.sized);
    }

-- Nothing is executed for its creation -------------------------------------------------------------------

-- the state in which it is there, in a world
abbrev pub added_state : Member → World → State
added_state m w = record { mode = T.At [] 0; control = m.control; operands = m.point.operands; world = w; log = record { trace = []; taken = [] } }

-- it is one that its allocator creates
pub added_is : (code : Code) (added : Engine) (set : ℕ) (of : Ty) (at : ℕ) (m : Member) (w : World) → IsAdded code added set of at m → w ≡ with_member code set of m.place m.granted → IsMember code added added.numbered.objects at (added_state m w)
added_is code added set of at m w a is =
    subst (λ (v : World). IsMember code added added.numbered.objects at (added_state m v)) (sym is) (record {
      stack = a.stack;
      type = a.type;
      scalar = a.scalar;
      leads = subst (λ n. Leads code n (Operand a.type ∷ a.stack)) a.goes_on a.leads;
      inside = record { stands = a.stands; sized = a.sized; holds = a.holds; spots = a.spots };
      foreign = a.foreign;
    })

once_or : (b : Bool) (t : ℕ) → (if b then None else Some t) ≡ None → b ≡ true
once_or true t none = refl
once_or false t none = absurd (cc)

comes_alone : (code : Code) (set : ℕ) (of : Ty) (m : Member) → type_begun code of ≡ None
    → (let n = m.granted.ledger.next_object in let v = with_member code set of m.place m.granted in member_begins code of set m.place m.point m.control m.granted ≡ come_to_life T.ByAllocator n (object_at n v) m.point m.control v)
comes_alone code set (Record t) m none =
    comes_at_once code T.ByAllocator (newborn m.granted.ledger.next_object t (OwnerOf.Collection set)) m.point m.control (with_member code set (Record t) m.place m.granted) (once_or (is_made_at_once (parts_of code t) (begun_of code t)) t none)
comes_alone code set of m none = refl

-- it joins its collection at once
pub joins_at_once : (code : Code) (added new : Engine) (set : ℕ) (of : Ty) (at : ℕ) (m : Member) (w : World) → IsAdded code added set of at m → w ≡ with_member code set of m.place m.granted → type_begun code of ≡ None
    → (let s = added_state m w in Makes code added new (by_creating (Fine T.Complete) T.ByAllocator added.numbered.objects (point_at at s) s.control s.world)) → Makes code added new (member_begins code of set m.place m.point m.control m.granted)
joins_at_once code added new set of at m w a is none makes =
    let v = with_member code set of m.place m.granted in
    let n = added.numbered.objects in
    let ops = m.point.operands in
    let lives : ℕ → T.Point → World → T.Move = λ i p u. come_to_life T.ByAllocator i (object_at i u) p m.control u in
    let there : m.point ≡ point_at at (added_state m v) =
    ap (λ i. record { display = m.point.display; place = i; operands = ops }) a.goes_on ∙ ap (λ (d : List ℕ). record { display = d; place = at; operands = ops }) a.seen in
    let same : member_begins code of set m.place m.point m.control m.granted ≡ lives n (point_at at (added_state m w)) w =
    comes_alone code set of m none
    ∙ (ap (λ i. lives i m.point v) a.number ∙ (ap (λ (p : T.Point). lives n p v) there ∙ ap (λ (u : World). lives n (point_at at (added_state m u)) u) (sym is))) in
    subst (λ (y : T.Move). Makes code added new y) (sym same) makes

-- Something is executed for it ---------------------------------------------------------------------------

begun_or : (b : Bool) (t u : ℕ) → (if b then None else Some u) ≡ Some t → (u ≡ t) × (b ≡ false)
begun_or true t u is = absurd (cc)
begun_or false t u is = ((cc), refl)

-- it is of this record type
pub is_begun : (code : Code) (of : Ty) (t : ℕ) → type_begun code of ≡ Some t → (of ≡ Record t) × (is_made_at_once (parts_of code t) (begun_of code t) ≡ false)
is_begun code (Record u) t is =
    let begun = begun_or (is_made_at_once (parts_of code u) (begun_of code u)) t u is in
    (ap (λ n. Record n) begun.0, subst (λ n. is_made_at_once (parts_of code n) (begun_of code n) ≡ false) begun.0 begun.1)
is_begun code of t is = absurd (cc)

-- its components are to begin
pub begins_in_set : (code : Code) (added mid new : Engine) (set t : ℕ) (of : Ty) (m : Member) → type_begun code of ≡ Some t → mid.events.items ≡ added.events.items → mid.picks.items ≡ added.picks.items
    → (let g = member_at code set t m in Makes code mid new (begin_part code g.new g.control g.world)) → Makes code added new (member_begins code of set m.place m.point m.control m.granted)
begins_in_set code added mid new set t of m begun events picks made =
    let w = with_member code set (Record t) m.place m.granted in
    let x = newborn m.granted.ledger.next_object t (OwnerOf.Collection set) in
    let is = is_begun code of t begun in
    subst (λ (ty : Ty). Makes code added new (member_begins code ty set m.place m.point m.control m.granted)) (sym is.0)
    (subst (λ (y : T.Move). Makes code added new y) (sym (comes_by_parts code T.ByAllocator x m.point m.control w is.1)) (makes_later code added mid new _ events picks made))

-- No storage ---------------------------------------------------------------------------------------------

-- the machine makes what the table makes of it, whatever it makes where there is some
pub lacking_makes : (code : Code) (old mid new : Engine) (mode : Mode) (stack : List Kind) (ops : List Word) (h : Here) (move : Grant → T.Move) (g : Grant) → ((o : W.Object) (f : ℕ) → g ≡ AllocateOf o f → move (AllocateOf o f) ≡ gone h.control h.world) → move Exhausted ≡ transfers (ByRaise storage_error) h.control h.world → move UnknownPool ≡ gone h.control h.world
    → Inside code (kept old) stack h.control ops h.world → Lacks g mode → GoesOn old mid old.mode old.cells.items → GoesOn mid new mode mid.cells.items → Makes code old new (move g)
unfolding storage_error
lacking_makes code old mid new mode stack ops h move (Granted place v) asks raises stops i lacks before goes = absurd lacks
lacking_makes code old mid new mode stack ops h move Exhausted asks raises stops i lacks before goes =
    subst (λ (m : T.Move). Makes code old new m) (sym raises) (transfers_makes code old new (WayOf.Raise 2) tt stack h.control ops h.world i (subst (λ (m : Mode). GoesOn old new m old.cells.items) lacks (goes_both old mid new mode before goes)))
lacking_makes code old mid new mode stack ops h move UnknownPool asks raises stops i lacks before goes =
    subst (λ (m : T.Move). Makes code old new m) (sym stops) (gone_makes code old new h.control ops h.world i.holds (subst (λ (m : Mode). GoesOn old new m old.cells.items) lacks (goes_both old mid new mode before goes)))
lacking_makes code old mid new mode stack ops h move (AllocateOf o f) asks raises stops i lacks before goes =
    subst (λ (m : T.Move). Makes code old new m) (sym (asks o f refl)) (gone_makes code old new h.control ops h.world i.holds (subst (λ (m : Mode). GoesOn old new m old.cells.items) lacks (goes_both old mid new mode before goes)))

-- Collections that do not take objects -----------------------------------------------------------------

-- the table's move, where an object is not allocated
abbrev pub not_allocated : Code → Ty → Option Collection → Here → T.Move
not_allocated code of None h = gone h.control h.world
not_allocated code of (Some c) h = transfers (ByRaise program_error) h.control h.world

-- the machine makes it
pub refused_makes : (code : Code) (old new : Engine) (of : Ty) (mode : Mode) (stack : List Kind) (ops : List Word) (h : Here) → Inside code (kept old) stack h.control ops h.world → (o : Option Collection) → Refuses code of o mode → GoesOn old new mode old.cells.items → Makes code old new (not_allocated code of o h)
unfolding program_error
refused_makes code old new of mode stack ops h i None refuses goes = gone_makes code old new h.control ops h.world i.holds (subst (λ (m : Mode). GoesOn old new m old.cells.items) refuses goes)
refused_makes code old new of mode stack ops h i (Some c) refuses goes = transfers_makes code old new (WayOf.Raise 1) tt stack h.control ops h.world i (subst (λ (m : Mode). GoesOn old new m old.cells.items) refuses.1 goes)

refused_so : (code : Code) (old new : Engine) (of : Ty) (mode : Mode) (stack : List Kind) (pool : Option Var) (ops : List Word) (h : Here) → Inside code (kept old) stack h.control ops h.world → (o : Option Collection) → Refuses code of o mode → GoesOn old new mode old.cells.items → Makes code old new (by_new code of pool o ops h)
refused_so code old new of mode stack pool ops h i None refuses goes = refused_makes code old new of mode stack ops h i None refuses goes
refused_so code old new of mode stack pool ops h i (Some c) refuses goes = rw (refuses.0) (refused_makes code old new of mode stack ops h i (Some c) refuses goes)

-- By the instruction -----------------------------------------------------------------------------------

-- no collection takes it
pub set_refuses : (code : Code) (old new : Engine) (access place : ℕ) (of : Ty) (at : ℕ) (ty : Ty) (mode : Mode) (s : State) → Before code old place (New access of ty at) s → Refuses code of (set_seen (slice_get code.accesses.items access) (first_display (heads_of s.world.activations)) s.world) mode
    → GoesOn old new mode old.cells.items → Makes code old new (by_instr code (Some (New access of ty at)) s.operands (here_of place s))
set_refuses code old new access place of at ty mode s b refuses goes =
    let a = slice_get code.accesses.items access in
    refused_so code old new of mode b.stack (pool_in a) s.operands (here_of place s) b.inside (set_seen a (first_display (heads_of s.world.activations)) s.world) refuses goes

-- it takes the object, where there is storage
pub set_takes : (code : Code) (old new : Engine) (access place set : ℕ) (of : Ty) (at : ℕ) (ty : Ty) (s : State) → Takes code of (set_seen (slice_get code.accesses.items access) (first_display (heads_of s.world.activations)) s.world) set
    → Makes code old new (new_at code of set (storage_seen code access s (units_for code of)) s.operands (here_of place s)) → Makes code old new (by_instr code (Some (New access of ty at)) s.operands (here_of place s))
set_takes code old new access place set of at ty s u makes =
    let a = slice_get code.accesses.items access in
    subst (λ (o : Option Collection). Makes code old new (by_new code of (pool_in a) o s.operands (here_of place s))) (sym u.is)
    (rw (u.takes) (subst (λ n. Makes code old new (new_at code of n (storage_seen code access s (units_for code of)) s.operands (here_of place s))) (sym u.number) makes))
