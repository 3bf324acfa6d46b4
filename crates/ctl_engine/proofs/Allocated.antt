-- The creation of an allocated object has ended: the object joins its collection, or it is gone.
use Rattle.std.proofs.Common.{◌≡◌, ◌≢◌, ℕ, ◌+◌, ◌<◌, List, [], ◌∷◌, ◌++◌, Option, Some, None, Bool, true, false, drop, length, refl, sym, ap, ◌∙◌, subst, reverse}
use Rattle.std.specs.Prelude.{nat_eq, slice_set}
use Rattle.std.proofs.lemmas.List.{append-nil, append_assoc}
use Rattle.ctl_tree.specs.declared.ending.Stop.TheVariants.{UseAfterFree}
use Rattle.ctl_program.specs.declared.types.Ty.{Ty}
use Rattle.ctl_meaning.specs.Allocation.{is_new, set_of}
use Rattle.ctl_meaning.specs.Changes.{forget, join, object_at, opened_changes}
use Rattle.ctl_meaning.specs.Lists.{change_first}
use Rattle.ctl_meaning.specs.Objects.{change_in, with_joined, opened_objects}
use Rattle.ctl_meaning.specs.Outcome.{Fine, Raised, Tried}
use Rattle.ctl_meaning.specs.World as W
use Rattle.ctl_meaning.specs.World.{World}
use Rattle.ctl_storage.specs.Order as Order
use Rattle.ctl_objects.proofs.Both.{first_is_each}
use Rattle.ctl_code.specs.declared.kinds.Kind.{Kind}
use Rattle.ctl_code.specs.declared.kinds.Kind.TheVariants.{Operand}
use Rattle.ctl_code.specs.declared.code.Code.{Code}
use Rattle.ctl_code.specs.declared.code.Way.TheVariants as WayOf
use Rattle.ctl_code.specs.Kinds.{stack_at}
use Rattle.ctl_code.specs.States as T
use Rattle.ctl_code.specs.States.{cells_of, Scalar, Word, State, Giving}
use Rattle.ctl_code.specs.Table.{act, by_copying, by_creating, come_to_life, gone, joins, on_with}
use Rattle.ctl_code.specs.Valid.{IsValid, Leads}
use Rattle.ctl_code.specs.Windows.{height}
use Rattle.ctl_code.specs.Fits.{Waits}
use Rattle.ctl_engine.specs.declared.engine.Engine.{Engine}
use Rattle.ctl_frames.specs.declared.frame.Ended.{Ended}
use Rattle.ctl_frames.specs.declared.frame.Ended.TheVariants as EndedOf
use Rattle.ctl_frames.specs.declared.frame.Frame.{Frame}
use Rattle.ctl_frames.specs.declared.frame.Frame.TheVariants as FrameOf
use Rattle.ctl_frames.specs.declared.frame.Master.{Master}
use Rattle.ctl_frames.specs.declared.frame.Mode.{Mode}
use Rattle.ctl_frames.specs.declared.frame.Mode.TheVariants as ModeOf
use Rattle.ctl_frames.specs.declared.frame.Owned.{Owned}
use Rattle.ctl_engine.specs.Allocating.{MayJoin, OwnsNone}
use Rattle.ctl_frames.specs.Filling.{AllLeaveSame}
use Rattle.ctl_engine.specs.Finishing.{with_objects}
use Rattle.ctl_frames.specs.Masters.{Head, heads_of, first_display, first_window}
use Rattle.ctl_engine.specs.Moves.{BeforeResuming, Inside, Makes}
use Rattle.ctl_engine.specs.Shows.{Wait, allocating_copy_waits, allocating_waits, Kept, Holds, Sized, SizedBelow, ShowsMode, kept, tried_of, with_cells, stock_of}
use Rattle.ctl_engine.specs.Copying.{IsMember, point_at}
use Rattle.ctl_frames.specs.Spots.{KeepsSpots, spots_in}
use Rattle.ctl_frames.specs.Under.{laid}
use Rattle.ctl_engine.proofs.Behind.{same_stack}
use Rattle.ctl_engine.proofs.Foreign.{forgotten, owns_without}
use Rattle.ctl_engine.proofs.Blocks.{stack_is}
use Rattle.ctl_engine.proofs.Following.{makes_later}
use Rattle.ctl_engine.proofs.Owned.{KeepsIdentity, holds_changed}
use Rattle.ctl_engine.proofs.Plain.{comes_makes, leaves_makes, no_operands}
use Rattle.ctl_engine.proofs.Stages.{Copies, Creates, Stage, allocator_in, allocator_marks, cells_in, noted_before, noted_behind, saved_behind, sized_in, spots_waiting, stands_in, waiting_in}
use Rattle.ctl_frames.proofs.StillLeft.{left_below}
use Rattle.ctl_engine.proofs.Values.{operand_stands}
use Rattle.ctl_objects.specs.Pools.{KeepsShown}
use Rattle.ctl_objects.specs.Stock.{Stock}
use Rattle.ctl_engine.proofs.Stocked.{stock_holds, with_forgotten}
use Rattle.std.specs.Ordering.{nat_cmp}
use Rattle.std.specs.FinMap.{FinMap}
use Rattle.pool_store.specs.Entries.{BlockPool}

-- The frame waits --------------------------------------------------------------------------------------

-- the frame, for the table and for the machine
pub record IsAllocating (g : Stage) (object t place : ℕ) (fs : List Frame) (ms : List Master) (hs : List Head) (owned : List Owned) (k : List T.Frame) : Type 0 where
  pub point : T.Point
  pub waiting : List T.Frame
  pub is : k ≡ waiting_in g T.ByAllocator object t point ∷ waiting
  pub foreign : OwnsNone object owned
  pub place_is : point.place ≡ place
  pub seen : point.display ≡ first_display hs
  pub waits : Wait fs ms hs owned waiting

under_allocating : {object place : ℕ} {fs : List Frame} {ms : List Master} {hs : List Head} {owned : List Owned} {k : List T.Frame} → Wait (FrameOf.Allocating object place ∷ fs) ms hs owned k → (t : ℕ) × IsAllocating Creates object t place fs ms hs owned k
under_allocating (allocating_waits {t = t} {p = p} {k = k} i place seen w) =
    (t, record { point = p; waiting = k; is = ap (λ n. T.Creating T.ByAllocator n t p ∷ k) i.number; foreign = i.foreign; place_is = place; seen = seen; waits = w })

under_allocating_copy : {object t place first : ℕ} {fs : List Frame} {ms : List Master} {hs : List Head} {owned : List Owned} {k : List T.Frame}
    → Wait (FrameOf.AllocatingCopy object t place first ∷ fs) ms hs owned k → (paths : List (List ℕ)) × IsAllocating (Copies first paths) object t place fs ms hs owned k
under_allocating_copy {t = t} (allocating_copy_waits {paths = paths} {p = p} {k = k} i place seen w) =
    (paths, record { point = p; waiting = k; is = ap (λ n. T.Copying T.ByAllocator n t paths p ∷ k) i.number; foreign = i.foreign; place_is = place; seen = seen; waits = w })

pub allocating : (code : Code) (old : Engine) (object place : ℕ) (fs : List Frame) (s : State) → BeforeResuming code old s → reverse old.control.items ≡ FrameOf.Allocating object place ∷ fs
    → (t : ℕ) × IsAllocating Creates object t place fs (reverse old.masters.items) (heads_of s.world.activations) old.owned.items s.control
allocating code old object place fs s b top = under_allocating (subst (λ (l : List Frame). Wait l (reverse old.masters.items) (heads_of s.world.activations) old.owned.items s.control) top b.holds.waits)

pub allocating_copy : (code : Code) (old : Engine) (object t place first : ℕ) (fs : List Frame) (s : State) → BeforeResuming code old s → reverse old.control.items ≡ FrameOf.AllocatingCopy object t place first ∷ fs
    → (paths : List (List ℕ)) × IsAllocating (Copies first paths) object t place fs (reverse old.masters.items) (heads_of s.world.activations) old.owned.items s.control
allocating_copy code old object t place first fs s b top = under_allocating_copy (subst (λ (l : List Frame). Wait l (reverse old.masters.items) (heads_of s.world.activations) old.owned.items s.control) top b.holds.waits)

-- The frame goes ---------------------------------------------------------------------------------------

-- without it, and without what is noted of its object
abbrev pub without_frame : Stage → List Frame → Kept → Kept
without_frame g fs e = record e { control = fs; noted = noted_before g e.noted }

allocating_ends : (g : Stage) (code : Code) (e : Kept) (object t place : ℕ) (fs : List Frame) (k : List T.Frame) (ops : List Word) (w : World) → Holds code e k ops w → e.control ≡ allocator_in g object t place ∷ fs
    → (u : IsAllocating g object t place fs e.masters (heads_of w.activations) e.owned k) → Holds code (without_frame g fs e) u.waiting u.point.operands w
allocating_ends g code e object t place fs k ops w h top u =
    let f = waiting_in g T.ByAllocator object t u.point in
    let below = laid u.waiting w.activations u.point.operands in
    let h' : Holds code e (f ∷ u.waiting) ops w = subst (λ (l : List T.Frame). Holds code e l ops w) u.is h in
    let marks = allocator_marks g code object t place u.point u.waiting (subst (λ (l : List Frame). AllLeaveSame code l (f ∷ u.waiting)) top h'.left).0 in
    let all : e.cells ≡ (below ++ reverse (cells_of ops)) ++ h'.cells.0 = h'.cells.1 ∙ ap (λ (l : List ℕ). (l ++ reverse (cells_of ops)) ++ h'.cells.0) (cells_in T.ByAllocator g object t u.point u.waiting w.activations) in
    record {
      cells = (reverse (cells_of ops) ++ h'.cells.0, all ∙ append_assoc below (reverse (cells_of ops)) h'.cells.0);
      room = h.room;
      masters = h.masters;
      below = h.below;
      waits = u.waits;
      objects = h.objects;
      needs = h.needs;
      pools = h.pools;
      owns = h.owns;
      held = h.held;
      rise = h.rise;
      next_master = h.next_master;
      next_object = h.next_object;
      next_collection = h.next_collection;
      collections = h.collections;
      left = left_below code (allocator_in g object t place) fs e.control f u.waiting h'.left top;
      saved = saved_behind T.ByAllocator g code object t u.point u.waiting e.saved h'.saved;
      noted = noted_behind T.ByAllocator g object t u.point u.waiting e.noted marks h'.noted;
    }

-- the operands that the newest frame has put aside
abbrev pub operands_in : List T.Frame → List Word
operands_in (T.Creating by n t p ∷ k) = p.operands
operands_in (T.Copying by n t paths p ∷ k) = p.operands
operands_in _ = []

-- the state behind that frame
abbrev pub behind_frame : State → State
behind_frame s = record s { control = drop 1 s.control; operands = operands_in s.control }

aside_in : (g : Stage) (n t : ℕ) (p : T.Point) (k : List T.Frame) → operands_in (waiting_in g T.ByAllocator n t p ∷ k) ≡ p.operands
aside_in Creates n t p k = refl
aside_in (Copies first paths) n t p k = refl

behind_is : (g : Stage) (n t : ℕ) (p : T.Point) (k : List T.Frame) (s : State) → s.control ≡ waiting_in g T.ByAllocator n t p ∷ k → behind_frame s ≡ record s { control = k; operands = p.operands }
behind_is g n t p k s is =
    ap (λ (l : List T.Frame). record s { control = drop 1 l; operands = operands_in l }) is ∙ ap (λ (ops : List Word). record s { control = k; operands = ops }) (aside_in g n t p k)

-- the object is one that an allocator creates then
pub member_behind : (g : Stage) (code : Code) (old mid : Engine) (object t place : ℕ) (fs : List Frame) (s : State) → BeforeResuming code old s → reverse old.control.items ≡ allocator_in g object t place ∷ fs
    → IsAllocating g object t place fs (reverse old.masters.items) (heads_of s.world.activations) old.owned.items s.control → kept mid ≡ without_frame g fs (kept old) → IsMember code mid object place (behind_frame s)
member_behind g code old mid object t place fs s b top u is =
    let hs = heads_of s.world.activations in
    let p = u.point in
    let waits = stands_in T.ByAllocator g code object t p u.waiting (subst (λ (k : List T.Frame). Waits code k) u.is b.waits) in
    let sized = sized_in T.ByAllocator g code object t p u.waiting hs (subst (λ (k : List T.Frame). SizedBelow code k hs) u.is b.sized) in
    let same : sized.0 ≡ waits.0 = ap (λ (l : List Kind). drop 1 l) (same_stack code p.place (Operand sized.1.0 ∷ sized.0) (Operand waits.1.0 ∷ waits.0) sized.1.2 waits.1.2) in
    let inside : Inside code (without_frame g fs (kept old)) waits.0 u.waiting p.operands s.world = record {
      stands = waits.2;
      sized = subst (λ (l : List Kind). Sized code l u.waiting hs) same sized.2;
      holds = allocating_ends g code (kept old) object t place fs s.control s.operands s.world b.holds top u;
      spots = b.spots ∙ (ap (λ (k : List T.Frame). spots_in k) u.is ∙ spots_waiting T.ByAllocator g object t p u.waiting);
    } in
    subst (λ (z : State). IsMember code mid object place z) (sym (behind_is g object t p u.waiting s u.is)) (record {
      stack = waits.0;
      type = waits.1.0;
      scalar = waits.1.1;
      leads = subst (λ n. Leads code n (Operand waits.1.0 ∷ waits.0)) u.place_is waits.1.2;
      inside = subst (λ (e : Kept). Inside code e waits.0 u.waiting p.operands s.world) (sym is) inside;
      foreign = subst (λ (l : List Owned). OwnsNone object l) (sym (ap (λ (e : Kept). e.owned) is)) u.foreign;
    })

-- what the table makes of it
copied_so : (code : Code) (ended : Ended) (n t : ℕ) (paths : List (List ℕ)) (p : T.Point) (k : List T.Frame) (w : World) → ended ≢ EndedOf.OperationFailed → by_copying code (tried_of ended) T.ByAllocator n t paths p k w ≡ by_creating (tried_of ended) T.ByAllocator n p k w
copied_so code EndedOf.Complete n t paths p k w fine = refl
copied_so code EndedOf.OperationFailed n t paths p k w fine = absurd (fine refl)
copied_so code (EndedOf.Raised e) n t paths p k w fine = refl

goes_on_so : (g : Stage) (code : Code) (ended : Ended) (object t place : ℕ) (fs : List Frame) (s : State) (ms : List Master) (owned : List Owned) → ((w : World) (p : T.Point) (k : List T.Frame) → act code (Giving (tried_of ended)) (waiting_in g T.ByAllocator object t p ∷ k) s.operands w 0 ≡ by_creating (tried_of ended) T.ByAllocator object p k w)
    → (u : IsAllocating g object t place fs ms (heads_of s.world.activations) owned s.control) → act code (Giving (tried_of ended)) s.control s.operands s.world 0 ≡ (let x = behind_frame s in by_creating (tried_of ended) T.ByAllocator object (point_at place x) x.control x.world)
goes_on_so g code ended object t place fs s ms owned so u =
    let p = u.point in
    let d = first_display (heads_of s.world.activations) in
    let same : p ≡ record { display = d; place = place; operands = p.operands } = ap (λ n. record p { place = n }) u.place_is ∙ ap (λ (l : List ℕ). record { display = l; place = place; operands = p.operands }) u.seen in
    ap (λ (k : List T.Frame). act code (Giving (tried_of ended)) k s.operands s.world 0) u.is
    ∙ (so s.world p u.waiting
    ∙ (ap (λ (x : T.Point). by_creating (tried_of ended) T.ByAllocator object x u.waiting s.world) same
    ∙ sym (ap (λ (x : State). by_creating (tried_of ended) T.ByAllocator object (point_at place x) x.control x.world) (behind_is g object t p u.waiting s u.is))))

-- where its parts were created
pub creation_goes_on : (code : Code) (old mid new : Engine) (ended : Ended) (object t place : ℕ) (fs : List Frame) (s : State) → IsAllocating Creates object t place fs (reverse old.masters.items) (heads_of s.world.activations) old.owned.items s.control
    → mid.events.items ≡ old.events.items → mid.picks.items ≡ old.picks.items → (let x = behind_frame s in Makes code mid new (by_creating (tried_of ended) T.ByAllocator object (point_at place x) x.control x.world)) → Makes code old new (act code (Giving (tried_of ended)) s.control s.operands s.world 0)
creation_goes_on code old mid new ended object t place fs s u events picks makes =
    subst (λ (m : T.Move). Makes code old new m) (sym (goes_on_so Creates code ended object t place fs s (reverse old.masters.items) old.owned.items (λ w p k. refl) u)) (makes_later code old mid new _ events picks makes)

-- where it had taken a value, and no Adjust of it failed
pub copy_goes_on : (code : Code) (old mid new : Engine) (ended : Ended) (object t place first : ℕ) (paths : List (List ℕ)) (fs : List Frame) (s : State) → ended ≢ EndedOf.OperationFailed
    → IsAllocating (Copies first paths) object t place fs (reverse old.masters.items) (heads_of s.world.activations) old.owned.items s.control → mid.events.items ≡ old.events.items → mid.picks.items ≡ old.picks.items
    → (let x = behind_frame s in Makes code mid new (by_creating (tried_of ended) T.ByAllocator object (point_at place x) x.control x.world)) → Makes code old new (act code (Giving (tried_of ended)) s.control s.operands s.world 0)
copy_goes_on code old mid new ended object t place first paths fs s fine u events picks makes =
    subst (λ (m : T.Move). Makes code old new m) (sym (goes_on_so (Copies first paths) code ended object t place fs s (reverse old.masters.items) old.owned.items (λ w p k. copied_so code ended object t paths p k w fine) u)) (makes_later code old mid new _ events picks makes)

-- where the value of the allocator will stand
pub value_at : (code : Code) (place : ℕ) (type : Ty) (stack : List Kind) → Leads code place (Operand type ∷ stack) → height (drop 1 (stack_at code.kinds place)) ≡ height stack
value_at code place type stack leads = ap (λ (l : List Kind). height (drop 1 l)) (stack_is code place (Operand type ∷ stack) leads)

-- An exception goes on ---------------------------------------------------------------------------------

-- the object is gone
pub forgets : (code : Code) (e : Kept) (n : ℕ) (blocks : FinMap nat_cmp BlockPool) (stack : List Kind) (k : List T.Frame) (ops : List Word) (w : World) → OwnsNone n e.owned → KeepsShown (stock_of e) (stock_of (with_forgotten n blocks e)) → Inside code e stack k ops w
    → Inside code (with_forgotten n blocks e) stack k ops (forget n w)
unfolding opened_changes
forgets code e n blocks stack k ops w none shown i =
    let h = i.holds in
    let x : Stock = record (stock_of e) { objects = forgotten n e.objects; blocks = blocks } in
    record {
      stands = i.stands;
      sized = i.sized;
      holds = stock_holds code e x (forgotten n w.objects) w.pools k ops w h (ap (λ (l : List W.Object). forgotten n l) h.objects) refl (shown e.next_object w.pools h.pools) (owns_without n e.next_object e.objects e.owned none h.owns);
      spots = i.spots;
    }

pub allocator_raises : (code : Code) (old new : Engine) (object place : ℕ) (s : State) (exception : ℕ) → IsMember code old object place s
    → new.mode ≡ ModeOf.Transfers (WayOf.Raise exception) → kept new ≡ with_forgotten object new.stock.blocks (kept old) → KeepsShown old.stock new.stock → new.events.items ≡ old.events.items → new.picks.items ≡ old.picks.items
    → Makes code old new (by_creating (Raised exception) T.ByAllocator object (point_at place s) s.control s.world)
allocator_raises code old new object place s exception m mode kept_is shown events picks =
    let still = subst (λ (e : Kept). KeepsShown old.stock (stock_of e)) kept_is shown in
    let i = forgets code (kept old) object new.stock.blocks m.stack s.control s.operands s.world m.foreign still m.inside in
    leaves_makes code old new (with_forgotten object new.stock.blocks (kept old)) (WayOf.Raise exception) tt m.stack s.control s.operands (forget object s.world) i
    (record { mode = mode; kept = kept_is; events = events; picks = picks })

-- It may not join --------------------------------------------------------------------------------------

may_not : (n : ℕ) (p : T.Point) (k : List T.Frame) (w : World) → (MayJoin n w → ⊥) → come_to_life T.ByAllocator n (object_at n w) p k w ≡ gone k w
may_not n p k w none = by (object_at n w) refl
  where
    by_set : (o : W.Object) → object_at n w ≡ Some o → (c : Option W.Collection) → set_of o.origin w ≡ c → joins n o c p k w ≡ gone k w
    by_set o found None is = refl
    by_set o found (Some c) is = by_new (is_new o) refl
      where
        by_new : (b : Bool) → is_new o ≡ b → joins n o (Some c) p k w ≡ gone k w
        by_new true new = absurd (none (record { object = o; collection = c; found = found; stands = is; new = new }))
        by_new false old = rw old refl

    by : (o : Option W.Object) → object_at n w ≡ o → come_to_life T.ByAllocator n o p k w ≡ gone k w
    by None is = refl
    by (Some o) is = by_set o is (set_of o.origin w) refl

pub allocator_stops : (code : Code) (old new : Engine) (object place : ℕ) (s : State) (tried : Tried T.Handed) (h : T.Handed) → tried ≡ Fine h → IsMember code old object place s → (MayJoin object s.world → ⊥)
    → new.mode ≡ ModeOf.Stopped UseAfterFree → kept new ≡ kept old → new.events.items ≡ old.events.items → new.picks.items ≡ old.picks.items
    → Makes code old new (by_creating tried T.ByAllocator object (point_at place s) s.control s.world)
allocator_stops code old new object place s tried h is m none mode kept_is events picks =
    let made : Makes code old new (gone s.control s.world) = record {
      mode = subst (λ (m : Mode). ShowsMode code m (T.Stopped UseAfterFree) s.control (heads_of s.world.activations)) (sym mode) refl;
      holds = subst (λ (x : Kept). Holds code x s.control [] s.world) (sym kept_is) (no_operands code (kept old) s.control s.operands s.world m.inside.holds);
      spots = subst (λ (m : Mode). KeepsSpots m new.spots.items s.control []) (sym mode) tt;
      shows = events ∙ sym (append-nil old.events.items);
      picks = picks;
    } in
    subst (λ (t : Tried T.Handed). Makes code old new (by_creating t T.ByAllocator object (point_at place s) s.control s.world)) (sym is)
    (subst (λ (x : T.Move). Makes code old new x) (sym (may_not object (point_at place s) s.control s.world none)) made)

-- It joins its collection ------------------------------------------------------------------------------

joined_keeps : KeepsIdentity with_joined
unfolding opened_objects
joined_keeps o = refl

-- among these objects, the one of a number has joined
abbrev pub with_member : ℕ → List W.Object → List W.Object
with_member n os = change_first (λ o. nat_eq o.number n) with_joined os

joined_holds : (code : Code) (e : Kept) (n : ℕ) (k : List T.Frame) (ops : List Word) (w : World) → Holds code e k ops w → Holds code (with_objects (with_member n e.objects) e) k ops (join n w)
unfolding opened_changes
joined_holds code e n k ops w h =
    let same = first_is_each n with_joined 1 e.objects h.owns.apart in
    let same' = first_is_each n with_joined 1 w.objects (subst (λ (l : List W.Object). Order.Rise 1 l) (sym h.objects) h.owns.apart) in
    subst (λ (l : List W.Object). Holds code (with_objects (with_member n e.objects) e) k ops (record w { objects = l })) same'
    (subst (λ (l : List W.Object). Holds code (with_objects l e) k ops (record w { objects = change_in n with_joined w.objects })) same (holds_changed code e k ops w n with_joined joined_keeps h))

-- with its number as the value of the allocator
abbrev pub with_value : ℕ → ℕ → Kept → Kept
with_value at x e = with_cells e (slice_set e.cells at x)

may_so : (n : ℕ) (p : T.Point) (k : List T.Frame) (w : World) → MayJoin n w → come_to_life T.ByAllocator n (object_at n w) p k w ≡ on_with n p k (join n w)
may_so n p k w m = rw (m.found, m.stands, m.new) refl

pub join_within : (code : Code) (old : Engine) (object place : ℕ) (s : State) → IsValid code → IsMember code old object place s
    → first_window (reverse old.masters.items) + height (drop 1 (stack_at code.kinds place)) < length old.cells.items
join_within code old object place s valid m =
    (operand_stands code (kept old) place m.type m.stack s.control s.operands s.world object (height (drop 1 (stack_at code.kinds place))) m.scalar valid m.inside m.leads (value_at code place m.type m.stack m.leads)).0

joined_heads : (n : ℕ) (w : World) → heads_of (join n w).activations ≡ heads_of w.activations
unfolding opened_changes
joined_heads n w = refl

pub allocator_joins : (code : Code) (old new : Engine) (object place : ℕ) (s : State) (tried : Tried T.Handed) (h : T.Handed) → tried ≡ Fine h → IsValid code → IsMember code old object place s → MayJoin object s.world
    → new.mode ≡ ModeOf.At place → kept new ≡ with_value (first_window (reverse old.masters.items) + height (drop 1 (stack_at code.kinds place))) object (with_objects (with_member object old.stock.objects) (kept old)) → new.events.items ≡ old.events.items → new.picks.items ≡ old.picks.items
    → Makes code old new (by_creating tried T.ByAllocator object (point_at place s) s.control s.world)
allocator_joins code old new object place s tried h is valid m may mode kept_is events picks =
    let joined = with_objects (with_member object old.stock.objects) (kept old) in
    let at = height (drop 1 (stack_at code.kinds place)) in
    let w = join object s.world in
    let heads : heads_of w.activations ≡ heads_of s.world.activations = joined_heads object s.world in
    let i : Inside code joined m.stack s.control s.operands w = record {
      stands = m.inside.stands;
      sized = subst (λ (hs : List Head). Sized code m.stack s.control hs) (sym heads) m.inside.sized;
      holds = joined_holds code (kept old) object s.control s.operands s.world m.inside.holds;
      spots = m.inside.spots;
    } in
    let put = (operand_stands code joined place m.type m.stack s.control s.operands w object at m.scalar valid i m.leads (value_at code place m.type m.stack m.leads)).1 in
    let made = comes_makes code old new (with_value (first_window joined.masters + at) object joined) place (Operand m.type ∷ m.stack) s.control (Scalar object ∷ s.operands) w m.leads put (record { mode = mode; kept = kept_is; events = events; picks = picks }) in
    let point : T.Point = record { display = first_display (heads_of w.activations); place = place; operands = s.operands } in
    let same : on_with object (point_at place s) s.control w ≡ on_with object point s.control w = ap (λ (hs : List Head). on_with object (record point { display = first_display hs }) s.control w) (sym heads) in
    subst (λ (t : Tried T.Handed). Makes code old new (by_creating t T.ByAllocator object (point_at place s) s.control s.world)) (sym is)
    (subst (λ (x : T.Move). Makes code old new x) (sym (may_so object (point_at place s) s.control s.world may ∙ same)) made)
