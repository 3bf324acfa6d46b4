-- A creation that is under way: the frame of a declaration, which waits for the newest object, and what stands behind it; and that of an
-- allocator.
use Rattle.std.proofs.Common.{◌≡◌, ℕ, ◌≤◌, List, [], ◌∷◌, ◌++◌, length, refl, sym, ap, ◌∙◌, subst, reverse, take}
use Rattle.std.proofs.lemmas.List.{append-nil, append_assoc, take_at}
use Rattle.ctl_meaning.specs.Finalization.{Spot}
use Rattle.ctl_meaning.specs.World.{Activation, World}
use Rattle.ctl_code.specs.declared.kinds.Kind.{Kind}
use Rattle.ctl_code.specs.declared.code.Code.{Code}
use Rattle.ctl_code.specs.States as T
use Rattle.ctl_code.specs.States.{cells_of, Word, State}
use Rattle.ctl_code.specs.Valid.{Leads}
use Rattle.ctl_code.specs.Fits.{LeadsOn, OwnsOne, Stands, Waits}
use Rattle.ctl_engine.specs.declared.engine.Engine.{Engine}
use Rattle.ctl_frames.specs.declared.frame.Declared.{Declared}
use Rattle.ctl_frames.specs.declared.frame.Declared.TheVariants as DeclaredOf
use Rattle.ctl_frames.specs.declared.frame.Frame.{Frame}
use Rattle.ctl_frames.specs.declared.frame.Frame.TheVariants as FrameOf
use Rattle.ctl_frames.specs.declared.frame.Master.{Master}
use Rattle.ctl_frames.specs.declared.frame.Owned.{Owned}
use Rattle.ctl_engine.specs.Allocating.{IsAllocated, OwnsNone}
use Rattle.ctl_frames.specs.Masters.{Head, heads_of, first_display}
use Rattle.ctl_frames.specs.Filling.{AllLeaveSame, LeavesSame}
use Rattle.ctl_engine.specs.Moves.{BeforeResuming}
use Rattle.ctl_frames.specs.Noted.{noted_in, paths_of}
use Rattle.ctl_engine.specs.Saved.{AreSaved}
use Rattle.ctl_frames.specs.Under.{laid, under}
use Rattle.ctl_engine.specs.Shows.{Wait, allocating_copy_waits, allocating_waits, creating_waits, copying_waits, IsCreated, Sized, SizedBelow, Kept, Holds, kept, maker_of}
use Rattle.ctl_engine.proofs.Behind.{same_stack}
use Rattle.ctl_engine.proofs.Innermost.{IsInnermost, innermost}
use Rattle.ctl_frames.proofs.Newest.{first_or}
use Rattle.ctl_engine.proofs.Notes.{paths_front}
use Rattle.ctl_frames.proofs.StillLeft.{left_below}
use Rattle.ctl_frames.specs.Spots.{spots_in, standing}

-- how far it has come: its parts are created, or it has taken a value, and these paths of its parts are noted from one on
pub data Stage : Type 0 where
  Creates : Stage
  Copies : (first : ℕ) (paths : List (List ℕ)) → Stage

-- of an object or a pool that is declared; no pool takes a value
abbrev pub frame_in : Declared → Stage → ℕ → Frame
frame_in d Creates place = FrameOf.Creating d place
frame_in d (Copies first paths) place = FrameOf.Copying place first

-- what creates it
abbrev pub maker_in : Declared → Stage → T.Maker
maker_in d Creates = maker_of d
maker_in d (Copies first paths) = T.ByDeclaration

-- of the object of a number, of a record type, that an allocator creates
abbrev pub allocator_in : Stage → ℕ → ℕ → ℕ → Frame
allocator_in Creates object t place = FrameOf.Allocating object place
allocator_in (Copies first paths) object t place = FrameOf.AllocatingCopy object t place first

-- the table's frame
abbrev pub waiting_in : Stage → T.Maker → ℕ → ℕ → T.Point → T.Frame
waiting_in Creates by n t p = T.Creating by n t p
waiting_in (Copies first paths) by n t p = T.Copying by n t paths p

-- where over these frames what is noted of it begins
abbrev pub Marks : Stage → List T.Frame → Type 0
Marks Creates k = Unit {0}
Marks (Copies first paths) k = first ≡ length (noted_in k)

-- and nothing is noted of it yet
abbrev pub IsFresh : Stage → List T.Frame → Type 0
IsFresh Creates k = Unit {0}
IsFresh (Copies first paths) k = (first ≡ length (noted_in k)) × (paths ≡ [])

-- what is noted, without what is noted of it
abbrev pub noted_before : Stage → List Spot → List Spot
noted_before Creates noted = noted
noted_before (Copies first paths) noted = take first noted

pub noted_below : (by : T.Maker) (g : Stage) (n t : ℕ) (p : T.Point) (k : List T.Frame) → IsFresh g k → noted_in (waiting_in g by n t p ∷ k) ≡ noted_in k
noted_below by Creates n t p k fresh = refl
noted_below by (Copies first paths) n t p k fresh = ap (λ (l : List (List ℕ)). noted_in k ++ l) fresh.1 ∙ append-nil (noted_in k)

pub noted_behind : (by : T.Maker) (g : Stage) (n t : ℕ) (p : T.Point) (k : List T.Frame) (noted : List Spot) → Marks g k → paths_of noted ≡ noted_in (waiting_in g by n t p ∷ k) → paths_of (noted_before g noted) ≡ noted_in k
noted_behind by Creates n t p k noted marks h = h
noted_behind by (Copies first paths) n t p k noted marks h = paths_front first noted ∙ (ap (λ (l : List (List ℕ)). take first l) h ∙ take_at (noted_in k) paths first (sym marks))

pub cells_in : (by : T.Maker) (g : Stage) (n t : ℕ) (p : T.Point) (k : List T.Frame) (acts : List Activation) → under (waiting_in g by n t p ∷ k) acts ≡ under k acts ++ reverse (cells_of p.operands)
cells_in by Creates n t p k acts = refl
cells_in by (Copies first paths) n t p k acts = refl

pub spots_waiting : (by : T.Maker) (g : Stage) (n t : ℕ) (p : T.Point) (k : List T.Frame) → spots_in (waiting_in g by n t p ∷ k) ≡ standing k p.operands
spots_waiting by Creates n t p k = refl
spots_waiting by (Copies first paths) n t p k = refl

pub saved_below : (by : T.Maker) (g : Stage) (code : Code) (n t : ℕ) (p : T.Point) (k : List T.Frame) (saved : List ℕ) → AreSaved code saved k → AreSaved code saved (waiting_in g by n t p ∷ k)
saved_below by Creates code n t p k saved h = h
saved_below by (Copies first paths) code n t p k saved h = h

pub saved_behind : (by : T.Maker) (g : Stage) (code : Code) (n t : ℕ) (p : T.Point) (k : List T.Frame) (saved : List ℕ) → AreSaved code saved (waiting_in g by n t p ∷ k) → AreSaved code saved k
saved_behind by Creates code n t p k saved h = h
saved_behind by (Copies first paths) code n t p k saved h = h

leaves_in : (d : Declared) (g : Stage) (code : Code) (n t place : ℕ) (p : T.Point) (k : List T.Frame) → IsFresh g k → LeavesSame code (frame_in d g place) (waiting_in g (maker_in d g) n t p) k
leaves_in d Creates code n t place p k fresh = tt
leaves_in d (Copies first paths) code n t place p k fresh = fresh.0

marks_in : (d : Declared) (g : Stage) (code : Code) (n t place : ℕ) (p : T.Point) (k : List T.Frame) → LeavesSame code (frame_in d g place) (waiting_in g (maker_in d g) n t p) k → Marks g k
marks_in d Creates code n t place p k h = tt
marks_in d (Copies first paths) code n t place p k h = h

waits_in : (d : Declared) (g : Stage) (n t place : ℕ) (p : T.Point) {fs : List Frame} {m : Master} {ms : List Master} {hs : List Head} {owned : List Owned} {k : List T.Frame}
    → IsCreated n t m owned → p.place ≡ place → p.display ≡ first_display hs → Wait fs (m ∷ ms) hs owned k → Wait (frame_in d g place ∷ fs) (m ∷ ms) hs owned (waiting_in g (maker_in d g) n t p ∷ k)
waits_in d Creates n t place p i there seen w = creating_waits i there seen w
waits_in d (Copies first paths) n t place p i there seen w = copying_waits i there seen w

pub stands_in : (by : T.Maker) (g : Stage) (code : Code) (n t : ℕ) (p : T.Point) (k : List T.Frame) → Waits code (waiting_in g by n t p ∷ k) → (stack : List Kind) × LeadsOn code by p.place stack × Stands code stack k p.operands
stands_in by Creates code n t p k h = h
stands_in by (Copies first paths) code n t p k h = h

pub sized_in : (by : T.Maker) (g : Stage) (code : Code) (n t : ℕ) (p : T.Point) (k : List T.Frame) (hs : List Head) → SizedBelow code (waiting_in g by n t p ∷ k) hs → (stack : List Kind) × LeadsOn code by p.place stack × Sized code stack k hs
sized_in by Creates code n t p k hs h = h
sized_in by (Copies first paths) code n t p k hs h = h

-- a declaration goes on at its place
leads_in : (d : Declared) (g : Stage) (code : Code) (place : ℕ) (stack : List Kind) → LeadsOn code (maker_in d g) place stack → Leads code place stack
leads_in DeclaredOf.Object Creates code place stack h = h.1
leads_in DeclaredOf.Pool Creates code place stack h = h.1
leads_in d (Copies first paths) code place stack h = h.1

-- in a master that has slots
owns_in : (d : Declared) (g : Stage) (code : Code) (place : ℕ) (stack : List Kind) → LeadsOn code (maker_in d g) place stack → OwnsOne stack
owns_in DeclaredOf.Object Creates code place stack h = h.0
owns_in DeclaredOf.Pool Creates code place stack h = h.0
owns_in d (Copies first paths) code place stack h = h.0

-- of an allocator
allocator_leaves : (g : Stage) (code : Code) (n t place : ℕ) (p : T.Point) (k : List T.Frame) → IsFresh g k → LeavesSame code (allocator_in g n t place) (waiting_in g T.ByAllocator n t p) k
allocator_leaves Creates code n t place p k fresh = tt
allocator_leaves (Copies first paths) code n t place p k fresh = fresh.0

pub allocator_marks : (g : Stage) (code : Code) (n t place : ℕ) (p : T.Point) (k : List T.Frame) → LeavesSame code (allocator_in g n t place) (waiting_in g T.ByAllocator n t p) k → Marks g k
allocator_marks Creates code n t place p k h = tt
allocator_marks (Copies first paths) code n t place p k h = h

allocator_waits : (g : Stage) (n t place : ℕ) (p : T.Point) {fs : List Frame} {ms : List Master} {hs : List Head} {owned : List Owned} {k : List T.Frame}
    → IsAllocated n n owned → p.place ≡ place → p.display ≡ first_display hs → Wait fs ms hs owned k → Wait (allocator_in g n t place ∷ fs) ms hs owned (waiting_in g T.ByAllocator n t p ∷ k)
allocator_waits Creates n t place p i there seen w = allocating_waits i there seen w
allocator_waits (Copies first paths) n t place p i there seen w = allocating_copy_waits i there seen w

-- The frame comes --------------------------------------------------------------------------------------

abbrev pub with_frame : Frame → Kept → Kept
with_frame f e = record e { control = f ∷ e.control }

-- the frame waits for the newest object
pub stage_begins : (d : Declared) (g : Stage) (code : Code) (e : Kept) (m : Master) (ms : List Master) (n t place : ℕ) (p : T.Point) (k : List T.Frame) (w : World)
    → IsFresh g k → Holds code e k p.operands w → e.masters ≡ m ∷ ms → IsCreated n t m e.owned → p.place ≡ place → p.display ≡ first_display (heads_of w.activations)
    → Holds code (with_frame (frame_in d g place) e) (waiting_in g (maker_in d g) n t p ∷ k) [] w
stage_begins d g code e m ms n t place p k w fresh h is i there seen =
    let hs = heads_of w.activations in
    let waits : Wait e.control (m ∷ ms) hs e.owned k = subst (λ (l : List Master). Wait e.control l hs e.owned k) is h.waits in
    let same : under (waiting_in g (maker_in d g) n t p ∷ k) w.activations ≡ laid k w.activations p.operands = cells_in (maker_in d g) g n t p k w.activations in
    record {
      cells = (h.cells.0, h.cells.1 ∙ ap (λ (l : List ℕ). l ++ h.cells.0) (sym (append-nil (under (waiting_in g (maker_in d g) n t p ∷ k) w.activations) ∙ same)));
      room = h.room;
      masters = h.masters;
      below = h.below;
      waits = subst (λ (l : List Master). Wait (frame_in d g place ∷ e.control) l hs e.owned (waiting_in g (maker_in d g) n t p ∷ k)) (sym is) (waits_in d g n t place p i there seen waits);
      objects = h.objects;
      needs = h.needs;
      pools = h.pools;
      owns = h.owns;
      held = h.held;
      rise = h.rise;
      next_master = h.next_master;
      next_object = h.next_object;
      next_collection = h.next_collection;
      collections = h.collections;
      left = (leaves_in d g code n t place p k fresh, h.left);
      saved = saved_below (maker_in d g) g code n t p k e.saved h.saved;
      noted = h.noted ∙ sym (noted_below (maker_in d g) g n t p k fresh);
    }

-- the frame waits for the object of a number, which no master owns
pub allocator_begins : (g : Stage) (code : Code) (e : Kept) (n t place : ℕ) (p : T.Point) (k : List T.Frame) (w : World)
    → IsFresh g k → Holds code e k p.operands w → OwnsNone n e.owned → p.place ≡ place → p.display ≡ first_display (heads_of w.activations)
    → Holds code (with_frame (allocator_in g n t place) e) (waiting_in g T.ByAllocator n t p ∷ k) [] w
allocator_begins g code e n t place p k w fresh h none there seen =
    let same : under (waiting_in g T.ByAllocator n t p ∷ k) w.activations ≡ laid k w.activations p.operands = cells_in T.ByAllocator g n t p k w.activations in
    record {
      cells = (h.cells.0, h.cells.1 ∙ ap (λ (l : List ℕ). l ++ h.cells.0) (sym (append-nil (under (waiting_in g T.ByAllocator n t p ∷ k) w.activations) ∙ same)));
      room = h.room;
      masters = h.masters;
      below = h.below;
      waits = allocator_waits g n t place p (record { number = refl; foreign = none }) there seen h.waits;
      objects = h.objects;
      needs = h.needs;
      pools = h.pools;
      owns = h.owns;
      held = h.held;
      rise = h.rise;
      next_master = h.next_master;
      next_object = h.next_object;
      next_collection = h.next_collection;
      collections = h.collections;
      left = (allocator_leaves g code n t place p k fresh, h.left);
      saved = saved_below T.ByAllocator g code n t p k e.saved h.saved;
      noted = h.noted ∙ sym (noted_below T.ByAllocator g n t p k fresh);
    }

-- The frame waits --------------------------------------------------------------------------------------

-- the frame, for the table and for the machine
pub record IsUnder (d : Declared) (g : Stage) (place : ℕ) (fs : List Frame) (ms : List Master) (hs : List Head) (owned : List Owned) (k : List T.Frame) : Type 0 where
  pub number : ℕ
  pub record_type : ℕ
  pub point : T.Point
  pub waiting : List T.Frame
  pub is : k ≡ waiting_in g (maker_in d g) number record_type point ∷ waiting
  pub master : Master
  pub others : List Master
  pub masters : ms ≡ master ∷ others
  pub object : IsCreated number record_type master owned
  pub place_is : point.place ≡ place
  pub seen : point.display ≡ first_display hs
  pub waits : Wait fs (master ∷ others) hs owned waiting

pub under_creating : {d : Declared} {place : ℕ} {fs : List Frame} {ms : List Master} {hs : List Head} {owned : List Owned} {k : List T.Frame} → Wait (FrameOf.Creating d place ∷ fs) ms hs owned k → IsUnder d Creates place fs ms hs owned k
under_creating (creating_waits {m = m} {ms = ms} {n = n} {t = t} {p = p} {k = k} i place seen w) =
    record { number = n; record_type = t; point = p; waiting = k; is = refl; master = m; others = ms; masters = refl; object = i; place_is = place; seen = seen; waits = w }

pub under_copying : {place first : ℕ} {fs : List Frame} {ms : List Master} {hs : List Head} {owned : List Owned} {k : List T.Frame} → Wait (FrameOf.Copying place first ∷ fs) ms hs owned k → (paths : List (List ℕ)) × IsUnder DeclaredOf.Object (Copies first paths) place fs ms hs owned k
under_copying (copying_waits {m = m} {ms = ms} {n = n} {t = t} {paths = paths} {p = p} {k = k} i place seen w) =
    (paths, record { number = n; record_type = t; point = p; waiting = k; is = refl; master = m; others = ms; masters = refl; object = i; place_is = place; seen = seen; waits = w })

-- The frame goes ---------------------------------------------------------------------------------------

-- the frame is taken off
stage_ends : (d : Declared) (g : Stage) (code : Code) (e : Kept) (place : ℕ) (fs : List Frame) (k : List T.Frame) (ops : List Word) (w : World) → Holds code e k ops w → e.control ≡ frame_in d g place ∷ fs → (u : IsUnder d g place fs e.masters (heads_of w.activations) e.owned k)
    → Holds code (record e { control = fs; noted = noted_before g e.noted }) u.waiting u.point.operands w
stage_ends d g code e place fs k ops w h top u =
    let hs = heads_of w.activations in
    let f = waiting_in g (maker_in d g) u.number u.record_type u.point in
    let below = laid u.waiting w.activations u.point.operands in
    let h' : Holds code e (f ∷ u.waiting) ops w = subst (λ (l : List T.Frame). Holds code e l ops w) u.is h in
    let marks = marks_in d g code u.number u.record_type place u.point u.waiting (subst (λ (l : List Frame). AllLeaveSame code l (f ∷ u.waiting)) top h'.left).0 in
    let all : e.cells ≡ (below ++ reverse (cells_of ops)) ++ h'.cells.0 = h'.cells.1 ∙ ap (λ (l : List ℕ). (l ++ reverse (cells_of ops)) ++ h'.cells.0) (cells_in (maker_in d g) g u.number u.record_type u.point u.waiting w.activations) in
    record {
      cells = (reverse (cells_of ops) ++ h'.cells.0, all ∙ append_assoc below (reverse (cells_of ops)) h'.cells.0);
      room = h.room;
      masters = h.masters;
      below = h.below;
      waits = subst (λ (l : List Master). Wait fs l hs e.owned u.waiting) (sym u.masters) u.waits;
      objects = h.objects;
      needs = h.needs;
      pools = h.pools;
      owns = h.owns;
      held = h.held;
      rise = h.rise;
      next_master = h.next_master;
      next_object = h.next_object;
      next_collection = h.next_collection;
      collections = h.collections;
      left = left_below code (frame_in d g place) fs e.control f u.waiting h'.left top;
      saved = saved_behind (maker_in d g) g code u.number u.record_type u.point u.waiting e.saved h'.saved;
      noted = noted_behind (maker_in d g) g u.number u.record_type u.point u.waiting e.noted marks h'.noted;
    }

-- what stands behind it
pub record StandsBehind (d : Declared) (g : Stage) (code : Code) (e : Kept) (place : ℕ) (fs : List Frame) (s : State) (u : IsUnder d g place fs e.masters (heads_of s.world.activations) e.owned s.control) : Type 0 where
  pub stack : List Kind
  pub leads : Leads code u.point.place stack
  pub stands : Stands code stack u.waiting u.point.operands
  pub sized : Sized code stack u.waiting (heads_of s.world.activations)
  pub holds : Holds code (record e { control = fs; noted = noted_before g e.noted }) u.waiting u.point.operands s.world
  pub spots : e.spots ≡ standing u.waiting u.point.operands
  pub inside : IsInnermost (record e { control = fs; noted = noted_before g e.noted }) u.waiting (heads_of s.world.activations)
  pub object : IsCreated u.number u.record_type inside.master e.owned
  pub same : object.object ≡ u.object.object

pub stands_behind : (d : Declared) (g : Stage) (code : Code) (e : Engine) (place : ℕ) (fs : List Frame) (s : State) → BeforeResuming code e s → reverse e.control.items ≡ frame_in d g place ∷ fs
    → (u : IsUnder d g place fs (reverse e.masters.items) (heads_of s.world.activations) e.owned.items s.control) → StandsBehind d g code (kept e) place fs s u
stands_behind d g code e place fs s b top u =
    let hs = heads_of s.world.activations in
    let waits = stands_in (maker_in d g) g code u.number u.record_type u.point u.waiting (subst (λ (k : List T.Frame). Waits code k) u.is b.waits) in
    let sized = sized_in (maker_in d g) g code u.number u.record_type u.point u.waiting hs (subst (λ (k : List T.Frame). SizedBelow code k hs) u.is b.sized) in
    let stack = waits.0 in
    let holds = stage_ends d g code (kept e) place fs s.control s.operands s.world b.holds top u in
    let inside = innermost code (record (kept e) { control = fs; noted = noted_before g e.noted.items }) stack u.waiting u.point.operands u.point.operands s.world waits.2 (owns_in d g code u.point.place stack waits.1) holds in
    let same : u.master ≡ inside.master = ap (λ (l : List Master). first_or u.master l) (sym u.masters ∙ inside.masters) in
    let i = u.object in
    record {
      stack = stack;
      leads = leads_in d g code u.point.place stack waits.1;
      stands = waits.2;
      sized = subst (λ (l : List Kind). Sized code l u.waiting hs) (same_stack code u.point.place sized.0 stack (leads_in d g code u.point.place sized.0 sized.1) (leads_in d g code u.point.place stack waits.1)) sized.2;
      holds = holds;
      spots = b.spots ∙ (ap (λ (k : List T.Frame). spots_in k) u.is ∙ spots_waiting (maker_in d g) g u.number u.record_type u.point u.waiting);
      inside = inside;
      object = record { before = i.before; object = i.object; is_newest = i.is_newest; is_own = subst (λ (m : Master). m.owned ≤ length i.before) same i.is_own; number = i.number; role = i.role; no_layer = i.no_layer };
      same = refl;
    }
