-- An Adjust of an object that has taken a value failed: those of its parts that are adjusted are finalized, and Program_Error goes on.
use Rattle.std.proofs.Common.{◌≡◌, ℕ, suc, ◌-◌, ◌<◌, List, [], ◌∷◌, ◌++◌, length, refl, sym, ap, ◌∙◌, subst, arith, drop, reverse, take}
use Rattle.std.specs.Prelude.{Some, if◌then◌else◌, slice_get}
use Rattle.std.proofs.lemmas.List.{append-nil, drop_at, length-reverse, take_at}
use Rattle.ctl_meaning.specs.World.{World}
use Rattle.ctl_meaning.specs.Finalization.{is_whole}
use Rattle.ctl_meaning.specs.Lists.{opened_lists}
use Rattle.ctl_meaning.specs.Outcome.{Fine, Raised, Tried, program_error}
use Rattle.ctl_meaning.specs.Changes.{begin_finalization, end_finalization, opened_changes}
use Rattle.ctl_code.specs.declared.code.Code.{Code}
use Rattle.ctl_code.specs.States as T
use Rattle.ctl_code.specs.States.{Giving, Handed, State, Word}
use Rattle.ctl_code.specs.Table.{act, gives, parts_of, undo_part}
use Rattle.ctl_frames.specs.declared.frame.Declared.TheVariants as DeclaredOf
use Rattle.ctl_engine.specs.declared.engine.Engine.{Engine}
use Rattle.ctl_frames.specs.declared.frame.Ended.TheVariants as EndedOf
use Rattle.ctl_frames.specs.declared.frame.Frame.{Frame}
use Rattle.ctl_frames.specs.declared.frame.Frame.TheVariants as FrameOf
use Rattle.ctl_frames.specs.declared.frame.Master.{Master}
use Rattle.ctl_frames.specs.declared.frame.Mode.{Mode}
use Rattle.ctl_frames.specs.declared.frame.Mode.TheVariants as ModeOf
use Rattle.ctl_frames.specs.declared.frame.Owned.{Owned}
use Rattle.ctl_frames.specs.declared.frame.Role.TheVariants as RoleOf
use Rattle.ctl_engine.specs.Copying.{IsCopy}
use Rattle.ctl_frames.specs.Filling.{AllLeaveSame}
use Rattle.ctl_engine.specs.Finishing.{BeginsOver, Finished, Finishes}
use Rattle.ctl_engine.specs.Initializing.{IsNewest}
use Rattle.ctl_frames.specs.Masters.{Head, heads_of}
use Rattle.ctl_engine.specs.Moves.{BeforeResuming, Makes}
use Rattle.ctl_frames.specs.Noted.{IsUndone, noted_in}
use Rattle.ctl_frames.specs.Owned.{type_of}
use Rattle.ctl_engine.specs.Shows.{Holds, Kept, ShowsMode, SizedBelow, Wait, allocating_waits, creating_waits, kept, undoing_waits, with_cells}
use Rattle.ctl_frames.specs.Spots.{KeepsSpots, spots_in, whole_spot}
use Rattle.ctl_frames.specs.Under.{tall}
use Rattle.ctl_lifetimes.proofs.AfterInitialize.{copying}
use Rattle.ctl_engine.proofs.Allocated.{allocating_copy}
use Rattle.ctl_engine.proofs.Bodies.{more_cells}
use Rattle.ctl_lifetimes.proofs.Initialized.{newest_of_all}
use Rattle.ctl_frames.proofs.Lists.{same_at}
use Rattle.ctl_engine.proofs.Notes.{paths_front}
use Rattle.ctl_engine.proofs.Plain.{no_operands}

-- The frame of the copy goes over ------------------------------------------------------------------------

-- what is finalized, behind the frame of a copy
abbrev pub undone_in : List T.Frame → World → Finished
undone_in (T.Copying by n t paths p ∷ k) w = record { spot = whole_spot n; control = T.Undoing n paths ∷ T.Creating by n t p ∷ k; world = begin_finalization n w }
undone_in k w = record { spot = whole_spot 0; control = k; world = w }

-- with these frames of the machine
abbrev pub with_undoing : Frame → ℕ → ℕ → Kept → Kept
with_undoing creation object first e = record e { control = FrameOf.Undoing object first ∷ creation ∷ drop 1 e.control }

-- what is known of a creation that an Adjust ended, over these frames
goes_over : (code : Code) (e : Kept) (creation : Frame) (by : T.Maker) (n t first : ℕ) (paths : List (List ℕ)) (p : T.Point) (k : List T.Frame) (ops : List Word) (w : World)
    → Wait (creation ∷ drop 1 e.control) e.masters (heads_of w.activations) e.owned (T.Creating by n t p ∷ k) → AllLeaveSame code (creation ∷ drop 1 e.control) (T.Creating by n t p ∷ k) → first ≡ length (noted_in k) → Holds code e (T.Copying by n t paths p ∷ k) ops w
    → Holds code (with_undoing creation n first e) (T.Undoing n paths ∷ T.Creating by n t p ∷ k) [] w
goes_over code e creation by n t first paths p k ops w waits left mark h =
    let h' = no_operands code e (T.Copying by n t paths p ∷ k) ops w h in
    record {
      cells = h'.cells;
      room = h'.room;
      masters = h'.masters;
      below = h'.below;
      waits = undoing_waits refl waits;
      objects = h'.objects;
      needs = h'.needs;
      pools = h'.pools;
      owns = h'.owns;
      held = h'.held;
      rise = h'.rise;
      next_master = h'.next_master;
      next_object = h'.next_object;
      next_collection = h'.next_collection;
      collections = h'.collections;
      left = (mark, left);
      saved = h'.saved;
      noted = h'.noted;
    }

-- the frames of the machine go over, behind further cells
pub over_to : (code : Code) (old : Engine) (creation : Frame) (object type first : ℕ) (s : State) (more : List ℕ) → BeforeResuming code old s → IsCopy code old creation object type first s
    → Holds code (with_undoing creation object first (with_cells (kept old) (old.cells.items ++ more))) (undone_in s.control s.world).control [] s.world
over_to code old creation object type first s more b u =
    let k' : List T.Frame = T.Copying u.by object type u.paths u.point ∷ u.waiting in
    let h : Holds code (kept old) k' s.operands s.world = subst (λ (k : List T.Frame). Holds code (kept old) k s.operands s.world) u.is b.holds in
    subst (λ (k : List T.Frame). Holds code (with_undoing creation object first (with_cells (kept old) (old.cells.items ++ more))) (undone_in k s.world).control [] s.world) (sym u.is)
    (goes_over code (with_cells (kept old) (old.cells.items ++ more)) creation u.by object type first u.paths u.point u.waiting s.operands s.world u.waits u.left u.mark (more_cells code (kept old) more k' s.operands s.world h))

-- and the object is being finalized from then on
pub finishes_undone : (code : Code) (old mid : Engine) (creation : Frame) (object type first : ℕ) (s : State) → BeforeResuming code old s → IsCopy code old creation object type first s → mid.spots.items ≡ old.spots.items
    → Holds code (kept mid) (undone_in s.control s.world).control [] (begin_finalization object s.world) → Finishes code mid (undone_in s.control s.world)
unfolding opened_changes
finishes_undone code old mid creation object type first s b u same h =
    let hs = heads_of s.world.activations in
    let spots = subst (λ (k : List T.Frame). old.spots.items ≡ spots_in k) u.is b.spots in
    let sized = subst (λ (k : List T.Frame). SizedBelow code k hs) u.is b.sized in
    let h' = subst (λ (k : List T.Frame). Holds code (kept mid) (undone_in k s.world).control [] (begin_finalization object s.world)) u.is h in
    subst (λ (k : List T.Frame). Finishes code mid (undone_in k s.world)) (sym u.is) (record { holds = h'; spots = same ∙ spots; sized = sized })

pub begins_undone : (code : Code) (old : Engine) (creation : Frame) (object type first base : ℕ) (s : State) → IsCopy code old creation object type first s → base ≡ tall s.control (heads_of s.world.activations) → BeginsOver base (undone_in s.control s.world)
unfolding opened_changes
begins_undone code old creation object type first base s u is =
    let hs = heads_of s.world.activations in
    let there = is ∙ ap (λ (k : List T.Frame). tall k hs) u.is in
    subst (λ (k : List T.Frame). BeginsOver base (undone_in k s.world)) (sym u.is) there

pub are_undone : (code : Code) (old : Engine) (creation : Frame) (object type first : ℕ) (s : State) → IsCopy code old creation object type first s → IsUndone first (undone_in s.control s.world).control
are_undone code old creation object type first s u = subst (λ (k : List T.Frame). IsUndone first (undone_in k s.world).control) (sym u.is) (drop_at (noted_in u.waiting) u.paths first (sym u.mark))

pub spot_undone : (code : Code) (old : Engine) (creation : Frame) (object type first : ℕ) (s : State) → IsCopy code old creation object type first s → (undone_in s.control s.world).spot ≡ whole_spot object
spot_undone code old creation object type first s u = ap (λ (k : List T.Frame). (undone_in k s.world).spot) u.is

-- what the table makes of it
pub copy_undone : (code : Code) (old new : Engine) (creation : Frame) (object type first : ℕ) (s : State) → IsCopy code old creation object type first s
    → (let x = undone_in s.control s.world in Makes code old new (undo_part code (parts_of code type) x.spot type x.control x.world)) → Makes code old new (act code (Giving (Fine T.OperationFailed)) s.control s.operands s.world 0)
copy_undone code old new creation object type first s u made =
    let there = subst (λ (k : List T.Frame). Makes code old new (let x = undone_in k s.world in undo_part code (parts_of code type) x.spot type x.control x.world)) u.is made in
    subst (λ (k : List T.Frame). Makes code old new (act code (Giving (Fine T.OperationFailed)) k s.operands s.world 0)) (sym u.is) there

-- Which copy it is ---------------------------------------------------------------------------------------

some_frame : (frames fs : List Frame) (f : Frame) → reverse frames ≡ f ∷ fs → 0 < length frames
some_frame frames fs f top =
    let all : length frames ≡ suc (length fs) = sym (length-reverse frames) ∙ ap (λ (l : List Frame). length l) top in
    omega (arith, all)

-- a declared object
pub declared_copy : (code : Code) (old : Engine) (place first : ℕ) (fs : List Frame) (s : State) (o : Owned) (t : ℕ) → BeforeResuming code old s → reverse old.control.items ≡ FrameOf.Copying place first ∷ fs → IsNewest old o → o.role ≡ RoleOf.Object t
    → IsCopy code old (FrameOf.Creating DeclaredOf.Object place) o.number t first s
declared_copy code old place first fs s o t b top newest role =
    let x = copying code old place first fs s b top in
    let u = x.1 in
    let hs = heads_of s.world.activations in
    let same : o ≡ u.object.object = same_at o u.object.object (slice_get old.owned.items (length old.owned.items - 1)) newest (newest_of_all (kept old) u.master u.number u.record_type u.object).found in
    let number : u.number ≡ o.number = sym (ap (λ (z : Owned). z.number) same ∙ u.object.number) in
    let type : u.record_type ≡ t = ap type_of (sym (sym role ∙ (ap (λ (z : Owned). z.role) same ∙ u.object.role))) in
    let left = subst (λ (k : List T.Frame). AllLeaveSame code (FrameOf.Copying place first ∷ fs) k) u.is (subst (λ (l : List Frame). AllLeaveSame code l s.control) top b.holds.left) in
    let waits : Wait (FrameOf.Creating DeclaredOf.Object place ∷ fs) (u.master ∷ u.others) hs old.owned.items (T.Creating T.ByDeclaration u.number u.record_type u.point ∷ u.waiting) = creating_waits u.object u.place_is u.seen u.waits in
    let here : IsCopy code old (FrameOf.Creating DeclaredOf.Object place) u.number u.record_type first s = record {
      by = T.ByDeclaration;
      paths = x.0;
      point = u.point;
      waiting = u.waiting;
      is = u.is;
      some = some_frame old.control.items fs (FrameOf.Copying place first) top;
      waits = subst (λ (l : List Frame). Wait (FrameOf.Creating DeclaredOf.Object place ∷ drop 1 l) (reverse old.masters.items) hs old.owned.items (T.Creating T.ByDeclaration u.number u.record_type u.point ∷ u.waiting)) (sym top)
          (subst (λ (l : List Master). Wait (FrameOf.Creating DeclaredOf.Object place ∷ fs) l hs old.owned.items (T.Creating T.ByDeclaration u.number u.record_type u.point ∷ u.waiting)) (sym u.masters) waits);
      left = subst (λ (l : List Frame). AllLeaveSame code (FrameOf.Creating DeclaredOf.Object place ∷ drop 1 l) (T.Creating T.ByDeclaration u.number u.record_type u.point ∷ u.waiting)) (sym top) (tt, left.1);
      mark = left.0;
    } in
    subst (λ n. IsCopy code old (FrameOf.Creating DeclaredOf.Object place) n t first s) number (subst (λ n. IsCopy code old (FrameOf.Creating DeclaredOf.Object place) u.number n first s) type here)

some_owned : (os : List Owned) (o : Owned) → slice_get os (length os - 1) ≡ Some o → 0 < length os
some_owned [] o found = absurd (cc)
some_owned (x ∷ os) o found = omega arith

pub copied_there : (code : Code) (old : Engine) (place first : ℕ) (fs : List Frame) (s : State) → BeforeResuming code old s → reverse old.control.items ≡ FrameOf.Copying place first ∷ fs → 0 < length old.owned.items
copied_there code old place first fs s b top = let u = (copying code old place first fs s b top).1 in some_owned old.owned.items u.object.object (newest_of_all (kept old) u.master u.number u.record_type u.object).found

-- the newest object is one of a record type
pub copied_type : (code : Code) (old : Engine) (place first : ℕ) (fs : List Frame) (s : State) (o : Owned) → BeforeResuming code old s → reverse old.control.items ≡ FrameOf.Copying place first ∷ fs → IsNewest old o → (t : ℕ) × (o.role ≡ RoleOf.Object t)
copied_type code old place first fs s o b top newest =
    let u = (copying code old place first fs s b top).1 in
    let same : o ≡ u.object.object = same_at o u.object.object (slice_get old.owned.items (length old.owned.items - 1)) newest (newest_of_all (kept old) u.master u.number u.record_type u.object).found in
    (u.record_type, ap (λ (z : Owned). z.role) same ∙ u.object.role)

-- an allocated object
pub allocated_copy : (code : Code) (old : Engine) (object t place first : ℕ) (fs : List Frame) (s : State) → BeforeResuming code old s → reverse old.control.items ≡ FrameOf.AllocatingCopy object t place first ∷ fs → IsCopy code old (FrameOf.Allocating object place) object t first s
allocated_copy code old object t place first fs s b top =
    let x = allocating_copy code old object t place first fs s b top in
    let u = x.1 in
    let hs = heads_of s.world.activations in
    let left = subst (λ (k : List T.Frame). AllLeaveSame code (FrameOf.AllocatingCopy object t place first ∷ fs) k) u.is (subst (λ (l : List Frame). AllLeaveSame code l s.control) top b.holds.left) in
    let waits : Wait (FrameOf.Allocating object place ∷ fs) (reverse old.masters.items) hs old.owned.items (T.Creating T.ByAllocator object t u.point ∷ u.waiting) = allocating_waits (record { number = refl; foreign = u.foreign }) u.place_is u.seen u.waits in
    record {
      by = T.ByAllocator;
      paths = x.0;
      point = u.point;
      waiting = u.waiting;
      is = u.is;
      some = some_frame old.control.items fs (FrameOf.AllocatingCopy object t place first) top;
      waits = subst (λ (l : List Frame). Wait (FrameOf.Allocating object place ∷ drop 1 l) (reverse old.masters.items) hs old.owned.items (T.Creating T.ByAllocator object t u.point ∷ u.waiting)) (sym top) waits;
      left = subst (λ (l : List Frame). AllLeaveSame code (FrameOf.Allocating object place ∷ drop 1 l) (T.Creating T.ByAllocator object t u.point ∷ u.waiting)) (sym top) (tt, left.1);
      mark = left.0;
    }

-- It is undone -------------------------------------------------------------------------------------------

-- the frame of an object whose parts are finalized is the newest
pub record IsUndoing (object first : ℕ) (fs : List Frame) (ms : List Master) (hs : List Head) (owned : List Owned) (k : List T.Frame) : Type 0 where
  pub paths : List (List ℕ)
  pub waiting : List T.Frame
  pub is : k ≡ T.Undoing object paths ∷ waiting
  pub waits : Wait fs ms hs owned waiting

undoing_top : {object first : ℕ} {fs : List Frame} {ms : List Master} {hs : List Head} {owned : List Owned} {k : List T.Frame} → Wait (FrameOf.Undoing object first ∷ fs) ms hs owned k → IsUndoing object first fs ms hs owned k
undoing_top (undoing_waits {paths = paths} {k = k} i w) = record { paths = paths; waiting = k; is = ap (λ n. T.Undoing n paths ∷ k) i; waits = w }

pub is_undoing : (code : Code) (old : Engine) (object first : ℕ) (fs : List Frame) (s : State) → BeforeResuming code old s → reverse old.control.items ≡ FrameOf.Undoing object first ∷ fs → IsUndoing object first fs (reverse old.masters.items) (heads_of s.world.activations) old.owned.items s.control
is_undoing code old object first fs s b top = undoing_top (subst (λ (l : List Frame). Wait l (reverse old.masters.items) (heads_of s.world.activations) old.owned.items s.control) top b.holds.waits)

-- the frame goes, with what is noted of the object
undoing_goes : (code : Code) (e : Kept) (object first : ℕ) (fs : List Frame) (paths : List (List ℕ)) (k : List T.Frame) (ops : List Word) (w : World) → e.control ≡ FrameOf.Undoing object first ∷ fs → Wait fs e.masters (heads_of w.activations) e.owned k → Holds code e (T.Undoing object paths ∷ k) ops w
    → Holds code (record e { control = fs; noted = take first e.noted }) k [] w
undoing_goes code e object first fs paths k ops w top waits h =
    let h' = no_operands code e (T.Undoing object paths ∷ k) ops w h in
    let left = subst (λ (l : List Frame). AllLeaveSame code l (T.Undoing object paths ∷ k)) top h.left in
    record {
      cells = h'.cells;
      room = h'.room;
      masters = h'.masters;
      below = h'.below;
      waits = waits;
      objects = h'.objects;
      needs = h'.needs;
      pools = h'.pools;
      owns = h'.owns;
      held = h'.held;
      rise = h'.rise;
      next_master = h'.next_master;
      next_object = h'.next_object;
      next_collection = h'.next_collection;
      collections = h'.collections;
      left = left.1;
      saved = h'.saved;
      noted = paths_front first e.noted ∙ (ap (λ (l : List (List ℕ)). take first l) h'.noted ∙ take_at (noted_in k) paths first (sym left.0));
    }

whole_ends : (n : ℕ) (w : World) → (if is_whole (whole_spot n) then end_finalization (whole_spot n).object w else w) ≡ end_finalization n w
unfolding is_whole opened_lists
whole_ends n w = refl

pub undoing_ends : (code : Code) (old mid new : Engine) (object first : ℕ) (fs : List Frame) (s : State) (ended : Tried Handed) → BeforeResuming code old s → reverse old.control.items ≡ FrameOf.Undoing object first ∷ fs → reverse mid.control.items ≡ FrameOf.Undoing object first ∷ fs
    → ((k : List T.Frame) (ops : List Word) (w : World) → Holds code (kept old) k ops w → Holds code (kept mid) k ops (if is_whole (whole_spot object) then end_finalization (whole_spot object).object w else w))
    → mid.spots.items ≡ old.spots.items → mid.events.items ≡ old.events.items → mid.picks.items ≡ old.picks.items
    → kept new ≡ record (kept mid) { control = fs; noted = take first mid.noted.items } → new.mode ≡ ModeOf.Giving (EndedOf.Raised 1) → new.events.items ≡ mid.events.items → new.picks.items ≡ mid.picks.items
    → Makes code old new (act code (Giving ended) s.control s.operands s.world 0)
unfolding opened_changes program_error
undoing_ends code old mid new object first fs s ended b before top ends spots events picks are mode shown chosen =
    let u = is_undoing code old object first fs s b before in
    let k = u.waiting in
    let all : List T.Frame = T.Undoing object u.paths ∷ k in
    let w = end_finalization object s.world in
    let hs = heads_of s.world.activations in
    let h : Holds code (kept old) all s.operands s.world = subst (λ (l : List T.Frame). Holds code (kept old) l s.operands s.world) u.is b.holds in
    let h' : Holds code (kept mid) all s.operands w = subst (λ (v : World). Holds code (kept mid) all s.operands v) (whole_ends object s.world) (ends all s.operands s.world h) in
    let waits = undoing_below (subst (λ (l : List Frame). Wait l (kept mid).masters hs (kept mid).owned all) top h'.waits) in
    let gone = undoing_goes code (kept mid) object first fs u.paths k s.operands w top waits h' in
    let sized : SizedBelow code k hs = subst (λ (l : List T.Frame). SizedBelow code l hs) u.is b.sized in
    let kept_spots = subst (λ (l : List T.Frame). old.spots.items ≡ spots_in l) u.is b.spots in
    let made : Makes code old new (gives (Raised program_error) k w) = record {
      mode = subst (λ (z : Mode). ShowsMode code z (T.Giving (Raised program_error)) k hs) (sym mode) (refl, sized);
      holds = subst (λ (z : Kept). Holds code z k [] w) (sym are) gone;
      spots = subst (λ (z : Mode). KeepsSpots z new.spots.items k []) (sym mode) (ap (λ (z : Kept). z.spots) are ∙ (spots ∙ kept_spots));
      shows = shown ∙ (events ∙ sym (append-nil old.events.items));
      picks = chosen ∙ picks;
    } in
    subst (λ (l : List T.Frame). Makes code old new (act code (Giving ended) l s.operands s.world 0)) (sym u.is) made
  where
    undoing_below : {object first : ℕ} {fs : List Frame} {ms : List Master} {hs : List Head} {owned : List Owned} {n : ℕ} {paths : List (List ℕ)} {k : List T.Frame} → Wait (FrameOf.Undoing object first ∷ fs) ms hs owned (T.Undoing n paths ∷ k) → Wait fs ms hs owned k
    undoing_below (undoing_waits i w) = w
