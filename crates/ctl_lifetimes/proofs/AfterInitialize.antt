-- The machine goes on behind the creation of a declared object, or behind its Adjust.
use Rattle.std.proofs.Common.{◌≡◌, ◌≢◌, ℕ, refl, List, [], ◌∷◌, ◌++◌, Option, None, Some, sym, ap, ◌∙◌, subst, reverse}
use Rattle.std.proofs.lemmas.List.{append-nil, reverse-append}
use Rattle.ctl_tree.specs.declared.event.Event.{Event}
use Rattle.ctl_meaning.specs.Outcome.{ByRaise, Fine, Raised}
use Rattle.ctl_meaning.specs.Changes.{object_at}
use Rattle.ctl_meaning.specs.World as W
use Rattle.ctl_meaning.specs.World.{World}
use Rattle.ctl_code.specs.declared.code.Code.{Code}
use Rattle.ctl_code.specs.declared.code.Way.TheVariants as WayOf
use Rattle.ctl_code.specs.States as T
use Rattle.ctl_code.specs.States.{State, Giving}
use Rattle.ctl_code.specs.Table.{act, by_copying, come_to_life, transfers, uncreated}
use Rattle.ctl_objects.specs.Stock.{Stock}
use Rattle.ctl_engine.specs.declared.engine.Engine.{Engine}
use Rattle.ctl_frames.specs.declared.frame.Declared.{Declared}
use Rattle.ctl_frames.specs.declared.frame.Declared.TheVariants as DeclaredOf
use Rattle.ctl_frames.specs.declared.frame.Ended.{Ended}
use Rattle.ctl_frames.specs.declared.frame.Ended.TheVariants as EndedOf
use Rattle.ctl_frames.specs.declared.frame.Frame.{Frame}
use Rattle.ctl_frames.specs.declared.frame.Frame.TheVariants as FrameOf
use Rattle.ctl_frames.specs.declared.frame.Mode.{Mode}
use Rattle.ctl_frames.specs.declared.frame.Mode.TheVariants as ModeOf
use Rattle.ctl_frames.specs.declared.frame.Owned.{Owned}
use Rattle.ctl_engine.specs.Closing.{ClosesNew}
use Rattle.ctl_frames.specs.Masters.{Head, heads_of}
use Rattle.ctl_engine.specs.Shows.{Wait, ShowsMode, SizedUnderWay, Kept, Holds, kept, maker_of, tried_of}
use Rattle.ctl_engine.specs.Moves.{BeforeResuming, Makes}
use Rattle.ctl_engine.specs.Initializing.{IsNewest, Turns, alive, with_newest}
use Rattle.ctl_engine.proofs.Plain.{no_operands, sized_inside}
use Rattle.ctl_lifetimes.proofs.Initialized.{newest_of_all, lives_makes}
use Rattle.ctl_engine.proofs.Stages.{Stage, Creates, Copies, IsUnder, frame_in, maker_in, noted_before, under_copying, under_creating, stands_behind}
use Rattle.ctl_frames.proofs.Newest.{newest_object, newest_object_is}
use Rattle.ctl_engine.proofs.PoolsClosed.{closes_new, new_heads}
use Rattle.ctl_engine.proofs.Stocked.{with_stock}
use Rattle.ctl_frames.specs.Spots.{KeepsSpots, located}

-- the frame is taken off, with what is noted of its object: nothing else has changed
pub record TakesFrame (g : Stage) (old mid : Engine) (fs : List Frame) : Type 0 where
  pub kept : kept mid ≡ record (kept old) { control = fs; noted = noted_before g old.noted.items }
  pub events : mid.events.items ≡ old.events.items
  pub picks : mid.picks.items ≡ old.picks.items

pub under : (code : Code) (old : Engine) (d : Declared) (place : ℕ) (fs : List Frame) (s : State) → BeforeResuming code old s → reverse old.control.items ≡ FrameOf.Creating d place ∷ fs → IsUnder d Creates place fs (reverse old.masters.items) (heads_of s.world.activations) old.owned.items s.control
under code old d place fs s b top = under_creating (subst (λ (l : List Frame). Wait l (reverse old.masters.items) (heads_of s.world.activations) old.owned.items s.control) top b.holds.waits)

newest_is : (d : Declared) (g : Stage) (place : ℕ) (fs : List Frame) (old : Engine) (s : State) (u : IsUnder d g place fs (reverse old.masters.items) (heads_of s.world.activations) old.owned.items s.control) → newest_object old.owned.items ≡ u.object.object
newest_is d g place fs old s u = ap newest_object u.object.is_newest ∙ newest_object_is u.object.before u.object.object

-- its object is the newest
pub object_newest : (d : Declared) (g : Stage) (place : ℕ) (fs : List Frame) (old : Engine) (s : State) → IsUnder d g place fs (reverse old.masters.items) (heads_of s.world.activations) old.owned.items s.control → IsNewest old (newest_object old.owned.items)
object_newest d g place fs old s u = subst (λ (o : Owned). IsNewest old o) (sym (newest_is d g place fs old s u)) (newest_of_all (kept old) u.master u.number u.record_type u.object).found

-- a pool comes to life as any other declared object
pub life_is : (d : Declared) (g : Stage) (n : ℕ) (o : Option W.Object) (p : T.Point) (k : List T.Frame) (w : World) → come_to_life T.ByDeclaration n o p k w ≡ come_to_life (maker_in d g) n o p k w
life_is d g n None p k w = refl
life_is DeclaredOf.Object Creates n (Some o) p k w = refl
life_is DeclaredOf.Pool Creates n (Some o) p k w = refl
life_is d (Copies first paths) n (Some o) p k w = refl

-- the object comes to life where the declaration goes on
pub comes_to_life : (d : Declared) (g : Stage) (code : Code) (old mid new : Engine) (place : ℕ) (fs : List Frame) (s : State) (u : IsUnder d g place fs (reverse old.masters.items) (heads_of s.world.activations) old.owned.items s.control)
    → BeforeResuming code old s → reverse old.control.items ≡ frame_in d g place ∷ fs → TakesFrame g old mid fs → Turns mid new (alive (newest_object old.owned.items)) (ModeOf.At place) []
    → Makes code old new (come_to_life (maker_in d g) u.number (object_at u.number s.world) u.point u.waiting s.world)
comes_to_life d g code old mid new place fs s u b top taken turns =
    let v = stands_behind d g code old place fs s b top u in
    let e = record (kept old) { control = fs; noted = noted_before g old.noted.items } in
    let t = subst (λ (x : Owned). Turns mid new (alive x) (ModeOf.At place) []) (newest_is d g place fs old s u ∙ sym v.same) turns in
    subst (λ (m : T.Move). Makes code old new m) (life_is d g u.number (object_at u.number s.world) u.point u.waiting s.world)
    (lives_makes code old new e u.waiting u.point s.world v.stack u.number u.record_type v.inside v.object v.holds v.spots v.leads v.sized u.seen
    (t.mode ∙ ap (λ n. ModeOf.At n) (sym u.place_is))
    (t.kept ∙ ap (λ (x : Kept). with_newest (alive v.object.object) x) taken.kept)
    (t.events ∙ ap (λ (l : List Event). l ++ []) taken.events)
    (t.picks ∙ taken.picks))

-- the frame is taken off, with what is noted of its object, and the stock is this then: nothing else has changed
pub record LeavesFrame (g : Stage) (old new : Engine) (fs : List Frame) (x : Stock) : Type 0 where
  pub kept : kept new ≡ with_stock x (record (kept old) { control = fs; noted = noted_before g old.noted.items })
  pub events : new.events.items ≡ old.events.items
  pub picks : new.picks.items ≡ old.picks.items

-- an exception goes on, in the world that the stock shows
pub creation_raises : (d : Declared) (g : Stage) (code : Code) (old new : Engine) (place : ℕ) (fs : List Frame) (s : State) (exception : ℕ) (x : Stock) (w : World) (u : IsUnder d g place fs (reverse old.masters.items) (heads_of s.world.activations) old.owned.items s.control)
    → BeforeResuming code old s → reverse old.control.items ≡ frame_in d g place ∷ fs → new.mode ≡ ModeOf.Transfers (WayOf.Raise exception) → LeavesFrame g old new fs x → heads_of w.activations ≡ heads_of s.world.activations
    → (let e = record (kept old) { control = fs; noted = noted_before g old.noted.items } in Holds code e u.waiting u.point.operands s.world → Holds code (with_stock x e) u.waiting u.point.operands w) → Makes code old new (transfers (ByRaise exception) u.waiting w)
creation_raises d g code old new place fs s exception x w u b top mode taken heads shows =
    let v = stands_behind d g code old place fs s b top u in
    let e = record (kept old) { control = fs; noted = noted_before g old.noted.items } in
    let sized = sized_inside code v.stack u.waiting u.point.operands (heads_of s.world.activations) v.stands v.sized in
    record {
      mode = subst (λ (y : Mode). ShowsMode code y (T.Transfers (ByRaise exception)) u.waiting (heads_of w.activations)) (sym mode) (refl, subst (λ (hs : List Head). SizedUnderWay code u.waiting hs) (sym heads) sized);
      holds = subst (λ (y : Kept). Holds code y u.waiting [] w) (sym taken.kept) (no_operands code (with_stock x e) u.waiting u.point.operands w (shows v.holds));
      spots = subst (λ (y : Mode). KeepsSpots y new.spots.items u.waiting []) (sym mode) (located u.point.operands, ap (λ (y : Kept). y.spots) taken.kept ∙ v.spots);
      shows = taken.events ∙ sym (append-nil old.events.items);
      picks = taken.picks;
    }

-- Behind the creation of its parts ---------------------------------------------------------------------

pub default_lives : (code : Code) (old mid new : Engine) (d : Declared) (place : ℕ) (fs : List Frame) (s : State) (h : T.Handed) → BeforeResuming code old s → reverse old.control.items ≡ FrameOf.Creating d place ∷ fs → TakesFrame Creates old mid fs
    → Turns mid new (alive (newest_object old.owned.items)) (ModeOf.At place) [] → Makes code old new (act code (Giving (Fine h)) s.control s.operands s.world 0)
default_lives code old mid new d place fs s h b top taken turns =
    let u = under code old d place fs s b top in
    subst (λ (k : List T.Frame). Makes code old new (act code (Giving (Fine h)) k s.operands s.world 0)) (sym u.is)
    (comes_to_life d Creates code old mid new place fs s u b top taken turns)

-- where it is a pool, that closes then
pub default_raises : (code : Code) (old new : Engine) (d : Declared) (place : ℕ) (fs : List Frame) (s : State) (exception : ℕ) (x : Stock) → BeforeResuming code old s → reverse old.control.items ≡ FrameOf.Creating d place ∷ fs
    → new.mode ≡ ModeOf.Transfers (WayOf.Raise exception) → ClosesNew d (newest_object old.owned.items).number old.stock x → LeavesFrame Creates old new fs x → Makes code old new (act code (Giving (Raised exception)) s.control s.operands s.world 0)
default_raises code old new d place fs s exception x b top mode closes taken =
    let u = under code old d place fs s b top in
    let number : (newest_object old.owned.items).number ≡ u.number = ap (λ (o : Owned). o.number) (newest_is d Creates place fs old s u) ∙ u.object.number in
    let closed = subst (λ n. ClosesNew d n old.stock x) number closes in
    subst (λ (k : List T.Frame). Makes code old new (act code (Giving (Raised exception)) k s.operands s.world 0)) (sym u.is)
    (creation_raises d Creates code old new place fs s exception x (uncreated (maker_of d) u.number s.world) u b top mode taken (new_heads d u.number s.world)
    (closes_new d code (record (kept old) { control = fs }) x u.number u.waiting u.point.operands s.world closed))

-- Behind its adjustment --------------------------------------------------------------------------------

pub copying : (code : Code) (old : Engine) (place first : ℕ) (fs : List Frame) (s : State) → BeforeResuming code old s → reverse old.control.items ≡ FrameOf.Copying place first ∷ fs
    → (paths : List (List ℕ)) × IsUnder DeclaredOf.Object (Copies first paths) place fs (reverse old.masters.items) (heads_of s.world.activations) old.owned.items s.control
copying code old place first fs s b top = under_copying (subst (λ (l : List Frame). Wait l (reverse old.masters.items) (heads_of s.world.activations) old.owned.items s.control) top b.holds.waits)

-- where nothing failed, and nothing was raised
copied_so : (code : Code) (ended : Ended) (n t : ℕ) (paths : List (List ℕ)) (p : T.Point) (k : List T.Frame) (w : World) → ((e : ℕ) → ended ≡ EndedOf.Raised e → ⊥) → ended ≢ EndedOf.OperationFailed → by_copying code (tried_of ended) T.ByDeclaration n t paths p k w ≡ come_to_life T.ByDeclaration n (object_at n w) p k w
copied_so code EndedOf.Complete n t paths p k w none fine = refl
copied_so code EndedOf.OperationFailed n t paths p k w none fine = absurd (fine refl)
copied_so code (EndedOf.Raised e) n t paths p k w none fine = absurd (none e refl)

pub copy_lives : (code : Code) (old mid new : Engine) (ended : Ended) (place first : ℕ) (fs : List Frame) (s : State) → ((e : ℕ) → ended ≡ EndedOf.Raised e → ⊥) → ended ≢ EndedOf.OperationFailed → BeforeResuming code old s → reverse old.control.items ≡ FrameOf.Copying place first ∷ fs → TakesFrame (Copies first []) old mid fs
    → Turns mid new (alive (newest_object old.owned.items)) (ModeOf.At place) [] → Makes code old new (act code (Giving (tried_of ended)) s.control s.operands s.world 0)
copy_lives code old mid new ended place first fs s none fine b top taken turns =
    let x = copying code old place first fs s b top in
    let u = x.1 in
    let g = Copies first x.0 in
    subst (λ (k : List T.Frame). Makes code old new (act code (Giving (tried_of ended)) k s.operands s.world 0)) (sym u.is)
    (subst (λ (m : T.Move). Makes code old new m) (sym (copied_so code ended u.number u.record_type x.0 u.point u.waiting s.world none fine))
    (comes_to_life DeclaredOf.Object g code old mid new place fs s u b top (record { kept = taken.kept; events = taken.events; picks = taken.picks }) turns))

pub copy_raises : (code : Code) (old new : Engine) (place first : ℕ) (fs : List Frame) (s : State) (exception : ℕ) → BeforeResuming code old s → reverse old.control.items ≡ FrameOf.Copying place first ∷ fs
    → new.mode ≡ ModeOf.Transfers (WayOf.Raise exception) → TakesFrame (Copies first []) old new fs → Makes code old new (act code (Giving (Raised exception)) s.control s.operands s.world 0)
copy_raises code old new place first fs s exception b top mode taken =
    let x = copying code old place first fs s b top in
    let u = x.1 in
    let g = Copies first x.0 in
    subst (λ (k : List T.Frame). Makes code old new (act code (Giving (Raised exception)) k s.operands s.world 0)) (sym u.is)
    (creation_raises DeclaredOf.Object g code old new place fs s exception old.stock s.world u b top mode (record { kept = taken.kept; events = taken.events; picks = taken.picks }) refl (λ h. h))

-- the stack without its newest frame
pub rest_is : (frames more : List Frame) (x top : Frame) (fs : List Frame) → frames ≡ more ++ x ∷ [] → reverse frames ≡ top ∷ fs → reverse more ≡ fs
rest_is frames more x top fs taken is = ap (λ (l : List Frame). tail_of l) (sym (ap (λ (l : List Frame). reverse l) taken ∙ reverse-append more (x ∷ [])) ∙ is)
  where
    tail_of : List Frame → List Frame
    tail_of [] = []
    tail_of (y ∷ ys) = ys

-- what has ended without an exception
pub fine_of : (ended : Ended) → ((e : ℕ) → ended ≡ EndedOf.Raised e → ⊥) → (h : T.Handed) × (tried_of ended ≡ Fine h)
fine_of EndedOf.Complete none = (T.Complete, refl)
fine_of EndedOf.OperationFailed none = (T.OperationFailed, refl)
fine_of (EndedOf.Raised e) none = absurd (none e refl)
