-- One of the components that are left is adjusted, or the part itself, once none is left.
use Rattle.std.proofs.Common.{◌≡◌, ℕ, ◌+◌, ◌^◌, ◌<◌, ◌≤◌, List, [], ◌∷◌, ◌++◌, Option, None, Some, Bool, length, refl, sym, ap, ◌∙◌, subst, arith}
use Rattle.std.specs.Prelude.{vec_capacity, vec_len}
use Rattle.ctl_tree.specs.declared.event.Owner.{Owner}
use Rattle.ctl_meaning.specs.World.{World}
use Rattle.ctl_meaning.specs.Finalization.{Spot}
use Rattle.ctl_meaning.specs.Lists.{pull_item, pull_rest}
use Rattle.ctl_meaning.specs.Outcome.{Fine}
use Rattle.ctl_code.specs.declared.code.Begun.{Begun}
use Rattle.ctl_code.specs.declared.code.Code.{Code}
use Rattle.ctl_code.specs.declared.code.Initial.{Initial}
use Rattle.ctl_code.specs.declared.code.Initial.TheVariants.{Constant, ByType, Computed}
use Rattle.ctl_code.specs.States as T
use Rattle.ctl_code.specs.Table.{adjust_component, adjust_next, adjust_part, component_of, controlled_of, gives, handed}
use Rattle.ctl_engine.specs.declared.engine.Engine.{Engine}
use Rattle.ctl_frames.specs.declared.frame.Frame.TheVariants as FrameOf
use Rattle.ctl_frames.specs.declared.frame.Left.{Left}
use Rattle.ctl_lifetimes.specs.Adjusting.{AdjustsParts, HasNoteRoom}
use Rattle.ctl_engine.specs.Assigning.{HasRoom}
use Rattle.ctl_engine.specs.Departing.{with_top}
use Rattle.ctl_frames.specs.Filling.{AreLeft}
use Rattle.ctl_engine.specs.Finishing.{DropsFrame, Finished, Finishes, HasRoomToFinish}
use Rattle.ctl_frames.specs.Noted.{IsNoting}
use Rattle.ctl_engine.specs.Shows.{Holds, Kept, kept, with_cells}
use Rattle.ctl_lifetimes.proofs.AfterFinalize.{dropped}
use Rattle.ctl_engine.proofs.Bodies.{more_cells}
use Rattle.ctl_lifetimes.proofs.NextPart.{changed_finishes}
use Rattle.ctl_lifetimes.proofs.PartFrames.{adjusts}

-- The table ----------------------------------------------------------------------------------------------

-- nothing is done of a component of an elementary type
elementary : (code : Code) (creation : Option Owner) (s : Spot) (x : Begun) (i : Initial) (failed : Bool) (k : List T.Frame) (w : World) → ((t : ℕ) → i ≡ ByType t → ⊥) → adjust_component code creation s x i failed k w ≡ gives (Fine (handed failed)) k w
elementary code creation s x (Constant v) failed k w other = refl
elementary code creation s x Computed failed k w other = refl
elementary code creation s x (ByType t) failed k w other = absurd (other t refl)

pub next_elementary : (code : Code) (creation : Option Owner) (s : Spot) (type : ℕ) (left : List Begun) (failed : Bool) (pick : ℕ) (k : List T.Frame) (w : World) (y : Begun) → 0 < length left → ((d : Begun) → y ≡ pull_item d pick left) → ((t : ℕ) → y.initial ≡ ByType t → ⊥)
    → adjust_next code creation s type left failed pick k w ≡ gives (Fine (handed failed)) (T.Adjusting creation s type (pull_rest pick left) ∷ k) w
next_elementary code creation s type [] failed pick k w y some is other = absurd (omega (arith, some))
next_elementary code creation s type (x ∷ xs) failed pick k w y some is other =
    let z = pull_item x pick (x ∷ xs) in
    elementary code creation s z z.initial failed (T.Adjusting creation s type (pull_rest pick (x ∷ xs)) ∷ k) w (λ t e. other t (ap (λ (b : Begun). b.initial) (is x) ∙ e))

pub next_by_type : (code : Code) (creation : Option Owner) (s : Spot) (type : ℕ) (left : List Begun) (failed : Bool) (pick : ℕ) (k : List T.Frame) (w : World) (y : Begun) (t : ℕ) → 0 < length left → ((d : Begun) → y ≡ pull_item d pick left) → y.initial ≡ ByType t
    → adjust_next code creation s type left failed pick k w ≡ adjust_part code creation (component_of s y.offset y.position) t failed (T.Adjusting creation s type (pull_rest pick left) ∷ k) w
next_by_type code creation s type [] failed pick k w y t some is by = absurd (omega (arith, some))
next_by_type code creation s type (x ∷ xs) failed pick k w y t some is by =
    let rest : List T.Frame = T.Adjusting creation s type (pull_rest pick (x ∷ xs)) ∷ k in
    ap (λ (i : Initial). adjust_component code creation s (pull_item x pick (x ∷ xs)) i failed rest w) (ap (λ (z : Begun). z.initial) (sym (is x)) ∙ by)
    ∙ ap (λ (z : Begun). adjust_part code creation (component_of s z.offset z.position) t failed rest w) (sym (is x))

-- The frame with the rest --------------------------------------------------------------------------------

pub rest_adjusts : (code : Code) (old new : Engine) (creation : Option Owner) (type : ℕ) (those rest : Left) (p : Spot) (t : Finished) (left right : List Begun) (more : List ℕ) → AdjustsParts code old creation type those t left → AreLeft (controlled_of code type) rest right
    → kept new ≡ with_top (FrameOf.Adjusting creation type rest) (with_cells (kept old) (old.cells.items ++ more)) → Finishes code new (record { spot = p; control = T.Adjusting creation t.spot type right ∷ t.control; world = t.world })
rest_adjusts code old new creation type those rest p t left right more f b are =
    changed_finishes code old new (FrameOf.Adjusting creation type those) (FrameOf.Adjusting creation type rest) (T.Adjusting creation t.spot type left) (T.Adjusting creation t.spot type right) p f.frames t more (adjusts f.noting f.are) (adjusts f.noting b) f.top f.holds f.spots f.sized are

-- The part itself ----------------------------------------------------------------------------------------

-- its frame is dropped, where there are further cells
pub newest_dropped : (code : Code) (old mid new : Engine) (creation : Option Owner) (type : ℕ) (those : Left) (t : Finished) (left : List Begun) (more : List ℕ) (popped : Spot) → AdjustsParts code old creation type those t left → kept mid ≡ with_cells (kept old) (old.cells.items ++ more) → DropsFrame mid new popped
    → Finishes code new t × (popped ≡ t.spot)
newest_dropped code old mid new creation type those t left more popped f are d =
    let k : List T.Frame = T.Adjusting creation t.spot type left ∷ t.control in
    let h : Holds code (kept mid) k [] t.world = subst (λ (e : Kept). Holds code e k [] t.world) (sym are) (more_cells code (kept old) more k [] t.world f.holds) in
    dropped code mid new (FrameOf.Adjusting creation type those) f.frames (T.Adjusting creation t.spot type left) t.spot popped t.control [] t.world (adjusts f.noting f.are) h (ap (λ (e : Kept). e.spots) are ∙ f.spots) f.sized (ap (λ (e : Kept). e.control) are ∙ f.top) d

-- there is still room for it
pub after_room : (code : Code) (old new : Engine) (base : ℕ) (popped : Spot) → DropsFrame old new popped → HasRoom code old base → vec_len old.control + 3 ≤ vec_capacity old.control → HasRoomToFinish code new base
after_room code old new base popped d room more =
    let fewer = d.fewer in
    let capacity = d.capacity in record {
      call = record {
        masters = subst (λ v. vec_len v < vec_capacity v) (sym d.others.0) room.masters;
        control = omega (arith, fewer, capacity, more);
        events = subst (λ v. vec_len v < vec_capacity v) (sym d.others.2) room.events;
        formals = subst (λ v. vec_len v < vec_capacity v) (sym d.others.1) room.formals;
        cells = subst (λ (e : Kept). base + code.room ≤ length e.cells) (sym d.kept) room.cells;
        number = subst (λ (e : Kept). e.next_master < 2 ^ 64) (sym d.kept) room.number;
      };
      control = omega (arith, fewer, capacity, more);
      spots = d.room.spots;
    }

-- and room to note it
pub note_room : (e : Engine) (creation : Option Owner) → vec_len e.noted < vec_capacity e.noted → HasNoteRoom e creation
note_room e None room = tt
note_room e (Some m) room = room

-- and it is noted for the same copy
pub still_noting : (creation : Option Owner) (s : Spot) (type : ℕ) (left : List Begun) (k : List T.Frame) → IsNoting creation k → IsNoting creation (T.Adjusting creation s type left ∷ k)
still_noting None s type left k h = tt
still_noting (Some m) s type left k h = h
