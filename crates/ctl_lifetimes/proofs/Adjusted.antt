-- Parts are adjusted: their components, and then the part itself, by the body of its Adjust.
use Rattle.std.proofs.Common.{◌≡◌, ℕ, ◌<◌, List, [], ◌∷◌, ◌++◌, Option, Some, None, Bool, length, refl, sym, ap, ◌∙◌, subst, arith, reverse}
use Rattle.std.specs.Prelude.{slice_get, unwrap_or}
use Rattle.ctl_tree.specs.declared.event.Owner.{Owner}
use Rattle.ctl_tree.specs.declared.event.Event.{Event}
use Rattle.ctl_tree.specs.declared.event.Event.TheVariants.{Adjust}
use Rattle.ctl_meaning.specs.World as W
use Rattle.ctl_meaning.specs.World.{World}
use Rattle.ctl_meaning.specs.Objects.{object_in}
use Rattle.ctl_meaning.specs.Changes.{object_at}
use Rattle.ctl_meaning.specs.Finalization.{Spot}
use Rattle.ctl_meaning.specs.Outcome.{Fine}
use Rattle.ctl_code.specs.declared.code.Begun.{Begun}
use Rattle.ctl_code.specs.declared.code.Code.{Code}
use Rattle.ctl_code.specs.declared.code.Entry.{Entry}
use Rattle.ctl_code.specs.declared.code.Parts.{Parts}
use Rattle.ctl_code.specs.declared.code.Parts.TheVariants as PartsOf
use Rattle.ctl_code.specs.States as T
use Rattle.ctl_code.specs.States.{Move}
use Rattle.ctl_code.specs.Table.{adjust_by, adjusted, adjust_left, adjust_own, adjust_part, call_operation, controlled_of, gives, gone, handed, operation_of, part_at, parts_of}
use Rattle.ctl_lifetimes.specs.declared.adjusting.Adjustment.{Adjustment}
use Rattle.ctl_engine.specs.declared.engine.Engine.{Engine}
use Rattle.ctl_frames.specs.declared.frame.Ended.{Ended}
use Rattle.ctl_frames.specs.declared.frame.Frame.TheVariants as FrameOf
use Rattle.ctl_frames.specs.declared.frame.Left.{Left}
use Rattle.ctl_frames.specs.declared.frame.Mode.TheVariants as ModeOf
use Rattle.ctl_lifetimes.specs.Adjusting.{CallsAdjust, adjust_call}
use Rattle.ctl_engine.specs.Assigning.{Called, Calls, IsAdjustOf}
use Rattle.ctl_frames.specs.Filling.{AreLeft}
use Rattle.ctl_engine.specs.Finishing.{BeginsOver, Finished, Finishes, with_frames}
use Rattle.ctl_frames.specs.Owned.{IsObject}
use Rattle.ctl_engine.proofs.Homes.{home_shown}
use Rattle.ctl_engine.specs.Moves.{Makes}
use Rattle.ctl_frames.specs.Noted.{IsNoting}
use Rattle.ctl_engine.specs.Shows.{kept, tried_of}
use Rattle.ctl_lifetimes.proofs.Finishing.{call_makes, calls_over, comes_over, finished_gives, over, part_there, same_finishes}
use Rattle.ctl_engine.proofs.MasterOf.{object_or}
use Rattle.ctl_lifetimes.proofs.PartFrames.{adjusts, adjusts_own}
use Rattle.ctl_frames.proofs.StillLeft.{none_left}
use Rattle.ctl_lifetimes.proofs.UserBodies.{body_of_adjust}

-- Its own Adjust ---------------------------------------------------------------------------------------

adjust_gone : (code : Code) (f : Option ℕ) (creation : Option Owner) (s : Spot) (t : ℕ) (failed : Bool) (o : Option W.Object) (k : List T.Frame) (w : World) → o ≡ None → adjust_by code f creation s t failed o k w ≡ gone k w
adjust_gone code None creation s t failed o k w none = rw none refl
adjust_gone code (Some f) creation s t failed o k w none = rw none refl

pub part_missing : (code : Code) (old new : Engine) (f : Option ℕ) (t : Finished) (x : Adjustment) → object_at t.spot.object t.world ≡ None → Makes code old new (gone t.control t.world)
    → Makes code old new (adjust_by code f x.creation t.spot x.record_type x.failed (object_at t.spot.object t.world) t.control t.world)
part_missing code old new f t x none made = subst (λ (m : Move). Makes code old new m) (sym (adjust_gone code f x.creation t.spot x.record_type x.failed (object_at t.spot.object t.world) t.control t.world none)) made

adjust_passes : (code : Code) (f : Option ℕ) (creation : Option Owner) (s : Spot) (t : ℕ) (failed : Bool) (o : Option W.Object) (there : W.Object) (k : List T.Frame) (w : World) → f ≡ None → o ≡ Some there → adjust_by code f creation s t failed o k w ≡ adjusted code creation s t failed k w
adjust_passes code f creation s t failed o there k w none is = rw (none, is) refl

-- the user wrote none
pub no_adjust : (code : Code) (old new : Engine) (x : Adjustment) (o : W.Object) (t : Finished) → Finishes code old t → object_in t.spot.object old.stock.objects ≡ Some o → operation_of (λ y. y.adjust) code x.record_type ≡ None
    → Makes code old new (adjusted code x.creation t.spot x.record_type x.failed t.control t.world) → Makes code old new (adjust_by code (operation_of (λ y. y.adjust) code x.record_type) x.creation t.spot x.record_type x.failed (object_at t.spot.object t.world) t.control t.world)
no_adjust code old new x o t b found none made =
    subst (λ (m : Move). Makes code old new m)
    (sym (adjust_passes code (operation_of (λ y. y.adjust) code x.record_type) x.creation t.spot x.record_type x.failed (object_at t.spot.object t.world) o t.control t.world none (part_there code old t o b found))) made

adjust_calls : (code : Code) (f : Option ℕ) (body : ℕ) (creation : Option Owner) (s : Spot) (t : ℕ) (failed : Bool) (o : Option W.Object) (there : W.Object) (k : List T.Frame) (w : World) → f ≡ Some body → o ≡ Some there
    → adjust_by code f creation s t failed o k w ≡ call_operation code body (Adjust (part_at s)) s there (T.AdjustingOwn creation s t failed ∷ k) w
adjust_calls code f body creation s t failed o there k w some is = rw (some, is) refl

-- what the body is called for
pub calls_adjust : (code : Code) (old new : Engine) (entry : Entry) (y : Adjustment) (master base : ℕ) (t : Finished) (x : Called) → Finishes code old t → IsNoting y.creation t.control → BeginsOver base t → CallsAdjust code old entry y master t x
    → kept new ≡ with_frames (FrameOf.AdjustingOwn y.creation y.record_type y.failed ∷ reverse old.control.items) (old.spots.items ++ t.spot ∷ []) (kept old) → Calls code new entry master base x
calls_adjust code old new entry y master base t x b noting begins c are =
    subst (λ (z : Called). Calls code new entry master base z) (sym c.is)
    (calls_over code old new (FrameOf.AdjustingOwn y.creation y.record_type y.failed) (T.AdjustingOwn y.creation t.spot y.record_type y.failed) entry master base x.body x.object t (adjusts_own noting) b begins (home_shown code (kept old) t.control [] t.world x.object.origin b.holds ∙ c.object.home) c.body c.slots are)

pub adjust_makes : (code : Code) (old mid new : Engine) (entry : Entry) (y : Adjustment) (master : ℕ) (t : Finished) (x : Called) (event : Event) → Finishes code old t → CallsAdjust code old entry y master t x → event ≡ Adjust (part_at t.spot)
    → mid.events.items ≡ old.events.items → mid.picks.items ≡ old.picks.items
    → Makes code mid new (call_operation code x.body event x.spot x.object x.control x.world)
    → Makes code old new (adjust_by code (operation_of (λ o. o.adjust) code y.record_type) y.creation t.spot y.record_type y.failed (object_at t.spot.object t.world) t.control t.world)
adjust_makes code old mid new entry y master t x event b c shows events picks made =
    let there = part_there code old t x.object b c.object.found in
    subst (λ (m : Move). Makes code old new m) (sym (adjust_calls code (operation_of (λ o. o.adjust) code y.record_type) x.body y.creation t.spot y.record_type y.failed (object_at t.spot.object t.world) x.object t.control t.world c.operation there))
    (call_makes code old mid new x (adjust_call x.object x.body y t) event (Adjust (part_at t.spot)) c.is shows events picks made)

-- the body that the user wrote
pub adjusts_it : (code : Code) (e : Engine) (entry : Entry) (y : Adjustment) (master : ℕ) (t : Finished) → IsObject e.owned.items e.stock.objects t.spot.object master (object_or t.spot.object e.stock.objects) → IsAdjustOf code y.record_type entry
    → CallsAdjust code e entry y master t (adjust_call (object_or t.spot.object e.stock.objects) (body_of_adjust code y.record_type) y t)
adjusts_it code e entry y master t there i =
    let body : body_of_adjust code y.record_type ≡ i.body = ap (λ (x : Option ℕ). unwrap_or x 0) i.operation in
    record {
      is = refl;
      object = there;
      operation = i.operation ∙ ap (λ (n : ℕ). Some n) (sym body);
      body = ap (λ n. slice_get code.entries.items n) body ∙ i.found;
      slots = i.slots;
    }

-- a part that is not controlled is adjusted with its components
own_passes : (code : Code) (parts : Parts) (creation : Option Owner) (s : Spot) (t : ℕ) (failed : Bool) (k : List T.Frame) (w : World) → (parts ≡ PartsOf.Controlled → ⊥) → adjust_own code parts creation s t failed k w ≡ gives (Fine (handed failed)) k w
own_passes code PartsOf.Controlled creation s t failed k w other = absurd (other refl)
own_passes code PartsOf.Within creation s t failed k w other = refl
own_passes code PartsOf.Plain creation s t failed k w other = refl

pub not_controlled : (code : Code) (old new : Engine) (parts : Parts) (creation : Option Owner) (type : ℕ) (t : Finished) (failed : Bool) (ended : Ended) → Finishes code old t → (parts ≡ PartsOf.Controlled → ⊥) → kept new ≡ kept old → new.mode ≡ ModeOf.Giving ended → tried_of ended ≡ Fine (handed failed)
    → new.events.items ≡ old.events.items → new.picks.items ≡ old.picks.items → Makes code old new (adjust_own code parts creation t.spot type failed t.control t.world)
not_controlled code old new parts creation type t failed ended b other are mode is events picks =
    subst (λ (m : Move). Makes code old new m) (sym (own_passes code parts creation t.spot type failed t.control t.world other))
    (finished_gives code old new t ended (Fine (handed failed)) (same_finishes code old new t b are) mode is events picks)

-- Its components ---------------------------------------------------------------------------------------

left_none : (code : Code) (creation : Option Owner) (s : Spot) (t : ℕ) (left : List Begun) (failed : Bool) (k : List T.Frame) (w : World) → left ≡ [] → adjust_left code creation s t left failed k w ≡ adjust_own code (parts_of code t) creation s t failed k w
left_none code creation s t left failed k w is = rw is refl

left_some : (code : Code) (creation : Option Owner) (s : Spot) (t : ℕ) (left : List Begun) (failed : Bool) (k : List T.Frame) (w : World) → 0 < length left → adjust_left code creation s t left failed k w ≡ gives (Fine (handed failed)) (T.Adjusting creation s t left ∷ k) w
left_some code creation s t [] failed k w some = absurd (omega (arith, some))
left_some code creation s t (x ∷ xs) failed k w some = refl

-- where it has none, the part itself is adjusted
pub no_components : (code : Code) (old new : Engine) (t : Finished) (creation : Option Owner) (type : ℕ) (those : Left) (failed : Bool) → AreLeft (controlled_of code type) those (controlled_of code type) → those.first ≡ those.last
    → Makes code old new (adjust_own code (parts_of code type) creation t.spot type failed t.control t.world) → Makes code old new (adjust_part code creation t.spot type failed t.control t.world)
no_components code old new t creation type those failed are none made =
    let all = controlled_of code type in
    subst (λ (m : Move). Makes code old new m) (sym (left_none code creation t.spot type all failed t.control t.world (none_left all all those are none))) made

-- and by its own Adjust, if it is controlled
pub alone_adjusted : (code : Code) (old new : Engine) (t : Finished) (creation : Option Owner) (type : ℕ) (failed : Bool) → length (controlled_of code type) ≡ 0 → parts_of code type ≡ PartsOf.Controlled
    → Makes code old new (adjust_by code (operation_of (λ y. y.adjust) code type) creation t.spot type failed (object_at t.spot.object t.world) t.control t.world) → Makes code old new (adjust_part code creation t.spot type failed t.control t.world)
alone_adjusted code old new t creation type failed none controlled made =
    subst (λ (m : Move). Makes code old new m) (sym (left_none code creation t.spot type (controlled_of code type) failed t.control t.world (empty_is (controlled_of code type) none)))
    (subst (λ (p : Parts). Makes code old new (adjust_own code p creation t.spot type failed t.control t.world)) (sym controlled) made)
  where
    empty_is : (l : List Begun) → length l ≡ 0 → l ≡ []
    empty_is [] none = refl
    empty_is (x ∷ xs) none = absurd (omega (arith, none))

-- those that it has are left
pub some_components : (code : Code) (old new : Engine) (t : Finished) (creation : Option Owner) (type : ℕ) (those : Left) (failed : Bool) (ended : Ended) → Finishes code old t → IsNoting creation t.control → 0 < length (controlled_of code type) → AreLeft (controlled_of code type) those (controlled_of code type)
    → kept new ≡ with_frames (FrameOf.Adjusting creation type those ∷ reverse old.control.items) (old.spots.items ++ t.spot ∷ []) (kept old) → new.mode ≡ ModeOf.Giving ended → tried_of ended ≡ Fine (handed failed)
    → new.events.items ≡ old.events.items → new.picks.items ≡ old.picks.items → Makes code old new (adjust_part code creation t.spot type failed t.control t.world)
some_components code old new t creation type those failed ended b noting some left are mode is events picks =
    let all = controlled_of code type in
    subst (λ (m : Move). Makes code old new m) (sym (left_some code creation t.spot type all failed t.control t.world some))
    (finished_gives code old new (over (T.Adjusting creation t.spot type all) t) ended (Fine (handed failed)) (comes_over code old new (FrameOf.Adjusting creation type those) (T.Adjusting creation t.spot type all) t (adjusts noting left) b are) mode is events picks)
