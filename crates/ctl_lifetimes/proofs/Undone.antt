-- Parts of copies that failed are finalized, as far as they are adjusted: by the body of their Finalize, and then their components.
use Rattle.std.proofs.Common.{◌≡◌, ℕ, ◌<◌, List, [], ◌∷◌, ◌++◌, Option, Some, None, Bool, true, false, length, refl, sym, ap, ◌∙◌, subst, arith, reverse, drop}
use Rattle.std.specs.Prelude.{slice_get, unwrap_or}
use Rattle.ctl_tree.specs.declared.event.Cause.TheVariants as CauseOf
use Rattle.ctl_tree.specs.declared.event.Event.{Event}
use Rattle.ctl_tree.specs.declared.event.Event.TheVariants.{Finalize}
use Rattle.ctl_meaning.specs.World as W
use Rattle.ctl_meaning.specs.World.{World}
use Rattle.ctl_meaning.specs.Objects.{object_in}
use Rattle.ctl_meaning.specs.Changes.{object_at}
use Rattle.ctl_meaning.specs.Finalization.{Spot}
use Rattle.ctl_meaning.specs.Lists.{any_of, same_list}
use Rattle.ctl_meaning.specs.Outcome.{Fine}
use Rattle.ctl_code.specs.declared.code.Begun.{Begun}
use Rattle.ctl_code.specs.declared.code.Code.{Code}
use Rattle.ctl_code.specs.declared.code.Entry.{Entry}
use Rattle.ctl_code.specs.States as T
use Rattle.ctl_code.specs.States.{Move}
use Rattle.ctl_code.specs.Table.{adjusted_in, adjusted_of, call_operation, controlled_of, gives, gone, operation_of, part_at, undo_by, undo_components, undo_left, undo_own}
use Rattle.ctl_engine.specs.declared.engine.Engine.{Engine}
use Rattle.ctl_frames.specs.declared.frame.Ended.TheVariants as EndedOf
use Rattle.ctl_frames.specs.declared.frame.Frame.TheVariants as FrameOf
use Rattle.ctl_frames.specs.declared.frame.Left.{Left}
use Rattle.ctl_frames.specs.declared.frame.Mode.TheVariants as ModeOf
use Rattle.ctl_engine.specs.Assigning.{Called, Calls}
use Rattle.ctl_engine.specs.Departing.{IsFinalizeOf}
use Rattle.ctl_frames.specs.Filling.{AreAmong, is_undone}
use Rattle.ctl_engine.specs.Finishing.{BeginsOver, Finished, Finishes, with_frames}
use Rattle.ctl_frames.specs.Owned.{IsObject}
use Rattle.ctl_engine.proofs.Homes.{home_shown}
use Rattle.ctl_engine.specs.Moves.{Makes}
use Rattle.ctl_frames.specs.Noted.{IsUndone}
use Rattle.ctl_engine.specs.Shows.{kept}
use Rattle.ctl_lifetimes.specs.Undoing.{CallsUndone, among, has_any_of, noted_from, undo_call}
use Rattle.ctl_lifetimes.proofs.Among.{among_all}
use Rattle.ctl_lifetimes.proofs.Finishing.{call_makes, calls_over, comes_over, finished_gives, nothing_there, over, part_there, same_finishes}
use Rattle.ctl_engine.proofs.MasterOf.{object_or}
use Rattle.ctl_lifetimes.proofs.PartFrames.{undoes_own, undoes_parts}
use Rattle.ctl_lifetimes.proofs.UserBodies.{body_of_finalize}

-- What is noted ----------------------------------------------------------------------------------------

-- from the mark on, the parts that these frames undo
pub noted_so : (code : Code) (e : Engine) (first : ℕ) (t : Finished) → Finishes code e t → IsUndone first t.control → noted_from first e.noted.items ≡ adjusted_in t.control
noted_so code e first t b u = ap (λ (l : List (List ℕ)). drop first l) b.holds.noted ∙ u

-- all components that are adjusted, or have such parts
pub undone_all : (code : Code) (e : Engine) (type first n : ℕ) (t : Finished) → Finishes code e t → IsUndone first t.control → n ≡ length (controlled_of code type)
    → among (controlled_of code type) 0 n (has_any_of (noted_from first e.noted.items) t.spot) ≡ adjusted_of code t.spot type (adjusted_in t.control)
undone_all code e type first n t b u is =
    ap (λ (l : List (List ℕ)). among (controlled_of code type) 0 n (has_any_of l t.spot)) (noted_so code e first t b u) ∙ among_all (controlled_of code type) n (has_any_of (adjusted_in t.control) t.spot) is

-- Components -------------------------------------------------------------------------------------------

left_none : (s : Spot) (left : List Begun) (k : List T.Frame) (w : World) → left ≡ [] → undo_left s left k w ≡ gives (Fine T.Complete) k w
left_none s left k w is = rw is refl

left_some : (s : Spot) (left : List Begun) (k : List T.Frame) (w : World) → 0 < length left → undo_left s left k w ≡ gives (Fine T.Complete) (T.UndoingParts s left ∷ k) w
left_some s [] k w some = absurd (omega (arith, some))
left_some s (x ∷ xs) k w some = refl

-- a part of which no component is adjusted, or has such parts, is finalized
pub none_undone : (code : Code) (old new : Engine) (type first n : ℕ) (t : Finished) → Finishes code old t → IsUndone first t.control → n ≡ length (controlled_of code type)
    → length (among (controlled_of code type) 0 n (has_any_of (noted_from first old.noted.items) t.spot)) ≡ 0
    → kept new ≡ kept old → new.mode ≡ ModeOf.Giving EndedOf.Complete → new.events.items ≡ old.events.items → new.picks.items ≡ old.picks.items → Makes code old new (undo_components code t.spot type t.control t.world)
none_undone code old new type first n t b u is none are mode events picks =
    let left = adjusted_of code t.spot type (adjusted_in t.control) in
    let empty : length left ≡ 0 = sym (ap (λ (l : List Begun). length l) (undone_all code old type first n t b u is)) ∙ none in
    subst (λ (m : Move). Makes code old new m) (sym (left_none t.spot left t.control t.world (nothing_there left empty)))
    (finished_gives code old new t EndedOf.Complete (Fine T.Complete) (same_finishes code old new t b are) mode refl events picks)

-- those are left
pub some_undone : (code : Code) (old new : Engine) (type count first n : ℕ) (t : Finished) → Finishes code old t → IsUndone first t.control → n ≡ length (controlled_of code type)
    → count ≡ length (among (controlled_of code type) 0 n (has_any_of (noted_from first old.noted.items) t.spot)) → 0 < count
    → kept new ≡ with_frames (FrameOf.UndoingParts type (record { first = 0; last = n }) count first ∷ reverse old.control.items) (old.spots.items ++ t.spot ∷ []) (kept old)
    → new.mode ≡ ModeOf.Giving EndedOf.Complete → new.events.items ≡ old.events.items → new.picks.items ≡ old.picks.items → Makes code old new (undo_components code t.spot type t.control t.world)
some_undone code old new type count first n t b u is many some are mode events picks =
    let all = controlled_of code type in
    let left = adjusted_of code t.spot type (adjusted_in t.control) in
    let those : Left = record { first = 0; last = n } in
    let same = ap (λ (l : List Begun). length l) (undone_all code old type first n t b u is) in
    let among_them : AreAmong all those (is_undone t.spot t.control) left = record { rising = omega arith; within = omega (arith, is); are = sym (among_all all n (is_undone t.spot t.control) is) } in
    subst (λ (m : Move). Makes code old new m) (sym (left_some t.spot left t.control t.world (omega (arith, many, same, some))))
    (finished_gives code old new (over (T.UndoingParts t.spot left) t) EndedOf.Complete (Fine T.Complete)
    (comes_over code old new (FrameOf.UndoingParts type those count first) (T.UndoingParts t.spot left) t (undoes_parts u among_them (many ∙ same)) b are) mode refl events picks)

-- Its own Finalize -------------------------------------------------------------------------------------

own_gone : (code : Code) (f : Option ℕ) (s : Spot) (t : ℕ) (o : Option W.Object) (k : List T.Frame) (w : World) → o ≡ None → undo_by code f s t o k w ≡ gone k w
own_gone code None s t o k w none = rw none refl
own_gone code (Some f) s t o k w none = rw none refl

pub undone_gone : (code : Code) (old new : Engine) (f : Option ℕ) (type : ℕ) (t : Finished) → object_at t.spot.object t.world ≡ None → Makes code old new (gone t.control t.world) → Makes code old new (undo_by code f t.spot type (object_at t.spot.object t.world) t.control t.world)
undone_gone code old new f type t none made = subst (λ (m : Move). Makes code old new m) (sym (own_gone code f t.spot type (object_at t.spot.object t.world) t.control t.world none)) made

own_passes : (code : Code) (f : Option ℕ) (s : Spot) (t : ℕ) (o : Option W.Object) (there : W.Object) (k : List T.Frame) (w : World) → f ≡ None → o ≡ Some there → undo_by code f s t o k w ≡ undo_components code s t k w
own_passes code f s t o there k w none is = rw (none, is) refl

-- the user wrote none
pub no_own_undone : (code : Code) (old new : Engine) (type : ℕ) (o : W.Object) (t : Finished) → Finishes code old t → object_in t.spot.object old.stock.objects ≡ Some o → operation_of (λ x. x.finalize) code type ≡ None
    → Makes code old new (undo_components code t.spot type t.control t.world) → Makes code old new (undo_by code (operation_of (λ x. x.finalize) code type) t.spot type (object_at t.spot.object t.world) t.control t.world)
no_own_undone code old new type o t b found none made =
    subst (λ (m : Move). Makes code old new m) (sym (own_passes code (operation_of (λ x. x.finalize) code type) t.spot type (object_at t.spot.object t.world) o t.control t.world none (part_there code old t o b found))) made

own_calls : (code : Code) (f : Option ℕ) (body : ℕ) (s : Spot) (t : ℕ) (o : Option W.Object) (there : W.Object) (k : List T.Frame) (w : World) → f ≡ Some body → o ≡ Some there
    → undo_by code f s t o k w ≡ call_operation code body (Finalize (part_at s) CauseOf.Failed) s there (T.UndoingOwn s t ∷ k) w
own_calls code f body s t o there k w some is = rw (some, is) refl

-- what the body is called for
pub calls_undone : (code : Code) (old new : Engine) (entry : Entry) (type master base first : ℕ) (t : Finished) (x : Called) → Finishes code old t → BeginsOver base t → IsUndone first t.control → CallsUndone code old entry type master t x
    → kept new ≡ with_frames (FrameOf.UndoingOwn type first ∷ reverse old.control.items) (old.spots.items ++ t.spot ∷ []) (kept old) → Calls code new entry master base x
calls_undone code old new entry type master base first t x b begins u c are =
    subst (λ (z : Called). Calls code new entry master base z) (sym c.is)
    (calls_over code old new (FrameOf.UndoingOwn type first) (T.UndoingOwn t.spot type) entry master base x.body x.object t (undoes_own u) b begins (home_shown code (kept old) t.control [] t.world x.object.origin b.holds ∙ c.object.home) c.body c.slots are)

pub undone_makes : (code : Code) (old mid new : Engine) (entry : Entry) (type master : ℕ) (t : Finished) (x : Called) (event : Event) → Finishes code old t → CallsUndone code old entry type master t x → event ≡ Finalize (part_at t.spot) CauseOf.Failed
    → mid.events.items ≡ old.events.items → mid.picks.items ≡ old.picks.items
    → Makes code mid new (call_operation code x.body event x.spot x.object x.control x.world)
    → Makes code old new (undo_by code (operation_of (λ o. o.finalize) code type) t.spot type (object_at t.spot.object t.world) t.control t.world)
undone_makes code old mid new entry type master t x event b c shows events picks made =
    let there = part_there code old t x.object b c.object.found in
    subst (λ (m : Move). Makes code old new m) (sym (own_calls code (operation_of (λ o. o.finalize) code type) x.body t.spot type (object_at t.spot.object t.world) x.object t.control t.world c.operation there))
    (call_makes code old mid new x (undo_call x.object x.body type t) event (Finalize (part_at t.spot) CauseOf.Failed) c.is shows events picks made)

-- the body that the user wrote
pub calls_it : (code : Code) (e : Engine) (entry : Entry) (type master : ℕ) (t : Finished) → IsObject e.owned.items e.stock.objects t.spot.object master (object_or t.spot.object e.stock.objects) → IsFinalizeOf code type entry
    → CallsUndone code e entry type master t (undo_call (object_or t.spot.object e.stock.objects) (body_of_finalize code type) type t)
calls_it code e entry type master t there i =
    let body : body_of_finalize code type ≡ i.body = ap (λ (x : Option ℕ). unwrap_or x 0) i.operation in
    record {
      is = refl;
      object = there;
      operation = i.operation ∙ ap (λ (n : ℕ). Some n) (sym body);
      body = ap (λ n. slice_get code.entries.items n) body ∙ i.found;
      slots = i.slots;
    }

-- A controlled part --------------------------------------------------------------------------------------

-- whether it is adjusted
pub adjusted_so : (code : Code) (e : Engine) (first : ℕ) (t : Finished) (s : Spot) (is : Bool) → Finishes code e t → IsUndone first t.control → s ≡ t.spot → is ≡ any_of (same_list s.path) (noted_from first e.noted.items) → any_of (same_list t.spot.path) (adjusted_in t.control) ≡ is
adjusted_so code e first t s is b u same e1 =
    sym (e1 ∙ (ap (λ (x : Spot). any_of (same_list x.path) (noted_from first e.noted.items)) same ∙ ap (λ (l : List (List ℕ)). any_of (same_list t.spot.path) l) (noted_so code e first t b u)))

pub own_adjusted : (code : Code) (old new : Engine) (type : ℕ) (t : Finished) (is : Bool) → is ≡ true → Makes code old new (undo_by code (operation_of (λ x. x.finalize) code type) t.spot type (object_at t.spot.object t.world) t.control t.world) → Makes code old new (undo_own code is t.spot type t.control t.world)
own_adjusted code old new type t is it made = subst (λ (b : Bool). Makes code old new (undo_own code b t.spot type t.control t.world)) (sym it) made

pub own_not_adjusted : (code : Code) (old new : Engine) (type : ℕ) (t : Finished) (is : Bool) → is ≡ false → Makes code old new (undo_components code t.spot type t.control t.world) → Makes code old new (undo_own code is t.spot type t.control t.world)
own_not_adjusted code old new type t is it made = subst (λ (b : Bool). Makes code old new (undo_own code b t.spot type t.control t.world)) (sym it) made
