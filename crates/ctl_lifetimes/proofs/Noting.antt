-- A part is noted that is adjusted, for the copy that is under way below the frames that lead down to it.
use Rattle.std.proofs.Common.{◌≡◌, ℕ, List, [], ◌∷◌, ◌++◌, Option, Some, None, Bool, refl, sym, ap, ◌∙◌, subst}
use Rattle.std.proofs.lemmas.List.{append_assoc}
use Rattle.ctl_tree.specs.declared.event.Owner.{Owner}
use Rattle.ctl_meaning.specs.World.{Activation, World}
use Rattle.ctl_meaning.specs.Finalization.{Spot}
use Rattle.ctl_meaning.specs.Outcome.{Fine}
use Rattle.ctl_code.specs.declared.code.Begun.{Begun}
use Rattle.ctl_code.specs.declared.code.Code.{Code}
use Rattle.ctl_code.specs.States as T
use Rattle.ctl_code.specs.Table.{adjusted, birth_in, handed, note}
use Rattle.ctl_engine.specs.declared.engine.Engine.{Engine}
use Rattle.ctl_frames.specs.declared.frame.Ended.{Ended}
use Rattle.ctl_frames.specs.declared.frame.Frame.{Frame}
use Rattle.ctl_frames.specs.declared.frame.Master.{Master}
use Rattle.ctl_frames.specs.declared.frame.Mode.{Mode}
use Rattle.ctl_frames.specs.declared.frame.Mode.TheVariants as ModeOf
use Rattle.ctl_frames.specs.declared.frame.Owned.{Owned}
use Rattle.ctl_frames.specs.Filling.{AllLeaveSame}
use Rattle.ctl_engine.specs.Finishing.{Finished, Finishes}
use Rattle.ctl_frames.specs.Masters.{Head, heads_of}
use Rattle.ctl_engine.specs.Moves.{Makes}
use Rattle.ctl_frames.specs.Noted.{IsNoting, noted_in}
use Rattle.ctl_engine.specs.Saved.{AreWhole, saved_in}
use Rattle.ctl_engine.specs.Shows.{Holds, Kept, ShowsMode, SizedBelow, Wait, adjusting_waits, allocating_copy_waits, copying_waits, kept, tried_of}
use Rattle.ctl_frames.specs.Spots.{KeepsSpots, spots_in}
use Rattle.ctl_frames.specs.Under.{under}
use Rattle.ctl_lifetimes.proofs.Finishing.{finished_gives, same_finishes}
use Rattle.ctl_engine.proofs.Notes.{paths_more}

-- The frames ---------------------------------------------------------------------------------------------

-- frames before and after a path is noted
data Leads (path : List ℕ) : List T.Frame → List T.Frame → Type 0 where
  to_copy : {by : T.Maker} {n t : ℕ} {paths : List (List ℕ)} {p : T.Point} {k : List T.Frame} → Leads path (T.Copying by n t paths p ∷ k) (T.Copying by n t (paths ++ path ∷ []) p ∷ k)
  through : {creation : Option Owner} {s : Spot} {t : ℕ} {left : List Begun} {k k' : List T.Frame} → Leads path k k' → Leads path (T.Adjusting creation s t left ∷ k) (T.Adjusting creation s t left ∷ k')

leads_down : (owner : Owner) (path : List ℕ) (k : List T.Frame) → IsNoting (Some owner) k → Leads path k (note path k)
leads_down owner path (T.Copying by n t paths p ∷ k) noting = to_copy
leads_down owner path (T.Adjusting creation s t left ∷ k) noting = through (leads_down owner path k noting)
leads_down owner path _ noting = elim noting [ ]

under_same : {path : List ℕ} {k k' : List T.Frame} → Leads path k k' → (acts : List Activation) → under k acts ≡ under k' acts
under_same to_copy acts = refl
under_same (through d) acts = under_same d acts

spots_same : {path : List ℕ} {k k' : List T.Frame} → Leads path k k' → spots_in k ≡ spots_in k'
spots_same to_copy = refl
spots_same (through {s = s} d) = ap (λ (l : List Spot). l ++ s ∷ []) (spots_same d)

sized_same : {path : List ℕ} {k k' : List T.Frame} (code : Code) (hs : List Head) → Leads path k k' → SizedBelow code k hs → SizedBelow code k' hs
sized_same code hs to_copy h = h
sized_same code hs (through d) h = sized_same code hs d h

saved_same : {path : List ℕ} {k k' : List T.Frame} → Leads path k k' → saved_in k ≡ saved_in k'
saved_same to_copy = refl
saved_same (through d) = saved_same d

whole_same : {path : List ℕ} {k k' : List T.Frame} (code : Code) → Leads path k k' → AreWhole code k → AreWhole code k'
whole_same code to_copy h = h
whole_same code (through d) h = whole_same code d h

noted_more : {path : List ℕ} {k k' : List T.Frame} → Leads path k k' → noted_in k' ≡ noted_in k ++ path ∷ []
noted_more {path = path} (to_copy {paths = paths} {k = k}) = sym (append_assoc (noted_in k) paths (path ∷ []))
noted_more (through d) = noted_more d

noting_same : {path : List ℕ} {k k' : List T.Frame} (creation : Option Owner) → Leads path k k' → IsNoting creation k → IsNoting creation k'
noting_same None d h = tt
noting_same (Some owner) to_copy h = tt
noting_same (Some owner) (through d) h = noting_same (Some owner) d h

waits_same : {path : List ℕ} {k k' : List T.Frame} {fs : List Frame} {ms : List Master} {hs : List Head} {owned : List Owned} → Leads path k k' → Wait fs ms hs owned k → Wait fs ms hs owned k'
waits_same to_copy (copying_waits i place seen w) = copying_waits i place seen w
waits_same to_copy (allocating_copy_waits i place seen w) = allocating_copy_waits i place seen w
waits_same (through d) (adjusting_waits w) = adjusting_waits (waits_same d w)

leaves_same : {path : List ℕ} {k k' : List T.Frame} {fs : List Frame} {ms : List Master} {hs : List Head} {owned : List Owned} (code : Code) → Leads path k k' → Wait fs ms hs owned k → AllLeaveSame code fs k → AllLeaveSame code fs k'
leaves_same code to_copy (copying_waits i place seen w) h = h
leaves_same code to_copy (allocating_copy_waits i place seen w) h = h
leaves_same code (through {creation = creation} d) (adjusting_waits w) h = ((noting_same creation d h.0.0, h.0.1), leaves_same code d w h.1)

-- The machine --------------------------------------------------------------------------------------------

notes : (code : Code) (e : Kept) (s : Spot) (k k' : List T.Frame) (w : World) → Leads s.path k k' → Holds code e k [] w → Holds code (record e { noted = e.noted ++ s ∷ [] }) k' [] w
notes code e s k k' w d h = record {
  cells = (h.cells.0, h.cells.1 ∙ ap (λ (l : List ℕ). (l ++ []) ++ h.cells.0) (under_same d w.activations));
  room = h.room;
  masters = h.masters;
  below = h.below;
  waits = waits_same d h.waits;
  objects = h.objects;
  needs = h.needs;
  pools = h.pools;
  owns = h.owns;
  held = h.held;
  rise = h.rise;
  next_master = h.next_master;
  next_object = h.next_object;
  next_collection = h.next_collection;
  collections = h.collections;
  left = leaves_same code d h.waits h.left;
  saved = (h.saved.0 ∙ saved_same d, whole_same code d h.saved.1);
  noted = paths_more e.noted s ∙ (ap (λ (l : List (List ℕ)). l ++ s.path ∷ []) h.noted ∙ sym (noted_more d));
}

-- where an object is created, the part is noted
pub notes_part : (code : Code) (old new : Engine) (owner : Owner) (type : ℕ) (failed : Bool) (ended : Ended) (t : Finished) → Finishes code old t → IsNoting (Some owner) t.control → kept new ≡ record (kept old) { noted = old.noted.items ++ t.spot ∷ [] }
    → new.mode ≡ ModeOf.Giving ended → tried_of ended ≡ Fine (handed failed) → new.events.items ≡ old.events.items ++ birth_in code (Some owner) t.spot type → new.picks.items ≡ old.picks.items
    → Makes code old new (adjusted code (Some owner) t.spot type failed t.control t.world)
notes_part code old new owner type failed ended t b noting are mode is events picks =
    let k = note t.spot.path t.control in
    let d = leads_down owner t.spot.path t.control noting in
    let hs = heads_of t.world.activations in
    record {
      mode = subst (λ (z : Mode). ShowsMode code z (T.Giving (Fine (handed failed))) k hs) (sym mode) (sym is, sized_same code hs d b.sized);
      holds = subst (λ (z : Kept). Holds code z k [] t.world) (sym are) (notes code (kept old) t.spot t.control k t.world d b.holds);
      spots = subst (λ (z : Mode). KeepsSpots z new.spots.items k []) (sym mode) (ap (λ (z : Kept). z.spots) are ∙ (b.spots ∙ spots_same d));
      shows = events;
      picks = picks;
    }

-- else nothing is
pub notes_none : (code : Code) (old new : Engine) (type : ℕ) (failed : Bool) (ended : Ended) (t : Finished) → Finishes code old t → kept new ≡ kept old → new.mode ≡ ModeOf.Giving ended → tried_of ended ≡ Fine (handed failed)
    → new.events.items ≡ old.events.items → new.picks.items ≡ old.picks.items → Makes code old new (adjusted code None t.spot type failed t.control t.world)
notes_none code old new type failed ended t b are mode is events picks = finished_gives code old new t ended (Fine (handed failed)) (same_finishes code old new t b are) mode is events picks

-- where there is no item
pub none_of : {X : Type 0} (o : Option X) → ((x : X) → o ≡ Some x → ⊥) → o ≡ None
none_of None h = refl
none_of (Some x) h = absurd (h x refl)
