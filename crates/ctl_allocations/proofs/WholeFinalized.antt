-- An object is finalized as a whole, over what waits.
use Rattle.std.proofs.Common.{◌≡◌, ℕ, List, [], ◌∷◌, refl, sym, ap, ◌∙◌, subst}
use Rattle.ctl_tree.specs.declared.event.Cause.{Cause}
use Rattle.ctl_meaning.specs.Changes.{begin_finalization, opened_changes}
use Rattle.ctl_meaning.specs.Finalization.{Spot}
use Rattle.ctl_meaning.specs.World.{World}
use Rattle.ctl_code.specs.declared.code.Code.{Code}
use Rattle.ctl_code.specs.States as T
use Rattle.ctl_code.specs.States.{whole_spot}
use Rattle.ctl_engine.specs.declared.engine.Engine.{Engine}
use Rattle.ctl_frames.specs.declared.frame.Frame.TheVariants as FrameOf
use Rattle.ctl_engine.specs.Finishing.{BeginsOver, Finished, Finishes}
use Rattle.ctl_engine.specs.Shows.{Kept, Holds, finalizing_waits, kept}
use Rattle.ctl_engine.proofs.Stages.{with_frame}

-- what is finalized of the object whose whole is this part, over its frame
abbrev pub whole_of : Cause → Spot → Finished → Finished
whole_of cause s t = record { spot = s; control = T.Finalizing cause s.object ∷ t.control; world = begin_finalization s.object t.world }

-- the frame comes
whole_comes : (code : Code) (e : Kept) (cause : Cause) (n : ℕ) (k : List T.Frame) (w : World) → Holds code e k [] w → Holds code (with_frame (FrameOf.Finalizing cause n) e) (T.Finalizing cause n ∷ k) [] w
whole_comes code e cause n k w h = record {
  cells = h.cells;
  room = h.room;
  masters = h.masters;
  below = h.below;
  waits = finalizing_waits refl h.waits;
  objects = h.objects;
  needs = h.needs;
  pools = h.pools;
  owns = h.owns;
  held = h.held;
  rise = h.rise;
  next_master = h.next_master;
  next_object = h.next_object;
  next_collection = h.next_collection;
  collections = h.collections;
  left = (tt, h.left);
  saved = h.saved;
  noted = h.noted;
}

pub whole_finishes : (code : Code) (old before mid : Engine) (cause : Cause) (n : ℕ) (t : Finished) → Finishes code old t → kept before ≡ with_frame (FrameOf.Finalizing cause n) (kept old)
    → ((k : List T.Frame) (w : World) → Holds code (kept before) k [] w → Holds code (kept mid) k [] (begin_finalization n w)) → mid.spots.items ≡ before.spots.items → Finishes code mid (whole_of cause (whole_spot n) t)
unfolding opened_changes
whole_finishes code old before mid cause n t f are begun spots = record {
  holds = begun (T.Finalizing cause n ∷ t.control) t.world (subst (λ (e : Kept). Holds code e (T.Finalizing cause n ∷ t.control) [] t.world) (sym are) (whole_comes code (kept old) cause n t.control t.world f.holds));
  spots = spots ∙ (ap (λ (e : Kept). e.spots) are ∙ f.spots);
  sized = f.sized;
}

-- a body over it begins where one over what waits would
pub whole_base : (base : ℕ) (cause : Cause) (n : ℕ) (t : Finished) → BeginsOver base t → BeginsOver base (whole_of cause (whole_spot n) t)
unfolding opened_changes
whole_base base cause n t is = is
