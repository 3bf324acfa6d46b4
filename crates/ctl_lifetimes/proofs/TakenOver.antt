-- The target of an assignment, which is there, takes the value that is saved for it.
use Rattle.std.proofs.Common.{◌≡◌, ℕ, ◌+◌, List, ◌∷◌, Option, Some, ap, ◌∙◌, length, subst, sym, true, reverse}
use Rattle.std.specs.Prelude.{is_some}
use Rattle.ctl_meaning.specs.Objects.{object_in}
use Rattle.ctl_code.specs.declared.code.Code.{Code}
use Rattle.ctl_code.specs.States.{State}
use Rattle.ctl_code.specs.Kinds.{stack_at}
use Rattle.ctl_code.specs.Windows.{height}
use Rattle.ctl_engine.specs.declared.engine.Engine.{Engine}
use Rattle.ctl_engine.specs.declared.finalizing.Assignment.{Assignment}
use Rattle.ctl_frames.specs.declared.frame.Frame.{Frame}
use Rattle.ctl_frames.specs.declared.frame.Frame.TheVariants as FrameOf
use Rattle.ctl_frames.specs.declared.frame.Value.TheVariants.{Saved}
use Rattle.ctl_engine.specs.Assigning.{Assigned, Assigns, Pending}
use Rattle.ctl_engine.specs.Moves.{BeforeResuming}
use Rattle.ctl_frames.specs.Masters.{first_window, heads_of}
use Rattle.ctl_frames.specs.Under.{tall}
use Rattle.ctl_lifetimes.proofs.AfterAssigning.{assigned_of, left_is, left_of, pending_of, some_left, value_of, window_here}
use Rattle.ctl_engine.proofs.Owned.{some_there}

-- the window of a body that is called over it begins there
pub base_now : (code : Code) (e : Engine) (s : State) (t place base : ℕ) (fs : List Frame) → BeforeResuming code e s → reverse e.control.items ≡ FrameOf.Assigning t Saved place ∷ fs → base ≡ first_window (reverse e.masters.items) + height (stack_at code.kinds place)
    → (let a = assigned_of s.control s.world in base ≡ tall a.control (heads_of a.world.activations) + length a.point.operands)
base_now code e s t place base fs b top window = window ∙ window_here code e s t place Saved fs b top

-- its value is still to be taken over
pub pending_now : (code : Code) (e : Engine) (s : State) (t place : ℕ) (fs : List Frame) → BeforeResuming code e s → reverse e.control.items ≡ FrameOf.Assigning t Saved place ∷ fs → Pending code e t place (Some (value_of (left_of s.control))) (assigned_of s.control s.world)
pending_now code e s t place fs b top =
    let v = left_of s.control in
    subst (λ (y : Option (List ℕ)). Pending code e t place y (assigned_of s.control s.world)) (some_left v (left_is code e s t place Saved fs b top)) (pending_of code e s t place Saved fs b top)

-- it is assigned to, once its object is found
pub assigns_now : (code : Code) (e : Engine) (x : Assignment) (v : Option (List ℕ)) (t : Assigned) (object : ℕ) → Pending code e x.record_type x.place v t → x.base ≡ tall t.control (heads_of t.world.activations) + length t.point.operands
    → object ≡ t.spot.object → true ≡ is_some (object_in object e.stock.objects) → Assigns code e x v t
assigns_now code e x v t object pending base number there =
    let some = some_there (object_in object e.stock.objects) (sym there) in
    record { pending = pending; object = some.0; found = ap (λ n. object_in n e.stock.objects) (sym number) ∙ some.1; base = base }
