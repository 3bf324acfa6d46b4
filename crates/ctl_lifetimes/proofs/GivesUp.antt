-- The creation of the newest part is given up, or its Initialize has ended.
use Rattle.std.proofs.Common.{◌≡◌, ℕ, List, ◌∷◌, refl, sym, subst, reverse}
use Rattle.ctl_tree.specs.declared.event.Owner.{Owner}
use Rattle.ctl_meaning.specs.Outcome.{Fine, Raised}
use Rattle.ctl_tree.specs.declared.request.Order.{Order}
use Rattle.ctl_code.specs.declared.code.Begun.{Begun}
use Rattle.ctl_code.specs.declared.code.Code.{Code}
use Rattle.ctl_code.specs.States as T
use Rattle.ctl_code.specs.States.{State}
use Rattle.ctl_code.specs.Table.{act, complete_of, completed, controlled_of, fail, width}
use Rattle.ctl_engine.specs.declared.engine.Engine.{Engine}
use Rattle.ctl_frames.specs.declared.frame.Frame.{Frame}
use Rattle.ctl_frames.specs.declared.frame.Frame.TheVariants as FrameOf
use Rattle.ctl_frames.specs.declared.frame.Left.{Left}
use Rattle.ctl_frames.specs.declared.frame.Master.{Master}
use Rattle.ctl_frames.specs.declared.frame.Owned.{Owned}
use Rattle.ctl_lifetimes.specs.GivingUp.{Creates, GivenUp}
use Rattle.ctl_engine.specs.Initializing.{Grows, IsOf}
use Rattle.ctl_frames.specs.Masters.{Head, heads_of}
use Rattle.ctl_engine.specs.Moves.{BeforeResuming, Makes, Resumes}
use Rattle.ctl_engine.specs.Shows.{Wait, initializing_waits}
use Rattle.ctl_lifetimes.proofs.Creations.{grows_over}
use Rattle.ctl_lifetimes.proofs.Filled.{IsFilling, behind_in, grown_of, incomplete_in, newborn_in, plainly}
use Rattle.ctl_lifetimes.proofs.PartFrames.{IsOver, initializes}

-- what the table gives up, where these of its components are complete
abbrev pub given_up : List Begun → State → GivenUp
given_up complete s = record { spot = (newborn_in s.control).spot; complete = complete; control = behind_in s.control }

-- While its components begin ---------------------------------------------------------------------------

pub gives_up_filling : (code : Code) (e : Engine) (type : ℕ) (owner : Owner) (those incomplete : Left) (s : State) → IsFilling code e type owner those incomplete s → Creates s.control (newborn_in s.control).spot (behind_in s.control)
gives_up_filling code e type owner those incomplete s f = subst (λ (l : List T.Frame). Creates l (newborn_in s.control).spot (behind_in s.control)) (sym f.is) (refl, refl)

pub fails_filling : (code : Code) (old new : Engine) (type : ℕ) (owner : Owner) (those incomplete : Left) (s : State) (order : Order) (exception : ℕ) → IsFilling code old type owner those incomplete s
    → (let t = given_up (complete_of code type (incomplete_in s.control)) s in Makes code old new (fail t.spot t.complete exception t.control s.world)) → Resumes code old new order (Raised exception) s
fails_filling code old new type owner those incomplete s order exception f made =
    let x = newborn_in s.control in
    let k = behind_in s.control in
    let own : Makes code old new (fail x.spot (complete_of code x.type (incomplete_in s.control)) exception k s.world) = subst (λ n. Makes code old new (fail x.spot (complete_of code n (incomplete_in s.control)) exception k s.world)) (sym f.grows.is_of.type_is) made in
    plainly code old new order (Raised exception) s (subst (λ (l : List T.Frame). width code (T.Giving (Raised exception)) l s.world ≡ 0) (sym f.is) refl)
    (subst (λ (l : List T.Frame). Makes code old new (act code (T.Giving (Raised exception)) l s.operands s.world 0)) (sym f.is) own)

-- Behind its Initialize --------------------------------------------------------------------------------

-- the frame of the newest part, whose Initialize has ended
pub record IsInitializing (code : Code) (e : Engine) (type : ℕ) (owner : Owner) (s : State) : Type 0 where
  pub is : s.control ≡ T.Initializing (newborn_in s.control) ∷ behind_in s.control
  pub grows : Grows code e type owner (grown_of s)

under_initializing : {t : ℕ} {owner : Owner} {fs : List Frame} {ms : List Master} {hs : List Head} {owned : List Owned} {k : List T.Frame} → Wait (FrameOf.Initializing t owner ∷ fs) ms hs owned k → (is : k ≡ T.Initializing (newborn_in k) ∷ behind_in k) × IsOf t owner (newborn_in k)
under_initializing (initializing_waits i j w) = (refl, record { type_is = i; owner_is = j })

pub is_initializing : (code : Code) (e : Engine) (type : ℕ) (owner : Owner) (fs : List Frame) (s : State) → BeforeResuming code e s → reverse e.control.items ≡ FrameOf.Initializing type owner ∷ fs → IsInitializing code e type owner s
is_initializing code e type owner fs s b top =
    let hs = heads_of s.world.activations in
    let f = FrameOf.Initializing type owner in
    let x = newborn_in s.control in
    let u = under_initializing (subst (λ (l : List Frame). Wait l (reverse e.masters.items) hs e.owned.items s.control) top b.holds.waits) in
    let o : IsOver code f fs (reverse e.masters.items) hs e.owned.items s.control = record { frame = T.Initializing x; waiting = behind_in s.control; spot = x.spot; is = u.0; part = initializes refl u.1.type_is u.1.owner_is } in
    record { is = u.0; grows = grows_over code e s f fs x type owner b top tt o refl u.1 }

pub gives_up_initializing : (code : Code) (e : Engine) (type : ℕ) (owner : Owner) (s : State) → IsInitializing code e type owner s → Creates s.control (newborn_in s.control).spot (behind_in s.control)
gives_up_initializing code e type owner s f = subst (λ (l : List T.Frame). Creates l (newborn_in s.control).spot (behind_in s.control)) (sym f.is) (refl, refl)

pub fails_initializing : (code : Code) (old new : Engine) (type : ℕ) (owner : Owner) (s : State) (exception : ℕ) → IsInitializing code old type owner s
    → (let t = given_up (controlled_of code type) s in Makes code old new (fail t.spot t.complete exception t.control s.world)) → Makes code old new (act code (T.Giving (Raised exception)) s.control s.operands s.world 0)
fails_initializing code old new type owner s exception f made =
    let x = newborn_in s.control in
    let k = behind_in s.control in
    subst (λ (l : List T.Frame). Makes code old new (act code (T.Giving (Raised exception)) l s.operands s.world 0)) (sym f.is)
    (subst (λ n. Makes code old new (fail x.spot (controlled_of code n) exception k s.world)) (sym f.grows.is_of.type_is) made)

pub completed_resumes : (code : Code) (old new : Engine) (type : ℕ) (owner : Owner) (s : State) (h : T.Handed) → IsInitializing code old type owner s → (let t = grown_of s in Makes code old new (completed code t.new t.control t.world))
    → Makes code old new (act code (T.Giving (Fine h)) s.control s.operands s.world 0)
completed_resumes code old new type owner s h f made = subst (λ (l : List T.Frame). Makes code old new (act code (T.Giving (Fine h)) l s.operands s.world 0)) (sym f.is) made
