-- Where an object of the newest master is at home.
use Rattle.std.proofs.Common.{◌≡◌, ℕ, List, ◌∷◌, refl, sym, ◌∙◌, subst}
use Rattle.ctl_meaning.specs.World.{World, Activation, Declared}
use Rattle.ctl_meaning.specs.Lists.{opened_lists}
use Rattle.ctl_meaning.specs.Activations.{opened_activations}
use Rattle.ctl_meaning.specs.Changes.{home_of, opened_changes}
use Rattle.ctl_code.specs.declared.code.Code.{Code}
use Rattle.ctl_code.specs.States as T
use Rattle.ctl_code.specs.States.{Word}
use Rattle.ctl_frames.specs.declared.frame.Master.{Master}
use Rattle.ctl_frames.specs.Masters.{heads_of, first_display, AreMasters}
use Rattle.ctl_engine.specs.Shows.{Kept, Holds}
use Rattle.ctl_frames.proofs.Lists.{eq_same}
use Rattle.ctl_engine.proofs.Closed.{newest_of}

home_in : (j : ℕ) (a : Activation) (acts : List Activation) (w : World) → w.activations ≡ a ∷ acts → a.master ≡ j → home_of (Declared j) w ≡ first_display (heads_of w.activations)
unfolding opened_changes opened_activations opened_lists
home_in j a acts w is e = rw (is, eq_same a.master j e) refl

-- an object of the newest master is at home there
pub home_is : (code : Code) (e : Kept) (k : List T.Frame) (ops : List Word) (w : World) (m : Master) (ms : List Master) (j : ℕ) → Holds code e k ops w → e.masters ≡ m ∷ ms → j ≡ m.number → home_of (Declared j) w ≡ first_display (heads_of w.activations)
home_is code e k ops w m ms j h is own =
    let i = newest_of m ms w.activations w.ledger.masters e.owned (subst (λ (l : List Master). AreMasters l (heads_of w.activations) w.ledger.masters e.owned) is h.masters) in
    home_in j i.newest i.older w i.activations (i.head.head ∙ sym own)
