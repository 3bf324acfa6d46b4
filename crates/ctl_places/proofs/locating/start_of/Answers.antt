use Rattle.std.proofs.Common.{◌≡◌, ◌∷◌, ◌∙◌, [], Option, None, Some, ap, refl, subst}
use Rattle.std.specs.Prelude.{IfSome, slice_get}
use Rattle.ctl_code.specs.States.{Located, Word, worth}
use Rattle.ctl_frames.specs.declared.frame.Formal.{Formal}
use Rattle.ctl_frames.specs.declared.frame.Holder.{Holder}
use Rattle.ctl_frames.specs.Holders.{IsThere, found_in, held_by, word_of_formal}
use Rattle.ctl_frames.specs.declared.spots.Start.{Start}
use Rattle.ctl_frames.specs.Spots.{located, spot_from, whole_spot}
use Rattle.ctl_frames.proofs.Links.{got}
use Rattle.ctl_places.proofs.locating.start_of.Goals as goal

-- where a formal begins, what is held does, if no way leads to it
held_start : (held : Option Word) (w : Word) (o : Option Start) → held ≡ Some w → IfSome o (λ p. located (w ∷ []) ≡ spot_from p ∷ []) → IfSome o (λ p. p.object ≡ worth w)
    → IfSome o (λ p. (x : Word) × held ≡ Some x × located (x ∷ []) ≡ spot_from p ∷ [] × p.object ≡ worth x)
held_start held w None is part cell = tt
held_start held w (Some p) is part cell = (w, is, part, cell)

pub returns-in-Whole : goal.returns-in-Whole
returns-in-Whole c = (Located (whole_spot c.in-Whole.object), ap (λ (h : Holder). found_in c.args.engine.now.formals.items (Some h)) c.in-Whole.is, refl, refl)

pub returns-in-Bound : goal.returns-in-Bound
returns-in-Bound c =
    let formals = c.args.engine.now.formals.items in
    let f : Formal = c.index.result.now in
    let there : slice_get formals c.in-Bound.at ≡ Some f = got formals c.in-Bound.at f (subst (λ (h : Holder). IsThere formals h) c.in-Bound.is c.requires) c.index.ensures in
    held_start (found_in formals (Some c.args.holder)) (word_of_formal f) c.start.result (ap (λ (h : Holder). found_in formals (Some h)) c.in-Bound.is ∙ ap (λ (o : Option Formal). held_by o) there) c.start.ensures.part c.start.ensures.cell
