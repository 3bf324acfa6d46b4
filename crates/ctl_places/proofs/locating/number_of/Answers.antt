use Rattle.std.proofs.Common.{◌≡◌, ◌∙◌, Option, Some, ap, refl, subst}
use Rattle.std.specs.Prelude.{slice_get}
use Rattle.ctl_frames.specs.declared.frame.Formal.{Formal}
use Rattle.ctl_frames.specs.declared.frame.Holder.{Holder}
use Rattle.ctl_frames.specs.Holders.{IsThere, found_in, held_by, word_of_formal}
use Rattle.ctl_code.specs.States.{Located}
use Rattle.ctl_frames.specs.Spots.{whole_spot}
use Rattle.ctl_frames.proofs.Links.{got}
use Rattle.ctl_places.proofs.locating.number_of.Goals as goal

pub returns-in-Whole : goal.returns-in-Whole
returns-in-Whole c = (Located (whole_spot c.in-Whole.object), ap (λ (h : Holder). found_in c.args.engine.now.formals.items (Some h)) c.in-Whole.is, refl)

pub returns-in-Bound : goal.returns-in-Bound
returns-in-Bound c =
    let formals = c.args.engine.now.formals.items in
    let f : Formal = c.index.result.now in
    let found : slice_get formals c.in-Bound.at ≡ Some f = got formals c.in-Bound.at f (subst (λ (h : Holder). IsThere formals h) c.in-Bound.is c.requires) c.index.ensures in
    (word_of_formal f, ap (λ (h : Holder). found_in formals (Some h)) c.in-Bound.is ∙ ap (λ (o : Option Formal). held_by o) found, c.object.ensures)
