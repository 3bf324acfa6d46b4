use Rattle.std.proofs.Common.{◌≡◌, ◌∷◌, ◌∙◌, [], Option, Some, ap, subst, sym}
use Rattle.std.specs.Prelude.{slice_get}
use Rattle.ctl_meaning.specs.Finalization.{Spot}
use Rattle.ctl_code.specs.States.{Located}
use Rattle.ctl_frames.specs.declared.frame.Formal.{Formal}
use Rattle.ctl_frames.specs.declared.frame.Holder.{Holder}
use Rattle.ctl_frames.specs.Holders.{IsThere, found_in, held_by, word_of_formal}
use Rattle.ctl_frames.specs.Spots.{whole_spot}
use Rattle.ctl_frames.proofs.FormalWords.{word_copied}
use Rattle.ctl_frames.proofs.Links.{got}
use Rattle.ctl_places.proofs.locating.spot_of.Goals as goal

pub returns-in-Whole : goal.returns-in-Whole
returns-in-Whole c =
    (Located (whole_spot c.in-Whole.object), ap (λ (h : Holder). found_in c.args.engine.now.formals.items (Some h)) c.in-Whole.is, ap (λ (x : Spot). x ∷ []) (sym c.whole.ensures))

pub returns-in-Bound : goal.returns-in-Bound
returns-in-Bound c =
    let formals = c.args.engine.now.formals.items in
    let f : Formal = c.index.result.now in
    let there : slice_get formals c.in-Bound.at ≡ Some f = got formals c.in-Bound.at f (subst (λ (h : Holder). IsThere formals h) c.in-Bound.is c.requires) c.index.ensures in
    word_copied (found_in formals (Some c.args.holder)) (word_of_formal f) c.copied.result (ap (λ (h : Holder). found_in formals (Some h)) c.in-Bound.is ∙ ap (λ (o : Option Formal). held_by o) there) c.copied.ensures
