use Rattle.std.proofs.Common.{◌∙◌, List, ap, length, refl, subst, sym}
use Rattle.std.specs.Option.{option_map}
use Rattle.ctl_meaning.specs.World.{Object}
use Rattle.ctl_meaning.specs.Objects.{object_in}
use Rattle.ctl_objects.specs.declared.declarations.Declaration.{Declaration}
use Rattle.ctl_objects.specs.Declarations.{Lacks}
use Rattle.ctl_objects.specs.Existing.{bare}
use Rattle.ctl_objects.proofs.Found.{lacking}
use Rattle.ctl_objects.proofs.Kept.{IsAt, at_read, known_here}
use Rattle.ctl_objects.proofs.declarations.Declarations.find.Goals as goal

pub returns-in-Some : goal.returns-in-Some
returns-in-Some c =
    let os = c.self.inside.objects.items in
    let cells = c.self.inside.cells.items in
    let at = c.in-Some.at in
    let r = c.index-object.result.now in
    let i = subst (λ (l : List Declaration). IsAt l c.args.number at) c.as_slice.ensures.value c.in-Some.ensures.some in
    let found = at_read os c.args.number at r i c.index-object.ensures in
    known_here os cells (length cells) c.args.number at r c.self.invariant found.0 found.1
    ∙ ap (λ (l : List Object). option_map bare (object_in c.args.number l)) c.self.view_is

pub returns-in-None : goal.returns-in-None
returns-in-None c =
    let lacks = subst (λ (l : List Declaration). Lacks c.args.number l) c.as_slice.ensures.value (c.in-None.ensures.none refl) in
    ap (option_map bare) (sym (lacking c.self.inside.cells.items c.self.inside.objects.items c.args.number lacks))
    ∙ ap (λ (l : List Object). option_map bare (object_in c.args.number l)) c.self.view_is
