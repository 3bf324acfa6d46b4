use Rattle.std.proofs.Common.{◌∙◌, List, Option, ap, length, refl, subst, sym}
use Rattle.std.specs.Prelude.{is_some}
use Rattle.ctl_meaning.specs.World.{Object}
use Rattle.ctl_meaning.specs.Objects.{object_in}
use Rattle.ctl_objects.specs.declared.declarations.Declaration.{Declaration}
use Rattle.ctl_objects.specs.Declarations.{Lacks}
use Rattle.ctl_objects.proofs.Found.{lacking}
use Rattle.ctl_objects.proofs.Kept.{IsAt, found_at}
use Rattle.ctl_objects.proofs.declarations.Declarations.contains.Goals as goal

pub returns-in-Some : goal.returns-in-Some
returns-in-Some c =
    let os = c.self.inside.objects.items in
    let cells = c.self.inside.cells.items in
    let i = subst (λ (l : List Declaration). IsAt l c.args.number c.in-Some._at) c.as_slice.ensures.value c.in-Some.ensures.some in
    sym (ap (λ (o : Option Object). is_some o) (found_at os cells (length cells) c.args.number c.in-Some._at c.self.invariant i))
    ∙ ap (λ (l : List Object). is_some (object_in c.args.number l)) c.self.view_is

pub returns-in-None : goal.returns-in-None
returns-in-None c =
    let os = c.self.inside.objects.items in
    let cells = c.self.inside.cells.items in
    let lacks = subst (λ (l : List Declaration). Lacks c.args.number l) c.as_slice.ensures.value (c.in-None.ensures.none refl) in
    sym (ap (λ (o : Option Object). is_some o) (lacking cells os c.args.number lacks)) ∙ ap (λ (l : List Object). is_some (object_in c.args.number l)) c.self.view_is
