use Rattle.std.proofs.Common.{◌∙◌, List, Option, ap, length, map, refl, subst, sym}
use Rattle.std.specs.Prelude.{is_some, slice_set}
use Rattle.ctl_meaning.specs.World.{Object}
use Rattle.ctl_meaning.specs.Objects.{change_in, object_in}
use Rattle.ctl_objects.specs.declared.declarations.Declaration.{Declaration}
use Rattle.ctl_objects.specs.Declarations.{AreKept, Lacks, object_of}
use Rattle.ctl_storage.specs.Stages.{after, with_step}
use Rattle.ctl_objects.proofs.Found.{lacking}
use Rattle.ctl_objects.proofs.Kept.{IsAt, at_read, found_at, kept_set, step_objects, unchanged_lacking}
use Rattle.ctl_objects.proofs.declarations.Declarations.step.Goals as goal

pub invariant_of-self : goal.invariant_of-self
invariant_of-self c =
    let os = c.self.inside.objects.items in
    let at = c.in-Some.at in
    let r = c.index-object.result.now in
    let i = subst (λ (l : List Declaration). IsAt l c.args.number at) c.as_slice.ensures.value c.in-Some.ensures.some in
    let found = at_read os c.args.number at r i c.index-object.ensures in
    let total = length c.self.inside.cells.items in
    subst (λ (z : Declaration). AreKept (slice_set os at z) total) (sym c.stepped.ensures) (kept_set os at total r (after c.args.step r.stage) c.self.invariant found.0)

pub returns-in-Some-clause-exists : goal.returns-in-Some-clause-exists
returns-in-Some-clause-exists c =
    let os = c.self.inside.objects.items in
    let cells = c.self.inside.cells.items in
    let i = subst (λ (l : List Declaration). IsAt l c.args.number c.in-Some.at) c.as_slice.ensures.value c.in-Some.ensures.some in
    sym (ap (λ (o : Option Object). is_some o) (found_at os cells (length cells) c.args.number c.in-Some.at c.self.invariant i))
    ∙ ap (λ (l : List Object). is_some (object_in c.args.number l)) c.self.view_is

pub returns-in-Some-clause-stepped : goal.returns-in-Some-clause-stepped
returns-in-Some-clause-stepped c =
    let os = c.self.inside.objects.items in
    let cells = c.self.inside.cells.items in
    let at = c.in-Some.at in
    let r = c.index-object.result.now in
    let i = subst (λ (l : List Declaration). IsAt l c.args.number at) c.as_slice.ensures.value c.in-Some.ensures.some in
    let found = at_read os c.args.number at r i c.index-object.ensures in
    ap (λ (z : Declaration). map (object_of cells) (slice_set os at z)) c.stepped.ensures
    ∙ (step_objects c.args.step os cells (length cells) c.args.number at c.self.invariant (r, found.0, found.1)
    ∙ ap (λ (l : List Object). change_in c.args.number (with_step c.args.step) l) c.self.view_is)

pub returns-in-None-clause-exists : goal.returns-in-None-clause-exists
returns-in-None-clause-exists c =
    let lacks = subst (λ (l : List Declaration). Lacks c.args.number l) c.as_slice.ensures.value (c.in-None.ensures.none refl) in
    sym (ap (λ (o : Option Object). is_some o) (lacking c.self.inside.cells.items c.self.inside.objects.items c.args.number lacks))
    ∙ ap (λ (l : List Object). is_some (object_in c.args.number l)) c.self.view_is

pub returns-in-None-clause-stepped : goal.returns-in-None-clause-stepped
returns-in-None-clause-stepped c =
    let lacks = subst (λ (l : List Declaration). Lacks c.args.number l) c.as_slice.ensures.value (c.in-None.ensures.none refl) in
    sym c.self.view_is
    ∙ (unchanged_lacking c.self.inside.objects.items c.self.inside.cells.items c.args.number (with_step c.args.step) lacks
    ∙ ap (λ (l : List Object). change_in c.args.number (with_step c.args.step) l) c.self.view_is)
