use Rattle.std.proofs.Common.{◌∙◌, ◌-◌, List, [], ap, drop, length, subst, sym, take}
use Rattle.ctl_meaning.specs.World.{Object}
use Rattle.ctl_meaning.specs.Objects.{ends_with_master}
use Rattle.ctl_objects.specs.declared.declarations.Declaration.{Declaration}
use Rattle.ctl_objects.specs.Declarations.{AreOf, AreOlder, AreWithin, has_number}
use Rattle.ctl_groups.specs.Members.{passes}
use Rattle.ctl_objects.specs.Order.{AreUpTo}
use Rattle.ctl_objects.proofs.Kept.{going_are, within_seen}
use Rattle.ctl_objects.proofs.declarations.Declarations.going.Goals as goal

pub count_before-count-requires-clause-within : goal.count_before-count-requires-clause-within
count_before-count-requires-clause-within c =
    let up = subst (λ (l : List Object). AreUpTo c.args.master l) (sym c.self.view_is) c.requires in
    subst (λ (l : List Declaration). AreWithin c.args.master l) (sym c.as_slice-objects.ensures.value) (within_seen c.self.inside.objects.items c.self.inside.cells.items c.args.master up)

pub returns : goal.returns
returns c = λ n.
    let m = c.args.master in
    let i = c.count_before-count.result in
    let os = c.self.inside.objects.items in
    let older = subst (λ (l : List Declaration). AreOlder m (take i l)) c.as_slice-objects.ensures.value c.count_before-count.ensures.older in
    let own = subst (λ (l : List Declaration). AreOf m (drop i l)) c.as_slice-objects.ensures.value c.count_before-count.ensures.own in
    ap (λ (l : List Declaration). has_number n (take (length l - i) (drop i l))) c.as_slice-objects.ensures.value
    ∙ (going_are i m n os c.self.inside.cells.items c.self.invariant older own ∙ ap (passes (λ o. ends_with_master m [] o.origin) n) c.self.view_is)
