use Rattle.std.proofs.Common.{◌≡◌, ◌∙◌, List, ap, drop, length, map, subst, sym, take, ℕ}
use Rattle.std.specs.Prelude.{not}
use Rattle.ctl_meaning.specs.World.{Object}
use Rattle.ctl_meaning.specs.Lists.{keep}
use Rattle.ctl_meaning.specs.Objects.{ends_with_master}
use Rattle.ctl_objects.specs.declared.declarations.Declaration.{Declaration}
use Rattle.ctl_objects.specs.Declarations.{AreKept, AreOf, AreOlder, AreWithin, first_cell, object_of}
use Rattle.ctl_objects.specs.Order.{AreUpTo}
use Rattle.ctl_objects.proofs.Kept.{kept_taken, objects_left, within_seen}
use Rattle.ctl_objects.proofs.declarations.Declarations.close_master.Goals as goal

pub count_before-count-requires-clause-within : goal.count_before-count-requires-clause-within
count_before-count-requires-clause-within c =
    let up = subst (λ (l : List Object). AreUpTo c.args.master l) (sym c.self.view_is) c.requires in
    subst (λ (l : List Declaration). AreWithin c.args.master l) (sym c.as_slice.ensures.value) (within_seen c.self.inside.objects.items c.self.inside.cells.items c.args.master up)

pub invariant_of-self : goal.invariant_of-self
invariant_of-self c =
    let os = c.self.inside.objects.items in
    let cells = c.self.inside.cells.items in
    let count = c.count_before-count.result in
    let end : c.first_cell-end.result ≡ first_cell (drop count os) (length cells) =
    c.first_cell-end.ensures ∙ (ap (λ (l : List Declaration). first_cell (drop count l) c.len.result) c.as_slice-2.ensures.value ∙ ap (λ n. first_cell (drop count os) n) (c.len.ensures ∙ c.self.inside.cells.ok.0)) in
    let left = c.truncate.ensures.items ∙ ap (λ n. take n cells) end in
    subst (λ (l : List Declaration). AreKept l (length c.truncate.new.self.items)) (sym c.truncate-2.ensures.items)
    (subst (λ (l : List ℕ). AreKept (take count os) (length l)) (sym left) (kept_taken count os cells c.self.invariant))

pub returns : goal.returns
returns c = λ sets.
    let m = c.args.master in
    let os = c.self.inside.objects.items in
    let cells = c.self.inside.cells.items in
    let count = c.count_before-count.result in
    let end : c.first_cell-end.result ≡ first_cell (drop count os) (length cells) =
    c.first_cell-end.ensures ∙ (ap (λ (l : List Declaration). first_cell (drop count l) c.len.result) c.as_slice-2.ensures.value ∙ ap (λ n. first_cell (drop count os) n) (c.len.ensures ∙ c.self.inside.cells.ok.0)) in
    let left = c.truncate.ensures.items ∙ ap (λ n. take n cells) end in
    let older = subst (λ (l : List Declaration). AreOlder m (take count l)) c.as_slice.ensures.value c.count_before-count.ensures.older in
    let own = subst (λ (l : List Declaration). AreOf m (drop count l)) c.as_slice.ensures.value c.count_before-count.ensures.own in
    ap (λ (l : List Declaration). map (object_of c.truncate.new.self.items) l) c.truncate-2.ensures.items
    ∙ (ap (λ (l : List ℕ). map (object_of l) (take count os)) left
    ∙ (objects_left count m sets os cells c.self.invariant older own
    ∙ ap (λ (l : List Object). keep (λ o. not (ends_with_master m sets o.origin)) l) c.self.view_is))
