use Rattle.std.proofs.Common.{◌≡◌, ◌∙◌, ◌++◌, [], ◌∷◌, List, ap, length, map, replicate, subst, sym, ℕ}
use Rattle.ctl_program.specs.declared.types.Ty.TheVariants.{Record}
use Rattle.ctl_meaning.specs.World as W
use Rattle.ctl_meaning.specs.World.{Object}
use Rattle.ctl_meaning.specs.Changes.{new_object}
use Rattle.ctl_objects.specs.declared.declarations.Declaration.{Declaration}
use Rattle.ctl_objects.specs.Declarations.{AreKept, object_of}
use Rattle.ctl_objects.specs.Order.{AreUpTo}
use Rattle.ctl_storage.specs.Order.{AreBelow}
use Rattle.ctl_objects.proofs.Kept.{kept_more, objects_with}
use Rattle.ctl_objects.proofs.declarations.Declarations.declare.Goals as goal

pub invariant_of-self-2 : goal.invariant_of-self-2
invariant_of-self-2 c =
    let a = c.args in
    let os = c.self.inside.objects.items in
    let cells = c.self.inside.cells.items in
    let x : Declaration = record { number = a.number; «record» = a.record; master = a.master; first = c.len-first.result; cells = a.cells; stage = c.start.result } in
    let objects : c.push_reserved.new.self.items ≡ os ++ x ∷ [] = c.push_reserved.ensures.items ∙ ap (λ (l : List Declaration). l ++ x ∷ []) c.reserve.ensures.items in
    let zeros : c.add_zeros.new.cells.items ≡ cells ++ replicate a.cells 0 = c.add_zeros.ensures ∙ ap (λ (l : List ℕ). l ++ replicate a.cells 0) c.reserve-2.ensures.items in
    let first : x.first ≡ length cells = c.len-first.ensures ∙ (c.reserve-2.ensures.len ∙ c.self.inside.cells.ok.0) in
    let below = subst (λ (l : List Object). AreBelow a.number l) (sym c.self.view_is) c.requires.numbers in
    let up = subst (λ (l : List Object). AreUpTo a.master l) (sym c.self.view_is) c.requires.masters in
    subst (λ (l : List Declaration). AreKept l (length c.add_zeros.new.cells.items)) (sym objects)
    (subst (λ (l : List ℕ). AreKept (os ++ x ∷ []) (length l)) (sym zeros) (kept_more os cells x c.self.invariant first below up))

pub returns-clause-ok : goal.returns-clause-ok
returns-clause-ok c =
    let a = c.args in
    let os = c.self.inside.objects.items in
    let cells = c.self.inside.cells.items in
    let x : Declaration = record { number = a.number; «record» = a.record; master = a.master; first = c.len-first.result; cells = a.cells; stage = c.start.result } in
    let objects : c.push_reserved.new.self.items ≡ os ++ x ∷ [] = c.push_reserved.ensures.items ∙ ap (λ (l : List Declaration). l ++ x ∷ []) c.reserve.ensures.items in
    let zeros : c.add_zeros.new.cells.items ≡ cells ++ replicate a.cells 0 = c.add_zeros.ensures ∙ ap (λ (l : List ℕ). l ++ replicate a.cells 0) c.reserve-2.ensures.items in
    let first : x.first ≡ length cells = c.len-first.ensures ∙ (c.reserve-2.ensures.len ∙ c.self.inside.cells.ok.0) in
    ap (λ (l : List Declaration). map (object_of c.add_zeros.new.cells.items) l) objects
    ∙ (ap (λ (l : List ℕ). map (object_of l) (os ++ x ∷ [])) zeros
    ∙ (objects_with os cells x c.self.invariant first c.start.ensures
    ∙ ap (λ (l : List Object). l ++ new_object a.number (Record a.record) (replicate a.cells 0) (W.Declared a.master) ∷ []) c.self.view_is))
