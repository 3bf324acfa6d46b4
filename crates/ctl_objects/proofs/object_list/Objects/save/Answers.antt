use Rattle.std.proofs.Common.{◌≡◌, ◌∙◌, ◌++◌, [], List, Option, ap, subst, sym, ℕ}
use Rattle.std.specs.Prelude.{is_some}
use Rattle.std.specs.Bool.{OnFalse}
use Rattle.std.specs.Option.{option_map_or}
use Rattle.ctl_meaning.specs.World.{Object}
use Rattle.ctl_meaning.specs.Objects.{cells_at, object_in}
use Rattle.ctl_objects.specs.Stock.{Stock}
use Rattle.ctl_objects.proofs.Both.{found_first, found_second}
use Rattle.ctl_objects.proofs.object_list.Objects.save.Goals as goal

pub returns-then-save-clause-exists : goal.returns-then-save-clause-exists
returns-then-save-clause-exists c =
    let s = c.self.inside in
    let n = c.args.number in
    let there = sym c.if-save.true ∙ c.save.ensures.exists in
    there ∙ (ap (λ (o : Option Object). is_some o) (sym (found_second n s.allocated.objects s.declared c.self.invariant there)) ∙ ap (λ (v : Stock). is_some (object_in n v.objects)) c.self.view_is)

pub returns-then-save-clause-items : goal.returns-then-save-clause-items
returns-then-save-clause-items c =
    let s = c.self.inside in
    let a = c.args in
    let items = a.saved.now.items in
    let there = sym c.if-save.true ∙ c.save.ensures.exists in
    c.save.ensures.items
    ∙ ap (λ (l : List ℕ). items ++ l)
    (ap (λ (o : Option Object). option_map_or (cells_at a.start a.count) o []) (sym (found_second a.number s.allocated.objects s.declared c.self.invariant there))
    ∙ ap (λ (v : Stock). option_map_or (cells_at a.start a.count) (object_in a.number v.objects) []) c.self.view_is)

pub returns-clause-exists : goal.returns-clause-exists
returns-clause-exists c =
    let s = c.self.inside in
    let n = c.args.number in
    let gone = sym c.if-save.false ∙ c.save.ensures.exists in
    c.save-2.ensures.exists ∙ (ap (λ (o : Option Object). is_some o) (sym (found_first n s.allocated.objects s.declared c.self.invariant gone)) ∙ ap (λ (v : Stock). is_some (object_in n v.objects)) c.self.view_is)

pub returns-clause-items : goal.returns-clause-items
returns-clause-items c =
    let s = c.self.inside in
    let a = c.args in
    let gone = sym c.if-save.false ∙ c.save.ensures.exists in
    let same = subst (λ b. OnFalse b (c.save.new.saved ≡ a.saved.now)) c.if-save.false c.save.ensures.gone in
    c.save-2.ensures.items
    ∙ (ap (λ v. v.items ++ option_map_or (cells_at a.start a.count) (object_in a.number s.allocated.objects) []) same
    ∙ ap (λ (l : List ℕ). a.saved.now.items ++ l)
    (ap (λ (o : Option Object). option_map_or (cells_at a.start a.count) o []) (sym (found_first a.number s.allocated.objects s.declared c.self.invariant gone))
    ∙ ap (λ (v : Stock). option_map_or (cells_at a.start a.count) (object_in a.number v.objects) []) c.self.view_is))
