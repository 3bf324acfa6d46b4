use Rattle.std.proofs.Common.{◌∙◌, ◌+◌, [], ◌∷◌, ap, sym, subst}
use Rattle.ctl_meaning.specs.Objects.{change_in}
use Rattle.ctl_meaning.specs.Objects.{with_cells}
use Rattle.ctl_objects.specs.Stock.{Stock, all_of}
use Rattle.ctl_objects.proofs.Both.{changed_first, changed_second}
use Rattle.ctl_storage.proofs.InStore.{cells_keep}
use Rattle.ctl_objects.proofs.Origins.{cells_stay}
use Rattle.std.proofs.Common.{◌≡◌, refl, subst, ap, sym, ◌∙◌}
use Rattle.ctl_objects.specs.Order.{both}
use Rattle.ctl_objects.proofs.Pools.{all_same}
use Rattle.ctl_objects.proofs.Unchanged.{changed_shown}
use Rattle.ctl_objects.proofs.object_list.Objects.write_part.Goals as goal

pub invariant_of-self : goal.invariant_of-self
invariant_of-self c =
    let s = c.self.inside in
    (changed_first c.args.number (with_cells (c.args.start + c.args.offset) (c.args.value ∷ [])) s.allocated.objects s.declared c.write-then-not-write.new.self.objects c.write.new.self (cells_keep (c.args.start + c.args.offset) (c.args.value ∷ [])) (cells_stay (c.args.start + c.args.offset) (c.args.value ∷ [])) c.self.invariant c.write-then-not-write.ensures.written c.write.ensures.written).0

pub invariant_of-self-else-not-write : goal.invariant_of-self-else-not-write
invariant_of-self-else-not-write c =
    let s = c.self.inside in
    (changed_second c.args.number (with_cells (c.args.start + c.args.offset) (c.args.value ∷ [])) s.allocated.objects s.declared c.write.new.self (cells_keep (c.args.start + c.args.offset) (c.args.value ∷ [])) (cells_stay (c.args.start + c.args.offset) (c.args.value ∷ [])) c.self.invariant c.write.ensures.written (sym c.if-not-write.false ∙ c.write.ensures.exists)).0

pub returns-then-not-write-clause-objects : goal.returns-then-not-write-clause-objects
returns-then-not-write-clause-objects c =
    let s = c.self.inside in
    (changed_first c.args.number (with_cells (c.args.start + c.args.offset) (c.args.value ∷ [])) s.allocated.objects s.declared c.write-then-not-write.new.self.objects c.write.new.self (cells_keep (c.args.start + c.args.offset) (c.args.value ∷ [])) (cells_stay (c.args.start + c.args.offset) (c.args.value ∷ [])) c.self.invariant c.write-then-not-write.ensures.written c.write.ensures.written).1
    ∙ ap (λ (v : Stock). change_in c.args.number (with_cells (c.args.start + c.args.offset) (c.args.value ∷ [])) v.objects) c.self.view_is

pub returns-else-not-write-clause-objects : goal.returns-else-not-write-clause-objects
returns-else-not-write-clause-objects c =
    let s = c.self.inside in
    (changed_second c.args.number (with_cells (c.args.start + c.args.offset) (c.args.value ∷ [])) s.allocated.objects s.declared c.write.new.self (cells_keep (c.args.start + c.args.offset) (c.args.value ∷ [])) (cells_stay (c.args.start + c.args.offset) (c.args.value ∷ [])) c.self.invariant c.write.ensures.written (sym c.if-not-write.false ∙ c.write.ensures.exists)).1
    ∙ ap (λ (v : Stock). change_in c.args.number (with_cells (c.args.start + c.args.offset) (c.args.value ∷ [])) v.objects) c.self.view_is

pub returns-then-not-write-clause-same : goal.returns-then-not-write-clause-same
returns-then-not-write-clause-same c =
    let s = c.self.inside in
    subst (λ (v : Stock). all_of c.write-then-not-write.new.self c.write.new.self ≡ record v { objects = both c.write-then-not-write.new.self.objects c.write.new.self }) c.self.view_is (all_same s.allocated c.write-then-not-write.new.self s.declared c.write.new.self c.write-then-not-write.ensures.same)

pub returns-else-not-write-clause-same : goal.returns-else-not-write-clause-same
returns-else-not-write-clause-same c =
    let s = c.self.inside in
    subst (λ (v : Stock). all_of s.allocated c.write.new.self ≡ record v { objects = both s.allocated.objects c.write.new.self }) c.self.view_is (all_same s.allocated s.allocated s.declared c.write.new.self refl)

pub returns-then-not-write-clause-pools : goal.returns-then-not-write-clause-pools
returns-then-not-write-clause-pools c = changed_shown c.args.self.now (all_of c.write-then-not-write.new.self c.write.new.self) c.args.number (with_cells (c.args.start + c.args.offset) (c.args.value ∷ [])) (cells_keep (c.args.start + c.args.offset) (c.args.value ∷ [])) (cells_stay (c.args.start + c.args.offset) (c.args.value ∷ [])) (returns-then-not-write-clause-same c) (returns-then-not-write-clause-objects c)

pub returns-else-not-write-clause-pools : goal.returns-else-not-write-clause-pools
returns-else-not-write-clause-pools c = changed_shown c.args.self.now (all_of c.self.inside.allocated c.write.new.self) c.args.number (with_cells (c.args.start + c.args.offset) (c.args.value ∷ [])) (cells_keep (c.args.start + c.args.offset) (c.args.value ∷ [])) (cells_stay (c.args.start + c.args.offset) (c.args.value ∷ [])) (returns-else-not-write-clause-same c) (returns-else-not-write-clause-objects c)
