use Rattle.std.proofs.Common.{◌∙◌, ap, sym, subst}
use Rattle.ctl_meaning.specs.Objects.{change_in}
use Rattle.ctl_meaning.specs.Objects.{with_cells}
use Rattle.ctl_objects.specs.Stock.{Stock, all_of}
use Rattle.ctl_objects.proofs.Both.{changed_first, changed_second}
use Rattle.ctl_storage.proofs.InStore.{cells_keep}
use Rattle.ctl_objects.proofs.Origins.{cells_stay}
use Rattle.std.proofs.Common.{◌≡◌, refl, subst, ap, sym, ◌∙◌}
use Rattle.ctl_objects.specs.Order.{both}
use Rattle.ctl_objects.proofs.Pools.{all_same}
use Rattle.ctl_objects.proofs.Unchanged.{changed_shown}
use Rattle.ctl_objects.proofs.object_list.Objects.write_all.Goals as goal

pub invariant_of-self : goal.invariant_of-self
invariant_of-self c =
    let s = c.self.inside in
    (changed_first c.args.number (with_cells c.args.start c.args.values.now) s.allocated.objects s.declared c.write_all-then-not-write_all.new.self.objects c.write_all.new.self (cells_keep c.args.start c.args.values.now) (cells_stay c.args.start c.args.values.now) c.self.invariant c.write_all-then-not-write_all.ensures.written c.write_all.ensures.written).0

pub invariant_of-self-else-not-write_all : goal.invariant_of-self-else-not-write_all
invariant_of-self-else-not-write_all c =
    let s = c.self.inside in
    (changed_second c.args.number (with_cells c.args.start c.args.values.now) s.allocated.objects s.declared c.write_all.new.self (cells_keep c.args.start c.args.values.now) (cells_stay c.args.start c.args.values.now) c.self.invariant c.write_all.ensures.written (sym c.if-not-write_all.false ∙ c.write_all.ensures.exists)).0

pub returns-then-not-write_all-clause-objects : goal.returns-then-not-write_all-clause-objects
returns-then-not-write_all-clause-objects c =
    let s = c.self.inside in
    (changed_first c.args.number (with_cells c.args.start c.args.values.now) s.allocated.objects s.declared c.write_all-then-not-write_all.new.self.objects c.write_all.new.self (cells_keep c.args.start c.args.values.now) (cells_stay c.args.start c.args.values.now) c.self.invariant c.write_all-then-not-write_all.ensures.written c.write_all.ensures.written).1
    ∙ ap (λ (v : Stock). change_in c.args.number (with_cells c.args.start c.args.values.now) v.objects) c.self.view_is

pub returns-else-not-write_all-clause-objects : goal.returns-else-not-write_all-clause-objects
returns-else-not-write_all-clause-objects c =
    let s = c.self.inside in
    (changed_second c.args.number (with_cells c.args.start c.args.values.now) s.allocated.objects s.declared c.write_all.new.self (cells_keep c.args.start c.args.values.now) (cells_stay c.args.start c.args.values.now) c.self.invariant c.write_all.ensures.written (sym c.if-not-write_all.false ∙ c.write_all.ensures.exists)).1
    ∙ ap (λ (v : Stock). change_in c.args.number (with_cells c.args.start c.args.values.now) v.objects) c.self.view_is

pub returns-then-not-write_all-clause-same : goal.returns-then-not-write_all-clause-same
returns-then-not-write_all-clause-same c =
    let s = c.self.inside in
    subst (λ (v : Stock). all_of c.write_all-then-not-write_all.new.self c.write_all.new.self ≡ record v { objects = both c.write_all-then-not-write_all.new.self.objects c.write_all.new.self }) c.self.view_is (all_same s.allocated c.write_all-then-not-write_all.new.self s.declared c.write_all.new.self c.write_all-then-not-write_all.ensures.same)

pub returns-else-not-write_all-clause-same : goal.returns-else-not-write_all-clause-same
returns-else-not-write_all-clause-same c =
    let s = c.self.inside in
    subst (λ (v : Stock). all_of s.allocated c.write_all.new.self ≡ record v { objects = both s.allocated.objects c.write_all.new.self }) c.self.view_is (all_same s.allocated s.allocated s.declared c.write_all.new.self refl)

pub returns-then-not-write_all-clause-pools : goal.returns-then-not-write_all-clause-pools
returns-then-not-write_all-clause-pools c = changed_shown c.args.self.now (all_of c.write_all-then-not-write_all.new.self c.write_all.new.self) c.args.number (with_cells c.args.start c.args.values.now) (cells_keep c.args.start c.args.values.now) (cells_stay c.args.start c.args.values.now) (returns-then-not-write_all-clause-same c) (returns-then-not-write_all-clause-objects c)

pub returns-else-not-write_all-clause-pools : goal.returns-else-not-write_all-clause-pools
returns-else-not-write_all-clause-pools c = changed_shown c.args.self.now (all_of c.self.inside.allocated c.write_all.new.self) c.args.number (with_cells c.args.start c.args.values.now) (cells_keep c.args.start c.args.values.now) (cells_stay c.args.start c.args.values.now) (returns-else-not-write_all-clause-same c) (returns-else-not-write_all-clause-objects c)
