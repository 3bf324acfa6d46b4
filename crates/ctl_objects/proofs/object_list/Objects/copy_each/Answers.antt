use Rattle.std.proofs.Common.{◌∙◌, ◌+◌, [], ◌∷◌, List, ap, refl}
use Rattle.std.specs.Option.{option_map}
use Rattle.ctl_meaning.specs.World.{Object}
use Rattle.ctl_meaning.specs.Names.{scalar_of}
use Rattle.ctl_meaning.specs.Objects.{cells_at, change_in, object_in, with_cells}
use Rattle.ctl_objects.specs.Stock.{Stock}
use Rattle.ctl_objects.proofs.Runs.{copied_more_of, first_as_before, gone_copied, none_written}
use Rattle.ctl_objects.proofs.object_list.Objects.copy_each.Goals as goal

pub loop-at-init : goal.loop-at-init
loop-at-init c = record {
  objects = none_written c.args.start c.args.to c.args.target (object_in c.args.from c.args.self.now.objects) c.args.self.now.objects;
  needs = refl;
  pools = λ next x h. h;
  same = refl;
}

pub returns-in_default-clause-objects : goal.returns-in_default-clause-objects
returns-in_default-clause-objects c =
    let a = c.args in
    let at = c.loop-at.at in
    let before = ap (λ (l : List Object). object_in a.from l) c.loop-at.invariant.objects ∙ first_as_before a.from a.start a.to a.target at a.self.now.objects c.requires in
    let read = λ (o : Object). scalar_of (cells_at (a.start + at) 1 o) in
    c.loop-at.invariant.objects ∙ gone_copied a.start at a.to a.target at a.count (object_in a.from a.self.now.objects) a.self.now.objects (c.in_default.ensures ∙ ap (option_map read) before)

pub loop-at-preserved : goal.loop-at-preserved
loop-at-preserved c =
    let a = c.args in
    let at = c.loop-at.at in
    let value = c.in-Some.value in
    let before = ap (λ (l : List Object). object_in a.from l) c.loop-at.invariant.objects ∙ first_as_before a.from a.start a.to a.target at a.self.now.objects c.requires in
    let read = λ (o : Object). scalar_of (cells_at (a.start + at) 1 o) in
    record {
      objects =
          c.write_part.ensures.objects
          ∙ (ap (λ (l : List Object). change_in a.to (with_cells (a.target + at) (value ∷ [])) l) c.loop-at.invariant.objects
          ∙ copied_more_of a.start a.to a.target at value (object_in a.from a.self.now.objects) a.self.now.objects (c.in-Some.ensures ∙ ap (option_map read) before));
      needs = c.write_part.ensures.needs ∙ c.loop-at.invariant.needs;
      pools = λ next x h. c.write_part.ensures.pools next x (c.loop-at.invariant.pools next x h);
      same = c.write_part.ensures.same ∙ ap (λ (v : Stock). record v { objects = c.write_part.new.self.objects }) c.loop-at.invariant.same;
    }
