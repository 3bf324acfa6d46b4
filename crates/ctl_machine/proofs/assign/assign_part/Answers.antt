use Rattle.std.proofs.Common.{◌+◌, ◌++◌, ◌∷◌, ◌∙◌, [], List, Option, ap, refl, subst, sym, false}
use Rattle.ctl_meaning.specs.Finalization.{Spot}
use Rattle.ctl_meaning.specs.Objects.{object_in}
use Rattle.ctl_meaning.specs.World.{Object}
use Rattle.ctl_code.specs.Table.{is_same_part, replace_value}
use Rattle.ctl_engine.specs.Assigning.{Replaces}
use Rattle.ctl_engine.specs.Moves.{Makes}
use Rattle.ctl_engine.specs.Shows.{kept, with_spots}
use Rattle.ctl_frames.specs.Spots.{standing}
use Rattle.ctl_allocations.proofs.Assigned.{are_given, assigned_at, point_of, replaced_makes, replaces_now, rest_of, same_makes, source_gone, source_of, target_of, value_found}
use Rattle.ctl_lifetimes.proofs.OneCell.{cell_missing, cell_of, cell_there}
use Rattle.ctl_engine.proofs.Steps.{on_ok}
use Rattle.ctl_frames.proofs.Words.{newest_read, next_read, two_dropped}
use Rattle.ctl_machine.proofs.assign.assign_part.Goals as goal

pub returns-in_default-clause-ok : goal.returns-in_default-clause-ok
returns-in_default-clause-ok g c =
    let code = c.args.code.now in
    let old = c.args.engine.now in
    let t = c.args.record in
    let b = c.requires.1.0 in
    let i = are_given code old c.args.place g.s t c.requires.0 b in
    let count = c.count_spots-count in
    let below = standing g.s.control (rest_of g.s) in
    let source_is = newest_read old.spots.items (below ++ target_of g.s ∷ []) (source_of g.s) c.index-source.result.now count.result i.spots count.ensures.count c.index-source.ensures in
    let none = cell_missing c.offset.result (object_in c.object.result old.stock.objects) (sym c.in_default.is ∙ c.read_part.ensures) in
    source_gone code old _ c.args.place g.s t c.requires.0 b c.requires.1.1.0 c.requires.1.1.1.0 (ap (λ n. object_in n old.stock.objects) (sym (c.object.ensures ∙ ap (λ (x : Spot). x.object) source_is)) ∙ none)
    (record { mode = refl; kept = refl; events = refl; picks = refl })

pub returns-then-is_same-clause-ok : goal.returns-then-is_same-clause-ok
returns-then-is_same-clause-ok g c =
    let code = c.args.code.now in
    let old = c.args.engine.now in
    let t = c.args.record in
    let b = c.requires.1.0 in
    let i = are_given code old c.args.place g.s t c.requires.0 b in
    let count = c.count_spots-count in
    let below = standing g.s.control (rest_of g.s) in
    let source_is = newest_read old.spots.items (below ++ target_of g.s ∷ []) (source_of g.s) c.index-source.result.now count.result i.spots count.ensures.count c.index-source.ensures in
    let target_is = next_read old.spots.items below (target_of g.s) (source_of g.s) c.index-target.result.now count.result i.spots count.ensures.count c.index-target.ensures in
    let some = cell_there c.offset.result c.in-Some.first (object_in c.object.result old.stock.objects) (sym c.in-Some.is ∙ c.read_part.ensures) in
    let found = ap (λ n. object_in n old.stock.objects) (sym (c.object.ensures ∙ ap (λ (x : Spot). x.object) source_is)) ∙ some.1 in
    let same = sym c.if-is_same.true ∙ (c.is_same.ensures ∙ (ap (λ (x : Spot). is_same_part x c.index-source.result.now) target_is ∙ ap (λ (x : Spot). is_same_part (target_of g.s) x) source_is)) in
    same_makes code old _ c.args.place g.s t some.0 c.requires.0 b c.requires.1.1.0 c.requires.1.1.1.0 found same refl
    (ap (λ (l : List Spot). with_spots (kept old) l) (c.truncate.ensures.items ∙ two_dropped old.spots.items below (target_of g.s) (source_of g.s) count.result i.spots count.ensures.count))
    refl refl

pub replace_value-requires : goal.replace_value-requires
replace_value-requires g c =
    let code = c.args.code.now in
    let old = c.args.engine.now in
    let t = c.args.record in
    let b = c.requires.1.0 in
    let i = are_given code old c.args.place g.s t c.requires.0 b in
    let next = c.args.place + 1 in
    let count = c.count_spots-count in
    let source_is = newest_read old.spots.items (standing g.s.control (rest_of g.s) ++ target_of g.s ∷ []) (source_of g.s) c.index-source.result.now count.result i.spots count.ensures.count c.index-source.ensures in
    let some = cell_there c.offset.result c.in-Some.first (object_in c.object.result old.stock.objects) (sym c.in-Some.is ∙ c.read_part.ensures) in
    let found = ap (λ n. object_in n old.stock.objects) (sym (c.object.ensures ∙ ap (λ (x : Spot). x.object) source_is)) ∙ some.1 in
    let now = replaces_now code old c.args.place g.s t some.0 c.requires.0 b found in (
      c.requires.0,
      (
        subst (λ (o : Option Object). Replaces code old t false next (assigned_at next g.s) (value_found code t o g.s)) (sym found) now,
        (
          λ below s o are there.
              let spot = newest_read old.spots.items below s c.index-source.result.now count.result are count.ensures.count c.index-source.ensures in
              cell_of old.stock.objects c.object.result c.offset.result c.in-Some.first s o (c.object.ensures ∙ ap (λ (x : Spot). x.object) spot) (c.offset.ensures ∙ ap (λ (x : Spot). x.offset) spot) (sym c.in-Some.is ∙ c.read_part.ensures) there,
          c.requires.1.1.1.1.1,
        ),
      ),
    )

pub returns-clause-ok : goal.returns-clause-ok
returns-clause-ok g c =
    let code = c.args.code.now in
    let old = c.args.engine.now in
    let t = c.args.record in
    let b = c.requires.1.0 in
    let i = are_given code old c.args.place g.s t c.requires.0 b in
    let count = c.count_spots-count in
    let below = standing g.s.control (rest_of g.s) in
    let source_is = newest_read old.spots.items (below ++ target_of g.s ∷ []) (source_of g.s) c.index-source.result.now count.result i.spots count.ensures.count c.index-source.ensures in
    let target_is = next_read old.spots.items below (target_of g.s) (source_of g.s) c.index-target.result.now count.result i.spots count.ensures.count c.index-target.ensures in
    let some = cell_there c.offset.result c.in-Some.first (object_in c.object.result old.stock.objects) (sym c.in-Some.is ∙ c.read_part.ensures) in
    let found = ap (λ n. object_in n old.stock.objects) (sym (c.object.ensures ∙ ap (λ (x : Spot). x.object) source_is)) ∙ some.1 in
    let same = sym c.if-is_same.false ∙ (c.is_same.ensures ∙ (ap (λ (x : Spot). is_same_part x c.index-source.result.now) target_is ∙ ap (λ (x : Spot). is_same_part (target_of g.s) x) source_is)) in
    let next = c.args.place + 1 in
    let makes : Option Object → Type 0 = λ o. Makes code old c.replace_value.new.engine (replace_value code (target_of g.s) t (value_found code t o g.s) (point_of next g.s) g.s.control g.s.world) in
    on_ok c.replace_value.result
    (λ (m : makes (object_in (source_of g.s).object old.stock.objects)). replaced_makes code old c.replace_value.new.engine c.args.place g.s t some.0 c.requires.0 b c.requires.1.1.0 c.requires.1.1.1.0 found same (subst makes found m))
    c.replace_value.ensures.ok
