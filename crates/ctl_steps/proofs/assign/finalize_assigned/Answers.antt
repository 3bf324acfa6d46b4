use Rattle.std.proofs.Common.{◌∙◌, [], ap, refl, reverse, subst, sym}
use Rattle.ctl_meaning.specs.Finalization.{Spot}
use Rattle.ctl_meaning.specs.Objects.{object_in}
use Rattle.ctl_code.specs.declared.code.Parts.{Parts}
use Rattle.ctl_code.specs.Table.{finalize_part, operation_of}
use Rattle.ctl_frames.specs.Owned.{home_among, sets_owned}
use Rattle.ctl_engine.specs.Moves.{Makes}
use Rattle.ctl_engine.specs.Shows.{kept}
use Rattle.ctl_engine.specs.Windows.{moded}
use Rattle.ctl_frames.specs.declared.frame.Mode.TheVariants.{Stopped}
use Rattle.ctl_tree.specs.declared.ending.Stop.TheVariants.{UseAfterFree}
use Rattle.ctl_engine.proofs.Owned.{none_there, object_shown, some_there}
use Rattle.ctl_lifetimes.proofs.Assignments.{stops_makes}
use Rattle.ctl_lifetimes.proofs.Finishing.{newest_calls, part_gone}
use Rattle.ctl_steps.proofs.assign.finalize_assigned.Goals as goal

pub finalize_among-requires : goal.finalize_among-requires
finalize_among-requires g c =
    let old = c.args.engine.now in
    let doubles = c.requires.1.1.1.1.0 in
    let here = some_there (object_in c.object.result old.stock.objects) (sym c.exists.ensures ∙ c.if-not-exists.false) in
    let found = ap (λ n. object_in n old.stock.objects) (sym (c.object.ensures ∙ ap (λ (s : Spot). s.object) doubles.spot)) ∙ here.1 in
    let master = home_among (sets_owned old.owned.items) here.0.origin in
    (c.requires.0, (c.requires.1.0, (c.requires.1.1.0, (c.requires.1.1.1.0, (doubles, (master, here.0, record { found = found; home = refl }, newest_calls (reverse old.control.items) old.masters.items master c.count_masters-caller.result c.requires.1.1.1.1.1.1 c.count_masters-caller.ensures.count))))))

pub returns-then-not-exists : goal.returns-then-not-exists
returns-then-not-exists g c =
    let code = c.args.code.now in
    let old = c.args.engine.now in
    let t = g.t in
    let x = c.args.finalization in
    let b = c.requires.1.0 in
    let controlled = c.requires.1.1.1.1.1.0 in
    let none = ap (λ n. object_in n old.stock.objects) (sym (c.object.ensures ∙ ap (λ (s : Spot). s.object) c.requires.1.1.1.1.0.spot)) ∙ none_there (object_in c.object.result old.stock.objects) (sym c.exists.ensures ∙ c.if-not-exists.true) in
    let new = moded old (Stopped UseAfterFree) in
    subst (λ (p : Parts). Makes code old new (finalize_part code p x.cause t.spot x.record_type t.control t.world)) (sym controlled)
    (part_gone code old new (operation_of (λ o. o.finalize) code x.record_type) x.cause x.record_type t (object_shown code (kept old) t.control [] t.world t.spot.object b.holds ∙ none)
    (stops_makes code old new t.control [] t.world refl b.holds refl refl))

pub returns : goal.returns
returns g c =
    let code = c.args.code.now in
    let x = c.args.finalization in
    let t = g.t in
    subst (λ (p : Parts). Makes code c.args.engine.now c.finalize_among.new.engine (finalize_part code p x.cause t.spot x.record_type t.control t.world)) (sym c.requires.1.1.1.1.1.0) c.finalize_among.ensures
