use Rattle.std.proofs.Common.{◌≡◌, ◌∙◌, [], Some, None, ap, refl, subst}
use Rattle.ctl_meaning.specs.Objects.{object_in}
use Rattle.ctl_meaning.specs.Finalization.{Spot}
use Rattle.ctl_code.specs.Table.{operation_of}
use Rattle.ctl_engine.specs.Shows.{kept}
use Rattle.ctl_lifetimes.proofs.Assignments.{stops_makes}
use Rattle.ctl_engine.proofs.Owned.{object_shown}
use Rattle.ctl_engine.proofs.MasterOf.{object_or_there}
use Rattle.ctl_lifetimes.proofs.Undone.{calls_it, no_own_undone, undone_gone}
use Rattle.ctl_lifetimes.proofs.undoing.undo_adjusted.Goals as goal

pub returns-in_default : goal.returns-in_default
returns-in_default g c =
    let code = c.args.code.now in
    let old = c.args.engine.now in
    let t = g.t in
    let type = c.args.undoing.record_type in
    let b = c.requires.1.0 in
    let none = subst (λ n. object_in n old.stock.objects ≡ None) (c.object.ensures ∙ ap (λ (s : Spot). s.object) c.requires.1.1.1.1.0.spot) c.in_default.ensures.none in
    undone_gone code old _ (operation_of (λ o. o.finalize) code type) type t (object_shown code (kept old) t.control [] t.world t.spot.object b.holds ∙ none)
    (stops_makes code old _ t.control [] t.world refl b.holds refl refl)

pub call_undone-requires : goal.call_undone-requires
call_undone-requires g c =
    let old = c.args.engine.now in
    let x = c.args.undoing in
    let some = c.in-Some.ensures.some in
    let doubles = c.requires.1.1.1.1.0 in
    (c.requires.0, (c.requires.1.0, (c.requires.1.1.0, (c.requires.1.1.1.0, (doubles, (c.requires.1.1.1.1.1, calls_it c.args.code.now old c.in-Some-finalize_of.entry x.record_type c.in-Some.master g.t (object_or_there old.owned.items old.stock.objects c.object.result g.t.spot.object c.in-Some.master some (c.object.ensures ∙ ap (λ (s : Spot). s.object) doubles.spot)) c.in-Some-finalize_of.ensures.some))))))

pub returns-in-None : goal.returns-in-None
returns-in-None g c =
    let old = c.args.engine.now in
    let some = c.in-Some.ensures.some in
    no_own_undone c.args.code.now old c.undo_components.new.engine c.args.undoing.record_type some.0 g.t c.requires.1.0 (subst (λ n. object_in n old.stock.objects ≡ Some some.0) (c.object.ensures ∙ ap (λ (s : Spot). s.object) c.requires.1.1.1.1.0.spot) some.1.found) c.in-None.ensures.none c.undo_components.ensures
