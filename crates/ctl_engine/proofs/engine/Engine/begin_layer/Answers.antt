use Rattle.std.proofs.Common.{◌∙◌, [], ◌∷◌, List, ap, reverse, drop}
use Rattle.std.specs.Prelude.{slice_get, slice_set}
use Rattle.std.proofs.lemmas.List.{reverse-append}
use Rattle.std.proofs.lemmas.Option.{slice_get_within}
use Rattle.ctl_tree.specs.declared.event.Cause.TheVariants.{Scope}
use Rattle.ctl_meaning.specs.Objects.{change_in, with_begun}
use Rattle.ctl_frames.specs.declared.frame.Frame.{Frame}
use Rattle.ctl_frames.specs.declared.frame.Frame.TheVariants as FrameOf
use Rattle.ctl_frames.specs.declared.frame.Owned.{Owned}
use Rattle.ctl_engine.specs.Departing.{out}
use Rattle.ctl_frames.proofs.Links.{got}
use Rattle.ctl_frames.proofs.Lists.{same_at}
use Rattle.ctl_engine.proofs.engine.Engine.begin_layer.Goals as goal

pub returns-clause-control : goal.returns-clause-control
returns-clause-control g c =
    let owned = c.args.self.now.owned.items in
    let x = c.index_mut-object.result.now in
    let same = same_at x g.o (slice_get owned c.args.at) (got owned c.args.at x (slice_get_within owned c.args.at g.o c.requires.0) c.index_mut-object.ensures.value) c.requires.0 in
    let others = drop 1 (reverse c.args.self.now.control.items) in
    ap (λ (l : List Frame). reverse l) c.push_reserved.ensures.items
    ∙ (reverse-append c.replace_top.new.control.items (FrameOf.Finalizing Scope x.number ∷ [])
    ∙ (ap (λ (l : List Frame). FrameOf.Finalizing Scope x.number ∷ l) (c.replace_top.ensures.items ∙ ap (λ (f : Frame). f ∷ others) c.frame.ensures)
    ∙ ap (λ (o : Owned). FrameOf.Finalizing Scope o.number ∷ FrameOf.Leaving c.args.departure.failed c.args.departure.pending c.args.departure.after c.args.at ∷ others) same))

pub returns-clause-owned : goal.returns-clause-owned
returns-clause-owned g c =
    let owned = c.args.self.now.owned.items in
    let x = c.index_mut-object.result.now in
    let same = same_at x g.o (slice_get owned c.args.at) (got owned c.args.at x (slice_get_within owned c.args.at g.o c.requires.0) c.index_mut-object.ensures.value) c.requires.0 in
    ap (λ (o : Owned). slice_set owned c.args.at (out o)) same

pub returns-clause-objects : goal.returns-clause-objects
returns-clause-objects g c =
    let owned = c.args.self.now.owned.items in
    let x = c.index_mut-object.result.now in
    let same = same_at x g.o (slice_get owned c.args.at) (got owned c.args.at x (slice_get_within owned c.args.at g.o c.requires.0) c.index_mut-object.ensures.value) c.requires.0 in
    c.begin_finalization.ensures.objects ∙ ap (λ (o : Owned). change_in o.number with_begun c.args.self.now.stock.objects) same
