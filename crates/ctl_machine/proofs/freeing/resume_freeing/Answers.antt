use Rattle.std.proofs.Common.{◌∷◌, ◌∙◌, ap}
use Rattle.ctl_frames.specs.declared.frame.Frame.TheVariants as FrameOf
use Rattle.ctl_frames.specs.declared.frame.Nulled.{Nulled}
use Rattle.ctl_engine.specs.Shows.{Kept}
use Rattle.ctl_places.proofs.Freed.{ending_there, resuming_more}
use Rattle.ctl_machine.proofs.freeing.resume_freeing.Goals as goal

pub end_in_variable-requires : goal.end_in_variable-requires
end_in_variable-requires g c =
    let code = c.args.code.now in
    let old = c.args.engine.now in
    let new = c.prepare_return.new.engine in
    let x = c.args in
    let valid = c.requires.0 in
    let b = c.requires.1.0 in
    let top = c.requires.1.1.0 in
    let goes = c.in_ok-prepare_return.ensures.ok in (
      valid,
      (
        resuming_more code old new g.s goes.0 b goes.1.kept,
        (
          (top.0, ap (λ (e : Kept). e.control) goes.1.kept ∙ (top.1 ∙ ap (λ (y : Nulled). FrameOf.Freeing x.object y x.storage x.place ∷ top.0) c.in-Variable.is)),
          ending_there code old new x.ended x.object x.nulled x.storage x.place top.0 g.s valid b top.1 c.in_ok-prepare_return.ensures.room,
        ),
      ),
    )

pub end_in_part-requires : goal.end_in_part-requires
end_in_part-requires g c =
    let code = c.args.code.now in
    let old = c.args.engine.now in
    let new = c.prepare_return.new.engine in
    let x = c.args in
    let valid = c.requires.0 in
    let b = c.requires.1.0 in
    let top = c.requires.1.1.0 in
    let goes = c.in_ok-prepare_return.ensures.ok in (
      valid,
      (
        resuming_more code old new g.s goes.0 b goes.1.kept,
        (
          (top.0, ap (λ (e : Kept). e.control) goes.1.kept ∙ (top.1 ∙ ap (λ (y : Nulled). FrameOf.Freeing x.object y x.storage x.place ∷ top.0) c.in-Part.is)),
          ending_there code old new x.ended x.object x.nulled x.storage x.place top.0 g.s valid b top.1 c.in_ok-prepare_return.ensures.room,
        ),
      ),
    )
