use Rattle.std.proofs.Common.{◌≡◌, List, [], refl, sym, ap, ◌∙◌, subst, reverse}
use Rattle.ctl_meaning.specs.Finalization.{Spot}
use Rattle.ctl_code.specs.States.{Giving}
use Rattle.ctl_code.specs.Table.{act}
use Rattle.ctl_frames.specs.declared.frame.Ended.{Ended}
use Rattle.ctl_frames.specs.declared.frame.Declared.TheVariants as DeclaredOf
use Rattle.ctl_frames.specs.declared.frame.Frame.{Frame}
use Rattle.ctl_frames.specs.declared.frame.Frame.TheVariants as FrameOf
use Rattle.ctl_code.specs.declared.code.Way.TheVariants as WayOf
use Rattle.ctl_engine.specs.declared.engine.Engine.{Engine}
use Rattle.ctl_frames.specs.declared.frame.Mode.TheVariants as ModeOf
use Rattle.ctl_engine.specs.Moves.{Makes}
use Rattle.ctl_engine.specs.Shows.{kept, tried_of}
use Rattle.ctl_lifetimes.proofs.AfterInitialize.{TakesFrame, copy_lives, copy_raises, copying, object_newest, rest_is}
use Rattle.ctl_engine.proofs.Stages.{Copies}
use Rattle.ctl_lifetimes.proofs.creating.end_copy.Goals as goal

pub become_layer-requires : goal.become_layer-requires
become_layer-requires g c =
    let top = c.requires.1.0 in
    let old = c.args.engine.now in
    let x = copying c.args.code.now old c.args.place c.args.first top.0 g.s c.requires.0 top.1 in
    object_newest DeclaredOf.Object (Copies c.args.first x.0) c.args.place top.0 old g.s x.1

pub returns-in-Raised : goal.returns-in-Raised
returns-in-Raised g c =
    let code = c.args.code.now in
    let old = c.args.engine.now in
    let top = c.requires.1.0 in
    let rest : reverse c.take_last.new.self.items ≡ top.0 = rest_is old.control.items c.take_last.new.self.items c.take_last.result (FrameOf.Copying c.args.place c.args.first) top.0 c.take_last.ensures.items top.1 in
    let new : Engine = record old { control = c.take_last.new.self; noted = c.truncate.new.self; mode = ModeOf.Transfers (WayOf.Raise c.in-Raised.exception) } in
    let taken : TakesFrame (Copies c.args.first []) old new top.0 = record { kept = ap (λ (l : List Frame). record (kept old) { control = l; noted = c.truncate.new.self.items }) rest ∙ ap (λ (l : List Spot). record (kept old) { control = top.0; noted = l }) c.truncate.ensures.items; events = refl; picks = refl } in
    subst (λ (x : Ended). Makes code old new (act code (Giving (tried_of x)) g.s.control g.s.operands g.s.world 0)) (sym c.in-Raised.is)
    (copy_raises code old new c.args.place c.args.first top.0 g.s c.in-Raised.exception c.requires.0 top.1 refl taken)

pub returns-in_default : goal.returns-in_default
returns-in_default g c =
    let code = c.args.code.now in
    let old = c.args.engine.now in
    let top = c.requires.1.0 in
    let rest : reverse c.take_last.new.self.items ≡ top.0 = rest_is old.control.items c.take_last.new.self.items c.take_last.result (FrameOf.Copying c.args.place c.args.first) top.0 c.take_last.ensures.items top.1 in
    let mid : Engine = record old { control = c.take_last.new.self; noted = c.truncate.new.self } in
    let taken : TakesFrame (Copies c.args.first []) old mid top.0 = record { kept = ap (λ (l : List Frame). record (kept old) { control = l; noted = c.truncate.new.self.items }) rest ∙ ap (λ (l : List Spot). record (kept old) { control = top.0; noted = l }) c.truncate.ensures.items; events = refl; picks = refl } in
    copy_lives code old mid c.become_layer.new.engine c.args.ended c.args.place c.args.first top.0 g.s c.in_default.not-Raised c.requires.1.1 c.requires.0 top.1 taken c.become_layer.ensures
