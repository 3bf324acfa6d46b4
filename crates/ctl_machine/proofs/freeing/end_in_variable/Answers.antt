use Rattle.std.proofs.Common.{arith, refl}
use Rattle.ctl_frames.specs.declared.frame.Frame.TheVariants as FrameOf
use Rattle.ctl_frames.specs.declared.frame.Nulled.TheVariants as NulledOf
use Rattle.ctl_lifetimes.proofs.AfterInitialize.{rest_is}
use Rattle.ctl_engine.proofs.Following.{makes_later}
use Rattle.ctl_places.proofs.Freed.{ending_kept, freeing, goes_behind, variable_behind, variable_ends}
use Rattle.ctl_machine.proofs.freeing.end_in_variable.Goals as goal

pub null_variable-requires : goal.null_variable-requires
null_variable-requires g c =
    let code = c.args.code.now in
    let old = c.args.engine.now in
    let n = c.args.object in
    let x = c.args.ending in
    let b = c.requires.1.0 in
    let top = c.requires.1.1.0 in
    let nulled = NulledOf.Variable c.args.out c.args.slot in
    let u = freeing code old n nulled x.storage x.place top.0 g.s b top.1 in
    let taken = c.take_last in
    let len = taken.ensures.len in
    let rest = rest_is old.control.items taken.new.self.items taken.result (FrameOf.Freeing n nulled x.storage x.place) top.0 taken.ensures.items top.1 in (
      c.requires.0,
      (
        goes_behind code old _ n nulled x.storage x.place top.0 g.s b top.1 u (variable_behind code old n c.args.out c.args.slot x.storage x.place top.0 taken.new.self.items g.s b u rest),
        (refl, ending_kept code old _ x c.requires.1.1.1 refl refl refl refl refl (omega (arith, len)) taken.ensures.capacity (λ called. called)),
      ),
    )

pub returns : goal.returns
returns g c =
    let code = c.args.code.now in
    let old = c.args.engine.now in
    let n = c.args.object in
    let x = c.args.ending in
    let top = c.requires.1.1.0 in
    let u = freeing code old n (NulledOf.Variable c.args.out c.args.slot) x.storage x.place top.0 g.s c.requires.1.0 top.1 in
    variable_ends code old c.null_variable.new.engine x.ended n c.args.out c.args.slot x.storage x.place top.0 g.s u (makes_later code old _ c.null_variable.new.engine _ refl refl c.null_variable.ensures)
