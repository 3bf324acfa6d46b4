use Rattle.std.proofs.Common.{◌≡◌, ◌∷◌, ap, reverse, subst, sym}
use Rattle.ctl_frames.specs.declared.frame.Completion.TheVariants.{Transferred}
use Rattle.ctl_frames.specs.declared.frame.Frame.TheVariants as FrameOf
use Rattle.ctl_lifetimes.proofs.Evaluated.{Settles, leaving_so, settled_before, settled_ends, settled_plain, value_waits}
use Rattle.ctl_machine.proofs.evaluating.transfer_out.Goals as goal

pub settle-plain-requires : goal.settle-plain-requires
settle-plain-requires g c = record { waits = value_waits c.args.code.now c.args.engine.now c.args.way g.s c.requires.1.0 }

pub end_default-requires : goal.end_default-requires
end_default-requires g c =
    let code = c.args.code.now in
    let old = c.args.engine.now in
    let mid = c.settle-plain.new.engine in
    let e = c.in-Some.evaluation in
    let d = c.settle-plain.ensures in
    let made : Settles old mid c.args.way c.settle-plain.result = record { is = d.way; same = d.plain; waits = d.waits; events = ap (λ v. v.items) d.events; picks = ap (λ v. v.items) d.picks } in
    let fs = c.in-Some.ensures.0 in
    let top : reverse mid.control.items ≡ FrameOf.Evaluating e.object e.start e.offset e.window e.spots ∷ fs = subst (λ v. reverse v.items ≡ FrameOf.Evaluating e.object e.start e.offset e.window e.spots ∷ fs) (sym d.control) c.in-Some.ensures.1 in
    (c.requires.0, (settled_before code old mid c.args.way c.settle-plain.result g.s made c.requires.1.0, (settled_plain old.spots.items c.args.way c.settle-plain.result d.way, (fs, top))))

pub returns-in-Some-clause-ok : goal.returns-in-Some-clause-ok
returns-in-Some-clause-ok g c =
    let e = c.in-Some.evaluation in
    let d = c.settle-plain.ensures in
    let made : Settles c.args.engine.now c.settle-plain.new.engine c.args.way c.settle-plain.result = record { is = d.way; same = d.plain; waits = d.waits; events = ap (λ v. v.items) d.events; picks = ap (λ v. v.items) d.picks } in
    settled_ends c.args.code.now c.args.engine.now c.settle-plain.new.engine c.end_default.new.engine c.args.way c.settle-plain.result e.object e.start e.offset e.window e.spots c.in-Some.ensures.0 g.s made c.requires.1.0 c.in-Some.ensures.1 c.end_default.ensures

pub transfer-requires : goal.transfer-requires
transfer-requires g c = (c.requires.0, (leaving_so c.args.code.now c.args.engine.now (Transferred c.args.way) g.s c.requires.1.0 c.in-None.ensures, c.requires.1.1))
