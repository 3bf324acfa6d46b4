use Rattle.std.proofs.Common.{◌≡◌, ℕ, List, ◌∷◌, ap, arith, subst, ◌∙◌}
use Rattle.ctl_frames.specs.declared.frame.After.{After}
use Rattle.ctl_frames.specs.declared.frame.Frame.{Frame}
use Rattle.ctl_frames.specs.declared.frame.Frame.TheVariants as FrameOf
use Rattle.ctl_frames.specs.declared.frame.Handling.{Handling}
use Rattle.ctl_frames.specs.Masters.{heads_of}
use Rattle.ctl_engine.specs.Shows.{Wait, kept, tried_of}
use Rattle.ctl_lifetimes.proofs.Evaluated.{no_evaluation_waits}
use Rattle.ctl_engine.proofs.Steps.{no_master_waits}
use Rattle.ctl_machine.proofs.resuming.resume_plainly.Goals as goal

pub unreachable-requires : goal.unreachable-requires
unreachable-requires g c =
    let old = c.args.engine.now in
    let before = c.requires.1.0 in
    let top = c.requires.1.1.0 in
    let plain = c.requires.1.1.1.0 in
    let not_master : (handling : Handling) (after : After) → c.args.frame ≡ FrameOf.InMaster handling after → ⊥ =
    λ handling after is. no_master_waits c.args.code.now handling after top.0 (kept old).masters (heads_of g.s.world.activations) (kept old).owned g.s.control
    (subst (λ (l : List Frame). Wait l (kept old).masters (heads_of g.s.world.activations) (kept old).owned g.s.control) (top.1 ∙ ap (λ (f : Frame). f ∷ top.0) is) before.holds.waits) before.waits in
    let not_default : (object start offset window spots : ℕ) → c.args.frame ≡ FrameOf.Evaluating object start offset window spots → ⊥ =
    λ object start offset window spots is. no_evaluation_waits c.args.code.now object start offset window spots top.0 (kept old).masters (heads_of g.s.world.activations) (kept old).owned g.s.control
    (subst (λ (l : List Frame). Wait l (kept old).masters (heads_of g.s.world.activations) (kept old).owned g.s.control) (top.1 ∙ ap (λ (f : Frame). f ∷ top.0) is) before.holds.waits) before.waits in
    grind (arith, plain, not_master, not_default, c.in_default)

pub returns-in-Undoing-clause-ok : goal.returns-in-Undoing-clause-ok
returns-in-Undoing-clause-ok g c = c.resume_undoing.ensures (tried_of c.args.ended)

pub returns-in-UndoingOwn-clause-ok : goal.returns-in-UndoingOwn-clause-ok
returns-in-UndoingOwn-clause-ok g c = c.resume_undoing_own.ensures (tried_of c.args.ended)
