use Rattle.std.proofs.Common.{◌≡◌, ◌∙◌, ℕ, Some, reverse, subst, sym}
use Rattle.ctl_code.specs.declared.code.Way.{Way}
use Rattle.ctl_code.specs.declared.code.Way.TheVariants as WayOf
use Rattle.ctl_code.specs.States.{Move}
use Rattle.ctl_code.specs.Table.{by_transfer}
use Rattle.ctl_frames.specs.declared.frame.Completion.TheVariants.{Transferred}
use Rattle.ctl_engine.specs.Shows.{way_in}
use Rattle.ctl_engine.specs.Handlers.{first_handlers}
use Rattle.ctl_engine.specs.Moves.{BeforeLeaving, Makes}
use Rattle.ctl_engine.proofs.Caught.{caught_makes, leaves_else}
use Rattle.ctl_engine.proofs.Steps.{on_ok}
use Rattle.ctl_machine.proofs.handlers.transfer.Goals as goal
use Rattle.ctl_machine.proofs.handlers.transfer.Goals.{in_default-via-in-Raise+in_default, in_default-via-in_default}

pub returns-in-Raise-Some-clause-ok : goal.returns-in-Raise-Some-clause-ok
returns-in-Raise-Some-clause-ok g c =
    let code = c.args.code.now in
    let old = c.args.engine.now in
    let new = c.set_handling.new.self in
    subst (λ (way : Way). Makes code old new (by_transfer code (way_in old.spots.items way) g.s.control g.s.world)) (sym c.in-Raise-Some.is-0)
    (caught_makes code old new g.s c.in-Raise-Some.exception c.in-Raise-Some.place (subst (λ (way : Way). BeforeLeaving code old (Transferred way) g.s) c.in-Raise-Some.is-0 c.requires.1.0) (sym c.handlers.ensures ∙ c.in-Raise-Some.is-1) c.set_handling.ensures)

pub returns-in_default-clause-ok : goal.returns-in_default-clause-ok
returns-in_default-clause-ok g c =
    let code = c.args.code.now in
    let old = c.args.engine.now in
    let none : (x place : ℕ) → c.args.way ≡ WayOf.Raise x → first_handlers (reverse old.control.items) ≡ Some place → ⊥ = λ x place raised there.
    elim c.in_default.branch [
      | in_default-via-in-Raise+in_default w ↦ let h = sym c.handlers.ensures ∙ w.in_default.is-1 in cc
      | in_default-via-in_default w ↦ w.in_default.not-Raise-0 x raised
    ] in
    on_ok c.leave.result (λ made. subst (λ (m : Move). Makes code old c.leave.new.engine m) (leaves_else code old g.s c.args.way c.requires.1.0 none) made) c.leave.ensures.ok
