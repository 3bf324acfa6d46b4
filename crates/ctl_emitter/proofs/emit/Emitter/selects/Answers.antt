use Rattle.std.proofs.Common.{◌+◌, ap, sym, ◌∙◌, drop}
use Rattle.std.proofs.lemmas.List.{drop_all, get_or_default}
use Rattle.ctl_program.specs.declared.expression.Step.TheVariants.{Component, Dereference}
use Rattle.ctl_code.specs.Windows.{height}
use Rattle.ctl_code.specs.declared.code.Instr.TheVariants as InstrOf
use Rattle.ctl_layout.specs.Parts.{first_type, selected, selects_code, whole_code}
use Rattle.ctl_layout.proofs.Turns.{turn_of}
use Rattle.ctl_emitter.specs.Emitted.{lined}
use Rattle.ctl_emitter.proofs.EmittedParts.{next_dereference, next_selector, no_step, steps_from}
use Rattle.ctl_emitter.proofs.emit.Emitter.selects.Goals as goal
use Rattle.ctl_emitter.proofs.emit.Emitter.selects.Goals.{in-Component+in_ok-over_operand-in-Component, in-Dereference+in_ok-over_operand-in-Dereference+in_ok-take_whole-in-Dereference}

pub loop-index-preserved : goal.loop-index-preserved
loop-index-preserved c =
    let all = c.args.steps.now in
    let i = c.loop-index.index in
    let t = c.args.record in
    let rest = drop (i + 1) all in
    let e0 = c.loop-index.self in
    let within = c.loop-index-test.true in
    elim c.match-steps-index.branch [
      | in-Component+in_ok-over_operand-in-Component w ↦
          let x = w.in-Component in
          ap (lined (selects_code rest t)) w.self-is
          ∙ next_selector x.of x.position t rest w.selected-selected.result e0 w.over_operand.new.self (w.selected-selected.ensures ∙ ap (λ xs. selected x.of x.position xs t e0.notes.standing) (steps_from all (i + 1))) w.in_ok-over_operand-in-Component.ensures
          ∙ turn_of (λ xs. lined (selects_code xs t) e0) all i (Component x.of x.position) within (sym x.is ∙ get_or_default all i _ (Component x.of x.position) within)
          ∙ c.loop-index.invariant
      | in-Dereference+in_ok-over_operand-in-Dereference+in_ok-take_whole-in-Dereference w ↦
          ap (lined (selects_code rest t)) w.self-is
          ∙ next_dereference t rest w.dereference-dereference.result e0 w.over_operand-in-Dereference.new.self w.take_whole.new.self (w.dereference-dereference.ensures ∙ ap (λ xs. InstrOf.Dereference (first_type xs t) (height e0.notes.standing)) (steps_from all (i + 1))) w.in_ok-over_operand-in-Dereference.ensures (w.in_ok-take_whole-in-Dereference.ensures ∙ ap (λ xs. lined (whole_code xs) w.over_operand-in-Dereference.new.self) (steps_from all (i + 1)))
          ∙ turn_of (λ xs. lined (selects_code xs t) e0) all i Dereference within (sym w.in-Dereference.is ∙ get_or_default all i _ Dereference within)
          ∙ c.loop-index.invariant
    ]

pub returns : goal.returns
returns c =
    no_step c.args.record c.loop-index.self
    ∙ ap (λ xs. lined (selects_code xs c.args.record) c.loop-index.self) (sym (drop_all c.loop-index.index c.args.steps.now c.loop-index-test.false))
    ∙ c.loop-index.invariant
