use Rattle.std.proofs.Common.{◌≡◌, suc, ◌+◌, ◌-◌, ◌^◌, ◌++◌, ap, sym, ◌∙◌, arith, drop, Some, None}
use Rattle.std.specs.Prelude.{slice_get}
use Rattle.ctl_draft.specs.Freezing as spec
use Rattle.ctl_draft.proofs.InTurn.{none_left, done_with_none, done_next}
use Rattle.ctl_draft.proofs.freezing.do_all.Goals as goal

pub returns-in_default : goal.returns-in_default
returns-in_default c =
    let rs = c.args.records.now in
    let left = 2 ^ 64 - 1 - c.loop-at.at in
    let none : slice_get c.loop-at.todo c.loop-at.at ≡ None = sym c.in_default.ensures.value in
    sym (done_with_none rs left c.loop-at.states) ∙ sym (ap (λ ds. spec.done_in_turn rs left ds c.loop-at.states) (none_left c.loop-at.todo c.loop-at.at none)) ∙ c.loop-at.invariant

pub loop-at-preserved : goal.loop-at-preserved
loop-at-preserved c =
    let rs = c.args.records.now in
    let at = c.loop-at.at in
    let todo = c.loop-at.todo in
    let states = c.loop-at.states in
    let deed = c.in-Some.field-0.now in
    let left = 2 ^ 64 - 1 - at in
    let next = 2 ^ 64 - 1 - (at + 1) in
    let more : left ≡ suc next = omega (arith, c.loop-at-test.true) in
    let here : slice_get todo at ≡ Some deed = sym c.in-Some.ensures.value in
    let added : c.do_next.new.todo ≡ todo ++ spec.added rs (spec.is_new states deed) deed = c.in_ok-do_next.ensures.added in
    let done : c.do_next.new.states ≡ spec.done_if (spec.is_new states deed) deed states = c.in_ok-do_next.ensures.done in
    let as_made = ap (λ ds. spec.done_in_turn rs next (drop (at + 1) ds) c.do_next.new.states) added in
    let as_done = ap (λ s. spec.done_in_turn rs next (drop (at + 1) (todo ++ spec.added rs (spec.is_new states deed) deed)) s) done in
    as_made ∙ as_done ∙ done_next rs left next at todo deed states more here ∙ c.loop-at.invariant
