use Rattle.std.proofs.Common.{ℕ, refl}
use Rattle.ctl_code.specs.declared.code.Code.{Code}
use Rattle.ctl_code.specs.declared.code.Instr.{Instr}
use Rattle.ctl_code.specs.Kinds.{stack_at}
use Rattle.ctl_code.specs.Valid.{IsFine}
use Rattle.ctl_code.proofs.Each.{each, found, one_fails, one_more}
use Rattle.ctl_code.proofs.validate.are_instructions_fine.Goals as goal

-- what is looked for
abbrev IsFineAt : Code → ℕ → Instr → Type 0
IsFineAt code place i = IsFine code place i (stack_at code.kinds place)

pub returns-then-not-is_fine : goal.returns-then-not-is_fine
returns-then-not-is_fine c =
    let code = c.args.code.now in
    let table = c.deref-instr-items in
    one_fails (IsFineAt code) code.instructions.items c.loop-place.place _ (found table.result.now code.instructions.items c.loop-place.place _ table.ensures.value c.loop-place-test.true) (λ h. c.if-not-is_fine.ensures.1 h)

pub loop-place-preserved : goal.loop-place-preserved
loop-place-preserved c =
    let code = c.args.code.now in
    let table = c.deref-instr-items in
    one_more (IsFineAt code) code.instructions.items c.loop-place.place _ (found table.result.now code.instructions.items c.loop-place.place _ table.ensures.value c.loop-place-test.true) (c.if-not-is_fine.ensures.0 refl) c.loop-place.invariant

pub returns : goal.returns
returns c =
    let code = c.args.code.now in
    let table = c.deref-instr-items in
    each (IsFineAt code) table.result.now code.instructions.items c.loop-place.place table.ensures.value c.loop-place-test.false c.loop-place.invariant
