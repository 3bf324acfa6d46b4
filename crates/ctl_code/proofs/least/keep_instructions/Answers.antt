use Rattle.std.proofs.Common.{◌≡◌, ◌+◌, ℕ, length, sym, subst, ap, ◌∙◌, arith}
use Rattle.ctl_code.specs.Demands.{IsFineAt, place_of, with_counts}
use Rattle.ctl_code.specs.Homes.{Raises}
use Rattle.ctl_code.proofs.Raising.{IsFineBy, UpTo, instructions_raised, one_more_up_to}
use Rattle.ctl_code.proofs.least.keep_instructions.Goals as goal

pub loop-number-preserved : goal.loop-number-preserved
loop-number-preserved c =
    let code = c.args.code.now in
    let b = c.args.from_last in
    let n = c.loop-number.number in
    let mid = c.loop-number.homes in
    let new = c.keep_instruction.new.homes in
    let place = c.place_of.ensures ∙ ap (λ (m : ℕ). place_of b m n) (c.len-count.ensures ∙ code.instructions.ok.0) in
    let one = subst (λ p. Raises (λ counts. IsFineAt (with_counts counts code) p) mid new c.in_ok-more.more) place c.in_ok-more.ensures in
    let R = IsFineBy code b in
    subst (λ r. Raises (UpTo R (n + 1)) c.args.homes.now new r) (sym c.either-raised.ensures)
    (one_more_up_to R n c.args.homes.now mid new c.loop-number.raised c.in_ok-more.more c.loop-number.invariant one)

pub returns : goal.returns
returns c =
    let code = c.args.code.now in
    let b = c.args.from_last in
    let many = c.len-count.ensures ∙ code.instructions.ok.0 in
    let past = c.loop-number-test.false in
    let most = c.loop-number.auto.number-end in
    let all : c.loop-number.number ≡ length code.instructions.items = omega (arith, many, past, most) in
    instructions_raised code b c.args.homes.now c.loop-number.homes c.loop-number.raised (subst (λ n. Raises (UpTo (IsFineBy code b) n) c.args.homes.now c.loop-number.homes c.loop-number.raised) all c.loop-number.invariant)
