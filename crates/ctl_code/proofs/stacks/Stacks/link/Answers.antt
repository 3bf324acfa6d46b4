use Rattle.std.proofs.Common.{◌≡◌, ◌+◌, ◌≤◌, length, Some, arith}
use Rattle.std.specs.Prelude.{slice_get}
use Rattle.std.proofs.lemmas.Grind.{common_steps}
use Rattle.std.proofs.lemmas.Option.{gets}
use Rattle.ctl_code.proofs.Links.{measured, no_link, top_of_link}
use Rattle.ctl_code.proofs.stacks.Stacks.link.Goals as goal

pub returns-in_err-link-clause-top : goal.returns-in_err-link-clause-top
returns-in_err-link-clause-top c =
    let links = c.self.inside.links.items in
    let i = c.in_ok-checked_sub.field-0 in
    let next : c.args.stack ≡ i + 1 = grind (arith, common_steps) in
    let past : length links ≤ i = grind (arith, common_steps, gets) in
    rw (c.from_residual-in_err-link.ensures, ← c.self.view_is) (no_link links i c.args.stack next past)

pub returns-clause-top : goal.returns-clause-top
returns-clause-top c =
    let links = c.self.inside.links.items in
    let i = c.in_ok-checked_sub.field-0 in
    let next : c.args.stack ≡ i + 1 = grind (arith, common_steps) in
    let got : slice_get links i ≡ Some c.in_ok-link.link.now = grind (arith, common_steps, gets) in
    rw (← c.self.view_is) (top_of_link links i c.args.stack c.in_ok-link.link.now c.self.invariant.0 next got)

pub returns-clause-below : goal.returns-clause-below
returns-clause-below c =
    let links = c.self.inside.links.items in
    let i = c.in_ok-checked_sub.field-0 in
    let next : c.args.stack ≡ i + 1 = grind (arith, common_steps) in
    let got : slice_get links i ≡ Some c.in_ok-link.link.now = grind (arith, common_steps, gets) in
    omega (arith, c.self.invariant.0 i c.in_ok-link.link.now got)

pub returns-clause-measures : goal.returns-clause-measures
returns-clause-measures c =
    let links = c.self.inside.links.items in
    let i = c.in_ok-checked_sub.field-0 in
    let next : c.args.stack ≡ i + 1 = grind (arith, common_steps) in
    let got : slice_get links i ≡ Some c.in_ok-link.link.now = grind (arith, common_steps, gets) in
    rw (← c.self.view_is) (measured links i c.args.stack c.in_ok-link.link.now c.self.invariant.0 c.self.invariant.1 next got)
