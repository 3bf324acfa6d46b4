use Rattle.std.proofs.Common.{rules, ◌∙◌, ◌+◌, ℕ, Some, ap, cond}
use Rattle.ctl_groups.specs.Groups.{count_of, is_same}
use Rattle.ctl_groups.proofs.Grouped.{count_changed, value}
use Rattle.ctl_groups.proofs.groups.raise.Goals as goal

pub returns-in-Some : goal.returns-in-Some
returns-in-Some c = λ g.
    let h = c.args.group in
    let old = c.args.counts.now in
    let count = c.in-Some.count.now in
    count_changed (Some (count + 1)) h old (c.get_mut.follows.lender (count + 1)) ((c.get_mut.follows.holds (count + 1)).3 (search rules)) g
    ∙ ap (λ (n : ℕ). cond (is_same h g) (Some (n + 1)) (count_of g old)) (ap value c.in-Some.ensures.value)
