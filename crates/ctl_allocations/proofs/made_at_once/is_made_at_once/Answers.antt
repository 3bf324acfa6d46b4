use Rattle.std.proofs.Common.{◌≡◌, ◌∙◌, ap, sym}
use Rattle.ctl_code.specs.declared.code.Parts.{Parts}
use Rattle.ctl_code.specs.declared.code.Parts.TheVariants as PartsOf
use Rattle.ctl_code.specs.Table.{begun_of, is_made_at_once, parts_of}
use Rattle.ctl_lifetimes.proofs.MadeAtOnce.{never_at_once, plain_at_once}
use Rattle.ctl_allocations.proofs.made_at_once.is_made_at_once.Goals as goal

pub returns-in-Plain : goal.returns-in-Plain
returns-in-Plain c =
    let left = begun_of c.args.code.now c.args.record in
    plain_at_once left c.count_begun.result c.count_begun.ensures ∙ ap (λ (p : Parts). is_made_at_once p left) (sym (sym c.parts_of.ensures ∙ c.in-Plain.is))

pub returns-in_default : goal.returns-in_default
returns-in_default c =
    let code = c.args.code.now in
    sym (never_at_once (parts_of code c.args.record) (begun_of code c.args.record) (λ (plain : parts_of code c.args.record ≡ PartsOf.Plain). c.in_default.not-Plain (c.parts_of.ensures ∙ plain)))
