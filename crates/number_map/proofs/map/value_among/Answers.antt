use Rattle.std.proofs.Common.{sym, ap, ◌∙◌}
use Rattle.std.specs.Prelude.{slice_get}
use Rattle.std.specs.Option.{option_copied}
use Rattle.number_map.proofs.Tables.{same_value}
use Rattle.number_map.proofs.map.value_among.Goals as goal

-- the entry stands at its index
pub returns : goal.returns
returns g c =
    let es = c.args.entries.now.entries in
    let at = c.in_ok-index.ensures.found in
    same_value (slice_get es c.in_ok-index.index) c.args.number at.value c.in-Some.field-0-0.now c.in-Some.value.now at.entry c.in-Some.ensures.entry ∙ sym at.found

-- there is none
pub returns-in_err-index : goal.returns-in_err-index
returns-in_err-index g c = ap option_copied c.from_residual.ensures ∙ sym c.in_err-index.ensures.absent
