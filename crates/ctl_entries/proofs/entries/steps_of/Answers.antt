use Rattle.std.proofs.Common.{subst, sym, refl}
use Rattle.ctl_entries.specs.Entries.{IsSpelled}
use Rattle.ctl_entries.proofs.Values.{limit_none, limit_some, parsed_spelled, text_none, text_some}
use Rattle.ctl_entries.proofs.entries.steps_of.Goals as goal

pub returns-in-Some : goal.returns-in-Some
returns-in-Some c =
    let text = c.in-Some.text in
    let has = text_some c.value_of.result _ text c.value_of.ensures c.in-Some.is in
    let spelled = parsed_spelled text.now c.parse.result 10000000 c.parse.ensures.value.0 in
    limit_some _ text.now c.unwrap_or.result 10000000 has (subst (IsSpelled text.now) (sym c.unwrap_or.ensures) spelled)

pub returns-in-None : goal.returns-in-None
returns-in-None c = limit_none _ 10000000 10000000 (text_none c.value_of.result _ c.value_of.ensures c.in-None.is) refl
