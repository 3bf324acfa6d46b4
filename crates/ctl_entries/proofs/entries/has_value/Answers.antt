use Rattle.ctl_entries.proofs.Values.{test_none, test_some, text_none, text_some}
use Rattle.ctl_entries.proofs.entries.has_value.Goals as goal

pub returns-in-Some : goal.returns-in-Some
returns-in-Some c =
    let has = text_some c.value_of.result _ c.in-Some.value c.value_of.ensures c.in-Some.is in
    test_some _ c.in-Some.value.now c.args.wanted.now _ has c.eq.ensures

pub returns-in-None : goal.returns-in-None
returns-in-None c = test_none _ c.args.wanted.now (text_none c.value_of.result _ c.value_of.ensures c.in-None.is)
