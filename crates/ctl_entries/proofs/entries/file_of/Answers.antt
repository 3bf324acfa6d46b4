use Rattle.std.proofs.Common.{◌≡◌, IfOk, string_bytes, subst}
use Rattle.ctl_entries.proofs.Values.{unwrap_or-text}
use Rattle.ctl_entries.proofs.entries.file_of.Goals as goal

pub returns : goal.returns
returns c =
    let text = unwrap_or-text c.value_of.result _ c.unwrap_or.result _ c.value_of.ensures c.unwrap_or.ensures in
    subst (λ bytes. IfOk c.to_string.result (λ file. string_bytes file ≡ bytes)) text c.to_string.ensures.ok
