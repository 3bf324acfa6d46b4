use Rattle.std.proofs.Common.{Some, sym, ap, ◌∙◌}
use Rattle.number_map.proofs.Tables.{key_is}
use Rattle.number_map.proofs.map.hashed_index.Goals as goal

pub returns-clause-found : goal.returns-clause-found
returns-clause-found g c =
    let v = c.in_ok-index.field-0-2.now in
    let found = c.in_ok-index.ensures in
    record {
      value = v;
      entry = found.entry ∙ ap (λ n. Some (n, v)) (key_is c.args.entries.now.entries c.args.number c.in_ok-index.field-0-1.now (sym found.key));
      found = sym found.value;
    }
