use Rattle.std.proofs.Common.{Some, sym, ap, subst, ◌≡◌, ◌∙◌}
use Rattle.std.specs.Prelude.{nat_eq}
use Rattle.std.specs.Map.{lookup}
use Rattle.number_map.proofs.map.index_if_there.Goals as goal

pub returns-in-Some : goal.returns-in-Some
returns-in-Some g c =
    let v = c.in-Some.field-0-1.now in
    let es = c.args.entries.now.entries in
    record {
      value = v;
      entry = sym c.in-Some.ensures.entry ∙ ap (λ n. Some (n, v)) c.if-key-number.true;
      found = subst (λ n. lookup (nat_eq n) es ≡ Some v) c.if-key-number.true c.in-Some.ensures.value;
    }
