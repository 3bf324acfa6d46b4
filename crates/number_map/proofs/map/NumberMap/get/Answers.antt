use Rattle.std.proofs.Common.{sym, ap, ◌∙◌}
use Rattle.std.specs.FinMap.{get}
use Rattle.number_map.specs.Newest.{all_of}
use Rattle.number_map.proofs.Tables.{get_is_lookup}
use Rattle.number_map.proofs.Apart.{own_apart, other_apart}
use Rattle.number_map.proofs.map.NumberMap.get.Goals as goal

pub returns-then-is_of : goal.returns-then-is_of
returns-then-is_of g c =
    let n = c.args.number in
    let a = c.self.inside.newest in
    let es = c.self.inside.entries.entries in
    c.value.ensures ∙ sym (own_apart a es n (sym c.is_of.ensures ∙ c.if-is_of.true)) ∙ sym (get_is_lookup (all_of a es) n) ∙ ap (λ m. get m.values n) c.self.view_is

pub returns-else-is_of : goal.returns-else-is_of
returns-else-is_of g c =
    let n = c.args.number in
    let a = c.self.inside.newest in
    let es = c.self.inside.entries.entries in
    c.value_among.ensures ∙ sym (other_apart a es n (sym c.is_of.ensures ∙ c.if-is_of.false)) ∙ sym (get_is_lookup (all_of a es) n) ∙ ap (λ m. get m.values n) c.self.view_is
