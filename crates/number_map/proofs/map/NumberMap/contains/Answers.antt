use Rattle.std.proofs.Common.{sym, ap, ◌∙◌}
use Rattle.std.specs.Prelude.{is_some}
use Rattle.std.specs.FinMap.{get}
use Rattle.number_map.specs.Newest.{all_of}
use Rattle.number_map.proofs.Tables.{contains_is_lookup, there}
use Rattle.number_map.proofs.Apart.{own_apart, own_some, other_apart}
use Rattle.number_map.proofs.map.NumberMap.contains.Goals as goal

pub returns-then-is_of : goal.returns-then-is_of
returns-then-is_of g c =
    let n = c.args.number in
    let a = c.self.inside.newest in
    let es = c.self.inside.entries.entries in
    let own = sym c.is_of.ensures ∙ c.if-is_of.true in
    c.if-is_of.true ∙ sym (own_some a n own) ∙ ap is_some (sym (own_apart a es n own)) ∙ sym (contains_is_lookup (all_of a es) n) ∙ ap (λ m. is_some (get m.values n)) c.self.view_is

pub returns-else-is_of : goal.returns-else-is_of
returns-else-is_of g c =
    let n = c.args.number in
    let a = c.self.inside.newest in
    let es = c.self.inside.entries.entries in
    let other = sym c.is_of.ensures ∙ c.if-is_of.false in
    c.is_some.ensures ∙ there es n c.index_of.result c.index_of.ensures.found c.index_of.ensures.absent ∙ ap is_some (sym (other_apart a es n other))
    ∙ sym (contains_is_lookup (all_of a es) n) ∙ ap (λ m. is_some (get m.values n)) c.self.view_is
