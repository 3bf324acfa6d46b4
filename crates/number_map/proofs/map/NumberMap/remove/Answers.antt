use Rattle.std.proofs.Common.{sym, ap, ◌∙◌}
use Rattle.std.specs.FinMap.{get, remove}
use Rattle.number_map.specs.Newest.{all_of}
use Rattle.number_map.proofs.Tables.{map_of, get_is_lookup}
use Rattle.number_map.proofs.Apart.{own_apart, other_apart, take_own, drop_other}
use Rattle.number_map.proofs.map.NumberMap.remove.Goals as goal

pub returns-then-is_of-clause-value : goal.returns-then-is_of-clause-value
returns-then-is_of-clause-value g c =
    let n = c.args.number in
    let a = c.self.inside.newest in
    let es = c.self.inside.entries.entries in
    c.take_value.ensures.value ∙ sym (own_apart a es n (sym c.is_of.ensures ∙ c.if-is_of.true)) ∙ sym (get_is_lookup (all_of a es) n) ∙ ap (λ m. get m.values n) c.self.view_is

pub returns-then-is_of-clause-values : goal.returns-then-is_of-clause-values
returns-then-is_of-clause-values g c =
    let n = c.args.number in
    let a = c.self.inside.newest in
    let es = c.self.inside.entries.entries in
    ap (λ b. map_of (all_of b es)) c.take_value.ensures.left ∙ take_own a es n (sym c.is_of.ensures ∙ c.if-is_of.true) c.self.invariant ∙ ap (λ m. remove m.values n) c.self.view_is

pub returns-else-is_of-clause-value : goal.returns-else-is_of-clause-value
returns-else-is_of-clause-value g c =
    let n = c.args.number in
    let a = c.self.inside.newest in
    let es = c.self.inside.entries.entries in
    c.swap_remove.ensures.value ∙ sym (other_apart a es n (sym c.is_of.ensures ∙ c.if-is_of.false)) ∙ sym (get_is_lookup (all_of a es) n) ∙ ap (λ m. get m.values n) c.self.view_is

pub returns-else-is_of-clause-values : goal.returns-else-is_of-clause-values
returns-else-is_of-clause-values g c =
    let n = c.args.number in
    let a = c.self.inside.newest in
    let es = c.self.inside.entries.entries in
    drop_other a es c.swap_remove.new.self.entries n (sym c.is_of.ensures ∙ c.if-is_of.false) c.swap_remove.ensures.updates.0 ∙ ap (λ m. remove m.values n) c.self.view_is
