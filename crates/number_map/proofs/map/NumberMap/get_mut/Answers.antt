use Rattle.std.proofs.Common.{inr, sym, ap, ◌∙◌}
use Rattle.std.specs.Prelude.{length}
use Rattle.std.specs.Cmp.{nat_eq_equiv}
use Rattle.std.specs.FinMap.{get, insert}
use Rattle.std.specs.HashMap.{spare}
use Rattle.indexmap.specs.IndexMap.{with_value_at}
use Rattle.indexmap.proofs.CallerLemmas.{index_map_len-with_value_at, updates-with_value_at}
use Rattle.number_map.specs.Newest.{all_of, with_newest}
use Rattle.number_map.specs.Table.{Table, with_value}
use Rattle.number_map.proofs.Tables.{map_of, get_is_lookup, same_table, lent, value_at}
use Rattle.number_map.proofs.Apart.{alike_length, apart_from_other, other_apart, own_apart, put_other, put_own, same_length}
use Rattle.number_map.proofs.map.NumberMap.get_mut.Goals as goal

pub invariant_of-self-lent-in-Some : goal.invariant_of-self-lent-in-Some
invariant_of-self-lent-in-Some g c =
    let n = c.args.number in
    let i = c.in-Some.index in
    let m = c.self.inside.entries in
    let at = c.in-Some.ensures.found in
    let other = sym c.is_of.ensures ∙ c.if-is_of.false in
    λ r. (
      λ w. apart_from_other c.self.inside.newest m.entries (with_value_at m i w).entries n w other (updates-with_value_at m i w nat_eq_equiv c.get_index_mut.ensures.unique n at.value at.entry).0 c.self.invariant,
      c.self.invariant,
    )

-- the entry apart is lent
pub returns-then-is_of : goal.returns-then-is_of
returns-then-is_of g c =
    let n = c.args.number in
    let a = c.self.inside.newest in
    let m = c.self.inside.entries in
    let es = m.entries in
    let own = sym c.is_of.ensures ∙ c.if-is_of.true in
    let after : g.row.V.Denot → Table g.row.V.Denot = λ w. record { values = map_of (all_of (with_newest a w) es); room = spare m; size = length (all_of (with_newest a w) es) } in
    let before : Table g.row.V.Denot = record { values = map_of (all_of a es); room = spare m; size = length (all_of a es) } in (
      lent c.value_mut.result after (with_value c.args.self.now n) before c.args.self.now
          (λ here w. same_table (after w) (with_value c.args.self.now n w) (put_own a es n w own ∙ ap (λ t. insert t.values n w) c.self.view_is)
          (ap (λ t. t.room) c.self.view_is) (same_length a es w ∙ ap (λ t. t.size) c.self.view_is))
          (λ none. c.self.view_is),
      record { writes_back = tt; value = c.value_mut.ensures.value ∙ sym (own_apart a es n own) ∙ sym (get_is_lookup (all_of a es) n) ∙ ap (λ t. get t.values n) c.self.view_is },
    )

-- the entry at its index is lent
pub returns-in-Some : goal.returns-in-Some
returns-in-Some g c =
    let n = c.args.number in
    let i = c.in-Some.index in
    let a = c.self.inside.newest in
    let m = c.self.inside.entries in
    let es = m.entries in
    let at = c.in-Some.ensures.found in
    let other = sym c.is_of.ensures ∙ c.if-is_of.false in
    let after : g.row.V.Denot → Table g.row.V.Denot = λ w. record { values = map_of (all_of a (with_value_at m i w).entries); room = spare m; size = length (all_of a (with_value_at m i w).entries) } in
    let before : Table g.row.V.Denot = record { values = map_of (all_of a es); room = spare m; size = length (all_of a es) } in (
      lent c.get_index_mut.result after (with_value c.args.self.now n) before c.args.self.now
          (λ here w. same_table (after w) (with_value c.args.self.now n w)
          (put_other a es (with_value_at m i w).entries n w other (updates-with_value_at m i w nat_eq_equiv c.get_index_mut.ensures.unique n at.value at.entry).0 ∙ ap (λ t. insert t.values n w) c.self.view_is)
          (ap (λ t. t.room) c.self.view_is) (alike_length a es (with_value_at m i w).entries (index_map_len-with_value_at m i w) ∙ ap (λ t. t.size) c.self.view_is))
          (λ none. c.self.view_is),
      record { writes_back = tt; value = c.get_index_mut.ensures.value ∙ value_at es n i at.value at.entry ∙ sym at.found ∙ sym (other_apart a es n other) ∙ sym (get_is_lookup (all_of a es) n) ∙ ap (λ t. get t.values n) c.self.view_is },
    )

-- there is none
pub returns-in-None : goal.returns-in-None
returns-in-None g c =
    let n = c.args.number in
    let a = c.self.inside.newest in
    let es = c.self.inside.entries.entries in
    let other = sym c.is_of.ensures ∙ c.if-is_of.false in
    (ap (λ t. inr t) c.self.view_is, record { writes_back = tt; value = sym c.in-None.ensures.absent ∙ sym (other_apart a es n other) ∙ sym (get_is_lookup (all_of a es) n) ∙ ap (λ t. get t.values n) c.self.view_is })
