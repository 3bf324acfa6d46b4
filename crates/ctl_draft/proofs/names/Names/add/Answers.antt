use Rattle.std.proofs.Common.{◌≡◌, ℕ, List, ◌∷◌, [], ◌++◌, sym, ap, subst, ◌∙◌}
use Rattle.std.specs.Prelude.{not}
use Rattle.std.specs.Str.{str_to_ascii_lowercase}
use Rattle.ctl_draft.specs.Names as spec
use Rattle.ctl_draft.proofs.Named.{among_by_key, keyed_more, not_twice}
use Rattle.ctl_draft.proofs.names.Names.add.Goals as goal

pub invariant_of-self-2 : goal.invariant_of-self-2
invariant_of-self-2 c =
    let names = c.self.inside.names.items in
    let name = c.args.name.now in
    let copy : c.in_ok-copy.copy ≡ name = c.in_ok-copy.ensures ∙ c.as_bytes.ensures in
    let key : c.in_ok-key.key.items ≡ str_to_ascii_lowercase name = c.in_ok-key.ensures.ok ∙ ap str_to_ascii_lowercase c.as_bytes-2.ensures in
    let items : c.push_reserved.new.self.items ≡ names ++ name ∷ [] =
    c.push_reserved.ensures.items ∙ ap (λ n. c.reserve.new.self.items ++ n ∷ []) copy ∙ ap (λ ns. ns ++ name ∷ []) c.reserve.ensures.items in
    subst (λ (ns : List (List ℕ)). spec.IsKeyed ns (spec.has_key c.insert.new.self)) (sym items)
    (keyed_more names name c.in_ok-key.key.items c.self.inside.keys c.insert.new.self key c.self.invariant c.in_ok-is_new.ensures.updates)

pub returns-clause-among : goal.returns-clause-among
returns-clause-among c =
    let name = c.args.name.now in
    let has = spec.has_key c.self.inside.keys in
    let key : c.in_ok-key.key.items ≡ str_to_ascii_lowercase name = c.in_ok-key.ensures.ok ∙ ap str_to_ascii_lowercase c.as_bytes-2.ensures in
    ap not c.in_ok-is_new.ensures.added ∙ not_twice (has c.in_ok-key.key.items) ∙ ap has key ∙ c.self.invariant (str_to_ascii_lowercase name)
    ∙ sym (among_by_key name c.self.inside.names.items) ∙ ap (spec.is_name_among name) c.self.view_is
