use Rattle.std.proofs.Common.{◌∙◌, ap, sym, [], ◌∷◌, ◌++◌, length, drop, append-nil}
use Rattle.std.specs.Prelude.{reverse}
use Rattle.std.proofs.lemmas.List.{reverse-append}
use Rattle.ctl_types.specs.Elaboration as spec
use Rattle.ctl_types.proofs.Aligned.{types_turn, types_end, types_none}
use Rattle.ctl_types.proofs.programs.record_types_of.Goals as goal

pub returns-in_default-record_type_at : goal.returns-in_default-record_type_at
returns-in_default-record_type_at c =
    let rs = c.args.entries.now in
    let ss = c.args.states.now in
    let ts = c.loop-own.types in
    let own = c.in-Some.own in
    let behind = reverse c.pop.new.self in
    let none = sym (rw c.len.ensures at c.record_type_at.ensures) ∙ c.in_default-record_type_at.is in
    sym (append-nil ts)
    ∙ ap (λ us. ts ++ us) (sym (types_end rs ss (length ts) own behind none))
    ∙ ap (λ css. ts ++ spec.record_types (drop (length ts) rs) (drop (length ts) ss) css) (sym (ap reverse c.in-Some.ensures ∙ reverse-append c.pop.new.self (own ∷ [])))
    ∙ c.loop-own.invariant

pub loop-own-preserved : goal.loop-own-preserved
loop-own-preserved c =
    let rs = c.args.entries.now in
    let ss = c.args.states.now in
    let ts = c.loop-own.types in
    let own = c.in-Some.own in
    let behind = reverse c.pop.new.self in
    let one = sym (rw c.len.ensures at c.record_type_at.ensures) ∙ c.in-Some-record_type_at.is in
    ap (λ us. us ++ spec.record_types (drop (length us) rs) (drop (length us) ss) behind) c.in_ok-push.ensures.ok
    ∙ types_turn rs ss ts c.in-Some-record_type_at.ty own behind one
    ∙ ap (λ css. ts ++ spec.record_types (drop (length ts) rs) (drop (length ts) ss) css) (sym (ap reverse c.in-Some.ensures ∙ reverse-append c.pop.new.self (own ∷ [])))
    ∙ c.loop-own.invariant

pub returns : goal.returns
returns c =
    let rs = c.args.entries.now in
    let ss = c.args.states.now in
    let ts = c.loop-own.types in
    sym (append-nil ts)
    ∙ ap (λ us. ts ++ us) (sym (types_none (drop (length ts) rs) (drop (length ts) ss)))
    ∙ ap (λ css. ts ++ spec.record_types (drop (length ts) rs) (drop (length ts) ss) css) (sym (ap reverse c.in_default.ensures.0))
    ∙ c.loop-own.invariant
