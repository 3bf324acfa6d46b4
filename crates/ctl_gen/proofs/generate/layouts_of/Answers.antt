use Rattle.std.proofs.Common.{◌≡◌, ◌+◌, List, [], ◌∷◌, ◌++◌, drop, sym, ap, ◌∙◌, subst, append_assoc, append-nil}
use Rattle.std.proofs.lemmas.List.{drop_all}
use Rattle.ctl_code.specs.declared.code.Layout.{Layout}
use Rattle.ctl_layout.specs.Layout.{AreLayouts, IsLayout}
use Rattle.ctl_layout.proofs.Turns.{turn_of}
use Rattle.ctl_gen.proofs.generate.layouts_of.Goals as goal

pub loop-entry-preserved : goal.loop-entry-preserved
loop-entry-preserved c = λ xs more.
    let rs = c.args.records.now in
    let all = c.loop-entry.all.items in
    let i = c.loop-entry.entry-index in
    let r = c.entry-item.result in
    let x = c.in_ok-layout.layout in
    let pushed = c.in_ok-push.ensures.items in
    let one : IsLayout all r x = subst (λ ys. IsLayout ys r x) c.as_slice.ensures.value c.in_ok-layout.ensures in
    let rest : AreLayouts (all ++ x ∷ []) xs (drop (i + 1) rs) = subst (λ ys. AreLayouts ys xs (drop (i + 1) rs)) pushed more in
    subst (λ ys. AreLayouts [] ys rs) (sym (append_assoc all (x ∷ []) xs) ∙ ap (λ (ys : List Layout). ys ++ xs) (sym pushed))
    (c.loop-entry.invariant (x ∷ xs) (subst (λ zs. AreLayouts all (x ∷ xs) zs) (turn_of (λ zs. zs) rs i r c.loop-entry-test.true c.entry-item.is) (one, rest)))

pub returns : goal.returns
returns c =
    let rs = c.args.records.now in
    let all = c.loop-entry.all.items in
    let end : drop c.loop-entry.entry-index rs ≡ [] = drop_all c.loop-entry.entry-index rs c.loop-entry-test.false in
    subst (λ ys. AreLayouts [] ys rs) (append-nil all) (c.loop-entry.invariant [] (subst (AreLayouts all []) (sym end) tt))
