use Rattle.std.proofs.Common.{◌≡◌, ◌++◌, ◌+◌, ◌<◌, ◌≤◌, [], ◌∷◌, drop, get_or, length, sym, ap, ◌∙◌, subst, append-nil}
use Rattle.std.proofs.lemmas.List.{drop_all}
use Rattle.ctl_layout.specs.Layout.{defaults_code, places_from}
use Rattle.ctl_layout.proofs.Turns.{turn_of}
use Rattle.ctl_emitter.specs.Emitted.{appended}
use Rattle.ctl_emit.proofs.EmittedDefaults.{bare_behind, next_default, next_place, none_appended}
use Rattle.ctl_emit.proofs.emit_defaults.defaults.Goals as goal

pub loop-component-preserved : goal.loop-component-preserved
loop-component-preserved c =
    let level = c.args.entry.now.level in
    let n = c.args.number in
    let cs = c.args.entry.now.own in
    let i = c.loop-component.component-index in
    let x = c.component-item.result in
    let e0 = c.loop-component.emitter in
    let e1 = c.default.new.emitter in
    let done = c.loop-component.places.items in
    let same = c.as_slice-component-items.ensures in
    let within = subst (λ xs. i < length xs) same c.loop-component-test.true in
    let item = subst (λ xs. x ≡ get_or xs i x) same c.component-item.is in
    let more = drop (i + 1) cs in
    let put = c.in_ok-push.ensures.items ∙ ap (λ p. done ++ p ∷ []) c.place.ensures in
    let emitted = c.in_ok-default.ensures in (
      next_default level n x more e0 e1 emitted
          ∙ turn_of (λ xs. appended (defaults_code level n xs) [] [] e0) cs i x within item
          ∙ c.loop-component.invariant.0,
      ap (λ ps. ps ++ places_from level n (length e1.instructions) more) put
          ∙ next_place level n x more done e0 e1 emitted
          ∙ turn_of (λ xs. done ++ places_from level n (length e0.instructions) xs) cs i x within item
          ∙ c.loop-component.invariant.1,
      bare_behind level n x e0 e1 emitted,
    )

pub returns-clause-emitted : goal.returns-clause-emitted
returns-clause-emitted c =
    let level = c.args.entry.now.level in
    let n = c.args.number in
    let cs = c.args.entry.now.own in
    let i = c.loop-component.component-index in
    let e = c.loop-component.emitter in
    let end = sym (drop_all i cs (subst (λ xs. length xs ≤ i) c.as_slice-component-items.ensures c.loop-component-test.false)) in
    none_appended e c.loop-component.invariant.2 ∙ ap (λ xs. appended (defaults_code level n xs) [] [] e) end ∙ c.loop-component.invariant.0

pub returns-clause-places : goal.returns-clause-places
returns-clause-places c =
    let level = c.args.entry.now.level in
    let n = c.args.number in
    let cs = c.args.entry.now.own in
    let i = c.loop-component.component-index in
    let e = c.loop-component.emitter in
    let done = c.loop-component.places.items in
    let end = sym (drop_all i cs (subst (λ xs. length xs ≤ i) c.as_slice-component-items.ensures c.loop-component-test.false)) in
    sym (append-nil done) ∙ ap (λ xs. done ++ places_from level n (length e.instructions) xs) end ∙ c.loop-component.invariant.1
