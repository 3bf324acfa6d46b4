use Rattle.std.proofs.Common.{◌≡◌, ◌≢◌, ◌+◌, ◌++◌, ◌∷◌, ◌∙◌, [], List, Some, ap, arith, refl, reverse, subst, sym}
use Rattle.std.specs.Prelude.{slice_get}
use Rattle.ctl_meaning.specs.Finalization.{Spot}
use Rattle.ctl_meaning.specs.Objects.{object_in}
use Rattle.ctl_engine.specs.declared.engine.Engine.{Engine}
use Rattle.ctl_frames.specs.declared.frame.Mode.TheVariants.{At}
use Rattle.ctl_frames.specs.Masters.{first_window}
use Rattle.ctl_engine.specs.Shows.{kept, with_spots}
use Rattle.ctl_places.proofs.Dereferenced.{access_within, designated_gone, designated_makes, null_makes}
use Rattle.ctl_engine.proofs.Owned.{none_there, some_there}
use Rattle.ctl_places.proofs.dereferencing.dereference.Goals as goal

pub take-object-requires : goal.take-object-requires
take-object-requires g c = access_within c.args.code.now c.args.engine.now c.args.place c.requires.0.0 c.args.at g.s c.requires.0.1

pub returns-then-object-eq0-clause-passed : goal.returns-then-object-eq0-clause-passed
returns-then-object-eq0-clause-passed g c = λ t.
    let old = c.args.engine.now in
    let null : c.take-object.result ≡ 0 = omega (arith, c.if-object-eq0.true) in
    let read = subst (λ n. slice_get old.cells.items (first_window (reverse old.masters.items) + c.args.at) ≡ Some n) null c.take-object.ensures in
    (c.go_on.ensures.mode, null_makes c.args.code.now old c.go_on.new.self c.args.place c.requires.0.0 c.args.at g.s c.requires.0.1 read c.go_on.ensures t)

pub returns-then-not-exists-clause-gone : goal.returns-then-not-exists-clause-gone
returns-then-not-exists-clause-gone g c = λ t new goes.
    let old = c.args.engine.now in
    let x = c.take-object.result in
    let some : x ≢ 0 = λ z. omega (arith, z, c.if-object-eq0.false) in
    let none = none_there (object_in x old.stock.objects) (sym c.exists.ensures ∙ c.if-not-exists.true) in
    designated_gone c.args.code.now old new c.args.place c.requires.0.0 c.args.at x g.s c.requires.0.1 c.take-object.ensures some none goes t

pub returns-clause-passed : goal.returns-clause-passed
returns-clause-passed g c = λ t.
    let old = c.args.engine.now in
    let x = c.take-object.result in
    let some : x ≢ 0 = λ z. omega (arith, z, c.if-object-eq0.false) in
    let there = some_there (object_in x old.stock.objects) (sym c.exists.ensures ∙ c.if-not-exists.false) in
    let new : Engine = record old { mode = At (c.args.place + 1); spots = c.push_reserved.new.self } in (
      refl,
      designated_makes c.args.code.now old new c.args.place c.requires.0.0 c.args.at x g.s there.0 c.requires.0.1 c.take-object.ensures some there.1 refl
          (ap (λ (l : List Spot). with_spots (kept old) l) (c.push_reserved.ensures.items ∙ (ap (λ (l : List Spot). l ++ c.whole.result ∷ []) c.in_ok-reserve.ensures.items ∙ ap (λ (s : Spot). old.spots.items ++ s ∷ []) c.whole.ensures)))
          refl refl t,
    )
