use Rattle.std.proofs.Common.{◌≡◌, ◌∙◌, subst, sym}
use Rattle.ctl_tree.specs.declared.event.Owner.TheVariants as OwnerOf
use Rattle.ctl_code.specs.declared.code.Parts.TheVariants as PartsOf
use Rattle.ctl_code.specs.States as T
use Rattle.ctl_code.specs.Table.{adjust_new, newborn, parts_of}
use Rattle.ctl_engine.specs.Moves.{Makes}
use Rattle.ctl_lifetimes.proofs.CopyBegun.{declared_awaits, plain_lives}
use Rattle.ctl_lifetimes.proofs.MadeAtOnce.{declared_is_newest}
use Rattle.ctl_allocations.proofs.declare.adjust_new.Goals as goal

pub become_layer-requires : goal.become_layer-requires
become_layer-requires g c = declared_is_newest c.args.code.now c.args.engine.now c.args.record c.args.place g.t c.requires.0

pub returns-in-Plain : goal.returns-in-Plain
returns-in-Plain g c = plain_lives c.args.code.now c.args.engine.now c.become_layer.new.engine c.args.record c.args.place (OwnerOf.Master c.args.master) g.t c.requires.0 (sym c.parts_of.ensures ∙ c.in-Plain.is) c.become_layer.ensures

pub adjust_object-requires : goal.adjust_object-requires
adjust_object-requires g c =
    let code = c.args.code.now in
    let old = c.args.engine.now in (
      declared_awaits code old c.args.record c.args.place c.count_noted-first.result g.t c.requires.0 c.count_noted-first.ensures,
      (sym c.requires.0.number, ((λ (plain : parts_of code c.args.record ≡ PartsOf.Plain). c.in_default.not-Plain (c.parts_of.ensures ∙ plain)), c.requires.1)),
    )

pub returns : goal.returns
returns g c =
    let code = c.args.code.now in
    subst (λ n. Makes code c.args.engine.now c.adjust_object.new.engine (adjust_new code (parts_of code c.args.record) T.ByDeclaration (newborn n c.args.record (OwnerOf.Master c.args.master)) g.t.point g.t.control g.t.world)) c.requires.0.number c.adjust_object.ensures
