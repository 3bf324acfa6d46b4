use Rattle.std.proofs.Common.{◌∙◌, Option, Some, ap, subst, sym}
use Rattle.ctl_code.specs.States.{Word}
use Rattle.ctl_frames.specs.declared.frame.Formal.{Formal}
use Rattle.ctl_frames.specs.declared.frame.Holder.{Holder}
use Rattle.ctl_frames.specs.Holders.{IsThere, found_in, held_by}
use Rattle.ctl_places.specs.Parts.{part_at}
use Rattle.ctl_places.proofs.components.read_held.Goals as goal

pub read_formal-requires : goal.read_formal-requires
read_formal-requires g c = (subst (λ (h : Holder). IsThere c.args.engine.now.formals.items h) c.in-Bound.is c.in_ok-object.ensures.there, c.requires)

pub returns-in-Bound : goal.returns-in-Bound
returns-in-Bound g c =
    let formals = c.args.engine.now.formals.items in
    let read = c.read_formal.ensures in
    let held = sym (ap (λ (o : Option Formal). held_by o) read.1) ∙ (sym (ap (λ (h : Holder). found_in formals (Some h)) c.in-Bound.is) ∙ c.in_ok-object.ensures.part) in
    read.2 ∙ ap (λ (x : Option Word). part_at c.args.offset x g.s.world) held
