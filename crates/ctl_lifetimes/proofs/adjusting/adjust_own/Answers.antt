use Rattle.std.proofs.Common.{◌∙◌, refl}
use Rattle.ctl_code.specs.Table.{parts_of}
use Rattle.ctl_lifetimes.proofs.Adjusted.{not_controlled}
use Rattle.ctl_lifetimes.proofs.adjusting.adjust_own.Goals as goal

pub returns-in_default : goal.returns-in_default
returns-in_default g c =
    let x = c.args.adjustment in
    not_controlled c.args.code.now c.args.engine.now _ (parts_of c.args.code.now x.record_type) x.creation x.record_type g.t x.failed c.handed.result c.requires.1.0 (λ is. c.in_default.not-Controlled (c.parts_of.ensures ∙ is)) refl refl c.handed.ensures refl refl
