use Rattle.std.proofs.Common.{ℕ, sym, ap, ◌∙◌, length}
use Rattle.ctl_program.specs.declared.statement.Master.{out-Master}
use Rattle.ctl_program.specs.declared.program.Subprogram.{Subprogram}
use Rattle.ctl_code.specs.declared.code.Entry.{Entry}
use Rattle.ctl_layout.specs.Layout.{MasterCode}
use Rattle.ctl_layout.proofs.StatementLayers.{master_is}
use Rattle.ctl_gen.proofs.generate.entry_of.Goals as goal

abbrev entry : Subprogram → ℕ → ℕ → Entry
entry s place n = record { kind = s.kind; level = s.level; slots = n; place = place }

pub returns : goal.returns
returns c =
    let s = c.args.subprogram.now in
    ap (λ p. entry s p (out-Master s.body).slots) c.place.ensures
    ∙ sym (ap (λ (m : MasterCode). entry s (length c.args.emitter.now.instructions) m.slots) (master_is s.body))
