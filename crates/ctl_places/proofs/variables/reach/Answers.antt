use Rattle.std.proofs.Common.{◌+◌, Some, sym, subst}
use Rattle.ctl_code.specs.declared.code.Instr.{Instr}
use Rattle.ctl_code.specs.Table.{by_instr}
use Rattle.ctl_frames.specs.declared.frame.Mode.TheVariants.{At}
use Rattle.ctl_engine.specs.Moves.{Makes, here_of}
use Rattle.ctl_engine.specs.Windows.{moded}
use Rattle.ctl_places.proofs.variables.reach.Goals as goal

pub returns-in-Fetch-clause-makes : goal.returns-in-Fetch-clause-makes
returns-in-Fetch-clause-makes g c =
    subst (λ (i : Instr). Makes c.args.code.now c.args.engine.now (moded c.fetch.new.engine (At (c.args.place + 1))) (by_instr c.args.code.now (Some i) g.s.operands (here_of c.args.place g.s))) (sym c.in-Fetch.is) (c.fetch.ensures.makes c.in-Fetch.ty)

pub returns-in-Store-clause-makes : goal.returns-in-Store-clause-makes
returns-in-Store-clause-makes g c =
    subst (λ (i : Instr). Makes c.args.code.now c.args.engine.now (moded c.store.new.engine (At (c.args.place + 1))) (by_instr c.args.code.now (Some i) g.s.operands (here_of c.args.place g.s))) (sym c.in-Store.is) (c.store.ensures.makes c.in-Store.ty)

pub returns-in-CopyBack-clause-makes : goal.returns-in-CopyBack-clause-makes
returns-in-CopyBack-clause-makes g c =
    subst (λ (i : Instr). Makes c.args.code.now c.args.engine.now (moded c.copy_back.new.engine (At (c.args.place + 1))) (by_instr c.args.code.now (Some i) g.s.operands (here_of c.args.place g.s))) (sym c.in-CopyBack.is) c.copy_back.ensures.makes
