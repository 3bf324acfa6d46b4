use Rattle.std.proofs.Common.{◌∙◌, ap, arith, take, List, ℕ}
use Rattle.ctl_frames.specs.Masters.{display_from}
use Rattle.ctl_frames.proofs.Links.{display_of_all}
use Rattle.ctl_engine.proofs.engine.Engine.around.Goals as goal

pub around_from-requires : goal.around_from-requires
around_from-requires g c = let count = c.count_masters.ensures.count in (c.requires, omega (arith, count))

pub returns-clause-display : goal.returns-clause-display
returns-clause-display g c =
    c.around_from.ensures.display
    ∙ (ap (λ n. take c.args.level (display_from n g.hs)) c.count_masters.ensures.count
    ∙ ap (λ (l : List ℕ). take c.args.level l) (display_of_all c.args.self.now.masters.items g.hs c.requires))
