use Rattle.std.proofs.Common.{◌≡◌, ◌<◌, true}
use Rattle.pool_area.specs.Subpools.{settled, is_last_dead}
use Rattle.pool_area.proofs.SettledLemmas.{weight}
use Rattle.pool_area.proofs.mark_area.MarkArea.drop_dead.Given as goal

abbrev pub invariant-dead : goal.invariant-dead
invariant-dead g l =
    record {
      settles : settled l.number l.self ≡ settled l.number l.initial.self;
      fresh : is_last_dead l.self ≡ true → l.self.given < l.number;
    }

abbrev pub decreases-dead : goal.decreases-dead
decreases-dead g l = weight l.self
