-- When two ways to answer choices give the same run.
use Rattle.std.specs.Prelude.{◌≡◌, ℕ, length, None}
use Rattle.ctl_meaning.specs.World.{Log}
use Rattle.ctl_meaning.specs.Choice.{Ask, AreAnswers, accepted}
use Rattle.ctl_meaning.specs.Outcome.{Out, Gives, Stops, Cut}

-- a question that had no answer after this log has none here either
pub record LeavesOpen (ask other : Ask) (l : Log) : Type 0 where
  pub at_end : (m : ℕ) → accepted m (ask (length l.taken) m) ≡ None → accepted m (other (length l.taken) m) ≡ None

-- the choices of an outcome are answers of another answerer, which does not answer where the outcome was cut for want of an answer
abbrev pub AnswersAlike : {A : Type 0} → Ask → Ask → Out A → Type 0
AnswersAlike ask other (Gives r t c l w) = AreAnswers other 0 l.taken
AnswersAlike ask other (Stops s t l) = AreAnswers other 0 l.taken
AnswersAlike ask other (Cut t c l) = AreAnswers other 0 l.taken × LeavesOpen ask other l
