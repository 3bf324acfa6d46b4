use Rattle.std.proofs.Common.{◌≡◌, length, drop}
use Rattle.std.specs.List.{find}
use Rattle.ctl_lexis.specs.Words.{words_of_length}
use Rattle.ctl_lexis.specs.Reading.{has_spelling}
use Rattle.ctl_lex.proofs.word.word_of.Given as goal

abbrev pub invariant-loop-kind : goal.invariant-loop-kind
invariant-loop-kind l = find (has_spelling l.name) (drop l.kind-index l.kind-items) ≡ find (has_spelling l.name) (words_of_length (length l.name))
