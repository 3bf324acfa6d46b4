use Rattle.std.proofs.Common.{◌≡◌, ◌++◌, false, drop}
use Rattle.ctl_lexis.specs.Reading.{content_of}
use Rattle.ctl_lex.proofs.string.content_of.Given as goal

abbrev pub invariant-loop-byte : goal.invariant-loop-byte
invariant-loop-byte l = l.content ++ content_of l.halfway (drop l.byte-index l.body) ≡ content_of false l.body
