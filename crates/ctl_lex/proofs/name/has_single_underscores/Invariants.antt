use Rattle.std.proofs.Common.{◌≡◌, false, drop}
use Rattle.ctl_lexis.specs.Pieces.{has_single_underscores}
use Rattle.ctl_lex.proofs.name.has_single_underscores.Given as goal

-- what is left decides, behind the byte before it
abbrev pub invariant-loop-byte : goal.invariant-loop-byte
invariant-loop-byte l = has_single_underscores l.behind (drop l.byte-index l.text) ≡ has_single_underscores false l.text
