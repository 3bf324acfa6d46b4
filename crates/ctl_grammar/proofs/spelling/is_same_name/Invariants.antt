use Rattle.std.proofs.Common.{◌≡◌, length}
use Rattle.ctl_grammar.specs.Spelling.{same_name}
use Rattle.ctl_grammar.proofs.spelling.is_same_name.Given as goal

abbrev pub invariant-letters : goal.invariant-letters
invariant-letters l = same_name l.left l.right ≡ same_name l.fn.a l.fn.b

abbrev pub decreases-letters : goal.decreases-letters
decreases-letters l = length l.left
