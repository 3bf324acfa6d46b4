use Rattle.ctl_grammar.specs.Grammar.{string}
use Rattle.ctl_grammar.specs.Nodes.{string_of}
use Rattle.ctl_parse.proofs.Steps.{making, building, stopping_made, kept_string}
use Rattle.ctl_parse.proofs.cursor.Parser.string.Goals as goal

pub returns-in-Some : goal.returns-in-Some
unfolding string
returns-in-Some c = building (making string_of kept_string c.in-Some.ensures) c.quoted.ensures

pub returns-in-None : goal.returns-in-None
unfolding string
returns-in-None c = stopping_made string_of kept_string c.in-None.ensures
