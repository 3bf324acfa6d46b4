use Rattle.ctl_grammar.specs.Grammar.{identifier}
use Rattle.ctl_grammar.specs.Nodes.{identifier_of}
use Rattle.ctl_parse.proofs.Steps.{making, stopping_made, building, kept_identifier}
use Rattle.ctl_parse.proofs.cursor.Parser.identifier.Goals as goal

pub returns-in-Some : goal.returns-in-Some
unfolding identifier
returns-in-Some c = building (making identifier_of kept_identifier c.in-Some.ensures) c.identified.ensures

pub returns-in-None : goal.returns-in-None
unfolding identifier
returns-in-None c = stopping_made identifier_of kept_identifier c.in-None.ensures
