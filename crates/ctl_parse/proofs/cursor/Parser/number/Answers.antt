use Rattle.ctl_grammar.specs.Grammar.{number}
use Rattle.ctl_grammar.specs.Nodes.{number_of}
use Rattle.ctl_parse.proofs.Steps.{making, being, stopping_made, kept_number}
use Rattle.ctl_parse.proofs.Views.{view_number}
use Rattle.ctl_parse.proofs.cursor.Parser.number.Goals as goal

pub returns-in-Some : goal.returns-in-Some
unfolding number
returns-in-Some c = being (view_number _ _) (making number_of kept_number c.in-Some.ensures)

pub returns-in-None : goal.returns-in-None
unfolding number
returns-in-None c = stopping_made number_of kept_number c.in-None.ensures
