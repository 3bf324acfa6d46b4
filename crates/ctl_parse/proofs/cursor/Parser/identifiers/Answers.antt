use Rattle.ctl_grammar.specs.Form.{pair}
use Rattle.ctl_grammar.specs.Grammar.{identifiers}
use Rattle.ctl_grammar.specs.Nodes.{first, row_of, second}
use Rattle.ctl_parse.proofs.Associations.{some_names}
use Rattle.ctl_parse.proofs.Keeping.{kept_second_first, paired}
use Rattle.ctl_parse.proofs.Steps.{being_sound, making}
use Rattle.ctl_parse.specs.View.{identifier_node}
use Rattle.std.proofs.Common.{ap, map, refl}
use Rattle.ctl_parse.proofs.cursor.Parser.identifiers.Goals as goal

pub returns : goal.returns
unfolding identifiers
returns c = being_sound (λ z. ap (λ n. pair n (row_of (map identifier_node c.identifier_list-names.result))) (c.first_place-span.ensures (some_names _ c.identifier_list-names.ensures z))) (making (λ v. pair (second (first v)) v) (λ v. paired (kept_second_first v) refl) c.identifier_list-names.ensures)
