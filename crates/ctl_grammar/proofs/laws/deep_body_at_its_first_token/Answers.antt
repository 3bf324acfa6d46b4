use Rattle.ctl_grammar.proofs.Late.{places_deep_bodies}
use Rattle.ctl_grammar.proofs.laws.deep_body_at_its_first_token.Goals as goal

pub returns : goal.returns
returns c = places_deep_bodies
