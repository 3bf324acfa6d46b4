use Rattle.std.proofs.Common.{ap, ◌∙◌}
use Rattle.std.specs.FinMap.{get, insert}
use Rattle.number_map.proofs.Changes.{get_gone, insert_removed}
use Rattle.number_map.proofs.map.NumberMap.put.Goals as goal

pub put_new-requires-clause-new : goal.put_new-requires-clause-new
put_new-requires-clause-new g c = ap (λ t. get t c.args.number) c.remove.ensures.values ∙ get_gone c.args.self.now.values c.args.number

pub returns-clause-values : goal.returns-clause-values
returns-clause-values g c =
    c.put_new.ensures.values ∙ ap (λ t. insert t c.args.number c.args.value) c.remove.ensures.values ∙ insert_removed c.args.self.now.values c.args.number c.args.value
