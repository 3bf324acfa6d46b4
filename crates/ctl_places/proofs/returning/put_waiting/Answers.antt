use Rattle.std.proofs.Common.{◌∷◌, ◌++◌, ◌∙◌, [], List, ap, sym}
use Rattle.ctl_meaning.specs.Finalization.{Spot}
use Rattle.ctl_code.specs.declared.code.Way.{Way}
use Rattle.ctl_engine.specs.Returning.{parts_for}
use Rattle.ctl_frames.specs.Spots.{value_spot}
use Rattle.ctl_engine.proofs.Ways.{plain_parts_for}
use Rattle.ctl_frames.proofs.Words.{same_front}
use Rattle.ctl_places.proofs.returning.put_waiting.Goals as goal

pub returns-in-ReturnRecord : goal.returns-in-ReturnRecord
returns-in-ReturnRecord c = λ below s are.
    let front = same_front c.take_last.new.self.items below c.take_last.result s (sym c.take_last.ensures.items ∙ are) in
    c.push_reserved.ensures.items
    ∙ (ap (λ (x : Spot). c.take_last.new.self.items ++ x ∷ []) c.of_value.ensures
    ∙ (ap (λ (l : List Spot). l ++ value_spot c.args.cells.items ∷ []) front.0
    ∙ ap (λ (x : Way). parts_for x below s c.args.cells.items) (sym c.in-ReturnRecord.is)))

pub returns-in_default : goal.returns-in_default
returns-in_default c = λ below s are. are ∙ plain_parts_for c.args.way below s c.args.cells.items c.in_default.not-ReturnRecord
