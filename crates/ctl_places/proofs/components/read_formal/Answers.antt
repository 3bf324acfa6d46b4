use Rattle.std.proofs.Common.{◌+◌, ◌∙◌, Some, ap, sym}
use Rattle.ctl_meaning.specs.Changes.{object_at}
use Rattle.ctl_code.specs.States.{Word}
use Rattle.ctl_places.specs.Parts.{component_at, part_in}
use Rattle.ctl_frames.proofs.FormalWords.{part_word, value_word}
use Rattle.ctl_frames.proofs.Links.{got}
use Rattle.ctl_places.proofs.components.read_formal.Goals as goal

pub returns-then-formal : goal.returns-then-formal
returns-then-formal g c =
    let f = c.index-formal.result.now in
    let found = got c.args.engine.now.formals.items c.args.at f c.requires.0 c.index-formal.ensures in
    (f, found, ap (λ n. Some n) c.cell.ensures ∙ sym (ap (λ (x : Word). component_at c.args.offset x g.s.world) (value_word f c.if-formal.true)))

pub returns-else-formal : goal.returns-else-formal
returns-else-formal g c =
    let f = c.index-formal.result.now in
    let w = g.s.world in
    let found = got c.args.engine.now.formals.items c.args.at f c.requires.0 c.index-formal.ensures in
    let read = c.read_at.ensures
    ∙ (ap (λ n. part_in (n + c.args.offset) (object_at c.object.result w)) c.offset.ensures
    ∙ ap (λ n. part_in (f.spot.offset + c.args.offset) (object_at n w)) c.object.ensures) in
    (f, found, read ∙ sym (ap (λ (x : Word). component_at c.args.offset x w) (part_word f c.if-formal.false)))
