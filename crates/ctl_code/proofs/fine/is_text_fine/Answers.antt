use Rattle.std.proofs.Common.{◌≡◌, ◌+◌, ◌∙◌, Some, None, ap, sym, refl, arith}
use Rattle.std.specs.Prelude.{slice_get}
use Rattle.std.proofs.lemmas.Grind.{common_steps}
use Rattle.std.proofs.lemmas.Option.{gets}
use Rattle.ctl_code.specs.Kinds.{stack_at}
use Rattle.ctl_code.specs.Valid.{Leads}
use Rattle.ctl_code.proofs.Texts.{text_fine, not_text_fine}
use Rattle.ctl_code.proofs.fine.is_text_fine.Goals as goal

pub returns-then-has_images : goal.returns-then-has_images
returns-then-has_images c =
    let code = c.args.code.now in
    let got : slice_get code.texts.items c.args.number ≡ Some c.in-Some.text.now = grind (arith, common_steps, gets) in
    let step = text_fine code c.args.number c.args.first c.count_images.result (stack_at code.kinds c.args.place) c.parts-parts.result.now (Leads code (c.args.place + 1)) c.count_images.ensures (got ∙ ap Some (sym c.parts-parts.ensures)) (c.if-has_images.ensures.0 refl) in
    (λ t. step.0 (c.drops_images.ensures.0 t), λ fine. c.drops_images.ensures.1 (step.1 fine))

pub returns-else-has_images : goal.returns-else-has_images
returns-else-has_images c =
    let code = c.args.code.now in
    let got : slice_get code.texts.items c.args.number ≡ Some c.in-Some.text.now = grind (arith, common_steps, gets) in
    let off = not_text_fine code c.args.number c.args.first (stack_at code.kinds c.args.place) c.parts-parts.result.now (Leads code (c.args.place + 1)) (got ∙ ap Some (sym c.parts-parts.ensures)) (λ on. cc (c.has_images.ensures.1 on, c.if-has_images.false)) in
    (λ t. cc (t, c.if-has_images.false), λ fine. absurd (off fine))

pub returns-in-None : goal.returns-in-None
returns-in-None c =
    let none : slice_get c.args.code.now.texts.items c.args.number ≡ None = grind (arith, common_steps, gets) in
    (λ t. cc t, λ fine. cc (none, fine.1))
