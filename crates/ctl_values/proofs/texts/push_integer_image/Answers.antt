use Rattle.std.proofs.Common.{[], ◌∷◌, ◌++◌, ap, ◌∙◌, rules}
use Rattle.std.proofs.lemmas.List.{append_assoc}
use Rattle.std.proofs.lemmas.Result.{on_ok_weaker}
use Rattle.std.proofs.lemmas.Int.{to_z-of_z}
use mir.Syntax.{w64}
use mir.Val.{to_z, of_z, SFits}
use Rattle.std.specs.Prelude.{decimal}
use Rattle.ctl_meaning.specs.Numbers.{image_of, integer_image}
use Rattle.ctl_values.specs.Images.{sign_of}
use Rattle.ctl_values.proofs.Images.{signed_image}
use Rattle.ctl_values.proofs.texts.push_integer_image.Goals as goal

-- the sign, and behind it the digits
pub returns : goal.returns
unfolding integer_image
returns c =
    let digits = c.as_bytes.result.now in
    let fits : SFits w64 c.signed-number.result = search rules in
    let number = to_z w64 (of_z w64 c.signed-number.result) in
    let text = c.args.text.now in
    let is_decimal = c.as_bytes.ensures.value ∙ (c.format.ensures.text ∙ ap (λ n. decimal n) c.unsigned_abs.ensures.value) in
    let image = ap (λ s. s ∷ digits) c.sign_of.ensures ∙ (ap (λ ds. sign_of number ∷ ds) is_decimal ∙ (signed_image number ∙ ap (λ z. image_of z) (to_z-of_z w64 c.signed-number.result fits ∙ c.signed-number.ensures))) in
    on_ok_weaker c.push_all.result (λ h. h ∙ (ap (λ l. l ++ digits) c.in_ok-push.ensures.ok ∙ (append_assoc text (c.sign_of.result ∷ []) digits ∙ ap (λ l. text ++ l) image))) c.push_all.ensures.ok
