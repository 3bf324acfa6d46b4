-- A text takes as many values as it has images.
use Rattle.std.proofs.Common.{◌≡◌, ℕ, List, [], ◌∷◌, ◌++◌, take, refl, ap, add-one}
use Rattle.ctl_meaning.specs.Numbers.{integer_image, boolean_image}
use Rattle.ctl_code.specs.declared.template.TextPart.{TextPart}
use Rattle.ctl_code.specs.declared.template.TextPart.TheVariants.{Literal, IntegerImage, BooleanImage}
use Rattle.ctl_code.specs.Table.{images_in, text_of}

pub text_of_taken : (ps : List TextPart) (xs : List ℕ) → text_of ps (take (images_in ps) xs) ≡ text_of ps xs
text_of_taken [] xs = refl
text_of_taken (Literal v ∷ ps) xs = ap (λ t. v ++ t) (text_of_taken ps xs)
text_of_taken (IntegerImage ∷ ps) [] = rw (add-one (images_in ps)) refl
text_of_taken (IntegerImage ∷ ps) (x ∷ xs) = rw (add-one (images_in ps)) (ap (λ t. integer_image x ++ t) (text_of_taken ps xs))
text_of_taken (BooleanImage ∷ ps) [] = rw (add-one (images_in ps)) refl
text_of_taken (BooleanImage ∷ ps) (x ∷ xs) = rw (add-one (images_in ps)) (ap (λ t. boolean_image x ++ t) (text_of_taken ps xs))
