-- Images of values, and texts with them.
use Rattle.std.proofs.Common.{◌≡◌, ℤ, pos, negsuc, ◌∷◌, refl, sym, ap, add-one}
use Rattle.std.specs.Prelude.{decimal, unsigned_abs}
use Rattle.ctl_meaning.specs.Numbers.{image_of}
use Rattle.ctl_values.specs.Images.{sign_of}

pub signed_image : (z : ℤ) → sign_of z ∷ decimal (unsigned_abs z) ≡ image_of z
unfolding image_of
signed_image (pos n) = refl
signed_image (negsuc n) = ap (λ k. 45 ∷ decimal k) (sym (add-one n))
