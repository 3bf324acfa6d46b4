-- What a formal holds, by whether it is the copy of a record.
use Rattle.std.proofs.Common.{◌≡◌, ◌∙◌, [], ◌∷◌, Option, Some, true, false, ap, sym}
use Rattle.std.specs.Prelude.{IfOk, if◌then◌else◌}
use Rattle.std.specs.declared.result.Result.{Result}
use Rattle.std.specs.declared.result.Result.TheVariants.{Ok, Err}
use Rattle.ctl_meaning.specs.Finalization.{Spot}
use Rattle.ctl_code.specs.States.{Word, Located, Cells}
use Rattle.ctl_frames.specs.declared.frame.Formal.{Formal}
use Rattle.ctl_frames.specs.Holders.{word_of_formal}
use Rattle.ctl_frames.specs.Spots.{located, value_spot}

pub value_word : (f : Formal) → f.is_value ≡ true → word_of_formal f ≡ Cells f.spot.path
value_word f is = ap (λ b. if b then Cells f.spot.path else Located f.spot) is

pub part_word : (f : Formal) → f.is_value ≡ false → word_of_formal f ≡ Located f.spot
part_word f is = ap (λ b. if b then Cells f.spot.path else Located f.spot) is

-- what stands among the parts for it
pub value_copied : {E : Type 0} (f : Formal) (r : Result Spot E) → f.is_value ≡ true → IfOk r (λ s. s ≡ value_spot f.spot.path) → IfOk r (λ s. located (word_of_formal f ∷ []) ≡ s ∷ [])
value_copied f (Ok s) is same = ap (λ (x : Word). located (x ∷ [])) (value_word f is) ∙ ap (λ (x : Spot). x ∷ []) (sym same)
value_copied f (Err e) is same = tt

pub part_copied : {E : Type 0} (f : Formal) (r : Result Spot E) → f.is_value ≡ false → IfOk r (λ s. s ≡ f.spot) → IfOk r (λ s. located (word_of_formal f ∷ []) ≡ s ∷ [])
part_copied f (Ok s) is same = ap (λ (x : Word). located (x ∷ [])) (part_word f is) ∙ ap (λ (x : Spot). x ∷ []) (sym same)
part_copied f (Err e) is same = tt

-- it is found so
pub word_copied : {E : Type 0} (found : Option Word) (x : Word) (r : Result Spot E) → found ≡ Some x → IfOk r (λ s. located (x ∷ []) ≡ s ∷ []) → IfOk r (λ s. (y : Word) × (found ≡ Some y) × (located (y ∷ []) ≡ s ∷ []))
word_copied found x (Ok s) is stands = (x, is, stands)
word_copied found x (Err e) is stands = tt
