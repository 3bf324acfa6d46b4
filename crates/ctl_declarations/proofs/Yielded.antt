-- What an item gives, of what was done before.
use Rattle.std.proofs.Common.{◌≡◌, sym, ap, ◌∙◌, Option, Result, Ok, Err}
use Rattle.std.specs.Result.{IfOk}
use Rattle.ctl_typing.specs.Judgement.{Judging, Judges, Yields}

-- where its layers are made last
pub yielded : {S A E : Type 0} (f : S → A × S) (a : A) (old new : S) (r : Result A E) → f old ≡ (a, new) → IfOk r (λ x. x ≡ a) → Yields f old r new
yielded f a old new (Ok x) done is = done ∙ ap (λ y. (y, new)) (sym is)
yielded f a old new (Err e) done is = tt

-- where another gives the same from a later state
pub yielded_as : {S A E : Type 0} (f g : S → A × S) (old mid new : S) (r : Result A E) → f old ≡ g mid → Yields g mid r new → Yields f old r new
yielded_as f g old mid new (Ok a) same done = same ∙ done
yielded_as f g old mid new (Err e) same done = tt

-- the same of what may be unknown
pub judged_last : {S A E : Type 0} (j : Judging S A) (old new : S) (a : Option A) (r : Result (Option A) E) → j old ≡ (a, new) → IfOk r (λ x. x ≡ a) → Judges j old r new
judged_last j old new a (Ok x) done is = done ∙ ap (λ y. (y, new)) (sym is)
judged_last j old new a (Err e) done is = tt
