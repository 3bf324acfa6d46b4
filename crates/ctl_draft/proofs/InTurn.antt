-- Deeds that are done in turn, from a place in a list that grows behind.
use Rattle.std.proofs.Common.{◌≡◌, ℕ, zero, suc, ◌+◌, List, [], ◌∷◌, ◌++◌, refl, sym, ap, ◌∙◌, arith, drop, Some, None, Result, Ok, Err}
use Rattle.std.specs.Prelude.{slice_get}
use Rattle.std.proofs.lemmas.List.{drop-append-le}
use Rattle.std.proofs.lemmas.Option.{slice_get_within, get_or_from_slice_get}
use Rattle.ctl_typing.specs.declared.notes.Deed.{Deed}
use Rattle.ctl_typing.specs.declared.table.States.{States}
use Rattle.ctl_typing.specs.declared.table.RecordEntry.{RecordEntry}
use Rattle.ctl_typing.specs.Judgement.{Yields}
use Rattle.ctl_draft.specs.Freezing.{is_new, added, done_if, done_in_turn}
use Rattle.ctl_draft.proofs.Behind.{next_of}

next_at : {A : Type 0} (xs : List A) (k : ℕ) (x : A) → slice_get xs k ≡ Some x → drop k xs ≡ x ∷ drop (k + 1) xs
next_at xs k x e = next_of xs k x (slice_get_within xs k x e) (sym (get_or_from_slice_get xs k x x e))

pub none_left : {A : Type 0} (xs : List A) (k : ℕ) → slice_get xs k ≡ None → drop k xs ≡ []
none_left [] zero e = refl
none_left [] (suc k) e = refl
none_left (x ∷ xs) zero e = absurd (let no : Some x ≡ None = e in cc)
none_left (x ∷ xs) (suc k) e = none_left xs k e

pub done_with_none : (rs : List RecordEntry) (n : ℕ) (s : States) → done_in_turn rs n [] s ≡ s
done_with_none rs zero s = refl
done_with_none rs (suc n) s = refl

-- where the deed at the place is done, and what follows from it stands behind the others, as much is left to do
pub done_next : (rs : List RecordEntry) (left n at : ℕ) (ds : List Deed) (d : Deed) (s : States) → left ≡ suc n → slice_get ds at ≡ Some d → done_in_turn rs n (drop (at + 1) (ds ++ added rs (is_new s d) d)) (done_if (is_new s d) d s) ≡ done_in_turn rs left (drop at ds) s
done_next rs left n at ds d s more here =
    ap (λ es. done_in_turn rs n es (done_if (is_new s d) d s)) (drop-append-le (at + 1) ds (added rs (is_new s d) d) (let within = slice_get_within ds at d here in omega (arith, within)))
    ∙ sym (ap (λ es. done_in_turn rs (suc n) es s) (next_at ds at d here))
    ∙ sym (ap (λ m. done_in_turn rs m (drop at ds) s) more)

-- what is done behind a change of the draft, is done by both together
pub yields_behind : {S A E : Type 0} (f g : S → A × S) (old mid new : S) (r : Result A E) → g old ≡ f mid → Yields f mid r new → Yields g old r new
yields_behind f g old mid new (Ok a) same h = same ∙ h
yields_behind f g old mid new (Err e) same h = tt
