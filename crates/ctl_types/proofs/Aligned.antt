-- Record types, made of what stands at one number of three lists.
use Rattle.std.proofs.Common.{arith, ◌≡◌, refl, sym, ap, ◌∙◌, ℕ, zero, suc, List, [], ◌∷◌, ◌++◌, append_assoc, length, drop, slice_get, Option, Some, None}
use Rattle.std.proofs.lemmas.List.{length-append}
use Rattle.ctl_program.specs.declared.types.Component.{Component}
use Rattle.ctl_program.specs.declared.types.RecordType.{RecordType}
use Rattle.ctl_typing.specs.declared.table.RecordEntry.{RecordEntry}
use Rattle.ctl_typing.specs.declared.table.RecordState.{RecordState}
use Rattle.ctl_types.specs.Elaboration.{record_types}
use Rattle.ctl_types.specs.Parts.{record_type_at}

abbrev before : Option RecordType → List RecordType → List RecordType
before None ts = []
before (Some t) ts = t ∷ ts

no_states : (rs : List RecordEntry) (css : List (List Component)) → record_types rs [] css ≡ []
no_states [] css = refl
no_states (r ∷ rs) css = refl

no_state : (r : Option RecordEntry) (cs : List Component) (ts : List RecordType) → before (record_type_at r None cs) ts ≡ []
no_state None cs ts = refl
no_state (Some r) cs ts = refl

-- the first of those that are left, and those behind it
types_next : (rs : List RecordEntry) (ss : List RecordState) (n : ℕ) (cs : List Component) (css : List (List Component))
    → record_types (drop n rs) (drop n ss) (cs ∷ css) ≡ before (record_type_at (slice_get rs n) (slice_get ss n) cs) (record_types (drop (suc n) rs) (drop (suc n) ss) css)
types_next [] ss zero cs css = refl
types_next [] ss (suc n) cs css = refl
types_next (r ∷ rs) [] zero cs css = refl
types_next (r ∷ rs) [] (suc n) cs css = no_states (drop n rs) (cs ∷ css) ∙ sym (no_state (slice_get rs n) cs (record_types (drop (suc n) rs) [] css))
types_next (r ∷ rs) (s ∷ ss) zero cs css = refl
types_next (r ∷ rs) (s ∷ ss) (suc n) cs css = types_next rs ss n cs css

-- those so far, with all that are left
abbrev whole : List RecordEntry → List RecordState → List RecordType → ℕ → List (List Component) → List RecordType
whole rs ss ts n css = ts ++ record_types (drop n rs) (drop n ss) css

-- one more of those so far
pub types_turn : (rs : List RecordEntry) (ss : List RecordState) (ts : List RecordType) (t : RecordType) (cs : List Component) (css : List (List Component))
    → record_type_at (slice_get rs (length ts)) (slice_get ss (length ts)) cs ≡ Some t
    → (ts ++ t ∷ []) ++ record_types (drop (length (ts ++ t ∷ [])) rs) (drop (length (ts ++ t ∷ [])) ss) css ≡ ts ++ record_types (drop (length ts) rs) (drop (length ts) ss) (cs ∷ css)
types_turn rs ss ts t cs css at =
    let n = length ts in
    let longer : length (ts ++ t ∷ []) ≡ suc n = omega (arith, length-append ts (t ∷ [])) in
    let next = types_next rs ss n cs css ∙ ap (λ o. before o (record_types (drop (suc n) rs) (drop (suc n) ss) css)) at in
    ap (λ m. whole rs ss (ts ++ t ∷ []) m css) longer ∙ append_assoc ts (t ∷ []) (record_types (drop (suc n) rs) (drop (suc n) ss) css) ∙ ap (λ us. ts ++ us) (sym next)

-- where there is no entry or no state, there are no more
pub types_end : (rs : List RecordEntry) (ss : List RecordState) (n : ℕ) (cs : List Component) (css : List (List Component))
    → record_type_at (slice_get rs n) (slice_get ss n) cs ≡ None → record_types (drop n rs) (drop n ss) (cs ∷ css) ≡ []
types_end rs ss n cs css at = types_next rs ss n cs css ∙ ap (λ o. before o (record_types (drop (suc n) rs) (drop (suc n) ss) css)) at

-- where no components are left, there are no more
pub types_none : (rs : List RecordEntry) (ss : List RecordState) → record_types rs ss [] ≡ []
types_none [] ss = refl
types_none (r ∷ rs) [] = refl
types_none (r ∷ rs) (s ∷ ss) = refl
