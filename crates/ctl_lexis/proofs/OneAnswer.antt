-- A text has exactly one answer: its tokens, or its first fault.
use Rattle.std.proofs.Common.{◌≡◌, ℕ, List, [], ◌∷◌, ◌++◌, length, ◌⊎◌, inl, inr, refl, sym, ap, subst, ◌∙◌, arith}
use Rattle.std.proofs.lemmas.Bool.{cases_lt}
use Rattle.ctl_tree.specs.declared.fault.Fault.{Fault}
use Rattle.ctl_tree.specs.declared.token.Token.{Token}
use Rattle.ctl_lexis.specs.Places.{start, place_after}
use Rattle.ctl_lexis.specs.Pieces.{Piece}
use Rattle.ctl_lexis.specs.Lexis.{longest_text, tokens_of, end_mark, place_behind, fault_at, HasTokens, HasFault, IsFault, too_long, first}
use Rattle.ctl_lexis.proofs.Cuts.{same_cut, no_fault_in_cut, same_fault_cut, same_fault, ends}

pub one_list : (bytes : List ℕ) (a b : List Token) → HasTokens bytes a → HasTokens bytes b → a ≡ b
one_list bytes a b has_a has_b =
    has_a.shown ∙ ap (λ (pieces : List (Piece × List ℕ)). tokens_of start pieces ++ end_mark (place_after start bytes) ∷ []) (same_cut bytes has_a.pieces has_b.pieces has_a.cut has_b.cut) ∙ sym has_b.shown

pub never_both : (bytes : List ℕ) (tokens : List Token) (fault : Fault) → HasTokens bytes tokens → HasFault bytes fault → ⊥
never_both bytes tokens fault has (too_long long) = absurd (omega (arith, has.short))
never_both bytes tokens fault has (first {rest = rest} {before = before} {code = code} pieces short cut is) = no_fault_in_cut bytes has.pieces pieces rest code before has.cut cut is

pub one_fault : (bytes : List ℕ) (a b : Fault) → HasFault bytes a → HasFault bytes b → a ≡ b
one_fault bytes a b (too_long long) (too_long long') = refl
one_fault bytes a b (too_long long) (first pieces short cut is) = absurd (omega arith)
one_fault bytes a b (first pieces short cut is) (too_long long) = absurd (omega arith)
one_fault bytes a b (first {rest = u} {before = p} {code = f} xs short cut is) (first {rest = v} {before = q} {code = g} ys short' cut' is') =
    let one = same_fault_cut bytes xs ys u v f g p q cut is cut' is' in
    let same = same_fault u f g p q is (subst (IsFault g q) (sym one.1) is') in
    λ i. fault_at (same.0 i) (place_after (place_behind start (one.0 i)) (same.1 i))

pub always_one : (bytes : List ℕ) → ((tokens : List Token) × HasTokens bytes tokens) ⊎ ((fault : Fault) × HasFault bytes fault)
always_one bytes = elim (cases_lt longest_text (length bytes)) [
  | inl long ↦ inr (_, too_long long)
  | inr short ↦ elim (ends bytes) [
    | inl h ↦ inl (tokens_of start h.0 ++ end_mark (place_after start bytes) ∷ [], record { short = short; pieces = h.0; cut = h.1; shown = refl })
    | inr h ↦ inr (_, first h.0 short h.4 h.5)
  ]
]
