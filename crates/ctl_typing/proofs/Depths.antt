-- How deep expressions are: a judgement that goes down them ends.
use Rattle.std.proofs.Common.{arith, ◌≡◌, refl, sym, ap, ◌∙◌, ℕ, ◌+◌, ◌<◌, max, List, [], ◌∷◌, ◌++◌, length, take, drop, get_or}
use Rattle.std.proofs.lemmas.List.{at_drop_more, take-append-drop}
use denote.Param.Weighed.{most, most-append}
use Rattle.ctl_syntax.specs.declared.denoted.Use.{Use}
use Rattle.ctl_syntax.specs.declared.operators.Operand.{Operand}
use Rattle.ctl_syntax.specs.declared.expression.Expression.{Expression, size-Expression, size_is-Expression}
use Rattle.ctl_syntax.specs.declared.expression.Expression.TheVariants.{Chain, outs-Chain}
use Rattle.ctl_tree.specs.declared.span.Span.{Span}

-- as deep as the deepest of them
abbrev pub deepest : List (Expression Use) → ℕ
deepest xs = most (λ x. size-Expression Use x) xs

abbrev pub deepest_of_chain : Operand (Expression Use) → List (Operand (Expression Use)) → ℕ
deepest_of_chain o os = most (λ p. size-Expression Use p.operand) (o ∷ os)

abbrev pub deepest_of_list : Expression Use → Operand (Expression Use) → List (Operand (Expression Use)) → ℕ
deepest_of_list x o os = most (λ y. y) (size-Expression Use x ∷ deepest_of_chain o os ∷ [])

-- with operands before and behind one that leads
abbrev pub deepest_of_all : Expression Use → Operand (Expression Use) → List (Operand (Expression Use)) → Operand (Expression Use) → List (Operand (Expression Use)) → ℕ
deepest_of_all x o before leading behind = most (λ y. y) (deepest_of_list x o before ∷ deepest_of_chain leading behind ∷ [])

-- with operands behind the first one alone
abbrev pub deepest_beside : Expression Use → List (Operand (Expression Use)) → ℕ
deepest_beside x os = most (λ y. y) (size-Expression Use x ∷ most (λ p. size-Expression Use p.operand) os ∷ [])

-- with operands before and behind one that is left out
abbrev pub deepest_around : Expression Use → Operand (Expression Use) → List (Operand (Expression Use)) → List (Operand (Expression Use)) → ℕ
deepest_around x o before behind = most (λ y. y) (deepest_of_list x o before ∷ most (λ p. size-Expression Use p.operand) behind ∷ [])

-- operands around one
pub around_one : {A : Type 0} (μ : A → ℕ) (all : List A) (i : ℕ) (x : A) → i < length all → x ≡ get_or all i x → most μ all ≡ max (most μ (take i all)) (max (μ x) (most μ (drop (i + 1) all)))
around_one μ all i x lt at =
    ap (most μ) (sym (take-append-drop i all) ∙ ap (λ ys. take i all ++ ys) (at_drop_more (λ xs. xs) all i x lt ∙ ap (λ y. y ∷ drop (i + 1) all) (sym at)))
    ∙ most-append μ (take i all) (x ∷ drop (i + 1) all)

most_same : {A : Type 0} (μ ν : A → ℕ) → ((a : A) → μ a ≡ ν a) → (as' : List A) → most μ as' ≡ most ν as'
most_same μ ν same [] = refl
most_same μ ν same (a ∷ as') = ap (λ n. max n (most μ as')) (same a) ∙ ap (max (ν a)) (most_same μ ν same as')

abbrev Written : Type 0
Written = Operand (Expression Use)

pub chain_depth : (p : Span) (x : Expression Use) (o : Operand (Expression Use)) (os : List (Operand (Expression Use))) → deepest_of_list x o os < size-Expression Use (Chain p x o os)
chain_depth p x o os =
    let sized = rw (outs-Chain p x o os) at (size_is-Expression Use (Chain p x o os)) in
    let same = most_same (λ (q : Written). max 0 (max (size-Expression Use q.operand) 0)) (λ (q : Written). size-Expression Use q.operand) (λ (q : Written). omega arith) os in
    omega (arith, sized, same)
