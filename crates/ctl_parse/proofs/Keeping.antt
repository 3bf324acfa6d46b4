-- What is kept of parts of nodes, and of nodes made from parts.
use Rattle.std.proofs.Common.{◌≡◌, ℕ, true, false, refl, sym, ap, ◌∙◌, ◌⊎◌, inl, inr}
use Rattle.std.specs.Prelude.{List}
use Rattle.ctl_grammar.specs.Form.{Node, none, leaf, num, written, at, pair, tag}
use Rattle.ctl_grammar.specs.Label as labels
use Rattle.ctl_grammar.specs.Nodes.{first, second, part_2, behind_2, part_3, behind_3, part_4, behind_4, part_5, behind_5, or_else, assignment_of, procedure_of, is_none, is_bare, is_bare_kind, bare_of, tagged_part, association_of, part_2_letters, no}
use Rattle.ctl_parse.specs.Kept.{kept, kept_here}
use Rattle.ctl_parse.proofs.Steps.{kept_first, kept_second}

-- ---- parts in a row

pub kept_first_first : (v : Node) → kept (first (first v)) ≡ first (first (kept v))
kept_first_first v = kept_first (first v) ∙ ap first (kept_first v)

pub kept_second_first : (v : Node) → kept (second (first v)) ≡ second (first (kept v))
kept_second_first v = kept_second (first v) ∙ ap second (kept_first v)

pub kept_part_2 : (v : Node) → kept (part_2 v) ≡ part_2 (kept v)
kept_part_2 v = kept_first (second v) ∙ ap first (kept_second v)

pub kept_behind_2 : (v : Node) → kept (behind_2 v) ≡ behind_2 (kept v)
kept_behind_2 v = kept_second (second v) ∙ ap second (kept_second v)

pub kept_part_3 : (v : Node) → kept (part_3 v) ≡ part_3 (kept v)
kept_part_3 v = kept_first (behind_2 v) ∙ ap first (kept_behind_2 v)

pub kept_behind_3 : (v : Node) → kept (behind_3 v) ≡ behind_3 (kept v)
kept_behind_3 v = kept_second (behind_2 v) ∙ ap second (kept_behind_2 v)

pub kept_part_4 : (v : Node) → kept (part_4 v) ≡ part_4 (kept v)
kept_part_4 v = kept_first (behind_3 v) ∙ ap first (kept_behind_3 v)

pub kept_behind_4 : (v : Node) → kept (behind_4 v) ≡ behind_4 (kept v)
kept_behind_4 v = kept_second (behind_3 v) ∙ ap second (kept_behind_3 v)

pub kept_part_5 : (v : Node) → kept (part_5 v) ≡ part_5 (kept v)
kept_part_5 v = kept_first (behind_4 v) ∙ ap first (kept_behind_4 v)

pub kept_behind_5 : (v : Node) → kept (behind_5 v) ≡ behind_5 (kept v)
kept_behind_5 v = kept_second (behind_4 v) ∙ ap second (kept_behind_4 v)

pub paired : {a b c d : Node} → a ≡ b → c ≡ d → pair a c ≡ pair b d
paired {a} {b} {c} {d} h k = ap (λ (n : Node). pair n c) h ∙ ap (λ (n : Node). pair b n) k

-- ---- nodes by cases

pub kept_or_else : (v w : Node) → kept (or_else v w) ≡ or_else (kept v) (kept w)
kept_or_else none w = refl
kept_or_else (leaf t) w = refl
kept_or_else (num n) w = refl
kept_or_else (written s) w = refl
kept_or_else (at p) w = refl
kept_or_else (pair a b) w = refl
kept_or_else (tag n v) w = refl

pub kept_assignment : (v w : Node) → kept (assignment_of v w) ≡ assignment_of (kept v) (kept w)
kept_assignment v none = ap (λ (n : Node). pair n (tag labels.Call (kept v))) (kept_second_first v)
kept_assignment v (pair a b) = ap (λ (n : Node). pair n (tag labels.Assignment (pair (kept v) (kept b)))) (kept_second_first v)
kept_assignment v (leaf t) = refl
kept_assignment v (num n) = refl
kept_assignment v (written s) = refl
kept_assignment v (at p) = refl
kept_assignment v (tag n x) = refl

declared_kept : (p i a b c d : Node) → a ≡ b → c ≡ d → kept_here (tag labels.Subprogram (pair no (pair (pair p (pair i (pair a none))) c))) ≡ kept_here (tag labels.Subprogram (pair no (pair (pair p (pair i (pair b none))) d)))
declared_kept p i a b c d h k = ap (λ (n : Node). kept_here (tag labels.Subprogram (pair no (pair (pair p (pair i (pair n none))) c)))) h ∙ ap (λ (n : Node). kept_here (tag labels.Subprogram (pair no (pair (pair p (pair i (pair b none))) n)))) k

pub kept_procedure : (p i w : Node) → kept (procedure_of p i w) ≡ kept_here (procedure_of (kept p) (kept i) (kept w))
kept_procedure p i (pair none v) = declared_kept (kept p) (kept i) (kept (first v)) (first (kept v)) (kept (second v)) (second (kept v)) (kept_first v) (kept_second v)
kept_procedure p i (pair (leaf t) v) = refl
kept_procedure p i (pair (num n) v) = refl
kept_procedure p i (pair (written s) v) = refl
kept_procedure p i (pair (at q) v) = refl
kept_procedure p i (pair (pair a b) v) = refl
kept_procedure p i (pair (tag n x) v) = refl
kept_procedure p i none = refl
kept_procedure p i (leaf t) = refl
kept_procedure p i (num n) = refl
kept_procedure p i (written s) = refl
kept_procedure p i (at q) = refl
kept_procedure p i (tag n v) = refl

-- ---- letters

-- a text is kept, and nothing else is kept as one
pub written_kept : (v : Node) (s : List ℕ) → kept v ≡ written s → v ≡ written s
written_kept none s h = h
written_kept (leaf t) s h = h
written_kept (num n) s h = h
written_kept (written x) s h = h
written_kept (at p) s h = h
written_kept (pair a b) s h = absurd cc
written_kept (tag n v) s h = absurd cc

-- ---- identifiers alone

pub kept_is_none : (v : Node) → is_none (kept v) ≡ is_none v
kept_is_none none = refl
kept_is_none (leaf t) = refl
kept_is_none (num n) = refl
kept_is_none (written s) = refl
kept_is_none (at p) = refl
kept_is_none (pair a b) = refl
kept_is_none (tag n v) = refl

kept_bare_kind : (v : Node) → is_bare_kind (kept v) ≡ is_bare_kind v
kept_bare_kind (tag labels.Name v) = ap is_none (sym (kept_second v)) ∙ kept_is_none (second v)
kept_bare_kind _ = refl

-- whether an expression is an identifier alone is kept
pub kept_bare : (v : Node) → is_bare (kept v) ≡ is_bare v
kept_bare v = ap is_bare_kind (sym (kept_second v)) ∙ kept_bare_kind (second v)

-- of what is no name there is nothing to show
not_bare : {P : Type 0} → false ≡ true → P
not_bare h = absurd cc

kept_named : (v : Node) → is_bare_kind v ≡ true → kept (first (tagged_part v)) ≡ first (tagged_part (kept v))
kept_named (tag labels.Name v) h = kept_first v
kept_named _ h = not_bare h

-- and so is the identifier
pub kept_bare_of : (v : Node) → is_bare v ≡ true → kept (bare_of v) ≡ bare_of (kept v)
kept_bare_of v h = kept_named (second v) h ∙ ap (λ (n : Node). first (tagged_part n)) (kept_second v)

bare_association : (v w : Node) → is_bare v ≡ true → kept (association_of v w) ≡ association_of (kept v) (kept w)
bare_association v none h = refl
bare_association v (pair a f) h = ap (λ (n : Node). pair n (kept f)) (kept_bare_of v h)
bare_association v (leaf t) h = refl
bare_association v (num n) h = refl
bare_association v (written s) h = refl
bare_association v (at p) h = refl
bare_association v (tag n x) h = refl

-- an association has no name, or one from an identifier alone
pub kept_association : (v w : Node) → (w ≡ none) ⊎ (is_bare v ≡ true) → kept (association_of v w) ≡ association_of (kept v) (kept w)
kept_association v w (inl h) = rw h refl
kept_association v w (inr h) = bare_association v w h

-- ---- names of headings

pub kept_letters : (v a : Node) (s : List ℕ) → kept v ≡ a → part_2_letters a ≡ written s → part_2_letters v ≡ written s
kept_letters v a s h k = written_kept (part_2_letters v) s (kept_first (part_2 v) ∙ ap first (kept_part_2 v) ∙ ap part_2_letters h ∙ k)

pub kept_name_letters : (v a : Node) (s : List ℕ) → kept v ≡ a → first (second a) ≡ written s → first (second v) ≡ written s
kept_name_letters v a s h k = written_kept (first (second v)) s (kept_part_2 v ∙ ap (λ (n : Node). first (second n)) h ∙ k)

same_procedure : {p q i j w x : Node} → p ≡ q → i ≡ j → w ≡ x → kept_here (procedure_of p i w) ≡ kept_here (procedure_of q j x)
same_procedure {p} {q} {i} {j} {w} {x} h k l = ap (λ (n : Node). kept_here (procedure_of n i w)) h ∙ ap (λ (n : Node). kept_here (procedure_of q n w)) k ∙ ap (λ (n : Node). kept_here (procedure_of q j n)) l

pub kept_procedure_item : (v : Node) → kept (pair (first (first v)) (procedure_of (first (first v)) (second (first v)) (second v))) ≡ pair (first (first (kept v))) (kept_here (procedure_of (first (first (kept v))) (second (first (kept v))) (second (kept v))))
kept_procedure_item v = paired (kept_first_first v) (kept_procedure (first (first v)) (second (first v)) (second v) ∙ same_procedure (kept_first_first v) (kept_second_first v) (kept_second v))

-- ---- loops and blocks

kept_earlier : (v : Node) → kept (or_else (first (first v)) (part_2 v)) ≡ or_else (first (first (kept v))) (part_2 (kept v))
kept_earlier v = kept_or_else (first (first v)) (part_2 v) ∙ ap (λ (n : Node). or_else n (kept (part_2 v))) (kept_first_first v) ∙ ap (λ (n : Node). or_else (first (first (kept v))) n) (kept_part_2 v)

pub kept_looped : (v : Node) → kept (pair (or_else (first (first v)) (part_2 v)) (tag labels.Loop (pair (second (first v)) (part_3 v)))) ≡ pair (or_else (first (first (kept v))) (part_2 (kept v))) (tag labels.Loop (pair (second (first (kept v))) (part_3 (kept v))))
kept_looped v = paired (kept_earlier v) (ap (λ (n : Node). tag labels.Loop n) (paired (kept_second_first v) (kept_part_3 v)))

pub kept_blocked : (v : Node) → kept (pair (or_else (first (first v)) (part_2 v)) (tag labels.Block (pair (second (first v)) (part_3 v)))) ≡ pair (or_else (first (first (kept v))) (part_2 (kept v))) (tag labels.Block (pair (second (first (kept v))) (part_3 (kept v))))
kept_blocked v = paired (kept_earlier v) (ap (λ (n : Node). tag labels.Block n) (paired (kept_second_first v) (kept_part_3 v)))

-- ---- whole texts

kept_heading : (v : Node) → kept (first (part_2 v)) ≡ first (part_2 (kept v))
kept_heading v = kept_first (part_2 v) ∙ ap first (kept_part_2 v)

pub kept_whole : (v : Node) → kept (pair (first v) (pair (first (first (part_2 v))) (pair (second (first (part_2 v))) (second (part_2 v))))) ≡ pair (first (kept v)) (pair (first (first (part_2 (kept v)))) (pair (second (first (part_2 (kept v)))) (second (part_2 (kept v)))))
kept_whole v =
    paired (kept_first v) (paired (kept_first (first (part_2 v)) ∙ ap first (kept_heading v))
    (paired (kept_second (first (part_2 v)) ∙ ap second (kept_heading v)) (kept_second (part_2 v) ∙ ap second (kept_part_2 v))))
