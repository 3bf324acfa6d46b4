-- A string's body, read byte by byte up to the quotation mark that closes it.
use Rattle.std.proofs.Common.{◌≡◌, ℕ, ◌+◌, ◌-◌, ◌<◌, ◌≤◌, true, false, List, ◌∷◌, length, drop, get_or, Option, Some, None, refl, ap, ◌∙◌, arith, ◌==◌}
use Rattle.std.proofs.lemmas.Bool.{ne_eqb}
use Rattle.std.proofs.lemmas.List.{drop_more}
use Rattle.ctl_lexis.specs.Bytes.{is_line_end}
use Rattle.ctl_lexis.specs.Reading.{add_to, body_length}

add_to-add_to : (m n : ℕ) (o : Option ℕ) → add_to m (add_to n o) ≡ add_to (m + n) o
add_to-add_to m n None = refl
add_to-add_to m n (Some k) = ap Some (omega arith)

module _ (s : List ℕ) (i : ℕ) (in_range : i < length s) where
  at_byte : drop i s ≡ get_or s i 0 ∷ drop (i + 1) s
  at_byte = drop_more s i 0 in_range

  -- the second of two quotation marks
  pub mark_twice : get_or s i 0 ≡ 34 → 1 ≤ i → add_to (i - 1) (body_length true (drop i s)) ≡ add_to (i + 1) (body_length false (drop (i + 1) s))
  mark_twice is some =
      let more : body_length true (get_or s i 0 ∷ drop (i + 1) s) ≡ add_to 2 (body_length false (drop (i + 1) s)) = rw is refl in
      let count : i - 1 + 2 ≡ i + 1 = omega arith in
      ap (λ (bytes : List ℕ). add_to (i - 1) (body_length true bytes)) at_byte ∙ ap (add_to (i - 1)) more ∙ add_to-add_to (i - 1) 2 (body_length false (drop (i + 1) s)) ∙ ap (λ (n : ℕ). add_to n (body_length false (drop (i + 1) s))) count

  -- a quotation mark that may close the string
  pub mark_once : get_or s i 0 ≡ 34 → body_length false (drop i s) ≡ body_length true (drop (i + 1) s)
  mark_once is =
      let more : body_length false (get_or s i 0 ∷ drop (i + 1) s) ≡ body_length true (drop (i + 1) s) = rw is refl in
      ap (body_length false) at_byte ∙ more

  -- any other byte of the line
  pub no_mark : (get_or s i 0 ≡ 34 → ⊥) → is_line_end (get_or s i 0) ≡ false → add_to i (body_length false (drop i s)) ≡ add_to (i + 1) (body_length false (drop (i + 1) s))
  no_mark other in_line =
      let is : (get_or s i 0 == 34) ≡ false = ne_eqb (get_or s i 0) 34 other in
      let more : body_length false (get_or s i 0 ∷ drop (i + 1) s) ≡ add_to 1 (body_length false (drop (i + 1) s)) = rw (is, in_line) refl in
      ap (λ (bytes : List ℕ). add_to i (body_length false bytes)) at_byte ∙ ap (add_to i) more ∙ add_to-add_to i 1 (body_length false (drop (i + 1) s))
