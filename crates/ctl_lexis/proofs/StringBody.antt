-- The body of a string up to the quotation mark that closes it.
use Rattle.std.proofs.Common.{◌≡◌, ℕ, ◌+◌, ◌≤◌, Bool, true, false, ◌==◌, cond, leb, List, [], ◌∷◌, ◌++◌, length, Option, Some, None, refl, sym, ap, subst, ◌∙◌, arith}
use Rattle.std.proofs.lemmas.Bool.{eqb-true, ne_eqb, and_parts, leb-true, not-true, not-false, not_from_true, not_from_false}
use Rattle.ctl_lexis.specs.Bytes.{is_line_end, in_line}
use Rattle.ctl_lexis.specs.Pieces.{Passes, Stops, quoted, is_quotation_mark}
use Rattle.ctl_lexis.specs.Reading.{add_to, body_length, content_of}

-- a body of n bytes, and behind its closing quotation mark no further one
pub record Closes (bytes : List ℕ) (n : ℕ) : Type 0 where
  pub content : List ℕ
  pub rest : List ℕ
  pub parts : bytes ≡ quoted content ++ 34 ∷ rest
  pub one_line : Passes in_line (quoted content)
  pub ends : Stops is_quotation_mark rest
  pub len : n ≡ length (quoted content)

-- the line or the text ends inside
pub record Opens (bytes : List ℕ) : Type 0 where
  pub content : List ℕ
  pub rest : List ℕ
  pub parts : bytes ≡ quoted content ++ rest
  pub one_line : Passes in_line (quoted content)
  pub ends : Stops in_line rest

abbrev pub BodyJudged : List ℕ → Option ℕ → Type 0
BodyJudged bytes (Some n) = Closes bytes n
BodyJudged bytes None = Opens bytes

quoted_plain : (b : ℕ) (bytes : List ℕ) → (b == 34) ≡ false → quoted (b ∷ bytes) ≡ b ∷ quoted bytes
quoted_plain b bytes e = rw e refl

-- a doubled quotation mark before a body
doubled_more : (bytes : List ℕ) (o : Option ℕ) → BodyJudged bytes o → BodyJudged (34 ∷ 34 ∷ bytes) (add_to 2 o)
doubled_more bytes (Some n) j = record { content = 34 ∷ j.content; rest = j.rest; parts = ap (λ (us : List ℕ). 34 ∷ 34 ∷ us) j.parts; one_line = (refl, (refl, j.one_line)); ends = j.ends; len = omega (arith, j.len) }
doubled_more bytes None j = record { content = 34 ∷ j.content; rest = j.rest; parts = ap (λ (us : List ℕ). 34 ∷ 34 ∷ us) j.parts; one_line = (refl, (refl, j.one_line)); ends = j.ends }

-- another byte before a body
plain_more : (b : ℕ) (bytes : List ℕ) (o : Option ℕ) → (b == 34) ≡ false → in_line b ≡ true → BodyJudged bytes o → BodyJudged (b ∷ bytes) (add_to 1 o)
plain_more b bytes (Some n) other same_line j =
    let whole = quoted_plain b j.content other in
    record { content = b ∷ j.content; rest = j.rest; parts = ap (λ (us : List ℕ). b ∷ us) j.parts ∙ ap (λ (us : List ℕ). us ++ 34 ∷ j.rest) (sym whole); one_line = subst (Passes in_line) (sym whole) (same_line, j.one_line); ends = j.ends; len = omega (arith, j.len, ap length whole) }
plain_more b bytes None other same_line j =
    let whole = quoted_plain b j.content other in
    record { content = b ∷ j.content; rest = j.rest; parts = ap (λ (us : List ℕ). b ∷ us) j.parts ∙ ap (λ (us : List ℕ). us ++ j.rest) (sym whole); one_line = subst (Passes in_line) (sym whole) (same_line, j.one_line); ends = j.ends }

-- the bytes, with the quotation mark that the flag says
abbrev behind_mark : Bool → List ℕ → List ℕ
behind_mark true bytes = 34 ∷ bytes
behind_mark false bytes = bytes

pub body_judged : (flag : Bool) (bytes : List ℕ) → BodyJudged (behind_mark flag bytes) (body_length flag bytes)
body_judged true [] = record { content = []; rest = []; parts = refl; one_line = tt; ends = tt; len = refl }
body_judged false [] = record { content = []; rest = []; parts = refl; one_line = tt; ends = tt }
body_judged true (b ∷ bytes) =
    let more = body_judged false bytes in
    let at : (t : Bool) → (b == 34) ≡ t → BodyJudged (34 ∷ b ∷ bytes) (cond t (add_to 2 (body_length false bytes)) (Some 0)) = elim [
      | true ↦ λ e. subst (λ (c : ℕ). BodyJudged (34 ∷ c ∷ bytes) (add_to 2 (body_length false bytes))) (sym (eqb-true b 34 e)) (doubled_more bytes (body_length false bytes) more)
      | false ↦ λ e. record { content = []; rest = b ∷ bytes; parts = refl; one_line = tt; ends = e; len = refl }
    ] in at (b == 34) refl
body_judged false (b ∷ bytes) =
    let closed = body_judged true bytes in
    let more = body_judged false bytes in
    let line : (t : Bool) → is_line_end b ≡ t → (b == 34) ≡ false → BodyJudged (b ∷ bytes) (cond t None (add_to 1 (body_length false bytes))) = elim [
      | true ↦ λ e other. record { content = []; rest = b ∷ bytes; parts = refl; one_line = tt; ends = not_from_true (is_line_end b) e }
      | false ↦ λ e other. plain_more b bytes (body_length false bytes) other (not_from_false (is_line_end b) e) more
    ] in
    let at : (t : Bool) → (b == 34) ≡ t → BodyJudged (b ∷ bytes) (cond t (body_length true bytes) (cond (is_line_end b) None (add_to 1 (body_length false bytes)))) = elim [
      | true ↦ λ e. subst (λ (c : ℕ). BodyJudged (c ∷ bytes) (body_length true bytes)) (sym (eqb-true b 34 e)) closed
      | false ↦ λ e. line (is_line_end b) refl e
    ] in at (b == 34) refl

-- a content that is quoted is read as itself
pub content_again : (content : List ℕ) → content_of false (quoted content) ≡ content
content_again [] = refl
content_again (b ∷ content) =
    let more = content_again content in
    let at : (t : Bool) → (b == 34) ≡ t → content_of false (cond t (34 ∷ 34 ∷ quoted content) (b ∷ quoted content)) ≡ b ∷ content = elim [
      | true ↦ λ e. ap (λ (us : List ℕ). 34 ∷ us) more ∙ ap (λ (c : ℕ). c ∷ content) (sym (eqb-true b 34 e))
      | false ↦ λ e. rw e (ap (λ (us : List ℕ). b ∷ us) more)
    ] in at (b == 34) refl

-- a closed body is measured
pub closed_again : (content rest : List ℕ) → Passes in_line (quoted content) → Stops is_quotation_mark rest → body_length false (quoted content ++ 34 ∷ rest) ≡ Some (length (quoted content))
closed_again [] [] pass ends = refl
closed_again [] (c ∷ rest) pass ends = rw ends refl
closed_again (b ∷ content) rest pass ends =
    let more = closed_again content rest in
    let at : (t : Bool) → (b == 34) ≡ t → Passes in_line (cond t (34 ∷ 34 ∷ quoted content) (b ∷ quoted content)) → body_length false (cond t (34 ∷ 34 ∷ quoted content) (b ∷ quoted content) ++ 34 ∷ rest) ≡ Some (length (cond t (34 ∷ 34 ∷ quoted content) (b ∷ quoted content))) = elim [
      | true ↦ λ e p. let n = length (quoted content) in let two : 2 + n ≡ length (34 ∷ 34 ∷ quoted content) = omega arith in ap (add_to 2) (more p.1.1 ends) ∙ ap Some two
      | false ↦ λ e p.
          let line : is_line_end b ≡ false = not-true (is_line_end b) p.0 in
          let one : 1 + length (quoted content) ≡ length (b ∷ quoted content) = omega arith in
          rw (e, line) (ap (add_to 1) (more p.1 ends) ∙ ap Some one)
    ] in at (b == 34) refl pass

-- an open body has no length
pub open_again : (content rest : List ℕ) → Passes in_line (quoted content) → Stops in_line rest → body_length false (quoted content ++ rest) ≡ None
open_again [] [] pass ends = refl
open_again [] (c ∷ rest) pass ends =
    let line : is_line_end c ≡ true = not-false (is_line_end c) ends in
    let low : c ≤ 13 = leb-true c 13 (and_parts (leb 10 c) (leb c 13) line).1 in
    let other : (c == 34) ≡ false = ne_eqb c 34 (λ e. absurd (omega arith)) in
    rw (other, line) refl
open_again (b ∷ content) rest pass ends =
    let more = open_again content rest in
    let at : (t : Bool) → (b == 34) ≡ t → Passes in_line (cond t (34 ∷ 34 ∷ quoted content) (b ∷ quoted content)) → body_length false (cond t (34 ∷ 34 ∷ quoted content) (b ∷ quoted content) ++ rest) ≡ None = elim [
      | true ↦ λ e p. ap (add_to 2) (more p.1.1 ends)
      | false ↦ λ e p.
          let line : is_line_end b ≡ false = not-true (is_line_end b) p.0 in
          rw (e, line) (ap (add_to 1) (more p.1 ends))
    ] in at (b == 34) refl pass
