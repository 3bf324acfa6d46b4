-- What is read at the front of a text is a piece of it, and a fault that is read there is one.
use Rattle.std.proofs.Common.{◌≡◌, ℕ, ◌+◌, ◌-◌, ◌<◌, ◌≤◌, Bool, true, false, ◌&&◌, ◌==◌, cond, ltb, List, [], ◌∷◌, ◌++◌, length, take, drop, get_or, Option, Some, None, Ok, Err, refl, sym, ap, subst, ◌∙◌, append_assoc, arith}
use Rattle.std.proofs.lemmas.Bool.{eqb-true, ltb-true, ltb-false, and_parts, or_left, true≢false}
use Rattle.std.proofs.lemmas.List.{length-append, take_at, append-nil}
use Rattle.ctl_tree.specs.declared.token.Kind.{Kind}
use Rattle.ctl_tree.specs.declared.token.Kind.TheVariants as kind
use Rattle.ctl_tree.specs.declared.fault.FaultCode.{FaultCode}
use Rattle.ctl_tree.specs.declared.fault.FaultCode.TheVariants.{BadByte, BadNumber, OpenString, BadIdentifier}
use Rattle.ctl_lexis.specs.declared.class.ByteClass.{ByteClass}
use Rattle.ctl_lexis.specs.declared.class.ByteClass.TheVariants.{Blank, Letter, Digit, Quote, Other}
use Rattle.ctl_lexis.specs.declared.shape.Shape.{Shape}
use Rattle.ctl_lexis.specs.declared.shape.Shape.TheVariants.{Gap, Fixed, Number, String}
use Rattle.ctl_lexis.specs.Bytes.{class_of, run, is_blank, is_letter, is_digit, is_graphic, in_name, in_number, in_line}
use Rattle.ctl_lexis.specs.Pieces.{Passes, Stops, lexeme, has_single_underscores, is_number, value_from, quoted, IsName, IsNumeral, IsClosed, IsPiece, blank, comment, word, identifier, number, string, delimiter}
use Rattle.ctl_lexis.specs.Lexis.{IsFault, bad_byte, bad_identifier, bad_number, open_string, bad_byte_inside}
use Rattle.ctl_lexis.specs.Reading.{Front, word_of, word_shape, name_of, name_at, number_of, number_at, body_length, content_of, string_of, closed_string, string_at, simple_delimiter, compound_delimiter, simple_or_fault, longest_delimiter, comment_at, mark_at, front_by, front_of, piece_of}
use Rattle.ctl_lexis.proofs.Runs.{run_of, run_from, taken, dropped}
use Rattle.ctl_lexis.proofs.WordLookup.{found_spelled, spelled_found}
use Rattle.ctl_lexis.proofs.DelimiterLookup.{simple_spelled, compound_spelled, delimiter_found, at_most_two, at_most_one}
use Rattle.ctl_lexis.proofs.StringBody.{Closes, BodyJudged, body_judged, content_again}

-- the first bytes are a piece of this shape and of n bytes
pub record Found (bytes : List ℕ) (shape : Shape) (n : ℕ) : Type 0 where
  pub text : List ℕ
  pub rest : List ℕ
  pub parts : bytes ≡ text ++ rest
  pub is : IsPiece (piece_of shape text) text rest
  pub len : n ≡ length text
  pub some : 1 ≤ n

-- a fault stands n bytes behind the front
pub record Refused (bytes : List ℕ) (code : FaultCode) (n : ℕ) : Type 0 where
  pub before : List ℕ
  pub behind : List ℕ
  pub parts : bytes ≡ before ++ behind
  pub is : IsFault code before bytes
  pub len : n ≡ length before

abbrev pub Judged : List ℕ → Front → Type 0
Judged bytes (Ok f) = Found bytes f.0 f.1
Judged bytes (Err e) = Refused bytes e.0 e.1

-- a fault at the front
at_front : (bytes : List ℕ) (fault : FaultCode) → IsFault fault [] bytes → Refused bytes fault 0
at_front bytes fault is = record { before = []; behind = bytes; parts = refl; is = is; len = refl }

-- what a class says of a byte
pick_blank : (x y z w : Bool) → cond x Blank (cond y Letter (cond z Digit (cond w Quote Other))) ≡ Blank → x ≡ true
pick_blank true y z w e = refl
pick_blank false true z w e = absurd cc
pick_blank false false true w e = absurd cc
pick_blank false false false true e = absurd cc
pick_blank false false false false e = absurd cc

pick_letter : (x y z w : Bool) → cond x Blank (cond y Letter (cond z Digit (cond w Quote Other))) ≡ Letter → y ≡ true
pick_letter true y z w e = absurd cc
pick_letter false true z w e = refl
pick_letter false false true w e = absurd cc
pick_letter false false false true e = absurd cc
pick_letter false false false false e = absurd cc

pick_digit : (x y z w : Bool) → cond x Blank (cond y Letter (cond z Digit (cond w Quote Other))) ≡ Digit → z ≡ true
pick_digit true y z w e = absurd cc
pick_digit false true z w e = absurd cc
pick_digit false false true w e = refl
pick_digit false false false true e = absurd cc
pick_digit false false false false e = absurd cc

pick_quote : (x y z w : Bool) → cond x Blank (cond y Letter (cond z Digit (cond w Quote Other))) ≡ Quote → w ≡ true
pick_quote true y z w e = absurd cc
pick_quote false true z w e = absurd cc
pick_quote false false true w e = absurd cc
pick_quote false false false true e = refl
pick_quote false false false false e = absurd cc

pub is_blank_of : (b : ℕ) → class_of b ≡ Blank → is_blank b ≡ true
unfolding class_of
is_blank_of b e = pick_blank (is_blank b) (is_letter b) (is_digit b) (b == 34) e

pub is_letter_of : (b : ℕ) → class_of b ≡ Letter → is_letter b ≡ true
unfolding class_of
is_letter_of b e = pick_letter (is_blank b) (is_letter b) (is_digit b) (b == 34) e

pub is_digit_of : (b : ℕ) → class_of b ≡ Digit → is_digit b ≡ true
unfolding class_of
is_digit_of b e = pick_digit (is_blank b) (is_letter b) (is_digit b) (b == 34) e

pub is_quote_of : (b : ℕ) → class_of b ≡ Quote → b ≡ 34
unfolding class_of
is_quote_of b e = eqb-true b 34 (pick_quote (is_blank b) (is_letter b) (is_digit b) (b == 34) e)

-- a name that was cut off
name_of_judged : (text rest : List ℕ) → IsName text rest → Judged (text ++ rest) (name_of text)
unfolding name_of
name_of_judged text rest name =
    let some : 1 ≤ length text = omega (arith, ap length name.parts) in
    let which : (o : Option Kind) → word_of text ≡ o → has_single_underscores false text ≡ true → Found (text ++ rest) (word_shape o) (length text) = elim [
      | None ↦ λ e single. record { text = text; rest = rest; parts = refl; is = identifier name single (λ k spells. let found : Some k ≡ None = sym (spelled_found text name.first name.more k name.parts (is_letter_of name.first name.begins) spells) ∙ e in absurd cc); len = refl; some = some }
      | Some k ↦ λ e single. record { text = text; rest = rest; parts = refl; is = word name single (found_spelled text k e); len = refl; some = some }
    ] in
    let at : (t : Bool) → has_single_underscores false text ≡ t → Judged (text ++ rest) (cond {A = Front} t (Ok (word_shape (word_of text), length text)) (Err (BadIdentifier, 0))) = elim [
      | true ↦ λ e. which (word_of text) refl e
      | false ↦ λ e. at_front (text ++ rest) BadIdentifier (bad_identifier name e)
    ] in at (has_single_underscores false text) refl

name_judged : (b : ℕ) (bytes : List ℕ) → class_of b ≡ Letter → Judged (b ∷ bytes) (name_at (b ∷ bytes))
unfolding name_at
name_judged b bytes letter =
    let found = run_from in_name b bytes (or_left (is_letter b) _ (is_letter_of b letter)) in
    let r = found.0 in
    let len : run in_name (r.body ++ r.rest) ≡ length r.body = sym (ap (run in_name) r.parts) ∙ r.len in
    let name : IsName r.body r.rest = record { first = b; more = found.1; parts = found.2; begins = letter; goes_on = r.pass; ends = r.stops } in
    subst (λ (us : List ℕ). Judged us (name_of (take (run in_name us) us))) (sym r.parts) (rw (taken in_name r.body r.rest len) (name_of_judged r.body r.rest name))

number_of_judged : (text rest : List ℕ) → IsNumeral text rest → Judged (text ++ rest) (number_of text rest)
unfolding number_of
number_of_judged text rest numeral =
    let some : 1 ≤ length text = omega (arith, ap length numeral.parts) in
    let at : (t : Bool) → is_number text rest ≡ t → Judged (text ++ rest) (cond {A = Front} t (Ok (Number (value_from 0 text), length text)) (Err (BadNumber, 0))) = elim [
      | true ↦ λ e. record { text = text; rest = rest; parts = refl; is = number numeral e; len = refl; some = some }
      | false ↦ λ e. at_front (text ++ rest) BadNumber (bad_number numeral e)
    ] in at (is_number text rest) refl

number_judged : (b : ℕ) (bytes : List ℕ) → class_of b ≡ Digit → Judged (b ∷ bytes) (number_at (b ∷ bytes))
unfolding number_at
number_judged b bytes digit =
    let found = run_from in_number b bytes (or_left (is_digit b) _ (is_digit_of b digit)) in
    let r = found.0 in
    let len : run in_number (r.body ++ r.rest) ≡ length r.body = sym (ap (run in_number) r.parts) ∙ r.len in
    let numeral : IsNumeral r.body r.rest = record { first = b; more = found.1; parts = found.2; begins = digit; goes_on = r.pass; ends = r.stops } in
    subst (λ (us : List ℕ). Judged us (number_of (take (run in_number us) us) (drop (run in_number us) us))) (sym r.parts) (rw (taken in_number r.body r.rest len, dropped in_number r.body r.rest len) (number_of_judged r.body r.rest numeral))

-- a body that was measured, whose bytes pass up to this rest
string_of_judged : (bytes : List ℕ) (n : ℕ) → Closes bytes n → Judged (34 ∷ bytes) (string_of n bytes)
unfolding string_of
string_of_judged bytes n j =
    let body = quoted j.content in
    let text : List ℕ = 34 ∷ (body ++ 34 ∷ []) in
    let front : take n bytes ≡ body = ap (take n) j.parts ∙ take_at body (34 ∷ j.rest) n (sym j.len) in
    let whole : 34 ∷ bytes ≡ text ++ j.rest = ap (λ (us : List ℕ). 34 ∷ us) (j.parts ∙ sym (append_assoc body (34 ∷ []) j.rest)) in
    let closed : IsClosed body text j.rest = record { content = j.content; doubled = refl; parts = refl; one_line = j.one_line; ends = j.ends } in
    let r = run_of is_graphic body in
    let inside : (more : List ℕ) → r.rest ≡ more → Stops is_graphic more → run is_graphic body < n → Refused (34 ∷ bytes) BadByte (1 + run is_graphic body) = elim [
      | [] ↦ λ e stops less. absurd (omega (arith, j.len, r.len, ap length (r.parts ∙ ap (λ (us : List ℕ). r.body ++ us) e ∙ append-nil r.body)))
      | bad ∷ more ↦ λ e stops less.
          let split : body ≡ r.body ++ bad ∷ more = r.parts ∙ ap (λ (us : List ℕ). r.body ++ us) e in
          let parts : 34 ∷ bytes ≡ (34 ∷ r.body) ++ ((bad ∷ more) ++ 34 ∷ j.rest) = ap (λ (us : List ℕ). 34 ∷ us) (j.parts ∙ ap (λ (us : List ℕ). us ++ 34 ∷ j.rest) split ∙ append_assoc r.body (bad ∷ more) (34 ∷ j.rest)) in
          record { before = 34 ∷ r.body; behind = (bad ∷ more) ++ 34 ∷ j.rest; parts = parts; is = subst (IsFault BadByte (34 ∷ r.body)) (sym whole) (bad_byte_inside bad more (subst (λ (us : List ℕ). IsClosed us text j.rest) split closed) r.pass stops); len = omega (arith, r.len) }
    ] in
    let good : (more : List ℕ) → r.rest ≡ more → n ≤ run is_graphic body → Passes is_graphic body = elim [
      | [] ↦ λ e all. subst (Passes is_graphic) (sym (r.parts ∙ ap (λ (us : List ℕ). r.body ++ us) e ∙ append-nil r.body)) r.pass
      | bad ∷ more ↦ λ e all. absurd (omega (arith, j.len, r.len, ap length (r.parts ∙ ap (λ (us : List ℕ). r.body ++ us) e), length-append r.body (bad ∷ more)))
    ] in
    let len : n + 2 ≡ length text = omega (arith, j.len, length-append body (34 ∷ [])) in
    let inner : take (length text - 2) (body ++ 34 ∷ []) ≡ body = take_at body (34 ∷ []) (length text - 2) (omega (arith, j.len, len)) in
    let content : content_of false (take (length text - 2) (body ++ 34 ∷ [])) ≡ j.content = ap (content_of false) inner ∙ content_again j.content in
    let at : (t : Bool) → ltb (run is_graphic body) n ≡ t → Judged (34 ∷ bytes) (cond {A = Front} t (Err (BadByte, 1 + run is_graphic body)) (Ok (String, n + 2))) = elim [
      | true ↦ λ e. inside r.rest refl r.stops (ltb-true (run is_graphic body) n e)
      | false ↦ λ e. record { text = text; rest = j.rest; parts = whole; is = subst (λ (us : List ℕ). IsPiece (lexeme kind.String us 0) text j.rest) (sym content) (string closed (good r.rest refl (ltb-false (run is_graphic body) n e))); len = len; some = omega arith }
    ] in
    rw front (at (ltb (run is_graphic body) n) refl)

string_judged : (bytes : List ℕ) → Judged (34 ∷ bytes) (string_at (34 ∷ bytes))
unfolding string_at
string_judged bytes =
    let at : (o : Option ℕ) → BodyJudged bytes o → Judged (34 ∷ bytes) (closed_string bytes o) = elim [
      | None ↦ λ j. at_front (34 ∷ bytes) OpenString (subst (λ (us : List ℕ). IsFault OpenString [] (34 ∷ us)) (sym j.parts) (open_string j.content j.rest j.one_line j.ends))
      | Some n ↦ λ j. string_of_judged bytes n j
    ] in at (body_length false bytes) (body_judged false bytes)

-- no comment begins
no_dashes : (b : ℕ) (bytes : List ℕ) → (b == 45 && get_or bytes 0 0 == 45) ≡ false → (behind : List ℕ) → b ∷ bytes ≡ 45 ∷ 45 ∷ behind → ⊥
no_dashes b bytes test behind e =
    let first : b ≡ 45 = cc in
    let rest : bytes ≡ 45 ∷ behind = cc in
    let dashes : (45 == 45 && get_or (45 ∷ behind) 0 0 == 45) ≡ false = subst (λ (us : List ℕ). (45 == 45 && get_or us 0 0 == 45) ≡ false) rest (subst (λ (c : ℕ). (c == 45 && get_or bytes 0 0 == 45) ≡ false) first test) in
    true≢false dashes

comment_judged : (bytes : List ℕ) → Found (45 ∷ 45 ∷ bytes) Gap (run in_line bytes + 2)
comment_judged bytes =
    let r = run_of in_line bytes in
    record { text = 45 ∷ 45 ∷ r.body; rest = r.rest; parts = ap (λ (us : List ℕ). 45 ∷ 45 ∷ us) r.parts; is = comment (record { body = r.body; parts = refl; goes_on = r.pass; ends = r.stops }); len = omega (arith, r.len); some = omega arith }

compound_judged : (b : ℕ) (bytes : List ℕ) (k : Kind) → class_of b ≡ Other → (b == 45 && get_or bytes 0 0 == 45) ≡ false → compound_delimiter b (get_or bytes 0 0) ≡ Some k → Found (b ∷ bytes) (Fixed k) 2
compound_judged b [] k other test e = let spelled = compound_spelled b 0 k e in absurd (omega (arith, spelled.1))
compound_judged b (c ∷ bytes) k other test e =
    let spelled = compound_spelled b c k e in
    record { text = b ∷ c ∷ []; rest = bytes; parts = refl; is = delimiter (record { first = b; more = c ∷ []; parts = refl; begins = other; spelled = sym spelled.0; longest = λ longer behind f. at_most_two longer b (c ∷ bytes) behind other f; no_comment = no_dashes b (c ∷ bytes) test }); len = refl; some = omega arith }

simple_judged : (b : ℕ) (bytes : List ℕ) → class_of b ≡ Other → (b == 45 && get_or bytes 0 0 == 45) ≡ false → compound_delimiter b (get_or bytes 0 0) ≡ None → (o : Option Kind) → simple_delimiter b ≡ o → Judged (b ∷ bytes) (simple_or_fault o)
simple_judged b bytes other test none None e = at_front (b ∷ bytes) BadByte (bad_byte other (λ k more spelled. delimiter_found k b more other spelled e))
simple_judged b bytes other test none (Some k) e =
    record { text = b ∷ []; rest = bytes; parts = refl; is = delimiter (record { first = b; more = []; parts = refl; begins = other; spelled = sym (simple_spelled b k e); longest = λ longer behind f. at_most_one longer b bytes behind other f none; no_comment = no_dashes b bytes test }); len = refl; some = omega arith }

mark_judged : (b : ℕ) (bytes : List ℕ) → class_of b ≡ Other → Judged (b ∷ bytes) (mark_at (b ∷ bytes))
unfolding mark_at comment_at
mark_judged b bytes other =
    let dashes : (us : List ℕ) → (b == 45 && get_or us 0 0 == 45) ≡ true → Found (b ∷ us) Gap (run in_line (drop 1 us) + 2) = elim [
      | [] ↦ λ e. absurd (true≢false (sym (and_parts (b == 45) false e).1))
      | c ∷ us ↦ λ e.
          let parts = and_parts (b == 45) (c == 45) e in
          subst (λ (x : ℕ). Found (x ∷ c ∷ us) Gap (run in_line us + 2)) (sym (eqb-true b 45 parts.0)) (subst (λ (x : ℕ). Found (45 ∷ x ∷ us) Gap (run in_line us + 2)) (sym (eqb-true c 45 parts.1)) (comment_judged us))
    ] in
    let compound : (o : Option Kind) → compound_delimiter b (get_or bytes 0 0) ≡ o → (b == 45 && get_or bytes 0 0 == 45) ≡ false → Judged (b ∷ bytes) (longest_delimiter o (simple_delimiter b)) = elim [
      | None ↦ λ e test. simple_judged b bytes other test e (simple_delimiter b) refl
      | Some k ↦ λ e test. compound_judged b bytes k other test e
    ] in
    let at : (t : Bool) → (b == 45 && get_or bytes 0 0 == 45) ≡ t → Judged (b ∷ bytes) (cond {A = Front} t (Ok (Gap, run in_line (drop 1 bytes) + 2)) (longest_delimiter (compound_delimiter b (get_or bytes 0 0)) (simple_delimiter b))) = elim [
      | true ↦ λ e. dashes bytes e
      | false ↦ λ e. compound (compound_delimiter b (get_or bytes 0 0)) refl e
    ] in at (b == 45 && get_or bytes 0 0 == 45) refl

-- Whatever is read at the front of a text stands there.
pub front_judged : (b : ℕ) (bytes : List ℕ) → Judged (b ∷ bytes) (front_of (b ∷ bytes))
unfolding front_of
front_judged b bytes =
    let at : (c : ByteClass) → class_of b ≡ c → Judged (b ∷ bytes) (front_by c (b ∷ bytes)) = elim [
      | Blank ↦ λ e. record { text = b ∷ []; rest = bytes; parts = refl; is = blank (is_blank_of b e); len = refl; some = omega arith }
      | Letter ↦ λ e. name_judged b bytes e
      | Digit ↦ λ e. number_judged b bytes e
      | Quote ↦ λ e. subst (λ (c : ℕ). Judged (c ∷ bytes) (string_at (c ∷ bytes))) (sym (is_quote_of b e)) (string_judged bytes)
      | Other ↦ λ e. mark_judged b bytes e
    ] in at (class_of b) refl
