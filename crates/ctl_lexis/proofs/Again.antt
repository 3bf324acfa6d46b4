-- Each piece at the front of a text is read as itself, and each fault too.
use Rattle.std.proofs.Common.{◌≡◌, ℕ, ◌+◌, ◌-◌, ◌≤◌, Bool, true, false, ◌&&◌, ◌==◌, cond, ltb, List, [], ◌∷◌, ◌++◌, length, take, drop, get_or, Option, Some, None, Ok, Err, refl, sym, ap, subst, ◌∙◌, append_assoc, arith}
use Rattle.std.proofs.lemmas.Bool.{eqb-true, lt-ltb, le-ltb, and_parts, false_from_ne_true, true≢false}
use Rattle.std.proofs.lemmas.List.{length-append, take_at, append-nil}
use Rattle.ctl_tree.specs.declared.token.Kind.{Kind}
use Rattle.ctl_tree.specs.declared.token.Kind.TheVariants as kind
use Rattle.ctl_tree.specs.declared.fault.FaultCode.{FaultCode}
use Rattle.ctl_tree.specs.declared.fault.FaultCode.TheVariants.{BadByte}
use Rattle.ctl_lexis.specs.declared.class.ByteClass.{ByteClass}
use Rattle.ctl_lexis.specs.declared.class.ByteClass.TheVariants.{Blank, Letter, Digit, Quote, Other}
use Rattle.ctl_lexis.specs.declared.shape.Shape.{Shape}
use Rattle.ctl_lexis.specs.declared.shape.Shape.TheVariants.{Gap, Fixed, Identifier, Number, String}
use Rattle.ctl_lexis.specs.Bytes.{class_of, run, is_blank, is_graphic, in_name, in_number, in_line}
use Rattle.ctl_lexis.specs.Spelling.{spelling}
use Rattle.ctl_lexis.specs.Pieces.{Passes, Piece, gap, lexeme, value_from, quoted, IsName, IsNumeral, IsClosed, IsDelimiter, IsPiece, blank, comment, word, identifier, number, string, delimiter}
use Rattle.ctl_lexis.specs.Lexis.{IsFault, bad_byte, bad_identifier, bad_number, open_string, bad_byte_inside}
use Rattle.ctl_lexis.specs.Reading.{Front, word_of, name_of, name_at, number_of, number_at, body_length, content_of, string_of, closed_string, string_at, simple_delimiter, compound_delimiter, simple_or_fault, longest_delimiter, comment_at, mark_at, front_by, front_of, piece_of}
use Rattle.ctl_lexis.proofs.Runs.{run_again, taken, dropped}
use Rattle.ctl_lexis.proofs.WordLookup.{found_spelled, spelled_found}
use Rattle.ctl_lexis.proofs.DelimiterLookup.{simple_spelled, compound_spelled, simple_found, compound_found, at_most_two}
use Rattle.ctl_lexis.proofs.StringBody.{closed_again, open_again, content_again}
use Rattle.ctl_lexis.proofs.Judged.{is_letter_of}

-- the piece is read at the front, whatever follows as it must
pub record Again (piece : Piece) (text rest : List ℕ) : Type 0 where
  pub shape : Shape
  pub reads : front_of (text ++ rest) ≡ Ok (shape, length text)
  pub same : piece_of shape text ≡ piece

-- the front of a text is read by the class of its first byte
front_as : (b : ℕ) (bytes : List ℕ) (c : ByteClass) → class_of b ≡ c → front_of (b ∷ bytes) ≡ front_by c (b ∷ bytes)
unfolding front_of
front_as b bytes c e = ap (λ (d : ByteClass). front_by d (b ∷ bytes)) e

class_of_blank : (b : ℕ) → is_blank b ≡ true → class_of b ≡ Blank
unfolding class_of
class_of_blank b e = rw e refl

class_of_quote : class_of 34 ≡ Quote
unfolding class_of
class_of_quote = refl

class_of_dash : class_of 45 ≡ Other
unfolding class_of
class_of_dash = refl

name_again : (text rest : List ℕ) → IsName text rest → front_of (text ++ rest) ≡ name_of text
unfolding name_at
name_again text rest name =
    let whole : text ++ rest ≡ name.first ∷ (name.more ++ rest) = ap (λ (us : List ℕ). us ++ rest) name.parts in
    ap front_of whole ∙ front_as name.first (name.more ++ rest) Letter name.begins ∙ ap (front_by Letter) (sym whole) ∙ ap name_of (taken in_name text rest (run_again in_name text rest name.goes_on name.ends))

number_again : (text rest : List ℕ) → IsNumeral text rest → front_of (text ++ rest) ≡ number_of text rest
unfolding number_at
number_again text rest numeral =
    let whole : text ++ rest ≡ numeral.first ∷ (numeral.more ++ rest) = ap (λ (us : List ℕ). us ++ rest) numeral.parts in
    let len = run_again in_number text rest numeral.goes_on numeral.ends in
    ap front_of whole ∙ front_as numeral.first (numeral.more ++ rest) Digit numeral.begins ∙ ap (front_by Digit) (sym whole)
    ∙ ap (λ (us : List ℕ). number_of us (drop (run in_number (text ++ rest)) (text ++ rest))) (taken in_number text rest len) ∙ ap (number_of text) (dropped in_number text rest len)

-- a closed string is judged by the bytes in it
string_again : (body text rest : List ℕ) → IsClosed body text rest → front_of (text ++ rest) ≡ cond (ltb (run is_graphic body) (length body)) (Err (BadByte, 1 + run is_graphic body)) (Ok (String, length body + 2))
unfolding string_at string_of
string_again body text rest closed =
    let behind = body ++ 34 ∷ rest in
    let whole : text ++ rest ≡ 34 ∷ behind = ap (λ (us : List ℕ). us ++ rest) closed.parts ∙ ap (λ (us : List ℕ). 34 ∷ us) (append_assoc body (34 ∷ []) rest) in
    let measured : body_length false behind ≡ Some (length body) = subst (λ (us : List ℕ). body_length false (us ++ 34 ∷ rest) ≡ Some (length us)) (sym closed.doubled) (closed_again closed.content rest (subst (Passes in_line) closed.doubled closed.one_line) closed.ends) in
    let front : take (length body) behind ≡ body = take_at body (34 ∷ rest) (length body) refl in
    ap front_of whole ∙ front_as 34 behind Quote class_of_quote ∙ ap (closed_string behind) measured
    ∙ ap (λ (us : List ℕ). cond {A = Front} (ltb (run is_graphic us) (length body)) (Err (BadByte, 1 + run is_graphic us)) (Ok (String, length body + 2))) front

run_whole : (p : ℕ → Bool) (body : List ℕ) → Passes p body → run p body ≡ length body
run_whole p body pass = ap (run p) (sym (append-nil body)) ∙ run_again p body [] pass tt

-- two hyphens are a comment, and nothing else here
no_dashes_again : (b : ℕ) (bytes : List ℕ) → ((behind : List ℕ) → b ∷ bytes ≡ 45 ∷ 45 ∷ behind → ⊥) → (b == 45 && get_or bytes 0 0 == 45) ≡ false
no_dashes_again b [] none = false_from_ne_true (b == 45 && 0 == 45) (λ e. true≢false (sym (and_parts (b == 45) false e).1))
no_dashes_again b (c ∷ bytes) none =
    false_from_ne_true (b == 45 && c == 45) (λ e.
    let parts = and_parts (b == 45) (c == 45) e in
    none bytes (ap (λ (x : ℕ). x ∷ c ∷ bytes) (eqb-true b 45 parts.0) ∙ ap (λ (x : ℕ). 45 ∷ x ∷ bytes) (eqb-true c 45 parts.1)))

mark_again : (b : ℕ) (bytes : List ℕ) → class_of b ≡ Other → (b == 45 && get_or bytes 0 0 == 45) ≡ false → front_of (b ∷ bytes) ≡ longest_delimiter (compound_delimiter b (get_or bytes 0 0)) (simple_delimiter b)
unfolding mark_at
mark_again b bytes other test = front_as b bytes Other other ∙ rw test refl

delimiter_again : (k : Kind) (text rest : List ℕ) → IsDelimiter k text rest → front_of (text ++ rest) ≡ Ok (Fixed k, length text)
delimiter_again k text rest d =
    let b = d.first in
    let begun : (us : List ℕ) → text ≡ b ∷ us → front_of (text ++ rest) ≡ Ok (Fixed k, length text) = elim [
      | [] ↦ λ e.
          let test = no_dashes_again b rest (λ behind f. d.no_comment behind (ap (λ (us : List ℕ). us ++ rest) e ∙ f)) in
          let none : (o : Option Kind) → compound_delimiter b (get_or rest 0 0) ≡ o → o ≡ None = elim [
            | None ↦ λ f. refl
            | Some j ↦ λ f.
                let longer : (us : List ℕ) → rest ≡ us → compound_delimiter b (get_or us 0 0) ≡ Some j → Some j ≡ None = elim [
                  | [] ↦ λ g h. let spelled = compound_spelled b 0 j h in absurd (omega (arith, spelled.1))
                  | c ∷ us ↦ λ g h.
                      let spelled = compound_spelled b c j h in
                      let whole : text ++ rest ≡ spelling j ++ us = ap (λ (vs : List ℕ). vs ++ rest) e ∙ ap (λ (vs : List ℕ). b ∷ vs) g ∙ ap (λ (vs : List ℕ). vs ++ us) (sym spelled.0) in
                      absurd (omega (arith, d.longest j us whole, ap length e, ap length spelled.0))
                ] in longer rest refl f
          ] in
          let found = simple_found k b d.begins (sym d.spelled ∙ e) in
          ap (λ (us : List ℕ). front_of (us ++ rest)) e ∙ mark_again b rest d.begins test ∙ ap (λ (o : Option Kind). longest_delimiter o (simple_delimiter b)) (none (compound_delimiter b (get_or rest 0 0)) refl) ∙ ap simple_or_fault found ∙ ap (λ (us : List ℕ). Ok (Fixed k, length us)) (sym e)
      | c ∷ us ↦ λ e.
          let short : length (spelling k) ≤ 2 = at_most_two k b (c ∷ us) [] d.begins (sym e ∙ d.spelled ∙ sym (append-nil (spelling k))) in
          let two : (vs : List ℕ) → us ≡ vs → front_of (text ++ rest) ≡ Ok (Fixed k, length text) = elim [
            | [] ↦ λ f.
                let g : text ≡ b ∷ c ∷ [] = e ∙ ap (λ (ws : List ℕ). b ∷ c ∷ ws) f in
                let test = no_dashes_again b (c ∷ rest) (λ behind h. d.no_comment behind (ap (λ (ws : List ℕ). ws ++ rest) g ∙ h)) in
                let found = compound_found k b c d.begins (sym d.spelled ∙ g) in
                ap (λ (ws : List ℕ). front_of (ws ++ rest)) g ∙ mark_again b (c ∷ rest) d.begins test ∙ ap (λ (o : Option Kind). longest_delimiter o (simple_delimiter b)) found ∙ ap (λ (ws : List ℕ). Ok (Fixed k, length ws)) (sym g)
            | v ∷ vs ↦ λ f. absurd (omega (arith, short, ap length d.spelled, ap length e, ap length f))
          ] in two us refl
    ] in begun d.more d.parts

pub piece_again : (piece : Piece) (text rest : List ℕ) → IsPiece piece text rest → Again piece text rest
unfolding name_of number_of mark_at comment_at
piece_again piece text rest (blank {b} e) = record { shape = Gap; reads = front_as b rest Blank (class_of_blank b e); same = refl }
piece_again piece text rest (comment c) =
    let len : run in_line (c.body ++ rest) + 2 ≡ length (45 ∷ 45 ∷ c.body) = omega (arith, run_again in_line c.body rest c.goes_on c.ends) in
    let reads : front_of (45 ∷ 45 ∷ (c.body ++ rest)) ≡ Ok (Gap, length (45 ∷ 45 ∷ c.body)) = front_as 45 (45 ∷ (c.body ++ rest)) Other class_of_dash ∙ ap (λ (n : ℕ). Ok (Gap, n)) len in
    subst (λ (us : List ℕ). Again gap us rest) (sym c.parts) (record { shape = Gap; reads = reads; same = refl })
piece_again piece text rest (word {kind = k} name single spells) =
    let found = spelled_found text name.first name.more k name.parts (is_letter_of name.first name.begins) spells in
    record { shape = Fixed k; reads = name_again text rest name ∙ rw (single, found) refl; same = refl }
piece_again piece text rest (identifier name single other) =
    let none : (o : Option Kind) → word_of text ≡ o → o ≡ None = elim [
      | None ↦ λ e. refl
      | Some k ↦ λ e. absurd (other k (found_spelled text k e))
    ] in
    record { shape = Identifier; reads = name_again text rest name ∙ rw (single, none (word_of text) refl) refl; same = refl }
piece_again piece text rest (number numeral is) = record { shape = Number (value_from 0 text); reads = number_again text rest numeral ∙ rw is refl; same = refl }
piece_again piece text rest (string {content} closed graphic) =
    let body = quoted content in
    let all : run is_graphic body ≡ length body = run_whole is_graphic body graphic in
    let good : ltb (run is_graphic body) (length body) ≡ false = le-ltb (run is_graphic body) (length body) (omega (arith, all)) in
    let len : length body + 2 ≡ length text = omega (arith, ap length closed.parts, length-append body (34 ∷ [])) in
    let inner : take (length text - 2) (drop 1 text) ≡ body = ap (λ (us : List ℕ). take (length text - 2) (drop 1 us)) closed.parts ∙ take_at body (34 ∷ []) (length text - 2) (omega (arith, len)) in
    record { shape = String; reads = string_again body text rest closed ∙ rw good (ap (λ (n : ℕ). Ok (String, n)) len); same = ap (λ (us : List ℕ). lexeme kind.String us 0) (ap (content_of false) inner ∙ content_again content) }
piece_again piece text rest (delimiter {kind = k} d) = record { shape = Fixed k; reads = delimiter_again k text rest d; same = refl }

pub fault_again : (fault : FaultCode) (before bytes : List ℕ) → IsFault fault before bytes → front_of bytes ≡ Err (fault, length before)
unfolding name_of number_of string_at
fault_again fault before bytes (bad_byte {b} {rest} other none) =
    let no_simple : (o : Option Kind) → simple_delimiter b ≡ o → o ≡ None = elim [
      | None ↦ λ e. refl
      | Some k ↦ λ e. absurd (none k [] (simple_spelled b k e))
    ] in
    let no_compound : (o : Option Kind) → compound_delimiter b (get_or rest 0 0) ≡ o → o ≡ None = elim [
      | None ↦ λ e. refl
      | Some k ↦ λ e. absurd (none k (get_or rest 0 0 ∷ []) (compound_spelled b (get_or rest 0 0) k e).0)
    ] in
    let test = no_dashes_again b rest (λ behind e. let is : b ≡ 45 = cc in none kind.Minus [] (ap (λ (c : ℕ). c ∷ []) (sym is))) in
    mark_again b rest other test ∙ rw (no_compound (compound_delimiter b (get_or rest 0 0)) refl, no_simple (simple_delimiter b) refl) refl
fault_again fault before bytes (bad_identifier {text} {rest} name single) = name_again text rest name ∙ rw single refl
fault_again fault before bytes (bad_number {text} {rest} numeral is) = number_again text rest numeral ∙ rw is refl
fault_again fault before bytes (open_string content rest pass ends) =
    front_as 34 (quoted content ++ rest) Quote class_of_quote ∙ ap (closed_string (quoted content ++ rest)) (open_again content rest pass ends)
fault_again fault before bytes (bad_byte_inside {good} {text} {rest} bad more closed graphic stops) =
    let body = good ++ bad ∷ more in
    let len : run is_graphic body ≡ length good = run_again is_graphic good (bad ∷ more) graphic stops in
    let less : ltb (run is_graphic body) (length body) ≡ true = lt-ltb (run is_graphic body) (length body) (omega (arith, len, length-append good (bad ∷ more))) in
    let place : 1 + run is_graphic body ≡ length (34 ∷ good) = omega (arith, len) in
    string_again body text rest closed ∙ rw less (ap (λ (n : ℕ). Err (BadByte, n)) place)
