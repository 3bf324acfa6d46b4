-- A name spells a reserved word exactly where the look-up finds it.
use Rattle.std.proofs.Common.{◌≡◌, ℕ, ◌≤◌, Bool, true, false, ◌&&◌, cond, leb, ltb, List, [], ◌∷◌, length, Option, Some, inl, inr, refl, sym, ap, ◌∙◌, arith}
use Rattle.std.specs.List.{find}
use Rattle.std.specs.Char.{to_ascii_lowercase}
use Rattle.std.specs.Str.{bytes_eq}
use Rattle.std.proofs.lemmas.Bool.{or_cases, and_parts, leb-true, le-ltb, lt-ltb}
use Rattle.std.proofs.lemmas.List.{length-map}
use Rattle.std.proofs.lemmas.Slice.Eq.{bytes_eq-Decides}
use Rattle.ctl_tree.specs.declared.token.Kind.{Kind}
use Rattle.ctl_tree.specs.declared.token.Kind.TheVariants.{Identifier, Number, String, Finish, Ampersand, Apostrophe, LeftParenthesis, RightParenthesis, Star, Plus, Comma, Minus, Dot, Slash, Colon, Semicolon, Less, Equal, Greater, Bar, Arrow, DoubleDot, Becomes, NotEqual, GreaterEqual, LessEqual, Abs}
use Rattle.ctl_lexis.specs.Bytes.{is_letter}
use Rattle.ctl_lexis.specs.Pieces.{in_small_letters, Spells}
use Rattle.ctl_lexis.specs.Spelling.{spelling}
use Rattle.ctl_lexis.specs.Words.{words_of_length}
use Rattle.ctl_lexis.specs.Reading.{has_spelling, word_of}

-- the look-up sees small letters alone
abbrev look_up : List ℕ → Option Kind
look_up small = find (λ k. bytes_eq small (in_small_letters (spelling k))) (words_of_length (length small))

word_of_small : (text : List ℕ) → word_of text ≡ look_up (in_small_letters text)
unfolding word_of has_spelling
word_of_small text =
    ap (λ (n : ℕ). find (λ k. bytes_eq (in_small_letters text) (in_small_letters (spelling k))) (words_of_length n)) (sym (length-map text to_ascii_lowercase))

-- the words are spelled in small letters
small_spelling : (k : Kind) → in_small_letters (spelling k) ≡ spelling k
small_spelling Abs = refl
small_spelling k = refl

find_passes : (p : Kind → Bool) (ks : List Kind) (k : Kind) → find p ks ≡ Some k → p k ≡ true
find_passes p [] k e = absurd cc
find_passes p (x ∷ ks) k e =
    let at : (t : Bool) → p x ≡ t → cond t (Some x) (find p ks) ≡ Some k → p k ≡ true = elim [
      | true ↦ λ q f. let same : x ≡ k = cc in ap p (sym same) ∙ q
      | false ↦ λ q f. find_passes p ks k f
    ] in at (p x) refl e

-- what the look-up finds is spelled
pub found_spelled : (text : List ℕ) (k : Kind) → word_of text ≡ Some k → Spells text k
found_spelled text k e =
    let passes = find_passes (λ j. bytes_eq (in_small_letters text) (in_small_letters (spelling j))) (words_of_length (length (in_small_letters text))) k (sym (word_of_small text) ∙ e) in
    (bytes_eq-Decides (in_small_letters text) (in_small_letters (spelling k))).0 passes ∙ small_spelling k

-- a letter as a small letter
small_letter : (b : ℕ) → is_letter b ≡ true → (97 ≤ to_ascii_lowercase b) × (to_ascii_lowercase b ≤ 122)
small_letter b letter = elim (or_cases (leb 97 b && leb b 122) (leb 65 b && leb b 90) letter) [
  | inl small ↦
      let parts = and_parts (leb 97 b) (leb b 122) small in
      let from : 97 ≤ b = leb-true 97 b parts.0 in
      let to : b ≤ 122 = leb-true b 122 parts.1 in
      let below : ltb b 65 ≡ false = le-ltb b 65 (omega arith) in
      let beyond : ltb b 91 ≡ false = le-ltb b 91 (omega arith) in
      rw (below, beyond) (from, to)
  | inr large ↦
      let parts = and_parts (leb 65 b) (leb b 90) large in
      let from : 65 ≤ b = leb-true 65 b parts.0 in
      let to : b ≤ 90 = leb-true b 90 parts.1 in
      let below : ltb b 65 ≡ false = le-ltb b 65 from in
      let within : ltb b 91 ≡ true = lt-ltb b 91 (omega arith) in
      rw (below, within) (omega arith, omega arith)
]

-- the look-up finds each word that begins with a letter
look_up_finds : (k : Kind) (b : ℕ) (bytes : List ℕ) → (97 ≤ b) × (b ≤ 122) → b ∷ bytes ≡ spelling k → look_up (spelling k) ≡ Some k
unfolding words_of_length
look_up_finds Abs b bytes letter e = refl
look_up_finds Identifier b bytes letter e = absurd cc
look_up_finds Number b bytes letter e = absurd cc
look_up_finds String b bytes letter e = absurd cc
look_up_finds Finish b bytes letter e = absurd cc
look_up_finds Ampersand b bytes letter e = let is : b ≡ 38 = cc in absurd (omega arith)
look_up_finds Apostrophe b bytes letter e = let is : b ≡ 39 = cc in absurd (omega arith)
look_up_finds LeftParenthesis b bytes letter e = let is : b ≡ 40 = cc in absurd (omega arith)
look_up_finds RightParenthesis b bytes letter e = let is : b ≡ 41 = cc in absurd (omega arith)
look_up_finds Star b bytes letter e = let is : b ≡ 42 = cc in absurd (omega arith)
look_up_finds Plus b bytes letter e = let is : b ≡ 43 = cc in absurd (omega arith)
look_up_finds Comma b bytes letter e = let is : b ≡ 44 = cc in absurd (omega arith)
look_up_finds Minus b bytes letter e = let is : b ≡ 45 = cc in absurd (omega arith)
look_up_finds Dot b bytes letter e = let is : b ≡ 46 = cc in absurd (omega arith)
look_up_finds Slash b bytes letter e = let is : b ≡ 47 = cc in absurd (omega arith)
look_up_finds Colon b bytes letter e = let is : b ≡ 58 = cc in absurd (omega arith)
look_up_finds Semicolon b bytes letter e = let is : b ≡ 59 = cc in absurd (omega arith)
look_up_finds Less b bytes letter e = let is : b ≡ 60 = cc in absurd (omega arith)
look_up_finds Equal b bytes letter e = let is : b ≡ 61 = cc in absurd (omega arith)
look_up_finds Greater b bytes letter e = let is : b ≡ 62 = cc in absurd (omega arith)
look_up_finds Bar b bytes letter e = let is : b ≡ 124 = cc in absurd (omega arith)
look_up_finds Arrow b bytes letter e = let is : b ≡ 61 = cc in absurd (omega arith)
look_up_finds DoubleDot b bytes letter e = let is : b ≡ 46 = cc in absurd (omega arith)
look_up_finds Becomes b bytes letter e = let is : b ≡ 58 = cc in absurd (omega arith)
look_up_finds NotEqual b bytes letter e = let is : b ≡ 47 = cc in absurd (omega arith)
look_up_finds GreaterEqual b bytes letter e = let is : b ≡ 62 = cc in absurd (omega arith)
look_up_finds LessEqual b bytes letter e = let is : b ≡ 60 = cc in absurd (omega arith)
look_up_finds k b bytes letter e = refl

-- what is spelled is found
pub spelled_found : (text : List ℕ) (first : ℕ) (more : List ℕ) (k : Kind) → text ≡ first ∷ more → is_letter first ≡ true → Spells text k → word_of text ≡ Some k
spelled_found text first more k parts letter spells =
    let small : to_ascii_lowercase first ∷ in_small_letters more ≡ spelling k = sym (ap in_small_letters parts) ∙ spells in
    word_of_small text ∙ ap look_up spells ∙ look_up_finds k (to_ascii_lowercase first) (in_small_letters more) (small_letter first letter) small
