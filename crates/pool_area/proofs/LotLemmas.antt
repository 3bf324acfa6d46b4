-- The words of an object, which are the first of its block's.
use Rattle.std.proofs.Common.{◌≡◌, ℕ, ◌+◌, ◌-◌, ◌<◌, ◌≤◌, List, [], ◌∷◌, ◌++◌, length, take, drop, Option, Some, None, refl, sym, ap, subst, ◌∙◌, arith, append_assoc, length-append}
use Rattle.std.specs.Prelude.{slice_set, IfSome}
use Rattle.std.specs.List.{copy_within}
use Rattle.std.specs.Option.{option_map, option_map_or}
use Rattle.std.proofs.lemmas.List.{append-nil, take-append-drop, take-append-le, drop-append-le, length-take, length-take-le, length-drop}
use Rattle.std.proofs.Math.Seq.{take-set-lt}
use Rattle.raw_region.specs.Places.{Cut, with_words}
use Rattle.pool_area.specs.declared.lot.Occupant.{Occupant}
use Rattle.pool_area.specs.Lots.{Held, words_of, with_word, with_words_over, overwritten, run_of}

-- what a block of these words holds
abbrev pub held_of : Option Occupant → List ℕ → Option Held
held_of o ws = option_map (λ x. record { object = x.object; words = take x.len ws }) o

-- words that are written over all of a block's are its words
none_left : (n : ℕ) (l : List ℕ) → length l ≤ n → drop n l ≡ []
none_left n l short = let long = length-drop n l in empty_list (drop n l) (omega arith)
  where
    empty_list : (xs : List ℕ) → length xs ≡ 0 → xs ≡ []
    empty_list [] e = refl
    empty_list (x ∷ xs) e = absurd (omega arith)

take_whole : (n : ℕ) (l : List ℕ) → length l ≡ n → take n l ≡ l
take_whole n l long =
    sym (append-nil (take n l)) ∙ ap (λ r. take n l ++ r) (sym (none_left n l (omega arith))) ∙ take-append-drop n l

pub all_written : (b : Cut) (ws : List ℕ) → length ws ≡ length b.words → (with_words b ws).words ≡ ws
all_written b ws long =
    take-append-le (length b.words) ws (drop (length ws) b.words) (omega arith) ∙ take_whole (length b.words) ws long

pub word_written : (o : Option Occupant) (ws : List ℕ) (place value : ℕ) → place < length (words_of (held_of o ws))
    → held_of o (slice_set ws place value) ≡ option_map (with_word place value) (held_of o ws)
word_written None ws place value fits = refl
word_written (Some o) ws place value fits =
    let long = length-take o.len ws in
    ap (λ l. Some (record { object = o.object; words = l })) (take-set-lt o.len ws place value (omega arith))

-- words that are written over the first part of others leave the rest
over_front : (to : ℕ) (xs a b : List ℕ) → to + length xs ≤ length a → overwritten to xs (a ++ b) ≡ overwritten to xs a ++ b
over_front to xs a b fits =
    ap (λ l. l ++ (xs ++ drop (to + length xs) (a ++ b))) (take-append-le to a b (omega arith))
    ∙ ap (λ l. take to a ++ (xs ++ l)) (drop-append-le (to + length xs) a b fits)
    ∙ ap (λ l. take to a ++ l) (sym (append_assoc xs (drop (to + length xs) a) b))
    ∙ sym (append_assoc (take to a) (xs ++ drop (to + length xs) a) b)

run_front : (from count : ℕ) (a b : List ℕ) → from + count ≤ length a → run_of from count (a ++ b) ≡ run_of from count a
run_front from count a b fits =
    let long = length-drop from a in
    ap (take count) (drop-append-le from a b (omega arith)) ∙ take-append-le count (drop from a) b (omega arith)

pub length-over : (to : ℕ) (xs a : List ℕ) → to + length xs ≤ length a → length (overwritten to xs a) ≡ length a
length-over to xs a fits =
    let one = length-append (take to a) (xs ++ drop (to + length xs) a) in
    let two = length-append xs (drop (to + length xs) a) in
    let three = length-take-le to a (omega arith) in
    let four = length-drop (to + length xs) a in
    omega arith

pub words_written_over : (o : Option Occupant) (ws : List ℕ) (from to count : ℕ) → IfSome o (λ x. x.len ≤ length ws) → from + count ≤ length (words_of (held_of o ws)) → to + count ≤ length (words_of (held_of o ws))
    → held_of o (overwritten to (run_of from count ws) ws) ≡ option_map (with_words_over to (run_of from count (words_of (held_of o ws)))) (held_of o ws)
words_written_over None ws from to count filled fits_from fits_to = refl
words_written_over (Some o) ws from to count filled fits_from fits_to =
    let a : List ℕ = take o.len ws in
    let b : List ℕ = drop o.len ws in
    let split : ws ≡ a ++ b = sym (take-append-drop o.len ws) in
    let long_a : length a ≡ o.len = length-take-le o.len ws filled in
    let long_d = length-drop from a in
    let xs : List ℕ = run_of from count a in
    let long_xs : length xs ≡ count = length-take-le count (drop from a) (omega arith) in
    let whole : overwritten to (run_of from count ws) ws ≡ overwritten to xs a ++ b =
    ap (λ l. overwritten to (run_of from count l) l) split ∙ ap (λ l. overwritten to l (a ++ b)) (run_front from count a b fits_from)
    ∙ over_front to xs a b (omega arith) in
    let long_over : length (overwritten to xs a) ≡ length a = length-over to xs a (omega arith) in
    ap (λ l. Some (record { object = o.object; words = l })) (ap (take o.len) whole ∙ take-append-le o.len (overwritten to xs a) b (omega arith) ∙ take_whole o.len (overwritten to xs a) (omega arith))

-- words that are copied within a list
pub copied_within : (ws : List ℕ) (from to count : ℕ) → from + count ≤ length ws → copy_within ws from (from + count) to ≡ overwritten to (run_of from count ws) ws
copied_within ws from to count fits =
    let width : (from + count) - from ≡ count = omega arith in
    let rest = length-drop from ws in
    let long : length (run_of from count ws) ≡ count = length-take-le count (drop from ws) (omega arith) in
    ap (λ n. (take to ws ++ take n (drop from ws)) ++ drop (to + n) ws) width
    ∙ ap (λ n. (take to ws ++ run_of from count ws) ++ drop (to + n) ws) (sym long)
    ∙ append_assoc (take to ws) (run_of from count ws) (drop (to + length (run_of from count ws)) ws)

-- what lies within the object lies within its block
pub fits_block : (o : Option Occupant) (ws : List ℕ) (n : ℕ) → n ≤ length (words_of (held_of o ws)) → n ≤ length ws
fits_block None ws n fits = omega arith
fits_block (Some o) ws n fits = let long = length-take o.len ws in omega arith
