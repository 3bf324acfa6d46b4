-- Words that are copied one after the other from one object to another.
use Rattle.std.proofs.Common.{◌≡◌, ℕ, suc, ◌+◌, ◌-◌, ◌<◌, ◌≤◌, List, [], ◌∷◌, ◌++◌, length, take, drop, get_or, Option, Some, None, refl, sym, ap, ◌∙◌, arith, append_assoc, add-one, add-zero}
use Rattle.std.specs.Prelude.{slice_set}
use Rattle.std.proofs.lemmas.List.{set-append_right, take-append-drop, length-take-le, length-append, length-drop, get_or-drop}
use Rattle.std.proofs.Math.Seq.{drop-cons, take-suc}
use Rattle.std.specs.Ordering.{nat_cmp}
use Rattle.std.specs.FinMap.{FinMap, get, insert}
use Rattle.number_map.proofs.Changes.{get_here, get_there, insert_same, insert_again}
use Rattle.std.specs.Option.{option_map_or}
use Rattle.number_map.specs.Table.{change}
use Rattle.pool_area.specs.Lots.{overwritten, run_of}
use Rattle.pool_store.specs.Entries.{Stored}
use Rattle.pool_store.specs.Store.{Store, copied, words_of, with_word, with_words}

-- one word more
pub next_word : (ts src : List ℕ) (p i : ℕ) → i < length src → p + i < length ts
    → slice_set (overwritten p (take i src) ts) (p + i) (get_or src i 0) ≡ overwritten p (take (suc i) src) ts
next_word ts src p i hi hp =
    let v : ℕ = get_or src i 0 in
    let front : List ℕ = take p ts in
    let done : List ℕ = take i src in
    let long_front : length front ≡ p = length-take-le p ts (omega arith) in
    let long_done : length done ≡ i = length-take-le i src (omega arith) in
    let long_next : length (take (suc i) src) ≡ suc i = length-take-le (suc i) src (omega arith) in
    let rest : drop (p + length done) ts ≡ get_or ts (p + i) 0 ∷ drop (suc (p + i)) ts =
    ap (λ n. drop (p + n) ts) long_done ∙ drop-cons ts (p + i) 0 hp in
    let behind : drop (p + length (take (suc i) src)) ts ≡ drop (suc (p + i)) ts =
    ap (λ n. drop n ts) (let e : p + length (take (suc i) src) ≡ suc (p + i) = omega arith in e) in
    set-append_right front (done ++ drop (p + length done) ts) p (p + i) v long_front (omega arith)
    ∙ ap (λ n. front ++ slice_set (done ++ drop (p + length done) ts) n v) (let e : (p + i) - p ≡ i = omega arith in e)
    ∙ ap (λ l. front ++ l) (set-append_right done (drop (p + length done) ts) i i v long_done (omega arith)
    ∙ ap (λ n. done ++ slice_set (drop (p + length done) ts) n v) (let e : i - i ≡ 0 = omega arith in e)
    ∙ ap (λ l. done ++ slice_set l 0 v) rest
    ∙ sym (ap (λ l. l ++ drop (p + length (take (suc i) src)) ts) (take-suc src i 0 hi)
    ∙ append_assoc done (v ∷ []) (drop (p + length (take (suc i) src)) ts)
    ∙ ap (λ l. done ++ v ∷ l) behind))

-- none copied
pub no_word : (ts src : List ℕ) (p : ℕ) → overwritten p (take 0 src) ts ≡ ts
no_word ts src p = ap (λ n. take p ts ++ drop n ts) (add-zero p) ∙ take-append-drop p ts

pub length-overwritten : (ts xs : List ℕ) (p : ℕ) → p + length xs ≤ length ts → length (overwritten p xs ts) ≡ length ts
length-overwritten ts xs p fits =
    let a = length-append (take p ts) (xs ++ drop (p + length xs) ts) in
    let b = length-append xs (drop (p + length xs) ts) in
    let c = length-take-le p ts (omega arith) in
    let d = length-drop (p + length xs) ts in
    omega arith

-- an object as it is held
abbrev pub stored_of : ℕ → Store → Stored
stored_of n s = option_map_or (λ o. o) (get s.objects n) (record { spot = None; site = None; words = [] })

-- an object that has a word is held
held : (o : Option Stored) → 0 < length (option_map_or (λ x. x.words) o []) → o ≡ Some (option_map_or (λ x. x) o (record { spot = None; site = None; words = [] }))
held None some = absurd (omega arith)
held (Some x) some = refl

words_held : (o : Option Stored) → option_map_or (λ x. x.words) o [] ≡ (option_map_or (λ x. x) o (record { spot = None; site = None; words = [] })).words
words_held None = refl
words_held (Some x) = refl

abbrev with_stored : ℕ → Stored → Store → Store
with_stored n o s = record s { objects = insert s.objects n o }

abbrev as_words : ℕ → List ℕ → Store → Stored
as_words n ws s = record { spot = (stored_of n s).spot; site = (stored_of n s).site; words = ws }

-- what is there once some words were copied
abbrev pub after_copy : ℕ → ℕ → ℕ → ℕ → ℕ → Store → Store
after_copy from word to target k s = with_stored to (as_words to (overwritten target (take k (drop word (words_of from s))) (words_of to s)) s) s

-- before the first word nothing has changed
pub before_copy : (from word to target : ℕ) (s : Store) → 0 < length (words_of to s) → s ≡ after_copy from word to target 0 s
before_copy from word to target s some =
    let ts : List ℕ = words_of to s in
    let there : get s.objects to ≡ Some (stored_of to s) = held (get s.objects to) some in
    let whole : as_words to ts s ≡ stored_of to s = ap (λ l. as_words to l s) (words_held (get s.objects to)) in
    sym (ap (λ l. with_stored to (as_words to l s) s) (no_word ts (drop word (words_of from s)) target)
    ∙ ap (λ o. with_stored to o s) whole
    ∙ ap (λ t. let r : Store = record s { objects = t } in r) (insert_same s.objects to (stored_of to s) there))

-- the words that are read stay
pub source_same : (from word to target k : ℕ) (s : Store) → (from ≡ to → ⊥) → words_of from (after_copy from word to target k s) ≡ words_of from s
source_same from word to target k s apart =
    ap (λ o. option_map_or (λ (x : Stored). x.words) o []) (get_there s.objects to from (as_words to (overwritten target (take k (drop word (words_of from s))) (words_of to s)) s) apart)

-- and there are as many words as before where they are written
pub target_long : (from word to target k : ℕ) (s : Store) → word + k ≤ length (words_of from s) → target + k ≤ length (words_of to s)
    → length (words_of to (after_copy from word to target k s)) ≡ length (words_of to s)
target_long from word to target k s fits_from fits_to =
    let src : List ℕ = drop word (words_of from s) in
    let long = length-drop word (words_of from s) in
    let taken : length (take k src) ≡ k = length-take-le k src (omega arith) in
    ap (λ o. length (option_map_or (λ (x : Stored). x.words) o [])) (get_here s.objects to (as_words to (overwritten target (take k src) (words_of to s)) s))
    ∙ length-overwritten (words_of to s) (take k src) target (omega arith)

-- a further word
pub one_more : (from word to target k : ℕ) (s : Store) → word + k < length (words_of from s) → target + k < length (words_of to s)
    → with_word to (target + k) (get_or (words_of from s) (word + k) 0) (after_copy from word to target k s) ≡ after_copy from word to target (k + 1) s
one_more from word to target k s fits_from fits_to =
    let src : List ℕ = drop word (words_of from s) in
    let ts : List ℕ = words_of to s in
    let v : ℕ = get_or (words_of from s) (word + k) 0 in
    let long = length-drop word (words_of from s) in
    let over : List ℕ = overwritten target (take k src) ts in
    let t : FinMap nat_cmp Stored = insert s.objects to (as_words to over s) in
    ap (λ o. let r : Store = record s { objects = option_map_or (λ x. insert t to (with_words (λ words. slice_set words (target + k) v) x)) o t } in r) (get_here s.objects to (as_words to over s))
    ∙ ap (λ m. let r : Store = record s { objects = m } in r) (insert_again s.objects to (as_words to over s) (as_words to (slice_set over (target + k) v) s)
    ∙ ap (λ l. insert s.objects to (as_words to l s)) (ap (λ w. slice_set over (target + k) w) (sym (get_or-drop word (words_of from s) k 0))
    ∙ next_word ts src target k (omega arith) fits_to ∙ ap (λ n. overwritten target (take n src) ts) (sym (add-one k))))

pub copied_is : (from word to target k : ℕ) (s : Store) → 0 < length (words_of from s) → 0 < length (words_of to s)
    → after_copy from word to target k s ≡ copied from word to target k s
copied_is from word to target k s some_from some_to =
    let over : List ℕ → List ℕ → List ℕ = λ words. overwritten target (run_of word k words) in
    let source = held (get s.objects from) some_from in
    let goal = held (get s.objects to) some_to in
    let src : Stored = stored_of from s in
    sym (ap (λ o. option_map_or (λ x. let r : Store = record s { objects = change to (with_words (over x.words)) s.objects } in r) o s) source
    ∙ ap (λ o. let r : Store = record s { objects = option_map_or (λ x. insert s.objects to (with_words (over src.words) x)) o s.objects } in r) goal
    ∙ ap (λ (p : List ℕ × List ℕ). with_stored to (as_words to (over p.0 p.1) s) s) (λ i. (sym (words_held (get s.objects from)) i, sym (words_held (get s.objects to)) i)))

-- within one object
pub copied_here : (n word target k : ℕ) (s : Store) (o : Stored) → get s.objects n ≡ Some o
    → record s { objects = change n (with_words (overwritten target (run_of word k o.words))) s.objects } ≡ copied n word n target k s
copied_here n word target k s o there =
    sym (ap (λ m. option_map_or (λ x. let r : Store = record s { objects = change n (with_words (overwritten target (run_of word k x.words))) s.objects } in r) m s) there)

-- no word copied changes nothing
abbrev written_over : ℕ → ℕ → ℕ → Store → Stored → Option Stored → Store
written_over word to target s x o = record s { objects = option_map_or (λ v. insert s.objects to (with_words (overwritten target (run_of word 0 x.words)) v)) o s.objects }

written_nothing : (word to target : ℕ) (s : Store) (x : Stored) (o : Option Stored) → get s.objects to ≡ o → s ≡ written_over word to target s x o
written_nothing word to target s x None e = refl
written_nothing word to target s x (Some ts) e =
    sym (ap (λ l. let r : Store = record s { objects = insert s.objects to (record { spot = ts.spot; site = ts.site; words = l }) } in r) (no_word ts.words (drop word x.words) target)
    ∙ ap (λ t. let r : Store = record s { objects = t } in r) (insert_same s.objects to ts e))

from_nothing : (word to target : ℕ) (s : Store) (m o : Option Stored) → get s.objects to ≡ o → s ≡ option_map_or (λ x. written_over word to target s x o) m s
from_nothing word to target s None o e = refl
from_nothing word to target s (Some x) o e = written_nothing word to target s x o e

pub copied_nothing : (from word to target : ℕ) (s : Store) → s ≡ copied from word to target 0 s
copied_nothing from word to target s = from_nothing word to target s (get s.objects from) (get s.objects to) refl
