-- What a region and a Block are to their callers.
use Rattle.std.specs.Prelude.{refl, ℕ, ◌+◌, ◌<◌, ◌≤◌, Option, None, Some, List, ◌++◌, map, length, take, drop, replicate, slice_range, slice_index_or, IsSome, ◌≡◌}
use Rattle.std.specs.Coded.{Coded, code_by, coded×, coded_list, coded_ℕ, coded_option}
use denote.RawPtr.{Ptr, coded_ptr}

-- The places of a region: each holds its word, or nothing while a Block has it.
abbrev pub Places : Type 0
Places = List (Option ℕ)

-- How the logic stores them.
abbrev pub places_code : Coded Places
places_code = coded_list (coded_option coded_ℕ)

-- The place i, and nothing past the end.
abbrev pub place : Places → ℕ → Option ℕ
place ps i = slice_index_or ps i None

-- The places with qs from `start` on.
abbrev pub with_run : Places → ℕ → Places → Places
with_run ps start qs = take start ps ++ (qs ++ drop (start + length qs) ps)

-- The words as places that hold them.
abbrev pub held : List ℕ → Places
held ws = map Some ws

-- n places that hold nothing.
abbrev pub out : ℕ → Places
out n = replicate n None

-- The word of a place, where 0 stands for one that is out.
abbrev pub word_or_zero : Option ℕ → ℕ
word_or_zero None = 0
word_or_zero (Some x) = x

-- The words of n places from `start` on.
abbrev pub words_at : Places → ℕ → ℕ → List ℕ
words_at ps start n = map word_or_zero (slice_range ps start (start + n))

-- The n places from `start` on hold their words.
abbrev pub AreHeld : Places → ℕ → ℕ → Type 0
AreHeld ps start n = (k : ℕ) → start ≤ k → k < start + n → IsSome (place ps k)

-- The n places from `start` on are all out.
abbrev pub AreOut : Places → ℕ → ℕ → Type 0
AreOut ps start n = (k : ℕ) → start ≤ k → k < start + n → place ps k ≡ None

-- Which region it is: a name that no other region has, where its words lie, and how many there are.
pub record Home : Type 0 where
  pub name : ℕ
  pub at : Ptr
  pub size : ℕ

-- How the logic stores it: as a tuple of its fields.
abbrev pub home_code : Coded Home
home_code =
    code_by (ℕ × (Ptr × ℕ)) (coded× coded_ℕ (coded× coded_ptr coded_ℕ))
    (λ h. (h.name, (h.at, h.size))) (λ t. record { name = t.0; at = t.1.0; size = t.1.1 }) (λ _. refl)

-- What a contract sees of a region.
pub record Region : Type 0 where
  pub home : Home
  pub places : Places

-- How the logic stores it: as a pair.
abbrev pub region_code : Coded Region
region_code = code_by (Home × Places) (coded× home_code places_code) (λ r. (r.home, r.places)) (λ t. record { home = t.0; places = t.1 }) (λ _. refl)

-- What a contract sees of a Block: the region that it is of, its first place there, and its words.
pub record Cut : Type 0 where
  pub home : Home
  pub start : ℕ
  pub words : List ℕ

-- How the logic stores it: as a tuple of its fields.
abbrev pub cut_code : Coded Cut
cut_code =
    code_by (Home × (ℕ × List ℕ)) (coded× home_code (coded× coded_ℕ (coded_list coded_ℕ)))
    (λ c. (c.home, (c.start, c.words))) (λ t. record { home = t.0; start = t.1.0; words = t.1.1 }) (λ _. refl)

-- The Block that is cut out of the n places from `start` on.
abbrev pub cut_of : Region → ℕ → ℕ → Cut
cut_of r start n = record { home = r.home; start = start; words = words_at r.places start n }

-- A Block with ws written over its words. A ws of another length is cut, or filled up with what stood there, so that the length stays.
abbrev pub with_words : Cut → List ℕ → Cut
with_words c ws = record c { words = take (length c.words) (ws ++ drop (length ws) c.words) }

-- No place is in both.
abbrev pub AreApart : Cut → Cut → Type 0
AreApart x y = (k : ℕ) → x.start ≤ k → k < x.start + length x.words → y.start ≤ k → k < y.start + length y.words → ⊥
