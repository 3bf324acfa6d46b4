-- What a contract sees of a pool with marks.
use Rattle.std.specs.Prelude.{◌≡◌, refl, ℕ, zero, suc, Option, Some, None, ◌+◌, ◌-◌, ◌≤◌, List, [], ◌∷◌, ◌++◌, length, min, All}
use Rattle.std.specs.Coded.{Coded, code_by, coded×, coded_ℕ, coded_list}
use Rattle.raw_region.specs.Places.{Home, home_code, Region, Cut, Places, places_code, place, held, out, with_run, AreHeld}
use Rattle.mark_pool.specs.declared.pool.StandingMark.{StandingMark}

-- What a contract sees of a mark: its number, and how many words were used when it was made.
pub record Mark : Type 0 where
  pub number : ℕ
  pub start : ℕ

-- How the logic stores it: as a pair.
abbrev pub mark_code : Coded Mark
mark_code = code_by (ℕ × ℕ) (coded× coded_ℕ coded_ℕ) (λ m. (m.number, m.start)) (λ t. record { number = t.0; start = t.1 }) (λ _. refl)

-- A mark that stands, as a contract sees it.
abbrev pub seen_mark : StandingMark → Mark
seen_mark m = record { number = m.number; start = m.start }

-- Which region its words lie in, which of them are out, how many are used, the newest mark, the others from the oldest on, and how many numbers were issued.
pub record Marks : Type 0 where
  pub home : Home
  pub places : Places
  pub used : ℕ
  pub top : Mark
  pub older : List Mark
  pub issued : ℕ

-- How the logic stores it: as a tuple of its fields.
abbrev pub marks_code : Coded Marks
marks_code =
    code_by (Home × (Places × (ℕ × (Mark × (List Mark × ℕ)))))
    (coded× home_code (coded× places_code (coded× coded_ℕ (coded× mark_code (coded× (coded_list mark_code) coded_ℕ)))))
    (λ m. (m.home, (m.places, (m.used, (m.top, (m.older, m.issued))))))
    (λ t. record { home = t.0; places = t.1.0; used = t.1.1.0; top = t.1.1.1.0; older = t.1.1.1.1.0; issued = t.1.1.1.1.1 }) (λ _. refl)

-- The sizes that a pool may have, in words.
abbrev pub IsPoolSize : ℕ → Type 0
IsPoolSize words = (1 ≤ words) × (words ≤ 2097152)

-- How many words it has.
abbrev pub size_of : Marks → ℕ
size_of m = length m.places

-- Ten marks stand: the newest and nine older ones.
abbrev pub IsFull : Marks → Type 0
IsFull m = length m.older ≡ 9

-- The mark that a pool gives next.
abbrev pub next_mark : Marks → Mark
next_mark m = record { number = m.issued; start = m.used }

-- The pool with a further mark, at what is used now.
abbrev pub with_mark : Marks → Marks
with_mark m = record m { top = next_mark m; older = m.older ++ m.top ∷ []; issued = m.issued + 1 }

-- The pool with the next words taken out, and used.
abbrev pub with_taken : Marks → ℕ → Marks
with_taken m words = record m { used = m.used + words; places = with_run m.places m.used (out words) }

-- The pool with the words of a Block in their places again.
abbrev pub with_back : Marks → Cut → Marks
with_back m block = record m { places = with_run m.places block.start (held block.words) }

-- No Block that was taken since the newest mark is out.
abbrev pub IsTopBack : Marks → Type 0
IsTopBack m = AreHeld m.places m.top.start (m.used - m.top.start)

-- 1 for a place that is out, 0 for one that holds its word.
abbrev pub out_at : Option ℕ → ℕ
out_at None = 1
out_at (Some x) = 0

-- How many of the first k places are out.
abbrev pub out_before : Places → ℕ → ℕ
out_before ps zero = 0
out_before ps (suc k) = out_before ps k + out_at (place ps k)

-- How many of the n places from `start` on are out.
abbrev pub out_within : Places → ℕ → ℕ → ℕ
out_within ps start zero = 0
out_within ps start (suc n) = out_within ps start n + out_at (place ps (start + n))

-- How many words are out.
abbrev pub out_count : Marks → ℕ
out_count m = out_before m.places (length m.places)

-- How many of the words from the newest mark's start on are out.
abbrev pub out_since_top : Marks → ℕ
out_since_top m = out_within m.places m.top.start (length m.places - m.top.start)

-- No Block is out.
abbrev pub AreAllBack : Marks → Type 0
AreAllBack m = AreHeld m.places 0 (length m.places)

-- new is old after the release of its only mark: that mark has a new number.
pub record IsEmptied (old new : Marks) : Type 0 where
  pub top : new.top ≡ record { number = old.issued; start = old.top.start }
  pub older : new.older ≡ []
  pub issued : new.issued ≡ old.issued + 1

-- new is old after the release of its newest mark of several: the one before is the newest.
pub record IsDropped (old new : Marks) : Type 0 where
  pub older : old.older ≡ new.older ++ new.top ∷ []
  pub issued : new.issued ≡ old.issued

-- Each mark starts at or behind the one before it, the first at `low` or behind, and `high` is no less than the last.
abbrev pub AreInOrder : ℕ → List StandingMark → ℕ → Type 0
AreInOrder low [] high = low ≤ high
AreInOrder low (m ∷ ms) high = (low ≤ m.start) × AreInOrder m.start ms high

-- The region has `size` words. What is not used is in it, and the marks lie in order, up to what is used.
pub record Stands (r : Region) (size used : ℕ) (top : StandingMark) (older : List StandingMark) : Type 0 where
  pub places : length r.places ≡ size
  pub small : size ≤ 2097152
  pub used_fits : used ≤ size
  pub top_fits : top.start ≤ used
  pub in_order : AreInOrder 0 older top.start
  pub rest : AreHeld r.places used (size - used)

-- The mark knows how many of the words before it are out.
abbrev pub IsCounted : Places → StandingMark → Type 0
IsCounted ps m = m.out_below ≡ out_before ps m.start

-- How many words are out is known, and for each mark how many of those before it are.
pub record Counts (ps : Places) (size out : ℕ) (newest : StandingMark) (others : List StandingMark) : Type 0 where
  pub whole : out ≡ out_before ps size
  pub top : IsCounted ps newest
  pub older : All (IsCounted ps) others

-- Of the n words from `start` on, those before the mark are among the ones that it counts.
abbrev pub IsWithin : ℕ → ℕ → StandingMark → Type 0
IsWithin start n m = min n (m.start - start) ≤ m.out_below

-- The mark once the n words from `start` on are back.
abbrev pub back_at : ℕ → ℕ → StandingMark → StandingMark
back_at start n m = record m { out_below = m.out_below - min n (m.start - start) }
