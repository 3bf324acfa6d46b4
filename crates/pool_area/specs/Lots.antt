-- Blocks that are out, and the objects in them.
use Rattle.std.specs.Prelude.{◌≡◌, refl, ℕ, ◌+◌, ◌≤◌, List, [], ◌++◌, Option, Some, None, length, take, drop, replicate, slice_set, IfSome}
use Rattle.std.specs.Coded.{Coded, code_by, coded×, coded_ℕ, coded_list}
use Rattle.std.specs.Option.{option_map, option_map_or}
use Rattle.raw_region.specs.Places.{Cut}
use Rattle.pool_area.specs.declared.lot.Lot.{Lot}
use Rattle.pool_area.specs.declared.lot.Occupant.{Occupant}

-- an object that is held: its number and its words
pub record Held : Type 0 where
  pub object : ℕ
  pub words : List ℕ

-- how the logic stores it: as a pair
abbrev pub held_code : Coded Held
held_code = code_by (ℕ × List ℕ) (coded× coded_ℕ (coded_list coded_ℕ)) (λ h. (h.object, h.words)) (λ t. record { object = t.0; words = t.1 }) (λ _. refl)

-- the words of an object that may be held, none where there is none
abbrev pub words_of : Option Held → List ℕ
words_of h = option_map_or (λ x. x.words) h []

-- so many words from a place on
abbrev pub run_of : ℕ → ℕ → List ℕ → List ℕ
run_of place count words = take count (drop place words)

-- the words, with others from a place on
abbrev pub overwritten : ℕ → List ℕ → List ℕ → List ℕ
overwritten place others words = take place words ++ (others ++ drop (place + length others) words)

abbrev pub with_word : ℕ → ℕ → Held → Held
with_word place value h = record h { words = slice_set h.words place value }

abbrev pub with_words_over : ℕ → List ℕ → Held → Held
with_words_over place others h = record h { words = overwritten place others h.words }

-- the object that a block holds: its words are the first of the block's
abbrev pub held_in : Lot → Option Held
held_in lot = option_map (λ o. record { object = o.object; words = take o.len lot.block.words }) lot.occupant

abbrev pub words_in : Lot → List ℕ
words_in lot = words_of (held_in lot)

-- the object fits into its block
abbrev pub IsFilled : Lot → Type 0
IsFilled lot = IfSome lot.occupant (λ o. o.len ≤ length lot.block.words)

-- it is the same block, whatever its words are
abbrev pub IsSameBlock : Lot → Lot → Type 0
IsSameBlock old new = (new.block.home ≡ old.block.home) × (new.block.start ≡ old.block.start) × (length new.block.words ≡ length old.block.words)
