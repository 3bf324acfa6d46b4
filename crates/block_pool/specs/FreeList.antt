-- The free blocks of a region, as a list that is kept in their first words.
use Rattle.std.specs.Prelude.{ℕ, zero, suc, ◌+◌, ◌<◌, ◌≤◌, None, Some, List, [], ◌∷◌}
use Rattle.raw_region.specs.Places.{Places, place, word_or_zero, AreHeld}

-- The first place of the free block after the one that begins at h: the word at h.
abbrev pub next_free : Places → ℕ → ℕ
next_free ps h = word_or_zero (place ps h)

-- The first places of the n free blocks from the one at h on.
abbrev pub free_starts : Places → ℕ → ℕ → List ℕ
free_starts ps zero h = []
free_starts ps (suc n) h = h ∷ free_starts ps n (next_free ps h)

-- No place is in both of the blocks of w words that begin at j and at k.
abbrev pub AreDisjoint : ℕ → ℕ → ℕ → Type 0
AreDisjoint w j k = (m : ℕ) → j ≤ m → m < j + w → k ≤ m → m < k + w → ⊥

-- The block of w words at j is disjoint from each of those that begin at ks.
abbrev pub IsApart : ℕ → ℕ → List ℕ → Type 0
IsApart w j [] = Unit {0}
IsApart w j (k ∷ ks) = AreDisjoint w j k × IsApart w j ks

-- The n blocks of w words from the one at h on are in the region, and no two of them overlap.
abbrev pub IsFreeList : Places → ℕ → ℕ → ℕ → Type 0
IsFreeList ps w zero h = Unit {0}
IsFreeList ps w (suc n) h = AreHeld ps h w × IsApart w h (free_starts ps n (next_free ps h)) × IsFreeList ps w n (next_free ps h)

-- How many places hold words.
abbrev pub held_count : Places → ℕ
held_count [] = 0
held_count (None ∷ ps) = held_count ps
held_count (Some x ∷ ps) = held_count ps + 1
