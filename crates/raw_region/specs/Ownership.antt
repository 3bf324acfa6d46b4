-- What the parts of a region own, place by place. Each place has a ticket, of which there is one: whoever has the place has it. So a place that a Block has can be in no other Block, and not in the region.
use Rattle.std.specs.Prelude.{ℕ, zero, suc, ◌+◌, ◌*◌, Option, None, Some, List, length}
use base.Fraction.{full_share}
use base.Fml.{Lft, Fml, ftrue, fsep, fall, fwand, feq}
use types.Keyed.{ticket}
use denote.Array.{Array}
use denote.Builtin.{u64}
use denote.Memory.{part_at, shared_of}
use denote.RawPtr.{Ptr, block_of, count_of, lies_at, ◌+ₚ◌}
use denote.Sharing.{nothing, beside}
use Rattle.raw_region.specs.Places.{Home, Places, place}

-- The place k of a region whose words begin at p: a word has 8 bytes.
abbrev pub nth_place : Ptr → ℕ → Ptr
nth_place p k = p +ₚ k * 8

-- F of each of the n numbers from k on.
abbrev pub span : (ℕ → Fml) → ℕ → ℕ → Fml
span F k zero = ftrue
span F k (suc n) = fsep (F k) (span F (suc k) n)

-- The same for what a `&` shows.
abbrev pub span_lent : (ℕ → Lft → Fml) → ℕ → ℕ → Lft → Fml
span_lent S k zero = nothing
span_lent S k (suc n) = beside (S k) (span_lent S (suc k) n)

-- The word x lies in the place k.
abbrev pub word_lies : Home → ℕ → ℕ → Fml
word_lies h k x = part_at u64 full_share x (block_of h.at) (count_of h.at + k * 8)

-- The place k that holds c: the word and the ticket, or nothing.
abbrev pub place_owns : Home → ℕ → Option ℕ → Fml
place_owns h k None = ftrue
place_owns h k (Some x) = fsep (word_lies h k x) (ticket h.name k)

-- A `&` to that place shows the word.
abbrev pub place_lent : Home → ℕ → Option ℕ → Lft → Fml
place_lent h k None = nothing
place_lent h k (Some x) = shared_of u64 x (block_of h.at) (count_of h.at + k * 8)

-- The n places from k on, of those that hold ps.
abbrev pub places_own : Home → Places → ℕ → ℕ → Fml
places_own h ps = span (λ k. place_owns h k (place ps k))

-- The tickets of n places from k on.
abbrev pub tickets : Home → ℕ → ℕ → Fml
tickets h = span (ticket h.name)

-- The words ws lie at p, one after the other.
abbrev pub run_at : Ptr → List ℕ → Fml
run_at p ws = lies_at (Array u64 (length ws)) full_share p ws

-- As many words as the home has, where it is, give what F is of them.
abbrev pub whole_again : Home → (List ℕ → Fml) → Fml
whole_again h F = fall (List ℕ) (λ ws. fwand (fsep (feq ℕ (length ws) h.size) (run_at h.at ws)) (F ws))

-- What a `&` to an allocation shows, wherever it lies: nothing.
abbrev pub unread : Home → Ptr → Lft → Fml
unread h p = nothing
