-- A `&` to a holding shows the words of its places. Their tickets are let go for as long. Assumes `Logic`.
use Rattle.std.proofs.Common.{ℕ, ◌+◌, ◌*◌, length, Option, None, Some}
use seplogic.Ra.Ura.{Ura}
use mir.Syntax.{w64}
use base.Fraction.{full_share}
use base.Fml.{Lft, ftrue}
use types.Logic.{Logic}
use types.Keyed.{ticket}
use denote.Builtin.{u64}
use denote.Copied.{uint_Copied}
use denote.Memory.{part_at, shared_of}
use denote.Plain.{uint_row_laws}
use denote.RawPtr.{block_of, count_of}
use denote.Sharing.{ShrLaws}
use denote.SharingLaws.{nothing_shr_laws}
use denote.Struct.Lending.{Lends, Lends-nothing, Lends-first, of_Lends}
use Rattle.raw_region.specs.Places.{Home, place}
use Rattle.raw_region.specs.Ownership.{word_lies, place_owns, place_lent}
use Rattle.raw_region.specs.contracts.holding.Holding as C
use Rattle.raw_region.proofs.Spans.{span_Lends, span_ShrLaws}
use Rattle.raw_region.proofs.holding.Holding.TheLaw.Statement.{statement}

place_laws : (h : Home) (k : ℕ) (c : Option ℕ) → ShrLaws (place_lent h k c)
place_laws h k None = nothing_shr_laws
place_laws h k (Some x) = uint_row_laws w64 x (block_of h.at) (count_of h.at + k * 8)

place_Lends : {M : Type 1} {𝓤 : Ura M} (𝓛 : Logic 𝓤) (h : Home) (l : Lft) (k : ℕ) (c : Option ℕ) → Lends 𝓛 (place_owns h k c) (place_lent h k c) l
place_Lends 𝓛 h l k None = Lends-nothing 𝓛 ftrue l
place_Lends 𝓛 h l k (Some x) =
    let b = block_of h.at in let o = count_of h.at + k * 8 in
    let word : Lends 𝓛 (part_at u64 full_share x b o) (shared_of u64 x b o) l = λ κ ts inc sp. (uint_Copied 𝓛 w64).shares full_share l x κ ts b o inc sp in
    Lends-first 𝓛 (word_lies h k x) (ticket h.name k) (shared_of u64 x b o) l word

pub shares : statement
shares =
    of_Lends C.struct C.the_codes C.the_heap C.the_lent
    (λ d p. span_ShrLaws (λ k. place_lent d.home k (place d.places k)) (λ k. place_laws d.home k (place d.places k)) 0 (length d.places))
    tt
    (λ M 𝓤 𝓛 d p. span_Lends 𝓛 (λ k. place_owns d.home k (place d.places k)) (λ k. place_lent d.home k (place d.places k)) C.the_row.lives
    (λ k. place_Lends 𝓛 d.home C.the_row.lives k (place d.places k)) 0 (length d.places))
