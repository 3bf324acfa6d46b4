-- Types of which a `&` shows nothing, and the law of one: the value is let go for as long as it is borrowed. Assumes `Logic`.
use Rattle.std.proofs.Common.{◌≡◌, ℕ, sym, subst}
use base.Fraction.{full_share}
use base.Fml.{Lft, Fml}
use denote.Memory.{part_at, shared_of}
use denote.RattleType.{RattleType}
use denote.Sharing.{ShrLaws, nothing}
use denote.SharingLaws.{nothing_shr_laws}
use denote.Struct.Lending.{Law, Lends, Lends-nothing}

-- a `&` to a value of R shows nothing, wherever the value lies
abbrev pub IsOpaque : RattleType → Type 1
IsOpaque R = (x : R.Denot) (b o : ℕ) → shared_of R x b o ≡ nothing

pub opaque_law : (R : RattleType) → IsOpaque R → Law R
opaque_law R opaque =
    let in_place = λ (x : R.Denot) (b o : ℕ). part_at R full_share x b o in
    let hides = λ (x : R.Denot) (b o : ℕ). sym (opaque x b o) in
    record {
      shares = λ M 𝓤 𝓛 x κ ts b o. subst (λ (t : Lft → Fml). Lends 𝓛 (in_place x b o) t R.lives) (hides x b o) (Lends-nothing 𝓛 (in_place x b o) R.lives) κ ts;
      shr_laws = λ x b o. subst ShrLaws (hides x b o) nothing_shr_laws;
    }
