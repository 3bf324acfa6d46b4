-- How a job ended, and what was put where the sink failed.
use Rattle.std.proofs.Common.{◌≡◌, ℕ, List, Option, length, arith, subst, sym}
use mathlib.Core.Logic.{◌⊎◌, inl, inr}
use Rattle.std.specs.Io.KnownBytes.{Appends, Keeps}
use Rattle.std.proofs.KnownBytes.{Appends-kept, Keeps-refl}
use Rattle.std.proofs.Math.Seq.{take-length}
use Rattle.ctl_sink.specs.Prefix.{AppendsPart, AppendsUpTo}

-- a beginning that is not all
pub part_up_to : (old new : Option (List ℕ)) (bytes : List ℕ) → AppendsPart old new bytes → AppendsUpTo old new bytes
part_up_to old new bytes part = let below = part.1 in (part.0, omega arith, part.2)

-- all of it, which was kept
pub whole_up_to : (old mid new : Option (List ℕ)) (bytes : List ℕ) → Appends old mid bytes → Keeps mid new → AppendsUpTo old new bytes
whole_up_to old mid new bytes whole kept =
    (length bytes, omega arith, subst (Appends old new) (sym (take-length bytes)) (Appends-kept old mid new bytes whole kept))

-- a sink that is as it was has taken what it had taken
pub kept_by : {X : Type 0} (taken : X → Option (List ℕ)) (old new : X) → new ≡ old → Keeps (taken old) (taken new)
kept_by taken old new same = subst (λ x. Keeps (taken old) (taken x)) (sym same) (Keeps-refl (taken old))

-- the same where that is one of two cases
pub either_kept : {X B : Type 0} (taken : X → Option (List ℕ)) (old new : X) → (new ≡ old) ⊎ B → Keeps (taken old) (taken new) ⊎ B
either_kept taken old new (inl same) = inl (kept_by taken old new same)
either_kept taken old new (inr b) = inr b

-- and where it comes beside something else
pub kept_beside : {X A U : Type 0} (taken : X → Option (List ℕ)) (old new : X) → A ⊎ (U × (new ≡ old)) → A ⊎ (U × Keeps (taken old) (taken new))
kept_beside taken old new (inl a) = inl a
kept_beside taken old new (inr b) = inr (b.0, kept_by taken old new b.1)
