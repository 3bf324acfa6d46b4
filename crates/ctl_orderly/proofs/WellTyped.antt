-- The types of a well-typed program stand in order.
use Rattle.std.specs.Prelude.{◌≡◌, ℕ, zero, suc, ◌<◌, List, [], ◌∷◌, length, Option, Some, slice_get}
use Rattle.std.proofs.Common.{refl, arith}
use Rattle.ctl_program.specs.declared.types.Ty.{Ty}
use Rattle.ctl_program.specs.declared.types.Ty.TheVariants.{Integer, Count, Boolean, Address, Handle, Access, Record}
use Rattle.ctl_program.specs.declared.types.Root.{Root}
use Rattle.ctl_program.specs.declared.types.Component.{Component}
use Rattle.ctl_program.specs.declared.types.RecordType.{RecordType}
use Rattle.ctl_program.specs.declared.program.Checked.{Checked}
use Rattle.ctl_well_typed.specs.Setting.{Setting, Frames}
use Rattle.ctl_well_typed.specs.Programs.{WellTyped, Added, no_more_components, one_more_component, Parent, none, extends}
use Rattle.ctl_well_typed.specs.Programs as W
use Rattle.ctl_orderly.specs.Law.{Before, AllBefore, InOrder}

before : (n : ℕ) (ty : Ty) → W.Before n ty → Before n ty
before n Integer h = tt
before n Count h = tt
before n Boolean h = tt
before n Address h = tt
before n Handle h = tt
before n (Access a) h = tt
before n (Record u) h = h

added : {k : Setting} {home : Frames} {n : ℕ} {cs : List Component} → Added k home n cs → AllBefore n cs
added no_more_components = tt
added (one_more_component {c = c} view b d more) = (before _ c.ty b, added more)

parented : {k : Setting} {home : Frames} {n : ℕ} {r : Root} {o : Option ℕ} → Parent k home n r o → (p : ℕ) → o ≡ Some p → p < n
parented none p e = absurd (cc)
parented (extends {p = q} lt found root) p e = let same : q ≡ p = cc e in omega arith

there : {A : Type 0} (xs : List A) (n : ℕ) → n < length xs → (x : A) × (slice_get xs n ≡ Some x)
there [] n h = absurd (omega arith)
there (x ∷ xs) zero h = (x, refl)
there (x ∷ xs) (suc n) h = there xs n (omega arith)

within : {A : Type 0} (xs : List A) (n : ℕ) (x : A) → slice_get xs n ≡ Some x → n < length xs
within [] n x e = absurd (cc)
within (y ∷ xs) zero x e = omega arith
within (y ∷ xs) (suc n) x e = let h = within xs n x e in omega arith

pub well_typed_in_order : (p : Checked) → WellTyped p → InOrder p.records
well_typed_in_order p w = record {
  components = λ n r e. added (fine n r e).own;
  parents = λ n q r e f. parented (fine n r e).parent q f;
}
  where
    home : (n : ℕ) (r : RecordType) → slice_get p.records n ≡ Some r → (h : Frames) × (slice_get w.k.record_homes n ≡ Some h)
    home n r e = there w.k.record_homes n (let a = within p.records n r e in let b = w.fits.record_homes in omega arith)

    fine : (n : ℕ) (r : RecordType) → (e : slice_get p.records n ≡ Some r) → W.RecordFine w.k n r (home n r e).0
    fine n r e = w.each_record n r (home n r e).0 e (home n r e).1
