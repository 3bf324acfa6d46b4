-- What a master owned is forgotten: its collections go one by one.
use Rattle.std.proofs.Common.{◌≡◌, ◌∙◌, ℕ, suc, ◌+◌, ◌≤◌, List, [], ◌∷◌, Some, Bool, arith, length, refl, sym, ap, subst, map, drop, take}
use Rattle.std.specs.Prelude.{not, slice_get}
use Rattle.std.proofs.lemmas.Option.{slice_get_within}
use Rattle.ctl_meaning.specs.World.{Collection, Object}
use Rattle.ctl_meaning.specs.Objects.{ends_with_master}
use Rattle.ctl_objects.specs.Order.{AreUpTo, IsUpTo}
use Rattle.ctl_storage.proofs.Conditions.{all_kept}
use Rattle.ctl_frames.specs.declared.frame.Owned.{Owned}
use Rattle.ctl_frames.specs.declared.frame.Role.{Role}
use Rattle.ctl_frames.specs.declared.frame.Role.TheVariants as RoleOf
use Rattle.ctl_frames.specs.Owned.{remaining, set_numbers, set_over, sets_owned}
use Rattle.ctl_engine.proofs.Created.{drop_more}
use Rattle.ctl_engine.proofs.Gathered.{sets_more}
use Rattle.ctl_frames.proofs.Lists.{length_taken}
use Rattle.ctl_engine.proofs.Owned.{one_more_closed}
use Rattle.ctl_engine.proofs.Walked.{take_last}

-- up to the next one
gathered_more : (os : List Owned) (start at : ℕ) (o : Owned) → start ≤ at → slice_get os at ≡ Some o → sets_owned (drop start (take (at + 1) os)) ≡ set_over o.role o (sets_owned (drop start (take at os)))
gathered_more os start at o less found =
    let within = slice_get_within os at o found in
    let long : length (take at os) ≡ at = length_taken at os (omega (arith, within)) in
    let next : at + 1 ≡ suc at = omega arith in
    ap (λ n. sets_owned (drop start (take n os))) next
    ∙ (ap (λ (l : List Owned). sets_owned (drop start l)) (take_last os at o found)
    ∙ (ap sets_owned (drop_more (take at os) start o (omega (arith, less, long)))
    ∙ sets_more (drop start (take at os)) o []))

-- the numbers of collections
abbrev numbers_of : List Collection → List ℕ
numbers_of sets = map (λ (c : Collection). c.number) sets

-- so far these objects remain
abbrev pub RemainsTo : List Owned → ℕ → ℕ → ℕ → List Object → List Object → Type 0
RemainsTo os start at m before now = AreUpTo m now × ((all : List Object) → before ≡ remaining m [] all → now ≡ remaining m (set_numbers (drop start (take at os))) all)

-- a collection goes
pub set_goes : (os : List Owned) (start at m count : ℕ) (started : Bool) (o : Owned) (before now then : List Object) → start ≤ at → slice_get os at ≡ Some o → o.role ≡ RoleOf.Collection started count → then ≡ remaining m (o.number ∷ []) now
    → RemainsTo os start at m before now → RemainsTo os start (at + 1) m before then
set_goes os start at m count started o before now then less found role is h = (
  subst (λ (l : List Object). AreUpTo m l) (sym is) (all_kept (λ x. IsUpTo m x.origin) (λ x. not (ends_with_master m (o.number ∷ []) x.origin)) now h.0),
  λ all first.
      let sets = sets_owned (drop start (take at os)) in
      let more : set_numbers (drop start (take (at + 1) os)) ≡ o.number ∷ numbers_of sets = ap numbers_of (gathered_more os start at o less found ∙ ap (λ (r : Role). set_over r o sets) role) in
      is
      ∙ (ap (remaining m (o.number ∷ [])) (h.1 all first)
      ∙ (one_more_closed m o.number (numbers_of sets) all
      ∙ ap (λ l. remaining m l all) (sym more))),
)

pub not_over : (o : Owned) (r : Role) → ((started : Bool) (count : ℕ) → r ≡ RoleOf.Collection started count → ⊥) → (sets : List Collection) → set_over r o sets ≡ sets
not_over o (RoleOf.Object t) other sets = refl
not_over o (RoleOf.Collection started count) other sets = absurd (other started count refl)

-- an object goes with its master
pub no_set_goes : (os : List Owned) (start at m : ℕ) (o : Owned) (before now : List Object) → start ≤ at → slice_get os at ≡ Some o → ((sets : List Collection) → set_over o.role o sets ≡ sets)
    → RemainsTo os start at m before now → RemainsTo os start (at + 1) m before now
no_set_goes os start at m o before now less found none h = (
  h.0,
  λ all first.
      let sets = sets_owned (drop start (take at os)) in
      h.1 all first ∙ ap (λ (l : List Collection). remaining m (numbers_of l) all) (sym (gathered_more os start at o less found ∙ none sets)),
)
