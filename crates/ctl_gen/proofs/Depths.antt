-- How deep the meaning looks into types that are laid out: a depth at which each component is found is enough (3.8).
use Rattle.std.proofs.Common.{◌≡◌, ℕ, zero, suc, ◌+◌, ◌<◌, List, [], ◌∷◌, length, Bool, true, false, refl, sym, ap, ◌∙◌, arith, inl, inr}
use Rattle.std.specs.Prelude.{slice_get, is_some, ◌||◌, if◌then◌else◌}
use Rattle.ctl_program.specs.declared.types.Ty.{Ty}
use Rattle.ctl_program.specs.declared.types.Ty.TheVariants as TyOf
use Rattle.ctl_program.specs.declared.types.Ty.TheVariants.{Record}
use Rattle.ctl_program.specs.declared.types.Component.{Component}
use Rattle.ctl_program.specs.declared.types.RecordType.{RecordType}
use Rattle.ctl_meaning.specs.Lists.{any_of}
use Rattle.ctl_program.specs.Limits.{scalar_size, tag_size}
use Rattle.ctl_meaning.specs.Types.{Tables, opened_types, as_record_size, cells_of, cells_within, components, controlled_within, default_within, has_controlled, has_default, is_controlled, is_tagged_root, of_record, root_in, size_of, size_within, total}
use Rattle.ctl_layout.specs.Records.{is_laid}
use Rattle.ctl_gen.proofs.Known.{AreParts, IsLaid, IsPart, IsScalar, laid_if, part_laid}

-- Components --------------------------------------------------------------------------------------

pub scalar_of_record : {A : Type 0} (d : A) (f : ℕ → A) (ty : Ty) → IsScalar ty → of_record d f ty ≡ d
unfolding of_record
scalar_of_record d f TyOf.Integer h = refl
scalar_of_record d f TyOf.Count h = refl
scalar_of_record d f TyOf.Boolean h = refl
scalar_of_record d f TyOf.Address h = refl
scalar_of_record d f TyOf.Handle h = absurd h
scalar_of_record d f (TyOf.Access a) h = refl
scalar_of_record d f (Record t) h = absurd h

module _ (records : List RecordType) (t : ℕ) where
  -- what is said alike of the types that stand before is said alike of those of components
  part_alike : {A : Type 0} (d : A) (f g : ℕ → A) → ((u : ℕ) → u < t → is_laid records u ≡ true → f u ≡ g u) → (c : Component) → IsPart records t c → of_record d f c.ty ≡ of_record d g c.ty
  unfolding of_record
  part_alike d f g same c (inl scalar) = scalar_of_record d f c.ty scalar ∙ sym (scalar_of_record d g c.ty scalar)
  part_alike d f g same c (inr x) = ap (of_record d f) x.ty ∙ (same x.number x.less (part_laid records t c x) ∙ ap (of_record d g) (sym x.ty))

  pub any_alike : (f g : Component → Bool) → ((c : Component) → IsPart records t c → f c ≡ g c) → (cs : List Component) → AreParts records t cs → any_of f cs ≡ any_of g cs
  unfolding any_of
  any_alike f g same [] h = refl
  any_alike f g same (c ∷ cs) h = ap (λ b. b || any_of f cs) (same c h.0) ∙ ap (λ b. g c || b) (any_alike f g same cs h.1)

  pub total_alike : (f g : Ty → ℕ) → ((c : Component) → IsPart records t c → f c.ty ≡ g c.ty) → (cs : List Component) → AreParts records t cs → total f cs ≡ total g cs
  unfolding total
  total_alike f g same [] h = refl
  total_alike f g same (c ∷ cs) h = let one = same c h.0 in let rest = total_alike f g same cs h.1 in omega (arith, one, rest)

-- Types -------------------------------------------------------------------------------------------

module _ (records : List RecordType) where
  pub controlled_enough : (n m t : ℕ) → is_laid records t ≡ true → t < n → t < m → controlled_within n records t ≡ controlled_within m records t
  unfolding controlled_within
  controlled_enough zero m t e lt less = absurd (omega (arith, lt))
  controlled_enough (suc n) zero t e lt less = absurd (omega (arith, less))
  controlled_enough (suc n) (suc m) t e lt less =
      let x = laid_if records t e in
      let itself = is_tagged_root (root_in (slice_get records t)) in
      ap (λ cs. itself || any_of (λ (c : Component). of_record false (controlled_within n records) c.ty) cs) (x.1.has.found (suc n) lt)
      ∙ (ap (λ b. itself || b) (any_alike records t _ _ (λ c part. part_alike records t false (controlled_within n records) (controlled_within m records) (λ u first is. controlled_enough n m u is (omega (arith, first, lt)) (omega (arith, first, less))) c part) x.0 x.1.parts)
      ∙ ap (λ cs. itself || any_of (λ (c : Component). of_record false (controlled_within m records) c.ty) cs) (sym (x.1.has.found (suc m) less)))

  pub default_enough : (n m t : ℕ) → is_laid records t ≡ true → t < n → t < m → default_within n records t ≡ default_within m records t
  unfolding default_within
  default_enough zero m t e lt less = absurd (omega (arith, lt))
  default_enough (suc n) zero t e lt less = absurd (omega (arith, less))
  default_enough (suc n) (suc m) t e lt less =
      let x = laid_if records t e in
      ap (any_of (λ (c : Component). is_some c.default || of_record false (default_within n records) c.ty)) (x.1.has.found (suc n) lt)
      ∙ (any_alike records t _ _ (λ c part. ap (λ b. is_some c.default || b) (part_alike records t false (default_within n records) (default_within m records) (λ u first is. default_enough n m u is (omega (arith, first, lt)) (omega (arith, first, less))) c part)) x.0 x.1.parts
      ∙ ap (any_of (λ (c : Component). is_some c.default || of_record false (default_within m records) c.ty)) (sym (x.1.has.found (suc m) less)))

  pub cells_enough : (n m t : ℕ) → is_laid records t ≡ true → t < n → t < m → cells_within n records t ≡ cells_within m records t
  unfolding cells_within
  cells_enough zero m t e lt less = absurd (omega (arith, lt))
  cells_enough (suc n) zero t e lt less = absurd (omega (arith, less))
  cells_enough (suc n) (suc m) t e lt less =
      let x = laid_if records t e in
      ap (total (of_record 1 (cells_within n records))) (x.1.has.found (suc n) lt)
      ∙ (total_alike records t _ _ (λ c part. part_alike records t 1 (cells_within n records) (cells_within m records) (λ u first is. cells_enough n m u is (omega (arith, first, lt)) (omega (arith, first, less))) c part) x.0 x.1.parts
      ∙ ap (total (of_record 1 (cells_within m records))) (sym (x.1.has.found (suc m) less)))

  -- the storage units of the tag, if there is one (13.3)
  abbrev pub tag_units : ℕ → ℕ
  tag_units t = if is_tagged_root (root_in (slice_get records t)) then tag_size else 0

  pub size_enough : (n m t : ℕ) → is_laid records t ≡ true → t < n → t < m → size_within n records t ≡ size_within m records t
  unfolding size_within
  size_enough zero m t e lt less = absurd (omega (arith, lt))
  size_enough (suc n) zero t e lt less = absurd (omega (arith, less))
  size_enough (suc n) (suc m) t e lt less =
      let x = laid_if records t e in
      ap (λ u. as_record_size (u + tag_units t))
      (ap (total (of_record scalar_size (size_within n records))) (x.1.has.found (suc n) lt)
      ∙ (total_alike records t _ _ (λ c part. part_alike records t scalar_size (size_within n records) (size_within m records) (λ u first is. size_enough n m u is (omega (arith, first, lt)) (omega (arith, first, less))) c part) x.0 x.1.parts
      ∙ ap (total (of_record scalar_size (size_within m records))) (sym (x.1.has.found (suc m) less))))

-- what is said of a type is said of its components
module _ (k : Tables) (t : ℕ) (cs : List Component) (laid : IsLaid k.records t cs) where
  pub all_within : components (suc (length k.records)) k.records t ≡ cs
  all_within = laid.has.found (suc (length k.records)) (let lt = laid.has.within in omega (arith, lt))

  -- a type that stands before is found one level deeper
  deeper : (u : ℕ) → u < t → u < length k.records
  deeper u less = let lt = laid.has.within in omega (arith, less, lt)

  pub controlled_laid : has_controlled k (Record t) ≡ (is_controlled k t || any_of (λ (c : Component). has_controlled k c.ty) cs)
  unfolding opened_types
  controlled_laid =
      let n = length k.records in
      let itself = is_tagged_root (root_in (slice_get k.records t)) in
      ap (λ ds. itself || any_of (λ (c : Component). of_record false (controlled_within n k.records) c.ty) ds) all_within
      ∙ ap (λ b. itself || b) (any_alike k.records t _ _ (λ c part. part_alike k.records t false (controlled_within n k.records) (controlled_within (suc n) k.records) (λ u less is. controlled_enough k.records n (suc n) u is (deeper u less) (let lt = deeper u less in omega (arith, lt))) c part) cs laid.parts)

  pub default_laid : has_default k (Record t) ≡ any_of (λ (c : Component). is_some c.default || has_default k c.ty) cs
  unfolding opened_types
  default_laid =
      let n = length k.records in
      ap (any_of (λ (c : Component). is_some c.default || of_record false (default_within n k.records) c.ty)) all_within
      ∙ any_alike k.records t _ _ (λ c part. ap (λ b. is_some c.default || b) (part_alike k.records t false (default_within n k.records) (default_within (suc n) k.records) (λ u less is. default_enough k.records n (suc n) u is (deeper u less) (let lt = deeper u less in omega (arith, lt))) c part)) cs laid.parts

  pub cells_laid : cells_of k (Record t) ≡ total (cells_of k) cs
  unfolding opened_types
  cells_laid =
      let n = length k.records in
      ap (total (of_record 1 (cells_within n k.records))) all_within
      ∙ total_alike k.records t _ _ (λ c part. part_alike k.records t 1 (cells_within n k.records) (cells_within (suc n) k.records) (λ u less is. cells_enough k.records n (suc n) u is (deeper u less) (let lt = deeper u less in omega (arith, lt))) c part) cs laid.parts

  -- its storage units are those of its components and of its tag (13.3)
  pub size_laid : size_of k (Record t) ≡ as_record_size (total (size_of k) cs + tag_units k.records t)
  unfolding opened_types
  size_laid =
      let n = length k.records in
      ap (λ u. as_record_size (u + tag_units k.records t))
      (ap (total (of_record scalar_size (size_within n k.records))) all_within
      ∙ total_alike k.records t _ _ (λ c part. part_alike k.records t scalar_size (size_within n k.records) (size_within (suc n) k.records) (λ u less is. size_enough k.records n (suc n) u is (deeper u less) (let lt = deeper u less in omega (arith, lt))) c part) cs laid.parts)
