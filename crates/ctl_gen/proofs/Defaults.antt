-- The components that default initialization begins, beside those that the layout names: each takes its constant, or begins by its own
-- record type (3.8, 7.6); and those that have a controlled part (7.6.1).
use Rattle.std.proofs.Common.{◌≡◌, ℕ, zero, suc, ◌+◌, ◌<◌, List, [], ◌∷◌, Option, Some, None, Bool, true, false, refl, sym, ap, ◌∙◌, subst, arith, inl, inr}
use Rattle.std.specs.Prelude.{slice_get, is_some, not, if◌then◌else◌, ◌||◌}
use Rattle.ctl_program.specs.declared.expression.Expr.{Expr}
use Rattle.ctl_program.specs.declared.types.Ty.{Ty}
use Rattle.ctl_program.specs.declared.types.Ty.TheVariants.{Record}
use Rattle.ctl_program.specs.declared.types.Root.{Root}
use Rattle.ctl_program.specs.declared.types.Root.TheVariants.{Untagged, Controlled, BlockPool, MarkPool}
use Rattle.ctl_program.specs.declared.types.Component.{Component}
use Rattle.ctl_program.specs.declared.types.RecordType.{RecordType}
use Rattle.ctl_meaning.specs.Lists.{any_of, keep}
use Rattle.ctl_meaning.specs.Types.{Tables, Placed, cells_of, has_controlled, has_default, is_controlled, is_initialized, is_tagged_root, placed, placed_from}
use Rattle.ctl_meaning.specs.Names.{Default}
use Rattle.ctl_code.specs.declared.code.Begun.{Begun}
use Rattle.ctl_code.specs.declared.code.Initial.{Initial}
use Rattle.ctl_code.specs.declared.code.Initial.TheVariants.{ByType}
use Rattle.ctl_code.specs.declared.code.Layout.{Layout}
use Rattle.ctl_code.specs.declared.code.Code.{Code}
use Rattle.ctl_code.specs.Table.{begun_in, controlled_in, has_part, parts_in}
use Rattle.ctl_layout.specs.Layout.{AreLayouts}
use Rattle.ctl_layout.specs.Layout.{computed, computed_in, computed_unless}
use Rattle.ctl_layout.specs.Records.{constant_at, constant_in, constant_of, run_default}
use Rattle.ctl_layout.specs.Defaults.{are_none, begun_before, begun_from, by_type, finalized_by, initial_by, initial_in, initial_of, is_begun, is_finalized_by, parts_by, type_if}
use Rattle.ctl_gen.proofs.Depths.{any_alike, controlled_laid, default_laid, scalar_of_record}
use Rattle.ctl_gen.proofs.Known.{AreParts, IsLaid, IsOfPlain, IsPart, IsPlain, IsScalar, part_plain, default_of_scalar, default_unset}
use Rattle.ctl_gen.proofs.Layouts.{at, controlled_are, no_type, sized}
pub use Rattle.ctl_gen.proofs.Parted.{GivesConstant, GivesDefaults}
use Rattle.ctl_gen.proofs.Parted.{Agree, AgreesOn, AreBegun, BeginsBy, IsComputed, HasPart, HaveParts, is_itself}
use Rattle.ctl_gen.proofs.Plain.{placed_laid, root_tagged}

-- Those of a list that begin with something, and of those the ones with a controlled part ----------

-- whether what a component begins with has a controlled part, if it begins with something
abbrev has_finalized : List Layout → Option Initial → Bool
has_finalized layouts None = false
has_finalized layouts (Some i) = is_finalized_by layouts i

module _ (layouts : List Layout) where
  none_first : (p n : ℕ) (o : Option Initial) (xs : List Begun) → not (are_none (begun_before p n o xs)) ≡ (is_some o || not (are_none xs))
  none_first p n None xs = refl
  none_first p n (Some i) xs = refl

  any_begun : (size : Ty → ℕ) (p n : ℕ) (cs : List Component) → not (are_none (begun_from layouts size p n cs)) ≡ any_of (λ (c : Component). is_some (initial_of layouts c)) cs
  unfolding any_of
  any_begun size p n [] = refl
  any_begun size p n (c ∷ cs) = none_first p n (initial_of layouts c) (begun_from layouts size (p + 1) (n + size c.ty) cs) ∙ ap (λ b. is_some (initial_of layouts c) || b) (any_begun size (p + 1) (n + size c.ty) cs)

  finalized_first : (p n : ℕ) (o : Option Initial) (xs : List Begun) → not (are_none (finalized_by layouts (begun_before p n o xs))) ≡ (has_finalized layouts o || not (are_none (finalized_by layouts xs)))
  unfolding keep
  finalized_first p n None xs = refl
  finalized_first p n (Some i) xs = by (is_finalized_by layouts i)
    where
      by : (b : Bool) → not (are_none (if b then (record { position = p; offset = n; initial = i }) ∷ finalized_by layouts xs else finalized_by layouts xs)) ≡ (b || not (are_none (finalized_by layouts xs)))
      by true = refl
      by false = refl

  any_finalized : (size : Ty → ℕ) (p n : ℕ) (cs : List Component) → not (are_none (finalized_by layouts (begun_from layouts size p n cs))) ≡ any_of (λ (c : Component). has_finalized layouts (initial_of layouts c)) cs
  unfolding any_of keep
  any_finalized size p n [] = refl
  any_finalized size p n (c ∷ cs) = finalized_first p n (initial_of layouts c) (begun_from layouts size (p + 1) (n + size c.ty) cs) ∙ ap (λ b. has_finalized layouts (initial_of layouts c) || b) (any_finalized size (p + 1) (n + size c.ty) cs)

-- a component has a controlled part, or it has none but begins with something
either_of : (f g : Component → Bool) (cs : List Component) → any_of (λ (c : Component). (is_some c.default || f c) || g c) cs ≡ (any_of f cs || any_of (λ (c : Component). is_some c.default || g c) cs)
unfolding any_of
either_of f g [] = refl
either_of f g (c ∷ cs) = ap (λ b. ((is_some c.default || f c) || g c) || b) (either_of f g cs) ∙ by (is_some c.default) (f c) (g c) (any_of f cs) (any_of (λ (x : Component). is_some x.default || g x) cs)
  where
    by : (d a b p q : Bool) → (((d || a) || b) || (p || q)) ≡ ((a || p) || ((d || b) || q))
    by d true b p q = over d
      where
        over : (e : Bool) → (((e || true) || b) || (p || q)) ≡ true
        over true = refl
        over false = refl
    by d false b true q = over d b
      where
        over : (e f1 : Bool) → (((e || false) || f1) || true) ≡ true
        over true f1 = refl
        over false true = refl
        over false false = refl
    by true false b false q = refl
    by false false b false q = refl

-- Types -------------------------------------------------------------------------------------------

part_is : (r : Root) (xs : List Begun) → has_part (parts_by r xs) ≡ (is_tagged_root r || not (are_none xs))
unfolding is_tagged_root
part_is Untagged [] = refl
part_is Untagged (x ∷ xs) = refl
part_is Controlled xs = refl
part_is BlockPool xs = refl
part_is MarkPool xs = refl

itself_is : (r : Root) (xs : List Begun) → is_tagged_root r ≡ is_itself (parts_by r xs)
unfolding is_tagged_root
itself_is Untagged [] = refl
itself_is Untagged (x ∷ xs) = refl
itself_is Controlled xs = refl
itself_is BlockPool xs = refl
itself_is MarkPool xs = refl

module _ (k : Tables) (code : Code) (laid : AreLayouts [] code.layouts.items k.records) where
  abbrev xs : List Layout
  xs = code.layouts.items

  -- the code and the meaning say alike whether a type has a controlled part, and whether something in it begins
  record Tells (t : ℕ) : Type 0 where
    part : has_part (parts_in (slice_get code.layouts.items t)) ≡ has_controlled k (Record t)
    begins : is_begun (slice_get code.layouts.items t) ≡ (has_controlled k (Record t) || has_default k (Record t))

  abbrev TellsAt : ℕ → Type 0
  TellsAt t = (cs : List Component) → IsLaid k.records t cs → Tells t

  -- the type of a component
  told_part : (t : ℕ) → ((u : ℕ) → u < t → TellsAt u) → (c : Component) (x : IsOfPlain k.records t c) → Tells x.number
  told_part t before c x = let y = part_plain k t c x in before x.number x.less y.2.components y.2.laid

  -- a scalar component begins with its default
  scalar_begins : (o : Option Expr) → (z : Option Initial) → z ≡ None → is_some (initial_by o z) ≡ is_some o
  scalar_begins None z none = ap is_some none
  scalar_begins (Some e) z none = refl

  scalar_plain : (o : Option Expr) → (z : Option Initial) → z ≡ None → has_finalized xs (initial_by o z) ≡ false
  scalar_plain None z none = ap (has_finalized xs) none
  scalar_plain (Some e) z none = by (constant_at e)
    where
      by : (o : Option ℕ) → is_finalized_by xs (initial_in o) ≡ false
      by None = refl
      by (Some n) = refl

  none_scalar : (c : Component) → IsScalar c.ty → (has_controlled k c.ty ≡ false) × (has_default k c.ty ≡ false)
  unfolding has_controlled has_default
  none_scalar c scalar = (scalar_of_record false _ c.ty scalar, scalar_of_record false _ c.ty scalar)

  if_begun : (u : ℕ) (b : Bool) → is_some (type_if u b) ≡ b
  if_begun u true = refl
  if_begun u false = refl

  -- what begins by its type has a controlled part where the type has one
  if_finalized : (u : ℕ) (o : Option Layout) → slice_get xs u ≡ o → has_finalized xs (type_if u (is_begun o)) ≡ has_part (parts_in o)
  if_finalized u None is = refl
  if_finalized u (Some x) is = by (has_part x.parts) refl
    where
      by : (b : Bool) → has_part x.parts ≡ b → has_finalized xs (type_if u (b || not (are_none x.begun.items))) ≡ has_part x.parts
      by true e = ap (λ o. has_part (parts_in o)) is
      by false e = over (not (are_none x.begun.items)) ∙ sym e
        where
          over : (a : Bool) → has_finalized xs (type_if u a) ≡ false
          over true = ap (λ o. has_part (parts_in o)) is ∙ e
          over false = refl

  module _ (t : ℕ) (before : (c : Component) (x : IsOfPlain k.records t c) → Tells x.number) where
    begins_is : (c : Component) → IsPart k.records t c → is_some (initial_of xs c) ≡ ((is_some c.default || has_controlled k c.ty) || has_default k c.ty)
    begins_is c (inl scalar) =
        let none = none_scalar c scalar in
        ap (λ o. is_some (initial_by o (by_type xs c.ty))) (default_of_scalar c scalar)
        ∙ scalar_begins c.default (by_type xs c.ty) (no_type xs c.ty scalar)
        ∙ sym (ap (λ b. (is_some c.default || has_controlled k c.ty) || b) none.1 ∙ (ap (λ b. (is_some c.default || b) || false) none.0 ∙ over (is_some c.default)))
      where
        over : (b : Bool) → ((b || false) || false) ≡ b
        over true = refl
        over false = refl
    begins_is c (inr x) =
        ap (λ o. is_some (initial_by o (by_type xs c.ty))) (default_unset c x.unset)
        ∙ (ap (λ ty. is_some (by_type xs ty)) x.ty
        ∙ (if_begun x.number (is_begun (slice_get xs x.number))
        ∙ ((before c x).begins
        ∙ sym (ap (λ ty. (is_some c.default || has_controlled k ty) || has_default k ty) x.ty ∙ ap (λ o. (is_some o || has_controlled k (Record x.number)) || has_default k (Record x.number)) x.unset))))

    finalized_is : (c : Component) → IsPart k.records t c → has_finalized xs (initial_of xs c) ≡ has_controlled k c.ty
    finalized_is c (inl scalar) = scalar_plain (run_default c) (by_type xs c.ty) (no_type xs c.ty scalar) ∙ sym (none_scalar c scalar).0
    finalized_is c (inr x) =
        ap (λ o. has_finalized xs (initial_by o (by_type xs c.ty))) (default_unset c x.unset)
        ∙ (ap (λ ty. has_finalized xs (by_type xs ty)) x.ty
        ∙ (if_finalized x.number (slice_get xs x.number) refl
        ∙ ((before c x).part ∙ ap (has_controlled k) (sym x.ty))))

    all_begin : (cs : List Component) → AreParts k.records t cs → any_of (λ (c : Component). is_some (initial_of xs c)) cs ≡ any_of (λ (c : Component). (is_some c.default || has_controlled k c.ty) || has_default k c.ty) cs
    unfolding any_of
    all_begin [] parts = refl
    all_begin (c ∷ cs) parts =
        ap (λ b. b || any_of (λ (x : Component). is_some (initial_of xs x)) cs) (begins_is c parts.0) ∙ ap (λ b. ((is_some c.default || has_controlled k c.ty) || has_default k c.ty) || b) (all_begin cs parts.1)

  -- what the layout of a type says of its components
  layout_says : (t : ℕ) (cs : List Component) → IsLaid k.records t cs → begun_in (slice_get xs t) ≡ begun_from xs (cells_of k) 1 0 cs
  layout_says t cs is = (sized k xs laid t cs is).begun

  record IsKnown (t : ℕ) (cs : List Component) : Type 0 where
    r : RecordType
    here : slice_get k.records t ≡ Some r
    layout : Layout
    there : slice_get code.layouts.items t ≡ Some layout
    begun : layout.begun.items ≡ begun_from code.layouts.items (cells_of k) 1 0 cs
    controlled : layout.controlled.items ≡ finalized_by code.layouts.items (begun_from code.layouts.items (cells_of k) 1 0 cs)
    parts : layout.parts ≡ parts_by r.root layout.controlled.items

  known : (t : ℕ) (r : RecordType) → slice_get k.records t ≡ Some r → (cs : List Component) → IsLaid k.records t cs → IsKnown t cs
  known t r here cs is =
      let z = at k.records xs laid t r here in
      let begun : z.layout.begun.items ≡ begun_from xs (cells_of k) 1 0 cs = ap begun_in (sym z.there) ∙ layout_says t cs is in
      record {
        r = r;
        here = here;
        layout = z.layout;
        there = z.there;
        begun = begun;
        controlled = controlled_are k.records xs laid t z.layout z.there ∙ ap (finalized_by xs) begun;
        parts = z.is.parts;
      }

  tells_by : (t : ℕ) (r : RecordType) → slice_get k.records t ≡ Some r → ((u : ℕ) → u < t → TellsAt u) → TellsAt t
  tells_by t r here before cs is =
      let x = known t r here cs is in
      let type = told_part t before in
      let some : not (are_none x.layout.controlled.items) ≡ any_of (λ (c : Component). has_controlled k c.ty) cs =
      ap (λ ys. not (are_none ys)) x.controlled ∙ (any_finalized xs (cells_of k) 1 0 cs ∙ any_alike k.records t _ _ (finalized_is t type) cs is.parts)
      in
      let part : has_part x.layout.parts ≡ has_controlled k (Record t) =
      ap has_part x.parts ∙ (part_is x.r.root x.layout.controlled.items ∙ (ap (λ b. is_tagged_root x.r.root || b) some ∙ (ap (λ b. b || any_of (λ (c : Component). has_controlled k c.ty) cs) (sym (root_tagged k t x.r x.here)) ∙ sym (controlled_laid k t cs is))))
      in
      let begun : not (are_none x.layout.begun.items) ≡ (any_of (λ (c : Component). has_controlled k c.ty) cs || has_default k (Record t)) =
      ap (λ ys. not (are_none ys)) x.begun
      ∙ (any_begun xs (cells_of k) 1 0 cs
      ∙ (all_begin t type cs is.parts
      ∙ (either_of (λ c. has_controlled k c.ty) (λ c. has_default k c.ty) cs ∙ ap (λ b. any_of (λ (c : Component). has_controlled k c.ty) cs || b) (sym (default_laid k t cs is)))))
      in
      record {
        part = ap (λ o. has_part (parts_in o)) x.there ∙ part;
        begins = ap is_begun x.there ∙ (ap (λ b. b || not (are_none x.layout.begun.items)) part ∙ (ap (λ b. has_controlled k (Record t) || b) begun ∙ absorbed (is_controlled k t) (any_of (λ (c : Component). has_controlled k c.ty) cs) (has_default k (Record t)) (has_controlled k (Record t)) (controlled_laid k t cs is)));
      }
    where
      absorbed : (a b d h : Bool) → h ≡ (a || b) → (h || (b || d)) ≡ (h || d)
      absorbed a b d true e = refl
      absorbed a true d false e = absurd (let bad : false ≡ true = e ∙ over a in cc)
        where
          over : (c : Bool) → (c || true) ≡ true
          over true = refl
          over false = refl
      absorbed a false d false e = refl

  tells_within : (n t : ℕ) → t < n → TellsAt t
  tells_within zero t lt cs is = absurd (omega (arith, lt))
  tells_within (suc n) t lt cs is = let r = is.here in tells_by t r.0 r.1 (λ u less. tells_within n u (omega (arith, less, lt))) cs is

  tells : (t : ℕ) → TellsAt t
  tells t = tells_within (suc t) t (omega arith)

  told_type : (t : ℕ) (c : Component) (x : IsOfPlain k.records t c) → Tells x.number
  told_type t c x = told_part t (λ u less. tells u) c x

  -- Beside the meaning ---------------------------------------------------------------------------------

  abbrev placed_at : ℕ → ℕ → Component → Bool → Placed
  placed_at p n c b = record { position = p; offset = n; ty = c.ty; defaulted = b }

  module _ (default : Default) (t : ℕ) where
    -- one more component that begins with something
    begun_more : (p n : ℕ) (c : Component) (o : Option Initial) (b : Bool) (ps : List Placed) (ys : List Begun) → is_some o ≡ b → ((i : Initial) → o ≡ Some i → BeginsBy k default t (placed_at p n c (is_some c.default)) i) → AreBegun k default t ps ys → AreBegun k default t (if b then placed_at p n c (is_some c.default) ∷ ps else ps) (begun_before p n o ys)
    begun_more p n c None true ps ys e how rest = absurd (cc)
    begun_more p n c None false ps ys e how rest = rest
    begun_more p n c (Some i) true ps ys e how rest = (record { position = refl; offset = refl; how = how i refl }, rest)
    begun_more p n c (Some i) false ps ys e how rest = absurd (cc)

    by_default : (p n : ℕ) (c : Component) (i : Initial) → (o : Option Expr) → c.default ≡ o → IsScalar c.ty → ((v : ℕ) → constant_in o ≡ Some v → GivesConstant default t p v) → ((y : Expr) → computed_in o ≡ Some y → IsComputed k t p c.ty) → (z : Option Initial) → z ≡ None → initial_by o z ≡ Some i → BeginsBy k default t (placed_at p n c (is_some c.default)) i
    by_default p n c i None is scalar gives computes z none e = absurd (let bad : None ≡ Some i = sym none ∙ e in cc)
    by_default p n c i (Some y) is scalar gives computes z none e =
        let same : initial_in (constant_at y) ≡ i = cc e in
        subst (BeginsBy k default t (placed_at p n c (is_some c.default))) same (by (constant_at y) refl)
      where
        by : (o : Option ℕ) → constant_at y ≡ o → BeginsBy k default t (placed_at p n c (is_some c.default)) (initial_in o)
        by (Some v) at = (ap is_some is, scalar, gives v at)
        by None at = (ap is_some is, scalar, computes y (ap (computed_unless y) at))

    by_its_type : (p n : ℕ) (c : Component) (i : Initial) (x : IsOfPlain k.records t c) → (b : Bool) → is_begun (slice_get xs x.number) ≡ b → type_if x.number b ≡ Some i → BeginsBy k default t (placed_at p n c (is_some c.default)) i
    by_its_type p n c i x false is e = absurd (cc)
    by_its_type p n c i x true is e =
        let same : ByType x.number ≡ i = cc e in
        subst (BeginsBy k default t (placed_at p n c (is_some c.default))) same (ap is_some x.unset, x.ty, x.less, part_plain k t c x)

    begins_so : (p n : ℕ) (c : Component) → IsPart k.records t c → ((v : ℕ) → constant_of c ≡ Some v → GivesConstant default t p v) → ((y : Expr) → computed c ≡ Some y → IsComputed k t p c.ty) → (i : Initial) → initial_of xs c ≡ Some i → BeginsBy k default t (placed_at p n c (is_some c.default)) i
    begins_so p n c (inl scalar) gives computes i e =
        let own = default_of_scalar c scalar in
        by_default p n c i c.default refl scalar gives (λ y is. computes y (ap computed_in own ∙ is)) (by_type xs c.ty) (no_type xs c.ty scalar) (sym (ap (λ o. initial_by o (by_type xs c.ty)) own) ∙ e)
    begins_so p n c (inr x) gives computes i e =
        by_its_type p n c i x (is_begun (slice_get xs x.number)) refl
        (ap (by_type xs) (sym x.ty) ∙ (sym (ap (λ o. initial_by o (by_type xs c.ty)) (default_unset c x.unset)) ∙ e))

    begun_parts : (p n : ℕ) (cs : List Component) → AreParts k.records t cs → ((i : ℕ) (x : Component) (v : ℕ) → slice_get cs i ≡ Some x → constant_of x ≡ Some v → GivesConstant default t (p + i) v) → ((i : ℕ) (x : Component) (y : Expr) → slice_get cs i ≡ Some x → computed x ≡ Some y → IsComputed k t (p + i) x.ty) → AreBegun k default t (keep (is_initialized k) (placed_from k p n cs)) (begun_from xs (cells_of k) p n cs)
    unfolding placed_from is_initialized keep
    begun_parts p n [] parts gives computes = tt
    begun_parts p n (c ∷ cs) parts gives computes =
        let first : p + 0 ≡ p = omega arith in
        let rest = begun_parts (p + 1) (n + cells_of k c.ty) cs parts.1 (λ i x v here is. let later : p + suc i ≡ p + 1 + i = omega arith in subst (λ q. GivesConstant default t q v) later (gives (suc i) x v here is))
        (λ i x y here is. let later : p + suc i ≡ p + 1 + i = omega arith in subst (λ q. IsComputed k t q x.ty) later (computes (suc i) x y here is)) in
        begun_more p n c (initial_of xs c) ((is_some c.default || has_controlled k c.ty) || has_default k c.ty) _ _ (begins_is t (told_type t) c parts.0)
        (begins_so p n c parts.0 (λ v e. subst (λ q. GivesConstant default t q v) first (gives 0 c v refl e)) (λ y e. subst (λ q. IsComputed k t q c.ty) first (computes 0 c y refl e))) rest

  -- one more component with a controlled part
  parts_more : (t p n : ℕ) (c : Component) (o : Option Initial) (b : Bool) (ps : List Placed) (ys : List Begun) → has_finalized xs o ≡ b → ((i : Initial) → o ≡ Some i → is_finalized_by xs i ≡ true → HasPart k t (placed_at p n c (is_some c.default)) (record { position = p; offset = n; initial = i })) → HaveParts k t ps (finalized_by xs ys) → HaveParts k t (if b then placed_at p n c (is_some c.default) ∷ ps else ps) (finalized_by xs (begun_before p n o ys))
  unfolding keep
  parts_more t p n c None true ps ys e how rest = absurd (cc)
  parts_more t p n c None false ps ys e how rest = rest
  parts_more t p n c (Some i) true ps ys e how rest = subst (λ b. HaveParts k t (placed_at p n c (is_some c.default) ∷ ps) (if b then (record { position = p; offset = n; initial = i }) ∷ finalized_by xs ys else finalized_by xs ys)) (sym e) (how i refl e, rest)
  parts_more t p n c (Some i) false ps ys e how rest = subst (λ b. HaveParts k t ps (if b then (record { position = p; offset = n; initial = i }) ∷ finalized_by xs ys else finalized_by xs ys)) (sym e) rest

  has_type : (t p n : ℕ) (c : Component) (i : Initial) (x : IsOfPlain k.records t c) → (b : Bool) → is_begun (slice_get xs x.number) ≡ b → type_if x.number b ≡ Some i → HasPart k t (placed_at p n c (is_some c.default)) (record { position = p; offset = n; initial = i })
  has_type t p n c i x false is e = absurd (cc)
  has_type t p n c i x true is e = record { position = refl; offset = refl; number = x.number; initial = (let same : ByType x.number ≡ i = cc e in sym same); ty = x.ty; less = x.less; plain = part_plain k t c x }

  has_so : (t p n : ℕ) (c : Component) → IsPart k.records t c → (i : Initial) → initial_of xs c ≡ Some i → is_finalized_by xs i ≡ true → HasPart k t (placed_at p n c (is_some c.default)) (record { position = p; offset = n; initial = i })
  has_so t p n c (inl scalar) i e part = absurd (let bad : true ≡ false = sym part ∙ (ap (has_finalized xs) (sym e) ∙ scalar_plain (run_default c) (by_type xs c.ty) (no_type xs c.ty scalar)) in cc)
  has_so t p n c (inr x) i e part =
      has_type t p n c i x (is_begun (slice_get xs x.number)) refl
      (ap (by_type xs) (sym x.ty) ∙ (sym (ap (λ o. initial_by o (by_type xs c.ty)) (default_unset c x.unset)) ∙ e))

  parts_have : (t p n : ℕ) (cs : List Component) → AreParts k.records t cs → HaveParts k t (keep (λ (q : Placed). has_controlled k q.ty) (placed_from k p n cs)) (finalized_by xs (begun_from xs (cells_of k) p n cs))
  unfolding placed_from keep
  parts_have t p n [] parts = tt
  parts_have t p n (c ∷ cs) parts = parts_more t p n c (initial_of xs c) (has_controlled k c.ty) _ _ (finalized_is t (told_type t) c parts.0) (has_so t p n c parts.0) (parts_have t (p + 1) (n + cells_of k c.ty) cs parts.1)

  agrees_on : (default : Default) → GivesDefaults k default → (t : ℕ) (r : RecordType) → slice_get k.records t ≡ Some r → IsPlain k t r → AgreesOn k code default t
  agrees_on default given t r here plain =
      let cs = plain.components in
      let x = known t r here cs plain.laid in
      record {
        begun =
            subst (λ ys. AreBegun k default t (keep (is_initialized k) (placed k t)) ys) (sym (ap begun_in x.there ∙ x.begun))
            (subst (λ ps. AreBegun k default t (keep (is_initialized k) ps) (begun_from xs (cells_of k) 1 0 cs)) (sym (placed_laid k t cs plain.laid))
            (begun_parts default t 1 0 cs plain.laid.parts (λ i y v at is. let p : i + 1 ≡ 1 + i = omega arith in subst (λ q. GivesConstant default t q v) p (given t r here plain i y v at is))
            (λ i y e at is. let p : 1 + i ≡ i + 1 = omega arith in record { components = cs; laid = plain.laid; index = i; component = y; there = at; place = p; expression = e; is = is; of = refl })));
        controlled =
            subst (λ ys. HaveParts k t (keep (λ (q : Placed). has_controlled k q.ty) (placed k t)) ys) (sym (ap controlled_in x.there ∙ x.controlled))
            (subst (λ ps. HaveParts k t (keep (λ (q : Placed). has_controlled k q.ty) ps) (finalized_by xs (begun_from xs (cells_of k) 1 0 cs))) (sym (placed_laid k t cs plain.laid))
            (parts_have t 1 0 cs plain.laid.parts));
        itself = root_tagged k t x.r x.here ∙ (itself_is x.r.root x.layout.controlled.items ∙ sym (ap (λ o. is_itself (parts_in o)) x.there ∙ ap is_itself x.parts));
        has = sym (tells t cs plain.laid).part;
      }

  pub agrees : (default : Default) → GivesDefaults k default → Agree k code default
  agrees default given t plain = agrees_on default given t plain.0 plain.1 plain.2
