-- The layouts of record types in the code are those of the meaning.
use Rattle.std.proofs.Common.{◌≡◌, ℕ, zero, suc, ◌+◌, ◌*◌, ◌-◌, ◌<◌, ◌≤◌, List, [], ◌∷◌, ◌++◌, arith, length, length-append, append_assoc, append-nil, Option, Some, None, Bool, true, false, refl, sym, ap, ◌∙◌, subst, ◌⊎◌, inl, inr}
use Rattle.std.specs.Prelude.{slice_get, nat_lt, if◌then◌else◌}
use Rattle.std.proofs.lemmas.Bool.{ltb-true}
use Rattle.std.proofs.lemmas.Option.{slice_get_within}
use Rattle.ctl_program.specs.declared.types.Ty.{Ty}
use Rattle.ctl_program.specs.declared.types.Ty.TheVariants as TyOf
use Rattle.ctl_program.specs.declared.types.Ty.TheVariants.{Record}
use Rattle.ctl_program.specs.declared.types.Root.{Root}
use Rattle.ctl_program.specs.declared.expression.Expr.{Expr}
use Rattle.ctl_program.specs.declared.types.Root.TheVariants.{BlockPool, Controlled, MarkPool, Untagged}
use Rattle.ctl_program.specs.declared.types.Component.{Component}
use Rattle.ctl_program.specs.declared.types.RecordType.{RecordType}
use Rattle.ctl_meaning.specs.Lists.{item_or, keep}
use Rattle.ctl_program.specs.Limits.{least_record_size, scalar_size, tag_size}
use Rattle.ctl_meaning.specs.Types.{Tables, as_record_size, cells_of, is_tagged_root, offset_in, placed, root_in, size_of, total}
use Rattle.ctl_code.specs.declared.code.Begun.{Begun}
use Rattle.ctl_code.specs.declared.code.Initial.{Initial}
use Rattle.ctl_code.specs.declared.code.Initial.TheVariants.{Constant, ByType, Computed}
use Rattle.ctl_code.specs.declared.code.Layout.{Layout}
use Rattle.ctl_code.specs.Table as Table
use Rattle.ctl_code.specs.Table.{has_part}
use Rattle.ctl_code.specs.Valid.{PositionsRise}
use Rattle.ctl_layout.specs.Layout.{AreLayouts, IsLayout, cells_by, content_in, next_position, offsets_from, offsets_in, parent_layout, tag_of, units_by}
use Rattle.ctl_layout.specs.Records.{is_laid, run_default}
use Rattle.ctl_layout.specs.Defaults.{begun_before, begun_from, by_type, constant_at, finalized_by, initial_by, initial_in, initial_of, is_begun, is_finalized_by, type_if}
use Rattle.ctl_layout.proofs.Extensions.{HasComponents, extends_none, extends_one, get_behind, get_front, same_components}
use Rattle.ctl_gen.proofs.Depths.{scalar_of_record, size_laid, tag_units, total_alike}
use Rattle.ctl_gen.proofs.Known.{AreParts, Extends, IsLaid, IsPart, IsScalar, extends_if, laid_if, part_laid}
use Rattle.ctl_gen.proofs.Plain.{cells_laid, offset_laid, one_cell_each}

-- Two rows of components --------------------------------------------------------------------------

before_both : (p n : ℕ) (o : Option Initial) (xs ys : List Begun) → begun_before p n o (xs ++ ys) ≡ begun_before p n o xs ++ ys
before_both p n None xs ys = refl
before_both p n (Some v) xs ys = refl

module _ (size : Ty → ℕ) where
  total_both : (cs ds : List Component) → total size (cs ++ ds) ≡ total size cs + total size ds
  unfolding total
  total_both [] ds = let none : total size ds ≡ 0 + total size ds = omega arith in none
  total_both (c ∷ cs) ds = let rest = total_both cs ds in omega (arith, rest)

  offsets_both : (n : ℕ) (cs ds : List Component) → offsets_from size n (cs ++ ds) ≡ offsets_from size n cs ++ offsets_from size (n + total size cs) ds
  unfolding total
  offsets_both n [] ds = let same : n ≡ n + 0 = omega arith in ap (λ i. offsets_from size i ds) same
  offsets_both n (c ∷ cs) ds =
      let same : n + size c.ty + total size cs ≡ n + (size c.ty + total size cs) = omega arith in
      ap (λ is. n ∷ is) (offsets_both (n + size c.ty) cs ds ∙ ap (λ i. offsets_from size (n + size c.ty) cs ++ offsets_from size i ds) same)

  pub offsets_length : (n : ℕ) (cs : List Component) → length (offsets_from size n cs) ≡ length cs
  offsets_length n [] = refl
  offsets_length n (c ∷ cs) = ap suc (offsets_length (n + size c.ty) cs)

  begun_both : (layouts : List Layout) (p n : ℕ) (cs ds : List Component) → begun_from layouts size p n (cs ++ ds) ≡ begun_from layouts size p n cs ++ begun_from layouts size (p + length cs) (n + total size cs) ds
  unfolding total
  begun_both layouts p n [] ds =
      let same : n ≡ n + 0 = omega arith in
      let here : p ≡ p + 0 = omega arith in
      ap (λ i. begun_from layouts size p i ds) same ∙ ap (λ i. begun_from layouts size i (n + 0) ds) here
  begun_both layouts p n (c ∷ cs) ds =
      let same : n + size c.ty + total size cs ≡ n + (size c.ty + total size cs) = omega arith in
      let here : p + 1 + length cs ≡ p + suc (length cs) = omega arith in
      let first = begun_from layouts size (p + 1) (n + size c.ty) cs in
      ap (begun_before p n (initial_of layouts c)) (begun_both layouts (p + 1) (n + size c.ty) cs ds ∙ (ap (λ i. first ++ begun_from layouts size (p + 1 + length cs) i ds) same ∙ ap (λ i. first ++ begun_from layouts size i (n + (size c.ty + total size cs)) ds) here))
      ∙ before_both p n (initial_of layouts c) first (begun_from layouts size (p + suc (length cs)) (n + (size c.ty + total size cs)) ds)

-- A layout grows by one component after another ---------------------------------------------------

-- y is x with these components behind it
pub record Grows (layouts : List Layout) (x : Layout) (cs : List Component) (y : Layout) : Type 0 where
  pub level : y.level ≡ x.level
  pub cells : y.cells ≡ x.cells + total (cells_by layouts) cs
  pub content : y.content ≡ x.content + total (units_by layouts) cs
  pub offsets : y.offsets.items ≡ x.offsets.items ++ offsets_from (cells_by layouts) x.cells cs
  pub begun : y.begun.items ≡ x.begun.items ++ begun_from layouts (cells_by layouts) (length x.offsets.items + 1) x.cells cs

-- a layout has the components of a type behind those that it inherits
pub record HasOwn (layouts : List Layout) (r : RecordType) (x : Layout) : Type 0 where
  pub level : x.level ≡ r.level
  pub cells : x.cells ≡ Table.size_in (parent_layout layouts r.parent) + total (cells_by layouts) r.own
  pub content : x.content ≡ content_in (parent_layout layouts r.parent) + total (units_by layouts) r.own
  pub offsets : x.offsets.items ≡ offsets_in (parent_layout layouts r.parent) ++ offsets_from (cells_by layouts) (Table.size_in (parent_layout layouts r.parent)) r.own
  pub begun : x.begun.items ≡ Table.begun_in (parent_layout layouts r.parent) ++ begun_from layouts (cells_by layouts) (next_position (parent_layout layouts r.parent)) (Table.size_in (parent_layout layouts r.parent)) r.own

pub grows_none : (layouts : List Layout) (x : Layout) → Grows layouts x [] x
unfolding total
grows_none layouts x = record { level = refl; cells = omega arith; content = omega arith; offsets = sym (append-nil x.offsets.items); begun = sym (append-nil x.begun.items) }

-- z is x with one more component
pub grows_more : (layouts : List Layout) (x z : Layout) (c : Component) (cs : List Component) (y : Layout) → z.level ≡ x.level → z.cells ≡ x.cells + cells_by layouts c.ty → z.content ≡ x.content + units_by layouts c.ty → z.offsets.items ≡ x.offsets.items ++ x.cells ∷ []
    → z.begun.items ≡ x.begun.items ++ begun_before (length x.offsets.items + 1) x.cells (initial_of layouts c) [] → Grows layouts z cs y → Grows layouts x (c ∷ cs) y
unfolding total
grows_more layouts x z c cs y level cells content offsets begun h =
    let size = cells_by layouts in
    let p = length x.offsets.items + 1 in
    let n = x.cells + size c.ty in
    let longer : length z.offsets.items + 1 ≡ p + 1 = (let more = ap length offsets in let one = length-append x.offsets.items (x.cells ∷ []) in omega (arith, more, one)) in
    record {
      level = h.level ∙ level;
      cells = let more = h.cells in omega (arith, more, cells);
      content = let more = h.content in omega (arith, more, content);
      offsets =
          h.offsets
          ∙ (ap (λ i. z.offsets.items ++ offsets_from size i cs) cells
          ∙ (ap (λ (ns : List ℕ). ns ++ offsets_from size n cs) offsets
          ∙ append_assoc x.offsets.items (x.cells ∷ []) (offsets_from size n cs)));
      begun =
          h.begun
          ∙ (ap (λ i. z.begun.items ++ begun_from layouts size (length z.offsets.items + 1) i cs) cells
          ∙ (ap (λ i. z.begun.items ++ begun_from layouts size i n cs) longer
          ∙ (ap (λ (bs : List Begun). bs ++ begun_from layouts size (p + 1) n cs) begun
          ∙ (append_assoc x.begun.items (begun_before p x.cells (initial_of layouts c) []) (begun_from layouts size (p + 1) n cs)
          ∙ ap (λ (bs : List Begun). x.begun.items ++ bs) (sym (before_both p x.cells (initial_of layouts c) [] (begun_from layouts size (p + 1) n cs)))))));
    }

-- behind what a type inherits
pub grown : (layouts : List Layout) (r : RecordType) (x y : Layout) → x.level ≡ r.level → x.cells ≡ Table.size_in (parent_layout layouts r.parent) → x.content ≡ content_in (parent_layout layouts r.parent) → x.offsets.items ≡ offsets_in (parent_layout layouts r.parent) → x.begun.items ≡ Table.begun_in (parent_layout layouts r.parent) → Grows layouts x r.own y → HasOwn layouts r y
grown layouts r x y level cells content offsets begun h =
    let size = cells_by layouts in
    let o = parent_layout layouts r.parent in
    record {
      level = h.level ∙ level;
      cells = h.cells ∙ ap (λ n. n + total size r.own) cells;
      content = h.content ∙ ap (λ n. n + total (units_by layouts) r.own) content;
      offsets =
          h.offsets
          ∙ (ap (λ n. x.offsets.items ++ offsets_from size n r.own) cells
          ∙ ap (λ (ns : List ℕ). ns ++ offsets_from size (Table.size_in o) r.own) offsets);
      begun =
          h.begun
          ∙ (ap (λ n. x.begun.items ++ begun_from layouts size (length x.offsets.items + 1) n r.own) cells
          ∙ (ap (λ (ns : List ℕ). x.begun.items ++ begun_from layouts size (length ns + 1) (Table.size_in o) r.own) offsets
          ∙ ap (λ (bs : List Begun). bs ++ begun_from layouts size (next_position o) (Table.size_in o) r.own) begun));
    }

-- The table of layouts ----------------------------------------------------------------------------

-- the layout of a type of the table is made of those that stand before it
pub record IsAt (xs : List Layout) (t : ℕ) (r : RecordType) : Type 0 where
  pub layout : Layout
  pub there : slice_get xs t ≡ Some layout
  pub before : List Layout
  pub many : length before ≡ t
  pub is : IsLayout before r layout
  pub same : (p : ℕ) → p < t → slice_get xs p ≡ slice_get before p

layout_from : (ys xs : List Layout) (rs : List RecordType) → AreLayouts ys xs rs → (i t : ℕ) (r : RecordType) → slice_get rs i ≡ Some r → t ≡ length ys + i → IsAt (ys ++ xs) t r
layout_from ys [] [] h i t r at e = absurd (cc)
layout_from ys [] (s ∷ rs) h i t r at e = absurd h
layout_from ys (x ∷ xs) [] h i t r at e = absurd h
layout_from ys (x ∷ xs) (s ∷ rs) h zero t r at e =
    let same : s ≡ r = cc at in
    record {
      layout = x;
      there = get_behind ys x xs t (omega (arith, e));
      before = ys;
      many = omega (arith, e);
      is = subst (λ z. IsLayout ys z x) same h.0;
      same = λ p lt. get_front ys (x ∷ xs) p (omega (arith, lt, e));
    }
layout_from ys (x ∷ xs) (s ∷ rs) h (suc i) t r at e =
    subst (λ zs. IsAt zs t r) (append_assoc ys (x ∷ []) xs) (layout_from (ys ++ x ∷ []) xs rs h.1 i t r at (omega (arith, e, length-append ys (x ∷ []))))

-- each layout is that of a type
layout_type : (ys xs : List Layout) (rs : List RecordType) → AreLayouts ys xs rs → (i : ℕ) (x : Layout) → slice_get xs i ≡ Some x → (r : RecordType) × (slice_get rs i ≡ Some r)
layout_type ys [] rs h i x at = absurd (cc)
layout_type ys (z ∷ xs) [] h i x at = absurd h
layout_type ys (z ∷ xs) (r ∷ rs) h zero x at = (r, refl)
layout_type ys (z ∷ xs) (r ∷ rs) h (suc i) x at = layout_type (ys ++ z ∷ []) xs rs h.1 i x at

-- Components that begin with something ------------------------------------------------------------

-- by a type that stands before this one
abbrev pub StandsBefore : ℕ → Initial → Type 0
StandsBefore t (Constant n) = Unit {0}
StandsBefore t (ByType u) = u < t
StandsBefore t Computed = Unit {0}

abbrev pub StandBefore : ℕ → List Begun → Type 0
StandBefore t [] = Unit {0}
StandBefore t (x ∷ xs) = StandsBefore t x.initial × StandBefore t xs

stand_later : (s t : ℕ) (xs : List Begun) → s < t → StandBefore s xs → StandBefore t xs
stand_later s t [] lt h = tt
stand_later s t (x ∷ xs) lt h = (by x.initial h.0, stand_later s t xs lt h.1)
  where
    by : (i : Initial) → StandsBefore s i → StandsBefore t i
    by (Constant n) g = tt
    by (ByType u) g = omega (arith, g, lt)
    by Computed g = tt

stand_both : (t : ℕ) (xs ys : List Begun) → StandBefore t xs → StandBefore t ys → StandBefore t (xs ++ ys)
stand_both t [] ys h g = g
stand_both t (x ∷ xs) ys h g = (h.0, stand_both t xs ys h.1 g)

-- what holds of how a component begins, if it begins with something
abbrev pub Perhaps : (Initial → Type 0) → Option Initial → Type 0
Perhaps P None = Unit {0}
Perhaps P (Some i) = P i

-- only a type that has a layout begins something
begun_there : (o : Option Layout) → is_begun o ≡ true → (x : Layout) × (o ≡ Some x)
begun_there None e = absurd (cc)
begun_there (Some x) e = (x, refl)

type_stands : (layouts : List Layout) (u : ℕ) (b : Bool) → is_begun (slice_get layouts u) ≡ b → Perhaps (StandsBefore (length layouts)) (type_if u b)
type_stands layouts u false e = tt
type_stands layouts u true e = let x = begun_there (slice_get layouts u) e in slice_get_within layouts u x.0 x.1

by_type_stands : (layouts : List Layout) (ty : Ty) → Perhaps (StandsBefore (length layouts)) (by_type layouts ty)
by_type_stands layouts TyOf.Integer = tt
by_type_stands layouts TyOf.Count = tt
by_type_stands layouts TyOf.Boolean = tt
by_type_stands layouts TyOf.Address = tt
by_type_stands layouts TyOf.Handle = tt
by_type_stands layouts (TyOf.Access a) = tt
by_type_stands layouts (Record u) = type_stands layouts u (is_begun (slice_get layouts u)) refl

initial_stands : (layouts : List Layout) (c : Component) → Perhaps (StandsBefore (length layouts)) (initial_of layouts c)
initial_stands layouts c = by (run_default c)
  where
    given : (o : Option ℕ) → StandsBefore (length layouts) (initial_in o)
    given None = tt
    given (Some n) = tt

    by : (o : Option Expr) → Perhaps (StandsBefore (length layouts)) (initial_by o (by_type layouts c.ty))
    by None = by_type_stands layouts c.ty
    by (Some e) = given (constant_at e)

stand_first : (t p n : ℕ) (o : Option Initial) (xs : List Begun) → Perhaps (StandsBefore t) o → StandBefore t xs → StandBefore t (begun_before p n o xs)
stand_first t p n None xs h g = g
stand_first t p n (Some i) xs h g = (h, g)

begun_stand : (layouts : List Layout) (size : Ty → ℕ) (p n : ℕ) (cs : List Component) → StandBefore (length layouts) (begun_from layouts size p n cs)
begun_stand layouts size p n [] = tt
begun_stand layouts size p n (c ∷ cs) = stand_first (length layouts) p n (initial_of layouts c) _ (initial_stands layouts c) (begun_stand layouts size (p + 1) (n + size c.ty) cs)

-- positions rise behind this one, up to another
abbrev pub RiseTo : ℕ → ℕ → List Begun → Type 0
RiseTo top last [] = last ≤ top
RiseTo top last (x ∷ xs) = (last < x.position) × RiseTo top x.position xs

pub rise_to : (top last : ℕ) (xs : List Begun) → RiseTo top last xs → PositionsRise last xs
rise_to top last [] h = tt
rise_to top last (x ∷ xs) h = (h.0, rise_to top x.position xs h.1)

rise_later : (top first last : ℕ) (xs : List Begun) → first ≤ last → RiseTo top last xs → RiseTo top first xs
rise_later top first last [] le h = omega (arith, le, h)
rise_later top first last (x ∷ xs) le h = (let lt = h.0 in omega (arith, le, lt), h.1)

rise_both : (top middle last : ℕ) (xs ys : List Begun) → RiseTo middle last xs → RiseTo top middle ys → RiseTo top last (xs ++ ys)
rise_both top middle last [] ys h g = rise_later top last middle ys h g
rise_both top middle last (x ∷ xs) ys h g = (h.0, rise_both top middle x.position xs ys h.1 g)

begun_rise : (layouts : List Layout) (size : Ty → ℕ) (last n : ℕ) (cs : List Component) → RiseTo (last + length cs) last (begun_from layouts size (last + 1) n cs)
begun_rise layouts size last n [] = omega arith
begun_rise layouts size last n (c ∷ cs) =
    let same : last + 1 + length cs ≡ last + suc (length cs) = omega arith in
    by (initial_of layouts c) (subst (λ top. RiseTo top (last + 1) (begun_from layouts size (last + 1 + 1) (n + size c.ty) cs)) same (begun_rise layouts size (last + 1) (n + size c.ty) cs))
  where
    by : (o : Option Initial) → RiseTo (last + suc (length cs)) (last + 1) (begun_from layouts size (last + 1 + 1) (n + size c.ty) cs) → RiseTo (last + suc (length cs)) last (begun_before (last + 1) n o (begun_from layouts size (last + 1 + 1) (n + size c.ty) cs))
    by None h = rise_later _ last (last + 1) _ (omega arith) h
    by (Some i) h = (omega arith, h)

-- those with a controlled part, where two tables say the same of the types that stand before
finalized_alike : (before layouts : List Layout) (t : ℕ) → ((u : ℕ) → u < t → slice_get layouts u ≡ slice_get before u) → (xs : List Begun) → StandBefore t xs → finalized_by before xs ≡ finalized_by layouts xs
unfolding keep
finalized_alike before layouts t same [] h = refl
finalized_alike before layouts t same (x ∷ xs) h =
    ap (λ b. if b then x ∷ finalized_by before xs else finalized_by before xs) (by x.initial h.0)
    ∙ ap (λ zs. if is_finalized_by layouts x.initial then x ∷ zs else zs) (finalized_alike before layouts t same xs h.1)
  where
    by : (i : Initial) → StandsBefore t i → is_finalized_by before i ≡ is_finalized_by layouts i
    by (Constant n) g = refl
    by (ByType u) g = ap (λ o. has_part (Table.parts_in o)) (sym (same u g))
    by Computed g = refl

-- Sizes -------------------------------------------------------------------------------------------

-- sizes that agree on the types of components, and two tables that do so
module _ (records : List RecordType) (t : ℕ) (f g : Ty → ℕ) (each : (c : Component) → IsPart records t c → f c.ty ≡ g c.ty) where
  offsets_alike : (n : ℕ) (cs : List Component) → AreParts records t cs → offsets_from f n cs ≡ offsets_from g n cs
  offsets_alike n [] h = refl
  offsets_alike n (c ∷ cs) h = ap (λ m. n ∷ offsets_from f (n + m) cs) (each c h.0) ∙ ap (λ is. n ∷ is) (offsets_alike (n + g c.ty) cs h.1)

  begun_alike : (before layouts : List Layout) → ((c : Component) → IsPart records t c → initial_of before c ≡ initial_of layouts c) → (p n : ℕ) (cs : List Component) → AreParts records t cs → begun_from before f p n cs ≡ begun_from layouts g p n cs
  begun_alike before layouts same p n [] h = refl
  begun_alike before layouts same p n (c ∷ cs) h =
      ap (λ m. begun_before p n (initial_of before c) (begun_from before f (p + 1) (n + m) cs)) (each c h.0)
      ∙ (ap (λ o. begun_before p n o (begun_from before f (p + 1) (n + g c.ty) cs)) (same c h.0)
      ∙ ap (begun_before p n (initial_of layouts c)) (begun_alike before layouts same (p + 1) (n + g c.ty) cs h.1))

-- a layout is what the meaning says of these components; none where there is none of them
pub record IsSized (k : Tables) (layouts : List Layout) (o : Option Layout) (cs : List Component) : Type 0 where
  pub cells : Table.size_in o ≡ total (cells_of k) cs
  pub offsets : offsets_in o ≡ offsets_from (cells_of k) 0 cs
  pub begun : Table.begun_in o ≡ begun_from layouts (cells_of k) 1 0 cs

nothing_inherited : (k : Tables) (layouts : List Layout) → IsSized k layouts None []
unfolding total
nothing_inherited k layouts = record { cells = refl; offsets = refl; begun = refl }

-- of what a type inherits, and of the whole
module _ (k : Tables) (layouts : List Layout) (t : ℕ) (before : List Layout) (r : RecordType) (x : Layout) (cs : List Component) (each : (c : Component) → IsPart k.records t c → cells_by before c.ty ≡ cells_of k c.ty) (same : (c : Component) → IsPart k.records t c → initial_of before c ≡ initial_of layouts c) (parts : AreParts k.records t r.own) (is : IsLayout before r x) (from : IsSized k layouts (parent_layout before r.parent) cs) where
  behind : Table.size_in (parent_layout before r.parent) ≡ 0 + total (cells_of k) cs
  behind = let cells = from.cells in omega (arith, cells)

  next : next_position (parent_layout before r.parent) ≡ 1 + length cs
  next = let many = ap length from.offsets in let all = offsets_length (cells_of k) 0 cs in omega (arith, many, all)

  sized_begun : x.begun.items ≡ begun_from layouts (cells_of k) 1 0 (cs ++ r.own)
  sized_begun =
      is.begun
      ∙ (ap (λ (bs : List Begun). bs ++ begun_from before (cells_by before) (next_position (parent_layout before r.parent)) (Table.size_in (parent_layout before r.parent)) r.own) from.begun
      ∙ (ap (λ (bs : List Begun). begun_from layouts (cells_of k) 1 0 cs ++ bs) (ap (λ n. begun_from before (cells_by before) (next_position (parent_layout before r.parent)) n r.own) behind ∙ (ap (λ p. begun_from before (cells_by before) p (0 + total (cells_of k) cs) r.own) next ∙ begun_alike k.records t (cells_by before) (cells_of k) each before layouts same (1 + length cs) (0 + total (cells_of k) cs) r.own parts))
      ∙ sym (begun_both (cells_of k) layouts 1 0 cs r.own)))

  sized_behind : IsSized k layouts (Some x) (cs ++ r.own)
  sized_behind = record {
    cells =
        is.cells
        ∙ (ap (λ n. n + total (cells_by before) r.own) from.cells
        ∙ (ap (λ n. total (cells_of k) cs + n) (total_alike k.records t (cells_by before) (cells_of k) each r.own parts)
        ∙ sym (total_both (cells_of k) cs r.own)));
    offsets =
        is.offsets
        ∙ (ap (λ (ns : List ℕ). ns ++ offsets_from (cells_by before) (Table.size_in (parent_layout before r.parent)) r.own) from.offsets
        ∙ (ap (λ (ns : List ℕ). offsets_from (cells_of k) 0 cs ++ ns) (ap (λ n. offsets_from (cells_by before) n r.own) behind ∙ offsets_alike k.records t (cells_by before) (cells_of k) each (0 + total (cells_of k) cs) r.own parts)
        ∙ sym (offsets_both (cells_of k) 0 cs r.own)));
    begun = sized_begun;
  }

one_cell : (layouts : List Layout) (ty : Ty) → IsScalar ty → cells_by layouts ty ≡ 1
one_cell layouts TyOf.Integer h = refl
one_cell layouts TyOf.Count h = refl
one_cell layouts TyOf.Boolean h = refl
one_cell layouts TyOf.Address h = refl
one_cell layouts TyOf.Handle h = absurd h
one_cell layouts (TyOf.Access a) h = refl
one_cell layouts (Record t) h = absurd h

offset_is : (o : Option Layout) (position : ℕ) → Table.offset_in o position ≡ item_or 0 (slice_get (offsets_in o) (position - 1))
unfolding item_or
offset_is None position = refl
offset_is (Some x) position = refl

pub no_type : (layouts : List Layout) (ty : Ty) → IsScalar ty → by_type layouts ty ≡ None
no_type layouts TyOf.Integer h = refl
no_type layouts TyOf.Count h = refl
no_type layouts TyOf.Boolean h = refl
no_type layouts TyOf.Address h = refl
no_type layouts TyOf.Handle h = absurd h
no_type layouts (TyOf.Access a) h = refl
no_type layouts (Record t) h = absurd h

-- Each type of the table --------------------------------------------------------------------------

module _ (records : List RecordType) (xs : List Layout) (laid : AreLayouts [] xs records) where
  pub at : (t : ℕ) (r : RecordType) → slice_get records t ≡ Some r → IsAt xs t r
  at t r here = layout_from [] xs records laid t t r here (omega arith)

  pub type_of : (t : ℕ) (x : Layout) → slice_get xs t ≡ Some x → (r : RecordType) × (slice_get records t ≡ Some r)
  type_of t x there = layout_type [] xs records laid t x there

  -- what is known of the components of any type that begin with something
  pub record AreTold (t : ℕ) (x : Layout) : Type 0 where
    pub before : StandBefore t x.begun.items
    pub rise : RiseTo (length x.offsets.items) 0 x.begun.items

  abbrev ToldAt : ℕ → Type 0
  ToldAt t = (x : Layout) → slice_get xs t ≡ Some x → AreTold t x

  -- what is inherited
  told_from : (t : ℕ) (z : List Layout) → ((p : ℕ) → p < t → slice_get xs p ≡ slice_get z p) → length z ≡ t → ((u : ℕ) → u < t → ToldAt u) → (o : Option Layout) (q : Option ℕ) → parent_layout z q ≡ o → StandBefore t (Table.begun_in o) × RiseTo (length (offsets_in o)) 0 (Table.begun_in o)
  told_from t z same many before None q e = (tt, omega arith)
  told_from t z same many before (Some y) None e = absurd (cc)
  told_from t z same many before (Some y) (Some p) e =
      let within = slice_get_within z p y e in
      let less : p < t = omega (arith, within, many) in
      let told = before p less y (same p less ∙ e) in
      (stand_later p t y.begun.items less told.before, told.rise)

  told_by : (t : ℕ) → ((u : ℕ) → u < t → ToldAt u) → ToldAt t
  told_by t before x there =
      let r = type_of t x there in
      let z = at t r.0 r.1 in
      let o = parent_layout z.before r.0.parent in
      let from = told_from t z.before z.same z.many before o r.0.parent refl in
      let size = cells_by z.before in
      let own = begun_from z.before size (next_position o) (Table.size_in o) r.0.own in
      let same : z.layout ≡ x = (let e : Some z.layout ≡ Some x = sym z.there ∙ there in cc e) in
      let more : length (offsets_in o) + length r.0.own ≡ length z.layout.offsets.items = (let all = ap length z.is.offsets in let both = length-append (offsets_in o) (offsets_from size (Table.size_in o) r.0.own) in let each = offsets_length size (Table.size_in o) r.0.own in omega (arith, all, both, each)) in
      subst (AreTold t) same
      (record {
        before = subst (StandBefore t) (sym z.is.begun) (stand_both t (Table.begun_in o) own from.0 (subst (λ n. StandBefore n own) z.many (begun_stand z.before size (next_position o) (Table.size_in o) r.0.own)));
        rise = subst (RiseTo (length z.layout.offsets.items) 0) (sym z.is.begun) (rise_both (length z.layout.offsets.items) (length (offsets_in o)) 0 (Table.begun_in o) own from.1 (subst (λ top. RiseTo top (length (offsets_in o)) own) more (begun_rise z.before size (length (offsets_in o)) (Table.size_in o) r.0.own)));
      })

  told_within : (n t : ℕ) → t < n → ToldAt t
  told_within zero t lt = absurd (omega (arith, lt))
  told_within (suc n) t lt = told_by t (λ u less. told_within n u (omega (arith, less, lt)))

  pub told : (t : ℕ) → ToldAt t
  told t = told_within (suc t) t (omega arith)

  pub controlled_are : (t : ℕ) (x : Layout) → slice_get xs t ≡ Some x → x.controlled.items ≡ finalized_by xs x.begun.items
  controlled_are t x there =
      let r = type_of t x there in
      let z = at t r.0 r.1 in
      let same : z.layout ≡ x = (let e : Some z.layout ≡ Some x = sym z.there ∙ there in cc e) in
      subst (λ (y : Layout). y.controlled.items ≡ finalized_by xs y.begun.items) same (z.is.controlled ∙ finalized_alike z.before xs t z.same z.layout.begun.items (told t z.layout z.there).before)

-- Storage units of each type (13.3) ---------------------------------------------------------------

-- a record type has no fewer than it asks for
least_units : (n : ℕ) → n ≤ as_record_size n
unfolding as_record_size
least_units n = by (nat_lt n least_record_size) refl
  where
    by : (b : Bool) → nat_lt n least_record_size ≡ b → n ≤ (if b then least_record_size else n)
    by true e = let lt = ltb-true n least_record_size e in omega (arith, lt)
    by false e = omega arith

-- each cell of a value of such a type has its storage units
abbrev HasUnits : List Layout → Ty → Type 0
HasUnits layouts ty = 8 * cells_by layouts ty ≤ units_by layouts ty

-- and so have components of such types together
total_units : (layouts : List Layout) → ((u : ℕ) → HasUnits layouts (Record u)) → (cs : List Component) → 8 * total (cells_by layouts) cs ≤ total (units_by layouts) cs
unfolding total
total_units layouts each [] = omega arith
total_units layouts each (c ∷ cs) = let one = by c.ty in let rest = total_units layouts each cs in omega (arith, one, rest)
  where
    by : (ty : Ty) → HasUnits layouts ty
    by TyOf.Integer = omega arith
    by TyOf.Count = omega arith
    by TyOf.Boolean = omega arith
    by TyOf.Address = omega arith
    by TyOf.Handle = omega arith
    by (TyOf.Access a) = omega arith
    by (Record u) = each u

module _ (records : List RecordType) (xs : List Layout) (laid : AreLayouts [] xs records) where
  -- each cell of an object of any type has its storage units, also without those of its tag
  pub record IsRoomy (x : Layout) : Type 0 where
    pub content : 8 * x.cells ≤ x.content
    pub units : 8 * x.cells ≤ x.units

  abbrev RoomyAt : ℕ → Type 0
  RoomyAt t = (x : Layout) → slice_get xs t ≡ Some x → IsRoomy x

  -- of those that stand before a type
  roomy_before : (t : ℕ) (z : List Layout) → ((p : ℕ) → p < t → slice_get xs p ≡ slice_get z p) → length z ≡ t → ((u : ℕ) → u < t → RoomyAt u) → (u : ℕ) (o : Option Layout) → slice_get z u ≡ o → (8 * Table.size_in o ≤ content_in o) × (8 * Table.size_in o ≤ Table.units_in o)
  roomy_before t z same many before u None e = (omega arith, omega arith)
  roomy_before t z same many before u (Some y) e =
      let within = slice_get_within z u y e in
      let less : u < t = omega (arith, within, many) in
      let roomy = before u less y (same u less ∙ e) in
      (roomy.content, roomy.units)

  -- what is inherited
  inherited_roomy : (t : ℕ) (z : List Layout) → ((p : ℕ) → p < t → slice_get xs p ≡ slice_get z p) → length z ≡ t → ((u : ℕ) → u < t → RoomyAt u) → (q : Option ℕ) → 8 * Table.size_in (parent_layout z q) ≤ content_in (parent_layout z q)
  inherited_roomy t z same many before None = omega arith
  inherited_roomy t z same many before (Some p) = (roomy_before t z same many before p (slice_get z p) refl).0

  -- of a type, over those that stand before it
  roomy_by : (t : ℕ) → ((u : ℕ) → u < t → RoomyAt u) → RoomyAt t
  roomy_by t before x there =
      let r = type_of records xs laid t x there in
      let z = at records xs laid t r.0 r.1 in
      let same : z.layout ≡ x = (let e : Some z.layout ≡ Some x = sym z.there ∙ there in cc e) in
      let own = total_units z.before (λ u. (roomy_before t z.before z.same z.many before u (slice_get z.before u) refl).1) r.0.own in
      let from = inherited_roomy t z.before z.same z.many before r.0.parent in
      let cells = z.is.cells in
      let whole = z.is.content in
      let content : 8 * z.layout.cells ≤ z.layout.content = omega (arith, own, from, cells, whole) in
      let least = least_units (z.layout.content + tag_of r.0.root) in
      let units = z.is.units in
      subst IsRoomy same (record { content = content; units = omega (arith, content, least, units) })

  roomy_within : (n t : ℕ) → t < n → RoomyAt t
  roomy_within zero t lt = absurd (omega (arith, lt))
  roomy_within (suc n) t lt = roomy_by t (λ u less. roomy_within n u (omega (arith, less, lt)))

  -- so it is of each type of the table
  pub roomy : (t : ℕ) (x : Layout) → slice_get xs t ≡ Some x → IsRoomy x
  roomy t = roomy_within (suc t) t (omega arith)

-- Types that are laid out -------------------------------------------------------------------------

module _ (k : Tables) (xs : List Layout) (laid : AreLayouts [] xs k.records) where
  abbrev AreSized : ℕ → Type 0
  AreSized t = (cs : List Component) → IsLaid k.records t cs → IsSized k xs (slice_get xs t) cs

  -- a type that is laid out, over those that stand before it
  sized_by : (t : ℕ) (r : RecordType) → slice_get k.records t ≡ Some r → Extends k.records t r → ((u : ℕ) → u < t → AreSized u) → AreSized t
  sized_by t r here extends before cs is = by extends.parent
    where
      x : IsAt xs t r
      x = at k.records xs laid t r here

      each : (c : Component) → IsPart k.records t c → cells_by x.before c.ty ≡ cells_of k c.ty
      each c (inl scalar) = one_cell x.before c.ty scalar ∙ sym (one_cell_each k c.ty scalar)
      each c (inr y) =
          let z = laid_if k.records y.number (part_laid k.records t c y) in
          ap (cells_by x.before) y.ty
          ∙ (ap Table.size_in (sym (x.same y.number y.less))
          ∙ ((before y.number y.less z.0 z.1).cells
          ∙ (sym (cells_laid k y.number z.0 z.1) ∙ ap (cells_of k) (sym y.ty))))

      alike : (c : Component) → IsPart k.records t c → by_type x.before c.ty ≡ by_type xs c.ty
      alike c (inl scalar) = no_type x.before c.ty scalar ∙ sym (no_type xs c.ty scalar)
      alike c (inr y) = ap (by_type x.before) y.ty ∙ (ap (λ o. type_if y.number (is_begun o)) (sym (x.same y.number y.less)) ∙ ap (by_type xs) (sym y.ty))

      behind_those : (ds : List Component) → IsSized k xs (parent_layout x.before r.parent) ds → HasComponents k.records t (ds ++ r.own) → IsSized k xs (slice_get xs t) cs
      behind_those ds sized has =
          subst (λ o. IsSized k xs o cs) (sym x.there)
          (subst (IsSized k xs (Some x.layout)) (same_components k.records t (ds ++ r.own) cs has is.has)
          (sized_behind k xs t x.before r x.layout ds each (λ c part. ap (initial_by (run_default c)) (alike c part)) extends.parts x.is sized))

      by : (r.parent ≡ None) ⊎ ((p : ℕ) × (r.parent ≡ Some p) × (p < t) × (is_laid k.records p ≡ true)) → IsSized k xs (slice_get xs t) cs
      by (inl none) = behind_those [] (subst (λ o. IsSized k xs (parent_layout x.before o) []) (sym none) (nothing_inherited k xs)) (extends_none k.records t r here none)
      by (inr q) =
          let y = laid_if k.records q.0 q.3 in
          behind_those y.0 (subst (λ o. IsSized k xs (parent_layout x.before o) y.0) (sym q.1) (subst (λ o. IsSized k xs o y.0) (x.same q.0 q.2) (before q.0 q.2 y.0 y.1))) (extends_one k.records t r q.0 y.0 here q.1 q.2 y.1.has)

  sized_within : (n t : ℕ) → t < n → AreSized t
  sized_within zero t lt cs is = absurd (omega (arith, lt))
  sized_within (suc n) t lt cs is = let x = extends_if k.records t is.is in sized_by t x.0 x.1 x.2 (λ u less. sized_within n u (omega (arith, less, lt))) cs is

  pub sized : (t : ℕ) → AreSized t
  sized t = sized_within (suc t) t (omega arith)

  pub sizes : (t : ℕ) → is_laid k.records t ≡ true → Table.size_in (slice_get xs t) ≡ cells_of k (Record t)
  sizes t e = let y = laid_if k.records t e in (sized t y.0 y.1).cells ∙ sym (cells_laid k t y.0 y.1)

  pub places : (t position : ℕ) → is_laid k.records t ≡ true → Table.offset_in (slice_get xs t) position ≡ offset_in position (placed k t)
  places t position e =
      let y = laid_if k.records t e in
      offset_is (slice_get xs t) position
      ∙ (ap (λ ns. item_or 0 (slice_get ns (position - 1))) (sized t y.0 y.1).offsets
      ∙ sym (offset_laid k t y.0 y.1 position))

-- Their storage units (13.3) ----------------------------------------------------------------------

-- a component that is no record takes as many as the meaning says
scalar_units : (layouts : List Layout) (ty : Ty) → IsScalar ty → units_by layouts ty ≡ scalar_size
scalar_units layouts TyOf.Integer h = refl
scalar_units layouts TyOf.Count h = refl
scalar_units layouts TyOf.Boolean h = refl
scalar_units layouts TyOf.Address h = refl
scalar_units layouts TyOf.Handle h = absurd h
scalar_units layouts (TyOf.Access a) h = refl
scalar_units layouts (Record t) h = absurd h

scalar_means : (k : Tables) (ty : Ty) → IsScalar ty → size_of k ty ≡ scalar_size
unfolding size_of
scalar_means k ty h = scalar_of_record scalar_size _ ty h

-- and so does the tag
tag_means : (r : Root) → tag_of r ≡ (if is_tagged_root r then tag_size else 0)
unfolding is_tagged_root
tag_means Untagged = refl
tag_means Controlled = refl
tag_means BlockPool = refl
tag_means MarkPool = refl

module _ (k : Tables) (xs : List Layout) (laid : AreLayouts [] xs k.records) where
  -- a layout says as the meaning does how many storage units the components take, and the whole
  record IsMeasured (t : ℕ) (cs : List Component) : Type 0 where
    content : content_in (slice_get xs t) ≡ total (size_of k) cs
    units : Table.units_in (slice_get xs t) ≡ size_of k (Record t)

  abbrev AreMeasured : ℕ → Type 0
  AreMeasured t = (cs : List Component) → IsLaid k.records t cs → IsMeasured t cs

  -- a type that is laid out, over those that stand before it
  measured_by : (t : ℕ) (r : RecordType) → slice_get k.records t ≡ Some r → Extends k.records t r → ((u : ℕ) → u < t → AreMeasured u) → AreMeasured t
  unfolding root_in total
  measured_by t r here extends before cs is = by extends.parent
    where
      x : IsAt xs t r
      x = at k.records xs laid t r here

      each : (c : Component) → IsPart k.records t c → units_by x.before c.ty ≡ size_of k c.ty
      each c (inl scalar) = scalar_units x.before c.ty scalar ∙ sym (scalar_means k c.ty scalar)
      each c (inr y) =
          let z = laid_if k.records y.number (part_laid k.records t c y) in
          ap (units_by x.before) y.ty
          ∙ (ap Table.units_in (sym (x.same y.number y.less))
          ∙ ((before y.number y.less z.0 z.1).units
          ∙ ap (size_of k) (sym y.ty)))

      tag : tag_of r.root ≡ tag_units k.records t
      tag = tag_means r.root ∙ ap (λ o. if is_tagged_root (root_in o) then tag_size else 0) (sym here)

      behind_those : (ds : List Component) → content_in (parent_layout x.before r.parent) ≡ total (size_of k) ds → HasComponents k.records t (ds ++ r.own) → IsMeasured t cs
      behind_those ds inherited has =
          let content : x.layout.content ≡ total (size_of k) cs =
          x.is.content
          ∙ (ap (λ n. n + total (units_by x.before) r.own) inherited
          ∙ (ap (λ n. total (size_of k) ds + n) (total_alike k.records t (units_by x.before) (size_of k) each r.own extends.parts)
          ∙ (sym (total_both (size_of k) ds r.own)
          ∙ ap (total (size_of k)) (same_components k.records t (ds ++ r.own) cs has is.has)))) in
          record {
            content = ap content_in x.there ∙ content;
            units =
                ap Table.units_in x.there
                ∙ (x.is.units
                ∙ (ap (λ n. as_record_size (n + tag_of r.root)) content
                ∙ (ap (λ n. as_record_size (total (size_of k) cs + n)) tag
                ∙ sym (size_laid k t cs is))));
          }

      by : (r.parent ≡ None) ⊎ ((p : ℕ) × (r.parent ≡ Some p) × (p < t) × (is_laid k.records p ≡ true)) → IsMeasured t cs
      by (inl none) = behind_those [] (ap (λ o. content_in (parent_layout x.before o)) none) (extends_none k.records t r here none)
      by (inr q) =
          let y = laid_if k.records q.0 q.3 in
          behind_those y.0 (ap (λ o. content_in (parent_layout x.before o)) q.1 ∙ (ap content_in (sym (x.same q.0 q.2)) ∙ (before q.0 q.2 y.0 y.1).content)) (extends_one k.records t r q.0 y.0 here q.1 q.2 y.1.has)

  measured_within : (n t : ℕ) → t < n → AreMeasured t
  measured_within zero t lt cs is = absurd (omega (arith, lt))
  measured_within (suc n) t lt cs is = let x = extends_if k.records t is.is in measured_by t x.0 x.1 x.2 (λ u less. measured_within n u (omega (arith, less, lt))) cs is

  -- so many does an object take
  pub units : (t : ℕ) → is_laid k.records t ≡ true → Table.units_in (slice_get xs t) ≡ size_of k (Record t)
  units t e = let y = laid_if k.records t e in (measured_within (suc t) t (omega arith) y.0 y.1).units
