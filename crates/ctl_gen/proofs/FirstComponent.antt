-- The first component of each record type begins with the first cell of an object, whatever the type is (3.8).
use Rattle.std.proofs.Common.{◌≡◌, ℕ, zero, suc, ◌+◌, List, [], ◌∷◌, ◌++◌, append-nil, append_assoc, Option, Some, None, refl, sym, ap, subst}
use Rattle.std.specs.Prelude.{slice_get}
use Rattle.ctl_program.specs.declared.types.Ty.{Ty}
use Rattle.ctl_program.specs.declared.types.Component.{Component}
use Rattle.ctl_program.specs.declared.types.RecordType.{RecordType}
use Rattle.ctl_meaning.specs.Lists.{item_or}
use Rattle.ctl_meaning.specs.Types.{total}
use Rattle.ctl_code.specs.declared.code.Layout.{Layout}
use Rattle.ctl_code.specs.Table as Table
use Rattle.ctl_layout.specs.Layout.{AreLayouts, IsLayout, cells_by, offsets_from, offsets_in, parent_layout}
use Rattle.ctl_layout.specs.Parts.{first_position}
use Rattle.ctl_gen.proofs.Each.{Each, each_and}

-- so the offsets of an object with so many cells: the first is 0, and where there is none there are no cells
record BeginAtFirst (offsets : List ℕ) (cells : ℕ) : Type 0 where
  first : item_or 0 (slice_get offsets 0) ≡ 0
  none : offsets ≡ [] → cells ≡ 0

abbrev IsBegun : Option Layout → Type 0
IsBegun o = BeginAtFirst (offsets_in o) (Table.size_in o)

nothing_begun : IsBegun None
unfolding item_or
nothing_begun = record { first = refl; none = λ e. refl }

-- components of its own stand behind those that are inherited
own_begun : (f : Ty → ℕ) (inherited : List ℕ) (size : ℕ) (own : List Component) → BeginAtFirst inherited size → BeginAtFirst (inherited ++ offsets_from f size own) (size + total f own)
unfolding item_or total
own_begun f [] size [] h = let e = h.none refl in record { first = refl; none = λ o. ap (λ n. n + 0) e }
own_begun f [] size (c ∷ cs) h = record { first = h.none refl; none = λ o. absurd (cc o) }
own_begun f (x ∷ xs) size own h = record { first = h.first; none = λ o. absurd (cc o) }

found_begun : (xs : List Layout) (t : ℕ) → Each (λ x. IsBegun (Some x)) xs → IsBegun (slice_get xs t)
found_begun [] t h = nothing_begun
found_begun (x ∷ xs) zero h = h.0
found_begun (x ∷ xs) (suc t) h = found_begun xs t h.1

layout_begun : (layouts : List Layout) (r : RecordType) (x : Layout) → Each (λ y. IsBegun (Some y)) layouts → IsLayout layouts r x → IsBegun (Some x)
layout_begun layouts r x each is =
    let o = parent_layout layouts r.parent in
    subst (λ xs. BeginAtFirst xs x.cells) (sym is.offsets)
    (subst (λ n. BeginAtFirst (offsets_in o ++ offsets_from (cells_by layouts) (Table.size_in o) r.own) n) (sym is.cells)
    (own_begun (cells_by layouts) (offsets_in o) (Table.size_in o) r.own (by r.parent)))
  where
    by : (p : Option ℕ) → IsBegun (parent_layout layouts p)
    by None = nothing_begun
    by (Some p) = found_begun layouts p each

all_begun : (ys xs : List Layout) (rs : List RecordType) → AreLayouts ys xs rs → Each (λ y. IsBegun (Some y)) ys → Each (λ y. IsBegun (Some y)) (ys ++ xs)
all_begun ys [] [] h each = subst (Each (λ y. IsBegun (Some y))) (sym (append-nil ys)) each
all_begun ys [] (r ∷ rs) h each = absurd h
all_begun ys (x ∷ xs) [] h each = absurd h
all_begun ys (x ∷ xs) (r ∷ rs) h each =
    subst (Each (λ y. IsBegun (Some y))) (append_assoc ys (x ∷ []) xs)
    (all_begun (ys ++ x ∷ []) xs rs h.1 (each_and (λ y. IsBegun (Some y)) ys x (layout_begun ys r x each h.0) each))

offset_first : (o : Option Layout) → IsBegun o → Table.offset_in o first_position ≡ 0
unfolding item_or
offset_first None h = refl
offset_first (Some x) h = h.first

pub first_offset : (xs : List Layout) (rs : List RecordType) → AreLayouts [] xs rs → (t : ℕ) → Table.offset_in (slice_get xs t) first_position ≡ 0
first_offset xs rs laid t = offset_first (slice_get xs t) (found_begun xs t (all_begun [] xs rs laid tt))
