-- What the emitter makes of the defaults of components that are no constants is their layout, and their places are in their rows (3.8).
use Rattle.std.proofs.Common.{◌≡◌, ℕ, ◌+◌, List, [], ◌∷◌, ◌++◌, length, map, option_map, Some, None, refl, ap, ◌∙◌, append_assoc}
use Rattle.std.specs.Prelude.{slice_get}
use Rattle.std.proofs.lemmas.Option.{slice_get-map}
use Rattle.ctl_program.specs.declared.types.Component.{Component}
use Rattle.ctl_program.specs.declared.types.RecordType.{RecordType}
use Rattle.ctl_program.specs.declared.types.Ty.{Ty}
use Rattle.ctl_meaning.specs.Lists.{item_or}
use Rattle.ctl_code.specs.declared.code.Cell.{Cell}
use Rattle.ctl_code.specs.declared.code.Defaults.{Defaults}
use Rattle.ctl_code.specs.declared.code.Instr.TheVariants as InstrOf
use Rattle.ctl_code.specs.declared.kinds.Kind.TheVariants.{Default}
use Rattle.ctl_code.specs.Kinds.{below_newest}
use Rattle.ctl_layout.specs.Layout.{all_defaults, default_code, defaults_code, evaluation, inherited_places, places_from, return_held, rows_from}
use Rattle.ctl_layout.specs.Values.{ValueCode, held}
use Rattle.ctl_emitter.specs.Emitted.{Emitted, appended, holding, lined, standing, taking}
use Rattle.ctl_emitter.proofs.Emission.{count_more, in_two, lined_at, nothing, standing_is, stands, stands_before, stands_behind}
use Rattle.ctl_emitter.proofs.EmittedValues.{operand_taken}

-- a default, where nothing stands
pub evaluation_emitted : (level number : ℕ) (x : ValueCode) (ty : Ty) (cell : Cell) (e0 e1 e2 e3 e4 : Emitted) → e0.notes.standing ≡ [] → e1 ≡ standing (Default level number ∷ e0.notes.standing) e0 → e2 ≡ holding (held x ty) e1 → cell ≡ (held x ty e1.notes.standing).cell → e3 ≡ taking (InstrOf.Return cell ty) cell e2 → e4 ≡ standing (below_newest e3.notes.standing) e3 → e4 ≡ appended (evaluation level number x ty) [] [] e0
evaluation_emitted level number x ty cell e0 e1 e2 e3 e4 bare a b found c d =
    let top = Default level number ∷ [] in
    let lines = evaluation level number x ty in
    let over : e1 ≡ standing top e0 = a ∙ ap (λ s. standing (Default level number ∷ s) e0) bare in
    let inner : e3 ≡ lined (λ s. return_held ty (held x ty s)) e1 = operand_taken x ty (InstrOf.Return cell ty) cell e1 e2 e3 b found c ∙ ap (λ k. lined (λ s. (held x ty s).code ++ (InstrOf.Return k ty, (held x ty s).after) ∷ []) e1) found in
    let at : e3 ≡ appended lines [] top e1 = lined_at (λ s. return_held ty (held x ty s)) top e1 e3 (stands top e0 e1 over) inner in
    let end : e4 ≡ standing [] e3 = d ∙ ap (λ s. standing (below_newest s) e3) (standing_is lines [] top e1 e3 at) in
    stands_before lines [] [] top e0 e1 e4 over (stands_behind lines [] top [] e1 e3 e4 at end)

-- no lines
pub none_appended : (e : Emitted) → e.notes.standing ≡ [] → e ≡ appended [] [] [] e
none_appended e bare = nothing e ∙ ap (λ s. appended [] [] s e) bare

-- one more component: its lines, and its place
pub next_default : (level number : ℕ) (c : Component) (cs : List Component) (e0 e1 : Emitted) → e1 ≡ appended (default_code level number c) [] [] e0 → appended (defaults_code level number cs) [] [] e1 ≡ appended (defaults_code level number (c ∷ cs)) [] [] e0
next_default level number c cs e0 e1 a = in_two (default_code level number c) (defaults_code level number cs) [] [] [] [] e0 e1 (appended (defaults_code level number cs) [] [] e1) a refl

pub next_place : (level number : ℕ) (c : Component) (cs : List Component) (done : List ℕ) (e0 e1 : Emitted) → e1 ≡ appended (default_code level number c) [] [] e0 → (done ++ length e0.instructions ∷ []) ++ places_from level number (length e1.instructions) cs ≡ done ++ places_from level number (length e0.instructions) (c ∷ cs)
next_place level number c cs done e0 e1 a =
    let p = length e0.instructions in
    append_assoc done (p ∷ []) (places_from level number (length e1.instructions) cs) ∙ ap (λ n. done ++ p ∷ places_from level number n cs) (count_more (default_code level number c) [] [] e0 e1 a)

pub bare_behind : (level number : ℕ) (c : Component) (e0 e1 : Emitted) → e1 ≡ appended (default_code level number c) [] [] e0 → e1.notes.standing ≡ []
bare_behind level number c e0 e1 a = standing_is (default_code level number c) [] [] e0 e1 a

-- one more type: its lines, and its row
pub next_type : (number : ℕ) (r : RecordType) (rs : List RecordType) (e0 e1 : Emitted) → e1 ≡ appended (defaults_code r.level number r.own) [] [] e0 → appended (all_defaults (number + 1) rs) [] [] e1 ≡ appended (all_defaults number (r ∷ rs)) [] [] e0
next_type number r rs e0 e1 a = in_two (defaults_code r.level number r.own) (all_defaults (number + 1) rs) [] [] [] [] e0 e1 (appended (all_defaults (number + 1) rs) [] [] e1) a refl

pub next_row : (number : ℕ) (r : RecordType) (rs : List RecordType) (rows : List (List ℕ)) (row : List ℕ) (e0 e1 : Emitted) → row ≡ inherited_places rows r.parent ++ places_from r.level number (length e0.instructions) r.own → e1 ≡ appended (defaults_code r.level number r.own) [] [] e0 → (rows ++ row ∷ []) ++ rows_from (number + 1) (length e1.instructions) (rows ++ row ∷ []) rs ≡ rows ++ rows_from number (length e0.instructions) rows (r ∷ rs)
next_row number r rs rows row e0 e1 is a =
    let lines = defaults_code r.level number r.own in
    append_assoc rows (row ∷ []) (rows_from (number + 1) (length e1.instructions) (rows ++ row ∷ []) rs)
    ∙ ap (λ n. rows ++ row ∷ rows_from (number + 1) n (rows ++ row ∷ []) rs) (count_more lines [] [] e0 e1 a)
    ∙ ap (λ z. rows ++ z ∷ rows_from (number + 1) (length e0.instructions + length lines) (rows ++ z ∷ []) rs) is

-- what a type inherits is the row of its parent, if there is one
pub row_inherited : (rows : List Defaults) (parent : ℕ) (x : Defaults) → slice_get rows parent ≡ Some x → inherited_places (map (λ (y : Defaults). y.places.items) rows) (Some parent) ≡ x.places.items
unfolding item_or
row_inherited rows parent x found = ap (item_or []) (slice_get-map (λ (y : Defaults). y.places.items) rows parent ∙ ap (option_map (λ (y : Defaults). y.places.items)) found)

pub no_row_inherited : (rows : List Defaults) (parent : ℕ) → slice_get rows parent ≡ None → inherited_places (map (λ (y : Defaults). y.places.items) rows) (Some parent) ≡ []
unfolding item_or
no_row_inherited rows parent none = ap (item_or []) (slice_get-map (λ (y : Defaults). y.places.items) rows parent ∙ ap (option_map (λ (y : Defaults). y.places.items)) none)
