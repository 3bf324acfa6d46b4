-- Where the first operand stands that has a type of its own.
use Rattle.std.proofs.Common.{◌≡◌, refl, sym, ap, ◌∙◌, ℕ, ◌+◌, ◌<◌, true, false, if◌then◌else◌, List, [], ◌∷◌, ◌++◌, map, length, take, drop, get_or, option_map, Some}
use Rattle.std.proofs.lemmas.List.{at_drop_more}
use Rattle.std.proofs.lemmas.Option.{slice_get_read}
use Rattle.ctl_syntax.specs.declared.denoted.Use.{Use}
use Rattle.ctl_typing.specs.declared.table.Tables.{Tables}
use Rattle.ctl_typing.specs.declared.found.Asked.{Asked}
use Rattle.ctl_syntax.specs.declared.operators.Operand.{Operand}
use Rattle.ctl_syntax.specs.declared.expression.Expression.{Expression}
use Rattle.ctl_typing.specs.declared.found.Typed.{Typed}
use Rattle.ctl_typing.specs.Judgement.{Judgement}
use Rattle.ctl_typing.specs.Senses.{operand_sense, Leading, arithmetic}
use Rattle.ctl_typing.specs.Typing.{Sense, Split, split, put_before, adopts, sense, by_first, by_other}

abbrev Written : Type 0
Written = Operand (Expression Use)

-- operands before, which take on a type
abbrev all_before : List Written → Split → Split
all_before before s = record { before = map operand_sense before ++ s.before; typed = s.typed; behind = s.behind }

-- those before take on a type, and stand before the others
abbrev pub Behind : List Written → List Written → List Written → Type 0
Behind before rest all = split (map operand_sense all) ≡ all_before before (split (map operand_sense rest))

append_none : (os : List (Operand Sense)) → os ++ [] ≡ os
append_none [] = refl
append_none (o ∷ os) = ap (λ zs. o ∷ zs) (append_none os)

pub leads : (all : List Written) (i : ℕ) (x : Written) → i < length all → x ≡ get_or all i x → adopts (sense x.operand).adopts ≡ false → Behind (take i all) (drop i all) all → Leading all i
leads all i x lt at is behind =
    let rest = drop (i + 1) all in
    record {
      inside = lt;
      parts =
          behind
          ∙ ap (λ os. all_before (take i all) (split (map operand_sense os))) (at_drop_more (λ xs. xs) all i x lt ∙ ap (λ y. y ∷ rest) (sym at))
          ∙ ap (λ b. all_before (take i all) (if b then put_before (operand_sense x) (split (map operand_sense rest)) else (record { before = []; typed = Some (operand_sense x); behind = map operand_sense rest }))) is
          ∙ ap (λ os. record { before = os; typed = Some (operand_sense x); behind = map operand_sense rest }) (append_none (map operand_sense (take i all)))
          ∙ ap (λ t. record { before = map operand_sense (take i all); typed = option_map operand_sense t; behind = map operand_sense rest }) (sym (slice_get_read all (length all) i x refl lt at));
    }

abbrev by_operands : Tables → Asked → Sense → Split → Judgement Typed
by_operands tables asked x s = by_other tables asked x s.before s.typed s.behind

pub first_is_typed : (tables : Tables) (asked : Asked) (x : Sense) (os : List (Operand Sense)) → adopts x.adopts ≡ false → arithmetic tables asked x os ≡ by_first tables x os
first_is_typed tables asked x os first = ap (λ b. if b then by_operands tables asked x (split os) else by_first tables x os) first

pub second_is_typed : (tables : Tables) (asked : Asked) (x : Sense) (o : Operand Sense) (os : List (Operand Sense)) → adopts x.adopts ≡ true → adopts o.operand.adopts ≡ false → arithmetic tables asked x (o ∷ os) ≡ by_other tables asked x [] (Some o) os
second_is_typed tables asked x o os first second =
    ap (λ b. if b then by_operands tables asked x (split (o ∷ os)) else by_first tables x (o ∷ os)) first
    ∙ ap (λ b. by_operands tables asked x (if b then put_before o (split os) else (record { before = []; typed = Some o; behind = os }))) second

pub further_is_typed : (tables : Tables) (asked : Asked) (x : Sense) (o : Operand Sense) (os : List (Operand Sense)) (s : Split) → adopts x.adopts ≡ true → adopts o.operand.adopts ≡ true → split os ≡ s → arithmetic tables asked x (o ∷ os) ≡ by_other tables asked x (o ∷ s.before) s.typed s.behind
further_is_typed tables asked x o os s first second parts =
    ap (λ b. if b then by_operands tables asked x (split (o ∷ os)) else by_first tables x (o ∷ os)) first
    ∙ ap (λ b. by_operands tables asked x (if b then put_before o (split os) else (record { before = []; typed = Some o; behind = os }))) second
    ∙ ap (λ t. by_operands tables asked x (put_before o t)) parts

-- the parts of those behind the second, around the one that leads
pub led_by : (all : List Written) (i : ℕ) (x : Written) → x ≡ get_or all i x → Leading all i → split (map operand_sense all) ≡ record { before = map operand_sense (take i all); typed = Some (operand_sense x); behind = map operand_sense (drop (i + 1) all) }
led_by all i x at leading =
    leading.parts
    ∙ ap (λ t. record { before = map operand_sense (take i all); typed = option_map operand_sense t; behind = map operand_sense (drop (i + 1) all) }) (slice_get_read all (length all) i x refl leading.inside at)
