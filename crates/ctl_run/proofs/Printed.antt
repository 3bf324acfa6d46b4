-- What is printed, put piece by piece.
use Rattle.std.proofs.Common.{◌≡◌, ℕ, ◌+◌, ◌<◌, List, [], ◌∷◌, ◌++◌, Option, length, take, drop, get_or, refl, sym, ap, ◌∙◌, subst, append_assoc, arith}
use Rattle.std.proofs.lemmas.List.{at_drop_more, length-append, take-append-drop, take-append-le}
use Rattle.std.proofs.Math.Seq.{take-append-add}
use Rattle.std.specs.Io.KnownBytes.{Appends}
use Rattle.std.proofs.KnownBytes.{Appends-trans}
use Rattle.ctl_tree.specs.declared.event.Event.{Event}
use Rattle.ctl_sink.specs.Prefix.{AppendsPart}
use Rattle.ctl_text.specs.Texts.{output_of, printed_by}

-- Parts of a text ----------------------------------------------------------------------------------------

-- the beginning of a text is that of a longer one
pub part_of_more : (old new : Option (List ℕ)) (xs ys : List ℕ) → AppendsPart old new xs → AppendsPart old new (xs ++ ys)
part_of_more old new xs ys part =
    let below = part.1 in
    (part.0, omega (arith, below, length-append xs ys), subst (Appends old new) (sym (take-append-le part.0 xs ys (omega (arith, below)))) part.2)

-- behind what was put the beginning of the rest was
pub part_behind : (old mid new : Option (List ℕ)) (xs ys : List ℕ) → Appends old mid xs → AppendsPart mid new ys → AppendsPart old new (xs ++ ys)
part_behind old mid new xs ys first part =
    let below = part.1 in
    (length xs + part.0, omega (arith, below, length-append xs ys), subst (Appends old new) (sym (take-append-add xs ys part.0)) (Appends-trans old mid new xs (take part.0 ys) first part.2))

-- Events one after another -------------------------------------------------------------------------------

pub output_joined : (these those : List Event) → output_of (these ++ those) ≡ output_of these ++ output_of those
output_joined [] those = refl
output_joined (e ∷ es) those = ap (λ (l : List ℕ). printed_by e ++ l) (output_joined es those) ∙ sym (append_assoc (printed_by e) (output_of es) (output_of those))

-- what comes behind the first ones is the next one, and then the rest
pub output_of_rest : (events : List Event) (i : ℕ) (e : Event) → i < length events → e ≡ get_or events i e → output_of events ≡ output_of (take i events) ++ (printed_by e ++ output_of (drop (i + 1) events))
output_of_rest events i e within at =
    let rest : drop i events ≡ e ∷ drop (i + 1) events = at_drop_more (λ xs. xs) events i e within ∙ ap (λ y. y ∷ drop (i + 1) events) (sym at) in
    sym (ap output_of (take-append-drop i events))
    ∙ (output_joined (take i events) (drop i events)
    ∙ ap (λ (l : List Event). output_of (take i events) ++ output_of l) rest)
