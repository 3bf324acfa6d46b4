-- What is put, in the stages that only the code has.
use Rattle.std.specs.Prelude.{Option, Some, None, List, [], ◌∷◌, ◌++◌}
use Rattle.ctl_syntax.specs.declared.operators.Operand.{Operand}
use Rattle.ctl_tree.specs.declared.span.Span.{Span}
use Rattle.ctl_program.specs.declared.statement.Piece.{Piece}
use Rattle.ctl_typing.specs.declared.table.Tables.{Tables}
use Rattle.ctl_typing.specs.declared.found.Found.{Found}
use Rattle.ctl_typing.specs.Judgement.{Judging, Judgement, known, onward, ◌>>=◌, both}
use Rattle.ctl_typing.specs.Typing.{Sense, settled, text_found, operand_texts, together}

-- a name that is put, where it may be known what it is
abbrev pub name_put : Tables → Span → Option Found → Judgement (List Piece)
name_put tables place f = onward f (settled tables place) >>= text_found place

-- more behind those so far; unless both are known, nothing is
abbrev pub lengthened : {A : Type 0} → Option (List A) → Option (List A) → Option (List A)
lengthened None b = None
lengthened (Some done) None = None
lengthened (Some done) (Some b) = Some (done ++ b)

abbrev pub strung_on : {S A B : Type 0} → (A → Judging S (List B)) → Option (List B) → Option (List B) × S → List A → Option (List B) × S
strung_on f done (b, s) [] = (lengthened done b, s)
strung_on f done (b, s) (x ∷ xs) = strung_on f (lengthened done b) (f x s) xs

-- each is judged, and what it gives comes behind what is so far; known where each of them is
abbrev pub strung : {S A B : Type 0} → (A → Judging S (List B)) → Option (List B) → List A → S → Option (List B) × S
strung f done [] s = (done, s)
strung f done (x ∷ xs) s = strung_on f done (f x s) xs

-- operands that `&` joins, behind what is put so far
abbrev pub texts_behind : Tables → Option (List Piece) → List (Operand Sense) → Judgement (List Piece)
texts_behind tables so_far os n = strung (λ o. o.operand.texts tables) so_far os n

-- all that `&` joins
abbrev pub joined_texts : Tables → Sense → List (Operand Sense) → Judgement (List Piece)
joined_texts tables x os = both (x.texts tables) (operand_texts tables os) >>= (λ r. known (r.0 ++ together r.1))
