-- Formals of one heading: those of one mode and type more.
use Rattle.std.proofs.Common.{◌≡◌, refl, sym, ap, ◌∙◌, List, [], ◌∷◌, Option}
use Rattle.ctl_syntax.specs.declared.denoted.Definition.{Definition}
use Rattle.ctl_syntax.specs.declared.denoted.Use.{Use}
use Rattle.ctl_syntax.specs.declared.item.Formal.{Formal}
use Rattle.ctl_tree.specs.declared.span.Span.{Span}
use Rattle.ctl_declarations.specs.Declarations.{formal_type, formals_next, formals_on, more_formals}
use Rattle.ctl_typing.specs.declared.notes.Notes.{Notes}
use Rattle.ctl_typing.specs.declared.table.FormalEntry.{FormalEntry}
use Rattle.ctl_typing.specs.declared.table.Tables.{Tables}

formals_turn : (tables : Tables) (place : Span) (before more : Option (List FormalEntry)) (n : Notes) (fs : List (Formal Definition Use)) → formals_next tables place before (more, n) fs ≡ formals_on tables place (more_formals before more) fs n
formals_turn tables place before more n [] = refl
formals_turn tables place before more n (f ∷ fs) = refl

-- those of one mode and type are judged, and then those behind them
pub formals_walked : (tables : Tables) (place : Span) (before after more : Option (List FormalEntry)) (f : Formal Definition Use) (fs : List (Formal Definition Use)) (n m : Notes)
    → formal_type tables place f n ≡ (more, m) → after ≡ more_formals before more
    → formals_on tables place after fs m ≡ formals_on tables place before (f ∷ fs) n
formals_walked tables place before after more f fs n m judged added =
    ap (λ a. formals_on tables place a fs m) added
    ∙ sym (formals_turn tables place before more m fs)
    ∙ sym (ap (λ r. formals_next tables place before r fs) judged)
