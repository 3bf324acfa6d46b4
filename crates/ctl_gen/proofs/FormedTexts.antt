-- A text is printed over the values of its images (4.5.3).
use Rattle.std.proofs.Common.{◌≡◌, ℕ, ◌+◌, List, [], ◌∷◌, ◌++◌, Bool, true, false, Some, refl, sym, ap, ◌∙◌, append_assoc}
use Rattle.std.specs.Prelude.{reverse, slice_get}
use Rattle.std.proofs.lemmas.Grind.{reverse_onto}
use Rattle.ctl_program.specs.declared.types.Ty.TheVariants.{Integer, Boolean}
use Rattle.ctl_program.specs.declared.types.RecordType.{RecordType}
use Rattle.ctl_program.specs.declared.statement.Piece.{Piece}
use Rattle.ctl_program.specs.declared.statement.Piece.TheVariants as PieceOf
use Rattle.ctl_well_typed.specs.Setting as W
use Rattle.ctl_well_typed.specs.Statements.{Puts}
use Rattle.ctl_well_typed.specs.Statements as D
use Rattle.ctl_code.specs.declared.kinds.Kind.{Kind}
use Rattle.ctl_code.specs.declared.kinds.Kind.TheVariants.{Operand}
use Rattle.ctl_code.specs.declared.code.Code.{Code}
use Rattle.ctl_code.specs.Windows.{height}
use Rattle.ctl_code.specs.Valid.{images_of, IsFine, Leads}
use Rattle.ctl_layout.specs.Around.{new_operand}
use Rattle.ctl_layout.specs.Values.{value_code}
use Rattle.ctl_layout.specs.Texts.{parts_of, piece_code, pieces_are_run, pieces_code, print_code, print_of, with_piece, with_pieces}
use Rattle.ctl_gen.proofs.Known.{both_true}
use Rattle.ctl_gen.proofs.Formed.{Formed, both, none, one}
use Rattle.ctl_gen.proofs.FormedAround.{Surrounds}
use Rattle.ctl_gen.proofs.FormedCalls.{MayCall, MayNew}
use Rattle.ctl_gen.proofs.FormedExpressions.{typed_fine}
use Rattle.ctl_gen.proofs.FormedValues.{Usable, usable_as}

-- one operand more under those of the further images
further : (ks : List Kind) (k : Kind) (s : List Kind) → reverse ks ++ (k ∷ s) ≡ reverse (k ∷ ks) ++ s
further ks k s = sym (append_assoc (reverse ks) (k ∷ []) s) ∙ ap (λ x. x ++ s) (sym (reverse_onto ks k []))

-- the values of the images stand on top
images_stand : (s : List Kind) (ps : List Piece) → with_pieces ps s ≡ reverse (images_of (parts_of ps)) ++ s
images_stand s [] = refl
images_stand s (PieceOf.Text v ∷ ps) = images_stand s ps
images_stand s (PieceOf.IntegerImage e ∷ ps) = images_stand (Operand Integer ∷ s) ps ∙ further (images_of (parts_of ps)) (Operand Integer) s
images_stand s (PieceOf.BooleanImage e ∷ ps) = images_stand (Operand Boolean ∷ s) ps ∙ further (images_of (parts_of ps)) (Operand Boolean) s

-- and no master
piece_agrees : (code : Code) (p : Piece) (env : W.Frames) (s : List Kind) → Surrounds code env s → Surrounds code env (with_piece p s)
piece_agrees code (PieceOf.Text v) env s agrees = agrees
piece_agrees code (PieceOf.IntegerImage e) env s agrees = agrees
piece_agrees code (PieceOf.BooleanImage e) env s agrees = agrees

-- inside these masters
module _ (code : Code) (env : W.Frames) where
  -- the values of images
  abbrev Images : List Piece → Type 0
  Images ps = (s : List Kind) → Surrounds code env s → Formed code (pieces_code ps s) s (Some (with_pieces ps s))

  -- a piece with its value, if it takes one
  abbrev Imaged : Piece → Type 0
  Imaged p = (s : List Kind) → Surrounds code env s → Formed code (piece_code p s) s (Some (with_piece p s))

  next_image : (p : Piece) (ps : List Piece) → Imaged p → Images ps → Images (p ∷ ps)
  next_image p ps first rest s agrees = both code (piece_code p s) (pieces_code ps (with_piece p s)) s (with_piece p s) (Some (with_pieces (p ∷ ps) s)) (first s agrees) (rest (with_piece p s) (piece_agrees code p env s agrees))

print_fine : (code : Code) (ends_line : Bool) (n : ℕ) (s : List Kind) (ps : List Piece) → slice_get code.texts.items n ≡ Some (parts_of ps) → (place : ℕ) → Leads code (place + 1) s → IsFine code place (print_of ends_line n (height s)) (with_pieces ps s)
print_fine code true n s ps text place next = (parts_of ps, text, (s, images_stand s ps, (refl, next)))
print_fine code false n s ps text place next = (parts_of ps, text, (s, images_stand s ps, (refl, next)))

module _ (code : Code) (records : List RecordType) (k : W.Setting) (may_call : MayCall code k) (may_new : MayNew code k) where
  images : {env : W.Frames} {ps : List Piece} → Puts k env ps → pieces_are_run records ps ≡ true → Images code env ps
  images D.no_more_pieces runs = λ s agrees. none code s
  images {env} (D.literal {s = v} {more = ps} rest) runs = next_image code env (PieceOf.Text v) ps (λ s agrees. none code s) (images rest (both_true true (pieces_are_run records ps) runs).1)
  images {env} (D.integer {x = x} {more = ps} h rest) runs =
      let e = both_true ((value_code x).runs records) (pieces_are_run records ps) runs in
      let u : Usable code env (value_code x) Integer = usable_as code env (value_code x) Integer tt (typed_fine code records k may_call may_new h e.0) in
      next_image code env (PieceOf.IntegerImage x) ps (λ s agrees. u.formed (new_operand s) s agrees refl) (images rest e.1)
  images {env} (D.boolean {x = x} {more = ps} h rest) runs =
      let e = both_true ((value_code x).runs records) (pieces_are_run records ps) runs in
      let u : Usable code env (value_code x) Boolean = usable_as code env (value_code x) Boolean tt (typed_fine code records k may_call may_new h e.0) in
      next_image code env (PieceOf.BooleanImage x) ps (λ s agrees. u.formed (new_operand s) s agrees refl) (images rest e.1)

  pub print_formed : {env : W.Frames} (ends_line : Bool) (n : ℕ) (ps : List Piece) → Puts k env ps → pieces_are_run records ps ≡ true → slice_get code.texts.items n ≡ Some (parts_of ps) → (s : List Kind) → Surrounds code env s → Formed code (print_code ends_line n ps s) s (Some s)
  print_formed ends_line n ps puts runs text s agrees =
      let all = with_pieces ps s in
      let print = print_of ends_line n (height s) in
      both code (pieces_code ps s) ((print, all) ∷ []) s all (Some s) (images puts runs s agrees)
      (one code print all (Some s) (λ place next. print_fine code ends_line n s ps text place next))
