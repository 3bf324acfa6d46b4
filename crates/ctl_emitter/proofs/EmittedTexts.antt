-- What the emitter makes of a text that is printed is its layout.
use Rattle.std.proofs.Common.{◌≡◌, ℕ, List, [], ◌∷◌, ◌++◌, length, None, refl, ap, ◌∙◌, append-nil}
use Rattle.std.specs.Prelude.{Bool}
use Rattle.ctl_program.specs.declared.types.Ty.TheVariants.{Boolean, Integer}
use Rattle.ctl_program.specs.declared.statement.Piece.{Piece}
use Rattle.ctl_program.specs.declared.statement.Piece.TheVariants as PieceOf
use Rattle.ctl_code.specs.declared.kinds.Kind.{Kind}
use Rattle.ctl_code.specs.declared.kinds.Kind.TheVariants.{Operand}
use Rattle.ctl_code.specs.Kinds.{below_newest}
use Rattle.ctl_code.specs.Windows.{height}
use Rattle.ctl_layout.specs.Around.{Line}
use Rattle.ctl_emitter.specs.Emitted.{Emitted, appended, imaged, lined, one, standing, stated, without_image, without_images}
use Rattle.ctl_layout.specs.Texts.{parts_of, piece_code, pieces_code, print_of, with_piece, with_pieces}
use Rattle.ctl_layout.specs.Layout.{print}
use Rattle.ctl_emitter.proofs.Emission.{emitted_is, in_two, lined_at, nothing, stands_behind, standing_is}

pub literal_emitted : (v : List ℕ) (e : Emitted) → e ≡ imaged (PieceOf.Text v ∷ []) e
literal_emitted v e = nothing e

pub next_piece : (p : Piece) (ps : List Piece) (e0 e1 : Emitted) → e1 ≡ imaged (p ∷ []) e0 → imaged ps e1 ≡ imaged (p ∷ ps) e0
next_piece p ps e0 e1 a =
    let s = e0.notes.standing in
    let top = with_piece p s in
    let first : e1 ≡ appended (piece_code p s) [] top e0 = a ∙ ap (λ l. appended l [] top e0) (append-nil (piece_code p s)) in
    in_two (piece_code p s) (pieces_code ps top) [] [] top (with_pieces ps top) e0 e1 (imaged ps e1) first
    (ap (λ r. appended (pieces_code ps r) [] (with_pieces ps r) e1) (standing_is (piece_code p s) [] top e0 e1 first))

pub no_piece : (e : Emitted) → e ≡ imaged [] e
no_piece e = nothing e

-- Values that leave ---------------------------------------------------------------------------------

without_below : (ps : List Piece) (s : List Kind) → without_images ps (below_newest s) ≡ below_newest (without_images ps s)
without_below [] s = refl
without_below (PieceOf.Text v ∷ ps) s = without_below ps s
without_below (PieceOf.IntegerImage e ∷ ps) s = without_below ps (below_newest s)
without_below (PieceOf.BooleanImage e ∷ ps) s = without_below ps (below_newest s)

-- the values of the images are on top, the last of them newest: without them there stands what stood before
images_left : (s : List Kind) (ps : List Piece) → without_images ps (with_pieces ps s) ≡ s
images_left s [] = refl
images_left s (PieceOf.Text v ∷ ps) = images_left s ps
images_left s (PieceOf.IntegerImage e ∷ ps) = without_below ps (with_pieces ps (Operand Integer ∷ s)) ∙ ap below_newest (images_left (Operand Integer ∷ s) ps)
images_left s (PieceOf.BooleanImage e ∷ ps) = without_below ps (with_pieces ps (Operand Boolean ∷ s)) ∙ ap below_newest (images_left (Operand Boolean ∷ s) ps)

-- they stand there no more
abbrev pub left : List Piece → Emitted → Emitted
left ps e = standing (without_images ps e.notes.standing) e

pub next_left : (p : Piece) (ps : List Piece) (e0 e1 : Emitted) → e1 ≡ standing (without_image p e0.notes.standing) e0 → left ps e1 ≡ left (p ∷ ps) e0
unfolding standing
next_left p ps e0 e1 a = ap (left ps) a

pub none_left : (e : Emitted) → e ≡ left [] e
unfolding standing
none_left e = refl

-- the text is one more
with_text : (ps : List Piece) (lines : List Line) (s : List Kind) (e0 e1 e2 : Emitted) → e1 ≡ appended lines [] s e0 → e2 ≡ record e1 { texts = e1.texts ++ parts_of ps ∷ [] } → e2 ≡ appended lines (parts_of ps ∷ []) s e0
unfolding appended
with_text ps lines s e0 e1 e2 a b =
    b ∙ ap (λ (e : Emitted). record e { texts = e.texts ++ parts_of ps ∷ [] }) a
    ∙ emitted_is _ _ _ _ _ _ refl (ap (λ ts. ts ++ parts_of ps ∷ []) (append-nil e0.texts)) refl

number_is : (lines : List Line) (s : List Kind) (e0 e1 : Emitted) (n : ℕ) → e1 ≡ appended lines [] s e0 → n ≡ length e1.texts → n ≡ length e0.texts
unfolding appended
number_is lines s e0 e1 n a m = m ∙ ap (λ (e : Emitted). length e.texts) a ∙ ap length (append-nil e0.texts)

pub print_emitted : (ends_line : Bool) (ps : List Piece) (e0 e1 e2 e3 e4 : Emitted) (n first : ℕ) → first ≡ height e0.notes.standing → e1 ≡ imaged ps e0 → e2 ≡ record e1 { texts = e1.texts ++ parts_of ps ∷ [] } → n ≡ length e1.texts → e3 ≡ lined (one (print_of ends_line n first)) e2 → e4 ≡ left ps e3 → e4 ≡ stated (print ends_line ps) None e0
print_emitted ends_line ps e0 e1 e2 e3 e4 n first at a b m c d =
    let s = e0.notes.standing in
    let lines = pieces_code ps s in
    let top = with_pieces ps s in
    let ts = parts_of ps ∷ [] in
    let texts : e2 ≡ appended lines ts top e0 = with_text ps lines top e0 e1 e2 a b in
    let printed = lined_at (one (print_of ends_line n first)) top e2 e3 (standing_is lines ts top e0 e2 texts) c in
    let whole = in_two lines (one (print_of ends_line n first) top) ts [] top top e0 e2 e3 texts printed in
    stands_behind (lines ++ one (print_of ends_line n first) top) ts top s e0 e3 e4 whole
    (d ∙ ap (λ r. standing (without_images ps r) e3) (standing_is (lines ++ one (print_of ends_line n first) top) ts top e0 e3 whole) ∙ ap (λ r. standing r e3) (images_left s ps))
    ∙ ap (λ k. appended (lines ++ one (print_of ends_line k first) top) ts s e0) (number_is lines top e0 e1 n a m)
    ∙ ap (λ k. appended (lines ++ one (print_of ends_line (length e0.texts) k) top) ts s e0) at
