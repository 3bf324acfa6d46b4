-- A text is printed behind the values of its images (A.10.7, 4.5.3).
use Rattle.std.proofs.Common.{◌≡◌, ℕ, ◌+◌, ◌≤◌, List, [], ◌∷◌, ◌++◌, length, map, Bool, true, false, refl, sym, ap, ◌∙◌, subst, arith, length-append, append_assoc, append-nil}
use Rattle.std.specs.Prelude.{reverse, take, drop}
use Rattle.std.proofs.lemmas.List.{length-reverse}
use Rattle.std.proofs.lemmas.Grind.{reverse_onto}
use Rattle.ctl_program.specs.declared.statement.Piece.{Piece}
use Rattle.ctl_program.specs.declared.statement.Piece.TheVariants as PieceOf
use Rattle.ctl_tree.specs.declared.event.Event.{Event}
use Rattle.ctl_tree.specs.declared.event.Event.TheVariants.{Print, Newline}
use Rattle.ctl_meaning.specs.World.{Log, World}
use Rattle.ctl_meaning.specs.Lists.{opened_lists}
use Rattle.ctl_meaning.specs.Choice.{Ask}
use Rattle.ctl_meaning.specs.Outcome.{add, ByRaise, Result, Goes, Leaves, Act, Done, bind, on_goes, ◌>>=◌, ◌>>◌, done, show, ticked, opened_outcome}
use Rattle.ctl_meaning.specs.Numbers.{integer_image, boolean_image}
use Rattle.ctl_meaning.specs.Types.{Tables}
use Rattle.ctl_meaning.specs.Names.{Call, Default, Tools, scalar_of}
use Rattle.ctl_meaning.specs.Expressions.{eval}
use Rattle.ctl_meaning.specs.Statements.{boolean_text, eval_piece, eval_text, integer_text, join_pieces, literal}
use Rattle.ctl_code.specs.declared.template.TextPart.{TextPart}
use Rattle.ctl_code.specs.declared.template.TextPart.TheVariants.{Literal, IntegerImage, BooleanImage}
use Rattle.ctl_code.specs.declared.code.Instr.TheVariants as InstrOf
use Rattle.ctl_code.specs.declared.code.Code.{Code}
use Rattle.ctl_code.specs.States.{Word, Scalar, cells_of, At, Frame, State}
use Rattle.ctl_code.specs.Table.{images_in, text_of, showing, by_text}
use Rattle.ctl_code.specs.Steps.{moved}
use Rattle.ctl_program.specs.declared.types.Ty.{Ty}
use Rattle.ctl_program.specs.declared.types.Ty.TheVariants.{Integer, Boolean}
use Rattle.ctl_program.specs.declared.expression.Expr.{Expr}
use Rattle.ctl_code.specs.declared.code.Named.TheVariants.{Operand}
use Rattle.ctl_code.specs.declared.kinds.Kind.{Kind}
use Rattle.ctl_code.specs.Windows.{height}
use Rattle.ctl_layout.specs.Around.{Line, new_operand}
use Rattle.ctl_layout.specs.Values.{value_code}
use Rattle.ctl_layout.specs.Texts.{part_of, parts_of, piece_code, piece_is_run, pieces_are_run, pieces_code, print_code, print_of, with_piece, with_pieces}
use Rattle.ctl_gen.proofs.Known.{both_true}
use Rattle.ctl_gen.proofs.Evaluated.{value_means}
use Rattle.ctl_gen.proofs.Place.{HasAt, Laid, laid_front, laid_back}
use Rattle.ctl_gen.proofs.Worlds.{Since, Kept}
use Rattle.ctl_gen.proofs.Setting.{Setting, Calls, tools_with, IsSeen, seen}
use Rattle.ctl_gen.proofs.Cells.{Any, by_code, here, landed}
use Rattle.ctl_gen.proofs.Worth.{both_cell}
use Rattle.ctl_gen.proofs.Expressions.{value_runs}
use Rattle.ctl_gen.proofs.Does.{Does}
use Rattle.ctl_gen.proofs.Follow.{Runs, Target, at, transferred, arrives, added, last_step, no_step, bind_add, bind_bind, lands}

-- Texts and their values -------------------------------------------------------------------------

images_both : (a b : List TextPart) → images_in (a ++ b) ≡ images_in a + images_in b
images_both [] b = omega arith
images_both (Literal v ∷ a) b = images_both a b
images_both (IntegerImage ∷ a) b = let e = images_both a b in omega (arith, e)
images_both (BooleanImage ∷ a) b = let e = images_both a b in omega (arith, e)

-- one part more, with its value if it takes one
text_both : (a b : List TextPart) (xs ys : List ℕ) → images_in a ≡ length xs → text_of (a ++ b) (xs ++ ys) ≡ text_of a xs ++ text_of b ys
text_both [] b [] ys e = refl
text_both [] b (x ∷ xs) ys e = absurd (omega (arith, e))
text_both (Literal v ∷ a) b xs ys e = ap (λ u. v ++ u) (text_both a b xs ys e) ∙ sym (append_assoc v (text_of a xs) (text_of b ys))
text_both (IntegerImage ∷ a) b [] ys e = absurd (omega (arith, e))
text_both (IntegerImage ∷ a) b (x ∷ xs) ys e = ap (λ u. integer_image x ++ u) (text_both a b xs ys (omega (arith, e))) ∙ sym (append_assoc (integer_image x) (text_of a xs) (text_of b ys))
text_both (BooleanImage ∷ a) b [] ys e = absurd (omega (arith, e))
text_both (BooleanImage ∷ a) b (x ∷ xs) ys e = ap (λ u. boolean_image x ++ u) (text_both a b xs ys (omega (arith, e))) ∙ sym (append_assoc (boolean_image x) (text_of a xs) (text_of b ys))

-- these values as operands
abbrev operands : List ℕ → List Word
operands [] = []
operands (x ∷ xs) = Scalar x ∷ operands xs

take_front : (xs : List ℕ) (ops : List Word) → cells_of (take (length xs) (operands xs ++ ops)) ≡ xs
take_front [] ops = refl
take_front (x ∷ xs) ops = ap (λ ys. x ∷ ys) (take_front xs ops)

drop_front : (xs : List ℕ) (ops : List Word) → drop (length xs) (operands xs ++ ops) ≡ ops
drop_front [] ops = refl
drop_front (x ∷ xs) ops = drop_front xs ops

-- what is told behind a text
abbrev tail_of : Bool → List Event
tail_of true = Newline ∷ []
tail_of false = []

abbrev pub printed : Bool → List ℕ → Act Done
printed true u = show (Print u) >> show Newline
printed false u = show (Print u)

module _ (ask : Ask) (k : Tables) (code : Code) (setting : Setting k code) (call : Call) (default : Default) (bound : ℕ) (calls : Calls ask k code setting bound call) where
  abbrev K : Tools
  K = tools_with ask k call default

  -- what the parts so far come to, with the values on top of the operands
  record Holds (qs : List TextPart) (rs : List ℕ) (u : List ℕ) : Type 0 where
    count : images_in qs ≡ length rs
    text : text_of qs (reverse rs) ≡ u

  hold_literal : (qs : List TextPart) (rs u t : List ℕ) → Holds qs rs u → Holds (qs ++ Literal t ∷ []) rs (u ++ t)
  hold_literal qs rs u t h = record {
    count = images_both qs (Literal t ∷ []) ∙ (let e = h.count in omega (arith, e));
    text = ap (text_of (qs ++ Literal t ∷ [])) (sym (append-nil (reverse rs))) ∙ text_both qs (Literal t ∷ []) (reverse rs) [] (h.count ∙ sym (length-reverse rs)) ∙ ap (λ x. x ++ (t ++ [])) h.text ∙ ap (λ x. u ++ x) (append-nil t);
  }

  hold_integer : (qs : List TextPart) (rs u : List ℕ) (n : ℕ) → Holds qs rs u → Holds (qs ++ IntegerImage ∷ []) (n ∷ rs) (u ++ integer_image n)
  hold_integer qs rs u n h = record {
    count = images_both qs (IntegerImage ∷ []) ∙ (let e = h.count in omega (arith, e));
    text = ap (text_of (qs ++ IntegerImage ∷ [])) (reverse_onto rs n []) ∙ text_both qs (IntegerImage ∷ []) (reverse rs) (n ∷ []) (h.count ∙ sym (length-reverse rs)) ∙ ap (λ x. x ++ (integer_image n ++ [])) h.text ∙ ap (λ x. u ++ x) (append-nil (integer_image n));
  }

  hold_boolean : (qs : List TextPart) (rs u : List ℕ) (n : ℕ) → Holds qs rs u → Holds (qs ++ BooleanImage ∷ []) (n ∷ rs) (u ++ boolean_image n)
  hold_boolean qs rs u n h = record {
    count = images_both qs (BooleanImage ∷ []) ∙ (let e = h.count in omega (arith, e));
    text = ap (text_of (qs ++ BooleanImage ∷ [])) (reverse_onto rs n []) ∙ text_both qs (BooleanImage ∷ []) (reverse rs) (n ∷ []) (h.count ∙ sym (length-reverse rs)) ∙ ap (λ x. x ++ (boolean_image n ++ [])) h.text ∙ ap (λ x. u ++ x) (append-nil (boolean_image n));
  }

  piece_seen : (p : Piece) (s : List Kind) (w0 : World) (d : List ℕ) → IsSeen w0 d s → IsSeen w0 d (with_piece p s)
  piece_seen (PieceOf.Text v) s w0 d h = h
  piece_seen (PieceOf.IntegerImage e) s w0 d h = h
  piece_seen (PieceOf.BooleanImage e) s w0 d h = h

  -- the image of a value, and what follows it
  image_runs : (e : Expr) (ty : Ty) (image : ℕ → List ℕ) → (value_code e).runs k.records ≡ true → (f : Result (List ℕ) → Act Done) (s : List Kind) (w0 : World) (d : List ℕ) (place : ℕ) (ks : List Frame) (ops : List Word) (c : ℕ) (l : Log) (w : World) (next : Result Done → Log → World → State) → c ≤ bound → Since k code w0 w → IsSeen w0 d s → Laid code place ((value_code e).code (new_operand s) ty s) → ((y c1 : ℕ) (l1 : Log) (w1 : World) → c1 ≤ c → Since k code w0 w1 → Runs ask code (Kept k code w0) 1 1 (transferred (ByRaise y) ks l1 w1) c1 next (f (Leaves (ByRaise y)) c1 l1 w1)) → ((n c1 : ℕ) (l1 : Log) (w1 : World) → c1 ≤ c → Since k code w0 w1 → Runs ask code (Kept k code w0) 1 1 (at d (place + length ((value_code e).code (new_operand s) ty s)) ks (Scalar n ∷ ops) l1 w1) c1 next (f (Goes (image n)) c1 l1 w1)) → Runs ask code (Kept k code w0) 1 1 (at d place ks ops l w) c next (bind (ticked (eval e K d >>= (λ x. done (image (scalar_of x)))) c l w) f)
  unfolding opened_outcome scalar_of opened_lists
  image_runs e ty image known f s w0 d place ks ops c l w next le fits long has leaves more =
      let value = value_means ask k code setting call default bound calls w0 e known in
      subst (λ o. Runs ask code (Kept k code w0) 1 1 (at d place ks ops l w) c next o) (sym (bind_add 1 (bind (eval e K d c l w) (on_goes (λ x. done (image (scalar_of x))))) f ∙ ap (add 1) (bind_bind (eval e K d c l w) (on_goes (λ x. done (image (scalar_of x)))) f)))
      (added ask code (Kept k code w0) 1 1 1 1 1 _ c next _ (omega arith) (omega arith)
      (both_cell ask code (Since k code w0) (λ r. Since k code w0) Any 0 0 1 1 1 1 _ c (landed Operand d (place + length ((value_code e).code (new_operand s) ty s)) ks ops) next (eval e K d c l w) _ (omega arith) (omega arith) (omega arith)
      (value_runs ask k code bound w0 (value_code e) (eval e K) value (new_operand s) ty s d place ks ops c l w le fits long has)
      (λ n c1 l1 w1 lo fits1 p. added ask code (Kept k code w0) 0 1 1 1 1 (at d (place + length ((value_code e).code (new_operand s) ty s)) ks (Scalar n ∷ ops) l1 w1) c1 next (f (Goes (image n)) c1 l1 w1) (omega arith) (omega arith) (more n c1 l1 w1 lo fits1))
      (λ y c1 l1 w1 lo fits1. added ask code (Kept k code w0) 0 1 1 1 1 (transferred (ByRaise y) ks l1 w1) c1 next (f (Leaves (ByRaise y)) c1 l1 w1) (omega arith) (omega arith) (leaves y c1 l1 w1 lo fits1))))

  -- a piece, and what follows it
  piece_runs : (p : Piece) → piece_is_run k.records p ≡ true → (qs : List TextPart) (rs u : List ℕ) → Holds qs rs u → (f : Result (List ℕ) → Act Done) (s : List Kind) (w0 : World) (d : List ℕ) (place : ℕ) (ks : List Frame) (ops : List Word) (c : ℕ) (l : Log) (w : World) (next : Result Done → Log → World → State) → c ≤ bound → Since k code w0 w → IsSeen w0 d s → Laid code place (piece_code p s) → ((y c1 : ℕ) (l1 : Log) (w1 : World) → c1 ≤ c → Since k code w0 w1 → Runs ask code (Kept k code w0) 1 1 (transferred (ByRaise y) ks l1 w1) c1 next (f (Leaves (ByRaise y)) c1 l1 w1)) → ((rs1 x : List ℕ) (c1 : ℕ) (l1 : Log) (w1 : World) → c1 ≤ c → Since k code w0 w1 → Holds (qs ++ part_of p ∷ []) rs1 (u ++ x) → Runs ask code (Kept k code w0) 1 1 (at d (place + length (piece_code p s)) ks (operands rs1 ++ ops) l1 w1) c1 next (f (Goes x) c1 l1 w1)) → Runs ask code (Kept k code w0) 1 1 (at d place ks (operands rs ++ ops) l w) c next (bind (eval_piece p K d c l w) f)
  unfolding literal integer_text boolean_text opened_outcome
  piece_runs (PieceOf.Text t) known qs rs u holds f s w0 d place ks ops c l w next le fits long has leaves more =
      let e : place + 0 ≡ place = omega arith in
      added ask code (Kept k code w0) 1 1 1 1 1 _ c next _ (omega arith) (omega arith)
      (subst (λ p. Runs ask code (Kept k code w0) 1 1 (at d p ks (operands rs ++ ops) l w) c next (f (Goes t) c l w)) e (more rs t c l w (omega arith) fits (hold_literal qs rs u t holds)))
  piece_runs (PieceOf.IntegerImage e) known qs rs u holds f s w0 d place ks ops c l w next le fits long has leaves more =
      image_runs e Integer integer_image known f s w0 d place ks (operands rs ++ ops) c l w next le fits long has leaves (λ n c1 l1 w1 lo fits1. more (n ∷ rs) (integer_image n) c1 l1 w1 lo fits1 (hold_integer qs rs u n holds))
  piece_runs (PieceOf.BooleanImage e) known qs rs u holds f s w0 d place ks ops c l w next le fits long has leaves more =
      image_runs e Boolean boolean_image known f s w0 d place ks (operands rs ++ ops) c l w next le fits long has leaves (λ n c1 l1 w1 lo fits1. more (n ∷ rs) (boolean_image n) c1 l1 w1 lo fits1 (hold_boolean qs rs u n holds))

  -- the text that is printed, and the operands that are left
  shown : {X : Type 0} (full : List TextPart) (rs u : List ℕ) (ops : List Word) → Holds full rs u → (f : List ℕ → List Word → X) → f (text_of full (reverse (cells_of (take (images_in full) (operands rs ++ ops))))) (drop (images_in full) (operands rs ++ ops)) ≡ f u ops
  shown full rs u ops holds f =
      ap (λ m. f (text_of full (reverse (cells_of (take m (operands rs ++ ops))))) (drop m (operands rs ++ ops))) holds.count
      ∙ ap (λ xs. f (text_of full (reverse xs)) (drop (length rs) (operands rs ++ ops))) (take_front rs ops)
      ∙ ap (λ os. f (text_of full (reverse rs)) os) (drop_front rs ops)
      ∙ ap (λ t. f t ops) holds.text

  -- the instruction that prints
  put_runs : (ends_line : Bool) (n first : ℕ) (t : List Kind) (full : List TextPart) → HasAt code.texts.items n (full ∷ []) → (rs u : List ℕ) → Holds full rs u → (e : Target) (w0 : World) (d : List ℕ) (place : ℕ) (ks : List Frame) (ops : List Word) (c : ℕ) (l : Log) (w : World) → Since k code w0 w → Laid code place ((print_of ends_line n first, t) ∷ []) → Runs ask code (Kept k code w0) 1 1 (at d place ks (operands rs ++ ops) l w) c (arrives e d (place + 1) ks ops) (printed ends_line u c l w)
  unfolding opened_outcome
  put_runs true n first t full texts rs u holds e w0 d place ks ops c l w fits has =
      last_step ask code (Kept k code w0) 1 1 _ c 0 (arrives e d (place + 1) ks ops) (Goes tt) _ w (omega arith) fits (by_code ask code d place ks (operands rs ++ ops) l w (InstrOf.PutLine n first) has.0 ∙ ap (λ x. moved l (by_text x (Newline ∷ []) (operands rs ++ ops) (here d place ks w))) texts.0 ∙ shown full rs u ops holds (λ v os. moved l (showing (Print v ∷ Newline ∷ []) (At d (place + 1)) ks os w)))
  put_runs false n first t full texts rs u holds e w0 d place ks ops c l w fits has =
      last_step ask code (Kept k code w0) 1 1 _ c 0 (arrives e d (place + 1) ks ops) (Goes tt) _ w (omega arith) fits (by_code ask code d place ks (operands rs ++ ops) l w (InstrOf.Put n first) has.0 ∙ ap (λ x. moved l (by_text x [] (operands rs ++ ops) (here d place ks w))) texts.0 ∙ shown full rs u ops holds (λ v os. moved l (showing (Print v ∷ []) (At d (place + 1)) ks os w)))

  -- the pieces that are left, and the instruction that prints
  abbrev printing : Bool → ℕ → ℕ → List Kind → List Piece → List Kind → List Line
  printing b n first t ps s = pieces_code ps s ++ (print_of b n first, t) ∷ []

  -- the rest of the pieces
  join_runs : (b : Bool) (n first : ℕ) (t : List Kind) (full : List TextPart) → HasAt code.texts.items n (full ∷ []) → (ps : List Piece) → pieces_are_run k.records ps ≡ true → (qs : List TextPart) (rs u : List ℕ) → Holds qs rs u → qs ++ parts_of ps ≡ full → (s : List Kind) (e : Target) (w0 : World) (d : List ℕ) (place : ℕ) (ks : List Frame) (ops : List Word) (c : ℕ) (l : Log) (w : World) → c ≤ bound → Since k code w0 w → IsSeen w0 d s → Laid code place (printing b n first t ps s) → Runs ask code (Kept k code w0) 1 1 (at d place ks (operands rs ++ ops) l w) c (arrives e d (place + length (printing b n first t ps s)) ks ops) (bind (join_pieces K d (map eval_piece ps) u c l w) (on_goes (printed b)))
  unfolding join_pieces opened_outcome
  join_runs b n first t full texts [] known qs rs u holds same s e w0 d place ks ops c l w le fits long has =
      added ask code (Kept k code w0) 0 1 1 1 1 _ c _ _ (omega arith) (omega arith)
      (put_runs b n first t full texts rs u (subst (λ x. Holds x rs u) (sym (append-nil qs) ∙ same) holds) e w0 d place ks ops c l w fits has)
  join_runs b n first t full texts (p ∷ ps) known qs rs u holds same s e w0 d place ks ops c l w le fits long has =
      let is = printing b n first t ps (with_piece p s) in
      let flat : printing b n first t (p ∷ ps) s ≡ piece_code p s ++ is = append_assoc (piece_code p s) (pieces_code ps (with_piece p s)) ((print_of b n first, t) ∷ []) in
      let far : place + length (piece_code p s) + length is ≡ place + length (printing b n first t (p ∷ ps) s) = omega (arith, ap length flat, length-append (piece_code p s) is) in
      let has1 = subst (Laid code place) flat has in
      subst (λ o. Runs ask code (Kept k code w0) 1 1 (at d place ks (operands rs ++ ops) l w) c (arrives e d (place + length (printing b n first t (p ∷ ps) s)) ks ops) o) (sym (bind_bind (add 1 (eval_piece p K d c l w)) (on_goes (λ x. join_pieces K d (map eval_piece ps) (u ++ x))) (on_goes (printed b)) ∙ bind_add 1 (eval_piece p K d c l w) _))
      (added ask code (Kept k code w0) 1 1 1 1 1 _ c _ _ (omega arith) (omega arith)
      (piece_runs p (both_true _ _ known).0 qs rs u holds (λ r c1 l1 w1. bind (on_goes (λ x. join_pieces K d (map eval_piece ps) (u ++ x)) r c1 l1 w1) (on_goes (printed b))) s w0 d place ks ops c l w (arrives e d (place + length (printing b n first t (p ∷ ps) s)) ks ops) le fits long (laid_front code place (piece_code p s) is has1)
      (λ y c1 l1 w1 lo fits1. no_step ask code (Kept k code w0) 1 1 (transferred (ByRaise y) ks l1 w1) c1 0 (arrives e d (place + length (printing b n first t (p ∷ ps) s)) ks ops) (Leaves (ByRaise y)) l1 w1 fits1 refl)
      (λ rs1 x c1 l1 w1 lo fits1 holds1. subst (λ q. Runs ask code (Kept k code w0) 1 1 (at d (place + length (piece_code p s)) ks (operands rs1 ++ ops) l1 w1) c1 (arrives e d q ks ops) (bind (join_pieces K d (map eval_piece ps) (u ++ x) c1 l1 w1) (on_goes (printed b)))) far
      (join_runs b n first t full texts ps (both_true _ _ known).1 (qs ++ part_of p ∷ []) rs1 (u ++ x) holds1 (append_assoc qs (part_of p ∷ []) (parts_of ps) ∙ same) (with_piece p s) e w0 d (place + length (piece_code p s)) ks ops c1 l1 w1 (omega (arith, lo, le)) fits1 (piece_seen p s w0 d long) (laid_back code place (piece_code p s) is has1)))))

  -- the pieces in turn, and then the text
  pub print_runs : (b : Bool) (ps : List Piece) → pieces_are_run k.records ps ≡ true → (n : ℕ) → HasAt code.texts.items n (parts_of ps ∷ []) → Does ask k code bound (λ a. print_code b n ps a.stack) (λ d caught. ticked (eval_text K d (map eval_piece ps) >>= printed b))
  unfolding eval_text opened_outcome
  print_runs b [] known n texts a w0 d place ks ops c l w le fits sees has =
      added ask code (Kept k code w0) 1 1 1 0 0 _ c _ _ (omega arith) (omega arith) (added ask code (Kept k code w0) 0 1 1 1 1 _ c _ _ (omega arith) (omega arith)
      (put_runs b n (height a.stack) a.stack [] texts [] [] (record { count = refl; text = refl }) (lands a place) w0 d place ks ops c l w fits has))
  print_runs b (p ∷ ps) known n texts a w0 d place ks ops c l w le fits sees has =
      let s = a.stack in
      let first = height s in
      let t = with_pieces (p ∷ ps) s in
      let e = lands a place in
      let is = printing b n first t ps (with_piece p s) in
      let flat : printing b n first t (p ∷ ps) s ≡ piece_code p s ++ is = append_assoc (piece_code p s) (pieces_code ps (with_piece p s)) ((print_of b n first, t) ∷ []) in
      let far : place + length (piece_code p s) + length is ≡ place + length (printing b n first t (p ∷ ps) s) = omega (arith, ap length flat, length-append (piece_code p s) is) in
      let has1 = subst (Laid code place) flat has in
      added ask code (Kept k code w0) 1 1 1 0 0 _ c _ _ (omega arith) (omega arith)
      (subst (λ o. Runs ask code (Kept k code w0) 1 1 (at d place ks ops l w) c (arrives e d (place + length (printing b n first t (p ∷ ps) s)) ks ops) o) (sym (bind_bind (eval_piece p K d c l w) (on_goes (λ x. join_pieces K d (map eval_piece ps) x)) (on_goes (printed b))))
      (piece_runs p (both_true _ _ known).0 [] [] [] (record { count = refl; text = refl }) (λ r c1 l1 w1. bind (on_goes (λ x. join_pieces K d (map eval_piece ps) x) r c1 l1 w1) (on_goes (printed b))) s w0 d place ks ops c l w (arrives e d (place + length (printing b n first t (p ∷ ps) s)) ks ops) le fits (seen sees) (laid_front code place (piece_code p s) is has1)
      (λ y c1 l1 w1 lo fits1. no_step ask code (Kept k code w0) 1 1 (transferred (ByRaise y) ks l1 w1) c1 0 (arrives e d (place + length (printing b n first t (p ∷ ps) s)) ks ops) (Leaves (ByRaise y)) l1 w1 fits1 refl)
      (λ rs1 x c1 l1 w1 lo fits1 holds1. subst (λ q. Runs ask code (Kept k code w0) 1 1 (at d (place + length (piece_code p s)) ks (operands rs1 ++ ops) l1 w1) c1 (arrives e d q ks ops) (bind (join_pieces K d (map eval_piece ps) x c1 l1 w1) (on_goes (printed b)))) far
      (join_runs b n first t (parts_of (p ∷ ps)) texts ps (both_true _ _ known).1 (part_of p ∷ []) rs1 x holds1 refl (with_piece p s) e w0 d (place + length (piece_code p s)) ks ops c1 l1 w1 (omega (arith, lo, le)) fits1 (piece_seen p s w0 d (seen sees)) (laid_back code place (piece_code p s) is has1)))))
