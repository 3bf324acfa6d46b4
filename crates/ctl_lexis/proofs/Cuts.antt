-- A text is cut in one way: from its front, piece by piece.
use Rattle.std.proofs.Common.{◌≡◌, ℕ, zero, suc, ◌≤◌, List, [], ◌∷◌, ◌++◌, length, take, drop, Ok, Err, ◌⊎◌, inl, inr, refl, sym, ap, subst, ◌∙◌, append_assoc, arith}
use Rattle.std.proofs.lemmas.List.{length-append, take_at, drop_at, append-nil}
use Rattle.ctl_tree.specs.declared.fault.FaultCode.{FaultCode}
use Rattle.ctl_tree.specs.declared.fault.FaultCode.TheVariants.{BadByte}
use Rattle.ctl_tree.specs.declared.token.Token.{Token}
use Rattle.ctl_lexis.specs.declared.place.Place.{Place}
use Rattle.ctl_lexis.specs.declared.shape.Shape.{Shape}
use Rattle.ctl_lexis.specs.Bytes.{class_of}
use Rattle.ctl_lexis.specs.Places.{after, place_after}
use Rattle.ctl_lexis.specs.Pieces.{Piece, IsPiece, quoted}
use Rattle.ctl_lexis.specs.Lexis.{IsCut, token_of, tokens_of, place_behind, IsFault, bad_byte, bad_identifier, bad_number, open_string, bad_byte_inside}
use Rattle.ctl_lexis.specs.Reading.{Front, piece_of, mark_at, simple_delimiter, compound_delimiter, front_of}
use Rattle.ctl_lexis.proofs.Judged.{Judged, front_judged}
use Rattle.ctl_lexis.proofs.Again.{piece_again, fault_again}

-- one piece more at the end of a cut
pub cut_more : (bytes : List ℕ) (pieces : List (Piece × List ℕ)) (rest behind text : List ℕ) (piece : Piece) → IsCut bytes pieces rest → rest ≡ text ++ behind → IsPiece piece text behind → IsCut bytes (pieces ++ (piece, text) ∷ []) behind
cut_more bytes [] rest behind text piece cut parts is = (behind, cut ∙ parts, is, refl)
cut_more bytes (x ∷ pieces) rest behind text piece cut parts is = (cut.0, cut.1, cut.2, cut_more cut.0 pieces rest behind text piece cut.3 parts is)

pub tokens_of-push : (place : Place) (pieces : List (Piece × List ℕ)) (x : Piece × List ℕ) → tokens_of place (pieces ++ x ∷ []) ≡ tokens_of place pieces ++ token_of (place_behind place pieces).span x.0
tokens_of-push place [] x = append-nil (token_of place.span x.0)
tokens_of-push place (y ∷ pieces) x =
    ap (λ (us : List Token). token_of place.span y.0 ++ us) (tokens_of-push (place_after place y.1) pieces x) ∙ sym (append_assoc (token_of place.span y.0) (tokens_of (place_after place y.1) pieces) (token_of (place_behind (place_after place y.1) pieces).span x.0))

pub place_behind-push : (place : Place) (pieces : List (Piece × List ℕ)) (x : Piece × List ℕ) → place_behind place (pieces ++ x ∷ []) ≡ place_after (place_behind place pieces) x.1
place_behind-push place [] x = refl
place_behind-push place (y ∷ pieces) x = place_behind-push (place_after place y.1) pieces x

pub place_after-append : (place : Place) (front back : List ℕ) → place_after place (front ++ back) ≡ place_after (place_after place front) back
place_after-append place [] back = refl
place_after-append place (b ∷ front) back = place_after-append (after place b) front back

-- the place behind all pieces is the place behind the text
pub place_of_cut : (place : Place) (bytes : List ℕ) (pieces : List (Piece × List ℕ)) → IsCut bytes pieces [] → place_behind place pieces ≡ place_after place bytes
place_of_cut place bytes [] cut = ap (place_after place) (sym cut)
place_of_cut place bytes (x ∷ pieces) cut = place_of_cut (place_after place x.1) cut.0 pieces cut.3 ∙ sym (place_after-append place x.1 cut.0) ∙ ap (place_after place) (sym cut.1)

-- one thing is read at the front of a text
not_both : (front : Front) (s : Shape × ℕ) (e : FaultCode × ℕ) → front ≡ Ok s → front ≡ Err e → ⊥
not_both front s e is_ok is_err = absurd cc

one_shape : (front : Front) (s t : Shape × ℕ) → front ≡ Ok s → front ≡ Ok t → s ≡ t
one_shape front s t is_s is_t = cc

one_refusal : (front : Front) (s t : FaultCode × ℕ) → front ≡ Err s → front ≡ Err t → s ≡ t
one_refusal front s t is_s is_t = cc

-- nothing is read at the end of a text
front_of_none : front_of [] ≡ Err (BadByte, 0)
unfolding front_of mark_at class_of simple_delimiter compound_delimiter
front_of_none = refl

-- what a piece at the front of a text says of what is read there
reads_piece : (bytes : List ℕ) (x : Piece × List ℕ) (behind : List ℕ) → bytes ≡ x.1 ++ behind → IsPiece x.0 x.1 behind → (shape : Shape) × (front_of bytes ≡ Ok (shape, length x.1)) × (piece_of shape x.1 ≡ x.0)
reads_piece bytes x behind parts is = let again = piece_again x.0 x.1 behind is in (again.shape, ap front_of parts ∙ again.reads, again.same)

pub no_piece_at_end : (bytes : List ℕ) (x : Piece × List ℕ) (behind : List ℕ) → bytes ≡ [] → bytes ≡ x.1 ++ behind → IsPiece x.0 x.1 behind → ⊥
no_piece_at_end bytes x behind none parts is =
    let read = reads_piece bytes x behind parts is in
    not_both (front_of bytes) (read.0, length x.1) (BadByte, 0) read.1 (ap front_of none ∙ front_of_none)

-- two pieces at the front of a text are one, and so is what stands behind them
pub same_piece : (bytes : List ℕ) (x y : Piece × List ℕ) (u v : List ℕ) → bytes ≡ x.1 ++ u → IsPiece x.0 x.1 u → bytes ≡ y.1 ++ v → IsPiece y.0 y.1 v → (x ≡ y) × (u ≡ v)
same_piece bytes x y u v parts_x is_x parts_y is_y =
    let a = reads_piece bytes x u parts_x is_x in
    let b = reads_piece bytes y v parts_y is_y in
    let both = one_shape (front_of bytes) (a.0, length x.1) (b.0, length y.1) a.1 b.1 in
    let shape : a.0 ≡ b.0 = ap (λ (s : Shape × ℕ). s.0) both in
    let len : length x.1 ≡ length y.1 = ap (λ (s : Shape × ℕ). s.1) both in
    let text : x.1 ≡ y.1 = sym (take_at x.1 u (length y.1) len) ∙ ap (take (length y.1)) (sym parts_x ∙ parts_y) ∙ take_at y.1 v (length y.1) refl in
    let rest : u ≡ v = sym (drop_at x.1 u (length y.1) len) ∙ ap (drop (length y.1)) (sym parts_x ∙ parts_y) ∙ drop_at y.1 v (length y.1) refl in
    let piece : x.0 ≡ y.0 = sym a.2 ∙ ap (λ (s : Shape). piece_of s x.1) shape ∙ ap (piece_of b.0) text ∙ b.2 in
    (λ i. (piece i, text i), rest)

pub same_cut : (bytes : List ℕ) (xs ys : List (Piece × List ℕ)) → IsCut bytes xs [] → IsCut bytes ys [] → xs ≡ ys
same_cut bytes [] [] a b = refl
same_cut bytes [] (y ∷ ys) a b = absurd (no_piece_at_end bytes y b.0 a b.1 b.2)
same_cut bytes (x ∷ xs) [] a b = absurd (no_piece_at_end bytes x a.0 b a.1 a.2)
same_cut bytes (x ∷ xs) (y ∷ ys) a b =
    let one = same_piece bytes x y a.0 b.0 a.1 a.2 b.1 b.2 in
    let more = same_cut a.0 xs ys a.3 (subst (λ (us : List ℕ). IsCut us ys []) (sym one.1) b.3) in
    λ i. one.0 i ∷ more i

-- a fault needs a byte to stand at, and what stands before it is the front of the rest
pub fault_some : (fault : FaultCode) (before bytes : List ℕ) → IsFault fault before bytes → 1 ≤ length bytes
fault_some fault before bytes (bad_byte {b} {rest} other none) = omega arith
fault_some fault before bytes (bad_identifier {text} {rest} name single) = omega (arith, ap length name.parts, length-append text rest)
fault_some fault before bytes (bad_number {text} {rest} numeral is) = omega (arith, ap length numeral.parts, length-append text rest)
fault_some fault before bytes (open_string content rest pass ends) = omega arith
fault_some fault before bytes (bad_byte_inside {good} {text} {rest} bad more closed graphic stops) = omega (arith, ap length closed.parts, length-append text rest)

pub fault_front : (fault : FaultCode) (before bytes : List ℕ) → IsFault fault before bytes → (behind : List ℕ) × (bytes ≡ before ++ behind)
fault_front fault before bytes (bad_byte {b} {rest} other none) = (b ∷ rest, refl)
fault_front fault before bytes (bad_identifier {text} {rest} name single) = (text ++ rest, refl)
fault_front fault before bytes (bad_number {text} {rest} numeral is) = (text ++ rest, refl)
fault_front fault before bytes (open_string content rest pass ends) = (34 ∷ (quoted content ++ rest), refl)
fault_front fault before bytes (bad_byte_inside {good} {text} {rest} bad more closed graphic stops) =
    (bad ∷ (more ++ (34 ∷ rest)), ap (λ (us : List ℕ). us ++ rest) closed.parts ∙ ap (λ (us : List ℕ). 34 ∷ us) (append_assoc (good ++ bad ∷ more) (34 ∷ []) rest ∙ append_assoc good (bad ∷ more) (34 ∷ rest)))

no_fault_at_piece : (bytes : List ℕ) (x : Piece × List ℕ) (behind : List ℕ) (fault : FaultCode) (before : List ℕ) → bytes ≡ x.1 ++ behind → IsPiece x.0 x.1 behind → IsFault fault before bytes → ⊥
no_fault_at_piece bytes x behind fault before parts is faulty =
    let read = reads_piece bytes x behind parts is in
    not_both (front_of bytes) (read.0, length x.1) (fault, length before) read.1 (fault_again fault before bytes faulty)

-- what is nothing but pieces has no fault behind pieces
pub no_fault_in_cut : (bytes : List ℕ) (xs ys : List (Piece × List ℕ)) (rest : List ℕ) (fault : FaultCode) (before : List ℕ) → IsCut bytes xs [] → IsCut bytes ys rest → IsFault fault before rest → ⊥
no_fault_in_cut bytes [] [] rest fault before a b is = absurd (omega (arith, fault_some fault before rest is, ap length (sym b ∙ a)))
no_fault_in_cut bytes [] (y ∷ ys) rest fault before a b is = no_piece_at_end bytes y b.0 a b.1 b.2
no_fault_in_cut bytes (x ∷ xs) [] rest fault before a b is = no_fault_at_piece bytes x a.0 fault before a.1 a.2 (subst (IsFault fault before) (sym b) is)
no_fault_in_cut bytes (x ∷ xs) (y ∷ ys) rest fault before a b is =
    let one = same_piece bytes x y a.0 b.0 a.1 a.2 b.1 b.2 in
    no_fault_in_cut a.0 xs ys rest fault before a.3 (subst (λ (us : List ℕ). IsCut us ys rest) (sym one.1) b.3) is

-- two cuts up to a fault are one
pub same_fault_cut : (bytes : List ℕ) (xs ys : List (Piece × List ℕ)) (u v : List ℕ) (f g : FaultCode) (p q : List ℕ) → IsCut bytes xs u → IsFault f p u → IsCut bytes ys v → IsFault g q v → (xs ≡ ys) × (u ≡ v)
same_fault_cut bytes [] [] u v f g p q a is_f b is_g = (refl, sym a ∙ b)
same_fault_cut bytes [] (y ∷ ys) u v f g p q a is_f b is_g = absurd (no_fault_at_piece bytes y b.0 f p b.1 b.2 (subst (IsFault f p) (sym a) is_f))
same_fault_cut bytes (x ∷ xs) [] u v f g p q a is_f b is_g = absurd (no_fault_at_piece bytes x a.0 g q a.1 a.2 (subst (IsFault g q) (sym b) is_g))
same_fault_cut bytes (x ∷ xs) (y ∷ ys) u v f g p q a is_f b is_g =
    let one = same_piece bytes x y a.0 b.0 a.1 a.2 b.1 b.2 in
    let more = same_fault_cut a.0 xs ys u v f g p q a.3 is_f (subst (λ (us : List ℕ). IsCut us ys v) (sym one.1) b.3) is_g in
    (λ i. one.0 i ∷ more.0 i, more.1)

pub same_fault : (rest : List ℕ) (f g : FaultCode) (p q : List ℕ) → IsFault f p rest → IsFault g q rest → (f ≡ g) × (p ≡ q)
same_fault rest f g p q is_f is_g =
    let both = one_refusal (front_of rest) (f, length p) (g, length q) (fault_again f p rest is_f) (fault_again g q rest is_g) in
    let len : length p ≡ length q = ap (λ (e : FaultCode × ℕ). e.1) both in
    let front_f = fault_front f p rest is_f in
    let front_g = fault_front g q rest is_g in
    (ap (λ (e : FaultCode × ℕ). e.0) both, sym (take_at p front_f.0 (length q) len) ∙ ap (take (length q)) (sym front_f.1 ∙ front_g.1) ∙ take_at q front_g.0 (length q) refl)

-- how far a text can be cut: to its end, or to a fault
abbrev pub Ends : List ℕ → Type 0
Ends bytes =
    ((pieces : List (Piece × List ℕ)) × IsCut bytes pieces [])
    ⊎ ((pieces : List (Piece × List ℕ)) × (rest : List ℕ) × (fault : FaultCode) × (before : List ℕ) × IsCut bytes pieces rest × IsFault fault before rest)

ends_within : (n : ℕ) (bytes : List ℕ) → length bytes ≤ n → Ends bytes
ends_within zero [] le = inl ([], refl)
ends_within zero (b ∷ bytes) le = absurd (omega arith)
ends_within (suc n) [] le = inl ([], refl)
ends_within (suc n) (b ∷ bytes) le =
    let more = ends_within n in
    let at : (front : Front) → Judged (b ∷ bytes) front → Ends (b ∷ bytes) = elim [
      | Err e ↦ λ j. inr ([], b ∷ bytes, e.0, j.before, refl, j.is)
      | Ok f ↦ λ j.
          let short : length j.rest ≤ n = omega (arith, j.some, j.len, ap length j.parts, length-append j.text j.rest) in
          elim (more j.rest short) [
            | inl h ↦ inl ((piece_of f.0 j.text, j.text) ∷ h.0, (j.rest, j.parts, j.is, h.1))
            | inr h ↦ inr ((piece_of f.0 j.text, j.text) ∷ h.0, h.1, h.2, h.3, (j.rest, j.parts, j.is, h.4), h.5)
          ]
    ] in at (front_of (b ∷ bytes)) (front_judged b bytes)

pub ends : (bytes : List ℕ) → Ends bytes
ends bytes = ends_within (length bytes) bytes (omega arith)
