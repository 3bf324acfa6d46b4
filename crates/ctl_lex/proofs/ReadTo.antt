-- How far a text is read, and what it means at its end and at a fault.
use Rattle.std.proofs.Common.{◌≡◌, ℕ, ◌≤◌, List, [], ◌∷◌, ◌++◌, length, take, drop, refl, sym, ap, subst, ◌∙◌, arith}
use Rattle.std.proofs.lemmas.List.{length-append, take_at, drop_at}
use Rattle.ctl_tree.specs.declared.fault.FaultCode.{FaultCode}
use Rattle.ctl_tree.specs.declared.token.Token.{Token}
use Rattle.ctl_lexis.specs.declared.place.Place.{Place}
use Rattle.ctl_lexis.specs.declared.shape.Shape.{Shape}
use Rattle.ctl_lexis.specs.Places.{start, place_after}
use Rattle.ctl_lexis.specs.Pieces.{Piece}
use Rattle.ctl_lexis.specs.Lexis.{longest_text, IsCut, token_of, tokens_of, end_mark, place_behind, fault_at, HasTokens, HasFault, first}
use Rattle.ctl_lexis.specs.Reading.{front_of, piece_of}
use Rattle.ctl_lexis.proofs.Judged.{Judged, Found, Refused, front_judged}
use Rattle.ctl_lexis.proofs.Cuts.{cut_more, tokens_of-push, place_behind-push, place_of_cut}

-- The text is pieces up to the rest; these are their tokens, and the rest begins at this place.
pub record IsReadTo (source : List ℕ) (tokens : List Token) (place : Place) (rest : List ℕ) : Type 0 where
  pub pieces : List (Piece × List ℕ)
  pub cut : IsCut source pieces rest
  pub shown : tokens ≡ tokens_of start pieces
  pub at_place : place ≡ place_behind start pieces

pub nothing_read : (source : List ℕ) → IsReadTo source [] start source
nothing_read source = record { pieces = []; cut = refl; shown = refl; at_place = refl }

-- what is read at the front of a rest that is not empty
pub rest_judged : (rest : List ℕ) → 1 ≤ length rest → Judged rest (front_of rest)
rest_judged [] some = absurd (omega arith)
rest_judged (b ∷ rest) some = front_judged b rest

pub found_within : (rest : List ℕ) (shape : Shape) (n : ℕ) → Found rest shape n → (1 ≤ n) × (n ≤ length rest)
found_within rest shape n j = (j.some, omega (arith, j.len, ap length j.parts, length-append j.text j.rest))

pub refused_within : (rest : List ℕ) (fault : FaultCode) (n : ℕ) → Refused rest fault n → n ≤ length rest
refused_within rest fault n j = omega (arith, j.len, ap length j.parts, length-append j.before j.behind)

pub read_more : (source rest : List ℕ) (tokens more : List Token) (place next : Place) (shape : Shape) (n : ℕ) → IsReadTo source tokens place rest → Found rest shape n → more ≡ tokens ++ token_of place.span (piece_of shape (take n rest)) → next ≡ place_after place (take n rest) → IsReadTo source more next (drop n rest)
read_more source rest tokens more place next shape n read j added moved =
    let text : take n rest ≡ j.text = ap (take n) j.parts ∙ take_at j.text j.rest n (sym j.len) in
    let behind : drop n rest ≡ j.rest = ap (drop n) j.parts ∙ drop_at j.text j.rest n (sym j.len) in
    let x : Piece × List ℕ = (piece_of shape j.text, j.text) in
    let shown : more ≡ tokens_of start (read.pieces ++ x ∷ []) =
    added ∙ ap (λ (us : List ℕ). tokens ++ token_of place.span (piece_of shape us)) text ∙ ap (λ (us : List Token). us ++ token_of place.span x.0) read.shown ∙ ap (λ (p : Place). tokens_of start read.pieces ++ token_of p.span x.0) read.at_place ∙ sym (tokens_of-push start read.pieces x) in
    let at_place : next ≡ place_behind start (read.pieces ++ x ∷ []) =
    moved ∙ ap (place_after place) text ∙ ap (λ (p : Place). place_after p j.text) read.at_place ∙ sym (place_behind-push start read.pieces x) in
    subst (λ (us : List ℕ). IsReadTo source more next us) (sym behind) (record { pieces = read.pieces ++ x ∷ []; cut = cut_more source read.pieces rest j.rest j.text x.0 read.cut j.parts j.is; shown = shown; at_place = at_place })

-- at the end of the text
pub read_all : (source rest : List ℕ) (tokens : List Token) (place : Place) → length source ≤ longest_text → length rest ≡ 0 → IsReadTo source tokens place rest → HasTokens source (tokens ++ end_mark place ∷ [])
read_all source [] tokens place short none read =
    record { short = short; pieces = read.pieces; cut = read.cut; shown = ap (λ (us : List Token). us ++ end_mark place ∷ []) read.shown ∙ ap (λ (p : Place). tokens_of start read.pieces ++ end_mark p ∷ []) (read.at_place ∙ place_of_cut start source read.pieces read.cut) }
read_all source (b ∷ rest) tokens place short none read = absurd (omega arith)

-- at a fault
pub read_fault : (source rest : List ℕ) (tokens : List Token) (place : Place) (fault : FaultCode) (n : ℕ) → length source ≤ longest_text → IsReadTo source tokens place rest → Refused rest fault n → HasFault source (fault_at fault (place_after place (take n rest)))
read_fault source rest tokens place fault n short read j =
    let before : take n rest ≡ j.before = ap (take n) j.parts ∙ take_at j.before j.behind n (sym j.len) in
    let same : fault_at fault (place_after (place_behind start read.pieces) j.before) ≡ fault_at fault (place_after place (take n rest)) =
    ap (λ (us : List ℕ). fault_at fault (place_after (place_behind start read.pieces) us)) (sym before) ∙ ap (λ (p : Place). fault_at fault (place_after p (take n rest))) (sym read.at_place) in
    subst (HasFault source) same (first read.pieces short read.cut j.is)
