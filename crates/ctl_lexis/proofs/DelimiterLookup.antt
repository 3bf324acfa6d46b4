-- What the tables of delimiters have, against the spellings.
use Rattle.std.proofs.Common.{◌≡◌, ℕ, ◌<◌, ◌≤◌, Bool, true, false, ◌&&◌, ◌==◌, cond, List, [], ◌∷◌, ◌++◌, length, get_or, Some, None, lit<, lit≤, refl, sym, ap, subst, ◌∙◌}
use Rattle.std.proofs.lemmas.Bool.{and_parts, eqb-true}
use Rattle.ctl_tree.specs.declared.token.Kind.{Kind}
use Rattle.ctl_tree.specs.declared.token.Kind.TheVariants.{Identifier, Number, String, Finish, Ampersand, Apostrophe, LeftParenthesis, RightParenthesis, Star, Plus, Comma, Minus, Dot, Slash, Colon, Semicolon, Less, Equal, Greater, Bar, Arrow, DoubleDot, Becomes, NotEqual, GreaterEqual, LessEqual, Abs}
use Rattle.ctl_lexis.specs.declared.class.ByteClass.{ByteClass}
use Rattle.ctl_lexis.specs.declared.class.ByteClass.TheVariants.{Letter, Other}
use Rattle.ctl_lexis.specs.Bytes.{class_of}
use Rattle.ctl_lexis.specs.Spelling.{spelling}
use Rattle.ctl_lexis.specs.Delimiters.{simple_delimiters, compound_delimiters}
use Rattle.ctl_lexis.specs.Reading.{simple_in, compound_in, simple_delimiter, compound_delimiter}

-- the entries are spelled so
abbrev AreSimple : List (ℕ × Kind) → Type 0
AreSimple [] = Unit {0}
AreSimple (entry ∷ entries) = (spelling entry.1 ≡ entry.0 ∷ []) × AreSimple entries

abbrev AreCompound : List (ℕ × ℕ × Kind) → Type 0
AreCompound [] = Unit {0}
AreCompound (entry ∷ entries) = (spelling entry.2 ≡ entry.0 ∷ entry.1 ∷ []) × (0 < entry.1) × AreCompound entries

simple_in_spelled : (entries : List (ℕ × Kind)) (b : ℕ) (k : Kind) → AreSimple entries → simple_in entries b ≡ Some k → spelling k ≡ b ∷ []
simple_in_spelled [] b k are e = absurd cc
simple_in_spelled (entry ∷ entries) b k are e =
    let at : (t : Bool) → (b == entry.0) ≡ t → cond t (Some entry.1) (simple_in entries b) ≡ Some k → spelling k ≡ b ∷ [] = elim [
      | true ↦ λ q f. let same : entry.1 ≡ k = cc in sym (ap spelling same) ∙ are.0 ∙ ap (λ (c : ℕ). c ∷ []) (sym (eqb-true b entry.0 q))
      | false ↦ λ q f. simple_in_spelled entries b k are.1 f
    ] in at (b == entry.0) refl e

compound_in_spelled : (entries : List (ℕ × ℕ × Kind)) (b c : ℕ) (k : Kind) → AreCompound entries → compound_in entries b c ≡ Some k → (spelling k ≡ b ∷ c ∷ []) × (0 < c)
compound_in_spelled [] b c k are e = absurd cc
compound_in_spelled (entry ∷ entries) b c k are e =
    let at : (t : Bool) → (b == entry.0 && c == entry.1) ≡ t → cond t (Some entry.2) (compound_in entries b c) ≡ Some k → (spelling k ≡ b ∷ c ∷ []) × (0 < c) = elim [
      | true ↦ λ q f.
          let same : entry.2 ≡ k = cc in
          let parts = and_parts (b == entry.0) (c == entry.1) q in
          let first : entry.0 ≡ b = sym (eqb-true b entry.0 parts.0) in
          let second : entry.1 ≡ c = sym (eqb-true c entry.1 parts.1) in
          (sym (ap spelling same) ∙ are.0 ∙ ap (λ (d : ℕ). d ∷ entry.1 ∷ []) first ∙ ap (λ (d : ℕ). b ∷ d ∷ []) second, subst (λ (d : ℕ). 0 < d) second are.1)
      | false ↦ λ q f. compound_in_spelled entries b c k are.2 f
    ] in at (b == entry.0 && c == entry.1) refl e

pub simple_spelled : (b : ℕ) (k : Kind) → simple_delimiter b ≡ Some k → spelling k ≡ b ∷ []
unfolding simple_delimiter
simple_spelled b k e = simple_in_spelled simple_delimiters b k (refl, (refl, (refl, (refl, (refl, (refl, (refl, (refl, (refl, (refl, (refl, (refl, (refl, (refl, (refl, (refl, tt)))))))))))))))) e

pub compound_spelled : (b c : ℕ) (k : Kind) → compound_delimiter b c ≡ Some k → (spelling k ≡ b ∷ c ∷ []) × (0 < c)
unfolding compound_delimiter
compound_spelled b c k e = compound_in_spelled compound_delimiters b c k (refl, lit< tt, (refl, lit< tt, (refl, lit< tt, (refl, lit< tt, (refl, lit< tt, (refl, lit< tt, tt)))))) e

abbrev class_at_front : List ℕ → ByteClass
class_at_front [] = Other
class_at_front (b ∷ bytes) = class_of b

-- a delimiter that begins so is found
pub delimiter_found : (k : Kind) (b : ℕ) (more : List ℕ) → class_of b ≡ Other → spelling k ≡ b ∷ more → simple_delimiter b ≡ None → ⊥
unfolding class_of simple_delimiter
delimiter_found Abs b more other e none = absurd (let q : Letter ≡ Other = ap class_at_front e ∙ other in cc)
delimiter_found Identifier b more other e none = absurd cc
delimiter_found Number b more other e none = absurd cc
delimiter_found String b more other e none = absurd cc
delimiter_found Finish b more other e none = absurd cc
delimiter_found Ampersand b more other e none = let is : 38 ≡ b = cc in absurd (let q : simple_delimiter 38 ≡ None = ap simple_delimiter is ∙ none in cc)
delimiter_found Apostrophe b more other e none = let is : 39 ≡ b = cc in absurd (let q : simple_delimiter 39 ≡ None = ap simple_delimiter is ∙ none in cc)
delimiter_found LeftParenthesis b more other e none = let is : 40 ≡ b = cc in absurd (let q : simple_delimiter 40 ≡ None = ap simple_delimiter is ∙ none in cc)
delimiter_found RightParenthesis b more other e none = let is : 41 ≡ b = cc in absurd (let q : simple_delimiter 41 ≡ None = ap simple_delimiter is ∙ none in cc)
delimiter_found Star b more other e none = let is : 42 ≡ b = cc in absurd (let q : simple_delimiter 42 ≡ None = ap simple_delimiter is ∙ none in cc)
delimiter_found Plus b more other e none = let is : 43 ≡ b = cc in absurd (let q : simple_delimiter 43 ≡ None = ap simple_delimiter is ∙ none in cc)
delimiter_found Comma b more other e none = let is : 44 ≡ b = cc in absurd (let q : simple_delimiter 44 ≡ None = ap simple_delimiter is ∙ none in cc)
delimiter_found Minus b more other e none = let is : 45 ≡ b = cc in absurd (let q : simple_delimiter 45 ≡ None = ap simple_delimiter is ∙ none in cc)
delimiter_found Dot b more other e none = let is : 46 ≡ b = cc in absurd (let q : simple_delimiter 46 ≡ None = ap simple_delimiter is ∙ none in cc)
delimiter_found Slash b more other e none = let is : 47 ≡ b = cc in absurd (let q : simple_delimiter 47 ≡ None = ap simple_delimiter is ∙ none in cc)
delimiter_found Colon b more other e none = let is : 58 ≡ b = cc in absurd (let q : simple_delimiter 58 ≡ None = ap simple_delimiter is ∙ none in cc)
delimiter_found Semicolon b more other e none = let is : 59 ≡ b = cc in absurd (let q : simple_delimiter 59 ≡ None = ap simple_delimiter is ∙ none in cc)
delimiter_found Less b more other e none = let is : 60 ≡ b = cc in absurd (let q : simple_delimiter 60 ≡ None = ap simple_delimiter is ∙ none in cc)
delimiter_found Equal b more other e none = let is : 61 ≡ b = cc in absurd (let q : simple_delimiter 61 ≡ None = ap simple_delimiter is ∙ none in cc)
delimiter_found Greater b more other e none = let is : 62 ≡ b = cc in absurd (let q : simple_delimiter 62 ≡ None = ap simple_delimiter is ∙ none in cc)
delimiter_found Bar b more other e none = let is : 124 ≡ b = cc in absurd (let q : simple_delimiter 124 ≡ None = ap simple_delimiter is ∙ none in cc)
delimiter_found Arrow b more other e none = let is : 61 ≡ b = cc in absurd (let q : simple_delimiter 61 ≡ None = ap simple_delimiter is ∙ none in cc)
delimiter_found DoubleDot b more other e none = let is : 46 ≡ b = cc in absurd (let q : simple_delimiter 46 ≡ None = ap simple_delimiter is ∙ none in cc)
delimiter_found Becomes b more other e none = let is : 58 ≡ b = cc in absurd (let q : simple_delimiter 58 ≡ None = ap simple_delimiter is ∙ none in cc)
delimiter_found NotEqual b more other e none = let is : 47 ≡ b = cc in absurd (let q : simple_delimiter 47 ≡ None = ap simple_delimiter is ∙ none in cc)
delimiter_found GreaterEqual b more other e none = let is : 62 ≡ b = cc in absurd (let q : simple_delimiter 62 ≡ None = ap simple_delimiter is ∙ none in cc)
delimiter_found LessEqual b more other e none = let is : 60 ≡ b = cc in absurd (let q : simple_delimiter 60 ≡ None = ap simple_delimiter is ∙ none in cc)
delimiter_found k b more other e none = absurd (let q : Letter ≡ Other = ap class_at_front e ∙ other in cc)

-- no spelling that begins with another byte than a letter is longer than two bytes
pub at_most_two : (k : Kind) (b : ℕ) (bytes behind : List ℕ) → class_of b ≡ Other → b ∷ bytes ≡ spelling k ++ behind → length (spelling k) ≤ 2
unfolding class_of
at_most_two Abs b bytes behind other e = absurd (let q : Other ≡ Letter = sym other ∙ ap class_at_front e in cc)
at_most_two Identifier b bytes behind other e = lit≤ tt
at_most_two Number b bytes behind other e = lit≤ tt
at_most_two String b bytes behind other e = lit≤ tt
at_most_two Finish b bytes behind other e = lit≤ tt
at_most_two Ampersand b bytes behind other e = lit≤ tt
at_most_two Apostrophe b bytes behind other e = lit≤ tt
at_most_two LeftParenthesis b bytes behind other e = lit≤ tt
at_most_two RightParenthesis b bytes behind other e = lit≤ tt
at_most_two Star b bytes behind other e = lit≤ tt
at_most_two Plus b bytes behind other e = lit≤ tt
at_most_two Comma b bytes behind other e = lit≤ tt
at_most_two Minus b bytes behind other e = lit≤ tt
at_most_two Dot b bytes behind other e = lit≤ tt
at_most_two Slash b bytes behind other e = lit≤ tt
at_most_two Colon b bytes behind other e = lit≤ tt
at_most_two Semicolon b bytes behind other e = lit≤ tt
at_most_two Less b bytes behind other e = lit≤ tt
at_most_two Equal b bytes behind other e = lit≤ tt
at_most_two Greater b bytes behind other e = lit≤ tt
at_most_two Bar b bytes behind other e = lit≤ tt
at_most_two Arrow b bytes behind other e = lit≤ tt
at_most_two DoubleDot b bytes behind other e = lit≤ tt
at_most_two Becomes b bytes behind other e = lit≤ tt
at_most_two NotEqual b bytes behind other e = lit≤ tt
at_most_two GreaterEqual b bytes behind other e = lit≤ tt
at_most_two LessEqual b bytes behind other e = lit≤ tt
at_most_two k b bytes behind other e = absurd (let q : Other ≡ Letter = sym other ∙ ap class_at_front e in cc)

-- where no compound delimiter begins, no spelling is longer than one byte
pub at_most_one : (k : Kind) (b : ℕ) (bytes behind : List ℕ) → class_of b ≡ Other → b ∷ bytes ≡ spelling k ++ behind → compound_delimiter b (get_or bytes 0 0) ≡ None → length (spelling k) ≤ 1
unfolding class_of compound_delimiter
at_most_one Abs b bytes behind other e none = absurd (let q : Other ≡ Letter = sym other ∙ ap class_at_front e in cc)
at_most_one Identifier b bytes behind other e none = lit≤ tt
at_most_one Number b bytes behind other e none = lit≤ tt
at_most_one String b bytes behind other e none = lit≤ tt
at_most_one Finish b bytes behind other e none = lit≤ tt
at_most_one Ampersand b bytes behind other e none = lit≤ tt
at_most_one Apostrophe b bytes behind other e none = lit≤ tt
at_most_one LeftParenthesis b bytes behind other e none = lit≤ tt
at_most_one RightParenthesis b bytes behind other e none = lit≤ tt
at_most_one Star b bytes behind other e none = lit≤ tt
at_most_one Plus b bytes behind other e none = lit≤ tt
at_most_one Comma b bytes behind other e none = lit≤ tt
at_most_one Minus b bytes behind other e none = lit≤ tt
at_most_one Dot b bytes behind other e none = lit≤ tt
at_most_one Slash b bytes behind other e none = lit≤ tt
at_most_one Colon b bytes behind other e none = lit≤ tt
at_most_one Semicolon b bytes behind other e none = lit≤ tt
at_most_one Less b bytes behind other e none = lit≤ tt
at_most_one Equal b bytes behind other e none = lit≤ tt
at_most_one Greater b bytes behind other e none = lit≤ tt
at_most_one Bar b bytes behind other e none = lit≤ tt
at_most_one Arrow b bytes behind other e none =
    let first : 61 ≡ b = cc in
    let rest : 62 ∷ behind ≡ bytes = cc in
    absurd (let q : compound_delimiter 61 (get_or (62 ∷ behind) 0 0) ≡ None = ap (λ (c : ℕ). compound_delimiter c (get_or (62 ∷ behind) 0 0)) first ∙ ap (λ (us : List ℕ). compound_delimiter b (get_or us 0 0)) rest ∙ none in cc)
at_most_one DoubleDot b bytes behind other e none =
    let first : 46 ≡ b = cc in
    let rest : 46 ∷ behind ≡ bytes = cc in
    absurd (let q : compound_delimiter 46 (get_or (46 ∷ behind) 0 0) ≡ None = ap (λ (c : ℕ). compound_delimiter c (get_or (46 ∷ behind) 0 0)) first ∙ ap (λ (us : List ℕ). compound_delimiter b (get_or us 0 0)) rest ∙ none in cc)
at_most_one Becomes b bytes behind other e none =
    let first : 58 ≡ b = cc in
    let rest : 61 ∷ behind ≡ bytes = cc in
    absurd (let q : compound_delimiter 58 (get_or (61 ∷ behind) 0 0) ≡ None = ap (λ (c : ℕ). compound_delimiter c (get_or (61 ∷ behind) 0 0)) first ∙ ap (λ (us : List ℕ). compound_delimiter b (get_or us 0 0)) rest ∙ none in cc)
at_most_one NotEqual b bytes behind other e none =
    let first : 47 ≡ b = cc in
    let rest : 61 ∷ behind ≡ bytes = cc in
    absurd (let q : compound_delimiter 47 (get_or (61 ∷ behind) 0 0) ≡ None = ap (λ (c : ℕ). compound_delimiter c (get_or (61 ∷ behind) 0 0)) first ∙ ap (λ (us : List ℕ). compound_delimiter b (get_or us 0 0)) rest ∙ none in cc)
at_most_one GreaterEqual b bytes behind other e none =
    let first : 62 ≡ b = cc in
    let rest : 61 ∷ behind ≡ bytes = cc in
    absurd (let q : compound_delimiter 62 (get_or (61 ∷ behind) 0 0) ≡ None = ap (λ (c : ℕ). compound_delimiter c (get_or (61 ∷ behind) 0 0)) first ∙ ap (λ (us : List ℕ). compound_delimiter b (get_or us 0 0)) rest ∙ none in cc)
at_most_one LessEqual b bytes behind other e none =
    let first : 60 ≡ b = cc in
    let rest : 61 ∷ behind ≡ bytes = cc in
    absurd (let q : compound_delimiter 60 (get_or (61 ∷ behind) 0 0) ≡ None = ap (λ (c : ℕ). compound_delimiter c (get_or (61 ∷ behind) 0 0)) first ∙ ap (λ (us : List ℕ). compound_delimiter b (get_or us 0 0)) rest ∙ none in cc)
at_most_one k b bytes behind other e none = absurd (let q : Other ≡ Letter = sym other ∙ ap class_at_front e in cc)

-- what is spelled by one byte is found by it
pub simple_found : (k : Kind) (b : ℕ) → class_of b ≡ Other → spelling k ≡ b ∷ [] → simple_delimiter b ≡ Some k
unfolding class_of simple_delimiter
simple_found Abs b other e = absurd cc
simple_found Identifier b other e = absurd cc
simple_found Number b other e = absurd cc
simple_found String b other e = absurd cc
simple_found Finish b other e = absurd cc
simple_found Arrow b other e = absurd cc
simple_found DoubleDot b other e = absurd cc
simple_found Becomes b other e = absurd cc
simple_found NotEqual b other e = absurd cc
simple_found GreaterEqual b other e = absurd cc
simple_found LessEqual b other e = absurd cc
simple_found Ampersand b other e = let is : 38 ≡ b = cc in sym (ap simple_delimiter is)
simple_found Apostrophe b other e = let is : 39 ≡ b = cc in sym (ap simple_delimiter is)
simple_found LeftParenthesis b other e = let is : 40 ≡ b = cc in sym (ap simple_delimiter is)
simple_found RightParenthesis b other e = let is : 41 ≡ b = cc in sym (ap simple_delimiter is)
simple_found Star b other e = let is : 42 ≡ b = cc in sym (ap simple_delimiter is)
simple_found Plus b other e = let is : 43 ≡ b = cc in sym (ap simple_delimiter is)
simple_found Comma b other e = let is : 44 ≡ b = cc in sym (ap simple_delimiter is)
simple_found Minus b other e = let is : 45 ≡ b = cc in sym (ap simple_delimiter is)
simple_found Dot b other e = let is : 46 ≡ b = cc in sym (ap simple_delimiter is)
simple_found Slash b other e = let is : 47 ≡ b = cc in sym (ap simple_delimiter is)
simple_found Colon b other e = let is : 58 ≡ b = cc in sym (ap simple_delimiter is)
simple_found Semicolon b other e = let is : 59 ≡ b = cc in sym (ap simple_delimiter is)
simple_found Less b other e = let is : 60 ≡ b = cc in sym (ap simple_delimiter is)
simple_found Equal b other e = let is : 61 ≡ b = cc in sym (ap simple_delimiter is)
simple_found Greater b other e = let is : 62 ≡ b = cc in sym (ap simple_delimiter is)
simple_found Bar b other e = let is : 124 ≡ b = cc in sym (ap simple_delimiter is)
simple_found k b other e = absurd (let q : Letter ≡ Other = ap class_at_front e ∙ other in cc)

-- what is spelled by two bytes is found by them
pub compound_found : (k : Kind) (b c : ℕ) → class_of b ≡ Other → spelling k ≡ b ∷ c ∷ [] → compound_delimiter b c ≡ Some k
unfolding class_of compound_delimiter
compound_found Abs b c other e = absurd cc
compound_found Identifier b c other e = absurd cc
compound_found Number b c other e = absurd cc
compound_found String b c other e = absurd cc
compound_found Finish b c other e = absurd cc
compound_found Ampersand b c other e = absurd cc
compound_found Apostrophe b c other e = absurd cc
compound_found LeftParenthesis b c other e = absurd cc
compound_found RightParenthesis b c other e = absurd cc
compound_found Star b c other e = absurd cc
compound_found Plus b c other e = absurd cc
compound_found Comma b c other e = absurd cc
compound_found Minus b c other e = absurd cc
compound_found Dot b c other e = absurd cc
compound_found Slash b c other e = absurd cc
compound_found Colon b c other e = absurd cc
compound_found Semicolon b c other e = absurd cc
compound_found Less b c other e = absurd cc
compound_found Equal b c other e = absurd cc
compound_found Greater b c other e = absurd cc
compound_found Bar b c other e = absurd cc
compound_found Arrow b c other e = let first : 61 ≡ b = cc in let second : 62 ≡ c = cc in sym (ap (λ (x : ℕ). compound_delimiter x 62) first ∙ ap (compound_delimiter b) second)
compound_found DoubleDot b c other e = let first : 46 ≡ b = cc in let second : 46 ≡ c = cc in sym (ap (λ (x : ℕ). compound_delimiter x 46) first ∙ ap (compound_delimiter b) second)
compound_found Becomes b c other e = let first : 58 ≡ b = cc in let second : 61 ≡ c = cc in sym (ap (λ (x : ℕ). compound_delimiter x 61) first ∙ ap (compound_delimiter b) second)
compound_found NotEqual b c other e = let first : 47 ≡ b = cc in let second : 61 ≡ c = cc in sym (ap (λ (x : ℕ). compound_delimiter x 61) first ∙ ap (compound_delimiter b) second)
compound_found GreaterEqual b c other e = let first : 62 ≡ b = cc in let second : 61 ≡ c = cc in sym (ap (λ (x : ℕ). compound_delimiter x 61) first ∙ ap (compound_delimiter b) second)
compound_found LessEqual b c other e = let first : 60 ≡ b = cc in let second : 61 ≡ c = cc in sym (ap (λ (x : ℕ). compound_delimiter x 61) first ∙ ap (compound_delimiter b) second)
compound_found k b c other e = absurd (let q : Letter ≡ Other = ap class_at_front e ∙ other in cc)
