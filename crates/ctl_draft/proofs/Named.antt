-- A name is found by its key, and what one more name does to the keys.
use Rattle.std.proofs.Common.{◌≡◌, ℕ, Bool, true, false, inl, inr, List, [], ◌∷◌, ◌++◌, refl, sym, ap, subst, ◌∙◌, Vec}
use Rattle.std.specs.Prelude.{◌&&◌, ◌||◌, not}
use Rattle.std.specs.declared.alloc.Global.{Global}
use Rattle.std.specs.Str.{bytes_eq, str_to_ascii_lowercase}
use Rattle.std.specs.HashSet.{HashSet, UpdatesBy}
use Rattle.std.specs.Set.{KeepsOthers}
use Rattle.std.specs.Cmp.Lexicographic.{bytes_decides, nat_list_eq_equiv}
use Rattle.std.proofs.lemmas.Bool.{cases_Bool}
use Rattle.ctl_grammar.specs.Spelling.{same_letter, same_name}
use Rattle.ctl_draft.specs.Names.{is_name_among, is_key_among, has_key, IsKeyed}

same_key : (a b : List ℕ) → same_name a b ≡ bytes_eq (str_to_ascii_lowercase a) (str_to_ascii_lowercase b)
unfolding same_name same_letter
same_key [] [] = refl
same_key [] (y ∷ b) = refl
same_key (x ∷ a) [] = refl
same_key (x ∷ a) (y ∷ b) = ap (λ c. same_letter x y && c) (same_key a b)

pub among_by_key : (name : List ℕ) (names : List (List ℕ)) → is_name_among name names ≡ is_key_among (str_to_ascii_lowercase name) names
among_by_key name [] = refl
among_by_key name (n ∷ ns) = ap (λ b. b || is_name_among name ns) (same_key name n) ∙ ap (λ b. bytes_eq (str_to_ascii_lowercase name) (str_to_ascii_lowercase n) || b) (among_by_key name ns)

or_in_turn : (a b c : Bool) → (a || (b || c)) ≡ (b || (a || c))
or_in_turn true true c = refl
or_in_turn true false c = refl
or_in_turn false true c = refl
or_in_turn false false c = refl

among_more : (key : List ℕ) (names : List (List ℕ)) (name : List ℕ) → is_key_among key (names ++ name ∷ []) ≡ (bytes_eq key (str_to_ascii_lowercase name) || is_key_among key names)
among_more key [] name = refl
among_more key (n ∷ ns) name =
    ap (λ b. bytes_eq key (str_to_ascii_lowercase n) || b) (among_more key ns name)
    ∙ or_in_turn (bytes_eq key (str_to_ascii_lowercase n)) (bytes_eq key (str_to_ascii_lowercase name)) (is_key_among key ns)

-- ---- the set of keys

abbrev is_key : List ℕ → Vec ℕ Global → Bool
is_key bs k = bytes_eq bs k.items

apart : (bs cs ks : List ℕ) → bytes_eq bs cs ≡ false → bytes_eq bs ks ≡ true → bytes_eq cs ks ≡ false
apart bs cs ks n y = nat_list_eq_equiv.symm cs ks ∙ sym (nat_list_eq_equiv.congr bs ks cs y) ∙ n

kept_others : {S : Type 0} (bs cs : List ℕ) (m n : HashSet (Vec ℕ Global) S) → KeepsOthers (λ (x : Vec ℕ Global) (y : Vec ℕ Global). bytes_eq x.items y.items) (is_key bs) m.keys n.keys → bytes_eq bs cs ≡ false → has_key n cs ≡ has_key m cs
unfolding KeepsOthers
kept_others bs cs m n h e = h (is_key cs) (λ x y. nat_list_eq_equiv.congr cs x.items y.items) (λ k. apart bs cs k.items e)

-- after a key was put into the set, it is there, and the others are there that were
key_put : {S : Type 0} (bs : List ℕ) (m n : HashSet (Vec ℕ Global) S) → UpdatesBy (λ (x : Vec ℕ Global) (y : Vec ℕ Global). bytes_eq x.items y.items) (is_key bs) m n true → (cs : List ℕ) → has_key n cs ≡ (bytes_eq cs bs || has_key m cs)
key_put bs m n h cs = elim (cases_Bool (bytes_eq bs cs)) [
  | inl y ↦ let same : cs ≡ bs = sym ((bytes_decides bs cs).0 y) in
      subst (λ (x : List ℕ). has_key n x ≡ (bytes_eq x bs || has_key m x)) (sym same) (h.1 ∙ sym (ap (λ b. b || has_key m bs) ((bytes_decides bs bs).1 refl)))
  | inr e ↦ kept_others bs cs m n h.3 e ∙ sym (ap (λ b. b || has_key m cs) (nat_list_eq_equiv.symm cs bs ∙ e))
]

pub keyed_more : {S : Type 0} (names : List (List ℕ)) (name bs : List ℕ) (m n : HashSet (Vec ℕ Global) S) → bs ≡ str_to_ascii_lowercase name → IsKeyed names (has_key m) → UpdatesBy (λ (x : Vec ℕ Global) (y : Vec ℕ Global). bytes_eq x.items y.items) (is_key bs) m n true → IsKeyed (names ++ name ∷ []) (has_key n)
keyed_more names name bs m n e h put key =
    key_put bs m n put key
    ∙ ap (λ cs. bytes_eq key cs || has_key m key) e
    ∙ ap (λ b. bytes_eq key (str_to_ascii_lowercase name) || b) (h key)
    ∙ sym (among_more key names name)

pub not_twice : (b : Bool) → not (not b) ≡ b
not_twice true = refl
not_twice false = refl
