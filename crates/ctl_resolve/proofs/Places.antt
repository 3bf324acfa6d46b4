-- What one more declaration, one less and another stage do to the last places, and how what is sought is found along them.
use Rattle.std.proofs.Common.{◌≡◌, ℕ, zero, suc, ◌+◌, ◌<◌, ◌≤◌, Bool, true, false, cond, ◌⊎◌, inl, inr, List, [], ◌∷◌, ◌++◌, length, length-append, take, refl, sym, ap, subst, ◌∙◌, arith, Vec, Option, Some, None}
use Rattle.std.specs.Prelude.{◌&&◌, slice_set, slice_index, slice_index_or, unwrap_or}
use Rattle.std.specs.declared.alloc.Global.{Global}
use Rattle.std.specs.Str.{bytes_eq}
use Rattle.std.specs.HashMap.{HashMap, UpdatesBy}
use Rattle.std.specs.Map.{KeepsOthers}
use Rattle.std.specs.Cmp.Lexicographic.{bytes_decides, nat_list_eq_equiv}
use Rattle.std.proofs.Math.Nat.{eq-or-lt_of_le}
use Rattle.std.proofs.Math.ListN.{get_or-append}
use Rattle.std.proofs.Math.Seq.{get_or-append_seam, take-append_seam}
use Rattle.std.proofs.lemmas.List.{take-append-le}
use Rattle.std.proofs.lemmas.Bool.{cases_Bool, cond-true, cond-false}
use Rattle.ctl_resolve.specs.declared.view.Stage.{Stage}
use Rattle.ctl_resolve.specs.declared.view.Sought.{Sought}
use Rattle.ctl_resolve.specs.declared.view.Sought.TheVariants.{Direct}
use Rattle.ctl_resolve.specs.declared.view.Known.{Known}
use Rattle.ctl_resolve.specs.declared.view.Declaration.{Declaration}
use Rattle.ctl_resolve.specs.Table.{with_stage_at, passes, is_found, known_at, found_from, find}
use Rattle.ctl_resolve.specs.Places.{place_or_none, places_of, place_from, last_place, IsIndexed}

-- ---- the last place

place_from-append : (k f : ℕ) (ds : List Declaration) (d : Declaration) (n : List ℕ) → place_from k f (ds ++ d ∷ []) n ≡ cond (bytes_eq n d.key) (k + length ds + 1) (place_from k f ds n)
place_from-append k f [] d n = let z : k + 1 ≡ k + 0 + 1 = omega arith in ap (λ x. cond (bytes_eq n d.key) x f) z
place_from-append k f (x ∷ ds) d n =
    let z : k + 1 + length ds + 1 ≡ k + length (x ∷ ds) + 1 = omega arith in
    let g = cond (bytes_eq n x.key) (k + 1) f in
    place_from-append (k + 1) g ds d n ∙ ap (λ y. cond (bytes_eq n d.key) y (place_from (k + 1) g ds n)) z

pub last_place_append : (ds : List Declaration) (d : Declaration) (n : List ℕ) → last_place (ds ++ d ∷ []) n ≡ cond (bytes_eq n d.key) (length ds + 1) (last_place ds n)
last_place_append ds d n = let z : 0 + length ds + 1 ≡ length ds + 1 = omega arith in place_from-append 0 0 ds d n ∙ ap (λ x. cond (bytes_eq n d.key) x (last_place ds n)) z

-- ---- the table of keys

apart : (bs cs ks : List ℕ) → bytes_eq bs cs ≡ false → bytes_eq bs ks ≡ true → bytes_eq cs ks ≡ false
apart bs cs ks n y = nat_list_eq_equiv.symm cs ks ∙ sym (nat_list_eq_equiv.congr bs ks cs y) ∙ n

abbrev is_key : List ℕ → Vec ℕ Global → Bool
is_key bs k = bytes_eq bs k.items

kept_others : {S : Type 0} (bs cs : List ℕ) (m n : HashMap (Vec ℕ Global) ℕ S) → KeepsOthers (λ (x : Vec ℕ Global) (y : Vec ℕ Global). bytes_eq x.items y.items) (is_key bs) m.entries n.entries → bytes_eq bs cs ≡ false → places_of n cs ≡ places_of m cs
unfolding KeepsOthers
kept_others bs cs m n h e = ap place_or_none (h (is_key cs) (λ x y. nat_list_eq_equiv.congr cs x.items y.items) (λ k. apart bs cs k.items e))

-- after a place was put under a key, that key has it and the others have theirs
pub places_put : {S : Type 0} (bs : List ℕ) (m n : HashMap (Vec ℕ Global) ℕ S) (p : ℕ) → UpdatesBy (λ (x : Vec ℕ Global) (y : Vec ℕ Global). bytes_eq x.items y.items) (is_key bs) m n (Some p) → (cs : List ℕ) → places_of n cs ≡ cond (bytes_eq cs bs) p (places_of m cs)
places_put bs m n p h cs = elim (cases_Bool (bytes_eq bs cs)) [
  | inl y ↦ let same : cs ≡ bs = sym ((bytes_decides bs cs).0 y) in
      subst (λ (x : List ℕ). places_of n x ≡ cond (bytes_eq x bs) p (places_of m x)) (sym same) (ap place_or_none h.1 ∙ sym (cond-true (bytes_eq bs bs) p (places_of m bs) ((bytes_decides bs bs).1 refl)))
  | inr e ↦ kept_others bs cs m n h.3 e ∙ sym (cond-false (bytes_eq cs bs) p (places_of m cs) (nat_list_eq_equiv.symm cs bs ∙ e))
]

pub place_is : (o : Option ℕ) → unwrap_or o 0 ≡ place_or_none o
place_is None = refl
place_is (Some p) = refl

pub bytes_same : (n : List ℕ) → bytes_eq n n ≡ true
bytes_same n = (bytes_decides n n).1 refl

-- ---- the tables

split : (k n : ℕ) → k < n + 1 → (k < n) ⊎ (k ≡ n)
split k n h = elim (eq-or-lt_of_le (let le : k ≤ n = omega arith in le)) [ inl e ↦ inr e | inr l ↦ inl l ]

module _ (ds : List Declaration) (hides : List ℕ) (d : Declaration) (hidden : ℕ) (count : length hides ≡ length ds) where
  -- what a declaration in front hides, and what the last one hides
  front_of : (k : ℕ) (x : Declaration) → k < length ds → last_place (take k (ds ++ d ∷ [])) (slice_index_or (ds ++ d ∷ []) k x).key ≡ last_place (take k ds) (slice_index_or ds k x).key
  front_of k x a =
      ap (λ xs. last_place xs (slice_index_or (ds ++ d ∷ []) k x).key) (take-append-le k ds (d ∷ []) (omega arith))
      ∙ ap (λ y. last_place (take k ds) y.key) (get_or-append ds (d ∷ []) x k a)

  seam_of : (k : ℕ) (x : Declaration) → k ≡ length ds → last_place (take k (ds ++ d ∷ [])) (slice_index_or (ds ++ d ∷ []) k x).key ≡ last_place ds d.key
  seam_of k x b =
      ap (λ j. last_place (take j (ds ++ d ∷ [])) (slice_index_or (ds ++ d ∷ []) j x).key) b
      ∙ ap (λ xs. last_place xs (slice_index_or (ds ++ d ∷ []) (length ds) x).key) (take-append_seam ds (d ∷ []))
      ∙ ap (λ y. last_place ds y.key) (get_or-append_seam ds d [] x)

  front_hides : (k : ℕ) → k < length ds → slice_index (hides ++ hidden ∷ []) k ≡ slice_index hides k
  front_hides k a = get_or-append hides (hidden ∷ []) 0 k (omega (arith, count))

  seam_hides : (k : ℕ) → k ≡ length ds → slice_index (hides ++ hidden ∷ []) k ≡ hidden
  seam_hides k b = ap (slice_index (hides ++ hidden ∷ [])) (b ∙ sym count) ∙ get_or-append_seam hides hidden [] 0

module _ (ds : List Declaration) (hides : List ℕ) (d : Declaration) (hidden : ℕ) where
  pub indexed_push : (old new : List ℕ → ℕ) (p : ℕ) → IsIndexed ds hides old → hidden ≡ old d.key → p ≡ length ds + 1 → ((n : List ℕ) → new n ≡ cond (bytes_eq n d.key) p (old n)) → IsIndexed (ds ++ d ∷ []) (hides ++ hidden ∷ []) new
  indexed_push old new p h hid at put = record {
    count = length-append hides (hidden ∷ []) ∙ ap (λ n. n + 1) h.count ∙ sym (length-append ds (d ∷ []));
    newest = λ n. put n ∙ ap (λ x. cond (bytes_eq n d.key) x (old n)) at ∙ ap (λ x. cond (bytes_eq n d.key) (length ds + 1) x) (h.newest n) ∙ sym (last_place_append ds d n);
    hidden = λ k x lt. elim (split k (length ds) (omega (arith, lt, length-append ds (d ∷ [])))) [
      | inl a ↦ front_hides ds hides d hidden h.count k a ∙ h.hidden k x a ∙ sym (front_of ds hides d hidden h.count k x a)
      | inr b ↦ seam_hides ds hides d hidden h.count k b ∙ hid ∙ h.newest d.key ∙ sym (seam_of ds hides d hidden h.count k x b)
    ];
  }

  chosen : (b : Bool) (m n : ℕ) (q : ℕ) → (b ≡ true → m ≡ q) → cond b m (cond b n q) ≡ q
  chosen true m n q e = e refl
  chosen false m n q e = refl

  pub indexed_pop : (old new : List ℕ → ℕ) → IsIndexed (ds ++ d ∷ []) (hides ++ hidden ∷ []) old → ((n : List ℕ) → new n ≡ cond (bytes_eq n d.key) hidden (old n)) → IsIndexed ds hides new
  indexed_pop old new h put =
      let long : length (ds ++ d ∷ []) ≡ length ds + 1 = length-append ds (d ∷ []) in
      let same : length hides ≡ length ds = omega (arith, h.count, long, length-append hides (hidden ∷ [])) in
      let last : hidden ≡ last_place ds d.key = sym (seam_hides ds hides d hidden same (length ds) refl) ∙ h.hidden (length ds) d (omega (arith, long)) ∙ seam_of ds hides d hidden same (length ds) d refl in
      record {
        count = same;
        newest = λ n.
            put n ∙ ap (cond (bytes_eq n d.key) hidden) (h.newest n ∙ last_place_append ds d n)
            ∙ chosen (bytes_eq n d.key) hidden (length ds + 1) (last_place ds n) (λ e. last ∙ ap (last_place ds) (sym ((bytes_decides n d.key).0 e)));
        hidden = λ k x a. sym (front_hides ds hides d hidden same k a) ∙ h.hidden k x (omega (arith, long)) ∙ front_of ds hides d hidden same k x a;
      }

-- ---- another stage

pub length_with_stage : (ds : List Declaration) (p : ℕ) (e : Stage) → length (with_stage_at ds p e) ≡ length ds
length_with_stage [] p e = refl
length_with_stage (d ∷ ds) zero e = refl
length_with_stage (d ∷ ds) (suc p) e = ap suc (length_with_stage ds p e)

place_with_stage : (k f : ℕ) (ds : List Declaration) (p : ℕ) (e : Stage) (n : List ℕ) → place_from k f (with_stage_at ds p e) n ≡ place_from k f ds n
place_with_stage k f [] p e n = refl
place_with_stage k f (d ∷ ds) zero e n = refl
place_with_stage k f (d ∷ ds) (suc p) e n = place_with_stage (k + 1) (cond (bytes_eq n d.key) (k + 1) f) ds p e n

take_with_stage : (k : ℕ) (ds : List Declaration) (p : ℕ) (e : Stage) (n : List ℕ) → last_place (take k (with_stage_at ds p e)) n ≡ last_place (take k ds) n
take_with_stage k ds p e n = taken k 0 0 ds p
  where
    taken : (k i f : ℕ) (ds : List Declaration) (p : ℕ) → place_from i f (take k (with_stage_at ds p e)) n ≡ place_from i f (take k ds) n
    taken zero i f ds p = refl
    taken (suc k) i f [] p = refl
    taken (suc k) i f (d ∷ ds) zero = refl
    taken (suc k) i f (d ∷ ds) (suc p) = taken k (i + 1) (cond (bytes_eq n d.key) (i + 1) f) ds p

name_with_stage : (ds : List Declaration) (k p : ℕ) (e : Stage) (x : Declaration) → (slice_index_or (with_stage_at ds p e) k x).key ≡ (slice_index_or ds k x).key
name_with_stage [] k p e x = refl
name_with_stage (d ∷ ds) zero zero e x = refl
name_with_stage (d ∷ ds) (suc k) zero e x = refl
name_with_stage (d ∷ ds) zero (suc p) e x = refl
name_with_stage (d ∷ ds) (suc k) (suc p) e x = name_with_stage ds k p e x

pub indexed_with_stage : (ds : List Declaration) (hides : List ℕ) (places : List ℕ → ℕ) (p : ℕ) (e : Stage) → IsIndexed ds hides places → IsIndexed (with_stage_at ds p e) hides places
indexed_with_stage ds hides places p e h = record {
  count = h.count ∙ sym (length_with_stage ds p e);
  newest = λ n. h.newest n ∙ sym (place_with_stage 0 0 ds p e n);
  hidden = λ k x a.
      h.hidden k x (omega (arith, length_with_stage ds p e))
      ∙ ap (last_place (take k ds)) (sym (name_with_stage ds k p e x))
      ∙ sym (take_with_stage k ds p e (slice_index_or (with_stage_at ds p e) k x).key);
}

-- writing a declaration of the other stage at its place
pub set_with_stage : (ds : List Declaration) (p : ℕ) (e : Stage) (x : Declaration) → slice_set ds p (record (slice_index_or ds p x) { stage = e }) ≡ with_stage_at ds p e
set_with_stage [] p e x = refl
set_with_stage (d ∷ ds) zero e x = refl
set_with_stage (d ∷ ds) (suc p) e x = ap (λ xs. d ∷ xs) (set_with_stage ds p e x)

pub past_the_end : (ds : List Declaration) (p : ℕ) (e : Stage) → length ds ≤ p → with_stage_at ds p e ≡ ds
past_the_end [] p e h = refl
past_the_end (d ∷ ds) zero e h = absurd (omega (arith, h))
past_the_end (d ∷ ds) (suc p) e h = ap (λ xs. d ∷ xs) (past_the_end ds p e (omega (arith, h)))

-- ---- along the places

found_append : (s : Sought) (n : List ℕ) (k : ℕ) (f : Option Known) (ds : List Declaration) (d : Declaration) → found_from s n k f (ds ++ d ∷ []) ≡ cond (is_found s n d) (Some (known_at (k + length ds) d)) (found_from s n k f ds)
found_append s n k f [] d = let z : k ≡ k + 0 = omega arith in ap (λ x. cond (is_found s n d) (Some (known_at x d)) f) z
found_append s n k f (x ∷ ds) d =
    let z : k + 1 + length ds ≡ k + length (x ∷ ds) = omega arith in
    let g = cond (is_found s n x) (Some (known_at k x)) f in
    found_append s n (k + 1) g ds d ∙ ap (λ y. cond (is_found s n d) (Some (known_at y d)) (found_from s n (k + 1) g ds)) z

find_append : (s : Sought) (n : List ℕ) (ds : List Declaration) (d : Declaration) → find s n (ds ++ d ∷ []) ≡ cond (is_found s n d) (Some (known_at (length ds) d)) (find s n ds)
find_append s n ds d = let z : 0 + length ds ≡ length ds = omega arith in found_append s n 0 None ds d ∙ ap (λ y. cond (is_found s n d) (Some (known_at y d)) (find s n ds)) z

-- one more of the first declarations
one_more : (ds : List Declaration) (k : ℕ) (x : Declaration) → k < length ds → take (suc k) ds ≡ take k ds ++ slice_index_or ds k x ∷ []
one_more [] k x h = absurd (omega (arith, h))
one_more (d ∷ ds) zero x h = refl
one_more (d ∷ ds) (suc k) x h = ap (λ xs. d ∷ xs) (one_more ds k x (omega (arith, h)))

so_many : (ds : List Declaration) (k : ℕ) → k ≤ length ds → length (take k ds) ≡ k
so_many ds zero h = refl
so_many [] (suc k) h = absurd (omega (arith, h))
so_many (d ∷ ds) (suc k) h = ap suc (so_many ds k (omega (arith, h)))

place_more : (ds : List Declaration) (n : List ℕ) (k : ℕ) (x : Declaration) → k < length ds → last_place (take (suc k) ds) n ≡ cond (bytes_eq n (slice_index_or ds k x).key) (suc k) (last_place (take k ds) n)
place_more ds n k x h =
    let z : length (take k ds) + 1 ≡ suc k = omega (arith, so_many ds k (omega (arith, h))) in
    ap (λ xs. last_place xs n) (one_more ds k x h) ∙ last_place_append (take k ds) (slice_index_or ds k x) n
    ∙ ap (λ y. cond (bytes_eq n (slice_index_or ds k x).key) y (last_place (take k ds) n)) z

find_more : (ds : List Declaration) (s : Sought) (n : List ℕ) (k : ℕ) (x : Declaration) → k < length ds → find s n (take (suc k) ds) ≡ cond (is_found s n (slice_index_or ds k x)) (Some (known_at k (slice_index_or ds k x))) (find s n (take k ds))
find_more ds s n k x h =
    ap (find s n) (one_more ds k x h) ∙ find_append s n (take k ds) (slice_index_or ds k x)
    ∙ ap (λ y. cond (is_found s n (slice_index_or ds k x)) (Some (known_at y (slice_index_or ds k x))) (find s n (take k ds))) (so_many ds k (omega (arith, h)))

-- What is sought among the first k declarations is found among the first q.
pub record Leads (ds : List Declaration) (s : Sought) (n : List ℕ) (k q : ℕ) : Type 0 where
  pub within : q ≤ k
  pub last : last_place (take q ds) n ≡ q
  pub same : find s n (take q ds) ≡ find s n (take k ds)

not_found : (s : Sought) (n : List ℕ) (d : Declaration) → bytes_eq n d.key ≡ false → is_found s n d ≡ false
not_found s n d e = ap (λ b. b && passes s d) e

leads_more : (ds : List Declaration) (s : Sought) (n : List ℕ) (k : ℕ) (x : Declaration) → k < length ds → Leads ds s n k (last_place (take k ds) n) → Leads ds s n (suc k) (last_place (take (suc k) ds) n)
leads_more ds s n k x h before = elim (cases_Bool (bytes_eq n (slice_index_or ds k x).key)) [
  | inl y ↦
      let at : last_place (take (suc k) ds) n ≡ suc k = place_more ds n k x h ∙ cond-true _ _ _ y in
      subst (λ q. Leads ds s n (suc k) q) (sym at) (record { within = omega arith; last = at; same = refl })
  | inr e ↦
      let at : last_place (take (suc k) ds) n ≡ last_place (take k ds) n = place_more ds n k x h ∙ cond-false _ _ _ e in
      subst (λ q. Leads ds s n (suc k) q) (sym at) (record {
        within = omega (arith, before.within);
        last = before.last;
        same = before.same ∙ sym (find_more ds s n k x h ∙ cond-false _ _ _ (not_found s n (slice_index_or ds k x) e));
      })
]

nth : (ds : List Declaration) (k : ℕ) → k < length ds → Declaration
nth [] k h = absurd (omega (arith, h))
nth (d ∷ ds) k h = d

pub leads : (ds : List Declaration) (s : Sought) (n : List ℕ) (k : ℕ) → k ≤ length ds → Leads ds s n k (last_place (take k ds) n)
leads ds s n zero h = record { within = omega arith; last = refl; same = refl }
leads ds s n (suc k) h = leads_more ds s n k (nth ds k (omega (arith, h))) (omega (arith, h)) (leads ds s n k (omega (arith, h)))

-- the declaration at a last place has the key
pub key_at : (ds : List Declaration) (s : Sought) (n : List ℕ) (k : ℕ) (x : Declaration) → k < length ds → last_place (take (suc k) ds) n ≡ suc k → bytes_eq n (slice_index_or ds k x).key ≡ true
key_at ds s n k x h at = elim (cases_Bool (bytes_eq n (slice_index_or ds k x).key)) [
  | inl y ↦ y
  | inr e ↦
      let before = leads ds s n k (omega (arith, h)) in
      let same : suc k ≡ last_place (take k ds) n = sym at ∙ place_more ds n k x h ∙ cond-false _ _ _ e in
      absurd (omega (arith, before.within, same))
]

-- it is what is sought
pub found_at : (ds : List Declaration) (s : Sought) (n : List ℕ) (k : ℕ) (x : Declaration) → k < length ds → last_place (take (suc k) ds) n ≡ suc k → passes s (slice_index_or ds k x) ≡ true → find s n (take (suc k) ds) ≡ Some (known_at k (slice_index_or ds k x))
found_at ds s n k x h at p = find_more ds s n k x h ∙ cond-true _ _ _ (ap (λ b. b && passes s (slice_index_or ds k x)) (key_at ds s n k x h at) ∙ p)

-- it is not, and the one of its key before it leads on
pub leads_on : (ds : List Declaration) (s : Sought) (n : List ℕ) (k : ℕ) (x : Declaration) → k < length ds → last_place (take (suc k) ds) n ≡ suc k → passes s (slice_index_or ds k x) ≡ false → Leads ds s n (suc k) (last_place (take k ds) (slice_index_or ds k x).key)
leads_on ds s n k x h at p =
    let y = key_at ds s n k x h at in
    let key : n ≡ (slice_index_or ds k x).key = (bytes_decides n (slice_index_or ds k x).key).0 y in
    let before = leads ds s n k (omega (arith, h)) in
    let missed : is_found s n (slice_index_or ds k x) ≡ false = ap (λ b. b && passes s (slice_index_or ds k x)) y ∙ p in
    subst (λ m. Leads ds s n (suc k) (last_place (take k ds) m)) key (record {
      within = omega (arith, before.within);
      last = before.last;
      same = before.same ∙ sym (find_more ds s n k x h ∙ cond-false _ _ _ missed);
    })

-- ---- along the whole table

take_all : (ds : List Declaration) → take (length ds) ds ≡ ds
take_all [] = refl
take_all (d ∷ ds) = ap (λ xs. d ∷ xs) (take_all ds)

pub leads_whole : (ds : List Declaration) (s : Sought) (n : List ℕ) (q : ℕ) → q ≡ last_place ds n → Leads ds s n (length ds) q
leads_whole ds s n q e =
    let whole : last_place (take (length ds) ds) n ≡ last_place ds n = ap (λ xs. last_place xs n) (take_all ds) in
    subst (λ p. Leads ds s n (length ds) p) (whole ∙ sym e) (leads ds s n (length ds) (omega arith))

-- what is sought stands at the place
pub found_here : (ds : List Declaration) (s : Sought) (n : List ℕ) (p k : ℕ) (d : Declaration) → Leads ds s n (length ds) p → p ≡ suc k → k < length ds → slice_index_or ds k d ≡ d → passes s d ≡ true → find s n ds ≡ Some (known_at k d)
found_here ds s n p k d h e lt at y =
    let last : last_place (take (suc k) ds) n ≡ suc k = subst (λ q. last_place (take q ds) n ≡ q) e h.last in
    let same : find s n (take (suc k) ds) ≡ find s n (take (length ds) ds) = subst (λ q. find s n (take q ds) ≡ find s n (take (length ds) ds)) e h.same in
    sym (ap (find s n) (take_all ds)) ∙ sym same ∙ found_at ds s n k d lt last (ap (passes s) at ∙ y) ∙ ap (λ x. Some (known_at k x)) at

-- it does not, and stands at a place before, if anywhere
pub leads_here : (ds : List Declaration) (s : Sought) (n : List ℕ) (p k : ℕ) (d : Declaration) (q : ℕ) → Leads ds s n (length ds) p → p ≡ suc k → k < length ds → slice_index_or ds k d ≡ d → passes s d ≡ false → q ≡ last_place (take k ds) (slice_index_or ds k d).key → Leads ds s n (length ds) q
leads_here ds s n p k d q h e lt at y hid =
    let last : last_place (take (suc k) ds) n ≡ suc k = subst (λ q. last_place (take q ds) n ≡ q) e h.last in
    let same : find s n (take (suc k) ds) ≡ find s n (take (length ds) ds) = subst (λ q. find s n (take q ds) ≡ find s n (take (length ds) ds)) e h.same in
    let before = leads_on ds s n k d lt last (ap (passes s) at ∙ y) in
    subst (λ m. Leads ds s n (length ds) m) (sym hid) (record { within = omega (arith, before.within, lt); last = before.last; same = before.same ∙ same })

pub place_before : (ds : List Declaration) (n : List ℕ) (k : ℕ) → k < length ds → last_place (take k ds) n ≤ k
place_before ds n k lt = (leads ds Direct n k (omega (arith, lt))).within

-- no place is left
pub found_nowhere : (ds : List Declaration) (s : Sought) (n : List ℕ) (p : ℕ) → Leads ds s n (length ds) p → p ≡ 0 → find s n ds ≡ None
found_nowhere ds s n p h e = sym (ap (find s n) (take_all ds)) ∙ sym h.same ∙ ap (λ q. find s n (take q ds)) e
