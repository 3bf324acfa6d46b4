-- A run of words, and the region that it leaves or comes back to. Assumes `Logic`.
use Rattle.std.proofs.Common.{◌≡◌, ℕ, zero, suc, ◌+◌, ◌*◌, ◌-◌, ◌<◌, ◌≤◌, List, [], ◌∷◌, length, map, Option, None, Some, refl, sym, ap, ◌∙◌, subst, arith, take, drop}
use mathlib.Core.Logic.{◌⊎◌, inl, inr}
use seplogic.Ra.Ura.{Ura}
use base.Fraction.{full_share}
use base.Logic.{ent, sep, ex, guard, emp, never, never_e, via, id⊢, apply∗}
use base.Fml.{GName, ftrue, fsep, feq, fwand}
use types.Logic.{Logic, sem}
use types.Kit.{‵, raw, ◌⊛◌, given, some, later, ◌$◌, ◌∵◌, !, qed, by, move, keep, use0, use1, use2, use3, split, join, fsplit, fjoin, feq_i, learn, check, assume, rewrite, await, updating, pick, now, show, done}
use types.Kit as kit
use types.Share.{parts}
use types.Keyed.{token, ticket, ticket_once, tickets_from, entries_new, entries_take}
use types.Owned.{basic}
use denote.ArrayMemory.{Array-apart, Array-whole}
use denote.Builtin.{u64}
use denote.Memory.{mem, shares}
use denote.RawPtr.{Ptr, block_ptr, null_ptr, block_of, count_of, InBlock, at_block}
use denote.Steps.{nothing}
use Rattle.raw_region.specs.Places.{Home, Places, place, word_or_zero, out, with_run, words_at, held, AreHeld, AreOut}
use Rattle.raw_region.specs.Ownership.{span, word_lies, place_owns, places_own, tickets, run_at}
use Rattle.raw_region.proofs.PlaceLemmas.{the_word, run, run_long, in_run, length-out, length-held, length-with_run, with_run-inside, with_run-outside, held_after, held_some}
use Rattle.raw_region.proofs.Spans.{Gives, Tells, Same, span_sum, span_tells, span_gives, span_of_none, span_pair}

-- f of each of the n numbers from k on
abbrev pub listed : (ℕ → ℕ) → ℕ → ℕ → List ℕ
listed f k zero = []
listed f k (suc n) = f k ∷ listed f (suc k) n

pub length-listed : (f : ℕ → ℕ) (k n : ℕ) → length (listed f k n) ≡ n
length-listed f k zero = refl
length-listed f k (suc n) = ap suc (length-listed f (suc k) n)

-- the word that a place holds
abbrev pub word_of : Places → ℕ → ℕ
word_of ps k = word_or_zero (place ps k)

-- places that hold cs from k on have the words of cs
listed_is : (ps cs : Places) (k n : ℕ) → length cs ≡ n → ((j : ℕ) → j < n → place ps (k + j) ≡ place cs j) → map word_or_zero cs ≡ listed (word_of ps) k n
listed_is ps [] k zero long same = refl
listed_is ps [] k (suc n) long same = let no : ◌≡◌ {A = ℕ} 0 (suc n) = long in absurd (omega arith)
listed_is ps (c ∷ cs) k zero long same = let no : suc (length cs) ≡ 0 = long in absurd (omega arith)
listed_is ps (c ∷ cs) k (suc n) long same =
    let long' : suc (length cs) ≡ suc n = long in
    let here : k ≡ k + 0 = omega arith in
    let first : word_of ps k ≡ word_or_zero c = ap (word_of ps) here ∙ ap word_or_zero (same 0 (omega arith)) in
    let others = listed_is ps cs (suc k) n (omega arith) (λ j lt. let next : suc k + j ≡ k + suc j = omega arith in ap (place ps) next ∙ same (suc j) (omega arith)) in
    λ i. sym first i ∷ others i

pub words_listed : (ps : Places) (a n : ℕ) → a + n ≤ length ps → words_at ps a n ≡ listed (word_of ps) a n
words_listed ps a n fits =
    let size : n ≡ a + n - a = omega arith in
    subst (λ m. map word_or_zero (take m (drop a ps)) ≡ listed (word_of ps) a n) size
    (listed_is ps (run ps a n) a n (run_long ps a n fits) (λ j lt. sym (in_run ps a n j None lt)))

-- words put into places are there
words_held : (ws : List ℕ) → map word_or_zero (held ws) ≡ ws
words_held [] = refl
words_held (w ∷ ws) = ap (λ (xs : List ℕ). w ∷ xs) (words_held ws)

pub put_listed : (ps : Places) (a : ℕ) (ws : List ℕ) → a + length ws ≤ length ps → ws ≡ listed (word_of (with_run ps a (held ws))) a (length ws)
put_listed ps a ws fits =
    let long = length-held ws in
    sym (words_held ws) ∙ listed_is (with_run ps a (held ws)) (held ws) a (length ws) long (λ j lt.
    let back : a + j - a ≡ j = omega arith in
    with_run-inside ps a (held ws) (a + j) (omega arith) (omega arith) (omega arith) ∙ ap (place (held ws)) back)

module _ {M : Type 1} {𝓤 : Ura M} (𝓛 : Logic 𝓤) where
  open 𝓛 use {H}

  -- words in a row are the words of their numbers
  words_apart : (h : Home) (f : ℕ → ℕ) (k n : ℕ)
      → Same 𝓛 (parts (mem u64) (shares u64) full_share (listed f k n) (block_of h.at) (count_of h.at + k * 8)) (span (λ j. word_lies h j (f j)) k n)
  words_apart h f k zero = (id⊢ 𝓤 (emp 𝓤), id⊢ 𝓤 (emp 𝓤))
  words_apart h f k (suc n) =
      let b = block_of h.at in let o = count_of h.at in
      let Words = λ (xs : List ℕ) (i : ℕ). parts (mem u64) (shares u64) full_share xs b i in
      let next : o + k * 8 + 8 ≡ o + suc k * 8 = omega arith in
      let rest = words_apart h f (suc k) n in (
        qed 𝓛 (‵ (Words (listed f k (suc n)) (o + k * 8)) ∷ []) ∵ fsplit ! $ move ! (1 ∷ []) $ rewrite ! 0 (λ i. ‵ (Words (listed f (suc k) n) i)) next refl $
            use1 𝓛 (‵ (span (λ j. word_lies h j (f j)) (suc k) n)) rest.0 $ move ! (1 ∷ 0 ∷ []) $ fjoin ! $ done !,
        qed 𝓛 (‵ (span (λ j. word_lies h j (f j)) k (suc n)) ∷ []) ∵ fsplit ! $ move ! (1 ∷ []) $
            use1 𝓛 (‵ (Words (listed f (suc k) n) (o + suc k * 8))) rest.1 $ rewrite ! 0 (λ i. ‵ (Words (listed f (suc k) n) i)) (sym next) refl $
            move ! (1 ∷ 0 ∷ []) $ fjoin ! $ done !,
      )

  -- where the place k lies, as an address that can be computed with
  abbrev pub spot : Home → ℕ → Ptr
  spot h k = block_ptr (block_of h.at) (count_of h.at + k * 8)

  -- a run of words is a list of them
  pub run_is_list : (h : Home) (f : ℕ → ℕ) (k n : ℕ) → Same 𝓛 (run_at (spot h k) (listed f k n)) (span (λ j. word_lies h j (f j)) k n)
  run_is_list h f k n =
      let b = block_of h.at in let o = count_of h.at + k * 8 in let ws = listed f k n in
      let Words = parts (mem u64) (shares u64) full_share ws b o in
      let each = words_apart h f k n in (
        qed 𝓛 (‵ (run_at (spot h k) ws) ∷ []) ∵ use1 𝓛 (‵ (fsep (feq ℕ (length ws) (length ws)) Words)) (Array-apart 𝓛 u64 full_share tt (length ws) ws b o) $
            fsplit ! $ kit.drop ! $ use1 𝓛 (‵ (span (λ j. word_lies h j (f j)) k n)) each.0 $ done !,
        qed 𝓛 (‵ (span (λ j. word_lies h j (f j)) k n) ∷ []) ∵ use1 𝓛 (‵ Words) each.1 $ feq_i ! ℕ (length ws) (length ws) refl $ fjoin ! $
            use1 𝓛 (‵ (run_at (spot h k) ws)) (Array-whole 𝓛 u64 full_share (length ws) ws b o) $ done !,
      )

  -- places that hold words are a run of them, and the tickets
  pub held_is_run : (h : Home) (ps : Places) (a n : ℕ) → AreHeld ps a n → Same 𝓛 (places_own h ps a n) (fsep (run_at (spot h a) (listed (word_of ps) a n)) (tickets h a n))
  held_is_run h ps a n there =
      let Word = λ (j : ℕ). word_lies h j (word_of ps j) in
      let Each = λ (j : ℕ). fsep (Word j) (ticket h.name j) in
      let Place = λ (j : ℕ). place_owns h j (place ps j) in
      let holds : (j : ℕ) → a ≤ j → j < a + n → place ps j ≡ Some (word_of ps j) = λ j lo hi. the_word (place ps j) (there j lo hi) in
      let apart = span_pair 𝓛 Word (ticket h.name) a n in
      let list = run_is_list h (word_of ps) a n in (
        qed 𝓛 (‵ (places_own h ps a n) ∷ []) ∵
            use1 𝓛 (‵ (span Each a n)) (span_gives 𝓛 Place Each a n (λ j lo hi. qed 𝓛 (‵ (Place j) ∷ []) ∵ rewrite ! 0 (λ c. ‵ (place_owns h j c)) (holds j lo hi) refl $ done !)) $
            use1 𝓛 (‵ (span Word a n) ⊛ ‵ (tickets h a n)) apart.0 $ split ! $ use1 𝓛 (‵ (run_at (spot h a) (listed (word_of ps) a n))) list.1 $ fjoin ! $ done !,
        qed 𝓛 (‵ (run_at (spot h a) (listed (word_of ps) a n)) ∷ ‵ (tickets h a n) ∷ []) ∵
            use1 𝓛 (‵ (span Word a n)) list.0 $ use2 𝓛 (‵ (span Each a n)) apart.1 $
            use1 𝓛 (‵ (places_own h ps a n)) (span_gives 𝓛 Each Place a n (λ j lo hi. qed 𝓛 (‵ (Each j) ∷ []) ∵ rewrite ! 0 (λ c. ‵ (place_owns h j c)) (sym (holds j lo hi)) refl $ done !)) $ done !,
      )

  -- a region lets go of n of its places, and is whole again with whatever comes back there
  focus : (h : Home) (ps qs : Places) (a n : ℕ) → a + n ≤ length ps → length qs ≡ length ps → ((j : ℕ) → (j < a) ⊎ (a + n ≤ j) → place qs j ≡ place ps j)
      → Gives 𝓛 (places_own h ps 0 (length ps)) (fsep (places_own h ps a n) (fwand (places_own h qs a n) (places_own h qs 0 (length qs))))
  focus h ps qs a n fits long same =
      let Ps = λ (j : ℕ). place_owns h j (place ps j) in
      let Qs = λ (j : ℕ). place_owns h j (place qs j) in
      let m = length ps - (a + n) in
      let total : length ps ≡ a + (n + m) = omega arith in
      let moved : (j : ℕ) → (j < a) ⊎ (a + n ≤ j) → Gives 𝓛 (Ps j) (Qs j) = λ j off. qed 𝓛 (‵ (Ps j) ∷ []) ∵ rewrite ! 0 (λ c. ‵ (place_owns h j c)) (sym (same j off)) refl $ done ! in
      let first : 0 + a ≡ a = omega arith in
      qed 𝓛 (‵ (places_own h ps 0 (length ps)) ∷ []) ∵
      use1 𝓛 (‵ (span Ps 0 a) ⊛ ‵ (span Ps a (n + m))) (span_sum 𝓛 Ps 0 a a (n + m) (length ps) (omega arith) total).0 $ split ! $
      use1 𝓛 (‵ (span Qs 0 a)) (span_gives 𝓛 Ps Qs 0 a (λ j lo hi. moved j (inl (omega arith)))) $ move ! (1 ∷ []) $
      use1 𝓛 (‵ (span Ps a n) ⊛ ‵ (span Ps (a + n) m)) (span_sum 𝓛 Ps a (a + n) n m (n + m) (omega arith) (omega arith)).0 $ split ! $ move ! (1 ∷ []) $
      use1 𝓛 (‵ (span Qs (a + n) m)) (span_gives 𝓛 Ps Qs (a + n) m (λ j lo hi. moved j (inr (omega arith)))) $
      -- [the places behind; the run; those before]
      move ! (1 ∷ []) $ kit.frame ! $ assume ! (‵ (span Qs a n)) $
      move ! (0 ∷ 1 ∷ []) $ use2 𝓛 (‵ (span Qs a (n + m))) (span_sum 𝓛 Qs a (a + n) n m (n + m) (omega arith) (omega arith)).1 $ move ! (1 ∷ 0 ∷ []) $
      use2 𝓛 (‵ (span Qs 0 (length qs))) (span_sum 𝓛 Qs 0 a a (n + m) (length qs) (omega arith) (omega arith)).1 $ done !

  -- a run of words leaves
  pub leaves : (h : Home) (ps : Places) (a n : ℕ) → a + n ≤ length ps → AreHeld ps a n
      → Gives 𝓛 (places_own h ps 0 (length ps))
      (fsep (run_at (spot h a) (words_at ps a n)) (fsep (tickets h a n) (places_own h (with_run ps a (out n)) 0 (length (with_run ps a (out n))))))
  leaves h ps a n fits there =
      let qs = with_run ps a (out n) in
      let long = length-out n in
      let Whole = places_own h qs 0 (length qs) in
      qed 𝓛 (‵ (places_own h ps 0 (length ps)) ∷ []) ∵
      use1 𝓛 (‵ (places_own h ps a n) ⊛ ‵ (fwand (places_own h qs a n) Whole))
      (focus h ps qs a n fits (length-with_run ps a (out n) (omega arith)) (λ j off. with_run-outside ps a (out n) j (omega arith) (outside off))) $ split ! $
      use1 𝓛 (‵ (run_at (spot h a) (listed (word_of ps) a n)) ⊛ ‵ (tickets h a n)) (held_is_run h ps a n there).0 $ split ! $
      rewrite ! 0 (λ ws. ‵ (run_at (spot h a) ws)) (sym (words_listed ps a n fits)) refl $ kit.frame ! $ kit.frame ! $
      use0 𝓛 (‵ (places_own h qs a n)) (span_of_none 𝓛 (λ j. place_owns h j (place qs j)) a n (λ j lo hi.
      qed 𝓛 [] ∵ nothing ! $ rewrite ! 0 (λ c. ‵ (place_owns h j c)) (sym (empty j lo hi)) refl $ done !)) $
      use2 𝓛 (‵ Whole) (apply∗ 𝓤 (sem 𝓛 (places_own h qs a n)) (sem 𝓛 Whole)) $ done !
    where
      outside : {j : ℕ} → (j < a) ⊎ (a + n ≤ j) → (j < a) ⊎ (a + length (out n) ≤ j)
      outside {j} off = subst (λ m. (j < a) ⊎ (a + m ≤ j)) (sym (length-out n)) off

      none_there : (m k : ℕ) → place (out m) k ≡ None
      none_there zero k = refl
      none_there (suc m) zero = refl
      none_there (suc m) (suc k) = none_there m k

      empty : (j : ℕ) → a ≤ j → j < a + n → place (with_run ps a (out n)) j ≡ None
      empty j lo hi = let long = length-out n in with_run-inside ps a (out n) j (omega arith) lo (omega arith) ∙ none_there n (j - a)

  -- two that have one place are a contradiction, so whoever brings a word finds its place empty
  meets : (h : Home) (k : ℕ) (c d : Option ℕ) → Tells 𝓛 (fsep (place_owns h k c) (place_owns h k (Some (word_or_zero d)))) (c ≡ None) (place_owns h k (Some (word_or_zero d)))
  meets h k None d = qed 𝓛 (‵ ftrue ∷ ‵ (place_owns h k (Some (word_or_zero d))) ∷ []) ∵ kit.drop ! $ check ! refl $ done !
  meets h k (Some x) d =
      qed 𝓛 (‵ (place_owns h k (Some x)) ∷ ‵ (place_owns h k (Some (word_or_zero d))) ∷ []) ∵ fsplit ! $ move ! (2 ∷ []) $ fsplit ! $ keep ! (1 ∷ 3 ∷ []) $
      by ! (via 𝓤 (never 𝓤) (ticket_once 𝓛 h.name k) (never_e 𝓤 _))

  -- a run of words comes back, to places that were out
  pub comes : (h : Home) (ps : Places) (a : ℕ) (ws : List ℕ) → a + length ws ≤ length ps
      → ent 𝓤 (sep 𝓤 (sem 𝓛 (places_own h ps 0 (length ps))) (sep 𝓤 (sem 𝓛 (run_at (spot h a) ws)) (sem 𝓛 (tickets h a (length ws)))))
      (guard 𝓤 (AreOut ps a (length ws)) (sem 𝓛 (places_own h (with_run ps a (held ws)) 0 (length (with_run ps a (held ws))))))
  comes h ps a ws fits =
      let n = length ws in
      let qs = with_run ps a (held ws) in
      let long = length-held ws in
      let there = held_after ps a ws fits in
      let Ps = λ (j : ℕ). place_owns h j (place ps j) in
      let Qs = λ (j : ℕ). place_owns h j (place qs j) in
      let Both = λ (j : ℕ). fsep (Ps j) (Qs j) in
      let Whole = places_own h qs 0 (length qs) in
      let clash : (j : ℕ) → a ≤ j → j < a + n → Tells 𝓛 (Both j) (place ps j ≡ None) (Qs j) = λ j lo hi.
      subst (λ (c : Option ℕ). Tells 𝓛 (fsep (Ps j) (place_owns h j c)) (place ps j ≡ None) (place_owns h j c)) (sym (the_word (place qs j) (there j lo hi))) (meets h j (place ps j) (place qs j)) in
      qed 𝓛 (‵ (places_own h ps 0 (length ps)) ∷ ‵ (run_at (spot h a) ws) ∷ ‵ (tickets h a n) ∷ []) ∵
      use1 𝓛 (‵ (places_own h ps a n) ⊛ ‵ (fwand (places_own h qs a n) Whole))
      (focus h ps qs a n fits (length-with_run ps a (held ws) (omega arith)) (λ j off. with_run-outside ps a (held ws) j (omega arith) (outside off))) $ split ! $
      -- [the places; the way back; the words; their tickets]
      move ! (2 ∷ []) $ rewrite ! 0 (λ xs. ‵ (run_at (spot h a) xs)) (put_listed ps a ws fits) refl $ move ! (0 ∷ 3 ∷ []) $
      use2 𝓛 (‵ (places_own h qs a n)) (held_is_run h qs a n there).1 $ move ! (1 ∷ 0 ∷ []) $
      use2 𝓛 (‵ (span Both a n)) (span_pair 𝓛 Ps Qs a n).1 $
      use1 𝓛 (given (AreOut ps a n) (‵ (span Qs a n))) (span_tells 𝓛 Both Qs (λ j. place ps j ≡ None) a n clash) $ learn ! (λ were. check ! were $
      use2 𝓛 (‵ Whole) (apply∗ 𝓤 (sem 𝓛 (places_own h qs a n)) (sem 𝓛 Whole)) $ done !)
    where
      outside : {j : ℕ} → (j < a) ⊎ (a + length ws ≤ j) → (j < a) ⊎ (a + length (held ws) ≤ j)
      outside {j} off = subst (λ m. (j < a) ⊎ (a + m ≤ j)) (sym (length-held ws)) off

  -- ---- a new region

  -- the first n tickets of those that are left
  first_of : (γ : GName) (k n : ℕ) → Gives 𝓛 (tickets_from γ k) (span (ticket γ) k n)
  first_of γ k zero = qed 𝓛 (‵ (tickets_from γ k) ∷ []) ∵ kit.drop ! $ nothing ! $ done !
  first_of γ k (suc n) =
      qed 𝓛 (‵ (tickets_from γ k) ∷ []) ∵ use1 𝓛 (‵ (ticket γ k) ⊛ ‵ (tickets_from γ (suc k))) (entries_take token 𝓛 γ k (λ _. tt)) $ split ! $
      move ! (1 ∷ []) $ use1 𝓛 (‵ (span (ticket γ) (suc k) n)) (first_of γ (suc k) n) $ move ! (1 ∷ 0 ∷ []) $ fjoin ! $ done !

  -- words that lie at p are a region of their own, under a name that nothing has had
  pub founded : (p : Ptr) (ws : List ℕ)
      → ent 𝓤 (sem 𝓛 (run_at p ws)) (H.⇛ (ex 𝓤 (λ (γ : GName). guard 𝓤 (InBlock p) (sem 𝓛 (places_own (record { name = γ; at = p; size = length ws }) (held ws) 0 (length (held ws)))))))
  founded null_ptr ws = never_e 𝓤 _
  founded (block_ptr b o) ws =
      let n = length ws in
      let home : GName → Home = λ γ. record { name = γ; at = block_ptr b o; size = n } in
      let here : o ≡ o + 0 * 8 = omega arith in
      let long = length-held ws in
      let all : AreHeld (held ws) 0 n = λ k lo hi. held_some ws k (omega arith) in
      let same : ws ≡ listed (word_of (held ws)) 0 n = sym (words_held ws) ∙ listed_is (held ws) (held ws) 0 n long (λ j lt. let sum : 0 + j ≡ j = omega arith in ap (place (held ws)) sum) in
      let Region = λ (γ : GName). places_own (home γ) (held ws) 0 (length (held ws)) in
      qed 𝓛 (‵ (run_at (block_ptr b o) ws) ∷ []) ∵ updating ! $
      use0 𝓛 (later (some (λ (γ : GName). ‵ (tickets_from γ 0)))) (via 𝓤 _ (entries_new token 𝓛 0 (λ _. tt)) (basic 𝓛 (ex 𝓤 (λ (γ : GName). sem 𝓛 (tickets_from γ 0))))) $ await ! tt $ pick ! (λ γ.
      use1 𝓛 (‵ (tickets (home γ) 0 n)) (first_of γ 0 n) $ move ! (1 ∷ []) $
      rewrite ! 0 (λ j. ‵ (run_at (block_ptr b j) ws)) here refl $ rewrite ! 0 (λ xs. ‵ (run_at (block_ptr b (o + 0 * 8)) xs)) same refl $
      use2 𝓛 (‵ (places_own (home γ) (held ws) 0 n)) (held_is_run (home γ) (held ws) 0 n all).1 $
      rewrite ! 0 (λ m. ‵ (places_own (home γ) (held ws) 0 m)) (sym long) refl $ now ! $
      show ! (λ (δ : GName). guard 𝓤 (InBlock (block_ptr b o)) (sem 𝓛 (Region δ))) γ $ check ! tt $ done !)

  -- and a region that nothing is out of is words where it began
  pub gathered : (h : Home) (p : Ptr) (ps : Places) (n : ℕ) → h.at ≡ p → InBlock p → length ps ≡ n → AreHeld ps 0 n
      → Gives 𝓛 (places_own h ps 0 (length ps)) (run_at p (words_at ps 0 n))
  gathered h p ps n is_at placed long there =
      let o = count_of h.at in
      let here : o + 0 * 8 ≡ o = omega arith in
      let spot_is : spot h 0 ≡ p = ap (λ j. block_ptr (block_of h.at) j) here ∙ ap (λ q. block_ptr (block_of q) (count_of q)) is_at ∙ sym (at_block p placed) in
      qed 𝓛 (‵ (places_own h ps 0 (length ps)) ∷ []) ∵ rewrite ! 0 (λ m. ‵ (places_own h ps 0 m)) long refl $
      use1 𝓛 (‵ (run_at (spot h 0) (listed (word_of ps) 0 n)) ⊛ ‵ (tickets h 0 n)) (held_is_run h ps 0 n there).0 $ split ! $ keep ! (0 ∷ []) $
      rewrite ! 0 (λ xs. ‵ (run_at (spot h 0) xs)) (sym (words_listed ps 0 n (omega arith))) refl $ rewrite ! 0 (λ q. ‵ (run_at q (words_at ps 0 n))) spot_is refl $ done !
