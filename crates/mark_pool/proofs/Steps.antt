-- That a pool with marks stands after each of its calls.
use Rattle.std.specs.Prelude.{All}
use Rattle.std.proofs.Common.{◌≡◌, ℕ, ◌+◌, ◌-◌, ◌<◌, ◌≤◌, List, [], ◌∷◌, ◌++◌, map, length, replicate, refl, sym, ap, subst, ◌∙◌, arith, IsSome}
use Rattle.std.proofs.lemmas.List.Elements.{All-nil, All-cons}
use lib.ListN.{length-replicate}
use mathlib.Core.Logic.{◌⊎◌, inl, inr, ⊎_elim}
use Rattle.raw_region.specs.Places.{Region, Places, place, held, out, with_run, AreHeld}
use Rattle.raw_region.proofs.PlaceLemmas.{order, length-held, length-out, held_some, held_after, length-with_run, with_run-outside}
use Rattle.mark_pool.specs.declared.pool.StandingMark.{StandingMark}
use Rattle.mark_pool.specs.Marks.{Stands, AreInOrder, back_at}

abbrev pub first_mark : StandingMark
first_mark = record { number = 0; start = 0; out_below = 0 }

order_high : (low high : ℕ) (ms : List StandingMark) → AreInOrder low ms high → low ≤ high
order_high low high [] o = o
order_high low high (m ∷ ms) o = let rest = order_high m.start high ms o.1 in omega (arith, o.0)

-- the marks up to a place lie before it
pub all_below : (low high : ℕ) (ms : List StandingMark) → AreInOrder low ms high → All (λ m. m.start ≤ high) ms
all_below low high [] o = All-nil (λ (m : StandingMark). m.start ≤ high)
all_below low high (m ∷ ms) o = All-cons (λ m. m.start ≤ high) m ms (order_high m.start high ms o.1) (all_below m.start high ms o.1)

order_push : (low high : ℕ) (ms : List StandingMark) (m : StandingMark) → AreInOrder low ms m.start → m.start ≤ high → AreInOrder low (ms ++ m ∷ []) high
order_push low high [] m o le = (o, le)
order_push low high (x ∷ xs) m o le = (o.0, order_push x.start high xs m o.1 le)

order_pop : (low high : ℕ) (ms : List StandingMark) (m : StandingMark) → AreInOrder low (ms ++ m ∷ []) high → AreInOrder low ms m.start × (m.start ≤ high)
order_pop low high [] m o = o
order_pop low high (x ∷ xs) m o = let rest = order_pop x.start high xs m o.1 in ((o.0, rest.0), rest.1)

order_map : (f : StandingMark → StandingMark) → ((m : StandingMark) → (f m).start ≡ m.start) → (low high : ℕ) (ms : List StandingMark)
    → AreInOrder low ms high → AreInOrder low (map f ms) high
order_map f same low high [] o = o
order_map f same low high (m ∷ ms) o =
    let e = same m in
    (let le : low ≤ (f m).start = omega (arith, o.0) in le, subst (λ k. AreInOrder k (map f ms) high) (sym e) (order_map f same m.start high ms o.1))

-- a new pool uses nothing, and all its words are in the region
pub stands_new : (r : Region) (size : ℕ) → size ≤ 2097152 → r.places ≡ held (replicate size 0) → Stands r size 0 first_mark []
stands_new r size small zeros =
    let count : length (replicate {A = ℕ} size 0) ≡ size = length-replicate size 0 in
    let long = length-held (replicate size 0) in
    record {
      places = ap length zeros ∙ long ∙ count;
      small = small;
      used_fits = omega arith;
      top_fits = omega arith;
      in_order = omega arith;
      rest = λ k lo hi. subst (λ (qs : Places). IsSome (place qs k)) (sym zeros) (held_some (replicate size 0) k (omega arith));
    }

-- a further mark lies at what is used
pub stands_marked : (r : Region) (size used number count : ℕ) (top : StandingMark) (older : List StandingMark) → Stands r size used top older
    → Stands r size used (record { number = number; start = used; out_below = count }) (older ++ top ∷ [])
stands_marked r size used number count top older s =
    record {
      places = s.places;
      small = s.small;
      used_fits = s.used_fits;
      top_fits = omega arith;
      in_order = order_push 0 used older top s.in_order s.top_fits;
      rest = s.rest;
    }

-- the newest mark is released, and the one before it is the newest: what was used since then is back, and no longer used
pub stands_dropped : (r : Region) (size used : ℕ) (top m : StandingMark) (older front : List StandingMark) → AreHeld r.places top.start (used - top.start)
    → older ≡ front ++ m ∷ [] → Stands r size used top older → Stands r size top.start m front
stands_dropped r size used top m older front there is s =
    let parts = order_pop 0 top.start front m (subst (λ ms. AreInOrder 0 ms top.start) is s.in_order) in
    record {
      places = s.places;
      small = s.small;
      used_fits = omega (arith, s.top_fits, s.used_fits);
      top_fits = parts.1;
      in_order = parts.0;
      rest = λ k lo hi.
          ⊎_elim (λ (below : k < used). there k lo (omega arith)) (λ (behind : used ≤ k). s.rest k behind (omega (arith, s.used_fits))) (order k used);
    }

-- the next words go out, and the rest stays
pub stands_taken : (r r' : Region) (size used n : ℕ) (top : StandingMark) (older : List StandingMark) → Stands r size used top older → used + n ≤ size
    → r'.places ≡ with_run r.places used (out n) → Stands r' size (used + n) top older
stands_taken r r' size used n top older s fits after =
    let ps = r.places in
    let qs = out n in
    let long = length-out n in
    let inside : used + length qs ≤ length ps = omega (arith, s.places) in
    record {
      places = ap length after ∙ length-with_run ps used qs inside ∙ s.places;
      small = s.small;
      used_fits = fits;
      top_fits = omega (arith, s.top_fits);
      in_order = s.in_order;
      rest = λ k lo hi. subst (λ (l : Places). IsSome (place l k)) (sym after)
          (subst IsSome (sym (with_run-outside ps used qs k inside (inr (omega arith)))) (s.rest k (omega arith) (omega arith)));
    }

-- a Block that comes back takes nothing from what is not used
pub stands_back : (r r' : Region) (size used start : ℕ) (words : List ℕ) (top : StandingMark) (older : List StandingMark) → Stands r size used top older
    → start + length words ≤ length r.places → r'.places ≡ with_run r.places start (held words) → Stands r' size used (back_at start (length words) top) (map (back_at start (length words)) older)
stands_back r r' size used start words top older s fits after =
    let ps = r.places in
    let qs = held words in
    let long = length-held words in
    let inside : start + length qs ≤ length ps = omega arith in
    record {
      places = ap length after ∙ length-with_run ps start qs inside ∙ s.places;
      small = s.small;
      used_fits = s.used_fits;
      top_fits = s.top_fits;
      in_order = order_map (back_at start (length words)) (λ m. refl) 0 top.start older s.in_order;
      rest = λ k lo hi.
          let as_before : (k < start) ⊎ (start + length qs ≤ k) → IsSome (place (with_run ps start qs) k) = λ off. subst IsSome (sym (with_run-outside ps start qs k inside off)) (s.rest k lo hi) in
          subst (λ (l : Places). IsSome (place l k)) (sym after)
          (⊎_elim (λ (before : k < start). as_before (inl before))
          (λ (from : start ≤ k). ⊎_elim (λ (within : k < start + length words). held_after ps start words fits k from within)
          (λ (behind : start + length words ≤ k). as_before (inr (omega arith))) (order k (start + length words)))
          (order k start));
    }
