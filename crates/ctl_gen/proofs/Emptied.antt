-- The members of collections, which are finalized one after another, in an order that is chosen, until none is left (7.6.1).
use Rattle.std.proofs.Common.{◌≡◌, ℕ, zero, suc, ◌+◌, ◌<◌, ◌≤◌, List, [], ◌∷◌, length, map, Option, Some, None, Bool, true, false, refl, sym, ap, ◌∙◌, subst, arith, inr}
use Rattle.std.specs.Prelude.{◌&&◌, ◌||◌, if◌then◌else◌, nat_eq}
use Rattle.std.proofs.lemmas.Bool.{eq-eqb, ne_eqb}
use Rattle.ctl_tree.specs.declared.event.Cause.TheVariants.{Collection}
use Rattle.ctl_meaning.specs.World.{Object, Member, Log, World}
use Rattle.ctl_meaning.specs.Lists.{any_of, first_with, pull_item}
use Rattle.ctl_meaning.specs.Objects.{is_untouched, object_in}
use Rattle.ctl_meaning.specs.Changes.{object_at, begin_finalization}
use Rattle.ctl_meaning.specs.Choice.{Ask, picked}
use Rattle.ctl_meaning.specs.Outcome.{Way, Result, Goes, Leaves, Out, Gives, Stops, Cut, Act, Fine, add, after_pick, bind, on_goes, ◌>>=◌, nothing, counted, change, on_some, opened_outcome}
use Rattle.ctl_meaning.specs.Types.{Tables}
use Rattle.ctl_meaning.specs.Members as Members
use Rattle.ctl_meaning.specs.Members.{OfSets, candidates_of, count_due, is_of_group, member_of, opened_members}
use Rattle.ctl_meaning.specs.Names.{Call, Default, Tools, gone, must_exist, existing}
use Rattle.ctl_meaning.specs.Finalization.{finalize_begun, finalize_members, finalize_object, finalize_one, finalize_group}
use Rattle.ctl_meaning.proofs.Due.{begins_count, count, group_members, named, pulled_among}
use Rattle.ctl_meaning.proofs.Cuts.{HasAtMost}
use Rattle.ctl_code.specs.declared.code.Code.{Code}
use Rattle.ctl_code.specs.States.{Handed, Complete, Frame, Emptying, State}
use Rattle.ctl_code.specs.Table as Table
use Rattle.ctl_code.specs.Table.{candidates, empty_next, handed, has_part_in, says_failed}
use Rattle.ctl_code.specs.Steps.{moved, step, stepped}
use Rattle.ctl_gen.proofs.Known.{IsPlainType}
use Rattle.ctl_gen.proofs.Parted.{GivesDefaults}
use Rattle.ctl_gen.proofs.Picks.{picked_less}
use Rattle.ctl_gen.proofs.Each.{Each, each_all, each_kept}
use Rattle.ctl_gen.proofs.ChosenParts.{each_both, keep_same_on}
use Rattle.ctl_gen.proofs.Worlds.{AreApart, Fits, Settled, Since}
use Rattle.ctl_gen.proofs.Setting.{Setting, tools_with, Calls, Sure}
use Rattle.ctl_gen.proofs.FinalizedParts.{each_pulled, heard, tells}
use Rattle.ctl_gen.proofs.Finalize.{part_alike, typed_runs}
use Rattle.ctl_gen.proofs.Follow.{Runs, gives, way_of, added, after_comes, last_step}

-- Lists ---------------------------------------------------------------------------------------------

-- what is pulled out of a list by its members
pulled_member : (d : Object) (i : ℕ) (os : List Object) → pull_item (member_of d) i (map member_of os) ≡ member_of (pull_item d i os)
unfolding pull_item
pulled_member d i [] = refl
pulled_member d zero (o ∷ os) = refl
pulled_member d (suc i) (o ∷ os) = pulled_member d i os

members_length : (os : List Object) → length (map member_of os) ≡ length os
members_length [] = refl
members_length (o ∷ os) = ap suc (members_length os)

-- Objects -------------------------------------------------------------------------------------------

-- an object behind another one is found as it was
behind_first : (x : Object) (all os : List Object) → Each (λ o. x.number < o.number) os → Each (λ o. first_with (λ y. nat_eq y.number o.number) all ≡ Some o) os → Each (λ o. first_with (λ y. nat_eq y.number o.number) (x ∷ all) ≡ Some o) os
unfolding first_with
behind_first x all [] less h = tt
behind_first x all (o ∷ os) less h =
    let before = less.0 in
    (ap (λ b. if b then Some x else first_with (λ y. nat_eq y.number o.number) all) (ne_eqb x.number o.number (λ e. omega (arith, e, before))) ∙ h.0, behind_first x all os less.1 h.1)

-- each object is the one of its number
each_is_found : (os : List Object) → AreApart os → Each (λ o. first_with (λ y. nat_eq y.number o.number) os ≡ Some o) os
unfolding first_with
each_is_found [] h = tt
each_is_found (x ∷ os) h = (ap (λ b. if b then Some x else first_with (λ y. nat_eq y.number x.number) os) (eq-eqb x.number x.number refl), behind_first x os os h.0 (each_is_found os h.1))

-- a member that can be chosen: it is there, of a plain type with a controlled part
record IsDue (k : Tables) (code : Code) (w : World) (o : Object) : Type 0 where
  plain : IsPlainType k o.ty
  there : object_at o.number w ≡ Some o
  part : has_part_in code o.ty ≡ true

-- it has a part where it passes the test
passes_part : (a b c d : Bool) → ((a && (b && c)) && d) ≡ true → c ≡ true
passes_part true true c true e = by c e
  where
    by : (c : Bool) → ((true && (true && c)) && true) ≡ true → c ≡ true
    by true e1 = refl
    by false e1 = absurd (cc e1)
passes_part true true true false e = absurd (cc e)
passes_part true true false false e = absurd (cc e)
passes_part true false c d e = absurd (cc e)
passes_part false b c d e = absurd (cc e)

-- Turns ---------------------------------------------------------------------------------------------

module _ (ask : Ask) (k : Tables) (code : Code) where
  -- one construct, by which clock and candidates come to so many at most, and then another
  both_counted : {A B : Type 0} (Before Ends : Option Way → World → Type 0) (p b h b1 h1 d e : ℕ) (s : State) (c : ℕ) (mid : Result A → Log → World → State) (next : Result B → Log → World → State) (o : Out A) (f : Result A → Act B) → b + b1 ≤ d → h ≤ e → b + h1 ≤ e → HasAtMost k ask p o → Runs ask code Before b h s c mid o
      → ((r : Result A) (c1 : ℕ) (l : Log) (w : World) → c1 ≤ c → c1 + count k w ≤ p → Before (way_of r) w → Runs ask code Ends b1 h1 (mid r l w) c1 next (f r c1 l w)) → Runs ask code Ends d e s c next (bind o f)
  unfolding bind
  both_counted Before Ends p b h b1 h1 d e s c mid next (Gives r t c1 l w) f le he fe counted a z = after_comes ask code Ends b b1 h1 d e s (mid r l w) c c1 t next (f r c1 l w) le fe a (z r c1 l w a.falls counted a.fits)
  both_counted Before Ends p b h b1 h1 d e s c mid next (Stops why t l) f le he fe counted a z = record { n = a.n; in_time = omega (arith, a.in_time, he); logged = a.logged; over = a.over }
  both_counted Before Ends p b h b1 h1 d e s c mid next (Cut t c1 l) f le he fe counted a z = record { n = a.n; in_time = omega (arith, a.in_time, he); logged = a.logged; going = a.going; why = a.why }

  added_counted : {A : Type 0} (n p : ℕ) (o : Out A) → HasAtMost k ask p o → HasAtMost k ask p (add n o)
  unfolding add
  added_counted n p (Gives r t c l w) h = h
  added_counted n p (Stops why t l) h = tt
  added_counted n p (Cut t c l) h = tt

module _ (ask : Ask) (k : Tables) (code : Code) (setting : Setting k code) (call : Call) (default : Default) (constants : GivesDefaults k default) (bound : ℕ) (calls : Calls ask k code setting bound call) where
  abbrev K : Tools
  K = tools_with ask k call default

  candidate_alike : (sets : List ℕ) (o : Object) → IsPlainType k o.ty → Members.is_candidate k (OfSets sets) o ≡ Table.is_candidate code sets o
  unfolding opened_members
  candidate_alike sets o plain = ap (λ b. (o.joined && (is_untouched o.state && b)) && is_of_group (OfSets sets) o.origin) (part_alike ask k code setting call default constants bound calls o.ty plain)

  -- the candidates are the same
  candidates_are : (sets : List ℕ) (w : World) → Fits k code w → candidates_of k (OfSets sets) w ≡ map member_of (candidates code sets w)
  unfolding candidates_of
  candidates_are sets w fits = ap (map member_of) (keep_same_on (Members.is_candidate k (OfSets sets)) (Table.is_candidate code sets) w.objects (each_all (Settled k code w.ledger.next_master w.activations w.ledger.collections) (λ o. Members.is_candidate k (OfSets sets) o ≡ Table.is_candidate code sets o) (λ o h. candidate_alike sets o h.plain) w.objects fits.objects))

  -- and each of them is due
  each_due : (sets : List ℕ) (w : World) → Fits k code w → Each (IsDue k code w) (candidates code sets w)
  unfolding object_at object_in
  each_due sets w fits =
      each_kept (λ (o : Object). Settled k code w.ledger.next_master w.activations w.ledger.collections o × (object_at o.number w ≡ Some o)) (IsDue k code w) (Table.is_candidate code sets)
      (λ o e h. record { plain = h.0.plain; there = h.1; part = passes_part o.joined (is_untouched o.state) (has_part_in code o.ty) (is_of_group (OfSets sets) o.origin) e })
      w.objects (each_both (Settled k code w.ledger.next_master w.activations w.ledger.collections) (λ o. object_at o.number w ≡ Some o) w.objects fits.objects (each_is_found w.objects fits.apart))

  -- What a turn means -------------------------------------------------------------------------------

  abbrev others : List ℕ → ℕ → Bool → Act Bool
  others sets n failed = finalize_members K Collection (OfSets sets) n failed

  turn_is : (sets : List ℕ) (n : ℕ) (failed : Bool) (c : ℕ) (l : Log) (w : World) → Fits k code w → others sets (suc n) failed c l w ≡ finalize_one K Collection (others sets n) failed (map member_of (candidates code sets w)) c l w
  unfolding finalize_members
  turn_is sets n failed c l w fits = ap (λ ms. finalize_one K Collection (others sets n) failed ms c l w) (candidates_are sets w fits)

  -- where none is left
  none_is : (sets : List ℕ) (n : ℕ) (failed : Bool) (c : ℕ) (l : Log) (w : World) → finalize_one K Collection (others sets n) failed [] c l w ≡ Gives (Goes failed) 0 c l w
  unfolding finalize_one opened_outcome
  none_is sets n failed c l w = refl

  -- where the choice is not answered
  unanswered_is : (sets : List ℕ) (n : ℕ) (failed : Bool) (o : Object) (os : List Object) (c : ℕ) (l : Log) (w : World) → picked ask (suc (length os)) l ≡ None → finalize_one K Collection (others sets n) failed (map member_of (o ∷ os)) c l w ≡ Cut (suc (length os) + 0) c l
  unfolding finalize_one opened_outcome
  unanswered_is sets n failed o os c l w is =
      ap (λ m. bind (add (suc m) (after_pick (picked ask (suc m) l) c l w)) (on_goes (λ i. finalize_object K Collection (pull_item (member_of o) i (map member_of (o ∷ os))) >>= (λ b. others sets n (failed || b))))) (members_length os)
      ∙ ap (λ x. bind (add (suc (length os)) (after_pick x c l w)) (on_goes (λ i. finalize_object K Collection (pull_item (member_of o) i (map member_of (o ∷ os))) >>= (λ b. others sets n (failed || b))))) is

  -- where one is chosen
  chosen_is : (sets : List ℕ) (n : ℕ) (failed : Bool) (o : Object) (os : List Object) (c : ℕ) (l : Log) (w : World) (a : ℕ × Log) → picked ask (suc (length os)) l ≡ Some a → finalize_one K Collection (others sets n) failed (map member_of (o ∷ os)) c l w ≡ add (suc (length os) + 0) (bind (finalize_object K Collection (member_of (pull_item o a.0 (o ∷ os))) c a.1 w) (on_goes (λ b. others sets n (failed || b))))
  unfolding finalize_one opened_outcome
  chosen_is sets n failed o os c l w a is =
      ap (λ m. bind (add (suc m) (after_pick (picked ask (suc m) l) c l w)) (on_goes (λ i. finalize_object K Collection (pull_item (member_of o) i (map member_of (o ∷ os))) >>= (λ b. others sets n (failed || b))))) (members_length os)
      ∙ ap (λ x. bind (add (suc (length os)) (after_pick x c l w)) (on_goes (λ i. finalize_object K Collection (pull_item (member_of o) i (map member_of (o ∷ os))) >>= (λ b. others sets n (failed || b))))) is
      ∙ ap (λ m. add (suc (length os) + 0) (bind (finalize_object K Collection m c a.1 w) (on_goes (λ b. others sets n (failed || b))))) (pulled_member o a.0 (o ∷ os))

  -- with each turn one is no candidate any more
  begun_is : (m : Member) (o : Object) (c : ℕ) (l : Log) (w : World) → object_at m.number w ≡ Some o → finalize_object K Collection m c l w ≡ add 0 (finalize_begun K Collection m c l (begin_finalization m.number w))
  unfolding finalize_object must_exist existing opened_outcome
  begun_is m o c l w at = ap (λ x. bind (bind (on_some x gone (λ _. nothing) c l w) (on_goes (λ _. change (begin_finalization m.number)))) (on_goes (λ _. finalize_begun K Collection m))) at

  turn_counted : (m : Member) (o : Object) (c : ℕ) (l : Log) (w : World) → c ≤ bound → object_at m.number w ≡ Some o → HasAtMost k ask (c + count k (begin_finalization m.number w)) (finalize_object K Collection m c l w)
  turn_counted m o c l w le at =
      subst (HasAtMost k ask (c + count k (begin_finalization m.number w))) (sym (begun_is m o c l w at))
      (added_counted ask k code 0 (c + count k (begin_finalization m.number w)) _ ((calls.counts default m).from c l (begin_finalization m.number w) le).shrinks)

  fewer : (sets : List ℕ) (o : Object) (os : List Object) (i : ℕ) (w : World) → Fits k code w → candidates code sets w ≡ o ∷ os → count k (begin_finalization (pull_item o i (o ∷ os)).number w) < count k w
  unfolding member_of
  fewer sets o os i w fits is =
      begins_count k (pull_item o i (o ∷ os)).number w
      (group_members k (OfSets sets) w (pull_item o i (o ∷ os)).number
      (subst (λ ms. any_of (named k (pull_item o i (o ∷ os)).number) ms ≡ true) (sym (candidates_are sets w fits ∙ ap (map member_of) is))
      (subst (λ (m : Member). any_of (named k m.number) (map member_of (o ∷ os)) ≡ true) (pulled_member o i (o ∷ os)) (pulled_among (member_of o) (map member_of os) i))))

  -- What the code does ------------------------------------------------------------------------------

  -- the frame with the members that are still to be finalized
  abbrev turning : List ℕ → Bool → List Frame → Handed → Log → World → State
  turning sets failed ks h l w = gives (Emptying sets failed ∷ ks) (Fine h) l w

  -- its step, by the candidates and by what is chosen of them
  abbrev turned_to : List ℕ → Bool → List Frame → Handed → Log → World → List Object → Option (ℕ × Log) → State
  turned_to sets failed ks h l w os None = turning sets failed ks h l w
  turned_to sets failed ks h l w os (Some a) = moved a.1 (empty_next code sets (failed || says_failed (Fine h)) a.0 os ks w)

  turn_step : (sets : List ℕ) (failed : Bool) (ks : List Frame) (h : Handed) (l : Log) (w : World) (os : List Object) (a : Option (ℕ × Log)) → candidates code sets w ≡ os → picked ask (length os) l ≡ a → step ask code (turning sets failed ks h l w) ≡ turned_to sets failed ks h l w os a
  turn_step sets failed ks h l w os a are is = by (picked ask (length (candidates code sets w)) l) ∙ ap (λ xs. turned_to sets failed ks h l w xs (picked ask (length xs) l)) are ∙ ap (turned_to sets failed ks h l w os) is
    where
      by : (x : Option (ℕ × Log)) → stepped code (turning sets failed ks h l w) x ≡ turned_to sets failed ks h l w (candidates code sets w) x
      by None = refl
      by (Some p) = refl

  -- the members that are left, in no more turns than there are of the clock and of candidates
  members_run : (n : ℕ) (sets : List ℕ) (failed : Bool) (h : Handed) (w0 : World) (ks : List Frame) (c : ℕ) (l : Log) (w : World) → c ≤ bound → c + count k w < n → Since k code w0 w → Runs ask code (Sure k code w0) 1 1 (turning sets failed ks h l w) c (tells ks) (others sets n (failed || says_failed (Fine h)) c l w)
  unfolding picked on_goes finalize_members member_of pull_item
  members_run zero sets failed h w0 ks c l w le fuel fits = absurd (omega (arith, fuel))
  members_run (suc n) sets failed h w0 ks c l w le fuel fits =
      subst goal (sym (turn_is sets n (failed || says_failed (Fine h)) c l w fits.0)) (by (candidates code sets w) refl (each_due sets w fits.0) (members_run n sets (failed || says_failed (Fine h))))
    where
      -- whether one failed so far
      fell : Bool
      fell = failed || says_failed (Fine h)

      goal : Out Bool → Type 0
      goal x = Runs ask code (Sure k code w0) 1 1 (turning sets failed ks h l w) c (tells ks) x

      frames : List Frame
      frames = Emptying sets (failed || says_failed (Fine h)) ∷ ks

      More : Type 0
      More = (h1 : Handed) (w1 : World) (ks1 : List Frame) (c1 : ℕ) (l1 : Log) (w2 : World) → c1 ≤ bound → c1 + count k w2 < n → Since k code w1 w2 → Runs ask code (Sure k code w1) 1 1 (turning sets (failed || says_failed (Fine h)) ks1 h1 l1 w2) c1 (tells ks1) (others sets n ((failed || says_failed (Fine h)) || says_failed (Fine h1)) c1 l1 w2)

      by : (os : List Object) → candidates code sets w ≡ os → Each (IsDue k code w) os → More → goal (finalize_one K Collection (others sets n) (failed || says_failed (Fine h)) (map member_of os) c l w)
      by [] are due more = subst goal (sym (none_is sets n fell c l w)) (last_step ask code (Sure k code w0) 1 1 _ c 0 (tells ks) (Goes fell) l w (omega arith) (tt, fits) (turn_step sets failed ks h l w [] (Some (0, l)) are refl))
      by (o ∷ os) are due more = answered (picked ask (suc (length os)) l) refl
        where
          answered : (a : Option (ℕ × Log)) → picked ask (suc (length os)) l ≡ a → goal (finalize_one K Collection (others sets n) (failed || says_failed (Fine h)) (map member_of (o ∷ os)) c l w)
          answered None is = subst goal (sym (unanswered_is sets n fell o os c l w is)) (record { n = 0; in_time = omega arith; logged = refl; going = tt; why = inr (turn_step sets failed ks h l w (o ∷ os) None are is) })
          answered (Some a) is =
              subst goal (sym (chosen_is sets n fell o os c l w a is))
              (added ask code (Sure k code w0) (suc (length os) + 0) 2 2 1 1 _ c (tells ks) _ (omega arith) (omega arith)
              (both_counted ask k code (Sure k code w0) (Sure k code w0) (c + count k (begin_finalization m.number w)) 1 1 1 1 2 2 _ c (tells frames) (tells ks) _ _ (omega arith) (omega arith) (omega arith)
              (turn_counted (member_of m) m c a.1 w le one.there)
              (typed_runs ask k code setting call default constants bound calls Collection (λ n1 v. refl) (λ y sure. sure) m w0 frames c a.1 w _ le fits one.there one.plain one.part (turn_step sets failed ks h l w (o ∷ os) (Some a) are is))
              rest))
            where
              m : Object
              m = pull_item o a.0 (o ∷ os)

              one : IsDue k code w (pull_item o a.0 (o ∷ os))
              one = each_pulled (IsDue k code w) o a.0 (o ∷ os) due (picked_less ask (length os) l a is)

              rest : (r : Result Bool) (c1 : ℕ) (l1 : Log) (w1 : World) → c1 ≤ c → c1 + count k w1 ≤ c + count k (begin_finalization (pull_item o a.0 (o ∷ os)).number w) → Sure k code w0 (way_of r) w1 → Runs ask code (Sure k code w0) 1 1 (tells (Emptying sets (failed || says_failed (Fine h)) ∷ ks) r l1 w1) c1 (tells ks) (on_goes (λ b. others sets n ((failed || says_failed (Fine h)) || b)) r c1 l1 w1)
              rest (Leaves y) c1 l1 w1 lo counted sure = absurd sure.0
              rest (Goes b) c1 l1 w1 lo counted sure =
                  let less = fewer sets o os a.0 w fits.0 are in
                  subst (λ d. Runs ask code (Sure k code w0) 1 1 (turning sets (failed || says_failed (Fine h)) ks (handed b) l1 w1) c1 (tells ks) (others sets n ((failed || says_failed (Fine h)) || d) c1 l1 w1)) (heard b)
                  (more (handed b) w0 ks c1 l1 w1 (omega (arith, lo, le)) (omega (arith, counted, less, fuel)) sure.1)

  -- the members of the collections of a layer, from the state that begins with them
  pub group_runs : (sets : List ℕ) (w0 : World) (ks : List Frame) (c : ℕ) (l : Log) (w : World) → c ≤ bound → Since k code w0 w → Runs ask code (Sure k code w0) 1 1 (gives (Emptying sets false ∷ ks) (Fine Complete) l w) c (tells ks) (finalize_group K Collection (OfSets sets) c l w)
  unfolding finalize_group count_due
  group_runs sets w0 ks c l w le fits = members_run (suc (c + count k w)) sets false Complete w0 ks c l w le (omega arith) fits
