-- The finalization of the parts of a copy that are adjusted, where the Adjust of another part failed (7.6.1): a part first, where it is
-- adjusted, and then its components that are adjusted or have such parts, in an order that is chosen. Whether a Finalize failed is forgotten.
use Rattle.std.proofs.Common.{◌≡◌, ℕ, zero, suc, ◌+◌, ◌<◌, ◌≤◌, List, [], ◌∷◌, ◌++◌, length, Option, Some, None, Bool, true, false, refl, sym, ap, ◌∙◌, subst, arith, inr}
use Rattle.std.specs.Prelude.{slice_get, ◌&&◌, ◌||◌}
use Rattle.ctl_program.specs.declared.types.Ty.TheVariants.{Record}
use Rattle.ctl_program.specs.declared.operators.SubprogramKind.TheVariants.{Procedure}
use Rattle.ctl_tree.specs.declared.ending.Stop.TheVariants.{UseAfterFree}
use Rattle.ctl_tree.specs.declared.event.Cause.TheVariants.{Failed}
use Rattle.ctl_tree.specs.declared.event.Event.{Event}
use Rattle.ctl_tree.specs.declared.event.Event.TheVariants as EventOf
use Rattle.ctl_meaning.specs.World.{Object, Binds, holding, Log, World}
use Rattle.ctl_meaning.specs.Lists.{any_of, begins, keep, pull_item, pull_rest, same_list}
use Rattle.ctl_meaning.specs.Changes.{object_at, begin_finalization, end_finalization, home_of}
use Rattle.ctl_meaning.specs.Choice.{Ask, picked}
use Rattle.ctl_meaning.specs.Outcome.{program_error, Result, Goes, Leaves, Out, Gives, Stops, Cut, Act, Done, Tried, Fine, Raised, ByRaise, add, attempt, bind, change, on_goes, ◌>>=◌, ◌>>◌, done, nothing, raise, tell, show, look, told, either, on_some, opened_outcome}
use Rattle.ctl_meaning.specs.Types.{Tables, Placed, depth, has_controlled, is_controlled, operation, of_record, placed}
use Rattle.ctl_meaning.specs.Names.{OfSubprogram, Returned, Call, Default, Tools, gone, opened_names}
use Rattle.ctl_meaning.specs.Finalization.{Spot, These, no_component, component_at, call_operation, after_finalize, in_any_order, parts_to_finalize, finalize_part, opened_finalization}
use Rattle.ctl_meaning.specs.Adjustment.{Adjusted, Birth, adjusted, clean_up_copy}
use Rattle.ctl_code.specs.declared.code.Begun.{Begun}
use Rattle.ctl_code.specs.declared.code.Parts.{Parts}
use Rattle.ctl_code.specs.declared.code.Parts.TheVariants as PartsOf
use Rattle.ctl_code.specs.declared.code.Code.{Code}
use Rattle.ctl_code.specs.States.{Handed, Complete, AfterBody, Frame, Undoing, UndoingOwn, UndoingParts, State, whole_spot}
use Rattle.ctl_code.specs.Table.{adjusted_in, adjusted_of, component_of, controlled_of, has_part, part_at, parts_of, undo_by, undo_component, undo_components, undo_left, undo_own, undo_part}
use Rattle.ctl_code.specs.Steps.{moved, step, stepped}
use Rattle.ctl_code.specs.Valid.{AreBegunBy, IsBegunBy, IsDeclarable}
use Rattle.ctl_gen.proofs.Known.{IsPlainType}
use Rattle.ctl_gen.proofs.Parted.{AgreesOn, GivesDefaults, HasPart, HaveParts, component_is, have_kept, is_itself, parts_length, parts_pulled, parts_rest}
use Rattle.ctl_gen.proofs.Picks.{next_in_order, none_in_order, picked_less, rest_length}
use Rattle.ctl_gen.proofs.Each.{Each, each_all}
use Rattle.ctl_gen.proofs.Worlds.{Fits, Since, since_begin, since_end, still_home, origin_nested}
use Rattle.ctl_gen.proofs.Scopes.{controlled_inside, finalize_in, kept_inside, pulled_inside, rest_inside}
use Rattle.ctl_gen.proofs.Setting.{Setting, tools_with, returns, Told, Sure, Calls, enter_shows}
use Rattle.ctl_gen.proofs.FinalizedParts.{call_is, each_left, each_pulled, keep_passes}
use Rattle.ctl_gen.proofs.Finalize.{within_depth}
use Rattle.ctl_gen.proofs.ChosenParts.{each_kept, keep_keep}
use Rattle.ctl_gen.proofs.FailedParts.{Fallen, and_false}
use Rattle.ctl_gen.proofs.Follow.{by_raise, Comes, Runs, gives, way_of, add_none, added, after_comes, bind_bind, both, last_step, one_step, stop_step, more_quits, more_halts}

-- the parts are finalized, whether a Finalize failed or not
abbrev undone : List Frame → Result Bool → Log → World → State
undone ks r l w = gives ks (Fine Complete) l w

module _ (ask : Ask) (k : Tables) (code : Code) (setting : Setting k code) (call : Call) (default : Default) (constants : GivesDefaults k default) (bound : ℕ) (calls : Calls ask k code setting bound call) where
  abbrev K : Tools
  K = tools_with ask k call default

  -- where the parts with these paths are adjusted, and the object was there in an earlier world
  module _ (paths : List (List ℕ)) (wr : World) (o : Object) (fits_then : Fits k code wr) where
    -- so many masters were around the operations of its type
    abbrev around : ℕ
    around = length (home_of o.origin wr)

    abbrev shown : Spot → Event
    shown s = EventOf.Finalize (part_at s) Failed

    -- a component
    abbrev component_by : ℕ → Spot → Placed → Act Bool
    component_by n s p = of_record (done false) (finalize_part K Failed (These paths) n (component_at s p)) p.ty

    -- the components that are left, and whether one failed
    abbrev in_turn : ℕ → Spot → ℕ → List Placed → Bool → Act Bool
    in_turn n s count left failed = in_any_order K (component_by n s) count left failed

    abbrev Undoes : ℕ → ℕ → State → ℕ → List Frame → Out Bool → Type 0
    Undoes b h s0 c ks x = Runs ask code (Sure k code wr) b h s0 c (undone ks) x

    -- the parts of types before this one are finalized as the meaning says, from the step that begins with them
    abbrev PartsRun : ℕ → Type 0
    PartsRun n = (s : Spot) (t : ℕ) (ks : List Frame) (c : ℕ) (l : Log) (w : World) (s0 : State) → object_at s.object wr ≡ Some o → t < n → IsPlainType k (Record t) → has_controlled k (Record t) ≡ true → IsDeclarable code around t → adjusted_in ks ≡ paths → c ≤ bound → Since k code wr w → step ask code s0 ≡ moved l (undo_part code (parts_of code t) s t ks w) → Undoes 0 0 s0 c ks (finalize_part K Failed (These paths) n s t c l w)

    -- Components ------------------------------------------------------------------------------------------

    -- the step that chooses
    choose_step : (s : Spot) (count : ℕ) (ks : List Frame) (l : Log) (w : World) (x : Begun) (xs : List Begun) (a : Option (ℕ × Log)) → length (x ∷ xs) ≡ suc count → picked ask (suc count) l ≡ a → step ask code (gives (UndoingParts s (x ∷ xs) ∷ ks) (Fine Complete) l w) ≡ stepped code (gives (UndoingParts s (x ∷ xs) ∷ ks) (Fine Complete) l w) a
    choose_step s count ks l w x xs a long is = ap (λ j. stepped code (gives (UndoingParts s (x ∷ xs) ∷ ks) (Fine Complete) l w) (picked ask j l)) long ∙ ap (stepped code (gives (UndoingParts s (x ∷ xs) ∷ ks) (Fine Complete) l w)) is

    -- the components that are left
    left_run : (n : ℕ) → PartsRun n → (s : Spot) (t : ℕ) → object_at s.object wr ≡ Some o → t ≤ n → (count : ℕ) (ks : List Frame) → adjusted_in ks ≡ paths → (failed : Bool) (c : ℕ) (l : Log) (w : World) (left : List Placed) (xs : List Begun) → length left ≡ count → HaveParts k t left xs → Each (λ p. has_controlled k p.ty ≡ true) left → AreBegunBy code around xs → c ≤ bound → Since k code wr w → Undoes 1 1 (gives (UndoingParts s xs ∷ ks) (Fine Complete) l w) c ks (in_turn n s count left failed c l w)
    unfolding in_any_order picked opened_outcome
    left_run n parts s t was old zero ks known failed c l w [] [] long have held inside le fits = last_step ask code (Sure k code wr) 1 1 _ c 0 (undone ks) (Goes failed) l w (omega arith) (tt, fits) refl
    left_run n parts s t was old zero ks known failed c l w [] (x ∷ xs) long have held inside le fits = absurd have
    left_run n parts s t was old zero ks known failed c l w (q ∷ qs) xs long have held inside le fits = absurd (omega (arith, long))
    left_run n parts s t was old (suc count) ks known failed c l w [] xs long have held inside le fits = absurd (omega (arith, long))
    left_run n parts s t was old (suc count) ks known failed c l w (q ∷ qs) [] long have held inside le fits = absurd have
    left_run n parts s t was old (suc count) ks known failed c l w (q ∷ qs) (x ∷ xs) long have held inside le fits = by (λ b c2 l2 w2 left2 xs2 long2 have2 held2 inside2 le2 fits2. left_run n parts s t was old count ks known b c2 l2 w2 left2 xs2 long2 have2 held2 inside2 le2 fits2) (picked ask (suc count) l) refl
      where
        Others : Type 0
        Others = (b : Bool) (c2 : ℕ) (l2 : Log) (w2 : World) (left2 : List Placed) (xs2 : List Begun) → length left2 ≡ count → HaveParts k t left2 xs2 → Each (λ p. has_controlled k p.ty ≡ true) left2 → AreBegunBy code around xs2 → c2 ≤ bound → Since k code wr w2 → Undoes 1 1 (gives (UndoingParts s xs2 ∷ ks) (Fine Complete) l2 w2) c2 ks (in_turn n s count left2 b c2 l2 w2)

        s0 : State
        s0 = gives (UndoingParts s (x ∷ xs) ∷ ks) (Fine Complete) l w

        many : length (x ∷ xs) ≡ suc count
        many = let same = parts_length k t (q ∷ qs) (x ∷ xs) have in omega (arith, same, long)

        goal : Out Bool → Type 0
        goal y = Undoes 1 1 (gives (UndoingParts s (x ∷ xs) ∷ ks) (Fine Complete) l w) c ks y

        by : Others → (a : Option (ℕ × Log)) → picked ask (suc count) l ≡ a → goal (in_turn n s (suc count) (q ∷ qs) failed c l w)
        by others None is = subst goal (sym (none_in_order K (component_by n s) count c (q ∷ qs) failed l w is)) (record { n = 0; in_time = omega arith; logged = refl; going = tt; why = inr (choose_step s count ks l w x xs None many is) })
        by others (Some a) is =
            subst goal (sym (next_in_order K (component_by n s) count a.0 c (q ∷ qs) failed l a.1 w is ∙ ap (λ y. add (suc count + 0) (bind (y c a.1 w) (on_goes (λ b. in_turn n s count (pull_rest a.0 (q ∷ qs)) (failed || b))))) (component_is k t (done false) (finalize_part K Failed (These paths) n) s (pull_item no_component a.0 (q ∷ qs)) (pull_item x a.0 (x ∷ xs)) part)))
            (added ask code (Sure k code wr) (suc count + 0) 1 1 1 1 s0 c (undone ks) _ (omega arith) (omega arith)
            (both ask code (Sure k code wr) (Sure k code wr) 0 0 1 1 1 1 s0 c (undone frames) (undone ks) _ _ (omega arith) (omega arith) (omega arith) one rest))
          where
            less : a.0 < length (q ∷ qs)
            less = let small = picked_less ask count l a is in omega (arith, small, long)

            y : Begun
            y = pull_item x a.0 (x ∷ xs)

            part : HasPart k t (pull_item no_component a.0 (q ∷ qs)) (pull_item x a.0 (x ∷ xs))
            part = parts_pulled k t no_component x a.0 (q ∷ qs) (x ∷ xs) have less

            frames : List Frame
            frames = UndoingParts s (pull_rest a.0 (x ∷ xs)) ∷ ks

            -- the frame begins with the component that is chosen
            first : step ask code s0 ≡ moved a.1 (undo_part code (parts_of code part.number) (component_of s y.offset y.position) part.number frames w)
            first = choose_step s count ks l w x xs (Some a) many is ∙ ap (λ z. moved a.1 (undo_component code s y z frames w)) part.initial

            one : Undoes 0 0 s0 c frames (finalize_part K Failed (These paths) n (component_of s y.offset y.position) part.number c a.1 w)
            one =
                let less1 = part.less in
                let within : a.0 < length (x ∷ xs) = omega (arith, less, long, many) in
                parts (component_of s y.offset y.position) part.number frames c a.1 w s0 was (omega (arith, less1, old)) part.plain
                (ap (has_controlled k) (sym part.ty) ∙ each_pulled (λ p. has_controlled k p.ty ≡ true) no_component a.0 (q ∷ qs) held less)
                (subst (IsBegunBy code around) part.initial (pulled_inside code around x a.0 (x ∷ xs) inside within))
                known le fits first

            rest : (r : Result Bool) (c1 : ℕ) (l1 : Log) (w1 : World) → c1 ≤ c → Sure k code wr (way_of r) w1 → Undoes 1 1 (undone frames r l1 w1) c1 ks (on_goes (λ b. in_turn n s count (pull_rest a.0 (q ∷ qs)) (failed || b)) r c1 l1 w1)
            rest (Leaves z) c1 l1 w1 lo sure = absurd sure.0
            rest (Goes b) c1 l1 w1 lo sure =
                others (failed || b) c1 l1 w1 (pull_rest a.0 (q ∷ qs)) (pull_rest a.0 (x ∷ xs)) (rest_length a.0 count (q ∷ qs) less long) (parts_rest k t a.0 (q ∷ qs) (x ∷ xs) have) (each_left (λ p. has_controlled k p.ty ≡ true) a.0 (q ∷ qs) held) (rest_inside code around a.0 (x ∷ xs) inside) (omega (arith, lo, le)) sure.1

    -- the components of a part that are adjusted, or have such parts
    abbrev is_chosen : Spot → ℕ → Bool
    is_chosen s position = any_of (begins (s.path ++ position ∷ [])) paths

    abbrev chosen_parts : Spot → ℕ → List Placed
    chosen_parts s t = keep (λ p. is_chosen s p.position) (keep (λ p. has_controlled k p.ty) (placed k t))

    parts_are : (s : Spot) (t : ℕ) → parts_to_finalize K (These paths) s t ≡ chosen_parts s t
    unfolding opened_finalization
    parts_are s t = keep_keep (λ p. has_controlled k p.ty) (λ p. is_chosen s p.position) (placed k t)

    -- each of them has a controlled part
    chosen_held : (s : Spot) (t : ℕ) → Each (λ p. has_controlled k p.ty ≡ true) (chosen_parts s t)
    chosen_held s t =
        each_kept (λ p. has_controlled k p.ty ≡ true) (λ p. is_chosen s p.position) (keep (λ p. has_controlled k p.ty) (placed k t))
        (each_all (λ p. has_controlled k p.ty ≡ true) (λ p. is_chosen s p.position ≡ true → has_controlled k p.ty ≡ true) (λ p has test. has) (keep (λ p. has_controlled k p.ty) (placed k t)) (keep_passes (λ p. has_controlled k p.ty) (placed k t)))

    -- a part, behind its own Finalize
    abbrev behind_own : ℕ → Spot → ℕ → Bool → Act Bool
    behind_own n s t failed = in_turn n s (length (parts_to_finalize K (These paths) s t)) (parts_to_finalize K (These paths) s t) failed

    -- its components, from the step that begins with them
    all_run : (n : ℕ) → PartsRun n → (s : Spot) (t : ℕ) → object_at s.object wr ≡ Some o → t ≤ n → IsPlainType k (Record t) → IsDeclarable code around t → (ks : List Frame) → adjusted_in ks ≡ paths → (failed : Bool) (c : ℕ) (l : Log) (w : World) (s0 : State) → c ≤ bound → Since k code wr w → step ask code s0 ≡ moved l (undo_components code s t ks w) → Undoes 2 2 s0 c ks (behind_own n s t failed c l w)
    unfolding in_any_order opened_outcome
    all_run n parts s t was old plain inside ks known failed c l w s0 le fits first =
        subst (λ ps. Undoes 2 2 s0 c ks (in_turn n s (length ps) ps failed c l w)) (sym (parts_are s t))
        (by (chosen_parts s t) (adjusted_of code s t paths) (have_kept k t (is_chosen s) _ _ (setting.agrees default constants t plain).controlled) (chosen_held s t)
        (kept_inside code around (λ x. is_chosen s x.position) (controlled_of code t) (controlled_inside code setting.valid around t inside))
        (first ∙ ap (λ ps. moved l (undo_left s (adjusted_of code s t ps) ks w)) known))
      where
        by : (left : List Placed) (xs : List Begun) → HaveParts k t left xs → Each (λ p. has_controlled k p.ty ≡ true) left → AreBegunBy code around xs → step ask code s0 ≡ moved l (undo_left s xs ks w) → Undoes 2 2 s0 c ks (in_turn n s (length left) left failed c l w)
        by [] [] have held within go = last_step ask code (Sure k code wr) 2 2 s0 c 0 (undone ks) (Goes failed) l w (omega arith) (tt, fits) go
        by [] (x ∷ xs) have held within go = absurd have
        by (q ∷ qs) [] have held within go = absurd have
        by (q ∷ qs) (x ∷ xs) have held within go =
            one_step ask code (Sure k code wr) 1 1 2 2 s0 (gives (UndoingParts s (x ∷ xs) ∷ ks) (Fine Complete) l w) c c (undone ks) _ (omega arith) (omega arith) (omega arith) (omega arith) go
            (left_run n parts s t was old (length (q ∷ qs)) ks known failed c l w (q ∷ qs) (x ∷ xs) refl have held within le fits)

    -- The part's own Finalize -----------------------------------------------------------------------------

    -- what becomes of its call
    abbrev after_own : ℕ → Spot → ℕ → Out Done → Out Bool
    after_own n s t x = add 1 (bind (bind (bind x told) (on_goes (after_finalize Failed))) (on_goes (behind_own n s t)))

    -- a part that is controlled, and is adjusted
    adjusted_is : (g : Option ℕ) (n : ℕ) (s : Spot) (t c : ℕ) (l : Log) (w : World) → operation (λ x. x.finalize) k t ≡ g → (is_controlled k t && any_of (same_list s.path) paths) ≡ true → finalize_part K Failed (These paths) (suc n) s t c l w ≡ after_own n s t (call_operation K s g (shown s) c l w)
    unfolding opened_finalization opened_outcome
    adjusted_is g n s t c l w op is =
        ap (λ b. add 1 (bind (either b (attempt (call_operation K s (operation (λ x. x.finalize) k t) (shown s)) >>= after_finalize Failed) (done false) c l w) (on_goes (behind_own n s t)))) is
        ∙ ap (λ x. after_own n s t (call_operation K s x (shown s) c l w)) op

    -- and one that is not
    within_is : (n : ℕ) (s : Spot) (t c : ℕ) (l : Log) (w : World) → (is_controlled k t && any_of (same_list s.path) paths) ≡ false → finalize_part K Failed (These paths) (suc n) s t c l w ≡ add 1 (add 0 (behind_own n s t false c l w))
    unfolding opened_finalization opened_outcome
    within_is n s t c l w is = ap (λ b. add 1 (bind (either b (attempt (call_operation K s (operation (λ x. x.finalize) k t) (shown s)) >>= after_finalize Failed) (done false) c l w) (on_goes (behind_own n s t)))) is

    -- a part of a type that is at hand, whose components are finalized behind its own Finalize
    module _ (n : ℕ) (parts : PartsRun n) (s : Spot) (t : ℕ) (was : object_at s.object wr ≡ Some o) (old : t ≤ n) (plain : IsPlainType k (Record t)) (inside : IsDeclarable code around t) (ks : List Frame) (known : adjusted_in ks ≡ paths) (s0 : State) (c : ℕ) (le : c ≤ bound) where
      -- once it has ended, by an exception or not
      behind_runs : {X : Type 0} (failed : Bool) (y : Tried Handed) (u c1 : ℕ) (l : Log) (w : World) → Comes ask code 0 s0 c u c1 (gives (UndoingOwn s t ∷ ks) y l w) X → Since k code wr w → step ask code (gives (UndoingOwn s t ∷ ks) y l w) ≡ moved l (undo_components code s t ks w) → Undoes 0 0 s0 c ks (add 1 (add (0 + u + 0 + 0 + 0) (behind_own n s t failed c1 l w)))
      behind_runs failed y u c1 l w z fits go =
          let falls = z.falls in
          added ask code (Sure k code wr) 1 4 4 0 0 s0 c (undone ks) _ (omega arith) (omega arith)
          (after_comes ask code (Sure k code wr) 2 2 2 4 4 s0 (gives (UndoingOwn s t ∷ ks) y l w) c c1 (0 + u + 0 + 0 + 0) (undone ks) (behind_own n s t failed c1 l w) (omega arith) (omega arith)
          (record { n = z.n; falls = z.falls; enough = z.enough; in_time = omega (arith, z.in_time); comes = z.comes; fits = z.fits })
          (all_run n parts s t was old plain inside ks known failed c1 l w (gives (UndoingOwn s t ∷ ks) y l w) (omega (arith, falls, le)) fits go))

      -- after its execution
      over : (x : Out Returned) → Runs ask code (Told k code wr) 0 3 s0 c (returns (UndoingOwn s t ∷ ks)) x → Undoes 0 0 s0 c ks (after_own n s t (bind (add 0 x) (on_goes (λ _. nothing))))
      unfolding picked opened_outcome after_finalize
      over (Gives (Goes v) u c1 l w) z = behind_runs false (Fine Complete) u c1 l w z z.fits.1 refl
      over (Gives (Leaves y) u c1 l w) z =
          by_raise (λ x. Runs ask code (Told k code wr) 0 3 s0 c (returns {A = Returned} (UndoingOwn s t ∷ ks)) (Gives (Leaves x) u c1 l w) → Undoes 0 0 s0 c ks (after_own n s t (Gives (Leaves x) (0 + u + 0) c1 l w)))
          (λ e z1. behind_runs true (Raised e) u c1 l w z1 z1.fits.1 refl) y z.fits.0 z
      over (Stops why u l) z = more_quits ask code (Sure k code wr) 3 0 s0 u _ l why (omega arith) z
      over (Cut u c1 l) z = more_halts ask code (Sure k code wr) 3 0 s0 c u _ l (omega arith) z

      -- from the step that begins with it
      own_runs : (l : Log) (w : World) → Since k code wr w → (g : Option ℕ) (y : Option Object) → operation (λ x. x.finalize) k t ≡ g → object_at s.object w ≡ y → step ask code s0 ≡ moved l (undo_by code g s t y ks w) → Undoes 0 0 s0 c ks (after_own n s t (call_operation K s g (shown s) c l w))
      unfolding opened_finalization opened_outcome opened_names
      own_runs l w fits None None op at go = subst (λ y. Undoes 0 0 s0 c ks (after_own n s t (add 1 (on_some y gone (λ _. nothing) c l w)))) (sym at) (stop_step ask code (Sure k code wr) 0 0 s0 _ c 2 (undone ks) UseAfterFree l (omega arith) go refl refl)
      own_runs l w fits None (Some p) op at go =
          subst (λ y. Undoes 0 0 s0 c ks (after_own n s t (add 1 (on_some y gone (λ _. nothing) c l w)))) (sym at)
          (added ask code (Sure k code wr) 1 2 2 0 0 s0 c (undone ks) _ (omega arith) (omega arith)
          (added ask code (Sure k code wr) (1 + 0 + 0 + 0) 2 2 2 2 s0 c (undone ks) _ (omega arith) (omega arith)
          (all_run n parts s t was old plain inside ks known false c l w s0 le fits go)))
      own_runs l w fits (Some f) None op at go = subst (λ y. Undoes 0 0 s0 c ks (after_own n s t (on_some y gone (λ o1. look (λ w1. show (shown s) >> call (OfSubprogram f (holding (Binds s.object s.offset s.path) ∷ [])) (home_of o1.origin w1) >> nothing)) c l w))) (sym at) (stop_step ask code (Sure k code wr) 0 0 s0 _ c 1 (undone ks) UseAfterFree l (omega arith) go refl refl)
      own_runs l w fits (Some f) (Some p) op at go =
          let body = setting.finalize_body t f op in
          let home : home_of p.origin w ≡ home_of o.origin wr = still_home k code s.object wr w o p fits_then fits.1 was at in
          let here : IsDeclarable code (length (home_of p.origin w)) t = subst (λ (d : List ℕ). IsDeclarable code (length d) t) (sym home) inside in
          let actuals = holding (Binds s.object s.offset s.path) ∷ [] in
          subst (λ x. Undoes 0 0 s0 c ks (after_own n s t x)) (sym (call_is ask k call default f s c (shown s) l w p at))
          (over _
          (calls.runs f body.0 body.1 wr (home_of p.origin w) actuals AfterBody (UndoingOwn s t ∷ ks) c (tell (shown s) l) w s0 Procedure 1 tt le fits (finalize_in code setting.valid _ t f here (setting.finalize t ∙ op)) (origin_nested k code p.origin w fits.0) (tt, tt)
          (go ∙ enter_shows (slice_get code.entries.items f) (shown s) (home_of p.origin w) actuals AfterBody (UndoingOwn s t ∷ ks) l w)))

      -- a part that has none, or is not adjusted
      within_runs : (l : Log) (w : World) → Since k code wr w → (is_controlled k t && any_of (same_list s.path) paths) ≡ false → step ask code s0 ≡ moved l (undo_components code s t ks w) → Undoes 0 0 s0 c ks (finalize_part K Failed (These paths) (suc n) s t c l w)
      within_runs l w fits is go =
          subst (Undoes 0 0 s0 c ks) (sym (within_is n s t c l w is))
          (added ask code (Sure k code wr) 1 2 2 0 0 s0 c (undone ks) _ (omega arith) (omega arith)
          (added ask code (Sure k code wr) 0 2 2 2 2 s0 c (undone ks) _ (omega arith) (omega arith)
          (all_run n parts s t was old plain inside ks known false c l w s0 le fits go)))

      -- a part that is controlled
      controlled_runs : (l : Log) (w : World) → Since k code wr w → is_controlled k t ≡ true → (b : Bool) → any_of (same_list s.path) paths ≡ b → step ask code s0 ≡ moved l (undo_own code b s t ks w) → Undoes 0 0 s0 c ks (finalize_part K Failed (These paths) (suc n) s t c l w)
      controlled_runs l w fits is false not go = within_runs l w fits (ap (λ a. is_controlled k t && a) not ∙ and_false (is_controlled k t)) go
      controlled_runs l w fits is true chosen go =
          subst (Undoes 0 0 s0 c ks) (sym (adjusted_is (operation (λ x. x.finalize) k t) n s t c l w refl (ap (λ a. a && any_of (same_list s.path) paths) is ∙ chosen)))
          (own_runs l w fits (operation (λ x. x.finalize) k t) (object_at s.object w) refl refl (go ∙ ap (λ g. moved l (undo_by code g s t (object_at s.object w) ks w)) (setting.finalize t)))

    -- Each part -------------------------------------------------------------------------------------------

    part_runs : (n : ℕ) → PartsRun n
    part_runs zero s t ks c l w s0 was less plain held inside known le fits first = absurd (omega (arith, less))
    part_runs (suc n) s t ks c l w s0 was less plain held inside known le fits first = by (parts_of code t) refl (part_runs n) first
      where
        agrees : AgreesOn k code default t
        agrees = setting.agrees default constants t plain

        old : t ≤ n
        old = omega (arith, less)

        by : (p : Parts) → parts_of code t ≡ p → PartsRun n → step ask code s0 ≡ moved l (undo_part code p s t ks w) → Undoes 0 0 s0 c ks (finalize_part K Failed (These paths) (suc n) s t c l w)
        by PartsOf.Plain is parts go = absurd (let none : true ≡ false = sym held ∙ agrees.has ∙ ap has_part is in cc)
        by PartsOf.Within is parts go =
            let not : is_controlled k t ≡ false = agrees.itself ∙ ap is_itself is in
            within_runs n parts s t was old plain inside ks known s0 c le l w fits (ap (λ b. b && any_of (same_list s.path) paths) not) go
        by PartsOf.Controlled is parts go =
            controlled_runs n parts s t was old plain inside ks known s0 c le l w fits (agrees.itself ∙ ap is_itself is) (any_of (same_list s.path) paths) refl
            (go ∙ ap (λ ps. moved l (undo_own code (any_of (same_list s.path) ps) s t ks w)) known)

    -- A new object ----------------------------------------------------------------------------------------

    -- once its parts are finalized, it is finalized, and Program_Error is raised
    abbrev then_ends : ℕ → Result Bool → Act Bool
    then_ends n = on_goes (λ b. change (end_finalization n) >> done b)

    abbrev then_raises : ℕ → Result Bool → Act Done
    then_raises n r c l w = bind (bind (then_ends n r c l w) (on_goes (λ _. nothing))) (on_goes (λ _. raise program_error))

    undone_is : (n t c : ℕ) (l : Log) (w : World) → (clean_up_copy K (whole_spot n) t paths >> raise program_error) c l w ≡ bind (finalize_part K Failed (These paths) (depth k) (whole_spot n) t c l (begin_finalization n w)) (then_raises n)
    unfolding clean_up_copy same_list opened_finalization opened_outcome depth
    undone_is n t c l w =
        let parts = finalize_part K Failed (These paths) (depth k) (whole_spot n) t c l (begin_finalization n w) in
        ap (λ x. bind (bind x (on_goes (λ _. nothing))) (on_goes (λ _. raise program_error))) (add_none (bind parts (then_ends n)))
        ∙ ap (λ x. bind x (on_goes (λ _. raise program_error))) (bind_bind parts (then_ends n) (on_goes (λ _. nothing)))
        ∙ bind_bind parts (λ r c1 l1 w1. bind (then_ends n r c1 l1 w1) (on_goes (λ _. nothing))) (on_goes (λ _. raise program_error))

    -- from the step that begins with its parts, its finalization having begun
    pub undone_runs : (n t : ℕ) (ks : List Frame) (c : ℕ) (l : Log) (w : World) (s0 : State) → object_at n wr ≡ Some o → IsPlainType k (Record t) → has_controlled k (Record t) ≡ true → IsDeclarable code around t → c ≤ bound → Since k code wr w → step ask code s0 ≡ moved l (undo_part code (parts_of code t) (whole_spot n) t (Undoing n paths ∷ ks) (begin_finalization n w))
        → Runs ask code (Fallen k code wr) {A = Done} 1 1 s0 c (returns ks) ((clean_up_copy K (whole_spot n) t paths >> raise program_error) c l w)
    unfolding picked opened_outcome
    undone_runs n t ks c l w s0 was plain held inside le fits first =
        subst (Runs ask code (Fallen k code wr) 1 1 s0 c (returns ks)) (sym (undone_is n t c l w))
        (both ask code (Sure k code wr) (Fallen k code wr) 0 0 1 1 1 1 s0 c (undone (Undoing n paths ∷ ks)) (returns ks) _ _ (omega arith) (omega arith) (omega arith)
        (part_runs (depth k) (whole_spot n) t (Undoing n paths ∷ ks) c l (begin_finalization n w) s0 was (within_depth k t plain) plain held inside refl le (since_begin k code n wr w fits) first)
        rest)
      where
        rest : (r : Result Bool) (c1 : ℕ) (l1 : Log) (w1 : World) → c1 ≤ c → Sure k code wr (way_of r) w1 → Runs ask code (Fallen k code wr) 1 1 (undone (Undoing n paths ∷ ks) r l1 w1) c1 (returns ks) (then_raises n r c1 l1 w1)
        rest (Goes b) c1 l1 w1 lo sure = last_step ask code (Fallen k code wr) 1 1 _ c1 0 (returns {A = Done} ks) (Leaves (ByRaise program_error)) l1 (end_finalization n w1) (omega arith) (tt, since_end k code n wr w1 sure.1) refl
        rest (Leaves y) c1 l1 w1 lo sure = absurd sure.0

  -- a copy of which an Adjust failed, from the step that finds it
  pub failed_copy_runs : (wr : World) (o : Object) → Fits k code wr → (born : Birth) (a : Adjusted) (n t : ℕ) (ks : List Frame) (c : ℕ) (l : Log) (w : World) (s0 : State) → a.failed ≡ true → object_at n wr ≡ Some o → IsPlainType k (Record t) → has_controlled k (Record t) ≡ true → IsDeclarable code (length (home_of o.origin wr)) t → c ≤ bound → Since k code wr w → step ask code s0 ≡ moved l (undo_part code (parts_of code t) (whole_spot n) t (Undoing n a.paths ∷ ks) (begin_finalization n w))
      → Runs ask code (Fallen k code wr) 1 1 s0 c (returns ks) (adjusted K (Some born) (whole_spot n) t a c l w)
  unfolding adjusted opened_outcome
  failed_copy_runs wr o fits_then born a n t ks c l w s0 failed was plain held inside le fits first =
      subst (λ b. Runs ask code (Fallen k code wr) 1 1 s0 c (returns ks) (either b (clean_up_copy K (whole_spot n) t a.paths >> raise program_error) nothing c l w)) (sym failed)
      (undone_runs a.paths wr o fits_then n t ks c l w s0 was plain held inside le fits first)
