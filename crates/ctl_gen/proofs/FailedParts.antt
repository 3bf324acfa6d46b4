-- The clean-up of a part whose creation failed: what is complete of it is finalized, and the exception goes on, or Program_Error (7.6.1).
use Rattle.std.proofs.Common.{◌≡◌, ℕ, suc, ◌<◌, ◌≤◌, List, [], ◌∷◌, ◌++◌, length, Option, Some, None, Bool, true, false, refl, sym, ap, ◌∙◌, subst, arith}
use Rattle.std.specs.Prelude.{not, ◌&&◌, ◌||◌, if◌then◌else◌}
use Rattle.ctl_program.specs.declared.types.Ty.TheVariants.{Record}
use Rattle.ctl_tree.specs.declared.event.Cause.TheVariants.{Failed}
use Rattle.ctl_tree.specs.declared.event.Event.TheVariants as EventOf
use Rattle.ctl_meaning.specs.World.{Object, Log, World}
use Rattle.ctl_meaning.specs.Lists.{any_of, begins, keep, same_list}
use Rattle.ctl_meaning.specs.Changes.{object_at, begin_finalization, end_finalization, home_of}
use Rattle.ctl_meaning.specs.Choice.{Ask, picked}
use Rattle.ctl_meaning.specs.Outcome.{program_error, Way, ByRaise, Result, Goes, Leaves, Act, Done, Fine, Raised, add, attempt, bind, change, done, either, on_goes, when, ◌>>=◌, ◌>>◌, opened_outcome}
use Rattle.ctl_meaning.specs.Types.{Tables, Placed, depth, has_controlled, is_controlled, of_record, operation, placed}
use Rattle.ctl_meaning.specs.Names.{Call, Default, Tools}
use Rattle.ctl_meaning.specs.Finalization.{Spot, Chosen, Every, These, after_finalize, call_operation, component_at, finalize_part, in_any_order, is_whole, parts_to_finalize, part_of, opened_finalization}
use Rattle.ctl_meaning.specs.Initialization.{clean_up, failed_with, paths_of, paths_within, opened_initialization}
use Rattle.ctl_code.specs.declared.code.Begun.{Begun}
use Rattle.ctl_code.specs.declared.code.Code.{Code}
use Rattle.ctl_code.specs.States.{Complete, Frame, Failing, FinalizingParts, State}
use Rattle.ctl_code.specs.Table as Table
use Rattle.ctl_code.specs.Table.{complete_of, controlled_of, handed, is_one_of}
use Rattle.ctl_code.specs.Steps.{moved, step}
use Rattle.ctl_code.specs.Valid.{IsDeclarable}
use Rattle.ctl_gen.proofs.Known.{IsPlainType}
use Rattle.ctl_gen.proofs.Parted.{GivesDefaults, have_kept}
use Rattle.ctl_gen.proofs.Each.{Each, each_all}
use Rattle.ctl_gen.proofs.Worlds.{Fits, Since, since_begin, since_end, since_on}
use Rattle.ctl_gen.proofs.Scopes.{controlled_inside, kept_inside, still_surrounded}
use Rattle.ctl_gen.proofs.Setting.{Setting, tools_with, returns, Calls, Sure, Told}
use Rattle.ctl_gen.proofs.FinalizedParts.{heard, keep_passes, left_run, part_runs, tells}
use Rattle.ctl_gen.proofs.Finalize.{within_depth, within_table}
use Rattle.ctl_gen.proofs.ChosenParts.{Alike, AreKept, IsHeld, both_same, each_both, each_kept, held_parts, keep_keep, keep_same_on, kept_some, longer_differs, orders_same, same_part, same_position, some_path}
use Rattle.ctl_gen.proofs.Follow.{IsRaise, Runs, add_none, added, bind_add, bind_bind, both, gives, last_step, one_step, way_of}

-- a failed creation is left by an exception
abbrev pub IsFailed : Option Way → Type 0
IsFailed None = ⊥
IsFailed (Some y) = IsRaise y

abbrev pub Fallen : (k : Tables) (code : Code) → World → Option Way → World → Type 0
Fallen k code w0 y w = IsFailed y × Since k code w0 w

-- since an earlier world, too
pub fallen_on : (k : Tables) (code : Code) (w0 w w1 : World) (y : Option Way) → Since k code w0 w → Fallen k code w y w1 → Fallen k code w0 y w1
fallen_on k code w0 w w1 y h g = (g.0, since_on k code w0 w w1 h g.1)

-- a body, too, is left by nothing else
pub fallen_told : (k : Tables) (code : Code) (w0 w : World) (y : Option Way) → Fallen k code w0 y w → Told k code w0 y w
fallen_told k code w0 w None h = absurd h.0
fallen_told k code w0 w (Some y) h = h

-- What is complete ----------------------------------------------------------------------------------

-- a path is that of a part of a component whose position is not among those of these
abbrev pub StandsIn : Spot → List Begun → List ℕ → Type 0
StandsIn s incomplete r = (position : ℕ) × (is_one_of position incomplete ≡ false) × (begins (s.path ++ position ∷ []) r ≡ true)

-- of a part, all but these components are complete: the paths that are kept are those of the controlled parts in the others
pub record AreComplete (K : Tools) (s : Spot) (t : ℕ) (paths : List (List ℕ)) (incomplete : List Begun) : Type 0 where
  pub held : Each (λ p. has_controlled K.tables p.ty ≡ true → is_one_of p.position incomplete ≡ false → AreKept paths (paths_of K s p)) (placed K.tables t)
  pub told : Each (StandsIn s incomplete) paths

none_of : {A : Type 0} (f : A → Bool) (xs : List A) → Each (λ x. f x ≡ false) xs → any_of f xs ≡ false
unfolding any_of
none_of f [] h = refl
none_of f (x ∷ xs) h = ap (λ b. b || any_of f xs) h.0 ∙ none_of f xs h.1

pub and_false : (b : Bool) → (b && false) ≡ false
and_false true = refl
and_false false = refl

-- where none is incomplete, all are complete
pub all_complete : (code : Code) (t : ℕ) → complete_of code t [] ≡ controlled_of code t
unfolding keep any_of
all_complete code t = by (controlled_of code t)
  where
    by : (xs : List Begun) → keep (λ (x : Begun). not (is_one_of x.position [])) xs ≡ xs
    by [] = refl
    by (x ∷ xs) = ap (λ ys. x ∷ ys) (by xs)

module _ (ask : Ask) (k : Tables) (code : Code) (setting : Setting k code) (call : Call) (default : Default) (constants : GivesDefaults k default) where
  abbrev K : Tools
  K = tools_with ask k call default

  -- What the clean-up means -------------------------------------------------------------------------

  abbrev components_by : Chosen → ℕ → Spot → Placed → Act Bool
  components_by want n s p = of_record (done false) (finalize_part K Failed want n (component_at s p)) p.ty

  -- the components with a controlled part that are complete
  abbrev complete_parts : ℕ → List Begun → List Placed
  complete_parts t incomplete = keep (λ p. not (is_one_of p.position incomplete)) (keep (λ p. has_controlled k p.ty) (placed k t))

  -- they are finalized
  abbrev in_turn : Spot → ℕ → List Begun → Act Bool
  in_turn s t incomplete = in_any_order K (components_by Every (length k.records) s) (length (complete_parts t incomplete)) (complete_parts t incomplete) false

  -- and then the exception goes on
  abbrev then_fails : Spot → ℕ → Result Bool → Act Done
  then_fails s e r c l w = bind (on_goes (λ b. when (is_whole s) (change (end_finalization s.object)) >> done b) r c l w) (on_goes (failed_with e))

  module _ (s : Spot) (t : ℕ) (paths : List (List ℕ)) (incomplete : List Begun) (plain : IsPlainType k (Record t)) (known : AreComplete K s t paths incomplete) where
    -- the part itself is not complete
    not_whole : any_of (same_list s.path) paths ≡ false
    not_whole = none_of (same_list s.path) paths (each_all (StandsIn s incomplete) (λ r. same_list s.path r ≡ false) (λ r h. longer_differs s.path r h.0 h.2) paths known.told)

    -- nor is a component at such a position, or a part of it
    not_begun : (n : ℕ) → is_one_of n incomplete ≡ true → any_of (begins (s.path ++ n ∷ [])) paths ≡ false
    not_begun n one = none_of (begins (s.path ++ n ∷ [])) paths (each_all (StandsIn s incomplete) (λ r. begins (s.path ++ n ∷ []) r ≡ false) differs paths known.told)
      where
        differs : (r : List ℕ) → StandsIn s incomplete r → begins (s.path ++ n ∷ []) r ≡ false
        differs r h = by (begins (s.path ++ n ∷ []) r) refl
          where
            by : (b : Bool) → begins (s.path ++ n ∷ []) r ≡ b → begins (s.path ++ n ∷ []) r ≡ false
            by true is = absurd (let same : n ≡ h.0 = same_position s.path r n h.0 is h.2 in let bad : true ≡ false = sym one ∙ ap (λ m. is_one_of m incomplete) same ∙ h.1 in cc)
            by false is = is

    abbrev Known : Placed → Type 0
    Known p = (has_controlled k p.ty ≡ true → is_one_of p.position incomplete ≡ false → AreKept paths (paths_of K s p)) × (has_controlled k p.ty ≡ true → IsHeld k t p)

    each_known : Each Known (placed k t)
    each_known = each_both _ _ (placed k t) known.held (held_parts ask k code setting call default constants t plain)

    -- the paths of a component that is complete are kept
    kept_in : (p : Placed) (held : IsHeld k t p) → AreKept paths (paths_of K s p) → AreKept paths (paths_within K (depth k) (s.path ++ p.position ∷ []) held.number)
    unfolding paths_of component_at of_record
    kept_in p held h = subst (AreKept paths) (ap (of_record [] (paths_within K (depth k) (s.path ++ p.position ∷ []))) held.ty) h

    before : (p : Placed) (held : IsHeld k t p) → held.number < length k.records
    unfolding depth
    before p held = let less = held.less in let small : t < suc (length k.records) = within_depth k t plain in omega (arith, less, small)

    one_chosen : (p : Placed) → Known p → has_controlled k p.ty ≡ true → any_of (begins (s.path ++ p.position ∷ [])) paths ≡ not (is_one_of p.position incomplete)
    one_chosen p x has = by (is_one_of p.position incomplete) refl
      where
        by : (b : Bool) → is_one_of p.position incomplete ≡ b → any_of (begins (s.path ++ p.position ∷ [])) paths ≡ not b
        by true is = not_begun p.position is
        by false is =
            let held = x.1 has in
            kept_some (begins (s.path ++ p.position ∷ [])) (paths_within K (depth k) (s.path ++ p.position ∷ []) held.number) paths (kept_in p held (x.0 has is))
            (some_path ask k code setting call default constants (depth k) (s.path ++ p.position ∷ []) held.number (within_depth k held.number held.plain) held.plain (ap (has_controlled k) (sym held.ty) ∙ has))

    parts_are : parts_to_finalize K (These paths) s t ≡ complete_parts t incomplete
    unfolding opened_finalization
    parts_are =
        keep_same_on (λ p. has_controlled k p.ty && any_of (begins (s.path ++ p.position ∷ [])) paths) (λ p. has_controlled k p.ty && not (is_one_of p.position incomplete)) (placed k t)
        (each_all Known (λ p. (has_controlled k p.ty && any_of (begins (s.path ++ p.position ∷ [])) paths) ≡ (has_controlled k p.ty && not (is_one_of p.position incomplete))) (λ p x. both_same (has_controlled k p.ty) _ _ (one_chosen p x)) (placed k t) each_known)
        ∙ keep_keep (λ p. has_controlled k p.ty) (λ p. not (is_one_of p.position incomplete)) (placed k t)

    one_alike : (p : Placed) → Known p → has_controlled k p.ty ≡ true → not (is_one_of p.position incomplete) ≡ true → Alike (components_by (These paths) (length k.records) s) (components_by Every (length k.records) s) p
    unfolding component_at of_record
    one_alike p x has test c l w =
        let held = x.1 has in
        subst (λ ty. of_record (done false) (finalize_part K Failed (These paths) (length k.records) (component_at s p)) ty c l w ≡ of_record (done false) (finalize_part K Failed Every (length k.records) (component_at s p)) ty c l w) (sym held.ty)
        (by held (is_one_of p.position incomplete) refl test)
      where
        by : (held : IsHeld k t p) → (b : Bool) → is_one_of p.position incomplete ≡ b → not b ≡ true → of_record (done false) (finalize_part K Failed (These paths) (length k.records) (component_at s p)) (Record held.number) c l w ≡ of_record (done false) (finalize_part K Failed Every (length k.records) (component_at s p)) (Record held.number) c l w
        by held true is e = absurd (cc e)
        by held false is e = same_part ask k code setting call default constants Failed paths (length k.records) (depth k) (component_at s p) held.number (before p held) (within_depth k held.number held.plain) held.plain (kept_in p held (x.0 has is)) c l w

    alike : Each (Alike (components_by (These paths) (length k.records) s) (components_by Every (length k.records) s)) (complete_parts t incomplete)
    alike =
        each_kept (Alike (components_by (These paths) (length k.records) s) (components_by Every (length k.records) s)) (λ p. not (is_one_of p.position incomplete)) (keep (λ p. has_controlled k p.ty) (placed k t))
        (each_kept (λ p. not (is_one_of p.position incomplete) ≡ true → Alike (components_by (These paths) (length k.records) s) (components_by Every (length k.records) s) p) (λ p. has_controlled k p.ty) (placed k t)
        (each_all Known (λ p. has_controlled k p.ty ≡ true → not (is_one_of p.position incomplete) ≡ true → Alike (components_by (These paths) (length k.records) s) (components_by Every (length k.records) s) p) one_alike (placed k t) each_known))

    -- what is complete of the part is finalized
    top_is : (c : ℕ) (l : Log) (w : World) → finalize_part K Failed (These paths) (depth k) s t c l w ≡ add 1 (in_turn s t incomplete c l w)
    unfolding opened_finalization opened_outcome depth of_record
    top_is c l w =
        ap (λ b. add 1 (bind (either b (attempt (call_operation K s (operation (λ x. x.finalize) k t) (EventOf.Finalize (part_of s) Failed)) >>= after_finalize Failed) (done false) c l w) (on_goes (in_any_order K (components_by (These paths) (length k.records) s) (length (parts_to_finalize K (These paths) s t)) (parts_to_finalize K (These paths) s t))))) (ap (λ b. is_controlled k t && b) not_whole ∙ and_false (is_controlled k t))
        ∙ ap (add 1) (add_none (in_any_order K (components_by (These paths) (length k.records) s) (length (parts_to_finalize K (These paths) s t)) (parts_to_finalize K (These paths) s t) false c l w)
        ∙ ap (λ ps. in_any_order K (components_by (These paths) (length k.records) s) (length ps) ps false c l w) parts_are
        ∙ orders_same K (components_by (These paths) (length k.records) s) (components_by Every (length k.records) s) (λ c1 l1 w1. refl) (length (complete_parts t incomplete)) (complete_parts t incomplete) alike false c l w)

    failed_is : (e c : ℕ) (l : Log) (w : World) → clean_up K s t paths e c l w ≡ add 1 (bind (in_turn s t incomplete c l (begin_finalization s.object w)) (then_fails s e))
    unfolding opened_finalization opened_initialization opened_outcome
    failed_is e c l w =
        let w1 = begin_finalization s.object w in
        let ends = on_goes (λ b. when (is_whole s) (change (end_finalization s.object)) >> done b) in
        ap (λ x. bind x (on_goes (failed_with e))) (add_none (bind (finalize_part K Failed (These paths) (depth k) s t c l w1) ends))
        ∙ bind_bind (finalize_part K Failed (These paths) (depth k) s t c l w1) ends (on_goes (failed_with e))
        ∙ ap (λ x. bind x (then_fails s e)) (top_is c l w1)
        ∙ bind_add 1 (in_turn s t incomplete c l w1) (then_fails s e)

  -- What the machine does ---------------------------------------------------------------------------

  module _ (bound : ℕ) (calls : Calls ask k code setting bound call) (wr : World) (o : Object) (fits_then : Fits k code wr) where
    -- from the step that finds that the creation failed. The object was there in an earlier world
    pub failed_runs : (s : Spot) (t : ℕ) (paths : List (List ℕ)) (incomplete : List Begun) (e : ℕ) (ks : List Frame) (c : ℕ) (l : Log) (w : World) (s0 : State) → object_at s.object wr ≡ Some o → IsPlainType k (Record t) → IsDeclarable code (length (home_of o.origin wr)) t → AreComplete K s t paths incomplete → c ≤ bound → Since k code wr w → step ask code s0 ≡ moved l (Table.fail s (complete_of code t incomplete) e ks w) → Runs ask code (Fallen k code wr) 0 0 s0 c (returns ks) (clean_up K s t paths e c l w)
    unfolding picked opened_outcome failed_with
    failed_runs s t paths incomplete e ks c l w s0 was plain inside known le fits first =
        subst (Runs ask code (Fallen k code wr) 0 0 s0 c (returns ks)) (sym (failed_is s t paths incomplete plain known e c l w))
        (added ask code (Fallen k code wr) 1 3 3 0 0 s0 c (returns ks) _ (omega arith) (omega arith)
        (one_step ask code (Fallen k code wr) 2 2 3 3 s0 s1 c c (returns ks) _ (omega arith) (omega arith) (omega arith) (omega arith) first
        (both ask code (Sure k code wr) (Fallen k code wr) 1 1 1 1 2 2 s1 c (tells frames) (returns ks) _ _ (omega arith) (omega arith) (omega arith)
        (left_run ask k code setting call default constants bound calls None Failed wr (length (home_of o.origin wr)) (length k.records) (part_runs ask k code setting call default constants bound calls None Failed wr (length (home_of o.origin wr)) (length k.records)) s t frames (refl, still_surrounded k code wr s.object o fits_then was) old (length (complete_parts t incomplete)) Complete false c l (begin_finalization s.object w) (complete_parts t incomplete) (complete_of code t incomplete) refl
        (have_kept k t (λ n. not (is_one_of n incomplete)) _ _ (setting.agrees default constants t plain).controlled)
        (each_kept (λ p. has_controlled k p.ty ≡ true) (λ p. not (is_one_of p.position incomplete)) _ (each_all (λ p. has_controlled k p.ty ≡ true) (λ p. not (is_one_of p.position incomplete) ≡ true → has_controlled k p.ty ≡ true) (λ p has test. has) _ (keep_passes (λ p. has_controlled k p.ty) (placed k t))))
        (kept_inside code (length (home_of o.origin wr)) (λ x. not (is_one_of x.position incomplete)) (controlled_of code t) (controlled_inside code setting.valid (length (home_of o.origin wr)) t inside))
        le (since_begin k code s.object wr w fits))
        rest)))
      where
        frames : List Frame
        frames = Failing s e ∷ ks

        s1 : State
        s1 = gives (FinalizingParts Failed s (complete_of code t incomplete) false ∷ Failing s e ∷ ks) (Fine Complete) l (begin_finalization s.object w)

        old : t ≤ length k.records
        old = within_table k t plain

        since : (whole : Bool) (w1 : World) → Since k code wr w1 → Since k code wr (if whole then end_finalization s.object w1 else w1)
        since true w1 h = since_end k code s.object wr w1 h
        since false w1 h = h

        -- the exception goes on, or Program_Error
        fails : (b whole : Bool) (c1 : ℕ) (l1 : Log) (w1 : World) → Since k code wr w1 → step ask code (gives (Failing s e ∷ ks) (Fine (handed b)) l1 w1) ≡ gives ks (Raised (Table.failed_with e b)) l1 (if whole then end_finalization s.object w1 else w1) → Runs ask code (Fallen k code wr) 1 1 (gives (Failing s e ∷ ks) (Fine (handed b)) l1 w1) c1 (returns {A = Done} ks) (bind (bind (when whole (change (end_finalization s.object)) c1 l1 w1) (on_goes (λ _. done b))) (on_goes (failed_with e)))
        fails true true c1 l1 w1 fits1 go = last_step ask code (Fallen k code wr) 1 1 _ c1 0 (returns {A = Done} ks) (Leaves (ByRaise program_error)) l1 (end_finalization s.object w1) (omega arith) (tt, since true w1 fits1) go
        fails true false c1 l1 w1 fits1 go = last_step ask code (Fallen k code wr) 1 1 _ c1 0 (returns {A = Done} ks) (Leaves (ByRaise program_error)) l1 w1 (omega arith) (tt, fits1) go
        fails false true c1 l1 w1 fits1 go = last_step ask code (Fallen k code wr) 1 1 _ c1 0 (returns {A = Done} ks) (Leaves (ByRaise e)) l1 (end_finalization s.object w1) (omega arith) (tt, since true w1 fits1) go
        fails false false c1 l1 w1 fits1 go = last_step ask code (Fallen k code wr) 1 1 _ c1 0 (returns {A = Done} ks) (Leaves (ByRaise e)) l1 w1 (omega arith) (tt, fits1) go

        rest : (r : Result Bool) (c1 : ℕ) (l1 : Log) (w1 : World) → c1 ≤ c → Sure k code wr (way_of r) w1 → Runs ask code (Fallen k code wr) 1 1 (tells frames r l1 w1) c1 (returns ks) (then_fails s e r c1 l1 w1)
        rest (Goes b) c1 l1 w1 lo sure = fails b (is_whole s) c1 l1 w1 sure.1 (ap (λ d. gives ks (Raised (Table.failed_with e d)) l1 (if is_whole s then end_finalization s.object w1 else w1)) (heard b))
        rest (Leaves y) c1 l1 w1 lo sure = absurd sure.0

    -- the same where all components are complete, and the part's own Initialize failed
    pub failed_all : (s : Spot) (t : ℕ) (paths : List (List ℕ)) (e : ℕ) (ks : List Frame) (c : ℕ) (l : Log) (w : World) (s0 : State) → object_at s.object wr ≡ Some o → IsPlainType k (Record t) → IsDeclarable code (length (home_of o.origin wr)) t → AreComplete K s t paths [] → c ≤ bound → Since k code wr w → step ask code s0 ≡ moved l (Table.fail s (controlled_of code t) e ks w) → Runs ask code (Fallen k code wr) 0 0 s0 c (returns ks) (clean_up K s t paths e c l w)
    failed_all s t paths e ks c l w s0 was plain inside known le fits first = failed_runs s t paths [] e ks c l w s0 was plain inside known le fits (first ∙ ap (λ xs. moved l (Table.fail s xs e ks w)) (sym (all_complete code t)))
