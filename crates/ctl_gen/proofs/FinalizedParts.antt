-- The finalization of a part of an object: the part first, where it is controlled, and then its components with a controlled part, in an
-- order that is chosen (7.6.1).
use Rattle.std.proofs.Common.{◌≡◌, ℕ, zero, suc, ◌+◌, ◌<◌, ◌≤◌, List, [], ◌∷◌, length, Option, Some, None, Bool, true, false, refl, sym, ap, ◌∙◌, subst, arith, inr}
use Rattle.std.specs.Prelude.{slice_get, ◌&&◌, ◌||◌, if◌then◌else◌}
use Rattle.ctl_program.specs.declared.types.Ty.TheVariants.{Record}
use Rattle.ctl_program.specs.declared.operators.SubprogramKind.TheVariants.{Procedure}
use Rattle.ctl_tree.specs.declared.ending.Stop.TheVariants.{UseAfterFree}
use Rattle.ctl_tree.specs.declared.event.Event.{Event}
use Rattle.ctl_tree.specs.declared.event.Event.TheVariants as EventOf
use Rattle.ctl_tree.specs.declared.event.Cause.{Cause}
use Rattle.ctl_tree.specs.declared.event.Cause.TheVariants.{Assign}
use Rattle.ctl_meaning.specs.World.{Object, Binds, holding, Log, World}
use Rattle.ctl_meaning.specs.Lists.{keep, pull_item, pull_rest}
use Rattle.ctl_meaning.specs.Changes.{object_at, home_of}
use Rattle.ctl_meaning.specs.Choice.{Ask, picked}
use Rattle.ctl_meaning.specs.Outcome.{program_error, raised_by, Way, Result, Goes, Leaves, Out, Gives, Stops, Cut, Act, Fine, Raised, ByRaise, add, attempt, bind, on_goes, ◌>>=◌, ◌>>◌, done, nothing, tell, show, look, told, either, on_some, opened_outcome}
use Rattle.ctl_meaning.specs.Types.{Tables, Placed, has_controlled, is_controlled, operation, of_record, placed}
use Rattle.ctl_meaning.specs.Names.{OfSubprogram, Returned, Call, Default, Tools, gone, opened_names}
use Rattle.ctl_meaning.specs.Finalization.{Spot, Every, no_component, component_at, call_operation, after_finalize, in_any_order, parts_to_finalize, finalize_part, opened_finalization}
use Rattle.ctl_code.specs.declared.code.Begun.{Begun}
use Rattle.ctl_code.specs.declared.code.Parts.{Parts}
use Rattle.ctl_code.specs.declared.code.Parts.TheVariants as PartsOf
use Rattle.ctl_code.specs.declared.code.Code.{Code}
use Rattle.ctl_code.specs.States.{Handed, Complete, AfterBody, Frame, FinalizingOwn, FinalizingParts, State}
use Rattle.ctl_code.specs.Table as Table
use Rattle.ctl_code.specs.Table.{assigning_in, called_among, component_of, controlled_of, enter_body, finalize_component, finalize_left, finalize_own, handed, has_part, operation_of, or_complete, own_failed, part_at, parts_of, says_failed}
use Rattle.ctl_code.specs.Steps.{moved, step, stepped}
use Rattle.ctl_code.specs.Valid.{AreBegunBy, IsBegunBy, IsDeclarable}
use Rattle.ctl_gen.proofs.Known.{IsPlainType}
use Rattle.ctl_gen.proofs.Parted.{AgreesOn, GivesDefaults, HasPart, HaveParts, component_is, is_itself, parts_length, parts_pulled, parts_rest}
use Rattle.ctl_gen.proofs.Picks.{next_in_order, none_in_order, picked_less, rest_length}
use Rattle.ctl_gen.proofs.Each.{Each}
use Rattle.ctl_gen.proofs.Worlds.{Since}
use Rattle.ctl_gen.proofs.Scopes.{IsSurrounded, controlled_inside, declarable_later, finalize_in, pulled_inside, rest_inside}
use Rattle.ctl_gen.proofs.Setting.{Setting, called, called_is, tools_with, returns, IsSure, Told, Calls, enter_shows}
use Rattle.ctl_gen.proofs.Follow.{IsRaise, by_raise, Comes, Runs, gives, way_of, added, after_comes, both, last_step, one_step, stop_step, more_quits, more_halts}

-- whether a finalization failed is what it hands on, unless an exception leaves it
abbrev pub tells : List Frame → Result Bool → Log → World → State
tells ks (Goes b) l w = gives ks (Fine (handed b)) l w
tells ks (Leaves y) l w = gives ks (or_complete (raised_by y)) l w

pub heard : (b : Bool) → says_failed (Fine (handed b)) ≡ b
heard true = refl
heard false = refl

-- Lists ---------------------------------------------------------------------------------------------

pub each_pulled : {A : Type 0} (P : A → Type 0) (d : A) (i : ℕ) (xs : List A) → Each P xs → i < length xs → P (pull_item d i xs)
unfolding pull_item
each_pulled P d i [] h less = absurd (omega (arith, less))
each_pulled P d zero (x ∷ xs) h less = h.0
each_pulled P d (suc i) (x ∷ xs) h less = each_pulled P d i xs h.1 (omega (arith, less))

pub each_left : {A : Type 0} (P : A → Type 0) (i : ℕ) (xs : List A) → Each P xs → Each P (pull_rest i xs)
unfolding pull_rest
each_left P i [] h = tt
each_left P zero (x ∷ xs) h = h.1
each_left P (suc i) (x ∷ xs) h = (h.0, each_left P i xs h.1)

-- what is kept passes the test
pub keep_passes : {A : Type 0} (p : A → Bool) (xs : List A) → Each (λ x. p x ≡ true) (keep p xs)
unfolding keep
keep_passes p [] = tt
keep_passes p (x ∷ xs) = one (p x) refl (keep_passes p xs)
  where
    one : (b : Bool) → p x ≡ b → Each (λ y. p y ≡ true) (keep p xs) → Each (λ y. p y ≡ true) (if b then x ∷ keep p xs else keep p xs)
    one true is rest = (is, rest)
    one false is rest = rest

-- the same test
pub keep_same : {A : Type 0} (p q : A → Bool) → ((x : A) → p x ≡ q x) → (xs : List A) → keep p xs ≡ keep q xs
unfolding keep
keep_same p q same [] = refl
keep_same p q same (x ∷ xs) = ap (λ b. if b then x ∷ keep p xs else keep p xs) (same x) ∙ ap (λ ys. if q x then x ∷ ys else ys) (keep_same p q same xs)

pub and_true : (b : Bool) → (b && true) ≡ b
and_true true = refl
and_true false = refl

or_false : (b : Bool) → (b || false) ≡ b
or_false true = refl
or_false false = refl

-- Causes --------------------------------------------------------------------------------------------

-- what leaves a finalization: in an assignment Program_Error may, and for another cause nothing does
abbrev pub IsPassed : Cause → Option Way → Type 0
IsPassed Assign None = Unit {0}
IsPassed Assign (Some y) = y ≡ ByRaise program_error
IsPassed cause y = IsSure y

abbrev pub Passed : (k : Tables) (code : Code) → Cause → World → Option Way → World → Type 0
Passed k code cause w0 y w = IsPassed cause y × Since k code w0 w

none_passed : (cause : Cause) → IsPassed cause None
none_passed Assign = tt
none_passed cause = tt

raise_passed : (cause : Cause) (y : Way) → IsPassed cause (Some y) → IsRaise y
raise_passed Assign y h = subst IsRaise (sym h) tt
raise_passed cause y h = absurd h

-- an exception of a Finalize is remembered, and the others follow; or another one leaves the finalization at once
data OnFailure (cause : Cause) : Type 0 where
  Remembers : (meant : (e c : ℕ) (l : Log) (w : World) → after_finalize cause (Raised e) c l w ≡ Gives (Goes true) 0 c l w) (run : (code : Code) (s : Spot) (t : ℕ) (ks : List Frame) (w : World) → own_failed code cause s t ks w ≡ finalize_left cause s (controlled_of code t) true ks w) → OnFailure cause
  Raises : (x : ℕ) (meant : (e c : ℕ) (l : Log) (w : World) → after_finalize cause (Raised e) c l w ≡ Gives (Leaves (ByRaise x)) 0 c l w) (run : (code : Code) (s : Spot) (t : ℕ) (ks : List Frame) (w : World) → own_failed code cause s t ks w ≡ Table.gives (Raised x) ks w) (passed : IsPassed cause (Some (ByRaise x))) → OnFailure cause

on_failure : (cause : Cause) → OnFailure cause
unfolding opened_finalization opened_outcome
on_failure Assign = Raises program_error (λ e c l w. refl) (λ code s t ks w. refl) refl
on_failure cause = Remembers (λ e c l w. refl) (λ code s t ks w. refl)

-- Calls ---------------------------------------------------------------------------------------------

-- an operation that the user wrote is called for a part of an object that exists
pub call_is : (ask : Ask) (k : Tables) (call : Call) (default : Default) (f : ℕ) (s : Spot) (c : ℕ) (e : Event) (l : Log) (w : World) (o : Object) → object_at s.object w ≡ Some o → call_operation (tools_with ask k call default) s (Some f) e c l w ≡ bind (add 0 (call (OfSubprogram f (holding (Binds s.object s.offset s.path) ∷ [])) (home_of o.origin w) c (tell e l) w)) (on_goes (λ _. nothing))
unfolding opened_finalization opened_outcome opened_names
call_is ask k call default f s c e l w o at = ap (λ x. on_some x gone (λ o1. look (λ w1. show e >> call (OfSubprogram f (holding (Binds s.object s.offset s.path) ∷ [])) (home_of o1.origin w1) >> nothing)) c l w) at

-- among the masters of a statement that assigns, if one does
pub call_among : (ask : Ask) (k : Tables) (assigning : Option (List ℕ)) (call : Call) (default : Default) (f : ℕ) (s : Spot) (c : ℕ) (e : Event) (l : Log) (w : World) (o : Object) → object_at s.object w ≡ Some o → call_operation (tools_with ask k (called assigning call) default) s (Some f) e c l w ≡ bind (add 0 (call (OfSubprogram f (holding (Binds s.object s.offset s.path) ∷ [])) (called_among assigning o.origin w) c (tell e l) w)) (on_goes (λ _. nothing))
call_among ask k assigning call default f s c e l w o at =
    call_is ask k (called assigning call) default f s c e l w o at
    ∙ ap (λ (m : Act Returned). bind (add 0 (m c (tell e l) w)) (on_goes (λ _. nothing))) (called_is assigning call (OfSubprogram f (holding (Binds s.object s.offset s.path) ∷ [])) o.origin w)

-- Parts ---------------------------------------------------------------------------------------------

-- for a cause, where the operations of the object have been called among so many masters since an earlier world: those of a statement that
-- assigns, if one does
module _ (ask : Ask) (k : Tables) (code : Code) (setting : Setting k code) (call : Call) (default : Default) (constants : GivesDefaults k default) (bound : ℕ) (calls : Calls ask k code setting bound call) (assigning : Option (List ℕ)) (cause : Cause) (wr : World) (around : ℕ) where
  abbrev K : Tools
  K = tools_with ask k (called assigning call) default

  -- over these frames
  abbrev pub AreAround : List Frame → ℕ → Type 0
  AreAround ks n = (assigning_in ks ≡ assigning) × IsSurrounded k code assigning wr around n

  abbrev shown : Spot → Event
  shown s = EventOf.Finalize (part_at s) cause

  -- a component
  abbrev component_by : ℕ → Spot → Placed → Act Bool
  component_by n s p = of_record (done false) (finalize_part K cause Every n (component_at s p)) p.ty

  -- the components that are left, and whether one failed
  abbrev in_turn : ℕ → Spot → ℕ → List Placed → Bool → Act Bool
  in_turn n s count left failed = in_any_order K (component_by n s) count left failed

  abbrev Finalizes : ℕ → ℕ → State → ℕ → List Frame → Out Bool → Type 0
  Finalizes b h s0 c ks x = Runs ask code (Passed k code cause wr) b h s0 c (tells ks) x

  -- the parts of types before this one are finalized as the meaning says, from the step that begins with them
  abbrev pub PartsRun : ℕ → Type 0
  PartsRun n = (s : Spot) (t : ℕ) (ks : List Frame) (c : ℕ) (l : Log) (w : World) (s0 : State) → AreAround ks s.object → t < n → IsPlainType k (Record t) → has_controlled k (Record t) ≡ true → IsDeclarable code around t → c ≤ bound → Since k code wr w → step ask code s0 ≡ moved l (Table.finalize_part code (parts_of code t) cause s t ks w) → Finalizes 0 0 s0 c ks (finalize_part K cause Every n s t c l w)

  -- the step that chooses
  choose_step : (s : Spot) (count : ℕ) (ks : List Frame) (h : Handed) (l : Log) (w : World) (x : Begun) (xs : List Begun) (failed : Bool) (a : Option (ℕ × Log)) → length (x ∷ xs) ≡ suc count → picked ask (suc count) l ≡ a → step ask code (gives (FinalizingParts cause s (x ∷ xs) failed ∷ ks) (Fine h) l w) ≡ stepped code (gives (FinalizingParts cause s (x ∷ xs) failed ∷ ks) (Fine h) l w) a
  choose_step s count ks h l w x xs failed a long is = ap (λ j. stepped code (gives (FinalizingParts cause s (x ∷ xs) failed ∷ ks) (Fine h) l w) (picked ask j l)) long ∙ ap (stepped code (gives (FinalizingParts cause s (x ∷ xs) failed ∷ ks) (Fine h) l w)) is

  -- the components that are left
  pub left_run : (n : ℕ) → PartsRun n → (s : Spot) (t : ℕ) (ks : List Frame) → AreAround ks s.object → t ≤ n → (count : ℕ) (h : Handed) (failed : Bool) (c : ℕ) (l : Log) (w : World) (left : List Placed) (xs : List Begun) → length left ≡ count → HaveParts k t left xs → Each (λ p. has_controlled k p.ty ≡ true) left → AreBegunBy code around xs → c ≤ bound → Since k code wr w → Finalizes 1 1 (gives (FinalizingParts cause s xs failed ∷ ks) (Fine h) l w) c ks (in_turn n s count left (failed || says_failed (Fine h)) c l w)
  unfolding in_any_order picked opened_outcome
  left_run n parts s t ks was old zero h failed c l w [] [] long have held inside le fits = last_step ask code (Passed k code cause wr) 1 1 _ c 0 (tells ks) (Goes (failed || says_failed (Fine h))) l w (omega arith) (none_passed cause, fits) refl
  left_run n parts s t ks was old zero h failed c l w [] (x ∷ xs) long have held inside le fits = absurd have
  left_run n parts s t ks was old zero h failed c l w (q ∷ qs) xs long have held inside le fits = absurd (omega (arith, long))
  left_run n parts s t ks was old (suc count) h failed c l w [] xs long have held inside le fits = absurd (omega (arith, long))
  left_run n parts s t ks was old (suc count) h failed c l w (q ∷ qs) [] long have held inside le fits = absurd have
  left_run n parts s t ks was old (suc count) h failed c l w (q ∷ qs) (x ∷ xs) long have held inside le fits = by (λ b c2 l2 w2 left2 xs2 long2 have2 held2 inside2 le2 fits2. left_run n parts s t ks was old count (handed b) (failed || says_failed (Fine h)) c2 l2 w2 left2 xs2 long2 have2 held2 inside2 le2 fits2) (picked ask (suc count) l) refl
    where
      -- whether one failed so far
      fell : Bool
      fell = failed || says_failed (Fine h)

      Others : Type 0
      Others = (b : Bool) (c2 : ℕ) (l2 : Log) (w2 : World) (left2 : List Placed) (xs2 : List Begun) → length left2 ≡ count → HaveParts k t left2 xs2 → Each (λ p. has_controlled k p.ty ≡ true) left2 → AreBegunBy code around xs2 → c2 ≤ bound → Since k code wr w2 → Finalizes 1 1 (gives (FinalizingParts cause s xs2 (failed || says_failed (Fine h)) ∷ ks) (Fine (handed b)) l2 w2) c2 ks (in_turn n s count left2 ((failed || says_failed (Fine h)) || says_failed (Fine (handed b))) c2 l2 w2)

      s0 : State
      s0 = gives (FinalizingParts cause s (x ∷ xs) failed ∷ ks) (Fine h) l w

      many : length (x ∷ xs) ≡ suc count
      many = let same = parts_length k t (q ∷ qs) (x ∷ xs) have in omega (arith, same, long)

      goal : Out Bool → Type 0
      goal y = Finalizes 1 1 (gives (FinalizingParts cause s (x ∷ xs) failed ∷ ks) (Fine h) l w) c ks y

      by : Others → (a : Option (ℕ × Log)) → picked ask (suc count) l ≡ a → goal (in_turn n s (suc count) (q ∷ qs) (failed || says_failed (Fine h)) c l w)
      by others None is = subst goal (sym (none_in_order K (component_by n s) count c (q ∷ qs) fell l w is)) (record { n = 0; in_time = omega arith; logged = refl; going = tt; why = inr (choose_step s count ks h l w x xs failed None many is) })
      by others (Some a) is =
          subst goal (sym (next_in_order K (component_by n s) count a.0 c (q ∷ qs) fell l a.1 w is ∙ ap (λ y. add (suc count + 0) (bind (y c a.1 w) (on_goes (λ b. in_turn n s count (pull_rest a.0 (q ∷ qs)) (fell || b))))) (component_is k t (done false) (finalize_part K cause Every n) s (pull_item no_component a.0 (q ∷ qs)) (pull_item x a.0 (x ∷ xs)) part)))
          (added ask code (Passed k code cause wr) (suc count + 0) 1 1 1 1 s0 c (tells ks) _ (omega arith) (omega arith)
          (both ask code (Passed k code cause wr) (Passed k code cause wr) 0 0 1 1 1 1 s0 c (tells frames) (tells ks) _ _ (omega arith) (omega arith) (omega arith) one rest))
        where
          less : a.0 < length (q ∷ qs)
          less = let small = picked_less ask count l a is in omega (arith, small, long)

          y : Begun
          y = pull_item x a.0 (x ∷ xs)

          part : HasPart k t (pull_item no_component a.0 (q ∷ qs)) (pull_item x a.0 (x ∷ xs))
          part = parts_pulled k t no_component x a.0 (q ∷ qs) (x ∷ xs) have less

          frames : List Frame
          frames = FinalizingParts cause s (pull_rest a.0 (x ∷ xs)) (failed || says_failed (Fine h)) ∷ ks

          -- the frame begins with the component that is chosen
          first : step ask code s0 ≡ moved a.1 (Table.finalize_part code (parts_of code part.number) cause (component_of s y.offset y.position) part.number frames w)
          first = choose_step s count ks h l w x xs failed (Some a) many is ∙ ap (λ z. moved a.1 (finalize_component code cause s y z frames w)) part.initial

          one : Finalizes 0 0 s0 c frames (finalize_part K cause Every n (component_of s y.offset y.position) part.number c a.1 w)
          one =
              let less1 = part.less in
              let within : a.0 < length (x ∷ xs) = omega (arith, less, long, many) in
              parts (component_of s y.offset y.position) part.number frames c a.1 w s0 was (omega (arith, less1, old)) part.plain
              (ap (has_controlled k) (sym part.ty) ∙ each_pulled (λ p. has_controlled k p.ty ≡ true) no_component a.0 (q ∷ qs) held less)
              (subst (IsBegunBy code around) part.initial (pulled_inside code around x a.0 (x ∷ xs) inside within))
              le fits first

          rest : (r : Result Bool) (c1 : ℕ) (l1 : Log) (w1 : World) → c1 ≤ c → Passed k code cause wr (way_of r) w1 → Finalizes 1 1 (tells frames r l1 w1) c1 ks (on_goes (λ b. in_turn n s count (pull_rest a.0 (q ∷ qs)) (fell || b)) r c1 l1 w1)
          rest (Leaves z) c1 l1 w1 lo passed =
              by_raise (λ v. IsPassed cause (Some v) → Finalizes 1 1 (tells frames (Leaves v) l1 w1) c1 ks (Gives (Leaves v) 0 c1 l1 w1))
              (λ e p. last_step ask code (Passed k code cause wr) 1 1 _ c1 0 (tells ks) (Leaves (ByRaise e)) l1 w1 (omega arith) (p, passed.1) refl)
              z (raise_passed cause z passed.0) passed.0
          rest (Goes b) c1 l1 w1 lo passed =
              subst (λ d. Finalizes 1 1 (tells frames (Goes b) l1 w1) c1 ks (in_turn n s count (pull_rest a.0 (q ∷ qs)) (fell || d) c1 l1 w1)) (heard b)
              (others b c1 l1 w1 (pull_rest a.0 (q ∷ qs)) (pull_rest a.0 (x ∷ xs)) (rest_length a.0 count (q ∷ qs) less long) (parts_rest k t a.0 (q ∷ qs) (x ∷ xs) have) (each_left (λ p. has_controlled k p.ty ≡ true) a.0 (q ∷ qs) held) (rest_inside code around a.0 (x ∷ xs) inside) (omega (arith, lo, le)) passed.1)

  -- all the components of a part with a controlled part
  parts_is : (s : Spot) (t : ℕ) → parts_to_finalize K Every s t ≡ keep (λ p. has_controlled k p.ty) (placed k t)
  unfolding parts_to_finalize opened_finalization
  parts_is s t = keep_same (λ p. has_controlled k p.ty && true) (λ p. has_controlled k p.ty) (λ p. and_true (has_controlled k p.ty)) (placed k t)

  -- a part, behind its own Finalize
  abbrev behind_own : ℕ → Spot → ℕ → Bool → Act Bool
  behind_own n s t failed = in_turn n s (length (parts_to_finalize K Every s t)) (parts_to_finalize K Every s t) failed

  -- its components, from the step that begins with them
  all_run : (n : ℕ) → PartsRun n → (s : Spot) (t : ℕ) (ks : List Frame) → AreAround ks s.object → t ≤ n → IsPlainType k (Record t) → IsDeclarable code around t → (failed : Bool) (c : ℕ) (l : Log) (w : World) (s0 : State) → c ≤ bound → Since k code wr w → step ask code s0 ≡ moved l (finalize_left cause s (controlled_of code t) failed ks w) → Finalizes 2 2 s0 c ks (behind_own n s t failed c l w)
  unfolding in_any_order opened_outcome
  all_run n parts s t ks was old plain inside failed c l w s0 le fits first =
      subst (λ ps. Finalizes 2 2 s0 c ks (in_turn n s (length ps) ps failed c l w)) (sym (parts_is s t))
      (by (keep (λ p. has_controlled k p.ty) (placed k t)) (controlled_of code t) (setting.agrees default constants t plain).controlled (keep_passes (λ p. has_controlled k p.ty) (placed k t)) (controlled_inside code setting.valid around t inside) first)
    where
      by : (left : List Placed) (xs : List Begun) → HaveParts k t left xs → Each (λ p. has_controlled k p.ty ≡ true) left → AreBegunBy code around xs → step ask code s0 ≡ moved l (finalize_left cause s xs failed ks w) → Finalizes 2 2 s0 c ks (in_turn n s (length left) left failed c l w)
      by [] [] have held within go = last_step ask code (Passed k code cause wr) 2 2 s0 c 0 (tells ks) (Goes failed) l w (omega arith) (none_passed cause, fits) go
      by [] (x ∷ xs) have held within go = absurd have
      by (q ∷ qs) [] have held within go = absurd have
      by (q ∷ qs) (x ∷ xs) have held within go =
          one_step ask code (Passed k code cause wr) 1 1 2 2 s0 (gives (FinalizingParts cause s (x ∷ xs) failed ∷ ks) (Fine Complete) l w) c c (tells ks) _ (omega arith) (omega arith) (omega arith) (omega arith) go
          (subst (λ b. Finalizes 1 1 (gives (FinalizingParts cause s (x ∷ xs) failed ∷ ks) (Fine Complete) l w) c ks (in_turn n s (length (q ∷ qs)) (q ∷ qs) b c l w)) (or_false failed)
          (left_run n parts s t ks was old (length (q ∷ qs)) Complete failed c l w (q ∷ qs) (x ∷ xs) refl have held within le fits))

  -- what becomes of the call of its own Finalize
  abbrev after_own : ℕ → Spot → ℕ → Out Unit → Out Bool
  after_own n s t x = add 1 (bind (bind (bind x told) (on_goes (after_finalize cause))) (on_goes (behind_own n s t)))

  -- a part that is controlled
  controlled_is : (g : Option ℕ) → (n : ℕ) (s : Spot) (t c : ℕ) (l : Log) (w : World) → operation (λ x. x.finalize) k t ≡ g → is_controlled k t ≡ true → finalize_part K cause Every (suc n) s t c l w ≡ after_own n s t (call_operation K s g (shown s) c l w)
  unfolding opened_finalization opened_outcome
  controlled_is g n s t c l w op is =
      ap (λ b. add 1 (bind (either (b && true) (attempt (call_operation K s (operation (λ x. x.finalize) k t) (shown s)) >>= after_finalize cause) (done false) c l w) (on_goes (behind_own n s t)))) is
      ∙ ap (λ x. after_own n s t (call_operation K s x (shown s) c l w)) op

  -- and one that is not
  within_is : (n : ℕ) (s : Spot) (t c : ℕ) (l : Log) (w : World) → is_controlled k t ≡ false → finalize_part K cause Every (suc n) s t c l w ≡ add 1 (add 0 (behind_own n s t false c l w))
  unfolding opened_finalization opened_outcome
  within_is n s t c l w is = ap (λ b. add 1 (bind (either (b && true) (attempt (call_operation K s (operation (λ x. x.finalize) k t) (shown s)) >>= after_finalize cause) (done false) c l w) (on_goes (behind_own n s t)))) is

  -- a stretch and what follows it, which the tick of the part pays
  behind_it : {X : Type 0} (s0 s1 : State) (ks : List Frame) (c c1 u t : ℕ) (x : Out Bool) → u ≤ t → Comes ask code 0 s0 c u c1 s1 X → Finalizes 2 2 s1 c1 ks x → Finalizes 0 0 s0 c ks (add 1 (add t x))
  behind_it s0 s1 ks c c1 u t x le z next =
      added ask code (Passed k code cause wr) 1 4 4 0 0 s0 c (tells ks) (add t x) (omega arith) (omega arith)
      (after_comes ask code (Passed k code cause wr) 2 2 2 4 4 s0 s1 c c1 t (tells ks) x (omega arith) (omega arith)
      (record { n = z.n; falls = z.falls; enough = z.enough; in_time = omega (arith, z.in_time, le); comes = z.comes; fits = z.fits }) next)

  -- after its own Finalize, which raised
  own_raised : (n : ℕ) → PartsRun n → (s : Spot) (t : ℕ) (ks : List Frame) → AreAround ks s.object → t ≤ n → IsPlainType k (Record t) → IsDeclarable code around t → (s0 : State) (e c c1 u : ℕ) (l : Log) (w : World) → c ≤ bound → Comes ask code 0 s0 c u c1 (gives (FinalizingOwn cause s t ∷ ks) (Raised e) l w) (Told k code wr (Some (ByRaise e)) w) → OnFailure cause → Finalizes 0 0 s0 c ks (after_own n s t (Gives (Leaves (ByRaise e)) u c1 l w))
  unfolding picked opened_outcome
  own_raised n parts s t ks was old plain inside s0 e c c1 u l w le z (Remembers meant run) =
      let s1 = gives (FinalizingOwn cause s t ∷ ks) (Raised e) l w in
      let falls = z.falls in
      subst (λ x. Finalizes 0 0 s0 c ks (add 1 (bind (add (u + 0) x) (on_goes (behind_own n s t))))) (sym (meant e c1 l w))
      (behind_it s0 s1 ks c c1 u (u + 0 + 0) (behind_own n s t true c1 l w) (omega arith) z
      (all_run n parts s t ks was old plain inside true c1 l w s1 (omega (arith, falls, le)) z.fits.1 (ap (moved l) (run code s t ks w))))
  own_raised n parts s t ks was old plain inside s0 e c c1 u l w le z (Raises x meant run passed) =
      let s1 = gives (FinalizingOwn cause s t ∷ ks) (Raised e) l w in
      subst (λ y. Finalizes 0 0 s0 c ks (add 1 (bind (add (u + 0) y) (on_goes (behind_own n s t))))) (sym (meant e c1 l w))
      (behind_it s0 s1 ks c c1 u (u + 0 + 0) (Gives (Leaves (ByRaise x)) 0 c1 l w) (omega arith) z
      (last_step ask code (Passed k code cause wr) 2 2 s1 c1 0 (tells ks) (Leaves (ByRaise x)) l w (omega arith) (passed, z.fits.1) (ap (moved l) (run code s t ks w))))

  -- after the execution of its own Finalize
  over : (n : ℕ) → PartsRun n → (s : Spot) (t : ℕ) (ks : List Frame) → AreAround ks s.object → t ≤ n → IsPlainType k (Record t) → IsDeclarable code around t → (s0 : State) (c : ℕ) (x : Out Returned) → c ≤ bound → Runs ask code (Told k code wr) 0 3 s0 c (returns (FinalizingOwn cause s t ∷ ks)) x → Finalizes 0 0 s0 c ks (after_own n s t (bind (add 0 x) (on_goes (λ _. nothing))))
  unfolding picked opened_outcome after_finalize
  over n parts s t ks was old plain inside s0 c (Gives (Goes v) u c1 l w) le z =
      let s1 = gives (FinalizingOwn cause s t ∷ ks) (Fine Complete) l w in
      let falls = z.falls in
      behind_it s0 s1 ks c c1 u (0 + u + 0 + 0 + 0) (behind_own n s t false c1 l w) (omega arith) z (all_run n parts s t ks was old plain inside false c1 l w s1 (omega (arith, falls, le)) z.fits.1 refl)
  over n parts s t ks was old plain inside s0 c (Gives (Leaves y) u c1 l w) le z =
      by_raise (λ x. Runs ask code (Told k code wr) 0 3 s0 c (returns {A = Returned} (FinalizingOwn cause s t ∷ ks)) (Gives (Leaves x) u c1 l w) → Finalizes 0 0 s0 c ks (after_own n s t (Gives (Leaves x) (0 + u + 0) c1 l w)))
      (λ e z1. own_raised n parts s t ks was old plain inside s0 e c c1 (0 + u + 0) l w le (record { n = z1.n; falls = z1.falls; enough = z1.enough; in_time = omega (arith, z1.in_time); comes = z1.comes; fits = z1.fits }) (on_failure cause)) y z.fits.0 z
  over n parts s t ks was old plain inside s0 c (Stops why u l) le z = more_quits ask code (Passed k code cause wr) 3 0 s0 u _ l why (omega arith) z
  over n parts s t ks was old plain inside s0 c (Cut u c1 l) le z = more_halts ask code (Passed k code cause wr) 3 0 s0 c u _ l (omega arith) z

  -- a part that is controlled, from the step that begins with it
  own_runs : (n : ℕ) → PartsRun n → (s : Spot) (t : ℕ) (ks : List Frame) (c : ℕ) (l : Log) (w : World) (s0 : State) → AreAround ks s.object → t ≤ n → IsPlainType k (Record t) → IsDeclarable code around t → c ≤ bound → Since k code wr w → (g : Option ℕ) (y : Option Object) → operation (λ x. x.finalize) k t ≡ g → object_at s.object w ≡ y → step ask code s0 ≡ moved l (finalize_own code g cause s t y ks w) → Finalizes 0 0 s0 c ks (after_own n s t (call_operation K s g (shown s) c l w))
  unfolding opened_finalization opened_outcome opened_names
  own_runs n parts s t ks c l w s0 was old plain inside le fits None None op at go = subst (λ y. Finalizes 0 0 s0 c ks (after_own n s t (add 1 (on_some y gone (λ _. nothing) c l w)))) (sym at) (stop_step ask code (Passed k code cause wr) 0 0 s0 _ c 2 (tells ks) UseAfterFree l (omega arith) go refl refl)
  own_runs n parts s t ks c l w s0 was old plain inside le fits None (Some p) op at go =
      subst (λ y. Finalizes 0 0 s0 c ks (after_own n s t (add 1 (on_some y gone (λ _. nothing) c l w)))) (sym at)
      (added ask code (Passed k code cause wr) 1 2 2 0 0 s0 c (tells ks) _ (omega arith) (omega arith)
      (added ask code (Passed k code cause wr) (1 + 0 + 0 + 0) 2 2 2 2 s0 c (tells ks) _ (omega arith) (omega arith)
      (all_run n parts s t ks was old plain inside false c l w s0 le fits go)))
  own_runs n parts s t ks c l w s0 was old plain inside le fits (Some f) None op at go = subst (λ y. Finalizes 0 0 s0 c ks (after_own n s t (on_some y gone (λ o1. look (λ w1. show (shown s) >> K.call (OfSubprogram f (holding (Binds s.object s.offset s.path) ∷ [])) (home_of o1.origin w1) >> nothing)) c l w))) (sym at) (stop_step ask code (Passed k code cause wr) 0 0 s0 _ c 1 (tells ks) UseAfterFree l (omega arith) go refl refl)
  own_runs n parts s t ks c l w s0 was old plain inside le fits (Some f) (Some p) op at go =
      let body = setting.finalize_body t f op in
      let actuals = holding (Binds s.object s.offset s.path) ∷ [] in
      let v = called_among assigning p.origin w in
      let nested = was.1 w p fits at in
      let here : IsDeclarable code (length v) t = declarable_later code around (length v) t nested.0 inside in
      subst (λ x. Finalizes 0 0 s0 c ks (after_own n s t x)) (sym (call_among ask k assigning call default f s c (shown s) l w p at))
      (over n parts s t ks was old plain inside s0 c _ le
      (calls.runs f body.0 body.1 wr v actuals AfterBody (FinalizingOwn cause s t ∷ ks) c (tell (shown s) l) w s0 Procedure 1 tt le fits (finalize_in code setting.valid _ t f here (setting.finalize t ∙ op)) nested.1 (tt, tt)
      (go
      ∙ ap (λ a. moved l (enter_body (slice_get code.entries.items f) (shown s ∷ []) (called_among a p.origin w) actuals AfterBody (FinalizingOwn cause s t ∷ ks) w)) was.0
      ∙ enter_shows (slice_get code.entries.items f) (shown s) v actuals AfterBody (FinalizingOwn cause s t ∷ ks) l w)))

  -- each part
  pub part_runs : (n : ℕ) → PartsRun n
  part_runs zero s t ks c l w s0 was less plain held inside le fits first = absurd (omega (arith, less))
  part_runs (suc n) s t ks c l w s0 was less plain held inside le fits first = by (parts_of code t) refl (part_runs n) first
    where
      agrees : AgreesOn k code default t
      agrees = setting.agrees default constants t plain

      old : t ≤ n
      old = omega (arith, less)

      by : (p : Parts) → parts_of code t ≡ p → PartsRun n → step ask code s0 ≡ moved l (Table.finalize_part code p cause s t ks w) → Finalizes 0 0 s0 c ks (finalize_part K cause Every (suc n) s t c l w)
      by PartsOf.Plain is parts go = absurd (let none : true ≡ false = sym held ∙ agrees.has ∙ ap has_part is in cc)
      by PartsOf.Within is parts go =
          subst (Finalizes 0 0 s0 c ks) (sym (within_is n s t c l w (agrees.itself ∙ ap is_itself is)))
          (added ask code (Passed k code cause wr) 1 2 2 0 0 s0 c (tells ks) _ (omega arith) (omega arith)
          (added ask code (Passed k code cause wr) 0 2 2 2 2 s0 c (tells ks) _ (omega arith) (omega arith)
          (all_run n parts s t ks was old plain inside false c l w s0 le fits go)))
      by PartsOf.Controlled is parts go =
          subst (Finalizes 0 0 s0 c ks) (sym (controlled_is (operation (λ x. x.finalize) k t) n s t c l w refl (agrees.itself ∙ ap is_itself is)))
          (own_runs n parts s t ks c l w s0 was old plain inside le fits (operation (λ x. x.finalize) k t) (object_at s.object w) refl refl (go ∙ ap (λ g. moved l (finalize_own code g cause s t (object_at s.object w) ks w)) (setting.finalize t)))
