-- The adjustment of a part of an object that has taken a value, in an assignment or as the object is created: its components with a controlled
-- part first, in an order that is chosen, and then the part, where it is controlled; in a creation each part that is adjusted comes to life
-- (3.3.1, 7.6).
use Rattle.std.proofs.Common.{◌≡◌, ℕ, zero, suc, ◌+◌, ◌<◌, ◌≤◌, List, [], ◌∷◌, ◌++◌, length, Option, Some, None, true, false, refl, sym, ap, ◌∙◌, subst, arith, inr}
use Rattle.std.specs.Prelude.{slice_get, is_some}
use Rattle.ctl_program.specs.declared.types.Ty.TheVariants.{Record}
use Rattle.ctl_program.specs.declared.operators.SubprogramKind.TheVariants.{Procedure}
use Rattle.ctl_tree.specs.declared.ending.Stop.TheVariants.{UseAfterFree}
use Rattle.ctl_tree.specs.declared.event.Event.{Event}
use Rattle.ctl_tree.specs.declared.event.Owner.{Owner}
use Rattle.ctl_tree.specs.declared.event.Event.TheVariants as EventOf
use Rattle.ctl_meaning.specs.World.{Object, Binds, holding, Log, World}
use Rattle.ctl_meaning.specs.Lists.{keep, pull_item, pull_rest}
use Rattle.ctl_meaning.specs.Changes.{object_at, home_of}
use Rattle.ctl_meaning.specs.Choice.{Ask, picked}
use Rattle.ctl_meaning.specs.Outcome.{Result, Goes, Leaves, Out, Gives, Stops, Cut, Act, Done, Fine, add, after_pick, attempt, bind, on_goes, ◌>>=◌, ◌>>◌, done, nothing, tell, ticked, show, look, told, either, on_some, opened_outcome}
use Rattle.ctl_meaning.specs.Types.{Tables, Placed, has_controlled, is_controlled, operation, of_record, placed}
use Rattle.ctl_meaning.specs.Names.{OfSubprogram, Returned, Call, Default, Tools, gone, opened_names}
use Rattle.ctl_meaning.specs.Finalization.{Spot, no_component, component_at, part_of, call_operation, opened_finalization}
use Rattle.ctl_meaning.specs.Adjustment.{Adjusted, Birth, adjust_each, adjust_part, after_adjust, controlled_parts, own_adjust, opened_adjustment}
use Rattle.ctl_code.specs.declared.code.Begun.{Begun}
use Rattle.ctl_code.specs.declared.code.Parts.{Parts}
use Rattle.ctl_code.specs.declared.code.Parts.TheVariants as PartsOf
use Rattle.ctl_code.specs.declared.code.Code.{Code}
use Rattle.ctl_code.specs.States.{Complete, AfterBody, Frame, Adjusting, AdjustingOwn, State, tell_all}
use Rattle.ctl_code.specs.Table as Table
use Rattle.ctl_code.specs.Table.{assigning_in, birth, birth_in, called_among, component_of, controlled_of, handed, noting, operation_of, part_at, parts_of, says_failed}
use Rattle.ctl_code.specs.Steps.{moved, step, stepped}
use Rattle.ctl_code.specs.Valid.{AreBegunBy, IsBegunBy, IsDeclarable}
use Rattle.ctl_gen.proofs.Known.{IsPlainType}
use Rattle.ctl_gen.proofs.Parted.{GivesDefaults, HasPart, HaveParts, component_is, is_itself, parts_length, parts_pulled, parts_rest}
use Rattle.ctl_gen.proofs.Picks.{picked_less, rest_length}
use Rattle.ctl_gen.proofs.Worlds.{Since}
use Rattle.ctl_gen.proofs.Scopes.{IsSurrounded, adjust_in, controlled_inside, declarable_later, pulled_inside, rest_inside}
use Rattle.ctl_gen.proofs.Setting.{Setting, called, tools_with, returns, Told, Sure, Calls, enter_shows}
use Rattle.ctl_gen.proofs.FinalizedParts.{call_among, heard}
use Rattle.ctl_gen.proofs.Adjust.{adjust_named}
use Rattle.ctl_gen.proofs.Follow.{by_raise, Runs, gives, way_of, add_none, added, bind_add, bind_bind, both, one_step, last_step, stop_step, then_step, more_quits, more_halts, within}

-- the meaning's creation is the table's, by whose object is created; or neither is one
abbrev pub IsCreation : Option Birth → Option Owner → Type 0
IsCreation None None = Unit {0}
IsCreation (Some b) (Some o) = b.owner ≡ o
IsCreation _ _ = ⊥

-- frames that have noted the parts with these paths; in a creation one more part that is adjusted is noted there, and else a statement
-- assigns to the parts
abbrev pub Noted : Type 0
Noted = List (List ℕ) → List Frame

abbrev pub Notes : Option Owner → Option (List ℕ) → Noted → Type 0
Notes made assigning ks = ((path : List ℕ) (paths : List (List ℕ)) → noting made path (ks paths) ≡ ks (paths ++ path ∷ [])) × ((paths : List (List ℕ)) → assigning_in (ks paths) ≡ assigning)

-- below the components that are left, too
abbrev over_parts : Option Owner → Spot → ℕ → List Begun → Noted → Noted
over_parts made s t left ks paths = Adjusting made s t left ∷ ks paths

notes_over : (made : Option Owner) (assigning : Option (List ℕ)) (s : Spot) (t : ℕ) (left : List Begun) (ks : Noted) → Notes made assigning ks → Notes made assigning (over_parts made s t left ks)
notes_over None assigning s t left ks notes = (λ path paths. ap (λ k. Adjusting None s t left ∷ k) (notes.0 path paths), notes.1)
notes_over (Some o) assigning s t left ks notes = (λ path paths. ap (λ k. Adjusting (Some o) s t left ∷ k) (notes.0 path paths), notes.1)

-- whether an Adjust failed is what the machine hands on, over the frames that have noted what is adjusted
abbrev pub hands : Noted → Result Adjusted → Log → World → State
hands ks (Goes a) l w = gives (ks a.paths) (Fine (handed a.failed)) l w
hands ks (Leaves y) l w = gives (ks []) (Fine Complete) l w

-- a part that is adjusted
abbrev settled : Spot → Adjusted → Adjusted
settled s a = record { failed = a.failed; paths = a.paths ++ s.path ∷ [] }

-- what an Adjust that did not fail comes to: in a creation the part comes to life
born_is : (ask : Ask) (k : Tables) (code : Code) → Setting k code → (call : Call) (default : Default) (creation : Option Birth) (made : Option Owner) → IsCreation creation made → (s : Spot) (t : ℕ) (a : Adjusted) (c : ℕ) (l : Log) (w : World) → after_adjust (tools_with ask k call default) creation s t a (Fine tt) c l w ≡ Gives (Goes (settled s a)) 0 c (tell_all (birth_in code made s t) l) w
unfolding opened_adjustment opened_finalization opened_outcome
born_is ask k code setting call default None None same s t a c l w = refl
born_is ask k code setting call default None (Some owner) same s t a c l w = absurd same
born_is ask k code setting call default (Some b) None same s t a c l w = absurd same
born_is ask k code setting call default (Some b) (Some owner) same s t a c l w =
    ap (λ o. (either (is_some (operation (λ x. x.finalize) k t)) (show (EventOf.Live (part_at s) o)) nothing >> done (settled s a)) c l w) same
    ∙ by (operation (λ x. x.finalize) k t)
    ∙ ap (λ g. Gives (Goes (settled s a)) 0 c (tell_all (birth g (part_at s) owner) l) w) (sym (setting.finalize t))
  where
    by : (g : Option ℕ) → (either (is_some g) (show (EventOf.Live (part_at s) owner)) nothing >> done (settled s a)) c l w ≡ Gives (Goes (settled s a)) 0 c (tell_all (birth g (part_at s) owner) l) w
    by None = refl
    by (Some f) = refl

-- in this creation, or an assignment, where since an earlier world the operations of an object are called among so many masters: those of a
-- statement that assigns, if one does
module _ (ask : Ask) (k : Tables) (code : Code) (setting : Setting k code) (call : Call) (default : Default) (constants : GivesDefaults k default) (bound : ℕ) (calls : Calls ask k code setting bound call) (creation : Option Birth) (made : Option Owner) (same : IsCreation creation made) (assigning : Option (List ℕ)) (wr : World) (around : ℕ) where
  abbrev K : Tools
  K = tools_with ask k (called assigning call) default

  abbrev shown : Spot → Event
  shown s = EventOf.Adjust (part_at s)

  -- the components that are left
  abbrev in_turn : ℕ → Spot → ℕ → List Placed → Adjusted → Act Adjusted
  in_turn n s count left a = adjust_each K (λ p b. of_record (done b) (λ u. adjust_part K creation n (component_at s p) u b) p.ty) count left a

  -- and then the part's own Adjust
  abbrev then_own : ℕ → Spot → ℕ → ℕ → List Placed → Adjusted → Act Adjusted
  then_own n s t count left a c l w = bind (in_turn n s count left a c l w) (on_goes (own_adjust K creation s t))

  -- the same behind a component
  abbrev behind : ℕ → Spot → ℕ → ℕ → List Placed → Result Adjusted → Act Adjusted
  behind n s t count left r c l w = bind (on_goes (in_turn n s count left) r c l w) (on_goes (own_adjust K creation s t))

  abbrev Adjusts : ℕ → ℕ → State → ℕ → Noted → Out Adjusted → Type 0
  Adjusts b h s0 c ks x = Runs ask code (Sure k code wr) b h s0 c (hands ks) x

  -- the parts of types before this one are adjusted as the meaning says, from the step that begins with them
  abbrev pub PartsRun : ℕ → Type 0
  PartsRun n = (s : Spot) (t : ℕ) (a : Adjusted) (ks : Noted) (c : ℕ) (l : Log) (w : World) (s0 : State) → Notes made assigning ks → IsSurrounded k code assigning wr around s.object → t < n → IsPlainType k (Record t) → IsDeclarable code around t → c ≤ bound → Since k code wr w → step ask code s0 ≡ moved l (Table.adjust_part code made s t a.failed (ks a.paths) w) → Adjusts 4 4 s0 c ks (adjust_part K creation n s t a c l w)

  -- The part's own Adjust -----------------------------------------------------------------------------

  -- what becomes of its call
  abbrev after_own : Spot → ℕ → Adjusted → Out Done → Out Adjusted
  after_own s t a x = bind (bind x told) (on_goes (after_adjust K creation s t a))

  -- a part that is controlled
  controlled_is : (g : Option ℕ) (s : Spot) (t : ℕ) (a : Adjusted) (c : ℕ) (l : Log) (w : World) → operation (λ x. x.adjust) k t ≡ g → is_controlled k t ≡ true → own_adjust K creation s t a c l w ≡ after_own s t a (call_operation K s g (shown s) c l w)
  unfolding own_adjust part_of opened_outcome
  controlled_is g s t a c l w op is =
      ap (λ b. either b (attempt (call_operation K s (operation (λ x. x.adjust) k t) (shown s)) >>= after_adjust K creation s t a) (done a) c l w) is
      ∙ ap (λ x. after_own s t a (call_operation K s x (shown s) c l w)) op

  -- and one that is not
  within_is : (s : Spot) (t : ℕ) (a : Adjusted) (c : ℕ) (l : Log) (w : World) → is_controlled k t ≡ false → own_adjust K creation s t a c l w ≡ Gives (Goes a) 0 c l w
  unfolding own_adjust part_of opened_outcome
  within_is s t a c l w is = ap (λ b. either b (attempt (call_operation K s (operation (λ x. x.adjust) k t) (shown s)) >>= after_adjust K creation s t a) (done a) c l w) is

  -- one whose Adjust did not fail
  after_is : (s : Spot) (t : ℕ) (a : Adjusted) (c : ℕ) (l : Log) (w : World) → after_adjust K creation s t a (Fine tt) c l w ≡ Gives (Goes (settled s a)) 0 c (tell_all (birth_in code made s t) l) w
  after_is = born_is ask k code setting (called assigning call) default creation made same

  adjusted_is : (s : Spot) (t : ℕ) (a : Adjusted) (ks : Noted) → Notes made assigning ks → (l : Log) (w : World) → moved l (Table.adjusted code made s t a.failed (ks a.paths) w) ≡ hands ks (Goes (settled s a)) (tell_all (birth_in code made s t) l) w
  adjusted_is s t a ks notes l w = ap (λ x. gives x (Fine (handed a.failed)) (tell_all (birth_in code made s t) l) w) (notes.0 s.path a.paths)

  -- after the execution of its own Adjust, one that raised is remembered
  over : (s : Spot) (t : ℕ) (a : Adjusted) (ks : Noted) → Notes made assigning ks → (s0 : State) (c : ℕ) (x : Out Returned) → Runs ask code (Told k code wr) 0 3 s0 c (returns (AdjustingOwn made s t a.failed ∷ ks a.paths)) x → Adjusts 3 3 s0 c ks (after_own s t a (bind (add 0 x) (on_goes (λ _. nothing))))
  unfolding picked opened_outcome after_adjust
  over s t a ks notes s0 c (Gives (Goes v) u c1 l w) z =
      subst (λ y. Adjusts 3 3 s0 c ks (add (0 + u + 0 + 0) y)) (sym (after_is s t a c1 l w))
      (then_step ask code (Sure k code wr) 0 3 s0 _ _ c c1 u _ z (adjusted_is s t a ks notes l w) (tt, z.fits.1) (omega arith))
  over s t a ks notes s0 c (Gives (Leaves y) u c1 l w) z =
      by_raise (λ x. Runs ask code (Told k code wr) 0 3 s0 c (returns {A = Returned} (AdjustingOwn made s t a.failed ∷ ks a.paths)) (Gives (Leaves x) u c1 l w) → Adjusts 3 3 s0 c ks (after_own s t a (bind {A = Returned} (add 0 (Gives (Leaves x) u c1 l w)) (on_goes (λ _. nothing)))))
      (λ e z1. then_step ask code (Sure k code wr) 0 3 s0 _ _ c c1 u _ z1 refl (tt, z1.fits.1) (omega arith)) y z.fits.0 z
  over s t a ks notes s0 c (Stops why u l) z = more_quits ask code (Sure k code wr) 3 3 s0 u _ l why (omega arith) z
  over s t a ks notes s0 c (Cut u c1 l) z = more_halts ask code (Sure k code wr) 3 3 s0 c u _ l (omega arith) z

  -- from the step that looks for it
  called_runs : (s : Spot) (t : ℕ) (a : Adjusted) (ks : Noted) → Notes made assigning ks → (c : ℕ) (l : Log) (w : World) (s0 : State) → IsSurrounded k code assigning wr around s.object → IsDeclarable code around t → c ≤ bound → Since k code wr w → operation_of (λ x. x.adjust) code t ≡ operation (λ x. x.adjust) k t → (g : Option ℕ) (y : Option Object) → operation (λ x. x.adjust) k t ≡ g → object_at s.object w ≡ y → step ask code s0 ≡ moved l (Table.adjust_by code g made s t a.failed y (ks a.paths) w) → Adjusts 3 3 s0 c ks (after_own s t a (call_operation K s g (shown s) c l w))
  unfolding opened_finalization opened_outcome opened_names
  called_runs s t a ks notes c l w s0 homes inside le fits named None None op at go = subst (λ y. Adjusts 3 3 s0 c ks (after_own s t a (add 1 (on_some y gone (λ _. nothing) c l w)))) (sym at) (stop_step ask code (Sure k code wr) 3 3 s0 _ c 1 (hands ks) UseAfterFree l (omega arith) go refl refl)
  called_runs s t a ks notes c l w s0 homes inside le fits named None (Some p) op at go =
      subst (λ y. Adjusts 3 3 s0 c ks (after_own s t a (add 1 (on_some y gone (λ _. nothing) c l w)))) (sym at)
      (subst (λ y. Adjusts 3 3 s0 c ks (add (1 + 0 + 0) y)) (sym (after_is s t a c l w))
      (last_step ask code (Sure k code wr) 3 3 s0 c 1 (hands ks) (Goes (settled s a)) (tell_all (birth_in code made s t) l) w (omega arith) (tt, fits) (go ∙ adjusted_is s t a ks notes l w)))
  called_runs s t a ks notes c l w s0 homes inside le fits named (Some f) None op at go = subst (λ y. Adjusts 3 3 s0 c ks (after_own s t a (on_some y gone (λ o1. look (λ w1. show (shown s) >> K.call (OfSubprogram f (holding (Binds s.object s.offset s.path) ∷ [])) (home_of o1.origin w1) >> nothing)) c l w))) (sym at) (stop_step ask code (Sure k code wr) 3 3 s0 _ c 0 (hands ks) UseAfterFree l (omega arith) go refl refl)
  called_runs s t a ks notes c l w s0 homes inside le fits named (Some f) (Some p) op at go =
      let body = setting.adjust_body t f op in
      let waits = AdjustingOwn made s t a.failed ∷ ks a.paths in
      let actuals = holding (Binds s.object s.offset s.path) ∷ [] in
      let v = called_among assigning p.origin w in
      let nested = homes w p fits at in
      let here : IsDeclarable code (length v) t = declarable_later code around (length v) t nested.0 inside in
      subst (λ x. Adjusts 3 3 s0 c ks (after_own s t a x)) (sym (call_among ask k assigning call default f s c (shown s) l w p at))
      (over s t a ks notes s0 c _
      (calls.runs f body.0 body.1 wr v actuals AfterBody waits c (tell (shown s) l) w s0 Procedure 1 tt le fits (adjust_in code setting.valid _ t f here (named ∙ op)) nested.1 (tt, tt)
      (go
      ∙ ap (λ y. moved l (Table.enter_body (slice_get code.entries.items f) (shown s ∷ []) (called_among y p.origin w) actuals AfterBody waits w)) (notes.1 a.paths)
      ∙ enter_shows (slice_get code.entries.items f) (shown s) v actuals AfterBody waits l w)))

  -- from the step behind the components
  own_runs : (s : Spot) (t : ℕ) (a : Adjusted) (ks : Noted) → Notes made assigning ks → (c : ℕ) (l : Log) (w : World) (s0 : State) → IsSurrounded k code assigning wr around s.object → IsPlainType k (Record t) → IsDeclarable code around t → c ≤ bound → Since k code wr w → step ask code s0 ≡ moved l (Table.adjust_own code (parts_of code t) made s t a.failed (ks a.paths) w) → Adjusts 3 3 s0 c ks (own_adjust K creation s t a c l w)
  own_runs s t a ks notes c l w s0 homes plain inside le fits first = by (parts_of code t) refl first
    where
      itself : is_controlled k t ≡ is_itself (parts_of code t)
      itself = (setting.agrees default constants t plain).itself

      -- one that is not controlled
      none : is_controlled k t ≡ false → step ask code s0 ≡ moved l (Table.gives (Fine (handed a.failed)) (ks a.paths) w) → Adjusts 3 3 s0 c ks (own_adjust K creation s t a c l w)
      none is go = subst (Adjusts 3 3 s0 c ks) (sym (within_is s t a c l w is)) (last_step ask code (Sure k code wr) 3 3 s0 c 0 (hands ks) (Goes a) l w (omega arith) (tt, fits) go)

      by : (p : Parts) → parts_of code t ≡ p → step ask code s0 ≡ moved l (Table.adjust_own code p made s t a.failed (ks a.paths) w) → Adjusts 3 3 s0 c ks (own_adjust K creation s t a c l w)
      by PartsOf.Plain is go = none (itself ∙ ap is_itself is) go
      by PartsOf.Within is go = none (itself ∙ ap is_itself is) go
      by PartsOf.Controlled is go =
          let held = itself ∙ ap is_itself is in
          let named = adjust_named k code setting t plain held in
          subst (Adjusts 3 3 s0 c ks) (sym (controlled_is (operation (λ x. x.adjust) k t) s t a c l w refl held))
          (called_runs s t a ks notes c l w s0 homes inside le fits named (operation (λ x. x.adjust) k t) (object_at s.object w) refl refl (go ∙ ap (λ g. moved l (Table.adjust_by code g made s t a.failed (object_at s.object w) (ks a.paths) w)) named))

  -- Components ----------------------------------------------------------------------------------------

  -- a component
  abbrev component_by : ℕ → Adjusted → Spot → ℕ → Act Adjusted
  component_by n a s u = adjust_part K creation n s u a

  -- one of those that are left is chosen
  abbrev chosen : ℕ → Spot → List Placed → Adjusted → ℕ → Act Adjusted
  chosen n s left a i = of_record (done a) (component_by n a (component_at s (pull_item no_component i left))) (pull_item no_component i left).ty

  next_is : (n t count i c : ℕ) (s : Spot) (left : List Placed) (a : Adjusted) (l l1 : Log) (w : World) → picked ask (suc count) l ≡ Some (i, l1) → then_own n s t (suc count) left a c l w ≡ add (suc count + 0) (bind (add 1 (chosen n s left a i c l1 w)) (behind n s t count (pull_rest i left)))
  unfolding adjust_each opened_outcome
  next_is n t count i c s left a l l1 w is =
      ap (λ x. bind (bind (add (suc count) (after_pick x c l w)) (on_goes (λ j. ticked (chosen n s left a j) >>= in_turn n s count (pull_rest j left)))) (on_goes (own_adjust K creation s t))) is
      ∙ bind_add (suc count + 0) (bind (add 1 (chosen n s left a i c l1 w)) (on_goes (in_turn n s count (pull_rest i left)))) (on_goes (own_adjust K creation s t))
      ∙ ap (add (suc count + 0)) (bind_bind (add 1 (chosen n s left a i c l1 w)) (on_goes (in_turn n s count (pull_rest i left))) (on_goes (own_adjust K creation s t)))

  none_is : (n t count c : ℕ) (s : Spot) (left : List Placed) (a : Adjusted) (l : Log) (w : World) → picked ask (suc count) l ≡ None → then_own n s t (suc count) left a c l w ≡ Cut (suc count + 0) c l
  unfolding adjust_each opened_outcome
  none_is n t count c s left a l w is = ap (λ x. bind (bind (add (suc count) (after_pick x c l w)) (on_goes (λ j. ticked (chosen n s left a j) >>= in_turn n s count (pull_rest j left)))) (on_goes (own_adjust K creation s t))) is

  -- the state before the components that are left
  abbrev before_parts : Spot → ℕ → Adjusted → Noted → List Begun → Log → World → State
  before_parts s t a ks left l w = gives (over_parts made s t left ks a.paths) (Fine (handed a.failed)) l w

  -- the step that chooses
  choose_step : (s : Spot) (t count : ℕ) (ks : Noted) (a : Adjusted) (l : Log) (w : World) (x : Begun) (xs : List Begun) (p : Option (ℕ × Log)) → length (x ∷ xs) ≡ suc count → picked ask (suc count) l ≡ p → step ask code (before_parts s t a ks (x ∷ xs) l w) ≡ stepped code (before_parts s t a ks (x ∷ xs) l w) p
  choose_step s t count ks a l w x xs p long is = ap (λ j. stepped code (before_parts s t a ks (x ∷ xs) l w) (picked ask j l)) long ∙ ap (stepped code (before_parts s t a ks (x ∷ xs) l w)) is

  -- the components that are left, and then the part
  left_run : (n : ℕ) → PartsRun n → (s : Spot) (t : ℕ) → IsSurrounded k code assigning wr around s.object → t ≤ n → IsPlainType k (Record t) → IsDeclarable code around t → (count : ℕ) (a : Adjusted) (ks : Noted) → Notes made assigning ks → (c : ℕ) (l : Log) (w : World) (left : List Placed) (xs : List Begun) → length left ≡ count → HaveParts k t left xs → AreBegunBy code around xs → c ≤ bound → Since k code wr w → Adjusts 3 3 (before_parts s t a ks xs l w) c ks (then_own n s t count left a c l w)
  unfolding adjust_each picked opened_outcome
  left_run n parts s t homes old plain inside zero a ks notes c l w [] [] long have within le fits =
      subst (Adjusts 3 3 (before_parts s t a ks [] l w) c ks) (sym (add_none (own_adjust K creation s t a c l w)))
      (own_runs s t a ks notes c l w (before_parts s t a ks [] l w) homes plain inside le fits (ap (λ b. moved l (Table.adjust_own code (parts_of code t) made s t b (ks a.paths) w)) (heard a.failed)))
  left_run n parts s t homes old plain inside zero a ks notes c l w [] (x ∷ xs) long have within le fits = absurd have
  left_run n parts s t homes old plain inside zero a ks notes c l w (q ∷ qs) xs long have within le fits = absurd (omega (arith, long))
  left_run n parts s t homes old plain inside (suc count) a ks notes c l w [] xs long have within le fits = absurd (omega (arith, long))
  left_run n parts s t homes old plain inside (suc count) a ks notes c l w (q ∷ qs) [] long have within le fits = absurd have
  left_run n parts s t homes old plain inside (suc count) a ks notes c l w (q ∷ qs) (x ∷ xs) long have within le fits = by (λ b c2 l2 w2 left2 xs2 long2 have2 within2 le2 fits2. left_run n parts s t homes old plain inside count b ks notes c2 l2 w2 left2 xs2 long2 have2 within2 le2 fits2) (picked ask (suc count) l) refl
    where
      Others : Type 0
      Others = (b : Adjusted) (c2 : ℕ) (l2 : Log) (w2 : World) (left2 : List Placed) (xs2 : List Begun) → length left2 ≡ count → HaveParts k t left2 xs2 → AreBegunBy code around xs2 → c2 ≤ bound → Since k code wr w2 → Adjusts 3 3 (before_parts s t b ks xs2 l2 w2) c2 ks (then_own n s t count left2 b c2 l2 w2)

      s0 : State
      s0 = before_parts s t a ks (x ∷ xs) l w

      many : length (x ∷ xs) ≡ suc count
      many = let same = parts_length k t (q ∷ qs) (x ∷ xs) have in omega (arith, same, long)

      goal : Out Adjusted → Type 0
      goal y = Adjusts 3 3 (before_parts s t a ks (x ∷ xs) l w) c ks y

      by : Others → (p : Option (ℕ × Log)) → picked ask (suc count) l ≡ p → goal (then_own n s t (suc count) (q ∷ qs) a c l w)
      by others None is = subst goal (sym (none_is n t count c s (q ∷ qs) a l w is)) (record { n = 0; in_time = omega arith; logged = refl; going = tt; why = inr (choose_step s t count ks a l w x xs None many is) })
      by others (Some p) is =
          subst goal (sym (next_is n t count p.0 c s (q ∷ qs) a l p.1 w is ∙ ap (λ y. add (suc count + 0) (bind (add 1 (y c p.1 w)) (behind n s t count (pull_rest p.0 (q ∷ qs))))) (component_is k t (done a) (component_by n a) s (pull_item no_component p.0 (q ∷ qs)) (pull_item x p.0 (x ∷ xs)) part)))
          (added ask code (Sure k code wr) (suc count + 0) 3 3 3 3 s0 c (hands ks) _ (omega arith) (omega arith)
          (both ask code (Sure k code wr) (Sure k code wr) 0 0 3 3 3 3 s0 c (hands frames) (hands ks) _ _ (omega arith) (omega arith) (omega arith) one rest))
        where
          less : p.0 < length (q ∷ qs)
          less = let small = picked_less ask count l p is in omega (arith, small, long)

          y : Begun
          y = pull_item x p.0 (x ∷ xs)

          part : HasPart k t (pull_item no_component p.0 (q ∷ qs)) (pull_item x p.0 (x ∷ xs))
          part = parts_pulled k t no_component x p.0 (q ∷ qs) (x ∷ xs) have less

          frames : Noted
          frames = over_parts made s t (pull_rest p.0 (x ∷ xs)) ks

          -- the frame begins with the component that is chosen
          first : step ask code s0 ≡ moved p.1 (Table.adjust_part code made (component_of s y.offset y.position) part.number a.failed (frames a.paths) w)
          first =
              choose_step s t count ks a l w x xs (Some p) many is
              ∙ ap (λ z. moved p.1 (Table.adjust_component code made s y z (says_failed (Fine (handed a.failed))) (frames a.paths) w)) part.initial
              ∙ ap (λ b. moved p.1 (Table.adjust_part code made (component_of s y.offset y.position) part.number b (frames a.paths) w)) (heard a.failed)

          one : Adjusts 0 0 s0 c frames (add 1 (adjust_part K creation n (component_of s y.offset y.position) part.number a c p.1 w))
          one =
              let less1 = part.less in
              let among : p.0 < length (x ∷ xs) = omega (arith, less, long, many) in
              added ask code (Sure k code wr) 1 4 4 0 0 s0 c (hands frames) _ (omega arith) (omega arith)
              (parts (component_of s y.offset y.position) part.number a frames c p.1 w s0 (notes_over made assigning s t (pull_rest p.0 (x ∷ xs)) ks notes) homes (omega (arith, less1, old)) part.plain
              (subst (IsBegunBy code around) part.initial (pulled_inside code around x p.0 (x ∷ xs) within among))
              le fits first)

          rest : (r : Result Adjusted) (c1 : ℕ) (l1 : Log) (w1 : World) → c1 ≤ c → Sure k code wr (way_of r) w1 → Adjusts 3 3 (hands frames r l1 w1) c1 ks (behind n s t count (pull_rest p.0 (q ∷ qs)) r c1 l1 w1)
          rest (Leaves z) c1 l1 w1 lo sure = absurd sure.0
          rest (Goes b) c1 l1 w1 lo sure = others b c1 l1 w1 (pull_rest p.0 (q ∷ qs)) (pull_rest p.0 (x ∷ xs)) (rest_length p.0 count (q ∷ qs) less long) (parts_rest k t p.0 (q ∷ qs) (x ∷ xs) have) (rest_inside code around p.0 (x ∷ xs) within) (omega (arith, lo, le)) sure.1

  -- Parts ---------------------------------------------------------------------------------------------

  -- each part
  pub part_runs : (n : ℕ) → PartsRun n
  unfolding adjust_part adjust_each controlled_parts opened_outcome
  part_runs zero s t a ks c l w s0 notes homes less plain inside le fits first = absurd (omega (arith, less))
  part_runs (suc n) s t a ks c l w s0 notes homes less plain inside le fits first = by (part_runs n) (keep (λ p. has_controlled k p.ty) (placed k t)) (controlled_of code t) (setting.agrees default constants t plain).controlled (controlled_inside code setting.valid around t inside) first
    where
      by : PartsRun n → (left : List Placed) (xs : List Begun) → HaveParts k t left xs → AreBegunBy code around xs → step ask code s0 ≡ moved l (Table.adjust_left code made s t xs a.failed (ks a.paths) w) → Adjusts 4 4 s0 c ks (then_own n s t (length left) left a c l w)
      by parts [] [] have scoped go =
          subst (Adjusts 4 4 s0 c ks) (sym (add_none (own_adjust K creation s t a c l w)))
          (within ask code (Sure k code wr) 3 3 4 4 s0 c (hands ks) (own_adjust K creation s t a c l w) (omega arith) (omega arith) (own_runs s t a ks notes c l w s0 homes plain inside le fits go))
      by parts [] (x ∷ xs) have scoped go = absurd have
      by parts (q ∷ qs) [] have scoped go = absurd have
      by parts (q ∷ qs) (x ∷ xs) have scoped go =
          one_step ask code (Sure k code wr) 3 3 4 4 s0 (before_parts s t a ks (x ∷ xs) l w) c c (hands ks) _ (omega arith) (omega arith) (omega arith) (omega arith) go
          (left_run n parts s t homes (omega (arith, less)) plain inside (length (q ∷ qs)) a ks notes c l w (q ∷ qs) (x ∷ xs) refl have scoped le fits)

  -- a part whose components wait to be adjusted
  pub waiting_runs : (n : ℕ) (s : Spot) (t : ℕ) (a : Adjusted) (ks : Noted) (c : ℕ) (l : Log) (w : World) → Notes made assigning ks → IsSurrounded k code assigning wr around s.object → t ≤ n → IsPlainType k (Record t) → IsDeclarable code around t → c ≤ bound → Since k code wr w → Adjusts 3 3 (before_parts s t a ks (controlled_of code t) l w) c ks (adjust_part K creation (suc n) s t a c l w)
  unfolding adjust_part controlled_parts opened_outcome
  waiting_runs n s t a ks c l w notes homes old plain inside le fits =
      let left = keep (λ p. has_controlled k p.ty) (placed k t) in
      left_run n (part_runs n) s t homes old plain inside (length left) a ks notes c l w left (controlled_of code t) refl (setting.agrees default constants t plain).controlled (controlled_inside code setting.valid around t inside) le fits
