-- A master is left: its layers are finalized, from the newest on, and what it declared is gone.
use Rattle.std.proofs.Common.{◌≡◌, ℕ, ◌+◌, ◌≤◌, List, [], ◌∷◌, length, Option, Some, None, Bool, true, false, refl, sym, ap, ◌∙◌, subst, arith}
use Rattle.std.specs.Prelude.{◌||◌, slice_get}
use Rattle.ctl_program.specs.declared.types.Ty.{Ty}
use Rattle.ctl_program.specs.declared.types.Ty.TheVariants.{Integer, Count, Boolean, Address, Handle, Access, Record}
use Rattle.ctl_tree.specs.declared.ending.Stop.TheVariants.{UseAfterFree}
use Rattle.ctl_tree.specs.declared.event.Cause.TheVariants.{Scope}
use Rattle.ctl_meaning.specs.World.{Slot, Object, Layer, Single, Sets, Log, World}
use Rattle.ctl_meaning.specs.Ledger.{layers_of, drop_layer}
use Rattle.ctl_meaning.specs.Activations.{slots_in, activation_at}
use Rattle.ctl_meaning.specs.Changes.{object_at, take_layer, close_master, start_collections}
use Rattle.ctl_meaning.specs.Choice.{Ask, picked}
use Rattle.ctl_meaning.specs.Outcome.{program_error, raised_by, Way, ByRaise, Result, Goes, Leaves, Out, Act, Done, Fine, add, bind, on_goes, ◌>>◌, ticked, change, on_some, opened_outcome}
use Rattle.ctl_meaning.specs.Types.{Tables, has_controlled, of_record}
use Rattle.ctl_meaning.specs.Names.{Call, Default, Tools, gone, existing}
use Rattle.ctl_meaning.specs.Storage.{program_error_if}
use Rattle.ctl_meaning.specs.Masters as Masters
use Rattle.ctl_meaning.specs.Masters.{Left, finalize_layer, finalize_sets, leave_layers, left, leave}
use Rattle.ctl_code.specs.declared.code.Code.{Code}
use Rattle.ctl_code.specs.declared.code.Instr.TheVariants as InstrOf
use Rattle.ctl_code.specs.States.{After, AfterBlock, AfterProcedure, AfterFunction, AfterBody, Complete, Frame, Handling, handling, InMaster, Leaving, Emptying, State}
use Rattle.ctl_code.specs.Table as Table
use Rattle.ctl_code.specs.Table.{behind, by_transfer, handlers_in, finalize_declared, next_layer, with_end}
use Rattle.ctl_code.specs.Steps.{moved, step}
use Rattle.ctl_gen.proofs.Known.{IsPlainType}
use Rattle.ctl_gen.proofs.Parted.{GivesDefaults}
use Rattle.ctl_gen.proofs.Each.{IfFound}
use Rattle.ctl_gen.proofs.Worlds.{Settled, Since, object_fits, since_take, since_started, since_close}
use Rattle.ctl_gen.proofs.Setting.{Setting, tools_with, Calls, Told, Sure}
use Rattle.ctl_gen.proofs.Cells.{by_code}
use Rattle.ctl_gen.proofs.FinalizedParts.{heard, tells}
use Rattle.ctl_gen.proofs.Finalize.{finalize_as, declared_runs, untouched_runs}
use Rattle.ctl_gen.proofs.Emptied.{group_runs}
use Rattle.ctl_gen.proofs.Follow.{Runs, Comes, OutOf, at, gives, transferred, arrives, leads_out, raised_is, way_of, both, added, after_paid, one_step, stop_step, end_step, bind_bind}

-- where the end of a master leads
abbrev pub leaves : After → List Frame → Result Left → Log → World → State
leaves after ks (Goes x) l w = moved l (behind after x.result x.slots ks w)
leaves after ks (Leaves y) l w = moved l (behind after (Leaves y) [] ks w)

-- an exception leads there whatever the slots of the master held
raised_behind : (after : After) (e : ℕ) (slots : List Slot) (ks : List Frame) (w : World) → behind after (Leaves (ByRaise e)) slots ks w ≡ behind after (Leaves (ByRaise e)) [] ks w
raised_behind (AfterBlock p) e slots ks w = refl
raised_behind (AfterProcedure copies p) e slots ks w = refl
raised_behind (AfterFunction cells p) e slots ks w = refl
raised_behind AfterBody e slots ks w = refl

-- The step that leaves a master ---------------------------------------------------------------------

-- what is no exception leaves the innermost master, whether it has handlers or not
leaves_it : (code : Code) (y : Way) (ks : List Frame) (w : World) → raised_by y ≡ None → by_transfer code y ks w ≡ Table.leave code (Leaves y) ks w
leaves_it code y ks w none = ap (λ o. Table.transferred code y o (handlers_in ks) ks w) none

-- the newest master, which has no handlers or has begun to handle this
abbrev pub in_frame : ℕ → ℕ → After → List Frame → List Frame
in_frame m caught after ks = InMaster m (handling caught) after ∷ ks

module _ (ask : Ask) (code : Code) where
  -- the step by which a master is left, whose statements have ended so
  abbrev pub StepsOut : State → Result Done → ℕ → After → List Frame → Log → World → Type 0
  StepsOut s0 r m after ks l w = step ask code s0 ≡ moved l (next_layer code m (layers_of m w.ledger) false r after ks w)

  -- at its end
  pub ends_out : (m : ℕ) (g : Handling) (after : After) (d : List ℕ) (place : ℕ) (ks : List Frame) (l : Log) (w : World) → slice_get code.instructions.items place ≡ Some InstrOf.Leave → StepsOut (at d place (InMaster m g after ∷ ks) [] l w) (Goes tt) m after ks l w
  ends_out m g after d place ks l w here = by_code ask code d place (InMaster m g after ∷ ks) [] l w InstrOf.Leave here

  -- by what is no exception
  pub passes_out : (m : ℕ) (g : Handling) (after : After) (ks : List Frame) (y : Way) (l : Log) (w : World) → raised_by y ≡ None → StepsOut (transferred y (InMaster m g after ∷ ks) l w) (Leaves y) m after ks l w
  unfolding picked
  passes_out m g after ks y l w none = ap (moved l) (leaves_it code y (InMaster m g after ∷ ks) w none)

  -- by an exception, where there are no handlers or they have begun
  raises_out : (m caught : ℕ) (after : After) (ks : List Frame) (e : ℕ) (l : Log) (w : World) → StepsOut (transferred (ByRaise e) (in_frame m caught after ks) l w) (Leaves (ByRaise e)) m after ks l w
  unfolding picked
  raises_out m caught after ks e l w = refl

  pub steps_out : (m caught : ℕ) (after : After) (d : List ℕ) (place : ℕ) (ks : List Frame) → slice_get code.instructions.items place ≡ Some InstrOf.Leave → (r : Result Done) (l : Log) (w : World) → StepsOut (arrives OutOf d place (in_frame m caught after ks) [] r l w) r m after ks l w
  steps_out m caught after d place ks here (Goes a) l w = ends_out m (handling caught) after d place ks l w here
  steps_out m caught after d place ks here (Leaves y) l w = ap (step ask code) (leads_out y d (in_frame m caught after ks) [] l w) ∙ by (raised_by y) refl
    where
      by : (o : Option ℕ) → raised_by y ≡ o → StepsOut (transferred y (in_frame m caught after ks) l w) (Leaves y) m after ks l w
      by None is = passes_out m (handling caught) after ks y l w is
      by (Some e) is = subst (λ v. StepsOut (transferred v (in_frame m caught after ks) l w) (Leaves v) m after ks l w) (sym (raised_is y e is)) (raises_out m caught after ks e l w)

-- What it does ---------------------------------------------------------------------------------------

module _ (ask : Ask) (k : Tables) (code : Code) (setting : Setting k code) (call : Call) (default : Default) (constants : GivesDefaults k default) (bound : ℕ) (calls : Calls ask k code setting bound call) where
  abbrev K : Tools
  K = tools_with ask k call default

  abbrev rest : ℕ → List Layer → Result Done → Bool → Result Bool → Act Left
  rest m xs r failed s c l w = bind (on_goes (λ b. leave_layers K m xs (failed || b)) s c l w) (on_goes (left m r))

  -- a declared object that is found, or not, from the step that looks for it
  found_runs : (n : ℕ) (w0 : World) (ks : List Frame) (c : ℕ) (l : Log) (w : World) (s0 : State) → c ≤ bound → Since k code w0 w → (y : Option Object) → object_at n w ≡ y → IfFound (Settled k code w.ledger.next_master w.activations w.ledger.collections) y → step ask code s0 ≡ moved l (finalize_declared code n y ks w) → Runs ask code (Sure k code w0) 3 3 s0 c (tells ks) (on_some y gone (λ o. finalize_as K n o.ty) c l w)
  unfolding opened_outcome gone has_controlled of_record
  found_runs n w0 ks c l w s0 le fits None at known first = stop_step ask code (Sure k code w0) 3 3 s0 _ c 0 (tells ks) UseAfterFree l (omega arith) first refl refl
  found_runs n w0 ks c l w s0 le fits (Some o) at known first = by o.ty refl known.plain first
    where
      goal : Out Bool → Type 0
      goal x = Runs ask code (Sure k code w0) 3 3 s0 c (tells ks) x

      -- one that is no record has no controlled part
      elementary : (ty : Ty) → has_controlled k ty ≡ false → step ask code s0 ≡ tells ks (Goes false) l (with_end Scope n w) → Runs ask code (Sure k code w0) 3 3 s0 c (tells ks) (finalize_as K n ty c l w)
      elementary ty none e = untouched_runs ask k code setting call default constants bound calls ty n w0 ks c l w s0 none fits e

      by : (ty : Ty) → o.ty ≡ ty → IsPlainType k ty → step ask code s0 ≡ moved l (finalize_declared code n (Some (record o { ty = ty })) ks w) → Runs ask code (Sure k code w0) 3 3 s0 c (tells ks) (finalize_as K n ty c l w)
      by (Record t) is known1 e = declared_runs ask k code setting call default constants bound calls t n w0 ks c l w s0 o le fits at is known1 e
      by Integer is known1 e = elementary Integer refl e
      by Boolean is known1 e = elementary Boolean refl e
      by Count is known1 e = elementary Count refl e
      by Address is known1 e = elementary Address refl e
      by Handle is known1 e = elementary Handle refl e
      by (Access a) is known1 e = elementary (Access a) refl e

  -- a layer is taken out and finalized
  layer_runs : (n m : ℕ) (w0 : World) (ks : List Frame) (c : ℕ) (l : Log) (w : World) (s0 : State) → c ≤ bound → Since k code w0 w → step ask code s0 ≡ moved l (finalize_declared code n (object_at n w) ks (take_layer m w)) → Runs ask code (Sure k code w0) 0 0 s0 c (tells ks) (ticked (change (take_layer m) >> finalize_layer K (Single n)) c l w)
  unfolding opened_outcome finalize_layer Masters.finalize_declared existing object_at take_layer drop_layer
  layer_runs n m w0 ks c l w s0 le fits first =
      added ask code (Sure k code w0) 1 3 3 0 0 s0 c (tells ks) _ (omega arith) (omega arith)
      (added ask code (Sure k code w0) 0 3 3 3 3 s0 c (tells ks) _ (omega arith) (omega arith)
      (found_runs n w0 ks c l (take_layer m w) s0 le (since_take k code m w0 w fits) (object_at n w) refl (object_fits k code n w fits.0) first))

  -- so are the members of collections
  sets_run : (s : List ℕ) (m : ℕ) (w0 : World) (ks : List Frame) (c : ℕ) (l : Log) (w : World) (s0 : State) → c ≤ bound → Since k code w0 w → step ask code s0 ≡ gives (Emptying s false ∷ ks) (Fine Complete) l (start_collections s (take_layer m w)) → Runs ask code (Sure k code w0) 0 0 s0 c (tells ks) (ticked (change (take_layer m) >> finalize_layer K (Sets s)) c l w)
  unfolding opened_outcome finalize_layer finalize_sets
  sets_run s m w0 ks c l w s0 le fits first =
      let w1 = start_collections s (take_layer m w) in
      added ask code (Sure k code w0) 1 2 2 0 0 s0 c (tells ks) _ (omega arith) (omega arith)
      (added ask code (Sure k code w0) 0 2 2 2 2 s0 c (tells ks) _ (omega arith) (omega arith)
      (added ask code (Sure k code w0) (length s + 0) 2 2 2 2 s0 c (tells ks) _ (omega arith) (omega arith)
      (one_step ask code (Sure k code w0) 1 1 2 2 s0 (gives (Emptying s false ∷ ks) (Fine Complete) l w1) c c (tells ks) _ (omega arith) (omega arith) (omega arith) (omega arith) first
      (group_runs ask k code setting call default constants bound calls s w0 ks c l w1 le (since_started k code s w0 (take_layer m w) (since_take k code m w0 w fits))))))

  -- the next layer, from the step that begins with it
  next_runs : (x : Layer) (xs : List Layer) (failed : Bool) (r : Result Done) (m : ℕ) (after : After) (w0 : World) (ks : List Frame) (c : ℕ) (l : Log) (w : World) (s0 : State) → c ≤ bound → Since k code w0 w → step ask code s0 ≡ moved l (next_layer code m (x ∷ xs) failed r after ks w) → Runs ask code (Sure k code w0) 0 0 s0 c (tells (Leaving m xs failed r after ∷ ks)) (ticked (change (take_layer m) >> finalize_layer K x) c l w)
  next_runs (Single n) xs failed r m after w0 ks c l w s0 le fits first = layer_runs n m w0 (Leaving m xs failed r after ∷ ks) c l w s0 le fits first
  next_runs (Sets s) xs failed r m after w0 ks c l w s0 le fits first = sets_run s m w0 (Leaving m xs failed r after ∷ ks) c l w s0 le fits first

  -- the layers that are left, from the step that begins with them
  layers_run : (xs : List Layer) (failed : Bool) (r : Result Done) (m : ℕ) (after : After) (w0 : World) (ks : List Frame) (c : ℕ) (l : Log) (w : World) (s0 : State) → w0.ledger.next_master ≤ m → c ≤ bound → Since k code w0 w → step ask code s0 ≡ moved l (next_layer code m xs failed r after ks w) → Runs ask code (Told k code w0) 1 1 s0 c (leaves after ks) (bind (leave_layers K m xs failed c l w) (on_goes (left m r)))
  unfolding picked opened_outcome leave_layers left program_error_if
  layers_run [] true r m after w0 ks c l w s0 young le fits first = end_step ask code (Told k code w0) 1 s0 c _ (leaves after ks) (Leaves (ByRaise program_error)) l (close_master m w) (tt, since_close k code m w0 w young fits)
      (first ∙ ap (moved l) (raised_behind after program_error (slots_in (activation_at m w.activations)) ks (close_master m w)))
  layers_run [] false r m after w0 ks c l w s0 young le fits first = end_step ask code (Told k code w0) 1 s0 c _ (leaves after ks) (Goes (record { result = r; slots = slots_in (activation_at m w.activations) })) l (close_master m w) (tt, since_close k code m w0 w young fits) first
  layers_run (x ∷ xs) failed r m after w0 ks c l w s0 young le fits first =
      subst goal (sym (bind_bind (ticked (change (take_layer m) >> finalize_layer K x) c l w) (on_goes (λ b. leave_layers K m xs (failed || b))) (on_goes (left m r))))
      (both ask code (Sure k code w0) (Told k code w0) 0 0 1 1 1 1 s0 c (tells frames) (leaves after ks) _ (rest m xs r failed) (omega arith) (omega arith) (omega arith)
      (next_runs x xs failed r m after w0 ks c l w s0 le fits first)
      (on (λ b c1 l1 w1 lo fits1 next. layers_run xs (failed || b) r m after w0 ks c1 l1 w1 (tells frames (Goes b) l1 w1) young (omega (arith, lo, le)) fits1 next)))
    where
      frames : List Frame
      frames = Leaving m xs failed r after ∷ ks

      goal : Out Left → Type 0
      goal o = Runs ask code (Told k code w0) 1 1 s0 c (leaves after ks) o

      on : ((b : Bool) (c1 : ℕ) (l1 : Log) (w1 : World) → c1 ≤ c → Since k code w0 w1 → step ask code (tells (Leaving m xs failed r after ∷ ks) (Goes b) l1 w1) ≡ moved l1 (next_layer code m xs (failed || b) r after ks w1) → Runs ask code (Told k code w0) 1 1 (tells (Leaving m xs failed r after ∷ ks) (Goes b) l1 w1) c1 (leaves after ks) (bind (leave_layers K m xs (failed || b) c1 l1 w1) (on_goes (left m r)))) → (s : Result Bool) (c1 : ℕ) (l1 : Log) (w1 : World) → c1 ≤ c → Sure k code w0 (way_of s) w1 → Runs ask code (Told k code w0) 1 1 (tells (Leaving m xs failed r after ∷ ks) s l1 w1) c1 (leaves after ks) (rest m xs r failed s c1 l1 w1)
      on more (Goes b) c1 l1 w1 lo fits1 = more b c1 l1 w1 lo fits1.1 (ap (λ z. moved l1 (next_layer code m xs (failed || z) r after ks w1)) (heard b))
      on more (Leaves y) c1 l1 w1 lo fits1 = absurd fits1.0

  -- a master whose statements have ended so, from the step that leaves it
  pub leave_runs : (r : Result Done) (m : ℕ) (after : After) (w0 : World) (ks : List Frame) (c : ℕ) (l : Log) (w : World) (s0 : State) → w0.ledger.next_master ≤ m → c ≤ bound → Since k code w0 w → step ask code s0 ≡ moved l (next_layer code m (layers_of m w.ledger) false r after ks w) → Runs ask code (Told k code w0) 1 1 s0 c (leaves after ks) (bind (leave_layers K m (layers_of m w.ledger) false c l w) (on_goes (left m r)))
  leave_runs r m after w0 ks c l w s0 young le fits first = layers_run (layers_of m w.ledger) false r m after w0 ks c l w s0 young le fits first

  -- the same, where its tick pays
  pub left_runs : (r : Result Done) (m : ℕ) (after : After) (w0 : World) (ks : List Frame) (c : ℕ) (l : Log) (w : World) (s0 : State) → w0.ledger.next_master ≤ m → c ≤ bound → Since k code w0 w → StepsOut ask code s0 r m after ks l w → Runs ask code (Told k code w0) 0 0 s0 c (leaves after ks) (leave K m r c l w)
  unfolding leave opened_outcome
  left_runs r m after w0 ks c l w s0 young le fits first = added ask code (Told k code w0) 1 1 1 0 0 s0 c (leaves after ks) _ (omega arith) (omega arith) (leave_runs r m after w0 ks c l w s0 young le fits first)

  -- and where it pays for a stretch before
  pub left_after : {X : Type 0} (b : ℕ) → b ≤ 8 → (r : Result Done) (m : ℕ) (after : After) (w0 : World) (ks : List Frame) (c0 c t : ℕ) (l : Log) (w : World) (s0 s1 : State) → w0.ledger.next_master ≤ m → c ≤ bound → Since k code w0 w → Comes ask code b s0 c0 t c s1 X → StepsOut ask code s1 r m after ks l w → Runs ask code (Told k code w0) 0 2 s0 c0 (leaves after ks) (add t (leave K m r c l w))
  unfolding leave opened_outcome
  left_after b few r m after w0 ks c0 c t l w s0 s1 young le fits front first = after_paid ask code (Told k code w0) b 1 1 0 2 s0 s1 c0 c t (leaves after ks) _ (omega (arith, few)) (omega (arith, few)) front (leave_runs r m after w0 ks c l w s1 young le fits first)
