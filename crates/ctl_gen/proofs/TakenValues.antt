-- A new object that takes a value, whatever creates it: it is adjusted, and where no Adjust failed it comes to life; else those of its parts that
-- are adjusted are finalized, and Program_Error is raised (3.3.1, 4.8, 7.6, 7.6.1).
use Rattle.std.proofs.Common.{◌≡◌, ℕ, suc, ◌+◌, ◌≤◌, List, [], ◌∷◌, length, Option, Some, None, Bool, true, false, refl, sym, ap, ◌∙◌, subst, arith}
use Rattle.std.specs.Prelude.{is_some}
use Rattle.ctl_program.specs.declared.types.Ty.TheVariants.{Record}
use Rattle.ctl_tree.specs.declared.ending.Stop.TheVariants.{UseAfterFree}
use Rattle.ctl_tree.specs.declared.event.Owner.{Owner}
use Rattle.ctl_meaning.specs.World.{Object, Log, World}
use Rattle.ctl_meaning.specs.Changes.{object_at, write_cells, home_of}
use Rattle.ctl_meaning.specs.Choice.{Ask, picked}
use Rattle.ctl_meaning.specs.Outcome.{program_error, Result, Goes, Leaves, Out, Gives, Act, Done, Fine, bind, on_goes, ◌>>◌, nothing, raise, change, either, on_some, when, opened_outcome}
use Rattle.ctl_meaning.specs.Types.{Tables, depth, has_controlled, of_record}
use Rattle.ctl_meaning.specs.Names.{Call, Default, Tools, gone, existing, write_part}
use Rattle.ctl_meaning.specs.Finalization.{whole}
use Rattle.ctl_meaning.specs.Adjustment.{Adjusted, Birth, adjust, adjust_part, adjust_record, adjusted, clean_up_copy, unadjusted}
use Rattle.ctl_code.specs.declared.code.Parts.{Parts}
use Rattle.ctl_code.specs.declared.code.Parts.TheVariants as PartsOf
use Rattle.ctl_code.specs.declared.code.Code.{Code}
use Rattle.ctl_code.specs.States.{Complete, Point, Maker, Frame, Adjusting, Copying, Creating, State, whole_spot}
use Rattle.ctl_code.specs.Table as Table
use Rattle.ctl_code.specs.Table.{come_to_life, controlled_of, handed, has_part, newborn, parts_of}
use Rattle.ctl_code.specs.Steps.{moved, step}
use Rattle.ctl_gen.proofs.Known.{IsPlainType}
use Rattle.ctl_gen.proofs.Adjust.{untouched_is}
use Rattle.ctl_gen.proofs.AdjustedParts.{Noted, hands, waiting_runs}
use Rattle.ctl_gen.proofs.FailedParts.{Fallen, fallen_told}
use Rattle.ctl_gen.proofs.UndoneParts.{failed_copy_runs}
use Rattle.ctl_gen.proofs.Finalize.{within_table}
use Rattle.ctl_gen.proofs.Worlds.{Fits, Since, keeps_itself, since_written}
use Rattle.ctl_gen.proofs.Scopes.{still_surrounded}
use Rattle.ctl_gen.proofs.Parted.{GivesDefaults, is_itself}
use Rattle.ctl_gen.proofs.CreatedParts.{IsAround}
use Rattle.ctl_gen.proofs.Setting.{Setting, Calls, Sure, Told, returns, tools_with}
use Rattle.ctl_gen.proofs.Follow.{gives, way_of, RunsTo, add_none, added_to, bind_bind, both_to, one_step_to, stop_step_to}

module _ (ask : Ask) (k : Tables) (code : Code) (setting : Setting k code) (call : Call) (default : Default) (constants : GivesDefaults k default) (bound : ℕ) (calls : Calls ask k code setting bound call) (t : ℕ) (plain : IsPlainType k (Record t)) where
  abbrev K : Tools
  K = tools_with ask k call default

  -- an object of such a birth takes a value
  abbrev pub taking : Birth → ℕ → List ℕ → Act Done
  taking birth n v = write_part n 0 v >> adjust K (Some birth) (whole n) (Record t)

  -- what is created so, in this world, and what follows its creation
  module _ (maker : Maker) (n : ℕ) (owner : Owner) (birth : Birth) (owned : birth.owner ≡ owner) (p : Point) (ks : List Frame) (w1 : World) (fits1 : Fits k code w1) (around : IsAround code n t w1) {B : Type 0} (Ends : Result B → World → Type 0) (next : Result B → Log → World → State) (f : Result Done → Act B) where
    abbrev Meets : ℕ → ℕ → State → ℕ → Out B → Type 0
    Meets b h s c o = RunsTo ask code Ends b h s c next o

    -- it comes to life, in a step that takes at most one from the clock
    abbrev pub Lives : Type 0
    Lives = (s0 : State) (c0 c : ℕ) (l : Log) (w : World) → c ≤ c0 → c0 ≤ c + 1 → Since k code w1 w → step ask code s0 ≡ moved l (come_to_life maker n (object_at n w) p ks w) → Meets 1 3 s0 c0 (f (Goes tt) c l w)

    -- its creation has ended, by an exception or not
    abbrev pub Stands : Type 0
    Stands = (r : Result Done) (c : ℕ) (l : Log) (w : World) → Told k code w1 (way_of r) w → Meets 1 3 (returns (Creating maker n t p ∷ ks) r l w) c (f r c l w)

    module _ (lives : Lives) (stands : Stands) where
      -- what follows the adjustment of its parts
      abbrev settles : Result Adjusted → Act B
      settles x c l w = bind (on_goes (adjusted K (Some birth) (whole_spot n) t) x c l w) f

      adjust_is : (c : ℕ) (l : Log) (w : World) → bind (adjust K (Some birth) (whole n) (Record t) c l w) f ≡ bind (adjust_part K (Some birth) (suc (length k.records)) (whole_spot n) t unadjusted c l w) settles
      unfolding adjust adjust_record of_record depth whole opened_outcome
      adjust_is c l w = bind_bind (adjust_part K (Some birth) (suc (length k.records)) (whole_spot n) t unadjusted c l w) (on_goes (adjusted K (Some birth) (whole_spot n) t)) f

      -- where no Adjust failed nothing more is done
      lived_is : (a : Adjusted) (c : ℕ) (l : Log) (w : World) → a.failed ≡ false → adjusted K (Some birth) (whole_spot n) t a c l w ≡ Gives (Goes tt) 0 c l w
      unfolding adjusted opened_outcome
      lived_is a c l w is = ap (λ x. either x (when (is_some (Some birth)) (clean_up_copy K (whole_spot n) t a.paths) >> raise program_error) nothing c l w) is

      -- the frames of an object that is adjusted
      abbrev copying : Noted
      copying paths = Copying maker n t paths p ∷ ks

      -- once its parts are adjusted it comes to life, or where an Adjust failed it is given up
      settles_runs : has_controlled k (Record t) ≡ true → (a : Adjusted) (c : ℕ) (l : Log) (w : World) → c ≤ bound → Since k code w1 w → Meets 2 4 (gives (copying a.paths) (Fine (handed a.failed)) l w) c (settles (Goes a) c l w)
      unfolding picked opened_outcome
      settles_runs held a c l w le fits = by a.failed refl
        where
          s0 : State
          s0 = gives (copying a.paths) (Fine (handed a.failed)) l w

          by : (b : Bool) → a.failed ≡ b → Meets 2 4 s0 c (settles (Goes a) c l w)
          by false is =
              subst (λ x. Meets 2 4 s0 c (bind x f)) (sym (lived_is a c l w is))
              (added_to ask code Ends 0 1 3 2 4 s0 c next (f (Goes tt) c l w) (omega arith) (omega arith)
              (lives s0 c c l w (omega arith) (omega arith) fits (ap (λ b. moved l (Table.by_copying code (Fine (handed b)) maker n t a.paths p ks w)) is)))
          by true is =
              both_to ask code (λ r v. Fallen k code w1 (way_of r) v) Ends 1 1 1 3 2 4 s0 c (returns (Creating maker n t p ∷ ks)) next (adjusted K (Some birth) (whole_spot n) t a c l w) f (omega arith) (omega arith) (omega arith)
              (failed_copy_runs ask k code setting call default constants bound calls w1 around.0 fits1 birth a n t (Creating maker n t p ∷ ks) c l w s0 is around.1 plain held around.2 le fits (ap (λ b. moved l (Table.by_copying code (Fine (handed b)) maker n t a.paths p ks w)) is))
              (λ x c1 l1 v lo fallen. stands x c1 l1 v (fallen_told k code w1 v (way_of x) fallen))

      -- before its parts are adjusted
      abbrev adjusting : Log → World → State
      adjusting l w = gives (Adjusting (Some owner) (whole_spot n) t (controlled_of code t) ∷ Copying maker n t [] p ∷ ks) (Fine Complete) l w

      -- an object that has its value, and a controlled part, from the frame that has its parts adjusted
      adjusts_runs : has_controlled k (Record t) ≡ true → (c : ℕ) (l : Log) (w : World) → c ≤ bound → Since k code w1 w → Meets 5 7 (adjusting l w) c (bind (adjust K (Some birth) (whole n) (Record t) c l w) f)
      unfolding unadjusted
      adjusts_runs held c l w le fits =
          subst (Meets 5 7 (adjusting l w) c) (sym (adjust_is c l w))
          (both_to ask code (λ r v. Sure k code w1 (way_of r) v) Ends 3 3 2 4 5 7 (adjusting l w) c (hands copying) next (adjust_part K (Some birth) (suc (length k.records)) (whole_spot n) t unadjusted c l w) settles (omega arith) (omega arith) (omega arith)
          (waiting_runs ask k code setting call default constants bound calls (Some birth) (Some owner) owned None w1 (length (home_of around.0.origin w1)) (length k.records) (whole_spot n) t unadjusted copying c l w (λ path paths. refl, λ paths. refl) (still_surrounded k code w1 n around.0 fits1 around.1) (within_table k t plain) plain around.2 le fits)
          after)
        where
          after : (x : Result Adjusted) (c1 : ℕ) (l1 : Log) (v : World) → c1 ≤ c → Sure k code w1 (way_of x) v → Meets 2 4 (hands copying x l1 v) c1 (settles x c1 l1 v)
          after (Goes a) c1 l1 v lo sure = settles_runs held a c1 l1 v (omega (arith, lo, le)) sure.1
          after (Leaves y) c1 l1 v lo sure = absurd sure.0

      -- the same from the step before
      waits : (s0 : State) (c0 c : ℕ) (l : Log) (w : World) → c ≤ bound → c ≤ c0 → c0 ≤ c + 1 → Since k code w1 w → has_controlled k (Record t) ≡ true → step ask code s0 ≡ adjusting l w → Meets 6 8 s0 c0 (bind (adjust K (Some birth) (whole n) (Record t) c l w) f)
      waits s0 c0 c l w le lo hi fits held first = one_step_to ask code Ends 5 7 6 8 s0 (adjusting l w) c0 c next _ (omega arith) (omega arith) lo hi first (adjusts_runs held c l w le fits)

      -- an object that has its value, from the step that asks what of it is controlled
      fills : (s0 : State) (c0 c : ℕ) (l : Log) (w : World) → c ≤ bound → c ≤ c0 → c0 ≤ c + 1 → Since k code w1 w → (q : Parts) → parts_of code t ≡ q → step ask code s0 ≡ moved l (Table.adjust_new code q maker (newborn n t owner) p ks w) → Meets 6 8 s0 c0 (bind (adjust K (Some birth) (whole n) (Record t) c l w) f)
      unfolding opened_outcome
      fills s0 c0 c l w le lo hi fits PartsOf.Plain is first =
          let agrees = setting.agrees default constants t plain in
          subst (λ x. Meets 6 8 s0 c0 (bind x f)) (sym (untouched_is ask k call default t plain (agrees.has ∙ ap has_part is) (agrees.itself ∙ ap is_itself is) (Some birth) (whole n) c l w))
          (added_to ask code Ends 0 1 3 6 8 s0 c0 next (f (Goes tt) c l w) (omega arith) (omega arith) (lives s0 c0 c l w lo hi fits first))
      fills s0 c0 c l w le lo hi fits PartsOf.Within is first = waits s0 c0 c l w le lo hi fits ((setting.agrees default constants t plain).has ∙ ap has_part is) first
      fills s0 c0 c l w le lo hi fits PartsOf.Controlled is first = waits s0 c0 c l w le lo hi fits ((setting.agrees default constants t plain).has ∙ ap has_part is) first

      -- from the step that creates it
      pub taken_runs : (v : List ℕ) (s0 : State) (c0 c : ℕ) (l : Log) → c ≤ bound → c ≤ c0 → c0 ≤ c + 1 → step ask code s0 ≡ moved l (Table.take_value code maker (newborn n t owner) v (object_at n w1) p ks w1) → Meets 6 8 s0 c0 (bind (taking birth n v c l w1) f)
      unfolding write_part existing gone opened_outcome
      taken_runs v s0 c0 c l le lo hi first = by (object_at n w1) first
        where
          by : (x : Option Object) → step ask code s0 ≡ moved l (Table.take_value code maker (newborn n t owner) v x p ks w1) → Meets 6 8 s0 c0 (bind (bind (on_some x gone (λ o. change (write_cells n 0 v)) c l w1) (on_goes (λ _. adjust K (Some birth) (whole n) (Record t)))) f)
          by None go = stop_step_to ask code Ends 6 8 s0 _ c0 0 next UseAfterFree l (omega arith) go refl refl
          by (Some o) go =
              let v1 = write_cells n 0 v w1 in
              subst (λ x. Meets 6 8 s0 c0 (bind x f)) (sym (add_none (adjust K (Some birth) (whole n) (Record t) c l v1)))
              (fills s0 c0 c l v1 le lo hi (since_written k code n 0 v w1 w1 (fits1, keeps_itself k code w1)) (parts_of code t) refl go)
