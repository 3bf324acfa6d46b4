-- The target of an assignment is finalized and adjusted: nothing is closed, and nothing comes to life (5.2, 7.6).
use Rattle.std.proofs.Common.{ℕ, zero, suc, List, Option, None, Bool, true, false, ◌||◌}
use Rattle.ctl_program.specs.declared.types.Ty.{Ty}
use Rattle.ctl_tree.specs.declared.event.Event.{Event}
use Rattle.ctl_tree.specs.declared.event.Cause.{Cause}
use Rattle.ctl_tree.specs.declared.event.Cause as CauseOf
use Rattle.ctl_meaning.specs.World.{Slot}
use Rattle.ctl_meaning.specs.Lists.{pull_item, pull_rest}
use Rattle.ctl_meaning.specs.Choice.{Ask}
use Rattle.ctl_meaning.specs.Outcome.{Act, Done, choose, choose, attempt, Tried, Fine, Raised, when}
use Rattle.ctl_meaning.specs.Types.{Tables, Placed, depth, of_record}
use Rattle.ctl_meaning.specs.Names.{OfSubprogram, Call as Caller, Default, Tools}
use Rattle.ctl_meaning.specs.Finalization.{Spot, component_at, no_component, call_operation, Chosen, after_finalize, own_finalize, in_any_order, finalize_part, finalize}
use Rattle.ctl_meaning.specs.Adjustment.{lives_if, Adjusted, unadjusted, adjust_each, after_adjust, own_adjust, adjust_part, adjusted, adjust_record, adjust}
use Rattle.ctl_meaning.specs.Masters.{left}
use Rattle.ctl_orderly.proofs.Rules.{Good, as_well, chooses, choice}
use Rattle.ctl_orderly.proofs.Edits.{Plain, shows_plain}
use Rattle.ctl_orderly.proofs.Plain.{keeps_done, keeps_either, keeps_nothing, keeps_raise, keeps_seq, keeps_then, keeps_ticked}
use Rattle.std.proofs.Common.{◌≡◌, refl}
use Rattle.ctl_meaning.specs.Audit.{is_closing}
use Rattle.ctl_orderly.proofs.Rules.{Always, attempts, record_or}
use Rattle.ctl_orderly.proofs.Closing.{call_does}

module _ (t : Tables) (ask : Ask) (call : Caller) (default : Default) (calls : (f : ℕ) (ss : List Slot) (env : List ℕ) → Good t (call (OfSubprogram f ss) env)) where
  abbrev k : Tools
  k = record { ask = ask; tables = t; call = call; default = default }

  keeps_call_operation : (s : Spot) (o : Option ℕ) (e : Event) → Plain e → Good t (call_operation k s o e)
  keeps_call_operation s o e plain = call_does t ask call default calls s o e (λ tr w tr' w' i i' m h. tt) (λ tr w r z. tt) (λ z Req' needs. as_well (shows_plain e plain) (λ tr w i r. tt) (λ r tr w i h. tt))

  keeps_of_record : {A : Type 0} {m : Act A} {f : ℕ → Act A} (ty : Ty) → Good t m → ((u : ℕ) → Good t (f u)) → Good t (of_record m f ty)
  keeps_of_record ty h g = record_or ty (λ never. h) (λ u e. g u)

  keeps_attempt : {A : Type 0} {m : Act A} → Good t m → Good t (attempt m)
  keeps_attempt h = as_well (attempts h) (λ tr w i r. tt) (λ r tr w i q. tt)

  keeps_choose : (m : ℕ) → Good t (choose ask m)
  keeps_choose m = as_well (chooses {Req = Always} ask m) (λ tr w i r. tt) (λ r tr w i q. tt)

  keeps_after : (r : Tried Done) → Good t (after_finalize CauseOf.TheVariants.Assign r)
  unfolding after_finalize
  keeps_after (Fine a) = keeps_done _
  keeps_after (Raised e) = keeps_raise _

  keeps_order : (f : Placed → Act Bool) → ((p : Placed) → Good t (f p)) → (n : ℕ) (left : List Placed) (b : Bool) → Good t (in_any_order k f n left b)
  unfolding in_any_order
  keeps_order f h zero left b = keeps_done b
  keeps_order f h (suc n) left b = keeps_seq (keeps_choose (suc n)) (λ i. keeps_seq (h (pull_item no_component i left)) (λ c. keeps_order f h n (pull_rest i left) (b || c)))

  keeps_finalize_part : (want : Chosen) (n : ℕ) (s : Spot) (u : ℕ) → Good t (finalize_part k CauseOf.TheVariants.Assign want n s u)
  unfolding finalize_part own_finalize is_closing
  keeps_finalize_part want zero s u = keeps_done _
  keeps_finalize_part want (suc n) s u =
      keeps_ticked (keeps_seq (keeps_either _ (keeps_seq (keeps_attempt (keeps_call_operation s _ _ refl)) keeps_after) (keeps_done _)) (λ b. keeps_order _ (λ p. keeps_of_record p.ty (keeps_done _) (λ x. keeps_finalize_part want n (component_at s p) x)) _ _ b))

  pub keeps_finalize : (want : Chosen) (s : Spot) (u : ℕ) → Good t (finalize k CauseOf.TheVariants.Assign want s u)
  unfolding finalize
  keeps_finalize want s u = keeps_finalize_part want (depth t) s u

  keeps_each : (f : Placed → Adjusted → Act Adjusted) → ((p : Placed) (a : Adjusted) → Good t (f p a)) → (n : ℕ) (left : List Placed) (a : Adjusted) → Good t (adjust_each k f n left a)
  unfolding adjust_each
  keeps_each f h zero left a = keeps_done a
  keeps_each f h (suc n) left a = keeps_seq (keeps_choose (suc n)) (λ i. keeps_seq (keeps_ticked (h _ a)) (λ b. keeps_each f h n (pull_rest i left) b))

  keeps_after_adjust : (s : Spot) (u : ℕ) (a : Adjusted) (r : Tried Done) → Good t (after_adjust k None s u a r)
  unfolding after_adjust lives_if
  keeps_after_adjust s u a (Fine y) = keeps_then keeps_nothing (keeps_done _)
  keeps_after_adjust s u a (Raised e) = keeps_done _

  keeps_adjust_part : (n : ℕ) (s : Spot) (u : ℕ) (a : Adjusted) → Good t (adjust_part k None n s u a)
  unfolding adjust_part own_adjust
  keeps_adjust_part zero s u a = keeps_done a
  keeps_adjust_part (suc n) s u a =
      keeps_seq (keeps_each _ (λ p b. keeps_of_record p.ty (keeps_done b) (λ v. keeps_adjust_part n (component_at s p) v b)) _ _ a) (λ b. keeps_either _ (keeps_seq (keeps_attempt (keeps_call_operation s _ _ tt)) (λ r. keeps_after_adjust s u b r)) (keeps_done b))

  never_true : {A : Type 0} → false ≡ true → A
  never_true e = absurd (cc)

  pub keeps_adjust : (s : Spot) (ty : Ty) → Good t (adjust k None s ty)
  unfolding adjust adjust_record adjusted when
  keeps_adjust s ty = keeps_of_record ty keeps_nothing (λ u. keeps_seq (keeps_adjust_part (depth t) s u unadjusted) (λ a. keeps_either a.failed (keeps_then (choice false (λ e. never_true e) (λ e. keeps_nothing)) (keeps_raise _)) keeps_nothing))
