-- What Adjust means for a part of a type that has no controlled part; and which operation the code names as the Adjust of a type.
use Rattle.std.proofs.Common.{◌≡◌, ℕ, length, Option, Some, true, false, sym, ap, ◌∙◌, inl, inr}
use Rattle.std.specs.Prelude.{slice_get}
use Rattle.ctl_program.specs.declared.types.Ty.TheVariants.{Record}
use Rattle.ctl_program.specs.declared.types.RecordType.{RecordType}
use Rattle.ctl_tree.specs.declared.event.Event.TheVariants as EventOf
use Rattle.ctl_meaning.specs.World.{Log, World}
use Rattle.ctl_meaning.specs.Choice.{Ask}
use Rattle.ctl_meaning.specs.Outcome.{Goes, Gives, bind, on_goes, ◌>>=◌, done, attempt, either, opened_outcome}
use Rattle.ctl_meaning.specs.Types.{Tables, has_controlled, is_controlled, is_tagged_root, operation, operation_in, depth, of_record}
use Rattle.ctl_meaning.specs.Names.{Call, Default, Tools}
use Rattle.ctl_meaning.specs.Finalization.{Spot, component_at, part_of, call_operation}
use Rattle.ctl_meaning.specs.Adjustment.{Birth, unadjusted, adjust, adjust_record, adjust_part, adjust_each, controlled_parts, own_adjust, after_adjust, adjusted}
use Rattle.ctl_code.specs.declared.code.Code.{Code}
use Rattle.ctl_code.specs.Table.{operation_of}
use Rattle.ctl_layout.specs.Records.{adjust_by}
use Rattle.ctl_gen.proofs.Known.{IsPlainType, IsRootRun}
use Rattle.ctl_gen.proofs.Plain.{none_held, root_tagged}
use Rattle.ctl_gen.proofs.Setting.{Setting, tools_with}
use Rattle.ctl_gen.proofs.Follow.{add_none}

-- of a type of the table that is controlled the table of the code names its Adjust
pub adjust_named : (k : Tables) (code : Code) → Setting k code → (t : ℕ) → IsPlainType k (Record t) → is_controlled k t ≡ true → operation_of (λ x. x.adjust) code t ≡ operation (λ x. x.adjust) k t
unfolding operation operation_in is_tagged_root
adjust_named k code setting t plain is = by plain.0 plain.1 plain.2.kind
  where
    by : (r : RecordType) → slice_get k.records t ≡ Some r → IsRootRun r → operation_of (λ x. x.adjust) code t ≡ operation (λ x. x.adjust) k t
    by r here (inl (inl controlled)) = setting.adjust t r here ∙ ap (λ x. adjust_by x r.operations.adjust) controlled ∙ sym (ap (operation_in (λ x. x.adjust)) here)
    by r here (inl (inr pool)) = setting.adjust t r here ∙ ap (λ x. adjust_by x r.operations.adjust) pool ∙ sym (ap (operation_in (λ x. x.adjust)) here)
    by r here (inr untagged) = absurd (let bad : true ≡ false = sym is ∙ root_tagged k t r here ∙ ap is_tagged_root untagged in cc)

-- nothing is adjusted of a part of a type that has no controlled part
pub untouched_is : (ask : Ask) (k : Tables) (call : Call) (default : Default) (t : ℕ) (plain : IsPlainType k (Record t)) → has_controlled k (Record t) ≡ false → is_controlled k t ≡ false → (b : Option Birth) (s : Spot) (c : ℕ) (l : Log) (w : World) → adjust (tools_with ask k call default) b s (Record t) c l w ≡ Gives (Goes tt) 0 c l w
unfolding adjust adjust_record adjust_part adjust_each controlled_parts own_adjust adjusted unadjusted of_record depth opened_outcome
untouched_is ask k call default t plain none not b s c l w =
    ap (λ ps. bind (bind (adjust_each K (λ p a. of_record (done a) (λ u. adjust_part K b (length k.records) (component_at s p) u a) p.ty) (length ps) ps unadjusted c l w) (on_goes (own_adjust K b s t))) (on_goes (adjusted K b s t))) (none_held k t plain.2.components plain.2.laid none)
    ∙ ap (λ o. bind o (on_goes (adjusted K b s t))) (add_none (own_adjust K b s t unadjusted c l w))
    ∙ ap (λ q. bind (either q (attempt (call_operation K s (operation (λ x. x.adjust) k t) (EventOf.Adjust (part_of s))) >>= after_adjust K b s t unadjusted) (done unadjusted) c l w) (on_goes (adjusted K b s t))) not
  where
    K : Tools
    K = tools_with ask k call default
