-- No judgement of what declarations name and hold takes a fault back.
use Rattle.std.proofs.Common.{◌≡◌, refl, subst, ℕ, ◌||◌, if◌then◌else◌, List, [], ◌∷◌, map, Option, Some, None}
use Rattle.ctl_tree.specs.declared.span.Span.{Span}
use Rattle.ctl_tree.specs.declared.fault.FaultCode.TheVariants as fault
use Rattle.ctl_program.specs.declared.types.Ty.{Ty}
use Rattle.ctl_program.specs.declared.types.Ty.TheVariants as ty
use Rattle.ctl_syntax.specs.declared.denoted.Definition.{Definition}
use Rattle.ctl_syntax.specs.declared.denoted.Use.{Use}
use Rattle.ctl_syntax.specs.declared.item.Aliasing.{Aliasing}
use Rattle.ctl_syntax.specs.declared.item.Aliasing.TheVariants as aliasing
use Rattle.ctl_syntax.specs.declared.item.Association.{Association}
use Rattle.ctl_syntax.specs.declared.item.Formal.{Formal}
use Rattle.ctl_syntax.specs.declared.item.Objects.{Objects}
use Rattle.ctl_syntax.specs.declared.item.Specification.{Specification}
use Rattle.ctl_syntax.specs.declared.name.Mark.{Mark}
use Rattle.ctl_typing.specs.declared.table.FormalEntry.{FormalEntry}
use Rattle.ctl_typing.specs.declared.table.Tables.{Tables}
use Rattle.ctl_typing.specs.declared.notes.Notes.{Notes}
use Rattle.ctl_typing.specs.declared.found.Asked.TheVariants as asking
use Rattle.ctl_typing.specs.Judgement.{known, but, wrong, ◌>>=◌, each}
use Rattle.ctl_typing.specs.Lookup.{is_limited}
use Rattle.ctl_typing.specs.Typing as expr
use Rattle.ctl_typing.specs.Typing.{Sense, sense}
use Rattle.ctl_draft.specs.Operations.{formal}
use Rattle.ctl_draft.specs.Marks as marks
use Rattle.ctl_declarations.specs.Declarations as decl
use Rattle.ctl_sound.specs.Known.{IfSome, All, Clean, Stays}
use Rattle.ctl_sound.specs.Law.{DeclarationsKeepFaults}
use Rattle.ctl_sound.proofs.Stays.{Keeps, known_stays, wrong_stays, but_stays, next_stays, both_stays, if_stays, each_stays}
use Rattle.ctl_sound.proofs.Keeping.{mark_stays, expression_keeps}

named_type_stays : (tables : Tables) (place : Span) (m : Mark Use) → Stays (marks.named_type tables place m)
named_type_stays tables place m = if_stays (marks.is_root_pool m) (wrong fault.Pool m.first.span) (expr.mark_judged tables (expr.told_at place m.first) m.rest) (wrong_stays Ty fault.Pool m.first.span) (mark_stays tables (expr.told_at place m.first) m.rest)

concrete_type_stays : (tables : Tables) (place : Span) (m : Mark Use) → Stays (marks.concrete_type tables place m)
concrete_type_stays tables place m = next_stays (marks.named_type tables place m) (λ t. if expr.has_objects tables t then known t else wrong fault.Type place) (named_type_stays tables place m) (λ t. if_stays (expr.has_objects tables t) (known t) (wrong fault.Type place) (known_stays t) (wrong_stays Ty fault.Type place))

no_pool_stays : (tables : Tables) (place : Span) (t : Ty) → Stays (marks.no_pool tables place t)
no_pool_stays tables place t = if_stays (marks.is_pool tables t) (but fault.Pool place t) (known t) (but_stays fault.Pool place t) (known_stays t)

object_type_stays : (tables : Tables) (place : Span) (o : Objects Definition Use) → Stays (decl.object_type place o tables)
object_type_stays tables place o = next_stays (marks.concrete_type tables place o.mark) (decl.no_aliased_pool tables o.mark.first.span o.aliasing) (concrete_type_stays tables place o.mark) (λ t. by_aliasing t o.aliasing)
  where
    by_aliasing : (t : Ty) (a : Aliasing) → Stays (decl.no_aliased_pool tables o.mark.first.span a t)
    by_aliasing t aliasing.Aliased = no_pool_stays tables o.mark.first.span t
    by_aliasing t aliasing.Unaliased = known_stays t

value_of_stays : (tables : Tables) (t : Option Ty) (o : Option Sense) → IfSome Keeps o → Stays (decl.value_of t o tables)
value_of_stays tables t None h = λ n c. c
value_of_stays tables None (Some x) h = next_stays (x.judged tables asking.Anything) (λ r. known (Some r.value)) (h.judged tables asking.Anything) (λ r n c. c)
value_of_stays tables (Some t) (Some x) h = next_stays (x.judged tables (asking.Exactly t)) (λ r. known (Some r.value)) (h.judged tables (asking.Exactly t)) (λ r n c. c)

all_discriminants : (tables : Tables) (ps : List (ℕ × Association Use)) → All (λ p. Stays (decl.discriminant tables p)) ps
all_discriminants tables [] = tt
all_discriminants tables (p ∷ ps) = (next_stays ((sense p.1.value).judged tables (asking.Exactly ty.Count)) (λ r. known (record { position = p.0; value = r.value })) ((expression_keeps p.1.value).judged tables (asking.Exactly ty.Count)) (λ r n c. c), all_discriminants tables ps)

discriminants_stay : (tables : Tables) (ps : List (ℕ × Association Use)) → Stays (λ n. each (decl.discriminant tables) (Some []) ps n)
discriminants_stay tables ps = each_stays (decl.discriminant tables) (Some []) ps (all_discriminants tables ps)

-- Headings (6.1) --------------------------------------------------------------------------------

formal_type_stays : (tables : Tables) (place : Span) (f : Formal Definition Use) → Stays (decl.formal_type tables place f)
formal_type_stays tables place f = next_stays (marks.named_type tables place f.mark) (λ t. known (map (λ n. formal f.mode t) f.names)) (named_type_stays tables place f.mark) (λ t n c. c)

formals_turn : (tables : Tables) (place : Span) (before : Option (List FormalEntry)) (r : Option (List FormalEntry) × Notes) (fs : List (Formal Definition Use)) → decl.formals_next tables place before r fs ≡ decl.formals_on tables place (decl.more_formals before r.0) fs r.1
formals_turn tables place before (more, n) [] = refl
formals_turn tables place before (more, n) (f ∷ fs) = refl

formals_stay : (tables : Tables) (place : Span) (fs : List (Formal Definition Use)) (before : Option (List FormalEntry)) → Stays (decl.formals_on tables place before fs)
formals_stay tables place [] before n c = c
formals_stay tables place (f ∷ fs) before n c =
    let r = decl.formal_type tables place f n in
    formal_type_stays tables place f n (formals_stay tables place fs (decl.more_formals before r.0) r.1 (subst (λ q. Clean q.1) (formals_turn tables place before r fs) c))

result_type_stays : (tables : Tables) (place : Span) (m : Option (Mark Use)) → Stays (decl.result_type place m tables)
result_type_stays tables place None = λ n c. c
result_type_stays tables place (Some m) = next_stays (decl.returned_type tables place m) (λ t. known (Some t))
    (if_stays (marks.is_root_pool m) (wrong fault.Limited m.first.span) (marks.named_type tables place m >>= decl.returned tables m.first.span) (wrong_stays Ty fault.Limited m.first.span)
    (next_stays (marks.named_type tables place m) (decl.returned tables m.first.span) (named_type_stays tables place m) (λ t. if_stays (is_limited tables t || marks.has_controlled tables t) (but fault.Limited m.first.span t) (known t) (but_stays fault.Limited m.first.span t) (known_stays t))))
    (λ t n c. c)

pub declarations_keep_faults : (o : Objects Definition Use) (s : Specification Definition Use) → DeclarationsKeepFaults o s
declarations_keep_faults o s = record {
  object_type = λ tables place. object_type_stays tables place o;
  value = λ tables t x. value_of_stays tables t (Some (sense x)) (expression_keeps x);
  discriminants = discriminants_stay;
  heading = λ tables place. both_stays (decl.formal_types place s.formals tables) (decl.result_type place s.result tables) (formals_stay tables place s.formals (Some [])) (result_type_stays tables place s.result);
}
