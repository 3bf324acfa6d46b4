-- Declared objects and exceptions are well typed.
use Rattle.std.proofs.Common.{arith, ◌≡◌, refl, sym, ap, ◌∙◌, subst, ℕ, suc, ◌+◌, nat_eq, Bool, true, false, ◌&&◌, ◌||◌, not, if◌then◌else◌, List, [], ◌∷◌, ◌++◌, length, map, slice_get, Option, Some, None, option_map}
use Rattle.std.proofs.lemmas.Bool.Decides.{nat_tests}
use Rattle.std.proofs.lemmas.List.{length-append}
use Rattle.ctl_tree.specs.declared.span.Span.{Span}
use Rattle.ctl_tree.specs.declared.fault.FaultCode.{FaultCode}
use Rattle.ctl_tree.specs.declared.fault.FaultCode.TheVariants as rule_of
use Rattle.ctl_program.specs.declared.types.Ty.{Ty}
use Rattle.ctl_program.specs.declared.types.Ty.TheVariants as ty
use Rattle.ctl_program.specs.declared.types.Var.{Var}
use Rattle.ctl_program.specs.declared.types.Root.{Root}
use Rattle.ctl_program.specs.declared.types.Root.TheVariants as root
use Rattle.ctl_program.specs.declared.expression.Expr.{Expr}
use Rattle.ctl_program.specs.declared.statement.Association.{Association as Checked_association}
use Rattle.ctl_program.specs.declared.statement.Item.{Item as Checked_item}
use Rattle.ctl_program.specs.declared.statement.Item.TheVariants as made
use Rattle.ctl_syntax.specs.declared.denoted.Definition.{Definition}
use Rattle.ctl_syntax.specs.declared.denoted.Use.{Use}
use Rattle.ctl_syntax.specs.declared.expression.Expression.{Expression}
use Rattle.ctl_syntax.specs.declared.item.Aliasing.{Aliasing}
use Rattle.ctl_syntax.specs.declared.item.Aliasing.TheVariants as aliasing
use Rattle.ctl_syntax.specs.declared.item.Association.{Association}
use Rattle.ctl_syntax.specs.declared.item.Objects.{Objects}
use Rattle.ctl_syntax.specs.declared.name.Identifier.{Identifier}
use Rattle.ctl_typing.specs.declared.found.Head.TheVariants as head
use Rattle.ctl_typing.specs.declared.notes.Deed.{Deed}
use Rattle.ctl_typing.specs.declared.notes.Notes.{Notes}
use Rattle.ctl_typing.specs.declared.table.Entry.TheVariants as entry
use Rattle.ctl_typing.specs.declared.table.RecordEntry.{RecordEntry}
use Rattle.ctl_typing.specs.declared.table.Standing.TheVariants as standing
use Rattle.ctl_typing.specs.declared.table.Tables.{Tables}
use Rattle.ctl_typing.specs.Judgement.{wrong, with_fault, with_known, each}
use Rattle.ctl_typing.specs.Lookup.{root_of}
use Rattle.ctl_typing.specs.Typing.{sense, together, discriminant_named}
use Rattle.ctl_draft.specs.declared.associations.Associated.TheVariants.{Discriminants}
use Rattle.ctl_draft.specs.declared.draft.Around.{Around}
use Rattle.ctl_draft.specs.declared.draft.Draft.{Draft}
use Rattle.ctl_draft.specs.declared.draft.Order.{Order}
use Rattle.ctl_draft.specs.declared.draft.Order.TheVariants as order
use Rattle.ctl_draft.specs.Draft.{fault_when, asking, asked, deeds_of, declare}
use Rattle.ctl_draft.specs.Freezing.{done_by}
use Rattle.ctl_draft.specs.Marks as marks
use Rattle.ctl_resolve.specs.Library.{operation_named}
use Rattle.ctl_declarations.specs.Types.{is_given}
use Rattle.ctl_declarations.specs.Declarations as decl
use Rattle.ctl_types.specs.Elaboration.{surely}
use Rattle.ctl_well_typed.specs.Setting.{Declared, declared, Frames, Names, Setting, InView}
use Rattle.ctl_well_typed.specs.Types.{HasDiscriminant, block_size, block_count, pool_size}
use Rattle.ctl_well_typed.specs.Expressions.{Perhaps}
use Rattle.ctl_well_typed.specs.Statements as rule
use Rattle.ctl_well_typed.specs.Statements.{Given, Elaborated, ElaboratedEach}
use Rattle.ctl_sound.specs.Known.{IfSome, All, Gives}
use Rattle.ctl_sound.specs.Sound.{AliasFine, Sound}
use Rattle.ctl_sound.proofs.Names.{discriminant_is}
use Rattle.ctl_sound.proofs.Values.{expression_right}
use Rattle.ctl_sound.proofs.Items.{object_type_good, value_of_good, discriminants_good, discriminants_stand}
use Rattle.ctl_sound.proofs.Growing.{behind_one, behind_further, behind_length, Still, still_self, still_noted, still_further, still_back, nothing, grows_self}
use Rattle.ctl_sound.proofs.Freezing.{Quiet, done_quiet}
use Rattle.ctl_sound.proofs.Sites.{Site, around_site, here, IsHere, Front}
use Rattle.ctl_sound.proofs.Fronts.{front_still, front_sound}
use Rattle.ctl_sound.proofs.Declared.{slot_made, slot_named, known_same, front_declared, object_grows, object_front}
use Rattle.ctl_sound.proofs.Steps.{Leads, Goes, still_given, still_leads, then_leads, each_goes}

-- Positions of discriminants (3.7.1) ---------------------------------------------------------------

abbrev EachHas : Root → List ℕ → Type 0
EachHas r ns = All (λ n. HasDiscriminant r n) ns

-- none of these is this number
abbrev Lacks : ℕ → List ℕ → Type 0
Lacks n [] = Unit {0}
Lacks n (m ∷ ms) = (m ≡ n → ⊥) × Lacks n ms

-- each number stands there once
abbrev Once : List ℕ → Type 0
Once [] = Unit {0}
Once (n ∷ ns) = Lacks n ns × Once ns

lacks_with : (m : ℕ) (ns : List ℕ) (n : ℕ) → Lacks m ns → (n ≡ m → ⊥) → Lacks m (ns ++ n ∷ [])
lacks_with m [] n h g = (g, tt)
lacks_with m (i ∷ ns) n h g = (h.0, lacks_with m ns n h.1 g)

once_with : (ns : List ℕ) (n : ℕ) → Once ns → marks.is_among n ns ≡ false → Once (ns ++ n ∷ [])
once_with [] n h e = (tt, tt)
once_with (m ∷ ns) n h e = by_test (nat_eq n m) refl e (once_with ns n h.1)
  where
    by_test : (b : Bool) → nat_eq n m ≡ b → (b || marks.is_among n ns) ≡ false → (marks.is_among n ns ≡ false → Once (ns ++ n ∷ [])) → Once (m ∷ (ns ++ n ∷ []))
    by_test true f g more = absurd (cc)
    by_test false f g more = (lacks_with m ns n h.0 (λ same. absurd (grind (arith, nat_tests))), more g)

-- values at such positions give no discriminant twice
none_at : (i : ℕ) (as' : List Checked_association) → Lacks i (map (λ (a : Checked_association). a.position) as') → rule.NoneAt i as'
none_at i [] h = tt
none_at i (a ∷ as') h = (h.0, none_at i as' h.1)

each_once : (as' : List Checked_association) → Once (map (λ (a : Checked_association). a.position) as') → rule.EachOnce as'
each_once [] h = tt
each_once (a ∷ as') h = (none_at a.position as' h.0, each_once as' h.1)

zero_first : Once (0 ∷ 1 ∷ [])
zero_first = ((λ e. absurd (omega (arith, e)), tt), (tt, tt))

positional_of : (r : Root) → (EachHas r (marks.numbers_on [] (marks.discriminant_count r) 0) × Once (marks.numbers_on [] (marks.discriminant_count r) 0)) × ((length (marks.numbers_on [] (marks.discriminant_count r) 0) ≡ marks.discriminant_count r) × (marks.discriminant_count r ≡ rule.discriminants r))
positional_of root.BlockPool = (((block_size, (block_count, tt)), zero_first), (refl, refl))
positional_of root.MarkPool = (((pool_size, tt), (tt, tt)), (refl, refl))
positional_of root.Untagged = ((tt, tt), (refl, refl))
positional_of root.Controlled = ((tt, tt), (refl, refl))

all_with : {A : Type 0} (P : A → Type 0) (xs : List A) (x : A) → All P xs → P x → All P (xs ++ x ∷ [])
all_with P [] x h i = (i, tt)
all_with P (y ∷ xs) x h i = (h.0, all_with P xs x h.1 i)

any_value : {A : Type 0} (o : Option A) → IfSome (λ (a : A). Unit {0}) o
any_value None = tt
any_value (Some a) = tt

module _ (r : Root) (has : (name : List ℕ) → IfSome (HasDiscriminant r) (discriminant_named r name)) where
  abbrev AsMany : ℕ → List ℕ → Type 0
  AsMany n ns = (EachHas r ns × Once ns) × (length ns ≡ n)

  position_has : (i : Option Identifier) → IfSome (HasDiscriminant r) (marks.position_of (Discriminants r) i)
  position_has None = tt
  position_has (Some i) = has i.text

  named_has : (before : List ℕ) (as' : List (Association Use)) → EachHas r before × Once before → IfSome (AsMany (length before + length as')) (marks.named_on (Discriminants r) (Some before) as')
  named_has before [] h = (h, omega arith)
  named_has before (a ∷ as') h = by_position (marks.position_of (Discriminants r) a.name) (position_has a.name) (λ n g e. named_has (before ++ n ∷ []) as' (all_with (λ m. HasDiscriminant r m) before n h.0 g, once_with before n h.1 e))
    where
      by_position : (p : Option ℕ) → IfSome (HasDiscriminant r) p → ((n : ℕ) → HasDiscriminant r n → marks.is_among n before ≡ false → IfSome (AsMany (length (before ++ n ∷ []) + length as')) (marks.named_on (Discriminants r) (Some (before ++ n ∷ [])) as')) → IfSome (AsMany (length before + suc (length as'))) (marks.named_on (Discriminants r) (marks.with_position before p) as')
      by_position None g again = tt
      by_position (Some n) g again = by_test (marks.is_among n before) refl
        where
          one_longer : length (before ++ n ∷ []) + length as' ≡ length before + suc (length as')
          one_longer = let e = length-append before (n ∷ []) in omega (arith, e)

          by_test : (b : Bool) → marks.is_among n before ≡ b → IfSome (AsMany (length before + suc (length as'))) (marks.named_on (Discriminants r) (if b then None else Some (before ++ n ∷ [])) as')
          by_test true e = tt
          by_test false e = subst (λ m. IfSome (AsMany m) (marks.named_on (Discriminants r) (Some (before ++ n ∷ [])) as')) one_longer (again n g e)

  abbrev Right : List (Association Use) → List ℕ → Type 0
  Right as' ns = AsMany (length as') ns × (length as' ≡ rule.discriminants r)

  pub positions_right : (as' : List (Association Use)) → IfSome (Right as') (marks.positions (Discriminants r) as')
  positions_right as' = by_count (nat_eq (marks.discriminant_count r) (length as')) refl
    where
      named : marks.discriminant_count r ≡ length as' → (o : Option (List ℕ)) → IfSome (AsMany (length as')) o → IfSome (Right as') o
      named e None h = tt
      named e (Some ns) h = (h, sym e ∙ (positional_of r).1.1)

      by_form : (b : Bool) → marks.discriminant_count r ≡ length as' → IfSome (Right as') (if b then Some (marks.numbers_on [] (length as') 0) else marks.named_on (Discriminants r) (Some []) as')
      by_form true e = subst (λ n. ((EachHas r (marks.numbers_on [] n 0) × Once (marks.numbers_on [] n 0)) × (length (marks.numbers_on [] n 0) ≡ n)) × (n ≡ rule.discriminants r)) e (((positional_of r).0, (positional_of r).1.0), (positional_of r).1.1)
      by_form false e = let none : 0 + length as' ≡ length as' = omega arith in named e (marks.named_on (Discriminants r) (Some []) as') (subst (λ n. IfSome (AsMany n) (marks.named_on (Discriminants r) (Some []) as')) none (named_has [] as' (tt, tt)))

      by_count : (b : Bool) → nat_eq (marks.discriminant_count r) (length as') ≡ b → IfSome (Right as') (if b then (if marks.all_positional as' then Some (marks.numbers_on [] (length as') 0) else marks.named_on (Discriminants r) (Some []) as') else None)
      by_count true h = let e : marks.discriminant_count r ≡ length as' = grind (arith, nat_tests) in by_form (marks.all_positional as') e
      by_count false h = tt

  pub at_has : (ns : List ℕ) (as' : List (Association Use)) → EachHas r ns → All (λ (p : ℕ × Association Use). HasDiscriminant r p.0) (decl.discriminants_at ns as')
  at_has [] as' h = tt
  at_has (n ∷ ns) [] h = tt
  at_has (n ∷ ns) (a ∷ as') h = (h.0, at_has ns as' h.1)

at_positions : (ns : List ℕ) (as' : List (Association Use)) → length ns ≡ length as' → map (λ (p : ℕ × Association Use). p.0) (decl.discriminants_at ns as') ≡ ns
at_positions [] as' h = refl
at_positions (n ∷ ns) [] h = absurd (cc)
at_positions (n ∷ ns) (a ∷ as') h = let same : length ns ≡ length as' = omega (arith, h) in ap (λ ms. n ∷ ms) (at_positions ns as' same)

at_length : (ns : List ℕ) (as' : List (Association Use)) → length ns ≡ length as' → length (decl.discriminants_at ns as') ≡ length as'
at_length [] [] h = refl
at_length [] (a ∷ as') h = absurd (cc)
at_length (n ∷ ns) [] h = absurd (cc)
at_length (n ∷ ns) (a ∷ as') h = let same : length ns ≡ length as' = omega (arith, h) in ap suc (at_length ns as' same)

-- What is known of an object -----------------------------------------------------------------------------

module _ (k : Setting) (env : Frames) (tables : Tables) (sound : Sound k env tables) where
  abbrev AllGiven : Root → List Checked_association → Type 0
  AllGiven r as' = (Given k env r as' × rule.EachOnce as') × (length as' ≡ rule.discriminants r)

  abbrev pub GivenFor : Option Ty → List Checked_association → Type 0
  GivenFor None as' = Unit {0}
  GivenFor (Some t) as' = AllGiven (marks.root_of_type tables t) as'

  abbrev pub ValueFor : Option Ty → Option Expr → Type 0
  ValueFor None v = Unit {0}
  ValueFor (Some t) v = Perhaps k env v t

  wrong_behind : {A C : Type 0} (Q : C → Type 0) (which : FaultCode) (place : Span) (r : Option A × Notes) → IfSome Q (with_known (λ (a : A). wrong {A = C} which place) r).0
  wrong_behind Q which place (None, n) = tt
  wrong_behind Q which place (Some a, n) = tt

  discriminants_right : (place : Span) (r : Root) (as' : List (Association Use)) → Gives (AllGiven r) (decl.discriminants_by place (marks.positions (Discriminants r) as') as' tables)
  discriminants_right place r as' = by_positions (marks.positions (Discriminants r) as') (positions_right r (discriminant_is k env tables sound r) as')
    where
      longer : (ns : List ℕ) (o : Option (List Checked_association)) → length ns ≡ length as' → length as' ≡ rule.discriminants r → Once ns → IfSome (λ cs. Given k env r cs × (length cs ≡ length (decl.discriminants_at ns as'))) o → IfSome (λ cs. map (λ (a : Checked_association). a.position) cs ≡ map (λ (p : ℕ × Association Use). p.0) (decl.discriminants_at ns as')) o → IfSome (AllGiven r) o
      longer ns None e g once h i = tt
      longer ns (Some cs) e g once h i = ((h.0, each_once cs (subst Once (sym (i ∙ at_positions ns as' e)) once)), h.1 ∙ at_length ns as' e ∙ g)

      by_positions : (p : Option (List ℕ)) → IfSome (Right r (discriminant_is k env tables sound r) as') p → Gives (AllGiven r) (decl.discriminants_by place p as' tables)
      by_positions None h n = wrong_behind (AllGiven r) _ place (each (decl.anything tables) (Some []) as' n)
      by_positions (Some ns) h n = longer ns (each (decl.discriminant tables) (Some []) (decl.discriminants_at ns as') n).0 h.0.1 h.1 h.0.0.1 (discriminants_good k env tables sound r (decl.discriminants_at ns as') (at_has r (discriminant_is k env tables sound r) ns as' h.0.0.0) n) (discriminants_stand k env tables sound (decl.discriminants_at ns as') n)

  pub given_right : (place : Span) (t : Option Ty) (as' : List (Association Use)) → Gives (GivenFor t) (decl.discriminants_given place t as' tables)
  given_right place None as' n = any_value (decl.discriminants_given place None as' tables n).0
  given_right place (Some t) as' n = discriminants_right place (marks.root_of_type tables t) as' n

  pub value_right : (t : Option Ty) (x : Option (Expression Use)) → IfSome (InView k env) t → Gives (ValueFor t) (decl.value_of t (option_map sense x) tables)
  value_right None x v n = any_value (decl.value_of None (option_map sense x) tables n).0
  value_right (Some t) None v n = value_of_good k env tables sound t None v tt n
  value_right (Some t) (Some x) v n = value_of_good k env tables sound t (Some (sense x)) v (expression_right k env tables sound x) n

  -- it has this slot
  abbrev pub SlotFor : ℕ → Option Ty → Type 0
  SlotFor n None = Unit {0}
  SlotFor n (Some t) = Names env (record { level = length env; slot = n }) (Declared t)

  one_item : (i : Checked_item) → Elaborated k env i → ElaboratedEach k env (i ∷ [])
  one_item i h = rule.one_more_item h rule.no_more_items

  pub same_pools : (r : Root) → marks.is_pool_root r ≡ true → rule.is_pool r ≡ true
  same_pools root.BlockPool h = refl
  same_pools root.MarkPool h = refl
  same_pools root.Untagged h = absurd (cc)
  same_pools root.Controlled h = absurd (cc)

  pool_right : (n t : ℕ) (as' : List Checked_association) (o : Option RecordEntry) → slice_get tables.records t ≡ o → marks.is_pool_root (root_of o) ≡ true → InView k env (ty.Record t) → SlotFor n (Some (ty.Record t)) → AllGiven (root_of o) as' → Elaborated k env (made.Pool n t as')
  pool_right n t as' None e h v names g = absurd (cc)
  pool_right n t as' (Some r) e h v names g = rule.pool (rule.fills names) v (sound.types.rooted t r e) (same_pools r.root h) g.1 g.0.1 g.0.0

  item_right : (n : ℕ) (t : Ty) (as' : List Checked_association) (v : Option Expr) → InView k env t → GivenFor (Some t) as' → Perhaps k env v t → SlotFor n (Some t) → Elaborated k env (decl.object_item tables t n as' v)
  item_right n (ty.Record t) as' v i g p names = by_pool (marks.is_pool tables (ty.Record t)) refl
    where
      by_pool : (b : Bool) → marks.is_pool tables (ty.Record t) ≡ b → Elaborated k env (if b then made.Pool n t as' else made.Object n (ty.Record t) v)
      by_pool true e = pool_right n t as' (slice_get tables.records t) refl e i names g
      by_pool false e = rule.object (rule.fills names) i p
  item_right n ty.Integer as' v i g p names = rule.object (rule.fills names) i p
  item_right n ty.Count as' v i g p names = rule.object (rule.fills names) i p
  item_right n ty.Boolean as' v i g p names = rule.object (rule.fills names) i p
  item_right n ty.Address as' v i g p names = rule.object (rule.fills names) i p
  item_right n ty.Handle as' v i g p names = rule.object (rule.fills names) i p
  item_right n (ty.Access a) as' v i g p names = rule.object (rule.fills names) i p

  pub made_right : (n : ℕ) (t : Option Ty) (as' : Option (List Checked_association)) (v : Option (Option Expr)) → IfSome (InView k env) t → IfSome (GivenFor t) as' → IfSome (ValueFor t) v → SlotFor n t → IfSome (ElaboratedEach k env) (decl.object_made tables n t as' v)
  made_right n None as' v i g p names = tt
  made_right n (Some t) None v i g p names = tt
  made_right n (Some t) (Some as') None i g p names = tt
  made_right n (Some t) (Some as') (Some v) i g p names = one_item (decl.object_item tables t n as' v) (item_right n t as' v i g p names)

-- Drafts as objects are judged ----------------------------------------------------------------------------

pub told_still : (b : Bool) (which : FaultCode) (place : Span) (d : Draft) → Still d (fault_when b which place d)
told_still true which place d = still_noted d d.returning d.waiting (with_fault which place d.notes)
told_still false which place d = still_self d

names_still : (ns : List Definition) (d : Draft) → Still d (decl.names_kept ns d)
names_still [] d = still_self d
names_still (n ∷ ns) d = still_further d (decl.name_kept n d) (decl.names_kept ns (decl.name_kept n d)) (told_still (is_given (operation_named n.identifier.text)) _ n.identifier.span d) (names_still ns (decl.name_kept n d))

waits_still : (o : Order) (place : Span) (t : Option Ty) (d : Draft) → Still d (decl.wait_as o place t d)
waits_still order.BeforeBody place None d = still_noted d d.returning _ d.notes
waits_still order.BeforeBody place (Some t) d = still_noted d d.returning _ d.notes
waits_still order.BehindBodies place None d = still_self d
waits_still order.BehindBodies place (Some t) d = still_self d

value_still : (place : Span) (o : Objects Definition Use) (name : Span) (t : Option Ty) (d : Draft) → Still d (decl.value_kept place o name t d)
value_still place o name t d =
    let b = decl.is_constant o.constancy && not (is_given o.value) in
    let e = fault_when b rule_of.Type place d in
    still_further d e (decl.value_kept place o name t d) (told_still b rule_of.Type place d) (told_still ((decl.limited_as d.tables t || marks.is_root_pool o.mark) && is_given o.value) rule_of.Limited name e)

pub elaborated_joined : (k : Setting) (env : Frames) (is' more : List Checked_item) → ElaboratedEach k env is' → ElaboratedEach k env more → ElaboratedEach k env (is' ++ more)
elaborated_joined k env [] more rule.no_more_items h = h
elaborated_joined k env (i ∷ is') more (rule.one_more_item g rest) h = rule.one_more_item g (elaborated_joined k env is' more rest h)

module _ (a : Around) where
  abbrev pub RightItems : Site → List Checked_item → Type 0
  RightItems s is' = ElaboratedEach s.k (around_site s) is'

  abbrev UsableAt : Site → Option Ty → Type 0
  UsableAt s t = IfSome (InView s.k (around_site s)) t

  abbrev SlotOf : Site → ℕ → Option Ty → Type 0
  SlotOf s n None = Unit {0}
  SlotOf s n (Some t) = Names (around_site s) (record { level = length (around_site s); slot = n }) (Declared t)

  alias_right : (q : Aliasing) (env : Frames) (v : Var) (t : Ty) → Names env v (Declared t) → AliasFine env q (head.At v) t
  alias_right aliasing.Aliased env v t h = h
  alias_right aliasing.Unaliased env v t h = tt

  layered : (s : Site) (is' : Option (List Checked_item)) (ls : List Checked_item) → RightItems s ls → IfSome (RightItems s) is' → IfSome (RightItems s) (decl.with_layers is' ls)
  layered s None ls e h = tt
  layered s (Some is') ls e h = elaborated_joined s.k (around_site s) ls is' e h

  pub unknown_comes : (g : Draft) (is' : Option (List Checked_item)) → ((s : Site) → IsHere s (here a) → Front s g → IfSome (RightItems s) is') → Leads (here a) RightItems g (is', declare entry.Unknown g)
  unknown_comes g is' made' = record {
    made = nothing;
    grows = let h = grows_self g in record { records = h.records; components = h.components; exceptions = h.exceptions; accesses = h.accesses; slots = h.slots; record_homes = h.record_homes; access_homes = h.access_homes; signatures = h.signatures };
    right = λ s t f b i. (front_declared s g entry.Unknown tt f, made' s t f);
  }

  declared_comes : (o : Objects Definition Use) (t : Ty) (g : Draft) (is' : Option (List Checked_item)) → ((s : Site) → IsHere s (here a) → Front s g → InView s.k (around_site s) t) →
      ((s : Site) → IsHere s (here a) → Front s g → SlotOf s (length g.slots) (Some t) → IfSome (RightItems s) is') → Leads (here a) RightItems g (is', decl.declare_as a o (Some t) g)
  declared_comes o t g is' usable made' = record {
    made = slot_made (Declared t);
    grows = object_grows a t standing.Declared (decl.mutability_of o.constancy) o.aliasing (Declared t) declared g;
    right = λ s i f b q. (
      object_front a t standing.Declared (decl.mutability_of o.constancy) o.aliasing (Declared t) declared (λ env n names. (alias_right o.aliasing env (record { level = a.level; slot = n }) t names, names)) g s i (usable s i f) f q,
      made' s i f (slot_named s g (Declared t) q),
    );
  }

  frozen_comes : (o : Objects Definition Use) (t : Option Ty) (d e : Draft) (is' : Option (List Checked_item)) → Still d e → ((s : Site) → IsHere s (here a) → Front s d → UsableAt s t) →
      ((s : Site) → IsHere s (here a) → Front s d → SlotOf s (length d.slots) t → IfSome (RightItems s) is') → Leads (here a) RightItems d (decl.object_frozen a o t is' e)
  frozen_comes o t d e is' q usable made' = by_type t usable made' (done_by a ds (asked e)) (done_quiet a ds (asked e))
    where
      ds : List Deed
      ds = decl.object_deeds t (is_given o.value) ++ deeds_of e

      asked_still : Still d (asked e)
      asked_still = still_further d e (asked e) q (still_noted e e.returning e.waiting _)

      -- what holds at the draft behind, where nothing is declared between
      back_to : (g : Draft) → Still d g → (s : Site) → Front s g → Front s d
      back_to g z s f = front_still s g d (still_back d g z) f

      by_type : (u : Option Ty) → ((s : Site) → IsHere s (here a) → Front s d → UsableAt s u) → ((s : Site) → IsHere s (here a) → Front s d → SlotOf s (length d.slots) u → IfSome (RightItems s) is') →
          (r : List Checked_item × Draft) → Quiet a (asked e) r → Leads (here a) RightItems d (decl.object_declared a o u is' r)
      by_type None v m (ls, g) z =
          let all = still_further d (asked e) g asked_still z.still in
          still_leads (here a) RightItems d g (decl.with_layers is' ls, declare entry.Unknown g) all
          (unknown_comes g (decl.with_layers is' ls) (λ s i f. layered s is' ls (z.layers s i (front_still s g (asked e) (still_back (asked e) g z.still) f)) (m s i (back_to g all s f) tt)))
      by_type (Some u) v m (ls, g) z =
          let all = still_further d (asked e) g asked_still z.still in
          still_leads (here a) RightItems d g (decl.with_layers is' ls, decl.declare_as a o (Some u) g) all
          (declared_comes o u g (decl.with_layers is' ls) (λ s i f. v s i (back_to g all s f))
          (λ s i f names. layered s is' ls (z.layers s i (front_still s g (asked e) (still_back (asked e) g z.still) f))
          (m s i (back_to g all s f) (subst (λ xs. Names (around_site s) (record { level = length (around_site s); slot = length xs }) (Declared u)) all.slots names))))

  slot_for : (t : Option Ty) (n : ℕ) (d : Draft) (s : Site) (f : Front s d) → SlotOf s n t → SlotFor s.k (around_site s) d.tables (front_sound s d f) n t
  slot_for None n d s f h = tt
  slot_for (Some t) n d s f h = h

  object_comes : (o : Objects Definition Use) (q : Order) (place : Span) (name : Definition) → Goes (here a) RightItems (decl.object a q place o name)
  object_comes o q place name d =
      let r1 = decl.object_type place o d.tables (asking d).notes in
      let r2 = decl.discriminants_given place r1.0 o.discriminants d.tables r1.1 in
      let r3 = decl.value_of r1.0 (option_map sense o.value) d.tables r2.1 in
      let e : Draft = record d { notes = r3.1 } in
      let valued = decl.value_kept place o name.identifier.span r1.0 e in
      let usable : (s : Site) → Front s d → UsableAt s r1.0 = λ s f. object_type_good s.k (around_site s) d.tables (front_sound s d f) place o (asking d).notes in
      frozen_comes o r1.0 d (decl.wait_as q name.identifier.span r1.0 valued) (decl.object_made d.tables (length d.slots) r1.0 r2.0 r3.0)
      (still_further d e (decl.wait_as q name.identifier.span r1.0 valued) (still_noted d d.returning d.waiting r3.1) (still_further e valued (decl.wait_as q name.identifier.span r1.0 valued) (value_still place o name.identifier.span r1.0 e) (waits_still q name.identifier.span r1.0 valued)))
      (λ s i f. usable s f)
      (λ s i f names.
      let sound = front_sound s d f in
      let env = around_site s in
      made_right s.k env d.tables sound (length d.slots) r1.0 r2.0 r3.0 (usable s f) (given_right s.k env d.tables sound place r1.0 o.discriminants r1.1) (value_right s.k env d.tables sound r1.0 o.value (usable s f) r2.1) (slot_for r1.0 (length d.slots) d s f names))

  together_more : (s : Site) (xss : List (List Checked_item)) (ys : List Checked_item) → RightItems s (together xss) → RightItems s ys → RightItems s (together (xss ++ ys ∷ []))
  together_more s [] ys h i = elaborated_joined s.k (around_site s) ys [] i rule.no_more_items
  together_more s (xs ∷ xss) ys h i = let parts = split xs (together xss) h in elaborated_joined s.k (around_site s) xs (together (xss ++ ys ∷ [])) parts.0 (together_more s xss ys parts.1 i)
    where
      split : (is' more : List Checked_item) → RightItems s (is' ++ more) → RightItems s is' × RightItems s more
      split [] more h = (rule.no_more_items, h)
      split (j ∷ is') more (rule.one_more_item g rest) = let p = split is' more rest in (rule.one_more_item g p.0, p.1)

  each_object : (o : Objects Definition Use) (q : Order) (place : Span) (ns : List Definition) → All (λ n. Goes (here a) RightItems (decl.object a q place o n)) ns
  each_object o q place [] = tt
  each_object o q place (n ∷ ns) = (object_comes o q place n, each_object o q place ns)

  pub objects_come : (place : Span) (o : Objects Definition Use) (q : Order) → Goes (here a) RightItems (decl.objects place o q a)
  objects_come place o q d =
      let e = decl.names_kept o.names d in
      still_leads (here a) RightItems d e (decl.objects place o q a d) (names_still o.names d)
      (then_leads (here a) (λ s xss. RightItems s (together xss)) RightItems (λ xss. together xss) e (decl.objects_named a q place o o.names e) (λ s i xss h. h)
      (each_goes (here a) (λ s xss. RightItems s (together xss)) RightItems (decl.object a q place o) together_more (λ s. rule.no_more_items) o.names (each_object o q place o.names) e))

  -- Exceptions (11.1) ---------------------------------------------------------------------------------------

  exception_comes : (n : Definition) (d : Draft) (r : Option (List Checked_item) × Draft) → Leads (here a) RightItems (decl.exception n d) r → Leads (here a) RightItems d r
  exception_comes n d r h = record {
    made = h.made;
    grows = record {
      records = h.grows.records;
      components = h.grows.components;
      exceptions = behind_further d.exceptions (decl.exception n d).exceptions r.1.exceptions (behind_one d.exceptions n.identifier.text) h.grows.exceptions;
      accesses = h.grows.accesses;
      slots = h.grows.slots;
      record_homes = h.grows.record_homes;
      access_homes = h.grows.access_homes;
      signatures = h.grows.signatures;
    };
    right = λ s i f b g.
        let longer = length-append d.exceptions (n.identifier.text ∷ []) in
        let fewer = behind_length (decl.exception n d).exceptions r.1.exceptions h.grows.exceptions in
        let within = b.exceptions in
        let declared' = front_declared s d (entry.Exception (length d.exceptions)) (omega (arith, longer, fewer, within)) f in
        h.right s i (record { entries = declared'.entries; base = declared'.base; known = known_same s.k d (decl.exception n d) refl refl refl refl f.known; own = f.own; inner = f.inner }) b (record { holdings = g.holdings; records = g.records; accesses = g.accesses; subprograms = g.subprograms });
  }

  exceptions_come : (ns : List Definition) (before : List Checked_item) (d : Draft) → ((s : Site) → RightItems s before) → Leads (here a) RightItems d (surely (decl.exceptions_on before ns d))
  exceptions_come [] before d h = still_given (here a) RightItems d (Some before, d) (still_self d) (λ s i f. h s)
  exceptions_come (n ∷ ns) before d h = exception_comes n d (surely (decl.exceptions_on (before ++ made.Silent ∷ []) ns (decl.exception n d)))
      (exceptions_come ns (before ++ made.Silent ∷ []) (decl.exception n d) (λ s. elaborated_joined s.k (around_site s) before (made.Silent ∷ []) (h s) (rule.one_more_item rule.silent rule.no_more_items)))

  pub exceptions_declared : (ns : List Definition) (d : Draft) → Leads (here a) RightItems d (surely (decl.exceptions ns d))
  exceptions_declared ns d = still_leads (here a) RightItems d (decl.names_kept ns d) (surely (decl.exceptions ns d)) (names_still ns d) (exceptions_come ns [] (decl.names_kept ns d) (λ s. rule.no_more_items))
