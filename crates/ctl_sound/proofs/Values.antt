-- What the check makes of each expression is well typed.
use Rattle.std.proofs.Common.{◌≡◌, refl, sym, ap, ◌∙◌, subst, ℕ, nat_lt, Bool, true, false, ◌&&◌, if◌then◌else◌, List, [], ◌∷◌, ◌++◌, map, slice_get, Option, Some, None}
use Rattle.ctl_tree.specs.declared.span.Span.{Span}
use Rattle.ctl_tree.specs.declared.fault.FaultCode.TheVariants as fault
use Rattle.ctl_program.specs.declared.types.Ty.{Ty}
use Rattle.ctl_program.specs.declared.types.Ty.TheVariants as ty
use Rattle.ctl_program.specs.declared.expression.Expr.{Expr}
use Rattle.ctl_program.specs.declared.expression.Expr.TheVariants as e
use Rattle.ctl_program.specs.declared.statement.Piece.{Piece}
use Rattle.ctl_program.specs.declared.statement.Piece.TheVariants as piece
use Rattle.ctl_syntax.specs.declared.denoted.Use.{Use}
use Rattle.ctl_syntax.specs.declared.name.Identifier.{Identifier}
use Rattle.ctl_syntax.specs.declared.name.Mark.{Mark}
use Rattle.ctl_syntax.specs.declared.name.Name.{Name}
use Rattle.ctl_syntax.specs.declared.name.Suffix.{Suffix}
use Rattle.ctl_syntax.specs.declared.operators.Operand.{Operand}
use Rattle.ctl_syntax.specs.declared.expression.Expression.{Expression}
use Rattle.ctl_syntax.specs.declared.expression.Expression.TheOpen.{Expression-F}
use Rattle.ctl_typing.specs.declared.table.Tables.{Tables}
use Rattle.ctl_typing.specs.declared.found.Asked.{Asked}
use Rattle.ctl_typing.specs.declared.found.Asked.TheVariants as asking
use Rattle.ctl_typing.specs.declared.found.Adopts.{Adopts}
use Rattle.ctl_typing.specs.declared.found.Adopts.TheVariants as adopting
use Rattle.ctl_typing.specs.declared.found.Typed.{Typed as Typed_value}
use Rattle.ctl_typing.specs.declared.found.Found.{Found}
use Rattle.ctl_typing.specs.declared.found.Found.TheVariants as is
use Rattle.ctl_typing.specs.Judgement.{Judgement, known, but, wrong, doing, ◌>>=◌, both, following}
use Rattle.ctl_typing.specs.Lookup.{same, designated_by, is_limited, has_subpools}
use Rattle.ctl_typing.specs.Typing as spec
use Rattle.ctl_typing.specs.Typing.{Sense, sense, step_of, adopted}
use Rattle.ctl_well_typed.specs.Setting.{Frames, Setting, InView, HasAccess}
use Rattle.ctl_well_typed.specs.Types.{is_number}
use Rattle.ctl_program.specs.Limits.{integer_last}
use Rattle.ctl_well_typed.specs.Expressions as rule
use Rattle.ctl_well_typed.specs.Expressions.{Typed, Perhaps, Handled}
use Rattle.ctl_well_typed.specs.Statements as puts
use Rattle.ctl_well_typed.specs.Statements.{Puts}
use Rattle.ctl_sound.specs.Known.{IfSome, Gives, All}
use Rattle.ctl_sound.specs.Law.{ExpressionWellTyped}
use Rattle.ctl_sound.specs.Sound.{Sound, AskedFine, FoundFine, Fine, Good, is_imaged}
use Rattle.ctl_sound.proofs.Known.{next, tested, both_give, following_give, each_gives, any_gives}
use Rattle.ctl_typing.specs.Senses.{suffix_sense}
use Rattle.ctl_sound.proofs.Layers.{LayerOf, of_each, suffixes_of}
use Rattle.ctl_sound.proofs.Tests.{same_is, same_self, number_scalar, number_has_cell, number_in_view, adopted_number}
use Rattle.ctl_sound.proofs.Names.{RightSuffix, first_good, value_good, found_good, settled_found, fits_good, name_judged_good}
use Rattle.ctl_sound.proofs.Operators.{RightOperand, chain_good, relation_good, logical_good, unary_good}

module _ (k : Setting) (env : Frames) (tables : Tables) (sound : Sound k env tables) where
  abbrev Right : Sense → Type 0
  Right x = Good k env tables x

  abbrev Unnamed : Option (Tables → Judgement Found)
  Unnamed = None

  -- Literals ---------------------------------------------------------------------------------

  in_range_good : (Q : Typed_value → Type 0) (place : Span) (m : ℕ) (t : Typed_value) → Q t → Gives Q (spec.in_range place m t)
  in_range_good Q place m t h = by_test (nat_lt integer_last m)
    where
      by_test : (b : Bool) → Gives Q (if b then but fault.Range place t else known t)
      by_test true s = h
      by_test false s = h

  abbrev Numeral : Asked → Typed_value → Type 0
  Numeral asked r = Typed k env r.value r.ty × (is_number r.ty ≡ true)

  number_good : (place : Span) (m : ℕ) (asked : Asked) → Gives (Fine k env asked Unnamed) (spec.number_judged place m tables asked)
  number_good place m asked =
      let n = adopted_number asked in
      next (Numeral asked) (Fine k env asked Unnamed) (spec.in_range place m (record { ty = adopted asked; value = e.Constant (spec.number_cell m) })) (spec.fits place asked)
      (in_range_good (Numeral asked) place m (record { ty = adopted asked; value = e.Constant (spec.number_cell m) }) (rule.constant (number_scalar (adopted asked) n) (number_has_cell (adopted asked) m n) (number_in_view k env (adopted asked) n), n))
      (λ r h. fits_good k env tables sound place asked Unnamed r h.0 (number_in_view k env r.ty h.1) (number_scalar r.ty h.1))

  null_good : (place : Span) (asked : Asked) → AskedFine k env asked → Gives (Fine k env asked Unnamed) (spec.null_judged place tables asked)
  null_good place (asking.Exactly (ty.Access a)) v = λ s. record { typed = rule.constant refl refl v; in_view = v; met = same_self (ty.Access a); scalar = refl }
  null_good place (asking.Exactly ty.Handle) v = λ s. record { typed = rule.constant refl refl tt; in_view = tt; met = refl; scalar = refl }
  null_good place _ v = λ s. tt

  -- Allocators (4.8) --------------------------------------------------------------------------------

  marked_good : (place : Span) (f : Found) → FoundFine k env f → Gives (InView k env) (spec.marked place f)
  marked_good place (is.TypeName t) h = λ s. h
  marked_good place _ h = λ s. tt

  pub mark_good : (u : Use) (rest : List Identifier) → Gives (InView k env) (spec.mark_judged tables u rest)
  mark_good u [] = next (FoundFine k env) (InView k env) (spec.first_found tables u) (spec.marked u.span) (first_good k env tables sound u) (marked_good u.span)
  mark_good u (i ∷ is') = λ s. tt

  abbrev Value : Ty → Expr → Type 0
  Value t x = Typed k env x t

  handle_found_good : (place : Span) (f : Found) → FoundFine k env f → Gives (Value ty.Handle) (spec.handle_found place f)
  handle_found_good place (is.Part p) h = tested (Value ty.Handle) (same p.ty ty.Handle) (known (spec.value_at p.head p.steps p.ty)) (wrong fault.Type place) (λ q s. subst (λ t. Value t (spec.value_at p.head p.steps p.ty)) (same_is p.ty ty.Handle q) (value_good k env tables sound p.head p.steps p.ty h.part)) (λ s. tt)
  handle_found_good place (is.Computed t) h = tested (Value ty.Handle) (same t.ty ty.Handle) (known t.value) (wrong fault.Type place) (λ q s. subst (λ u. Value u t.value) (same_is t.ty ty.Handle q) h.0.typed) (λ s. tt)
  handle_found_good place _ h = λ s. tt

  abbrev RightHandle : Option (Name Use Sense) → Type 0
  RightHandle o = IfSome (λ (u : Name Use Sense). All (RightSuffix k env tables sound) u.suffixes) o

  -- a handle that counts: the objects of the access type that is asked stand in subpools
  pub record InSubpools (asked : Asked) (x : Expr) : Type 0 where
    pub handle : Value ty.Handle x
    pub subpools : (a : ℕ) → asked ≡ asking.Exactly (ty.Access a) → has_subpools tables (slice_get tables.states.accesses a) ≡ true

  abbrev HandleFor : Asked → Option Expr → Type 0
  HandleFor asked o = IfSome (InSubpools asked) o

  one_asked : (a b : ℕ) → asking.Exactly (ty.Access a) ≡ asking.Exactly (ty.Access b) → a ≡ b
  one_asked a b e = cc

  in_subpools_good : (place : Span) (asked : Asked) (x : Expr) → Value ty.Handle x → Gives (HandleFor asked) (spec.in_subpools tables place asked x)
  in_subpools_good place (asking.Exactly (ty.Access a)) x h =
      tested (HandleFor (asking.Exactly (ty.Access a))) (has_subpools tables (slice_get tables.states.accesses a)) (known (Some x)) (but fault.Pool place None)
      (λ q s. record { handle = h; subpools = λ b e. subst (λ c. has_subpools tables (slice_get tables.states.accesses c) ≡ true) (one_asked a b e) q })
      (λ s. tt)
  in_subpools_good place _ x h = λ s. record { handle = h; subpools = λ b e. absurd (cc) }

  handle_good : (asked : Asked) (h : Name Use Sense) → All (RightSuffix k env tables sound) h.suffixes → Gives (HandleFor asked) (spec.handle_judged tables asked h)
  handle_good asked h g =
      let place = h.first.span in
      next (Value ty.Handle) (HandleFor asked) (spec.found h.first h.suffixes tables >>= spec.settled tables place >>= spec.handle_found place) (spec.in_subpools tables place asked)
      (next (FoundFine k env) (Value ty.Handle) (spec.found h.first h.suffixes tables >>= spec.settled tables place) (spec.handle_found place) (settled_found k env tables sound h.first h.suffixes place g) (handle_found_good place))
      (in_subpools_good place asked)

  abbrev Maybe : Ty → Option Expr → Type 0
  Maybe t o = Perhaps k env o t

  given_good : (asked : Asked) (o : Option (Name Use Sense)) → RightHandle o → Gives (HandleFor asked) (spec.handle_given tables asked o)
  given_good asked None h = λ s. tt
  given_good asked (Some u) h = handle_good asked u h

  value_asked_is : (place : Span) (t : Ty) → Gives (λ (a : Asked). a ≡ asking.Exactly t) (spec.value_asked tables place (Some t))
  value_asked_is place t = tested (λ (a : Asked). a ≡ asking.Exactly t) (is_limited tables t) (but fault.Limited place (asking.Exactly t)) (known (asking.Exactly t)) (λ q s. refl) (λ s. refl)

  value_given : (place : Span) (t : Ty) (o : Option Sense) → InView k env t → IfSome Right o → Gives (Maybe t) (spec.value_judged tables place (Some t) o)
  value_given place t None v h = λ s. rule.left_out
  value_given place t (Some x) v h =
      let judged : Gives (Fine k env (asking.Exactly t) x.named) (x.judged tables (asking.Exactly t)) = h.judged (asking.Exactly t) v in
      next (Fine k env (asking.Exactly t) x.named) (Maybe t) (spec.value_asked tables place (Some t) >>= x.judged tables) (λ r. known (Some r.value))
      (next (λ (a : Asked). a ≡ asking.Exactly t) (Fine k env (asking.Exactly t) x.named) (spec.value_asked tables place (Some t)) (x.judged tables) (value_asked_is place t) (λ a q. subst (λ b. Gives (Fine k env (asking.Exactly t) x.named) (x.judged tables b)) (sym q) judged))
      (λ r i s. rule.given (subst (λ u. Value u r.value) (sym (same_is t r.ty i.met)) i.typed))

  pub record Allocates (asked : Asked) (t : Ty) (a : ℕ) : Type 0 where
    pub asks : asked ≡ asking.Exactly (ty.Access a)
    pub designates : spec.designates_this t (designated_by tables a) ≡ true

  allocates_good : (place : Span) (asked : Asked) (t : Ty) → Gives (Allocates asked t) (spec.allocates tables place asked t)
  allocates_good place (asking.Exactly (ty.Access a)) t = tested (Allocates (asking.Exactly (ty.Access a)) t) (spec.designates_this t (designated_by tables a) && spec.has_objects tables t) (known a) (wrong fault.Type place) (λ q s. record { asks = refl; designates = first (spec.designates_this t (designated_by tables a)) (spec.has_objects tables t) q }) (λ s. tt)
    where
      first : (b c : Bool) → (b && c) ≡ true → b ≡ true
      first true c h = refl
      first false c h = absurd (cc)
  allocates_good place _ t = λ s. tt

  designated_is : (a : ℕ) (t : Ty) (w : HasAccess k env a) (o : Option Ty) → designated_by tables a ≡ o → spec.designates_this t o ≡ true → w.is.designated ≡ t
  designated_is a t w (Some u) q h = sound.types.designated a u w.is q w.found ∙ same_is u t h
  designated_is a t w None q h = absurd (cc)

  -- what is designated can be used where the access type is declared
  at_home : (a : ℕ) (t : Ty) (w : HasAccess k env a) (o : Option Ty) → designated_by tables a ≡ o → spec.designates_this t o ≡ true → InView k w.home t
  at_home a t w (Some u) q h = subst (λ x. InView k w.home x) (same_is u t h) (sound.types.designated_at_home a u q w)
  at_home a t w None q h = absurd (cc)

  handled : (asked : Asked) (a : ℕ) (w : HasAccess k env a) → asked ≡ asking.Exactly (ty.Access a) → (o : Option Expr) → HandleFor asked o → Handled k env w.home w.is o
  handled asked a w e None h = rule.by_pool
  handled asked a w e (Some x) h = rule.in_subpool (sound.types.subpools a (h.subpools a e) w) h.handle

  allocated_good : (asked : Asked) (t : Ty) (a : ℕ) (handle value : Option Expr) → Allocates asked t a → AskedFine k env asked → HandleFor asked handle → Maybe t value → Gives (Fine k env asked Unnamed) (doing (spec.making a t value) (record { ty = ty.Access a; value = e.New a t handle value }))
  allocated_good asked t a handle value h q i j s =
      let w : HasAccess k env a = subst (λ x. AskedFine k env x) h.asks q in
      let same_one : w.is.designated ≡ t = designated_is a t w (designated_by tables a) refl h.designates in
      record {
        typed = rule.allocate w same_one (at_home a t w (designated_by tables a) refl h.designates) (handled asked a w h.asks handle i) j;
        in_view = w;
        met = subst (λ x. spec.meets x (ty.Access a) ≡ true) (sym h.asks) (same_self (ty.Access a));
        scalar = refl;
      }

  object_good : (place : Span) (asked : Asked) (value : Option Sense) (t : Ty) → InView k env t → IfSome Right value → Gives (λ (r : ℕ × Option Expr). Allocates asked t r.0 × Maybe t r.1) (spec.object_judged tables place asked value (Some t))
  object_good place asked value t v i = both_give (Allocates asked t) (Maybe t) (spec.allocates tables place asked t) (spec.value_judged tables place (Some t) value) (allocates_good place asked t) (value_given place t value v i)

  new_good : (place : Span) (handle : Option (Name Use Sense)) (m : Mark Use) (value : Option Sense) (asked : Asked) → RightHandle handle → IfSome Right value → AskedFine k env asked → Gives (Fine k env asked Unnamed) (spec.new_judged place handle m value tables asked)
  new_good place handle m value asked h i q =
      let p = spec.handle_given tables asked handle in
      let mark = spec.mark_judged tables (spec.told_at place m.first) m.rest in
      let object = spec.object_judged tables place asked value in
      next (λ (r : Option Expr × (Ty × (ℕ × Option Expr))). HandleFor asked r.0 × (InView k env r.1.0 × (Allocates asked r.1.0 r.1.1.0 × Maybe r.1.0 r.1.1.1))) (Fine k env asked Unnamed) (both p (following mark object)) (λ r. doing (spec.making r.1.1.0 r.1.0 r.1.1.1) (record { ty = ty.Access r.1.1.0; value = e.New r.1.1.0 r.1.0 r.0 r.1.1.1 }))
      (both_give (HandleFor asked) (λ (r : Ty × (ℕ × Option Expr)). InView k env r.0 × (Allocates asked r.0 r.1.0 × Maybe r.0 r.1.1)) p (following mark object) (given_good asked handle h)
      (following_give (InView k env) (λ (t : Ty) (r : ℕ × Option Expr). Allocates asked t r.0 × Maybe t r.1) mark object (mark_good (spec.told_at place m.first) m.rest) (λ t v. object_good place asked value t v i)))
      (λ r g. allocated_good asked r.1.0 r.1.1.0 r.0 r.1.1.1 g.1.1.0 q g.0 g.1.1.1)

  -- What is put (A.10.7) --------------------------------------------------------------------------------------

  no_text_good : (place : Span) (judged : Tables → Asked → Judgement Typed_value) → Gives (Puts k env) (spec.no_text place judged tables)
  no_text_good place judged = next (λ t. Unit {0}) (Puts k env) (judged tables asking.Anything) (λ t. wrong fault.Type place) (any_gives (judged tables asking.Anything)) (λ t h s. tt)

  image_good : (t : Ty) (x : Expr) → is_imaged t ≡ true → Value t x → Puts k env (spec.image_piece t x ∷ [])
  image_good ty.Integer x h i = puts.integer i puts.no_more_pieces
  image_good ty.Boolean x h i = puts.boolean i puts.no_more_pieces
  image_good ty.Count x h i = absurd (cc)
  image_good ty.Address x h i = absurd (cc)
  image_good ty.Handle x h i = absurd (cc)
  image_good (ty.Access a) x h i = absurd (cc)
  image_good (ty.Record t) x h i = absurd (cc)

  text_found_good : (place : Span) (f : Found) → FoundFine k env f → Gives (Puts k env) (spec.text_found place f)
  text_found_good place (is.Imaged t) h = λ s. image_good t.ty t.value h.1 h.0.typed
  text_found_good place _ h = λ s. tt

  name_texts_good : (u : Use) (xs : List (Suffix Sense)) → All (RightSuffix k env tables sound) xs → Gives (Puts k env) (spec.name_texts u xs tables)
  name_texts_good u xs g = next (FoundFine k env) (Puts k env) (spec.found u xs tables >>= spec.settled tables u.span) (spec.text_found u.span) (settled_found k env tables sound u xs u.span g) (text_found_good u.span)

  puts_joined : (a b : List Piece) → Puts k env a → Puts k env b → Puts k env (a ++ b)
  puts_joined [] b puts.no_more_pieces i = i
  puts_joined (piece.Text s ∷ a) b (puts.literal h) i = puts.literal (puts_joined a b h i)
  puts_joined (piece.IntegerImage x ∷ a) b (puts.integer t h) i = puts.integer t (puts_joined a b h i)
  puts_joined (piece.BooleanImage x ∷ a) b (puts.boolean t h) i = puts.boolean t (puts_joined a b h i)

  abbrev PutsEach : {A : Type 0} → List A → List (List Piece) → Type 0
  PutsEach as' pss = Puts k env (spec.together pss)

  together_more : (pss : List (List Piece)) (ps : List Piece) → spec.together (pss ++ ps ∷ []) ≡ spec.together pss ++ (ps ++ [])
  together_more [] ps = refl
  together_more (qs ∷ pss) ps = ap (λ r. qs ++ r) (together_more pss ps) ∙ sym (spread qs (spec.together pss) (ps ++ []))
    where
      spread : (a b c : List Piece) → (a ++ b) ++ c ≡ a ++ (b ++ c)
      spread [] b c = refl
      spread (x ∷ a) b c = ap (λ r. x ∷ r) (spread a b c)

  puts_more : {A : Type 0} (as' : List A) (pss : List (List Piece)) (a : A) (ps : List Piece) → Puts k env (spec.together pss) → Puts k env ps → Puts k env (spec.together (pss ++ ps ∷ []))
  puts_more as' pss a ps h i = subst (λ r. Puts k env r) (sym (together_more pss ps)) (puts_joined (spec.together pss) (ps ++ []) h (puts_joined ps [] i puts.no_more_pieces))

  operand_texts_all : (os : List (Operand Sense)) → All (RightOperand k env tables sound) os → All (λ o. Gives (Puts k env) (o.operand.texts tables)) os
  operand_texts_all [] g = tt
  operand_texts_all (o ∷ os) g = (g.0.texts, operand_texts_all os g.1)

  operand_texts_good : (os : List (Operand Sense)) → All (RightOperand k env tables sound) os → Gives (λ pss. Puts k env (spec.together pss)) (spec.operand_texts tables os)
  operand_texts_good os g s = each_gives (λ as' pss. Puts k env (spec.together pss)) (λ o. Puts k env) (λ o. o.operand.texts tables) puts_more [] (Some []) os s puts.no_more_pieces (operand_texts_all os g)

  chain_texts_good : (place : Span) (x : Sense) (os : List (Operand Sense)) → Right x → All (RightOperand k env tables sound) os → Gives (Puts k env) (spec.chain_texts place x os tables)
  chain_texts_good place x os g i = by_test (spec.all_joining os)
    where
      by_test : (b : Bool) → Gives (Puts k env) (if b then (both (x.texts tables) (spec.operand_texts tables os) >>= (λ r. known (r.0 ++ spec.together r.1))) else spec.no_text place (spec.chain_judged place x os) tables)
      by_test true = next (λ r. Puts k env r.0 × Puts k env (spec.together r.1)) (Puts k env) (both (x.texts tables) (spec.operand_texts tables os)) (λ r. known (r.0 ++ spec.together r.1)) (both_give (Puts k env) (λ pss. Puts k env (spec.together pss)) (x.texts tables) (spec.operand_texts tables os) g.texts (operand_texts_good os i)) (λ r h s. puts_joined r.0 (spec.together r.1) h.0 h.1)
      by_test false = no_text_good place (spec.chain_judged place x os)

  -- Each construct -------------------------------------------------------------------------------------------------

  plain_good : (place : Span) (a : Adopts) (judged : Tables → Asked → Judgement Typed_value) → ((asked : Asked) → AskedFine k env asked → Gives (Fine k env asked Unnamed) (judged tables asked)) → Right (spec.plain place a judged)
  plain_good place a judged h = record { judged = h; bare = tt; named = tt; texts = no_text_good place judged }

  string_good : (place : Span) (s : List ℕ) → Right (spec.string_sense place s)
  string_good place s = record { judged = λ asked v n. tt; bare = tt; named = tt; texts = λ n. puts.literal puts.no_more_pieces }

  chain_right : (place : Span) (x : Sense) (os : List (Operand Sense)) → Right x → All (RightOperand k env tables sound) os → Right (spec.chain_sense place x os)
  chain_right place x os g i = record { judged = λ asked v. chain_good k env tables sound place x os asked g i; bare = tt; named = tt; texts = chain_texts_good place x os g i }

  name_right : (place : Span) (u : Use) (xs : List (Suffix Sense)) → All (RightSuffix k env tables sound) xs → Right (spec.name_sense place u xs)
  name_right place u xs g = record { judged = λ asked v. name_judged_good k env tables sound u xs asked (spec.found u xs) g v; bare = found_good k env tables sound u xs g; named = found_good k env tables sound u xs g; texts = name_texts_good u xs g }

  enclosed_right : (place : Span) (x : Sense) → Right x → Right (spec.enclosed_sense place x)
  enclosed_right place x g = record { judged = g.judged; bare = tt; named = g.named; texts = g.texts }

  -- Whole expressions ---------------------------------------------------------------------------------------------------

  layer_right : (y : Expression-F Use Sense) → LayerOf Right y → Right (step_of y)
  layer_right (Expression-F.Logical p o a b more) g = plain_good p adopting.Nothing (spec.logical_judged p o a b more) (λ asked v. logical_good k env tables sound p o a b more asked g.0 g.1.0 g.1.1)
  layer_right (Expression-F.Relation p o l r) g = plain_good p adopting.Nothing (spec.relation_judged p o l r) (λ asked v. relation_good k env tables sound p o l r asked g.0 g.1)
  layer_right (Expression-F.Chain p x o os) g = chain_right p x (o ∷ os) g.0 g.1
  layer_right (Expression-F.Unary p o x) g = plain_good p (spec.of_unary o x.adopts) (spec.unary_judged p o x) (λ asked v. unary_good k env tables sound p o x asked g)
  layer_right (Expression-F.Number p m) g = plain_good p adopting.Numbers (spec.number_judged p m) (λ asked v. number_good p m asked)
  layer_right (Expression-F.String p s) g = string_good p s
  layer_right (Expression-F.Null p) g = plain_good p adopting.Accesses (spec.null_judged p) (null_good p)
  layer_right (Expression-F.Name p u) g = name_right p u.first u.suffixes g
  layer_right (Expression-F.Parentheses p x) g = enclosed_right p x g
  layer_right (Expression-F.New p h m v) g = plain_good p adopting.Nothing (spec.new_judged p h m v) (λ asked q. new_good p h m v asked g.0 g.1 q)

  pub expression_right : (x : Expression Use) → Good k env tables (sense x)
  expression_right = of_each Right layer_right

  pub suffixes_right : (xs : List (Suffix (Expression Use))) → All (RightSuffix k env tables sound) (map suffix_sense xs)
  suffixes_right = suffixes_of Right expression_right

pub expression_well_typed : (x : Expression Use) → ExpressionWellTyped x
expression_well_typed x = record {
  of_type = λ k env tables sound asked v. (expression_right k env tables sound x).judged asked v;
  put = λ k env tables sound. (expression_right k env tables sound x).texts;
}
