-- Statements with handlers are well formed where each part is: the end of the statements skips the handlers, and the end of each handler
-- leads back to it.
use Rattle.std.proofs.Common.{◌≡◌, ℕ, ◌+◌, ◌-◌, ◌≤◌, List, [], ◌∷◌, ◌++◌, length, Some, refl, arith, length-append}
use Rattle.ctl_program.specs.declared.statement.Choices.{Choices}
use Rattle.ctl_program.specs.declared.statement.Choices.TheVariants as ChoicesOf
use Rattle.ctl_well_typed.specs.Setting as W
use Rattle.ctl_code.specs.declared.kinds.Kind.{Kind}
use Rattle.ctl_code.specs.declared.code.Instr.TheVariants as InstrOf
use Rattle.ctl_code.specs.declared.code.Code.{Code}
use Rattle.ctl_code.specs.declared.template.TextPart.{TextPart}
use Rattle.ctl_code.specs.Valid.{IsAtEnd, IsException, Leads}
use Rattle.ctl_layout.specs.Around.{Line, Around, behind}
use Rattle.ctl_layout.specs.Layout.{StatementCode, HandlerCode, catches_code, choices_code, choices_length, handled, handler_lines, handlers_code, handlers_texts}
use Rattle.ctl_gen.proofs.Place.{HasAt}
use Rattle.ctl_gen.proofs.Place as Place
use Rattle.ctl_gen.proofs.Formed.{both_at, fine_both, FormedAt, has_back, has_end, has_front, leads_at, none, one}
use Rattle.ctl_gen.proofs.FormedAround.{Agrees, CanLeave, leave_behind}
use Rattle.ctl_gen.proofs.FormedStatements.{Stays, Turns}

catches_long : (es : List ℕ) (size : ℕ) (s : List Kind) → length (catches_code es size s) ≡ length es + 1
catches_long [] size s = refl
catches_long (e ∷ es) size s = let rest = catches_long es size s in omega (arith, rest)

choices_long : (c : Choices) (size : ℕ) (s : List Kind) → length (choices_code c size s) ≡ choices_length c
choices_long ChoicesOf.Others size s = refl
choices_long (ChoicesOf.Exceptions es) size s = catches_long es size s

module _ (code : Code) where
  -- Choices ----------------------------------------------------------------------------------------

  abbrev pub AreExceptions : List ℕ → Type 0
  AreExceptions [] = Unit {0}
  AreExceptions (e ∷ es) = IsException code e × AreExceptions es

  abbrev pub AreChoices : Choices → Type 0
  AreChoices ChoicesOf.Others = Unit {0}
  AreChoices (ChoicesOf.Exceptions es) = AreExceptions es

  -- exceptions that are looked at one after another lead behind them, or over so many
  catches_formed : (es : List ℕ) → AreExceptions es → (p size : ℕ) (s : List Kind) → Leads code (p + (length es + 1) + size) s → FormedAt code p (catches_code es size s) s (Some s)
  catches_formed [] known p size s skip h = (h.0, (skip, tt))
  catches_formed (e ∷ es) known p size s skip h =
      let more = catches_code es size s in
      let long = catches_long es size s in
      let over : p + (length (e ∷ es) + 1) + size ≡ p + 1 + (length es + 1) + size = omega arith in
      let last : p + 1 + length more ≡ p + 1 + (length es + 1) = omega (arith, long) in
      let rest = catches_formed es known.1 (p + 1) size s (leads_at code (p + (length (e ∷ es) + 1) + size) (p + 1 + (length es + 1) + size) s over skip) h.1 in
      (h.0, ((known.0, rest.0, leads_at code (p + 1 + length more) (p + 1 + (length es + 1)) s last (has_end code (p + 1) more (Some s) h.1)), rest.1))

  choices_formed : (c : Choices) → AreChoices c → (p size : ℕ) (s : List Kind) → Leads code (p + choices_length c + size) s → FormedAt code p (choices_code c size s) s (Some s)
  choices_formed ChoicesOf.Others known p size s skip = none code s p
  choices_formed (ChoicesOf.Exceptions es) known p size s skip = catches_formed es known p size s skip

module _ (code : Code) (env : W.Frames) where
  -- Handlers ---------------------------------------------------------------------------------------

  abbrev pub GoodHandler : HandlerCode → Type 0
  GoodHandler h = AreChoices code h.choices × Stays code env h.body.texts h.body.code

  abbrev pub GoodHandlers : List HandlerCode → Type 0
  GoodHandlers [] = Unit {0}
  GoodHandlers (h ∷ more) = GoodHandler h × GoodHandlers more

  handler_turns : (h : HandlerCode) → GoodHandler h → Turns code env h.body.texts (handler_lines h)
  handler_turns h good a n p agrees texts can skip =
      let s = a.stack in
      let size = choices_length h.choices in
      let body = h.body.code (behind size a) n in
      let first = choices_code h.choices (length body + 1) s in
      let counted = choices_long h.choices (length body + 1) s in
      let there : p + size ≡ p + length first = omega (arith, counted) in
      let last : p + length (first ++ body) + 1 ≡ p + size + (length body + 1) = omega (arith, counted, length-append first body) in
      both_at code p first body s s (Some s)
      (choices_formed code h.choices good.0 p (length body + 1) s (leads_at code (p + length (first ++ body) + 1) (p + size + (length body + 1)) s last skip))
      (good.1 (behind size a) n (p + length first) agrees texts (leave_behind code p size (p + length first) a there can))

  -- handlers, whose ends lead back to the end of the statements that they handle
  handlers_formed : (hs : List HandlerCode) → GoodHandlers hs → (a : Around) (n back p first : ℕ) → Agrees code env a.stack → HasAt code.texts.items n (handlers_texts hs) → CanLeave code p a → first + back ≡ p → Leads code first a.stack → FormedAt code p (handlers_code back hs a n) a.stack (Some a.stack)
  handlers_formed [] good a n back p first agrees texts can from lead has = one code InstrOf.RaiseAgain a.stack (Some a.stack) (λ q next. tt) p has
  handlers_formed (h ∷ more) good a n back p first agrees texts can from lead has =
      let s = a.stack in
      let turn = handler_lines h a n in
      let size = length turn in
      let n1 = n + length h.body.texts in
      let q = p + size + 1 in
      let tail = (InstrOf.Back (back + size), s) ∷ handlers_code (back + size + 1) more (behind (size + 1) a) n1 in
      let within : back + size ≤ p + size = omega (arith, from) in
      let there : first ≡ p + size - (back + size) = omega (arith, from) in
      let next : first + (back + size + 1) ≡ q = omega (arith, from) in
      let on : p + (size + 1) ≡ q = omega arith in
      let end = has_back code p turn tail (Some s) has in
      let x = handlers_formed more good.1 (behind (size + 1) a) n1 (back + size + 1) q first agrees (Place.has_back code.texts.items n h.body.texts (handlers_texts more) texts) (leave_behind code p (size + 1) q a on can) next lead end.1 in
      let y = handler_turns h good.0 a n p agrees (Place.has_front code.texts.items n h.body.texts (handlers_texts more) texts) can x.0 (has_front code p turn tail (Some s) (Some s) has end.0) in
      (y.0, fine_both code p turn tail y.1 ((within, leads_at code first (p + size - (back + size)) s there lead), x.1))

  -- Statements with their handlers -----------------------------------------------------------------

  -- lines of the statements of a master, over which no operand stands
  abbrev pub StaysAtEnd : List (List TextPart) → (Around → ℕ → List Line) → Type 0
  StaysAtEnd texts lines = (a : Around) (n p : ℕ) → IsAtEnd a.stack → Agrees code env a.stack → HasAt code.texts.items n texts → CanLeave code p a → FormedAt code p (lines a n) a.stack (Some a.stack)

  pub handled_stays : (body : StatementCode) (hs : List HandlerCode) → GoodHandlers hs → Stays code env body.texts body.code → StaysAtEnd (handled body hs).texts (handled body hs).code
  handled_stays body [] good h a n p top agrees texts can has = h a n p agrees texts can has
  handled_stays body (x ∷ more) good h a n p top agrees texts can has =
      let s = a.stack in
      let hs : List HandlerCode = x ∷ more in
      let lines = body.code (behind 1 a) n in
      let size = length lines in
      let n1 = n + length body.texts in
      let q = p + 1 in
      let r = q + size + 1 in
      let rest = handlers_code 1 hs (behind (size + 2) a) n1 in
      let tail = (InstrOf.Skip (length rest), s) ∷ rest in
      let on : p + (size + 2) ≡ r = omega arith in
      let there : r ≡ q + (size + 1) = omega arith in
      let end = has_back code q lines tail (Some s) has.1 in
      let after = handlers_formed hs good (behind (size + 2) a) n1 1 r (q + size) agrees (Place.has_back code.texts.items n body.texts (handlers_texts hs) texts) (leave_behind code p (size + 2) r a on can) refl end.0 end.1 in
      let before = h (behind 1 a) n q agrees (Place.has_front code.texts.items n body.texts (handlers_texts hs) texts) (leave_behind code p 1 q a refl can) (has_front code q lines tail (Some s) (Some s) has.1 end.0) in
      let skip = has_end code r rest (Some s) end.1 in
      (has.0, ((top, before.0, leads_at code r (q + (size + 1)) s there after.0), fine_both code q lines tail before.1 (skip, after.1)))
