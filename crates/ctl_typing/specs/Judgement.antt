-- Judging: what is known of a construct, and the first fault by place. No fault ends the judging; each is noted, and the first by place is kept.
use Rattle.std.specs.Prelude.{◌≡◌, List, [], ◌∷◌, ◌++◌, Option, Some, None, Result, Ok, Err}
use Rattle.ctl_tree.specs.declared.span.Span.{Span}
use Rattle.ctl_tree.specs.declared.fault.FaultCode.{FaultCode}
use Rattle.ctl_tree.specs.declared.fault.FaultCode.TheVariants as rule
use Rattle.ctl_program.specs.declared.types.Ty.{Ty}
use Rattle.ctl_typing.specs.declared.notes.Deed.{Deed}
use Rattle.ctl_typing.specs.declared.notes.Deed.TheVariants.{Freezes}
use Rattle.ctl_typing.specs.declared.notes.Notes.{Notes}
use Rattle.ctl_tree.specs.Faults.{fault_at, first_of}

-- what is known, and the state, after that so far
abbrev pub Judging : Type 0 → Type 0 → Type 0
Judging S A = S → Option A × S

-- where the state is what was noted
abbrev pub Judgement : Type 0 → Type 0
Judgement A = Judging Notes A

abbrev pub with_fault : FaultCode → Span → Notes → Notes
with_fault code place n = record { early = n.early; fault = first_of n.fault (fault_at code place); deeds = n.deeds }

-- of a rule on names, order or completion
abbrev pub with_early : FaultCode → Span → Notes → Notes
with_early code place n = record { early = first_of n.early (fault_at code place); fault = n.fault; deeds = n.deeds }

-- more deeds, where they are asked for
abbrev pub with_deeds : List Deed → Option (List Deed) → Option (List Deed)
with_deeds more None = None
with_deeds more (Some ds) = Some (ds ++ more)

abbrev pub known : {S A : Type 0} → A → Judging S A
known a s = (Some a, s)

-- a rule is broken, and all is known the same
abbrev pub but : {A : Type 0} → FaultCode → Span → A → Judgement A
but code place a n = (Some a, with_fault code place n)

-- a rule is broken, and nothing is known
abbrev pub wrong : {A : Type 0} → FaultCode → Span → Judgement A
wrong code place n = (None, with_fault code place n)

-- a use that denotes nothing: the rules on names are broken there (8.3), and nothing is known
abbrev pub unresolved : {A : Type 0} → Span → Judgement A
unresolved place n = wrong rule.Unknown place n

-- an expression does this to the part around it
abbrev pub doing : {A : Type 0} → List Deed → A → Judgement A
doing ds a n = (Some a, record { early = n.early; fault = n.fault; deeds = with_deeds ds n.deeds })

-- an expression has this type, which it freezes (13.14)
abbrev pub noting : {A : Type 0} → Ty → A → Judgement A
noting t a n = doing (Freezes t ∷ []) a n

abbrev pub with_known : {S A B : Type 0} → (A → Judging S B) → Option A × S → Option B × S
with_known f (None, s) = (None, s)
with_known f (Some a, s) = f a s

infixl 10 ◌>>=◌
abbrev pub ◌>>=◌ : {S A B : Type 0} → Judging S A → (A → Judging S B) → Judging S B
◌>>=◌ p f s = with_known f (p s)

-- what comes after something, where that is known
abbrev pub onward : {S A B : Type 0} → Option A → (A → Judging S B) → Judging S B
onward a f s = with_known f (a, s)

abbrev pub paired : {S A B : Type 0} → Option A → Option B × S → Option (A × B) × S
paired (Some a) (Some b, s) = (Some (a, b), s)
paired (Some a) (None, s) = (None, s)
paired None (b, s) = (None, s)

abbrev pub beside : {S A B : Type 0} → Judging S B → Option A × S → Option (A × B) × S
beside q (a, s) = paired a (q s)

-- both are judged, whatever the first gives
abbrev pub both : {S A B : Type 0} → Judging S A → Judging S B → Judging S (A × B)
both p q s = beside q (p s)

abbrev pub appended : {A : Type 0} → Option (List A) → Option A → Option (List A)
appended None b = None
appended (Some done) None = None
appended (Some done) (Some b) = Some (done ++ b ∷ [])

abbrev pub each_on : {S A B : Type 0} → (A → Judging S B) → Option (List B) → Option B × S → List A → Option (List B) × S
each_on f done (b, s) [] = (appended done b, s)
each_on f done (b, s) (x ∷ xs) = each_on f (appended done b) (f x s) xs

-- each is judged, behind those so far; known where each of them is
abbrev pub each : {S A B : Type 0} → (A → Judging S B) → Option (List B) → List A → S → Option (List B) × S
each f done [] s = (done, s)
each f done (x ∷ xs) s = each_on f done (f x s) xs

abbrev pub then_beside : {S A B : Type 0} → (Option A → Judging S B) → Option A × S → Option (A × B) × S
then_beside f (a, s) = paired a (f a s)

-- the second is judged by what is known of the first, if anything is
abbrev pub following : {S A B : Type 0} → Judging S A → (Option A → Judging S B) → Judging S (A × B)
following p f s = then_beside f (p s)

abbrev pub then_by : {S A B : Type 0} → (Option A → Judging S B) → Option A × S → Option B × S
then_by f (a, s) = f a s

-- the second alone counts; it is judged by what is known of the first, if anything is
abbrev pub followed_by : {S A B : Type 0} → Judging S A → (Option A → Judging S B) → Judging S B
followed_by p f s = then_by f (p s)

-- what a function returns and leaves: the judgement, unless memory was refused
abbrev pub Judges : {S A E : Type 0} → Judging S A → S → Result (Option A) E → S → Type 0
Judges j old (Ok a) new = j old ≡ (a, new)
Judges j old (Err e) new = Unit {0}

-- the same of a function that takes no memory
abbrev pub Answers : {S A : Type 0} → Judging S A → S → Option A → S → Type 0
Answers j old a new = j old ≡ (a, new)

-- the same of what is always known
abbrev pub Yields : {S A E : Type 0} → (S → A × S) → S → Result A E → S → Type 0
Yields f old (Ok a) new = f old ≡ (a, new)
Yields f old (Err e) new = Unit {0}
