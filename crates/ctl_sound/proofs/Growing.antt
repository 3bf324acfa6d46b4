-- How a draft grows: what of it stays, what stands behind what was there, and what is made beside it.
use Rattle.std.proofs.Common.{arith, ◌≡◌, ◌≤◌, refl, sym, ap, ◌∙◌, subst, ℕ, zero, suc, ◌+◌, List, [], ◌∷◌, ◌++◌, map, length, take, slice_get, Some}
use Rattle.std.proofs.lemmas.List.{append-nil, append_assoc, length-append}
use Rattle.ctl_program.specs.declared.types.Operations.{Operations}
use Rattle.ctl_program.specs.declared.types.Ty.{Ty}
use Rattle.ctl_program.specs.declared.types.Var.{Var}
use Rattle.ctl_typing.specs.declared.notes.Notes.{Notes}
use Rattle.ctl_typing.specs.declared.table.AccessEntry.{AccessEntry}
use Rattle.ctl_typing.specs.declared.table.Designated.TheVariants as designated
use Rattle.ctl_typing.specs.declared.table.Freezing.TheVariants.{Free}
use Rattle.ctl_typing.specs.declared.table.RecordState.{RecordState}
use Rattle.ctl_typing.specs.declared.table.States.{States}
use Rattle.ctl_draft.specs.declared.draft.Draft.{Draft}
use Rattle.ctl_draft.specs.declared.draft.Returning.{Returning}
use Rattle.ctl_draft.specs.declared.draft.Waiting.{Waiting}
use Rattle.ctl_draft.specs.Freezing.{with_states}
use Rattle.ctl_well_typed.specs.Setting.{Holding, Frames, Signature}
use Rattle.ctl_sound.specs.Known.{IfSome}

-- Rows ---------------------------------------------------------------------------------------

-- the second row begins with the first
pub record Behind {A : Type 0} (xs ys : List A) : Type 0 where
  pub more : List A
  pub is : ys ≡ xs ++ more

pub behind_self : {A : Type 0} (xs : List A) → Behind xs xs
behind_self xs = record { more = []; is = sym (append-nil xs) }

pub behind_same : {A : Type 0} (xs ys : List A) → ys ≡ xs → Behind xs ys
behind_same xs ys e = record { more = []; is = e ∙ sym (append-nil xs) }

pub behind_one : {A : Type 0} (xs : List A) (x : A) → Behind xs (xs ++ x ∷ [])
behind_one xs x = record { more = x ∷ []; is = refl }

pub behind_further : {A : Type 0} (xs ys zs : List A) → Behind xs ys → Behind ys zs → Behind xs zs
behind_further xs ys zs h i = record { more = h.more ++ i.more; is = i.is ∙ ap (λ r. r ++ i.more) h.is ∙ append_assoc xs h.more i.more }

pub behind_length : {A : Type 0} (xs ys : List A) → Behind xs ys → length xs ≤ length ys
behind_length xs ys h = let e = ap length h.is ∙ length-append xs h.more in omega (arith, e)

pub front_kept : {A : Type 0} (xs ys : List A) → take (length xs) (xs ++ ys) ≡ xs
front_kept [] ys = refl
front_kept (x ∷ xs) ys = ap (λ r. x ∷ r) (front_kept xs ys)

pub behind_cut : {A : Type 0} (xs ys : List A) → Behind xs ys → take (length xs) ys ≡ xs
behind_cut xs ys h = ap (λ r. take (length xs) r) h.is ∙ front_kept xs h.more

pub front_read : {A : Type 0} (xs ys : List A) (n : ℕ) (x : A) → slice_get xs n ≡ Some x → slice_get (xs ++ ys) n ≡ Some x
front_read [] ys n x h = absurd (cc)
front_read (y ∷ xs) ys zero x h = h
front_read (y ∷ xs) ys (suc n) x h = front_read xs ys n x h

pub behind_read : {A : Type 0} (xs ys : List A) (n : ℕ) (x : A) → Behind xs ys → slice_get xs n ≡ Some x → slice_get ys n ≡ Some x
behind_read xs ys n x b h = subst (λ r. slice_get r n ≡ Some x) (sym b.is) (front_read xs b.more n x h)

pub last_read : {A : Type 0} (xs : List A) (x : A) → slice_get (xs ++ x ∷ []) (length xs) ≡ Some x
last_read [] x = refl
last_read (y ∷ xs) x = last_read xs x

-- what holds of each, holds of each with one more of which it holds
pub each_with : {A : Type 0} (P : A → Type 0) (xs : List A) (x : A) → ((n : ℕ) → IfSome P (slice_get xs n)) → P x → (n : ℕ) → IfSome P (slice_get (xs ++ x ∷ []) n)
each_with P [] x h i zero = i
each_with P [] x h i (suc n) = tt
each_with P (y ∷ xs) x h i zero = h zero
each_with P (y ∷ xs) x h i (suc n) = each_with P xs x (λ m. h (suc m)) i n

-- from this place on, the second row has the first
abbrev pub From : {A : Type 0} → ℕ → List A → List A → Type 0
From {A} n xs ys = (i : ℕ) (x : A) → slice_get xs i ≡ Some x → slice_get ys (n + i) ≡ Some x

pub from_first : {A : Type 0} (n : ℕ) (xs zs ys : List A) → From n (xs ++ zs) ys → From n xs ys
from_first n xs zs ys h i x e = h i x (front_read xs zs i x e)

pub behind_place : {A : Type 0} (xs zs : List A) (i : ℕ) → slice_get (xs ++ zs) (length xs + i) ≡ slice_get zs i
behind_place [] zs i = let same : 0 + i ≡ i = omega arith in ap (λ n. slice_get zs n) same
behind_place (x ∷ xs) zs i = let same : suc (length xs) + i ≡ suc (length xs + i) = omega arith in ap (λ n. slice_get (x ∷ (xs ++ zs)) n) same ∙ behind_place xs zs i

pub from_rest : {A : Type 0} (n m : ℕ) (xs zs ys : List A) → m ≡ n + length xs → From n (xs ++ zs) ys → From m zs ys
from_rest n m xs zs ys same h i x e =
    let place : n + (length xs + i) ≡ m + i = omega (arith, same) in
    subst (λ p. slice_get ys p ≡ Some x) place (h (length xs + i) x (behind_place xs zs i ∙ e))

pub from_start : {A : Type 0} (xs : List A) → From 0 xs xs
from_start xs i x e = let same : i ≡ 0 + i = omega arith in subst (λ p. slice_get xs p ≡ Some x) same e

-- Drafts ---------------------------------------------------------------------------------------

abbrev pub operations_in : RecordState → Operations
operations_in s = s.operations

-- an access type, but for whether it is frozen
abbrev pub unfrozen : AccessEntry → AccessEntry
unfrozen a = record a { freezing = Free }

pub mapped_length : {A B : Type 0} (f : A → B) (xs ys : List A) → map f ys ≡ map f xs → length ys ≡ length xs
mapped_length f xs ys h = sym (counted ys) ∙ ap length h ∙ counted xs
  where
    counted : (zs : List _) → length (map f zs) ≡ length zs
    counted [] = refl
    counted (z ∷ zs) = ap suc (counted zs)

-- what stands at the same place of a row that says the same
pub record SaysSame {A B : Type 0} (f : A → B) (ys : List A) (n : ℕ) (x : A) : Type 0 where
  pub is : A
  pub found : slice_get ys n ≡ Some is
  pub same : f is ≡ f x

pub mapped_at : {A B : Type 0} (f : A → B) (xs ys : List A) → map f ys ≡ map f xs → (n : ℕ) (x : A) → slice_get xs n ≡ Some x → SaysSame f ys n x
mapped_at f [] ys h n x e = absurd (cc)
mapped_at f (z ∷ xs) [] h n x e = absurd (cc)
mapped_at f (z ∷ xs) (y ∷ ys) h zero x e = let own : z ≡ x = cc in let first : f y ≡ f z = cc in record { is = y; found = refl; same = first ∙ ap f own }
mapped_at f (z ∷ xs) (y ∷ ys) h (suc n) x e = let more : map f ys ≡ map f xs = cc in let g = mapped_at f xs ys more n x e in record { is = g.is; found = g.found; same = g.same }

-- what is known of an access type stays known
pub record Later (x y : AccessEntry) : Type 0 where
  pub level : y.level ≡ x.level
  pub collection : y.collection ≡ x.collection
  pub designated : (t : Ty) → x.designated ≡ designated.Known t → y.designated ≡ designated.Known t
  pub pool : (p : Var × ℕ) → x.pool ≡ Some p → y.pool ≡ Some p

pub later_self : (x : AccessEntry) → Later x x
later_self x = record { level = refl; collection = refl; designated = λ t e. e; pool = λ p e. e }

pub later_further : (x y z : AccessEntry) → Later x y → Later y z → Later x z
later_further x y z h i = record { level = i.level ∙ h.level; collection = i.collection ∙ h.collection; designated = λ t e. i.designated t (h.designated t e); pool = λ p e. i.pool p (h.pool p e) }

later_same : (x y : AccessEntry) → unfrozen y ≡ unfrozen x → Later x y
later_same x y h = record {
  level = ap (λ a. a.level) h;
  collection = ap (λ a. a.collection) h;
  designated = λ t e. ap (λ a. a.designated) h ∙ e;
  pool = λ p e. ap (λ a. a.pool) h ∙ e;
}

-- an access type that stood at a place stands there later
pub record StandsLater (ys : List AccessEntry) (n : ℕ) (x : AccessEntry) : Type 0 where
  pub is : AccessEntry
  pub found : slice_get ys n ≡ Some is
  pub later : Later x is

abbrev pub AllLater : List AccessEntry → List AccessEntry → Type 0
AllLater xs ys = (n : ℕ) (x : AccessEntry) → slice_get xs n ≡ Some x → StandsLater ys n x

pub all_same : (xs ys : List AccessEntry) → map unfrozen ys ≡ map unfrozen xs → AllLater xs ys
all_same xs ys h n x e = let g = mapped_at unfrozen xs ys h n x e in record { is = g.is; found = g.found; later = later_same x g.is g.same }

pub all_further : (xs ys zs : List AccessEntry) → AllLater xs ys → AllLater ys zs → AllLater xs zs
all_further xs ys zs h i n x e = let g = h n x e in let j = i n g.is g.found in record { is = j.is; found = j.found; later = later_further x g.is j.is g.later j.later }

-- nothing is declared
pub record Still (d e : Draft) : Type 0 where
  pub records : e.tables.records ≡ d.tables.records
  pub operations : map operations_in e.tables.states.records ≡ map operations_in d.tables.states.records
  pub accesses : map unfrozen e.tables.states.accesses ≡ map unfrozen d.tables.states.accesses
  pub entries : e.tables.entries ≡ d.tables.entries
  pub slots : e.slots ≡ d.slots
  pub exceptions : e.exceptions ≡ d.exceptions
  pub components : e.components ≡ d.components
  pub subprograms : e.subprograms ≡ d.subprograms
  pub own : e.own ≡ d.own

pub still_self : (d : Draft) → Still d d
still_self d = record { records = refl; operations = refl; accesses = refl; entries = refl; slots = refl; exceptions = refl; components = refl; subprograms = refl; own = refl }

-- but for what was noted, what waits, and whether there was a return
pub still_noted : (d : Draft) (r : Returning) (w : List Waiting) (n : Notes) → Still d (record d { returning = r; waiting = w; notes = n })
still_noted d r w n = record { records = refl; operations = refl; accesses = refl; entries = refl; slots = refl; exceptions = refl; components = refl; subprograms = refl; own = refl }

pub still_states : (d : Draft) (s : States) → map operations_in s.records ≡ map operations_in d.tables.states.records → map unfrozen s.accesses ≡ map unfrozen d.tables.states.accesses → Still d (with_states s d)
still_states d s o a = record { records = refl; operations = o; accesses = a; entries = refl; slots = refl; exceptions = refl; components = refl; subprograms = refl; own = refl }

pub still_further : (d e f : Draft) → Still d e → Still e f → Still d f
still_further d e f h i = record {
  records = i.records ∙ h.records;
  operations = i.operations ∙ h.operations;
  accesses = i.accesses ∙ h.accesses;
  entries = i.entries ∙ h.entries;
  slots = i.slots ∙ h.slots;
  exceptions = i.exceptions ∙ h.exceptions;
  components = i.components ∙ h.components;
  subprograms = i.subprograms ∙ h.subprograms;
  own = i.own ∙ h.own;
}

pub still_back : (d e : Draft) → Still d e → Still e d
still_back d e h = record {
  records = sym h.records;
  operations = sym h.operations;
  accesses = sym h.accesses;
  entries = sym h.entries;
  slots = sym h.slots;
  exceptions = sym h.exceptions;
  components = sym h.components;
  subprograms = sym h.subprograms;
  own = sym h.own;
}

-- What is made beside a draft --------------------------------------------------------------------

-- the masters around the types that a construct declares, those around its subprograms, and what is known of these
pub record Homes : Type 0 where
  pub records : List Frames
  pub accesses : List Frames
  pub subprograms : List Signature

abbrev pub no_homes : Homes
no_homes = record { records = []; accesses = []; subprograms = [] }

abbrev pub and_homes : Homes → Homes → Homes
and_homes g h = record { records = g.records ++ h.records; accesses = g.accesses ++ h.accesses; subprograms = g.subprograms ++ h.subprograms }

-- what the slots are for that a construct takes, and, by the masters around it, the homes of what it declares
pub record Made : Type 0 where
  pub holdings : List Holding
  pub homes : Frames → Homes

abbrev pub nothing : Made
nothing = record { holdings = []; homes = λ env. no_homes }

abbrev pub and_then : Made → Made → Made
and_then m n = record { holdings = m.holdings ++ n.holdings; homes = λ env. and_homes (m.homes env) (n.homes env) }

-- a draft grows by what is made
pub record Grows (m : Made) (d e : Draft) : Type 0 where
  pub records : Behind d.tables.records e.tables.records
  pub components : Behind d.components e.components
  pub exceptions : Behind d.exceptions e.exceptions
  pub accesses : AllLater d.tables.states.accesses e.tables.states.accesses
  pub slots : length e.slots ≡ length d.slots + length m.holdings
  pub record_homes : (env : Frames) → length e.tables.records ≡ length d.tables.records + length (m.homes env).records
  pub access_homes : (env : Frames) → length e.tables.states.accesses ≡ length d.tables.states.accesses + length (m.homes env).accesses
  pub signatures : (env : Frames) → length e.subprograms ≡ length d.subprograms + length (m.homes env).subprograms

pub still_grows : (d e : Draft) → Still d e → Grows nothing d e
still_grows d e h = record {
  records = behind_same d.tables.records e.tables.records h.records;
  components = behind_same d.components e.components h.components;
  exceptions = behind_same d.exceptions e.exceptions h.exceptions;
  accesses = all_same d.tables.states.accesses e.tables.states.accesses h.accesses;
  slots = let same = ap length h.slots in omega (arith, same);
  record_homes = λ env. let same = ap length h.records in omega (arith, same);
  access_homes = λ env. let same = mapped_length unfrozen d.tables.states.accesses e.tables.states.accesses h.accesses in omega (arith, same);
  signatures = λ env. let same = ap length h.subprograms in omega (arith, same);
}

pub grows_self : (d : Draft) → Grows nothing d d
grows_self d = still_grows d d (still_self d)

-- two numbers more, one behind the other
summed : {A : Type 0} (a b c : ℕ) (xs ys : List A) → b ≡ a + length xs → c ≡ b + length ys → c ≡ a + length (xs ++ ys)
summed a b c xs ys h i = let sum = length-append xs ys in omega (arith, h, i, sum)

pub grows_further : (m n : Made) (d e f : Draft) → Grows m d e → Grows n e f → Grows (and_then m n) d f
grows_further m n d e f h i = record {
  records = behind_further d.tables.records e.tables.records f.tables.records h.records i.records;
  components = behind_further d.components e.components f.components h.components i.components;
  exceptions = behind_further d.exceptions e.exceptions f.exceptions h.exceptions i.exceptions;
  accesses = all_further d.tables.states.accesses e.tables.states.accesses f.tables.states.accesses h.accesses i.accesses;
  slots = summed (length d.slots) (length e.slots) (length f.slots) m.holdings n.holdings h.slots i.slots;
  record_homes = λ env. summed (length d.tables.records) (length e.tables.records) (length f.tables.records) (m.homes env).records (n.homes env).records (h.record_homes env) (i.record_homes env);
  access_homes = λ env. summed (length d.tables.states.accesses) (length e.tables.states.accesses) (length f.tables.states.accesses) (m.homes env).accesses (n.homes env).accesses (h.access_homes env) (i.access_homes env);
  signatures = λ env. summed (length d.subprograms) (length e.subprograms) (length f.subprograms) (m.homes env).subprograms (n.homes env).subprograms (h.signatures env) (i.signatures env);
}

-- nothing is declared in front of what grows, or behind it
pub grows_behind : (m : Made) (d e f : Draft) → Still d e → Grows m e f → Grows m d f
grows_behind m d e f s g = record {
  records = behind_further d.tables.records e.tables.records f.tables.records (behind_same d.tables.records e.tables.records s.records) g.records;
  components = behind_further d.components e.components f.components (behind_same d.components e.components s.components) g.components;
  exceptions = behind_further d.exceptions e.exceptions f.exceptions (behind_same d.exceptions e.exceptions s.exceptions) g.exceptions;
  accesses = all_further d.tables.states.accesses e.tables.states.accesses f.tables.states.accesses (all_same d.tables.states.accesses e.tables.states.accesses s.accesses) g.accesses;
  slots = let same = ap length s.slots in let more = g.slots in omega (arith, same, more);
  record_homes = λ env. let same = ap length s.records in let more = g.record_homes env in omega (arith, same, more);
  access_homes = λ env. let same = mapped_length unfrozen d.tables.states.accesses e.tables.states.accesses s.accesses in let more = g.access_homes env in omega (arith, same, more);
  signatures = λ env. let same = ap length s.subprograms in let more = g.signatures env in omega (arith, same, more);
}

pub grows_before : (m : Made) (d e f : Draft) → Grows m d e → Still e f → Grows m d f
grows_before m d e f g s = record {
  records = behind_further d.tables.records e.tables.records f.tables.records g.records (behind_same e.tables.records f.tables.records s.records);
  components = behind_further d.components e.components f.components g.components (behind_same e.components f.components s.components);
  exceptions = behind_further d.exceptions e.exceptions f.exceptions g.exceptions (behind_same e.exceptions f.exceptions s.exceptions);
  accesses = all_further d.tables.states.accesses e.tables.states.accesses f.tables.states.accesses g.accesses (all_same e.tables.states.accesses f.tables.states.accesses s.accesses);
  slots = let same = ap length s.slots in let more = g.slots in omega (arith, same, more);
  record_homes = λ env. let same = ap length s.records in let more = g.record_homes env in omega (arith, same, more);
  access_homes = λ env. let same = mapped_length unfrozen e.tables.states.accesses f.tables.states.accesses s.accesses in let more = g.access_homes env in omega (arith, same, more);
  signatures = λ env. let same = ap length s.subprograms in let more = g.signatures env in omega (arith, same, more);
}
