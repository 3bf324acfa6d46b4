-- What is said of an object that is held, and of one that is gone.
use Rattle.std.proofs.Common.{◌≡◌, ℕ, ◌≤◌, true, false, List, [], length, Option, Some, None, refl}
use Rattle.std.specs.Prelude.{is_some, IfSome, Result, Ok, Err, slice_index_or}
use Rattle.std.specs.Option.{option_map, option_map_or}
use Rattle.std.specs.FinMap.{get, insert}
use Rattle.number_map.specs.Table.{change}
use Rattle.pool_area.specs.Lots.{overwritten, run_of}
use Rattle.pool_store.specs.declared.fault.StoreFault.{StoreFault}
use Rattle.pool_store.specs.declared.fault.StoreFault.TheVariants.{Gone}
use Rattle.pool_store.specs.Entries.{Stored}
use Rattle.pool_store.specs.Store.{Store, with_words, copied}

pub held_map : {X Y : Type 0} (f : X → Y) (o : Option X) → is_some (option_map f o) ≡ is_some o
held_map f None = refl
held_map f (Some x) = refl

abbrev words : Option Stored → List ℕ
words o = option_map_or (λ x. x.words) o []

pub within : (o : Option Stored) (n : ℕ) → is_some o ≡ true → IfSome o (λ x. n ≤ length x.words) → n ≤ length (words o)
within None n h fits = absurd (cc)
within (Some x) n h fits = fits

pub read_held : (o : Option Stored) (place : ℕ) → is_some o ≡ true
    → let r : Result ℕ StoreFault = Ok (slice_index_or (words o) place 0) in r ≡ option_map_or (λ x. Ok (slice_index_or x.words place 0)) o (Err Gone)
read_held None place h = absurd (cc)
read_held (Some x) place h = refl

pub gone : {X : Type 0} (o : Option Stored) (f : Stored → Result X StoreFault) → is_some o ≡ false → let r : Result X StoreFault = Err Gone in r ≡ option_map_or f o (Err Gone)
gone None f h = refl
gone (Some x) f h = absurd (cc)

pub is_held_ok : (o : Option Stored) (r : Result (Unit {0}) StoreFault) → is_some o ≡ true → r ≡ option_map_or (λ x. r) o (Err Gone)
is_held_ok None r h = absurd (cc)
is_held_ok (Some x) r h = refl

pub nothing_changes : (s : Store) (n : ℕ) (f : Stored → Stored) → is_some (get s.objects n) ≡ false → s ≡ record s { objects = change n f s.objects }
nothing_changes s n f h = by (get s.objects n) h
  where
    by : (o : Option Stored) → is_some o ≡ false → s ≡ record s { objects = option_map_or (λ v. insert s.objects n (f v)) o s.objects }
    by None e = refl
    by (Some x) e = absurd (cc)

-- nothing is copied from one that is gone, nor to one
pub none_copied_from : (s : Store) (from word to target count : ℕ) → is_some (get s.objects from) ≡ false → s ≡ copied from word to target count s
none_copied_from s from word to target count h = by (get s.objects from) h
  where
    by : (o : Option Stored) → is_some o ≡ false
        → s ≡ option_map_or (λ x. let r : Store = record s { objects = change to (with_words (overwritten target (run_of word count x.words))) s.objects } in r) o s
    by None e = refl
    by (Some x) e = absurd (cc)

pub none_copied_to : (s : Store) (from word to target count : ℕ) → is_some (get s.objects to) ≡ false → s ≡ copied from word to target count s
none_copied_to s from word to target count h = by (get s.objects from)
  where
    by : (o : Option Stored)
        → s ≡ option_map_or (λ x. let r : Store = record s { objects = change to (with_words (overwritten target (run_of word count x.words))) s.objects } in r) o s
    by None = refl
    by (Some x) = nothing_changes s to (with_words (overwritten target (run_of word count x.words))) h
