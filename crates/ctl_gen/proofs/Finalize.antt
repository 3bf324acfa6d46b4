-- The finalization of a whole object of a plain type: of a declared one, which closes then if it is a pool, and of any that has a controlled
-- part.
use Rattle.std.proofs.Common.{◌≡◌, ℕ, ◌<◌, ◌≤◌, ◌+◌, List, ◌∷◌, length, Option, Some, None, Bool, true, false, refl, sym, ap, ◌∙◌, subst, arith}
use Rattle.std.specs.Prelude.{◌||◌, nat_eq}
use Rattle.std.proofs.lemmas.Option.{slice_get_within}
use Rattle.ctl_program.specs.declared.types.Ty.{Ty}
use Rattle.ctl_program.specs.declared.types.Ty.TheVariants.{Integer, Count, Boolean, Address, Handle, Access, Record}
use Rattle.ctl_tree.specs.declared.event.Cause.{Cause}
use Rattle.ctl_tree.specs.declared.event.Cause.TheVariants.{Scope}
use Rattle.ctl_meaning.specs.World.{BlockPool, Object, Log, World}
use Rattle.ctl_meaning.specs.Lists.{first_with, opened_lists}
use Rattle.ctl_meaning.specs.Members.{member_of}
use Rattle.ctl_meaning.specs.Objects.{lies_in_pool}
use Rattle.ctl_meaning.specs.Pools.{block_pool_at, opened_pools}
use Rattle.ctl_meaning.specs.Changes.{count_of, object_at, begin_finalization, end_finalization, home_of}
use Rattle.ctl_meaning.specs.Choice.{Ask, picked}
use Rattle.ctl_meaning.specs.Outcome.{Way, Result, Goes, Leaves, Out, Gives, Act, add, bind, on_goes, ◌>>=◌, ◌>>◌, done, nothing, change, either, on_some, opened_outcome}
use Rattle.ctl_meaning.specs.Types.{Tables, depth, has_controlled, of_record}
use Rattle.ctl_meaning.specs.Names.{Call, Default, Tools, gone, opened_names}
use Rattle.ctl_meaning.specs.Finalization.{Every, finalize, finalize_part, finalize_object, finalize_if_controlled, whole, opened_finalization}
use Rattle.ctl_meaning.specs.Storage.{close_pool, shut_pool, release_each, opened_storage}
use Rattle.ctl_code.specs.declared.code.Parts.{Parts}
use Rattle.ctl_code.specs.declared.code.Parts.TheVariants as PartsOf
use Rattle.ctl_code.specs.declared.code.Code.{Code}
use Rattle.ctl_code.specs.States.{Frame, Finalizing, State, whole_spot}
use Rattle.ctl_code.specs.Table as Table
use Rattle.ctl_code.specs.Table.{closed_if, has_part, has_part_in, parts_of, with_end}
use Rattle.ctl_code.specs.Steps.{moved, step}
use Rattle.ctl_code.specs.Valid.{IsDeclarable}
use Rattle.ctl_gen.proofs.Known.{IsPlainType}
use Rattle.ctl_gen.proofs.Parted.{GivesDefaults}
use Rattle.ctl_gen.proofs.Worlds.{Fits, Since, keeps_itself, since_begin, since_end, since_ended, since_on}
use Rattle.ctl_gen.proofs.Scopes.{still_surrounded, type_inside}
use Rattle.ctl_gen.proofs.Setting.{Setting, tools_with, IsSure, Sure, Calls}
use Rattle.ctl_gen.proofs.FinalizedParts.{IsPassed, Passed, part_runs, tells}
use Rattle.ctl_gen.proofs.Follow.{Runs, way_of, added, bind_add, bind_bind, both, last_step, weaker, within}

-- an object closes if it is a pool; whether a Finalize raised before, or does then
abbrev closing : Tools → ℕ → Bool → Act Bool
closing K n a = close_pool K n >>= (λ b. done (a || b))

-- an object that exists is finalized by its own type, and closes then if it is a pool
abbrev pub finalize_as : Tools → ℕ → Ty → Act Bool
finalize_as K n ty = finalize_if_controlled K Scope (record { number = n; ty = ty }) >>= closing K n

-- no pool closes where an object is finalized for this cause: only a declared object is one
abbrev pub ClosesNone : Cause → Type 0
ClosesNone cause = (n : ℕ) (w : World) → with_end cause n w ≡ w

-- a type of the table stands in it, and it is less deep than the table
pub within_table : (k : Tables) (t : ℕ) → IsPlainType k (Record t) → t ≤ length k.records
within_table k t plain = let less = slice_get_within k.records t plain.0 plain.1 in omega (arith, less)

pub within_depth : (k : Tables) (t : ℕ) → IsPlainType k (Record t) → t < depth k
unfolding depth
within_depth k t plain = let less = slice_get_within k.records t plain.0 plain.1 in omega (arith, less)

-- the object's pool, if it is one, closes as the machine has it, for so many ticks: no pool has subpools
pool_closed : (k : Tables) (code : Code) (K : Tools) (n c : ℕ) (l : Log) (w : World) → Fits k code w → (t : ℕ) × (close_pool K n c l w ≡ Gives (Goes false) t c l (with_end Scope n w))
unfolding opened_storage opened_outcome opened_pools opened_lists
pool_closed k code K n c l w fits = let x = by (block_pool_at n w.pools) in (x.0, no_marks ∙ x.1)
  where
    no_marks : close_pool K n c l w ≡ on_some (block_pool_at n w.pools) (done false) (λ p. shut_pool n >> done false) c l w
    no_marks = ap (λ ps. on_some (first_with (λ p. nat_eq p.object n) ps) (on_some (block_pool_at n w.pools) (done false) (λ p. shut_pool n >> done false)) (λ p. release_each K p.marks false >>= (λ b. shut_pool n >> done b)) c l w) fits.mark_pools

    by : (p : Option BlockPool) → (t : ℕ) × (on_some p (done false) (λ x. shut_pool n >> done false) c l w ≡ Gives (Goes false) t c l (closed_if p n w))
    by None = (0, refl)
    by (Some p) = (count_of (lies_in_pool n) w + 0 + 0, refl)

-- and whether a Finalize raised is handed on
closing_is : (k : Tables) (code : Code) (K : Tools) (n : ℕ) (a : Bool) (c : ℕ) (l : Log) (w : World) → Fits k code w → (t : ℕ) × (closing K n a c l w ≡ Gives (Goes a) t c l (with_end Scope n w))
unfolding opened_outcome
closing_is k code K n a c l w fits = by a
  where
    closed : (t : ℕ) × (close_pool K n c l w ≡ Gives (Goes false) t c l (with_end Scope n w))
    closed = pool_closed k code K n c l w fits

    by : (b : Bool) → (t : ℕ) × (closing K n b c l w ≡ Gives (Goes b) t c l (with_end Scope n w))
    by true = (closed.0 + 0, ap (λ x. bind x (on_goes (λ b. done (true || b)))) closed.1)
    by false = (closed.0 + 0, ap (λ x. bind x (on_goes (λ b. done (false || b)))) closed.1)

module _ (ask : Ask) (k : Tables) (code : Code) (setting : Setting k code) (call : Call) (default : Default) (constants : GivesDefaults k default) (bound : ℕ) (calls : Calls ask k code setting bound call) where
  abbrev K : Tools
  K = tools_with ask k call default

  -- an object without a controlled part stays as it is, and closes if it is a pool
  untouched_is : (ty : Ty) (n c : ℕ) (l : Log) (w : World) → has_controlled k ty ≡ false → Fits k code w → (u : ℕ) × (finalize_as K n ty c l w ≡ Gives (Goes false) u c l (with_end Scope n w))
  unfolding opened_finalization opened_outcome
  untouched_is ty n c l w none fits =
      let x = closing_is k code K n false c l w fits in (
        0 + x.0,
        ap (λ b. bind (either b (finalize_object K Scope (record { number = n; ty = ty })) (done false) c l w) (on_goes (closing K n))) none
            ∙ ap (add 0) x.1,
      )

  -- in one step
  pub untouched_runs : (ty : Ty) (n : ℕ) (w0 : World) (ks : List Frame) (c : ℕ) (l : Log) (w : World) (s0 : State) → has_controlled k ty ≡ false → Since k code w0 w → step ask code s0 ≡ tells ks (Goes false) l (with_end Scope n w) → Runs ask code (Sure k code w0) 3 3 s0 c (tells ks) (finalize_as K n ty c l w)
  untouched_runs ty n w0 ks c l w s0 none fits first =
      let x = untouched_is ty n c l w none fits.0 in
      subst (Runs ask code (Sure k code w0) 3 3 s0 c (tells ks)) (sym x.1) (last_step ask code (Sure k code w0) 3 3 s0 c x.0 (tells ks) (Goes false) l (with_end Scope n w) (omega arith) (tt, since_ended k code Scope n w0 w fits) first)

  -- what becomes of an object whose parts are finalized
  abbrev ended : ℕ → Result Bool → Act Bool
  ended n = on_goes (λ b. change (end_finalization n) >> done b)

  -- its finalization begins, and its parts are finalized
  abbrev parts_finalized : Cause → ℕ → ℕ → ℕ → Log → World → Out Bool
  parts_finalized cause t n c l w = finalize_part K cause Every (depth k) (whole_spot n) t c l (begin_finalization n w)

  -- an object that exists
  object_is : (cause : Cause) (t n c : ℕ) (l : Log) (w : World) (o : Object) → object_at n w ≡ Some o → finalize_object K cause (record { number = n; ty = Record t }) c l w ≡ add 0 (bind (parts_finalized cause t n c l w) (ended n))
  unfolding opened_finalization opened_outcome opened_names of_record depth
  object_is cause t n c l w o at = ap (λ x. bind (bind (on_some x gone (λ _. nothing) c l w) (on_goes (λ _. change (begin_finalization n)))) (on_goes (λ _. finalize K cause Every (whole n) t >>= (λ b. change (end_finalization n) >> done b)))) at

  -- for a cause for which nothing leaves its finalization: its parts, and what follows them, where that comes to its end from the object's
  -- frame
  parts_run : (cause : Cause) → ((y : Option Way) → IsPassed cause y → IsSure y) → (f : Result Bool → Act Bool) (t n : ℕ) (w0 : World) (ks : List Frame) (c : ℕ) (l : Log) (w : World) (s0 : State) (o : Object) → c ≤ bound → Since k code w0 w → object_at n w ≡ Some o → o.ty ≡ Record t → IsPlainType k (Record t) → has_controlled k (Record t) ≡ true → step ask code s0 ≡ moved l (Table.finalize_part code (parts_of code t) cause (whole_spot n) t (Finalizing cause n ∷ ks) (begin_finalization n w))
      → ((b : Bool) (c1 : ℕ) (l1 : Log) (w1 : World) → Since k code w0 w1 → Runs ask code (Sure k code w0) 1 1 (tells (Finalizing cause n ∷ ks) (Goes b) l1 w1) c1 (tells ks) (f (Goes b) c1 l1 w1)) → Runs ask code (Sure k code w0) 1 1 s0 c (tells ks) (bind (parts_finalized cause t n c l w) f)
  unfolding picked
  parts_run cause sure f t n w0 ks c l w s0 o le fits at ty plain held first follows =
      both ask code (Sure k code w) (Sure k code w0) 0 0 1 1 1 1 s0 c (tells (Finalizing cause n ∷ ks)) (tells ks) _ f (omega arith) (omega arith) (omega arith)
      (weaker ask code (Passed k code cause w) (Sure k code w) 0 0 s0 c (tells (Finalizing cause n ∷ ks)) _ (λ y v passed. (sure y passed.0, passed.1))
      (part_runs ask k code setting call default constants bound calls None cause w (length (home_of o.origin w)) (depth k) (whole_spot n) t (Finalizing cause n ∷ ks) c l (begin_finalization n w) s0 (refl, still_surrounded k code w n o fits.0 at) (within_depth k t plain) plain held inside le (since_begin k code n w w (fits.0, keeps_itself k code w)) first))
      after
    where
      inside : IsDeclarable code (length (home_of o.origin w)) t
      inside = type_inside k code n w o t fits.0 at ty

      after : (r : Result Bool) (c1 : ℕ) (l1 : Log) (w1 : World) → c1 ≤ c → Sure k code w (way_of r) w1 → Runs ask code (Sure k code w0) 1 1 (tells (Finalizing cause n ∷ ks) r l1 w1) c1 (tells ks) (f r c1 l1 w1)
      after (Goes b) c1 l1 w1 lo sure1 = follows b c1 l1 w1 (since_on k code w0 w w1 fits sure1.1)
      after (Leaves y) c1 l1 w1 lo sure1 = absurd sure1.0

  -- an object that is no pool, and for such a cause
  object_runs : (cause : Cause) → ClosesNone cause → ((y : Option Way) → IsPassed cause y → IsSure y) → (t n : ℕ) (w0 : World) (ks : List Frame) (c : ℕ) (l : Log) (w : World) (s0 : State) (o : Object) → c ≤ bound → Since k code w0 w → object_at n w ≡ Some o → o.ty ≡ Record t → IsPlainType k (Record t) → has_controlled k (Record t) ≡ true → step ask code s0 ≡ moved l (Table.finalize_part code (parts_of code t) cause (whole_spot n) t (Finalizing cause n ∷ ks) (begin_finalization n w)) → Runs ask code (Sure k code w0) 1 1 s0 c (tells ks) (finalize_object K cause (record { number = n; ty = Record t }) c l w)
  unfolding picked opened_outcome
  object_runs cause closes_none sure t n w0 ks c l w s0 o le fits at ty plain held first =
      subst (Runs ask code (Sure k code w0) 1 1 s0 c (tells ks)) (sym (object_is cause t n c l w o at))
      (added ask code (Sure k code w0) 0 1 1 1 1 s0 c (tells ks) _ (omega arith) (omega arith)
      (parts_run cause sure (ended n) t n w0 ks c l w s0 o le fits at ty plain held first
      (λ b c1 l1 w1 fits1. last_step ask code (Sure k code w0) 1 1 _ c1 0 (tells ks) (Goes b) l1 (end_finalization n w1) (omega arith) (tt, since_end k code n w0 w1 fits1)
      (ap (λ v. tells ks (Goes b) l1 v) (closes_none n (end_finalization n w1))))))

  -- a declared object, which closes if it is a pool
  scope_runs : (t n : ℕ) (w0 : World) (ks : List Frame) (c : ℕ) (l : Log) (w : World) (s0 : State) (o : Object) → c ≤ bound → Since k code w0 w → object_at n w ≡ Some o → o.ty ≡ Record t → IsPlainType k (Record t) → has_controlled k (Record t) ≡ true → step ask code s0 ≡ moved l (Table.finalize_part code (parts_of code t) Scope (whole_spot n) t (Finalizing Scope n ∷ ks) (begin_finalization n w)) → Runs ask code (Sure k code w0) 1 1 s0 c (tells ks) (bind (finalize_object K Scope (record { number = n; ty = Record t }) c l w) (on_goes (closing K n)))
  unfolding picked opened_outcome
  scope_runs t n w0 ks c l w s0 o le fits at ty plain held first =
      subst (Runs ask code (Sure k code w0) 1 1 s0 c (tells ks)) (sym (ap (λ x. bind x (on_goes (closing K n))) (object_is Scope t n c l w o at) ∙ bind_add 0 (bind (parts_finalized Scope t n c l w) (ended n)) (on_goes (closing K n)) ∙ ap (add 0) (bind_bind (parts_finalized Scope t n c l w) (ended n) (on_goes (closing K n)))))
      (added ask code (Sure k code w0) 0 1 1 1 1 s0 c (tells ks) _ (omega arith) (omega arith)
      (parts_run Scope (λ y h. h) (λ r c1 l1 w1. bind (ended n r c1 l1 w1) (on_goes (closing K n))) t n w0 ks c l w s0 o le fits at ty plain held first closes))
    where
      closes : (b : Bool) (c1 : ℕ) (l1 : Log) (w1 : World) → Since k code w0 w1 → Runs ask code (Sure k code w0) 1 1 (tells (Finalizing Scope n ∷ ks) (Goes b) l1 w1) c1 (tells ks) (bind (ended n (Goes b) c1 l1 w1) (on_goes (closing K n)))
      closes b c1 l1 w1 fits1 =
          let v = end_finalization n w1 in
          let fits2 = since_end k code n w0 w1 fits1 in
          let x = closing_is k code K n b c1 l1 v fits2.0 in
          subst (λ y. Runs ask code (Sure k code w0) 1 1 (tells (Finalizing Scope n ∷ ks) (Goes b) l1 w1) c1 (tells ks) (add 0 y)) (sym x.1)
          (last_step ask code (Sure k code w0) 1 1 _ c1 (0 + x.0) (tells ks) (Goes b) l1 (with_end Scope n v) (omega arith) (tt, since_ended k code Scope n w0 v fits2) refl)

  -- both tables speak alike of controlled parts
  pub part_alike : (ty : Ty) → IsPlainType k ty → has_controlled k ty ≡ has_part_in code ty
  unfolding has_controlled of_record
  part_alike (Record t) plain = (setting.agrees default constants t plain).has
  part_alike Integer plain = refl
  part_alike Boolean plain = refl
  part_alike Count plain = refl
  part_alike Address plain = refl
  part_alike Handle plain = refl
  part_alike (Access a) plain = refl

  -- an object with a controlled part is finalized by its own type, where no pool closes then
  pub typed_runs : (cause : Cause) → ClosesNone cause → ((y : Option Way) → IsPassed cause y → IsSure y) → (o : Object) (w0 : World) (ks : List Frame) (c : ℕ) (l : Log) (w : World) (s0 : State) → c ≤ bound → Since k code w0 w → object_at o.number w ≡ Some o → IsPlainType k o.ty → has_part_in code o.ty ≡ true → step ask code s0 ≡ moved l (Table.finalize_typed code cause o.number o.ty ks w) → Runs ask code (Sure k code w0) 1 1 s0 c (tells ks) (finalize_object K cause (member_of o) c l w)
  unfolding member_of
  typed_runs cause closes_none sure o w0 ks c l w s0 le fits at plain part first = by o.ty refl plain part first
    where
      by : (ty : Ty) → o.ty ≡ ty → IsPlainType k ty → has_part_in code ty ≡ true → step ask code s0 ≡ moved l (Table.finalize_typed code cause o.number ty ks w) → Runs ask code (Sure k code w0) 1 1 s0 c (tells ks) (finalize_object K cause (record { number = o.number; ty = o.ty }) c l w)
      by (Record t) is plain1 part1 go = subst (λ ty. Runs ask code (Sure k code w0) 1 1 s0 c (tells ks) (finalize_object K cause (record { number = o.number; ty = ty }) c l w)) (sym is) (parted (parts_of code t) refl part1 go)
        where
          parted : (p : Parts) → parts_of code t ≡ p → has_part p ≡ true → step ask code s0 ≡ moved l (Table.finalize_object code p cause o.number t ks w) → Runs ask code (Sure k code w0) 1 1 s0 c (tells ks) (finalize_object K cause (record { number = o.number; ty = Record t }) c l w)
          parted PartsOf.Plain named has go1 = absurd (cc has)
          parted PartsOf.Within named has go1 = object_runs cause closes_none sure t o.number w0 ks c l w s0 o le fits at is plain1 (part_alike (Record t) plain1 ∙ part1) (go1 ∙ ap (λ p. moved l (Table.finalize_part code p cause (whole_spot o.number) t (Finalizing cause o.number ∷ ks) (begin_finalization o.number w))) (sym named))
          parted PartsOf.Controlled named has go1 = object_runs cause closes_none sure t o.number w0 ks c l w s0 o le fits at is plain1 (part_alike (Record t) plain1 ∙ part1) (go1 ∙ ap (λ p. moved l (Table.finalize_part code p cause (whole_spot o.number) t (Finalizing cause o.number ∷ ks) (begin_finalization o.number w))) (sym named))
      by Integer is plain1 part1 go = absurd (cc part1)
      by Boolean is plain1 part1 go = absurd (cc part1)
      by Count is plain1 part1 go = absurd (cc part1)
      by Address is plain1 part1 go = absurd (cc part1)
      by Handle is plain1 part1 go = absurd (cc part1)
      by (Access a) is plain1 part1 go = absurd (cc part1)

  -- a declared object
  pub declared_runs : (t n : ℕ) (w0 : World) (ks : List Frame) (c : ℕ) (l : Log) (w : World) (s0 : State) (o : Object) → c ≤ bound → Since k code w0 w → object_at n w ≡ Some o → o.ty ≡ Record t → IsPlainType k (Record t) → step ask code s0 ≡ moved l (Table.finalize_object code (parts_of code t) Scope n t ks w) → Runs ask code (Sure k code w0) 3 3 s0 c (tells ks) (finalize_as K n (Record t) c l w)
  unfolding opened_outcome opened_finalization
  declared_runs t n w0 ks c l w s0 o le fits at ty plain first = by (parts_of code t) refl first
    where
      has : has_controlled k (Record t) ≡ has_part (parts_of code t)
      has = (setting.agrees default constants t plain).has

      touched : has_controlled k (Record t) ≡ true → step ask code s0 ≡ moved l (Table.finalize_part code (parts_of code t) Scope (whole_spot n) t (Finalizing Scope n ∷ ks) (begin_finalization n w)) → Runs ask code (Sure k code w0) 3 3 s0 c (tells ks) (finalize_as K n (Record t) c l w)
      touched held go =
          subst (λ b. Runs ask code (Sure k code w0) 3 3 s0 c (tells ks) (bind (either b (finalize_object K Scope (record { number = n; ty = Record t })) (done false) c l w) (on_goes (closing K n)))) (sym held)
          (within ask code (Sure k code w0) 1 1 3 3 s0 c (tells ks) _ (omega arith) (omega arith) (scope_runs t n w0 ks c l w s0 o le fits at ty plain held go))

      by : (p : Parts) → parts_of code t ≡ p → step ask code s0 ≡ moved l (Table.finalize_object code p Scope n t ks w) → Runs ask code (Sure k code w0) 3 3 s0 c (tells ks) (finalize_as K n (Record t) c l w)
      by PartsOf.Plain is go = untouched_runs (Record t) n w0 ks c l w s0 (has ∙ ap has_part is) fits go
      by PartsOf.Within is go = touched (has ∙ ap has_part is) (go ∙ ap (λ p. moved l (Table.finalize_part code p Scope (whole_spot n) t (Finalizing Scope n ∷ ks) (begin_finalization n w))) (sym is))
      by PartsOf.Controlled is go = touched (has ∙ ap has_part is) (go ∙ ap (λ p. moved l (Table.finalize_part code p Scope (whole_spot n) t (Finalizing Scope n ∷ ks) (begin_finalization n w))) (sym is))
