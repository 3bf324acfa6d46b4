-- The finalization of a group goes on only where no candidate is left.
use Rattle.std.proofs.Common.{◌≡◌, refl, sym, subst, ℕ, zero, suc, List, [], ◌∷◌, Bool, ◌||◌}
use Rattle.ctl_tree.specs.declared.event.Cause.{Cause}
use Rattle.ctl_tree.specs.declared.event.Cause.TheVariants.{Collection}
use Rattle.ctl_meaning.specs.World.{Member, Log, World}
use Rattle.ctl_meaning.specs.Members.{Group, OfSets, candidates_of}
use Rattle.ctl_meaning.specs.Outcome.{Goes, Leaves, Out, Gives, Stops, Cut, Act, add, bind, given, then_always, done, on_goes, ◌>>=◌, ◌>>◌}
use Rattle.ctl_meaning.specs.Names.{Tools}
use Rattle.ctl_meaning.specs.Finalization.{finalize_one, finalize_members, finalize_group}
use Rattle.ctl_meaning.specs.Masters.{finalize_sets}
use Rattle.ctl_meaning.specs.Emptied.{LeavesNone}

module _ (k : Tools) (g : Group) where
  adds : (n : ℕ) (o : Out Bool) → LeavesNone k.tables g o → LeavesNone k.tables g (add n o)
  unfolding add
  adds n (Gives (Goes b) t c l w) h = h
  adds n (Gives (Leaves y) t c l w) h = tt
  adds n (Stops s t l) h = tt
  adds n (Cut t c l) h = tt

  -- whatever comes before
  before : {A : Type 0} (o : Out A) (f : A → Act Bool) → ((a : A) (c : ℕ) (l : Log) (w : World) → LeavesNone k.tables g (f a c l w)) → LeavesNone k.tables g (bind o (on_goes f))
  unfolding bind on_goes given
  before (Gives (Goes a) t c l w) f h = adds t (f a c l w) (h a c l w)
  before (Gives (Leaves y) t c l w) f h = adds t (Gives (Leaves y) 0 c l w) tt
  before (Stops s t l) f h = tt
  before (Cut t c l) f h = tt

  one : (cause : Cause) (f : Bool → Act Bool) → ((b : Bool) (c : ℕ) (l : Log) (w : World) → LeavesNone k.tables g (f b c l w)) → (b : Bool) (c : ℕ) (l : Log) (w : World) (ms : List Member) → ms ≡ candidates_of k.tables g w → LeavesNone k.tables g (finalize_one k cause f b ms c l w)
  unfolding finalize_one ◌>>=◌ then_always done given
  one cause f h b c l w [] e = sym e
  one cause f h b c l w (m ∷ ms) e = before _ _ (λ i c1 l1 w1. before _ _ (λ d. h (b || d)))

  members : (cause : Cause) (n : ℕ) (b : Bool) (c : ℕ) (l : Log) (w : World) → LeavesNone k.tables g (finalize_members k cause g n b c l w)
  unfolding finalize_members
  members cause zero b c l w = tt
  members cause (suc n) b c l w = one cause (finalize_members k cause g n) (members cause n) b c l w (candidates_of k.tables g w) refl

  pub emptied : (cause : Cause) (c : ℕ) (l : Log) (w : World) → LeavesNone k.tables g (finalize_group k cause g c l w)
  unfolding finalize_group
  emptied cause c l w = members cause _ _ c l w

  pub sets_emptied : (sets : List ℕ) (c : ℕ) (l : Log) (w : World) → g ≡ OfSets sets → LeavesNone k.tables g (finalize_sets k sets c l w)
  unfolding finalize_sets ◌>>◌ then_always
  sets_emptied sets c l w e = before _ _ (λ a c1 l1 w1. subst (λ x. LeavesNone k.tables g (finalize_group k Collection x c1 l1 w1)) e (emptied Collection c1 l1 w1))
