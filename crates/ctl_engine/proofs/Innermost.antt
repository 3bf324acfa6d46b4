-- The innermost master, before an instruction in it.
use Rattle.std.proofs.Common.{◌≡◌, ℕ, List, [], ◌∷◌, ◌++◌, refl, ap, ◌∙◌, subst}
use Rattle.ctl_meaning.specs.World as W
use Rattle.ctl_meaning.specs.World.{World}
use Rattle.ctl_meaning.specs.Lists.{last_of, opened_lists}
use Rattle.ctl_code.specs.declared.kinds.Kind.{Kind}
use Rattle.ctl_code.specs.declared.kinds.Kind.TheVariants.{Operand, RecordValue, Block, Body, Default}
use Rattle.ctl_code.specs.declared.code.Code.{Code}
use Rattle.ctl_code.specs.States as T
use Rattle.ctl_code.specs.States.{Word, InMaster, AfterBlock, AfterProcedure, AfterFunction, AfterBody}
use Rattle.ctl_code.specs.Fits.{OwnsOne, Stands}
use Rattle.ctl_frames.specs.declared.frame.After.{After}
use Rattle.ctl_frames.specs.declared.frame.Frame.{Frame}
use Rattle.ctl_frames.specs.declared.frame.Handling.{Handling}
use Rattle.ctl_frames.specs.declared.frame.Frame.TheVariants as FrameOf
use Rattle.ctl_frames.specs.declared.frame.Master.{Master}
use Rattle.ctl_frames.specs.declared.frame.Owned.{Owned}
use Rattle.ctl_frames.specs.Masters.{Head, heads_of, first_display, display_from, AreMasters, newest_master}
use Rattle.ctl_engine.specs.Shows.{Wait, Kept, Holds}
use Rattle.ctl_engine.proofs.Left.{top_of}

-- where something stands, a master is being executed
pub inside_master : (code : Code) (stack : List Kind) (k : List T.Frame) (ops : List Word) → Stands code stack k ops → OwnsOne stack → (n : ℕ) × (handling : T.Handling) × (leads : T.After) × (waiting : List T.Frame) × (k ≡ InMaster n handling leads ∷ waiting)
inside_master code (Operand ty ∷ stack) k (x ∷ ops) stands owns = inside_master code stack k ops stands.1 owns
inside_master code (RecordValue ∷ stack) k (T.Cells v ∷ ops) stands owns = inside_master code stack k ops stands owns
inside_master code (Block slots ∷ stack) (InMaster n g (AfterBlock p) ∷ k) [] stands owns = (n, g, AfterBlock p, k, refl)
inside_master code (Body level slots number ∷ []) (InMaster n g (AfterProcedure copies p) ∷ k) [] stands owns = (n, g, (AfterProcedure copies p), k, refl)
inside_master code (Body level slots number ∷ []) (InMaster n g (AfterFunction given p) ∷ k) [] stands owns = (n, g, (AfterFunction given p), k, refl)
inside_master code (Body level slots number ∷ []) (InMaster n g AfterBody ∷ k) [] stands owns = (n, g, AfterBody, k, refl)
inside_master code (Default level number ∷ stack) k ops stands owns = absurd owns.1
inside_master code _ _ _ stands owns = elim stands [ ]

last_is : (d : List ℕ) (n : ℕ) → last_of (d ++ n ∷ []) ≡ n
unfolding opened_lists
last_is [] n = refl
last_is (x ∷ []) n = refl
last_is (x ∷ y ∷ d) n = last_is (y ∷ d) n

-- the last of what is seen is the newest master
last_seen : {m : Master} {ms : List Master} {hs : List Head} {ks : List W.Master} {owned : List Owned} → AreMasters (m ∷ ms) hs ks owned → last_of (first_display hs) ≡ m.number
last_seen (newest_master {m = m} {hs = hs} h o r) = ap (λ (d : List ℕ). last_of d) h.display ∙ last_is (display_from m.link hs) m.number

-- the innermost master, for the table and for the machine
pub record IsInnermost (e : Kept) (k : List T.Frame) (hs : List Head) : Type 0 where
  pub number : ℕ
  pub exceptions : T.Handling
  pub leads : T.After
  pub waiting : List T.Frame
  pub is : k ≡ InMaster number exceptions leads ∷ waiting
  pub handling : Handling
  pub after : After
  pub frames : List Frame
  pub master : Master
  pub others : List Master
  pub control : e.control ≡ FrameOf.InMaster handling after ∷ frames
  pub masters : e.masters ≡ master ∷ others
  pub last : last_of (first_display hs) ≡ master.number

pub innermost : (code : Code) (e : Kept) (stack : List Kind) (k : List T.Frame) (there ops : List Word) (w : World) → Stands code stack k there → OwnsOne stack → Holds code e k ops w → IsInnermost e k (heads_of w.activations)
innermost code e stack k there ops w stands owns h =
    let hs = heads_of w.activations in
    let i = inside_master code stack k there stands owns in
    let t = top_of (subst (λ (l : List T.Frame). Wait e.control e.masters hs e.owned l) i.4 h.waits) in
    record {
      number = i.0;
      exceptions = i.1;
      leads = i.2;
      waiting = i.3;
      is = i.4;
      handling = t.handling;
      after = t.after;
      frames = t.frames;
      master = t.master;
      others = t.others;
      control = t.control;
      masters = t.masters;
      last = last_seen (subst (λ (l : List Master). AreMasters l hs w.ledger.masters e.owned) t.masters h.masters);
    }
