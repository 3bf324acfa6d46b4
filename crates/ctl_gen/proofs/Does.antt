-- What it means that instructions do what a statement means, wherever they stand.
use Rattle.std.proofs.Common.{◌≡◌, ℕ, ◌+◌, ◌≤◌, List, Bool, true, length}
use Rattle.std.specs.Prelude.{◌&&◌}
use Rattle.ctl_program.specs.declared.types.RecordType.{RecordType}
use Rattle.ctl_meaning.specs.World.{Log, World}
use Rattle.ctl_meaning.specs.Choice.{Ask}
use Rattle.ctl_meaning.specs.Outcome.{Act, Done}
use Rattle.ctl_meaning.specs.Types.{Tables}
use Rattle.ctl_code.specs.declared.code.Code.{Code}
use Rattle.ctl_code.specs.States.{Word, Frame}
use Rattle.ctl_code.specs.Table.{caught_in}
use Rattle.ctl_layout.specs.Around.{Line, Around, Site, among}
use Rattle.ctl_layout.proofs.Extensions.{both_true}
use Rattle.ctl_gen.proofs.Place.{Laid}
use Rattle.ctl_gen.proofs.Worlds.{Since, Kept}
use Rattle.ctl_gen.proofs.Setting.{Sees}
use Rattle.ctl_gen.proofs.Follow.{Runs, at, arrives, lands}

-- this version runs it among these record types, inside so many masters
abbrev pub IsRunIn : List RecordType → (Site → Bool) → Type 0
IsRunIn records runs = (masters : ℕ) × (runs (among records masters) ≡ true)

-- of two that are run together each one is
pub both_run : (records : List RecordType) (f g : Site → Bool) → IsRunIn records (λ site. f site && g site) → IsRunIn records f × IsRunIn records g
both_run records f g h = let each = both_true (f (among records h.0)) (g (among records h.0)) h.1 in ((h.0, each.0), (h.0, each.1))

-- while no more than the bound is on the clock, in the worlds since an earlier one in which this display was seen, inside the handler of
-- the exception that the control says; with at most so many steps that no tick pays
abbrev pub DoesIn : ℕ → Ask → Tables → Code → ℕ → (Around → List Line) → (List ℕ → ℕ → Act Done) → Type 0
DoesIn b ask k code bound x act = (a : Around) (w0 : World) (d : List ℕ) (place : ℕ) (ks : List Frame) (ops : List Word) (c : ℕ) (l : Log) (w : World) → c ≤ bound → Since k code w0 w → Sees d a.stack w0 → Laid code place (x a) → Runs ask code (Kept k code w0) b b (at d place ks ops l w) c (arrives (lands a place) d (place + length (x a)) ks ops) (act d (caught_in ks) c l w)

abbrev pub Does : Ask → Tables → Code → ℕ → (Around → List Line) → (List ℕ → ℕ → Act Done) → Type 0
Does = DoesIn 0
