use Rattle.std.proofs.Common.{◌≡◌, ℕ, sym, ap, subst, ◌∙◌}
use Rattle.std.specs.Prelude.{nat_eq}
use Rattle.std.specs.Map.{lookup}
use Rattle.std.specs.FinMap.{get, insert}
use Rattle.number_map.specs.Newest.{StandsApart, all_of}
use Rattle.number_map.proofs.Tables.{map_of}
use Rattle.number_map.proofs.Apart.{filed, put_apart, still_apart}
use Rattle.number_map.proofs.map.NumberMap.put_new.Goals as goal

pub invariant_of-self : goal.invariant_of-self
invariant_of-self g c =
    let n = c.args.number in
    let a = c.self.inside.newest in
    let es = c.self.inside.entries.entries in
    let fs = c.file.new.entries.entries in
    let same : (q : ℕ) → lookup (nat_eq q) fs ≡ lookup (nat_eq q) (all_of a es) =
    λ q. filed es fs c.in-Entry.former c.in-Entry.kept c.file.ensures.values q ∙ ap (λ b. lookup (nat_eq q) (all_of b es)) c.in-Entry.ensures.value in
    subst (λ b. StandsApart b fs) (sym c.replace.ensures.after) (still_apart a es fs n c.args.value same (ap (λ m. get m.values n) c.self.view_is ∙ c.requires.new))

pub invariant_of-self-in-Nothing : goal.invariant_of-self-in-Nothing
invariant_of-self-in-Nothing g c =
    let n = c.args.number in
    let a = c.self.inside.newest in
    let es = c.self.inside.entries.entries in
    let same : (q : ℕ) → lookup (nat_eq q) es ≡ lookup (nat_eq q) (all_of a es) = λ q. ap (λ b. lookup (nat_eq q) (all_of b es)) c.in-Nothing.ensures.value in
    subst (λ b. StandsApart b es) (sym c.replace.ensures.after) (still_apart a es es n c.args.value same (ap (λ m. get m.values n) c.self.view_is ∙ c.requires.new))

pub returns-in-Entry-clause-values : goal.returns-in-Entry-clause-values
returns-in-Entry-clause-values g c =
    let n = c.args.number in
    let a = c.self.inside.newest in
    let es = c.self.inside.entries.entries in
    let fs = c.file.new.entries.entries in
    let same : (q : ℕ) → lookup (nat_eq q) fs ≡ lookup (nat_eq q) (all_of a es) =
    λ q. filed es fs c.in-Entry.former c.in-Entry.kept c.file.ensures.values q ∙ ap (λ b. lookup (nat_eq q) (all_of b es)) c.in-Entry.ensures.value in
    ap (λ b. map_of (all_of b fs)) c.replace.ensures.after ∙ put_apart a es fs n c.args.value same ∙ ap (λ m. insert m.values n c.args.value) c.self.view_is
