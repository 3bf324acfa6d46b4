-- The statements in an if statement are less deep than it.
use Rattle.std.proofs.Common.{◌≡◌, refl, ℕ, List, ◌<◌, rules}
use denote.Param.Weighed.{most}
use Rattle.ctl_tree.specs.declared.span.Span.{Span}
use Rattle.ctl_syntax.specs.declared.name.Identifier.{Identifier}
use Rattle.ctl_syntax.specs.declared.item.Branch.{Branch}
use Rattle.ctl_syntax.specs.declared.item.Statement.{Statement, the_lemmas}
use Rattle.ctl_syntax.specs.declared.item.Statement.TheVariants as s
use Rattle.ctl_syntax.specs.contracts.name.Identifier.{the_row}
use Rattle.ctl_syntax.proofs.name.Identifier.TheLaws.{the_row_laws}
use Rattle.ctl_syntax.proofs.item.Statement.TheLaws.{the_size}

abbrev pub deepness : Statement Identifier Identifier → ℕ
deepness x = the_size the_row the_row the_row_laws the_row_laws x

abbrev pub depth_of_branch : Branch (Statement Identifier Identifier) Identifier → ℕ
depth_of_branch b = most (λ y. the_size the_row the_row the_row_laws the_row_laws y) b.statements

abbrev pub deepest_of_branches : List (Branch (Statement Identifier Identifier) Identifier) → ℕ
deepest_of_branches bs = most (λ (b : Branch (Statement Identifier Identifier) Identifier). depth_of_branch b) bs

first_in : (x : Statement Identifier Identifier) (p : Span) (b : Branch (Statement Identifier Identifier) Identifier) (bs : List (Branch (Statement Identifier Identifier) Identifier)) (others : List (Statement Identifier Identifier)) → x ≡ s.If p b bs others → most (λ y. the_size the_row the_row the_row_laws the_row_laws y) b.statements < the_size the_row the_row the_row_laws the_row_laws x
first_in x p b bs others is = search (rules, the_lemmas)

-- the statements behind the first condition
pub first_below : (p : Span) (b : Branch (Statement Identifier Identifier) Identifier) (bs : List (Branch (Statement Identifier Identifier) Identifier)) (others : List (Statement Identifier Identifier)) → most (λ y. the_size the_row the_row the_row_laws the_row_laws y) b.statements < the_size the_row the_row the_row_laws the_row_laws (s.If p b bs others)
first_below p b bs others = first_in (s.If p b bs others) p b bs others refl

more_in : (x : Statement Identifier Identifier) (p : Span) (b : Branch (Statement Identifier Identifier) Identifier) (bs cs : List (Branch (Statement Identifier Identifier) Identifier)) (others : List (Statement Identifier Identifier)) → x ≡ s.If p b bs others → cs ≡ bs → deepest_of_branches cs < the_size the_row the_row the_row_laws the_row_laws x
more_in x p b bs cs others is same = search (rules, the_lemmas)

-- the statements behind the further conditions
pub more_below : (p : Span) (b : Branch (Statement Identifier Identifier) Identifier) (bs : List (Branch (Statement Identifier Identifier) Identifier)) (others : List (Statement Identifier Identifier)) (cs : List (Branch (Statement Identifier Identifier) Identifier)) → cs ≡ bs → deepest_of_branches cs < the_size the_row the_row the_row_laws the_row_laws (s.If p b bs others)
more_below p b bs others cs same = more_in (s.If p b bs others) p b bs cs others refl same

others_in : (x : Statement Identifier Identifier) (p : Span) (b : Branch (Statement Identifier Identifier) Identifier) (bs : List (Branch (Statement Identifier Identifier) Identifier)) (others xs : List (Statement Identifier Identifier)) → x ≡ s.If p b bs others → xs ≡ others → most (λ y. the_size the_row the_row the_row_laws the_row_laws y) xs < the_size the_row the_row the_row_laws the_row_laws x
others_in x p b bs others xs is same = search (rules, the_lemmas)

-- the statements behind the last condition
pub others_below : (p : Span) (b : Branch (Statement Identifier Identifier) Identifier) (bs : List (Branch (Statement Identifier Identifier) Identifier)) (others xs : List (Statement Identifier Identifier)) → xs ≡ others → most (λ y. the_size the_row the_row the_row_laws the_row_laws y) xs < the_size the_row the_row the_row_laws the_row_laws (s.If p b bs others)
others_below p b bs others xs same = others_in (s.If p b bs others) p b bs others xs refl same
