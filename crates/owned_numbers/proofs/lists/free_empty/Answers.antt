use Rattle.std.proofs.Common.{sym, ap, ◌∙◌}
use borrow.Author.Tests.{eqb-true}
use Rattle.owned_numbers.specs.Lists.{Lists, item_at}
use Rattle.owned_numbers.proofs.Items.{freed, nothing_in}
use Rattle.owned_numbers.proofs.lists.free_empty.Goals as goal

pub returns-then-is_empty : goal.returns-then-is_empty
returns-then-is_empty c = λ q j. ap (λ (m : Lists). item_at m q j) c.remove.ensures.values ∙ freed c.args.lists.now.values c.args.owner c.in-Some.list.now (sym c.in-Some.ensures) (nothing_in c.in-Some.list.now.items (sym c.in-Some.list.now.ok.0 ∙ eqb-true c.in-Some.list.now.len 0 (sym c.is_empty.ensures ∙ c.if-is_empty.true))) q j
