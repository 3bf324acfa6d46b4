use Rattle.std.proofs.Common.{refl}
use Rattle.ctl_code.proofs.layouts.is_laid.Goals as goal

pub returns-then-do_positions_rise : goal.returns-then-do_positions_rise
returns-then-do_positions_rise c = (
  λ t. record { operations = c.if-not-are_in_scope.ensures.0 refl; types = c.if-not-are_begun_by.ensures.0 refl; defaults = c.if-not-are_evaluated.ensures.0 refl; units = c.if-not-has_units.ensures.0 refl; storage = c.if-not-is_storage_in_scope.ensures.0 refl; operations_within = c.if-not-are_operations_within.ensures.0 refl; types_within = c.if-not-are_initials_within.ensures.0 refl; rise = c.if-do_positions_rise.ensures.0 refl; controlled = c.are_told_apart.ensures.0 t },
  λ laid. c.are_told_apart.ensures.1 laid.controlled,
)
