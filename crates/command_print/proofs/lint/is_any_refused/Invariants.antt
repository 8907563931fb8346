use Rattle.std.proofs.Common.{◌≡◌, drop}
use Rattle.std.specs.List.{list_any}
use Rattle.command_print.proofs.lint.is_any_refused.Given as goal

-- one is refused exactly where one of those that are left is
abbrev pub invariant-loop-told : goal.invariant-loop-told
invariant-loop-told l = list_any (λ told. told.0) (drop l.told-index l.tolds) ≡ list_any (λ told. told.0) l.tolds
