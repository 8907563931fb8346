use Rattle.std.proofs.Common.{◌∙◌, List, subst, sym, ap}
use Rattle.debugger.specs.declared.breaks.Break.{Break}
use Rattle.debugger.specs.Breaks.{AddsAlone, is_set}
use Rattle.debugger.proofs.Together.{adds-last, adds-set}
use Rattle.debugger.proofs.breaks.set.Goals as goal

pub returns-then-is_set-clause-alone : goal.returns-then-is_set-clause-alone
returns-then-is_set-clause-alone c =
    adds-set c.args.added c.args.breaks.now.items (ap (is_set c.args.added) (sym c.as_slice.ensures.value) ∙ sym c.is_set.ensures ∙ c.if-is_set.true)

pub returns-clause-alone : goal.returns-clause-alone
returns-clause-alone c =
    subst (λ (bs : List Break). AddsAlone c.args.added c.args.breaks.now.items bs) (sym c.in_ok-push.ensures.items) (adds-last c.args.added c.args.breaks.now.items)
