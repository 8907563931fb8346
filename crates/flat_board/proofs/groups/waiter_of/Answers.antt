use Rattle.std.proofs.Common.{ap, sym, subst, ◌∙◌}
use Rattle.flat_board.specs.Words.{IsGroup, content, fold, waiter_of}
use Rattle.flat_board.proofs.Index.{waiter_told}
use Rattle.status_table.specs.Groups.{waiter_of as waiter_of_group}
use Rattle.flat_board.proofs.groups.waiter_of.Goals as goal

pub returns-in-Some : goal.returns-in-Some
returns-in-Some c = λ b kept.
    c.waiting.ensures
    ∙ ap (λ n. waiter_of (fold n) (content c.args.groups.now)) c.as_str.ensures
    ∙ waiter_told (content c.args.groups.now) b c.in-Some.name (subst IsGroup c.in-Some.is c.requires) kept
    ∙ ap (waiter_of_group b) (sym c.in-Some.is)
