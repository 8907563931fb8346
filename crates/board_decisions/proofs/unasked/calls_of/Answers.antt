use Rattle.std.proofs.Common.{rules, ◌≡◌, true}
use Rattle.board_decisions.proofs.OwnSteps.{calls_told}
use Rattle.board_decisions.proofs.unasked.calls_of.Goals as goal

pub returns : goal.returns
returns c =
    let known : c.args.has_own_env ≡ true = search rules in
    let own : c.is_own_env.result ≡ true = search rules in
    let asks : c.is_own_work.result ≡ true = search rules in
    λ run job outer. calls_told run job c.args.step.now _ (outer known) (λ d. c.is_own_env.ensures d own) (λ d. c.is_own_work.ensures d asks)
    c.called_under.ensures c.called_under-2.ensures c.called_under-3.ensures
