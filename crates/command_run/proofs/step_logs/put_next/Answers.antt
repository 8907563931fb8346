use Rattle.std.proofs.Common.{ℕ, List, sym, subst}
use Rattle.command_run.specs.StepLogs.{PutsNext}
use Rattle.command_run.proofs.LogTexts.{next_handed, next_stopped}
use Rattle.command_run.proofs.step_logs.put_next.Goals as goal

pub returns-in-Some : goal.returns-in-Some
returns-in-Some g c =
    subst (λ (next : List (List ℕ)).
    PutsNext c.args.given.now c.args.log.now c.put_plain.new.log next (g.O.Sink.seen c.args.out.now) (g.O.Sink.seen c.put_plain.new.out) c.put_plain.result)
    (sym c.in-Some.ensures.line) c.put_plain.ensures

pub returns-in_err-add_lines : goal.returns-in_err-add_lines
returns-in_err-add_lines g c = next_stopped _ c.args.log.now c.add_lines.new.self _ _ _ c.from_residual.ensures.0

pub returns : goal.returns
returns g c = next_handed _ c.args.log.now c.add_lines.new.self c.hand_on.new.log _ _ _ c.hand_on.result c.in_ok-add_lines.ensures c.hand_on.ensures
