use Rattle.std.proofs.Common.{◌≡◌, true, false, rules, sym}
use Rattle.board_decisions.specs.Seen.{job_seen}
use Rattle.board_decisions.proofs.Succeeded.{all_succeeded}
use Rattle.board_decisions.proofs.ancestors.job_status_kept.Goals as goal

pub returns-then-not-at : goal.returns-then-not-at
returns-then-not-at c =
    let kept : c.args.succeeded ≡ true = search rules in
    let going : (job_seen c.args.at.now).run.stop ≡ false = search rules in
    sym (all_succeeded c.args.first (job_seen c.args.at.now) going (c.requires.kept kept))
