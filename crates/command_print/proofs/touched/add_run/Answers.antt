use Rattle.plan_text.specs.BoardText.{run_line}
use Rattle.plan_text.specs.Changes.{IsSameRun, TellsJobs, ToldUnless}
use Rattle.command_print.proofs.ChangeLemmas.{told_both}
use Rattle.command_print.proofs.touched.add_run.Goals as goal

pub returns : goal.returns
returns c =
    let was = c.args.was.now in
    let run = c.args.run.now in
    told_both (ToldUnless (IsSameRun was run) (run_line c.args.span.run run)) (TellsJobs c.args.span.first was.jobs run.jobs)
    c.args.text.now c.add_run_line.new.text c.add_jobs.new.text c.add_jobs.result c.in_ok-add_run_line.ensures c.add_jobs.ensures
