use Rattle.command_why.proofs.JobParts.{jobs_left}
use Rattle.command_why.proofs.parts.add_jobs.Goals as goal

pub loop-number-preserved : goal.loop-number-preserved
loop-number-preserved c =
    jobs_left c.args.jobs.now c.loop-number.number c.loop-number.out.items c.push.new.self.items _ c.loop-number-test.true
    c.in_ok-push.ensures.items c.loop-number.invariant
