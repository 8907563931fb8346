use Rattle.std.proofs.Common.{◌≡◌, ◌+◌, ◌≤◌, length, rules}
use Rattle.board_settled.specs.Words.{RunState, run_result, run_seen}
use Rattle.board_settled.proofs.Runs.{size_job, stands_job, run_fails, one_more_job, next_number, run_comes, only_closed, last_number}
use Rattle.board_settled.proofs.run.is_run_settled.Goals as goal

pub is_job_settled-requires-clause-stands : goal.is_job_settled-requires-clause-stands
is_job_settled-requires-clause-stands g c κs within =
    stands_job c.requires c.needs_point_back.ensures c.in-Some.ensures c.saturating_sub-first_job.result c.saturating_sub-first_job.ensures

pub is_job_settled-requires-clause-size : goal.is_job_settled-requires-clause-size
is_job_settled-requires-clause-size g c κs within = size_job c.requires c.needs_point_back.ensures c.in-Some.ensures

pub returns-then-not-branch : goal.returns-then-not-branch
returns-then-not-branch g c = λ answers are.
    run_fails c.requires c.needs_point_back.ensures answers c.args.first c.in-Some.ensures
    c.saturating_sub-first_job.result c.saturating_sub-first_job.ensures c.loop-place.next c.loop-place.invariant.number (c.loop-place.invariant.jobs answers are)
    c.in_ok-is_job_settled.field-0 (λ before sees. c.in_ok-is_job_settled.ensures answers are before sees) c.if-not-branch.true

pub loop-place-preserved : goal.loop-place-preserved
loop-place-preserved g c =
    let more : c.in-Some-checked_add.more ≡ c.loop-place.next + length c.in-Some.job.job.now.legs = search rules in
    record {
      number = next_number c.requires c.needs_point_back.ensures c.in-Some.ensures c.args.first c.loop-place.next c.loop-place.invariant.number c.in-Some-checked_add.more more;
      jobs = λ answers are.
          one_more_job c.requires c.needs_point_back.ensures answers c.args.first c.in-Some.ensures
          c.saturating_sub-first_job.result c.saturating_sub-first_job.ensures c.loop-place.next c.loop-place.invariant.number (c.loop-place.invariant.jobs answers are)
          c.in_ok-is_job_settled.field-0 (λ before sees. c.in_ok-is_job_settled.ensures answers are before sees) c.if-not-branch.false;
    }

pub returns-then-ne : goal.returns-then-ne
returns-then-ne g c = λ answers are settled.
    let through : length c.args.at.now.run.now.jobs ≤ c.loop-place.place = search rules in
    let differs : c.args.at.now.run.now.state ≡ RunState.Closed (run_result (run_seen c.args.at.now).run) → ⊥ = search rules in
    differs (only_closed c.requires c.needs_point_back.ensures answers c.args.first c.loop-place.place through (c.loop-place.invariant.jobs answers are) settled)

pub returns : goal.returns
returns g c = λ answers are.
    let through : length c.args.at.now.run.now.jobs ≤ c.loop-place.place = search rules in
    let is : c.args.at.now.run.now.state ≡ RunState.Closed (run_result (run_seen c.args.at.now).run) = search rules in (
      run_comes c.requires c.needs_point_back.ensures answers c.args.first c.loop-place.place through (c.loop-place.invariant.jobs answers are) is,
      last_number c.requires c.needs_point_back.ensures c.loop-place.place through c.args.first c.loop-place.next c.loop-place.invariant.number,
    )
