use Rattle.std.proofs.Common.{◌≡◌, ◌+◌, ℕ, [], length, string_bytes, append-nil, ap, sym, subst, arith}
use Rattle.plan_text.specs.Changes.{TellsJob, TellsJobs, after_job}
use Rattle.command_print.proofs.ChangeLemmas.{at_place, told_all, told_next}
use Rattle.command_print.proofs.LegTexts.{job-alone, legs-at}
use Rattle.command_print.proofs.touched.add_job_lines.Goals as goal

pub loop-place-init : goal.loop-place-init
loop-place-init c =
    let first = c.args.first in
    let here : first.0 + 0 ≡ first.0 = omega arith in (
      first.1,
      ([], λ later told. subst (λ (n : ℕ). TellsJobs (n, first.1) c.args.before.now c.args.jobs.now later) here told, sym (append-nil (string_bytes c.args.text.now))),
    )

pub loop-place-preserved : goal.loop-place-preserved
loop-place-preserved c =
    let first = c.args.first in
    let before = c.args.before.now in
    let jobs = c.args.jobs.now in
    let place = c.loop-place.place in
    let kept = c.loop-place.invariant in
    let seen = c.in-Some.ensures.lookup in
    let was = c.in-Some.was.now in
    let job = c.index-jobs-place.result in
    let within = c.loop-place-test.true in
    let next : first.0 + (place + 1) ≡ first.0 + place + 1 = omega arith in
    let same = legs-at jobs before place job was c.requires
    (at_place jobs place job within c.index-jobs-place.is)
    (at_place before place was seen.3.0 seen.1) in (
      kept.0 + length job.legs,
      told_next after_job TellsJob first before jobs c.args.text.now (first.0 + place, kept.0) place was job seen.3.0 seen.1 within c.index-jobs-place.is
          (first.0 + (place + 1), kept.0 + length job.legs) c.loop-place.text c.add_job_line.new.text (ap (λ (n : ℕ). (n, kept.0 + length job.legs)) next) kept.1
          (job-alone (first.0 + place, kept.0) c.in_ok-after_all.field-0 was job c.loop-place.text c.add_job_line.new.text c.in_ok-after_all.ensures same c.in_ok-add_job_line.ensures),
    )

pub returns : goal.returns
returns c =
    let kept = c.loop-place.invariant in
    told_all after_job TellsJob c.args.first c.args.before.now c.args.jobs.now c.args.text.now (c.args.first.0 + c.loop-place.place, kept.0) c.loop-place.place
    c.loop-place.text c.loop-place-test.false kept.1
