use Rattle.std.proofs.Common.{◌++◌, string_bytes, ap, sym, ◌∙◌}
use Rattle.std.proofs.lemmas.Result.{err_from_is_err_and}
use Rattle.serde_json.specs.View.{view, members_view}
use Rattle.flow_reader.specs.Checked.{made, members_checked}
use Rattle.flow_reader.specs.Workflow.{job_at}
use Rattle.flow_reader.proofs.Lists.{made_begin, made_none, next_member, bad_member}
use Rattle.flow_reader.proofs.job.read_each.Goals as goal

pub loop-id-init : goal.loop-id-init
loop-id-init c = rw (c.empty-read.ensures, c.into_iter-id-iterator.ensures.into_iter_gives, c.iter-id-items.ensures.rest) (made_begin _)

pub loop-id-preserved : goal.loop-id-preserved
loop-id-preserved c =
    next_member job_at c.loop-id.read c.push.new.self (string_bytes c.in-Some.id.now) (view c.in-Some.json.now) (members_view c.next.new.self) _ c.in_ok-read_job_at.field-0
    (ap (λ es. made (λ xs. c.loop-id.read ++ xs) (members_checked job_at (members_view es))) (sym c.in-Some.ensures.steps) ∙ c.loop-id.invariant)
    (rw c.as_str.ensures.value at c.in_ok-read_job_at.ensures) c.in_ok-push.ensures.ok

pub returns-in_err-read_job_at : goal.returns-in_err-read_job_at
returns-in_err-read_job_at c =
    let p = err_from_is_err_and c.from_residual.result c.from_residual.ensures.1 in
    rw (p.1, p.2) (bad_member job_at c.loop-id.read (string_bytes c.in-Some.id.now) (view c.in-Some.json.now) (members_view c.next.new.self) _ c.in_err-read_job_at.field-0.0
    (ap (λ es. made (λ xs. c.loop-id.read ++ xs) (members_checked job_at (members_view es))) (sym c.in-Some.ensures.steps) ∙ c.loop-id.invariant)
    (rw c.as_str.ensures.value at c.in_err-read_job_at.ensures))

pub returns : goal.returns
returns c = made_none c.loop-id.read _ (ap (λ es. made (λ xs. c.loop-id.read ++ xs) (members_checked job_at (members_view es))) (sym c.in-None.ensures.steps.0) ∙ c.loop-id.invariant)
