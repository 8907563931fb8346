-- Whether an object has jobs.
use Rattle.std.proofs.Common.{◌≡◌, ◌==◌, List, [], ◌∷◌, String, Global, length, refl, true, false, arith}
use Rattle.std.proofs.lemmas.Grind.{common_steps}
use Rattle.serde_json.specs.View.{members_view}
use Rattle.serde_json.specs.declared.value.Value.{Value}
use Rattle.flow_reader.specs.Checked.{bad, members_checked}
use Rattle.flow_reader.specs.Workflow.{job_at, some_jobs}
use Rattle.flow_reader.specs.declared.fault.FlowFault.TheVariants.{WrongShape}

pub no_job : (es : List (String Global × Value)) → (length es == 0) ≡ true → some_jobs (members_view es) ≡ bad (WrongShape [])
unfolding some_jobs
no_job [] h = refl
no_job (e ∷ es) h = absurd (grind (arith, common_steps))

pub a_job : (es : List (String Global × Value)) → (length es == 0) ≡ false → some_jobs (members_view es) ≡ members_checked job_at (members_view es)
unfolding some_jobs
a_job [] h = absurd (cc)
a_job (e ∷ es) h = refl
