-- Where a run was closed without success, or a job was skipped or cancelled in place of being opened, what brought it there is
-- named, and nothing else.
use Rattle.status_table.specs.Words.{IsPlan, NeedsPointBack, Plan, SoundPlan}
use Rattle.why_causes.proofs.ClosedRuns.{closed_for}
use Rattle.why_causes.proofs.SkippedJobs.{names_first, names_stop, waited_in_vain}
use Rattle.why_causes.specs.Endings.{EndingsAreNamed}

pub endings_are_named : ((p : Plan) → IsPlan p → SoundPlan p) → NeedsPointBack → EndingsAreNamed
endings_are_named sound numbers = record {
  runs = λ p es a r at result rules account is ended apart. closed_for p es a r at result rules (sound p rules) numbers account is ended apart;
  jobs = λ p es a j at rules account is skipped waits. names_first p es a j at rules (sound p rules) account is skipped waits;
  vain = λ p es a j at note rules account is noted fact. waited_in_vain p es a j at rules (sound p rules) account is note noted fact;
  cancelled = λ p es a j at rules account is cancelled. names_stop p es a j at rules (sound p rules) account is cancelled;
}
