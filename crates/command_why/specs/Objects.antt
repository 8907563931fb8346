-- Reasons as JSON: a line of a tree is one object, on one line. The keys of an object are in byte order.
use Rattle.std.specs.Prelude.{ℕ, ◌++◌, false, List, [], ◌∷◌, codes, decimal}
use Rattle.std.specs.List.{flat_map}
use Rattle.serde_json.specs.Data.{Data, Items, array, boolean, item, member, no_items, no_members, null, object, string}
use Rattle.json.specs.Print.{quoted}
use Rattle.serde_json.specs.Written.{compact_text, items_text}
use Rattle.plan_documents.specs.Parts.{integer_data, number_data, optional_data}
use Rattle.status_table.specs.Words.{Member, Outcome, ValueFault, value_fault_name}
use Rattle.why_causes.specs.Causes.{about, causes}
use Rattle.why_causes.specs.declared.question.Question.{Question}
use Rattle.why_causes.specs.declared.tree.Line.{Line}
use Rattle.why_facts.specs.declared.fact.JobFact.{JobFact}
use Rattle.why_facts.specs.declared.fact.MemberFact.{MemberFact}
use Rattle.why_facts.specs.declared.fact.StepFact.{StepFact}
use Rattle.why_facts.specs.declared.fact.StepText.{StepText}
use Rattle.why_facts.specs.declared.fact.StopCause.{StopCause}
use Rattle.why_facts.specs.declared.fact.Teller.{Teller}
use Rattle.why_notes.specs.Account.{Account}
use Rattle.command_why.specs.Summary.{summary}
use Rattle.command_why.specs.Words.{question_name, said}
use Rattle.command_why.specs.declared.summary.Phase.{Phase}
use Rattle.command_why.specs.declared.summary.Reason.{Reason}
use Rattle.command_why.specs.declared.summary.Summary.{Summary}

-- ---- parts

-- what is asked about
abbrev pub part_data : Question → Data
part_data (Question.Run r) = object (member (codes "kind") (string (codes "run")) (member (codes "run") (number_data r) no_members))
part_data (Question.Job j) = object (member (codes "job") (number_data j) (member (codes "kind") (string (codes "job")) no_members))
part_data (Question.Leg l) = object (member (codes "kind") (string (codes "leg")) (member (codes "leg") (number_data l) no_members))
part_data (Question.Step l s) =
    object (member (codes "kind") (string (codes "step")) (member (codes "leg") (number_data l) (member (codes "step") (number_data s) no_members)))
part_data (Question.Stop (Member.Run r)) =
    object (member (codes "kind") (string (codes "stop")) (member (codes "run") (number_data r) no_members))
part_data (Question.Stop (Member.Leg l)) =
    object (member (codes "kind") (string (codes "stop")) (member (codes "leg") (number_data l) no_members))

-- a run or a leg
abbrev pub who_data : Member → Data
who_data who = part_data (about who)

-- ---- what made it so

-- an object that has its kind alone
abbrev pub kind_data : List ℕ → Data
kind_data kind = object (member (codes "kind") (string kind) no_members)

-- one that has another part, whose key is the first
abbrev pub kind_with : List ℕ → Data → List ℕ → Data
kind_with key part kind = object (member key part (member (codes "kind") (string kind) no_members))

-- why a leg is to stop
abbrev pub cause_data : StopCause → Data
cause_data StopCause.Told = kind_data (codes "told")
cause_data (StopCause.FailFast l) =
    object (member (codes "kind") (string (codes "fail-fast")) (member (codes "leg") (number_data l) no_members))
cause_data StopCause.RunTold = kind_data (codes "run-told")

-- what became of a run or a leg
abbrev pub member_fact_data : MemberFact → Data
member_fact_data MemberFact.Admitted = kind_data (codes "admitted")
member_fact_data (MemberFact.Waits holds) = kind_with (codes "behind") (who_data holds) (codes "waits")
member_fact_data (MemberFact.Follows before) = kind_with (codes "after") (who_data before) (codes "follows")
member_fact_data (MemberFact.Displaced by) = kind_with (codes "by") (who_data by) (codes "displaced")
member_fact_data MemberFact.OwnRun = kind_data (codes "own-run")
member_fact_data (MemberFact.NoGroup fault) = kind_with (codes "error") (string (value_fault_name fault)) (codes "no-group")
member_fact_data (MemberFact.Closed result) = kind_data (codes "closed")
member_fact_data MemberFact.Taken = kind_data (codes "taken")
member_fact_data (MemberFact.Finished result) = kind_data (codes "finished")
member_fact_data (MemberFact.Stopped cause) = kind_with (codes "cause") (cause_data cause) (codes "stopped")

-- what became of a job
abbrev pub job_fact_data : JobFact → Data
job_fact_data JobFact.Opened = kind_data (codes "opened")
job_fact_data JobFact.RunStopped = kind_data (codes "run-stopped")
job_fact_data JobFact.Unsuccessful = kind_data (codes "unsuccessful")
job_fact_data JobFact.Untrue = kind_data (codes "untrue")
job_fact_data (JobFact.Faulted fault) = kind_with (codes "error") (string (value_fault_name fault)) (codes "faulted")

-- a text of a step
abbrev pub step_text_data : StepText → Data
step_text_data StepText.FlowEnv = string (codes "flow-env")
step_text_data StepText.JobEnv = string (codes "job-env")
step_text_data StepText.StepEnv = string (codes "step-env")
step_text_data StepText.Condition = string (codes "condition")
step_text_data StepText.Work = string (codes "work")

-- a text of a step has no value
abbrev pub faulted_data : StepText → ValueFault → Data
faulted_data text fault =
    object (member (codes "error") (string (value_fault_name fault)) (member (codes "kind") (string (codes "faulted"))
    (member (codes "text") (step_text_data text) no_members)))

-- what became of a step
abbrev pub step_fact_data : StepFact → Data
step_fact_data (StepFact.Exited code) = kind_with (codes "code") (integer_data code) (codes "exited")
step_fact_data StepFact.NotStarted = kind_data (codes "not-started")
step_fact_data StepFact.BadOutput = kind_data (codes "bad-output")
step_fact_data (StepFact.Stopping cause) = kind_with (codes "cause") (cause_data cause) (codes "stopping")
step_fact_data (StepFact.AfterFailure s) =
    object (member (codes "kind") (string (codes "after-failure")) (member (codes "step") (number_data s) no_members))
step_fact_data StepFact.Untrue = kind_data (codes "untrue")
step_fact_data (StepFact.Faulted text fault) = faulted_data text fault

-- who told to stop
abbrev pub teller_data : Teller → Data
teller_data Teller.Cancel = kind_data (codes "cancel")
teller_data (Teller.Newer who) = kind_with (codes "by") (who_data who) (codes "newer")

abbrev pub reason_data : Reason → Data
reason_data Reason.Nothing = null
reason_data (Reason.Member fact) = member_fact_data fact
reason_data (Reason.Job fact) = job_fact_data fact
reason_data Reason.LegsEnded = kind_data (codes "legs-ended")
reason_data (Reason.Step fact) = step_fact_data fact
reason_data (Reason.Stop teller) = teller_data teller

-- ---- lines

-- the state of a run, a job, a leg or a step
abbrev pub phase_data : Phase → Data
phase_data Phase.Queued = string (codes "queued")
phase_data Phase.Waiting = string (codes "waiting")
phase_data Phase.InProgress = string (codes "in_progress")
phase_data (Phase.Completed Outcome.Success) = string (codes "success")
phase_data (Phase.Completed Outcome.Failure) = string (codes "failure")
phase_data (Phase.Completed Outcome.Cancelled) = string (codes "cancelled")
phase_data (Phase.Completed Outcome.Skipped) = string (codes "skipped")
phase_data Phase.Unknown = null

-- parts, one after the other
abbrev pub parts_data : List Question → Items
parts_data [] = no_items
parts_data (q ∷ qs) = item (part_data q) (parts_data qs)

-- The object of a line of which that is known: whether it was told above, what made it so, its depth, its name, and the
-- English line.
abbrev pub line_data : Line → List Question → Summary → List ℕ → List ℕ → Data
line_data line because known name text =
    object (member (codes "above") (boolean line.above) (member (codes "because") (array (parts_data because))
    (member (codes "depth") (number_data line.depth) (member (codes "fact") (reason_data known.reason)
    (member (codes "line") (optional_data number_data known.line) (member (codes "name") (string name)
    (member (codes "part") (part_data line.question) (member (codes "state") (phase_data known.phase)
    (member (codes "text") (string text) (member (codes "tolerated") (boolean known.tolerated)
    (member (codes "version") (number_data 1) no_members)))))))))))

-- The same object, piece by piece.
abbrev pub object_text : Line → List Question → Summary → List ℕ → List ℕ → List ℕ
object_text line because known name text =
    codes "{\"above\":" ++ (compact_text (boolean line.above) ++ (codes ",\"because\":[" ++ (items_text false (parts_data because)
    ++ (codes ",\"depth\":" ++ (decimal line.depth ++ (codes ",\"fact\":" ++ (compact_text (reason_data known.reason)
    ++ (codes ",\"line\":" ++ (compact_text (optional_data number_data known.line) ++ (codes ",\"name\":" ++ (quoted name
    ++ (codes ",\"part\":" ++ (compact_text (part_data line.question) ++ (codes ",\"state\":" ++ (compact_text (phase_data known.phase)
    ++ (codes ",\"text\":" ++ (quoted text ++ (codes ",\"tolerated\":" ++ (compact_text (boolean known.tolerated)
    ++ (codes ",\"version\":" ++ (decimal 1 ++ codes "}")))))))))))))))))))))

-- a line of the tree, without its indent
abbrev pub plain_words : Account → Line → List ℕ
plain_words a line = question_name a line.question ++ said a line.question line.above

abbrev pub line_document : Account → Line → Data
line_document a line =
    line_data line (causes a line.question) (summary a line.question) (question_name a line.question) (plain_words a line)

-- an object, and the end of its line
unfoldable pub line_json : Account → Line → List ℕ
line_json a line = compact_text (line_document a line) ++ codes "\n"

-- the lines of a tree
abbrev pub tree_json : Account → List Line → List ℕ
tree_json a lines = flat_map (line_json a) lines

-- a part by itself
abbrev pub part_json : Account → Question → List ℕ
part_json a question = line_json a (record { depth = 0; question = question; above = false })

abbrev pub each_json : Account → List Question → List ℕ
each_json a questions = flat_map (part_json a) questions
