-- All that may be asked about: each run, job, leg and step, and that a run or a leg was told to stop.
use Rattle.std.specs.Prelude.{ℕ, suc, ◌++◌, List, [], ◌∷◌, Option, Some, None}
use Rattle.status_table.specs.Words.{LegAt, Member, StepPlan, leg_at}
use Rattle.why_causes.specs.declared.question.Question.{Question}
use Rattle.why_facts.specs.declared.notes.JobNotes.{JobNotes}
use Rattle.why_facts.specs.declared.notes.LegNotes.{LegNotes}
use Rattle.why_facts.specs.declared.notes.RunNotes.{RunNotes}
use Rattle.why_facts.specs.declared.notes.StopNote.{StopNote}
use Rattle.why_notes.specs.Account.{Account}

-- that a run or a leg was told to stop, if it was
abbrev pub stop_part : Member → Option StopNote → List Question
stop_part who None = []
stop_part who (Some note) = Question.Stop who ∷ []

-- a run with that number
abbrev pub run_part : ℕ → RunNotes → List Question
run_part r run = Question.Run r ∷ stop_part (Member.Run r) run.stop

-- runs, of which the first has this number
abbrev pub run_parts : ℕ → List RunNotes → List Question
run_parts r [] = []
run_parts r (run ∷ runs) = run_part r run ++ run_parts (suc r) runs

abbrev pub job_parts : ℕ → List JobNotes → List Question
job_parts j [] = []
job_parts j (job ∷ jobs) = Question.Job j ∷ job_parts (suc j) jobs

-- the steps of a leg, of which the first has this place
abbrev pub step_parts : ℕ → ℕ → List StepPlan → List Question
step_parts l s [] = []
step_parts l s (step ∷ steps) = Question.Step l s ∷ step_parts l (suc s) steps

abbrev pub leg_steps : Option LegAt → List StepPlan
leg_steps None = []
leg_steps (Some at) = at.job_plan.steps

-- a leg with that number, and its steps
abbrev pub leg_part : Account → ℕ → LegNotes → List Question
leg_part a l leg =
    Question.Leg l ∷ (stop_part (Member.Leg l) leg.stop ++ step_parts l 0 (leg_steps (leg_at a.plan a.board l)))

abbrev pub leg_parts : Account → ℕ → List LegNotes → List Question
leg_parts a l [] = []
leg_parts a l (leg ∷ legs) = leg_part a l leg ++ leg_parts a (suc l) legs

-- all runs, all jobs, and each leg before its steps
abbrev pub parts : Account → List Question
parts a = run_parts 0 a.notes.runs ++ (job_parts 0 a.notes.jobs ++ leg_parts a 0 a.notes.legs)
