-- What is noted of all that a plan has: what became of each last, and at which line of the record. Of who told it to stop
-- the first is kept.
use Rattle.std.specs.Prelude.{ℕ, ◌++◌, List, [], ◌∷◌, length, map, Option, Some, None}
use Rattle.status_table.specs.Words.{JobPlan, Member, Plain, Plan, RunPlan, changed}
use Rattle.why_facts.specs.declared.fact.Change.{Change}
use Rattle.why_facts.specs.declared.notes.JobNote.{JobNote}
use Rattle.why_facts.specs.declared.notes.LegNotes.{LegNotes}
use Rattle.why_facts.specs.declared.notes.MemberNote.{MemberNote}
use Rattle.why_facts.specs.declared.notes.Notes.{Notes}
use Rattle.why_facts.specs.declared.notes.RunNotes.{RunNotes}
use Rattle.why_facts.specs.declared.notes.StepNote.{StepNote}
use Rattle.why_facts.specs.declared.notes.StopNote.{StopNote}

-- ---- at the start: nothing is noted

abbrev pub new_run_notes : RunNotes
new_run_notes = record { last = None; stop = None }

abbrev pub new_leg_notes : LegNotes
new_leg_notes = record { last = None; stop = None; call = None; steps = [] }

-- with these legs more, each a combination
abbrev pub legs_added : Notes → List (List (List ℕ × Plain)) → Notes
legs_added notes legs = record notes { legs = notes.legs ++ map (λ leg. new_leg_notes) legs }

-- with a job more, whose first leg has the next number
abbrev pub job_added : Notes → JobPlan → Notes
job_added notes job =
    legs_added
    (record notes { jobs = notes.jobs ++ (record { last = None; first_leg = length notes.legs }) ∷ [] })
    job.legs

abbrev pub jobs_added : Notes → List JobPlan → Notes
jobs_added notes [] = notes
jobs_added notes (job ∷ jobs) = jobs_added (job_added notes job) jobs

abbrev pub run_added : Notes → RunPlan → Notes
run_added notes run = jobs_added (record notes { runs = notes.runs ++ new_run_notes ∷ [] }) run.jobs

abbrev pub runs_added : Notes → List RunPlan → Notes
runs_added notes [] = notes
runs_added notes (run ∷ runs) = runs_added (run_added notes run) runs

-- of a plan
abbrev pub new_notes : Plan → Notes
new_notes p = runs_added (record { runs = []; jobs = []; legs = [] }) p.runs

-- ---- changes

abbrev pub member_noted : Notes → Member → MemberNote → Notes
member_noted notes (Member.Run r) note =
    record notes { runs = changed notes.runs r (λ run. record run { last = Some note }) }
member_noted notes (Member.Leg l) note =
    record notes { legs = changed notes.legs l (λ leg. record leg { last = Some note }) }

abbrev pub job_noted : Notes → ℕ → JobNote → Notes
job_noted notes j note = record notes { jobs = changed notes.jobs j (λ job. record job { last = Some note }) }

abbrev pub call_noted : Notes → ℕ → ℕ → Notes
call_noted notes l line = record notes { legs = changed notes.legs l (λ leg. record leg { call = Some line }) }

abbrev pub step_noted : Notes → ℕ → StepNote → Notes
step_noted notes l note =
    record notes { legs = changed notes.legs l (λ leg. record leg { steps = leg.steps ++ note ∷ [] }) }

-- the first of two
abbrev pub first_of : Option StopNote → StopNote → Option StopNote
first_of None note = Some note
first_of (Some first) note = Some first

abbrev pub stop_noted : Notes → Member → StopNote → Notes
stop_noted notes (Member.Run r) note =
    record notes { runs = changed notes.runs r (λ run. record run { stop = first_of run.stop note }) }
stop_noted notes (Member.Leg l) note =
    record notes { legs = changed notes.legs l (λ leg. record leg { stop = first_of leg.stop note }) }

-- a change at a line
abbrev pub noted : ℕ → Notes → Change → Notes
noted line notes (Change.Member who fact) = member_noted notes who (record { line = line; fact = fact })
noted line notes (Change.Job j fact) = job_noted notes j (record { line = line; fact = fact })
noted line notes (Change.Called l) = call_noted notes l line
noted line notes (Change.Step l fact) = step_noted notes l (record { line = line; fact = fact })
noted line notes (Change.Stop who teller) = stop_noted notes who (record { line = line; teller = teller })

-- changes at a line, one after the other
abbrev pub all_noted : ℕ → Notes → List Change → Notes
all_noted line notes [] = notes
all_noted line notes (change ∷ changes) = all_noted line (noted line notes change) changes
