-- What holds of each board that a legal list of entries leads to.
use Rattle.std.specs.Prelude.{◌≡◌, ℕ, ◌≤◌, ◌&&◌, ◌||◌, Bool, true, not, List, length, Option, Some, None, count_by}
use Rattle.std.specs.List.{list_all, AllZip}
use Rattle.plan_values.specs.Words.{Board, Job, JobPlan, JobState, Leg, Plan, Run, RunPlan, RunState}
use Rattle.board_decisions.specs.Derived.{is_going, is_open, is_fresh, is_under_way, needs_have_ended}
use Rattle.board_decisions.specs.Place.{JobAt, job_at}
use Rattle.status_table.specs.Members.{OneHolder, is_waiting, share_name}
use Rattle.status_table.specs.Row.{first_of}

-- whether a leg that waits, is admitted or runs is of a Going run, and does not wait for its own run
abbrev pub goes_rightly : RunState → Option (List ℕ) → Leg → Bool
goes_rightly run group leg =
    not (is_under_way leg.state) || (is_going run && not (is_waiting leg.state && share_name group leg.group))

-- whether a leg is Fresh; or is of an Open job, and goes rightly
abbrev pub leg_stands_right : RunState → Option (List ℕ) → JobState → Leg → Bool
leg_stands_right run group job leg = is_fresh leg.state || (is_open job && goes_rightly run group leg)

-- no more than a limit, if there is one
abbrev pub Within : Option ℕ → ℕ → Type 0
Within None n = Unit {0}
Within (Some most) n = n ≤ most

-- how many of some legs wait, are admitted or run
abbrev pub under_way : List Leg → ℕ
under_way legs = count_by (λ leg. is_under_way leg.state) legs

-- A job of a run that is in a state and a group, as planned: each of its legs stands rightly, and no more of
-- them than `max_parallel` are under way. It has legs, and no more than 256 steps.
pub record JobFits (run : RunState) (group : Option (List ℕ)) (plan : JobPlan) (job : Job) : Type 0 where
  pub legs : list_all (leg_stands_right run group job.state) job.legs ≡ true
  pub slots : Within plan.max_parallel (under_way job.legs)
  pub some : 1 ≤ length job.legs
  pub steps : length plan.steps ≤ 256

-- each job of a run
abbrev pub RunFits : RunPlan → Run → Type 0
RunFits plan run = AllZip (JobFits run.state run.group) plan.jobs run.jobs

-- each run of a board
abbrev pub MembersFit : Plan → Board → Type 0
MembersFit p b = AllZip RunFits p.runs b.runs

-- What an Open job needs has ended.
abbrev pub NeedsEnded : Plan → Board → Type 0
NeedsEnded p b =
    (j : ℕ) (at : JobAt) → job_at p b j ≡ Some at → is_open at.job.state ≡ true
    → needs_have_ended (first_of j at) at.run at.plan ≡ true

-- A group name has one holder and one waiter at most, and no waiter without a holder; each member stands
-- rightly; and what an Open job needs has ended.
pub record Lawful (p : Plan) (b : Board) : Type 0 where
  pub one : OneHolder b
  pub fits : MembersFit p b
  pub needs : NeedsEnded p b
