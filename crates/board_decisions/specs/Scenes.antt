-- What the texts of a place see, where that is found.
use Rattle.plan_values.specs.Words.{Values}
use Rattle.board_decisions.specs.Contexts.{run_values, job_values}
use Rattle.board_decisions.specs.Decisions.{leg_values}
use Rattle.board_decisions.specs.Seen.{job_seen, leg_seen}
use Rattle.board_decisions.specs.declared.place.SeenRun.{SeenRun}
use Rattle.board_decisions.specs.declared.place.SeenJob.{SeenJob}
use Rattle.board_decisions.specs.declared.place.SeenLeg.{SeenLeg}

-- what the texts of a run see
abbrev pub run_scene : SeenRun → Values
run_scene x = run_values x.plan.now

-- what the texts of a job see
abbrev pub job_scene : SeenJob → Values
job_scene x = job_values (job_seen x)

-- what the texts of a leg see
abbrev pub leg_scene : SeenLeg → Values
leg_scene x = leg_values (leg_seen x)
