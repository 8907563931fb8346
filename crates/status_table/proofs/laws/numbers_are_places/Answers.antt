use Rattle.status_table.proofs.Numbers.{jobs_are_numbered, legs_are_numbered}
use Rattle.status_table.proofs.Planned.{is_planned_at}
use Rattle.status_table.proofs.Sound.{has_as_many, is_numbered_in}
use Rattle.status_table.proofs.laws.numbers_are_places.Goals as goal

pub returns-clause-jobs : goal.returns-clause-jobs
returns-clause-jobs c = jobs_are_numbered

pub returns-clause-legs : goal.returns-clause-legs
returns-clause-legs c = legs_are_numbered

pub returns-clause-planned : goal.returns-clause-planned
returns-clause-planned c = is_numbered_in

pub returns-clause-planned_legs : goal.returns-clause-planned_legs
returns-clause-planned_legs c = is_planned_at

pub returns-clause-as_many : goal.returns-clause-as_many
returns-clause-as_many c = has_as_many
