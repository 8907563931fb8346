use Rattle.std.proofs.Common.{◌≡◌, ◌+◌, ◌++◌, drop}
use Rattle.std.specs.Option.{option_copied}
use Rattle.command_graph.specs.Dot.{jobs_text, legs_count}
use Rattle.command_graph.proofs.dot.add_jobs.Given as goal

abbrev pub invariant-loop-place : goal.invariant-loop-place
invariant-loop-place l = record {
  left : l.text.items ++ jobs_text (option_copied l.run) l.place l.number (drop l.place l.jobs) ≡ l.initial.text.items ++ jobs_text (option_copied l.run) 0 l.first l.jobs;
  legs : l.number + legs_count (drop l.place l.jobs) ≡ l.first + legs_count l.jobs;
}
