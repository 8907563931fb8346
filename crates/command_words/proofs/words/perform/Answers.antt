use Rattle.std.proofs.Common.{inl, inr}
use Rattle.command_words.proofs.words.perform.Goals as goal

pub returns-in-Run : goal.returns-in-Run
returns-in-Run g c = inr (inr (inr (inr (inr (inr (inr (inr (inr (inl c.perform_run.ensures)))))))))

pub returns-in-Debug : goal.returns-in-Debug
returns-in-Debug g c = inr (inr (inr (inr (inr (inr (inr (inr (inr (inr c.perform_debug.ensures)))))))))

pub returns-in-Why : goal.returns-in-Why
returns-in-Why g c = inr (inr (inr (inr (inr (inr (inr (inr (inl c.perform_why.ensures))))))))

pub returns-in-Plan : goal.returns-in-Plan
returns-in-Plan g c = inr (inr (inl c.perform_plan.ensures))

pub returns-in-Replay : goal.returns-in-Replay
returns-in-Replay g c = inr (inr (inr (inr (inr (inl c.perform_replay.ensures)))))

pub returns-in-Graph : goal.returns-in-Graph
returns-in-Graph g c = inr (inr (inr (inr (inr (inr (inl c.perform_graph.ensures))))))

pub returns-in-Timeline : goal.returns-in-Timeline
returns-in-Timeline g c = inr (inr (inr (inr (inr (inr (inr (inl c.perform_timeline.ensures)))))))
