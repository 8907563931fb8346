use Rattle.std.proofs.Common.{drop}
use Rattle.plan_text.specs.Changes.{TellsRun, after_run}
use Rattle.command_print.proofs.ChangeLemmas.{ToldTo}
use Rattle.command_print.proofs.RunTexts.{RunsLeft}
use Rattle.command_print.proofs.touched.add_runs.Given as goal

abbrev pub invariant-loop-place : goal.invariant-loop-place
invariant-loop-place l =
    let before = l.boards.before.now in
    let board = l.boards.board.now in
    let next = l.boards.index.now.next.items in
    record {
      told : ToldTo after_run TellsRun (0, (0, 0)) before.runs board.runs l.initial.text (l.place, l.first) l.place l.text;
      left : RunsLeft l.touched before board l.first (drop l.place before.runs) (drop l.place board.runs) (drop l.place next);
    }
