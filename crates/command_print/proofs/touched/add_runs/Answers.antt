use Rattle.std.proofs.Common.{ℕ, ◌+◌, ◌≤◌, List, [], length, drop, get_or, refl, ap, sym, subst}
use Rattle.status_table.specs.Words.{Run}
use Rattle.plan_text.specs.Changes.{TellsEach, TellsRun, after_run}
use Rattle.command_print.proofs.ChangeLemmas.{told_beside, told_next, told_there}
use Rattle.command_print.proofs.RunTexts.{found-in, found-run, none-left}
use Rattle.command_print.proofs.touched.add_runs.Goals as goal

pub returns-in_default : goal.returns-in_default
returns-in_default c =
    let place = c.loop-place.place in
    told_beside after_run TellsRun (0, (0, 0)) c.args.boards.now.before.now.runs c.args.boards.now.board.now.runs c.args.text.now (place, c.loop-place.first) place
    c.loop-place.text (subst (λ (runs : List Run). length runs ≤ place) c.as_slice-before.ensures c.in_default.ensures.lookup.3) c.loop-place.invariant.told

pub add_run-requires-clause-stand : goal.add_run-requires-clause-stand
add_run-requires-clause-stand c =
    let before = c.args.boards.now.before.now in
    let board = c.args.boards.now.board.now in
    let place = c.loop-place.place in
    let was = c.in-Some.was.now in
    let run = c.in-Some-get.run'.now in
    (found-run c.args.touched.now before board c.loop-place.first was run before.runs board.runs c.args.boards.now.index.now.next.items
    c.as_slice-next-items.result.now place
    (found-in c.as_slice-before.result.now before.runs place was c.as_slice-before.ensures c.in-Some.ensures.lookup.3.0 c.in-Some.ensures.lookup.1)
    (found-in c.as_slice-runs.result.now board.runs place run c.as_slice-runs.ensures c.in-Some-get.ensures.lookup.3.0 c.in-Some-get.ensures.lookup.1)
    c.as_slice-next-items.ensures.value c.loop-place-test.true c.loop-place.invariant.left).stand

pub loop-place-preserved : goal.loop-place-preserved
loop-place-preserved c =
    let before = c.args.boards.now.before.now in
    let board = c.args.boards.now.board.now in
    let place = c.loop-place.place in
    let was = c.in-Some.was.now in
    let run = c.in-Some-get.run'.now in
    let there = found-in c.as_slice-before.result.now before.runs place was c.as_slice-before.ensures c.in-Some.ensures.lookup.3.0 c.in-Some.ensures.lookup.1 in
    let here = found-in c.as_slice-runs.result.now board.runs place run c.as_slice-runs.ensures c.in-Some-get.ensures.lookup.3.0 c.in-Some-get.ensures.lookup.1 in
    let next = get_or c.as_slice-next-items.result.now place (0, 0) in
    let found =
    found-run c.args.touched.now before board c.loop-place.first was run before.runs board.runs c.args.boards.now.index.now.next.items
    c.as_slice-next-items.result.now place there here c.as_slice-next-items.ensures.value c.loop-place-test.true c.loop-place.invariant.left in
    record {
      told = told_next after_run TellsRun (0, (0, 0)) before.runs board.runs c.args.text.now (place, c.loop-place.first) place was run there.within there.is here.within here.is
          (place + 1, next) c.loop-place.text c.add_run.new.text (ap (λ (n : ℕ × ℕ). (place + 1, n)) found.number) c.loop-place.invariant.told c.in_ok-add_run.ensures;
      left = found.left;
    }

pub returns : goal.returns
returns c =
    let before = c.args.boards.now.before.now in
    let board = c.args.boards.now.board.now in
    let place = c.loop-place.place in
    let first = c.loop-place.first in
    let none =
    none-left c.args.touched.now before board first before.runs board.runs c.args.boards.now.index.now.next.items c.as_slice-next-items.result.now place
    c.as_slice-next-items.ensures.value c.loop-place-test.false c.loop-place.invariant.left in
    told_there after_run TellsRun (0, (0, 0)) before.runs board.runs c.args.text.now (place, first) place c.loop-place.text
    (subst (λ (runs : List Run). TellsEach after_run TellsRun (place, first) (drop place before.runs) runs []) (sym none) refl) c.loop-place.invariant.told
