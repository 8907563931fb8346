use Rattle.std.proofs.Common.{◌≡◌, ◌+◌, Some, take, subst, ◌∙◌}
use Rattle.status_table.specs.Words.{IsPlan, Plan, after_from}
use Rattle.status_table.proofs.RunsLemmas.{after_from-next, few_more}
use Rattle.board_timeline.proofs.Entries.{board_after, left_noted, next_noted, noted_so_far}
use Rattle.board_timeline.specs.Played.{NotesEntry}
use Rattle.board_timeline.proofs.played.play_noted.Goals as goal

pub loop-place-preserved : goal.loop-place-preserved
loop-place-preserved g c =
    let plan = g.T.Table.plan in
    let board = g.T.Table.board in
    let old = c.loop-place.table in
    let entry = c.index-entries-place.result in
    let all = c.args.entries.now in
    let i = c.loop-place.place in
    let first = plan c.args.table.now in
    let same = c.play.ensures.plan_stays ∙ c.loop-place.invariant.same in
    let did : NotesEntry first c.args.plan.now (i + 2) (board old) c.loop-place.track entry (board c.play.new.table) c.play.new.track =
    subst (λ (p : Plan). NotesEntry p c.args.plan.now (i + 2) (board old) c.loop-place.track entry (board c.play.new.table) c.play.new.track)
    c.loop-place.invariant.same c.in_default.ensures.plays in
    let played : after_from first (board c.args.table.now) (take (i + 1) all) ≡ Some (board c.play.new.table) =
    after_from-next first (board c.args.table.now) (board old) (board c.play.new.table) all i entry c.loop-place-test.true
    c.index-entries-place.is c.loop-place.invariant.played
    (board_after first c.args.plan.now (i + 2) (board old) (board c.play.new.table) c.loop-place.track c.play.new.track entry did) in
    let more =
    next_noted first c.args.plan.now (board c.args.table.now) (board old) (board c.play.new.table) c.args.track.now c.loop-place.track c.play.new.track
    all i entry c.loop-place-test.true c.index-entries-place.is did c.loop-place.invariant.noted in
    let rules : IsPlan first = subst IsPlan same c.in_default.ensures.in_play.rules in
    record {
      same = same;
      played = played;
      noted = more;
      so_far = noted_so_far first c.args.plan.now (board c.args.table.now) (board c.play.new.table) ((i + 1) + 2) c.args.track.now c.play.new.track
          (take (i + 1) all) more;
      few = few_more first (board c.args.table.now) (board c.play.new.table) all i c.loop-place-test.true played
          (c.legal_lists_are_short.ensures first rules);
    }

pub returns-in-Err-clause-left : goal.returns-in-Err-clause-left
returns-in-Err-clause-left g c =
    let plan = g.T.Table.plan in
    let board = g.T.Table.board in
    left_noted (plan c.args.table.now) c.args.plan.now (board c.args.table.now) (board c.loop-place.table) (board c.play.new.table)
    c.args.track.now c.loop-place.track c.play.new.track c.args.entries.now c.loop-place.place c.in-Err.fault
    c.loop-place.invariant.played c.loop-place.invariant.so_far c.in-Err.ensures.plays.1
