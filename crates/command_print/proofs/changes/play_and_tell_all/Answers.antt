use Rattle.std.proofs.Common.{◌+◌, Ok, refl, sym, subst, ◌∙◌}
use Rattle.status_table.specs.Words.{IsPlan, Plan, new_board}
use Rattle.status_table.proofs.RunsLemmas.{after_from-next, few_more}
use Rattle.command_print.specs.Changes.{TellsEntry}
use Rattle.command_print.proofs.Places.{next_told}
use Rattle.command_print.proofs.changes.play_and_tell_all.Goals as goal

pub loop-place-preserved : goal.loop-place-preserved
loop-place-preserved g c =
    let plan = g.T.Table.plan in
    let board = g.T.Table.board in
    let p = plan c.args.board.now in
    let old = board c.loop-place.board in
    let new = board c.play_and_tell.new.board in
    let entry = c.index-entries-place.result in
    let all = c.args.entries.now in
    let i = c.loop-place.place in
    let kept = c.loop-place.invariant in
    let same = c.in_default.ensures.plan_stays ∙ kept.same in
    let did =
    subst (λ (q : Plan). TellsEntry q (i + 1) old entry (Ok c.in_default.field-0) (board c.play_and_tell.new.before) new c.loop-place.text c.play_and_tell.new.text)
    kept.same c.in_default.ensures.tells in
    let played = after_from-next p (new_board p) old new all i entry c.loop-place-test.true c.index-entries-place.is kept.played did.0 in
    let rules : IsPlan p = subst IsPlan same c.in_default.ensures.in_play.rules in
    record {
      same = same;
      plans = c.in_default.ensures.same_plan ∙ kept.plans ∙ sym c.in_default.ensures.plan_stays;
      boards = did.1;
      played = played;
      told = next_told p all i entry old new c.loop-place.text c.play_and_tell.new.text c.loop-place-test.true c.index-entries-place.is kept.played did.0
          kept.told did.2;
      few = few_more p (new_board p) new all i c.loop-place-test.true played (c.legal_lists_are_short.ensures p rules) refl;
      index = c.in_default.ensures.index;
    }
