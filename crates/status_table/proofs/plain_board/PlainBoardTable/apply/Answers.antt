use Rattle.std.proofs.Common.{subst}
use Rattle.status_table.specs.Words.{Play, Stays}
use Rattle.status_table.proofs.Ended.{stays-same}
use Rattle.status_table.proofs.InPlay.{answer_in_play, few_in_play}
use Rattle.status_table.proofs.plain_board.PlainBoardTable.apply.Goals as goal

pub invariant_of-self : goal.invariant_of-self
invariant_of-self c =
    (answer_in_play c.self.inside.plan c.plan-plan.result.now c.self.inside.board c.apply_event.new.board c.args.entry.worker c.args.entry.event c.apply_event.result
    c.plan-plan.ensures.same c.self.invariant c.apply_event.ensures).0

pub returns-clause-in_play : goal.returns-clause-in_play
returns-clause-in_play c =
    (answer_in_play c.self.inside.plan c.plan-plan.result.now c.self.inside.board c.apply_event.new.board c.args.entry.worker c.args.entry.event c.apply_event.result
    c.plan-plan.ensures.same c.self.invariant c.apply_event.ensures).0

pub returns-clause-ended_stays : goal.returns-clause-ended_stays
returns-clause-ended_stays c =
    subst (λ (s : Play). Stays s.board c.apply_event.new.board) c.self.view_is
    (answer_in_play c.self.inside.plan c.plan-plan.result.now c.self.inside.board c.apply_event.new.board c.args.entry.worker c.args.entry.event c.apply_event.result
    c.plan-plan.ensures.same c.self.invariant c.apply_event.ensures).1

pub apply_event-requires-clause-few : goal.apply_event-requires-clause-few
apply_event-requires-clause-few c =
    few_in_play c.self.inside.plan c.plan-plan.result.now c.self.inside.board c.plan-plan.ensures.same c.plan-plan.ensures.rules c.self.invariant

pub returns-then-entry-gt15-clause-ended_stays : goal.returns-then-entry-gt15-clause-ended_stays
returns-then-entry-gt15-clause-ended_stays c = stays-same c.args.self.now.board
