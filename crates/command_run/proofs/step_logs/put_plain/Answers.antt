use Rattle.std.proofs.Common.{◌≡◌, ◌==◌, true, length, subst, rules}
use Rattle.command_run.specs.StepLogs.{HandsOn}
use Rattle.command_run.proofs.LogTexts.{line_begins, line_cut, line_handed, line_more, line_put, line_stopped}
use Rattle.command_run.proofs.step_logs.put_plain.Goals as goal

pub loop-rest-init : goal.loop-rest-init
loop-rest-init g c = (line_begins _ _ _ _, search rules)

pub returns-in_err-rest : goal.returns-in_err-rest
returns-in_err-rest g c =
    line_stopped _ c.args.log.now c.loop-rest.log c.show_some.new.self _ _ _ _ _ c.loop-rest.invariant.0 c.requires c.from_residual.ensures.0

pub returns-then-not-hand_on : goal.returns-then-not-hand_on
returns-then-not-hand_on g c =
    let told = line_more _ c.args.log.now c.loop-rest.log c.show_some.new.self _ _ _ _ _ c.loop-rest.invariant.0 c.in_ok-rest.ensures.shown
    c.show_some.ensures.masks c.show_some.ensures.stop in
    line_cut _ c.args.log.now c.show_some.new.self c.hand_on.new.log _ _ _ _ _ told c.requires
    (subst (HandsOn c.show_some.new.self c.hand_on.new.log _ _) c.if-not-hand_on.true c.hand_on.ensures)

pub loop-rest-preserved : goal.loop-rest-preserved
loop-rest-preserved g c =
    let told = line_more _ c.args.log.now c.loop-rest.log c.show_some.new.self _ _ _ _ _ c.loop-rest.invariant.0 c.in_ok-rest.ensures.shown
    c.show_some.ensures.masks c.show_some.ensures.stop in (
      line_handed _ c.args.log.now c.show_some.new.self c.hand_on.new.log _ _ _ _ _ told
          (subst (HandsOn c.show_some.new.self c.hand_on.new.log _ _) c.if-not-hand_on.false c.hand_on.ensures),
      search rules,
    )

pub returns-in_err-end_line : goal.returns-in_err-end_line
returns-in_err-end_line g c =
    line_stopped _ c.args.log.now c.loop-rest.log c.end_line.new.self _ _ _ _ _ c.loop-rest.invariant.0 c.requires c.from_residual-in_err-end_line.ensures.0

pub returns : goal.returns
returns g c =
    let none : (length c.loop-rest.rest.now == 0) ≡ true = search rules in
    line_put _ c.args.log.now c.loop-rest.log c.end_line.new.self _ _ _ _ c.loop-rest.invariant.0 c.requires none c.in_ok-end_line.ensures.shown
    c.end_line.ensures.masks c.end_line.ensures.stop
