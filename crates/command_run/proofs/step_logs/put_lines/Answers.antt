use Rattle.std.proofs.Common.{◌∙◌, Ok, ap, refl, rules, subst}
use Rattle.std.specs.Str.{IsUtf8}
use Rattle.command_io.proofs.Told.{Puts-as}
use Rattle.flow_model.specs.Lines.{lines_of}
use Rattle.command_run.specs.StepLogs.{EndsAs, GetsLine, PutsNext}
use Rattle.command_run.proofs.LogTexts.{lines_more, lines_put, lines_stopped, next_begun, next_cut, no_lines}
use Rattle.command_run.proofs.step_logs.put_lines.Goals as goal

pub loop-line-init : goal.loop-line-init
loop-line-init g c = no_lines _ _ _ _

pub returns-in_err-text : goal.returns-in_err-text
returns-in_err-text g c =
    lines_stopped _ c.args.log.now c.loop-line.log c.loop-line.log _ _ _ _ _ c.loop-line.invariant c.requires.shown c.requires.stop c.from_residual.ensures.0

pub returns-in_err-put_next : goal.returns-in_err-put_next
returns-in_err-put_next g c =
    let text = c.in-Ok.text.now in
    let line : GetsLine (g.S.Source.seen c.loop-line.lines) (g.S.Source.seen c.next_text.new.log) text = search rules in
    let utf8 : IsUtf8 text = search rules in
    next_begun _ c.args.log.now c.loop-line.log c.put_next.new.log _ _ _ _ _ _ text _ _ _ c.loop-line.invariant c.requires.shown c.requires.stop line utf8
    c.put_next.ensures c.in_err-put_next.was c.from_residual-in_err-put_next.ensures.0

pub returns-then-not-branch : goal.returns-then-not-branch
returns-then-not-branch g c =
    let text = c.in-Ok.text.now in
    let line : GetsLine (g.S.Source.seen c.loop-line.lines) (g.S.Source.seen c.next_text.new.log) text = search rules in
    let utf8 : IsUtf8 text = search rules in
    next_cut _ c.args.log.now c.loop-line.log c.put_next.new.log _ _ _ _ _ _ text c.loop-line.invariant c.requires.shown c.requires.stop line utf8
    (subst (PutsNext _ c.loop-line.log c.put_next.new.log (lines_of text) _ _) (c.in_ok-put_next.was ∙ ap Ok c.if-not-branch.true) c.put_next.ensures)

pub loop-line-preserved : goal.loop-line-preserved
loop-line-preserved g c =
    let text = c.in-Ok.text.now in
    let line : GetsLine (g.S.Source.seen c.loop-line.lines) (g.S.Source.seen c.next_text.new.log) text = search rules in
    let utf8 : IsUtf8 text = search rules in
    lines_more _ c.args.log.now c.loop-line.log c.put_next.new.log _ _ _ _ _ _ text c.loop-line.invariant line utf8
    (subst (PutsNext _ c.loop-line.log c.put_next.new.log (lines_of text) _ _) (c.in_ok-put_next.was ∙ ap Ok c.if-not-branch.false) c.put_next.ensures)

pub returns : goal.returns
returns g c =
    let kind = c.in_default.field-0 in
    let ends : EndsAs (g.S.Source.seen c.loop-line.lines) kind = search rules in
    lines_put _ c.args.log.now c.loop-line.log c.loop-line.log _ _ _ _ _ c.put.result c.loop-line.invariant c.requires.shown c.requires.stop kind ends
    (Puts-as _ _ _ _ c.put.result c.put.ensures (c.as_bytes.ensures.value ∙ c.shown.ensures)) refl
