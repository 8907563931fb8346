use Rattle.std.proofs.Common.{Bool, Ok, subst}
use Rattle.std.proofs.lemmas.Result.{err_from_is_err_and}
use Rattle.command_debug.specs.Session.{AnswersNext}
use Rattle.command_debug.proofs.Answering.{begin, comes_to_end, goes_on, stops}
use Rattle.command_debug.proofs.session.gather_all.Goals as goal

pub loop-line-init : goal.loop-line-init
loop-line-init g c = begin c.args.debugger.now (g.I.Source.seen c.args.input.now) (g.O.Sink.seen c.args.out.now) c.args.gathered.now c.requires

pub loop-line-preserved : goal.loop-line-preserved
loop-line-preserved g c =
    let mid = g.I.Source.seen c.loop-line.input in
    let out = g.O.Sink.seen c.loop-line.out in
    let next = c.answer_next.new.debugger in
    let input' = g.I.Source.seen c.answer_next.new.input in
    let out' = g.O.Sink.seen c.answer_next.new.out in
    let new = c.answer_next.new.gathered in
    goes_on c.args.debugger.now (g.I.Source.seen c.args.input.now) (g.O.Sink.seen c.args.out.now) c.loop-line.debugger mid out c.loop-line.gathered c.loop-line.invariant
    next input' out' new
    (subst (λ (b : Bool). AnswersNext c.loop-line.debugger mid out next input' out' c.loop-line.gathered new (Ok b)) c.if-branch.true c.in_ok-answer_next.ensures.answers)

pub returns-in_err-answer_next : goal.returns-in_err-answer_next
returns-in_err-answer_next g c =
    let p = err_from_is_err_and c.from_residual.result c.from_residual.ensures.1 in
    rw (p.1, p.2)
    (stops c.args.debugger.now (g.I.Source.seen c.args.input.now) (g.O.Sink.seen c.args.out.now) c.loop-line.debugger (g.I.Source.seen c.loop-line.input)
    (g.O.Sink.seen c.loop-line.out) c.loop-line.gathered c.loop-line.invariant c.answer_next.new.debugger (g.I.Source.seen c.answer_next.new.input)
    (g.O.Sink.seen c.answer_next.new.out) c.answer_next.new.gathered c.in_err-answer_next.field-0.0 c.in_err-answer_next.ensures.answers)

pub returns : goal.returns
returns g c =
    let mid = g.I.Source.seen c.loop-line.input in
    let out = g.O.Sink.seen c.loop-line.out in
    let next = c.answer_next.new.debugger in
    let input' = g.I.Source.seen c.answer_next.new.input in
    let out' = g.O.Sink.seen c.answer_next.new.out in
    let new = c.answer_next.new.gathered in
    comes_to_end c.args.debugger.now (g.I.Source.seen c.args.input.now) (g.O.Sink.seen c.args.out.now) c.loop-line.debugger mid out c.loop-line.gathered c.loop-line.invariant
    next input' out' new
    (subst (λ (b : Bool). AnswersNext c.loop-line.debugger mid out next input' out' c.loop-line.gathered new (Ok b)) c.if-branch.false c.in_ok-answer_next.ensures.answers)
