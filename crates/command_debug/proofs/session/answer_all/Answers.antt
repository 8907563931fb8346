use Rattle.std.proofs.Common.{◌≢◌, ℕ, List, Err, subst, rules}
use Rattle.command_io.specs.Stream.{IsCutOff}
use Rattle.command_debug.specs.declared.session.Halt.{Halt}
use Rattle.command_debug.proofs.Answering.{not_written}
use Rattle.command_debug.proofs.session.answer_all.Goals as goal

pub returns : goal.returns
returns g c =
    let goes : c.gather_all-ended.result ≢ Err Halt.Unwritten = λ is. search rules in
    let mid = g.O.Sink.seen c.gather_all-ended.new.out in
    let new = g.O.Sink.seen c.write_gathered.new.out in
    not_written c.args.debugger.now (g.I.Source.seen c.args.input.now) (g.I.Source.seen c.gather_all-ended.new.input) (g.O.Sink.seen c.args.out.now) mid new
    c.gather_all-ended.new.gathered c.gather_all-ended.result goes c.gather_all-ended.ensures
    (subst (λ (l : List ℕ). IsCutOff mid new l) c.as_slice.ensures c.if-write_gathered.ensures)
