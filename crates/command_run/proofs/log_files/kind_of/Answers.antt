use Rattle.std.proofs.Common.{rules}
use Rattle.std.specs.Str.{IsUtf8}
use Rattle.command_run.specs.StepLogs.{GetsLine}
use Rattle.command_run.proofs.LogTexts.{read_more}
use Rattle.command_run.proofs.log_files.kind_of.Goals as goal

pub loop-line-preserved : goal.loop-line-preserved
loop-line-preserved g c =
    let text = c.in_default.field-0.now in
    let line : GetsLine (g.S.Source.seen c.loop-line.log) (g.S.Source.seen c.next_text.new.log) text = search rules in
    let utf8 : IsUtf8 text = search rules in
    read_more _ _ _ text c.loop-line.invariant line utf8
