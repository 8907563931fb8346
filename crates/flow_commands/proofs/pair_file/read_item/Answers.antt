-- A line that begins a block is read with it.
use Rattle.std.proofs.lemmas.Result.{err_from_is_err_and}
use Rattle.flow_model.specs.Lines.{lines_of}
use Rattle.flow_commands.proofs.Gathering.{block_refused, block_refuses, block_reads}
use Rattle.flow_commands.proofs.pair_file.read_item.Goals as goal

pub returns-in_err-value-in-Some-Block-clause-refused : goal.returns-in_err-value-in-Some-Block-clause-refused
returns-in_err-value-in-Some-Block-clause-refused c =
    let p = err_from_is_err_and c.from_residual-in_err-value-in-Some-Block.result c.from_residual-in_err-value-in-Some-Block.ensures.1 in
    rw (p.1, p.2) (block_refused c.args.file (lines_of c.args.text.now) (lines_of c.first_line.result.1.now) c.first_line.result.0.now
    c.in-Some-Block.name.now c.in-Some-Block.delimiter.now c.in_err-value-in-Some-Block.field-0.0 c.first_line.ensures.lines
    (rw c.in-Some-Block.field-0-is at c.in-Some-Block.ensures) c.in_err-value-in-Some-Block.ensures.open)

pub returns-in_err-add_pair-in-Some-Block-clause-refused : goal.returns-in_err-add_pair-in-Some-Block-clause-refused
returns-in_err-add_pair-in-Some-Block-clause-refused c =
    let p = err_from_is_err_and c.from_residual-in_err-add_pair-in-Some-Block.result c.from_residual-in_err-add_pair-in-Some-Block.ensures.1 in
    rw (p.1, p.2) (block_refuses c.args.file c.in_err-add_pair-in-Some-Block.field-0.0 (lines_of c.args.text.now) (lines_of c.first_line.result.1.now)
    (lines_of c.in_ok-value-in-Some-Block.rest.now) c.first_line.result.0.now c.in-Some-Block.name.now c.in-Some-Block.delimiter.now
    c.in_ok-value-in-Some-Block.value c.first_line.ensures.lines (rw c.in-Some-Block.field-0-is at c.in-Some-Block.ensures)
    c.in_ok-value-in-Some-Block.ensures.read c.in_err-add_pair-in-Some-Block.ensures.refused)

pub returns-in_ok-add_pair-in-Some-Block-clause-read : goal.returns-in_ok-add_pair-in-Some-Block-clause-read
returns-in_ok-add_pair-in-Some-Block-clause-read c =
    block_reads c.args.file c.args.found.now c.add_pair-in-Some-Block.new.found (lines_of c.args.text.now) (lines_of c.first_line.result.1.now)
    (lines_of c.in_ok-value-in-Some-Block.rest.now) c.first_line.result.0.now c.in-Some-Block.name.now c.in-Some-Block.delimiter.now
    c.in_ok-value-in-Some-Block.value c.first_line.ensures.lines (rw c.in-Some-Block.field-0-is at c.in-Some-Block.ensures)
    c.in_ok-value-in-Some-Block.ensures.read c.in_ok-add_pair-in-Some-Block.ensures.added
