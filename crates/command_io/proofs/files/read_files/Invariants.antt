use Rattle.command_io.specs.Files.{file_seen}
use Rattle.command_io.proofs.Reading.{GoingFiles}
use Rattle.command_io.proofs.files.read_files.Given as goal

-- what is left comes to what all files come to
abbrev pub invariant-loop-file : goal.invariant-loop-file
invariant-loop-file g l = GoingFiles (file_seen g.S.Source.seen) l.fn.files l.files l.file-index l.contents.items
