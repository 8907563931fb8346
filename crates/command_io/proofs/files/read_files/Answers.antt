use Rattle.std.proofs.Common.{◌<◌, ◌≤◌, ◌+◌, List, map, length, get_or, set, refl, sym, subst, rules}
use Rattle.command_io.specs.Files.{Content, AreContents, file_seen}
use Rattle.command_io.proofs.Reading.{GoingFiles, read_more, cut_there, all_read}
use Rattle.command_io.proofs.files.read_files.Goals as goal

pub returns-in-Err : goal.returns-in-Err
returns-in-Err g c =
    let within : c.loop-file.file-index < length c.loop-file.files = search rules in
    cut_there (file_seen g.S.Source.seen) c.args.files.now c.loop-file.files c.loop-file.file-index c.loop-file.contents.items (get_or c.loop-file.files c.loop-file.file-index c.file-item.result) c.add_file.new.file c.file-item.result c.in-Err.fault within refl
    c.in-Err.ensures c.loop-file.invariant

pub loop-file-preserved : goal.loop-file-preserved
loop-file-preserved g c =
    let seen = file_seen g.S.Source.seen in
    let within : c.loop-file.file-index < length c.loop-file.files = search rules in
    let (content, is, added) = c.in-Ok.ensures in
    subst (λ (l : List Content). GoingFiles seen c.args.files.now (set c.loop-file.files c.loop-file.file-index c.add_file.new.file) (c.loop-file.file-index + 1) l) (sym added)
    (read_more seen c.args.files.now c.loop-file.files c.loop-file.file-index c.loop-file.contents.items (get_or c.loop-file.files c.loop-file.file-index c.file-item.result) c.add_file.new.file c.file-item.result content within refl is c.loop-file.invariant)

pub returns : goal.returns
returns g c =
    let seen = file_seen g.S.Source.seen in
    let past : length c.loop-file.files ≤ c.loop-file.file-index = search rules in
    subst (λ (l : List Content). AreContents (map seen c.args.files.now) (map seen c.loop-file.files) l) (sym c.new.ensures)
    (all_read seen c.args.files.now c.loop-file.files c.loop-file.file-index c.loop-file.contents.items past c.loop-file.invariant)
