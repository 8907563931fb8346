use Rattle.std.proofs.Common.{◌≡◌, map, take}
use Rattle.command_words.proofs.asked.Asking.open_all.Given as goal

-- the files so far have the names so far
abbrev pub invariant-loop-name : goal.invariant-loop-name
invariant-loop-name g l = map (λ file. file.name) l.files.items ≡ map (λ name. name.now) (take l.name-index l.names)
