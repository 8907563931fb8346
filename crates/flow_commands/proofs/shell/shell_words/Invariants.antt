-- The words so far are copied.
use Rattle.std.proofs.Common.{◌≡◌, take, map}
use Rattle.flow_commands.proofs.shell.shell_words.Given as goal

abbrev pub invariant-loop-word : goal.invariant-loop-word
invariant-loop-word l = l.made ≡ map (λ w. w.now) (take l.word-index l.from)
