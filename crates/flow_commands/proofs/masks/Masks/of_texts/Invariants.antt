-- The texts so far are masks.
use Rattle.std.proofs.Common.{◌≡◌, take}
use Rattle.flow_commands.proofs.masks.Masks.of_texts.Given as goal

abbrev pub invariant-loop-text : goal.invariant-loop-text
invariant-loop-text l = l.masks ≡ take l.text-index l.texts
