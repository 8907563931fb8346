-- What was made, before what the rest becomes, is what the text becomes.
use Rattle.std.proofs.Common.{◌≡◌, ◌++◌, length, string_bytes}
use denote.Shadow.{shadow}
use denote.Text.{Utf8}
use Rattle.flow_commands.specs.Mask.{masked}
use Rattle.flow_commands.proofs.masks.mask_by_both.Given as goal

abbrev pub invariant-loop-rest : goal.invariant-loop-rest
invariant-loop-rest l = (string_bytes l.made ++ masked (l.given ++ l.own) l.rest ≡ masked (l.given ++ l.own) l.text) × shadow (Utf8 l.rest)

abbrev pub decreases-loop-rest : goal.decreases-loop-rest
decreases-loop-rest l = length l.rest
