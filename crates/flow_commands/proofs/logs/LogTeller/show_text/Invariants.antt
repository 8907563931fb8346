-- What is shown so far, before what is shown of the rest, is what was shown before and what is shown of the text.
use Rattle.std.proofs.Common.{◌≡◌, ◌++◌, length, string_bytes}
use denote.Shadow.{shadow}
use denote.Text.{Utf8}
use Rattle.flow_commands.specs.Mask.{masked}
use Rattle.flow_commands.proofs.logs.LogTeller.show_text.Given as goal

abbrev pub invariant-loop-rest : goal.invariant-loop-rest
invariant-loop-rest l =
    (string_bytes l.self.shown ++ masked (l.given ++ l.fn.self.masks) l.rest ≡ string_bytes l.fn.self.shown ++ masked (l.given ++ l.fn.self.masks) l.text)
    × (l.self.masks ≡ l.fn.self.masks) × (l.self.stop ≡ l.fn.self.stop) × shadow (Utf8 l.rest)

abbrev pub decreases-loop-rest : goal.decreases-loop-rest
decreases-loop-rest l = length l.rest
