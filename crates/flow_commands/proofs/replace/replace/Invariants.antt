-- What was made, before what the rest becomes, is what the text becomes.
use Rattle.std.proofs.Common.{◌≡◌, ◌++◌, length, string_bytes}
use denote.Shadow.{shadow}
use denote.Text.{Utf8}
use Rattle.flow_commands.specs.Replace.{replaced}
use Rattle.flow_commands.proofs.replace.replace.Given as goal

abbrev pub invariant-loop-rest : goal.invariant-loop-rest
invariant-loop-rest g l =
    (string_bytes l.made ++ replaced (g.R.Rule.rule l.rule) l.rest ≡ replaced (g.R.Rule.rule l.rule) l.text) × shadow (Utf8 l.rest)

abbrev pub decreases-loop-rest : goal.decreases-loop-rest
decreases-loop-rest g l = length l.rest
