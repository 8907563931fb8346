-- Nothing is replaced at the places that were passed.
use Rattle.std.proofs.Common.{◌≡◌, ◌++◌, take, drop}
use Rattle.flow_commands.specs.Replace.{replaced}
use Rattle.flow_commands.proofs.replace.first_place.Given as goal

abbrev pub invariant-loop-place : goal.invariant-loop-place
invariant-loop-place g l = take l.place l.text ++ replaced (g.R.Rule.rule l.rule) (drop l.place l.text) ≡ replaced (g.R.Rule.rule l.rule) l.text
