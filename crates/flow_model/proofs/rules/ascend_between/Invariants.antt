use Rattle.std.proofs.Common.{◌≡◌, drop}
use Rattle.flow_model.specs.Rules.{ascend_between}
use Rattle.flow_model.proofs.rules.ascend_between.Given as goal

abbrev pub invariant-loop-number : goal.invariant-loop-number
invariant-loop-number l = ascend_between l.least l.high (drop l.number-index l.numbers) ≡ ascend_between l.low l.high l.numbers
