use Rattle.std.proofs.Common.{◌≡◌}
use Rattle.flow_model.specs.Mapping.{pairs_of}
use Rattle.plan_assembler.specs.Texts.{of_each, of_template}
use Rattle.plan_assembler.proofs.texts.outputs.Given as goal

abbrev pub invariant-loop-name : goal.invariant-loop-name
invariant-loop-name l = of_each (λ p. of_template p.1) (pairs_of l._name-iterator) ≡ of_each (λ p. of_template p.1) l.outputs
