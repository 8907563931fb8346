-- The steps in which a value is computed.
use Rattle.std.specs.Prelude.{Bool, true, false, List}
use Rattle.expr_value.specs.Compare.{equals, equality_of, related}
use Rattle.expr_value.specs.Evaluate.{Answer, Chain, all_chain, begun, conjunction, disjunction, ended, opposite_value, property_chain, then_value, truth_answer}
use Rattle.expr_value.specs.PlainKind.{PlainKind, kind_of}
use Rattle.expr_value.specs.declared.evaluate.Last.{Last}
use Rattle.expr_value.specs.declared.evaluate.Last.TheVariants.{Property, Contents, Group, Opposite}
use Rattle.expr_value.specs.declared.evaluate.Test.{Test}
use Rattle.expr_value.specs.declared.evaluate.Test.TheVariants.{Relation, Equality}
use Rattle.flow_model.specs.Plain.{Plain}

-- An operand with what follows it, or stands round it.
abbrev pub completed : Last → Chain → Chain
completed (Property name) x = property_chain name.now x
completed Contents x = all_chain x
completed Group x = begun (ended x)
completed Opposite x = begun (then_value (ended x) opposite_value)

-- Whether two values pass a test, by what they are.
abbrev pub test_kinds : Test → PlainKind → PlainKind → Answer
test_kinds (Relation r) a b = truth_answer (related r a b)
test_kinds (Equality q) a b = truth_answer (equality_of q (equals a b))

-- Whether two values pass a test.
abbrev pub test_value : Test → Plain → Plain → Answer
test_value test v w = test_kinds test (kind_of v) (kind_of w)

-- The first value that is so true as is asked for, or the last one.
abbrev pub first_of : Bool → Plain → List Answer → Answer
first_of false = conjunction
first_of true = disjunction
