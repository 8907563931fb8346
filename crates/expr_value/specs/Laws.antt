-- Laws of equality and of the relations.
use Rattle.std.specs.Prelude.{◌≡◌, Bool, not, Result, Ok, Err}
use Rattle.expr_reader.specs.declared.tree.Relation.{Relation}
use Rattle.expr_reader.specs.declared.tree.Relation.TheVariants.{Less, AtMost, Greater, AtLeast}
use Rattle.flow_model.specs.declared.reply.ValueFault.{ValueFault}

-- One answer is the opposite of the other, or both are the same fault.
abbrev pub AreOpposite : Result Bool ValueFault → Result Bool ValueFault → Type 0
AreOpposite (Ok one) other = other ≡ Ok (not one)
AreOpposite (Err fault) other = other ≡ Err fault

-- The relation that is read from right to left.
abbrev pub mirror : Relation → Relation
mirror Less = Greater
mirror AtMost = AtLeast
mirror Greater = Less
mirror AtLeast = AtMost
