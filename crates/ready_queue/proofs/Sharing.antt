-- No name is lost: a split divides the names between both passes, and a join puts them together.
use Rattle.std.proofs.Common.{◌≡◌, List, [], ◌∷◌, refl, sym, ap, ◌∙◌, subst, arith}
use Rattle.ready_queue.specs.Records.{keepers, DividesNames}
use Rattle.ready_queue.specs.Steps.{after_split, split_off, joined}
use Rattle.ready_queue.specs.declared.record.Record.{Record}
use Rattle.ready_queue.proofs.Naming.{keeps_split}
use Rattle.ready_queue.proofs.Totals.{keepers_append}

split_divides : (v : List Record) → DividesNames v (after_split v) (split_off v)
split_divides [] name = refl
split_divides (own ∷ rest) name = let both = keeps_split own.name own.splits name in omega arith

pub names_split : (v left right : List Record) → left ≡ after_split v → right ≡ split_off v → DividesNames v left right
names_split v left right e d = subst (λ (y : List Record × List Record). DividesNames v y.0 y.1) (λ i. (sym e i, sym d i)) (split_divides v)

pub names_joined : (v w both : List Record) → both ≡ joined v w → DividesNames both v w
names_joined v w both e name = sym (ap (keepers name) e ∙ keepers_append name v w)
