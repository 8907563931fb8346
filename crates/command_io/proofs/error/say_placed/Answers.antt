use Rattle.std.proofs.Common.{ℕ, List, ◌++◌, ap, codes}
use Rattle.command_io.proofs.Told.{Puts-as}
use Rattle.command_io.proofs.error.say_placed.Goals as goal

pub returns : goal.returns
returns g c =
    Puts-as _ _ _ _ _ c.put_parts.ensures
    (ap (λ (digits : List ℕ). codes "actrun: expr " ++ (c.args.name.now ++ (codes " at " ++ (digits ++ codes "\n")))) c.format.ensures.text)
