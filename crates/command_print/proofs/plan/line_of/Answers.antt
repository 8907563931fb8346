use Rattle.std.proofs.Common.{◌≡◌, ℕ, List, Ok, string_bytes, subst, rules}
use Rattle.plan_text.specs.Load.{load}
use Rattle.command_print.specs.Plan.{plan_line}
use Rattle.command_print.proofs.plan.line_of.Goals as goal

pub returns : goal.returns
returns c =
    let plan = c.args.plan.now in
    let printed = c.in_ok-line.ensures in
    let line : string_bytes c.push_str.new.self ≡ plan_line plan = search rules in
    record { line = line; loads = subst (λ (text : List ℕ). load text ≡ Ok plan) printed.text printed.loads }
