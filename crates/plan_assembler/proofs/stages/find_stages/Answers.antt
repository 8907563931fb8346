use Rattle.std.proofs.Common.{◌≡◌, ◌∙◌, ℕ, None, ap, length, replicate, arith}
use Rattle.std.proofs.lemmas.List.{take-append-le, take_all}
use Rattle.std.proofs.lemmas.Result.{IfOk-weaker}
use Rattle.plan_assembler.specs.Placing.{Settles}
use Rattle.plan_assembler.specs.Stages.{Stages}
use Rattle.plan_assembler.proofs.Placings.{started, all_settled}
use Rattle.plan_assembler.proofs.stages.find_stages.Goals as goal

pub loop-init : goal.loop-init
loop-init c = started c.args.graph.now c.in_ok-found.found.items (c.in_ok-found.ensures ∙ ap (λ (n : ℕ). replicate n None) c.len.ensures)

pub returns : goal.returns
returns c =
    let long : length c.pass.new.found ≡ c.loop.found.len = omega (arith, c.pass.auto.found, c.as_mut_slice.ensures.len) in
    let same : c.as_slice.result.now ≡ c.pass.new.found =
    c.as_slice.ensures.value ∙ take-append-le c.loop.found.len c.pass.new.found _ (omega arith) ∙ take_all c.loop.found.len c.pass.new.found (omega arith) in
    IfOk-weaker c.settled.result (Settles c.pass.new.found) (Stages c.args.graph.now) (all_settled c.args.graph.now c.pass.new.found c.pass.ensures.placing (c.pass.ensures.stuck c.loop-test.false) c.requires) (rw same at c.settled.ensures)
