use Rattle.std.proofs.Common.{subst}
use Rattle.plan_text.specs.Load.{Gives}
use Rattle.plan_text.proofs.LoadLemmas.{load_text, load_found}
use Rattle.plan_text.proofs.plan.load_plan.Goals as goal

pub returns-clause-found : goal.returns-clause-found
returns-clause-found c = load_found c.load_bytes.result c.args.bytes.now c.load_bytes.ensures

pub returns-clause-only : goal.returns-clause-only
returns-clause-only c p h e = subst (λ answer. Gives c.load_bytes.result answer) (load_text c.args.bytes.now p h e) c.load_bytes.ensures
