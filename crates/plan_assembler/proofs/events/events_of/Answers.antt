use Rattle.plan_assembler.proofs.EventNames.{listed_events}
use Rattle.plan_assembler.proofs.events.events_of.Goals as goal

pub returns : goal.returns
returns c = listed_events c.args.flows.now c.in_ok-marked.marked c.listed.result c.in_ok-marked.ensures c.listed.ensures.names c.listed.ensures.in_order
