use Rattle.std.proofs.Common.{sym, ◌∙◌, true≢false}
use Rattle.flow_model.proofs.JsonTexts.{json_read-some, json_read-none}
use Rattle.flow_model.proofs.json_text.read_json.Goals as goal

pub returns-in-Ok : goal.returns-in-Ok
returns-in-Ok c = sym (json_read-some c.args.bytes.now _ c.in-Ok.ensures.ok.0 c.in-Ok.ensures.ok.1)

pub returns-else-is_memory : goal.returns-else-is_memory
returns-else-is_memory c =
    sym (json_read-none c.args.bytes.now (c.in-Err.ensures.err (λ m. true≢false (sym (c.is_memory.ensures.1 m) ∙ c.if-is_memory.false))))
