use Rattle.std.proofs.Common.{List, ℕ, codes, [], ◌∷◌, ap, arith}
use Rattle.json.specs.Reads.{token_of}
use Rattle.json.specs.Token as token
use Rattle.serde_json.specs.Data.{Data, string}
use Rattle.flow_model.specs.Json.{json_of}
use Rattle.plan_documents.specs.Document.{flag_data, work_data}
use Rattle.plan_documents.specs.Parts.{map_data, optional_data}
use Rattle.plan_text.proofs.SpelledLaws.{member_then, object_begins}
use Rattle.plan_text.proofs.plan_tokens.StepPlanFromTokens.from_tokens.Goals as goal

pub returns : goal.returns
returns c =
    let condition = optional_data string c.in_ok-condition.condition in
    let env = map_data json_of c.in_ok-env.env in
    let id = optional_data string c.in_ok-id.id in
    let name = optional_data string c.in_ok-name.name in
    let tolerate = flag_data c.in_ok-tolerate.tolerate in
    let work : List (List ℕ × Data) = (codes "work", work_data c.in_ok-work.work) ∷ [] in
    let from_tolerate = (codes "tolerate", tolerate) ∷ work in
    let from_name = (codes "name", name) ∷ from_tolerate in
    let from_id = (codes "id", id) ∷ from_name in
    let from_env = (codes "env", env) ∷ from_id in
    let rest = token.end_object ∷ c.end_object.new.reader in
    object_begins 102 ((codes "condition", condition) ∷ from_env) _ _ _ (ap token_of c.in-BeginObject.is)
    (member_then 0 102 (codes "condition") condition from_env rest _ _ (omega arith) c.in_ok-condition.ensures
    (member_then 101 102 (codes "env") env from_id rest _ _ (omega arith) c.in_ok-env.ensures
    (member_then 0 102 (codes "id") id from_name rest _ _ (omega arith) c.in_ok-id.ensures
    (member_then 0 102 (codes "name") name from_tolerate rest _ _ (omega arith) c.in_ok-name.ensures
    (member_then 0 102 (codes "tolerate") tolerate work rest _ _ (omega arith) c.in_ok-tolerate.ensures
    (member_then 102 102 (codes "work") (work_data c.in_ok-work.work) [] rest _ _ (omega arith) c.in_ok-work.ensures c.in_ok-end_object.ensures))))))
