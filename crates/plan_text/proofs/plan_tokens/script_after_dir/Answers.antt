use Rattle.std.proofs.Common.{List, ℕ, codes, [], ◌∷◌, refl, arith}
use Rattle.json.specs.Token as token
use Rattle.serde_json.specs.Data.{Data, string}
use Rattle.plan_documents.specs.Document.{shell_data}
use Rattle.plan_documents.specs.Parts.{optional_data}
use Rattle.plan_text.proofs.SpelledLaws.{member_then, object_spells, within_102}
use Rattle.plan_text.proofs.plan_tokens.script_after_dir.Goals as goal

pub returns : goal.returns
returns c =
    let dir = optional_data string c.in_ok-dir.dir in
    let kind = string (codes "run") in
    let script = string c.in_ok-run.run' in
    let shell : List (List ℕ × Data) = (codes "shell", shell_data c.in_ok-shell.shell) ∷ [] in
    let from_run = (codes "run", script) ∷ shell in
    let from_kind = (codes "kind", kind) ∷ from_run in
    let rest = token.end_object ∷ c.end_object.new.reader in
    within_102 _ _ _ (object_spells 0 ((codes "dir", dir) ∷ from_kind) _ _ (
      _,
      _,
      refl,
      c.in_ok-dir.ensures,
      member_then 0 0 (codes "kind") kind from_run rest _ _ (omega arith) c.in_ok-next_member.ensures
          (member_then 0 0 (codes "run") script shell rest _ _ (omega arith) c.in_ok-run.ensures
          (member_then 0 0 (codes "shell") (shell_data c.in_ok-shell.shell) [] rest _ _ (omega arith) c.in_ok-shell.ensures c.in_ok-end_object.ensures)),
    ))
