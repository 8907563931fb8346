use Rattle.std.proofs.Common.{◌≡◌, Some, true, false, is_some, string_bytes, sym, ◌∙◌}
use Rattle.std.proofs.lemmas.Map.Text.{hash_map_updates_text}
use Rattle.std.specs.HashMap.{get_by_text}
use Rattle.plan_assembler.specs.Index.{Notes}
use Rattle.plan_assembler.proofs.IdPlaces.{kept, noted}
use Rattle.plan_assembler.proofs.index.note.Goals as goal

pub returns-then-contains_key : goal.returns-then-contains_key
unfolding Notes
returns-then-contains_key c =
    let had : is_some (get_by_text c.args.index.now c.args.id.now) ≡ true = rw (← c.as_str.ensures) (sym c.contains_key.ensures ∙ c.if-contains_key.true) in
    kept (get_by_text c.args.index.now) c.args.id.now c.args.place had

pub returns : goal.returns
unfolding Notes
returns c =
    let had : is_some (get_by_text c.args.index.now c.args.id.now) ≡ false = rw (← c.as_str.ensures) (sym c.contains_key.ensures ∙ c.if-contains_key.false) in
    let key : string_bytes c.in_ok-id.id ≡ c.args.id.now = c.in_ok-id.ensures.ok ∙ c.as_str-2.ensures in
    noted (get_by_text c.args.index.now) (get_by_text c.insert.new.self) c.args.id.now c.args.place had
    (λ other. rw (← key) (hash_map_updates_text (string_bytes c.in_ok-id.id) c.args.index.now c.insert.new.self (Some c.args.place) c.in_ok-insert.ensures.updates other))
