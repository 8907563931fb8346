use Rattle.std.proofs.Common.{◌≡◌, ◌∷◌, ◌++◌, [], refl, subst, sym, ap, ◌∙◌}
use Rattle.json.specs.Reads.{token_of}
use Rattle.json.specs.Token as token
use Rattle.serde_json.specs.Data.{object, no_members, put}
use Rattle.serde_json.specs.View.{view}
use Rattle.serde_json.proofs.Views.{view-Object}
use Rattle.plan_text.specs.Spelled.{Spells, SpellMembers}
use Rattle.plan_text.proofs.SpelledLaws.{member_more, object_begins, put_last}
use Rattle.plan_text.proofs.tokens.map_tree.Goals as goal

pub loop-token-preserved : goal.loop-token-preserved
loop-token-preserved c =
    let ps = c.loop-token.invariant.0 in
    let key = c.in-Key.key.now in
    let d = view c.in_ok-tree-in-Key.tree in
    let next : c.loop-token.reader ≡ token.key key ∷ c.next.new.self = c.in-Some.ensures.value ∙ ap (λ t. token_of t ∷ c.next.new.self) c.in-Key.is in (
      ps ++ (key, d) ∷ [],
      member_more 99 ps key d _ _ _ _ c.loop-token.invariant.1 next c.in_ok-tree-in-Key.ensures,
      put_last ps key d no_members ∙ ap (put key d) c.loop-token.invariant.2 ∙ sym c.in_ok-put-in-Key.ensures.ok,
    )

pub returns-in-EndObject : goal.returns-in-EndObject
returns-in-EndObject c =
    let ended : c.loop-token.reader ≡ token.end_object ∷ c.next.new.self = c.in-Some.ensures.value ∙ ap (λ t. token_of t ∷ c.next.new.self) c.in-EndObject.is in
    let each = subst (λ us. SpellMembers 99 c.args.reader.now c.loop-token.invariant.0 us) ended c.loop-token.invariant.1 in
    subst (λ d. Spells 100 (token.begin_object ∷ c.args.reader.now) d c.next.new.self) (sym (view-Object c.loop-token.trees))
    (subst (λ ms. Spells 100 (token.begin_object ∷ c.args.reader.now) (object ms) c.next.new.self) c.loop-token.invariant.2
    (object_begins 99 c.loop-token.invariant.0 _ _ _ refl each))
