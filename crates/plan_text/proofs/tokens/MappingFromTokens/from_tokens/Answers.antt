use Rattle.std.proofs.Common.{◌≡◌, suc, ◌∷◌, ◌++◌, [], subst, sym, ap, ◌∙◌}
use Rattle.json.specs.Reads.{token_of}
use Rattle.json.specs.Token as token
use Rattle.serde_json.specs.Data.{object, no_members, put}
use Rattle.plan_documents.specs.Parts.{pair_members}
use Rattle.plan_text.specs.Spelled.{Spells, SpellMembers}
use Rattle.plan_text.proofs.OutlineLaws.{put_pair}
use Rattle.plan_text.proofs.SpelledLaws.{member_more, object_begins, put_last}
use Rattle.plan_text.proofs.tokens.MappingFromTokens.from_tokens.Goals as goal

pub loop-token-preserved : goal.loop-token-preserved
loop-token-preserved g c =
    let ps = c.loop-token.invariant.0 in
    let document = g.V.FromTokens.document in
    let key = c.in-Key.key.now in
    let value = c.in_ok-value-in-Key.value in
    let next : c.loop-token.reader ≡ token.key key ∷ c.next.new.self = c.in-Some.ensures.value ∙ ap (λ t. token_of t ∷ c.next.new.self) c.in-Key.is in (
      ps ++ (key, document value) ∷ [],
      member_more g.V.FromTokens.levels ps key (document value) _ _ _ _ c.loop-token.invariant.1 next c.in_ok-value-in-Key.ensures,
      put_last ps key (document value) no_members ∙ ap (put key (document value)) c.loop-token.invariant.2 ∙ put_pair document key value c.loop-token.pairs
          ∙ ap (pair_members document) (sym c.in_ok-set-in-Key.ensures.ok),
    )

pub returns-in-EndObject : goal.returns-in-EndObject
returns-in-EndObject g c =
    let n = g.V.FromTokens.levels in
    let ended : c.loop-token.reader ≡ token.end_object ∷ c.next.new.self = c.in-Some.ensures.value ∙ ap (λ t. token_of t ∷ c.next.new.self) c.in-EndObject.is in
    let each = subst (λ us. SpellMembers n c.args.reader.now c.loop-token.invariant.0 us) ended c.loop-token.invariant.1 in
    subst (λ ms. Spells (suc n) (token_of c.args.first ∷ c.args.reader.now) (object ms) c.next.new.self) c.loop-token.invariant.2
    (object_begins n c.loop-token.invariant.0 _ _ _ (ap token_of c.in-BeginObject.is) each)
