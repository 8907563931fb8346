use Rattle.std.proofs.Common.{suc, ◌≤◌, length, map, ◌≡◌, ◌∷◌, ◌++◌, [], None, Some, subst, sym, ap, arith, rules}
use Rattle.json.specs.Json.{after_end_array}
use Rattle.json.specs.Reads.{token_of}
use Rattle.json.proofs.Grammar.{closed_array}
use Rattle.plan_documents.specs.Parts.{list_data}
use Rattle.plan_text.specs.Spelled.{Spells}
use Rattle.plan_text.proofs.SpelledLaws.{spells_fewer, item_step, list_spells}
use Rattle.plan_text.proofs.tokens.SequenceFromTokens.from_tokens.Goals as goal

pub loop-alloc-smaller : goal.loop-alloc-smaller
loop-alloc-smaller g c =
    let going : (after_end_array c.loop-alloc.reader ≡ None) × (c.take_end_array.new.self ≡ c.loop-alloc.reader) = grind arith in
    subst (λ us. suc (length c.next_part.new.reader) ≤ length us) going.1 (spells_fewer _ _ _ _ c.in_ok-next_part.ensures)

pub loop-alloc-preserved : goal.loop-alloc-preserved
loop-alloc-preserved g c =
    let going : (after_end_array c.loop-alloc.reader ≡ None) × (c.take_end_array.new.self ≡ c.loop-alloc.reader) = grind arith in
    let pushed : c.push.new.self.items ≡ c.loop-alloc.parts.items ++ c.in_ok-next_part.field-0 ∷ [] = search rules in
    item_step g.T.FromTokens.levels g.T.FromTokens.document c.loop-alloc.parts.items c.push.new.self.items c.in_ok-next_part.field-0 _ _ _ _
    c.loop-alloc.invariant going.1 c.in_ok-next_part.ensures pushed

pub returns : goal.returns
returns g c =
    let ended : after_end_array c.loop-alloc.reader ≡ Some c.take_end_array.new.self = grind arith in
    let document = g.T.FromTokens.document in
    subst (λ parts. Spells (suc g.T.FromTokens.levels) (token_of c.args.first ∷ c.args.reader.now) (list_data document parts) c.take_end_array.new.self) (sym c.new.ensures)
    (list_spells g.T.FromTokens.levels (map document c.loop-alloc.parts.items) _ _ _ _ (ap token_of c.in-BeginArray.is) c.loop-alloc.invariant (closed_array _ _ ended))
