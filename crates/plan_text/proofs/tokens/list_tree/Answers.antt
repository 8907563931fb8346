use Rattle.std.proofs.Common.{suc, ◌≤◌, length, map, ◌≡◌, ◌∷◌, ◌++◌, [], None, Some, refl, subst, sym, arith, rules}
use Rattle.json.specs.Json.{after_end_array}
use Rattle.json.specs.Token as token
use Rattle.json.proofs.Grammar.{closed_array}
use Rattle.serde_json.specs.View.{view}
use Rattle.serde_json.proofs.Views.{view-Array}
use Rattle.plan_text.specs.Spelled.{Spells}
use Rattle.plan_text.proofs.SpelledLaws.{spells_fewer, item_step, list_spells}
use Rattle.plan_text.proofs.tokens.list_tree.Goals as goal

pub loop-alloc-smaller : goal.loop-alloc-smaller
loop-alloc-smaller c =
    let going : (after_end_array c.loop-alloc.reader ≡ None) × (c.take_end_array.new.self ≡ c.loop-alloc.reader) = grind arith in
    subst (λ us. suc (length c.next_tree.new.reader) ≤ length us) going.1 (spells_fewer _ _ _ _ c.in_ok-next_tree.ensures)

pub loop-alloc-preserved : goal.loop-alloc-preserved
loop-alloc-preserved c =
    let going : (after_end_array c.loop-alloc.reader ≡ None) × (c.take_end_array.new.self ≡ c.loop-alloc.reader) = grind arith in
    let pushed : c.push.new.self.items ≡ c.loop-alloc.trees.items ++ c.in_ok-next_tree.field-0 ∷ [] = search rules in
    item_step 99 view c.loop-alloc.trees.items c.push.new.self.items c.in_ok-next_tree.field-0 _ _ _ _ c.loop-alloc.invariant going.1 c.in_ok-next_tree.ensures pushed

pub returns : goal.returns
returns c =
    let ended : after_end_array c.loop-alloc.reader ≡ Some c.take_end_array.new.self = grind arith in
    subst (λ d. Spells 100 (token.begin_array ∷ c.args.reader.now) d c.take_end_array.new.self) (sym (view-Array c.loop-alloc.trees))
    (list_spells 99 (map view c.loop-alloc.trees.items) _ _ _ _ refl c.loop-alloc.invariant (closed_array _ _ ended))
