use Rattle.std.proofs.Common.{◌≡◌, ℕ, List, [], IfOk, ◌∷◌, max, map, get_or, sym, ap, subst, ◌∙◌, arith}
use Rattle.std.specs.Borrow.{Bor}
use Rattle.json.specs.Token as token
use Rattle.plan_text.specs.Spelled.{SpellMembers}
use Rattle.plan_documents.specs.Fields.{documents_at}
use Rattle.plan_text.proofs.SpelledLaws.{first_key, same_text}
use Rattle.plan_text.proofs.tokens.Tuple2TokenFields.read.Goals as goal

pub returns-in-Some-Key : goal.returns-in-Some-Key
returns-in-Some-Key g c =
    let n = max g.A.FromTokens.levels g.R.TokenFields.levels in
    let documents = documents_at g.A.FromTokens.document g.R.TokenFields.documents in
    let none : Bor (List ℕ) = record { ref_ptr = (0, 0); now = [] } in
    let rest = token.end_object ∷ c.read_after.new.reader in
    let passed : c.args.reader.now ≡ token.key c.in-Some-Key.found.now ∷ c.next.new.self = grind arith in
    let found = passed ∙ ap (λ k. token.key k ∷ c.next.new.self) (same_text _ (get_or c.args.keys.now 0 none).now (sym c.if-eq.true ∙ c.eq.ensures)) in
    subst (λ ts. IfOk c.read_after.result (λ parts. SpellMembers n ts (documents (map (λ key. key.now) c.args.keys.now) parts) rest)) (sym found)
    (subst (λ keys. IfOk c.read_after.result (λ parts. SpellMembers n (token.key (get_or c.args.keys.now 0 none).now ∷ c.next.new.self) (documents keys parts) rest))
    (sym (first_key c.args.keys.now none (omega (arith, c.in-len1-up.len_at_least)))) c.read_after.ensures)
