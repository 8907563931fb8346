use Rattle.std.proofs.Common.{◌≡◌, [], subst, arith}
use Rattle.plan_documents.specs.Document.{document_in}
use Rattle.plan_text.specs.Spelled.{Spells}
use Rattle.plan_text.proofs.SpelledLaws.{spelled_read}
use Rattle.plan_text.proofs.plan_tokens.read_text.Goals as goal

pub returns : goal.returns
returns c =
    let found = c.in_ok-found.found in
    let ended : c.next_part.new.reader ≡ [] = grind arith in
    let d = document_in found.1 found.0 in
    spelled_read c.args.text.now 109 d (omega arith) (subst (λ ts. Spells 109 ts d []) c.in_ok-reader.ensures.ok (subst (λ ts. Spells 109 c.in_ok-reader.reader d ts) ended c.in_ok-found.ensures))
