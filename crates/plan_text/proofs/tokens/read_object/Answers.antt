use Rattle.std.proofs.Common.{ap, map}
use Rattle.std.proofs.lemmas.Result.{IfOk-weaker}
use Rattle.json.specs.Reads.{token_of}
use Rattle.plan_text.proofs.SpelledLaws.{object_begins}
use Rattle.plan_text.proofs.tokens.read_object.Goals as goal

pub returns : goal.returns
returns g c =
    let keys = map (λ key. key.now) c.args.keys.now in
    IfOk-weaker c.read.result _ _ (λ parts h. object_begins g.F.TokenFields.levels (g.F.TokenFields.documents keys parts) _ _ _ (ap token_of c.in-BeginObject.is) h) c.read.ensures
