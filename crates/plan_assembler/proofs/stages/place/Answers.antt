use Rattle.std.proofs.Common.{◌≡◌, ◌<◌, ◌∙◌, ℕ, [], true, false, List, length, get_or, map, ap, rules}
use Rattle.std.proofs.lemmas.List.{get_or_default}
use Rattle.plan_assembler.specs.Placing.{found_at, is_open, waits}
use Rattle.plan_assembler.specs.Stages.{stage_after}
use Rattle.plan_assembler.proofs.Placings.{place_one}
use Rattle.plan_assembler.proofs.stages.place.Goals as goal

pub returns-clause-placing : goal.returns-clause-placing
returns-clause-placing c =
    let g = c.args.graph.now in
    let found = c.args.found.now in
    let j = c.args.job in
    let inside : j < length c.as_slice-graph.result.now = search rules in
    let needs : c.index-graph-job.result ≡ get_or g j [] =
    c.index-graph-job.is ∙ get_or_default c.as_slice-graph.result.now j _ [] inside ∙ ap (λ (l : List (List ℕ)). get_or l j []) c.as_slice-graph.ensures in
    let free : is_open found j ≡ true = search rules in
    let ready : waits found c.index-graph-job.result ≡ false = search rules in
    place_one g found j c.stage_of.result c.requires.placing c.requires.within free (rw needs at ready) (c.stage_of.ensures ∙ ap (λ (ns : List ℕ). stage_after (map (found_at found) ns)) needs)
