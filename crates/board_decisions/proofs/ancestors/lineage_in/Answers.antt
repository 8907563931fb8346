use Rattle.std.proofs.Common.{◌≡◌, ◌+◌, ◌∷◌, [], List, Some, length, slice_get, refl, ap, sym, subst, ◌∙◌, arith}
use Rattle.std.proofs.lemmas.List.{length-append}
use Rattle.std.proofs.lemmas.Option.{slice_get_read}
use Rattle.board_decisions.specs.Ancestors.{lineage_in, lineage_of}
use Rattle.board_decisions.specs.declared.ancestors.Lineage.{Lineage}
use Rattle.board_decisions.proofs.Lineages.{Found, found_here, found_more}
use Rattle.board_decisions.proofs.ancestors.lineage_in.Goals as goal

pub returns-then-len-place : goal.returns-then-len-place
returns-then-len-place c =
    let first = c.args.first in
    let jobs = c.args.jobs.now in
    let results = c.args.results.now in
    let k = c.loop-job.job-index in
    let job = c.job-item.result in
    let lineages = c.loop-job.lineages.items in
    let there : slice_get jobs k ≡ Some job = slice_get_read jobs (length jobs) k job refl c.loop-job-test.true c.job-item.is in
    let is : c.lineage_of-lineage.result ≡ lineage_of first results lineages job =
    c.lineage_of-lineage.ensures ∙ ap (λ (ls : List Lineage). lineage_of first results ls job) c.as_slice.ensures.value in
    let size = c.loop-job.invariant.size in
    let len = c.len.ensures in
    let reached = c.if-len-place.true in
    let here : k ≡ c.args.place = omega (arith, size, len, reached) in
    is ∙ found_here first jobs c.requires.back results lineages k job there c.loop-job-test.true c.loop-job.invariant.found ∙ ap (lineage_in first jobs results) here

pub loop-job-preserved : goal.loop-job-preserved
loop-job-preserved c =
    let first = c.args.first in
    let jobs = c.args.jobs.now in
    let results = c.args.results.now in
    let k = c.loop-job.job-index in
    let job = c.job-item.result in
    let lineages = c.loop-job.lineages.items in
    let lineage = c.lineage_of-lineage.result in
    let there : slice_get jobs k ≡ Some job = slice_get_read jobs (length jobs) k job refl c.loop-job-test.true c.job-item.is in
    let is : lineage ≡ lineage_of first results lineages job =
    c.lineage_of-lineage.ensures ∙ ap (λ (ls : List Lineage). lineage_of first results ls job) c.as_slice.ensures.value in
    let longer = length-append lineages (lineage ∷ []) in
    let pushed = ap length c.in_ok-push.ensures.items in
    let size = c.loop-job.invariant.size in
    let before = c.loop-job.invariant.before in
    let len = c.len.ensures in
    let further = c.if-len-place.false in
    record {
      size = omega (arith, longer, pushed, size);
      before = omega (arith, size, before, len, further);
      found = subst (λ (ls : List Lineage). Found first jobs results ls (k + 1)) (sym c.in_ok-push.ensures.items)
          (found_more first jobs c.requires.back results lineages k job there c.loop-job-test.true c.loop-job.invariant.found lineage size is);
    }
