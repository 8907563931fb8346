use Rattle.std.proofs.Common.{◌≡◌, ◌+◌, Bool, false, ◌∷◌, drop, sym, ◌∙◌}
use Rattle.status_table.specs.Words.{Run, run_standing}
use Rattle.status_table.specs.Seen.{has_role}
use Rattle.flow_model.proofs.Conversions.{drop-next}
use Rattle.status_table.proofs.Standings.{first_next}
use Rattle.status_table.proofs.members.find_run.Goals as goal

pub loop-place-preserved : goal.loop-place-preserved
loop-place-preserved c =
    let runs = c.args.runs.now in
    let i = c.loop-place.place in
    let run : Run = c.index-runs-place.result in
    let test : Run → Bool = λ x. has_role c.args.role c.args.name.now (run_standing x) in
    let rest : drop i runs ≡ run ∷ drop (i + 1) runs = drop-next runs i run c.loop-place-test.true c.index-runs-place.is in
    let no : test run ≡ false = sym c.has_run_role.ensures ∙ c.if-has_run_role.false in
    first_next test runs i run _ rest no c.loop-place.invariant
