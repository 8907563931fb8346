use Rattle.std.proofs.Common.{◌≤◌, List, map, sum_by, ap, sym, subst, ◌∙◌}
use Rattle.board_counters.specs.Words.{IsLasting, Run, legs_of_jobs, needs_of, run_failing, run_tally, tally_of, untold_legs}
use Rattle.board_counters.proofs.Stops.{new_few, new_told}
use Rattle.board_counters.proofs.counted.Counted.new.Goals as goal

pub count_all-requires : goal.count_all-requires
count_all-requires c =
    subst (λ (runs : List Run). sum_by (λ run. legs_of_jobs run.jobs) runs ≤ 4096) (sym c.as_slice-runs.ensures)
    (new_few c.plan-2.result.now c.in_ok-board.board c.plan-2.ensures.sound c.plan-2.ensures.rules c.in_ok-board.ensures)

pub invariant_of-result : goal.invariant_of-result
invariant_of-result c = record {
  counted = record {
    tallied = c.in_ok-counts.ensures.tallies ∙ ap (λ (runs : List Run). map (λ run. map tally_of run.jobs) runs) c.as_slice-runs.ensures;
    told = new_told c.plan-2.result.now c.in_ok-board.board c.in_ok-counts.counts.legs c.in_ok-board.ensures (c.in_ok-counts.ensures.legs ∙ ap (map untold_legs) c.as_slice-runs.ensures);
    stand = c.in_ok-counts.ensures.runs ∙ ap (map run_tally) c.as_slice-runs.ensures;
    needed = c.in_ok-counts.ensures.needs ∙ (λ i. needs_of ((c.as_slice.ensures ∙ ap (λ p. p.runs) c.plan-3.ensures.same) i) (c.as_slice-runs.ensures i));
  };
  failed = c.in_ok-failing.ensures ∙ ap (map run_failing) c.as_slice-runs.ensures;
  lasts = subst (λ p. IsLasting p c.in_ok-board.board c.in_ok-lasting.lasting) c.plan-4.ensures.same c.in_ok-lasting.ensures;
}
