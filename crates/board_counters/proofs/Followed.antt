-- What is kept beside a board after a change of it.
use Rattle.std.proofs.Common.{◌≡◌, ℕ, inl, inr, Bool, true, false, List, Option, map, slice_get, ap, subst, sym, refl, ◌∙◌, length}
use Rattle.board_counters.specs.Words.{Board, CameTo, Counts, IsCounted, IsLasting, Job, JobPlace, JobStanding, JobState, Lasting, Leg, LegPlace, LegRecounted, LegState, Need, Plan, Run, RunChange, RunLegs, RunTally, Tally, all_dependents, changed, dependents_at, failing_of, is_settled, job_failing, job_of, moved, needs_of, resettled, run_after, run_legs, run_moved, run_sizes, run_tally, sizes, standing_counted, standing_read, tallies_of, tally_of, with_job, with_leg, with_run}
use Rattle.board_counters.proofs.Lists.{changed-same, jobs-kept, map-same}
use Rattle.board_counters.proofs.Needs.{needs_follow, needs-kept, settled_in}
use Rattle.board_counters.proofs.Placed.{still_lasts}
use Rattle.board_counters.proofs.Standings.{moved_alike, read_before, read_in, runs_follow, standing_in, standing_settles}
use Rattle.board_counters.proofs.Stops.{job_told_kept}
use Rattle.status_table.proofs.Lists.{length-changed}
use Rattle.board_counters.proofs.Tallies.{ComesSo, alike_tallies, moved_same, tallied_so}

-- where a leg is counted alike, nothing is counted again
pub alike_recounted : (place : LegPlace) (was is : LegState) (run : Option Run) (dependents : List (List (List ℕ))) (counts : Counts) → ((t : Tally) → moved was is t ≡ t)
    → LegRecounted place was is run dependents counts counts
alike_recounted place was is run dependents counts alike = record {
  tallies = sym (alike_tallies place was is counts.tallies alike);
  runs = sym (changed-same counts.runs place.run (run_moved standing standing) (moved_alike standing));
  legs = refl;
  needs = sym (stays standing.is_settled);
}
  where
    standing : JobStanding
    standing = standing_counted place run counts

    stays : (c : Bool) → resettled c c place.run (dependents_at dependents (job_of place)) counts.needs ≡ counts.needs
    stays true = refl
    stays false = refl

-- so it is where it would be counted alike where it came to, and came there or nowhere
pub came_alike : (place : LegPlace) (was to is : LegState) (run : Option Run) (dependents : List (List (List ℕ))) (counts : Counts) → CameTo was to is → ((t : Tally) → moved was to t ≡ t)
    → LegRecounted place was is run dependents counts counts
came_alike place was to is run dependents counts came alike = alike_recounted place was is run dependents counts (λ t. elim came [
  | inl there ↦ ap (λ (s : LegState). moved was s t) there ∙ alike t
  | inr nowhere ↦ ap (λ (s : LegState). moved was s t) nowhere ∙ moved_same was t
])

-- the needs where a job was changed
job-needed : (p : Plan) (b new : Board) (r j : ℕ) (g : Job → Job) (was is : JobStanding) (ls : Lasting) (old made : List (List Need)) → IsLasting p b ls → old ≡ needs_of p.runs b.runs
    → new.runs ≡ changed b.runs r (λ run. record run { jobs = changed run.jobs j g }) → was ≡ standing_in (slice_get b.runs r) j → is ≡ standing_in (slice_get new.runs r) j
    → made ≡ resettled was.is_settled is.is_settled r (dependents_at ls.dependents (record { run = r; job = j })) old → made ≡ needs_of p.runs new.runs
job-needed p b new r j g was is ls old made lasts needed runs was_is is_is made_is =
    let was_settled : was.is_settled ≡ settled_in (slice_get b.runs r) j = ap (λ (s : JobStanding). s.is_settled) was_is ∙ standing_settles (slice_get b.runs r) j in
    let is_settled : is.is_settled ≡ settled_in (slice_get new.runs r) j = ap (λ (s : JobStanding). s.is_settled) is_is ∙ standing_settles (slice_get new.runs r) j in
    made_is
    ∙ (λ i. resettled (was_settled i) (is_settled i) r (dependents_at (lasts.dependents i) (record { run = r; job = j })) (needed i))
    ∙ (λ i. resettled (settled_in (slice_get b.runs r) j) (settled_in (slice_get (runs i) r) j) r (dependents_at (all_dependents p.runs (run_sizes b.runs)) (record { run = r; job = j })) (needs_of p.runs b.runs))
    ∙ needs_follow j g p.runs b.runs r
    ∙ ap (needs_of p.runs) (sym runs)

-- how the jobs stand where one was changed
jobs-stand : (b new : Board) (r j : ℕ) (g : Job → Job) (was is : JobStanding) (old made : List RunTally) → old ≡ map run_tally b.runs
    → new.runs ≡ changed b.runs r (λ run. record run { jobs = changed run.jobs j g }) → was ≡ standing_in (slice_get b.runs r) j → is ≡ standing_in (slice_get new.runs r) j
    → made ≡ changed old r (run_moved was is) → made ≡ map run_tally new.runs
jobs-stand b new r j g was is old made stand runs was_is is_is made_is =
    made_is
    ∙ (λ i. changed (stand i) r (run_moved (was_is i) ((is_is ∙ ap (λ (xs : List Run). standing_in (slice_get xs r) j) runs) i)))
    ∙ runs_follow j g b.runs r
    ∙ ap (map run_tally) (sym runs)

-- all that is kept where a leg was changed, with the counts of the legs that are told to stop
pub leg_counted : (p : Plan) (b new : Board) (place : LegPlace) (f : Leg → Leg) (was is : LegState) (old made : Counts) (legs : List RunLegs) (fs gs : List (List (List Bool))) (ls : Lasting)
    → IsCounted p b old fs ls → new ≡ with_leg b place f → ComesSo b new place was is
    → LegRecounted place was is (slice_get new.runs place.run) ls.dependents old made → legs ≡ map run_legs new.runs → gs ≡ failing_of new → IsCounted p new (record made { legs = legs }) gs ls
leg_counted p b new place f was is old made legs fs gs ls counted new_is so again told failed =
    let g : Job → Job = λ job. record job { legs = changed job.legs place.leg f } in
    let runs : new.runs ≡ (with_leg b place f).runs = ap (λ (x : Board). x.runs) new_is in
    let tallied : made.tallies ≡ tallies_of new = again.tallies ∙ tallied_so b new place f was is old.tallies counted.counted.tallied new_is so in
    let before : standing_counted place (slice_get new.runs place.run) old ≡ standing_in (slice_get b.runs place.run) place.job =
    (λ i. standing_read (slice_get (runs i) place.run) (slice_get (counted.counted.tallied i) place.run) place.job) ∙ read_before b place f in
    let after : standing_counted place (slice_get new.runs place.run) made ≡ standing_in (slice_get new.runs place.run) place.job =
    ap (λ ts. standing_read (slice_get new.runs place.run) (slice_get ts place.run) place.job) tallied ∙ read_in new place.run place.job in
    record {
      counted = record {
        tallied = tallied;
        stand = jobs-stand b new place.run place.job g _ _ old.runs made.runs counted.counted.stand runs before after again.runs;
        told = told;
        needed = job-needed p b new place.run place.job g _ _ ls old.needs made.needs counted.lasts counted.counted.needed runs before after again.needs;
      };
      failed = failed;
      lasts = still_lasts p b new ls (ap run_sizes runs ∙ jobs-kept (λ (job : Job). length job.legs) b.runs place.run place.job g (λ job. length-changed job.legs place.leg f)) counted.lasts;
    }

-- where a job came into a state
pub job_counted : (p : Plan) (b new : Board) (place : JobPlace) (state : JobState) (was is : JobStanding) (old made : Counts) (fs : List (List (List Bool))) (ls : Lasting)
    → IsCounted p b old fs ls → new ≡ with_job b place (λ job. record job { state = state })
    → was ≡ standing_read (slice_get b.runs place.run) (slice_get old.tallies place.run) place.job → is ≡ standing_read (slice_get new.runs place.run) (slice_get old.tallies place.run) place.job
    → made.tallies ≡ old.tallies → made.legs ≡ old.legs → made.runs ≡ changed old.runs place.run (run_moved was is)
    → made.needs ≡ resettled was.is_settled is.is_settled place.run (dependents_at ls.dependents place) old.needs → IsCounted p new made fs ls
job_counted p b new place state was is old made fs ls counted new_is was_is is_is tallies_is legs_is runs_is needs_is =
    let g : Job → Job = λ job. record job { state = state } in
    let runs : new.runs ≡ (with_job b place g).runs = ap (λ (x : Board). x.runs) new_is in
    let stay : old.tallies ≡ tallies_of new = counted.counted.tallied ∙ sym (jobs-kept tally_of b.runs place.run place.job g (λ job. refl)) ∙ ap tallies_of (sym new_is) in
    let before : was ≡ standing_in (slice_get b.runs place.run) place.job =
    was_is ∙ ap (λ ts. standing_read (slice_get b.runs place.run) (slice_get ts place.run) place.job) counted.counted.tallied ∙ read_in b place.run place.job in
    let after : is ≡ standing_in (slice_get new.runs place.run) place.job =
    is_is ∙ ap (λ ts. standing_read (slice_get new.runs place.run) (slice_get ts place.run) place.job) stay ∙ read_in new place.run place.job in
    record {
      counted = record {
        tallied = tallies_is ∙ stay;
        stand = jobs-stand b new place.run place.job g was is old.runs made.runs counted.counted.stand runs before after runs_is;
        told = legs_is ∙ counted.counted.told ∙ sym (job_told_kept b.runs place.run place.job g (λ job. refl) (λ job. refl)) ∙ ap (map run_legs) (sym runs);
        needed = job-needed p b new place.run place.job g was is ls old.needs made.needs counted.lasts counted.counted.needed runs before after needs_is;
      };
      failed = counted.failed ∙ sym (jobs-kept job_failing b.runs place.run place.job g (λ job. refl)) ∙ ap failing_of (sym new_is);
      lasts = still_lasts p b new ls (ap run_sizes runs ∙ jobs-kept (λ (job : Job). length job.legs) b.runs place.run place.job g (λ job. refl)) counted.lasts;
    }

jobs_stay : (how : RunChange) (run : Run) → (run_after how run).jobs ≡ run.jobs
jobs_stay (RunChange.State state) run = refl
jobs_stay how run = refl

-- where a run was changed, but not its jobs
pub run_counted : (p : Plan) (b new : Board) (r : ℕ) (how : RunChange) (counts : Counts) (fs : List (List (List Bool))) (ls : Lasting) → IsCounted p b counts fs ls
    → new ≡ with_run b r (run_after how) → IsCounted p new counts fs ls
run_counted p b new r how counts fs ls counted new_is = subst (λ (x : Board). IsCounted p x counts fs ls) (sym new_is) (record {
  counted = record {
    tallied = counted.counted.tallied ∙ sym (kept (map tally_of));
    stand = counted.counted.stand ∙ sym (map-same run_tally b.runs r (run_after how) (λ run at. ap (λ (jobs : List Job). run_tally (record run { jobs = jobs })) (jobs_stay how run)));
    told = counted.counted.told ∙ sym (map-same run_legs b.runs r (run_after how) (λ run at. ap (λ (jobs : List Job). run_legs (record run { jobs = jobs })) (jobs_stay how run)));
    needed = counted.counted.needed ∙ sym (needs-kept p.runs b.runs r (run_after how) (λ run at. ap (map is_settled) (jobs_stay how run)));
  };
  failed = counted.failed ∙ sym (kept (map job_failing));
  lasts = still_lasts p b (with_run b r (run_after how)) ls (kept sizes) counted.lasts;
})
  where
    kept : {A : Type 0} (g : List Job → A) → map (λ (run : Run). g run.jobs) (changed b.runs r (run_after how)) ≡ map (λ (run : Run). g run.jobs) b.runs
    kept g = map-same (λ (run : Run). g run.jobs) b.runs r (run_after how) (λ run at. ap g (jobs_stay how run))
