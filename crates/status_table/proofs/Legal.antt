-- What each legal list of entries leads to.
use Rattle.std.proofs.Common.{◌≡◌, ℕ, List, [], ◌∷◌, Option, Some, None, Result, Ok, Err, map, option_map, length, slice_get, ap, subst, sym, refl, ◌∙◌, arith}
use Rattle.std.specs.List.{flat_map}
use Rattle.std.proofs.lemmas.Bool.{le-leb}
use Rattle.std.proofs.lemmas.Option.{slice_get-map}
use Rattle.std.proofs.lemmas.List.{length-map}
use Rattle.status_table.specs.Words.{Answers, Board, Entry, JobShape, Plain, Plan, Reply, Row, RunShape, after, after_from, board_legs, has_room, new_board, new_job, new_leg, new_run, plan_jobs, plan_legs, row, then_after, times_ended}
use Rattle.status_table.specs.declared.fault.EventFault.{EventFault}
use Rattle.status_table.proofs.Keeps.{Keeps, row_keeps}
use Rattle.status_table.proofs.Turns.{Fits}
use Rattle.status_table.proofs.Lists.{flat_map-map, zip-map, all-map}
use Rattle.board_decisions.proofs.Lists.{same_some, no_some}

-- ---- the board on which all is new

new_legs : (p : Plan) → board_legs (new_board p) ≡ map new_leg (plan_legs p)
new_legs p =
    ap (flat_map (λ job. job.legs)) (flat_map-map new_run (λ run. run.jobs) new_job (λ run. run.jobs) p.runs (λ run. refl))
    ∙ flat_map-map new_job (λ job. job.legs) new_leg (λ job. job.legs) (plan_jobs p) (λ job. refl)

new_unended : (leg : Option (List (List ℕ × Plain))) → times_ended (option_map new_leg leg) ≡ 0
new_unended None = refl
new_unended (Some combo) = refl

pub new_fits : (p : Plan) → Fits p (new_board p)
new_fits p = record {
  shape = zip-map RunShape new_run p.runs (λ run. zip-map JobShape new_job run.jobs (λ job. record {
    legs = length-map job.legs new_leg;
    steps = all-map (has_room job) new_leg job.legs (λ combo. le-leb 0 (length job.steps) (omega arith));
  }));
  ends = λ l. sym (ap (λ legs. times_ended (slice_get legs l)) (new_legs p) ∙ ap times_ended (slice_get-map new_leg (plan_legs p) l) ∙ new_unended (slice_get (plan_legs p) l));
}

-- ---- an answer, and a list of entries

pub answer_fits : (p : Plan) (b c : Board) (r : Row) (result : Result Reply EventFault) → Keeps p b r → Fits p b → Answers r b result c → Fits p c
answer_fits p b c r (Ok reply) keeps fits h = subst (Keeps p b) h keeps fits
answer_fits p b c r (Err f) keeps fits h = subst (Fits p) (sym h.1) fits

pub after_from_fits : (p : Plan) (b c : Board) (es : List Entry) → Fits p b → after_from p b es ≡ Some c → Fits p c
after_from_fits p b c [] fits h = subst (Fits p) (same_some b c h) fits
after_from_fits p b c (e ∷ es) fits h = step (λ d fit k. after_from_fits p d c es fit k) (row p b e.worker e.event) (row_keeps p b e.worker e.event) h
  where
    step : ((d : Board) → Fits p d → after_from p d es ≡ Some c → Fits p c) → (r : Row) → Keeps p b r → then_after r (λ next. after_from p next es) ≡ Some c → Fits p c
    step later (Ok x) keeps k = later x.0 (keeps fits) k
    step later (Err f) keeps k = absurd (no_some c k)

pub after_fits : (p : Plan) (es : List Entry) (b : Board) → after p es ≡ Some b → Fits p b
after_fits p es b h = after_from_fits p (new_board p) b es (new_fits p) h
