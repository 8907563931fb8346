-- Changes that come to the same: an item that is put back, and a leg that is displaced in two steps.
use Rattle.std.proofs.Common.{◌≡◌, ℕ, List, Option, Some, None, Result, Ok, Err, OnErr, slice_get, slice_set, ap, sym, refl, ◌∙◌}
use Rattle.std.proofs.lemmas.List.{set-get_or}
use Rattle.std.proofs.lemmas.Option.{get_or_from_slice_get}
use Rattle.status_table.specs.Words.{Board, Job, Leg, LegPlace, Member, Run, displaced, noted, put_out, waits}

pub slice_set-slice_get : {T : Type 0} (xs : List T) (i : ℕ) (x : T) → slice_get xs i ≡ Some x → slice_set xs i x ≡ xs
slice_set-slice_get {T} xs i x h = ap (λ (y : T). slice_set xs i y) (sym (get_or_from_slice_get xs i x x h)) ∙ set-get_or xs i x

pub OnErr-always : {T E P : Type 0} (r : Result T E) → P → OnErr r P
OnErr-always (Ok x) p = tt
OnErr-always (Err e) p = p

-- a board with a leg put back as it was
pub leg_kept : (b : Board) (at : LegPlace) (run : Run) (job : Job) (leg put : Leg) → slice_get b.runs at.run ≡ Some run → slice_get run.jobs at.job ≡ Some job
    → slice_get job.legs at.leg ≡ Some leg → put ≡ leg
    → record b { runs = slice_set b.runs at.run (record run { jobs = slice_set run.jobs at.job (record job { legs = slice_set job.legs at.leg put }) }) } ≡ b
leg_kept b at run job leg put in_runs in_jobs in_legs same =
    let legs : slice_set job.legs at.leg put ≡ job.legs = ap (λ (l : Leg). slice_set job.legs at.leg l) same ∙ slice_set-slice_get job.legs at.leg leg in_legs in
    let jobs : slice_set run.jobs at.job (record job { legs = slice_set job.legs at.leg put }) ≡ run.jobs =
    ap (λ (ls : List Leg). slice_set run.jobs at.job (record job { legs = ls })) legs ∙ slice_set-slice_get run.jobs at.job job in_jobs in
    ap (λ (js : List Job). record b { runs = slice_set b.runs at.run (record run { jobs = js }) }) jobs
    ∙ ap (λ (rs : List Run). record b { runs = rs }) (slice_set-slice_get b.runs at.run run in_runs)

-- To note first that a leg ended, and to put it out after another began to wait, is to displace it.
pub put_out_noted : (b : Board) (name : List ℕ) (who : Member) (waited : Option Member) → put_out (waits (noted b waited) name who) waited ≡ displaced (waits b name who) waited
put_out_noted b name who None = refl
put_out_noted b name who (Some (Member.Run r)) = refl
put_out_noted b name (Member.Run s) (Some (Member.Leg l)) = refl
put_out_noted b name (Member.Leg k) (Some (Member.Leg l)) = refl
