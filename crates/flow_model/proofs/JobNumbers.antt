-- Where the jobs of a run stand among all jobs, and what a sound plan says of their numbers.
use Rattle.std.proofs.Common.{◌≡◌, ◌+◌, ◌<◌, ◌≤◌, ℕ, zero, suc, List, [], ◌∷◌, ◌++◌, length, take, Some, slice_get, ap, sym, subst, ◌∙◌, arith, length-append}
use Rattle.std.specs.List.{flat_map}
use Rattle.flow_model.specs.Numbers.{first_job}
use Rattle.flow_model.specs.Rules.{IsPlan}
use Rattle.flow_model.specs.Sound.{TestsTell, Each}
use Rattle.flow_model.specs.declared.plan.JobPlan.{JobPlan}
use Rattle.flow_model.specs.declared.plan.Plan.{Plan}
use Rattle.flow_model.specs.declared.plan.RunPlan.{RunPlan}
use Rattle.flow_model.proofs.Places.{same_Some, slice_get-append_left, slice_get-append_right}
use Rattle.flow_model.proofs.SoundRules.{plan_sound}

pub jobs_follow : (rs : List RunPlan) (r i : ℕ) (run : RunPlan) (job : JobPlan) → slice_get rs r ≡ Some run → slice_get run.jobs i ≡ Some job
    → slice_get (flat_map (λ x. x.jobs) rs) (length (flat_map (λ x. x.jobs) (take r rs)) + i) ≡ Some job
jobs_follow [] r i run job er ej = absurd (cc)
jobs_follow (x ∷ rs) zero i run job er ej =
    let all = flat_map (λ y. y.jobs) (x ∷ rs) in
    let own : slice_get x.jobs i ≡ Some job = subst (λ (y : RunPlan). slice_get y.jobs i ≡ Some job) (sym (same_Some er)) ej in
    let place : length (flat_map (λ y. y.jobs) (take 0 (x ∷ rs))) + i ≡ i = omega arith in
    ap (slice_get all) place ∙ slice_get-append_left x.jobs (flat_map (λ y. y.jobs) rs) i job own
jobs_follow (x ∷ rs) (suc r) i run job er ej =
    let before = flat_map (λ y. y.jobs) (take r rs) in
    let rest = flat_map (λ y. y.jobs) rs in
    let split = length-append x.jobs before in
    let place : length (x.jobs ++ before) + i ≡ length x.jobs + (length before + i) = omega (arith, split) in
    ap (slice_get (x.jobs ++ rest)) place ∙ slice_get-append_right x.jobs rest (length before + i) ∙ jobs_follow rs r i run job er ej

pub needs_back : TestsTell → (p : Plan) → IsPlan p → (r i : ℕ) (run : RunPlan) (job : JobPlan) → slice_get p.runs r ≡ Some run → slice_get run.jobs i ≡ Some job
    → (job.number ≡ first_job p r + i) × Each (λ need. (first_job p r ≤ need) × (need < first_job p r + i)) job.needs
needs_back tests p h r i run job er ej =
    let s = plan_sound tests p h in
    let numbered : (k : ℕ) (other : JobPlan) → slice_get run.jobs k ≡ Some other → other.number ≡ first_job p r + k =
    λ k other e. s.numbers (first_job p r + k) other (jobs_follow p.runs r k run other er e) in (
      numbered i job ej,
      λ k need en.
          let earlier = (s.runs r run er).needs i job ej k need en in
          let number = numbered earlier.0 earlier.1 earlier.3 in
          (omega (arith, number, earlier.4), omega (arith, number, earlier.4, earlier.2)),
    )
