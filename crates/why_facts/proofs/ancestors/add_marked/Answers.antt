use Rattle.std.proofs.Common.{◌≡◌, ◌-◌, ◌++◌, ℕ, suc, ap, sym, ◌∙◌, append_assoc, arith}
use Rattle.why_facts.proofs.ancestors.add_marked.Goals as goal
use Rattle.why_facts.specs.Ancestors.{unsuccessful_at, marks_after, unsuccessful}

pub loop-left-preserved : goal.loop-left-preserved
loop-left-preserved c =
    let first = c.args.first in
    let jobs = c.as_slice-jobs.result.now in
    let run = c.args.at.now.run.now in
    let out = c.loop-left.out.items in
    let marks = c.loop-left.marks in
    let some = c.loop-left-test.true in
    let k = c.loop-left.left - 1 in
    let more : c.loop-left.left ≡ suc k = omega (arith, some) in
    (λ j. c.in_ok-add_at.ensures j ++ unsuccessful first jobs run k (c.hand_on.ensures j))
    ∙ append_assoc out (unsuccessful_at first run marks k) (unsuccessful first jobs run k (marks_after first jobs run marks k))
    ∙ sym (ap (λ (n : ℕ). out ++ unsuccessful first jobs run n marks) more)
    ∙ c.loop-left.invariant
