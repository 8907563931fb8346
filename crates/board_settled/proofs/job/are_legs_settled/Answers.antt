use Rattle.std.proofs.Common.{◌≡◌, ◌+◌, ◌<◌, length, rules}
use Rattle.std.proofs.lemmas.Bool.{iff_false}
use Rattle.board_settled.specs.Words.{job_seen}
use Rattle.board_settled.proofs.Jobs.{left_leg}
use Rattle.board_settled.proofs.Loops.{ends_here, goes_on}
use Rattle.board_settled.proofs.job.are_legs_settled.Goals as goal

pub returns-then-not-branch : goal.returns-then-not-branch
returns-then-not-branch g c = λ answers are.
    let less : c.loop-place.place < length c.args.legs.now = search rules in
    let number : c.in-Some.number ≡ c.args.first + c.loop-place.place = search rules in
    ends_here (c.loop-place.invariant answers are)
    (left_leg answers (job_seen c.args.at.now) c.args.first c.args.legs.now c.requires.size c.loop-place.place c.index-legs-place.result less c.index-legs-place.is c.in-Some.number number)
    (iff_false (c.in_ok-is_leg_settled.ensures answers are) c.if-not-branch.true)

pub loop-place-preserved : goal.loop-place-preserved
loop-place-preserved g c = λ answers are.
    let less : c.loop-place.place < length c.args.legs.now = search rules in
    let number : c.in-Some.number ≡ c.args.first + c.loop-place.place = search rules in
    goes_on (c.loop-place.invariant answers are)
    (left_leg answers (job_seen c.args.at.now) c.args.first c.args.legs.now c.requires.size c.loop-place.place c.index-legs-place.result less c.index-legs-place.is c.in-Some.number number)
    ((c.in_ok-is_leg_settled.ensures answers are).0 c.if-not-branch.false)
