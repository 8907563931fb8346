-- The longer of both is the longest of all.
use Rattle.std.proofs.Common.{◌≡◌, ap, ◌∙◌, arith}
use Rattle.flow_commands.specs.Mask.{stars}
use Rattle.flow_commands.proofs.LongestMasks.{longest_of_both}
use Rattle.flow_commands.proofs.masks.MaskingByBothRule.at.Goals as goal

pub returns-then-given-own-clause-value : goal.returns-then-given-own-clause-value
returns-then-given-own-clause-value c =
    c.stars.ensures.value
    ∙ ap stars
    (omega (
      arith,
      c.longest-given.ensures.exact,
      c.longest-own.ensures.exact,
      c.if-given-own.true,
      longest_of_both c.args.self.now.given.now c.args.self.now.own.now c.args.text.now,
    ))

pub returns-clause-value : goal.returns-clause-value
returns-clause-value c =
    c.stars-2.ensures.value
    ∙ ap stars
    (omega (
      arith,
      c.longest-given.ensures.exact,
      c.longest-own.ensures.exact,
      c.if-given-own.false,
      longest_of_both c.args.self.now.given.now c.args.self.now.own.now c.args.text.now,
    ))
