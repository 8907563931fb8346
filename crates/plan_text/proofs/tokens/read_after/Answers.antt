use Rattle.std.proofs.Common.{refl}
use Rattle.plan_text.proofs.SpelledLaws.{spells_within, members_within, max_left, max_right}
use Rattle.plan_text.proofs.tokens.read_after.Goals as goal

pub returns : goal.returns
returns g c = (
  c.args.reader.now,
  c.next_part.new.reader,
  refl,
  spells_within _ _ _ _ _ (max_left g.A.FromTokens.levels g.R.TokenFields.levels) c.in_ok-first.ensures,
  members_within _ _ _ _ _ (max_right g.A.FromTokens.levels g.R.TokenFields.levels) c.in_ok-read.ensures,
)
