-- The longest mask is within the text, and is text.
use Rattle.std.proofs.Common.{◌≡◌, ℕ, ◌≤◌, length, take, sym, subst}
use Rattle.std.specs.Str.{IsUtf8}
use Rattle.flow_commands.proofs.LongestMasks.{longest_is_text, longest_within}
use Rattle.flow_commands.proofs.masks.Masks.longest.Goals as goal

pub returns-clause-within : goal.returns-clause-within
returns-clause-within c =
    subst (λ (n : ℕ). n ≤ length c.args.text.now) (sym (c.longest.ensures c.self.inside.texts c.self.invariant.0))
    (longest_within c.self.inside.texts c.args.text.now)

pub returns-clause-text : goal.returns-clause-text
returns-clause-text c =
    subst (λ (n : ℕ). IsUtf8 (take n c.args.text.now)) (sym (c.longest.ensures c.self.inside.texts c.self.invariant.0))
    (longest_is_text c.self.inside.texts c.args.text.now c.self.invariant.1)
