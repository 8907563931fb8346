-- With no mask the text stays as it is.
use Rattle.std.proofs.Common.{◌≡◌, ◌==◌, ◌++◌, ℕ, true, List, length, string_bytes, sym, ap, ◌∙◌}
use Rattle.std.proofs.lemmas.Result.{IfOk-weaker}
use Rattle.flow_commands.specs.Mask.{masked}
use Rattle.flow_commands.proofs.LongestMasks.{nothing_masked_by_both}
use Rattle.flow_commands.proofs.masks.mask_first.Goals as goal

pub returns-clause-made : goal.returns-clause-made
returns-clause-made c =
    let given : (length c.args.given.now == 0) ≡ true = sym c.is_empty-2.ensures ∙ c.if-not-is_empty-2.false in
    let own : (length c.args.own.now == 0) ≡ true = sym c.is_empty.ensures ∙ c.if-not-is_empty.false in
    let same : (t : List ℕ) → masked (c.args.given.now ++ c.args.own.now) t ≡ t = λ t. nothing_masked_by_both c.args.given.now c.args.own.now t given own in
    IfOk-weaker c.push_first.result _ _
    (λ rest h. ap (λ (t : List ℕ). string_bytes c.push_first.new.made ++ t) (same rest.now) ∙ h
    ∙ ap (λ (t : List ℕ). string_bytes c.args.made.now ++ t) (sym (same c.args.text.now)))
    c.push_first.ensures.made
