-- No mask begins with a byte that is not listed.
use Rattle.std.proofs.Common.{false, get_or, sym, ap, ◌∙◌}
use Rattle.flow_commands.proofs.MaskTrees.{none_at_end, none_unlisted}
use Rattle.flow_commands.proofs.mask_tree.MaskTree.longest.Goals as goal

pub returns-in_default : goal.returns-in_default
returns-in_default c masks tree = sym (none_at_end masks c.args.text.now c.in_default.ensures.value)

pub returns : goal.returns
returns c masks tree =
    sym (none_unlisted tree.nodes c.args.text.now c.in-Some.first.now c.in-Some.ensures.value
    (tree.firsts c.in-Some.first.now (ap (λ n. get_or c.args.self.now.firsts n false) (sym c.from.ensures) ∙ c.if-self-from.false)))
