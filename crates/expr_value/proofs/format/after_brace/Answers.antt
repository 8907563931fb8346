use Rattle.std.proofs.lemmas.Str.Pattern.{strip_prefix_char}
use Rattle.expr_value.proofs.format.after_brace.Goals as goal

pub returns : goal.returns
returns c = strip_prefix_char c.args.brace c.args.text.now _ c.strip_prefix.ensures.cases c.requires
