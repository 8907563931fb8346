use Rattle.std.proofs.Common.{◌≡◌, List, rules, subst, sym}
use Rattle.std.specs.Prelude.{not}
use Rattle.std.proofs.lemmas.Fn.{filter_same}
use Rattle.debugger.specs.declared.breaks.Break.{Break}
use Rattle.debugger.specs.Breaks.{ClearsAlone, same_break, without_break}
use Rattle.debugger.proofs.Together.{clears-alone}
use Rattle.debugger.proofs.breaks.clear.Goals as goal

left : (c : goal.After-retain) → c.retain.new.self.items ≡ without_break c.args.cleared c.args.breaks.now.items
left c = filter_same _ (λ (b : Break). not (same_break b c.args.cleared)) _ (λ b answer f t. search rules) _ _ c.retain.ensures.filtered

pub returns-clause-left : goal.returns-clause-left
returns-clause-left c = left c

pub returns-clause-alone : goal.returns-clause-alone
returns-clause-alone c =
    subst (λ (bs : List Break). ClearsAlone c.args.cleared c.args.breaks.now.items bs) (sym (left c)) (clears-alone c.args.cleared c.args.breaks.now.items)
