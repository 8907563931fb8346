use Rattle.std.proofs.Common.{◌≢◌, codes, rules}
use Rattle.command_debug.proofs.Asked.{no_break}
use Rattle.command_debug.proofs.requests.break_named.Goals as goal

pub returns-in-None : goal.returns-in-None
returns-in-None c =
    let failed : c.args.name.now ≢ codes "failed" = search rules in
    no_break c.args.name.now failed c.in_default.ensures c.in_default-number_after.ensures c.in-None.ensures
