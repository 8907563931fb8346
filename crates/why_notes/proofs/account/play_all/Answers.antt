use Rattle.std.proofs.Common.{◌≡◌, ◌+◌, suc, ◌∷◌, drop, sym, ap, ◌∙◌, arith}
use Rattle.why_notes.proofs.Accounts.{one_more}
use Rattle.why_notes.proofs.account.play_all.Goals as goal
use Rattle.why_notes.specs.Account.{account_from}
use Rattle.flow_model.proofs.Conversions.{drop-next}
use Rattle.status_table.proofs.RunsLemmas.{after_from-next}

pub loop-place-preserved : goal.loop-place-preserved
loop-place-preserved c =
    let plan = c.args.plan.now in
    let entries = c.args.entries.now in
    let i = c.loop-place.place in
    let entry = c.index-entries-place.result in
    let old = c.loop-place.table in
    let new = c.play_noted.new.table in
    let notes = c.loop-place.notes in
    let noted = c.play_noted.new.notes in
    let more = one_more (i + 2) plan old.board new.board notes noted entry (drop (i + 1) entries) c.in_default.ensures.plays in
    let rest : drop i entries ≡ entry ∷ drop (i + 1) entries = drop-next entries i entry c.loop-place-test.true c.index-entries-place.is in
    let later : i + 1 + 2 ≡ suc (i + 2) = omega arith in
    record {
      same = c.play_noted.ensures.plan;
      left = ap (λ n. account_from n plan new.board noted (drop (i + 1) entries)) later ∙ sym more.rest
          ∙ ap (account_from (i + 2) plan old.board notes) (sym rest) ∙ c.loop-place.invariant.left;
      played = after_from-next plan c.args.table.now.board old.board new.board entries i entry c.loop-place-test.true
          c.index-entries-place.is c.loop-place.invariant.played more.played;
    }
