use Rattle.std.proofs.Common.{◌≡◌, Ok, ap, sym, subst, ◌∙◌}
use Rattle.status_table.specs.Words.{Answers, Done, enters, enters_held, holder, waiter}
use Rattle.status_table.proofs.groups.enter.Goals as goal

pub returns : goal.returns
returns c =
    let b = c.args.board.now in
    let group = c.in-Some.group in
    let held : c.find_member-held.result ≡ holder b group.name = c.find_member-held.ensures ∙ ap (holder b) c.as_str.ensures in
    let waited : c.find_member-waited.result ≡ waiter b group.name = c.find_member-waited.ensures ∙ ap (waiter b) c.as_str-2.ensures in
    let same : ◌≡◌ {A = Done} (enters_held b c.args.entrant.who c.args.entrant.own group c.find_member-held.result c.find_member-waited.result) (enters b c.args.entrant.who c.args.entrant.own c.args.group) =
    (λ i. enters_held b c.args.entrant.who c.args.entrant.own group (held i) (waited i)) ∙ ap (enters b c.args.entrant.who c.args.entrant.own) (sym c.in-Some.is) in
    subst (λ (d : Done). Answers (Ok d) b c.enter_held.result c.enter_held.new.board) same c.enter_held.ensures
