use Rattle.std.proofs.Common.{◌≡◌, Ok, Some, None, Option, ap, sym, subst, ◌∙◌}
use Rattle.flat_board.specs.Words.{Done, EntersNamed, Entrance, Held, Member, Moved, after_enter, content, entered, enters, enters_held, fold, holder, option_and_then, option_map, value_at, waiter}
use Rattle.flat_board.proofs.grouped_board.GroupedBoard.enter.Goals as goal

pub enter_held-requires-clause-held : goal.enter_held-requires-clause-held
enter_held-requires-clause-held c =
    let groups = content c.args.self.now.groups in
    let named = subst EntersNamed c.in-Some.is c.requires.named in
    ap (λ n. value_at n groups) (sym (ap fold c.as_str.ensures ∙ named.folded)) ∙ sym c.held.ensures ∙ c.in-Some-held.is

pub enter_free-requires-clause-free : goal.enter_free-requires-clause-free
enter_free-requires-clause-free c =
    let groups = content c.args.self.now.groups in
    let named = subst EntersNamed c.in-Some.is c.requires.named in
    ap (λ n. value_at n groups) (sym (ap fold c.as_str.ensures ∙ named.folded)) ∙ sym c.held.ensures ∙ c.in-None.is

pub returns-in-Some-held : goal.returns-in-Some-held
returns-in-Some-held c =
    let b = c.args.self.now.state.board in
    let groups = content c.args.self.now.groups in
    let entrant = c.args.entrant in
    let group = c.in-Some.group in
    let named = subst EntersNamed c.in-Some.is c.requires.named in
    let there : Some c.in-Some-held.held ≡ value_at group.name groups =
    sym c.in-Some-held.is ∙ c.held.ensures ∙ ap (λ n. value_at n groups) (ap fold c.as_str.ensures ∙ named.folded) in
    let held : Some c.in-Some-held.held.holder ≡ holder b group.name =
    ap (option_map (λ (h : Held). h.holder)) there ∙ c.requires.kept.shown.holder group.name named.some in
    let waited : c.in-Some-held.held.waiter ≡ waiter b group.name =
    ap (option_and_then (λ (h : Held). h.waiter)) there ∙ c.requires.kept.shown.waiter group.name named.some in
    subst (λ (g : Option Entrance). Moved c.args.self.now c.enter_held.new.self (Ok (enters b entrant.who entrant.own g)) (entered entrant.who entrant.own g groups) c.enter_held.result) (sym c.in-Some.is)
    (subst (λ (d : Done). Moved c.args.self.now c.enter_held.new.self (Ok d) (after_enter group.name entrant.who entrant.own groups) c.enter_held.result)
    (λ i. enters_held b entrant.who entrant.own group (held i) (waited i)) c.enter_held.ensures)

pub returns-in-None : goal.returns-in-None
returns-in-None c =
    let b = c.args.self.now.state.board in
    let groups = content c.args.self.now.groups in
    let entrant = c.args.entrant in
    let group = c.in-Some.group in
    let named = subst EntersNamed c.in-Some.is c.requires.named in
    let there : ◌≡◌ {A = Option Held} None (value_at group.name groups) =
    sym c.in-None.is ∙ c.held.ensures ∙ ap (λ n. value_at n groups) (ap fold c.as_str.ensures ∙ named.folded) in
    let held : ◌≡◌ {A = Option Member} None (holder b group.name) =
    ap (option_map (λ (h : Held). h.holder)) there ∙ c.requires.kept.shown.holder group.name named.some in
    subst (λ (g : Option Entrance). Moved c.args.self.now c.enter_free.new.self (Ok (enters b entrant.who entrant.own g)) (entered entrant.who entrant.own g groups) c.enter_free.result) (sym c.in-Some.is)
    (subst (λ (d : Done). Moved c.args.self.now c.enter_free.new.self (Ok d) (after_enter group.name entrant.who entrant.own groups) c.enter_free.result)
    (λ i. enters_held b entrant.who entrant.own group (held i) (waiter b group.name)) c.enter_free.ensures)
