use Rattle.std.proofs.Common.{◌≡◌, List, ℕ, Option, inl, ap, subst, sym, ◌∙◌, refl}
use Rattle.flat_board.specs.Words.{IsGroup, StandsOnlyThere, content, fold, holder_of, left, standing_by, value_at, waiter_of}
use Rattle.flat_board.proofs.Leaving.{name_left, none_left, others_left}
use Rattle.flat_board.proofs.groups.leave.Goals as goal

pub returns-in-Some-clause-leaves : goal.returns-in-Some-clause-leaves
returns-in-Some-clause-leaves c = λ b stood named there only.
    let who = c.args.who in
    let groups = content c.args.groups.now in
    let name = c.in-Some.name in
    let same : fold c.as_str-in-Some.result.now ≡ name = ap fold c.as_str-in-Some.ensures ∙ (subst IsGroup c.in-Some.is named).folded in
    let same_held : fold c.as_str.result.now ≡ name = ap fold c.as_str.ensures ∙ (subst IsGroup c.in-Some.is named).folded in
    let holds = ap (λ n. holder_of n groups) same in
    let waits = ap (λ n. waiter_of n groups) same in
    let left_it = c.leave_name.ensures in
    let stays = subst (λ (g : Option (List ℕ)). StandsOnlyThere groups who (standing_by stood g)) c.in-Some.is only in
    let to = name_left groups who (content c.leave_name.new.self) name (λ e. left_it.held (holds ∙ e)) (λ e. left_it.awaited (waits ∙ e))
    (λ holder waiter. left_it.other (λ e. holder (sym holds ∙ e)) (λ e. waiter (sym waits ∙ e))) stood stays in
    record {
      to = to ∙ ap (λ (g : Option (List ℕ)). left groups who (standing_by stood g)) (sym c.in-Some.is);
      back = record {
        name = name;
        of_who = inl (there ∙ c.in-Some.is);
        held = ap (λ n. value_at n groups) (sym same_held) ∙ sym c.held-held.ensures;
        others = λ q differs. ap (value_at q) to ∙ others_left groups who name stood stays q differs;
      };
    }

pub returns-in-None-clause-leaves : goal.returns-in-None-clause-leaves
returns-in-None-clause-leaves c = λ b stood named there only.
    let who = c.args.who in
    let groups = content c.args.groups.now in
    record {
      to = none_left groups who stood (subst (λ (g : Option (List ℕ)). StandsOnlyThere groups who (standing_by stood g)) c.in-None.is only)
          ∙ ap (λ (g : Option (List ℕ)). left groups who (standing_by stood g)) (sym c.in-None.is);
      back = refl;
    }
