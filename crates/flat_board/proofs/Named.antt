-- The names of groups that are entered.
use Rattle.std.proofs.Common.{◌≡◌, ℕ, Bool, List, [], ◌∷◌, Option, Some, None, Result, Ok, Err, subst, ◌≢◌}
use Rattle.std.proofs.lemmas.Str.Ascii.{lowercase-lowercase}
use Rattle.flat_board.specs.Words.{AsksNamed, Contexts, EntersNamed, Entrance, Gives, Group, LegAt, RunAt, TextPlace, ValueFault, contexts_at, entrance, entrance_value, flag_value, fold, leg_entrance, run_entrance, run_values, seen_from, text_text, then_value, to_ascii_lowercase, with_env}
use Rattle.board_counters.proofs.Lists.{map-twice}

pub filled : (c : ℕ) (cs : List ℕ) → c ∷ cs ≢ []
filled c cs e = cc

fold-fold : (text : List ℕ) → fold (fold text) ≡ fold text
fold-fold text = map-twice to_ascii_lowercase to_ascii_lowercase to_ascii_lowercase text lowercase-lowercase

entrance_named : (name : List ℕ) (cancel : Bool) → fold name ≡ name → EntersNamed (entrance name cancel)
entrance_named [] cancel same = tt
entrance_named (c ∷ cs) cancel same = record { folded = same; some = filled c cs }

entered_named : (c : Contexts) (group : Group) (x : Result (List ℕ) ValueFault) → AsksNamed (then_value x (λ name. Ok (entrance (fold name) (flag_value c group.cancel))))
entered_named c group (Ok name) = entrance_named (fold name) (flag_value c group.cancel) (fold-fold name)
entered_named c group (Err f) = tt

pub value_named : (c : Contexts) (group : Option Group) → AsksNamed (entrance_value c group)
value_named c None = tt
value_named c (Some group) = entered_named c group (text_text c group.name)

pub given_named : (r : Result (Option Entrance) ValueFault) (value : Result (Option Entrance) ValueFault) → Gives (λ group. group) r value → AsksNamed value → AsksNamed r
given_named (Ok group) value gives named = subst AsksNamed gives named
given_named (Err f) value gives named = tt

pub run_asks : (at : RunAt) → AsksNamed (run_entrance at)
unfolding run_entrance
run_asks at = value_named (contexts_at TextPlace.WorkflowGroup (with_env [] (run_values at.plan))) at.plan.group

pub leg_asks : (at : LegAt) → AsksNamed (leg_entrance at)
unfolding leg_entrance
leg_asks at = value_named (seen_from at TextPlace.JobGroup []) at.job_plan.group
