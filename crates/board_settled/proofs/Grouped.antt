-- The groups as they are kept by names go with the board through each legal list of entries, and their names have no letter A to Z.
use Rattle.std.proofs.Common.{◌≡◌, List, [], ◌∷◌, Some, Ok, Err, refl, subst, ℕ, Bool, true, false, cond, inl, inr, Option, None, Result, Ordering, Less, Equal, Greater, sym, ◌∙◌}
use Rattle.board_settled.specs.Words.{AsksNamed, Board, Content, EntersFromOutside, Entrance, Entry, Event, Held, IsPlan, KeptAsShown, Lawful, Member, NamesAreFolded, OneHolderWhateverTheCase, Plan, Row, RulesHold, Standing, Stays, ValueFault, after, after_at, after_enter, after_event, after_from, apart, asked, each_held, fold, groups_after, groups_from, holding, is_eq, is_own, left, leg_asked, leg_at, leg_entrance, leg_left, leg_standing, match_ordering, nat_cmp, new_board, released, row, run_at, run_entrance, run_left, run_opened, run_standing, slice_cmp, then_after, then_groups, value_at, waiting, with_held, with_pair, withdrawn}
use Rattle.status_table.specs.Words.{opened}
use Rattle.group_admission.proofs.Entering.{first_holds, next_displaces, own_run_changes_nothing, Ascends-after_enter}
use Rattle.group_admission.proofs.Leaving.{release_passes_on, withdraw_leaves_holder}
use Rattle.group_admission.proofs.Lookups.{Ascends-each_held}
use Rattle.group_admission.proofs.Nowhere.{nowhere_is_no_group}
use Rattle.group_admission.proofs.Once.{once_stays}
use Rattle.board_decisions.proofs.Lists.{same_some, no_some}
use Rattle.status_table.proofs.Entering.{Leads}
use Rattle.status_table.proofs.Grouped.{GroupLaws, enters_from_outside, event_kept, new_kept}
use Rattle.status_table.proofs.Keeps.{Keeps, row_keeps}
use Rattle.status_table.proofs.Lawfulness.{after_reaches, legal_lawful, new_lawful}
use Rattle.status_table.proofs.Legal.{after_fits, new_fits}
use Rattle.status_table.proofs.Rows.{row_leads}
use Rattle.status_table.proofs.Turns.{Fits}
use Rattle.flat_board.proofs.Named.{run_asks, leg_asks}
use Rattle.board_settled.proofs.Begins.{either}
use Rattle.board_settled.proofs.Pairs.{name_is}
use Rattle.std.proofs.lemmas.Option.{option_and_then_some}
use Rattle.status_table.proofs.Counts.{map-some}

-- the laws of the groups by names
group_laws : GroupLaws
group_laws = record {
  first = first_holds;
  next = next_displaces;
  same = own_run_changes_nothing;
  release = release_passes_on;
  withdraw = withdraw_leaves_holder;
  order = λ groups m sorted. record {
    entered = λ name own. Ascends-after_enter name m own groups sorted;
    released = Ascends-each_held (released m) groups sorted;
    withdrawn = Ascends-each_held (withdrawn m) groups sorted;
  };
  once = once_stays;
  nowhere = nowhere_is_no_group;
}

entries_kept : (p : Plan) (b c : Board) (groups : Content) (es : List Entry) → Fits p b → Lawful p b → KeptAsShown groups b → after_from p b es ≡ Some c
    → KeptAsShown (groups_from p b groups es) c
entries_kept p b c groups [] fits lawful kept h = subst (KeptAsShown groups) (same_some b c h) kept
entries_kept p b c groups (e ∷ es) fits lawful kept h =
    step (λ d g f l k a. entries_kept p d c g es f l k a) (row p b e.worker e.event) refl (row_keeps p b e.worker e.event) (row_leads p b e.worker e.event fits.shape) h
  where
    step : ((d : Board) (g : Content) → Fits p d → Lawful p d → KeptAsShown g d → after_from p d es ≡ Some c → KeptAsShown (groups_from p d g es) c)
        → (r : Row) → row p b e.worker e.event ≡ r → Keeps p b r → Leads p b r → then_after r (λ next. after_from p next es) ≡ Some c
        → KeptAsShown (then_groups r groups (λ next. groups_from p next (after_event p b groups e.event) es)) c
    step later (Ok x) is keeps leads k =
        later x.0 (after_event p b groups e.event) (keeps fits) (leads lawful).lawful (event_kept group_laws p b e.worker groups lawful kept e.event x is) k
    step later (Err f) is keeps leads k = absurd (no_some c k)

pub legal_kept : RulesHold → (p : Plan) → IsPlan p → (es : List Entry) (b : Board) → after p es ≡ Some b → KeptAsShown (groups_after p es) b
legal_kept sound p rules es b h = entries_kept p (new_board p) b [] es (new_fits p) (new_lawful p ((sound p).0 rules)) (new_kept p) h

pub legal_outside : RulesHold → (p : Plan) → IsPlan p → (es : List Entry) (b : Board) → after p es ≡ Some b → EntersFromOutside p b (groups_after p es)
legal_outside sound p rules es b h = enters_from_outside group_laws p b (groups_after p es) (legal_kept sound p rules es b h)

-- what has ended after a legal list stays so after each that goes on from there
pub legal_stays : RulesHold → (p : Plan) → IsPlan p → (es more : List Entry) (b c : Board) → after p es ≡ Some b → after_from p b more ≡ Some c → Stays b c
legal_stays sound p rules es more b c h k = (after_reaches p b c more (after_fits p es b h) (legal_lawful p ((sound p).0 rules) es b h) k).stays

-- each name that is kept is folded
abbrev Folded : Content → Type 0
Folded [] = Unit {0}
Folded (pair ∷ pairs) = (fold pair.0 ≡ pair.0) × Folded pairs

with_pair_folded : (name : List ℕ) (held : Held) (groups : Content) → fold name ≡ name → Folded groups → Folded (with_pair name held groups)
with_pair_folded name held [] same h = (same, tt)
with_pair_folded name held (pair ∷ pairs) same h = by (slice_cmp nat_cmp name pair.0) (with_pair_folded name held pairs same h.1)
  where
    by : (o : Ordering) → Folded (with_pair name held pairs) → Folded (match_ordering o ((name, held) ∷ pair ∷ pairs) ((pair.0, held) ∷ pairs) (pair ∷ with_pair name held pairs))
    by Less others = (same, h)
    by Equal others = h
    by Greater others = (h.0, others)

at_folded : (name : List ℕ) (m : Member) (own : Option ℕ) (found : Option Held) (groups : Content) → fold name ≡ name → Folded groups → Folded (after_at name m own found groups)
at_folded name m own None groups same h = with_pair_folded name (record { holder = m; waiter = None }) groups same h
at_folded name m own (Some held) groups same h =
    either Folded (is_own own held.holder) groups (with_pair name (record { holder = held.holder; waiter = Some m }) groups) h (with_pair_folded name (record { holder = held.holder; waiter = Some m }) groups same h)

enter_folded : (name : List ℕ) (m : Member) (own : Option ℕ) (groups : Content) → fold name ≡ name → Folded groups → Folded (after_enter name m own groups)
enter_folded [] m own groups same h = h
enter_folded (c ∷ name) m own groups same h = at_folded (c ∷ name) m own (value_at (c ∷ name) groups) groups same h

each_folded : (f : Held → Option Held) (groups : Content) → Folded groups → Folded (each_held f groups)
each_folded f [] h = tt
each_folded f (pair ∷ pairs) h = by (f pair.1) (each_folded f pairs h.1)
  where
    by : (o : Option Held) → Folded (each_held f pairs) → Folded (with_held pair.0 o (each_held f pairs))
    by None others = others
    by (Some held) others = (h.0, others)

opened_folded : (groups : Content) (r : ℕ) (value : Result (Option Entrance) ValueFault) → AsksNamed value → Folded groups → Folded (opened groups r value)
opened_folded groups r (Ok (Some group)) named h = enter_folded group.name (Member.Run r) None groups named.folded h
opened_folded groups r value named h = h

asked_folded : (groups : Content) (l own : ℕ) (value : Result (Option Entrance) ValueFault) → AsksNamed value → Folded groups → Folded (asked groups l own value)
asked_folded groups l own (Ok (Some group)) named h = enter_folded group.name (Member.Leg l) (Some own) groups named.folded h
asked_folded groups l own value named h = h

left_folded : (groups : Content) (m : Member) (standing : Standing) → Folded groups → Folded (left groups m standing)
left_folded groups m apart h = h
left_folded groups m (holding name) h = each_folded (released m) groups h
left_folded groups m (waiting name) h = each_folded (withdrawn m) groups h

found_folded : {At : Type 0} (made : Option At → Content) (o : Option At) → Folded (made None) → ((at : At) → Folded (made (Some at))) → Folded (made o)
found_folded made None none some = none
found_folded made (Some at) none some = some at

event_folded : (p : Plan) (b : Board) (groups : Content) (e : Event) → Folded groups → Folded (after_event p b groups e)
event_folded p b groups (Event.Open r) h = found_folded (run_opened groups r) (run_at p b r) h (λ at. opened_folded groups r (run_entrance at) (run_asks at) h)
event_folded p b groups (Event.Ask l) h = found_folded (leg_asked groups l) (leg_at p b l) h (λ at. asked_folded groups l at.place.run (leg_entrance at) (leg_asks at) h)
event_folded p b groups (Event.Drop l) h = found_folded (leg_left groups l) (leg_at p b l) h (λ at. left_folded groups (Member.Leg l) (leg_standing at.leg) h)
event_folded p b groups (Event.Finish l) h = found_folded (leg_left groups l) (leg_at p b l) h (λ at. left_folded groups (Member.Leg l) (leg_standing at.leg) h)
event_folded p b groups (Event.Close r) h = found_folded (run_left groups r) (run_at p b r) h (λ at. left_folded groups (Member.Run r) (run_standing at.run) h)
event_folded p b groups e h = h

from_folded : (p : Plan) (b : Board) (groups : Content) (es : List Entry) → Folded groups → Folded (groups_from p b groups es)
from_folded p b groups [] h = h
from_folded p b groups (e ∷ es) h =
    by (row p b e.worker e.event) (λ next. from_folded p next (after_event p b groups e.event) es (event_folded p b groups e.event h))
  where
    by : (r : Row) → ((next : Board) → Folded (groups_from p next (after_event p b groups e.event) es))
        → Folded (then_groups r groups (λ next. groups_from p next (after_event p b groups e.event) es))
    by (Ok x) rest = rest x.0
    by (Err refusal) rest = h

-- a name that is kept is folded
kept_folded : (name : List ℕ) (groups : Content) (held : Held) → Folded groups → value_at name groups ≡ Some held → fold name ≡ name
kept_folded name [] held h found = absurd (cc)
kept_folded name (pair ∷ pairs) held h found = by (is_eq (slice_cmp nat_cmp name pair.0)) refl (kept_folded name pairs held h.1) found
  where
    by : (b : Bool) → is_eq (slice_cmp nat_cmp name pair.0) ≡ b → (value_at name pairs ≡ Some held → fold name ≡ name)
        → cond b (Some pair.1) (value_at name pairs) ≡ Some held → fold name ≡ name
    by true same others at = subst (λ (n : List ℕ). fold n ≡ n) (sym (name_is name pair.0 same)) h.0
    by false same others at = others at

abbrev AreShown : Type 0
AreShown = (p : Plan) → IsPlan p → (es : List Entry) (b : Board) → after p es ≡ Some b → KeptAsShown (groups_after p es) b

pub names_are_folded : AreShown → NamesAreFolded
names_are_folded shown p rules es b leads name who some (inl held) =
    let at = map-some (λ h. h.holder) (value_at name (groups_after p es)) who ((shown p rules es b leads).shown.holder name some ∙ held) in
    kept_folded name (groups_after p es) at.0 (from_folded p (new_board p) [] es tt) at.1
names_are_folded shown p rules es b leads name who some (inr waited) =
    option_and_then_some (λ h. h.waiter) (value_at name (groups_after p es)) who ((shown p rules es b leads).shown.waiter name some ∙ waited)
    (λ at is _. kept_folded name (groups_after p es) at (from_folded p (new_board p) [] es tt) is)

pub one_holder : AreShown → OneHolderWhateverTheCase
one_holder shown p rules es b leads name other who whom some some_too held held_too same =
    sym (names_are_folded shown p rules es b leads name who some (inl held)) ∙ same ∙ names_are_folded shown p rules es b leads other whom some_too (inl held_too)
