-- Concurrency groups: the finite map from folded names to who holds them and who waits for them.
use Rattle.std.specs.Prelude.{ℕ, ◌+◌, ◌≤◌, Bool, true, false, ◌==◌, ◌||◌, List, [], ◌∷◌, Option, Some, None, option_map, option_and_then, find, if◌then◌else◌}
use Rattle.std.specs.List.{list_any}
use Rattle.flow_model.specs.Mapping.{value_at, with_pair}
use Rattle.flow_model.specs.declared.event.Member.{Member}
use Rattle.flow_model.specs.declared.event.Member.TheVariants as member
use Rattle.group_admission.specs.declared.entered.Entered.{Entered}
use Rattle.group_admission.specs.declared.entered.Entered.TheVariants as answer
use Rattle.group_admission.specs.declared.held.Held.{Held}

-- The names that are held, in their byte order, each with its holder and waiter.
abbrev pub Content : Type 0
Content = List (List ℕ × Held)

-- The member that holds a name, if there is one.
abbrev pub holder_of : List ℕ → Content → Option Member
holder_of name groups = option_map (λ held. held.holder) (value_at name groups)

-- The member that waits for a name, if there is one.
abbrev pub waiter_of : List ℕ → Content → Option Member
waiter_of name groups = option_and_then (λ held. held.waiter) (value_at name groups)

-- ---- members

-- Whether two members are one.
abbrev pub same_member : Member → Member → Bool
same_member (member.Run a) (member.Run b) = a == b
same_member (member.Run a) (member.Leg b) = false
same_member (member.Leg a) (member.Run b) = false
same_member (member.Leg a) (member.Leg b) = a == b

-- Whether a member is the one that may be there.
abbrev pub is_member : Member → Option Member → Bool
is_member m None = false
is_member m (Some other) = same_member m other

-- Whether a holder is the run that a leg is of.
abbrev pub is_own : Option ℕ → Member → Bool
is_own None holder = false
is_own (Some run) holder = same_member (member.Run run) holder

-- Whether a member holds a name.
abbrev pub holds : Member → List ℕ × Held → Bool
holds m (name, held) = same_member m held.holder

-- Whether a member waits for a name.
abbrev pub waits : Member → List ℕ × Held → Bool
waits m (name, held) = is_member m held.waiter

-- Whether a member is the holder or the waiter of a name.
abbrev pub stands_in : Member → List ℕ × Held → Bool
stands_in m pair = holds m pair || waits m pair

-- Whether a member holds a name or waits for one.
abbrev pub is_in_group : Member → Content → Bool
is_in_group m groups = list_any (stands_in m) groups

-- 1 for what is so.
abbrev pub one : Bool → ℕ
one false = 0
one true = 1

-- In how many places a member stands, as a holder or as a waiter.
abbrev pub places_of : Member → Content → ℕ
places_of m [] = 0
places_of m (pair ∷ pairs) = (one (holds m pair) + one (waits m pair)) + places_of m pairs

-- No member stands in two places.
abbrev pub EachOnce : Content → Type 0
EachOnce groups = (m : Member) → places_of m groups ≤ 1

-- ---- entering

-- Who is asked to stop: the holder, where the cancel flag is set.
abbrev pub stopped_by : Bool → Member → Option Member
stopped_by false holder = None
stopped_by true holder = Some holder

-- What a member is answered that comes to a name.
abbrev pub answer_at : Option ℕ → Bool → Option Held → Entered
answer_at own cancel None = answer.Admitted
answer_at own cancel (Some held) =
    if is_own own held.holder then answer.OwnRun
    else answer.Waiting held.waiter (stopped_by cancel held.holder)

-- What a member is answered that enters: an empty name is no group.
abbrev pub answer_to : List ℕ → Option ℕ → Bool → Content → Entered
answer_to [] own cancel groups = answer.Admitted
answer_to (c ∷ name) own cancel groups = answer_at own cancel (value_at (c ∷ name) groups)

-- The groups after a member came to a name: one to a name that is held takes the waiter's place,
-- unless its own run holds it.
abbrev pub after_at : List ℕ → Member → Option ℕ → Option Held → Content → Content
after_at name m own None groups = with_pair name (record { holder = m; waiter = None }) groups
after_at name m own (Some held) groups =
    if is_own own held.holder then groups
    else with_pair name (record { holder = held.holder; waiter = Some m }) groups

-- The groups after a member entered.
abbrev pub after_enter : List ℕ → Member → Option ℕ → Content → Content
after_enter [] m own groups = groups
after_enter (c ∷ name) m own groups = after_at (c ∷ name) m own (value_at (c ∷ name) groups) groups

-- ---- leaving

-- A name in front of others, if somebody holds it.
abbrev pub with_held : List ℕ → Option Held → Content → Content
with_held name None groups = groups
with_held name (Some held) groups = (name, held) ∷ groups

-- The groups where each name is held as said of who held it.
abbrev pub each_held : (Held → Option Held) → Content → Content
each_held f [] = []
each_held f (pair ∷ pairs) = with_held pair.0 (f pair.1) (each_held f pairs)

-- The waiter holds the name, if there is one.
abbrev pub passed_on : Option Member → Option Held
passed_on None = None
passed_on (Some waiter) = Some (record { holder = waiter; waiter = None })

-- What is left of a name after a member released it.
abbrev pub released : Member → Held → Option Held
released m held = if same_member m held.holder then passed_on held.waiter else Some held

-- What is left of a name after a member left its wait.
abbrev pub withdrawn : Member → Held → Option Held
withdrawn m held =
    if is_member m held.waiter then Some (record { holder = held.holder; waiter = None })
    else Some held

-- What is left of a name after a member left it: what it held is passed on, and its wait has ended.
abbrev pub left_by : Member → Held → Option Held
left_by m held = if same_member m held.holder then passed_on held.waiter else withdrawn m held

-- The groups after a member released.
abbrev pub after_release : Member → Content → Content
after_release m groups = each_held (released m) groups

-- The groups after a member left its wait.
abbrev pub after_withdraw : Member → Content → Content
after_withdraw m groups = each_held (withdrawn m) groups

-- Who holds next what a member holds: the waiter.
abbrev pub next_after : Member → Content → Option Member
next_after m groups = option_and_then (λ pair. pair.1.waiter) (find (holds m) groups)

-- Whether a member waits.
abbrev pub is_waiting : Member → Content → Bool
is_waiting m groups = list_any (waits m) groups
