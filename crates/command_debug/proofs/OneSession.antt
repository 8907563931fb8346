-- A record and lines come to one text at most.
use Rattle.std.proofs.Common.{◌≡◌, ℕ, zero, suc, ◌<◌, ◌⊎◌, inl, inr, Bool, true, false, List, [], ◌∷◌, ◌++◌, length, Result, Ok, Err, refl, ap, sym, ◌∙◌, subst, arith}
use Rattle.status_table.specs.Words.{Entry, Plan, lines_of}
use Rattle.debugger.specs.Session.{GoesBack, GoesOn, NextStop, NoNextStop, NoPreviousStop, PreviousStop, Session, at_place, stops_at}
use Rattle.debugger.specs.declared.fault.DebugFault.{DebugFault}
use Rattle.plan_text.specs.BoardText.{board_text}
use Rattle.plan_text.specs.Record.{load_lines}
use Rattle.command_debug.specs.Answers.{IsMove, TellsGo, TellsLines, TellsOneLine, TellsRequest, move_line}
use Rattle.command_debug.specs.Debug.{FromStart, OneTold}
use Rattle.command_debug.specs.declared.requests.Request.{Request}
use Rattle.command_debug.specs.declared.requests.Request.TheVariants.{Step, Back, GoTo, Go, GoBack, Show, Set, Clear}
use Rattle.command_debug.proofs.OneRequest.{one_request}

unlike : (b : Bool) → b ≡ true → b ≡ false → ⊥
unlike b h other = absurd (cc)

-- ---- there is one nearest place

by_order : (k j : ℕ) → (k < j) ⊎ ((j < k) ⊎ (k ≡ j))
by_order zero zero = inr (inr refl)
by_order zero (suc j) = inl (omega arith)
by_order (suc k) zero = inr (inl (omega arith))
by_order (suc k) (suc j) = elim (by_order k j) [
  | inl before ↦ inl (omega arith)
  | inr other ↦ inr (elim other [ inl after ↦ inl (omega arith) | inr same ↦ inr (ap suc same) ])
]

next_is : (s : Session) (k j : ℕ) → NextStop s k → NextStop s j → k ≡ j
next_is s k j a b = elim (by_order k j) [
  | inl before ↦ absurd (unlike (stops_at s k) a.stops (b.nearest k a.later before))
  | inr other ↦ elim other [ inl after ↦ absurd (unlike (stops_at s j) b.stops (a.nearest j b.later after)) | inr same ↦ same ]
]

previous_is : (s : Session) (k j : ℕ) → PreviousStop s k → PreviousStop s j → k ≡ j
previous_is s k j a b = elim (by_order k j) [
  | inl before ↦ absurd (unlike (stops_at s j) b.stops (a.nearest j before b.earlier))
  | inr other ↦ elim other [ inl after ↦ absurd (unlike (stops_at s k) a.stops (b.nearest k after a.earlier)) | inr same ↦ same ]
]

-- a move to the nearest place finds one thing, and leaves one session
Same : Result ℕ DebugFault → Result ℕ DebugFault → Session → Session → Type 0
Same found other next next' = (found ≡ other) × (next ≡ next')

module _ (s : Session) (next next' : Session) where
  on_to : (k : ℕ) (other : Result ℕ DebugFault) → NextStop s k × (next ≡ at_place s k) → IsMove other → GoesOn s other next' → Same (Ok k) other next next'
  unfolding Same
  on_to k (Ok j) a is b =
      let same = next_is s k j a.0 b.0 in
      (ap (λ (n : ℕ). Ok n) same, a.1 ∙ ap (at_place s) same ∙ sym b.1)
  on_to k (Err DebugFault.NoBreak) a is b = absurd (unlike (stops_at s k) a.0.stops (b.0 k a.0.later a.0.within))
  on_to k (Err DebugFault.AtStart) a is b = absurd b
  on_to k (Err DebugFault.AtEnd) a is b = absurd b
  on_to k (Err DebugFault.NoPlace) a is b = absurd b
  on_to k (Err (DebugFault.BadRecord i f)) a is b = absurd b
  on_to k (Err DebugFault.Memory) a is b = absurd is

  on_nowhere : (other : Result ℕ DebugFault) → NoNextStop s × (next ≡ s) → IsMove other → GoesOn s other next' → Same (Err DebugFault.NoBreak) other next next'
  unfolding Same
  on_nowhere (Ok j) a is b = absurd (unlike (stops_at s j) b.0.stops (a.0 j b.0.later b.0.within))
  on_nowhere (Err DebugFault.NoBreak) a is b = (refl, a.1 ∙ sym b.1)
  on_nowhere (Err DebugFault.AtStart) a is b = absurd b
  on_nowhere (Err DebugFault.AtEnd) a is b = absurd b
  on_nowhere (Err DebugFault.NoPlace) a is b = absurd b
  on_nowhere (Err (DebugFault.BadRecord i f)) a is b = absurd b
  on_nowhere (Err DebugFault.Memory) a is b = absurd is

  one_way_on : (found other : Result ℕ DebugFault) → IsMove found → IsMove other → GoesOn s found next → GoesOn s other next' → Same found other next next'
  one_way_on (Ok k) other is is' a b = on_to k other a is' b
  one_way_on (Err DebugFault.NoBreak) other is is' a b = on_nowhere other a is' b
  one_way_on (Err DebugFault.AtStart) other is is' a b = absurd a
  one_way_on (Err DebugFault.AtEnd) other is is' a b = absurd a
  one_way_on (Err DebugFault.NoPlace) other is is' a b = absurd a
  one_way_on (Err (DebugFault.BadRecord i f)) other is is' a b = absurd a
  one_way_on (Err DebugFault.Memory) other is is' a b = absurd is

  back_to : (k : ℕ) (other : Result ℕ DebugFault) → PreviousStop s k × (next ≡ at_place s k) → GoesBack s other next' → Same (Ok k) other next next'
  unfolding Same
  back_to k (Ok j) a b =
      let same = previous_is s k j a.0 b.0 in
      (ap (λ (n : ℕ). Ok n) same, a.1 ∙ ap (at_place s) same ∙ sym b.1)
  back_to k (Err DebugFault.NoBreak) a b = absurd (unlike (stops_at s k) a.0.stops (b.0 k a.0.earlier))
  back_to k (Err DebugFault.AtStart) a b = absurd b
  back_to k (Err DebugFault.AtEnd) a b = absurd b
  back_to k (Err DebugFault.NoPlace) a b = absurd b
  back_to k (Err (DebugFault.BadRecord i f)) a b = absurd b
  back_to k (Err DebugFault.Memory) a b = absurd b

  back_nowhere : (other : Result ℕ DebugFault) → NoPreviousStop s × (next ≡ s) → GoesBack s other next' → Same (Err DebugFault.NoBreak) other next next'
  unfolding Same
  back_nowhere (Ok j) a b = absurd (unlike (stops_at s j) b.0.stops (a.0 j b.0.earlier))
  back_nowhere (Err DebugFault.NoBreak) a b = (refl, a.1 ∙ sym b.1)
  back_nowhere (Err DebugFault.AtStart) a b = absurd b
  back_nowhere (Err DebugFault.AtEnd) a b = absurd b
  back_nowhere (Err DebugFault.NoPlace) a b = absurd b
  back_nowhere (Err (DebugFault.BadRecord i f)) a b = absurd b
  back_nowhere (Err DebugFault.Memory) a b = absurd b

  one_way_back : (found other : Result ℕ DebugFault) → IsMove found → IsMove other → GoesBack s found next → GoesBack s other next' → Same found other next next'
  one_way_back (Ok k) other is is' a b = back_to k other a b
  one_way_back (Err DebugFault.NoBreak) other is is' a b = back_nowhere other a b
  one_way_back (Err DebugFault.AtStart) other is is' a b = absurd a
  one_way_back (Err DebugFault.AtEnd) other is is' a b = absurd a
  one_way_back (Err DebugFault.NoPlace) other is is' a b = absurd a
  one_way_back (Err (DebugFault.BadRecord i f)) other is is' a b = absurd a
  one_way_back (Err DebugFault.Memory) other is is' a b = absurd a

-- ---- one answer to a line

-- what is told, and what is left
SameTold : List ℕ → List ℕ → Session → Session → Type 0
SameTold told other next next' = (told ≡ other) × (next ≡ next')

go_is : (s : Session) (Goes : Session → Result ℕ DebugFault → Session → Type 0)
    → ((next next' : Session) (found other : Result ℕ DebugFault) → IsMove found → IsMove other → Goes s found next → Goes s other next' → Same found other next next')
    → (told other : List ℕ) (next next' : Session) → TellsGo Goes s told next → TellsGo Goes s other next' → SameTold told other next next'
unfolding Same SameTold
go_is s Goes one told other next next' a b =
    let same = one next next' a.0 b.0 a.1 b.1 a.2 b.2 in
    (a.3 ∙ ap (move_line (length s.entries)) same.0 ∙ sym b.3, same.1)

request_is : (s : Session) (request : Request) (told other : List ℕ) (next next' : Session) → TellsRequest s request told next → TellsRequest s request other next'
    → SameTold told other next next'
unfolding SameTold
request_is s Step told other next next' a b = (a.0 ∙ sym b.0, a.1 ∙ sym b.1)
request_is s Back told other next next' a b = (a.0 ∙ sym b.0, a.1 ∙ sym b.1)
request_is s (GoTo k) told other next next' a b = (a.0 ∙ sym b.0, a.1 ∙ sym b.1)
request_is s Go told other next next' a b = go_is s GoesOn (one_way_on s) told other next next' a b
request_is s GoBack told other next next' a b = go_is s GoesBack (one_way_back s) told other next next' a b
request_is s Show told other next next' a b =
    let same : a.0 ≡ b.0 = cc (a.1, b.1) in
    (a.2 ∙ ap board_text same ∙ sym b.2, a.3 ∙ sym b.3)
request_is s (Set wanted) told other next next' a b = (a.0 ∙ sym b.0, a.1 ∙ sym b.1)
request_is s (Clear wanted) told other next next' a b = (a.0 ∙ sym b.0, a.1 ∙ sym b.1)

line_is : (s : Session) (line told other : List ℕ) (next next' : Session) → TellsOneLine s line told next → TellsOneLine s line other next' → SameTold told other next next'
unfolding SameTold
line_is s line told other next next' (inl a) (inl b) =
    let same : b.0 ≡ a.0 = one_request line b.0 a.0 b.1 a.1 in
    request_is s a.0 told other next next' a.2 (subst (λ (r : Request). TellsRequest s r other next') same b.2)
line_is s line told other next next' (inl a) (inr b) = absurd (b.0 a.0 a.1)
line_is s line told other next next' (inr a) (inl b) = absurd (a.0 b.0 b.1)
line_is s line told other next next' (inr a) (inr b) = (a.1 ∙ sym b.1, a.2 ∙ sym b.2)

-- ---- one answer to all

lines_are : (lines : List (List ℕ)) (s : Session) (told other : List ℕ) → TellsLines s lines told → TellsLines s lines other → told ≡ other
unfolding SameTold
lines_are [] s told other a b = a ∙ sym b
lines_are (line ∷ lines) s told other a b =
    let (next, first, later, is, rest, whole) = a in
    let (next', first', later', is', rest', whole') = b in
    let same = line_is s line first first' next next' is is' in
    let others : later ≡ later' = lines_are lines next later later' rest (subst (λ (t : Session). TellsLines t lines later') (sym same.1) rest') in
    whole ∙ ap (λ (l : List ℕ). l ++ later) same.0 ∙ ap (λ (l : List ℕ). first' ++ l) others ∙ sym whole'

abbrev plan_in : {A B E : Type 0} → A → Result (A × B) E → A
plan_in d (Ok x) = x.0
plan_in d (Err e) = d

abbrev entries_in : {A B E : Type 0} → B → Result (A × B) E → B
entries_in d (Ok x) = x.1
entries_in d (Err e) = d

loaded : {A B E : Type 0} (a a' : A) (b b' : B) (r : Result (A × B) E) → r ≡ Ok (a, b) → r ≡ Ok (a', b') → (a' ≡ a) × (b' ≡ b)
loaded a a' b b' r h k = (ap (plan_in a) (sym k ∙ h), ap (entries_in b) (sym k ∙ h))

pub one_told : OneTold
one_told = λ text lines a b is other.
    let same = loaded is.plan other.plan is.entries other.entries (load_lines (lines_of text)) is.loads other.loads in
    let plans : other.plan ≡ is.plan = same.0 in
    let entries : other.entries ≡ is.entries = same.1 in
    let told : Session → Type 0 = λ s. TellsLines s lines b in
    let there : FromStart told is.plan is.entries =
    subst (λ (es : List Entry). FromStart told is.plan es) entries (subst (λ (p : Plan). FromStart told p other.entries) plans other.is) in
    lines_are lines _ a b is.is.1 there.1
