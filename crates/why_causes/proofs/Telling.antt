-- A run that was told to stop before an entry of a record is told so at its end.
use Rattle.std.proofs.Common.{◌≡◌, inl, inr, ◌∙◌, ap, sym, subst, ℕ, suc, true, is_some, List, [], ◌∷◌, ◌++◌, Some, Ok, Err, slice_get, refl}
use Rattle.std.proofs.lemmas.Bool.{cases_eq}
use Rattle.status_table.specs.Words.{Board, Entry, Member, Plan, Row, Run, changed, new_board, row}
use Rattle.board_decisions.proofs.Lists.{same_some}
use Rattle.why_causes.proofs.Agreeing.{first_told}
use Rattle.why_causes.proofs.Noting.{notes_are_made}
use Rattle.why_causes.specs.Agrees.{RunAgrees}
use Rattle.why_causes.specs.Made.{MadeAt}
use Rattle.why_facts.specs.Notes as spec
use Rattle.why_facts.specs.Notes.{all_noted, new_notes, noted}
use Rattle.why_facts.specs.declared.fact.Change.{Change}
use Rattle.why_facts.specs.declared.notes.Notes.{Notes}
use Rattle.why_facts.specs.declared.notes.RunNotes.{RunNotes}
use Rattle.why_notes.proofs.Lawful.{accounts_follow_the_table}
use Rattle.why_notes.specs.Account.{Account, account_from, account_of, entry_noted, then_account}
use Rattle.why_notes.specs.Changes.{changes}
use Rattle.status_table.proofs.Counts.{zip-left}
use Rattle.status_table.proofs.Lists.{changed-elsewhere, changed-there, zip-get}

-- ---- who told a run stays noted

abbrev Told : List RunNotes → ℕ → Type 0
Told runs r = (n : RunNotes) × (slice_get runs r ≡ Some n) × (is_some n.stop ≡ true)

told_changed : (runs : List RunNotes) (i r : ℕ) (f : RunNotes → RunNotes) → ((n : RunNotes) → is_some n.stop ≡ true → is_some (f n).stop ≡ true) → Told runs r
    → Told (changed runs i f) r
told_changed runs i r f keeps x = elim (cases_eq r i) as (λ _. Told (changed runs i f) r) [
  | inl e ↦ (f x.0, ap (slice_get (changed runs i f)) e ∙ changed-there runs i f x.0 (sym (ap (slice_get runs) e) ∙ x.1), keeps x.0 x.2)
  | inr apart ↦ (x.0, changed-elsewhere runs i f r apart ∙ x.1, x.2)
]

told_noted : (line : ℕ) (notes : Notes) (c : Change) (r : ℕ) → Told notes.runs r → Told (noted line notes c).runs r
told_noted line notes (Change.Member (Member.Run k) fact) r x =
    told_changed notes.runs k r (λ run. record run { last = Some (record { line = line; fact = fact }) }) (λ n h. h) x
told_noted line notes (Change.Member (Member.Leg l) fact) r x = x
told_noted line notes (Change.Job j fact) r x = x
told_noted line notes (Change.Called l) r x = x
told_noted line notes (Change.Step l fact) r x = x
told_noted line notes (Change.Stop (Member.Run k) tells) r x =
    told_changed notes.runs k r (λ run. record run { stop = spec.first_of run.stop (record { line = line; teller = tells }) })
    (λ n h. first_told n.stop (record { line = line; teller = tells })) x
told_noted line notes (Change.Stop (Member.Leg l) tells) r x = x

all_told : (line : ℕ) (notes : Notes) (cs : List Change) (r : ℕ) → Told notes.runs r → Told (all_noted line notes cs).runs r
all_told line notes [] r x = x
all_told line notes (c ∷ cs) r x = all_told line (noted line notes c) cs r (told_noted line notes c r x)

still_told : (line : ℕ) (p : Plan) (b : Board) (notes : Notes) (es : List Entry) (a : Account) (r : ℕ) → account_from line p b notes es ≡ Some a → Told notes.runs r
    → Told a.notes.runs r
still_told line p b notes [] a r h x = subst (λ (c : Account). Told c.notes.runs r) (same_some (record { plan = p; board = b; notes = notes }) a h) x
still_told line p b notes (e ∷ es) a r h x =
    step (row p b e.worker e.event)
    (λ next k. still_told (suc line) p next (entry_noted line p b notes e) es a r k (all_told line notes (changes p b e.event) r x)) h
  where
    step : (s : Row) → ((next : Board) → account_from (suc line) p next (entry_noted line p b notes e) es ≡ Some a → Told a.notes.runs r)
        → then_account s (λ next. account_from (suc line) p next (entry_noted line p b notes e) es) ≡ Some a → Told a.notes.runs r
    step (Ok y) later k = later y.0 k
    step (Err f) later k = cc

-- ---- the account of the first entries

abbrev account_on : Plan → Board → Notes → Account
account_on p b notes = record { plan = p; board = b; notes = notes }

halfway : (line : ℕ) (p : Plan) (b : Board) (notes : Notes) (before rest : List Entry) (a : Account) → account_from line p b notes (before ++ rest) ≡ Some a
    → (there : ℕ) × (mid : Board) × (so_far : Notes) × (account_from line p b notes before ≡ Some (account_on p mid so_far)) × (account_from there p mid so_far rest ≡ Some a)
halfway line p b notes [] rest a h = (line, b, notes, refl, h)
halfway line p b notes (e ∷ es) rest a h =
    step (row p b e.worker e.event) (λ next k. halfway (suc line) p next (entry_noted line p b notes e) es rest a k) h
  where
    made : Notes
    made = entry_noted line p b notes e

    step : (s : Row)
        → ((next : Board) → account_from (suc line) p next (entry_noted line p b notes e) (es ++ rest) ≡ Some a
        → (there : ℕ) × (mid : Board) × (so_far : Notes) × (account_from (suc line) p next (entry_noted line p b notes e) es ≡ Some (account_on p mid so_far))
        × (account_from there p mid so_far rest ≡ Some a))
        → then_account s (λ next. account_from (suc line) p next (entry_noted line p b notes e) (es ++ rest)) ≡ Some a
        → (there : ℕ) × (mid : Board) × (so_far : Notes) × (then_account s (λ next. account_from (suc line) p next (entry_noted line p b notes e) es) ≡ Some (account_on p mid so_far))
        × (account_from there p mid so_far rest ≡ Some a)
    step (Ok y) later k = later y.0 k
    step (Err f) later k = cc

-- A run that was told to stop still is.
pub told_still : (p : Plan) (es : List Entry) (a : Account) (line : ℕ) (c : Change) → account_of p es ≡ Some a → (m : MadeAt p es line c) → (r : ℕ) (run now : Run)
    → slice_get m.old.runs r ≡ Some run → slice_get a.board.runs r ≡ Some now → run.stop ≡ true → now.stop ≡ true
told_still p es a line c account m r run now there is_now stop =
    let half = halfway 2 p (new_board p) (new_notes p) m.before (m.entry ∷ m.rest) a (subst (λ (xs : List Entry). account_of p xs ≡ Some a) m.there account) in
    let first = account_on p half.1 half.2 in
    let same = same_some half.1 m.old (sym (accounts_follow_the_table p m.before first half.3) ∙ m.played) in
    let was = zip-left RunAgrees half.2.runs half.1.runs r run (ap (λ (b : Board). slice_get b.runs r) same ∙ there) (notes_are_made p m.before first half.3).agrees.runs in
    let still = still_told half.0 p half.1 half.2 (m.entry ∷ m.rest) a r half.4 (was.0, was.1, was.2.told ∙ stop) in
    let agrees = zip-get RunAgrees a.notes.runs a.board.runs r still.0 now still.1 is_now (notes_are_made p es a account).agrees.runs in
    sym agrees.told ∙ still.2
