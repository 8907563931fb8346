-- Nothing is asked twice.
use Rattle.std.proofs.Common.{◌≡◌, ◌≢◌, ◌≤◌, ◌+◌, ◌++◌, ◌==◌, ◌&&◌, ℕ, zero, suc, Bool, true, false, List, [], ◌∷◌, Option, Some, None, slice_get, is_some, cond, refl, sym, ap, subst, ◌∙◌, zero-add, arith}
use Rattle.status_table.specs.Words.{Member, holds, holds_at}
use Rattle.why_causes.specs.Once.{MarkKind, runs, jobs, legs, stops, NothingIsAskedTwice, answers, is_marked_by, mark_of, marks, one_if, same_kind}
use Rattle.why_causes.specs.Tree.{asked_below, at_depth, is_told, lines, lines_of, most_lines, nothing_told, set_mark, told_after, with_told}
use Rattle.why_causes.specs.declared.question.Question.{Question}
use Rattle.why_causes.specs.declared.tree.Asked.{Asked}
use Rattle.why_causes.specs.declared.tree.Line.{Line}
use Rattle.why_causes.specs.declared.tree.Told.{Told}
use Rattle.why_notes.specs.Account.{Account}
use Rattle.status_table.proofs.Lists.{changed-elsewhere, changed-same, changed-there}

-- ---- marks

equal : (n k : ℕ) → (n == k) ≡ true → n ≡ k
equal n k h = grind arith

other : (n k : ℕ) → (n == k) ≡ false → n ≢ k
other n k h = grind arith

-- a mark that is there is set
set_there : (ms : List Bool) (n : ℕ) (o : Option Bool) → slice_get ms n ≡ o → is_some o ≡ true → holds_at (set_mark ms n) n ≡ true
set_there ms n None is room = cc
set_there ms n (Some x) is room = ap holds (changed-there ms n (λ mark. true) x is)

set_here : (ms : List Bool) (n k : ℕ) → (k == n) ≡ true → is_some (slice_get ms k) ≡ true → holds_at (set_mark ms n) k ≡ true
set_here ms n k same room =
    subst (λ (i : ℕ). holds_at (set_mark ms i) k ≡ true) (equal k n same) (set_there ms k (slice_get ms k) refl room)

-- a mark that is set is there
there : (o : Option Bool) → holds o ≡ true → is_some o ≡ true
there None h = cc
there (Some x) h = refl

set_keeps : (ms : List Bool) (n k : ℕ) → holds_at ms k ≡ true → holds_at (set_mark ms n) k ≡ true
set_keeps ms n k h = by_place (k == n) refl
  where
    by_place : (same : Bool) → (k == n) ≡ same → holds_at (set_mark ms n) k ≡ true
    by_place true is = set_here ms n k is (there (slice_get ms k) h)
    by_place false is = ap holds (changed-elsewhere ms n (λ mark. true) k (other k n is)) ∙ h

set_room : (ms : List Bool) (n k : ℕ) → is_some (slice_get (set_mark ms n) k) ≡ is_some (slice_get ms k)
set_room ms n k = changed-same is_some ms n (λ mark. true) (λ x at. refl) k

-- ---- marks of a kind

with_kind : Told → MarkKind → ℕ → Told
with_kind told runs n = record told { runs = set_mark told.runs n }
with_kind told jobs n = record told { jobs = set_mark told.jobs n }
with_kind told legs n = record told { legs = set_mark told.legs n }
with_kind told stops n = record told { stops = set_mark told.stops n }

set_if : Bool → List Bool → ℕ → List Bool
set_if false ms n = ms
set_if true ms n = set_mark ms n

marks_with : (told : Told) (k : MarkKind) (n : ℕ) (j : MarkKind) → marks (with_kind told k n) j ≡ set_if (same_kind j k) (marks told j) n
unfolding with_kind set_if
marks_with told runs n runs = refl
marks_with told runs n jobs = refl
marks_with told runs n legs = refl
marks_with told runs n stops = refl
marks_with told jobs n runs = refl
marks_with told jobs n jobs = refl
marks_with told jobs n legs = refl
marks_with told jobs n stops = refl
marks_with told legs n runs = refl
marks_with told legs n jobs = refl
marks_with told legs n legs = refl
marks_with told legs n stops = refl
marks_with told stops n runs = refl
marks_with told stops n jobs = refl
marks_with told stops n legs = refl
marks_with told stops n stops = refl

-- a mark by its kind and number, told by some question or by none
told_by : Told → Option (MarkKind × ℕ) → Bool
told_by told None = false
told_by told (Some mark) = holds_at (marks told mark.0) mark.1

with_by : Told → Option (MarkKind × ℕ) → Told
with_by told None = told
with_by told (Some mark) = with_kind told mark.0 mark.1

is_told-by : (told : Told) (q : Question) → is_told told q ≡ told_by told (mark_of q)
unfolding told_by
is_told-by told (Question.Run r) = refl
is_told-by told (Question.Job j) = refl
is_told-by told (Question.Leg l) = refl
is_told-by told (Question.Step l s) = refl
is_told-by told (Question.Stop (Member.Run r)) = refl
is_told-by told (Question.Stop (Member.Leg l)) = refl

with_told-by : (told : Told) (q : Question) → with_told told q ≡ with_by told (mark_of q)
unfolding with_by with_kind
with_told-by told (Question.Run r) = refl
with_told-by told (Question.Job j) = refl
with_told-by told (Question.Leg l) = refl
with_told-by told (Question.Step l s) = refl
with_told-by told (Question.Stop (Member.Run r)) = refl
with_told-by told (Question.Stop (Member.Leg l)) = refl

-- ---- what becomes of a mark

-- the mark of a kind and a number is there
room : Told → MarkKind → ℕ → Bool
room told kind n = is_some (slice_get (marks told kind) n)

is_set : Told → MarkKind → ℕ → Bool
is_set told kind n = holds_at (marks told kind) n

if_room : (c : Bool) (ms : List Bool) (n k : ℕ) → is_some (slice_get (set_if c ms n) k) ≡ is_some (slice_get ms k)
unfolding set_if
if_room false ms n k = refl
if_room true ms n k = set_room ms n k

if_keeps : (c : Bool) (ms : List Bool) (n k : ℕ) → holds_at ms k ≡ true → holds_at (set_if c ms n) k ≡ true
unfolding set_if
if_keeps false ms n k h = h
if_keeps true ms n k h = set_keeps ms n k h

if_here : (c : Bool) (ms : List Bool) (n k : ℕ) → (c && (k == n)) ≡ true → is_some (slice_get ms k) ≡ true → holds_at (set_if c ms n) k ≡ true
unfolding set_if
if_here false ms n k same h = cc
if_here true ms n k same h = set_here ms n k same h

by_room : (told : Told) (mark : Option (MarkKind × ℕ)) (kind : MarkKind) (n : ℕ) → room (with_by told mark) kind n ≡ room told kind n
unfolding with_by room
by_room told None kind n = refl
by_room told (Some mark) kind n =
    ap (λ (ms : List Bool). is_some (slice_get ms n)) (marks_with told mark.0 mark.1 kind) ∙ if_room (same_kind kind mark.0) (marks told kind) mark.1 n

by_keeps : (told : Told) (mark : Option (MarkKind × ℕ)) (kind : MarkKind) (n : ℕ) → is_set told kind n ≡ true → is_set (with_by told mark) kind n ≡ true
unfolding with_by is_set
by_keeps told None kind n h = h
by_keeps told (Some mark) kind n h =
    ap (λ (ms : List Bool). holds_at ms n) (marks_with told mark.0 mark.1 kind) ∙ if_keeps (same_kind kind mark.0) (marks told kind) mark.1 n h

by_here : (told : Told) (mark : Option (MarkKind × ℕ)) (kind : MarkKind) (n : ℕ) → is_marked_by kind n mark ≡ true → room told kind n ≡ true
    → is_set (with_by told mark) kind n ≡ true
unfolding with_by room is_set
by_here told None kind n same h = cc
by_here told (Some mark) kind n same h =
    ap (λ (ms : List Bool). holds_at ms n) (marks_with told mark.0 mark.1 kind) ∙ if_here (same_kind kind mark.0) (marks told kind) mark.1 n same h

kinds_equal : (j k : MarkKind) → same_kind j k ≡ true → (told : Told) → marks told j ≡ marks told k
kinds_equal runs runs h told = refl
kinds_equal jobs jobs h told = refl
kinds_equal legs legs h told = refl
kinds_equal stops stops h told = refl
kinds_equal runs jobs h told = cc
kinds_equal runs legs h told = cc
kinds_equal runs stops h told = cc
kinds_equal jobs runs h told = cc
kinds_equal jobs legs h told = cc
kinds_equal jobs stops h told = cc
kinds_equal legs runs h told = cc
kinds_equal legs jobs h told = cc
kinds_equal legs stops h told = cc
kinds_equal stops runs h told = cc
kinds_equal stops jobs h told = cc
kinds_equal stops legs h told = cc

and_left : (a b : Bool) → (a && b) ≡ true → a ≡ true
and_left true b h = refl
and_left false b h = cc

and_right : (a b : Bool) → (a && b) ≡ true → b ≡ true
and_right true b h = h
and_right false b h = cc

-- who has the mark is told as it says
same_told : (told : Told) (mark : Option (MarkKind × ℕ)) (kind : MarkKind) (n : ℕ) → is_marked_by kind n mark ≡ true → is_set told kind n ≡ told_by told mark
unfolding told_by is_set
same_told told None kind n h = cc
same_told told (Some mark) kind n h =
    ap (λ (ms : List Bool). holds_at ms n) (kinds_equal kind mark.0 (and_left (same_kind kind mark.0) (n == mark.1) h) told)
    ∙ ap (holds_at (marks told mark.0)) (equal n mark.1 (and_right (same_kind kind mark.0) (n == mark.1) h))

-- ---- the lines

-- how often a list of lines answers what has this mark: not at all where it was told, and once at most
record Few (kind : MarkKind) (n : ℕ) (told : Told) (found : ℕ) : Type 0 where
  pub none : is_set told kind n ≡ true → found ≡ 0
  pub few : found ≤ 1

no_line : (kind : MarkKind) (n : ℕ) (x : Asked) (rest : List Line) → answers kind n (lines_of x true ++ rest) ≡ answers kind n rest
no_line kind n x rest = by_root (x.depth == 0)
  where
    line : Line
    line = record { depth = x.depth; question = x.question; above = true }

    silent : (c : Bool) → one_if (c && false) ≡ 0
    silent true = refl
    silent false = refl

    by_root : (c : Bool) → answers kind n ((cond c [] (line ∷ [])) ++ rest) ≡ answers kind n rest
    by_root true = refl
    by_root false = ap (λ (k : ℕ). k + answers kind n rest) (silent (is_marked_by kind n (mark_of x.question))) ∙ zero-add (answers kind n rest)

-- a truth is not both
clash : (b : Bool) → b ≡ true → b ≡ false → ⊥
clash b set unset = cc

few_lines : (m : ℕ) (a : Account) (asked : List Asked) (told : Told) (kind : MarkKind) (n : ℕ) → room told kind n ≡ true
    → Few kind n told (answers kind n (lines m a asked told))
few_lines zero a asked told kind n there = record { none = λ set. refl; few = omega arith }
few_lines (suc m) a [] told kind n there = record { none = λ set. refl; few = omega arith }
few_lines (suc m) a (x ∷ asked) told kind n there =
    step (is_told told x.question) refl (λ below told' there'. few_lines m a below told' kind n there')
  where
    mark : Option (MarkKind × ℕ)
    mark = mark_of x.question

    new : Told
    new = with_told told x.question

    step : (above : Bool) → is_told told x.question ≡ above
        → ((below : List Asked) (told' : Told) → room told' kind n ≡ true → Few kind n told' (answers kind n (lines m a below told')))
        → Few kind n told (answers kind n (lines_of x above ++ lines m a (asked_below a x above ++ asked) (told_after told x.question above)))
    step true is later =
        let rest = later asked told there in
        subst (λ (k : ℕ). Few kind n told k) (sym (no_line kind n x (lines m a asked told))) rest
    step false is later =
        let there' : room new kind n ≡ true = ap (λ (t : Told). room t kind n) (with_told-by told x.question) ∙ by_room told mark kind n ∙ there in
        by_mark (is_marked_by kind n mark) refl (later (asked_below a x false ++ asked) new there')
      where
        after : ℕ
        after = answers kind n (lines m a (asked_below a x false ++ asked) new)

        by_mark : (c : Bool) → is_marked_by kind n mark ≡ c → Few kind n new after → Few kind n told (one_if (c && true) + after)
        by_mark true marked rest =
            let set : is_set new kind n ≡ true = ap (λ (t : Told). is_set t kind n) (with_told-by told x.question) ∙ by_here told mark kind n marked there in
            let none = rest.none set in
            let untold : is_set told kind n ≡ false = same_told told mark kind n marked ∙ sym (is_told-by told x.question) ∙ is in
            record { none = λ told-before. absurd (clash (is_set told kind n) told-before untold); few = omega (arith, none) }
        by_mark false marked rest =
            let few = rest.few in
            record {
              none = λ set. zero-add after ∙ rest.none (ap (λ (t : Told). is_set t kind n) (with_told-by told x.question) ∙ by_keeps told mark kind n set);
              few = omega (arith, few);
            }

pub nothing_is_asked_twice : NothingIsAskedTwice
unfolding room
nothing_is_asked_twice a roots kind n there = (few_lines most_lines a (at_depth 0 roots) (nothing_told a) kind n there).few
