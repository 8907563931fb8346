-- Lines that are taken from the front of known bytes.
use Rattle.std.proofs.Common.{◌≡◌, ◌≢◌, ◌<◌, ◌+◌, ◌-◌, ℕ, Bool, true, false, not, IsTrue, if◌then◌else◌, ◌==◌, List, [], ◌∷◌, ◌++◌, All, length, take, drop, get_or, Option, Some, None, IfSome, refl, ap, sym, subst, ◌∙◌, append_assoc, append-nil, le_refl, length-append, take_at, take-append-drop, arith}
use Rattle.std.proofs.lemmas.Bool.Decides.{nat_tests}
use Rattle.std.proofs.lemmas.List.{drop_all, take_all, take_more}
use Rattle.std.proofs.lemmas.List.Elements.{All-head, All-tail}
use Rattle.std.specs.Io.{StopsAt}
use Rattle.std.specs.Io.Buffered.{reader_buffer, reader_capacity, reader_inner, reader_remaining}
use Rattle.std.specs.Io.BufRead.{DropsThrough, drop_through, take_through}
use Rattle.std.specs.Io.KnownBytes.{Consumes, prepend_known}
use Rattle.std.specs.declared.io.buffered.BufReader.{BufReader}
use Rattle.status_table.specs.Words.{is_line, lines_of}
use Rattle.flow_model.proofs.LineLemmas.{line-passed, lines-ended, lines_of-line}
use Rattle.flow_model.proofs.Tests.{both, pair}
use Rattle.command_io.specs.Stream.{EndsAt, LosesPart, TakesLine}

-- ---- bytes without a newline

other_byte : (b : ℕ) → b ≢ 10 → (b == 10) ≡ false
other_byte b h = grind (arith, nat_tests, h)

is_line-all : (bytes : List ℕ) → All (λ b. b ≢ 10) bytes → IsTrue (is_line bytes)
is_line-all [] h = refl
is_line-all (b ∷ bytes) h =
    pair (not (b == 10)) (is_line bytes) (ap not (other_byte b (All-head (λ x. x ≢ 10) b bytes h))) (is_line-all bytes (All-tail (λ x. x ≢ 10) b bytes h))

-- all but the last of some bytes
front : (line : List ℕ) (b : ℕ) → take (length (line ++ b ∷ []) - 1) (line ++ b ∷ []) ≡ line
front line b =
    let long : length (line ++ b ∷ []) - 1 ≡ length line = omega (arith, length-append line (b ∷ [])) in
    ap (λ n. take n (line ++ b ∷ [])) long ∙ take_at line (b ∷ []) (length line) refl

-- a line before its newline has none
is_line-cut : (read line : List ℕ) → StopsAt read 10 → read ≡ line ++ 10 ∷ [] → IsTrue (is_line line)
is_line-cut read line stops is =
    is_line-all line (subst (All (λ b. b ≢ 10)) (front line 10) (subst (λ bytes. StopsAt bytes 10) is stops))

-- nor have bytes that none ends
is_line-open : (read : List ℕ) → StopsAt read 10 → (0 < length read → get_or read (length read - 1) 0 ≢ 10) → IsTrue (is_line read)
is_line-open [] stops open' = refl
is_line-open (b ∷ read) stops open' =
    let bytes = b ∷ read in
    let last = length bytes - 1 in
    let some : 0 < length bytes = omega arith in
    let inside : last < length bytes = omega arith in
    let passed : IsTrue (is_line (take last bytes)) = is_line-all (take last bytes) stops in
    subst (λ l. IsTrue (is_line l)) (take_all (last + 1) bytes (omega arith))
    (line-passed bytes last passed inside (other_byte (get_or bytes last 0) (open' some)))

-- ---- lines at the front

-- a line and its newline
pub takes_ended : (old new : Option (List ℕ)) (read line : List ℕ) → StopsAt read 10 → read ≡ line ++ 10 ∷ [] → Consumes old new read → TakesLine old new line
takes_ended None new read line stops is taken = tt
takes_ended (Some text) None read line stops is taken = absurd taken
takes_ended (Some text) (Some rest) read line stops is taken =
    ap lines_of (taken ∙ ap (λ (l : List ℕ). l ++ rest) is ∙ append_assoc line (10 ∷ []) rest)
    ∙ lines_of-line line rest (is_line-cut read line stops is)

one_line : (text : List ℕ) → IsTrue (is_line text) → 0 < length text → lines_of text ≡ text ∷ lines_of []
one_line text h some =
    let whole : take (length text) text ≡ text = take_all (length text) text (le_refl (length text)) in
    let none : drop (length text) text ≡ [] = drop_all (length text) text (le_refl (length text)) in
    lines-ended text (length text) (subst (λ l. IsTrue (is_line l)) (sym whole) h) (le_refl (length text)) some
    ∙ ap (λ (l : List ℕ). l ∷ lines_of (drop (length text) text)) whole ∙ ap (λ (d : List ℕ). text ∷ lines_of d) none

-- after a line that no newline ends there is nothing
cut_through : (t : Bool) (b : ℕ) (text : List ℕ) → (b == 10) ≡ t → (IsTrue (is_line (take_through 10 text)) → drop_through 10 text ≡ [])
    → IsTrue (is_line (if t then b ∷ [] else b ∷ take_through 10 text)) → (if t then text else drop_through 10 text) ≡ []
cut_through true b text is later h =
    let other = (both (not (b == 10)) true h).0 in
    absurd (cc (ap not is, other))
cut_through false b text is later h = later ((both (not (b == 10)) (is_line (take_through 10 text)) h).1)

nothing_after : (text : List ℕ) → IsTrue (is_line (take_through 10 text)) → drop_through 10 text ≡ []
nothing_after [] h = refl
nothing_after (b ∷ text) h = cut_through (b == 10) b text refl (nothing_after text) h

-- the last line, which has none
pub takes_last : (old new : Option (List ℕ)) (read none : List ℕ) → none ≡ [] → StopsAt read 10 → (0 < length read → get_or read (length read - 1) 0 ≢ 10)
    → 0 < length read → IfSome old (λ text. read ≡ none ++ take_through 10 text) → DropsThrough old new 10 → Consumes old new read → TakesLine old new read
takes_last None new read none empty stops open' some whole rest taken = tt
takes_last (Some text) None read none empty stops open' some whole rest taken = absurd taken
takes_last (Some text) (Some left) read none empty stops open' some whole rest taken =
    let line : IsTrue (is_line read) = is_line-open read stops open' in
    let through : read ≡ take_through 10 text = whole ∙ ap (λ (l : List ℕ). l ++ take_through 10 text) empty in
    let gone : left ≡ drop_through 10 text = cc rest in
    let over : left ≡ [] = gone ∙ nothing_after text (subst (λ l. IsTrue (is_line l)) through line) in
    let all : text ≡ read = taken ∙ ap (λ (l : List ℕ). read ++ l) over ∙ append-nil read in
    ap lines_of all ∙ one_line read line some ∙ ap (λ (l : List ℕ). read ∷ lines_of l) (sym over)

-- what is lost where a read fails
pub loses : (old new : Option (List ℕ)) (read : List ℕ) → StopsAt read 10 → (0 < length read → get_or read (length read - 1) 0 ≢ 10) → Consumes old new read
    → LosesPart old new
loses old new read stops open' taken = record { part = read; within = is_line-open read stops open'; lost = taken }

-- ---- lines that lie ready

-- a line with its newline
through : (bytes : List ℕ) (count : ℕ) → EndsAt bytes count → take (count + 1) bytes ≡ take count bytes ++ 10 ∷ []
through bytes count ends = take_more bytes count 0 ends.1 ∙ ap (λ (b : ℕ). take count bytes ++ b ∷ []) ends.2

-- it is taken with its newline
pub takes_ready : (old new : Option (List ℕ)) (ahead : List ℕ) (count : ℕ) → EndsAt ahead count → Consumes old new (take (count + 1) ahead) → TakesLine old new (take count ahead)
takes_ready None new ahead count ends taken = tt
takes_ready (Some text) None ahead count ends taken = absurd taken
takes_ready (Some text) (Some rest) ahead count ends taken =
    ap lines_of (taken ∙ ap (λ (l : List ℕ). l ++ rest) (through ahead count ends) ∙ append_assoc (take count ahead) (10 ∷ []) rest)
    ∙ lines_of-line (take count ahead) rest ends.0

-- ---- a reader's buffer

-- what a reader has left, by what it has read ahead
abbrev with_ahead : Bool → List ℕ → Option (List ℕ) → Option (List ℕ)
with_ahead none ahead known = if none then None else prepend_known ahead known

consumed_ahead : (none : Bool) (ahead : List ℕ) (known : Option (List ℕ)) (count : ℕ) → Consumes (with_ahead none ahead known) (with_ahead none (drop count ahead) known) (take count ahead)
consumed_ahead true ahead known count = tt
consumed_ahead false ahead None count = tt
consumed_ahead false ahead (Some rest) count =
    ap (λ (l : List ℕ). l ++ rest) (sym (take-append-drop count ahead)) ∙ append_assoc (take count ahead) (drop count ahead) rest

-- what is taken of it are the first bytes that are left
pub takes_ahead : {R A : Type 0} (remaining : R → Option (List ℕ)) (old new : BufReader R A) (count : ℕ) → reader_buffer new ≡ drop count (reader_buffer old)
    → reader_inner new ≡ reader_inner old → reader_capacity new ≡ reader_capacity old
    → Consumes (reader_remaining remaining old) (reader_remaining remaining new) (take count (reader_buffer old))
takes_ahead remaining old new count buffer inner capacity =
    let none = reader_capacity old == 0 in
    let left : reader_remaining remaining new ≡ with_ahead none (drop count (reader_buffer old)) (remaining (reader_inner old)) =
    ap (λ (n : ℕ). with_ahead (n == 0) (reader_buffer new) (remaining (reader_inner new))) capacity
    ∙ ap (λ (l : List ℕ). with_ahead none l (remaining (reader_inner new))) buffer
    ∙ ap (λ i. with_ahead none (drop count (reader_buffer old)) (remaining i)) inner in
    subst (λ (k : Option (List ℕ)). Consumes (reader_remaining remaining old) k (take count (reader_buffer old))) (sym left)
    (consumed_ahead none (reader_buffer old) (remaining (reader_inner old)) count)
