-- Lines of a file of pairs, and the items that they give.
use Rattle.std.proofs.Common.{◌≡◌, ⊎_elim, ℕ, zero, suc, ◌≤◌, Bool, true, false, cond, Option, Some, None, Ok, Err, List, [], ◌∷◌, ◌++◌, length, refl, sym, ap, subst, ◌∙◌, arith, length-append, append_assoc, append-nil}
use Rattle.std.proofs.lemmas.Slice.Eq.{bytes_eq-Decides}
use Rattle.std.specs.List.{Contains}
use Rattle.std.specs.Str.{bytes_eq}
use Rattle.flow_commands.specs.Blocks.{onto_lines, block_lines}
use Rattle.flow_commands.specs.Laws.{IsBlockLine, Spells, pair_line, whole_block, Give, nothing, empty_line, one_item, GiveNone, no_line, no_value, HasNoItem, StaysOpen, OneReading}
use Rattle.flow_commands.specs.PairFiles.{Pair, Reading, Head, blank, pair, block, is_value, head_of, joined, before_pairs, then_pairs, headed, pairs_of, pairs_inside}
use Rattle.flow_commands.specs.declared.pair_file.PairFile.{PairFile}
use Rattle.flow_commands.specs.declared.output_fault.OutputFault.TheVariants.{NotUtf8, NoName, OpenBlock, TooMany, Memory}
use Rattle.flow_commands.proofs.Gathering.{after_block, inside_is}
use Rattle.flow_commands.proofs.Members.{later, first_or_later}
use Rattle.flow_commands.proofs.Heads.{pair_is_head, block_is_head, head_is_blank, head_is_pair, head_is_block, head_is_none, none_is_head}

-- ---- where a block ends

-- the lines of a block and those after it
block_ends : (delimiter : List ℕ) (inner lines : List (List ℕ)) → (Contains inner delimiter → ⊥)
    → block_lines delimiter (inner ++ delimiter ∷ lines) ≡ Some (inner, lines)
block_ends delimiter [] lines lacks =
    ap (λ (t : Bool). cond t (Some ([], lines)) (onto_lines delimiter (block_lines delimiter lines))) ((bytes_eq-Decides delimiter delimiter).1 refl)
block_ends delimiter (line ∷ inner) lines lacks =
    by_test (bytes_eq line delimiter) refl
    ∙ ap (onto_lines line) (block_ends delimiter inner lines (λ there. lacks (later line delimiter inner there)))
  where
    by_test : (t : Bool) → bytes_eq line delimiter ≡ t
        → cond t (Some ([], inner ++ delimiter ∷ lines)) (onto_lines line (block_lines delimiter (inner ++ delimiter ∷ lines)))
        ≡ onto_lines line (block_lines delimiter (inner ++ delimiter ∷ lines))
    by_test true is = absurd (lacks (zero, omega arith, (bytes_eq-Decides line delimiter).0 is))
    by_test false is = refl

-- what a block is found to be
abbrev Ended : List ℕ → List (List ℕ) → Option (List (List ℕ) × List (List ℕ)) → Type 0
Ended delimiter all None = Contains all delimiter → ⊥
Ended delimiter all (Some x) = (Contains x.0 delimiter → ⊥) × (all ≡ x.0 ++ delimiter ∷ x.1)

no_later : (delimiter line : List ℕ) (lines : List (List ℕ)) → (line ≡ delimiter → ⊥) → (Contains lines delimiter → ⊥) → Contains (line ∷ lines) delimiter → ⊥
no_later delimiter line lines other lacks there = ⊎_elim other lacks (first_or_later line delimiter lines there)

block_is : (delimiter : List ℕ) (all : List (List ℕ)) → Ended delimiter all (block_lines delimiter all)
block_is delimiter [] = λ there. omega (arith, there.1)
block_is delimiter (line ∷ lines) = by_test (bytes_eq line delimiter) refl (block_is delimiter lines)
  where
    onto : (line ≡ delimiter → ⊥) → (o : Option (List (List ℕ) × List (List ℕ))) → Ended delimiter lines o → Ended delimiter (line ∷ lines) (onto_lines line o)
    onto other None lacks = no_later delimiter line lines other lacks
    onto other (Some x) ended =
        (no_later delimiter line x.0 other ended.0, ap (λ (ls : List (List ℕ)). line ∷ ls) ended.1)

    by_test : (t : Bool) → bytes_eq line delimiter ≡ t → Ended delimiter lines (block_lines delimiter lines)
        → Ended delimiter (line ∷ lines) (cond t (Some ([], lines)) (onto_lines line (block_lines delimiter lines)))
    by_test true is more = (λ there. omega (arith, there.1), ap (λ (l : List ℕ). l ∷ lines) ((bytes_eq-Decides line delimiter).0 is))
    by_test false is more =
        onto (λ same. let there = (bytes_eq-Decides line delimiter).1 same in cc) (block_lines delimiter lines) more

-- ---- what lines are read as

-- items before what is read
abbrev onto_items : List Pair → Reading → Reading
onto_items items (Ok more) = Ok (items ++ more)
onto_items items (Err fault) = Err fault

-- a pair that has a value, and one that has none, before what is read
valued : (file : PairFile) (p : Pair) (r : Reading) → is_value file p.1 ≡ true → then_pairs file p r ≡ before_pairs p r
valued file p r h = ap (λ (t : Bool). cond t (before_pairs p r) (Err NoName)) h

unvalued : (file : PairFile) (p : Pair) (r : Reading) → is_value file p.1 ≡ false → then_pairs file p r ≡ Err NoName
unvalued file p r h = ap (λ (t : Bool). cond t (before_pairs p r) (Err NoName)) h

before_onto : (p : Pair) (items : List Pair) (r : Reading) → before_pairs p (onto_items items r) ≡ onto_items (p ∷ items) r
before_onto p items (Ok more) = refl
before_onto p items (Err fault) = refl

none_before : (r : Reading) → r ≡ onto_items [] r
none_before (Ok more) = refl
none_before (Err fault) = refl

-- the pairs from a line on that is such
abbrev from_head : PairFile → Option Head → List (List ℕ) → Reading
from_head file head lines = headed file head (pairs_of file lines) (λ name delimiter. pairs_inside file name delimiter [] lines)

-- lines that spell a name and a value, before others
spelled : (file : PairFile) (rest : List (List ℕ)) {all lines : List (List ℕ)} {name value : List ℕ} → Spells file all name value lines
    → pairs_of file (all ++ rest) ≡ then_pairs file (name, value) (pairs_of file (lines ++ rest))
spelled file rest (pair_line {line} {name} {value} {lines} is) =
    ap (λ (o : Option Head). from_head file o (lines ++ rest)) (pair_is_head file line name value is)
spelled file rest (whole_block inner {line} {name} {delimiter} {lines} is lacks) =
    let whole : (inner ++ delimiter ∷ lines) ++ rest ≡ inner ++ delimiter ∷ (lines ++ rest) = append_assoc inner (delimiter ∷ lines) rest in
    ap (λ (o : Option Head). from_head file o ((inner ++ delimiter ∷ lines) ++ rest)) (block_is_head file line name delimiter is)
    ∙ ap (pairs_inside file name delimiter []) whole
    ∙ inside_is file name delimiter [] (inner ++ delimiter ∷ (lines ++ rest))
    ∙ ap (after_block file name []) (block_ends delimiter inner (lines ++ rest) lacks)

-- lines that give items are read as those, before what follows
read_before : (file : PairFile) (rest : List (List ℕ)) {before : List (List ℕ)} {items : List Pair} → Give file before items
    → pairs_of file (before ++ rest) ≡ onto_items items (pairs_of file rest)
read_before file rest nothing = none_before (pairs_of file rest)
read_before file rest (empty_line more) = read_before file rest more
read_before file rest (one_item {all} {lines} {name} {value} {items} is has more) =
    spelled file rest is ∙ valued file (name, value) (pairs_of file (lines ++ rest)) has
    ∙ ap (before_pairs (name, value)) (read_before file rest more) ∙ before_onto (name, value) items (pairs_of file rest)

-- what is said of lines by what they are read as
abbrev ComesOf : PairFile → List (List ℕ) → Reading → Type 0
ComesOf file lines (Ok items) = Give file lines items
ComesOf file lines (Err NotUtf8) = ⊥
ComesOf file lines (Err NoName) = HasNoItem file lines
ComesOf file lines (Err OpenBlock) = StaysOpen file lines
ComesOf file lines (Err TooMany) = ⊥
ComesOf file lines (Err Memory) = ⊥

-- lines that may stand before any that give items
abbrev Leads : PairFile → List (List ℕ) → Type 0
Leads file front = (before : List (List ℕ)) (items : List Pair) → Give file before items → (more : List Pair) × Give file (front ++ before) more

none_after : (file : PairFile) (front lines : List (List ℕ)) → Leads file front → HasNoItem file lines → HasNoItem file (front ++ lines)
none_after file front lines onto h =
    let given = onto h.before h.items h.given in
    record {
      before = front ++ h.before;
      items = given.0;
      after = h.after;
      given = given.1;
      bad = h.bad;
      whole = ap (λ (ls : List (List ℕ)). front ++ ls) h.whole ∙ sym (append_assoc front h.before h.after);
    }

none_at_first : (file : PairFile) (lines : List (List ℕ)) → GiveNone file lines → HasNoItem file lines
none_at_first file lines bad = record { before = []; items = []; after = lines; given = nothing; bad = bad; whole = refl }

open_after : (file : PairFile) (front lines : List (List ℕ)) → Leads file front → StaysOpen file lines → StaysOpen file (front ++ lines)
open_after file front lines onto h =
    let given = onto h.before h.items h.given in
    record {
      before = front ++ h.before;
      items = given.0;
      line = h.line;
      name = h.name;
      delimiter = h.delimiter;
      after = h.after;
      given = given.1;
      begins = h.begins;
      lacks = h.lacks;
      whole = ap (λ (ls : List (List ℕ)). front ++ ls) h.whole ∙ sym (append_assoc front h.before (h.line ∷ h.after));
    }

-- an item before
item_first : (file : PairFile) (front lines : List (List ℕ)) (p : Pair)
    → ((before : List (List ℕ)) (items : List Pair) → Give file before items → Give file (front ++ before) (p ∷ items))
    → (r : Reading) → ComesOf file lines r → ComesOf file (front ++ lines) (before_pairs p r)
item_first file front lines p onto (Ok items) h = onto lines items h
item_first file front lines p onto (Err NotUtf8) h = h
item_first file front lines p onto (Err NoName) h = none_after file front lines (λ before items given. (p ∷ items, onto before items given)) h
item_first file front lines p onto (Err OpenBlock) h = open_after file front lines (λ before items given. (p ∷ items, onto before items given)) h
item_first file front lines p onto (Err TooMany) h = h
item_first file front lines p onto (Err Memory) h = h

empty_first : (file : PairFile) (lines : List (List ℕ)) (r : Reading) → ComesOf file lines r → ComesOf file ([] ∷ lines) r
empty_first file lines (Ok items) h = empty_line h
empty_first file lines (Err NotUtf8) h = h
empty_first file lines (Err NoName) h = none_after file ([] ∷ []) lines (λ before items given. (items, empty_line given)) h
empty_first file lines (Err OpenBlock) h = open_after file ([] ∷ []) lines (λ before items given. (items, empty_line given)) h
empty_first file lines (Err TooMany) h = h
empty_first file lines (Err Memory) h = h

-- a pair that the first lines spell, whether it has a value or not
spelled_first : (file : PairFile) (front lines : List (List ℕ)) (p : Pair)
    → ((others : List (List ℕ)) → Spells file (front ++ others) p.0 p.1 others) → ComesOf file lines (pairs_of file lines)
    → ComesOf file (front ++ lines) (then_pairs file p (pairs_of file lines))
spelled_first file front lines p spells more = by_value (is_value file p.1) refl
  where
    by_value : (t : Bool) → is_value file p.1 ≡ t → ComesOf file (front ++ lines) (cond t (before_pairs p (pairs_of file lines)) (Err NoName))
    by_value true has =
        item_first file front lines p (λ before items given. one_item (spells before) has given) (pairs_of file lines) more
    by_value false has = none_at_first file (front ++ lines) (no_value (spells lines) has)

comes_to : (file : PairFile) (n : ℕ) (lines : List (List ℕ)) → length lines ≤ n → ComesOf file lines (pairs_of file lines)
comes_to file n [] h = nothing
comes_to file zero (line ∷ lines) h = absurd (omega arith)
comes_to file (suc n) (line ∷ lines) h = by_head (head_of file line) refl (comes_to file n)
  where
    in_block : (name delimiter : List ℕ) → IsBlockLine file line name delimiter
        → ((ls : List (List ℕ)) → length ls ≤ n → ComesOf file ls (pairs_of file ls))
        → (o : Option (List (List ℕ) × List (List ℕ))) → Ended delimiter lines o → ComesOf file (line ∷ lines) (after_block file name [] o)
    in_block name delimiter is more None lacks =
        record { before = []; items = []; line = line; name = name; delimiter = delimiter; after = lines; given = nothing; begins = is; lacks = lacks; whole = refl }
    in_block name delimiter is more (Some x) ended =
        let size : length lines ≡ length (x.0 ++ delimiter ∷ x.1) = ap length ended.1 in
        let rest = more x.1 (omega (arith, h, size, length-append x.0 (delimiter ∷ x.1))) in
        let front = line ∷ (x.0 ++ delimiter ∷ []) in
        let whole : front ++ x.1 ≡ line ∷ lines =
        ap (λ (ls : List (List ℕ)). line ∷ ls) (append_assoc x.0 (delimiter ∷ []) x.1 ∙ sym ended.1) in
        subst (λ (ls : List (List ℕ)). ComesOf file ls (then_pairs file (name, joined x.0) (pairs_of file x.1))) whole
        (spelled_first file front x.1 (name, joined x.0)
        (λ others. subst (λ (ls : List (List ℕ)). Spells file (line ∷ ls) name (joined x.0) others)
        (sym (append_assoc x.0 (delimiter ∷ []) others)) (whole_block x.0 is ended.0)) rest)

    by_head : (o : Option Head) → head_of file line ≡ o → ((ls : List (List ℕ)) → length ls ≤ n → ComesOf file ls (pairs_of file ls))
        → ComesOf file (line ∷ lines) (from_head file o lines)
    by_head None is more = none_at_first file (line ∷ lines) (no_line (head_is_none file line is))
    by_head (Some blank) is more =
        subst (λ (l : List ℕ). ComesOf file (l ∷ lines) (pairs_of file lines)) (sym (head_is_blank file line is))
        (empty_first file lines (pairs_of file lines) (more lines (omega (arith, h))))
    by_head (Some (pair name value)) is more =
        spelled_first file (line ∷ []) lines (name, value) (λ others. pair_line (head_is_pair file line name value is)) (more lines (omega (arith, h)))
    by_head (Some (block name delimiter)) is more =
        subst (ComesOf file (line ∷ lines)) (sym (inside_is file name delimiter [] lines))
        (in_block name delimiter (head_is_block file line name delimiter is) more (block_lines delimiter lines) (block_is delimiter lines))

comes : (file : PairFile) (lines : List (List ℕ)) (r : Reading) → pairs_of file lines ≡ r → ComesOf file lines r
comes file lines r is = subst (ComesOf file lines) is (comes_to file (length lines) lines (omega arith))

-- ---- both ways

pub given_read : (file : PairFile) (lines : List (List ℕ)) (items : List Pair) → Give file lines items → pairs_of file lines ≡ Ok items
given_read file lines items given =
    ap (pairs_of file) (sym (append-nil lines)) ∙ read_before file [] given ∙ ap (λ (ps : List Pair). Ok ps) (append-nil items)

pub read_given : (file : PairFile) (lines : List (List ℕ)) (items : List Pair) → pairs_of file lines ≡ Ok items → Give file lines items
read_given file lines items is = comes file lines (Ok items) is

none_read : (file : PairFile) {all : List (List ℕ)} → GiveNone file all → pairs_of file all ≡ Err NoName
none_read file (no_line {line} {lines} is) = ap (λ (o : Option Head). from_head file o lines) (none_is_head file line is)
none_read file (no_value {all} {lines} {name} {value} is has) =
    ap (pairs_of file) (sym (append-nil all)) ∙ spelled file [] is ∙ unvalued file (name, value) (pairs_of file (lines ++ [])) has

none_refused : (file : PairFile) (lines : List (List ℕ)) → HasNoItem file lines → pairs_of file lines ≡ Err NoName
none_refused file lines h =
    ap (pairs_of file) h.whole ∙ read_before file h.after h.given ∙ ap (onto_items h.items) (none_read file h.bad)

open_refused : (file : PairFile) (lines : List (List ℕ)) → StaysOpen file lines → pairs_of file lines ≡ Err OpenBlock
open_refused file lines h =
    ap (pairs_of file) h.whole ∙ read_before file (h.line ∷ h.after) h.given
    ∙ ap (λ (o : Option Head). onto_items h.items (from_head file o h.after)) (block_is_head file h.line h.name h.delimiter h.begins)
    ∙ ap (onto_items h.items) (inside_is file h.name h.delimiter [] h.after ∙ by_end (block_lines h.delimiter h.after) (block_is h.delimiter h.after))
  where
    by_end : (o : Option (List (List ℕ) × List (List ℕ))) → Ended h.delimiter h.after o → after_block file h.name [] o ≡ Err OpenBlock
    by_end None lacks = refl
    by_end (Some x) ended =
        absurd (h.lacks (subst (λ (ls : List (List ℕ)). Contains ls h.delimiter) (sym ended.1) (at_end x.0 x.1)))
      where
        at_end : (inner rest : List (List ℕ)) → Contains (inner ++ h.delimiter ∷ rest) h.delimiter
        at_end [] rest = (zero, omega arith, refl)
        at_end (l ∷ inner) rest = later l h.delimiter (inner ++ h.delimiter ∷ rest) (at_end inner rest)

pub one_reading : OneReading
one_reading file lines = (
  λ items. (read_given file lines items, given_read file lines items),
  (comes file lines (Err NoName), none_refused file lines),
  (comes file lines (Err OpenBlock), open_refused file lines),
)
