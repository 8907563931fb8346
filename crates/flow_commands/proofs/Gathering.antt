-- What lines of pairs give, line by line.
use Rattle.std.proofs.Common.{◌≡◌, ℕ, Bool, true, false, cond, Option, Some, None, Ok, Err, List, [], ◌∷◌, ◌++◌, refl, sym, ap, subst, ◌∙◌, append_assoc, append-nil}
use Rattle.std.specs.Str.{bytes_eq, is_utf8, IsUtf8}
use Rattle.std.proofs.lemmas.Str.{is_utf8-from_IsUtf8, IsUtf8-from_is_utf8}
use Rattle.flow_commands.specs.PairFiles.{Pair, Reading, block, head_of, joined, then_pairs, headed, pairs_of, pairs_inside, then_with, limited, pairs_in, Refuses, Gives}
use Rattle.flow_commands.specs.declared.pair_file.PairFile.{PairFile}
use Rattle.flow_model.specs.Lines.{lines_of}
use Rattle.flow_commands.specs.Blocks.{onto_lines, block_lines, value_from, block_value, Opens}
use Rattle.flow_commands.specs.declared.output_fault.OutputFault.{OutputFault}
use Rattle.flow_commands.specs.declared.output_fault.OutputFault.TheVariants.{NotUtf8, NoName, OpenBlock, TooMany, Memory}

-- ---- blocks

-- the pairs from inside a block on, by the lines that it has and those after it
abbrev pub after_block : PairFile → List ℕ → List (List ℕ) → Option (List (List ℕ) × List (List ℕ)) → Reading
after_block file name passed None = Err OpenBlock
after_block file name passed (Some x) = then_pairs file (name, joined (passed ++ x.0)) (pairs_of file x.1)

onto_passed : (file : PairFile) (name : List ℕ) (passed : List (List ℕ)) (line : List ℕ) (o : Option (List (List ℕ) × List (List ℕ)))
    → after_block file name (passed ++ line ∷ []) o ≡ after_block file name passed (onto_lines line o)
onto_passed file name passed line None = refl
onto_passed file name passed line (Some x) =
    ap (λ ls. then_pairs file (name, joined ls) (pairs_of file x.1)) (append_assoc passed (line ∷ []) x.0)

pub inside_is : (file : PairFile) (name delimiter : List ℕ) (passed lines : List (List ℕ))
    → pairs_inside file name delimiter passed lines ≡ after_block file name passed (block_lines delimiter lines)
inside_is file name delimiter passed [] = refl
inside_is file name delimiter passed (line ∷ lines) =
    by_test (bytes_eq line delimiter) (inside_is file name delimiter (passed ++ line ∷ []) lines)
  where
    by_test : (t : Bool)
        → pairs_inside file name delimiter (passed ++ line ∷ []) lines ≡ after_block file name (passed ++ line ∷ []) (block_lines delimiter lines)
        → cond t (then_pairs file (name, joined passed) (pairs_of file lines)) (pairs_inside file name delimiter (passed ++ line ∷ []) lines)
        ≡ after_block file name passed (cond t (Some ([], lines)) (onto_lines line (block_lines delimiter lines)))
    by_test true later = ap (λ ls. then_pairs file (name, joined ls) (pairs_of file lines)) (sym (append-nil passed))
    by_test false later = later ∙ onto_passed file name passed line (block_lines delimiter lines)

-- a block with this value gives its pair, and then what follows
pub block_read : (file : PairFile) (name delimiter value : List ℕ) (lines rest : List (List ℕ)) → block_value delimiter lines ≡ Some (value, rest)
    → pairs_inside file name delimiter [] lines ≡ then_pairs file (name, value) (pairs_of file rest)
block_read file name delimiter value lines rest h =
    inside_is file name delimiter [] lines ∙ by_lines (block_lines delimiter lines) h
  where
    by_lines : (o : Option (List (List ℕ) × List (List ℕ))) → value_from true [] o ≡ Some (value, rest)
        → after_block file name [] o ≡ then_pairs file (name, value) (pairs_of file rest)
    by_lines None is = cc
    by_lines (Some x) is =
        let p : (joined x.0, x.1) ≡ (value, rest) = cc in
        ap (λ (y : List ℕ × List (List ℕ)). then_pairs file (name, y.0) (pairs_of file y.1)) p

-- a block that is not ended
pub block_open : (file : PairFile) (name delimiter : List ℕ) (lines : List (List ℕ)) → block_value delimiter lines ≡ None
    → pairs_inside file name delimiter [] lines ≡ Err OpenBlock
block_open file name delimiter lines h = inside_is file name delimiter [] lines ∙ by_lines (block_lines delimiter lines) h
  where
    by_lines : (o : Option (List (List ℕ) × List (List ℕ))) → value_from true [] o ≡ None → after_block file name [] o ≡ Err OpenBlock
    by_lines None is = refl
    by_lines (Some x) is = cc

-- the line that ends a block, and one that does not
pub block_ends : (line delimiter : List ℕ) (lines : List (List ℕ)) → bytes_eq line delimiter ≡ true
    → block_lines delimiter (line ∷ lines) ≡ Some ([], lines)
block_ends line delimiter lines is = ap (λ t. cond t (Some ([], lines)) (onto_lines line (block_lines delimiter lines))) is

-- ---- the map

-- ---- the file

utf8_text : (file : PairFile) (bytes : List ℕ) → IsUtf8 bytes → pairs_in file bytes ≡ limited file (then_with file [] (pairs_of file (lines_of bytes)))
utf8_text file bytes utf8 =
    ap (λ t. cond t (limited file (then_with file [] (pairs_of file (lines_of bytes)))) (Err NotUtf8)) (is_utf8-from_IsUtf8 bytes utf8)

-- bytes that are no text
pub not_utf8 : (file : PairFile) (bytes : List ℕ) → (IsUtf8 bytes → ⊥) → pairs_in file bytes ≡ Err NotUtf8
not_utf8 file bytes h = by_test (is_utf8 bytes) refl
  where
    by_test : (t : Bool) → is_utf8 bytes ≡ t
        → cond t (limited file (then_with file [] (pairs_of file (lines_of bytes)))) (Err NotUtf8) ≡ Err NotUtf8
    by_test true is = absurd (h (IsUtf8-from_is_utf8 bytes is))
    by_test false is = refl

-- the lines are refused
pub lines_refused : (file : PairFile) (bytes : List ℕ) (fault : OutputFault) → IsUtf8 bytes
    → Refuses fault (then_with file [] (pairs_of file (lines_of bytes))) → Refuses fault (pairs_in file bytes)
lines_refused file bytes NotUtf8 utf8 h = utf8_text file bytes utf8 ∙ ap (limited file) h
lines_refused file bytes NoName utf8 h = utf8_text file bytes utf8 ∙ ap (limited file) h
lines_refused file bytes OpenBlock utf8 h = utf8_text file bytes utf8 ∙ ap (limited file) h
lines_refused file bytes TooMany utf8 h = utf8_text file bytes utf8 ∙ ap (limited file) h
lines_refused file bytes Memory utf8 h = tt

-- the lines are read
pub lines_read : (file : PairFile) (bytes : List ℕ) (found : List Pair) → IsUtf8 bytes
    → then_with file [] (pairs_of file (lines_of bytes)) ≡ Ok found → pairs_in file bytes ≡ limited file (Ok found)
lines_read file bytes found utf8 h = utf8_text file bytes utf8 ∙ ap (limited file) h

-- ---- a block that a line begins

-- the pairs of lines whose first begins a block
block_begun : (file : PairFile) (lines rest : List (List ℕ)) (line name delimiter : List ℕ) → lines ≡ line ∷ rest
    → Some (block name delimiter) ≡ head_of file line → pairs_of file lines ≡ pairs_inside file name delimiter [] rest
block_begun file lines rest line name delimiter h is =
    ap (pairs_of file) h ∙ ap (λ o. headed file o (pairs_of file rest) (λ n d. pairs_inside file n d [] rest)) (sym is)

-- the pairs of lines that begin with a block
block_given : (file : PairFile) (lines rest left : List (List ℕ)) (line name delimiter value : List ℕ) → lines ≡ line ∷ rest
    → Some (block name delimiter) ≡ head_of file line → block_value delimiter rest ≡ Some (value, left)
    → pairs_of file lines ≡ then_pairs file (name, value) (pairs_of file left)
block_given file lines rest left line name delimiter value h is found =
    block_begun file lines rest line name delimiter h is ∙ block_read file name delimiter value rest left found

-- a block is refused
pub block_refused : (file : PairFile) (lines rest : List (List ℕ)) (line name delimiter : List ℕ) (fault : OutputFault) → lines ≡ line ∷ rest
    → Some (block name delimiter) ≡ head_of file line → Opens fault (block_value delimiter rest) → Refuses fault (pairs_of file lines)
block_refused file lines rest line name delimiter NotUtf8 h is opens = absurd opens
block_refused file lines rest line name delimiter NoName h is opens = absurd opens
block_refused file lines rest line name delimiter OpenBlock h is opens =
    block_begun file lines rest line name delimiter h is ∙ block_open file name delimiter rest opens
block_refused file lines rest line name delimiter TooMany h is opens = absurd opens
block_refused file lines rest line name delimiter Memory h is opens = tt

-- what refuses its pair before any others refuses the lines
pub block_refuses : (file : PairFile) (fault : OutputFault) (lines rest left : List (List ℕ)) (line name delimiter value : List ℕ)
    → lines ≡ line ∷ rest → Some (block name delimiter) ≡ head_of file line → block_value delimiter rest ≡ Some (value, left)
    → ((more : Reading) → Refuses fault (then_pairs file (name, value) more)) → Refuses fault (pairs_of file lines)
block_refuses file fault lines rest left line name delimiter value h is found all =
    subst (Refuses fault) (sym (block_given file lines rest left line name delimiter value h is found)) (all (pairs_of file left))

-- the lines set what its pair does, and then what the others do
pub block_reads : (file : PairFile) (map new : List Pair) (lines rest left : List (List ℕ)) (line name delimiter value : List ℕ)
    → lines ≡ line ∷ rest → Some (block name delimiter) ≡ head_of file line → block_value delimiter rest ≡ Some (value, left)
    → ((more : Reading) → then_with file map (then_pairs file (name, value) more) ≡ then_with file new more)
    → then_with file map (pairs_of file lines) ≡ then_with file new (pairs_of file left)
block_reads file map new lines rest left line name delimiter value h is found all =
    ap (then_with file map) (block_given file lines rest left line name delimiter value h is found) ∙ all (pairs_of file left)

-- an answer for the lines is one for the bytes
pub lines_given : (file : PairFile) (bytes : List ℕ) (found : List Pair) (r : Reading) → IsUtf8 bytes
    → then_with file [] (pairs_of file (lines_of bytes)) ≡ Ok found → r ≡ limited file (Ok found) → Gives r (pairs_in file bytes)
lines_given file bytes found r utf8 h is = given r (lines_read file bytes found utf8 h ∙ sym is)
  where
    refused : (fault : OutputFault) → pairs_in file bytes ≡ Err fault → Refuses fault (pairs_in file bytes)
    refused NotUtf8 e = e
    refused NoName e = e
    refused OpenBlock e = e
    refused TooMany e = e
    refused Memory e = tt

    given : (r' : Reading) → pairs_in file bytes ≡ r' → Gives r' (pairs_in file bytes)
    given (Ok x) e = e
    given (Err fault) e = refused fault e
