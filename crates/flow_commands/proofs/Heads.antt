-- What a line of a file of pairs is, by how it is spelled.
use Rattle.std.proofs.Common.{◌≡◌, ℕ, ◌<◌, ◌≤◌, Bool, true, false, cond, ◌&&◌, nat_le, Option, Some, None, is_some, List, [], ◌∷◌, ◌++◌, length, codes, refl, sym, ap, subst, ◌∙◌, arith, length-append}
use Rattle.std.proofs.lemmas.Bool.Decides.{nat_tests}
use Rattle.std.specs.List.{list_all}
use Rattle.flow_model.proofs.Tests.{both}
use Rattle.flow_commands.specs.Laws.{Lacks, IsCutFirst, IsPairLine, IsBlockLine, IsNoLine}
use Rattle.flow_commands.specs.PairFiles.{Pair, Head, blank, pair, block, names, is_name, named_pair, named_block, at_arrows, at_equals, head_of}
use Rattle.flow_commands.specs.declared.pair_file.PairFile.{PairFile}
use Rattle.flow_commands.specs.declared.pair_file.PairFile.TheVariants.{Outputs, Env}
use Rattle.flow_commands.specs.Splits.{split_first}
use Rattle.flow_commands.proofs.FirstPlaces.{later_same, split_cuts, unsplit_lacks, lacks_unsplit, cut_splits}

first_same : (b c : ℕ) (text other : List ℕ) → b ∷ text ≡ c ∷ other → b ≡ c
first_same b c text other h = cc

bytes_of : (file : PairFile) (name : List ℕ) → is_name file name ≡ true → list_all (names file) name ≡ true
bytes_of file name h = (both (nat_le 1 (length name)) (list_all (names file) name) h).1

-- one at least
pub at_least : (n : ℕ) → 0 < n → nat_le 1 n ≡ true
at_least n some = grind (arith, nat_tests)

-- ---- where a name ends

-- no name has a =
no_equals : (file : PairFile) → names file 61 ≡ false
no_equals Outputs = refl
no_equals Env = refl

no_byte : (file : PairFile) (b c : ℕ) → names file b ≡ true → names file c ≡ false → b ≡ c → ⊥
no_byte file b c is other same = let there : names file b ≡ names file c = ap (names file) same in cc

-- a byte that no name has stands behind the name
name_before : (file : PairFile) (name more before : List ℕ) (c : ℕ) (after : List ℕ) → list_all (names file) name ≡ true → names file c ≡ false
    → name ++ more ≡ before ++ c ∷ after → length name ≤ length before
name_before file [] more before c after named other at = omega arith
name_before file (b ∷ name) more [] c after named other at =
    absurd (no_byte file b c (both (names file b) (list_all (names file) name) named).0 other (first_same b c (name ++ more) after at))
name_before file (b ∷ name) more (d ∷ before) c after named other at =
    let less = name_before file name more before c after (both (names file b) (list_all (names file) name) named).1 other
    (later_same b d (name ++ more) (before ++ c ∷ after) at) in
    omega (arith, less)

-- where << follows a name and = stands, << stands before the first =
arrows_before : (file : PairFile) (name delimiter front rest : List ℕ) → list_all (names file) name ≡ true
    → name ++ (60 ∷ 60 ∷ delimiter) ≡ front ++ 61 ∷ rest → (before : List ℕ) × (after : List ℕ) × (front ≡ before ++ (60 ∷ 60 ∷ after))
arrows_before file [] delimiter [] rest named at = absurd (let same = first_same 60 61 (60 ∷ delimiter) rest at in omega (arith, same))
arrows_before file [] delimiter (b ∷ []) rest named at =
    absurd (let same = first_same 60 61 delimiter rest (later_same 60 b (60 ∷ delimiter) (61 ∷ rest) at) in omega (arith, same))
arrows_before file [] delimiter (b ∷ c ∷ front) rest named at =
    let one : 60 ≡ b = first_same 60 b (60 ∷ delimiter) (c ∷ (front ++ 61 ∷ rest)) at in
    let two : 60 ≡ c = first_same 60 c delimiter (front ++ 61 ∷ rest) (later_same 60 b (60 ∷ delimiter) (c ∷ (front ++ 61 ∷ rest)) at) in
    ([], front, ap (λ (x : ℕ). x ∷ c ∷ front) (sym one) ∙ ap (λ (x : ℕ). 60 ∷ x ∷ front) (sym two))
arrows_before file (b ∷ name) delimiter [] rest named at =
    absurd (no_byte file b 61 (both (names file b) (list_all (names file) name) named).0 (no_equals file)
    (first_same b 61 (name ++ (60 ∷ 60 ∷ delimiter)) rest at))
arrows_before file (b ∷ name) delimiter (c ∷ front) rest named at =
    let found = arrows_before file name delimiter front rest (both (names file b) (list_all (names file) name) named).1
    (later_same b c (name ++ (60 ∷ 60 ∷ delimiter)) (front ++ 61 ∷ rest) at) in
    (c ∷ found.0, found.1, ap (λ (t : List ℕ). c ∷ t) found.2)

-- ---- what a line is

some_line : (file : PairFile) (line : List ℕ) → 0 < length line
    → head_of file line ≡ at_equals file (split_first (codes "=") line) (split_first (codes "<<") line)
some_line file [] some = absurd (omega arith)
some_line file (b ∷ line) some = refl

-- a pair is read
pub pair_is_head : (file : PairFile) (line name value : List ℕ) → IsPairLine file line name value → head_of file line ≡ Some (pair name value)
pair_is_head file line name value h =
    let named = bytes_of file name h.named in
    let arrows = split_first (codes "<<") line in
    let size : length line ≡ length (name ++ 61 ∷ value) = ap length h.spelled in
    let split : split_first (codes "=") line ≡ Some (name, value) = cut_splits (codes "=") line name value (omega arith) (record {
      cut = h.spelled;
      first = λ before after at. name_before file name (61 ∷ value) before 61 after named (no_equals file) (sym h.spelled ∙ at);
    }) in
    some_line file line (omega (arith, size, length-append name (61 ∷ value)))
    ∙ ap (λ (o : Option Pair). at_equals file o arrows) split
    ∙ ap (λ (o : Option Pair). cond (is_some o) (at_arrows file arrows) (named_pair file (name, value))) (lacks_unsplit (codes "<<") name h.free)
    ∙ ap (λ (t : Bool). cond t (Some (pair name value)) None) h.named

-- the first line of a block is read
pub block_is_head : (file : PairFile) (line name delimiter : List ℕ) → IsBlockLine file line name delimiter
    → head_of file line ≡ Some (block name delimiter)
block_is_head file line name delimiter h =
    let size : length line ≡ length (name ++ 60 ∷ 60 ∷ delimiter) = ap length h.cut.cut in
    let split : split_first (codes "<<") line ≡ Some (name, delimiter) = cut_splits (codes "<<") line name delimiter (omega arith) h.cut in
    some_line file line (omega (arith, size, length-append name (60 ∷ 60 ∷ delimiter)))
    ∙ by_equals (split_first (codes "=") line) refl ∙ ap (at_arrows file) split ∙ ap (λ (t : Bool). cond t (Some (block name delimiter)) None) passes
  where
    named : list_all (names file) name ≡ true
    named = bytes_of file name h.named

    passes : (is_name file name && nat_le 1 (length delimiter)) ≡ true
    passes = ap (λ (t : Bool). t && nat_le 1 (length delimiter)) h.named ∙ at_least (length delimiter) h.some

    arrows : Option Pair
    arrows = split_first (codes "<<") line

    found : (front rest : List ℕ) → IsCutFirst (codes "=") line front rest → (o : Option Pair) → split_first (codes "<<") front ≡ o → is_some o ≡ true
    found front rest cut None is =
        let there = arrows_before file name delimiter front rest named (sym h.cut.cut ∙ cut.cut) in
        absurd (unsplit_lacks (codes "<<") front (omega arith) is there.0 there.1 there.2)
    found front rest cut (Some x) is = refl

    by_equals : (o : Option Pair) → split_first (codes "=") line ≡ o → at_equals file o arrows ≡ at_arrows file arrows
    by_equals None is = refl
    by_equals (Some x) is =
        ap (λ (t : Bool). cond t (at_arrows file arrows) (named_pair file x))
        (found x.0 x.1 (split_cuts (codes "=") line x.0 x.1 is) (split_first (codes "<<") x.0) refl)

no_pair_there : (file : PairFile) (o : Option Pair) (name value : List ℕ) → at_arrows file o ≡ Some (pair name value) → ⊥
no_pair_there file None name value h = cc
no_pair_there file (Some x) name value h = by_test (is_name file x.0 && nat_le 1 (length x.1)) h
  where
    by_test : (t : Bool) → cond t (Some (block x.0 x.1)) None ≡ Some (pair name value) → ⊥
    by_test true k = cc
    by_test false k = cc

no_blank_there : (file : PairFile) (o : Option Pair) → at_arrows file o ≡ Some blank → ⊥
no_blank_there file None h = cc
no_blank_there file (Some x) h = by_test (is_name file x.0 && nat_le 1 (length x.1)) h
  where
    by_test : (t : Bool) → cond t (Some (block x.0 x.1)) None ≡ Some blank → ⊥
    by_test true k = cc
    by_test false k = cc

no_blank_named : (file : PairFile) (x : Pair) → named_pair file x ≡ Some blank → ⊥
no_blank_named file x h = by_test (is_name file x.0) h
  where
    by_test : (t : Bool) → cond t (Some (pair x.0 x.1)) None ≡ Some blank → ⊥
    by_test true k = cc
    by_test false k = cc

no_block_named : (file : PairFile) (x : Pair) (name delimiter : List ℕ) → named_pair file x ≡ Some (block name delimiter) → ⊥
no_block_named file x name delimiter h = by_test (is_name file x.0) h
  where
    by_test : (t : Bool) → cond t (Some (pair x.0 x.1)) None ≡ Some (block name delimiter) → ⊥
    by_test true k = cc
    by_test false k = cc

named_here : (file : PairFile) (x : Pair) (name value : List ℕ) → named_pair file x ≡ Some (pair name value) → (is_name file x.0 ≡ true) × (x.0 ≡ name) × (x.1 ≡ value)
named_here file x name value h = by_test (is_name file x.0) refl h
  where
    by_test : (t : Bool) → is_name file x.0 ≡ t → cond t (Some (pair x.0 x.1)) None ≡ Some (pair name value) → (is_name file x.0 ≡ true) × (x.0 ≡ name) × (x.1 ≡ value)
    by_test true is k = (is, cc, cc)
    by_test false is k = cc

block_here : (file : PairFile) (x : Pair) (name delimiter : List ℕ) → named_block file x ≡ Some (block name delimiter)
    → (is_name file x.0 ≡ true) × (0 < length x.1) × (x.0 ≡ name) × (x.1 ≡ delimiter)
block_here file x name delimiter h = by_test (is_name file x.0 && nat_le 1 (length x.1)) refl h
  where
    by_test : (t : Bool) → (is_name file x.0 && nat_le 1 (length x.1)) ≡ t → cond t (Some (block x.0 x.1)) None ≡ Some (block name delimiter)
        → (is_name file x.0 ≡ true) × (0 < length x.1) × (x.0 ≡ name) × (x.1 ≡ delimiter)
    by_test true is k =
        let parts = both (is_name file x.0) (nat_le 1 (length x.1)) is in
        let long = parts.1 in
        (parts.0, grind (arith, nat_tests, long), cc, cc)
    by_test false is k = cc

-- an empty line is read as such
pub head_is_blank : (file : PairFile) (line : List ℕ) → head_of file line ≡ Some blank → line ≡ []
head_is_blank file [] h = refl
head_is_blank file (b ∷ line) h = absurd (by_equals (split_first (codes "=") (b ∷ line)) h)
  where
    arrows : Option Pair
    arrows = split_first (codes "<<") (b ∷ line)

    by_equals : (o : Option Pair) → at_equals file o arrows ≡ Some blank → ⊥
    by_equals None k = no_blank_there file arrows k
    by_equals (Some x) k = by_test (is_some (split_first (codes "<<") x.0)) k
      where
        by_test : (t : Bool) → cond t (at_arrows file arrows) (named_pair file x) ≡ Some blank → ⊥
        by_test true k = no_blank_there file arrows k
        by_test false k = no_blank_named file x k

-- what is read as a pair is one
pub head_is_pair : (file : PairFile) (line name value : List ℕ) → head_of file line ≡ Some (pair name value) → IsPairLine file line name value
head_is_pair file [] name value h = cc
head_is_pair file (b ∷ line) name value h = by_equals (split_first (codes "=") (b ∷ line)) refl h
  where
    arrows : Option Pair
    arrows = split_first (codes "<<") (b ∷ line)

    by_equals : (o : Option Pair) → split_first (codes "=") (b ∷ line) ≡ o → at_equals file o arrows ≡ Some (pair name value)
        → IsPairLine file (b ∷ line) name value
    by_equals None is k = absurd (no_pair_there file arrows name value k)
    by_equals (Some x) is k = by_test (split_first (codes "<<") x.0) refl k
      where
        by_test : (o : Option Pair) → split_first (codes "<<") x.0 ≡ o → cond (is_some o) (at_arrows file arrows) (named_pair file x) ≡ Some (pair name value)
            → IsPairLine file (b ∷ line) name value
        by_test (Some y) there k = absurd (no_pair_there file arrows name value k)
        by_test None there k =
            let here = named_here file x name value k in
            record {
              named = ap (is_name file) (sym here.1) ∙ here.0;
              spelled = (split_cuts (codes "=") (b ∷ line) x.0 x.1 is).cut ∙ ap (λ (t : List ℕ). t ++ 61 ∷ x.1) here.1
                  ∙ ap (λ (t : List ℕ). name ++ 61 ∷ t) here.2;
              free = subst (Lacks (codes "<<")) here.1 (unsplit_lacks (codes "<<") x.0 (omega arith) there);
            }

-- what is read as the first line of a block is one
pub head_is_block : (file : PairFile) (line name delimiter : List ℕ) → head_of file line ≡ Some (block name delimiter) → IsBlockLine file line name delimiter
head_is_block file [] name delimiter h = cc
head_is_block file (b ∷ line) name delimiter h = by_equals (split_first (codes "=") (b ∷ line)) h
  where
    there : (o : Option Pair) → split_first (codes "<<") (b ∷ line) ≡ o → at_arrows file o ≡ Some (block name delimiter) → IsBlockLine file (b ∷ line) name delimiter
    there None is k = cc
    there (Some x) is k =
        let here = block_here file x name delimiter k in
        record {
          named = ap (is_name file) (sym here.2) ∙ here.0;
          some = subst (λ (d : List ℕ). 0 < length d) here.3 here.1;
          cut = subst (λ (d : List ℕ). IsCutFirst (codes "<<") (b ∷ line) name d) here.3
              (subst (λ (n : List ℕ). IsCutFirst (codes "<<") (b ∷ line) n x.1) here.2 (split_cuts (codes "<<") (b ∷ line) x.0 x.1 is));
        }

    by_equals : (o : Option Pair) → at_equals file o (split_first (codes "<<") (b ∷ line)) ≡ Some (block name delimiter) → IsBlockLine file (b ∷ line) name delimiter
    by_equals None k = there (split_first (codes "<<") (b ∷ line)) refl k
    by_equals (Some x) k = by_test (is_some (split_first (codes "<<") x.0)) k
      where
        by_test : (t : Bool) → cond t (at_arrows file (split_first (codes "<<") (b ∷ line))) (named_pair file x) ≡ Some (block name delimiter)
            → IsBlockLine file (b ∷ line) name delimiter
        by_test true k = there (split_first (codes "<<") (b ∷ line)) refl k
        by_test false k = absurd (no_block_named file x name delimiter k)

-- a line that is read as nothing is neither, and has a byte
pub head_is_none : (file : PairFile) (line : List ℕ) → head_of file line ≡ None → IsNoLine file line
head_is_none file [] h = cc
head_is_none file (b ∷ line) h = record {
  some = omega arith;
  no_pair = λ name value is. let there = pair_is_head file (b ∷ line) name value is in cc;
  no_block = λ name delimiter is. let there = block_is_head file (b ∷ line) name delimiter is in cc;
}

pub none_is_head : (file : PairFile) (line : List ℕ) → IsNoLine file line → head_of file line ≡ None
none_is_head file line h = by_head (head_of file line) refl
  where
    by_head : (o : Option Head) → head_of file line ≡ o → o ≡ None
    by_head None is = refl
    by_head (Some blank) is = absurd (let size : length line ≡ 0 = ap length (head_is_blank file line is) in omega (arith, size, h.some))
    by_head (Some (pair name value)) is = absurd (h.no_pair name value (head_is_pair file line name value is))
    by_head (Some (block name delimiter)) is = absurd (h.no_block name delimiter (head_is_block file line name delimiter is))
