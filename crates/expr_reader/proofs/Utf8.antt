-- What stands in quotes is text, and what follows too.
use Rattle.std.proofs.Common.{◌≡◌, ◌≢◌, ℕ, zero, suc, ◌+◌, ◌<◌, ◌≤◌, Bool, true, false, not, cond, nat_eq, Option, None, Some, List, [], ◌∷◌, ◌++◌, length, get_or, drop, refl, sym, ap, subst, ◌∙◌, append_assoc, append-nil, length-append, arith}
use Rattle.std.proofs.Math.Seq.{take-append_seam, drop-append_seam, get_or-append_seam, drop-cons, drop-length}
use Rattle.std.proofs.lemmas.Bool.{cond-false, eqb-true}
use Rattle.std.proofs.lemmas.Bool.Decides.{nat_tests}
use Rattle.std.proofs.lemmas.Str.{IsUtf8-append, IsUtf8-take, IsUtf8-drop, IsUtf8-from_ascii, IsCharBoundary-before_ascii, IsCharBoundary-after_ascii, IsCharBoundary-from_drop}
use Rattle.std.specs.Str.{IsUtf8, IsCharBoundary}
use Rattle.expr_reader.specs.Lexer.{with_front, unquoted, after_quote}
use Rattle.expr_reader.specs.Spelling.{doubled}
use Rattle.expr_reader.proofs.Quoted.{QuoteComes, unquoted_comes}

-- A text may be cut at an ASCII byte.
pub cut_ascii : (p : List ℕ) (c : ℕ) (r : List ℕ) → c < 128 → IsUtf8 (p ++ c ∷ r) → IsUtf8 p × IsUtf8 r
cut_ascii p c r low utf8 =
    let whole : List ℕ = p ++ c ∷ r in
    let at : get_or (p ++ c ∷ r) (length p) 0 ≡ c = get_or-append_seam p c r 0 in
    let inside : length p < length (p ++ c ∷ r) = omega (arith, length-append p (c ∷ r)) in
    let ascii : get_or (p ++ c ∷ r) (length p) 0 < 128 = omega (arith, at, low) in
    let front = IsUtf8-take (p ++ c ∷ r) (length p) utf8 (IsCharBoundary-before_ascii (p ++ c ∷ r) (length p) inside ascii) in
    let back = IsUtf8-drop (p ++ c ∷ r) (length p + 1) utf8 (IsCharBoundary-after_ascii (p ++ c ∷ r) (length p) utf8 inside ascii) in
    let regrouped : (p ++ c ∷ []) ++ r ≡ p ++ c ∷ r = append_assoc p (c ∷ []) r in
    let size : length (p ++ c ∷ []) ≡ length p + 1 = length-append p (c ∷ []) ∙ omega arith in
    let dropped : drop (length p + 1) (p ++ c ∷ r) ≡ r = ap (λ (n : ℕ). drop n (p ++ c ∷ r)) (sym size) ∙ ap (drop (length (p ++ c ∷ []))) (sym regrouped) ∙ drop-append_seam (p ++ c ∷ []) r in
    (subst IsUtf8 (take-append_seam p (c ∷ r)) front, subst IsUtf8 dropped back)

quote_utf8 : IsUtf8 (39 ∷ [])
quote_utf8 = IsUtf8-from_ascii (39 ∷ []) (λ i. ascii i)
  where
    ascii : (i : ℕ) → get_or (39 ∷ []) i 0 < 128
    ascii zero = omega arith
    ascii (suc i) = omega arith

inside_by : (p : List ℕ) (b : ℕ) (q rest : List ℕ) (t : Bool) → nat_eq b 39 ≡ t → ((p : List ℕ) → IsUtf8 (p ++ (doubled q ++ rest)) → IsUtf8 (p ++ q)) → IsUtf8 (p ++ (cond t (39 ∷ 39 ∷ doubled q) (b ∷ doubled q) ++ rest)) → IsUtf8 (p ++ b ∷ q)
inside_by p b q rest true test more utf8 =
    let cut = cut_ascii p 39 (39 ∷ (doubled q ++ rest)) (omega arith) utf8 in
    let after = cut_ascii [] 39 (doubled q ++ rest) (omega arith) cut.1 in
    let joined = IsUtf8-append (p ++ 39 ∷ []) (doubled q ++ rest) (IsUtf8-append p (39 ∷ []) cut.0 quote_utf8) after.1 in
    subst (λ (c : ℕ). IsUtf8 (p ++ c ∷ q)) (sym (eqb-true b 39 test)) (subst IsUtf8 (append_assoc p (39 ∷ []) q) (more (p ++ 39 ∷ []) joined))
inside_by p b q rest false test more utf8 =
    subst IsUtf8 (append_assoc p (b ∷ []) q) (more (p ++ b ∷ []) (subst IsUtf8 (sym (append_assoc p (b ∷ []) (doubled q ++ rest))) utf8))

-- Leaving out one quote of two keeps a text a text.
inside_utf8 : (q p rest : List ℕ) → IsUtf8 (p ++ (doubled q ++ rest)) → IsUtf8 (p ++ q)
inside_utf8 [] p rest utf8 = subst IsUtf8 (sym (append-nil p)) (cut_ascii p 39 rest (omega arith) utf8).0
inside_utf8 (b ∷ q) p rest utf8 = inside_by p b q rest (nat_eq b 39) refl (λ p u. inside_utf8 q p rest u) utf8

doubled_by : (t : Bool) (b : ℕ) (q f : List ℕ) → doubled q ≡ f ++ 39 ∷ [] → (g : List ℕ) × (cond t (39 ∷ 39 ∷ doubled q) (b ∷ doubled q) ≡ g ++ 39 ∷ [])
doubled_by true b q f h = (39 ∷ 39 ∷ f, ap (λ (z : List ℕ). 39 ∷ 39 ∷ z) h)
doubled_by false b q f h = (b ∷ f, ap (λ (z : List ℕ). b ∷ z) h)

-- The last byte of a text in quotes is a quote.
doubled_last : (q : List ℕ) → (f : List ℕ) × (doubled q ≡ f ++ 39 ∷ [])
doubled_last [] = ([], refl)
doubled_last (b ∷ q) = let h = doubled_last q in doubled_by (nat_eq b 39) b q h.0 h.1

found : (bs q rest : List ℕ) → unquoted bs ≡ Some (q, rest) → bs ≡ doubled q ++ rest
found bs q rest h = (subst (QuoteComes bs) h (unquoted_comes bs)).0

-- What stood in quotes is text.
pub text_utf8 : (bs q rest : List ℕ) → unquoted bs ≡ Some (q, rest) → IsUtf8 bs → IsUtf8 q
text_utf8 bs q rest h utf8 = inside_utf8 q [] rest (subst IsUtf8 (found bs q rest h) utf8)

-- The text may be cut after its closing quote.
pub rest_boundary : (bs q : List ℕ) (i : ℕ) → unquoted bs ≡ Some (q, drop i bs) → i ≤ length bs → IsUtf8 bs → IsCharBoundary bs i
rest_boundary bs q i h inside utf8 =
    let last = doubled_last q in
    let same : bs ≡ last.0 ++ 39 ∷ drop i bs = found bs q (drop i bs) h ∙ ap (λ (z : List ℕ). z ++ drop i bs) last.1 ∙ append_assoc last.0 (39 ∷ []) (drop i bs) in
    IsCharBoundary-from_drop bs i inside (cut_ascii last.0 39 (drop i bs) (omega arith) (subst IsUtf8 same utf8)).1

after_other : (out bs : List ℕ) (b : ℕ) → b ≢ 39 → with_front out (after_quote (b ∷ bs)) ≡ Some (out, b ∷ bs)
after_other out bs b other =
    let test : nat_eq b 39 ≡ false = grind (arith, nat_tests) in
    ap (with_front out) (cond-false (nat_eq b 39) (with_front (39 ∷ []) (unquoted bs)) (Some ([], b ∷ bs)) test) ∙ ap (λ (z : List ℕ). Some (z, b ∷ bs)) (append-nil out)

-- After a quote, another byte ends the text.
pub closed_at : (out bs : List ℕ) (quote : Bool) (i : ℕ) → quote ≡ true → i < length bs → get_or bs i 0 ≢ 39 → with_front out (cond quote (after_quote (drop i bs)) (unquoted (drop i bs))) ≡ unquoted bs → unquoted bs ≡ Some (out, drop i bs)
closed_at out bs true i h inside other so_far =
    sym so_far ∙ ap (λ (z : List ℕ). with_front out (after_quote z)) (drop-cons bs i 0 inside) ∙ after_other out (drop (suc i) bs) (get_or bs i 0) other ∙ ap (λ (z : List ℕ). Some (out, z)) (sym (drop-cons bs i 0 inside))
closed_at out bs false i h inside other so_far = cc

-- After a quote, the end ends the text.
pub closed_end : (out bs : List ℕ) (quote : Bool) (i : ℕ) → quote ≡ true → i ≡ length bs → with_front out (cond quote (after_quote (drop i bs)) (unquoted (drop i bs))) ≡ unquoted bs → unquoted bs ≡ Some (out, [])
closed_end out bs true i h at so_far =
    sym so_far ∙ ap (λ (k : ℕ). with_front out (after_quote (drop k bs))) at ∙ ap (λ (z : List ℕ). with_front out (after_quote z)) (drop-length bs) ∙ ap (λ (z : List ℕ). Some (z, [])) (append-nil out)
closed_end out bs false i h at so_far = cc

byte_left : (bs : List ℕ) (i : ℕ) → i < length bs → drop i bs ≡ get_or bs i 0 ∷ drop (i + 1) bs
byte_left bs i inside =
    let later : suc i ≡ i + 1 = omega arith in
    drop-cons bs i 0 inside ∙ ap (λ (n : ℕ). get_or bs i 0 ∷ drop n bs) later

front_more : (out more : List ℕ) (r : Option (List ℕ × List ℕ)) → with_front (out ++ more) r ≡ with_front out (with_front more r)
front_more out more None = refl
front_more out more (Some x) = ap (λ (z : List ℕ). Some (z, x.1)) (append_assoc out more x.0)

-- A byte that is no quote is text where no quote came before it.
pub other_taken : (out bs : List ℕ) (quote next : Bool) (i : ℕ) → i < length bs → get_or bs i 0 ≢ 39 → quote ≡ false → next ≡ quote → with_front out (cond quote (after_quote (drop i bs)) (unquoted (drop i bs))) ≡ unquoted bs → with_front (out ++ get_or bs i 0 ∷ []) (cond next (after_quote (drop (i + 1) bs)) (unquoted (drop (i + 1) bs))) ≡ unquoted bs
other_taken out bs true next i inside other h k so_far = cc
other_taken out bs false true i inside other h k so_far = cc
other_taken out bs false false i inside other h k so_far =
    let b = get_or bs i 0 in
    let left = drop (i + 1) bs in
    let test : nat_eq b 39 ≡ false = grind (arith, nat_tests) in
    front_more out (b ∷ []) (unquoted left)
    ∙ ap (with_front out) (sym (cond-false (nat_eq b 39) (after_quote left) (with_front (b ∷ []) (unquoted left)) test))
    ∙ ap (λ (z : List ℕ). with_front out (unquoted z)) (sym (byte_left bs i inside)) ∙ so_far

-- Of two quotes one is text.
pub quote_taken : (out bs : List ℕ) (quote next : Bool) (i : ℕ) → i < length bs → get_or bs i 0 ≡ 39 → quote ≡ true → next ≡ not quote → with_front out (cond quote (after_quote (drop i bs)) (unquoted (drop i bs))) ≡ unquoted bs → with_front (out ++ get_or bs i 0 ∷ []) (cond next (after_quote (drop (i + 1) bs)) (unquoted (drop (i + 1) bs))) ≡ unquoted bs
quote_taken out bs false next i inside same h k so_far = cc
quote_taken out bs true true i inside same h k so_far = cc
quote_taken out bs true false i inside same h k so_far =
    let left = drop (i + 1) bs in
    let here : drop i bs ≡ 39 ∷ left = byte_left bs i inside ∙ ap (λ (b : ℕ). b ∷ left) same in
    ap (λ (b : ℕ). with_front (out ++ b ∷ []) (unquoted left)) same ∙ front_more out (39 ∷ []) (unquoted left)
    ∙ ap (λ (z : List ℕ). with_front out (after_quote z)) (sym here) ∙ so_far
