-- Texts in quotes, there and back.
use Rattle.std.proofs.Common.{◌≡◌, ℕ, Bool, true, false, cond, nat_eq, Option, Some, None, List, [], ◌∷◌, ◌++◌, refl, sym, ap, subst, ◌∙◌}
use Rattle.std.proofs.lemmas.Bool.{cond-false, eqb-true}
use Rattle.expr_reader.specs.Bytes.{is_byte, Stops}
use Rattle.expr_reader.specs.Lexer.{with_front, unquoted, after_quote}
use Rattle.expr_reader.specs.Spelling.{doubled}
use Rattle.expr_reader.proofs.Runs.{if_holds, stops_head, head_stops}

after_again : (rest : List ℕ) → Stops (is_byte 39) rest → after_quote rest ≡ Some ([], rest)
after_again [] h = refl
after_again (b ∷ bs) h = cond-false (nat_eq b 39) (with_front (39 ∷ []) (unquoted bs)) (Some ([], b ∷ bs)) (head_stops (is_byte 39) b bs h)

again_by : (b : ℕ) (q rest : List ℕ) (t : Bool) → nat_eq b 39 ≡ t → unquoted (doubled q ++ rest) ≡ Some (q, rest) → unquoted (cond t (39 ∷ 39 ∷ doubled q) (b ∷ doubled q) ++ rest) ≡ Some (b ∷ q, rest)
again_by b q rest true test h = ap (with_front (39 ∷ [])) h ∙ ap (λ (c : ℕ). Some (c ∷ q, rest)) (sym (eqb-true b 39 test))
again_by b q rest false test h = cond-false (nat_eq b 39) (after_quote (doubled q ++ rest)) (with_front (b ∷ []) (unquoted (doubled q ++ rest))) test ∙ ap (with_front (b ∷ [])) h

-- A text in quotes is read as itself.
pub unquoted_again : (q rest : List ℕ) → Stops (is_byte 39) rest → unquoted (doubled q ++ rest) ≡ Some (q, rest)
unquoted_again [] rest h = after_again rest h
unquoted_again (b ∷ q) rest h = again_by b q rest (nat_eq b 39) refl (unquoted_again q rest h)

-- What is read is in quotes.
abbrev pub QuoteComes : List ℕ → Option (List ℕ × List ℕ) → Type 0
QuoteComes bs None = Unit {0}
QuoteComes bs (Some x) = (bs ≡ doubled x.0 ++ x.1) × Stops (is_byte 39) x.1

quote_comes : (bs : List ℕ) (r : Option (List ℕ × List ℕ)) → QuoteComes bs r → QuoteComes (39 ∷ 39 ∷ bs) (with_front (39 ∷ []) r)
quote_comes bs None h = tt
quote_comes bs (Some x) h = (ap (λ (z : List ℕ). 39 ∷ 39 ∷ z) h.0, h.1)

byte_comes : (b : ℕ) (bs : List ℕ) (r : Option (List ℕ × List ℕ)) → nat_eq b 39 ≡ false → QuoteComes bs r → QuoteComes (b ∷ bs) (with_front (b ∷ []) r)
byte_comes b bs None test h = tt
byte_comes b bs (Some x) test h = (ap (λ (z : List ℕ). b ∷ z) h.0 ∙ ap (λ (z : List ℕ). z ++ x.1) (sym (cond-false (nat_eq b 39) (39 ∷ 39 ∷ doubled x.0) (b ∷ doubled x.0) test)), h.1)

mutual
  pub unquoted_comes : (bs : List ℕ) → QuoteComes bs (unquoted bs)
  unquoted_comes [] = tt
  unquoted_comes (b ∷ bs) = if_holds (QuoteComes (b ∷ bs)) (nat_eq b 39) (after_quote bs) (with_front (b ∷ []) (unquoted bs))
      (λ test. subst (λ (c : ℕ). QuoteComes (c ∷ bs) (after_quote bs)) (sym (eqb-true b 39 test)) (after_comes bs))
      (λ test. byte_comes b bs (unquoted bs) test (unquoted_comes bs))

  after_comes : (bs : List ℕ) → QuoteComes (39 ∷ bs) (after_quote bs)
  after_comes [] = (refl, refl)
  after_comes (b ∷ bs) = if_holds (QuoteComes (39 ∷ b ∷ bs)) (nat_eq b 39) (with_front (39 ∷ []) (unquoted bs)) (Some ([], b ∷ bs))
      (λ test. subst (λ (c : ℕ). QuoteComes (39 ∷ c ∷ bs) (with_front (39 ∷ []) (unquoted bs))) (sym (eqb-true b 39 test)) (quote_comes bs (unquoted bs) (unquoted_comes bs)))
      (λ test. (refl, stops_head (is_byte 39) b bs test))
