-- A text in which something is replaced, place by place.
use Rattle.std.proofs.Common.{◌≡◌, ℕ, zero, suc, ◌+◌, ◌-◌, ◌<◌, ◌≤◌, Option, Some, None, List, [], ◌∷◌, ◌++◌, length, get_or, take, drop, refl, sym, ap, ◌∙◌, arith, append_assoc, drop-cons, add-one, length-append}
use Rattle.std.proofs.Math.Seq.{take-suc}
use Rattle.flow_commands.specs.Replace.{Rule, put, replaced_after, replaced}

-- after bytes that were replaced, reading goes on behind them
pub replaced_after-drop : (rule : Rule) (n : ℕ) (text : List ℕ) → replaced_after rule n text ≡ replaced rule (drop n text)
replaced_after-drop rule zero text = refl
replaced_after-drop rule (suc n) [] = refl
replaced_after-drop rule (suc n) (b ∷ text) = replaced_after-drop rule n text

-- something is replaced at the front
pub replaced_here : (rule : Rule) (text new : List ℕ) (n : ℕ) → rule text ≡ Some (new, n) → 0 < n → n ≤ length text
    → replaced rule text ≡ new ++ replaced rule (drop n text)
replaced_here rule [] new n is some within = absurd (omega arith)
replaced_here rule (b ∷ text) new zero is some within = absurd (omega arith)
replaced_here rule (b ∷ text) new (suc n) is some within =
    let less : suc n - 1 ≡ n = omega arith in
    ap (λ (o : Option (List ℕ × ℕ)). put o b (λ k. replaced_after rule k text)) is
    ∙ ap (λ (k : ℕ). new ++ replaced_after rule k text) less ∙ ap (λ (t : List ℕ). new ++ t) (replaced_after-drop rule n text)

-- nothing is replaced at the front
pub replaced_past : (rule : Rule) (b : ℕ) (text : List ℕ) → rule (b ∷ text) ≡ None → replaced rule (b ∷ text) ≡ b ∷ replaced rule text
replaced_past rule b text is = ap (λ (o : Option (List ℕ × ℕ)). put o b (λ k. replaced_after rule k text)) is

-- a place further
pub replaced_further : (rule : Rule) (text : List ℕ) (i : ℕ) → i < length text → rule (drop i text) ≡ None
    → take i text ++ replaced rule (drop i text) ≡ replaced rule text
    → take (i + 1) text ++ replaced rule (drop (i + 1) text) ≡ replaced rule text
replaced_further rule text i within none so_far =
    let here : drop i text ≡ get_or text i 0 ∷ drop (suc i) text = drop-cons text i 0 within in
    let past : replaced rule (drop i text) ≡ get_or text i 0 ∷ replaced rule (drop (suc i) text) =
    ap (replaced rule) here ∙ replaced_past rule (get_or text i 0) (drop (suc i) text) (ap rule (sym here) ∙ none) in
    rw add-one (
    ap (λ (t : List ℕ). t ++ replaced rule (drop (suc i) text)) (take-suc text i 0 within)
    ∙ append_assoc (take i text) (get_or text i 0 ∷ []) (replaced rule (drop (suc i) text))
    ∙ ap (λ (t : List ℕ). take i text ++ t) (sym past) ∙ so_far)

-- a place of a piece at the front is one of the text
pub within_piece : (text piece after : List ℕ) (i : ℕ) → text ≡ piece ++ after → i < length piece → i < length text
within_piece text piece after i whole inside =
    let size : length text ≡ length (piece ++ after) = ap length whole in
    omega (arith, size, inside, length-append piece after)
