-- A search that finds a text ends there.
use Rattle.std.proofs.Common.{◌≡◌, ◌∙◌, ◌<◌, ◌+◌, ℕ, List, ◌∷◌, Option, Some, None, Err, IfSome, drop, length, get_or, ap, sym, subst}
use Rattle.std.proofs.lemmas.List.{drop_more}
use Rattle.expr_reader.specs.Faults.{fault_at}
use Rattle.expr_reader.specs.declared.fault.ExprFault.{ExprFault}
use Rattle.plan_assembler.specs.Texts.{Evaluated, or_else, of_each, StandsInFound, Reads}

none_stands : {A : Type 0} (o : Option A) (P : Type 0) → IfSome o (λ x. ⊥) → IfSome o (λ x. P)
none_stands None P h = h
none_stands (Some x) P h = absurd h

pub reads_stop : (a b : Option Evaluated) (fault : ExprFault) → Reads a (Err fault) → Reads (or_else a b) (Err fault)
reads_stop None b fault h = none_stands (fault_at fault) (StandsInFound b fault) h
reads_stop (Some t) b fault h = h

pub each_stop : {T : Type 0} (of : T → Option Evaluated) (xs : List T) (i : ℕ) (x : T) (fault : ExprFault) → of_each of (drop i xs) ≡ of_each of xs
    → i < length xs → x ≡ get_or xs i x → Reads (of x) (Err fault) → Reads (of_each of xs) (Err fault)
each_stop {T} of xs i x fault kept h is stop =
    let there : drop i xs ≡ x ∷ drop (i + 1) xs = drop_more xs i x h ∙ ap (λ (y : T). y ∷ drop (i + 1) xs) (sym is) in
    let found : of_each of xs ≡ or_else (of x) (of_each of (drop (i + 1) xs)) = sym kept ∙ ap (of_each of) there in
    subst (λ (f : Option Evaluated). Reads f (Err fault)) (sym found) (reads_stop (of x) (of_each of (drop (i + 1) xs)) fault stop)
