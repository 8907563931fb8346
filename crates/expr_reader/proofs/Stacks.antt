-- What may stand on top of what is open, and what it closes.
use Rattle.std.proofs.Common.{◌≡◌, ℕ, ◌<◌, ◌≤◌, true, false, min, nat_le, Result, Ok, List, [], ◌∷◌, refl, ap, ◌∙◌, arith}
use Rattle.std.proofs.lemmas.Bool.{cond-true, cond-false}
use Rattle.std.proofs.lemmas.Bool.Decides.{nat_tests}
use Rattle.expr_reader.specs.Expr.{Expr}
use Rattle.expr_reader.specs.Machine.{Part, either_of, both_of, equality_of, relation_of, not_of, group_of, index_of, call_of, want, binding, top_binding, completed, both_more, either_more, lengthened, Limits, node, close}
use Rattle.expr_reader.specs.Outcome.{◌>>=◌}
use Rattle.expr_reader.specs.Stack.{chain_of, chain_binding, chain_more}
use Rattle.expr_reader.specs.declared.fault.Fault.{Fault}
use Rattle.expr_reader.specs.declared.operand.Chain.{Chain}
use Rattle.expr_reader.specs.declared.operand.Chain.TheVariants as chain

-- How tightly a tree on top of a stack has to hold together.
abbrev pub floor : List Part → ℕ
floor s = min (top_binding s) 4

-- Where nothing that binds so tightly is open, nothing is closed.
pub close_loose : (lim : Limits) (k : ℕ) (e : Expr) (s : List Part) → 0 < k → top_binding s < k → close lim k e s ≡ Ok (e, s)
close_loose lim k e [] some low = refl
close_loose lim k e (p ∷ s) some low =
    let test : nat_le k (binding p) ≡ false = grind (arith, nat_tests) in
    cond-false (nat_le k (binding p)) (node lim (completed p e) >>= λ t. close lim k t s) (Ok (e, p ∷ s)) test

pub close_flat : (lim : Limits) (k : ℕ) (e : Expr) (s : List Part) → k ≤ 4 → floor s < k → close lim k e s ≡ Ok (e, s)
close_flat lim k e s most low = close_loose lim k e s (omega arith) (omega arith)

-- What binds so tightly takes the tree.
pub close_step : (lim : Limits) (k : ℕ) (e : Expr) (p : Part) (s : List Part) → k ≤ binding p → close lim k e (p ∷ s) ≡ (node lim (completed p e) >>= λ t. close lim k t s)
close_step lim k e p s tight =
    let test : nat_le k (binding p) ≡ true = grind (arith, nat_tests) in
    cond-true (nat_le k (binding p)) (node lim (completed p e) >>= λ t. close lim k t s) (Ok (e, p ∷ s)) test

pub close_takes : (lim : Limits) (k : ℕ) (e t : Expr) (p : Part) (s : List Part) → k ≤ binding p → node lim (completed p e) ≡ Ok t → close lim k e (p ∷ s) ≡ close lim k t s
close_takes lim k e t p s tight made = close_step lim k e p s tight ∙ ap (λ (z : Result Expr Fault). z >>= λ t. close lim k t s) made

-- A chain that is open goes on, and where none is, one begins.
pub both_goes_on : (e : Expr) (s : List Part) → top_binding s ≡ 2 → lengthened e s ≡ Ok (want (both_more e s))
both_goes_on e [] h = absurd (omega arith)
both_goes_on e (either_of es ∷ s) h = absurd (omega arith)
both_goes_on e (both_of es ∷ s) h = refl
both_goes_on e (equality_of q a ∷ s) h = absurd (omega arith)
both_goes_on e (relation_of r a ∷ s) h = absurd (omega arith)
both_goes_on e (not_of ∷ s) h = absurd (omega arith)
both_goes_on e (group_of ∷ s) h = absurd (omega arith)
both_goes_on e (index_of a ∷ s) h = absurd (omega arith)
both_goes_on e (call_of f es ∷ s) h = absurd (omega arith)

pub either_goes_on : (e : Expr) (s : List Part) → top_binding s ≡ 1 → lengthened e s ≡ Ok (want (either_more e s))
either_goes_on e [] h = absurd (omega arith)
either_goes_on e (either_of es ∷ s) h = refl
either_goes_on e (both_of es ∷ s) h = absurd (omega arith)
either_goes_on e (equality_of q a ∷ s) h = absurd (omega arith)
either_goes_on e (relation_of r a ∷ s) h = absurd (omega arith)
either_goes_on e (not_of ∷ s) h = absurd (omega arith)
either_goes_on e (group_of ∷ s) h = absurd (omega arith)
either_goes_on e (index_of a ∷ s) h = absurd (omega arith)
either_goes_on e (call_of f es ∷ s) h = absurd (omega arith)

pub both_begins : (e : Expr) (s : List Part) → ¬ (top_binding s ≡ 2) → both_more e s ≡ both_of (e ∷ []) ∷ s
both_begins e [] h = refl
both_begins e (either_of es ∷ s) h = refl
both_begins e (both_of es ∷ s) h = absurd (h refl)
both_begins e (equality_of q a ∷ s) h = refl
both_begins e (relation_of r a ∷ s) h = refl
both_begins e (not_of ∷ s) h = refl
both_begins e (group_of ∷ s) h = refl
both_begins e (index_of a ∷ s) h = refl
both_begins e (call_of f es ∷ s) h = refl

pub either_begins : (e : Expr) (s : List Part) → ¬ (top_binding s ≡ 1) → either_more e s ≡ either_of (e ∷ []) ∷ s
either_begins e [] h = refl
either_begins e (either_of es ∷ s) h = absurd (h refl)
either_begins e (both_of es ∷ s) h = refl
either_begins e (equality_of q a ∷ s) h = refl
either_begins e (relation_of r a ∷ s) h = refl
either_begins e (not_of ∷ s) h = refl
either_begins e (group_of ∷ s) h = refl
either_begins e (index_of a ∷ s) h = refl
either_begins e (call_of f es ∷ s) h = refl

-- Each chain goes on so.
pub chain_goes_on : (c : Chain) (e : Expr) (s : List Part) → top_binding s ≡ chain_binding c → lengthened e s ≡ Ok (want (chain_more c e s))
chain_goes_on chain.Either e s h = either_goes_on e s h
chain_goes_on chain.Both e s h = both_goes_on e s h

pub chain_begins : (c : Chain) (e : Expr) (s : List Part) → ¬ (top_binding s ≡ chain_binding c) → chain_more c e s ≡ chain_of c (e ∷ []) ∷ s
chain_begins chain.Either e s h = either_begins e s h
chain_begins chain.Both e s h = both_begins e s h
