-- A tree's tokens make the tree, within limits or without.
use Rattle.std.proofs.Common.{◌≡◌, ℕ, ◌+◌, ◌≤◌, true, false, Result, Ok, Err, List, [], ◌∷◌, ◌++◌, refl, sym, ap, ◌∙◌, append_assoc, append-nil, arith}
use Rattle.std.proofs.lemmas.Bool.{cond-true, cond-false, le-ltb}
use Rattle.expr_reader.specs.Expr.{Expr, Exprs, literal, context, call, group, property, index, wildcard, opposite, relation, equality, both, either, none, more, exprs_of, count, depth, deepest}
use Rattle.expr_reader.specs.Grammar.{Token, constant, root, name, relational, equational, mark, tokens, preceded, level, any_count, FormedBy, AllFormedBy, Shaped, Formed}
use Rattle.expr_reader.specs.Machine.{Part, either_of, both_of, equality_of, relation_of, not_of, group_of, index_of, call_of, State, want, have, Held, binding, completed, both_more, either_more, have_made, end_argument, end_text, Limits, limits, node, called_with, close, end_round, end_index, run, finish, parse}
use Rattle.expr_reader.specs.Outcome.{◌>>=◌}
use Rattle.expr_reader.specs.declared.fault.Fault.{Fault}
use Rattle.expr_reader.specs.declared.fault.Fault.TheVariants.{ArgumentCount, TooDeep}
use Rattle.expr_reader.specs.declared.token.Mark.TheVariants.{Close, OpenIndex, CloseIndex, Dot, Comma, Star, Both, Either}
use Rattle.expr_reader.specs.declared.tree.Function.{Function}
use Rattle.expr_reader.specs.declared.tree.Wildcard.TheVariants.{Dotted, Bracketed}
use Rattle.expr_reader.proofs.Stacks.{floor, close_flat, close_takes, both_begins, either_begins}

-- Up to the operator of level k, the operand u over o closes as the tree t over s.
pub record Closes (lim : Limits) (k : ℕ) (u : Expr) (o : List Part) (t : Expr) (s : List Part) : Type 0 where
  pub at : (least : ℕ) → least ≤ k + 1 → close lim least u o ≡ close lim least t s
  pub at_post : 5 ≤ k → (u ≡ t) × (o ≡ s)

-- Tokens lead from a state to an operand that closes as the tree.
pub record Reads (lim : Limits) (from : State) (ts : List Token) (k : ℕ) (t : Expr) (s : List Part) : Type 0 where
  pub operand : Expr
  pub left : List Part
  pub runs : (r : List Token) → run lim from (ts ++ r) ≡ run lim (have operand left) r
  pub closes : Closes lim k operand left t s

-- Tokens lead to the tree itself as the operand.
reads_post : (lim : Limits) (from : State) (ts : List Token) (t : Expr) (s : List Part) → ((r : List Token) → run lim from (ts ++ r) ≡ run lim (have t s) r) → Reads lim from ts 5 t s
reads_post lim from ts t s h = record { operand = t; left = s; runs = h; closes = record { at = λ least low. refl; at_post = λ _. (refl, refl) } }

abbrev list_of : Exprs → List Expr
list_of none = []
list_of (more e es) = e ∷ list_of es

-- a list of trees, there and back
exprs_list : (es : Exprs) → exprs_of (list_of es) ≡ es
exprs_list none = refl
exprs_list (more e es) = ap (more e) (exprs_list es)

abbrev go_on : Limits → Result State Fault → List Token → Result State Fault
go_on lim z r = z >>= λ next. run lim next r

-- A tree that closes at a mark, and what the mark makes of it.
abbrev marked : Limits → (Held → Result State Fault) → List Token → Result Held Fault → Result State Fault
marked lim f r z = go_on lim (z >>= f) r

-- What closes over an operator that is open closes as its node.
closed_by : (lim : Limits) (u : Expr) (o : List Part) (e t : Expr) (p : Part) (s : List Part) (j k : ℕ) → Closes lim j u o e (p ∷ s) → k ≤ j → k + 1 ≤ binding p → k ≤ 4 → node lim (completed p e) ≡ Ok t → Closes lim k u o t s
closed_by lim u o e t p s j k closes tight binds most made = record {
  at = λ least low. closes.at least (omega arith) ∙ close_takes lim least e t p s (omega arith) made;
  at_post = λ h. absurd (omega arith);
}

-- Within limits that allow every depth up to the greatest one.
module _ (lim : Limits) (most : ℕ) (allows : (n : ℕ) → n ≤ most → lim.too_deep n ≡ false) where
  node_ok : (e : Expr) → depth e ≤ most → node lim e ≡ Ok e
  node_ok e h = cond-false (lim.too_deep (depth e)) (Err TooDeep) (Ok e) (allows (depth e) h)

  called_ok : (f : Function) (es : Exprs) → lim.counts f (count es) ≡ true → depth (call f es) ≤ most → called_with lim f es ≡ Ok (call f es)
  called_ok f es fits h = cond-true (lim.counts f (count es)) (node lim (call f es)) (Err ArgumentCount) fits ∙ node_ok (call f es) h

  mutual
    pub reads : (t : Expr) (s : List Part) → FormedBy lim.counts t → depth t ≤ most → floor s ≤ level t → Reads lim (want s) (tokens t) (level t) t s
    reads (literal l) s shaped deep low = reads_post lim (want s) (constant l ∷ []) (literal l) s (λ r. refl)
    reads (context c) s shaped deep low = reads_post lim (want s) (root c ∷ []) (context c) s (λ r. refl)
    reads (call f none) s shaped deep low =
        reads_post lim (want s) (tokens (call f none)) (call f none) s
        (λ r. ap (λ (z : Result Expr Fault). go_on lim (have_made s z) r) (called_ok f none shaped.0 deep))
    reads (call f (more e es)) s shaped deep low =
        let h = reads e (call_of f [] ∷ s) shaped.1.1 (omega arith) (omega arith) in
        reads_post lim (want s) (tokens (call f (more e es))) (call f (more e es)) s
        (λ r. ap (λ (z : List Token). run lim (want (call_of f [] ∷ s)) z) (append_assoc (tokens e ++ preceded Comma es) (mark Close ∷ []) r ∙ append_assoc (tokens e) (preceded Comma es) (mark Close ∷ r))
        ∙ h.runs (preceded Comma es ++ mark Close ∷ r)
        ∙ reads_arguments f [] e es (more e es) s h.operand h.left (h.closes.at 1 (omega arith) ∙ close_flat lim 1 e (call_of f [] ∷ s) (omega arith) (omega arith)) shaped.1.2 (omega arith) (ap (more e) (exprs_list es)) shaped.0 deep r)
    reads (group e) s shaped deep low =
        let h = reads e (group_of ∷ s) shaped (omega arith) (omega arith) in
        reads_post lim (want s) (tokens (group e)) (group e) s
        (λ r. ap (λ (z : List Token). run lim (want (group_of ∷ s)) z) (append_assoc (tokens e) (mark Close ∷ []) r)
        ∙ h.runs (mark Close ∷ r)
        ∙ ap (marked lim (λ x. end_round lim x.0 x.1) r) (h.closes.at 1 (omega arith) ∙ close_flat lim 1 e (group_of ∷ s) (omega arith) (omega arith))
        ∙ ap (λ (z : Result Expr Fault). go_on lim (have_made s z) r) (node_ok (group e) deep))
    reads (property e w) s shaped deep low =
        let h = reads e s shaped.1 (omega arith) (omega (arith, shaped.0)) in
        let same = h.closes.at_post shaped.0 in
        reads_post lim (want s) (tokens (property e w)) (property e w) s
        (λ r. ap (λ (z : List Token). run lim (want s) z) (append_assoc (tokens e) (mark Dot ∷ name w ∷ []) r)
        ∙ h.runs (mark Dot ∷ name w ∷ r)
        ∙ ap (λ (z : Expr). run lim (have z h.left) (mark Dot ∷ name w ∷ r)) same.0
        ∙ ap (λ (z : List Part). run lim (have e z) (mark Dot ∷ name w ∷ r)) same.1
        ∙ ap (λ (z : Result Expr Fault). go_on lim (have_made s z) r) (node_ok (property e w) deep))
    reads (index e i) s shaped deep low =
        let h = reads e s shaped.1 (omega arith) (omega (arith, shaped.0)) in
        let same = h.closes.at_post shaped.0 in
        let g = reads i (index_of e ∷ s) shaped.2 (omega arith) (omega arith) in
        reads_post lim (want s) (tokens (index e i)) (index e i) s
        (λ r. ap (λ (z : List Token). run lim (want s) z) (append_assoc (tokens e) (mark OpenIndex ∷ (tokens i ++ mark CloseIndex ∷ [])) r)
        ∙ h.runs (mark OpenIndex ∷ ((tokens i ++ mark CloseIndex ∷ []) ++ r))
        ∙ ap (λ (z : Expr). run lim (have z h.left) (mark OpenIndex ∷ ((tokens i ++ mark CloseIndex ∷ []) ++ r))) same.0
        ∙ ap (λ (z : List Part). run lim (have e z) (mark OpenIndex ∷ ((tokens i ++ mark CloseIndex ∷ []) ++ r))) same.1
        ∙ ap (λ (z : List Token). run lim (want (index_of e ∷ s)) z) (append_assoc (tokens i) (mark CloseIndex ∷ []) r)
        ∙ g.runs (mark CloseIndex ∷ r)
        ∙ ap (marked lim (λ x. end_index lim x.0 x.1) r) (g.closes.at 1 (omega arith) ∙ close_flat lim 1 i (index_of e ∷ s) (omega arith) (omega arith))
        ∙ ap (λ (z : Result Expr Fault). go_on lim (have_made s z) r) (node_ok (index e i) deep))
    reads (wildcard Dotted e) s shaped deep low =
        let h = reads e s shaped.1 (omega arith) (omega (arith, shaped.0)) in
        let same = h.closes.at_post shaped.0 in
        reads_post lim (want s) (tokens (wildcard Dotted e)) (wildcard Dotted e) s
        (λ r. ap (λ (z : List Token). run lim (want s) z) (append_assoc (tokens e) (mark Dot ∷ mark Star ∷ []) r)
        ∙ h.runs (mark Dot ∷ mark Star ∷ r)
        ∙ ap (λ (z : Expr). run lim (have z h.left) (mark Dot ∷ mark Star ∷ r)) same.0
        ∙ ap (λ (z : List Part). run lim (have e z) (mark Dot ∷ mark Star ∷ r)) same.1
        ∙ ap (λ (z : Result Expr Fault). go_on lim (have_made s z) r) (node_ok (wildcard Dotted e) deep))
    reads (wildcard Bracketed e) s shaped deep low =
        let h = reads e s shaped.1 (omega arith) (omega (arith, shaped.0)) in
        let same = h.closes.at_post shaped.0 in
        reads_post lim (want s) (tokens (wildcard Bracketed e)) (wildcard Bracketed e) s
        (λ r. ap (λ (z : List Token). run lim (want s) z) (append_assoc (tokens e) (mark OpenIndex ∷ mark Star ∷ mark CloseIndex ∷ []) r)
        ∙ h.runs (mark OpenIndex ∷ mark Star ∷ mark CloseIndex ∷ r)
        ∙ ap (λ (z : Expr). run lim (have z h.left) (mark OpenIndex ∷ mark Star ∷ mark CloseIndex ∷ r)) same.0
        ∙ ap (λ (z : List Part). run lim (have e z) (mark OpenIndex ∷ mark Star ∷ mark CloseIndex ∷ r)) same.1
        ∙ ap (λ (z : Result Expr Fault). go_on lim (have_made s z) r) (node_ok (wildcard Bracketed e) deep))
    reads (opposite e) s shaped deep low =
        let h = reads e (not_of ∷ s) shaped.1 (omega arith) (omega (arith, shaped.0)) in
        record {
          operand = h.operand;
          left = h.left;
          runs = h.runs;
          closes = closed_by lim h.operand h.left e (opposite e) not_of s (level e) 4 h.closes shaped.0 (omega arith) (omega arith) (node_ok (opposite e) deep);
        }
    reads (relation c a b) s shaped deep low =
        let h = reads a s shaped.2 (omega arith) (omega (arith, shaped.0)) in
        let g = reads b (relation_of c a ∷ s) shaped.3 (omega arith) (omega (arith, shaped.1)) in
        record {
          operand = g.operand;
          left = g.left;
          runs = λ r. ap (λ (z : List Token). run lim (want s) z) (append_assoc (tokens a) (relational c ∷ tokens b) r)
              ∙ h.runs (relational c ∷ (tokens b ++ r))
              ∙ ap (marked lim (λ x. Ok (want (relation_of c x.0 ∷ x.1))) (tokens b ++ r)) (h.closes.at 4 (omega (arith, shaped.0)) ∙ close_flat lim 4 a s (omega arith) (omega arith))
              ∙ g.runs r;
          closes = closed_by lim g.operand g.left b (relation c a b) (relation_of c a) s (level b) 3 g.closes (omega (arith, shaped.1)) (omega arith) (omega arith) (node_ok (relation c a b) deep);
        }
    reads (equality c a b) s shaped deep low =
        let h = reads a s shaped.2 (omega arith) (omega (arith, shaped.0)) in
        let g = reads b (equality_of c a ∷ s) shaped.3 (omega arith) (omega (arith, shaped.1)) in
        record {
          operand = g.operand;
          left = g.left;
          runs = λ r. ap (λ (z : List Token). run lim (want s) z) (append_assoc (tokens a) (equational c ∷ tokens b) r)
              ∙ h.runs (equational c ∷ (tokens b ++ r))
              ∙ ap (marked lim (λ x. Ok (want (equality_of c x.0 ∷ x.1))) (tokens b ++ r)) (h.closes.at 3 (omega (arith, shaped.0)) ∙ close_flat lim 3 a s (omega arith) (omega arith))
              ∙ g.runs r;
          closes = closed_by lim g.operand g.left b (equality c a b) (equality_of c a) s (level b) 2 g.closes (omega (arith, shaped.1)) (omega arith) (omega arith) (node_ok (equality c a b) deep);
        }
    reads (both none) s shaped deep low = absurd shaped.0
    reads (both (more a none)) s shaped deep low = absurd shaped.0
    reads (both (more a (more b es))) s shaped deep low =
        let h = reads a s shaped.1.1 (omega arith) (omega (arith, shaped.1.0)) in
        let all = more a (more b es) in
        let j = reads b (both_of (a ∷ []) ∷ s) shaped.1.2.1 (omega arith) (omega (arith, shaped.1.2.0)) in
        let g = reads_both (a ∷ []) b es all s j.operand j.left j.closes shaped.1.2.0 shaped.1.2.2 (omega arith) (ap (λ (z : Exprs). more a (more b z)) (exprs_list es)) deep low in
        record {
          operand = g.operand;
          left = g.left;
          runs = λ r. ap (λ (z : List Token). run lim (want s) z) (append_assoc (tokens a) (mark Both ∷ (tokens b ++ preceded Both es)) r)
              ∙ h.runs (mark Both ∷ ((tokens b ++ preceded Both es) ++ r))
              ∙ ap (marked lim (λ x. Ok (want (both_more x.0 x.1))) ((tokens b ++ preceded Both es) ++ r)) (h.closes.at 3 (omega (arith, shaped.1.0)) ∙ close_flat lim 3 a s (omega arith) (omega arith))
              ∙ ap (λ (z : List Part). run lim (want z) ((tokens b ++ preceded Both es) ++ r)) (both_begins a s (λ h. absurd (omega arith)))
              ∙ ap (λ (z : List Token). run lim (want (both_of (a ∷ []) ∷ s)) z) (append_assoc (tokens b) (preceded Both es) r)
              ∙ j.runs (preceded Both es ++ r)
              ∙ g.runs r;
          closes = g.closes;
        }
    reads (either none) s shaped deep low = absurd shaped.0
    reads (either (more a none)) s shaped deep low = absurd shaped.0
    reads (either (more a (more b es))) s shaped deep low =
        let h = reads a s shaped.1.1 (omega arith) (omega (arith, shaped.1.0)) in
        let all = more a (more b es) in
        let j = reads b (either_of (a ∷ []) ∷ s) shaped.1.2.1 (omega arith) (omega (arith, shaped.1.2.0)) in
        let g = reads_either (a ∷ []) b es all s j.operand j.left j.closes shaped.1.2.0 shaped.1.2.2 (omega arith) (ap (λ (z : Exprs). more a (more b z)) (exprs_list es)) deep low in
        record {
          operand = g.operand;
          left = g.left;
          runs = λ r. ap (λ (z : List Token). run lim (want s) z) (append_assoc (tokens a) (mark Either ∷ (tokens b ++ preceded Either es)) r)
              ∙ h.runs (mark Either ∷ ((tokens b ++ preceded Either es) ++ r))
              ∙ ap (marked lim (λ x. Ok (want (either_more x.0 x.1))) ((tokens b ++ preceded Either es) ++ r)) (h.closes.at 2 (omega (arith, shaped.1.0)) ∙ close_flat lim 2 a s (omega arith) (omega arith))
              ∙ ap (λ (z : List Part). run lim (want z) ((tokens b ++ preceded Either es) ++ r)) (either_begins a s (λ h. absurd (omega arith)))
              ∙ ap (λ (z : List Token). run lim (want (either_of (a ∷ []) ∷ s)) z) (append_assoc (tokens b) (preceded Either es) r)
              ∙ j.runs (preceded Either es ++ r)
              ∙ g.runs r;
          closes = g.closes;
        }

    -- the arguments after e, up to the closing parenthesis
    reads_arguments : (f : Function) (done : List Expr) (e : Expr) (es : Exprs) (all : Exprs) (s : List Part) (u : Expr) (o : List Part) → close lim 1 u o ≡ Ok (e, call_of f done ∷ s) → AllFormedBy lim.counts 0 es → deepest es ≤ most → exprs_of (done ++ e ∷ list_of es) ≡ all → lim.counts f (count all) ≡ true → depth (call f all) ≤ most → (r : List Token) → run lim (have u o) (preceded Comma es ++ mark Close ∷ r) ≡ run lim (have (call f all) s) r
    reads_arguments f done e none all s u o closed rest deeps whole fits low r =
        ap (marked lim (λ x. end_round lim x.0 x.1) r) closed
        ∙ ap (λ (z : Exprs). go_on lim (have_made s (called_with lim f z)) r) whole
        ∙ ap (λ (z : Result Expr Fault). go_on lim (have_made s z) r) (called_ok f all fits low)
    reads_arguments f done e (more d es) all s u o closed rest deeps whole fits low r =
        let h = reads d (call_of f (done ++ e ∷ []) ∷ s) rest.1 (omega arith) (omega arith) in
        ap (marked lim (λ x. end_argument x.0 x.1) ((tokens d ++ preceded Comma es) ++ mark Close ∷ r)) closed
        ∙ ap (λ (z : List Token). run lim (want (call_of f (done ++ e ∷ []) ∷ s)) z) (append_assoc (tokens d) (preceded Comma es) (mark Close ∷ r))
        ∙ h.runs (preceded Comma es ++ mark Close ∷ r)
        ∙ reads_arguments f (done ++ e ∷ []) d es all s h.operand h.left (h.closes.at 1 (omega arith) ∙ close_flat lim 1 d (call_of f (done ++ e ∷ []) ∷ s) (omega arith) (omega arith)) rest.2 (omega arith) (ap exprs_of (append_assoc done (e ∷ []) (d ∷ list_of es)) ∙ whole) fits low r

    -- the parts of a chain of && after e
    reads_both : (done : List Expr) (e : Expr) (es : Exprs) (all : Exprs) (s : List Part) (u : Expr) (o : List Part) → Closes lim (level e) u o e (both_of done ∷ s) → 2 ≤ level e → AllFormedBy lim.counts 2 es → deepest es ≤ most → exprs_of (done ++ e ∷ list_of es) ≡ all → depth (both all) ≤ most → floor s ≤ 1 → Reads lim (have u o) (preceded Both es) 1 (both all) s
    reads_both done e none all s u o closed tight rest deeps whole fits low = record {
      operand = u;
      left = o;
      runs = λ r. refl;
      closes = closed_by lim u o e (both all) (both_of done) s (level e) 1 closed (omega arith) (omega arith) (omega arith) (ap (λ (z : Exprs). node lim (both z)) whole ∙ node_ok (both all) fits);
    }
    reads_both done e (more d es) all s u o closed tight rest deeps whole fits low =
        let h = reads d (both_of (done ++ e ∷ []) ∷ s) rest.1 (omega arith) (omega (arith, rest.0)) in
        let g = reads_both (done ++ e ∷ []) d es all s h.operand h.left h.closes rest.0 rest.2 (omega arith) (ap exprs_of (append_assoc done (e ∷ []) (d ∷ list_of es)) ∙ whole) fits low in
        record {
          operand = g.operand;
          left = g.left;
          runs = λ r. ap (marked lim (λ x. Ok (want (both_more x.0 x.1))) ((tokens d ++ preceded Both es) ++ r)) (closed.at 3 (omega arith) ∙ close_flat lim 3 e (both_of done ∷ s) (omega arith) (omega arith))
              ∙ ap (λ (z : List Token). run lim (want (both_of (done ++ e ∷ []) ∷ s)) z) (append_assoc (tokens d) (preceded Both es) r)
              ∙ h.runs (preceded Both es ++ r)
              ∙ g.runs r;
          closes = g.closes;
        }

    -- the parts of a chain of || after e
    reads_either : (done : List Expr) (e : Expr) (es : Exprs) (all : Exprs) (s : List Part) (u : Expr) (o : List Part) → Closes lim (level e) u o e (either_of done ∷ s) → 1 ≤ level e → AllFormedBy lim.counts 1 es → deepest es ≤ most → exprs_of (done ++ e ∷ list_of es) ≡ all → depth (either all) ≤ most → floor s ≤ 0 → Reads lim (have u o) (preceded Either es) 0 (either all) s
    reads_either done e none all s u o closed tight rest deeps whole fits low = record {
      operand = u;
      left = o;
      runs = λ r. refl;
      closes = closed_by lim u o e (either all) (either_of done) s (level e) 0 closed (omega arith) (omega arith) (omega arith) (ap (λ (z : Exprs). node lim (either z)) whole ∙ node_ok (either all) fits);
    }
    reads_either done e (more d es) all s u o closed tight rest deeps whole fits low =
        let h = reads d (either_of (done ++ e ∷ []) ∷ s) rest.1 (omega arith) (omega (arith, rest.0)) in
        let g = reads_either (done ++ e ∷ []) d es all s h.operand h.left h.closes rest.0 rest.2 (omega arith) (ap exprs_of (append_assoc done (e ∷ []) (d ∷ list_of es)) ∙ whole) fits low in
        record {
          operand = g.operand;
          left = g.left;
          runs = λ r. ap (marked lim (λ x. Ok (want (either_more x.0 x.1))) ((tokens d ++ preceded Either es) ++ r)) (closed.at 2 (omega arith) ∙ close_flat lim 2 e (either_of done ∷ s) (omega arith) (omega arith))
              ∙ ap (λ (z : List Token). run lim (want (either_of (done ++ e ∷ []) ∷ s)) z) (append_assoc (tokens d) (preceded Either es) r)
              ∙ h.runs (preceded Either es ++ r)
              ∙ g.runs r;
          closes = g.closes;
        }

  -- Reading a tree's tokens gives the tree.
  pub parse_formed : (t : Expr) → FormedBy lim.counts t → depth t ≤ most → parse lim (tokens t) ≡ Ok t
  parse_formed t shaped deep =
      let h = reads t [] shaped deep (omega arith) in
      ap (λ (z : List Token). run lim (want []) z >>= finish lim) (sym (append-nil (tokens t)))
      ∙ ap (λ (z : Result State Fault). z >>= finish lim) (h.runs [])
      ∙ ap (λ (z : Result Held Fault). z >>= λ x. end_text x.0 x.1) (h.closes.at 1 (omega arith) ∙ close_flat lim 1 t [] (omega arith) (omega arith))

-- The tree of an expression's tokens.
pub parse_again : (t : Expr) → Shaped t → depth t ≤ 50 → parse limits (tokens t) ≡ Ok t
parse_again t shaped deep = parse_formed limits 50 (λ n h. le-ltb 50 n h) t shaped deep

-- No limits.
abbrev pub no_limits : Limits
no_limits = record { too_deep = λ n. false; counts = any_count }

-- Without limits the tree of any tree's tokens.
pub parse_free : (t : Expr) → Formed t → parse no_limits (tokens t) ≡ Ok t
parse_free t formed = parse_formed no_limits (depth t) (λ n h. refl) t formed (omega arith)
