-- Trees with one more at the end.
use Rattle.std.proofs.Common.{◌≡◌, ◌≢◌, Err, max, List, [], ◌∷◌, ◌++◌, length, suc, refl, ap, ◌∙◌, arith}
use Rattle.expr_reader.specs.Expr.{exprs_of, count, depth, deepest}
use Rattle.expr_reader.specs.Machine.{Part, call_of, limits, end_empty}
use Rattle.expr_reader.specs.declared.fault.Fault.TheVariants.{Unexpected}
use Rattle.expr_reader.specs.declared.tree.Function.{Function}
use Rattle.expr_reader.specs.View.{view, views}
use Rattle.expr_reader.specs.declared.tree.Tree.{Tree}

pub deepest_push : (ts : List Tree) (t : Tree) → deepest (exprs_of (views (ts ++ t ∷ []))) ≡ max (deepest (exprs_of (views ts))) (depth (view t))
deepest_push [] t = omega arith
deepest_push (u ∷ ts) t = ap (max (depth (view u))) (deepest_push ts t) ∙ omega arith

pub count_views : (ts : List Tree) → count (exprs_of (views ts)) ≡ length ts
count_views [] = refl
count_views (t ∷ ts) = ap suc (count_views ts) ∙ omega arith

-- A call that has arguments does not end where one more is wanted.
pub end_arguments : (f : Function) (ts : List Tree) (s : List Part) → ts ≢ [] → end_empty limits (call_of f (views ts) ∷ s) ≡ Err Unexpected
end_arguments f [] s h = absurd (h refl)
end_arguments f (t ∷ ts) s h = refl
