use Rattle.std.proofs.Common.{◌≡◌, ◌+◌, Option, None, List, ◌∷◌, get_or, drop, is_some, ap, sym, ◌∙◌, true, rules, arith}
use Rattle.std.specs.Option.{option_copied}
use Rattle.expr_reader.specs.declared.tree.Context.{Context}
use Rattle.expr_reader.specs.declared.tree.Context.TheVariants.{Github}
use Rattle.flow_model.proofs.Conversions.{drop-next}
use Rattle.flow_model.specs.Mapping.{value_at}
use Rattle.flow_model.specs.Plain.{Plain}
use Rattle.plan_values.specs.Known.{value_made, contexts_by}
use Rattle.plan_values.proofs.Looking.{found_here, further}
use Rattle.plan_values.proofs.sight.value_among.Goals as goal

pub returns-then-is_some : goal.returns-then-is_some
returns-then-is_some c =
    let xs = c.args.contexts.now in
    let i = c.loop-context.context-index in
    let x : Context = get_or xs i Github in
    let value : Context → Option Plain = value_made c.args.known.now in
    let front : drop i xs ≡ x ∷ drop (i + 1) xs = drop-next xs i x (omega arith) (search rules) in
    let some : is_some (option_copied c.value_named-value.result) ≡ true = search rules in
    found_here c.args.name.now x value (drop (i + 1) xs) (option_copied c.value_named-value.result) c.value_named-value.ensures some
    ∙ ap (λ (zs : List Context). value_at c.args.name.now (contexts_by value zs)) (sym front) ∙ c.loop-context.invariant

pub loop-context-preserved : goal.loop-context-preserved
loop-context-preserved c =
    let xs = c.args.contexts.now in
    let i = c.loop-context.context-index in
    let x : Context = get_or xs i Github in
    let value : Context → Option Plain = value_made c.args.known.now in
    let front : drop i xs ≡ x ∷ drop (i + 1) xs = drop-next xs i x (omega arith) (search rules) in
    let none : option_copied c.value_named-value.result ≡ None = search rules in
    sym (further c.args.name.now x value (drop (i + 1) xs) (sym c.value_named-value.ensures ∙ none))
    ∙ ap (λ (zs : List Context). value_at c.args.name.now (contexts_by value zs)) (sym front) ∙ c.loop-context.invariant
