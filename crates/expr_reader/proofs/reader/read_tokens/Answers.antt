-- One token more leaves a shorter rest.
use Rattle.std.proofs.Common.{◌≡◌, ℕ, ◌+◌, ◌-◌, Bool, Ok, Err, None, Some, Result, IfSome, length, sym, ap, subst, ◌∙◌, rules}
use Rattle.expr_reader.specs.Expr.{Expr}
use Rattle.expr_reader.specs.Faults.{fault_at, Gives}
use Rattle.expr_reader.specs.Lexer.{Lexed, next_at}
use Rattle.expr_reader.specs.Machine.{is_dotted, limits, step}
use Rattle.expr_reader.specs.Reading.{Failure, read_tokens}
use Rattle.expr_reader.specs.Stack.{state_of, token_of, some_lexed}
use Rattle.expr_reader.specs.View.{view}
use Rattle.expr_reader.proofs.Loop.{placed_given, end_read, step_refused, shorter, goes_on}
use Rattle.expr_reader.proofs.reader.read_tokens.Goals as goal

pub returns-in-Ok-None : goal.returns-in-Ok-None
returns-in-Ok-None c =
    let st = state_of c.tokens.machine in
    let start = c.split_run.result.1.now in
    let place : ℕ = c.args.base + (length c.args.text.now - length start) in
    let comes : next_at (is_dotted st) start ≡ Ok None =
    ap (λ (d : Bool). next_at d start) (sym c.is_dotted.ensures)
    ∙ placed_given place (next_at c.is_dotted.result start) (some_lexed c.in-Ok-None.field-0) c.in-Ok-None.ensures
    ∙ ap (λ o. Ok (some_lexed o)) c.in-Ok-None.field-0-is in
    subst (λ (r : Result Expr Failure). Gives view c.finished.result r)
    (end_read c.args.base c.args.text.now c.tokens.rest.now start st c.tokens.invariant.0 c.split_run.ensures.back comes) c.finished.ensures

pub returns-in_err-machine-in-Ok-Some : goal.returns-in_err-machine-in-Ok-Some
returns-in_err-machine-in-Ok-Some c =
    let st = state_of c.tokens.machine in
    let start = c.split_run.result.1.now in
    let place : ℕ = c.args.base + (length c.args.text.now - length start) in
    let x : Lexed = (token_of c.in-Ok-Some.token, c.in-Ok-Some.after.now) in
    let comes : next_at (is_dotted st) start ≡ Ok (Some x) =
    ap (λ (d : Bool). next_at d start) (sym c.is_dotted.ensures)
    ∙ placed_given place (next_at c.is_dotted.result start) (some_lexed c.in-Ok-Some.field-0) c.in-Ok-Some.ensures
    ∙ ap (λ o. Ok (some_lexed o)) c.in-Ok-Some.field-0-is in
    let refused : IfSome (fault_at c.in_err-machine-in-Ok-Some.field-0.0) (λ y. read_tokens c.args.base c.args.text.now ≡ Err y) =
    step_refused c.args.base c.args.text.now c.tokens.rest.now start st x (fault_at c.in_err-machine-in-Ok-Some.field-0.0) c.tokens.invariant.0 c.split_run.ensures.back comes c.in_err-machine-in-Ok-Some.ensures in
    search (rules, refused)

pub tokens-smaller : goal.tokens-smaller
tokens-smaller c =
    let start = c.split_run.result.1.now in
    let place : ℕ = c.args.base + (length c.args.text.now - length start) in
    let x : Lexed = (token_of c.in-Ok-Some.token, c.in-Ok-Some.after.now) in
    let comes : next_at c.is_dotted.result start ≡ Ok (Some x) =
    placed_given place (next_at c.is_dotted.result start) (some_lexed c.in-Ok-Some.field-0) c.in-Ok-Some.ensures
    ∙ ap (λ o. Ok (some_lexed o)) c.in-Ok-Some.field-0-is in
    shorter c.tokens.rest.now start c.is_dotted.result x c.split_run.ensures.back comes

pub tokens-preserved : goal.tokens-preserved
tokens-preserved c =
    let st = state_of c.tokens.machine in
    let start = c.split_run.result.1.now in
    let place : ℕ = c.args.base + (length c.args.text.now - length start) in
    let x : Lexed = (token_of c.in-Ok-Some.token, c.in-Ok-Some.after.now) in
    let comes : next_at (is_dotted st) start ≡ Ok (Some x) =
    ap (λ (d : Bool). next_at d start) (sym c.is_dotted.ensures)
    ∙ placed_given place (next_at c.is_dotted.result start) (some_lexed c.in-Ok-Some.field-0) c.in-Ok-Some.ensures
    ∙ ap (λ o. Ok (some_lexed o)) c.in-Ok-Some.field-0-is in
    let taken = placed_given place (step limits st x.0) (state_of c.in_ok-machine-in-Ok-Some.machine) c.in_ok-machine-in-Ok-Some.ensures in
    (goes_on c.args.text.now c.tokens.rest.now start st x (state_of c.in_ok-machine-in-Ok-Some.machine) c.tokens.invariant.0 c.split_run.ensures.back comes taken, search rules)
