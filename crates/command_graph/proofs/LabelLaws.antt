-- The strings of a graph are its labels.
use Rattle.std.proofs.Common.{◌≡◌, ◌==◌, ◌+◌, ◌/◌, ◌%◌, ◌++◌, ◌&&◌, ℕ, suc, zero, Bool, true, false, not, List, [], ◌∷◌, length, codes, decimal, nat_lt, if◌then◌else◌, Option, Some, None, slice_get, refl, sym, subst, ap, ◌∙◌, append_assoc, arith}
use Rattle.std.proofs.lemmas.List.{append-nil}
use Rattle.std.proofs.lemmas.List.Folds.{list_all-append}
use Rattle.std.specs.Fmt.{digits, digits_onto, digit_glyph}
use Rattle.std.specs.List.{flat_map}
use Rattle.status_table.specs.Words.{JobPlan, Outcome, Plan, Run, RunPlan}
use Rattle.command_graph.proofs.ReadingLaws.{quoted_texts_are_read}
use Rattle.command_graph.specs.Dot.{cluster_begin, edge_text, graph_head, graph_text, job_label, job_text, jobs_text, legs_count, node_end, node_text, run_label, run_text, runs_text}
use Rattle.command_graph.specs.Labels.{has_no_quote, HasStrings, graph_strings, jobs_strings, runs_strings}
use Rattle.command_graph.specs.Quoted.{quoted, shown_text}
use Rattle.command_graph.specs.Standing.{legs_at, outcome_colour, stand_at, stand_colour, stand_of_run}
use Rattle.command_graph.specs.declared.standing.Stand.{Stand}
use Rattle.command_graph.specs.declared.standing.Stand.TheVariants.{Waiting, Running, Ended}

-- ---- texts without quotes

bare_both : (a b : List ℕ) → has_no_quote a ≡ true → has_no_quote b ≡ true → has_no_quote (a ++ b) ≡ true
bare_both a b first second = list_all-append (λ (c : ℕ). not (c == 34)) a b ∙ (λ i. first i && second i)

bare_byte : (b : ℕ) (text : List ℕ) → (b == 34) ≡ false → has_no_quote text ≡ true → has_no_quote (b ∷ text) ≡ true
bare_byte b text other bare = rw (other) bare

low_glyph : (d : ℕ) → (48 + d == 34) ≡ false
low_glyph d = grind arith

high_glyph : (d : ℕ) → (87 + d == 34) ≡ false
high_glyph d = grind arith

bare_glyph : (d : ℕ) → (digit_glyph false d == 34) ≡ false
bare_glyph d = by_size (nat_lt d 10)
  where
    by_size : (low : Bool) → ((if low then 48 + d else 87 + d) == 34) ≡ false
    by_size true = low_glyph d
    by_size false = high_glyph d

bare_digits : (k n : ℕ) (others : List ℕ) → has_no_quote others ≡ true → has_no_quote (digits_onto k 10 false n others) ≡ true
bare_digits zero n others bare = bare
bare_digits (suc k) n others bare = by_last (n / 10 == 0) (bare_digits k (n / 10))
  where
    more : has_no_quote (digit_glyph false (n % 10) ∷ others) ≡ true
    more = bare_byte (digit_glyph false (n % 10)) others (bare_glyph (n % 10)) bare

    by_last : (last : Bool) → ((after : List ℕ) → has_no_quote after ≡ true → has_no_quote (digits_onto k 10 false (n / 10) after) ≡ true)
        → has_no_quote (if last then digit_glyph false (n % 10) ∷ others else digits_onto k 10 false (n / 10) (digit_glyph false (n % 10) ∷ others)) ≡ true
    by_last true next = more
    by_last false next = next (digit_glyph false (n % 10) ∷ others) more

bare_number : (n : ℕ) → has_no_quote (decimal n) ≡ true
unfolding digits
bare_number n = bare_digits 64 n [] refl

bare_outcome : (how : Outcome) → has_no_quote (outcome_colour how) ≡ true
bare_outcome Outcome.Success = refl
bare_outcome Outcome.Failure = refl
bare_outcome Outcome.Cancelled = refl
bare_outcome Outcome.Skipped = refl

bare_colour : (stand : Stand) → has_no_quote (stand_colour stand) ≡ true
bare_colour Waiting = refl
bare_colour Running = refl
bare_colour (Ended how) = bare_outcome how

bare_end : (stand : Option Stand) → has_no_quote (node_end stand) ≡ true
bare_end None = refl
bare_end (Some stand) =
    bare_both (codes " fillcolor=" ++ stand_colour stand) (codes "];\n") (bare_both (codes " fillcolor=") (stand_colour stand) refl (bare_colour stand)) refl

bare_edge : (number need : ℕ) → has_no_quote (edge_text number need) ≡ true
bare_edge number need =
    bare_both ((codes "\t\tj" ++ decimal need) ++ (codes " -> j" ++ decimal number)) (codes ";\n")
    (bare_both (codes "\t\tj" ++ decimal need) (codes " -> j" ++ decimal number)
    (bare_both (codes "\t\tj") (decimal need) refl (bare_number need)) (bare_both (codes " -> j") (decimal number) refl (bare_number number)))
    refl

bare_edges : (number : ℕ) (needs : List ℕ) → has_no_quote (flat_map (edge_text number) needs) ≡ true
bare_edges number [] = refl
bare_edges number (need ∷ needs) = bare_both (edge_text number need) (flat_map (edge_text number) needs) (bare_edge number need) (bare_edges number needs)

-- ---- parts, whose strings come before those of what follows

abbrev Puts : List (List ℕ) → List ℕ → Type 0
Puts strings part = (ts : List (List ℕ)) (rest : List ℕ) → HasStrings ts rest → HasStrings (strings ++ ts) (part ++ rest)

puts_bare : (part : List ℕ) → has_no_quote part ≡ true → Puts [] part
puts_bare part bare [] rest has = bare_both part rest bare has
puts_bare part bare (t ∷ ts) rest has = record {
  before = part ++ has.before;
  from = has.from;
  after = has.after;
  whole = ap (λ (text : List ℕ). part ++ text) has.whole ∙ sym (append_assoc part has.before has.from);
  bare = bare_both part has.before bare has.bare;
  read = has.read;
  rest = has.rest;
}

puts_quoted : (text : List ℕ) → Puts (shown_text text ∷ []) (quoted text)
puts_quoted text ts rest has = record {
  before = [];
  from = quoted text ++ rest;
  after = rest;
  whole = refl;
  bare = refl;
  read = quoted_texts_are_read text rest;
  rest = has;
}

puts_both : (ss ts : List (List ℕ)) (a b : List ℕ) → Puts ss a → Puts ts b → Puts (ss ++ ts) (a ++ b)
puts_both ss ts a b first second us rest has =
    subst (λ (strings : List (List ℕ)). HasStrings strings ((a ++ b) ++ rest)) (sym (append_assoc ss ts us))
    (subst (λ (text : List ℕ). HasStrings (ss ++ (ts ++ us)) text) (sym (append_assoc a b rest)) (first (ts ++ us) (b ++ rest) (second us rest has)))

-- what is bare may follow
puts_end : (ss : List (List ℕ)) (a b : List ℕ) → Puts ss a → has_no_quote b ≡ true → Puts ss (a ++ b)
puts_end ss a b first bare us rest has =
    subst (λ (text : List ℕ). HasStrings (ss ++ us) text) (sym (append_assoc a b rest)) (first us (b ++ rest) (puts_bare b bare us rest has))

-- ---- those of a graph

puts_node : (number : ℕ) (label : List ℕ) (stand : Option Stand) → Puts (shown_text label ∷ []) (node_text number label stand)
puts_node number label stand =
    let named = codes "\t\tj" ++ decimal number in
    puts_end (shown_text label ∷ []) ((named ++ codes " [label=") ++ quoted label) (node_end stand)
    (puts_both [] (shown_text label ∷ []) (named ++ codes " [label=") (quoted label)
    (puts_bare (named ++ codes " [label=") (bare_both named (codes " [label=") (bare_both (codes "\t\tj") (decimal number) refl (bare_number number)) refl))
    (puts_quoted label))
    (bare_end stand)

puts_job : (run : Option Run) (place l : ℕ) (job : JobPlan)
    → Puts (shown_text (job_label l job (stand_at run place) (legs_at run place)) ∷ []) (job_text run place l job)
puts_job run place l job =
    let label = job_label l job (stand_at run place) (legs_at run place) in
    puts_end (shown_text label ∷ []) (node_text job.number label (stand_at run place)) (flat_map (edge_text job.number) job.needs)
    (puts_node job.number label (stand_at run place)) (bare_edges job.number job.needs)

puts_jobs : (run : Option Run) (place l : ℕ) (jobs : List JobPlan) → Puts (jobs_strings run place l jobs) (jobs_text run place l jobs)
puts_jobs run place l [] = puts_bare [] refl
puts_jobs run place l (job ∷ jobs) =
    puts_both (shown_text (job_label l job (stand_at run place) (legs_at run place)) ∷ []) (jobs_strings run (suc place) (l + length job.legs) jobs)
    (job_text run place l job) (jobs_text run (suc place) (l + length job.legs) jobs)
    (puts_job run place l job) (puts_jobs run (suc place) (l + length job.legs) jobs)

puts_begin : (number : ℕ) (label : List ℕ) → Puts (shown_text label ∷ []) (cluster_begin number label)
unfolding cluster_begin
puts_begin number label =
    let named = codes "\tsubgraph cluster_" ++ decimal number in
    puts_end (shown_text label ∷ []) ((named ++ codes " {\n\t\tlabel=") ++ quoted label) (codes ";\n")
    (puts_both [] (shown_text label ∷ []) (named ++ codes " {\n\t\tlabel=") (quoted label)
    (puts_bare (named ++ codes " {\n\t\tlabel=")
    (bare_both named (codes " {\n\t\tlabel=") (bare_both (codes "\tsubgraph cluster_") (decimal number) refl (bare_number number)) refl))
    (puts_quoted label))
    refl

puts_run : (state : Option Run) (r l : ℕ) (run : RunPlan)
    → Puts (shown_text (run_label r run (stand_of_run state)) ∷ jobs_strings state 0 l run.jobs) (run_text state r l run)
puts_run state r l run =
    let label = run_label r run (stand_of_run state) in
    puts_end (shown_text label ∷ jobs_strings state 0 l run.jobs) (cluster_begin r label ++ jobs_text state 0 l run.jobs) (codes "\t}\n")
    (puts_both (shown_text label ∷ []) (jobs_strings state 0 l run.jobs) (cluster_begin r label) (jobs_text state 0 l run.jobs)
    (puts_begin r label) (puts_jobs state 0 l run.jobs))
    refl

puts_runs : (states : List Run) (r l : ℕ) (runs : List RunPlan) → Puts (runs_strings states r l runs) (runs_text states r l runs)
puts_runs states r l [] = puts_bare [] refl
puts_runs states r l (run ∷ runs) =
    let state = slice_get states r in
    puts_both (shown_text (run_label r run (stand_of_run state)) ∷ jobs_strings state 0 l run.jobs) (runs_strings states (suc r) (l + legs_count run.jobs) runs)
    (run_text state r l run) (runs_text states (suc r) (l + legs_count run.jobs) runs)
    (puts_run state r l run) (puts_runs states (suc r) (l + legs_count run.jobs) runs)

-- the strings of a graph are its labels, whatever texts the plan has
pub graph_has_strings : (plan : Plan) (states : List Run) → HasStrings (graph_strings plan states) (graph_text plan states)
graph_has_strings plan states =
    let strings = runs_strings states 0 0 plan.runs in
    let runs = runs_text states 0 0 plan.runs in
    let all : Puts strings ((graph_head ++ runs) ++ codes "}\n") =
    puts_end strings (graph_head ++ runs) (codes "}\n") (puts_both [] strings graph_head runs (puts_bare graph_head refl) (puts_runs states 0 0 plan.runs)) refl in
    subst (λ (ss : List (List ℕ)). HasStrings ss (graph_text plan states)) (append-nil strings)
    (subst (λ (text : List ℕ). HasStrings (strings ++ []) text) (append-nil (graph_text plan states)) (all [] [] refl))
