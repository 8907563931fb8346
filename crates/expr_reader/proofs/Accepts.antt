-- What a text spells as a template or a condition, as functions.
use Rattle.std.proofs.Common.{◌≡◌, ℕ, ◌≤◌, Bool, true, false, cond, is_some, nat_le, Result, Ok, Err, Option, Some, None, IfOk, IfSome, List, length, refl, sym, ap, subst, ◌∙◌, arith}
use Rattle.std.specs.Prelude.{option_and_then}
use Rattle.std.proofs.lemmas.Bool.{cond-false}
use Rattle.std.proofs.lemmas.Bool.Decides.{nat_tests}
use Rattle.expr_reader.specs.Faults.{fault_at}
use Rattle.expr_reader.specs.Reading.{Failure}
use Rattle.expr_reader.specs.Template.{Piece, has_marker, names_status, SpellsTemplate, IsTemplate, trimmed, SpellsCondition, IsCondition}
use Rattle.expr_reader.specs.TemplateReading.{read_pieces, read_trimmed}
use Rattle.expr_reader.specs.TemplateStands.{IsReadAs}
use Rattle.expr_reader.specs.TemplateView.{template_of}
use Rattle.expr_reader.specs.Accepts.{pieces_read, without_status, template_read, condition_read, is_template, is_condition, TemplatesAreRead, ConditionsAreRead, ReadsAs}
use Rattle.expr_reader.specs.declared.fault.ExprFault.{ExprFault}
use Rattle.expr_reader.specs.declared.template.Template.{Template}
use Rattle.expr_reader.proofs.Conditions.{spelled_pieces, template_found, trimmed_by_found, trimmed_by_read}

within : (n : ℕ) → nat_le n 1048576 ≡ true → n ≤ 1048576
within n h = grind (arith, nat_tests)

some_same : (qs ps : List Piece) → (let o : Option (List Piece) = Some qs in o ≡ Some ps) → qs ≡ ps
some_same qs ps h = cc

no_none : (ps : List Piece) → (let o : Option (List Piece) = None in o ≡ Some ps) → ⊥
no_none ps h = cc

plain_by : (text : List ℕ) (qs ps : List Piece) (b : Bool) → length text ≤ 1048576 → read_pieces (length text) text ≡ Ok qs → names_status qs ≡ b → cond b None (Some qs) ≡ Some ps → SpellsTemplate ps text
plain_by text qs ps true short read status h = absurd (no_none ps h)
plain_by text qs ps false short read status h = subst (λ (z : List Piece). SpellsTemplate z text) (some_same qs ps h) (template_found text qs short read status)

template_by : (text : List ℕ) (ps : List Piece) (t : Bool) (r : Result (List Piece) Failure) → nat_le (length text) 1048576 ≡ t → read_pieces (length text) text ≡ r → cond t (option_and_then without_status (pieces_read r)) None ≡ Some ps → SpellsTemplate ps text
template_by text ps true (Ok qs) short read h = plain_by text qs ps (names_status qs) (within (length text) short) read refl h
template_by text ps true (Err x) short read h = absurd (no_none ps h)
template_by text ps false r short read h = absurd (no_none ps h)

-- What is read as a template is spelled so.
template_spelled : (text : List ℕ) (ps : List Piece) → template_read text ≡ Some ps → SpellsTemplate ps text
unfolding template_read
template_spelled text ps h = template_by text ps (nat_le (length text) 1048576) (read_pieces (length text) text) refl refl h

-- What is spelled as a template is read so.
template_again : (text : List ℕ) (ps : List Piece) → SpellsTemplate ps text → template_read text ≡ Some ps
unfolding template_read
template_again text ps h =
    let short : length text ≤ 1048576 = h.short in
    let test : nat_le (length text) 1048576 ≡ true = grind (arith, nat_tests) in
    ap (λ (t : Bool). cond t (option_and_then without_status (pieces_read (read_pieces (length text) text))) None) test
    ∙ ap (λ (r : Result (List Piece) Failure). option_and_then without_status (pieces_read r)) (spelled_pieces (length text) text ps h.pieces)
    ∙ cond-false (names_status ps) None (Some ps) h.plain_status

pub templates_are_read : TemplatesAreRead
templates_are_read text ps = (template_spelled text ps, template_again text ps)

condition_by : (text : List ℕ) (ps : List Piece) (r : Result (List Piece) Failure) → read_trimmed 0 (trimmed text) ≡ r → pieces_read r ≡ Some ps → SpellsCondition ps text
condition_by text ps (Ok qs) read h = subst (λ (z : List Piece). SpellsCondition z text) (some_same qs ps h) (trimmed_by_found 0 (trimmed text) qs (has_marker (trimmed text)) read)
condition_by text ps (Err x) read h = absurd (no_none ps h)

-- What is read as a condition is spelled so.
condition_spelled : (text : List ℕ) (ps : List Piece) → condition_read text ≡ Some ps → SpellsCondition ps text
unfolding condition_read
condition_spelled text ps h = condition_by text ps (read_trimmed 0 (trimmed text)) refl h

-- What is spelled as a condition is read so.
condition_again : (text : List ℕ) (ps : List Piece) → SpellsCondition ps text → condition_read text ≡ Some ps
unfolding condition_read
condition_again text ps h = ap pieces_read (trimmed_by_read 0 (trimmed text) ps (has_marker (trimmed text)) h)

pub conditions_are_read : ConditionsAreRead
conditions_are_read text ps = (condition_spelled text ps, condition_again text ps)

-- What passes a test is there.
there : (o : Option (List Piece)) → is_some o ≡ true → (ps : List Piece) × (o ≡ Some ps)
there None h = cc
there (Some ps) h = (ps, refl)

-- The test says that the text is a template.
pub template_tested : (text : List ℕ) → is_template text ≡ true → IsTemplate text
template_tested text h = let found = there (template_read text) h in (found.0, template_spelled text found.0 found.1)

pub template_passes : (text : List ℕ) → IsTemplate text → is_template text ≡ true
template_passes text h = ap is_some (template_again text h.0 h.1)

-- The test says that the text is a condition.
pub condition_tested : (text : List ℕ) → is_condition text ≡ true → IsCondition text
condition_tested text h = let found = there (condition_read text) h in (found.0, condition_spelled text found.0 found.1)

pub condition_passes : (text : List ℕ) → IsCondition text → is_condition text ≡ true
condition_passes text h = ap is_some (condition_again text h.0 h.1)

-- What a reader answers, by the pieces of the text, where it answers what the text spells and no fault but
-- want of memory where it spells something.
no_pieces : (f : ExprFault) (o : Option (List Piece)) → ((ps : List Piece) → o ≡ Some ps → fault_at f ≡ None) → IfSome (fault_at f) (λ x. o ≡ None)
no_pieces f None none = no_fault (fault_at f)
  where
    no_fault : (x : Option Failure) → IfSome x (λ y. (let o : Option (List Piece) = None in o ≡ None))
    no_fault None = tt
    no_fault (Some x) = refl
no_pieces f (Some ps) none = subst (λ (x : Option Failure). IfSome x (λ y. (let o : Option (List Piece) = Some ps in o ≡ None))) (sym (none ps refl)) tt

pub template_answered : (text : List ℕ) (result : Result Template ExprFault) → IfOk result (λ t. SpellsTemplate (template_of t) text) → ((ps : List Piece) → SpellsTemplate ps text → IsReadAs result ps) → ReadsAs result (template_read text)
template_answered text (Ok t) found only = template_again text (template_of t) found
template_answered text (Err f) found only = no_pieces f (template_read text) (λ ps h. only ps (template_spelled text ps h))

pub condition_answered : (text : List ℕ) (result : Result Template ExprFault) → IfOk result (λ t. SpellsCondition (template_of t) text) → ((ps : List Piece) → SpellsCondition ps text → IsReadAs result ps) → ReadsAs result (condition_read text)
condition_answered text (Ok t) found only = condition_again text (template_of t) found
condition_answered text (Err f) found only = no_pieces f (condition_read text) (λ ps h. only ps (condition_spelled text ps h))

one_answer : (r : Result (List Piece) Failure) (ps qs : List Piece) → r ≡ Ok ps → r ≡ Ok qs → ps ≡ qs
one_answer r ps qs is also = same ps qs (sym is ∙ also)
  where
    same : (xs ys : List Piece) → (let a : Result (List Piece) Failure = Ok xs in a ≡ Ok ys) → xs ≡ ys
    same xs ys e = cc

-- A text spells one template at most.
pub template_once : (ps qs : List Piece) (text : List ℕ) → SpellsTemplate ps text → SpellsTemplate qs text → ps ≡ qs
template_once ps qs text spelled also =
    one_answer (read_pieces (length text) text) ps qs (spelled_pieces (length text) text ps spelled.pieces) (spelled_pieces (length text) text qs also.pieces)

-- A text spells one condition at most.
pub condition_once : (ps qs : List Piece) (text : List ℕ) → SpellsCondition ps text → SpellsCondition qs text → ps ≡ qs
condition_once ps qs text spelled also =
    one_answer (read_trimmed 0 (trimmed text)) ps qs (trimmed_by_read 0 (trimmed text) ps (has_marker (trimmed text)) spelled)
    (trimmed_by_read 0 (trimmed text) qs (has_marker (trimmed text)) also)
