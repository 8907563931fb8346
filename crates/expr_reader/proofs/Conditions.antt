-- The clauses of the calls on templates and conditions, from what their helpers answer.
use Rattle.std.proofs.Common.{◌≡◌, ℕ, suc, ◌+◌, ◌≤◌, Bool, true, false, cond, nat_lt, Result, Ok, Err, Option, Some, None, IfOk, IfErr, IfSome, List, [], ◌∷◌, length, refl, sym, ap, subst, ◌∙◌, arith}
use Rattle.std.proofs.lemmas.Bool.{cond-false, le-ltb, ltb-true, ltb-false}
use Rattle.expr_reader.specs.Expr.{Expr}
use Rattle.expr_reader.specs.Faults.{fault_at, Gives}
use Rattle.expr_reader.specs.Reading.{Failure, read_text}
use Rattle.expr_reader.specs.Template.{Piece, marked, has_marker, Pieces, names_status, SpellsTemplate, SpellsTrimmed}
use Rattle.expr_reader.specs.TemplateReading.{read_pieces, one_piece, trimmed_by, read_trimmed}
use Rattle.expr_reader.specs.TemplateStands.{StandsInPieces, StandsInTemplate, StandsInTrimmed, IsReadAs, in_pieces, in_expression, too_long_condition, in_marks}
use Rattle.expr_reader.specs.TemplateView.{template_of}
use Rattle.expr_reader.specs.declared.template.Template.{Template}
use Rattle.expr_reader.specs.declared.fault.ExprFault.{ExprFault}
use Rattle.expr_reader.specs.declared.fault.Fault.TheVariants.{TooLong}
use Rattle.expr_reader.proofs.Expressions.{spelled_read, read_spells, read_stands, only_memory}
use Rattle.expr_reader.proofs.PieceLaws.{pieces_again, Got, pieces_sound}

-- What is spelled so is read.
pub spelled_pieces : (size : ℕ) (text : List ℕ) (ps : List Piece) → Pieces text ps [] → read_pieces size text ≡ Ok ps
spelled_pieces size text ps h = pieces_again (suc (length text)) size text ps (omega arith) h

got : (size : ℕ) (text : List ℕ) (r : Result (List Piece) Failure) → length text ≤ size → read_pieces size text ≡ r → Got size text r
got size text r short h = subst (Got size text) h (pieces_sound (suc (length text)) size text (omega arith) short)

-- What is read is spelled so.
pub pieces_spelled : (size : ℕ) (text : List ℕ) (ps : List Piece) → length text ≤ size → read_pieces size text ≡ Ok ps → Pieces text ps []
pieces_spelled size text ps short h = got size text (Ok ps) short h

pub pieces_stand : (size : ℕ) (text : List ℕ) (x : Failure) → length text ≤ size → read_pieces size text ≡ Err x → StandsInPieces size text x
pieces_stand size text x short h = got size text (Err x) short h

pub one_template : (r : Result (List Piece) Failure) (ps qs : List Piece) → r ≡ Ok ps → r ≡ Ok qs → ps ≡ qs
one_template r ps qs h g = cc

-- A template: found, only and stands.
pub template_found : (text : List ℕ) (ps : List Piece) → length text ≤ 1048576 → read_pieces (length text) text ≡ Ok ps → names_status ps ≡ false → SpellsTemplate ps text
template_found text ps short h plain = record { short = short; pieces = pieces_spelled (length text) text ps (omega arith) h; plain_status = plain }

pub template_same : (text : List ℕ) (ps qs : List Piece) → read_pieces (length text) text ≡ Ok ps → SpellsTemplate qs text → ps ≡ qs
template_same text ps qs h s = one_template (read_pieces (length text) text) ps qs h (spelled_pieces (length text) text qs s.pieces)

pub template_no_status : (text : List ℕ) (ps qs : List Piece) → read_pieces (length text) text ≡ Ok ps → names_status ps ≡ true → SpellsTemplate qs text → ⊥
template_no_status text ps qs h status s =
    let same = template_same text ps qs h s in
    cc (ap names_status same, status, s.plain_status)

pub template_only_memory : (text : List ℕ) (f : ExprFault) (qs : List Piece) → IfSome (fault_at f) (λ x. read_pieces (length text) text ≡ Err x) → SpellsTemplate qs text → fault_at f ≡ None
template_only_memory text f qs h s = only_memory (read_pieces (length text) text) qs f (fault_at f) refl (spelled_pieces (length text) text qs s.pieces) h

template_stands_by : (text : List ℕ) (o : Option Failure) → IfSome o (λ x. read_pieces (length text) text ≡ Err x) → IfSome o (StandsInTemplate text)
template_stands_by text None h = tt
template_stands_by text (Some x) h = in_pieces (pieces_stand (length text) text x (omega arith) h)

pub template_stands : (text : List ℕ) (f : ExprFault) → IfSome (fault_at f) (λ x. read_pieces (length text) text ≡ Err x) → IfSome (fault_at f) (StandsInTemplate text)
template_stands text f h = template_stands_by text (fault_at f) h

-- A condition without white space at its ends.
pub trimmed_by_found : (base : ℕ) (text : List ℕ) (ps : List Piece) (mark : Bool) → trimmed_by mark base text ≡ Ok ps → SpellsTrimmed mark ps text
trimmed_by_found base text ps false h = one_found base text ps (read_text base text) refl h
  where
    one_found : (base : ℕ) (text : List ℕ) (ps : List Piece) (r : Result Expr Failure) → read_text base text ≡ r → one_piece r ≡ Ok ps → SpellsTrimmed false ps text
    one_found base text ps (Ok e) at h = let same : marked e ∷ [] ≡ ps = cc in (e, sym same, read_spells base text e at)
    one_found base text ps (Err x) at h = cc
trimmed_by_found base text ps true h = long_found base text ps (nat_lt 1048576 (length text)) refl h
  where
    long_found : (base : ℕ) (text : List ℕ) (ps : List Piece) (t : Bool) → nat_lt 1048576 (length text) ≡ t → cond t (Err (TooLong, base + 1048576)) (read_pieces (base + length text) text) ≡ Ok ps → SpellsTrimmed true ps text
    long_found base text ps true test h = cc
    long_found base text ps false test h = (ltb-false 1048576 (length text) test, pieces_spelled (base + length text) text ps (omega arith) h)

pub trimmed_by_read : (base : ℕ) (text : List ℕ) (ps : List Piece) (mark : Bool) → SpellsTrimmed mark ps text → trimmed_by mark base text ≡ Ok ps
trimmed_by_read base text ps false h = ap one_piece (spelled_read base h.0 text h.2) ∙ ap Ok (sym h.1)
trimmed_by_read base text ps true h =
    cond-false (nat_lt 1048576 (length text)) (Err (TooLong, base + 1048576)) (read_pieces (base + length text) text) (le-ltb 1048576 (length text) h.0) ∙ spelled_pieces (base + length text) text ps h.1

trimmed_by_stands : (base : ℕ) (text : List ℕ) (x : Failure) (mark : Bool) → has_marker text ≡ mark → trimmed_by mark base text ≡ Err x → StandsInTrimmed base text x
trimmed_by_stands base text x false mark h = one_stands base text x (read_text base text) mark refl h
  where
    one_stands : (base : ℕ) (text : List ℕ) (x : Failure) (r : Result Expr Failure) → has_marker text ≡ false → read_text base text ≡ r → one_piece r ≡ Err x → StandsInTrimmed base text x
    one_stands base text x (Ok e) mark at h = cc
    one_stands base text x (Err y) mark at h =
        let same : y ≡ x = cc in
        let found = read_stands base text y at in
        subst (StandsInTrimmed base text) same (in_expression mark found.0 found.1 found.2)
trimmed_by_stands base text x true mark h = long_stands base text x (nat_lt 1048576 (length text)) mark refl h
  where
    long_stands : (base : ℕ) (text : List ℕ) (x : Failure) (t : Bool) → has_marker text ≡ true → nat_lt 1048576 (length text) ≡ t → cond t (Err (TooLong, base + 1048576)) (read_pieces (base + length text) text) ≡ Err x → StandsInTrimmed base text x
    long_stands base text x true mark test h = let same : (TooLong, base + 1048576) ≡ x = cc in too_long_condition mark (ltb-true 1048576 (length text) test) (sym same)
    long_stands base text x false mark test h = in_marks mark (pieces_stand (base + length text) text x (omega arith) h)

-- A condition: found, only and stands.
pub condition_found : (base : ℕ) (text : List ℕ) (result : Result Template ExprFault) → Gives template_of result (read_trimmed base text) → IfOk result (λ t. SpellsTrimmed (has_marker text) (template_of t) text)
condition_found base text (Ok t) h = trimmed_by_found base text (template_of t) (has_marker text) h
condition_found base text (Err f) h = tt

pub condition_only : (base : ℕ) (text : List ℕ) (result : Result Template ExprFault) → Gives template_of result (read_trimmed base text) → (ps : List Piece) → SpellsTrimmed (has_marker text) ps text → IsReadAs result ps
condition_only base text (Ok t) h ps s = one_template (read_trimmed base text) (template_of t) ps h (trimmed_by_read base text ps (has_marker text) s)
condition_only base text (Err f) h ps s = only_memory (read_trimmed base text) ps f (fault_at f) refl (trimmed_by_read base text ps (has_marker text) s) h

condition_stands_by : (base : ℕ) (text : List ℕ) (o : Option Failure) → IfSome o (λ x. read_trimmed base text ≡ Err x) → IfSome o (StandsInTrimmed base text)
condition_stands_by base text None h = tt
condition_stands_by base text (Some x) h = trimmed_by_stands base text x (has_marker text) refl h

pub condition_stands : (base : ℕ) (text : List ℕ) (result : Result Template ExprFault) → Gives template_of result (read_trimmed base text) → IfErr result (λ f. IfSome (fault_at f) (StandsInTrimmed base text))
condition_stands base text (Ok t) h = tt
condition_stands base text (Err f) h = condition_stands_by base text (fault_at f) h
