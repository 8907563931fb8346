-- One entry more, played and noted.
use Rattle.std.proofs.Common.{◌≡◌, ◌+◌, ◌++◌, ◌<◌, ℕ, suc, List, [], ◌∷◌, length, take, get_or, Some, subst, sym, ap, ◌∙◌, arith}
use Rattle.std.proofs.lemmas.List.{append-nil, append_assoc, take_more}
use Rattle.status_table.specs.Words.{Board, Entry, Plan, Row, after_from, then_after}
use Rattle.board_timeline.specs.Noted.{noted, touched}
use Rattle.status_table.specs.declared.fault.EventFault.{EventFault}
use Rattle.board_timeline.specs.Played.{IsUntouched, LeavesNoted, NotesEntry, then_noted, track_from}
use Rattle.board_timeline.specs.declared.noted.Track.{Track}

-- the board after an entry
pub board_after : (table plan : Plan) (line : ℕ) (old new : Board) (track track' : Track) (e : Entry) → NotesEntry table plan line old track e new track'
    → after_from table old (e ∷ []) ≡ Some new
board_after table plan line old new track track' e did = ap (λ (r : Row). then_after r (λ next. Some next)) did.played

-- what is noted of it
one_noted : (table plan : Plan) (line : ℕ) (old new : Board) (track track' : Track) (e : Entry) (es : List Entry)
    → NotesEntry table plan line old track e new track'
    → track_from table plan old line track (e ∷ es) ≡ track_from table plan new (suc line) track' es
one_noted table plan line old new track track' e es did =
    ap (λ (r : Row). then_noted r (λ next reply. track_from table plan next (suc line) (noted plan next line (touched e.event) reply track) es)) did.played
    ∙ ap (λ (rows : Track). track_from table plan new (suc line) rows es) (sym did.noted)

-- what is noted of the entries of a list up to one more, and of any after it
pub next_noted : (table plan : Plan) (first old new : Board) (before track track' : Track) (es : List Entry) (k : ℕ) (e : Entry)
    → k < length es → e ≡ get_or es k e → NotesEntry table plan (k + 2) old track e new track'
    → ((rest : List Entry) → track_from table plan old (k + 2) track rest ≡ track_from table plan first 2 before (take k es ++ rest))
    → (rest : List Entry) → track_from table plan new ((k + 1) + 2) track' rest ≡ track_from table plan first 2 before (take (k + 1) es ++ rest)
next_noted table plan first old new before track track' es k e within is did so_far rest =
    subst (λ (n : ℕ). track_from table plan new n track' rest ≡ track_from table plan first 2 before (take (k + 1) es ++ rest)) next_line
    (sym (one_noted table plan (k + 2) old new track track' e rest did)
    ∙ so_far (e ∷ rest)
    ∙ ap (λ (xs : List Entry). track_from table plan first 2 before xs) (sym one_more))
  where
    next_line : suc (k + 2) ≡ (k + 1) + 2
    next_line = omega arith

    one_more : take (k + 1) es ++ rest ≡ take k es ++ e ∷ rest
    one_more =
        ap (λ (xs : List Entry). xs ++ rest) (take_more es k e within ∙ ap (λ (x : Entry). take k es ++ x ∷ []) (sym is))
        ∙ append_assoc (take k es) (e ∷ []) rest

-- what is noted of them alone
pub noted_so_far : (table plan : Plan) (first new : Board) (line : ℕ) (before track : Track) (es : List Entry)
    → ((rest : List Entry) → track_from table plan new line track rest ≡ track_from table plan first 2 before (es ++ rest))
    → track_from table plan first 2 before es ≡ Some track
noted_so_far table plan first new line before track es so_far =
    ap (λ (xs : List Entry). track_from table plan first 2 before xs) (sym (append-nil es)) ∙ sym (so_far [])

-- where the next one is refused that is what is left
pub left_noted : (table plan : Plan) (first old new : Board) (before track track' : Track) (es : List Entry) (k : ℕ) (f : EventFault)
    → after_from table first (take k es) ≡ Some old → track_from table plan first 2 before (take k es) ≡ Some track
    → ((f ≡ EventFault.Memory → ⊥) → IsUntouched old track new track') → LeavesNoted table plan first before es new track' (k, f)
left_noted table plan first old new before track track' es k f played so_far kept untold =
    let same = kept untold in
    record {
      played = played ∙ ap (λ (b : Board). Some b) (sym same.0);
      noted = so_far ∙ ap (λ (t : Track). Some t) (sym same.1);
    }
