-- No hint is left out.
use Rattle.std.proofs.Common.{◌≡◌, ◌∙◌, ◌<◌, ◌≤◌, ◌+◌, ⊎_elim, ℕ, List, [], ◌∷◌, ◌++◌, get_or, length, take, sym, subst, Option, codes}
use Rattle.std.proofs.lemmas.List.{take_all}
use Rattle.std.proofs.lemmas.List.Elements.{All-contains, All-more, All-weaker, Contains-append_left, Contains-push}
use Rattle.std.specs.List.{All, Contains}
use Rattle.serde_json.specs.Data.{Data}
use Rattle.serde_json.specs.Find.{get}
use Rattle.flow_lint.specs.Hints.{AreAllHints, HasHints, HasNote, IsHinted, KeepsNotes, SaysIdle, SaysNeed, SaysUnknown}
use Rattle.flow_lint.specs.Kinds.{IsNeed}
use Rattle.flow_lint.specs.Nodes.{AreAll, place_of}
use Rattle.flow_lint.specs.Places.{FilePlace, ShowsNeed}
use Rattle.flow_lint.specs.declared.kind.NodeKind.TheVariants as kinds
use Rattle.flow_lint.specs.declared.node.Node.{Node}
use Rattle.flow_lint.specs.declared.note.Note.{Note}

-- ---- more notes

pub kept_by_push : (old new : List Note) (note : Note) → new ≡ old ++ note ∷ [] → KeepsNotes old new
kept_by_push old new note e one h =
    subst (λ (notes : List Note). Contains notes one) (sym e) (Contains-append_left old (note ∷ []) one h)

pub added_by_push : (old new : List Note) (note : Note) → new ≡ old ++ note ∷ [] → Contains new note
added_by_push old new note e = subst (λ (notes : List Note). Contains notes note) (sym e) (Contains-push old note)

pub note_kept : (old new : List Note) (path : List ℕ) (Said : List ℕ → Type 0) → KeepsNotes old new → HasNote old path Said
    → HasNote new path Said
note_kept old new path Said kept h = (h.0, (kept h.0 h.1.0, h.1.1))

pub hinted_kept : (jobs : Option Data) (old new : List Note) (path : List ℕ) (p : FilePlace) → KeepsNotes old new → IsHinted jobs old path p
    → IsHinted jobs new path p
hinted_kept jobs old new path p kept h = record {
  unknown = λ e. note_kept old new _ _ kept (h.unknown e);
  idle = λ e. note_kept old new _ _ kept (h.idle e);
  need = λ shows. note_kept old new _ _ kept (h.need shows);
}

pub note_says : (notes : List Note) (path text : List ℕ) (Said : List ℕ → Type 0) → HasNote notes path (λ said. said ≡ text) → Said text
    → HasNote notes path Said
note_says notes path text Said h says = (h.0, (h.1.0, (h.1.1.0, subst Said (sym h.1.1.1) says)))

-- ---- by the kind of a place

pub hinted_unknown : (jobs : Option Data) (notes : List Note) (path : List ℕ) (p : FilePlace) → p.kind ≡ kinds.Unknown
    → HasNote notes path (SaysUnknown p) → IsHinted jobs notes path p
hinted_unknown jobs notes path p k h = record {
  unknown = λ e. h;
  idle = λ (e : p.kind ≡ kinds.Idle). absurd (cc);
  need = λ shows. absurd (⊎_elim (λ (e : p.kind ≡ kinds.Needs). cc) (λ (e : p.kind ≡ kinds.Need). cc) shows.0);
}

pub hinted_idle : (jobs : Option Data) (notes : List Note) (path : List ℕ) (p : FilePlace) → p.kind ≡ kinds.Idle
    → HasNote notes path (SaysIdle p) → IsHinted jobs notes path p
hinted_idle jobs notes path p k h = record {
  unknown = λ (e : p.kind ≡ kinds.Unknown). absurd (cc);
  idle = λ e. h;
  need = λ shows. absurd (⊎_elim (λ (e : p.kind ≡ kinds.Needs). cc) (λ (e : p.kind ≡ kinds.Need). cc) shows.0);
}

pub hinted_event : (jobs : Option Data) (notes : List Note) (path : List ℕ) (p : FilePlace) → p.kind ≡ kinds.Event → IsHinted jobs notes path p
hinted_event jobs notes path p k = record {
  unknown = λ (e : p.kind ≡ kinds.Unknown). absurd (cc);
  idle = λ (e : p.kind ≡ kinds.Idle). absurd (cc);
  need = λ shows. absurd (⊎_elim (λ (e : p.kind ≡ kinds.Needs). cc) (λ (e : p.kind ≡ kinds.Need). cc) shows.0);
}

pub hinted_step : (jobs : Option Data) (notes : List Note) (path : List ℕ) (p : FilePlace) → p.kind ≡ kinds.Step → IsHinted jobs notes path p
hinted_step jobs notes path p k = record {
  unknown = λ (e : p.kind ≡ kinds.Unknown). absurd (cc);
  idle = λ (e : p.kind ≡ kinds.Idle). absurd (cc);
  need = λ shows. absurd (⊎_elim (λ (e : p.kind ≡ kinds.Needs). cc) (λ (e : p.kind ≡ kinds.Need). cc) shows.0);
}

pub hinted_need : (jobs : Option Data) (notes : List Note) (path : List ℕ) (p : FilePlace) → IsNeed p.kind
    → (ShowsNeed jobs p → HasNote notes path (SaysNeed jobs p)) → IsHinted jobs notes path p
hinted_need jobs notes path p k h = record {
  unknown = λ (u : p.kind ≡ kinds.Unknown). absurd (⊎_elim (λ (e : p.kind ≡ kinds.Needs). cc) (λ (e : p.kind ≡ kinds.Need). cc) k);
  idle = λ (u : p.kind ≡ kinds.Idle). absurd (⊎_elim (λ (e : p.kind ≡ kinds.Needs). cc) (λ (e : p.kind ≡ kinds.Need). cc) k);
  need = h;
}

-- of a kind that is none of these
pub hinted_text : (jobs : Option Data) (notes : List Note) (path : List ℕ) (p : FilePlace) → (p.kind ≡ kinds.Unknown → ⊥)
    → (p.kind ≡ kinds.Idle → ⊥) → (p.kind ≡ kinds.Needs → ⊥) → (p.kind ≡ kinds.Need → ⊥)
    → IsHinted jobs notes path p
hinted_text jobs notes path p unknown idle needs need = record {
  unknown = λ e. absurd (unknown e);
  idle = λ e. absurd (idle e);
  need = λ shows. absurd (⊎_elim needs need shows.0);
}

-- ---- node by node

pub hints_more : (root : Data) (told : List ℕ) (old new : List Note) (nodes : List Node) (count : ℕ) (node : Node) → count < length nodes
    → KeepsNotes old new → All (HasHints root told old) (take count nodes) → HasHints root told new (get_or nodes count node)
    → All (HasHints root told new) (take (count + 1) nodes)
hints_more root told old new nodes count node within kept all here =
    All-more (HasHints root told new) nodes count node within
    (All-weaker (HasHints root told old) (HasHints root told new)
    (λ one h not_told. hinted_kept (get (codes "jobs") root) old new one.path (place_of one) kept (h not_told)) (take count nodes) all)
    here

pub hints_all : (root : Data) (told : List ℕ) (notes : List Note) (nodes : List Node) (count : ℕ) → AreAll root nodes → length nodes ≤ count
    → All (HasHints root told notes) (take count nodes) → AreAllHints root told notes
hints_all root told notes nodes count all past hinted path p looked not_told =
    let at = all path p looked in
    let jobs = get (codes "jobs") root in
    let one = All-contains (HasHints root told notes) nodes at.0 (subst (All (HasHints root told notes)) (take_all count nodes past) hinted) at.1.0 in
    let is_told : at.0.path ≡ told → ⊥ = λ e. not_told (sym at.1.1.0 ∙ e) in
    subst (λ (q : FilePlace). IsHinted jobs notes path q) at.1.1.1
    (subst (λ (front : List ℕ). IsHinted jobs notes front (place_of at.0)) at.1.1.0 (one is_told))
