-- A text that was printed of a document is read as it.
use Rattle.std.proofs.Common.{◌≡◌, ◌≤◌, ℕ, List, Bool, true, false, IsTrue, cond, String, Global, string_bytes, Option, Some, None, Result, Ok, Err, refl, sym, ap, subst, ◌∙◌}
use Rattle.std.proofs.lemmas.Str.{IsUtf8-string_bytes}
use Rattle.std.specs.Result.{IfOk, result_ok}
use Rattle.serde_json.specs.Data.{Data, depth}
use Rattle.serde_json.specs.Read.{read}
use Rattle.serde_json.specs.Written.{has_float, compact_text}
use Rattle.flow_model.specs.JsonText.{json_read}
use Rattle.flow_model.specs.Rules.{IsPlan, plan_rules}
use Rattle.flow_model.specs.declared.plan.Plan.{Plan}
use Rattle.flow_model.specs.declared.event.Entry.{Entry}
use Rattle.flow_model.proofs.JsonTexts.{json_read-some}
use Rattle.plan_documents.specs.Document.{document_in, IsPlanDocument}
use Rattle.plan_documents.specs.EntryDocument.{entry_document, IsEntryDocument, entry_of, is_entry}
use Rattle.plan_text.specs.Record.{entry_in, line_entry, on_line}
use Rattle.plan_text.specs.Load.{IsTextOf, has_other_version, accepted, checked, loaded, load, Gives}
use Rattle.plan_documents.specs.Parts.{Reading}
use Rattle.plan_documents.specs.Reading.{plan_of}
use Rattle.plan_text.specs.declared.fault.LoadFault.{LoadFault}
use Rattle.plan_text.specs.declared.fault.LoadFault.TheVariants.{Version as OtherVersion}
use Rattle.plan_documents.specs.declared.version.Version.{Version}
use Rattle.plan_documents.specs.declared.version.Version.TheVariants.{One, Two}
use Rattle.plan_documents.proofs.EntryLaws.{entry_reads, entry_fits}
use Rattle.plan_documents.proofs.Fitting.{plan_sound}
use Rattle.plan_documents.proofs.Laws.{Ok-inj}
use Rattle.plan_documents.proofs.PlanLaws.{plan_reads}

-- ---- JSON texts

-- the text of a value without floats
pub compact_of : (s : List ℕ) (d e : Data) → (has_float d ≡ false → s ≡ compact_text d) → d ≡ e → has_float e ≡ false → s ≡ compact_text e
compact_of s d e h is exact = h (ap has_float is ∙ exact) ∙ ap compact_text is

-- the text of a value that nests no deeper than 127
pub reads_of : (s : String Global) (d e : Data) → (depth d ≤ 127 → read (string_bytes s) ≡ Some d) → d ≡ e → depth e ≤ 127 → json_read (string_bytes s) ≡ Some e
reads_of s d e h is low =
    json_read-some (string_bytes s) e (IsUtf8-string_bytes s) (h (subst (λ x. depth x ≤ 127) (sym is) low) ∙ ap Some is)

-- ---- plans

known-version : (v : Version) (p : Plan) → has_other_version (document_in v p) ≡ false
known-version One p = refl
known-version Two p = refl

loaded-document : (v : Version) (p : Plan) → IsPlan p → loaded (Some (document_in v p)) ≡ Ok p
loaded-document v p h =
    ap (λ b. cond b (Err OtherVersion) (checked (plan_of (document_in v p)))) (known-version v p)
    ∙ ap checked (plan_reads.again v p (plan_sound p h) refl) ∙ ap (accepted p) h

-- a document of a plan is loaded as the plan
pub load_again : (bytes : List ℕ) (v : Version) (p : Plan) → IsPlan p → json_read bytes ≡ Some (document_in v p) → load bytes ≡ Ok p
load_again bytes v p h e = ap loaded e ∙ loaded-document v p h

-- a text of a plan is loaded as the plan
pub load_text : (bytes : List ℕ) (p : Plan) → IsPlan p → IsTextOf IsPlanDocument bytes p → load bytes ≡ Ok p
load_text bytes p h text = load_again bytes text.2.0 p h (text.1 ∙ ap Some text.2.1)

from_accepted : (p : Plan) (found : Option (List ℕ)) (q : Plan) → accepted p found ≡ Ok q → (found ≡ None) × (p ≡ q)
from_accepted p None q e = (refl, cc)
from_accepted p (Some path) q e = absurd (cc)

from_checked : (r : Reading Plan) (q : Plan) → checked r ≡ Ok q → (r ≡ Ok q) × (plan_rules q ≡ None)
from_checked (Ok p) q e =
    let r = from_accepted p (plan_rules p) q e in
    (ap Ok r.1, ap plan_rules (sym r.1) ∙ r.0)
from_checked (Err path) q e = absurd (cc)

by_version : (other : Bool) (r : Result Plan LoadFault) (q : Plan) → cond other (Err OtherVersion) r ≡ Ok q → r ≡ Ok q
by_version true r q e = absurd (cc)
by_version false r q e = e

from_loaded : (o : Option Data) (q : Plan) → loaded o ≡ Ok q → ((d : Data) × (o ≡ Some d) × IsPlanDocument q d) × IsPlan q
from_loaded None q e = absurd (cc)
from_loaded (Some d) q e =
    let r = from_checked (plan_of d) q (by_version (has_other_version d) (checked (plan_of d)) q e) in
    let found = plan_reads.only d q r.0 in
    ((d, refl, (found.0, found.2)), r.1)

-- what is loaded has a document in the text, and its rules hold
pub from_load : (bytes : List ℕ) (p : Plan) → load bytes ≡ Ok p → IsTextOf IsPlanDocument bytes p × IsPlan p
from_load bytes p e = from_loaded (json_read bytes) p e

-- what is loaded has a document in the text
pub load_found : (r : Result Plan LoadFault) (bytes : List ℕ) → Gives r (load bytes) → IfOk r (λ p. IsTextOf IsPlanDocument bytes p)
load_found (Ok p) bytes h = (from_load bytes p h).0
load_found (Err fault) bytes h = tt

plan_read : (p : Plan) (d : Data) → IsPlan p → IsPlanDocument p d → plan_of d ≡ Ok p
plan_read p d h is = ap plan_of is.1 ∙ plan_reads.again is.0 p (plan_sound p h) refl

-- no two plans have one document
pub plan_alone : (p q : Plan) (d : Data) → IsPlan p → IsPlan q → IsPlanDocument p d → IsPlanDocument q d → p ≡ q
plan_alone p q d hp hq hd kd = Ok-inj p q (sym (plan_read p d hp hd) ∙ plan_read q d hq kd)

-- ---- entries

-- the document that is printed of an entry in the ranges is read as the entry
pub entry_again : (line : List ℕ) (e : Entry) → IsTrue (is_entry e) → json_read line ≡ Some (entry_document e) → line_entry line ≡ Some e
entry_again line e h is = ap entry_in is ∙ ap result_ok (entry_reads.again Two e h refl)

entry_read : (e : Entry) (d : Data) → IsTrue (is_entry e) → IsEntryDocument e d → entry_of d ≡ Ok e
entry_read e d h is = ap entry_of is.2 ∙ entry_reads.again is.0 e h is.1

-- a text of an entry in the ranges is read as the entry
pub entry_text : (line : List ℕ) (e : Entry) → IsTrue (is_entry e) → IsTextOf IsEntryDocument line e → line_entry line ≡ Some e
entry_text line e h text = ap entry_in text.1 ∙ ap result_ok (entry_read e text.0 h text.2)

from_result_ok : {A E : Type 0} (r : Result A E) (a : A) → result_ok r ≡ Some a → r ≡ Ok a
from_result_ok (Ok b) a e = cc
from_result_ok (Err fault) a e = absurd (cc)

from_entry_in : (o : Option Data) (e : Entry) → entry_in o ≡ Some e → ((d : Data) × (o ≡ Some d) × IsEntryDocument e d) × IsTrue (is_entry e)
from_entry_in None e is = absurd (cc)
from_entry_in (Some d) e is =
    let read = from_result_ok (entry_of d) e is in
    ((d, refl, entry_reads.only d e read), entry_fits d e read)

from_on_line : (number : ℕ) (o : Option Entry) (e : Entry) → on_line number o ≡ Ok e → o ≡ Some e
from_on_line number None e is = absurd (cc)
from_on_line number (Some f) e is = cc

-- what is read of a line has a document there, and is in the ranges
pub from_line : (number : ℕ) (line : List ℕ) (e : Entry) → on_line number (line_entry line) ≡ Ok e → IsTextOf IsEntryDocument line e × IsTrue (is_entry e)
from_line number line e is = from_entry_in (json_read line) e (from_on_line number (line_entry line) e is)

-- what is read has a document in the line
pub entry_found : (r : Result Entry LoadFault) (line : List ℕ) → Gives r (on_line 1 (line_entry line)) → IfOk r (λ e. IsTextOf IsEntryDocument line e)
entry_found (Ok e) line h = (from_line 1 line e h).0
entry_found (Err fault) line h = tt

-- and is in the ranges
pub entry_in_range : (r : Result Entry LoadFault) (line : List ℕ) → Gives r (on_line 1 (line_entry line)) → IfOk r (λ e. IsTrue (is_entry e))
entry_in_range (Ok e) line h = (from_line 1 line e h).1
entry_in_range (Err fault) line h = tt

-- no two entries have one document
pub entry_alone : (e f : Entry) (d : Data) → IsTrue (is_entry e) → IsTrue (is_entry f) → IsEntryDocument e d → IsEntryDocument f d → e ≡ f
entry_alone e f d he hf hd kd = Ok-inj e f (sym (entry_read e d he hd) ∙ entry_read f d hf kd)
