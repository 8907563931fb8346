use Rattle.std.proofs.Common.{◌≡◌, ◌++◌, ℕ, List, [], sym, ap, subst, ◌∙◌, append_assoc, append-nil}
use Rattle.std.proofs.lemmas.Str.{IsUtf8-past_char}
use Rattle.std.specs.Str.Iter.{chars_rest}
use Rattle.command_io.specs.Pictures.{shown, shown_character}
use Rattle.command_io.specs.Stream.{IsWritten}
use Rattle.command_io.proofs.Known.{cut_within, written_more}
use Rattle.command_io.proofs.Pictures.{shown_step, shown_nothing}
use Rattle.command_io.proofs.pictured.put_shown.Goals as goal

pub returns-then-not-put_picture : goal.returns-then-not-put_picture
returns-then-not-put_picture g c =
    let (utf8, done, whole, written) = c.loop-c.invariant in
    let parts = c.in-Some.ensures.steps.0 in
    let step = shown_step _ _ c.in-Some.c utf8 parts in
    cut_within _ _ _ done (shown_character c.in-Some.c) _ _ written (sym whole ∙ ap (λ (l : List ℕ). done ++ l) step) c.if-not-put_picture.ensures

pub loop-c-preserved : goal.loop-c-preserved
loop-c-preserved g c =
    let (utf8, done, whole, written) = c.loop-c.invariant in
    let parts = c.in-Some.ensures.steps.0 in
    let step = shown_step _ _ c.in-Some.c utf8 parts in (
      IsUtf8-past_char _ _ c.in-Some.c utf8 parts,
      done ++ shown_character c.in-Some.c,
      append_assoc done (shown_character c.in-Some.c) _ ∙ ap (λ (l : List ℕ). done ++ l) (sym step) ∙ whole,
      written_more _ _ _ done (shown_character c.in-Some.c) written c.if-not-put_picture.ensures,
    )

pub returns : goal.returns
returns g c =
    let (utf8, done, whole, written) = c.loop-c.invariant in
    let none = shown_nothing (chars_rest c.loop-c.c-iterator) c.in-None.ensures.steps.0.0 in
    let all : done ≡ shown c.args.text.now = sym (append-nil done) ∙ ap (λ (l : List ℕ). done ++ l) (sym none) ∙ whole in
    subst (λ (l : List ℕ). IsWritten (g.S.Sink.seen c.args.sink.now) (g.S.Sink.seen c.loop-c.sink) l) all written
