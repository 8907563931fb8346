-- A text may be cut after its closing quote, and its inside is UTF-8.
use Rattle.std.proofs.Common.{List, ℕ, [], drop, subst, arith}
use Rattle.std.specs.Str.{IsCharBoundary}
use Rattle.expr_reader.proofs.Utf8.{text_utf8, rest_boundary, closed_at, closed_end, other_taken, quote_taken}
use Rattle.expr_reader.proofs.lexer.quoted.Goals as goal
use Rattle.expr_reader.proofs.lexer.quoted.Goals.{then-byte-ne39+else-after_quote, else-byte-ne39+else-after_quote-2}

pub split_at-requires : goal.split_at-requires
split_at-requires c =
    let bytes = c.as_bytes-bytes.result.now in
    let closed = closed_at c.loop-place.text.items bytes c.loop-place.after_quote c.loop-place.place c.if-after_quote.true c.loop-place-test.true c.if-byte-ne39.true c.loop-place.invariant in
    subst (λ (bs : List ℕ). IsCharBoundary bs c.loop-place.place) c.as_bytes-bytes.ensures.value (rest_boundary bytes c.loop-place.text.items c.loop-place.place closed (omega arith) c.as_bytes-bytes.ensures.utf8)

pub quoted_token-requires : goal.quoted_token-requires
quoted_token-requires c =
    let bytes = c.as_bytes-bytes.result.now in
    let closed = closed_at c.loop-place.text.items bytes c.loop-place.after_quote c.loop-place.place c.if-after_quote.true c.loop-place-test.true c.if-byte-ne39.true c.loop-place.invariant in
    text_utf8 bytes c.loop-place.text.items (drop c.loop-place.place bytes) closed c.as_bytes-bytes.ensures.utf8

pub quoted_token-requires-then-after_quote-3 : goal.quoted_token-requires-then-after_quote-3
quoted_token-requires-then-after_quote-3 c =
    let bytes = c.as_bytes-bytes.result.now in
    let closed = closed_end c.loop-place.text.items bytes c.loop-place.after_quote c.loop-place.place c.if-after_quote-3.true (omega arith) c.loop-place.invariant in
    text_utf8 bytes c.loop-place.text.items [] closed c.as_bytes-bytes.ensures.utf8

pub loop-place-preserved : goal.loop-place-preserved
loop-place-preserved c =
    let out = c.loop-place.text.items in
    let bytes = c.as_bytes-bytes.result.now in
    rw (c.in_ok-push.ensures.items) (elim c.if-byte-ne39.branch [
      | then-byte-ne39+else-after_quote w ↦ other_taken out bytes c.loop-place.after_quote c.if-byte-ne39.after_quote c.loop-place.place c.loop-place-test.true w.if-byte-ne39.true w.if-after_quote.false w.after_quote-is c.loop-place.invariant
      | else-byte-ne39+else-after_quote-2 w ↦ quote_taken out bytes c.loop-place.after_quote c.if-byte-ne39.after_quote c.loop-place.place c.loop-place-test.true w.if-byte-ne39.false w.if-after_quote-2.false w.after_quote-is c.loop-place.invariant
    ])
