-- Counts that stop at the greatest word, and differences that wrap.
use Rattle.std.proofs.Common.{◌≡◌, ℕ, ◌+◌, ◌-◌, ◌%◌, ◌^◌, ◌<◌, arith}
use Rattle.ready_queue.specs.Tally.{IsAhead}

pub ahead_put : (puts takes ahead : ℕ) → IsAhead puts takes ahead → IsAhead (puts + 1) takes ((ahead + 1) % 2 ^ 64)
ahead_put puts takes ahead h = omega arith

pub ahead_taken : (puts takes ahead : ℕ) → IsAhead puts takes ahead → IsAhead puts (takes + 1) ((ahead + (2 ^ 64 - 1)) % 2 ^ 64)
ahead_taken puts takes ahead h = omega arith

pub ahead_joined : (puts takes ahead more others further : ℕ) → IsAhead puts takes ahead → IsAhead more others further → IsAhead (puts + more) (takes + others) ((ahead + further) % 2 ^ 64)
ahead_joined puts takes ahead more others further h k = omega arith

pub ahead_is : (takes left ahead : ℕ) → ahead < 2 ^ 64 → left < 2 ^ 64 → IsAhead (takes + left) takes ahead → ahead ≡ left
ahead_is takes left ahead a b h = omega arith
