-- 02's run of a series: one buffer, "drained when "full" is answered and once at the end if bytes remain", and what it costs.
-- proofs/Theorems shows that every such run costs that, and that there are such runs.
use Rattle.std.specs.Prelude.{ℕ, ◌≤◌, ◌≡◌, true, List, [], ◌∷◌, ltb, length}
use Rattle.layout.specs.Limits.{pick}
use Rattle.drains.specs.Drains.{rounded_up}
use Rattle.writes.specs.Series.{Desk, Act, write, drain, change, aside, other, act}
use Rattle.writes.specs.Written.{Write, message_of}

-- A drain stands where "full" was answered, and no other buffer is lent. Refused calls may stand anywhere; a buffer change that is refused is
-- one of `other`.
abbrev pub AtFull : Act → Desk → Type 0
AtFull write d = Unit {0}
AtFull drain d = d.full ≡ true
AtFull (change b o drained) d = ⊥
AtFull (aside op place) d = Unit {0}
AtFull (other x) d = Unit {0}

unfoldable pub DrainedAtFull : List Act → Desk → Type 0
DrainedAtFull [] d = Unit {0}
DrainedAtFull (a ∷ as') d = AtFull a d × DrainedAtFull as' (act a d)

-- "and once at the end if bytes remain"
abbrev pub flushed : Desk → Desk
flushed d = pick (ltb 0 d.stream.offset) (act drain d) d

-- What a run of these writes over the buffer b comes to at the desk e: "exactly n divided by b, rounded up; zero bytes cost none", in transfers
-- made and in drains counted. All of the message is sent. And if it has a byte at all, bytes remain at the end: no "full" is told once all
-- bytes are in the buffer.
pub record Costs (b : List ℕ) (ws : List Write) (e : Desk) : Type 0 where
  pub sent : (flushed e).sent ≡ message_of ws
  pub transfers : length (flushed e).transfers ≡ rounded_up (length (message_of ws)) (length b)
  pub drains : (flushed e).drains ≡ rounded_up (length (message_of ws)) (length b)
  pub remain : 1 ≤ length (message_of ws) → 1 ≤ e.stream.offset

-- the caller who drains at each "full" (Series.carried)
abbrev pub by_drains : Desk → Act
by_drains d = drain
