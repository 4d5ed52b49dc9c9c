-- 02's run of the copier: one buffer, "drained when "full" is answered and once at the end if bytes remain". proofs/Exact says how many
-- drains it costs.
use Rattle.std.specs.Prelude.{ℕ, zero, suc, ◌+◌, ◌≤◌, ◌≡◌, true, List, [], ◌∷◌, ltb, length}
use Rattle.layout.specs.Limits.{pick}
use Rattle.drains.specs.Drains.{rounded_up}
use Rattle.copies.specs.Desk.{Desk, start, Act, feed, drain, change, stray, act, acts}

-- a drain stands where "full" was answered, and no other buffer is lent; refused calls may stand anywhere
abbrev pub AtFull : Act → Desk → Type 0
AtFull feed d = Unit {0}
AtFull drain d = d.full ≡ true
AtFull (change b) d = ⊥
AtFull (stray x) d = Unit {0}

unfoldable pub DrainedAtFull : List Act → Desk → Type 0
DrainedAtFull [] d = Unit {0}
DrainedAtFull (a ∷ as') d = AtFull a d × DrainedAtFull as' (act a d)

-- "and once at the end if bytes remain"
abbrev pub flushed : Desk → Desk
flushed d = pick (ltb 0 d.copier.writer.offset) (act drain d) d

-- how many transfers an act makes, and how many a schedule, with the last one if bytes remain
abbrev pub transfer : Act → ℕ
transfer feed = 0
transfer drain = 1
transfer (change b) = 1
transfer (stray x) = 0

unfoldable pub transfers : List Act → ℕ
transfers [] = 0
transfers (a ∷ as') = transfer a + transfers as'

abbrev pub made : List Act → Desk → ℕ
made as' d = transfers as' + pick (ltb 0 (acts as' d).copier.writer.offset) 1 0

-- What a run comes to that has sent M over the buffer b, the last drain included: "exactly n divided by b, rounded up; zero bytes cost none",
-- in drains made and in drains counted. And if M has a byte at all, bytes remain at the end: none is told "full" before a byte is owed.
pub record Costs (M b : List ℕ) (cs : List (List ℕ)) (as' : List Act) : Type 0 where
  pub sent : (flushed (acts as' (start b cs))).sent ≡ M
  pub drains : (flushed (acts as' (start b cs))).drains ≡ rounded_up (length M) (length b)
  pub transfers : made as' (start b cs) ≡ rounded_up (length M) (length b)
  pub remain : 1 ≤ length M → 1 ≤ (acts as' (start b cs)).copier.writer.offset

-- ---- a schedule of that kind

-- drained whenever "full" was answered, and else the chunks handed on
abbrev pub turn : Desk → Act
turn d = pick d.full drain feed

unfoldable pub plainly : ℕ → Desk → List Act
plainly zero d = []
plainly (suc n) d = turn d ∷ plainly n (act (turn d) d)
