-- THE WRITER'S THEOREMS, from an opening to the last drain, for every list of writes, buffer, offset and schedule. To be read without their
-- proofs, with specs/Series, specs/Written and specs/Exact.
use Prim.Native.Nat.{ℕ, ◌≤◌}
use mathlib.Core.Path.{◌≡◌, refl, sym, ap, ◌∙◌, subst}
use mathlib.Core.Bool.{Bool}
use mathlib.Core.List.{List, [], ◌∷◌, ◌++◌}
use lib.ListN.{length}
use Rattle.layout.specs.Message.{All}
use Rattle.layout.specs.Field.{each}
use Rattle.ostream.specs.Stream.{at, opened}
use Rattle.ostream.specs.Buffer.{opening}
use Rattle.writes.specs.Series.{Desk, Act, drain, act, acts, Lawful, reserved_by, begun, Plain, Stays, Frees, Ends, join}
use Rattle.writes.specs.Exact.{DrainedAtFull, Costs, by_drains}
use Rattle.writes.specs.Written.{item_bytes, Write, written, Accepted, series, message_of, refused_of, state_of}
use Rattle.writes.proofs.Runs.{whole, kept, all_sent, all_told, all_state}
use Rattle.writes.proofs.Drains.{lean_acts, few_drains}
use Rattle.writes.proofs.Exact.{level-acts, remains, exactly, flushed-sent}
use Rattle.writes.proofs.Ends.{calling_ends, drained-ends}
use Rattle.writes.proofs.Transfers.{first_drain}
use Rattle.writes.proofs.Written.{taken_all, none-refused}
use Rattle.writes.proofs.Opening.{begun_fine, begun-whole, begun-refused, begun_state, begun_lean, begun-level}

-- Of an accepted series, what it comes to are all its writes, and none is refused.
pub writes_accepted : (ws : List Write) → Accepted (opened 0) ws → (message_of ws ≡ each item_bytes (written [] ws)) × (refused_of ws ≡ [])
unfolding message_of refused_of
writes_accepted ws h = (ap (λ (l : List Write). each item_bytes (written [] l)) (taken_all ws (opened 0) h), none-refused ws (opened 0) h)

-- ---- from every opening, by every schedule

module _ (b : List ℕ) (o : ℕ) (drained : Bool) (ws : List Write) (as' : List Act) (lawful : Lawful as' (series b o drained ws)) where
  -- the desk that the schedule has come to
  abbrev now : Desk
  now = acts as' (series b o drained ws)

  -- Once no write is left, the bytes sent with the last drain, less the reserved ones, are those of the accepted writes, by the rule for
  -- held sequences.
  pub writes_sent : now.ops ≡ [] → (act drain now).sent ≡ message_of ws
  writes_sent e = all_sent as' (series b o drained ws) (begun_fine b o drained ws) lawful e ∙ begun-whole b o drained ws

  -- The others were refused, each with its number.
  pub writes_told : now.ops ≡ [] → now.refused ≡ refused_of ws
  writes_told e = all_told as' (series b o drained ws) (begun_fine b o drained ws) lawful e ∙ begun-refused b o drained ws

  -- Depth and held ids are those that the accepted writes leave.
  pub writes_state : now.ops ≡ [] → (p : ℕ) → at now.stream p ≡ state_of ws p
  writes_state e p = all_state as' (series b o drained ws) (begun_fine b o drained ws) lawful e p ∙ begun_state b o drained ws p

  -- Such runs exist. Wherever a schedule has come to, over a buffer of one byte or more: some number of turns, each a call or, at "full", a
  -- drain or another buffer with a byte free, comes to an end where no write is left, more turns change nothing, and bytes, numbers and
  -- state are as above.
  pub writes_end : (sink : Desk → Act) → ((d : Desk) → Frees (sink d)) → 1 ≤ length now.buf
      → (n : ℕ) × (e : Desk) × Ends sink n now e × ((act drain e).sent ≡ message_of ws) × (e.refused ≡ refused_of ws) × ((p : ℕ) → at e.stream p ≡ state_of ws p)
  writes_end sink able l =
      let k = kept as' (series b o drained ws) (begun_fine b o drained ws) lawful in
      let (n, more, m, p, e) = calling_ends sink able now k.fine l in (
        n,
        acts more now,
        e,
        all_sent more now k.fine m e.no_more ∙ k.same ∙ begun-whole b o drained ws,
        all_told more now k.fine m e.no_more ∙ k.told ∙ begun-refused b o drained ws,
        λ p. all_state more now k.fine m e.no_more p ∙ k.left p ∙ begun_state b o drained ws p,
      )

  -- "They go out with the first drain, after which writing starts at 0": over one buffer, the first drain sends the bytes that the opening
  -- reserved, as they came, and then bytes of the message; each later one bytes of the message alone; and together they are the message.
  pub writes_transfers : All Stays as' → now.ops ≡ []
      → (m : List ℕ) × (ms : List (List ℕ)) × ((act drain now).transfers ≡ (reserved_by (opening (length b) o drained).answer b o ++ m) ∷ ms) × (m ++ join ms ≡ message_of ws)
  unfolding begun
  writes_transfers s e =
      let (m, ms, t, q) = first_drain as' (series b o drained ws) (begun_fine b o drained ws) lawful s refl refl in
      (m, ms, t, sym q ∙ writes_sent e)

-- ---- from offset 0, over buffers of one byte or more that start at 0

module _ (b : List ℕ) (drained : Bool) (ws : List Write) (as' : List Act) (lawful : Lawful as' (series b 0 drained ws)) (room : 1 ≤ length b) (plain : All Plain as') where
  abbrev now' : Desk
  now' = acts as' (series b 0 drained ws)

  -- "A message of n bytes costs at most n drains, the last flush included unless it has no byte to send, where every buffer lent has at
  -- least one byte and starts at offset 0; drains that the caller adds to those at "full" and at the end aren't counted."
  pub writes_drains : now'.ops ≡ [] → (act drain now').drains ≤ length (message_of ws)
  writes_drains e =
      subst (λ (m : List ℕ). (act drain now').drains ≤ length m) (begun-whole b 0 drained ws)
      (few_drains as' (series b 0 drained ws) (begun_fine b 0 drained ws) (begun_lean b drained ws room) lawful plain e)

  -- Such runs exist too.
  pub writes_drains_end : (sink : Desk → Act) → ((d : Desk) → Frees (sink d)) → ((d : Desk) → Plain (sink d))
      → (n : ℕ) × (e : Desk) × Ends sink n now' e × ((act drain e).sent ≡ message_of ws) × ((act drain e).drains ≤ length (message_of ws))
  writes_drains_end sink able even =
      let k = kept as' (series b 0 drained ws) (begun_fine b 0 drained ws) lawful in
      let c = lean_acts as' (series b 0 drained ws) (begun_fine b 0 drained ws) (begun_lean b drained ws room) lawful plain in
      let (n, more, m, q, e) = calling_ends sink able now' k.fine c.room in
      let w : whole now' ≡ message_of ws = k.same ∙ begun-whole b 0 drained ws in (
        n,
        acts more now',
        e,
        all_sent more now' k.fine m e.no_more ∙ w,
        subst (λ (z : List ℕ). (act drain (acts more now')).drains ≤ length z) w (few_drains more now' k.fine c m (q even) e.no_more),
      )

-- ---- over one buffer, drained when "full" is answered and once at the end if bytes remain

module _ (b : List ℕ) (drained : Bool) (ws : List Write) (room : 1 ≤ length b) where
  -- the buffer's length, and the message's
  abbrev size : ℕ
  size = length b

  abbrev total : ℕ
  total = length (message_of ws)

  -- What every such run costs (specs/Exact).
  pub writes_exactly : (as' : List Act) → Lawful as' (series b 0 drained ws) → DrainedAtFull as' (series b 0 drained ws) → (acts as' (series b 0 drained ws)).ops ≡ []
      → Costs b ws (acts as' (series b 0 drained ws))
  writes_exactly as' lawful full n =
      let f = begun_fine b 0 drained ws in
      let w : length (whole (series b 0 drained ws)) ≡ total = ap length (begun-whole b 0 drained ws) in
      let k = kept as' (series b 0 drained ws) f lawful in
      let l = level-acts size total as' (series b 0 drained ws) f (begun-level b drained ws) w lawful full in
      let e : Desk = acts as' (series b 0 drained ws) in
      let x = exactly size total e k.fine l (ap length k.same ∙ w) n room in
      record {
        sent = sym (flushed-sent size total e k.fine l (ap length k.same ∙ w) n) ∙ writes_sent b 0 drained ws as' lawful n;
        transfers = x.0;
        drains = x.1;
        remain = remains size total e k.fine l (ap length k.same ∙ w) n;
      }

  -- Such runs exist: the caller who drains at each "full" comes to an end, by such a schedule, and more turns change nothing.
  pub writes_exactly_end : (n : ℕ) × (as' : List Act) × Lawful as' (series b 0 drained ws) × DrainedAtFull as' (series b 0 drained ws) × Ends by_drains n (series b 0 drained ws) (acts as' (series b 0 drained ws))
  unfolding begun
  writes_exactly_end = drained-ends by_drains (λ d. tt) (λ d. refl) (series b 0 drained ws) (begun_fine b 0 drained ws) room
