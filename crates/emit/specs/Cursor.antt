-- A cursor in one call's output: `pos` is where its next byte stands in the buffer, and `skip` how many of the bytes still to come are
-- out already, since the call goes on from a place. Each segment of the output moves it.
use Rattle.std.specs.Prelude.{◌≡◌, List, ℕ, ◌-◌, length}
use Rattle.emit.specs.declared.Cursor.{Cursor}
use Rattle.putting.specs.Put.{put_from, reached_from}

-- the buffer b after the segment s
unfoldable pub placed : Cursor → List ℕ → List ℕ → List ℕ
placed c b s = put_from b c.pos c.skip s

-- the cursor after it
unfoldable pub moved : Cursor → List ℕ → List ℕ → Cursor
moved c b s = record { pos = reached_from b c.pos c.skip s; skip = c.skip - length s }

-- both: c' and b' are what the segment s makes of c and b
abbrev pub Emitted : Cursor → List ℕ → List ℕ → Cursor → List ℕ → Type 0
Emitted c b s c' b' = (c' ≡ moved c b s) × (b' ≡ placed c b s)
