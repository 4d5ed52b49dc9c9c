-- One call of the copier: a chunk is read event by event, and each event is written out again before the next is read.
-- It stops at "full", at the verdict or at a refusal.
use Rattle.std.specs.Prelude.{ℕ, zero, suc, ◌+◌, ◌-◌, ◌*◌, Bool, true, false, List, [], ◌∷◌, leb, length, take, drop}
use Rattle.layout.specs.Limits.{Limits}
use Rattle.layout.specs.Event.{Event}
use Rattle.layout.specs.Message.{Verdict}
use Rattle.machine.specs.Calls.{State, reading, owing, broke, pace_of, byte, bulk, Called, call}
use Rattle.machine.specs.Calls as calls
use Rattle.putting.specs.Put.{put, reached}
use Rattle.copying.specs.Owed.{Owed, nothing, owes, rest, further, depth_once, due_in}

-- the reader's state, the writer's depth and position, and what is owed
pub record Copy : Type 0 where
  pub reader : State
  pub depth : ℕ
  pub pos : ℕ
  pub owed : Owed

-- "Full"; the verdict after the chunk; number 2; or no turn was left, which never comes of a call
pub data Said : Type 0 where
  full : Said
  verdict : Verdict → Said
  invalid : Said
  unfinished : Said

-- "the answer is the chunk bytes used"; the state and the buffer after the call
pub record Copied : Type 0 where
  pub used : ℕ
  pub answer : Said
  pub copy : Copy
  pub buf : List ℕ

abbrev pub after : ℕ → Copied → Copied
after n r = record { used = n + r.used; answer = r.answer; copy = r.copy; buf = r.buf }

-- the owed event is out, its last byte before pos
abbrev pub settled : Copy → ℕ → Copy
settled k pos = record { reader = k.reader; depth = depth_once k.depth k.owed; pos = pos; owed = nothing }

-- the buffer is written to its end, within the owed event
abbrev pub filled : Copy → ℕ → Copy
filled k pos = record { reader = k.reader; depth = k.depth; pos = pos; owed = further k.owed (pos - k.pos) }

-- the reader has gone on, and what it gave is owed
abbrev pub gone : Copy → State → Owed → Copy
gone k s o = record { reader = s; depth = k.depth; pos = k.pos; owed = o }

abbrev pub empty : List ℕ → Bool
empty [] = true
empty (b ∷ bs) = false

-- "A payload piece counts as read only as far as it is out": within a payload the reader is handed as many bytes as there is room for.
unfoldable pub handed : State → ℕ → List ℕ → List ℕ
handed (reading d p) room c = elim (pace_of p) [ byte ↦ c | bulk id r total o ↦ take room c ]
handed (owing d id r) room c = c
handed broke room c = c

-- a payload byte is there and no place is free
unfoldable pub stuck : State → ℕ → List ℕ → Bool
stuck (reading d p) room [] = false
stuck (reading d p) (suc room) (b ∷ c) = false
stuck (reading d p) zero (b ∷ c) = elim (pace_of p) [ byte ↦ false | bulk id r total o ↦ true ]
stuck (owing d id r) room c = false
stuck broke room c = false

-- What the reader's call comes to, f being how its event is gone on with.
unfoldable pub heard : Copy → List ℕ → List ℕ → Called → (Event → Copied) → Copied
heard k c b r f =
    elim r.answer [
      | calls.event e ↦ after r.read (f e)
      | calls.verdict v ↦ record { used = r.read; answer = verdict v; copy = gone k r.state nothing; buf = b }
      | calls.invalid ↦ record { used = r.read; answer = invalid; copy = gone k r.state nothing; buf = b }
    ]

-- there is room for what is owed
abbrev pub fits : Copy → List ℕ → Bool
fits k b = leb (length (rest k.owed)) (length b - k.pos)

-- all of an event that the reader gave in this state, an element where one was due
abbrev pub all_of : State → Event → Owed
all_of s e = owes (due_in s) e 0

-- At most n turns. A turn: what is owed goes out, as far as there is room; then the reader is called.
-- "Full" only where a byte is owed and none is free.
unfoldable pub copies : Limits → ℕ → Copy → List ℕ → List ℕ → Copied
copies L zero k c b = record { used = 0; answer = unfinished; copy = k; buf = b }
copies L (suc n) k c b =
    let o = rest k.owed in
    let pos = reached b k.pos o in
    let b' = put b k.pos o in
    let k' = settled k pos in
    let room = length b - pos in
    elim (fits k b) [
      | false ↦ record { used = 0; answer = full; copy = filled k pos; buf = b' }
      | true ↦
          elim (stuck k.reader room c) [
            | true ↦ record { used = 0; answer = full; copy = k'; buf = b' }
            | false ↦
                (let r = call L k.reader (handed k.reader room c) in
                heard k' c b' r (λ e. copies L n (gone k' r.state (all_of k.reader e)) (drop r.read c) b'))
          ]
    ]

-- two turns a byte, and two more, are enough
abbrev pub turns_for : List ℕ → ℕ
turns_for c = 2 * length c + 2

-- A call.
unfoldable pub copy : Limits → Copy → List ℕ → List ℕ → Copied
copy L k c b = copies L (turns_for c) k c b
