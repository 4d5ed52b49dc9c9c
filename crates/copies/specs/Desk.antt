-- The caller's side of the copier: chunks handed on in order, each carried on through every "full" to its verdict, with drains, buffer
-- changes and refused calls anywhere between. All of it goes through the definitions that the calls' contracts cite.
use Rattle.std.specs.Prelude.{ℕ, ◌+◌, ◌≡◌, ◌⊎◌, Bool, true, false, ◌&&◌, ◌||◌, List, [], ◌∷◌, ◌++◌, ltb, length, take, drop}
use Rattle.layout.specs.Limits.{pick}
use Rattle.machine.specs.Run.{Heard, status, refused, nothing}
use Rattle.copier.specs.declared.Copier.{Copier}
use Rattle.copier.specs.Calls.{Said, full, verdict, Outcome, copied, Opens, taken, started, Sends, bytes, drained, changed}
use Rattle.copier.specs.Calls as calls

-- ---- the desk

-- How a chunk ended, n bytes of the message being read: with a verdict, or with a refusal by its number.
abbrev pub told : ℕ → Said → Heard
told n full = nothing
told n (verdict v) = status v
told n (calls.Said.number m) = refused m n

-- The copier and its buffer; every byte sent; the chunks that have no verdict yet, the first being what "full" left of it; the bytes read;
-- how each chunk ended; whether the last feed said "full" and no drain came since; and the drains counted.
pub record Desk : Type 0 where
  pub copier : Copier
  pub buf : List ℕ
  pub sent : List ℕ
  pub chunks : List (List ℕ)
  pub read : ℕ
  pub heard : List Heard
  pub full : Bool
  pub drains : ℕ

-- a copier opened over a buffer at an offset, and the chunks to come
abbrev pub opened_at : ℕ → List ℕ → List (List ℕ) → Desk
opened_at offset b cs = record { copier = (started (length b) offset).copier; buf = b; sent = []; chunks = cs; read = 0; heard = []; full = false; drains = 0 }

-- "A fresh copier, opened at offset 0".
abbrev pub start : List ℕ → List (List ℕ) → Desk
start b cs = opened_at 0 b cs

-- ---- acts

-- A call that was meant for another buffer, or an opening that does not fit.
pub data Stray : Type 0 where
  feeds : (chunk buf : List ℕ) → Stray
  drains : (size : ℕ) → Stray
  changes : (old new offset : ℕ) → Stray
  opens : (size offset : ℕ) → Stray

-- `change` lends another buffer at offset 0.
pub data Act : Type 0 where
  feed drain : Act
  change : (buf : List ℕ) → Act
  stray : Stray → Act

-- "After "full" come a drain and the chunk's rest, even an empty one, until a verdict." A refusal ends the chunk too.
abbrev pub ended : Desk → List (List ℕ) → Outcome → Desk
ended d cs r =
    record {
      copier = r.copier;
      buf = r.buf;
      sent = d.sent;
      chunks = cs;
      read = d.read + r.used;
      heard = d.heard ++ (told (d.read + r.used) r.said ∷ []);
      full = false;
      drains = d.drains;
    }

abbrev pub filled : Desk → List ℕ → List (List ℕ) → Outcome → Desk
filled d c cs r =
    record {
      copier = r.copier;
      buf = r.buf;
      sent = d.sent;
      chunks = drop r.used c ∷ cs;
      read = d.read + r.used;
      heard = d.heard;
      full = true;
      drains = d.drains;
    }

abbrev pub fed : Desk → List ℕ → List (List ℕ) → Said → Outcome → Desk
fed d c cs full r = filled d c cs r
fed d c cs (verdict v) r = ended d cs r
fed d c cs (calls.Said.number n) r = ended d cs r

-- the first chunk is handed on; where none is left there is nothing to hand on
unfoldable pub feeding : Desk → List (List ℕ) → Desk
feeding d [] = d
feeding d (c ∷ cs) = let r = copied d.copier c d.buf in fed d c cs r.said r

abbrev pub none : List (List ℕ) → Bool
none [] = true
none (c ∷ cs) = false

-- Whether a drain counts: "the last flush included unless it has no byte to send"; "drains that the caller adds to those at "full" and at
-- the end aren't counted."
abbrev pub counts : Desk → Bool
counts d = d.full || (none d.chunks && ltb 0 d.copier.writer.offset)

-- the copier that a call handed back
abbrev pub holding : Desk → Copier → Desk
holding d k = record { copier = k; buf = d.buf; sent = d.sent; chunks = d.chunks; read = d.read; heard = d.heard; full = d.full; drains = d.drains }

-- n bytes of the buffer are sent, and a buffer is lent anew
abbrev pub sending : Desk → Sends → Copier → List ℕ → Desk
sending d (bytes n) next b =
    record {
      copier = next;
      buf = b;
      sent = d.sent ++ take n d.buf;
      chunks = d.chunks;
      read = d.read;
      heard = d.heard;
      full = false;
      drains = pick (counts d) 1 0 + d.drains;
    }
sending d (calls.Sends.number n) next b = holding d next

-- What a stray call hands back is kept: "unaltered" is used, not assumed. An opening takes no copier, and hands back another's.
abbrev pub handed_back : Stray → Copier → Copier
handed_back (feeds c b) k = (copied k c b).copier
handed_back (drains size) k = (drained k size).copier
handed_back (changes old new offset) k = (changed k old new offset).copier
handed_back (opens size offset) k = k

unfoldable pub act : Act → Desk → Desk
act feed d = feeding d d.chunks
act drain d = let r = drained d.copier (length d.buf) in sending d r.sends r.copier d.buf
act (change b) d = let r = changed d.copier (length d.buf) (length b) 0 in sending d r.sends r.copier b
act (stray x) d = holding d (handed_back x d.copier)

unfoldable pub acts : List Act → Desk → Desk
acts [] d = d
acts (a ∷ as') d = acts as' (act a d)

-- ---- what acts may stand

-- the number that a stray call is refused with; 0, which is no refusal's, where it is taken
abbrev pub said_number : Said → ℕ
said_number full = 0
said_number (verdict v) = 0
said_number (calls.Said.number n) = n

abbrev pub sends_number : Sends → ℕ
sends_number (bytes n) = 0
sends_number (calls.Sends.number n) = n

abbrev pub opens_number : Opens → ℕ
opens_number taken = 0
opens_number (calls.Opens.number n) = n

abbrev pub refused_with : Stray → Copier → ℕ
refused_with (feeds c b) k = said_number (copied k c b).said
refused_with (drains size) k = sends_number (drained k size).sends
refused_with (changes old new offset) k = sends_number (changed k old new offset).sends
refused_with (opens size offset) k = opens_number (started size offset).opens

-- "More drains, and calls refused with 5 or 6 for another buffer, may stand anywhere."
abbrev pub MayStand : Act → Desk → Type 0
MayStand feed d = Unit {0}
MayStand drain d = Unit {0}
MayStand (change b) d = Unit {0}
MayStand (stray x) d = (refused_with x d.copier ≡ 5) ⊎ (refused_with x d.copier ≡ 6)

abbrev pub Allowed : List Act → Desk → Type 0
Allowed [] d = Unit {0}
Allowed (a ∷ as') d = MayStand a d × Allowed as' (act a d)
