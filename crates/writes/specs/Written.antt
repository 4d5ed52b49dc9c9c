-- What a list of writes comes to, by 01's rule for held sequences: "An opened sequence is held back until content or a keeping close
-- comes. Up to eight are held, outermost first, unused places zero; a ninth open writes all eight and itself. A plain close of a held one drops it."
use Rattle.std.specs.Prelude.{ℕ, Bool, true, false, ◌≡◌, List, [], ◌∷◌, ◌++◌, ltb, length}
use Rattle.layout.specs.Field.{Field, Subtype, each, begin, end}
use Rattle.layout.specs.Copy.{field_bytes}
use Rattle.ostream.specs.declared.OStream.{OStream}
use Rattle.ostream.specs.Stream.{at, lazy_depth, opened}
use Rattle.ostream.specs.Emission.{Test, Judgement, accepted, refused_with, Call}
use Rattle.ostream.specs.Calls.{unsound, content, fixlen_bytes, begin_call, end_call, end_keep_call}
use Rattle.writes.specs.Series.{Op, judgement, done_by, refusals, finally, Desk, begun}

-- what stands in a message: a field of the layout, or what the general fixed-length writer was given, at any length
pub data Item : Type 0 where
  field : Field → Item
  fixlen : (id : ℕ) (s : Subtype) (bytes : List ℕ) → Item

abbrev pub item_bytes : Item → List ℕ
item_bytes (field x) = field_bytes x
item_bytes (fixlen id s bs) = fixlen_bytes id s bs

-- a write: content, with what its call tests besides the state; an open, a plain close, a keeping close
pub data Write : Type 0 where
  puts : (tests : List Test) → Item → Write
  opens : (id : ℕ) → Write
  closes keeps : Write

abbrev pub begins : List ℕ → List Item
begins [] = []
begins (id ∷ ids) = field (begin id) ∷ begins ids

-- all but the last
abbrev pub front : List ℕ → List ℕ
front [] = []
front (x ∷ []) = []
front (x ∷ y ∷ ys) = x ∷ front (y ∷ ys)

-- "Up to eight are held": whether one more is held back
abbrev pub held_back : List ℕ → Bool
held_back held = ltb (length held) lazy_depth

-- what is written, where these ids are held
unfoldable pub written : List ℕ → List Write → List Item
written held [] = []
written held (puts ts x ∷ ws) = begins held ++ (x ∷ written [] ws)
written held (opens id ∷ ws) = elim (held_back held) [ true ↦ written (held ++ (id ∷ [])) ws | false ↦ begins held ++ (field (begin id) ∷ written [] ws) ]
written [] (closes ∷ ws) = field (end 0) ∷ written [] ws
written (x ∷ xs) (closes ∷ ws) = written (front (x ∷ xs)) ws
written held (keeps ∷ ws) = begins held ++ (field (end 0) ∷ written [] ws)

-- the calls of the writer, as operations
abbrev pub op_of : (OStream → ℕ → Call) → Op
op_of c = record { tests = λ s size. (c s size).tests; output = λ s. (c s 0).output; done = λ s. (c s 0).done }

abbrev pub op : Write → Op
op (puts ts x) = op_of (λ s size. content (unsound s size ∷ ts) s (item_bytes x))
op (opens id) = op_of (λ s size. begin_call s size id)
op closes = op_of end_call
op keeps = op_of end_keep_call

abbrev pub ops_of : List Write → List Op
ops_of [] = []
ops_of (w ∷ ws) = op w ∷ ops_of ws

-- ---- accepted writes

-- a series in which each write's tests pass where it stands
unfoldable pub Accepted : OStream → List Write → Type 0
Accepted s [] = Unit {0}
Accepted s (w ∷ ws) = (judgement (op w) s ≡ accepted) × Accepted ((op w).done s) ws

-- the accepted ones of any series
abbrev pub taken_by : Judgement → Write → List Write → List Write
taken_by accepted w ws = w ∷ ws
taken_by (refused_with e) w ws = ws

unfoldable pub taken : OStream → List Write → List Write
taken s [] = []
taken s (w ∷ ws) = taken_by (judgement (op w) s) w (taken (done_by (judgement (op w) s) (op w) s) ws)

-- a writer opened over a buffer, and the writes that it is to make
abbrev pub series : List ℕ → ℕ → Bool → List Write → Desk
series b o drained ws = begun b o drained (ops_of ws)

-- What a series comes to: the bytes of its accepted writes, the numbers of the others, and the state that is left, at a position.
unfoldable pub message_of : List Write → List ℕ
message_of ws = each item_bytes (written [] (taken (opened 0) ws))

unfoldable pub refused_of : List Write → List ℕ
refused_of ws = refusals (opened 0) (ops_of ws)

unfoldable pub state_of : List Write → ℕ → OStream
state_of ws p = at (finally (opened 0) (ops_of ws)) p
