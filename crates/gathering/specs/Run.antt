-- A payload handed to the gatherer piece by piece, and what its caller is told at each piece, in 01's words and numbers.
-- Each call gets the state and the buffer that the last one left.
use Rattle.std.specs.Prelude.{ℕ, ◌+◌, ◌-◌, List, [], ◌∷◌, ◌++◌, length, replicate}
use Rattle.gathering.specs.Gather.{Gatherer, Said, nothing, in_chunk, in_buffer, number, Gathered, gathered, part_of}

-- What the two calls tell: "nothing yet", the whole payload, or a refusal by its number.
pub data Outcome : Type 0 where
  nothing_yet : Outcome
  whole : List ℕ → Outcome
  refused : ℕ → Outcome

-- What the first call said, with the part that the second returned.
abbrev pub outcome_of : Said → List ℕ → Outcome
outcome_of nothing part = nothing_yet
outcome_of (in_chunk n) part = whole part
outcome_of (in_buffer n) part = whole part
outcome_of (number k) part = refused k

-- "The second is given the first one's answer, the state, the buffer and the chunk."
abbrev pub told : Gathered → List ℕ → Outcome
told g chunk = outcome_of g.said (part_of g.said g.acc g.buf chunk)

-- What a piece brought: the outcome, and the buffer as it then is.
pub record Handed : Type 0 where
  pub outcome : Outcome
  pub buf : List ℕ

-- The pieces from an offset on, one call for each.
unfoldable pub handed : Gatherer → List ℕ → ℕ → ℕ → List (List ℕ) → List Handed
handed a b total offset [] = []
handed a b total offset (p ∷ ps) =
    let g = gathered a b total offset p in
    record { outcome = told g p; buf = g.buf } ∷ handed g.acc g.buf total (offset + length p) ps

abbrev pub outcomes : List Handed → List Outcome
outcomes [] = []
outcomes (h ∷ hs) = h.outcome ∷ outcomes hs

-- The payload that the pieces make.
abbrev pub joined : List (List ℕ) → List ℕ
joined [] = []
joined (p ∷ ps) = p ++ joined ps

-- One or more pieces, none of them empty.
pub data Split : List (List ℕ) → Type 0 where
  one : {x : ℕ} {p : List ℕ} → Split ((x ∷ p) ∷ [])
  more : {x : ℕ} {p : List ℕ} {ps : List (List ℕ)} → Split ps → Split ((x ∷ p) ∷ ps)

-- The pieces of a payload: the one empty piece of an empty payload, or pieces of which none is empty.
pub data Pieces : List (List ℕ) → Type 0 where
  empty : Pieces ([] ∷ [])
  split : {ps : List (List ℕ)} → Split ps → Pieces ps

-- A payload handed from its start.
abbrev pub handed_whole : Gatherer → List ℕ → List (List ℕ) → List Handed
handed_whole a b ps = handed a b (length (joined ps)) 0 ps

-- "Nothing yet" before the last of k pieces, and the payload at the last.
abbrev pub at_last : ℕ → List ℕ → List Outcome
at_last k payload = replicate (k - 1) nothing_yet ++ (whole payload ∷ [])
