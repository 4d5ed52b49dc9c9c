-- The events of one payload's pieces, in order from an offset on, and events that are no piece.
use Rattle.std.specs.Prelude.{ℕ, ◌+◌, List, [], ◌∷◌, length}
use Rattle.layout.specs.Field.{Raw}
use Rattle.layout.specs.Event.{Event, Unsigned, Signed, Float, Piece, Fixlen, Array, Begin, End}

unfoldable pub piece_events : ℕ → Raw → ℕ → ℕ → List (List ℕ) → List Event
piece_events id r total o [] = []
piece_events id r total o (p ∷ ps) = Piece id r total o p ∷ piece_events id r total (o + length p) ps

abbrev pub NotPiece : Event → Type 0
NotPiece (Unsigned id n) = Unit {0}
NotPiece (Signed id z) = Unit {0}
NotPiece (Float id w x) = Unit {0}
NotPiece (Piece id r total o bs) = ⊥
NotPiece (Fixlen id s total) = Unit {0}
NotPiece (Array id k n) = Unit {0}
NotPiece (Begin id) = Unit {0}
NotPiece End = Unit {0}

-- what comes after a payload: the end, or another field
abbrev pub Next : List Event → Type 0
Next [] = Unit {0}
Next (e ∷ es) = NotPiece e
