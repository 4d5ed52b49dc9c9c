-- The events of a message, in ten sorts: unsigned, signed, fp32, fp64, string piece, blob piece, the announcements of a fixed-length
-- field and of an array, open (`Begin`) and close (`End`). Floats go by their bits.
use Rattle.std.specs.Prelude.{ℕ, suc, ◌+◌, Bool, true, false, ◌&&◌, List, [], ◌∷◌, ◌++◌, length, eqb, ℤ}
use Rattle.layout.specs.Limits.{pick}
use Rattle.layout.specs.Field.{Width, Raw, string, blob, Subtype, Kind}

pub data Event : Type 0 where
  Unsigned : (id n : ℕ) → Event
  Signed : (id : ℕ) (z : ℤ) → Event
  Float : (id : ℕ) (w : Width) (bits : ℕ) → Event
  Piece : (id : ℕ) (r : Raw) (total offset : ℕ) (bytes : List ℕ) → Event
  Fixlen : (id : ℕ) (s : Subtype) (total : ℕ) → Event
  Array : (id : ℕ) (k : Kind) (count : ℕ) → Event
  Begin : (id : ℕ) → Event
  End : Event

-- ---- pieces joined

-- the bytes that an event brings of a payload, b and then bs, or none
pub data Part : Type 0 where
  part : (id : ℕ) (r : Raw) (total offset b : ℕ) (bs : List ℕ) → Part
  none : Part

unfoldable pub part_of : Event → Part
part_of (Unsigned id n) = none
part_of (Signed id z) = none
part_of (Float id w x) = none
part_of (Piece id r total o []) = none
part_of (Piece id r total o (b ∷ bs)) = part id r total o b bs
part_of (Fixlen id s total) = none
part_of (Array id k n) = none
part_of (Begin id) = none
part_of End = none

abbrev pub same_raw : Raw → Raw → Bool
same_raw string string = true
same_raw string blob = false
same_raw blob string = false
same_raw blob blob = true

-- Two parts in a row are of one payload where id, sort and total are the same and the second begins where the first ended.
unfoldable pub goes_on : Part → Part → Bool
goes_on none q = false
goes_on (part id r total o b bs) none = false
goes_on (part id r total o b bs) (part id' r' total' o' b' bs') = eqb id id' && (same_raw r r' && (eqb total total' && eqb (o + length (b ∷ bs)) o'))

-- "Each payload's pieces joined": two pieces of one payload become one, with their bytes appended. An empty payload's piece stays, and so
-- does every other event.
unfoldable pub join_two : Part → Part → Event → Event → List Event → List Event
join_two none q e f es = e ∷ f ∷ es
join_two (part id r total o b bs) none e f es = e ∷ f ∷ es
join_two (part id r total o b bs) (part id' r' total' o' b' bs') e f es =
    pick (goes_on (part id r total o b bs) (part id' r' total' o' b' bs')) (Piece id r total o (b ∷ bs ++ (b' ∷ bs')) ∷ es) (e ∷ f ∷ es)

-- an event before events whose pieces are joined
unfoldable pub join_to : Event → List Event → List Event
join_to e [] = e ∷ []
join_to e (f ∷ es) = join_two (part_of e) (part_of f) e f es

unfoldable pub joined : List Event → List Event
joined [] = []
joined (e ∷ es) = join_to e (joined es)

-- ---- pieces cut

-- The other way round, each piece is cut into single bytes, which are the same for every cut: what the layout's own events (`events_of`)
-- are as they stand, and easier to reason with. Two lists have the same events with their pieces joined exactly when they are equal
-- bytewise (proofs/Joined). An empty piece stays here too.
unfoldable pub cut_from : ℕ → Raw → ℕ → ℕ → List ℕ → List Event
cut_from id r total o [] = []
cut_from id r total o (b ∷ bs) = Piece id r total o (b ∷ []) ∷ cut_from id r total (suc o) bs

unfoldable pub cut_piece : ℕ → Raw → ℕ → ℕ → List ℕ → List Event
cut_piece id r total o [] = Piece id r total o [] ∷ []
cut_piece id r total o (b ∷ bs) = cut_from id r total o (b ∷ bs)

unfoldable pub cut : Event → List Event
cut (Unsigned id n) = Unsigned id n ∷ []
cut (Signed id z) = Signed id z ∷ []
cut (Float id w x) = Float id w x ∷ []
cut (Piece id r total o bs) = cut_piece id r total o bs
cut (Fixlen id s total) = Fixlen id s total ∷ []
cut (Array id k n) = Array id k n ∷ []
cut (Begin id) = Begin id ∷ []
cut End = End ∷ []

unfoldable pub bytewise : List Event → List Event
bytewise [] = []
bytewise (e ∷ es) = cut e ++ bytewise es
