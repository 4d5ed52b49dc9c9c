-- Reader and gatherer: for every cut of a message, the pieces that the reader gives of a payload bring that payload whole.
use Prim.Native.Nat.{ℕ, ◌<◌, ◌≤◌}
use mathlib.Core.Path.{◌≡◌, refl, sym, ap, ◌∙◌, subst}
use mathlib.Core.Bool.{true}
use mathlib.Core.List.{List, [], ◌∷◌, ◌++◌}
use lib.ListN.{length, replicate}
use Rattle.layout.specs.Limits.{Limits}
use Rattle.layout.specs.Field.{Raw, raw}
use Rattle.layout.specs.Event.{Event, Unsigned, Signed, Float, Piece, Fixlen, Array, Begin, End, cut_from, cut_piece, cut, bytewise}
use Rattle.layout.specs.Message.{events_of}
use Rattle.machine.specs.Calls.{fresh}
use Rattle.machine.specs.Run.{chunks, join}
use Rattle.machine.proofs.Runs.{reads}
use Rattle.gathering.specs.Gather.{Gatherer, sound}
use Rattle.gathering.specs.Run.{joined, Pieces, empty, split, refused, outcomes, handed_whole, at_last}
use Rattle.gathering.proofs.Whole.{whole-at_last, too_long_throughout}
use Rattle.reassembly.specs.Pieces.{piece_events, Next}
use Rattle.reassembly.proofs.Cuts.{found, parted}

-- the pieces of a payload in a list of events, and what is after them
record Held (id : ℕ) (r : Raw) (bytes : List ℕ) (es post : List Event) : Type 0 where
  parts : List (List ℕ)
  pieces : Pieces parts
  whole : joined parts ≡ bytes
  after : List Event
  here : es ≡ piece_events id r (length bytes) 0 parts ++ after
  posts : bytewise after ≡ post

-- an empty payload's one piece
empty-piece : (id : ℕ) (r : Raw) (es post : List Event) → bytewise es ≡ Piece id r 0 0 [] ∷ post → Held id r [] es post
unfolding bytewise cut cut_piece cut_from piece_events
empty-piece id r [] post e = absurd cc
empty-piece id r (Unsigned i v ∷ es) post e = absurd cc
empty-piece id r (Signed i z' ∷ es) post e = absurd cc
empty-piece id r (Float i w v ∷ es) post e = absurd cc
empty-piece id r (Piece i r' t o' [] ∷ es) post e =
    let same : Piece i r' t o' [] ≡ Piece id r 0 0 [] = cc in
    let rest : bytewise es ≡ post = cc in
    record { parts = [] ∷ []; pieces = empty; whole = refl; after = es; here = ap (λ (y : Event). y ∷ es) same; posts = rest }
empty-piece id r (Piece i r' t o' (c ∷ cs) ∷ es) post e = absurd cc
empty-piece id r (Fixlen i s t ∷ es) post e = absurd cc
empty-piece id r (Array i k c ∷ es) post e = absurd cc
empty-piece id r (Begin i ∷ es) post e = absurd cc
empty-piece id r (End ∷ es) post e = absurd cc

held : (id : ℕ) (r : Raw) (bytes : List ℕ) (es post : List Event) → Next post → bytewise es ≡ cut_piece id r (length bytes) 0 bytes ++ post → Held id r bytes es post
unfolding cut_piece
held id r [] es post n e = empty-piece id r es post e
held id r (b ∷ bs) es post n e =
    let h = parted id r (length (b ∷ bs)) 0 b bs es post n e in
    record { parts = h.parts; pieces = split h.some; whole = h.whole; after = h.after; here = h.here; posts = h.posts }

-- What the reader gives of a payload, and what a gatherer makes of it: after its announcement its pieces in order, none empty but an empty
-- payload's; handed to a gatherer in any state over a buffer as long as the payload they bring "nothing yet" before the last and the
-- payload at the last, and over a shorter one number 4 at each, the buffer unaltered.
pub record Gathers (es : List Event) (id : ℕ) (r : Raw) (bytes : List ℕ) (pre post : List Event) : Type 0 where
  pub parts : List (List ℕ)
  pub pieces : Pieces parts
  pub joins : joined parts ≡ bytes
  pub before : List Event
  pub after : List Event
  pub given : es ≡ before ++ (Fixlen id (raw r) (length bytes) ∷ (piece_events id r (length bytes) 0 parts ++ after))
  pub earlier : bytewise before ≡ pre
  pub later : bytewise after ≡ post
  pub brought : (a : Gatherer) (b : List ℕ) → sound a b ≡ true → length bytes ≤ length b → outcomes (handed_whole a b parts) ≡ at_last (length parts) bytes
  pub too_long : (a : Gatherer) (b : List ℕ) → sound a b ≡ true → length b < length bytes → handed_whole a b parts ≡ replicate (length parts) (record { outcome = refused 4; buf = b })

-- For every list of chunks, and every payload among the layout's events of the bytes that they join to.
pub gathers : (L : Limits) (cs : List (List ℕ)) (id : ℕ) (r : Raw) (bytes : List ℕ) (pre post : List Event) → Next post
    → events_of L (join cs) ≡ pre ++ (Fixlen id (raw r) (length bytes) ∷ (cut_piece id r (length bytes) 0 bytes ++ post))
    → Gathers (chunks L fresh 0 cs).events id r bytes pre post
gathers L cs id r bytes pre post n e =
    let a = found (Fixlen id (raw r) (length bytes)) (chunks L fresh 0 cs).events pre (cut_piece id r (length bytes) 0 bytes ++ post) tt ((reads L cs).0 ∙ e) in
    let h = held id r bytes a.after post n a.posts in
    record {
      parts = h.parts;
      pieces = h.pieces;
      joins = h.whole;
      before = a.before;
      after = h.after;
      given = a.here ∙ ap (λ (l : List Event). a.before ++ (Fixlen id (raw r) (length bytes) ∷ l)) h.here;
      earlier = a.pres;
      later = h.posts;
      brought =
          λ g b s l. whole-at_last g b h.parts h.pieces s (subst (λ (x : List ℕ). length x ≤ length b) (sym h.whole) l)
          ∙ ap (at_last (length h.parts)) h.whole;
      too_long = λ g b s l. too_long_throughout g b h.parts s (subst (λ (x : List ℕ). length b < length x) (sym h.whole) l);
    }
