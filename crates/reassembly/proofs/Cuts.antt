-- A list of events whose pieces, cut into bytes, are a payload's, has that payload's pieces in order.
use Prim.Native.Nat.{ℕ, suc, ◌+◌}
use native.Mathlib.Omega.{arith}
use mathlib.Core.Path.{◌≡◌, refl, sym, ap, ◌∙◌, subst}
use mathlib.Core.List.{List, [], ◌∷◌, ◌++◌}
use lib.ListN.{length}
use Rattle.layout.specs.Field.{Raw}
use Rattle.layout.specs.Event.{Event, Unsigned, Signed, Float, Piece, Fixlen, Array, Begin, End, cut_from, cut_piece, cut, bytewise}
use Rattle.gathering.specs.Run.{joined, Split, one, more}
use Rattle.reassembly.specs.Pieces.{piece_events, NotPiece, Next}

-- ---- where an event that is no piece stands

pub record At (x : Event) (es : List Event) (pre post : List Event) : Type 0 where
  pub before : List Event
  pub after : List Event
  pub here : es ≡ before ++ (x ∷ after)
  pub pres : bytewise before ≡ pre
  pub posts : bytewise after ≡ post

-- the bytes of a piece stand before it
past_bytes : (id : ℕ) (r : Raw) (total o : ℕ) (bs : List ℕ) (x : Event) → NotPiece x → (rest pre post : List Event) → cut_from id r total o bs ++ rest ≡ pre ++ (x ∷ post)
    → (pre' : List Event) × (pre ≡ cut_from id r total o bs ++ pre') × (rest ≡ pre' ++ (x ∷ post))
unfolding cut_from
past_bytes id r total o [] x n rest pre post e = (pre, refl, e)
past_bytes id r total o (b ∷ bs) x n rest [] post e = let z : Piece id r total o (b ∷ []) ≡ x = cc in absurd (subst NotPiece (sym z) n)
past_bytes id r total o (b ∷ bs) x n rest (y ∷ pre) post e =
    let z : Piece id r total o (b ∷ []) ≡ y = cc in
    let t : cut_from id r total (suc o) bs ++ rest ≡ pre ++ (x ∷ post) = cc in
    let q = past_bytes id r total (suc o) bs x n rest pre post t in
    (q.0, ap (λ (l : List Event). y ∷ l) q.1 ∙ ap (λ (y : Event). y ∷ (cut_from id r total (suc o) bs ++ q.0)) (sym z), q.2)

-- one event before it
one_before : (x y : Event) (es pre post : List Event) → cut y ≡ y ∷ [] → NotPiece x → (y ∷ []) ++ bytewise es ≡ pre ++ (x ∷ post)
    → ((pre' : List Event) → bytewise es ≡ pre' ++ (x ∷ post) → At x es pre' post) → At x (y ∷ es) pre post
unfolding bytewise
one_before x y es [] post c n e go =
    let z : y ≡ x = cc in
    let t : bytewise es ≡ post = cc in
    record { before = []; after = es; here = ap (λ (y : Event). y ∷ es) z; pres = refl; posts = t }
one_before x y es (w ∷ pre) post c n e go =
    let z : y ≡ w = cc in
    let t : bytewise es ≡ pre ++ (x ∷ post) = cc in
    let h = go pre t in
    record {
      before = y ∷ h.before;
      after = h.after;
      here = ap (λ (l : List Event). y ∷ l) h.here;
      pres = ap (λ (l : List Event). l ++ bytewise h.before) c ∙ ap (λ (l : List Event). y ∷ l) h.pres ∙ ap (λ (y : Event). y ∷ pre) z;
      posts = h.posts;
    }

-- a piece before it
piece_before : (id : ℕ) (r : Raw) (total o b : ℕ) (bs : List ℕ) (x : Event) (es pre post : List Event) → NotPiece x → cut_from id r total o (b ∷ bs) ++ bytewise es ≡ pre ++ (x ∷ post)
    → ((pre' : List Event) → bytewise es ≡ pre' ++ (x ∷ post) → At x es pre' post) → At x (Piece id r total o (b ∷ bs) ∷ es) pre post
unfolding bytewise cut cut_piece
piece_before id r total o b bs x es pre post n e go =
    let q = past_bytes id r total o (b ∷ bs) x n (bytewise es) pre post e in
    let h = go q.0 q.2 in
    record {
      before = Piece id r total o (b ∷ bs) ∷ h.before;
      after = h.after;
      here = ap (λ (l : List Event). Piece id r total o (b ∷ bs) ∷ l) h.here;
      pres = ap (λ (l : List Event). cut_from id r total o (b ∷ bs) ++ l) h.pres ∙ sym q.1;
      posts = h.posts;
    }

pub found : (x : Event) (es pre post : List Event) → NotPiece x → bytewise es ≡ pre ++ (x ∷ post) → At x es pre post
unfolding bytewise cut cut_piece
found x [] [] post n e = absurd cc
found x [] (y ∷ pre) post n e = absurd cc
found x (Unsigned id v ∷ es) pre post n e = one_before x (Unsigned id v) es pre post refl n e (λ p t. found x es p post n t)
found x (Signed id z ∷ es) pre post n e = one_before x (Signed id z) es pre post refl n e (λ p t. found x es p post n t)
found x (Float id w v ∷ es) pre post n e = one_before x (Float id w v) es pre post refl n e (λ p t. found x es p post n t)
found x (Piece id r total o [] ∷ es) pre post n e = one_before x (Piece id r total o []) es pre post refl n e (λ p t. found x es p post n t)
found x (Piece id r total o (b ∷ bs) ∷ es) pre post n e = piece_before id r total o b bs x es pre post n e (λ p t. found x es p post n t)
found x (Fixlen id s total ∷ es) pre post n e = one_before x (Fixlen id s total) es pre post refl n e (λ p t. found x es p post n t)
found x (Array id k c ∷ es) pre post n e = one_before x (Array id k c) es pre post refl n e (λ p t. found x es p post n t)
found x (Begin id ∷ es) pre post n e = one_before x (Begin id) es pre post refl n e (λ p t. found x es p post n t)
found x (End ∷ es) pre post n e = one_before x End es pre post refl n e (λ p t. found x es p post n t)

-- ---- a payload's pieces

-- the first piece is a first part of the payload
first_part : (id : ℕ) (r : Raw) (total o : ℕ) (cs bs : List ℕ) (X post : List Event) → Next post → cut_from id r total o cs ++ X ≡ cut_from id r total o bs ++ post
    → (bs' : List ℕ) × (bs ≡ cs ++ bs') × (X ≡ cut_from id r total (o + length cs) bs' ++ post)
unfolding cut_from
first_part id r total o [] bs X post n e =
    let z : o ≡ o + 0 = omega arith in
    (bs, refl, e ∙ ap (λ (m : ℕ). cut_from id r total m bs ++ post) z)
first_part id r total o (c ∷ cs) [] X [] n e = absurd cc
first_part id r total o (c ∷ cs) [] X (y ∷ post) n e = let z : y ≡ Piece id r total o (c ∷ []) = cc in absurd (subst NotPiece z n)
first_part id r total o (c ∷ cs) (b ∷ bs) X post n e =
    let z : c ≡ b = cc in
    let t : cut_from id r total (suc o) cs ++ X ≡ cut_from id r total (suc o) bs ++ post = cc in
    let q = first_part id r total (suc o) cs bs X post n t in
    let m : suc o + length cs ≡ o + suc (length cs) = omega arith in
    (q.0, ap (λ (l : List ℕ). b ∷ l) q.1 ∙ ap (λ (x : ℕ). x ∷ (cs ++ q.0)) (sym z), q.2 ∙ ap (λ (m : ℕ). cut_from id r total m q.0 ++ post) m)

pub record Parted (id : ℕ) (r : Raw) (total o : ℕ) (bytes : List ℕ) (es post : List Event) : Type 0 where
  pub parts : List (List ℕ)
  pub some : Split parts
  pub whole : joined parts ≡ bytes
  pub after : List Event
  pub here : es ≡ piece_events id r total o parts ++ after
  pub posts : bytewise after ≡ post

-- the last piece, or one with others after it
by_rest : (id : ℕ) (r : Raw) (total o c : ℕ) (cs bs' : List ℕ) (es post : List Event) → bytewise es ≡ cut_from id r total (o + length (c ∷ cs)) bs' ++ post
    → ((b : ℕ) (bs : List ℕ) → bytewise es ≡ cut_from id r total (o + length (c ∷ cs)) (b ∷ bs) ++ post → Parted id r total (o + length (c ∷ cs)) (b ∷ bs) es post)
    → Parted id r total o ((c ∷ cs) ++ bs') (Piece id r total o (c ∷ cs) ∷ es) post
unfolding cut_from piece_events
by_rest id r total o c cs [] es post e go = record { parts = (c ∷ cs) ∷ []; some = one; whole = refl; after = es; here = refl; posts = e }
by_rest id r total o c cs (b ∷ bs) es post e go =
    let h = go b bs e in
    record {
      parts = (c ∷ cs) ∷ h.parts;
      some = more h.some;
      whole = ap (λ (l : List ℕ). (c ∷ cs) ++ l) h.whole;
      after = h.after;
      here = ap (λ (l : List Event). Piece id r total o (c ∷ cs) ∷ l) h.here;
      posts = h.posts;
    }

-- the first event is a piece of this payload
by_piece : (id id' : ℕ) (r r' : Raw) (total total' o o' b c : ℕ) (bs cs : List ℕ) (es post : List Event) → Next post
    → cut_from id' r' total' o' (c ∷ cs) ++ bytewise es ≡ cut_from id r total o (b ∷ bs) ++ post
    → ((m b : ℕ) (bs : List ℕ) → bytewise es ≡ cut_from id r total m (b ∷ bs) ++ post → Parted id r total m (b ∷ bs) es post)
    → Parted id r total o (b ∷ bs) (Piece id' r' total' o' (c ∷ cs) ∷ es) post
unfolding cut_from
by_piece id id' r r' total total' o o' b c bs cs es post n e go =
    let a : id' ≡ id = cc in
    let a₁ : r' ≡ r = cc in
    let a₂ : total' ≡ total = cc in
    let a₃ : o' ≡ o = cc in
    let same : Piece id r total o (c ∷ cs) ≡ Piece id' r' total' o' (c ∷ cs) = cc in
    let f : cut_from id r total o (c ∷ cs) ++ bytewise es ≡ cut_from id r total o (b ∷ bs) ++ post =
    ap (λ (i : ℕ). cut_from i r total o (c ∷ cs) ++ bytewise es) (sym a) ∙ ap (λ (q : Raw). cut_from id' q total o (c ∷ cs) ++ bytewise es) (sym a₁)
    ∙ ap (λ (m : ℕ). cut_from id' r' m o (c ∷ cs) ++ bytewise es) (sym a₂) ∙ ap (λ (m : ℕ). cut_from id' r' total' m (c ∷ cs) ++ bytewise es) (sym a₃) ∙ e in
    let q = first_part id r total o (c ∷ cs) (b ∷ bs) (bytewise es) post n f in
    subst (λ (l : List ℕ). Parted id r total o l (Piece id' r' total' o' (c ∷ cs) ∷ es) post) (sym q.1)
    (subst (λ (y : Event). Parted id r total o ((c ∷ cs) ++ q.0) (y ∷ es) post) same
    (by_rest id r total o c cs q.0 es post q.2 (λ b' bs' g. go (o + length (c ∷ cs)) b' bs' g)))

pub parted : (id : ℕ) (r : Raw) (total o b : ℕ) (bs : List ℕ) (es post : List Event) → Next post → bytewise es ≡ cut_from id r total o (b ∷ bs) ++ post → Parted id r total o (b ∷ bs) es post
unfolding bytewise cut cut_piece cut_from
parted id r total o b bs [] post n e = absurd cc
parted id r total o b bs (Unsigned i v ∷ es) post n e = absurd cc
parted id r total o b bs (Signed i z' ∷ es) post n e = absurd cc
parted id r total o b bs (Float i w v ∷ es) post n e = absurd cc
parted id r total o b bs (Piece i r' t o' [] ∷ es) post n e = absurd cc
parted id r total o b bs (Piece i r' t o' (c ∷ cs) ∷ es) post n e = by_piece id i r r' total t o o' b c bs cs es post n e (λ m b' bs' g. parted id r total m b' bs' es post n g)
parted id r total o b bs (Fixlen i s t ∷ es) post n e = absurd cc
parted id r total o b bs (Array i k c ∷ es) post n e = absurd cc
parted id r total o b bs (Begin i ∷ es) post n e = absurd cc
parted id r total o b bs (End ∷ es) post n e = absurd cc
