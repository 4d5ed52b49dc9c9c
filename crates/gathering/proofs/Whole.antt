-- The gatherer over whole payloads. `whole-at_last`: in a buffer long enough, "nothing yet" before the last piece, and the payload at the last.
-- `too_long_throughout`: in a shorter one, number 4 at each piece and the buffer unaltered.
use Prim.Native.Nat.{ℕ, suc, ◌+◌, ◌-◌, ◌≤◌, ◌<◌}
use mathlib.Core.Path.{◌≡◌, refl, sym, ap, ◌∙◌}
use mathlib.Core.Bool.{Bool, true, false, cond, ◌&&◌}
use mathlib.Core.List.{List, [], ◌∷◌, ◌++◌, append_assoc, append-nil}
use native.Mathlib.Omega.{arith}
use lib.Dec.{eqb, leb}
use lib.ListN.{length, take, replicate, length-append}
use lib.Seq.{paste, length-paste, take-paste, take-length}
use borrow.Author.Tests.{lt-ltb, le-ltb, le-leb, lt-leb, ne_eqb, leb-true}
use Rattle.gathering.specs.Gather.{Gatherer, nothing, in_chunk, in_buffer, number, Gathered, sound, fresh, begun, untouched, owed, copied, accepted, gathered}
use Rattle.gathering.specs.Run.{Outcome, nothing_yet, whole, refused, told, Handed, handed, outcomes, joined, Split, one, more, Pieces, empty, split, handed_whole, at_last}
use Rattle.gathering.proofs.Cases.{in_order, next}

-- ---- a run, with what its first call leaves

module _ (a : Gatherer) (b : List ℕ) (total offset : ℕ) (p : List ℕ) (ps : List (List ℕ)) (g : Gathered) where
  first_call : gathered a b total offset p ≡ g
      → handed a b total offset (p ∷ ps) ≡ record { outcome = told g p; buf = g.buf } ∷ handed g.acc g.buf total (offset + length p) ps
  unfolding handed
  first_call e = ap (λ (x : Gathered). record { outcome = told x p; buf = x.buf } ∷ handed x.acc x.buf total (offset + length p) ps) e

  first_outcome : {o : Outcome} {os : List Outcome} → gathered a b total offset p ≡ g → told g p ≡ o
      → outcomes (handed g.acc g.buf total (offset + length p) ps) ≡ os → outcomes (handed a b total offset (p ∷ ps)) ≡ o ∷ os
  first_outcome {o} {os} e t r = ap outcomes (first_call e) ∙ ap (λ (x : Outcome). x ∷ outcomes (handed g.acc g.buf total (offset + length p) ps)) t ∙ ap (λ (l : List Outcome). o ∷ l) r

-- ---- n bytes held of a payload that is not whole

abbrev holding : ℕ → Gatherer
holding n = record { len = n; complete = false }

-- a piece that is not the last, and the last one
abbrev grown : List ℕ → ℕ → List ℕ → Gathered
grown b n p = record { said = nothing; acc = holding (n + length p); buf = paste b n p (length p) }

abbrev ended : List ℕ → ℕ → List ℕ → ℕ → Gathered
ended b n p total = record { said = in_buffer total; acc = record { len = n + length p; complete = true }; buf = paste b n p (length p) }

module _ (b : List ℕ) (n total : ℕ) (p : List ℕ) where
  taken : n + length p ≤ total → owed n total (length p) ≡ length p
  taken h = omega arith

  copied_more : n + length p < total → copied (holding n) b total p ≡ grown b n p
  unfolding copied
  copied_more h = let e : owed n total (length p) ≡ length p = taken (omega arith) in simp (e, lt-leb _ _ h)

  copied_last : n + length p ≡ total → copied (holding n) b total p ≡ ended b n p total
  unfolding copied
  copied_last h = let e : owed n total (length p) ≡ length p = taken (omega arith) in let l : total ≤ n + length p = omega arith in simp (e, le-leb _ _ l)

  -- a piece at the offset that the state holds
  module _ (pos : 0 < n) (fits : total ≤ length b) (short : n ≤ total) where
    later : gathered (holding n) b total n p ≡ copied (holding n) b total p
    later =
        let z : eqb n 0 ≡ false = ne_eqb n 0 (λ e. omega arith) in
        in_order (holding n) b total n p (omega arith)
        ∙ ap (λ (t : Bool). accepted (cond t fresh (holding n)) b total n p) z
        ∙ next (holding n) b total n p refl fits (ap (λ (t : Bool). t && leb total (length p)) z) refl

-- what the second call returns of the buffer after the last piece
last_part : (b done p : List ℕ) (n total : ℕ) → take n b ≡ done → n + length p ≡ total → total ≤ length b → told (ended b n p total) p ≡ whole (done ++ p)
last_part b done p n total d e h =
    let hn : n ≤ length b = omega arith in
    let l : length (paste b n p (length p)) ≡ length b = length-paste b n p (length p) (omega arith) (omega arith) in
    let s : n + length p ≤ length (paste b n p (length p)) = omega arith in
    let f : total ≤ length (paste b n p (length p)) = omega arith in
    let t : take total (paste b n p (length p)) ≡ done ++ p =
    ap (λ (k : ℕ). take k (paste b n p (length p))) (sym e) ∙ take-paste b n p (length p) hn (omega arith) ∙ ap (λ (x : List ℕ). x ++ take (length p) p) d ∙ ap (λ (x : List ℕ). done ++ x) (take-length p) in
    simp (le-leb _ _ s, le-leb _ _ f, t)

-- ---- the pieces

some : {ps : List (List ℕ)} → Split ps → 0 < length (joined ps)
some one = omega arith
some (more s) = omega arith

any : {ps : List (List ℕ)} → Split ps → 0 < length ps
any one = omega arith
any (more s) = omega arith

-- one piece more is one "nothing yet" more
await : (payload : List ℕ) {ps : List (List ℕ)} → Split ps → nothing_yet ∷ at_last (length ps) payload ≡ at_last (suc (length ps)) payload
await payload {ps} s =
    let h : 0 < length ps = any s in
    let e : suc (length ps - 1) ≡ suc (length ps) - 1 = omega arith in
    ap (λ (i : ℕ). replicate i nothing_yet ++ (whole payload ∷ [])) e

-- the rest of a payload of which n bytes, `done`, are held
going : (b done : List ℕ) (n total : ℕ) {ps : List (List ℕ)} → Split ps → 0 < n → length done ≡ n → take n b ≡ done → n + length (joined ps) ≡ total → total ≤ length b
    → outcomes (handed (holding n) b total n ps) ≡ at_last (length ps) (done ++ joined ps)
unfolding handed
going b done n total (one {x} {p}) pos l d e h =
    let q : List ℕ = x ∷ p in
    let j : q ++ [] ≡ q = append-nil q in
    let k : n + length q ≡ total = ap (λ (y : List ℕ). n + length y) (sym j) ∙ e in
    first_outcome (holding n) b total n q [] (ended b n q total) (later b n total q pos h (omega arith) ∙ copied_last b n total q k) (last_part b done q n total d k h ∙ ap (λ (y : List ℕ). whole (done ++ y)) (sym j)) refl
going b done n total (more {x} {p} {ps} s) pos l d e h =
    let q : List ℕ = x ∷ p in
    let r : 0 < length (joined ps) = some s in
    let k : n + length q + length (joined ps) ≡ total = omega (arith, length-append q (joined ps)) in
    let b' : List ℕ = paste b n q (length q) in
    let m : length b' ≡ length b = length-paste b n q (length q) (omega arith) (omega arith) in
    let d' : take (n + length q) b' ≡ done ++ q = take-paste b n q (length q) (omega arith) (omega arith) ∙ ap (λ (y : List ℕ). y ++ take (length q) q) d ∙ ap (λ (y : List ℕ). done ++ y) (take-length q) in
    let l' : length (done ++ q) ≡ n + length q = length-append done q ∙ ap (λ (i : ℕ). i + length q) l in
    first_outcome (holding n) b total n q ps (grown b n q) (later b n total q pos h (omega arith) ∙ copied_more b n total q (omega arith)) refl (going b' (done ++ q) (n + length q) total s (omega arith) l' d' k (omega arith))
    ∙ await (done ++ q ++ joined ps) s
    ∙ ap (λ (y : List ℕ). at_last (suc (length ps)) y) (append_assoc done q (joined ps))

-- ---- the first piece, in any sound state

module _ (a : Gatherer) (b : List ℕ) (total : ℕ) (p : List ℕ) (s : sound a b ≡ true) (fits : total ≤ length b) where
  starts : gathered a b total 0 p ≡ accepted fresh b total 0 p
  starts = in_order a b total 0 p (leb-true _ _ s)

  starts_whole : total ≤ length p → gathered a b total 0 p ≡ untouched (in_chunk total) (record { len = 0; complete = true }) b
  unfolding accepted
  starts_whole h = starts ∙ simp (le-ltb _ _ fits, le-leb _ _ h)

  starts_split : length p < total → gathered a b total 0 p ≡ copied fresh b total p
  starts_split h = starts ∙ next fresh b total 0 p refl fits (lt-leb _ _ h) refl

-- a payload whole in its one chunk
holds_whole-told : (b p w : List ℕ) → w ≡ p → told (untouched (in_chunk (length w)) (record { len = 0; complete = true }) b) p ≡ whole w
holds_whole-told b p w e =
    let s : 0 ≤ length b = omega arith in
    let f : length p ≤ length p = omega arith in
    ap (λ (y : List ℕ). told (untouched (in_chunk (length y)) (record { len = 0; complete = true }) b) p) e ∙ simp (le-leb _ _ s, le-leb _ _ f, take-length p, e)

-- The pieces of one payload, in order, to a gatherer in any sound state, over any buffer that is long enough.
pub whole-at_last : (a : Gatherer) (b : List ℕ) (ps : List (List ℕ)) → Pieces ps → sound a b ≡ true → length (joined ps) ≤ length b
    → outcomes (handed_whole a b ps) ≡ at_last (length ps) (joined ps)
unfolding handed
whole-at_last a b ps empty s h = first_outcome a b 0 0 [] [] _ (starts_whole a b 0 [] s h (omega arith)) (holds_whole-told b [] [] refl) refl
whole-at_last a b ps (split (one {x} {p})) s h =
    let q : List ℕ = x ∷ p in
    let j : q ++ [] ≡ q = append-nil q in
    let k : length (q ++ []) ≡ length q = ap length j in
    first_outcome a b (length (q ++ [])) 0 q [] _ (starts_whole a b (length (q ++ [])) q s h (omega arith)) (holds_whole-told b q (q ++ []) j) refl
whole-at_last a b ps (split (more {x} {p} {ps = rest} t)) s h =
    let q : List ℕ = x ∷ p in
    let total : ℕ = length (q ++ joined rest) in
    let r : 0 < length (joined rest) = some t in
    let k : length q + length (joined rest) ≡ total = sym (length-append q (joined rest)) in
    let b' : List ℕ = paste b 0 q (length q) in
    let m : length b' ≡ length b = length-paste b 0 q (length q) (omega arith) (omega arith) in
    let d : take (0 + length q) b' ≡ q = take-paste b 0 q (length q) (omega arith) (omega arith) ∙ take-length q in
    first_outcome a b total 0 q rest (grown b 0 q) (starts_split a b total q s h (omega arith) ∙ copied_more b 0 total q (omega arith)) refl (going b' q (0 + length q) total t (omega arith) (omega arith) d (omega arith) (omega arith))
    ∙ await (q ++ joined rest) t

-- ---- a payload longer than the buffer

abbrev refused_over : List ℕ → Handed
refused_over b = record { outcome = refused 4; buf = b }

-- a state that has forgotten, at any offset
still-fresh : (offset : ℕ) → begun fresh offset ≡ fresh
still-fresh offset = go (eqb offset 0)
  where
    go : (t : Bool) → cond t fresh fresh ≡ fresh
    go true = refl
    go false = refl

too_long : (b : List ℕ) (total offset : ℕ) (p : List ℕ) → length b < total → accepted fresh b total offset p ≡ untouched (number 4) fresh b
unfolding accepted
too_long b total offset p h = simp (lt-ltb _ _ h)

all_refused : (b : List ℕ) (total offset : ℕ) (ps : List (List ℕ)) → length b < total → handed fresh b total offset ps ≡ replicate (length ps) (refused_over b)
unfolding handed
all_refused b total offset [] h = refl
all_refused b total offset (p ∷ ps) h =
    let e : gathered fresh b total offset p ≡ untouched (number 4) fresh b =
    in_order fresh b total offset p (omega arith) ∙ ap (λ (a : Gatherer). accepted a b total offset p) (still-fresh offset) ∙ too_long b total offset p h in
    first_call fresh b total offset p ps _ e ∙ ap (λ (l : List Handed). refused_over b ∷ l) (all_refused b total (offset + length p) ps h)

-- The pieces of one payload, in order, to a gatherer in any sound state, over a buffer that is shorter than the payload.
pub too_long_throughout : (a : Gatherer) (b : List ℕ) (ps : List (List ℕ)) → sound a b ≡ true → length b < length (joined ps)
    → handed_whole a b ps ≡ replicate (length ps) (record { outcome = refused 4; buf = b })
unfolding handed
too_long_throughout a b [] s h = refl
too_long_throughout a b (p ∷ ps) s h =
    let total : ℕ = length (p ++ joined ps) in
    let e : gathered a b total 0 p ≡ untouched (number 4) fresh b = in_order a b total 0 p (leb-true _ _ s) ∙ too_long b total 0 p h in
    first_call a b total 0 p ps _ e ∙ ap (λ (l : List Handed). refused_over b ∷ l) (all_refused b total (0 + length p) ps h)
